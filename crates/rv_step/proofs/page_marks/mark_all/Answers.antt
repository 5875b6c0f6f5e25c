use Rattle.std.proofs.Common.{◌∙◌, false, get_or, length, length-set, true, ap, arith}
use Rattle.rv_step.proofs.Marks.{mark_on}
use Rattle.rv_step.proofs.page_marks.mark_all.Goals as goal

pub loop-page-preserved : goal.loop-page-preserved
loop-page-preserved c =
    let (size, before) = c.loop-page.invariant in
    let place = get_or c.args.pages.now c.loop-page.page-index 0 in (
      ap length c.mark_one.ensures ∙ length-set c.loop-page.marks place true ∙ size,
      λ p within.
          ap (λ marks. get_or marks p false) c.mark_one.ensures
          ∙ mark_on c.args.marks.now c.loop-page.marks c.args.pages.now c.loop-page.page-index p (omega (arith, size, within)) (omega arith) (before p within),
    )
