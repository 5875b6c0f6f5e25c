use Rattle.std.proofs.Common.{◌*◌, sym, ap, ◌∙◌}
use Rattle.page_core.specs.Memory.{pages_of}
use Rattle.host_calls.specs.Foots.{with_pages}
use Rattle.rv_step.proofs.Looks.{no_ranges, one_range, two_ranges, with_both}
use Rattle.rv_step.proofs.looking.add_call.Goals as goal

pub returns-in-Halt : goal.returns-in-Halt
returns-in-Halt c = rw c.in-Halt.is (ap (with_pages c.args.foot.now) (sym no_ranges))

pub returns-in-Read : goal.returns-in-Read
returns-in-Read c =
    rw c.in-Read.is
    (c.add_range.ensures.value ∙ ap (with_pages c.args.foot.now) (sym (one_range c.in-Read.pointer (4 * c.in-Read.count))))

pub returns-in-Commit : goal.returns-in-Commit
returns-in-Commit c =
    rw c.in-Commit.is
    (c.add_range-in-Commit.ensures.value ∙ ap (with_pages c.args.foot.now) (sym (one_range c.in-Commit.pointer c.in-Commit.count)))

pub returns-in-Assume : goal.returns-in-Assume
returns-in-Assume c =
    rw c.in-Assume.is
    (c.add_range-in-Assume-2.ensures.value
    ∙ ap (λ foot. with_pages foot (pages_of c.in-Assume.image 32)) c.add_range-in-Assume.ensures.value
    ∙ sym (with_both c.args.foot.now (pages_of c.in-Assume.image 32) (pages_of c.in-Assume.journal 32))
    ∙ ap (with_pages c.args.foot.now) (sym (two_ranges c.in-Assume.image c.in-Assume.journal 32)))
