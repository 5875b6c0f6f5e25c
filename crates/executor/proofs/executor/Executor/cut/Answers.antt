use Rattle.std.proofs.Common.{◌≤◌, ℕ, List, Some, length, drop, sym, ap, ap₂, ◌∙◌, subst, arith}
use Rattle.page_core.specs.Pages.{ArePages}
use Rattle.page_core.specs.Stored.{Stored, stored_pages}
use Rattle.executor.specs.Cutting.{Beginning, Cutting, Cut, AreOpened, seal_of}
use Rattle.executor.proofs.Sealed.{opened_pages, opened_canonical, read_within, seal_next, is_cut}
use Rattle.executor.proofs.executor.Executor.cut.Goals as goal

pub split_at-requires : goal.split_at-requires
split_at-requires g c =
    let low = read_within _ c.self.invariant (omega (arith, c.requires.some, ap (λ (x : Cutting). x.steps) c.self.view_is)) in
    omega (arith, low, ap (λ (b : Beginning). b.read) c.beginning.view_is, ap length c.read.ensures)

pub invariant_of-cut : goal.invariant_of-cut
invariant_of-cut g c =
    let some : 1 ≤ c.self.inside.steps = omega (arith, c.requires.some, ap (λ (x : Cutting). x.steps) c.self.view_is) in
    let pages_are = c.in_ok-copied-2.ensures.items ∙ c.pages.ensures.value in
    let opened = subst AreOpened (sym pages_are) (opened_pages _ c.self.invariant some) in
    let memory = subst (λ (t : Stored). ArePages (stored_pages t)) (sym c.in_ok-share.ensures.same) c.in_ok-share.ensures.pages in (
      is_cut g.D.Digester.digest_of _ some _ c.in_ok-copied.field-0.items c.in_ok-share.field-0 c.in_ok-copied-2.field-0.items
          (ap (λ (b : Beginning). b.pc) c.beginning.view_is)
          (c.in_ok-copied.ensures.items ∙ c.split_at.ensures.back ∙ ap₂ (λ (n : ℕ) (ws : List ℕ). drop n ws) (ap (λ (b : Beginning). b.read) c.beginning.view_is) c.read.ensures)
          (c.in_ok-share.ensures.same ∙ ap (λ (b : Beginning). b.tree) c.beginning.view_is) pages_are
          c.self.invariant c.in_ok-copied.ensures.are_words (opened_canonical g.D.Digester.digest_of g.D.Digester.is_digest (stored_pages c.in_ok-share.field-0) memory c.in_ok-copied-2.field-0.items opened),
      opened,
    )

pub returns-in-Ok-clause-seal : goal.returns-in-Ok-clause-seal
returns-in-Ok-clause-seal g c image words stands =
    let is = c.self.view_is in
    let at : Beginning = c.self.inside.beginning in
    seal_next g.D.Digester.digest_of c.args.self.now c.requires.some at.pc c.in_ok-copied.field-0.items c.in_ok-share.field-0 c.in_ok-copied-2.field-0.items
    (ap (λ (x : Cutting). x.beginning.pc) is)
    (c.in_ok-copied.ensures.items ∙ c.split_at.ensures.back ∙ ap₂ (λ (n : ℕ) (ws : List ℕ). drop n ws) (ap (λ (b : Beginning). b.read) c.beginning.view_is ∙ ap (λ (x : Cutting). x.beginning.read) is) (c.read.ensures ∙ ap (λ (x : Cutting). x.going.read) is))
    (c.in_ok-share.ensures.same ∙ ap (λ (b : Beginning). b.tree) c.beginning.view_is ∙ ap (λ (x : Cutting). x.beginning.tree) is)
    (c.in_ok-copied-2.ensures.items ∙ c.pages.ensures.value ∙ ap (λ (x : Cutting). x.meter.touched) is)
    image words stands (c.requires.whole image words stands)
    ∙ ap₂ (λ (pc n : ℕ). Some (seal_of g.D.Digester.digest_of pc n c.in_ok-copied.field-0.items c.in_ok-share.field-0 c.in_ok-copied-2.field-0.items)) (ap (λ (b : Beginning). b.pc) (sym c.beginning.view_is)) (ap (λ (x : Cutting). x.steps) (sym is))
    ∙ ap (λ (x : Cut). Some x.seal) (sym c.in-Ok.ensures.ok)
