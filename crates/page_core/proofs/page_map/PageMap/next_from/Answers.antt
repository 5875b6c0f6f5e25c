use Rattle.std.proofs.Common.{[], ◌∷◌}
use Rattle.page_core.proofs.Numbered.{first_found}
use Rattle.page_core.proofs.page_map.PageMap.next_from.Goals as goal

pub returns-in-Some-clause-found : goal.returns-in-Some-clause-found
returns-in-Some-clause-found c =
    rw c.deref.ensures (first_found _ c.self.inside.pages.entries c.range.result ((c.in-Some.number.now, c.in-Some.page.now) ∷ c.next.new.self) c.args.self.now c.args.least
    c.self.view_is (c.range.ensures.between tt) c.in-Some.ensures.steps)

pub returns-in-None-clause-found : goal.returns-in-None-clause-found
returns-in-None-clause-found c =
    first_found _ c.self.inside.pages.entries c.range.result [] c.args.self.now c.args.least c.self.view_is (c.range.ensures.between tt) c.in-None.ensures.steps.0
