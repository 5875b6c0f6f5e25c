use Rattle.std.proofs.Common.{Some, None, ap, ◌∙◌}
use Rattle.page_core.proofs.Numbered.{seen_found}
use Rattle.page_core.proofs.page_map.PageMap.page.Goals as goal

pub returns-in-Some : goal.returns-in-Some
returns-in-Some c =
    ap Some c.deref.ensures ∙ seen_found _ c.self.inside.pages.entries c.args.self.now c.args.page (Some c.in-Some.content.now) c.self.view_is c.in-Some.ensures.value

pub returns-in-None : goal.returns-in-None
returns-in-None c = seen_found _ c.self.inside.pages.entries c.args.self.now c.args.page None c.self.view_is c.in-None.ensures.value
