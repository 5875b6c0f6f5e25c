use Rattle.std.proofs.Common.{Some, ap, ◌∙◌}
use Rattle.std.proofs.lemmas.Result.{on_ok_weaker}
use Rattle.page_core.specs.Stored.{stored_pages}
use Rattle.page_core.proofs.Shown.{patched_whole}
use Rattle.page_core.proofs.page_map.PageMap.put_page.Goals as goal

pub returns-clause-put : goal.returns-clause-put
returns-clause-put c =
    on_ok_weaker c.overwrite.result
    (λ put. put ∙ ap Some (rw c.bytes.ensures.value (patched_whole (stored_pages c.args.self.now c.args.page) c.args.content.now c.overwrite.ensures.length c.bytes.ensures.page.0)))
    c.overwrite.ensures.put
