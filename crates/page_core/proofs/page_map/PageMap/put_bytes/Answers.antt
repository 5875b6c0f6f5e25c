use Rattle.std.proofs.Common.{List, ℕ, Option, ap}
use Rattle.std.specs.Prelude.{unwrap_or}
use Rattle.std.proofs.lemmas.Result.{on_ok_weaker}
use Rattle.page_core.specs.Pages.{zero_page}
use Rattle.page_core.specs.Stored.{stored_pages}
use Rattle.page_core.proofs.Shown.{written}
use Rattle.page_core.proofs.page_map.PageMap.put_bytes.Goals as goal

pub returns-clause-written : goal.returns-clause-written
returns-clause-written c =
    let page : Option (List ℕ) → List ℕ = λ o. unwrap_or o zero_page in
    on_ok_weaker c.overwrite.result
    (λ put. written (stored_pages c.args.self.now) (stored_pages c.overwrite.new.self) c.args.address c.args.bytes.now
    c.overwrite.ensures.length c.requires.fits (ap page put) (λ n away. ap page (c.overwrite.ensures.others n away)))
    c.overwrite.ensures.put
