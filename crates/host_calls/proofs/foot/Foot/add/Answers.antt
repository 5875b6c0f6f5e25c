use Rattle.std.proofs.Common.{◌≡◌, ◌≢◌, ◌∙◌, ◌+◌, true, false, Some, get_or, slice_get, sym, ap}
use Rattle.std.specs.Prelude.{insert}
use Rattle.std.proofs.lemmas.Bool.{false≢true}
use Rattle.host_calls.specs.Foots.{below}
use Rattle.host_calls.proofs.Placed.{behind, added, not_added}
use Rattle.host_calls.proofs.foot.Foot.add.Goals as goal

pub returns-then-not-stands_at : goal.returns-then-not-stands_at
returns-then-not-stands_at c =
    let page = c.args.page in
    let at = c.count_below-at.result in
    let foot = c.args.self.now in
    let whole : c.as_slice-pages.result.now ≡ foot = c.as_slice-pages.ensures.value ∙ c.self.view_is in
    let code : get_or foot 1 0 ≢ page = λ e. c.if-pages-page.false (ap (λ pages. get_or pages 1 0) whole ∙ e) in
    let is : at ≡ below page (behind foot) = c.count_below-at.ensures.value ∙ ap (λ pages. below page (behind pages)) whole in
    let absent : slice_get (behind foot) at ≢ Some page =
    λ e. false≢true (sym c.if-not-stands_at.true ∙ c.stands_at.ensures.1 (ap (λ pages. slice_get (behind pages) at) whole ∙ e)) in
    c.insert.ensures.items ∙ ap (λ items. insert items (2 + at) page) c.self.view_is ∙ added page foot at c.requires.code code is absent

pub returns-else-not-stands_at : goal.returns-else-not-stands_at
returns-else-not-stands_at c =
    let page = c.args.page in
    let at = c.count_below-at.result in
    let foot = c.args.self.now in
    let whole : c.as_slice-pages.result.now ≡ foot = c.as_slice-pages.ensures.value ∙ c.self.view_is in
    let is : at ≡ below page (behind foot) = c.count_below-at.ensures.value ∙ ap (λ pages. below page (behind pages)) whole in
    let present : slice_get (behind foot) at ≡ Some page = ap (λ pages. slice_get (behind pages) at) (sym whole) ∙ c.stands_at.ensures.0 c.if-not-stands_at.false in
    not_added page foot at c.requires.code is present
