use Rattle.std.proofs.Common.{rules, ◌≡◌, ℕ, List, Option, Some, None, sym, ap, ◌∙◌, arith}
use Rattle.std.specs.Prelude.{unwrap_or}
use Rattle.std.specs.Box.{with_value}
use Rattle.std.specs.BTreeMap.{get}
use Rattle.std.specs.Ordering.{nat_cmp}
use Rattle.std.proofs.lemmas.Result.{err_from_is_err_and}
use Rattle.page_core.specs.Pages.{IsPage, zero_page}
use Rattle.page_core.specs.Stored.{stored_pages}
use Rattle.page_core.proofs.Numbered.{other_number, stored_set, stored_insert, stored_long, seen_put, seen_found, seen_same}
use Rattle.page_core.proofs.page_map.PageMap.overwrite.Goals as goal

-- ---- the page is stored
pub invariant_of-self : goal.invariant_of-self
invariant_of-self c =
    rw (c.get_mut.follows.holds (with_value c.in-Some.stored.now c.put.new.self)).0
    (stored_set _ _ c.self.inside.pages.entries _ 0 c.put.ensures.page c.self.invariant)

pub returns-in-Some-clause-put : goal.returns-in-Some-clause-put
returns-in-Some-clause-put c =
    let updates = (c.get_mut.follows.holds (with_value c.in-Some.stored.now c.put.new.self)).3 (search rules) in
    let found = seen_found _ c.self.inside.pages.entries c.args.self.now c.args.page (Some c.in-Some.stored.now) c.self.view_is c.in-Some.ensures.value in
    let was : c.deref_mut.result.now ≡ stored_pages c.args.self.now c.args.page = c.deref_mut.ensures.value ∙ ap (λ (o : Option (List ℕ)). unwrap_or o zero_page) found in
    seen_put _ _ c.args.page _ _ updates.1 (rw was at c.put.ensures.value)

pub returns-in-Some-clause-length : goal.returns-in-Some-clause-length
returns-in-Some-clause-length c = stored_long _ c.args.self.now c.args.page c.self.view_is c.self.invariant

pub returns-in-Some-clause-others : goal.returns-in-Some-clause-others
returns-in-Some-clause-others c n away =
    let updates = (c.get_mut.follows.holds (with_value c.in-Some.stored.now c.put.new.self)).3 (search rules) in
    seen_same _ _ c.self.inside.pages.entries c.args.self.now n c.self.view_is (updates.2 n (other_number c.args.page n away))

-- ---- the page isn't stored
pub returns-in_err-stored-in-None-clause-length : goal.returns-in_err-stored-in-None-clause-length
returns-in_err-stored-in-None-clause-length c = stored_long _ c.args.self.now c.args.page c.self.view_is c.self.invariant

pub returns-in_err-stored-in-None-clause-absent : goal.returns-in_err-stored-in-None-clause-absent
returns-in_err-stored-in-None-clause-absent c =
    let out = err_from_is_err_and c.from_residual.result c.from_residual.ensures.1 in
    rw out.1 (sym (seen_found _ c.self.inside.pages.entries c.args.self.now c.args.page None c.self.view_is c.in-None.ensures.value))

pub returns-in_err-insert-in-None-clause-length : goal.returns-in_err-insert-in-None-clause-length
returns-in_err-insert-in-None-clause-length c = stored_long _ c.args.self.now c.args.page c.self.view_is c.self.invariant

pub returns-in_err-insert-in-None-clause-absent : goal.returns-in_err-insert-in-None-clause-absent
returns-in_err-insert-in-None-clause-absent c =
    let out = err_from_is_err_and c.from_residual-in_err-insert-in-None.result c.from_residual-in_err-insert-in-None.ensures.1 in
    rw out.1 (sym (seen_found _ c.self.inside.pages.entries c.args.self.now c.args.page None c.self.view_is c.in-None.ensures.value))

pub invariant_of-self-in-None : goal.invariant_of-self-in-None
invariant_of-self-in-None c =
    let page : IsPage c.in_ok-stored-in-None.stored.value = rw c.in_ok-stored-in-None.ensures.ok c.put-in-None.ensures.page in
    rw (c.in_ok-insert-in-None.ensures.entries, c.get_mut.follows.holds-at-none)
    (stored_insert _ c.self.inside.pages.entries c.args.page _ 0 (omega arith) c.requires.below page c.self.invariant)

pub returns-in_ok-insert-in-None-clause-put : goal.returns-in_ok-insert-in-None-clause-put
unfolding zero_page
returns-in_ok-insert-in-None-clause-put c =
    let found = seen_found _ c.self.inside.pages.entries c.args.self.now c.args.page None c.self.view_is c.in-None.ensures.value in
    let was : c.of-content.result ≡ stored_pages c.args.self.now c.args.page = c.of-content.ensures ∙ ap (λ (o : Option (List ℕ)). unwrap_or o zero_page) found in
    seen_put _ _ c.args.page _ _ c.in_ok-insert-in-None.ensures.updates.1 (c.in_ok-stored-in-None.ensures.ok ∙ rw was at c.put-in-None.ensures.value)

pub returns-in_ok-insert-in-None-clause-length : goal.returns-in_ok-insert-in-None-clause-length
returns-in_ok-insert-in-None-clause-length c = stored_long _ c.args.self.now c.args.page c.self.view_is c.self.invariant

pub returns-in_ok-insert-in-None-clause-others : goal.returns-in_ok-insert-in-None-clause-others
returns-in_ok-insert-in-None-clause-others c n away =
    seen_same _ _ c.self.inside.pages.entries c.args.self.now n c.self.view_is
    (c.in_ok-insert-in-None.ensures.updates.2 n (other_number c.args.page n away) ∙ ap (λ m. get nat_cmp m n) c.get_mut.follows.holds-at-none)
