-- The links of a bundle's entries, one after the other. H is the digest function.
use Rattle.std.proofs.Common.{◌≡◌, ◌≢◌, ℕ, zero, suc, ◌+◌, ◌<◌, ◌≤◌, Bool, true, false, not, eqb, List, [], ◌∷◌, length, drop, get_or, Option, Some, None, refl, sym, ap, ap₂, ◌∙◌, arith}
use Rattle.std.specs.Option.{option_or}
use Rattle.std.specs.Str.{bytes_eq}
use Rattle.std.proofs.lemmas.List.{drop_more, drop_all}
use Rattle.std.proofs.lemmas.Slice.Eq.{bytes_eq-Decides}
use Rattle.host_calls.specs.declared.call.AssumeCall.{AssumeCall}
use Rattle.claim_types.specs.Claims.{SpanClaim, ok_digest}
use Rattle.receipt_types.specs.Bundles.{Entry, Bundle, item}
use Rattle.lift_join.specs.Joins.{chain_of}
use Rattle.lift_join.proofs.Joining.{test_bytes, test_number}
use Rattle.std.proofs.lemmas.Bool.{ne_eqb, not-true, not-false, false_from_ne_true, false≢true}
use Rattle.check_core.specs.declared.stop.CheckStop.{CheckStop}
use Rattle.check_core.specs.declared.stop.CheckStop.TheVariants.{LinkCount, BadLink}
use Rattle.check_core.specs.Entries.{digest_in}
use Rattle.check_core.specs.Judgement.{stop_unless, calls_stop, links_stop, all_links_stop}

-- ---- a test that decides
pub unless_holds : (b : Bool) (stop : CheckStop) → b ≡ true → stop_unless b stop ≡ None
unless_holds b stop h = ap (λ (t : Bool). stop_unless t stop) h

pub unless_fails : (b : Bool) (stop : CheckStop) → b ≡ false → stop_unless b stop ≡ Some stop
unless_fails b stop h = ap (λ (t : Bool). stop_unless t stop) h

pub other_bytes : (a b : List ℕ) → a ≢ b → bytes_eq a b ≡ false
other_bytes a b n = false_from_ne_true (bytes_eq a b) (λ e. n ((bytes_eq-Decides a b).0 e))

-- what a test of two digests says
pub same_digests : (x y : List ℕ) (b : Bool) → b ≡ not (bytes_eq x y) → b ≡ false → x ≡ y
same_digests x y b is e = (bytes_eq-Decides x y).0 (not-false _ (sym is ∙ e))

pub other_digests : (x y : List ℕ) (b : Bool) → b ≡ not (bytes_eq x y) → b ≡ true → x ≢ y
other_digests x y b is e same = false≢true (sym (not-true _ (sym is ∙ e)) ∙ test_bytes x y same)

-- an item at a place
pub item_is : {A : Type 0} (xs : List A) (k : ℕ) (d : A) → k < length xs → item xs k ≡ Some (get_or xs k d)
item_is [] k d low = absurd (omega arith)
item_is (x ∷ xs) zero d low = refl
item_is (x ∷ xs) (suc k) d low = item_is xs k d (omega arith)

module _ (H : List ℕ → List ℕ) (B : Bundle) where
  -- ---- the calls of entry e
  module _ (e k : ℕ) (calls : List AssumeCall) (links : List ℕ) (call c : AssumeCall) (link l : ℕ) (low : k < length calls) (low_link : k < length links)
      (is : call ≡ get_or calls k c) (is_link : link ≡ get_or links k l) where
    calls_here : calls_stop H B e k (drop k calls) (drop k links)
        ≡ option_or (stop_unless (bytes_eq (ok_digest H call) (digest_in H B link)) (BadLink e k (ok_digest H call) (digest_in H B link))) (calls_stop H B e (k + 1) (drop (k + 1) calls) (drop (k + 1) links))
    calls_here =
        ap₂ (λ (cs : List AssumeCall) (ls : List ℕ). calls_stop H B e k cs ls)
        (drop_more calls k c low ∙ ap (λ (x : AssumeCall). x ∷ drop (k + 1) calls) (sym is))
        (drop_more links k l low_link ∙ ap (λ (x : ℕ). x ∷ drop (k + 1) links) (sym is_link))

    -- the digests are the same
    pub call_answered : ok_digest H call ≡ digest_in H B link → calls_stop H B e k (drop k calls) (drop k links) ≡ calls_stop H B e (k + 1) (drop (k + 1) calls) (drop (k + 1) links)
    call_answered h =
        calls_here
        ∙ ap (λ (o : Option CheckStop). option_or o (calls_stop H B e (k + 1) (drop (k + 1) calls) (drop (k + 1) links)))
        (unless_holds (bytes_eq (ok_digest H call) (digest_in H B link)) (BadLink e k (ok_digest H call) (digest_in H B link)) (test_bytes (ok_digest H call) (digest_in H B link) h))

    -- they aren't
    pub call_refused : ok_digest H call ≢ digest_in H B link → calls_stop H B e k (drop k calls) (drop k links) ≡ Some (BadLink e k (ok_digest H call) (digest_in H B link))
    call_refused n =
        calls_here
        ∙ ap (λ (o : Option CheckStop). option_or o (calls_stop H B e (k + 1) (drop (k + 1) calls) (drop (k + 1) links)))
        (unless_fails (bytes_eq (ok_digest H call) (digest_in H B link)) (BadLink e k (ok_digest H call) (digest_in H B link)) (other_bytes (ok_digest H call) (digest_in H B link) n))

  pub calls_over : (e k : ℕ) (calls : List AssumeCall) (links : List ℕ) → length calls ≤ k → calls_stop H B e k (drop k calls) (drop k links) ≡ None
  calls_over e k calls links all = ap (λ (cs : List AssumeCall). calls_stop H B e k cs (drop k links)) (drop_all k calls all)

  -- ---- an entry
  pub counted : (e : ℕ) (claim : SpanClaim) (links : List ℕ) → length claim.calls ≡ length links → links_stop H B e (Some claim) links ≡ calls_stop H B e 0 claim.calls links
  counted e claim links h =
      ap (λ (o : Option CheckStop). option_or o (calls_stop H B e 0 claim.calls links))
      (unless_holds (eqb (length claim.calls) (length links)) (LinkCount e (length claim.calls) (length links)) (test_number (length claim.calls) (length links) h))

  pub miscounted : (e : ℕ) (claim : SpanClaim) (links : List ℕ) → length claim.calls ≢ length links → links_stop H B e (Some claim) links ≡ Some (LinkCount e (length claim.calls) (length links))
  miscounted e claim links n =
      ap (λ (o : Option CheckStop). option_or o (calls_stop H B e 0 claim.calls links))
      (unless_fails (eqb (length claim.calls) (length links)) (LinkCount e (length claim.calls) (length links)) (ne_eqb (length claim.calls) (length links) n))

  -- ---- entry k of the entries
  module _ (k : ℕ) (entries : List Entry) (entry d : Entry) (claim : SpanClaim) (low : k < length entries) (is : entry ≡ get_or entries k d) (chain : chain_of H entry.seals ≡ Some claim) where
    links_here : all_links_stop H B k (drop k entries) ≡ option_or (links_stop H B k (Some claim) entry.links) (all_links_stop H B (k + 1) (drop (k + 1) entries))
    links_here =
        ap (all_links_stop H B k) (drop_more entries k d low ∙ ap (λ (x : Entry). x ∷ drop (k + 1) entries) (sym is))
        ∙ ap (λ (o : Option SpanClaim). option_or (links_stop H B k o entry.links) (all_links_stop H B (k + 1) (drop (k + 1) entries))) chain

    pub entry_linked : links_stop H B k (Some claim) entry.links ≡ None → all_links_stop H B k (drop k entries) ≡ all_links_stop H B (k + 1) (drop (k + 1) entries)
    entry_linked none = links_here ∙ ap (λ (o : Option CheckStop). option_or o (all_links_stop H B (k + 1) (drop (k + 1) entries))) none

    pub entry_refused : (stop : CheckStop) → links_stop H B k (Some claim) entry.links ≡ Some stop → all_links_stop H B k (drop k entries) ≡ Some stop
    entry_refused stop some = links_here ∙ ap (λ (o : Option CheckStop). option_or o (all_links_stop H B (k + 1) (drop (k + 1) entries))) some

  pub links_over : (k : ℕ) (entries : List Entry) → length entries ≤ k → all_links_stop H B k (drop k entries) ≡ None
  links_over k entries all = ap (all_links_stop H B k) (drop_all k entries all)
