-- A memory in two layers, as its pages are found, written and lifted.
use Rattle.std.proofs.Common.{◌≡◌, ◌≢◌, ℕ, ◌+◌, ◌/◌, ◌%◌, ◌<◌, ◌≤◌, ◌⊎◌, true, false, List, [], ◌∷◌, length, get_or, Option, Some, None, Result, Ok, Err, refl, sym, ap, ◌∙◌, arith, inl, inr, ⊎_elim}
use Rattle.page_core.proofs.Options.{option_or-none}
use Rattle.std.specs.Prelude.{OnOk, OnErr, is_some, unwrap_or}
use Rattle.std.specs.Option.{option_or}
use Rattle.std.proofs.lemmas.Bool.{cases_Bool, cases_eq, eq-eqb, ne_eqb}
use Rattle.std.proofs.lemmas.Bool.Decides.{eqb_tells, leb_tells}
use Rattle.page_core.specs.Memory.{put}
use Rattle.page_core.specs.Pages.{zero_page}
use Rattle.page_core.specs.Memories.{flat}
use Rattle.page_core.specs.Stored.{Stored, stored_at, first_from, memory_of, IsStoredFrom}
use Rattle.page_core.proofs.Bytes.{put-outside, put-same}
use Rattle.rv_step.specs.Opened.{page_in, pages_in}
use Rattle.flat_machine.specs.Layers.{Layers, layer_page, layered_pages, memory_in}

-- ---- writing
-- the page of the memory, where one is above and where none is
above_shown : (l : Layers) (n : ℕ) → is_some (page_in l.above n) ≡ true → layered_pages l n ≡ pages_in l.above n
above_shown l n is =
    elim (page_in l.above n) as (λ o. is_some o ≡ true → unwrap_or (option_or o (stored_at l.below n)) zero_page ≡ unwrap_or o zero_page)
    [ Some page ↦ λ _. refl | None ↦ λ h. absurd (cc) ] is

below_shown : (l : Layers) (n : ℕ) → is_some (page_in l.above n) ≡ false → layer_page l n ≡ stored_at l.below n
below_shown l n is =
    elim (page_in l.above n) as (λ o. is_some o ≡ false → option_or o (stored_at l.below n) ≡ stored_at l.below n)
    [ Some page ↦ λ h. absurd (cc) | None ↦ λ _. refl ] is

-- bytes that are put into pages above are put into the memory, where all pages that they touch are above
pub put_above : (old new : Layers) (a : ℕ) (bs : List ℕ) → new.below ≡ old.below
    → ((n : ℕ) → is_some (page_in new.above n) ≡ is_some (page_in old.above n))
    → ((k : ℕ) → flat (pages_in new.above) k ≡ put (flat (pages_in old.above)) a bs k)
    → is_some (page_in old.above (a / 1024)) ≡ true → a % 1024 + length bs ≤ 1024
    → (k : ℕ) → memory_in new k ≡ put (memory_in old) a bs k
put_above old new a bs same room is opened fits k =
    ⊎_elim
    (λ above.
    ap (byte k) (above_shown new (k / 1024) (room (k / 1024) ∙ above)) ∙ is k
    ∙ put-same (flat (pages_in old.above)) (memory_in old) a bs k (sym (ap (byte k) (above_shown old (k / 1024) above))))
    (λ absent.
    ap (λ (o : Option (List ℕ)). byte k (unwrap_or o zero_page))
    (below_shown new (k / 1024) (room (k / 1024) ∙ absent) ∙ ap (λ (s : Stored). stored_at s (k / 1024)) same ∙ sym (below_shown old (k / 1024) absent))
    ∙ sym (put-outside (memory_in old) a bs k (away absent)))
    (cases_Bool (is_some (page_in old.above (k / 1024))))
  where
    byte : ℕ → List ℕ → ℕ
    byte k page = get_or page (k % 1024) 0

    away : is_some (page_in old.above (k / 1024)) ≡ false → (k < a) ⊎ (a + length bs ≤ k)
    away absent =
        let other : k / 1024 ≢ a / 1024 = λ here. let is : is_some (page_in old.above (k / 1024)) ≡ true = ap (λ (n : ℕ). is_some (page_in old.above n)) here ∙ opened in absurd (cc) in
        ⊎_elim (λ from. inr (omega (arith, from.1, other))) (λ low. inl low.1) (leb_tells a k)

-- a page that no layer has is opened with zeros, or isn't opened
pub zeros_opened : {A E : Type 0} (result : Result A E) (old : Layers) (new : List (Option (List ℕ))) (n : ℕ)
    → is_some (page_in old.above n) ≡ false → stored_at old.below n ≡ None → OnOk result (page_in new n ≡ Some zero_page)
    → ((k : ℕ) → k ≢ n → page_in new k ≡ page_in old.above k) → OnErr result ((k : ℕ) → page_in new k ≡ page_in old.above k)
    → memory_in (record { above = new; below = old.below }) ≡ memory_in old
zeros_opened (Err e) old new n absent none opened others kept =
    λ i a. get_or (unwrap_or (option_or (kept (a / 1024) i) (stored_at old.below (a / 1024))) zero_page) (a % 1024) 0
zeros_opened (Ok x) old new n absent none opened others kept = λ i a. get_or (same (a / 1024) i) (a % 1024) 0
  where
    shown : Layers → Option (List ℕ) → ℕ → List ℕ
    shown l o k = unwrap_or (option_or o (stored_at l.below k)) zero_page

    same : (k : ℕ) → layered_pages (record { above = new; below = old.below }) k ≡ layered_pages old k
    same k =
        ⊎_elim
        (λ here. rw here
        (ap (λ (o : Option (List ℕ)). shown old o n) opened
        ∙ sym (ap (λ (o : Option (List ℕ)). unwrap_or o zero_page) (below_shown old n absent ∙ none))))
        (λ other. ap (λ (o : Option (List ℕ)). shown old o k) (others k other))
        (cases_eq k n)

-- ---- lifting
-- the first page from a number on
pub record IsFirst (least number : ℕ) (page : List ℕ) (stored : Stored) : Type 0 where
  pub from : least ≤ number
  pub below : number < 262144
  pub there : stored_at stored number ≡ Some page
  pub before : (k : ℕ) → least ≤ k → k < number → stored_at stored k ≡ None

-- no page is stored under a number less than the one from which they ascend
none_before : (stored : Stored) (least k : ℕ) → IsStoredFrom least stored → k < least → stored_at stored k ≡ None
none_before [] least k are low = refl
none_before (p ∷ ps) least k are low =
    ⊎_elim (λ same. absurd (omega (arith, same.1, are.0))) (λ other. rw other.0 (none_before ps (p.0 + 1) k are.3 (omega (arith, are.0)))) (eqb_tells k p.0)

-- the page that was found is the first
pub first_after : (stored : Stored) (from least number : ℕ) (page : List ℕ) → IsStoredFrom from stored → Some (number, page) ≡ first_from least stored
    → (from ≤ number) × IsFirst least number page stored
first_after [] from least number page are is = absurd (cc)
first_after (p ∷ ps) from least number page are is =
    ⊎_elim
    (λ high.
    let here : Some (number, page) ≡ Some p = rw high.0 at is in
    let found : p ≡ (number, page) = cc in
    let number_is : number ≡ p.0 = sym (ap (λ (q : ℕ × List ℕ). q.0) found) in
    let page_is : p.1 ≡ page = ap (λ (q : ℕ × List ℕ). q.1) found in (
      omega (arith, are.0),
      record {
        from = omega (arith, high.1);
        below = omega (arith, are.1);
        there = rw (eq-eqb number p.0 number_is) (ap Some page_is);
        before = λ k lo hi. rw (ne_eqb k p.0 (λ same. omega arith)) (none_before ps (p.0 + 1) k are.3 (omega arith));
      },
    ))
    (λ low.
    let later = first_after ps (p.0 + 1) least number page are.3 (rw low.0 at is) in (
      omega (arith, later.0, are.0),
      record {
        from = later.1.from;
        below = later.1.below;
        there = rw (ne_eqb number p.0 (λ same. omega (arith, later.0))) later.1.there;
        before = λ k lo hi. rw (ne_eqb k p.0 (λ same. omega (arith, low.1))) (later.1.before k lo hi);
      },
    ))
    (leb_tells least p.0)

-- no page is stored from a number on, where none is found
none_after : (stored : Stored) (least k : ℕ) → None ≡ first_from least stored → least ≤ k → stored_at stored k ≡ None
none_after [] least k is from = refl
none_after (p ∷ ps) least k is from =
    ⊎_elim (λ high. let here : None ≡ Some p = rw high.0 at is in absurd (cc))
    (λ low. rw (ne_eqb k p.0 (λ same. omega (arith, low.1))) (none_after ps least k (rw low.0 at is) from)) (leb_tells least p.0)

-- the pages are those that were, and each whose number is less than this one is shown from above
pub record IsLifted (least : ℕ) (old now : Layers) : Type 0 where
  pub same : (n : ℕ) → layer_page now n ≡ layer_page old n
  pub lifted : (n : ℕ) → n < least → layer_page now n ≡ page_in now.above n

-- a page that isn't stored below, or is above, is shown from above
above_alone : (l : Layers) (n : ℕ) → stored_at l.below n ≡ None → layer_page l n ≡ page_in l.above n
above_alone l n none = ap (option_or (page_in l.above n)) none ∙ option_or-none (page_in l.above n)

above_first : (l : Layers) (n : ℕ) → is_some (page_in l.above n) ≡ true → layer_page l n ≡ page_in l.above n
above_first l n is =
    elim (page_in l.above n) as (λ o. is_some o ≡ true → option_or o (stored_at l.below n) ≡ o)
    [ Some page ↦ λ _. refl | None ↦ λ h. absurd (cc) ] is

-- the first page below is above already
pub lifted_more : (old now : Layers) (least number : ℕ) (page : List ℕ) → IsLifted least old now → IsFirst least number page now.below
    → is_some (page_in now.above number) ≡ true → IsLifted (number + 1) old now
lifted_more old now least number page is first opened = record {
  same = is.same;
  lifted = λ n low.
      ⊎_elim (λ here. above_first now n (ap (λ (k : ℕ). is_some (page_in now.above k)) here ∙ opened))
      (λ other. ⊎_elim (λ from. above_alone now n (first.before n from.1 (omega arith))) (λ before. is.lifted n before.1) (leb_tells least n))
      (cases_eq n number);
}

-- the first page below is opened above
pub lifted_first : (old now : Layers) (new : List (Option (List ℕ))) (least number : ℕ) (page : List ℕ) → IsLifted least old now → IsFirst least number page now.below
    → is_some (page_in now.above number) ≡ false → page_in new number ≡ Some page → ((n : ℕ) → n ≢ number → page_in new n ≡ page_in now.above n)
    → IsLifted (number + 1) old (record { above = new; below = now.below })
lifted_first old now new least number page is first absent put others =
    lifted_more old (record { above = new; below = now.below }) least number page
    (record {
      same = λ n. ⊎_elim
          (λ here. rw here
          (ap (λ (o : Option (List ℕ)). option_or o (stored_at now.below number)) put ∙ sym first.there ∙ sym (below_shown now number absent) ∙ is.same number))
          (λ other. ap (λ (o : Option (List ℕ)). option_or o (stored_at now.below n)) (others n other) ∙ is.same n)
          (cases_eq n number);
      lifted = λ n low.
          let other : n ≢ number = λ here. omega (arith, first.from) in
          ap (λ (o : Option (List ℕ)). option_or o (stored_at now.below n)) (others n other) ∙ is.lifted n low ∙ sym (others n other);
    })
    first (ap is_some put)

-- all pages are above
pub copied_all : (old now : Layers) (least : ℕ) → IsLifted least old now → None ≡ first_from least now.below → (n : ℕ) → page_in now.above n ≡ layer_page old n
copied_all old now least is none n = sym shown ∙ is.same n
  where
    shown : layer_page now n ≡ page_in now.above n
    shown = ⊎_elim (λ from. above_alone now n (none_after now.below least n none from.1)) (λ before. is.lifted n before.1) (leb_tells least n)

-- a page that wasn't opened above
pub opened_none : (old now : Layers) (new : List (Option (List ℕ))) (least : ℕ) → IsLifted least old now → ((n : ℕ) → page_in new n ≡ page_in now.above n)
    → (n : ℕ) → layer_page (record { above = new; below = now.below }) n ≡ layer_page old n
opened_none old now new least is kept n = ap (λ (o : Option (List ℕ)). option_or o (stored_at now.below n)) (kept n) ∙ is.same n

-- layers that show the same pages have the same bytes
pub same_shown : (old new : Layers) → ((n : ℕ) → layer_page new n ≡ layer_page old n) → memory_in new ≡ memory_in old
same_shown old new same = λ i a. get_or (unwrap_or (same (a / 1024) i) zero_page) (a % 1024) 0

-- none is needed below, where all are above
pub lifted_all : (old new : Layers) → new.below ≡ [] → ((n : ℕ) → page_in new.above n ≡ layer_page old n) → memory_in new ≡ memory_in old
lifted_all old new below copied = same_shown old new (λ n. above_alone new n (ap (λ (s : Stored). stored_at s n) below) ∙ copied n)

-- the pages that are copied are those of the map, where none was above
pub copied_bytes : (above : List (Option (List ℕ))) (below : Stored) (new : Layers) → ((n : ℕ) → page_in above n ≡ None) → new.below ≡ []
    → ((n : ℕ) → page_in new.above n ≡ layer_page (record { above = above; below = below }) n) → (a : ℕ) → memory_in new a ≡ memory_of below a
copied_bytes above below new none nothing copied a =
    ap (λ (m : ℕ → ℕ). m a) (lifted_all (record { above = above; below = below }) new nothing copied)
    ∙ ap (λ (o : Option (List ℕ)). get_or (unwrap_or (option_or o (stored_at below (a / 1024))) zero_page) (a % 1024) 0) (none (a / 1024))
