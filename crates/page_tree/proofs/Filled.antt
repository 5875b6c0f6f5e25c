-- A tree that is filled from a map, some numbers at a time.
use Rattle.std.proofs.Common.{◌≡◌, inl, inr, ℕ, zero, suc, ◌+◌, ◌<◌, ◌≤◌, true, false, leb, List, [], ◌∷◌, Option, Some, None, refl, sym, ap, ap₂, subst, ◌∙◌, arith}
use Rattle.std.specs.Prelude.{IfSome, if◌then◌else◌, map, option_map}
use Rattle.std.specs.Option.{option_or}
use Rattle.std.proofs.lemmas.Bool.Decides.{eqb_tells, leb_tells}
use Rattle.page_core.proofs.Options.{option_or-none}
use Rattle.page_core.specs.Stored.{Stored, IsStoredFrom, stored_at, first_from}
use Rattle.page_tree.specs.Grown.{AscendFrom, stored_with_all, found_before, gathered}
use Rattle.page_tree.proofs.Merged.{Ascends, none_before, stored_ascends, same_stored, stored_at-with_all, ascends-with_all, gathered_ascends, gathered_at, gathered_after}

-- the first number from this one on under which a page is stored, or the number after the last page
abbrev pub bound : Option ℕ → ℕ
bound None = 262144
bound (Some number) = number

abbrev next_of : ℕ → Stored → Option ℕ
next_of from s = option_map (λ (p : ℕ × List ℕ). p.0) (first_from from s)

-- no page is stored in between
pub record IsNext (from next : ℕ) (s : Stored) : Type 0 where
  pub after : from ≤ next
  pub low : next ≤ 262144
  pub gap : (n : ℕ) → from ≤ n → n < next → stored_at s n ≡ None

past_first : (from : ℕ) (p : ℕ × List ℕ) (ps : Stored) {next : ℕ} → p.0 < from → IsNext from next ps → IsNext from next (p ∷ ps)
past_first from p ps past rest =
    record {
      after = rest.after;
      low = rest.low;
      gap = λ n after before. elim (eqb_tells n p.0) [ inl e ↦ absurd (omega (arith, e.1, past, after)) | inr ne ↦ ap (λ t. if t then Some p.1 else stored_at ps n) ne.0 ∙ rest.gap n after before ];
    }

pub next_is : (from least : ℕ) (s : Stored) → IsStoredFrom least s → from ≤ 262144 → IsNext from (bound (next_of from s)) s
next_is from least [] are low = record { after = low; low = omega arith; gap = λ n after before. refl }
next_is from least (p ∷ ps) are low =
    elim (leb_tells from p.0) [
      | inl here ↦ subst (λ t. IsNext from (bound (option_map (λ (q : ℕ × List ℕ). q.0) (if t then Some p else first_from from ps))) (p ∷ ps)) (sym here.0)
          (record { after = here.1; low = omega (arith, are.1); gap = λ n after before. none_before p.0 n (p ∷ ps) (omega arith, stored_ascends (p.0 + 1) ps are.3) before })
      | inr past ↦ subst (λ t. IsNext from (bound (option_map (λ (q : ℕ × List ℕ). q.0) (if t then Some p else first_from from ps))) (p ∷ ps)) (sym past.0)
          (past_first from p ps past.1 (next_is from (p.0 + 1) ps are.3 low))
    ]

next_low : (from least : ℕ) (s : Stored) → IsStoredFrom least s → IfSome (next_of from s) (λ n. n < 262144)
next_low from least [] are = tt
next_low from least (p ∷ ps) are =
    elim (leb from p.0) as (λ t. IfSome (option_map (λ (q : ℕ × List ℕ). q.0) (if t then Some p else first_from from ps)) (λ n. n < 262144)) [ true ↦ are.1 | false ↦ next_low from (p.0 + 1) ps are.3 ]

-- the number that the code found is one of a memory
pub found_low : (from : ℕ) (next : Option ℕ) (map : Stored) → IsStoredFrom 0 map → next ≡ next_of from map → IfSome next (λ n. n < 262144)
found_low from next map are is = subst (λ (o : Option ℕ). IfSome o (λ n. n < 262144)) (sym is) (next_low from 0 map are)

pub next_after : (from : ℕ) (next : Option ℕ) (map : Stored) → from ≤ 262144 → IsStoredFrom 0 map → next ≡ next_of from map → from ≤ bound next
next_after from next map low are is = subst (λ (o : Option ℕ). from ≤ bound o) (sym is) (next_is from 0 map are low).after

-- pages that are found ascend by their numbers
ascend_least : (before least : ℕ) (ps : Stored) → before ≤ least → AscendFrom least (map (λ p. p.0) ps) → AscendFrom before (map (λ p. p.0) ps)
ascend_least before least [] le up = tt
ascend_least before least (p ∷ ps) le up = (omega (arith, le, up.0), up.1, up.2)

found_numbers : (least : ℕ) (o : Option (List ℕ)) (after : Stored) → least < 262144 → AscendFrom (least + 1) (map (λ p. p.0) after) → AscendFrom least (map (λ p. p.0) (found_before least o after))
found_numbers least None after lt up = ascend_least least (least + 1) after (omega arith) up
found_numbers least (Some page) after lt up = (omega arith, lt, up)

gathered_numbers : (found : ℕ → Option (List ℕ)) (least n : ℕ) → least + n ≤ 262144 → AscendFrom least (map (λ p. p.0) (gathered found least n))
unfolding gathered
gathered_numbers found least zero fits = tt
gathered_numbers found least (suc n) fits = found_numbers least (found least) (gathered found (least + 1) n) (omega (arith, fits)) (gathered_numbers found (least + 1) n (omega (arith, fits)))

pub copied_numbers : (found : ℕ → Option (List ℕ)) (least n : ℕ) → least + n ≤ 262144 → AscendFrom 0 (map (λ p. p.0) (gathered found least n))
copied_numbers found least n fits = ascend_least 0 least (gathered found least n) (omega arith) (gathered_numbers found least n fits)

-- the tree has the pages before this number
pub record IsFilled (from : ℕ) (tree map : Stored) : Type 0 where
  pub ascends : Ascends 0 tree
  pub same : (n : ℕ) → n < from → stored_at tree n ≡ stored_at map n
  pub none : (n : ℕ) → from ≤ n → stored_at tree n ≡ None

-- the pages up to the next number that has one are those before it
pub filled_up : (from : ℕ) (next : Option ℕ) (tree map : Stored) → from ≤ 262144 → IsStoredFrom 0 map → next ≡ next_of from map → IsFilled from tree map → IsFilled (bound next) tree map
filled_up from next tree map low are is filled =
    let up : IsNext from (bound next) map = subst (λ (o : Option ℕ). IsNext from (bound o) map) (sym is) (next_is from 0 map are low) in
    record {
      ascends = filled.ascends;
      same = λ n lt. elim (leb_tells from n) [ inl after ↦ filled.none n after.1 ∙ sym (up.gap n after.1 lt) | inr before ↦ filled.same n before.1 ];
      none = λ n after. filled.none n (omega (arith, after, up.after));
    }

-- none are there at first
pub filled_first : (map : Stored) → IsFilled 0 [] map
filled_first map = record { ascends = tt; same = λ n lt. absurd (omega (arith, lt)); none = λ n after. refl }

both_same : (a b : Option (List ℕ)) → (b ≡ a) → option_or a b ≡ a
both_same None b e = e
both_same (Some a) b e = refl

-- the pages of 64 numbers more
pub filled_next : (number first : ℕ) (tree new map : Stored) → IsFilled number tree map → first ≤ number → number < first + 64
    → new ≡ stored_with_all tree (gathered (stored_at map) first 64) → IsFilled (first + 64) new map
filled_next number first tree new map filled low high put =
    let pages : Stored = gathered (stored_at map) first 64 in
    let up : Ascends first pages = gathered_ascends (stored_at map) first 64 in
    let found : (n : ℕ) → stored_at new n ≡ option_or (stored_at pages n) (stored_at tree n) = λ n. ap (λ (s : Stored). stored_at s n) put ∙ stored_at-with_all first tree pages n up in
    record {
      ascends = rw put (ascends-with_all tree pages filled.ascends);
      same = λ n lt. found n ∙ elim (leb_tells first n) [
        | inl from_on ↦
            ap (λ (o : Option (List ℕ)). option_or o (stored_at tree n)) (gathered_at (stored_at map) first 64 n from_on.1 lt)
            ∙ elim (leb_tells number n) [ inl after ↦ ap (option_or (stored_at map n)) (filled.none n after.1) ∙ option_or-none (stored_at map n) | inr before ↦ both_same (stored_at map n) (stored_at tree n) (filled.same n before.1) ]
        | inr before ↦
            ap (λ (o : Option (List ℕ)). option_or o (stored_at tree n)) (none_before first n pages up before.1)
            ∙ filled.same n (omega (arith, before.1, low))
      ];
      none = λ n after. found n ∙ ap₂ option_or (gathered_after (stored_at map) first 64 n after) (filled.none n (omega (arith, after, high)));
    }

-- no page is stored after the last one of a memory
none_past : (least n : ℕ) (s : Stored) → IsStoredFrom least s → 262144 ≤ n → stored_at s n ≡ None
none_past least n [] are after = refl
none_past least n (p ∷ ps) are after =
    elim (eqb_tells n p.0) [ inl e ↦ absurd (omega (arith, e.1, are.1, after)) | inr ne ↦ ap (λ t. if t then Some p.1 else stored_at ps n) ne.0 ∙ none_past (p.0 + 1) n ps are.3 after ]

pub filled_last : (tree map : Stored) → IsFilled 262144 tree map → IsStoredFrom 0 map → tree ≡ map
filled_last tree map filled are =
    same_stored 0 tree map filled.ascends (stored_ascends 0 map are)
    (λ n. elim (leb_tells 262144 n) [ inl after ↦ filled.none n after.1 ∙ sym (none_past 0 n map are after.1) | inr before ↦ filled.same n before.1 ])

-- where no number is next, all pages are before it
pub all_before : (next : Option ℕ) → ((n : ℕ) → next ≡ Some n → ⊥) → bound next ≡ 262144
all_before None none = refl
all_before (Some n) none = absurd (none n refl)
