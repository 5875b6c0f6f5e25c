-- The first of several findings.
use Rattle.std.proofs.Common.{◌≡◌, true, false, Option, Some, None, Result, Ok, Err, refl, sym, ap, ◌∙◌}
use Rattle.std.specs.Prelude.{is_some, option_map, IfNone, IfOk}
use Rattle.std.specs.Option.{option_or}

module _ {A B : Type 0} (f : A → B) (found : Option A) where
  -- what was found is the first
  pub found_first : (o p : Option B) → option_map f found ≡ o → is_some found ≡ true → option_map f found ≡ option_or o p
  found_first o p is some = is ∙ go o (sym (some_mapped found some) ∙ ap is_some is)
    where
      some_mapped : (x : Option A) → is_some x ≡ true → is_some (option_map f x) ≡ true
      some_mapped (Some x) h = refl
      some_mapped None h = absurd (cc)

      go : (o : Option B) → true ≡ is_some o → o ≡ option_or o p
      go (Some x) h = refl
      go None h = absurd (cc)

  -- nothing was found
  pub found_none : (o : Option B) → option_map f found ≡ o → is_some found ≡ false → o ≡ None
  found_none o is none = sym is ∙ none_mapped found none
    where
      none_mapped : (x : Option A) → is_some x ≡ false → option_map f x ≡ None
      none_mapped (Some x) h = absurd (cc)
      none_mapped None h = refl

  -- something was
  pub found_some : is_some found ≡ true → (y : B) × (option_map f found ≡ Some y)
  found_some some = go found some
    where
      go : (x : Option A) → is_some x ≡ true → (y : B) × (option_map f x ≡ Some y)
      go (Some x) h = (f x, refl)
      go None h = absurd (cc)

-- what holds where nothing was found
pub if_none : {A : Type 0} (found : Option A) (P : Type 0) → is_some found ≡ false → IfNone found P → P
if_none None P none holds = holds
if_none (Some x) P none holds = absurd (cc)

-- what holds of each value holds of one that is there
pub if_ok : {A E : Type 0} (result : Result A E) (P Q : A → Type 0) → ((x : A) → P x → Q x) → IfOk result P → IfOk result Q
if_ok (Ok x) P Q more holds = more x holds
if_ok (Err e) P Q more holds = tt
