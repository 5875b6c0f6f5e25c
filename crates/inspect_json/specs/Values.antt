-- What a value is written as.
use Rattle.std.specs.Prelude.{◌≡◌, ℕ, List, [], ◌∷◌, false, ⊤}
use Rattle.serde_json.specs.View.{view}
use Rattle.serde_json.specs.Written.{has_float, compact_text}
use Rattle.serde_json.specs.declared.value.Value.{Value}

-- the value has no float, whose digits nothing says, and this is its text
abbrev pub HasText : Value → List ℕ → Type 0
HasText value text = (has_float (view value) ≡ false) × (compact_text (view value) ≡ text)

-- each value has its text
abbrev pub HaveTexts : List Value → List (List ℕ) → Type 0
HaveTexts [] [] = ⊤
HaveTexts [] (text ∷ texts) = ⊥
HaveTexts (value ∷ values) [] = ⊥
HaveTexts (value ∷ values) (text ∷ texts) = HasText value text × HaveTexts values texts
