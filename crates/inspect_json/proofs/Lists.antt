-- The text of an array, from the texts of its items.
use Rattle.std.proofs.Common.{◌≡◌, ℕ, ◌+◌, ◌<◌, length, take, get_or, subst, List, [], ◌∷◌, ◌++◌, map, Bool, true, false, ◌||◌, refl, sym, ap, ap₂, ◌∙◌, append_assoc}
use Rattle.std.specs.List.{join_with_byte}
use Rattle.std.proofs.lemmas.List.{map_more}
use Rattle.serde_json.specs.View.{view, items_view}
use Rattle.serde_json.specs.Written.{items_have_float, compact_text, items_text}
use Rattle.serde_json.specs.declared.value.Value.{Value}
use Rattle.inspect_json.specs.Text.{list_text}
use Rattle.inspect_json.specs.Values.{HasText, HaveTexts}

-- one more value
written_append : (values : List Value) (texts : List (List ℕ)) (value : Value) (text : List ℕ) → HaveTexts values texts → HasText value text
    → HaveTexts (values ++ value ∷ []) (texts ++ text ∷ [])
written_append [] [] value text all is = (is, tt)
written_append [] (t ∷ texts) value text all is = absurd all
written_append (v ∷ values) [] value text all is = absurd all
written_append (v ∷ values) (t ∷ texts) value text all is = (all.0, written_append values texts value text all.1 is)

-- after one more item, with its value
pub one_more : {X : Type 0} (text : X → List ℕ) (xs : List X) (k : ℕ) (d : X) (values : List Value) (value : Value) (new : List Value) → k < length xs
    → HaveTexts values (map text (take k xs)) → HasText value (text (get_or xs k d)) → new ≡ values ++ value ∷ [] → HaveTexts new (map text (take (k + 1) xs))
one_more text xs k d values value new low all is pushed =
    subst (λ (texts : List (List ℕ)). HaveTexts new texts) (sym (map_more text xs k d low))
    (subst (λ (vs : List Value). HaveTexts vs (map text (take k xs) ++ text (get_or xs k d) ∷ [])) (sym pushed) (written_append values (map text (take k xs)) value (text (get_or xs k d)) all is))

pub no_floats : (values : List Value) (texts : List (List ℕ)) → HaveTexts values texts → items_have_float (items_view values) ≡ false
no_floats [] [] all = refl
no_floats [] (t ∷ texts) all = absurd all
no_floats (v ∷ values) [] all = absurd all
no_floats (v ∷ values) (t ∷ texts) all = ap₂ (λ (a b : Bool). a || b) all.0.0 (no_floats values texts all.1)

-- from the second value on
rest_joined : (value : Value) (text : List ℕ) (values : List Value) (texts : List (List ℕ)) → HasText value text → HaveTexts values texts
    → compact_text (view value) ++ items_text true (items_view values) ≡ join_with_byte 44 (text ∷ texts) ++ 93 ∷ []
rest_joined value text [] [] is all = ap (λ (s : List ℕ). s ++ 93 ∷ []) is.1
rest_joined value text [] (t ∷ texts) is all = absurd all
rest_joined value text (v ∷ values) [] is all = absurd all
rest_joined value text (v ∷ values) (t ∷ texts) is all =
    ap₂ (λ (first rest : List ℕ). first ++ 44 ∷ rest) is.1 (rest_joined v t values texts all.0 all.1)
    ∙ sym (append_assoc text (44 ∷ join_with_byte 44 (t ∷ texts)) (93 ∷ []))

pub joined : (values : List Value) (texts : List (List ℕ)) → HaveTexts values texts → 91 ∷ items_text false (items_view values) ≡ list_text texts
joined [] [] all = refl
joined [] (t ∷ texts) all = absurd all
joined (v ∷ values) [] all = absurd all
joined (v ∷ values) (t ∷ texts) all = ap (λ (s : List ℕ). 91 ∷ s) (rest_joined v t values texts all.0 all.1)
