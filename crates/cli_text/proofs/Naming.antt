-- Names, one word after the other.
use Rattle.std.proofs.Common.{◌≡◌, ℕ, ◌+◌, ◌<◌, List, [], ◌∷◌, ◌++◌, All, map, length, take, get_or, sym, ap, ◌∙◌, arith}
use Rattle.std.proofs.lemmas.List.{take_more, map-append, length-map, get_or-map}
use Rattle.std.proofs.lemmas.List.Elements.{All-same, All-push, All-get_or}
use Rattle.cli_text.specs.Name.{IsName}

module _ {A : Type 0} (bytes : A → List ℕ) (words : List A) (i : ℕ) (word : A) (low : i < length words) (is : word ≡ get_or words i word) where
  -- one more word is a name
  pub one_more : (names : List (List ℕ)) (name : List ℕ) → (names ≡ map bytes (take i words)) × All IsName (map bytes (take i words)) → name ≡ bytes word → IsName (bytes word)
      → (names ++ name ∷ [] ≡ map bytes (take (i + 1) words)) × All IsName (map bytes (take (i + 1) words))
  one_more names name (so_far, all) same named =
      let more : map bytes (take (i + 1) words) ≡ map bytes (take i words) ++ bytes word ∷ [] =
      ap (map bytes) (take_more words i word low ∙ ap (λ (w : A). take i words ++ w ∷ []) (sym is)) ∙ map-append bytes (take i words) (word ∷ []) in (
        (λ j. so_far j ++ same j ∷ []) ∙ sym more,
        All-same IsName (map bytes (take (i + 1) words)) (map bytes (take i words) ++ bytes word ∷ []) more (All-push IsName (map bytes (take i words)) (bytes word) all named),
      )

  -- this word is none
  pub not_names : bytes word ≡ [] → All IsName (map bytes words) → ⊥
  not_names empty all =
      let long = length-map words bytes in
      All-get_or IsName (map bytes words) i (bytes word) (omega (arith, long, low)) all
      (get_or-map bytes words i word (bytes word) low ∙ ap bytes (sym is) ∙ empty)
