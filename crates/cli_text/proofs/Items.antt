-- A list by its items.
use Rattle.std.proofs.Common.{◌≡◌, ◌-◌, ◌≤◌, List, [], ◌∷◌, length, get_or, take, drop, sym, ap, ◌∙◌, arith}
use Rattle.std.proofs.lemmas.List.{take_rest}

pub five_items : {A : Type 0} (xs : List A) (a b c d e : A) → length xs ≡ 5 → a ≡ get_or xs 0 a → b ≡ get_or xs 1 b → c ≡ get_or xs 2 c → d ≡ get_or xs 3 d → e ≡ get_or xs 4 e → xs ≡ a ∷ b ∷ c ∷ d ∷ e ∷ []
five_items [] a b c d e n p q r s t = absurd (omega (arith, n))
five_items (v ∷ []) a b c d e n p q r s t = absurd (omega (arith, n))
five_items (v ∷ w ∷ []) a b c d e n p q r s t = absurd (omega (arith, n))
five_items (v ∷ w ∷ x ∷ []) a b c d e n p q r s t = absurd (omega (arith, n))
five_items (v ∷ w ∷ x ∷ y ∷ []) a b c d e n p q r s t = absurd (omega (arith, n))
five_items (v ∷ w ∷ x ∷ y ∷ z ∷ []) a b c d e n p q r s t = λ i. sym p i ∷ sym q i ∷ sym r i ∷ sym s i ∷ sym t i ∷ []
five_items (v ∷ w ∷ x ∷ y ∷ z ∷ u ∷ rest) a b c d e n p q r s t = absurd (omega (arith, n))

-- a list that begins with four items, and what is after them
abbrev pub after_four : {A : Type 0} → List A → List A
after_four xs = take (length xs - 4) (drop 4 xs)

four_drop : {A : Type 0} (xs : List A) (a b c d : A) → 4 ≤ length xs → a ≡ get_or xs 0 a → b ≡ get_or xs 1 b → c ≡ get_or xs 2 c → d ≡ get_or xs 3 d → xs ≡ a ∷ b ∷ c ∷ d ∷ drop 4 xs
four_drop [] a b c d n p q r s = absurd (omega (arith, n))
four_drop (x ∷ []) a b c d n p q r s = absurd (omega (arith, n))
four_drop (x ∷ y ∷ []) a b c d n p q r s = absurd (omega (arith, n))
four_drop (x ∷ y ∷ z ∷ []) a b c d n p q r s = absurd (omega (arith, n))
four_drop (x ∷ y ∷ z ∷ w ∷ rest) a b c d n p q r s = λ i. sym p i ∷ sym q i ∷ sym r i ∷ sym s i ∷ rest

pub four_then : {A : Type 0} (xs : List A) (a b c d : A) → 4 ≤ length xs → a ≡ get_or xs 0 a → b ≡ get_or xs 1 b → c ≡ get_or xs 2 c → d ≡ get_or xs 3 d → xs ≡ a ∷ b ∷ c ∷ d ∷ after_four xs
four_then {A} xs a b c d n p q r s = four_drop xs a b c d n p q r s ∙ ap (λ (rest : List A). a ∷ b ∷ c ∷ d ∷ rest) (sym (take_rest xs 4))
