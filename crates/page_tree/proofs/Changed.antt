-- The last of the pages with a number.
use Rattle.std.proofs.Common.{◌≡◌, ◌≢◌, inl, inr, ℕ, suc, ◌+◌, ◌*◌, ◌/◌, ◌%◌, ◌^◌, ◌≤◌, List, [], ◌∷◌, ◌++◌, Option, Some, None, refl, sym, ap, ap₂, ◌∙◌, arith}
use Rattle.std.specs.Prelude.{All, ◌==◌, if◌then◌else◌}
use Rattle.std.specs.Option.{option_or}
use Rattle.std.proofs.lemmas.Bool.Decides.{eqb_tells}
use Rattle.std.proofs.lemmas.Nat.{mod-pow-add, pow_pos}
use Rattle.page_core.proofs.Options.{option_or-none, both_none}
use Rattle.page_tree.specs.Blocks.{place_of}
use Rattle.page_tree.specs.Changes.{Untouched, last_of}
use Rattle.page_tree.proofs.Places.{same_node, quotients}

pub option_or-assoc : {A : Type 0} (x y z : Option A) → option_or x (option_or y z) ≡ option_or (option_or x y) z
option_or-assoc None y z = refl
option_or-assoc (Some x) y z = refl

-- the first facts of a list, and those of the rest
pub All-head : {A : Type 0} (P : A → Type 0) (x : A) (xs : List A) → All P (x ∷ xs) → P x
All-head P x xs all = all 0 x (omega arith)

pub All-tail : {A : Type 0} (P : A → Type 0) (x : A) (xs : List A) → All P (x ∷ xs) → All P xs
All-tail P x xs all k d lt = all (suc k) d (omega (arith, lt))

-- the last of two lists is one of the second or else of the first
pub last_of-append : (many n : ℕ) (xs ys : List (ℕ × List ℕ)) → last_of many n (xs ++ ys) ≡ option_or (last_of many n ys) (last_of many n xs)
last_of-append many n [] ys = sym (option_or-none (last_of many n ys))
last_of-append many n (p ∷ ps) ys =
    ap (λ (o : Option (List ℕ)). option_or o (if p.0 % many == n % many then Some p.1 else None)) (last_of-append many n ps ys)
    ∙ sym (option_or-assoc (last_of many n ys) (last_of many n ps) (if p.0 % many == n % many then Some p.1 else None))

-- a page with another number isn't taken
passed : (many n q : ℕ) (page : List ℕ) → q % many ≢ n % many → (if q % many == n % many then Some page else None) ≡ None
passed many n q page ne = elim (eqb_tells (q % many) (n % many)) [ inl e ↦ absurd (ne e.1) | inr other ↦ ap (λ t. if t then Some page else None) other.0 ]

-- where each page has another number there is none
pub last_of-none : (many n : ℕ) (ps : List (ℕ × List ℕ)) → All (λ p. p.0 % many ≢ n % many) ps → last_of many n ps ≡ None
last_of-none many n [] away = refl
last_of-none many n (p ∷ ps) away =
    both_none (last_of many n ps) (if p.0 % many == n % many then Some p.1 else None)
    (last_of-none many n ps (All-tail (λ p. p.0 % many ≢ n % many) p ps away))
    (passed many n p.0 p.1 (All-head (λ p. p.0 % many ≢ n % many) p ps away))

-- the remainder of a number in a block, by its child and the remainder there
parts : (b n : ℕ) → n % 2 ^ (b + 6) ≡ (n / 2 ^ b % 64) * 2 ^ b + n % 2 ^ b
parts b n = let e : b + 6 ≡ 6 + b = omega arith in rw e (mod-pow-add n 6 b)

-- numbers below one child are told apart there as in the block
test_child : (b i n q : ℕ) → n / 2 ^ b % 64 ≡ i % 64 → q / 2 ^ b ≡ i → (q % 2 ^ b == n % 2 ^ b) ≡ (q % 2 ^ (b + 6) == n % 2 ^ (b + 6))
test_child b i n q here below =
    let same : q / 2 ^ b % 64 ≡ n / 2 ^ b % 64 = ap (λ (k : ℕ). k % 64) below ∙ sym here in
    let up = ap (λ (k : ℕ). k * 2 ^ b) same in
    elim (eqb_tells (q % 2 ^ b) (n % 2 ^ b)) [
      | inl e ↦ elim (eqb_tells (q % 2 ^ (b + 6)) (n % 2 ^ (b + 6))) [ inl f ↦ e.0 ∙ sym f.0 | inr g ↦ absurd (g.1 (parts b q ∙ ap₂ ◌+◌ up e.1 ∙ sym (parts b n))) ]
      | inr g ↦ elim (eqb_tells (q % 2 ^ (b + 6)) (n % 2 ^ (b + 6))) [ inl f ↦ absurd (g.1 (omega (arith, up, parts b q, parts b n, f.1))) | inr h ↦ g.0 ∙ sym h.0 ]
    ]

pub last_of-child : (b i n : ℕ) (ps : List (ℕ × List ℕ)) → n / 2 ^ b % 64 ≡ i % 64 → All (λ p. p.0 / 2 ^ b ≡ i) ps → last_of (2 ^ b) n ps ≡ last_of (2 ^ (b + 6)) n ps
last_of-child b i n [] here below = refl
last_of-child b i n (p ∷ ps) here below =
    ap₂ option_or (last_of-child b i n ps here (All-tail (λ p. p.0 / 2 ^ b ≡ i) p ps below))
    (ap (λ t. if t then Some p.1 else None) (test_child b i n p.0 here (All-head (λ p. p.0 / 2 ^ b ≡ i) p ps below)))

-- a number below another child is none of them
other_child : (b i n q : ℕ) → n / 2 ^ b % 64 ≢ i % 64 → q / 2 ^ b ≡ i → q % 2 ^ (b + 6) ≢ n % 2 ^ (b + 6)
other_child b i n q other below e =
    other (sym (quotients (2 ^ b) _ _ _ _ (omega (arith, pow_pos b)) (omega (arith, pow_pos b)) (sym (parts b q) ∙ e ∙ parts b n)) ∙ ap (λ (k : ℕ). k % 64) below)

pub last_of-other : (b i n : ℕ) (ps : List (ℕ × List ℕ)) → n / 2 ^ b % 64 ≢ i % 64 → All (λ p. p.0 / 2 ^ b ≡ i) ps → last_of (2 ^ (b + 6)) n ps ≡ None
last_of-other b i n ps other below = last_of-none (2 ^ (b + 6)) n ps (λ k d lt. other_child b i n _ other (below k d lt))

-- where no page is below a node, there is none with the number of a page below it
pub untouched_none : (b k x n : ℕ) (ps : List (ℕ × List ℕ)) → k ≤ 6 → n / 2 ^ (b + k) ≡ x → Untouched b k x ps → last_of (2 ^ (b + 6)) n ps ≡ None
untouched_none b k x n [] most below away = refl
untouched_none b k x n (p ∷ ps) most below away =
    both_none (last_of (2 ^ (b + 6)) n ps) (if p.0 % 2 ^ (b + 6) == n % 2 ^ (b + 6) then Some p.1 else None)
    (untouched_none b k x n ps most below away.1)
    (passed (2 ^ (b + 6)) n p.0 p.1 (λ e. away.0 (same_node b k p.0 n most e ∙ ap (place_of k) below)))
