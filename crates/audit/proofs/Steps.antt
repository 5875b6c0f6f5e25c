-- How many steps seals have, and the states on the way of a run.
use Rattle.std.proofs.Common.{◌≡◌, ℕ, zero, suc, ◌+◌, ◌<◌, ◌≤◌, List, [], ◌∷◌, ◌++◌, length, append-nil, append_assoc, drop, get_or, map, Some, refl, sym, ap, ◌∙◌, arith}
use Rattle.receipt_types.specs.Seals.{Seal, words_of}
use Rattle.rv_step.specs.Machine.{State}
use Rattle.rv_step.specs.Runs.{after}
use Rattle.rv_step.proofs.Runs.{step_back}

-- a run of so many steps has a state after fewer
pub after_fewer : (s : State) (k n m : ℕ) (t : State) → m ≡ n + k → after s m ≡ Some t → (u : State) × (after s k ≡ Some u)
after_fewer s k zero m t is h = (t, ap (after s) (omega (arith, is)) ∙ h)
after_fewer s k (suc n) m t is h =
    let (u, before, goes) = step_back s (n + k) t (ap (after s) (omega (arith, is)) ∙ h) in
    after_fewer s k n (n + k) u refl before

-- the words of seals and one more
pub words_more : (seals : List Seal) (seal : Seal) → words_of (seals ++ seal ∷ []) ≡ words_of seals ++ seal.words
words_more [] seal = append-nil seal.words
words_more (x ∷ seals) seal = ap (λ (ws : List ℕ). x.words ++ ws) (words_more seals seal) ∙ sym (append_assoc x.words (words_of seals) seal.words)

-- the list from a place on
drop_map : {A B : Type 0} (f : A → B) (xs : List A) (k : ℕ) (d : A) → k < length xs → drop k (map f xs) ≡ f (get_or xs k d) ∷ drop (k + 1) (map f xs)
drop_map f [] k d low = absurd (omega (arith, low))
drop_map f (x ∷ xs) zero d low = refl
drop_map f (x ∷ xs) (suc k) d low =
    let next : suc (k + 1) ≡ suc k + 1 = omega arith in
    drop_map f xs k d (omega (arith, low)) ∙ ap (λ (n : ℕ). f (get_or xs k d) ∷ drop n (map f (x ∷ xs))) next

long_map : {A B : Type 0} (f : A → B) (xs : List A) → length (map f xs) ≡ length xs
long_map f [] = refl
long_map f (x ∷ xs) = ap suc (long_map f xs)

-- the item at a place of a list that is mapped, and those after it
pub turned : {A B : Type 0} (f : A → B) (xs : List A) (k : ℕ) (d : A) (y : B) → k < length (map f xs) → y ≡ f (get_or xs k d) → drop k (map f xs) ≡ y ∷ drop (k + 1) (map f xs)
turned f xs k d y low is = drop_map f xs k d (omega (arith, low, long_map f xs)) ∙ ap (λ z. z ∷ drop (k + 1) (map f xs)) (sym is)

pub within_map : {A B : Type 0} (f : A → B) (xs : List A) (k : ℕ) → k < length (map f xs) → k < length xs
within_map f xs k low = omega (arith, low, long_map f xs)

pub map_within : {A B : Type 0} (f : A → B) (xs : List A) (k : ℕ) → k < length xs → k < length (map f xs)
map_within f xs k low = omega (arith, low, long_map f xs)

pub map_over : {A B : Type 0} (f : A → B) (xs : List A) (k : ℕ) → length xs ≤ k → length (map f xs) ≤ k
map_over f xs k all = omega (arith, all, long_map f xs)

pub within_long : {A B : Type 0} (f : A → B) (xs : List A) (n : ℕ) → length (map f xs) ≤ n → length xs ≤ n
within_long f xs n few = omega (arith, few, long_map f xs)
