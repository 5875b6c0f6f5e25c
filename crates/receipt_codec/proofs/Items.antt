-- Lists of items, one after the other: what the front of some bytes says of those that they spell.
use Rattle.std.proofs.Common.{◌≡◌, ℕ, ◌+◌, ◌<◌, List, [], ◌∷◌, ◌++◌, length, map, All, refl, sym, ap, ap₂, subst, ◌∙◌, append_assoc, arith}
use Rattle.std.specs.List.{flat_map}
use Rattle.std.proofs.lemmas.List.Elements.{All-head, All-tail}
use Rattle.std.proofs.lemmas.List.Concat.{flat_map-cons}
use Rattle.std.proofs.lemmas.List.{flat_map_more, map-append}
use Rattle.receipt_codec.specs.Reading.{NoneSpelled, OneSpelled}

-- the items from number e on fit, each at its number
abbrev pub FitFrom : {A : Type 0} → (ℕ → A → Type 0) → ℕ → List A → Type 0
FitFrom Fits e [] = Unit {0}
FitFrom Fits e (x ∷ xs) = Fits e x × FitFrom Fits (e + 1) xs

-- items that all fit whatever their number do so from any number on
pub all_fit : {A : Type 0} (P : A → Type 0) (e : ℕ) (xs : List A) → All P xs → FitFrom (λ at. P) e xs
all_fit P e [] keep = tt
all_fit P e (x ∷ xs) keep = (All-head P x xs keep, all_fit P (e + 1) xs (All-tail P x xs keep))

-- the bytes of a list, with more after them, begin with those of its first item
pub list_parts : {A : Type 0} (spelling : A → List ℕ) (x : A) (xs : List A) (rest : List ℕ) → flat_map spelling (x ∷ xs) ++ rest ≡ spelling x ++ (flat_map spelling xs ++ rest)
list_parts spelling x xs rest =
    ap (λ (z : List ℕ). z ++ rest) (flat_map-cons spelling x xs) ∙ append_assoc (spelling x) (flat_map spelling xs) rest

-- what is made of items and of one more
pub map_one_more : {A B : Type 0} (f : A → B) (xs all : List A) (x : A) (y : B) → all ≡ xs ++ x ∷ [] → f x ≡ y → map f all ≡ map f xs ++ y ∷ []
map_one_more f xs all x y is at = ap (map f) is ∙ map-append f xs (x ∷ []) ∙ ap (λ z. map f xs ++ z ∷ []) at

-- the bytes of items and of one more are those of the longer list
pub spelled_one_more : {A : Type 0} (spelling : A → List ℕ) (xs : List A) (x : A) (bytes after more : List ℕ) → bytes ≡ flat_map spelling xs ++ after → after ≡ spelling x ++ more
    → bytes ≡ flat_map spelling (xs ++ x ∷ []) ++ more
spelled_one_more spelling xs x bytes after more spelled next =
    spelled ∙ ap (λ (z : List ℕ). flat_map spelling xs ++ z) next ∙ sym (append_assoc (flat_map spelling xs) (spelling x) more)
    ∙ ap (λ (z : List ℕ). z ++ more) (flat_map_more spelling [] xs x)

-- as many items have bytes of their own
pub one_list : {A : Type 0} (spelling : A → List ℕ) (Fits : ℕ → A → Type 0) → ((e : ℕ) → OneSpelled spelling (Fits e)) → (e : ℕ) (xs ys : List A) (rest more : List ℕ)
    → length xs ≡ length ys → FitFrom Fits e xs → FitFrom Fits e ys → flat_map spelling xs ++ rest ≡ flat_map spelling ys ++ more → (xs ≡ ys) × (rest ≡ more)
one_list spelling Fits one e [] [] rest more n p q same = (refl, same)
one_list spelling Fits one e [] (y ∷ ys) rest more n p q same = absurd (omega arith)
one_list spelling Fits one e (x ∷ xs) [] rest more n p q same = absurd (omega arith)
one_list spelling Fits one e (x ∷ xs) (y ∷ ys) rest more n p q same =
    let head = one e x y (flat_map spelling xs ++ rest) (flat_map spelling ys ++ more) p.0 q.0 (sym (list_parts spelling x xs rest) ∙ same ∙ list_parts spelling y ys more) in
    let tail = one_list spelling Fits one (e + 1) xs ys rest more (omega arith) p.1 q.1 head.1 in
    (ap₂ ◌∷◌ head.0 tail.0, tail.1)

-- where items stand in front and nothing after them spells the next, no longer list stands there
pub no_list : {A : Type 0} (spelling : A → List ℕ) (Fits : ℕ → A → Type 0) → ((e : ℕ) → OneSpelled spelling (Fits e)) → (e : ℕ) (xs ys : List A) (after rest : List ℕ)
    → length xs < length ys → FitFrom Fits e xs → FitFrom Fits e ys → NoneSpelled spelling (Fits (e + length xs)) after → flat_map spelling xs ++ after ≡ flat_map spelling ys ++ rest → ⊥
no_list spelling Fits one e xs [] after rest lt p q none same = omega arith
no_list spelling Fits one e [] (y ∷ ys) after rest lt p q none same =
    let at : e + 0 ≡ e = omega arith in
    subst (λ (n : ℕ). NoneSpelled spelling (Fits n) after) at none y (flat_map spelling ys ++ rest) q.0 (same ∙ list_parts spelling y ys rest)
no_list spelling Fits one e (x ∷ xs) (y ∷ ys) after rest lt p q none same =
    let head = one e x y (flat_map spelling xs ++ after) (flat_map spelling ys ++ rest) p.0 q.0 (sym (list_parts spelling x xs after) ∙ same ∙ list_parts spelling y ys rest) in
    let at : e + length (x ∷ xs) ≡ (e + 1) + length xs = omega arith in
    no_list spelling Fits one (e + 1) xs ys after rest (omega arith) p.1 q.1 (subst (λ (n : ℕ). NoneSpelled spelling (Fits n) after) at none) head.1
