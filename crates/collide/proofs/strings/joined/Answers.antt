use Rattle.std.proofs.Common.{◌≡◌, ℕ, List, [], ◌++◌, length, take, drop, refl, ap, ap₂, ◌∙◌, arith}
use Rattle.std.proofs.lemmas.List.{append-nil, take_at, drop_at, drop_all}
use Rattle.collide.proofs.strings.joined.Goals as goal

-- 32 bytes put before the last 32 of 64
put_last : (a b rest : List ℕ) → length a ≡ 32 → length rest ≡ 32 → take 32 (a ++ rest) ++ (b ++ drop 32 (drop 32 (a ++ rest))) ≡ a ++ b
put_last a b rest first last =
    let none : drop 32 (drop 32 (a ++ rest)) ≡ [] = ap (drop 32) (drop_at a rest 32 first) ∙ drop_all 32 rest (omega arith) in
    ap₂ ◌++◌ (take_at a rest 32 first) (ap (λ (s : List ℕ). b ++ s) none ∙ append-nil b)

pub returns : goal.returns
returns c =
    let left = c.copy_from_slice.ensures.after ∙ c.bytes.ensures.value in
    let right = c.copy_from_slice-2.ensures.after ∙ c.bytes-2.ensures.value in
    put_last c.copy_from_slice.new.self c.copy_from_slice-2.new.self _ (ap length left ∙ c.bytes.ensures.digest.0) refl ∙ ap₂ ◌++◌ left right
