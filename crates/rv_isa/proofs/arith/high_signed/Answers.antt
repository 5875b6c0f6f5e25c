use Rattle.std.proofs.Common.{◌≡◌, ◌≤◌, ◌^◌, ◌/◌, ◌*ℤ◌, ℤ, pos, negsuc, ℕ, ap, ap₂, arith, ◌∙◌, to_z-of_z, to_z, of_z, SFits, w32, w64, unsigned_abs}
use Rattle.std.proofs.lemmas.Int.{fits_signed_mul}
use Rattle.rv_isa.specs.Words.{signed_of}
use Rattle.rv_isa.proofs.arith.high_signed.Goals as goal

abs_within : (z : ℤ) → SFits w32 z → unsigned_abs z ≤ 2 ^ 31
abs_within (pos n) f = omega (arith, f.sfits)
abs_within (negsuc n) f = omega (arith, f.sfits)

product : (x y a b : ℤ) → x ≡ a → y ≡ b → SFits w32 a → SFits w32 b
    → of_z w64 (to_z w64 (of_z w64 (x *ℤ y))) ≡ of_z w64 (a *ℤ b)
product x y a b e f g h =
    ap₂ (λ x y. of_z w64 (to_z w64 (of_z w64 (x *ℤ y)))) e f
    ∙ ap (of_z w64) (to_z-of_z (fits_signed_mul w64 a b (2 ^ 31) (2 ^ 31) (abs_within a g) (abs_within b h) (omega arith)))

widened : (x z : ℤ) (a : ℕ) → x ≡ to_z w32 (of_z w32 z) → z ≡ to_z w32 a → SFits w32 z → SFits w64 x → to_z w64 (of_z w64 x) ≡ signed_of a
widened x z a e f g h = to_z-of_z h ∙ e ∙ to_z-of_z g ∙ f

fitting : (z : ℤ) (a : ℕ) → z ≡ to_z w32 a → SFits w32 z → SFits w32 (signed_of a)
fitting z a e g = rw e at g

pub returns : goal.returns
returns c =
    let f : SFits w32 c.cast_signed.result = record { sfits = c.cast_signed.type_inv } in
    let g : SFits w32 c.cast_signed-2.result = record { sfits = c.cast_signed-2.type_inv } in
    let h : SFits w64 c.from.result = record { sfits = c.from.type_inv } in
    let k : SFits w64 c.from-2.result = record { sfits = c.from-2.type_inv } in
    ap (λ n. n / 2 ^ 32)
    (c.cast_unsigned.ensures
    ∙ product _ _ (signed_of c.args.a) (signed_of c.args.b)
    (widened _ _ _ c.from.ensures c.cast_signed.ensures f h)
    (widened _ _ _ c.from-2.ensures c.cast_signed-2.ensures g k)
    (fitting _ _ c.cast_signed.ensures f) (fitting _ _ c.cast_signed-2.ensures g))
