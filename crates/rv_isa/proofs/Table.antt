-- The table of instructions: no word matches two rows.
use Rattle.std.proofs.Common.{◌≡◌, ℕ, zero, suc, Bool, true, false, not, ◌&&◌, ◌||◌, eqb, List, [], ◌∷◌, refl, ap, subst, Option, Some, None, pos, negsuc, arith, IsTrue, inl, inr, ◌⊎◌, ⊎_elim, slice_get, find, option_map}
use Rattle.std.proofs.lemmas.Bool.Decides.{nat_tests}
use Rattle.rv_isa.specs.declared.instr.AluOp.TheVariants.{Add}
use Rattle.rv_isa.specs.declared.instr.Instr.TheVariants.{AluImm, Ebreak, Lui}
use Rattle.rv_isa.specs.Rows.{Row, rows, rd, imm_u, is, opcode, funct3, funct7, differ_at, apart, apart_from_all, all_apart, decode_of, fits, matches, RowsAreApart}

pub table_apart : all_apart rows ≡ true
unfolding rows all_apart
table_apart = refl

and_split : (a b : Bool) → IsTrue (a && b) → IsTrue a × IsTrue b
and_split true b h = (refl, h)
and_split false b h = absurd (cc)

or_split : (a b : Bool) → IsTrue (a || b) → IsTrue a ⊎ IsTrue b
or_split true b h = inl refl
or_split false b h = inr h

not_both_fields : (a b : Option ℕ) (n : ℕ) → IsTrue (differ_at a b) → IsTrue (is a n) → IsTrue (is b n) → ⊥
not_both_fields (Some x) (Some y) n h e f = other x y n h e f
  where
    other : (x y n : ℕ) → not (eqb x y) ≡ true → eqb n x ≡ true → eqb n y ≡ true → ⊥
    other x y n h e f = grind (arith, nat_tests)
not_both_fields (Some x) None n h e f = cc
not_both_fields None b n h e f = cc

not_both_opcodes : (n x y : ℕ) → not (eqb x y) ≡ true → eqb n x ≡ true → eqb n y ≡ true → ⊥
not_both_opcodes n x y h e f = grind (arith, nat_tests)

not_both : (w : ℕ) (r q : Row) → IsTrue (apart r q) → IsTrue (matches w r) → IsTrue (matches w q) → ⊥
unfolding fits
not_both w r q h e f =
    let e3 = and_split _ _ e in
    let e2 = and_split _ _ e3.0 in
    let e1 = and_split _ _ e2.0 in
    let f3 = and_split _ _ f in
    let f2 = and_split _ _ f3.0 in
    let f1 = and_split _ _ f2.0 in
    ⊎_elim
    (λ t. ⊎_elim
    (λ t. ⊎_elim
    (λ t. not_both_opcodes (opcode w) r.opcode q.opcode t e1.0 f1.0)
    (λ t. not_both_fields r.funct3 q.funct3 (funct3 w) t e1.1 f1.1)
    (or_split _ _ t))
    (λ t. not_both_fields r.funct7 q.funct7 (funct7 w) t e2.1 f2.1)
    (or_split _ _ t))
    (λ t. not_both_fields r.whole q.whole w t e3.1 f3.1)
    (or_split _ _ h)

from_all : (r q : Row) (qs : List Row) (j : ℕ) → IsTrue (apart_from_all r qs) → slice_get qs j ≡ Some q → IsTrue (apart r q)
from_all r q [] j h e = absurd (cc)
from_all r q (p ∷ qs) zero h e = let s : p ≡ q = cc in subst (λ (x : Row). IsTrue (apart r x)) s (and_split (apart r p) (apart_from_all r qs) h).0
from_all r q (p ∷ qs) (suc j) h e = from_all r q qs j (and_split (apart r p) (apart_from_all r qs) h).1 e

one_row : (w : ℕ) (rs : List Row) (i j : ℕ) (r q : Row) → IsTrue (all_apart rs)
    → slice_get rs i ≡ Some r → slice_get rs j ≡ Some q → IsTrue (matches w r) → IsTrue (matches w q) → i ≡ j
unfolding all_apart
one_row w [] i j r q h e f m n = absurd (cc)
one_row w (p ∷ rs) zero zero r q h e f m n = refl
one_row w (p ∷ rs) zero (suc j) r q h e f m n =
    let s : p ≡ r = cc in
    absurd (not_both w r q (subst (λ (x : Row). IsTrue (apart x q)) s (from_all p q rs j (and_split (apart_from_all p rs) (all_apart rs) h).0 f)) m n)
one_row w (p ∷ rs) (suc i) zero r q h e f m n =
    let s : p ≡ q = cc in
    absurd (not_both w q r (subst (λ (x : Row). IsTrue (apart x r)) s (from_all p r rs i (and_split (apart_from_all p rs) (all_apart rs) h).0 e)) n m)
one_row w (p ∷ rs) (suc i) (suc j) r q h e f m n = ap suc (one_row w rs i j r q (and_split (apart_from_all p rs) (all_apart rs) h).1 e f m n)

pub rows_are_apart : RowsAreApart
rows_are_apart w i j r q e f m n = one_row w rows i j r q table_apart e f m n

-- what a word with these fields decodes to
pub decode_at : (w op f3 f7 : ℕ) → opcode w ≡ op → funct3 w ≡ f3 → funct7 w ≡ f7
    → decode_of w ≡ option_map (λ r. r.instr w) (find (fits op f3 f7 w) rows)
unfolding decode_of
decode_at w op f3 f7 e f g = λ i. option_map (λ r. r.instr w) (find (fits (e i) (f i) (g i) w) rows)

pub decode_lui : (w : ℕ) → opcode w ≡ 0b0110111 → decode_of w ≡ Some (Lui (rd w) (imm_u w))
unfolding rows fits
decode_lui w e = decode_at w 0b0110111 (funct3 w) (funct7 w) e refl refl

sample_addi : decode_of 0x00700513 ≡ Some (AluImm Add 10 0 (pos 7))
unfolding decode_of fits rows
sample_addi = refl

sample_back : decode_of 0xFFF28293 ≡ Some (AluImm Add 5 5 (negsuc 0))
unfolding decode_of fits rows
sample_back = refl

sample_break : decode_of 0x00100073 ≡ Some Ebreak
unfolding decode_of fits rows
sample_break = refl

sample_none : decode_of 0x00000000 ≡ None
unfolding decode_of fits rows
sample_none = refl
