-- A host call that registers name takes at most 256 words.
use Rattle.std.proofs.Common.{ℕ, ◌%◌, ◌≤◌, Bool, ◌&&◌, leb, eqb, List, [], ◌∷◌, get_or, arith, IsTrue, Result, Ok, Err}
use Rattle.std.proofs.lemmas.Bool.{cond_both}
use Rattle.std.proofs.lemmas.Bool.Decides.{nat_tests}
use Rattle.rv_isa.specs.declared.fault.Fault.{Fault}
use Rattle.host_calls.specs.declared.call.Call.{Call}
use Rattle.host_calls.specs.declared.call.Call.TheVariants.{Read, Commit, Assume}
use Rattle.host_calls.specs.Calls.{fits_below, within, call_or_fault, read_call_of, ranges_of, takes}

abbrev pub IsFew : Result Call Fault → Type 0
IsFew (Ok call) = takes call ≤ 256
IsFew (Err fault) = Unit {0}

within_few : (rs : List (ℕ × ℕ)) (call : Call) → takes call ≤ 256 → IsFew (within rs call)
unfolding within
within_few [] call few = few
within_few (r ∷ rs) call few = cond_both (fits_below r.0 r.1) _ _ IsFew (λ e. within_few rs call few) (λ e. tt)

checked_few : (number : ℕ) (good : Bool) (call : Call) → (IsTrue good → takes call ≤ 256) → IsFew (call_or_fault number good call)
unfolding call_or_fault
checked_few number good call few = cond_both good _ _ IsFew (λ e. within_few (ranges_of call) call (few e)) (λ e. tt)

pub read_call_few : (x : List ℕ) → IsFew (read_call_of x)
unfolding read_call_of
read_call_few x =
    cond_both (eqb number 0) _ _ IsFew (λ e. omega arith)
    (λ e. cond_both (eqb number 1) _ _ IsFew
    (λ e. checked_few 1 (eqb (a0 % 4) 0 && leb a1 256) (Read a0 a1) (λ good. grind (arith, nat_tests)))
    (λ e. cond_both (eqb number 2) _ _ IsFew
    (λ e. checked_few 2 (leb a1 1024) (Commit a0 a1) (λ good. omega arith))
    (λ e. cond_both (eqb number 3) _ _ IsFew
    (λ e. checked_few 3 (eqb (a0 % 4) 0 && eqb (a1 % 4) 0) (Assume a0 a1) (λ good. omega arith)) (λ e. tt))))
  where
    number : ℕ
    number = get_or x 17 0

    a0 : ℕ
    a0 = get_or x 10 0

    a1 : ℕ
    a1 = get_or x 11 0
