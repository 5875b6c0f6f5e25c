-- The host calls: the number stands in x17 and the arguments in x10 and x11.
use Rattle.std.specs.Prelude.{ℕ, ◌+◌, ◌*◌, ◌/◌, ◌%◌, Bool, cond, ◌&&◌, leb, eqb, List, [], ◌∷◌, get_or, Result, Ok, Err}
use Rattle.rv_isa.specs.declared.fault.Fault.{Fault}
use Rattle.rv_isa.specs.declared.fault.Fault.TheVariants.{BadAddress, BadCall, BadArgs}
use Rattle.host_calls.specs.declared.call.Call.{Call}
use Rattle.host_calls.specs.declared.call.Call.TheVariants.{Halt, Read, Commit, Assume}
use Rattle.page_core.specs.Memory.{top}

-- the ranges that a call reads or writes, each an address and a number of bytes
abbrev pub ranges_of : Call → List (ℕ × ℕ)
ranges_of (Halt code) = []
ranges_of (Read pointer count) = (pointer, 4 * count) ∷ []
ranges_of (Commit pointer count) = (pointer, count) ∷ []
ranges_of (Assume image journal) = (image, 32) ∷ (journal, 32) ∷ []

-- a range of at least one byte ends at the register page or below
abbrev pub fits_below : ℕ → ℕ → Bool
fits_below a n = cond (eqb n 0) (leb 0 0) (leb (a + n) top)

-- the call, where each of its ranges fits, or else the fault of the first that does not
unfoldable pub within : List (ℕ × ℕ) → Call → Result Call Fault
within [] call = Ok call
within (r ∷ rs) call = cond (fits_below r.0 r.1) (within rs call) (Err (BadAddress r.0))

unfoldable pub call_or_fault : ℕ → Bool → Call → Result Call Fault
call_or_fault number good call = cond good (within (ranges_of call) call) (Err (BadArgs number))

abbrev pub call_with : ℕ → ℕ → ℕ → Result Call Fault
call_with number a0 a1 =
    cond (eqb number 0) (Ok (Halt a0))
    (cond (eqb number 1) (call_or_fault 1 (eqb (a0 % 4) 0 && leb a1 256) (Read a0 a1))
    (cond (eqb number 2) (call_or_fault 2 (leb a1 1024) (Commit a0 a1))
    (cond (eqb number 3) (call_or_fault 3 (eqb (a0 % 4) 0 && eqb (a1 % 4) 0) (Assume a0 a1))
    (Err (BadCall number)))))

-- the call that the registers x name
unfoldable pub read_call_of : List ℕ → Result Call Fault
read_call_of x = call_with (get_or x 17 0) (get_or x 10 0) (get_or x 11 0)

-- how many input words a call takes
abbrev pub takes : Call → ℕ
takes (Halt code) = 0
takes (Read pointer count) = count
takes (Commit pointer count) = 0
takes (Assume image journal) = 0

-- the cost of the step
abbrev pub cost_of : Call → ℕ
cost_of (Halt code) = 1
cost_of (Read pointer count) = 1 + count
cost_of (Commit pointer count) = 1 + (count + 3) / 4
cost_of (Assume image journal) = 17
