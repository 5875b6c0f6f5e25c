-- Bytes that are read and written, and calls that name digests.
use Rattle.std.proofs.Common.{ℕ, zero, suc, ◌+◌, ◌-◌, ◌<◌, ◌&&◌, leb, ltb, List, [], ◌∷◌, ◌++◌, length, get_or, drop, ◌*◌}
use Rattle.std.proofs.lemmas.Bool.{cond_both}
use Rattle.std.proofs.lemmas.List.Elements.{All-nil, All-cons}
use Rattle.digest_core.specs.Digests.{IsBytes, IsDigest}
use Rattle.page_core.specs.Memory.{bytes, put, top}
use Rattle.std.specs.Int.{w32, to_le_bytes}
use Rattle.std.specs.List.{flat_map}
use Rattle.page_core.proofs.Bytes.{length-bytes, small_in, words-small}
use Rattle.host_calls.specs.declared.call.AssumeCall.{AssumeCall}
use Rattle.page_core.specs.Pages.{ArePages}
use Rattle.page_core.specs.Memories.{page_of}
use Rattle.rv_step.specs.Machine.{State, full, full_of}
use Rattle.rv_step.specs.Acts.{AreCalls, IsMade}

pub AreCalls-append : (xs ys : List AssumeCall) → AreCalls xs → AreCalls ys → AreCalls (xs ++ ys)
AreCalls-append [] ys h k = k
AreCalls-append (x ∷ xs) ys h k = (h.0, AreCalls-append xs ys h.1 k)

pub bytes_are : (m : ℕ → ℕ) (a n : ℕ) → ((a : ℕ) → m a < 256) → IsBytes (bytes m a n)
unfolding bytes
bytes_are m a zero h = All-nil (λ (b : ℕ). b < 256)
bytes_are m a (suc n) h = All-cons (λ (b : ℕ). b < 256) (m a) (bytes m (a + 1) n) (h a) (bytes_are m (a + 1) n h)

pub digest_read : (m : ℕ → ℕ) (a : ℕ) → ((a : ℕ) → m a < 256) → IsDigest (bytes m a 32)
digest_read m a h = (length-bytes m a 32, bytes_are m a 32 h)

pub put_small : (m : ℕ → ℕ) (a : ℕ) (bs : List ℕ) (k : ℕ) → m k < 256 → IsBytes bs → put m a bs k < 256
unfolding put
put_small m a bs k h are =
    cond_both (leb a k && ltb k (a + length bs)) (get_or bs (k - a) 0) (m k) (λ (x : ℕ). x < 256) (λ e. small_in bs are (k - a)) (λ e. h)

-- the bytes of a state with its registers written into them
pub full_small : (s : State) → IsMade s → (a : ℕ) → full s a < 256
unfolding full_of
full_small s made a = put_small s.memory (top + 4) (flat_map (to_le_bytes w32) (drop 1 s.x)) a (made.memory a) (words-small (drop 1 s.x))

pub full_pages : (s : State) → IsMade s → ArePages (page_of (full s))
full_pages s made i = (length-bytes (full s) (1024 * i) 1024, bytes_are (full s) (1024 * i) 1024 (full_small s made))
