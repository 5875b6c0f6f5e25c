-- A digest function that collides at sight, for tests.
use Rattle.std.specs.Prelude.{ℕ, ◌%◌, ◌<◌, List, ◌∷◌, length, sum, replicate}
use Rattle.std.proofs.Common.{zero, suc, refl, arith}
use Rattle.std.proofs.lemmas.List.Elements.{All-nil, All-cons}
use Rattle.digest_core.specs.Digests.{IsBytes, IsDigest}

-- the sum of the bytes and their number, each modulo 256, and 30 zeros
unfoldable pub weak_digest : List ℕ → List ℕ
weak_digest m = sum m % 256 ∷ length m % 256 ∷ replicate 30 0

-- n zeros are bytes
pub IsBytes-zeros : (n : ℕ) → IsBytes (replicate n 0)
IsBytes-zeros zero = All-nil (λ b. b < 256)
IsBytes-zeros (suc n) = All-cons (λ b. b < 256) 0 (replicate n 0) (omega arith) (IsBytes-zeros n)

pub IsDigest-weak : (m : List ℕ) → IsDigest (weak_digest m)
unfolding weak_digest
IsDigest-weak m = (
  refl,
  All-cons (λ b. b < 256) (sum m % 256) (length m % 256 ∷ replicate 30 0) (omega arith)
      (All-cons (λ b. b < 256) (length m % 256) (replicate 30 0) (omega arith) (IsBytes-zeros 30)),
)
