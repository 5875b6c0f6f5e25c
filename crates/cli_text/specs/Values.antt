-- The numbers and ids that words tell.
use Rattle.std.specs.Prelude.{◌≡◌, ℕ, ◌≤◌, List, Ok}
use Rattle.hex.specs.Hex.{decode_sized}
use Rattle.guest_gen.specs.declared.generator.TheConstants.{SIZE_MAX}
use Rattle.cli_text.specs.declared.values.TheConstants.{WORKERS_MAX}

-- 64 hexadecimal digits of either case, and the 32 bytes that they tell
abbrev pub IsId : List ℕ → List ℕ → Type 0
IsId word id = decode_sized word 32 ≡ Ok id

-- a number of workers
abbrev pub AreWorkers : ℕ → Type 0
AreWorkers n = n ≤ WORKERS_MAX

-- a size of the generator's guest
abbrev pub IsSize : ℕ → Type 0
IsSize n = (1 ≤ n) × (n ≤ SIZE_MAX)
