-- What holds of every chain. H is the digest function.
use Rattle.std.specs.Prelude.{◌≡◌, ◌≢◌, ℕ, List, [], ◌++◌}
use Rattle.receipt_types.specs.Seals.{Seal}
use Rattle.lift_join.specs.Joins.{join_both, chain_of}

-- the chain of two lists of seals is the join of their chains
abbrev pub ChainsJoin : (List ℕ → List ℕ) → Type 0
ChainsJoin H = (xs ys : List Seal) → xs ≢ [] → ys ≢ [] → chain_of H (xs ++ ys) ≡ join_both (chain_of H xs) (chain_of H ys)
