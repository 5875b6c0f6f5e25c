-- Claims that follow one another. H is the digest function.
use Rattle.std.specs.Prelude.{ℕ, Bool, true, false, cond, ◌&&◌, eqb, List, [], ◌∷◌, ◌++◌, Option, Some, None}
use Rattle.std.specs.Str.{bytes_eq}
use Rattle.claim_types.specs.declared.claim.Exit.{Exit}
use Rattle.claim_types.specs.declared.claim.Exit.TheVariants.{Split, Halted as HaltedWith}
use Rattle.claim_types.specs.declared.state.State.{State as SystemState}
use Rattle.claim_types.specs.Claims.{SpanClaim}
use Rattle.receipt_types.specs.Seals.{Seal}
use Rattle.seal_replay.specs.Claiming.{claim_of}

-- the same pc and the same root
abbrev pub same_state : SystemState → SystemState → Bool
same_state a b = eqb a.pc b.pc && bytes_eq a.root b.root

abbrev pub is_split : Exit → Bool
is_split Split = true
is_split (HaltedWith code) = false

-- two claims as one
abbrev pub joint_claim : SpanClaim → SpanClaim → SpanClaim
joint_claim a b = record { before = a.before; after = b.after; exit = b.exit; journal = a.journal ++ b.journal; calls = a.calls ++ b.calls }

-- defined where the left one is split and the right one begins where it ends
abbrev pub claim_join : SpanClaim → SpanClaim → Option SpanClaim
claim_join a b = cond (is_split a.exit && same_state a.after b.before) (Some (joint_claim a b)) None

abbrev pub join_both : Option SpanClaim → Option SpanClaim → Option SpanClaim
join_both (Some a) (Some b) = claim_join a b
join_both (Some a) None = None
join_both None b = None

-- the claims of seals, joined
abbrev pub chain_of : (List ℕ → List ℕ) → List Seal → Option SpanClaim
chain_of H [] = None
chain_of H (seal ∷ []) = claim_of H seal
chain_of H (seal ∷ next ∷ seals) = join_both (claim_of H seal) (chain_of H (next ∷ seals))
