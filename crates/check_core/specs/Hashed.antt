-- What is hashed where a bundle is judged for an image. H is the digest function.
use Rattle.std.specs.Prelude.{ℕ, List, [], ◌∷◌, ◌++◌, Option, Some, None}
use Rattle.std.specs.List.{flat_map}
use Rattle.host_calls.specs.declared.call.AssumeCall.{AssumeCall}
use Rattle.rv_step.specs.Machine.{State}
use Rattle.page_core.specs.Images.{Image}
use Rattle.claim_types.specs.declared.claim.Exit.{Exit}
use Rattle.claim_types.specs.declared.claim.Exit.TheVariants.{Split, Halted as HaltedWith}
use Rattle.seal_replay.specs.Replay.{ending}
use Rattle.part_tree.specs.Tree.{tree_strings}
use Rattle.part_tree.specs.Part.{part_strings}
use Rattle.page_core.specs.Memories.{page_of}
use Rattle.claim_types.specs.States.{state_tag, state_string, halted_state, image_string}
use Rattle.claim_types.specs.Claims.{SpanClaim, output_tag, assumptions_tag, claim_tag, resolved_output, claim_string, ok_output, ok_string, conditional_output, conditional_string, assumption_cells}
use Rattle.receipt_types.specs.Seals.{Seal}
use Rattle.seal_replay.specs.Claiming.{put_tree}
use Rattle.lift_join.specs.Joins.{chain_of}
use Rattle.receipt_types.specs.Bundles.{Entry, Bundle}
use Rattle.part_tree.specs.declared.sizes.TheConstants.{HEIGHT}

-- the tree after a seal that ends in Split
abbrev pub end_strings : (List ℕ → List ℕ) → Seal → Option (Exit × State) → List (List ℕ)
end_strings H seal (Some (Split, t)) = part_strings H (put_tree seal t)
end_strings H seal (Some (HaltedWith code, t)) = []
end_strings H seal None = []

abbrev pub seal_strings : (List ℕ → List ℕ) → Seal → List (List ℕ)
seal_strings H seal = part_strings H seal.tree ++ end_strings H seal (ending seal)

-- for each call
abbrev pub ok_strings : (List ℕ → List ℕ) → AssumeCall → List (List ℕ)
ok_strings H call = ok_output H call ∷ ok_string H call ∷ state_string H halted_state ∷ []

-- of an entry's claim
abbrev pub claim_strings : (List ℕ → List ℕ) → Option SpanClaim → List (List ℕ)
claim_strings H None = []
claim_strings H (Some claim) =
    state_string H claim.before ∷ state_string H claim.after ∷ claim.journal
    ∷ resolved_output H claim ∷ conditional_output H claim ∷ claim_string H claim ∷ conditional_string H claim
    ∷ (assumption_cells H claim.calls ++ flat_map (ok_strings H) claim.calls)

abbrev pub entry_strings : (List ℕ → List ℕ) → Entry → List (List ℕ)
entry_strings H entry = flat_map (seal_strings H) entry.seals ++ claim_strings H (chain_of H entry.seals)

abbrev pub tag_names : List (List ℕ)
tag_names = state_tag ∷ output_tag ∷ assumptions_tag ∷ claim_tag ∷ []

-- what a bundle has hashed, and what it has hashed with an image
abbrev pub strings_of : (List ℕ → List ℕ) → Bundle → List (List ℕ)
strings_of H B = flat_map (entry_strings H) B ++ tag_names

abbrev pub hashed_strings : (List ℕ → List ℕ) → Bundle → Image → List (List ℕ)
hashed_strings H B image = strings_of H B ++ (tree_strings H (page_of image.memory) HEIGHT 0 ++ (image_string H image ∷ []))

-- ---- of these the strings that an audit compares
abbrev pub compared_oks : (List ℕ → List ℕ) → AssumeCall → List (List ℕ)
compared_oks H call = ok_output H call ∷ ok_string H call ∷ []

abbrev pub compared_claim : (List ℕ → List ℕ) → Option SpanClaim → List (List ℕ)
compared_claim H None = []
compared_claim H (Some claim) = state_string H claim.before ∷ resolved_output H claim ∷ claim_string H claim ∷ flat_map (compared_oks H) claim.calls

abbrev pub compared_entry : (List ℕ → List ℕ) → Entry → List (List ℕ)
compared_entry H entry = flat_map (seal_strings H) entry.seals ++ compared_claim H (chain_of H entry.seals)

abbrev pub compared_strings : (List ℕ → List ℕ) → Bundle → Image → List (List ℕ)
compared_strings H B image = flat_map (compared_entry H) B ++ (tree_strings H (page_of image.memory) HEIGHT 0 ++ (image_string H image ∷ []))
