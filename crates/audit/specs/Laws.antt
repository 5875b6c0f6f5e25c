-- The theorems on places. H is the digest function.
use Rattle.std.specs.Prelude.{◌≡◌, ⊤, ℕ, List, take, Option, Some, None, Contains}
use Rattle.host_calls.specs.declared.call.AssumeCall.{AssumeCall}
use Rattle.rv_step.specs.Machine.{State as MachineState, full}
use Rattle.rv_step.specs.Runs.{start, after}
use Rattle.page_core.specs.Images.{Image}
use Rattle.page_core.specs.Memories.{page_of}
use Rattle.part_tree.specs.Tree.{node_string}
use Rattle.part_tree.specs.Part.{part_strings}
use Rattle.part_tree.specs.Splits.{Pair}
use Rattle.claim_types.specs.declared.state.State.{State as SystemState}
use Rattle.claim_types.specs.States.{state_string, image_string}
use Rattle.claim_types.specs.Claims.{SpanClaim, resolved_output, claim_string, ok_output, ok_string}
use Rattle.receipt_types.specs.Seals.{Seal, words_of, steps_of}
use Rattle.receipt_types.specs.Bundles.{Entry, Bundle, item}
use Rattle.lift_join.specs.Joins.{chain_of}
use Rattle.check_core.specs.Entries.{first_at, claim_in}
use Rattle.check_core.specs.Auditing.{audit_pair}
use Rattle.audit.specs.declared.disagreement.Place.{Place}
use Rattle.audit.specs.declared.disagreement.Place.TheVariants.{State, Tree, Claim, Output}
use Rattle.audit.specs.Places.{place_in}

-- the strings of the entry's first state and of the image
pub record AreOfState (H : List ℕ → List ℕ) (B : Bundle) (e : ℕ) (image : Image) (pair : Pair) : Type 0 where
  pub first : SystemState
  pub is_first : first_at H B e ≡ Some first
  pub left : pair.left ≡ state_string H first
  pub right : pair.right ≡ image_string H image

-- one string of the tree of the entry's seal k, and that of node i of height h of the run's memory, with the registers, where the seal begins
pub record AreOfTree (H : List ℕ → List ℕ) (B : Bundle) (e : ℕ) (image : Image) (k h i : ℕ) (pair : Pair) : Type 0 where
  pub entry : Entry
  pub is_entry : item B e ≡ Some entry
  pub seal : Seal
  pub is_seal : item entry.seals k ≡ Some seal
  pub state : MachineState
  pub reached : after (start image (words_of entry.seals)) (steps_of (take k entry.seals)) ≡ Some state
  pub left : Contains (part_strings H seal.tree) pair.left
  pub right : pair.right ≡ node_string H (page_of (full state)) h i

-- call k of the entry, and the claim of the entry that it is linked to
pub record IsLinkedCall (H : List ℕ → List ℕ) (B : Bundle) (e k : ℕ) : Type 0 where
  pub entry : Entry
  pub is_entry : item B e ≡ Some entry
  pub claim : SpanClaim
  pub is_claim : chain_of H entry.seals ≡ Some claim
  pub call : AssumeCall
  pub is_call : item claim.calls k ≡ Some call
  pub link : ℕ
  pub is_link : item entry.links k ≡ Some link
  pub linked : SpanClaim
  pub is_linked : claim_in H B link ≡ Some linked

-- the strings that stand at a place: the receipt's on the left, the image's or what a call asks for on the right
abbrev pub StandAt : (List ℕ → List ℕ) → Bundle → ℕ → Image → Place → Pair → Type 0
StandAt H B e image State pair = AreOfState H B e image pair
StandAt H B e image (Tree seal height index) pair = AreOfTree H B e image seal height index pair
StandAt H B e image (Claim call) pair = (at : IsLinkedCall H B e call) × (pair.left ≡ claim_string H at.linked) × (pair.right ≡ ok_string H at.call)
StandAt H B e image (Output call) pair = (at : IsLinkedCall H B e call) × (pair.left ≡ resolved_output H at.linked) × (pair.right ≡ ok_output H at.call)

-- both or none, and the pair stands at the place
abbrev pub AreOne : (List ℕ → List ℕ) → Bundle → ℕ → Image → Option Pair → Option Place → Type 0
AreOne H B e image None None = ⊤
AreOne H B e image (Some pair) (Some place) = StandAt H B e image place pair
AreOne H B e image None (Some place) = ⊥
AreOne H B e image (Some pair) None = ⊥

abbrev pub PlacesHavePairs : (List ℕ → List ℕ) → Type 0
PlacesHavePairs H = (B : Bundle) (e : ℕ) (image : Image) → AreOne H B e image (audit_pair H B e image) (place_in H B e image)
