-- An uncut run, beside the seals of an entry. H is the digest function.
use Rattle.std.specs.Prelude.{◌≡◌, ℕ, ◌+◌, ◌^◌, ◌<◌, ◌≤◌, List, Some, None, Contains}
use Rattle.page_core.specs.Images.{Image}
use Rattle.page_core.specs.Memories.{page_of}
use Rattle.page_core.specs.Stored.{Stored}
use Rattle.page_core.specs.declared.sizes.TheConstants.{PAGES}
use Rattle.part_tree.specs.Part.{open_numbers}
use Rattle.rv_step.specs.Machine.{State, full}
use Rattle.rv_step.specs.Runs.{after}
use Rattle.flat_machine.specs.Going.{Going, flat_state, IsRunOf}
use Rattle.flat_machine.specs.Following.{HoldsMemory}
use Rattle.claim_types.specs.Claims.{SpanClaim}
use Rattle.receipt_types.specs.Seals.{Seal}
use Rattle.receipt_types.specs.Bundles.{Bundle, item}
use Rattle.check_core.specs.Entries.{claim_in}

-- these are the claims of a bundle's entries, by their numbers
abbrev pub TellClaims : (List ℕ → List ℕ) → Bundle → List SpanClaim → Type 0
TellClaims H B claims = (e : ℕ) → claim_in H B e ≡ item claims e

-- it is the run of an image and input words after b steps, none of which halted, and the tree has its memory with the registers
pub record IsAt (image : Image) (words : List ℕ) (b : ℕ) (going : Going) (tree : Stored) : Type 0 where
  pub run : IsRunOf going image words
  pub steps : going.steps ≡ b
  pub on : going.halted ≡ None
  pub memory : HoldsMemory tree (flat_state going)

-- the run goes on for the steps of a seal, and leaves the pages that the seal doesn't open as they are
pub record GoesThrough (going : Going) (tree : Stored) (seal : Seal) : Type 0 where
  pub image : Image
  pub words : List ℕ
  pub at : IsAt image words going.steps going tree
  pub few : going.steps + seal.steps ≤ 2 ^ 48
  pub next : State
  pub reached : after (flat_state going) seal.steps ≡ Some next
  pub left : (page : ℕ) → page < PAGES → ¬ Contains (open_numbers 0 seal.tree) page → page_of (full next) page ≡ page_of (full (flat_state going)) page

-- one run goes on from the other for the steps of a seal, and its tree has its memory
pub record HasGone (before after : Going) (tree : Stored) (seal : Seal) : Type 0 where
  pub steps : after.steps ≡ before.steps + seal.steps
  pub on : after.halted ≡ None
  pub run : (image : Image) (words : List ℕ) → IsRunOf before image words → IsRunOf after image words
  pub memory : HoldsMemory tree (flat_state after)
