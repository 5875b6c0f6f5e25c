-- What a bundle says of an image. H is the digest function.
use Rattle.std.specs.Prelude.{◌≡◌, ℕ, ◌+◌, ◌-◌, List, [], ◌∷◌, Some}
use Rattle.host_calls.specs.declared.call.AssumeCall.{AssumeCall}
use Rattle.rv_step.specs.Machine.{State, full}
use Rattle.page_core.specs.Images.{Image}
use Rattle.rv_step.specs.Runs.{start, after}
use Rattle.claim_types.specs.declared.claim.Exit.TheVariants.{Halted as HaltedWith}
use Rattle.rv_step.specs.Laws.{HaltsAfter}
use Rattle.part_tree.specs.Part.{Agree}
use Rattle.page_core.specs.Memories.{page_of}
use Rattle.claim_types.specs.States.{state_digest, image_state}
use Rattle.claim_types.specs.Claims.{SpanClaim}
use Rattle.receipt_types.specs.Seals.{Seal, words_of, steps_of}
use Rattle.lift_join.specs.Joins.{chain_of}
use Rattle.receipt_types.specs.Bundles.{Entry, Bundle, item}
use Rattle.check_core.specs.Entries.{first_of, claim_in}
use Rattle.part_tree.specs.declared.sizes.TheConstants.{HEIGHT}

-- the linked entry begins with the image, halts with 0 and has the journal that the call names
pub record LinkedTo (H : List ℕ → List ℕ) (B : Bundle) (call : AssumeCall) (link : ℕ) : Type 0 where
  pub claim : SpanClaim
  pub is_claim : claim_in H B link ≡ Some claim
  pub image : state_digest H claim.before ≡ call.image
  pub exit : claim.exit ≡ HaltedWith 0
  pub journal : H claim.journal ≡ call.journal

-- each call has its link, to such an entry
abbrev pub Linked : (List ℕ → List ℕ) → Bundle → List AssumeCall → List ℕ → Type 0
Linked H B [] [] = Unit {0}
Linked H B [] (link ∷ links) = ⊥
Linked H B (call ∷ calls) [] = ⊥
Linked H B (call ∷ calls) (link ∷ links) = LinkedTo H B call link × Linked H B calls links

-- the entry's words make the image's uncut run halt in its last step with the entry's exit code, journal and calls, and no word left
pub record Vouches (H : List ℕ → List ℕ) (B : Bundle) (e : ℕ) (image : Image) : Type 0 where
  pub entry : Entry
  pub is_entry : item B e ≡ Some entry
  pub claim : SpanClaim
  pub is_claim : chain_of H entry.seals ≡ Some claim
  pub code : ℕ
  pub exit : claim.exit ≡ HaltedWith code
  pub run : HaltsAfter (start image (words_of entry.seals)) (steps_of entry.seals - 1) code claim.journal claim.calls
  pub linked : Linked H B claim.calls entry.links

-- so does it with exit code 0 and a journal that has the digest that the call names
pub record VouchesFor (H : List ℕ → List ℕ) (B : Bundle) (e : ℕ) (image : Image) (call : AssumeCall) : Type 0 where
  pub vouches : Vouches H B e image
  pub code : vouches.code ≡ 0
  pub journal : H vouches.claim.journal ≡ call.journal

-- the seal begins where the run from r is after b steps, and its tree agrees with the memory and registers there
pub record SealAgrees (H : List ℕ → List ℕ) (r : State) (b : ℕ) (seal : Seal) : Type 0 where
  pub state : State
  pub reached : after r b ≡ Some state
  pub pc : seal.pc ≡ state.pc
  pub agrees : Agree H (page_of (full state)) HEIGHT 0 seal.tree

abbrev pub SealsAgree : (List ℕ → List ℕ) → State → ℕ → List Seal → Type 0
SealsAgree H r b [] = Unit {0}
SealsAgree H r b (seal ∷ seals) = SealAgrees H r b seal × SealsAgree H r (b + seal.steps) seals

-- each of the entry's seals agrees with the image's uncut run on the entry's words
pub record Faithful (H : List ℕ → List ℕ) (B : Bundle) (e : ℕ) (image : Image) : Type 0 where
  pub entry : Entry
  pub is_entry : item B e ≡ Some entry
  pub first : first_of H entry.seals ≡ Some (image_state H image)
  pub seals : SealsAgree H (start image (words_of entry.seals)) 0 entry.seals
  pub claim : SpanClaim
  pub is_claim : chain_of H entry.seals ≡ Some claim
  pub linked : Linked H B claim.calls entry.links
