-- What an audit answers. H is the digest function.
use Rattle.std.specs.Prelude.{◌≡◌, ◌≢◌, ⊤, ℕ, ◌≤◌, List, length, Some, None, option_map}
use Rattle.page_core.specs.Images.{Image}
use Rattle.part_tree.specs.Splits.{Pair}
use Rattle.digest_core.specs.Collisions.{IsCollision}
use Rattle.claim_types.specs.declared.state.State.{State as SystemState}
use Rattle.claim_types.specs.States.{state_digest, image_id}
use Rattle.receipt_types.specs.Seals.{words_of}
use Rattle.receipt_types.specs.Bundles.{Bundle, item}
use Rattle.check_core.specs.declared.stop.CheckStop.{CheckStop}
use Rattle.check_core.specs.declared.stop.CheckStop.TheVariants as Check
use Rattle.check_core.specs.Entries.{first_at}
use Rattle.check_core.specs.Checked.{IsAccepted, StopsItself}
use Rattle.check_core.specs.Auditing.{audit_pair}
use Rattle.check_core.specs.Hashed.{hashed_strings}
use Rattle.check_core.specs.Vouching.{Vouches, Faithful}
use Rattle.audit.specs.declared.finding.Finding.{Finding}
use Rattle.audit.specs.declared.finding.Finding.TheVariants.{Sound, Collision}
use Rattle.audit.specs.declared.stop.AuditStop.{AuditStop}
use Rattle.audit.specs.declared.stop.AuditStop.TheVariants.{Refused, NoEntry, OtherImage, Memory}

-- ---- the audit that is made
-- the bundle is accepted under the digest of its own first state, it has the entry, and the entry's first state has the image's id
pub record IsAuditable (H : List ℕ → List ℕ) (B : Bundle) (e : ℕ) (image : Image) : Type 0 where
  pub accepted : IsAccepted H B
  pub first : SystemState
  pub is_first : first_at H B e ≡ Some first
  pub same_id : state_digest H first ≡ image_id H image

-- nothing differs, the entry agrees with the image's uncut run and vouches for it, and these are the words of its seals
pub record IsSound (H : List ℕ → List ℕ) (B : Bundle) (e : ℕ) (image : Image) (words : List ℕ) : Type 0 where
  pub none : audit_pair H B e image ≡ None
  pub faithful : Faithful H B e image
  pub vouches : Vouches H B e image
  pub are_words : option_map (λ entry. words_of entry.seals) (item B e) ≡ Some words

-- this is the first pair that differs: two strings that are bytes, are hashed for bundle and image, and have one digest; the entry
-- doesn't agree with the run
pub record IsFirstPair (H : List ℕ → List ℕ) (B : Bundle) (e : ℕ) (image : Image) (pair : Pair) : Type 0 where
  pub first : audit_pair H B e image ≡ Some pair
  pub collision : IsCollision H (hashed_strings H B image) pair.left pair.right
  pub unfaithful : Faithful H B e image → ⊥

abbrev pub Finds : (List ℕ → List ℕ) → Bundle → ℕ → Image → Finding → Type 0
Finds H B e image (Sound words) = IsSound H B e image words.items
Finds H B e image (Collision pair) = IsFirstPair H B e image pair

-- ---- the audit that isn't made
abbrev pub stop_of_check : CheckStop → AuditStop
stop_of_check Check.Memory = Memory
stop_of_check stop = Refused stop

-- the bundle is accepted, and has so many entries, but not this one
pub record HasNoEntry (H : List ℕ → List ℕ) (B : Bundle) (e count : ℕ) : Type 0 where
  pub accepted : IsAccepted H B
  pub count_is : count ≡ length B
  pub none : count ≤ e

-- the bundle is accepted, and the entry's first state has this digest, which isn't the image's id
pub record HasOtherImage (H : List ℕ → List ℕ) (B : Bundle) (e : ℕ) (image : Image) (wanted found : List ℕ) : Type 0 where
  pub accepted : IsAccepted H B
  pub wanted_is : wanted ≡ image_id H image
  pub found_is : option_map (state_digest H) (first_at H B e) ≡ Some found
  pub other : wanted ≢ found

-- the causes exclude one another, but for want of memory
abbrev pub StopsAudit : (List ℕ → List ℕ) → Bundle → ℕ → Image → AuditStop → Type 0
StopsAudit H B e image (Refused stop) = StopsItself H B stop × (stop ≢ Check.Memory)
StopsAudit H B e image (NoEntry count) = HasNoEntry H B e count
StopsAudit H B e image (OtherImage wanted found) = HasOtherImage H B e image wanted found
StopsAudit H B e image Memory = ⊤
