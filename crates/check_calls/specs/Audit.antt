-- `audit`: what it answers, a cause a row, in their order; what a status of 0 and a collision tell; and when 0 has to come. H is the digest function.
use Rattle.std.specs.Prelude.{◌≡◌, ◌≢◌, ◌⊎◌, ℕ, ◌≤◌, List, length, Option, Some, None}
use Rattle.outside.specs.Files.{Files}
use Rattle.page_core.specs.Images.{Image}
use Rattle.part_tree.specs.Splits.{Pair}
use Rattle.elf_image.specs.Loaded.{Loads}
use Rattle.receipt_types.specs.Bundles.{Bundle}
use Rattle.receipt_types.specs.Spelling.{Spells}
use Rattle.receipt_codec.specs.Reading.{BeginsVersion}
use Rattle.check_core.specs.declared.stop.CheckStop.{CheckStop}
use Rattle.check_core.specs.declared.stop.CheckStop.TheVariants.{Malformed, Version}
use Rattle.check_core.specs.Checked.{IsAccepted}
use Rattle.check_core.specs.Checking.{IsMalformed}
use Rattle.check_core.specs.Vouching.{Faithful}
use Rattle.audit.specs.declared.finding.Finding.{Finding}
use Rattle.audit.specs.declared.finding.Finding.TheVariants.{Sound, Collision}
use Rattle.audit.specs.declared.stop.AuditStop.{AuditStop}
use Rattle.audit.specs.declared.stop.AuditStop.TheVariants.{Memory}
use Rattle.audit.specs.Answers.{IsAuditable, IsSound, IsFirstPair, Finds, StopsAudit}
use Rattle.cli_text.specs.declared.status.Status.{Status}
use Rattle.cli_text.specs.declared.status.Status.TheVariants.{Done, Refused, Collision as CollisionFound}
use Rattle.cli_text.specs.Refusals.{stop_lines}
use Rattle.cli_text.specs.Audits.{sound_lines, collision_lines, finding_lines, audit_stop_lines}
use Rattle.command_frame.specs.Ends.{Kept, IsPut}
use Rattle.command_frame.specs.Reading.{IsTold, IsRead, IsUnread, HasImage, HasNoImage}
use Rattle.command_frame.specs.declared.reading.TheConstants.{MOST_ELF_BYTES, MOST_RECEIPT_BYTES}

-- the names of a receipt and of an ELF file, and the number of an entry
pub record AuditAsked : Type 0 where
  pub receipt : List ℕ
  pub entry : ℕ
  pub elf : List ℕ

-- ---- the answers, in the order of their causes
-- why bytes spell no bundle
abbrev pub IsUnspelled : List ℕ → CheckStop → Type 0
IsUnspelled bytes Malformed = IsMalformed bytes
IsUnspelled bytes (Version version) = BeginsVersion version bytes
IsUnspelled bytes stop = ⊥

pub record IsUnspelledTold (bytes : List ℕ) (status : Status) (lines : List ℕ) (kept : Option Kept) : Type 0 where
  pub stop : CheckStop
  pub unspelled : IsUnspelled bytes stop
  pub told : IsTold Refused (stop_lines stop) status lines kept

-- the bundle's entry isn't audited
pub record IsUnauditedTold (H : List ℕ → List ℕ) (B : Bundle) (entry : ℕ) (image : Image) (status : Status) (lines : List ℕ) (kept : Option Kept) : Type 0 where
  pub stop : AuditStop
  pub stops : StopsAudit H B entry image stop
  pub not_memory : stop ≢ Memory
  pub told : IsTold Refused (audit_stop_lines entry stop) status lines kept

-- it is, and this is found
abbrev pub status_of : Finding → Status
status_of (Sound words) = Done
status_of (Collision pair) = CollisionFound

pub record IsAuditedTold (H : List ℕ → List ℕ) (B : Bundle) (entry : ℕ) (image : Image) (status : Status) (lines : List ℕ) (kept : Option Kept) : Type 0 where
  pub finding : Finding
  pub auditable : IsAuditable H B entry image
  pub finds : Finds H B entry image finding
  pub told : IsTold (status_of finding) (finding_lines finding) status lines kept

-- one or the other
abbrev pub IsBundleTold : (List ℕ → List ℕ) → Bundle → ℕ → Image → Status → List ℕ → Option Kept → Type 0
IsBundleTold H B entry image status lines kept = IsUnauditedTold H B entry image status lines kept ⊎ IsAuditedTold H B entry image status lines kept

-- the bytes spell this bundle
pub record IsSpelledTold (H : List ℕ → List ℕ) (bytes : List ℕ) (entry : ℕ) (image : Image) (status : Status) (lines : List ℕ) (kept : Option Kept) : Type 0 where
  pub bundle : Bundle
  pub spelled : Spells bundle bytes
  pub answers : IsBundleTold H bundle entry image status lines kept

abbrev pub Audits : (List ℕ → List ℕ) → List ℕ → ℕ → Image → Status → List ℕ → Option Kept → Type 0
Audits H bytes entry image status lines kept = IsUnspelledTold bytes status lines kept ⊎ IsSpelledTold H bytes entry image status lines kept

-- the ELF file loads an image, and this is answered of it
pub record IsAgainstImage (H : List ℕ → List ℕ) (asked : AuditAsked) (bytes : List ℕ) (told : Option Files) (status : Status) (lines : List ℕ) (kept : Option Kept) : Type 0 where
  pub image : Image
  pub loads : HasImage asked.elf told image
  pub audits : Audits H bytes asked.entry image status lines kept

-- the receipt is read, and then the ELF file
pub record IsReadForAudit (H : List ℕ → List ℕ) (asked : AuditAsked) (told : Option Files) (status : Status) (lines : List ℕ) (kept : Option Kept) : Type 0 where
  pub bytes : List ℕ
  pub is_read : IsRead MOST_RECEIPT_BYTES asked.receipt told bytes
  pub answers : HasNoImage asked.elf told status lines kept ⊎ IsAgainstImage H asked bytes told status lines kept

abbrev pub AnswersAudit : (List ℕ → List ℕ) → AuditAsked → Option Files → Status → List ℕ → Option Kept → Type 0
AnswersAudit H asked told status lines kept =
    IsUnread MOST_RECEIPT_BYTES asked.receipt told status lines kept
    ⊎ IsReadForAudit H asked told status lines kept

-- ---- status 0, and a collision
-- what was read: the bytes spell a bundle that is accepted under the digest of its own first state, the ELF file loads an image, and the
-- entry's first state has its id
pub record IsAuditRead (H : List ℕ → List ℕ) (asked : AuditAsked) (told : Option Files) : Type 0 where
  pub bytes : List ℕ
  pub is_read : IsRead MOST_RECEIPT_BYTES asked.receipt told bytes
  pub image : Image
  pub loads : HasImage asked.elf told image
  pub bundle : Bundle
  pub spelled : Spells bundle bytes
  pub auditable : IsAuditable H bundle asked.entry image

-- with status 0 the entry agrees with the image's uncut run and vouches for it, and exactly the lines of its words are put
pub record IsSoundPut (H : List ℕ → List ℕ) (asked : AuditAsked) (told told' : Option Files) (taken taken' : Option (List ℕ)) : Type 0 where
  pub read : IsAuditRead H asked told
  pub words : List ℕ
  pub sound : IsSound H read.bundle asked.entry read.image words
  pub put : IsPut None (sound_lines words) told told' taken taken'

-- with a collision exactly the lines of the first pair that differs are put, two hashed strings with one digest
pub record IsCollisionPut (H : List ℕ → List ℕ) (asked : AuditAsked) (told told' : Option Files) (taken taken' : Option (List ℕ)) : Type 0 where
  pub read : IsAuditRead H asked told
  pub pair : Pair
  pub first : IsFirstPair H read.bundle asked.entry read.image pair
  pub put : IsPut None (collision_lines pair) told told' taken taken'

-- status 0 has to come where the receipt's bytes, as told, spell a bundle that is accepted under the digest of its own first state, the ELF
-- file's, as told, load an image, and the entry agrees with its uncut run
pub record PassesAudit (H : List ℕ → List ℕ) (asked : AuditAsked) (files : Files) : Type 0 where
  pub bytes : List ℕ
  pub held : files asked.receipt ≡ Some bytes
  pub within : length bytes ≤ MOST_RECEIPT_BYTES
  pub bundle : Bundle
  pub spelled : Spells bundle bytes
  pub accepted : IsAccepted H bundle
  pub elf : List ℕ
  pub elf_held : files asked.elf ≡ Some elf
  pub elf_within : length elf ≤ MOST_ELF_BYTES
  pub image : Image
  pub loads : Loads elf image
  pub faithful : Faithful H bundle asked.entry image
