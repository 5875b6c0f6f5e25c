-- The answers of `audit`, from those of its parts. H is the digest function.
use Rattle.std.proofs.Common.{◌≡◌, ◌≢◌, inl, inr, refl, sym, subst, ℕ, List, Option, Result, None}
use Rattle.byte_cursor.specs.Growing.{Growing}
use Rattle.outside.specs.Files.{Files}
use Rattle.page_core.specs.Images.{Image}
use Rattle.receipt_types.specs.Bundles.{Bundle}
use Rattle.receipt_types.specs.Spelling.{Spells}
use Rattle.receipt_codec.specs.declared.stop.ReadStop.{ReadStop}
use Rattle.receipt_codec.specs.declared.stop.ReadStop.TheVariants.{Malformed, Version, Memory}
use Rattle.receipt_codec.specs.Reading.{BeginsVersion}
use Rattle.check_core.specs.declared.stop.CheckStop.{CheckStop}
use Rattle.check_core.specs.Checking.{stop_of_bytes}
use Rattle.cli_text.specs.declared.status.Status.TheVariants.{Refused}
use Rattle.cli_text.specs.Refusals.{stop_lines}
use Rattle.command_frame.specs.declared.end.Answer.{Answer}
use Rattle.command_frame.specs.declared.end.End.{End}
use Rattle.command_frame.specs.declared.end.End.TheVariants.{Told}
use Rattle.command_frame.specs.Ends.{HasCause, IsEnded}
use Rattle.command_frame.specs.Reading.{IsRead, IsUnread, HasImage, HasNoImage}
use Rattle.command_frame.specs.declared.reading.TheConstants.{MOST_RECEIPT_BYTES}
use Rattle.command_frame.proofs.Causes.{cause_wider, ended_wider}
use Rattle.check_calls.specs.Audit.{AuditAsked, IsUnspelled, Audits, AnswersAudit}

module _ (H : List ℕ → List ℕ) (asked : AuditAsked) (told : Option Files) where
  pub audit_unread : (end : End) → HasCause (IsUnread MOST_RECEIPT_BYTES asked.receipt told) end → HasCause (AnswersAudit H asked told) end
  audit_unread end = cause_wider (IsUnread MOST_RECEIPT_BYTES asked.receipt told) (AnswersAudit H asked told) (λ status lines kept unread. inl unread) end

  module _ (bytes : List ℕ) (read : IsRead MOST_RECEIPT_BYTES asked.receipt told bytes) where
    pub audit_no_image : (end : End) → HasCause (HasNoImage asked.elf told) end → HasCause (AnswersAudit H asked told) end
    audit_no_image end =
        cause_wider (HasNoImage asked.elf told) (AnswersAudit H asked told) (λ status lines kept none. inr (record { bytes = bytes; is_read = read; answers = inl none })) end

    pub audit_made : (image : Image) → HasImage asked.elf told image → (outcome : Result Answer End) → IsEnded (Audits H bytes asked.entry image) outcome
        → IsEnded (AnswersAudit H asked told) outcome
    audit_made image loads outcome =
        ended_wider (Audits H bytes asked.entry image) (AnswersAudit H asked told)
        (λ status lines kept audits. inr (record { bytes = bytes; is_read = read; answers = inr (record { image = image; loads = loads; audits = audits }) })) outcome

-- why reading stops is why bytes spell no bundle
pub unspelled_of : (bytes : List ℕ) (stop : ReadStop) → (stop ≡ Malformed → (B : Bundle) → Spells B bytes → ⊥) → (stop ≡ Malformed → (v : ℕ) → BeginsVersion v bytes → ⊥)
    → ((v : ℕ) → stop ≡ Version v → BeginsVersion v bytes) → stop ≢ Memory → IsUnspelled bytes (stop_of_bytes stop)
unspelled_of bytes Malformed none no_version version other = record { none = none refl; no_version = no_version refl }
unspelled_of bytes (Version v) none no_version version other = version v refl
unspelled_of bytes Memory none no_version version other = absurd (other refl)

-- bytes that spell no bundle are told
pub unspelled_told : (H : List ℕ → List ℕ) (bytes : List ℕ) (entry : ℕ) (image : Image) (stop : CheckStop) → IsUnspelled bytes stop → (lines : Growing ℕ) (answer : Answer)
    → answer ≡ record { status = Refused; lines = lines; file = None } → lines.items ≡ stop_lines stop → HasCause (Audits H bytes entry image) (Told answer)
unspelled_told H bytes entry image stop unspelled lines answer is text =
    subst (λ (a : Answer). HasCause (Audits H bytes entry image) (Told a)) (sym is)
    (inl (record { stop = stop; unspelled = unspelled; told = record { status_is = refl; lines_are = text; nothing_kept = refl } }), tt)
