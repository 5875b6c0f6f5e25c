-- The answers of `inspect`: with a status of 0, and where nothing stands against one. H is the digest function.
use Rattle.std.proofs.Common.{◌≡◌, inl, inr, ℕ, List, Option, Some, None, refl, sym, subst}
use Rattle.byte_cursor.specs.Growing.{Growing}
use Rattle.outside.specs.Files.{Files}
use Rattle.receipt_types.specs.Spelling.{Spells}
use Rattle.check_core.specs.Reports.{Report}
use Rattle.check_core.proofs.Refusing.{not_refused_itself}
use Rattle.inspect_json.specs.Text.{report_line}
use Rattle.cli_text.specs.declared.status.Status.{Status}
use Rattle.cli_text.specs.declared.status.Status.TheVariants.{Done, Refused}
use Rattle.command_frame.specs.declared.end.Answer.{Answer}
use Rattle.command_frame.specs.declared.end.End.TheVariants.{Told}
use Rattle.command_frame.specs.Ends.{Kept, IsPut, HasCause}
use Rattle.command_frame.specs.Reading.{IsRead}
use Rattle.command_frame.specs.declared.reading.TheConstants.{MOST_RECEIPT_BYTES}
use Rattle.command_frame.proofs.After.{told_put}
use Rattle.command_frame.proofs.Unread.{unread_not_done, unread_not_held, read_held}
use Rattle.check_calls.specs.Inspect.{IsReportedItself, Inspects, AnswersInspect, IsInspectedPut, PassesItself}

done_refused : {A : Type 0} → Done ≡ Refused → A
done_refused e = absurd (cc)

-- the text of the report is told
pub text_told : (H : List ℕ → List ℕ) (bytes : List ℕ) (report : Report) → IsReportedItself H bytes report → (lines : Growing ℕ) (answer : Answer)
    → answer ≡ record { status = Done; lines = lines; file = None } → lines.items ≡ report_line report → HasCause (Inspects H bytes) (Told answer)
text_told H bytes report reported lines answer is text =
    subst (λ (a : Answer). HasCause (Inspects H bytes) (Told a)) (sym is)
    (inl (record { report = report; reported = reported; told = record { status_is = refl; lines_are = text; nothing_kept = refl } }), tt)

module _ (H : List ℕ → List ℕ) (receipt : List ℕ) where
  module _ (told told' : Option Files) (taken taken' : Option (List ℕ)) (lines : List ℕ) (kept : Option Kept) (put : IsPut kept lines told told' taken taken') where
    inspects_done : (bytes : List ℕ) → IsRead MOST_RECEIPT_BYTES receipt told bytes → Inspects H bytes Done lines kept → IsInspectedPut H receipt told told' taken taken'
    inspects_done bytes is_read (inl is) = record {
      bytes = bytes;
      is_read = is_read;
      report = is.report;
      reported = is.reported;
      put = told_put Done (report_line is.report) Done lines kept told told' taken taken' is.told put;
    }
    inspects_done bytes is_read (inr refused) = done_refused refused.told.status_is

    pub inspect_done : AnswersInspect H receipt told Done lines kept → IsInspectedPut H receipt told told' taken taken'
    inspect_done (inl unread) = absurd (unread_not_done MOST_RECEIPT_BYTES receipt Done lines kept told unread refl)
    inspect_done (inr is) = inspects_done is.bytes is.is_read is.inspects

  module _ (files : Files) (passes : PassesItself H receipt files) (status : Status) (lines : List ℕ) (kept : Option Kept) where
    inspects_passes : (bytes : List ℕ) → bytes ≡ passes.bytes → Inspects H bytes status lines kept → status ≡ Done
    inspects_passes bytes same (inl is) = is.told.status_is
    inspects_passes bytes same (inr refused) =
        absurd (not_refused_itself H bytes passes.bundle (subst (λ (b : List ℕ). Spells passes.bundle b) (sym same) passes.spelled) passes.accepted refused.stop refused.refuses refused.not_memory)

    pub inspect_passes : AnswersInspect H receipt (Some files) status lines kept → status ≡ Done
    inspect_passes (inl unread) = absurd (unread_not_held MOST_RECEIPT_BYTES receipt status lines kept files passes.bytes unread passes.held passes.within)
    inspect_passes (inr is) = inspects_passes is.bytes (read_held MOST_RECEIPT_BYTES receipt files is.bytes passes.bytes is.is_read passes.held) is.inspects
