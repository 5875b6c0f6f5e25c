-- The answers of `check`: with a status of 0, and where nothing stands against one. H is the digest function.
use Rattle.std.proofs.Common.{◌≡◌, inl, inr, ℕ, List, Option, Some, refl, sym, subst}
use Rattle.outside.specs.Files.{Files}
use Rattle.receipt_types.specs.Spelling.{Spells}
use Rattle.receipt_types.proofs.Form.{limits_give_form}
use Rattle.check_core.specs.Laws.{FaithfulVouches, Headline}
use Rattle.check_core.specs.Reports.{Report}
use Rattle.check_core.specs.Checking.{IsReported}
use Rattle.check_core.proofs.Refusing.{not_refused}
use Rattle.cli_text.specs.declared.status.Status.{Status}
use Rattle.cli_text.specs.declared.status.Status.TheVariants.{Done, Refused}
use Rattle.cli_text.specs.Reports.{valid_lines}
use Rattle.command_frame.specs.Ends.{Kept, IsPut}
use Rattle.command_frame.specs.Reading.{IsRead}
use Rattle.command_frame.specs.declared.reading.TheConstants.{MOST_RECEIPT_BYTES}
use Rattle.command_frame.proofs.Unread.{unread_not_done, unread_not_held, read_held}
use Rattle.check_calls.specs.Check.{CheckAsked, IsHeadlined, IsValid, Judges, AnswersCheck, IsCheckedPut, Passes}

done_refused : {A : Type 0} → Done ≡ Refused → A
done_refused e = absurd (cc)

module _ (H : List ℕ → List ℕ) (asked : CheckAsked) where
  -- ---- status 0
  module _ (law : Headline H) (faithful : FaithfulVouches H) where
    -- what is accepted carries the headline
    headlined : (bytes : List ℕ) (report : Report) (r : IsReported H asked.id bytes report) → IsHeadlined H r.bundle
    headlined bytes report r =
        let form = limits_give_form r.bundle r.spelled.limits in
        record {
          vouches = λ e first image is_image is_first same. law r.bundle asked.id e first image form is_image r.accepted is_first same;
          faithful = λ e image is_image agrees. faithful r.bundle asked.id e image form is_image r.accepted agrees;
        }

    module _ (told told' : Option Files) (taken taken' : Option (List ℕ)) (lines : List ℕ) (kept : Option Kept) (put : IsPut kept lines told told' taken taken') where
      valid_checked : (bytes : List ℕ) → IsRead MOST_RECEIPT_BYTES asked.receipt told bytes → IsValid H asked.id asked.journal bytes Done lines kept → IsCheckedPut H asked told told' taken taken'
      valid_checked bytes is_read valid = record {
        bytes = bytes;
        is_read = is_read;
        report = valid.report;
        reported = valid.reported;
        headlined = headlined bytes valid.report valid.reported;
        put = subst (λ (k : Option Kept). IsPut k (valid_lines valid.report) told told' taken taken') valid.kept_is (subst (λ (t : List ℕ). IsPut kept t told told' taken taken') valid.lines_are put);
      }

      judged_checked : (bytes : List ℕ) → IsRead MOST_RECEIPT_BYTES asked.receipt told bytes → Judges H asked.id asked.journal bytes Done lines kept → IsCheckedPut H asked told told' taken taken'
      judged_checked bytes is_read (inl valid) = valid_checked bytes is_read valid
      judged_checked bytes is_read (inr refused) = done_refused refused.told.status_is

      pub check_done : AnswersCheck H asked told Done lines kept → IsCheckedPut H asked told told' taken taken'
      check_done (inl unread) = absurd (unread_not_done MOST_RECEIPT_BYTES asked.receipt Done lines kept told unread refl)
      check_done (inr judged) = judged_checked judged.bytes judged.is_read judged.judges

  -- ---- when it has to come
  module _ (files : Files) (passes : Passes H asked files) (status : Status) (lines : List ℕ) (kept : Option Kept) where
    judged_passes : (bytes : List ℕ) → bytes ≡ passes.bytes → Judges H asked.id asked.journal bytes status lines kept → status ≡ Done
    judged_passes bytes same (inl valid) = valid.status_is
    judged_passes bytes same (inr refused) =
        absurd (not_refused H bytes passes.bundle (subst (λ (b : List ℕ). Spells passes.bundle b) (sym same) passes.spelled) asked.id passes.accepted refused.stop refused.refuses refused.not_memory)

    pub check_passes : AnswersCheck H asked (Some files) status lines kept → status ≡ Done
    check_passes (inl unread) = absurd (unread_not_held MOST_RECEIPT_BYTES asked.receipt status lines kept files passes.bytes unread passes.held passes.within)
    check_passes (inr judged) =
        judged_passes judged.bytes (read_held MOST_RECEIPT_BYTES asked.receipt files judged.bytes passes.bytes judged.is_read passes.held) judged.judges
