-- All commands: what is answered with a status of 0, what with a collision, and where nothing stands against a status of 0. H is the digest function.
use Rattle.std.proofs.Common.{◌≡◌, inl, inr, ℕ, List, Option, Some, None, subst}
use Rattle.outside.specs.Files.{Files}
use Rattle.check_core.specs.Laws.{FaithfulVouches, Headline}
use Rattle.cli_text.specs.CheckWords.{NamesCheck}
use Rattle.cli_text.specs.declared.check_words.CheckJob.{CheckJob}
use Rattle.cli_text.specs.declared.check_words.CheckJob.TheVariants.{Check, CheckInto, Audit, Id, Inspect}
use Rattle.cli_text.proofs.OneCheck.{one_job}
use Rattle.cli_text.specs.declared.status.Status.{Status}
use Rattle.cli_text.specs.declared.status.Status.TheVariants.{Done, Words, Collision}
use Rattle.command_frame.specs.Ends.{Kept, IsPut, Ends}
use Rattle.command_frame.proofs.After.{done_by}
use Rattle.command_frame.proofs.AnswerPut.{put_by}
use Rattle.check_calls.specs.Top.{check_of, audit_of, CheckJobTable, CheckTable, IsDoneCheckJob, IsDoneCheck, IsCollision, CompletesCheckJob, CompletesCheck}
use Rattle.check_calls.proofs.Checks.{check_done, check_passes}
use Rattle.check_calls.proofs.Audits.{audit_done, audit_collision, audit_passes}
use Rattle.check_calls.proofs.Ids.{id_done, id_passes}
use Rattle.check_calls.proofs.Inspections.{inspect_done, inspect_passes}
use Rattle.check_calls.proofs.Collided.{check_not_collision, id_not_collision, inspect_not_collision}

done_words : {A : Type 0} → Done ≡ Words → A
done_words e = absurd (cc)

collision_words : {A : Type 0} → Collision ≡ Words → A
collision_words e = absurd (cc)

module _ (H : List ℕ → List ℕ) where
  -- ---- status 0
  module _ (law : Headline H) (faithful : FaithfulVouches H) (told told' : Option Files) (taken taken' : Option (List ℕ)) where
    module _ (lines : List ℕ) (kept : Option Kept) (put : IsPut kept lines told told' taken taken') where
      job_done : (job : CheckJob) → CheckJobTable H job told Done lines kept → IsDoneCheckJob H job told told' taken taken'
      job_done (Check receipt id) answers = check_done H (check_of receipt id None) law faithful told told' taken taken' lines kept put answers
      job_done (CheckInto receipt id journal) answers = check_done H (check_of receipt id (Some journal)) law faithful told told' taken taken' lines kept put answers
      job_done (Audit receipt entry elf) answers = audit_done H (audit_of receipt entry elf) told told' taken taken' lines kept put answers
      job_done (Id elf) answers = id_done H elf told told' taken taken' lines kept put answers
      job_done (Inspect receipt) answers = inspect_done H receipt told told' taken taken' lines kept put answers

      answers_done : (words : List (List ℕ)) → CheckTable H words told Done lines kept → IsDoneCheck H words told told' taken taken'
      answers_done words (inl none) = done_words none.1.status_is
      answers_done words (inr some) = record { job = some.job; names = some.names; done = job_done some.job some.answers }

    pub top_done : (words : List (List ℕ)) (status : Status) → status ≡ Done → Ends (CheckTable H words told) status told told' taken taken' → IsDoneCheck H words told told' taken taken'
    top_done words status is ends =
        let done = done_by (CheckTable H words told) status told told' taken taken' is ends in
        answers_done done.lines done.kept done.put words done.answers

  -- ---- a collision
  module _ (told told' : Option Files) (taken taken' : Option (List ℕ)) where
    module _ (lines : List ℕ) (kept : Option Kept) (put : IsPut kept lines told told' taken taken') (words : List (List ℕ)) where
      job_collision : (job : CheckJob) → NamesCheck words job → CheckJobTable H job told Collision lines kept → IsCollision H words told told' taken taken'
      job_collision (Check receipt id) names answers = absurd (check_not_collision H told lines kept (check_of receipt id None) answers)
      job_collision (CheckInto receipt id journal) names answers = absurd (check_not_collision H told lines kept (check_of receipt id (Some journal)) answers)
      job_collision (Audit receipt entry elf) names answers = record {
        receipt = receipt;
        entry = entry;
        elf = elf;
        names = names;
        put = audit_collision H (audit_of receipt entry elf) told told' taken taken' lines kept put answers;
      }
      job_collision (Id elf) names answers = absurd (id_not_collision H told lines kept elf answers)
      job_collision (Inspect receipt) names answers = absurd (inspect_not_collision H told lines kept receipt answers)

      answers_collision : CheckTable H words told Collision lines kept → IsCollision H words told told' taken taken'
      answers_collision (inl none) = collision_words none.1.status_is
      answers_collision (inr some) = job_collision some.job some.names some.answers

    pub top_collision : (words : List (List ℕ)) (status : Status) → status ≡ Collision → Ends (CheckTable H words told) status told told' taken taken' → IsCollision H words told told' taken taken'
    top_collision words status is ends =
        let by = put_by (CheckTable H words told) told told' taken taken' Collision tt status is ends in
        answers_collision by.lines by.kept by.put words by.answers

  -- ---- when it has to come
  module _ (status : Status) (lines : List ℕ) (kept : Option Kept) where
    job_passes : (files : Files) (job : CheckJob) → CompletesCheckJob H job files → CheckJobTable H job (Some files) status lines kept → status ≡ Done
    job_passes files (Check receipt id) passes answers = check_passes H (check_of receipt id None) files passes status lines kept answers
    job_passes files (CheckInto receipt id journal) passes answers = check_passes H (check_of receipt id (Some journal)) files passes status lines kept answers
    job_passes files (Audit receipt entry elf) passes answers = audit_passes H (audit_of receipt entry elf) files passes status lines kept answers
    job_passes files (Id elf) passes answers = id_passes H elf files passes status lines kept answers
    job_passes files (Inspect receipt) passes answers = inspect_passes H receipt files passes status lines kept answers

    pub top_passes : (words : List (List ℕ)) (told : Option Files) → CompletesCheck H words told → CheckTable H words told status lines kept → status ≡ Done
    top_passes words told complete (inl none) = absurd (none.0 complete.job complete.names)
    top_passes words told complete (inr some) =
        job_passes complete.files complete.job complete.passes
        (subst (λ (job : CheckJob). CheckJobTable H job (Some complete.files) status lines kept) (one_job words some.job complete.job some.names complete.names)
        (subst (λ (t : Option Files). CheckJobTable H some.job t status lines kept) complete.is_told some.answers))
