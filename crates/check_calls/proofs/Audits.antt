-- The answers of `audit`: with a status of 0, with a collision, and where nothing stands against a status of 0. H is the digest function.
use Rattle.std.proofs.Common.{◌≡◌, ◌≢◌, ◌⊎◌, ◌≤◌, inl, inr, ℕ, zero, suc, List, [], ◌∷◌, length, Option, Some, None, refl, sym, ap, subst, ◌∙◌, arith}
use Rattle.std.specs.Prelude.{option_map}
use Rattle.std.proofs.lemmas.Option.{same_Some}
use Rattle.outside.specs.Files.{Files}
use Rattle.page_core.specs.Images.{Image}
use Rattle.claim_types.specs.States.{state_digest, image_id, image_state}
use Rattle.elf_image.specs.Loaded.{Loads}
use Rattle.elf_image.proofs.Unique.{one_image}
use Rattle.receipt_types.specs.Bundles.{Entry, Bundle, item}
use Rattle.receipt_types.specs.Spelling.{Spells}
use Rattle.check_core.specs.declared.stop.CheckStop.{CheckStop}
use Rattle.check_core.specs.declared.stop.CheckStop.TheVariants as Check
use Rattle.check_core.specs.Entries.{first_at}
use Rattle.check_core.specs.Checked.{IsAccepted, StopsItself, RefusesItself}
use Rattle.check_core.specs.Vouching.{Faithful}
use Rattle.check_core.proofs.Refusing.{same_bundle, not_refused_itself}
use Rattle.audit.specs.declared.finding.Finding.{Finding}
use Rattle.audit.specs.declared.finding.Finding.TheVariants.{Sound, Collision}
use Rattle.audit.specs.declared.stop.AuditStop.{AuditStop}
use Rattle.audit.specs.declared.stop.AuditStop.TheVariants as Stop
use Rattle.audit.specs.Answers.{Finds, StopsAudit}
use Rattle.cli_text.specs.declared.status.Status.{Status}
use Rattle.cli_text.specs.declared.status.Status.TheVariants.{Done, Refused, Collision as CollisionFound}
use Rattle.cli_text.specs.Audits.{sound_lines, collision_lines, finding_lines}
use Rattle.command_frame.specs.Ends.{Kept, IsPut}
use Rattle.command_frame.specs.Reading.{IsTold, IsRead, HasImage, HasNoImage}
use Rattle.command_frame.specs.declared.reading.TheConstants.{MOST_ELF_BYTES, MOST_RECEIPT_BYTES}
use Rattle.command_frame.proofs.After.{told_put}
use Rattle.command_frame.proofs.Unread.{unread_not_done, unread_not_held, read_held, no_image_not_done, no_image_not_passes}
use Rattle.command_frame.proofs.Collided.{unread_not_collision, no_image_not_collision}
use Rattle.check_calls.specs.Audit.{AuditAsked, IsUnspelled, IsBundleTold, IsAgainstImage, Audits, AnswersAudit, IsAuditRead, IsSoundPut, IsCollisionPut, PassesAudit, status_of}

done_refused : Done ≡ Refused → ⊥
done_refused e = cc

collision_refused : CollisionFound ≡ Refused → ⊥
collision_refused e = cc

done_collision : {A : Type 0} → Done ≡ CollisionFound → A
done_collision e = absurd (cc)

collision_done : {A : Type 0} → CollisionFound ≡ Done → A
collision_done e = absurd (cc)

none_some : {A : Type 0} (x : A) → None ≡ Some x → ⊥
none_some x e = cc

-- a list has no item from its length on
none_beyond : (entries : List Entry) (e : ℕ) → length entries ≤ e → item entries e ≡ None
none_beyond [] e beyond = refl
none_beyond (entry ∷ entries) zero beyond = absurd (omega (arith, beyond))
none_beyond (entry ∷ entries) (suc e) beyond = none_beyond entries e (omega (arith, beyond))

module _ (H : List ℕ → List ℕ) (asked : AuditAsked) where
  -- ---- an audit that was made, from what was read
  record IsFound (told : Option Files) (status : Status) (lines : List ℕ) (kept : Option Kept) : Type 0 where
    read : IsAuditRead H asked told
    finding : Finding
    finds : Finds H read.bundle asked.entry read.image finding
    is_told : IsTold (status_of finding) (finding_lines finding) status lines kept

  module _ (told : Option Files) (status : Status) (other : status ≡ Refused → ⊥) (lines : List ℕ) (kept : Option Kept) where
    module _ (bytes : List ℕ) (is_read : IsRead MOST_RECEIPT_BYTES asked.receipt told bytes) (image : Image) (loads : HasImage asked.elf told image) where
      bundle_found : (bundle : Bundle) → Spells bundle bytes → IsBundleTold H bundle asked.entry image status lines kept → IsFound told status lines kept
      bundle_found bundle spelled (inl stopped) = absurd (other stopped.told.status_is)
      bundle_found bundle spelled (inr found) = record {
        read = record { bytes = bytes; is_read = is_read; image = image; loads = loads; bundle = bundle; spelled = spelled; auditable = found.auditable };
        finding = found.finding;
        finds = found.finds;
        is_told = found.told;
      }

      bytes_found : Audits H bytes asked.entry image status lines kept → IsFound told status lines kept
      bytes_found (inl none) = absurd (other none.told.status_is)
      bytes_found (inr some) = bundle_found some.bundle some.spelled some.answers

    module _ (bytes : List ℕ) (is_read : IsRead MOST_RECEIPT_BYTES asked.receipt told bytes) (no_image : HasNoImage asked.elf told status lines kept → ⊥) where
      image_found : HasNoImage asked.elf told status lines kept ⊎ IsAgainstImage H asked bytes told status lines kept → IsFound told status lines kept
      image_found (inl none) = absurd (no_image none)
      image_found (inr against) = bytes_found bytes is_read against.image against.loads against.audits

  module _ (told told' : Option Files) (taken taken' : Option (List ℕ)) (lines : List ℕ) (kept : Option Kept) (put : IsPut kept lines told told' taken taken') where
    -- ---- status 0
    sound_put : (read : IsAuditRead H asked told) (finding : Finding) → Finds H read.bundle asked.entry read.image finding → IsTold (status_of finding) (finding_lines finding) Done lines kept
        → IsSoundPut H asked told told' taken taken'
    sound_put read (Sound words) finds is = record {
      read = read;
      words = words.items;
      sound = finds;
      put = told_put Done (sound_lines words.items) Done lines kept told told' taken taken' is put;
    }
    sound_put read (Collision pair) finds is = done_collision is.status_is

    pub audit_done : AnswersAudit H asked told Done lines kept → IsSoundPut H asked told told' taken taken'
    audit_done (inl unread) = absurd (unread_not_done MOST_RECEIPT_BYTES asked.receipt Done lines kept told unread refl)
    audit_done (inr is) =
        let found = image_found told Done done_refused lines kept is.bytes is.is_read (λ none. no_image_not_done asked.elf Done lines kept told none refl) is.answers in
        sound_put found.read found.finding found.finds found.is_told

    -- ---- a collision
    pair_put : (read : IsAuditRead H asked told) (finding : Finding) → Finds H read.bundle asked.entry read.image finding → IsTold (status_of finding) (finding_lines finding) CollisionFound lines kept
        → IsCollisionPut H asked told told' taken taken'
    pair_put read (Sound words) finds is = collision_done is.status_is
    pair_put read (Collision pair) finds is = record {
      read = read;
      pair = pair;
      first = finds;
      put = told_put CollisionFound (collision_lines pair) CollisionFound lines kept told told' taken taken' is put;
    }

    pub audit_collision : AnswersAudit H asked told CollisionFound lines kept → IsCollisionPut H asked told told' taken taken'
    audit_collision (inl unread) = absurd (unread_not_collision MOST_RECEIPT_BYTES asked.receipt lines kept told unread)
    audit_collision (inr is) =
        let found = image_found told CollisionFound collision_refused lines kept is.bytes is.is_read (no_image_not_collision asked.elf lines kept told) is.answers in
        pair_put found.read found.finding found.finds found.is_told

-- ---- no stop stands against an entry that agrees with the run
module _ (H : List ℕ → List ℕ) (bytes : List ℕ) (B : Bundle) (spelled : Spells B bytes) (accepted : IsAccepted H B) where
  -- a stop of the bundle is one of its bytes
  stop_of_bundle : (stop : CheckStop) → StopsItself H B stop → stop ≢ Check.Memory → RefusesItself H bytes stop
  stop_of_bundle Check.Malformed stops said = absurd stops.2
  stop_of_bundle (Check.Version version) stops said = absurd stops.2
  stop_of_bundle (Check.WrongImage found) stops said = absurd stops
  stop_of_bundle (Check.Broken e k stop) stops said = record { bundle = B; spelled = spelled; stops = stops }
  stop_of_bundle (Check.Unjoined e k after before) stops said = record { bundle = B; spelled = spelled; stops = stops }
  stop_of_bundle (Check.EndInside e k) stops said = record { bundle = B; spelled = spelled; stops = stops }
  stop_of_bundle (Check.NoEnd e) stops said = record { bundle = B; spelled = spelled; stops = stops }
  stop_of_bundle (Check.LinkCount e calls links) stops said = record { bundle = B; spelled = spelled; stops = stops }
  stop_of_bundle (Check.BadLink e call wanted found) stops said = record { bundle = B; spelled = spelled; stops = stops }
  stop_of_bundle Check.Memory stops said = absurd (said refl)

  not_unspelled : (stop : CheckStop) → IsUnspelled bytes stop → ⊥
  not_unspelled Check.Malformed none = not_refused_itself H bytes B spelled accepted Check.Malformed none (λ e. cc)
  not_unspelled (Check.Version version) begins = not_refused_itself H bytes B spelled accepted (Check.Version version) begins (λ e. cc)
  not_unspelled (Check.WrongImage found) none = none
  not_unspelled (Check.Broken e k stop) none = none
  not_unspelled (Check.Unjoined e k after before) none = none
  not_unspelled (Check.EndInside e k) none = none
  not_unspelled (Check.NoEnd e) none = none
  not_unspelled (Check.LinkCount e calls links) none = none
  not_unspelled (Check.BadLink e call wanted found) none = none
  not_unspelled Check.Memory none = none

  module _ (e : ℕ) (image : Image) (faithful : Faithful H B e image) where
    first_is : first_at H B e ≡ Some (image_state H image)
    first_is = rw faithful.is_entry faithful.first

    not_stopped : (stop : AuditStop) → StopsAudit H B e image stop → stop ≢ Stop.Memory → ⊥
    not_stopped (Stop.Refused stop) stops other = not_refused_itself H bytes B spelled accepted stop (stop_of_bundle stop stops.0 stops.1) stops.1
    not_stopped (Stop.NoEntry count) stops other = none_some faithful.entry (sym (none_beyond B e (subst (λ (n : ℕ). n ≤ e) stops.count_is stops.none)) ∙ faithful.is_entry)
    not_stopped (Stop.OtherImage wanted found) stops other =
        stops.other (stops.wanted_is ∙ same_Some (image_id H image) found (sym (ap (option_map (state_digest H)) first_is) ∙ stops.found_is))
    not_stopped Stop.Memory stops other = other refl

-- ---- when it has to come
module _ (H : List ℕ → List ℕ) (asked : AuditAsked) (files : Files) (passes : PassesAudit H asked files) (status : Status) (lines : List ℕ) (kept : Option Kept) where
  finds_sound : (finding : Finding) → Finds H passes.bundle asked.entry passes.image finding → IsTold (status_of finding) (finding_lines finding) status lines kept → status ≡ Done
  finds_sound (Sound words) finds is = is.status_is
  finds_sound (Collision pair) finds is = absurd (finds.unfaithful passes.faithful)

  bundle_passes : IsBundleTold H passes.bundle asked.entry passes.image status lines kept → status ≡ Done
  bundle_passes (inl stopped) = absurd (not_stopped H passes.bytes passes.bundle passes.spelled passes.accepted asked.entry passes.image passes.faithful stopped.stop stopped.stops stopped.not_memory)
  bundle_passes (inr found) = finds_sound found.finding found.finds found.told

  audits_passes : Audits H passes.bytes asked.entry passes.image status lines kept → status ≡ Done
  audits_passes (inl none) = absurd (not_unspelled H passes.bytes passes.bundle passes.spelled passes.accepted none.stop none.unspelled)
  audits_passes (inr some) =
      bundle_passes
      (subst (λ (B : Bundle). IsBundleTold H B asked.entry passes.image status lines kept) (same_bundle passes.bytes some.bundle passes.bundle some.spelled passes.spelled) some.answers)

  same_image : (image : Image) → HasImage asked.elf (Some files) image → image ≡ passes.image
  same_image image has =
      one_image passes.elf image passes.image (subst (λ (file : List ℕ). Loads file image) (read_held MOST_ELF_BYTES asked.elf files has.bytes passes.elf has.is_read passes.elf_held) has.loads) passes.loads

  image_passes : (bytes : List ℕ) → bytes ≡ passes.bytes → HasNoImage asked.elf (Some files) status lines kept ⊎ IsAgainstImage H asked bytes (Some files) status lines kept → status ≡ Done
  image_passes bytes same (inl none) = absurd (no_image_not_passes asked.elf status lines kept files passes.elf none passes.elf_held passes.elf_within passes.loads.passes)
  image_passes bytes same (inr against) =
      audits_passes
      (subst (λ (image : Image). Audits H passes.bytes asked.entry image status lines kept) (same_image against.image against.loads)
      (subst (λ (b : List ℕ). Audits H b asked.entry against.image status lines kept) same against.audits))

  pub audit_passes : AnswersAudit H asked (Some files) status lines kept → status ≡ Done
  audit_passes (inl unread) = absurd (unread_not_held MOST_RECEIPT_BYTES asked.receipt status lines kept files passes.bytes unread passes.held passes.within)
  audit_passes (inr is) = image_passes is.bytes (read_held MOST_RECEIPT_BYTES asked.receipt files is.bytes passes.bytes is.is_read passes.held) is.answers
