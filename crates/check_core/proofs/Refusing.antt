-- The bytes of an accepted bundle aren't refused. H is the digest function.
use Rattle.std.proofs.Common.{◌≡◌, ◌≢◌, ℕ, ◌/◌, ◌%◌, List, [], ◌++◌, get_or, Some, None, refl, sym, ap, subst, ◌∙◌, arith}
use Rattle.std.specs.Prelude.{option_map}
use Rattle.std.proofs.lemmas.Option.{same_Some}
use Rattle.claim_types.specs.States.{state_digest}
use Rattle.receipt_types.specs.Bundles.{Bundle}
use Rattle.receipt_types.specs.Spelling.{Spells}
use Rattle.receipt_types.proofs.Form.{limits_give_form}
use Rattle.receipt_codec.specs.Reading.{BeginsVersion}
use Rattle.receipt_codec.proofs.Wholes.{one_bundle}
use Rattle.check_core.specs.declared.stop.CheckStop.{CheckStop}
use Rattle.check_core.specs.declared.stop.CheckStop.TheVariants as Stop
use Rattle.check_core.specs.Judgement.{Accepts, first_stop}
use Rattle.check_core.specs.Checking.{Refuses}
use Rattle.check_core.specs.Checked.{IsAccepted, IsOwnId, RefusesItself}
use Rattle.check_core.proofs.Unstopped.{accepted_unstopped}

none_not_some : {A : Type 0} (x : A) → None ≡ Some x → ⊥
none_not_some x e = cc

-- bytes spell one bundle at most
pub same_bundle : (bytes : List ℕ) (x y : Bundle) → Spells x bytes → Spells y bytes → x ≡ y
same_bundle bytes x y left right = (one_bundle x y [] [] left.limits right.limits (ap (λ (b : List ℕ). b ++ []) (sym left.is ∙ right.is))).0

-- and none where they begin with another version
other_version : (bytes : List ℕ) (B : Bundle) (version : ℕ) → BeginsVersion version bytes → Spells B bytes → ⊥
other_version bytes B version begins spelled =
    let same = sym begins.is ∙ spelled.is in
    let low : version % 256 ≡ 1 = ap (λ (b : List ℕ). get_or b 4 0) same in
    let high : version / 256 % 256 ≡ 0 = ap (λ (b : List ℕ). get_or b 5 0) same in
    begins.other (omega (arith, low, high, begins.fits))

module _ (H : List ℕ → List ℕ) (bytes : List ℕ) (B : Bundle) (spelled : Spells B bytes) where
  module _ (id : List ℕ) (accepted : Accepts H B id) where
    -- nothing stops it
    not_stopped : (C : Bundle) (stop : CheckStop) → Spells C bytes → first_stop H C id ≡ Some stop → ⊥
    not_stopped C stop spells is_first =
        none_not_some stop
        (sym ((accepted_unstopped H B id (limits_give_form B spelled.limits)).1 accepted) ∙ ap (λ (X : Bundle). first_stop H X id) (same_bundle bytes B C spelled spells) ∙ is_first)

    pub not_refused : (stop : CheckStop) → Refuses H id bytes stop → stop ≢ Stop.Memory → ⊥
    not_refused Stop.Malformed refuses said = refuses.none B spelled
    not_refused (Stop.Version version) refuses said = other_version bytes B version refuses spelled
    not_refused (Stop.WrongImage found) refuses said = not_stopped refuses.bundle (Stop.WrongImage found) refuses.spelled refuses.stops
    not_refused (Stop.Broken e k stop) refuses said = not_stopped refuses.bundle (Stop.Broken e k stop) refuses.spelled refuses.stops
    not_refused (Stop.Unjoined e k after before) refuses said = not_stopped refuses.bundle (Stop.Unjoined e k after before) refuses.spelled refuses.stops
    not_refused (Stop.EndInside e k) refuses said = not_stopped refuses.bundle (Stop.EndInside e k) refuses.spelled refuses.stops
    not_refused (Stop.NoEnd e) refuses said = not_stopped refuses.bundle (Stop.NoEnd e) refuses.spelled refuses.stops
    not_refused (Stop.LinkCount e calls links) refuses said = not_stopped refuses.bundle (Stop.LinkCount e calls links) refuses.spelled refuses.stops
    not_refused (Stop.BadLink e call wanted found) refuses said = not_stopped refuses.bundle (Stop.BadLink e call wanted found) refuses.spelled refuses.stops
    not_refused Stop.Memory refuses said = said refl

  module _ (accepted : IsAccepted H B) where
    -- the id under which it is accepted is its own
    own_id : (id : List ℕ) → IsOwnId H B id → accepted.0 ≡ id
    own_id id own = same_Some accepted.0 id (ap Some (sym accepted.1.same_id) ∙ sym (ap (option_map (state_digest H)) accepted.1.is_first) ∙ own)

    not_stopped_itself : (C : Bundle) (stop : CheckStop) (id : List ℕ) → Spells C bytes → IsOwnId H C id → first_stop H C id ≡ Some stop → ⊥
    not_stopped_itself C stop id spells own is_first =
        let same = same_bundle bytes C B spells spelled in
        let is_own = own_id id (subst (λ (X : Bundle). IsOwnId H X id) same own) in
        not_stopped id (subst (Accepts H B) is_own accepted.1) C stop spells is_first

    -- under the digest of its own first state
    pub not_refused_itself : (stop : CheckStop) → RefusesItself H bytes stop → stop ≢ Stop.Memory → ⊥
    not_refused_itself Stop.Malformed refuses said = refuses.none B spelled
    not_refused_itself (Stop.Version version) refuses said = other_version bytes B version refuses spelled
    not_refused_itself (Stop.WrongImage found) refuses said = refuses.stops
    not_refused_itself (Stop.Broken e k stop) r said = not_stopped_itself r.bundle (Stop.Broken e k stop) r.stops.0 r.spelled r.stops.1 r.stops.2
    not_refused_itself (Stop.Unjoined e k after before) r said = not_stopped_itself r.bundle (Stop.Unjoined e k after before) r.stops.0 r.spelled r.stops.1 r.stops.2
    not_refused_itself (Stop.EndInside e k) r said = not_stopped_itself r.bundle (Stop.EndInside e k) r.stops.0 r.spelled r.stops.1 r.stops.2
    not_refused_itself (Stop.NoEnd e) r said = not_stopped_itself r.bundle (Stop.NoEnd e) r.stops.0 r.spelled r.stops.1 r.stops.2
    not_refused_itself (Stop.LinkCount e calls links) r said = not_stopped_itself r.bundle (Stop.LinkCount e calls links) r.stops.0 r.spelled r.stops.1 r.stops.2
    not_refused_itself (Stop.BadLink e call wanted found) r said = not_stopped_itself r.bundle (Stop.BadLink e call wanted found) r.stops.0 r.spelled r.stops.1 r.stops.2
    not_refused_itself Stop.Memory refuses said = said refl
