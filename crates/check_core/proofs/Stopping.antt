-- What stops a bundle, part by part. H is the digest function.
use Rattle.std.proofs.Common.{◌≡◌, ◌≢◌, ℕ, ◌+◌, ⊎_elim, inl, inr, ◌⊎◌, Bool, true, false, List, [], ◌∷◌, length, Option, Some, None, refl, sym, ap, ap₂, ◌∙◌, subst}
use Rattle.std.specs.Prelude.{⊤, option_map}
use Rattle.std.specs.Option.{option_or}
use Rattle.std.specs.Str.{bytes_eq}
use Rattle.host_calls.specs.declared.call.AssumeCall.{AssumeCall}
use Rattle.rv_step.specs.Machine.{State}
use Rattle.std.proofs.lemmas.Option.{same_Some}
use Rattle.claim_types.specs.declared.claim.Exit.{Exit}
use Rattle.claim_types.specs.declared.claim.Exit.TheVariants.{Split, Halted as HaltedWith}
use Rattle.claim_types.specs.declared.state.State.{State as SystemState}
use Rattle.claim_types.specs.States.{state_digest}
use Rattle.claim_types.specs.Claims.{SpanClaim, ok_digest}
use Rattle.receipt_types.specs.Seals.{Seal}
use Rattle.receipt_types.specs.Bundles.{Entry, Bundle}
use Rattle.receipt_types.specs.Limits.{KeepsLimits}
use Rattle.receipt_types.proofs.Form.{limits_give_form}
use Rattle.seal_replay.specs.Replay.{stop_of, ending}
use Rattle.seal_replay.specs.declared.stop.ReplayStop.{ReplayStop}
use Rattle.seal_replay.specs.Claiming.{before_of, after_of}
use Rattle.lift_join.specs.Joins.{same_state, chain_of}
use Rattle.check_core.specs.declared.stop.CheckStop.{CheckStop}
use Rattle.check_core.specs.declared.stop.CheckStop.TheVariants as Stop
use Rattle.check_core.specs.Entries.{first_at, digest_in}
use Rattle.check_core.specs.Judgement.{Accepts, stop_unless, image_stop, broken_stop, joint_stop, exit_stop, end_stop, seal_stop, no_more, seals_stop, entries_stop, calls_stop, links_stop, all_links_stop, first_stop}
use Rattle.check_core.specs.Checking.{StopsCheck}
use Rattle.check_core.specs.Checked.{IsOwnId, StopsItself}
use Rattle.check_core.proofs.Unstopped.{accepted_unstopped, image_none}
use Rattle.check_core.proofs.Linked.{unless_fails, other_bytes}

-- ---- which stops entries have
abbrev IsOfEntries : CheckStop → Type 0
IsOfEntries Stop.Malformed = ⊥
IsOfEntries (Stop.Version version) = ⊥
IsOfEntries (Stop.WrongImage found) = ⊥
IsOfEntries Stop.Memory = ⊥
IsOfEntries stop = ⊤

either_some : (a b : Option CheckStop) (stop : CheckStop) → option_or a b ≡ Some stop → (a ≡ Some stop) ⊎ (b ≡ Some stop)
either_some (Some x) b stop h = inl h
either_some None b stop h = inr h

unless_some : (b : Bool) (x stop : CheckStop) → IsOfEntries x → stop_unless b x ≡ Some stop → IsOfEntries stop
unless_some true x stop good h = absurd (cc)
unless_some false x stop good h = subst IsOfEntries (same_Some x stop h) good

broken_some : (e k : ℕ) (o : Option ReplayStop) (stop : CheckStop) → broken_stop e k o ≡ Some stop → IsOfEntries stop
broken_some e k (Some x) stop h = subst IsOfEntries (same_Some (Stop.Broken e k x) stop h) tt
broken_some e k None stop h = absurd (cc)

joint_some : (e k : ℕ) (o : Option SystemState) (s : SystemState) (stop : CheckStop) → joint_stop e k o s ≡ Some stop → IsOfEntries stop
joint_some e k (Some a) s stop h = unless_some (same_state a s) (Stop.Unjoined e k a s) stop tt h
joint_some e k None s stop h = absurd (cc)

exit_some : (e k : ℕ) (exit : Exit) (is_last : Bool) (stop : CheckStop) → exit_stop e k exit is_last ≡ Some stop → IsOfEntries stop
exit_some e k (HaltedWith code) is_last stop h = unless_some is_last (Stop.EndInside e k) stop tt h
exit_some e k Split true stop h = subst IsOfEntries (same_Some (Stop.NoEnd e) stop h) tt
exit_some e k Split false stop h = absurd (cc)

end_some : (e k : ℕ) (o : Option (Exit × State)) (is_last : Bool) (stop : CheckStop) → end_stop e k o is_last ≡ Some stop → IsOfEntries stop
end_some e k (Some end) is_last stop h = exit_some e k end.0 is_last stop h
end_some e k None is_last stop h = absurd (cc)

seal_some : (H : List ℕ → List ℕ) (e k : ℕ) (last : Option SystemState) (seal : Seal) (is_last : Bool) (stop : CheckStop) → seal_stop H e k last seal is_last ≡ Some stop → IsOfEntries stop
seal_some H e k last seal is_last stop h =
    let j = joint_stop e k last (before_of H seal) in
    let n = end_stop e k (ending seal) is_last in
    ⊎_elim (broken_some e k (stop_of seal) stop)
    (λ rest. ⊎_elim (joint_some e k last (before_of H seal) stop) (end_some e k (ending seal) is_last stop) (either_some j n stop rest))
    (either_some (broken_stop e k (stop_of seal)) (option_or j n) stop h)

seals_some : (H : List ℕ → List ℕ) (e k : ℕ) (last : Option SystemState) (seals : List Seal) (stop : CheckStop) → seals_stop H e k last seals ≡ Some stop → IsOfEntries stop
seals_some H e k last [] stop h = absurd (cc)
seals_some H e k last (seal ∷ seals) stop h =
    let here = seal_stop H e k last seal (no_more seals) in
    let next = option_map (after_of H seal) (ending seal) in
    ⊎_elim (seal_some H e k last seal (no_more seals) stop) (seals_some H e (k + 1) next seals stop) (either_some here (seals_stop H e (k + 1) next seals) stop h)

entries_some : (H : List ℕ → List ℕ) (e : ℕ) (entries : List Entry) (stop : CheckStop) → entries_stop H e entries ≡ Some stop → IsOfEntries stop
entries_some H e [] stop h = absurd (cc)
entries_some H e (entry ∷ entries) stop h =
    ⊎_elim (seals_some H e 0 None entry.seals stop) (entries_some H (e + 1) entries stop) (either_some (seals_stop H e 0 None entry.seals) (entries_stop H (e + 1) entries) stop h)

calls_some : (H : List ℕ → List ℕ) (B : Bundle) (e k : ℕ) (calls : List AssumeCall) (links : List ℕ) (stop : CheckStop) → calls_stop H B e k calls links ≡ Some stop → IsOfEntries stop
calls_some H B e k [] links stop h = absurd (cc)
calls_some H B e k (call ∷ calls) [] stop h = absurd (cc)
calls_some H B e k (call ∷ calls) (link ∷ links) stop h =
    let bad = Stop.BadLink e k (ok_digest H call) (digest_in H B link) in
    let same = bytes_eq (ok_digest H call) (digest_in H B link) in
    ⊎_elim (unless_some same bad stop tt) (calls_some H B e (k + 1) calls links stop) (either_some (stop_unless same bad) (calls_stop H B e (k + 1) calls links) stop h)

links_some : (H : List ℕ → List ℕ) (B : Bundle) (e : ℕ) (o : Option SpanClaim) (links : List ℕ) (stop : CheckStop) → links_stop H B e o links ≡ Some stop → IsOfEntries stop
links_some H B e None links stop h = absurd (cc)
links_some H B e (Some claim) links stop h =
    let bad = Stop.LinkCount e (length claim.calls) (length links) in
    ⊎_elim (unless_some _ bad stop tt) (calls_some H B e 0 claim.calls links stop) (either_some (stop_unless _ bad) (calls_stop H B e 0 claim.calls links) stop h)

all_links_some : (H : List ℕ → List ℕ) (B : Bundle) (e : ℕ) (entries : List Entry) (stop : CheckStop) → all_links_stop H B e entries ≡ Some stop → IsOfEntries stop
all_links_some H B e [] stop h = absurd (cc)
all_links_some H B e (entry ∷ entries) stop h =
    ⊎_elim (links_some H B e (chain_of H entry.seals) entry.links stop) (all_links_some H B (e + 1) entries stop)
    (either_some (links_stop H B e (chain_of H entry.seals) entry.links) (all_links_stop H B (e + 1) entries) stop h)

-- ---- and bundles
abbrev IsOfBundle : CheckStop → Type 0
IsOfBundle (Stop.WrongImage found) = ⊤
IsOfBundle stop = IsOfEntries stop

of_bundle : (stop : CheckStop) → IsOfEntries stop → IsOfBundle stop
of_bundle Stop.Malformed h = h
of_bundle (Stop.Version version) h = h
of_bundle (Stop.WrongImage found) h = tt
of_bundle (Stop.Broken e k x) h = h
of_bundle (Stop.Unjoined e k after before) h = h
of_bundle (Stop.EndInside e k) h = h
of_bundle (Stop.NoEnd e) h = h
of_bundle (Stop.LinkCount e calls links) h = h
of_bundle (Stop.BadLink e call wanted found) h = h
of_bundle Stop.Memory h = h

parts_some : (H : List ℕ → List ℕ) (B : Bundle) (stop : CheckStop) → option_or (entries_stop H 0 B) (all_links_stop H B 0 B) ≡ Some stop → IsOfEntries stop
parts_some H B stop h = ⊎_elim (entries_some H 0 B stop) (all_links_some H B 0 B stop) (either_some (entries_stop H 0 B) (all_links_stop H B 0 B) stop h)

image_some : (H : List ℕ → List ℕ) (id : List ℕ) (o : Option SystemState) (stop : CheckStop) → image_stop H id o ≡ Some stop → IsOfBundle stop
image_some H id None stop h = absurd (cc)
image_some H id (Some first) stop h = go (bytes_eq (state_digest H first) id) h
  where
    go : (b : Bool) → stop_unless b (Stop.WrongImage (state_digest H first)) ≡ Some stop → IsOfBundle stop
    go true e = absurd (cc)
    go false e = subst (λ (x : CheckStop). IsOfBundle x) (same_Some (Stop.WrongImage (state_digest H first)) stop e) tt

first_some : (H : List ℕ → List ℕ) (B : Bundle) (id : List ℕ) (stop : CheckStop) → first_stop H B id ≡ Some stop → IsOfBundle stop
first_some H B id stop h =
    ⊎_elim (image_some H id (first_at H B 0) stop) (λ rest. of_bundle stop (parts_some H B stop rest))
    (either_some (image_stop H id (first_at H B 0)) (option_or (entries_stop H 0 B) (all_links_stop H B 0 B)) stop h)

-- the first stop refuses the bundle
pub stops_first : (H : List ℕ → List ℕ) (B : Bundle) (id : List ℕ) (stop : CheckStop) → first_stop H B id ≡ Some stop → StopsCheck H B id stop
stops_first H B id Stop.Malformed first = first_some H B id Stop.Malformed first
stops_first H B id (Stop.Version version) first = first_some H B id (Stop.Version version) first
stops_first H B id Stop.Memory first = tt
stops_first H B id (Stop.Broken e k x) first = first
stops_first H B id (Stop.Unjoined e k after before) first = first
stops_first H B id (Stop.EndInside e k) first = first
stops_first H B id (Stop.NoEnd e) first = first
stops_first H B id (Stop.WrongImage found) first = first
stops_first H B id (Stop.LinkCount e calls links) first = first
stops_first H B id (Stop.BadLink e call wanted found) first = first

-- ---- the image
right_image : (H : List ℕ → List ℕ) (id found : List ℕ) (o : Option SystemState) → option_map (state_digest H) o ≡ Some found → found ≡ id → image_stop H id o ≡ None
right_image H id found (Some first) h same = image_none H id (Some first) first refl (same_Some (state_digest H first) found h ∙ same)
right_image H id found None h same = refl

wrong_image : (H : List ℕ → List ℕ) (id found : List ℕ) (o : Option SystemState) → option_map (state_digest H) o ≡ Some found → found ≢ id → image_stop H id o ≡ Some (Stop.WrongImage found)
wrong_image H id found (Some first) h other =
    let is : state_digest H first ≡ found = same_Some (state_digest H first) found h in
    unless_fails (bytes_eq (state_digest H first) id) (Stop.WrongImage (state_digest H first)) (other_bytes (state_digest H first) id (λ e. other (sym is ∙ e))) ∙ ap (λ (d : List ℕ). Some (Stop.WrongImage d)) is
wrong_image H id found None h other = absurd (cc)

-- ---- a bundle whose first state has this digest
module _ (H : List ℕ → List ℕ) (B : Bundle) (id found : List ℕ) (first : option_map (state_digest H) (first_at H B 0) ≡ Some found) where
  -- another than the id
  pub image_stopped : found ≢ id → StopsCheck H B id (Stop.WrongImage found)
  image_stopped other = ap (λ (o : Option CheckStop). option_or o (option_or (entries_stop H 0 B) (all_links_stop H B 0 B))) (wrong_image H id found (first_at H B 0) first other)

  module _ (same : found ≡ id) where
    first_is : first_stop H B id ≡ option_or (entries_stop H 0 B) (all_links_stop H B 0 B)
    first_is = ap (λ (o : Option CheckStop). option_or o (option_or (entries_stop H 0 B) (all_links_stop H B 0 B))) (right_image H id found (first_at H B 0) first same)

    pub seals_stopped : (stop : CheckStop) → entries_stop H 0 B ≡ Some stop → StopsCheck H B id stop
    seals_stopped stop h = stops_first H B id stop (first_is ∙ ap (λ (o : Option CheckStop). option_or o (all_links_stop H B 0 B)) h)

    module _ (unstopped : entries_stop H 0 B ≡ None) where
      pub links_stopped : (stop : CheckStop) → all_links_stop H B 0 B ≡ Some stop → StopsCheck H B id stop
      links_stopped stop h = stops_first H B id stop (first_is ∙ ap₂ (λ (a b : Option CheckStop). option_or a b) unstopped h)

      pub accepted : KeepsLimits B → all_links_stop H B 0 B ≡ None → Accepts H B id
      accepted limits h = (accepted_unstopped H B id (limits_give_form B limits)).0 (first_is ∙ ap₂ (λ (a b : Option CheckStop). option_or a b) unstopped h)

-- ---- under the digest of its own first state
pub stops_itself : (H : List ℕ → List ℕ) (B : Bundle) (id : List ℕ) (stop : CheckStop) → IsOwnId H B id → StopsCheck H B id stop → StopsItself H B stop
stops_itself H B id Stop.Malformed own stops = absurd stops
stops_itself H B id (Stop.Version version) own stops = absurd stops
stops_itself H B id (Stop.WrongImage found) own stops = absurd (parts_some H B (Stop.WrongImage found) (sym (first_is H B id id own refl) ∙ stops))
stops_itself H B id (Stop.Broken e k x) own stops = (id, own, stops)
stops_itself H B id (Stop.Unjoined e k after before) own stops = (id, own, stops)
stops_itself H B id (Stop.EndInside e k) own stops = (id, own, stops)
stops_itself H B id (Stop.NoEnd e) own stops = (id, own, stops)
stops_itself H B id (Stop.LinkCount e calls links) own stops = (id, own, stops)
stops_itself H B id (Stop.BadLink e call wanted found) own stops = (id, own, stops)
stops_itself H B id Stop.Memory own stops = tt
