-- A bundle is accepted exactly where nothing stops it.
use Rattle.std.proofs.Common.{◌≡◌, ◌≢◌, ℕ, suc, ◌+◌, Bool, true, false, eqb, List, [], ◌∷◌, length, Option, Some, None, refl, sym, ap, ap₂, ◌∙◌, subst, arith}
use Rattle.lift_join.proofs.Joining.{not_none, test_bytes, test_number, test_state, join_some}
use Rattle.check_core.proofs.Linked.{unless_holds}
use Rattle.std.specs.Prelude.{option_map}
use Rattle.std.specs.Str.{bytes_eq}
use Rattle.std.proofs.lemmas.Slice.Eq.{bytes_eq-Decides}
use Rattle.host_calls.specs.declared.call.AssumeCall.{AssumeCall}
use Rattle.rv_step.specs.Machine.{State}
use Rattle.claim_types.specs.declared.claim.Exit.{Exit}
use Rattle.claim_types.specs.declared.claim.Exit.TheVariants.{Split, Halted as HaltedWith}
use Rattle.seal_replay.specs.Replay.{stop_of, ending}
use Rattle.seal_replay.specs.declared.stop.ReplayStop.{ReplayStop}
use Rattle.std.specs.Option.{option_or}
use Rattle.page_core.proofs.Options.{first_none, second_none, both_none}
use Rattle.seal_replay.proofs.Endings.{cond_none, has_ending, claim_from}
use Rattle.claim_types.specs.declared.state.State.{State as SystemState}
use Rattle.claim_types.specs.States.{state_digest}
use Rattle.claim_types.specs.Claims.{SpanClaim, ok_digest}
use Rattle.receipt_types.specs.Seals.{Seal}
use Rattle.seal_replay.specs.Claiming.{before_of, after_of, claim_at, claim_of}
use Rattle.lift_join.specs.Joins.{same_state, joint_claim, join_both, chain_of}
use Rattle.receipt_types.specs.Bundles.{Entry, Bundle, AreEntries}
use Rattle.check_core.specs.Entries.{first_of, first_at, digest_in}
use Rattle.check_core.specs.declared.stop.CheckStop.{CheckStop}
use Rattle.check_core.specs.declared.stop.CheckStop.TheVariants.{WrongImage, Unjoined, LinkCount, BadLink}
use Rattle.check_core.specs.Judgement.{Answered, ChainHalts, AllAccepted, stop_unless, image_stop, broken_stop, joint_stop, end_stop, seal_stop, no_more, seals_stop, entries_stop, calls_stop, links_stop, all_links_stop}
use Rattle.check_core.specs.Laws.{AcceptedUnstopped}
use Rattle.lift_join.proofs.Inversion.{has_claim, joins, same_state_tells}
use Rattle.std.proofs.lemmas.Bool.{eqb-true}
use Rattle.check_core.proofs.Carries.{ends_with}

-- ---- tests
unless_true : (b : Bool) (stop : CheckStop) → stop_unless b stop ≡ None → b ≡ true
unless_true b stop h = cond_none b stop h

pub same_bytes : (a b : List ℕ) → bytes_eq a b ≡ true → a ≡ b
same_bytes a b h = (bytes_eq-Decides a b).0 h

not_broken : (e k : ℕ) (o : Option ReplayStop) → broken_stop e k o ≡ None → o ≡ None
not_broken e k None h = refl
not_broken e k (Some stop) h = absurd (cc)

-- ---- the seals of an entry
abbrev pub Meets : Option SystemState → SystemState → Type 0
Meets None s = Unit {0}
Meets (Some a) s = a ≡ s

pub joint_meets : (e k : ℕ) (o : Option SystemState) (s : SystemState) → joint_stop e k o s ≡ None → Meets o s
joint_meets e k None s h = tt
joint_meets e k (Some a) s h = same_state_tells a s (unless_true (same_state a s) (Unjoined e k a s) h)

meets_joint : (e k : ℕ) (o : Option SystemState) (s : SystemState) → Meets o s → joint_stop e k o s ≡ None
meets_joint e k None s h = refl
meets_joint e k (Some a) s h = unless_holds (same_state a s) (Unjoined e k a s) (test_state a s h)

last_halts : (e k : ℕ) (x : Exit × State) → end_stop e k (Some x) true ≡ None → (code : ℕ) × (x.0 ≡ HaltedWith code)
last_halts e k (Split, t) h = absurd (cc)
last_halts e k (HaltedWith code, t) h = (code, refl)

pub inner_splits : (e k : ℕ) (x : Exit × State) → end_stop e k (Some x) false ≡ None → x.0 ≡ Split
inner_splits e k (Split, t) h = refl
inner_splits e k (HaltedWith code, t) h = absurd (cc)

-- what the absence of a stop says of the first seal
record Unstopped (H : List ℕ → List ℕ) (e k : ℕ) (last : Option SystemState) (seal : Seal) (seals : List Seal) : Type 0 where
  exit : Exit × State
  clean : stop_of seal ≡ None
  ends : ending seal ≡ Some exit
  meets : Meets last (before_of H seal)
  end_none : end_stop e k (Some exit) (no_more seals) ≡ None
  rest : seals_stop H e (k + 1) (Some (after_of H seal exit)) seals ≡ None

unstopped : (H : List ℕ → List ℕ) (e k : ℕ) (last : Option SystemState) (seal : Seal) (seals : List Seal) → seals_stop H e k last (seal ∷ seals) ≡ None → Unstopped H e k last seal seals
unstopped H e k last seal seals h =
    let b = broken_stop e k (stop_of seal) in
    let j = joint_stop e k last (before_of H seal) in
    let n = end_stop e k (ending seal) (no_more seals) in
    let r = seals_stop H e (k + 1) (option_map (after_of H seal) (ending seal)) seals in
    let here : option_or b (option_or j n) ≡ None = first_none (option_or b (option_or j n)) r h in
    let clean : stop_of seal ≡ None = not_broken e k (stop_of seal) (first_none b (option_or j n) here) in
    let after_b : option_or j n ≡ None = second_none b (option_or j n) here in
    let (x, ends) = has_ending seal clean in
    record {
      exit = x;
      clean = clean;
      ends = ends;
      meets = joint_meets e k last (before_of H seal) (first_none j n after_b);
      end_none = subst (λ (o : Option (Exit × State)). end_stop e k o (no_more seals) ≡ None) ends (second_none j n after_b);
      rest = subst (λ (o : Option (Exit × State)). seals_stop H e (k + 1) (option_map (after_of H seal) o) seals ≡ None) ends (second_none (option_or b (option_or j n)) r h);
    }

abbrev HaltsAfterState : (List ℕ → List ℕ) → Option SystemState → List Seal → Type 0
HaltsAfterState H last seals = (h : ChainHalts H seals) × Meets last h.claim.before

none_halts : (H : List ℕ → List ℕ) (e k : ℕ) (last : Option SystemState) (seals : List Seal) → seals ≢ [] → seals_stop H e k last seals ≡ None → HaltsAfterState H last seals
none_halts H e k last [] n h = absurd (n refl)
none_halts H e k last (seal ∷ []) n h =
    let u = unstopped H e k last seal [] h in
    let (code, is) = last_halts e k u.exit u.end_none in
    (record { claim = claim_at H seal u.exit; code = code; chain = claim_from H seal u.exit u.clean u.ends; exit = is }, u.meets)
none_halts H e k last (seal ∷ next ∷ seals) n h =
    let u = unstopped H e k last seal (next ∷ seals) h in
    let is : u.exit.0 ≡ Split = inner_splits e k u.exit u.end_none in
    let (rest, meets) = none_halts H e (k + 1) (Some (after_of H seal u.exit)) (next ∷ seals) (not_none next seals) u.rest in
    let here = claim_at H seal u.exit in
    let chain : chain_of H (seal ∷ next ∷ seals) ≡ Some (joint_claim here rest.claim) =
    ap₂ join_both (claim_from H seal u.exit u.clean u.ends) rest.chain
    ∙ join_some here rest.claim is meets in
    (record { claim = joint_claim here rest.claim; code = rest.code; chain = chain; exit = rest.exit }, u.meets)

-- and back
meets_at : (o : Option SystemState) (s t : SystemState) → s ≡ t → Meets o s → Meets o t
meets_at o s t e h = subst (λ (x : SystemState). Meets o x) e h

seal_none : (H : List ℕ → List ℕ) (e k : ℕ) (last : Option SystemState) (seal : Seal) (seals : List Seal) (x : Exit × State) → stop_of seal ≡ None → ending seal ≡ Some x
    → Meets last (before_of H seal) → end_stop e k (Some x) (no_more seals) ≡ None → seals_stop H e (k + 1) (Some (after_of H seal x)) seals ≡ None
    → seals_stop H e k last (seal ∷ seals) ≡ None
seal_none H e k last seal seals x clean ends meets end_none rest =
    both_none (seal_stop H e k last seal (no_more seals)) _
    (both_none (broken_stop e k (stop_of seal)) _ (ap (broken_stop e k) clean)
    (both_none (joint_stop e k last (before_of H seal)) _ (meets_joint e k last (before_of H seal) meets)
    (ap (λ (o : Option (Exit × State)). end_stop e k o (no_more seals)) ends ∙ end_none)))
    (ap (λ (o : Option (Exit × State)). seals_stop H e (k + 1) (option_map (after_of H seal) o) seals) ends ∙ rest)

halts_none : (H : List ℕ → List ℕ) (e k : ℕ) (last : Option SystemState) (seals : List Seal) (claim : SpanClaim) (code : ℕ) → chain_of H seals ≡ Some claim → claim.exit ≡ HaltedWith code
    → Meets last claim.before → seals_stop H e k last seals ≡ None
halts_none H e k last [] claim code chain exit meets = refl
halts_none H e k last (seal ∷ []) claim code chain exit meets =
    let h = has_claim H seal claim chain in
    seal_none H e k last seal [] (HaltedWith code, h.state) h.clean (ends_with H seal claim (HaltedWith code) h exit)
    (meets_at last claim.before (before_of H seal) (ap (λ (c : SpanClaim). c.before) h.is) meets) refl refl
halts_none H e k last (seal ∷ next ∷ seals) claim code chain exit meets =
    let j = joins (claim_of H seal) (chain_of H (next ∷ seals)) claim chain in
    let h = has_claim H seal j.left j.is_left in
    let ends : ending seal ≡ Some (Split, h.state) = ends_with H seal j.left Split h j.split in
    let exit_is : h.exit ≡ Split = sym (ap (λ (c : SpanClaim). c.exit) h.is) ∙ j.split in
    let after_is : after_of H seal (Split, h.state) ≡ j.left.after =
    sym (ap (λ (x : Exit). after_of H seal (x, h.state)) exit_is) ∙ sym (ap (λ (c : SpanClaim). c.after) h.is) in
    seal_none H e k last seal (next ∷ seals) (Split, h.state) h.clean ends
    (meets_at last claim.before (before_of H seal) (ap (λ (c : SpanClaim). c.before) j.is ∙ ap (λ (c : SpanClaim). c.before) h.is) meets) refl
    (halts_none H e (k + 1) (Some (after_of H seal (Split, h.state))) (next ∷ seals) j.right code j.is_right (sym (ap (λ (c : SpanClaim). c.exit) j.is) ∙ exit) (after_is ∙ j.meets))

-- ---- the links
calls_answered : (H : List ℕ → List ℕ) (B : Bundle) (e k : ℕ) (calls : List AssumeCall) (links : List ℕ) → length calls ≡ length links → calls_stop H B e k calls links ≡ None → Answered H B calls links
calls_answered H B e k [] [] n h = tt
calls_answered H B e k [] (link ∷ links) n h = omega (arith, n)
calls_answered H B e k (call ∷ calls) [] n h = omega (arith, n)
calls_answered H B e k (call ∷ calls) (link ∷ links) n h =
    let bad = BadLink e k (ok_digest H call) (digest_in H B link) in
    let one = stop_unless (bytes_eq (ok_digest H call) (digest_in H B link)) bad in (
      same_bytes (ok_digest H call) (digest_in H B link) (unless_true (bytes_eq (ok_digest H call) (digest_in H B link)) bad (first_none one (calls_stop H B e (k + 1) calls links) h)),
      calls_answered H B e (k + 1) calls links (omega (arith, n)) (second_none one (calls_stop H B e (k + 1) calls links) h),
    )

answered_length : (H : List ℕ → List ℕ) (B : Bundle) (calls : List AssumeCall) (links : List ℕ) → Answered H B calls links → length calls ≡ length links
answered_length H B [] [] h = refl
answered_length H B [] (link ∷ links) h = absurd h
answered_length H B (call ∷ calls) [] h = absurd h
answered_length H B (call ∷ calls) (link ∷ links) h = ap suc (answered_length H B calls links h.1)

answered_none : (H : List ℕ → List ℕ) (B : Bundle) (e k : ℕ) (calls : List AssumeCall) (links : List ℕ) → Answered H B calls links → calls_stop H B e k calls links ≡ None
answered_none H B e k [] links h = refl
answered_none H B e k (call ∷ calls) [] h = absurd h
answered_none H B e k (call ∷ calls) (link ∷ links) h =
    both_none (stop_unless (bytes_eq (ok_digest H call) (digest_in H B link)) (BadLink e k (ok_digest H call) (digest_in H B link))) (calls_stop H B e (k + 1) calls links)
    (unless_holds (bytes_eq (ok_digest H call) (digest_in H B link)) (BadLink e k (ok_digest H call) (digest_in H B link)) (test_bytes (ok_digest H call) (digest_in H B link) h.0))
    (answered_none H B e (k + 1) calls links h.1)

links_answered : (H : List ℕ → List ℕ) (B : Bundle) (e : ℕ) (o : Option SpanClaim) (claim : SpanClaim) (links : List ℕ) → o ≡ Some claim → links_stop H B e o links ≡ None → Answered H B claim.calls links
links_answered H B e o claim links is h =
    let g : links_stop H B e (Some claim) links ≡ None = subst (λ (p : Option SpanClaim). links_stop H B e p links ≡ None) is h in
    let bad = LinkCount e (length claim.calls) (length links) in
    let count = stop_unless (eqb (length claim.calls) (length links)) bad in
    calls_answered H B e 0 claim.calls links
    (eqb-true (length claim.calls) (length links) (unless_true (eqb (length claim.calls) (length links)) bad (first_none count (calls_stop H B e 0 claim.calls links) g)))
    (second_none count (calls_stop H B e 0 claim.calls links) g)

pub links_none : (H : List ℕ → List ℕ) (B : Bundle) (e : ℕ) (o : Option SpanClaim) (claim : SpanClaim) (links : List ℕ) → o ≡ Some claim → Answered H B claim.calls links → links_stop H B e o links ≡ None
links_none H B e o claim links is h =
    ap (λ (p : Option SpanClaim). links_stop H B e p links) is
    ∙ both_none (stop_unless (eqb (length claim.calls) (length links)) (LinkCount e (length claim.calls) (length links))) (calls_stop H B e 0 claim.calls links)
    (unless_holds (eqb (length claim.calls) (length links)) (LinkCount e (length claim.calls) (length links)) (test_number (length claim.calls) (length links) (answered_length H B claim.calls links h)))
    (answered_none H B e 0 claim.calls links h)

-- ---- the entries
accepted_from : (H : List ℕ → List ℕ) (B : Bundle) (e : ℕ) (entries : List Entry) → AreEntries entries → entries_stop H e entries ≡ None → all_links_stop H B e entries ≡ None → AllAccepted H B entries
accepted_from H B e [] good h k = tt
accepted_from H B e (entry ∷ entries) good h k =
    let (halts, meets) = none_halts H e 0 None entry.seals good.0.some_seals (first_none (seals_stop H e 0 None entry.seals) (entries_stop H (e + 1) entries) h) in
    let mine = links_stop H B e (chain_of H entry.seals) entry.links in (
      record { halts = halts; answered = links_answered H B e (chain_of H entry.seals) halts.claim entry.links halts.chain (first_none mine (all_links_stop H B (e + 1) entries) k) },
      accepted_from H B (e + 1) entries good.1 (second_none (seals_stop H e 0 None entry.seals) (entries_stop H (e + 1) entries) h) (second_none mine (all_links_stop H B (e + 1) entries) k),
    )

entries_none : (H : List ℕ → List ℕ) (B : Bundle) (e : ℕ) (entries : List Entry) → AllAccepted H B entries → entries_stop H e entries ≡ None
entries_none H B e [] all = refl
entries_none H B e (entry ∷ entries) all =
    both_none (seals_stop H e 0 None entry.seals) (entries_stop H (e + 1) entries)
    (halts_none H e 0 None entry.seals all.0.halts.claim all.0.halts.code all.0.halts.chain all.0.halts.exit tt)
    (entries_none H B (e + 1) entries all.1)

all_links_none : (H : List ℕ → List ℕ) (B : Bundle) (e : ℕ) (entries : List Entry) → AllAccepted H B entries → all_links_stop H B e entries ≡ None
all_links_none H B e [] all = refl
all_links_none H B e (entry ∷ entries) all =
    both_none (links_stop H B e (chain_of H entry.seals) entry.links) (all_links_stop H B (e + 1) entries)
    (links_none H B e (chain_of H entry.seals) all.0.halts.claim entry.links all.0.halts.chain all.0.answered)
    (all_links_none H B (e + 1) entries all.1)

-- ---- the image
some_first : (H : List ℕ → List ℕ) (seals : List Seal) → seals ≢ [] → (s : SystemState) × (first_of H seals ≡ Some s)
some_first H [] n = absurd (n refl)
some_first H (seal ∷ seals) n = (before_of H seal, refl)

has_first : (H : List ℕ → List ℕ) (B : Bundle) → B ≢ [] → AreEntries B → (s : SystemState) × (first_at H B 0 ≡ Some s)
has_first H [] n good = absurd (n refl)
has_first H (entry ∷ entries) n good = some_first H entry.seals good.0.some_seals

image_is : (H : List ℕ → List ℕ) (id : List ℕ) (o : Option SystemState) (s : SystemState) → o ≡ Some s → image_stop H id o ≡ None → state_digest H s ≡ id
image_is H id o s is h =
    same_bytes (state_digest H s) id
    (unless_true (bytes_eq (state_digest H s) id) (WrongImage (state_digest H s)) (subst (λ (p : Option SystemState). image_stop H id p ≡ None) is h))

pub image_none : (H : List ℕ → List ℕ) (id : List ℕ) (o : Option SystemState) (s : SystemState) → o ≡ Some s → state_digest H s ≡ id → image_stop H id o ≡ None
image_none H id o s is h =
    ap (image_stop H id) is ∙ unless_holds (bytes_eq (state_digest H s) id) (WrongImage (state_digest H s)) (test_bytes (state_digest H s) id h)

pub accepted_unstopped : (H : List ℕ → List ℕ) → AcceptedUnstopped H
accepted_unstopped H B id good = (
  λ h.
      let image = image_stop H id (first_at H B 0) in
      let seals = entries_stop H 0 B in
      let links = all_links_stop H B 0 B in
      let rest : option_or seals links ≡ None = second_none image (option_or seals links) h in
      let (first, is_first) = has_first H B good.some_entries good.entries in
      record {
        first = first;
        is_first = is_first;
        same_id = image_is H id (first_at H B 0) first is_first (first_none image (option_or seals links) h);
        entries = accepted_from H B 0 B good.entries (first_none seals links rest) (second_none seals links rest);
      },
  λ a.
      both_none (image_stop H id (first_at H B 0)) (option_or (entries_stop H 0 B) (all_links_stop H B 0 B))
      (image_none H id (first_at H B 0) a.first a.is_first a.same_id)
      (both_none (entries_stop H 0 B) (all_links_stop H B 0 B) (entries_none H B 0 B a.entries) (all_links_none H B 0 B a.entries)),
)
