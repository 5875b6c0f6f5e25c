-- Which bundles are accepted, and what stops the others. H is the digest function.
use Rattle.std.specs.Prelude.{◌≡◌, ℕ, ◌+◌, Bool, true, false, cond, eqb, List, [], ◌∷◌, length, Option, Some, None, option_map}
use Rattle.std.specs.Str.{bytes_eq}
use Rattle.host_calls.specs.declared.call.AssumeCall.{AssumeCall}
use Rattle.rv_step.specs.Machine.{State}
use Rattle.claim_types.specs.declared.claim.Exit.{Exit}
use Rattle.claim_types.specs.declared.claim.Exit.TheVariants.{Split, Halted as HaltedWith}
use Rattle.seal_replay.specs.Replay.{stop_of, ending}
use Rattle.seal_replay.specs.declared.stop.ReplayStop.{ReplayStop}
use Rattle.std.specs.Option.{option_or}
use Rattle.claim_types.specs.declared.state.State.{State as SystemState}
use Rattle.claim_types.specs.States.{state_digest}
use Rattle.claim_types.specs.Claims.{SpanClaim, ok_digest}
use Rattle.receipt_types.specs.Seals.{Seal}
use Rattle.seal_replay.specs.Claiming.{before_of, after_of}
use Rattle.lift_join.specs.Joins.{same_state, chain_of}
use Rattle.receipt_types.specs.Bundles.{Entry, Bundle}
use Rattle.check_core.specs.declared.stop.CheckStop.{CheckStop}
use Rattle.check_core.specs.declared.stop.CheckStop.TheVariants.{WrongImage, Broken, Unjoined, EndInside, NoEnd, LinkCount, BadLink}
use Rattle.check_core.specs.Entries.{first_at, digest_in}

-- ---- accepted
-- each call has its link, and the entry that the link names has the digest that the call asks for
abbrev pub Answered : (List ℕ → List ℕ) → Bundle → List AssumeCall → List ℕ → Type 0
Answered H B [] [] = Unit {0}
Answered H B [] (link ∷ links) = ⊥
Answered H B (call ∷ calls) [] = ⊥
Answered H B (call ∷ calls) (link ∷ links) = (ok_digest H call ≡ digest_in H B link) × Answered H B calls links

-- the entry's seals are a chain that halts
pub record ChainHalts (H : List ℕ → List ℕ) (seals : List Seal) : Type 0 where
  pub claim : SpanClaim
  pub code : ℕ
  pub chain : chain_of H seals ≡ Some claim
  pub exit : claim.exit ≡ HaltedWith code

pub record EntryAccepted (H : List ℕ → List ℕ) (B : Bundle) (entry : Entry) : Type 0 where
  pub halts : ChainHalts H entry.seals
  pub answered : Answered H B halts.claim.calls entry.links

abbrev pub AllAccepted : (List ℕ → List ℕ) → Bundle → List Entry → Type 0
AllAccepted H B [] = Unit {0}
AllAccepted H B (entry ∷ entries) = EntryAccepted H B entry × AllAccepted H B entries

-- the bundle's first entry begins with the state that has this digest, and each entry is accepted
pub record Accepts (H : List ℕ → List ℕ) (B : Bundle) (id : List ℕ) : Type 0 where
  pub first : SystemState
  pub is_first : first_at H B 0 ≡ Some first
  pub same_id : state_digest H first ≡ id
  pub entries : AllAccepted H B B

-- ---- stopped
abbrev pub stop_unless : Bool → CheckStop → Option CheckStop
stop_unless good stop = cond good None (Some stop)

abbrev pub image_stop : (List ℕ → List ℕ) → List ℕ → Option SystemState → Option CheckStop
image_stop H id None = None
image_stop H id (Some first) = stop_unless (bytes_eq (state_digest H first) id) (WrongImage (state_digest H first))

-- seal k of entry e: its replay stops
abbrev pub broken_stop : ℕ → ℕ → Option ReplayStop → Option CheckStop
broken_stop e k None = None
broken_stop e k (Some stop) = Some (Broken e k stop)

-- it begins elsewhere than the seal before it ends
abbrev pub joint_stop : ℕ → ℕ → Option SystemState → SystemState → Option CheckStop
joint_stop e k None before = None
joint_stop e k (Some after) before = stop_unless (same_state after before) (Unjoined e k after before)

-- it halts before the last, or the last does not
abbrev pub exit_stop : ℕ → ℕ → Exit → Bool → Option CheckStop
exit_stop e k (HaltedWith code) is_last = stop_unless is_last (EndInside e k)
exit_stop e k Split is_last = cond is_last (Some (NoEnd e)) None

abbrev pub end_stop : ℕ → ℕ → Option (Exit × State) → Bool → Option CheckStop
end_stop e k None is_last = None
end_stop e k (Some end) is_last = exit_stop e k end.0 is_last

-- the first of these, after a state where there is one
abbrev pub seal_stop : (List ℕ → List ℕ) → ℕ → ℕ → Option SystemState → Seal → Bool → Option CheckStop
seal_stop H e k last seal is_last =
    option_or (broken_stop e k (stop_of seal)) (option_or (joint_stop e k last (before_of H seal)) (end_stop e k (ending seal) is_last))

abbrev pub no_more : List Seal → Bool
no_more [] = true
no_more (seal ∷ seals) = false

-- the seals from seal k of entry e on
abbrev pub seals_stop : (List ℕ → List ℕ) → ℕ → ℕ → Option SystemState → List Seal → Option CheckStop
seals_stop H e k last [] = None
seals_stop H e k last (seal ∷ seals) =
    option_or (seal_stop H e k last seal (no_more seals)) (seals_stop H e (k + 1) (option_map (after_of H seal) (ending seal)) seals)

abbrev pub entries_stop : (List ℕ → List ℕ) → ℕ → List Entry → Option CheckStop
entries_stop H e [] = None
entries_stop H e (entry ∷ entries) = option_or (seals_stop H e 0 None entry.seals) (entries_stop H (e + 1) entries)

-- the calls from call k of entry e on
abbrev pub calls_stop : (List ℕ → List ℕ) → Bundle → ℕ → ℕ → List AssumeCall → List ℕ → Option CheckStop
calls_stop H B e k [] links = None
calls_stop H B e k (call ∷ calls) [] = None
calls_stop H B e k (call ∷ calls) (link ∷ links) =
    option_or (stop_unless (bytes_eq (ok_digest H call) (digest_in H B link)) (BadLink e k (ok_digest H call) (digest_in H B link)))
    (calls_stop H B e (k + 1) calls links)

abbrev pub links_stop : (List ℕ → List ℕ) → Bundle → ℕ → Option SpanClaim → List ℕ → Option CheckStop
links_stop H B e None links = None
links_stop H B e (Some claim) links =
    option_or (stop_unless (eqb (length claim.calls) (length links)) (LinkCount e (length claim.calls) (length links)))
    (calls_stop H B e 0 claim.calls links)

abbrev pub all_links_stop : (List ℕ → List ℕ) → Bundle → ℕ → List Entry → Option CheckStop
all_links_stop H B e [] = None
all_links_stop H B e (entry ∷ entries) = option_or (links_stop H B e (chain_of H entry.seals) entry.links) (all_links_stop H B (e + 1) entries)

-- the first stop: the image, then all entries' seals, then all entries' links
abbrev pub first_stop : (List ℕ → List ℕ) → Bundle → List ℕ → Option CheckStop
first_stop H B id = option_or (image_stop H id (first_at H B 0)) (option_or (entries_stop H 0 B) (all_links_stop H B 0 B))
