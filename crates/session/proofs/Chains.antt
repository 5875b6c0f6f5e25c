-- The seals of a run that is cut chain to a claim of the run. H is the digest function.
use Rattle.std.proofs.Common.{◌≡◌, ◌≢◌, ℕ, ◌+◌, ◌-◌, ◌<◌, Bool, true, false, cond, ltb, List, [], ◌∷◌, ◌++◌, Option, Some, refl, sym, ap, ap₂, ◌∙◌, subst, arith, append_assoc}
use Rattle.host_calls.specs.declared.call.AssumeCall.{AssumeCall}
use Rattle.rv_step.specs.Machine.{State, Event, Went, Halted, Faulted, step_of, step_cost}
use Rattle.rv_step.specs.Runs.{after, run_cost, ends_with, IsOutcome}
use Rattle.rv_step.specs.Laws.{IsReady}
use Rattle.rv_step.specs.declared.outcome.Outcome.TheVariants.{Halted as HaltedAt, OverLimit}
use Rattle.rv_step.proofs.Runs.{after-add}
use Rattle.claim_types.specs.declared.claim.Exit.{Exit}
use Rattle.claim_types.specs.declared.claim.Exit.TheVariants.{Split, Halted as HaltedWith}
use Rattle.claim_types.specs.Claims.{SpanClaim}
use Rattle.lift_join.specs.Joins.{joint_claim, join_both, chain_of}
use Rattle.lift_join.proofs.Joining.{join_some}
use Rattle.executor.specs.Segments.{Limits, lengths, total}
use Rattle.executor.specs.Proving.{seal_from, seals_from, EndsAfter, HasClaim}
use Rattle.executor.specs.Laws.{AreLimits, AreLengths}
use Rattle.executor.proofs.Cutting.{before_end, run_ready}
use Rattle.executor.proofs.Covered.{segments_cover, done_to_outcome}
use Rattle.executor.proofs.Claimed.{stretches_claim}
use Rattle.seal_replay.specs.Claiming.{claim_of}
use Rattle.session.specs.Laws.{CutsChain, StretchesChain, SegmentsChain}

-- a run that ends after k + n steps ends after n steps from its state after k
record EndsLater (s : State) (k n : ℕ) (exit : Exit) (z : State) : Type 0 where
  state : State
  reached : after s k ≡ Some state
  ends : EndsAfter state n exit z

ends_later : (s : State) (k n : ℕ) (exit : Exit) (z : State) → 0 < n → EndsAfter s (k + n) exit z → EndsLater s k n exit z
ends_later s k n Split z some ends =
    let (v, reached) = before_end s (k + n) z k ends (omega arith) in
    record { state = v; reached = reached; ends = sym (after-add s k n v reached) ∙ ends }
ends_later s k n (HaltedWith code) z some ends =
    let (v, reached) = before_end s (k + n - 1) z k ends.0 (omega (arith, some)) in
    let same : k + (n - 1) ≡ k + n - 1 = omega (arith, some) in
    record { state = v; reached = reached; ends = (sym (after-add s k (n - 1) v reached) ∙ ap (after s) same ∙ ends.0, ends.1) }

module _ (H : List ℕ → List ℕ) where
  -- the claims of a run and of the run after it join to one of both
  join_claims : (o p : Option SpanClaim) (s v z : State) (exit : Exit) → HasClaim H o s Split v → HasClaim H p v exit z → HasClaim H (join_both o p) s exit z
  join_claims o p s v z exit a b =
      let x : SpanClaim = a.claim in
      let y : SpanClaim = b.claim in
      record {
        claim = joint_claim x y;
        is_claim = ap₂ join_both a.is_claim b.is_claim ∙ join_some x y a.claims.exit_is (a.claims.after ∙ sym b.claims.before);
        claims = record {
          before = a.claims.before;
          after = b.claims.after;
          exit_is = b.claims.exit_is;
          journal = sym (append_assoc s.journal x.journal y.journal) ∙ ap (λ (j : List ℕ). j ++ y.journal) a.claims.journal ∙ b.claims.journal;
          calls = sym (append_assoc s.calls x.calls y.calls) ∙ ap (λ (c : List AssumeCall). c ++ y.calls) a.claims.calls ∙ b.claims.calls;
        };
      }

  not_none : (n : ℕ) (ns : List ℕ) → n ∷ ns ≢ []
  not_none n ns e = cc

  stretches_chain_to : (s : State) (ns : List ℕ) (exit : Exit) (z : State) → IsReady s → ns ≢ [] → AreLengths ns → EndsAfter s (total ns) exit z
      → HasClaim H (chain_of H (seals_from H (Some s) ns)) s exit z
  stretches_chain_to s [] exit z ready some good ends = absurd (some refl)
  stretches_chain_to s (k ∷ []) exit z ready some good ends =
      let whole : k + 0 ≡ k = omega arith in
      stretches_claim H s k exit z ready good.0 (subst (λ (n : ℕ). EndsAfter s n exit z) whole ends)
  stretches_chain_to s (k ∷ next ∷ ns) exit z ready some good ends =
      let positive : 0 < next = good.1.0 in
      let later = ends_later s k (next + total ns) exit z (omega (arith, positive)) ends in
      subst (λ (o : Option State). HasClaim H (chain_of H (seal_from H s k ∷ seals_from H o (next ∷ ns))) s exit z) (sym later.reached)
      (join_claims (claim_of H (seal_from H s k)) (chain_of H (seals_from H (Some later.state) (next ∷ ns))) s later.state z exit
      (stretches_claim H s k Split later.state ready good.0 later.reached)
      (stretches_chain_to later.state (next ∷ ns) exit z (run_ready s k later.state ready later.reached) (not_none next ns) good.1 later.ends))

  pub cuts_chain : CutsChain H
  cuts_chain s ns code z ready some good goes stops = stretches_chain_to s ns (HaltedWith code) z ready some good (goes, stops)

  pub stretches_chain : StretchesChain H
  stretches_chain s ns z ready some good goes = stretches_chain_to s ns Split z ready some good goes

-- a run that halts does so in its last state
halts : (limit : ℕ) (s : State) (code : ℕ) (ends : IsOutcome s limit (HaltedAt code)) → step_of ends.state ≡ Halted code
halts limit s code ends = by_event (ltb limit (run_cost s ends.step + step_cost ends.state)) (step_of ends.state) ends.ended
  where
    by_event : (b : Bool) (e : Event) → cond b (Some (OverLimit ends.step)) (ends_with ends.step ends.state.pc e) ≡ Some (HaltedAt code) → e ≡ Halted code
    by_event true e h = absurd (cc)
    by_event false (Went t) h = absurd (cc)
    by_event false (Halted other) h = cc
    by_event false (Faulted fault) h = absurd (cc)

-- some step is done, so there is a segment
some_segment : (ns : List ℕ) (n : ℕ) → total ns ≡ n + 1 → ns ≢ []
some_segment [] n e = absurd (omega (arith, e))
some_segment (m ∷ ns) n e = not_none (λ bytes. bytes) m ns

steps_to_halt : (l : Limits) (s : State) (code : ℕ) → AreLimits l → IsReady s → (ends : IsOutcome s l.limit (HaltedAt code)) → total (lengths l s) ≡ ends.step + 1
steps_to_halt l s code are ready ends = (segments_cover l s are ready).1 ∙ done_to_outcome l.limit s (HaltedAt code) ends

pub some_segments : (l : Limits) (s : State) (code : ℕ) → AreLimits l → IsReady s → IsOutcome s l.limit (HaltedAt code) → lengths l s ≢ []
some_segments l s code are ready ends = some_segment (lengths l s) ends.step (steps_to_halt l s code are ready ends)

pub segments_chain : (H : List ℕ → List ℕ) → SegmentsChain H
segments_chain H l s code are ready ends =
    let done : total (lengths l s) ≡ ends.step + 1 = steps_to_halt l s code are ready ends in
    let last : total (lengths l s) - 1 ≡ ends.step = omega (arith, done) in
    cuts_chain H s (lengths l s) code ends.state ready (some_segments l s code are ready ends) (segments_cover l s are ready).0 (ap (after s) last ∙ ends.reached)
    (halts l.limit s code ends)
