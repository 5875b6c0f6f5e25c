-- What is joined after some of a run's cuts, and after all of them. H is the digest function.
use Rattle.std.proofs.Common.{◌≡◌, ◌≢◌, ℕ, zero, suc, ◌+◌, ◌<◌, ◌≤◌, List, [], ◌∷◌, ◌++◌, length, take, Option, Some, None, is_some, IsTrue, refl, sym, ap, ◌∙◌, subst, arith}
use Rattle.receipt_types.proofs.Limits.{AllSealLimits-push}
use Rattle.std.specs.Prelude.{IfSome}
use Rattle.page_core.specs.Images.{Image, IsImage}
use Rattle.page_core.specs.Memory.{top, ascending}
use Rattle.page_core.specs.Memories.{page_of}
use Rattle.part_tree.proofs.Change.{root_of-agree}
use Rattle.part_tree.proofs.Made.{part_agrees}
use Rattle.rv_step.specs.Machine.{State, full}
use Rattle.rv_step.specs.Runs.{start, after, run_pages, IsOutcome}
use Rattle.rv_step.specs.Laws.{IsReady}
use Rattle.rv_step.specs.declared.outcome.Outcome.{Outcome}
use Rattle.rv_step.specs.declared.outcome.Outcome.TheVariants.{Halted as HaltedAt, Faulted as FaultedAt, OverLimit as Over}
use Rattle.std.proofs.lemmas.Option.{same_Some}
use Rattle.rv_step.proofs.Runs.{after-add}
use Rattle.claim_types.specs.declared.claim.Exit.TheVariants.{Halted}
use Rattle.claim_types.specs.Claims.{SpanClaim}
use Rattle.receipt_types.specs.Seals.{Seal}
use Rattle.receipt_types.specs.Limits.{SealLimits, AllSealLimits}
use Rattle.receipt_types.specs.Bundles.{item}
use Rattle.elf_image.specs.Loaded.{image_of}
use Rattle.elf_image.specs.declared.image.Image.{Image as Loaded}
use Rattle.seal_replay.proofs.Chains.{start_ready}
use Rattle.seal_replay.specs.Claiming.{before_of}
use Rattle.lift_join.specs.Joins.{chain_of}
use Rattle.lift_join.specs.Chained.{Chained}
use Rattle.lift_join.proofs.Inversion.{states_same}
use Rattle.executor.specs.Segments.{Limits, lengths, total}
use Rattle.executor.specs.Proving.{seal_from, seals_from, cut_seals, system_state, ClaimsRun}
use Rattle.executor.specs.Cutting.{Cutting, CutsRun, IsCutting}
use Rattle.executor.specs.Giving.{Gives}
use Rattle.executor.specs.declared.executor.Next.{Next}
use Rattle.executor.specs.Laws.{AreLimits, AreLengths}
use Rattle.executor.proofs.Covered.{segments_cover}
use Rattle.session.specs.Proved.{IsProved, StopsSession, IsHalt, StopsAt, seals_so_far, IsChained, MayFollow}
use Rattle.session.specs.declared.stop.SessionStop.{SessionStop}
use Rattle.session.proofs.Chains.{stretches_chain, segments_chain, some_segments}

-- ---- lists, one item after the other
take_next : {A : Type 0} (xs : List A) (n : ℕ) (x : A) → item xs n ≡ Some x → take (suc n) xs ≡ take n xs ++ x ∷ []
take_next [] n x h = absurd (cc)
take_next (y ∷ ys) zero x h = ap (λ z. z ∷ []) (same_Some y x h)
take_next (y ∷ ys) (suc n) x h = ap (λ zs. y ∷ zs) (take_next ys n x h)

take_whole : (ns : List ℕ) → take (length ns) ns ≡ ns
take_whole [] = refl
take_whole (n ∷ ns) = ap (λ ms. n ∷ ms) (take_whole ns)

take_lengths : (ns : List ℕ) (n : ℕ) → AreLengths ns → AreLengths (take n ns)
take_lengths ns zero good = tt
take_lengths [] (suc n) good = tt
take_lengths (m ∷ ns) (suc n) good = (good.0, take_lengths ns n good.1)

-- ---- the seals of the first stretches
module _ (H : List ℕ → List ℕ) where
  take_seals : (o : Option State) (ns : List ℕ) (n : ℕ) → take n (seals_from H o ns) ≡ seals_from H o (take n ns)
  take_seals o ns zero = refl
  take_seals o [] (suc n) = refl
  take_seals None (m ∷ ns) (suc n) = refl
  take_seals (Some s) (m ∷ ns) (suc n) = ap (λ seals. seal_from H s m ∷ seals) (take_seals (after s m) ns n)

  no_item : {P : Type 0} (ns : List ℕ) (n : ℕ) (seal : Seal) → item (seals_from H None ns) n ≡ Some seal → P
  no_item [] n seal h = absurd (cc)
  no_item (m ∷ ns) n seal h = absurd (cc)

  -- this seal is that of some steps from the state after the first n stretches
  record Begins (s : State) (ns : List ℕ) (n : ℕ) (seal : Seal) : Type 0 where
    state : State
    steps : ℕ
    reached : after s (total (take n ns)) ≡ Some state
    is : seal_from H state steps ≡ seal

  begins : (s : State) (ns : List ℕ) (n : ℕ) (seal : Seal) → item (seals_from H (Some s) ns) n ≡ Some seal → Begins s ns n seal
  unfolding after
  begins s [] n seal h = absurd (cc)
  begins s (m ∷ ns) zero seal h = record { state = s; steps = m; reached = refl; is = same_Some (seal_from H s m) seal h }
  begins s (m ∷ ns) (suc n) seal h = go (after s m) refl h (λ v. begins v ns n seal)
    where
      go : (o : Option State) → after s m ≡ o → item (seals_from H o ns) n ≡ Some seal → ((v : State) → item (seals_from H (Some v) ns) n ≡ Some seal → Begins v ns n seal)
          → Begins s (m ∷ ns) (suc n) seal
      go None e h later = no_item ns n seal h
      go (Some v) e h later =
          let rest = later v h in
          record { state = rest.state; steps = rest.steps; reached = after-add s m (total (take n ns)) v e ∙ rest.reached; is = rest.is }

  before_is : (s : State) (n : ℕ) → before_of H (seal_from H s n) ≡ system_state H s
  before_is s n =
      states_same (before_of H (seal_from H s n)) (system_state H s) refl
      (root_of-agree H (page_of (full s)) 18 0 (seal_from H s n).tree (part_agrees H (page_of (full s)) (ascending (run_pages s n)) 18 0))

  -- ---- what is joined after the first n cuts of the run from r
  pub record SoFar (l : Limits) (r : State) (n : ℕ) (whole : Option Chained) : Type 0 where
    pub few : n ≤ 65535
    pub seals : seals_so_far whole ≡ seals_from H (Some r) (take n (lengths l r))
    pub limits : AllSealLimits (seals_so_far whole)
    pub chained : IfSome whole (λ proved. IsChained H proved)

  module _ (l : Limits) (r : State) (n : ℕ) where
    pub one_more : (whole : Option Chained) (proved : Chained) (seal : Seal) → SoFar l r n whole → n < 65535 → item (cut_seals H l r) n ≡ Some seal
        → proved.seals ≡ seals_so_far whole ++ seal ∷ [] → IsChained H proved → SealLimits seal → SoFar l r (n + 1) (Some proved)
    one_more whole proved seal so_far low here seals chained limits =
        let next : suc n ≡ n + 1 = omega arith in
        record {
          few = omega (arith, low);
          seals =
              seals ∙ ap (λ before. before ++ seal ∷ []) (so_far.seals ∙ sym (take_seals (Some r) (lengths l r) n))
              ∙ sym (take_next (cut_seals H l r) n seal here) ∙ take_seals (Some r) (lengths l r) (suc n) ∙ ap (λ k. seals_from H (Some r) (take k (lengths l r))) next;
          limits = subst AllSealLimits (sym seals) (AllSealLimits-push (seals_so_far whole) seal so_far.limits limits);
          chained = chained;
        }

    module _ (are : AreLimits l) (ready : IsReady r) where
      -- no seals have no claim
      no_claim : (proved : Chained) → proved.seals ≡ [] → IsChained H proved → ⊥
      no_claim proved none chained = let absent : None ≡ Some proved.claim = sym (ap (chain_of H) none) ∙ chained in cc

      follows : (left : Chained) (seal : Seal) → SoFar l r n (Some left) → item (cut_seals H l r) n ≡ Some seal → MayFollow H left seal
      follows left seal so_far here =
          let at = begins r (lengths l r) n seal here in
          let some : take n (lengths l r) ≢ [] = λ none. no_claim left (so_far.seals ∙ ap (seals_from H (Some r)) none) so_far.chained in
          let good : AreLengths (take n (lengths l r)) = take_lengths (lengths l r) n (segments_cover l r are ready).0 in
          let chain = stretches_chain H r (take n (lengths l r)) at.state ready some good at.reached in
          let same : chain.claim ≡ left.claim = same_Some chain.claim left.claim (sym chain.is_claim ∙ sym (ap (chain_of H) so_far.seals) ∙ so_far.chained) in (
            so_far.chained,
            sym (ap (λ (c : SpanClaim). c.exit) same) ∙ chain.claims.exit_is,
            sym (ap (λ (c : SpanClaim). c.after) same) ∙ chain.claims.after ∙ sym (before_is at.state at.steps) ∙ ap (before_of H) at.is,
          )

      pub may_follow : (whole : Option Chained) (seal : Seal) → SoFar l r n whole → item (cut_seals H l r) n ≡ Some seal → IfSome whole (λ left. MayFollow H left seal)
      may_follow None seal so_far here = tt
      may_follow (Some left) seal so_far here = follows left seal so_far here

  -- ---- the run has ended, and all its cuts are joined
  no_seals : (r : State) (ns : List ℕ) → seals_from H (Some r) ns ≡ [] → ns ≡ []
  no_seals r [] e = refl
  no_seals r (m ∷ ns) e = absurd (cc)

  pub stops : (l : Limits) (r : State) (outcome : Outcome) (stop : SessionStop) → length (lengths l r) ≤ 65535 → IsOutcome r l.limit outcome → StopsAt outcome stop → StopsSession l r stop
  stops l r (HaltedAt code) stop few ends e = absurd e
  stops l r (FaultedAt fault pc step) stop few ends e = subst (StopsSession l r) (sym e) (few, ends)
  stops l r (Over step) stop few ends e = subst (StopsSession l r) (sym e) (few, ends)

  module _ (l : Limits) (r : State) (n : ℕ) (are : AreLimits l) (ready : IsReady r) (all : n ≡ length (lengths l r)) where
    all_seals : (whole : Option Chained) → SoFar l r n whole → seals_so_far whole ≡ cut_seals H l r
    all_seals whole so_far = so_far.seals ∙ ap (λ k. seals_from H (Some r) (take k (lengths l r))) all ∙ ap (seals_from H (Some r)) (take_whole (lengths l r))

    pub something : (whole : Option Chained) (outcome : Outcome) → SoFar l r n whole → IsOutcome r l.limit outcome → IsHalt outcome → IsTrue (is_some whole)
    something (Some proved) outcome so_far ends halt = refl
    something None (HaltedAt code) so_far ends halt = absurd (some_segments l r code are ready ends (no_seals r (lengths l r) (sym (all_seals None so_far))))
    something None (FaultedAt fault pc step) so_far ends halt = absurd halt
    something None (Over step) so_far ends halt = absurd halt

    pub proves : (proved : Chained) (outcome : Outcome) → SoFar l r n (Some proved) → IsOutcome r l.limit outcome → IsHalt outcome → IsProved H l r proved
    proves proved (HaltedAt code) so_far ends halt =
        let chain = segments_chain H l r code are ready ends in
        let same : chain.claim ≡ proved.claim = same_Some chain.claim proved.claim (sym chain.is_claim ∙ sym (ap (chain_of H) (all_seals (Some proved) so_far)) ∙ so_far.chained) in
        record {
          few = omega (arith, all, so_far.few);
          seals = all_seals (Some proved) so_far;
          limits = so_far.limits;
          code = code;
          ends = ends;
          claims = subst (λ (claim : SpanClaim). ClaimsRun H claim r (Halted code) ends.state) same chain.claims;
          chained = so_far.chained;
        }
    proves proved (FaultedAt fault pc step) so_far ends halt = absurd halt
    proves proved (Over step) so_far ends halt = absurd halt

  -- ---- at each turn
  -- the executor cuts this run under these limits, and what it gave is joined
  pub record IsProving (l : Limits) (image : Image) (words : List ℕ) (c : Cutting) (whole : Option Chained) : Type 0 where
    pub limits : c.limits ≡ l
    pub stands : CutsRun c image words
    pub so_far : SoFar l (start image words) c.number whole

  -- what it gives next is the next cut of that run, or its end
  pub given : {D : Type 0} {l : Limits} {image : Image} {words : List ℕ} {c : Cutting} {whole : Option Chained} {next known : Next D} (after : ℕ) → IsProving l image words c whole
      → ((image : Image) (words : List ℕ) → CutsRun c image words → Gives H c.limits (start image words) c.number after next) → next ≡ known → Gives H l (start image words) c.number after known
  given {image = image} {words = words} {c = c} {next = next} {known = known} after proving gives is =
      subst (λ (m : Limits). Gives H m (start image words) c.number after known) proving.limits
      (subst (Gives H c.limits (start image words) c.number after) is (gives image words proving.stands))

  pub are_limits : {l : Limits} {image : Image} {words : List ℕ} {c d : Cutting} {whole : Option Chained} → IsProving l image words c whole → d.limits ≡ c.limits → IsCutting d → AreLimits l
  are_limits proving same cutting = subst AreLimits (same ∙ proving.limits) cutting.limits

-- ---- a loaded image
-- a run's pc and registers are ready whatever its memory is
no_image : Image
no_image = record { entry = 0; memory = λ a. 0 }

pub ready : (loaded : Loaded) (words : List ℕ) → IsReady (start (image_of loaded) words)
unfolding no_image
ready loaded words =
    let zeros : IsImage no_image = record { aligned = refl; below = omega arith; bytes = λ a. omega arith; rest = λ a above. refl } in
    record {
      aligned = loaded.aligned;
      registers = (start_ready no_image words zeros).registers;
      is_word = let low : loaded.entry < top = loaded.below in omega arith;
    }
