-- The seals of an accepted entry beside an image's uncut run. H is the digest function.
use Rattle.std.proofs.Common.{◌≡◌, ℕ, ◌+◌, ◌*◌, ◌<◌, ◌≤◌, List, [], ◌∷◌, length, drop, Option, Some, None, refl, sym, ap, ◌∙◌, subst, arith}
use Rattle.std.specs.Prelude.{option_map}
use Rattle.std.specs.Option.{option_or}
use Rattle.std.proofs.lemmas.Option.{same_Some}
use Rattle.page_core.specs.Images.{Image, IsImage}
use Rattle.page_core.specs.Memories.{page_of}
use Rattle.page_core.specs.Stored.{Stored, stored_pages, memory_of, IsStoredFrom}
use Rattle.page_core.proofs.Bytes.{page_same, bytes_hold_pages}
use Rattle.page_core.proofs.Zeros.{pages_are}
use Rattle.part_tree.specs.Laws.{SameUnopened}
use Rattle.part_tree.specs.Part.{root_of, Agree}
use Rattle.part_tree.specs.Splits.{Pair, split_of}
use Rattle.part_tree.specs.Tree.{root}
use Rattle.collide.specs.Places.{place_of}
use Rattle.rv_step.specs.Laws.{IsReady}
use Rattle.rv_step.specs.Machine.{State, full}
use Rattle.rv_step.specs.Runs.{start, after}
use Rattle.rv_step.proofs.Full.{full-start}
use Rattle.rv_step.proofs.Runs.{after-add}
use Rattle.claim_types.specs.declared.claim.Exit.TheVariants.{Halted as HaltedWith}
use Rattle.claim_types.specs.declared.state.State.{State as SystemState}
use Rattle.claim_types.specs.Claims.{SpanClaim}
use Rattle.claim_types.specs.States.{image_state}
use Rattle.receipt_types.specs.Bundles.{AreSeals}
use Rattle.receipt_types.specs.Limits.{AllSealLimits}
use Rattle.receipt_types.specs.Seals.{Seal, words_of}
use Rattle.receipt_types.proofs.Form.{seal_form}
use Rattle.seal_replay.specs.Claiming.{claim_at, claim_of, put_tree}
use Rattle.seal_replay.proofs.Chains.{start_ready}
use Rattle.lift_join.specs.Joins.{chain_of}
use Rattle.lift_join.proofs.Inversion.{has_claim, joins}
use Rattle.check_core.specs.Auditing.{seals_pair}
use Rattle.check_core.specs.Entries.{first_of}
use Rattle.check_core.specs.Judgement.{ChainHalts}
use Rattle.check_core.proofs.Firsts.{first_is}
use Rattle.check_core.proofs.Images.{start_root}
use Rattle.check_core.proofs.Induction.{split_end, split_after}
use Rattle.check_core.proofs.Stretches.{onward}
use Rattle.flat_machine.specs.Going.{Going, flat_state, went_steps_in, HaltsWith, IsRunOf}
use Rattle.audit.specs.declared.disagreement.Place.{Place}
use Rattle.audit.specs.declared.disagreement.Place.TheVariants.{Tree}
use Rattle.audit.specs.Places.{seals_place}
use Rattle.audit.specs.Walking.{IsAt, GoesThrough, HasGone}
use Rattle.audit.proofs.Same.{holds_root, holds_split, holds_place}

-- ---- the run and the seals that are left
-- these seals, of a chain that halts, go on from the state s after b steps of the run from r
pub record Stands (H : List ℕ → List ℕ) (r s : State) (b : ℕ) (seals : List Seal) : Type 0 where
  pub good : AreSeals seals
  pub claim : SpanClaim
  pub chain : chain_of H seals ≡ Some claim
  pub code : ℕ
  pub exit : claim.exit ≡ HaltedWith code
  pub reached : after r b ≡ Some s
  pub ready : IsReady s
  pub words : s.words ≡ words_of seals
  pub pc : claim.before.pc ≡ s.pc
  pub root_is : claim.before.root ≡ root H (page_of (full s))

module _ (H : List ℕ → List ℕ) where
  -- they do where the run begins, if they begin with the image's state
  pub stands_first : (image : Image) (seals : List Seal) → IsImage image → AreSeals seals → ChainHalts H seals → first_of H seals ≡ Some (image_state H image)
      → Stands H (start image (words_of seals)) (start image (words_of seals)) 0 seals
  unfolding after
  stands_first image seals is_image good halts first =
      let begins : halts.claim.before ≡ image_state H image = same_Some halts.claim.before (image_state H image) (sym (first_is H seals halts.claim halts.chain) ∙ first) in
      record {
        good = good;
        claim = halts.claim;
        chain = halts.chain;
        code = halts.code;
        exit = halts.exit;
        reached = refl;
        ready = start_ready image (words_of seals) is_image;
        words = refl;
        pc = ap (λ (x : SystemState). x.pc) begins;
        root_is = ap (λ (x : SystemState). x.root) begins ∙ sym (start_root H image (words_of seals) is_image.rest);
      }

  -- the first of them has the digest of the run's memory
  pub first_root : (r s : State) (b : ℕ) (seal : Seal) (seals : List Seal) → Stands H r s b (seal ∷ seals) → root_of H seal.tree ≡ root H (page_of (full s))
  first_root r s b seal seals stands =
      let first = first_is H (seal ∷ seals) stands.claim stands.chain in
      ap (λ (x : SystemState). x.root) (same_Some _ stands.claim.before first) ∙ stands.root_is

  -- the rest of them go on after the first one's steps, if its tree agrees with the run's memory
  pub record GoesOn (r s : State) (b : ℕ) (seal : Seal) (rest : List Seal) : Type 0 where
    pub state : State
    pub reached : after s seal.steps ≡ Some state
    pub unopened : SameUnopened (page_of (full s)) (page_of (full state)) 18 0 seal.tree
    pub stands : Stands H r state (b + seal.steps) rest

  pub goes_on : (r s : State) (b : ℕ) (seal next : Seal) (seals : List Seal) → Stands H r s b (seal ∷ next ∷ seals) → Agree H (page_of (full s)) 18 0 seal.tree → GoesOn r s b seal (next ∷ seals)
  goes_on r s b seal next seals stands agree =
      let claim = stands.claim in
      let j = joins (claim_of H seal) (chain_of H (next ∷ seals)) claim stands.chain in
      let h = has_claim H seal j.left j.is_left in
      let begin : claim.before ≡ (claim_at H seal (h.exit, h.state)).before = ap (λ (c : SpanClaim). c.before) j.is ∙ ap (λ (c : SpanClaim). c.before) h.is in
      let my_pc : seal.pc ≡ s.pc = sym (ap (λ (x : SystemState). x.pc) begin) ∙ stands.pc in
      let ends = split_end H seal j.left h j.split in
      let on = onward H r s b seal (words_of (next ∷ seals)) stands.reached stands.ready stands.words h.clean stands.good.0.some_steps my_pc agree h.state ends in
      let meets : j.right.before ≡ record { pc = h.state.pc; root = root_of H (put_tree seal h.state) } = sym j.meets ∙ split_after H seal j.left h j.split in
      record {
        state = on.state;
        reached = sym (after-add r b seal.steps s stands.reached) ∙ on.reached;
        unopened = on.unopened;
        stands = record {
          good = stands.good.1;
          claim = j.right;
          chain = j.is_right;
          code = stands.code;
          exit = sym (ap (λ (c : SpanClaim). c.exit) j.is) ∙ stands.exit;
          reached = on.reached;
          ready = on.ready;
          words = on.words;
          pc = ap (λ (x : SystemState). x.pc) meets ∙ sym on.pc;
          root_is = ap (λ (x : SystemState). x.root) meets ∙ on.root_is;
        };
      }

-- ---- the walk
-- it is at seal k: the run and its tree are there, and nothing before it differs
pub record AtSeal (H : List ℕ → List ℕ) (image : Image) (seals : List Seal) (k : ℕ) (going : Going) (tree : Stored) : Type 0 where
  pub low : k < length seals
  pub at : IsAt image (words_of seals) going.steps going tree
  pub few : going.steps ≤ 16777216 * k
  pub stands : Stands H (start image (words_of seals)) (flat_state going) going.steps (drop k seals)
  pub pair : seals_pair H (Some (start image (words_of seals))) seals ≡ seals_pair H (Some (flat_state going)) (drop k seals)
  pub place : seals_place H 0 (Some (start image (words_of seals))) seals ≡ seals_place H k (Some (flat_state going)) (drop k seals)

module _ (H : List ℕ → List ℕ) (image : Image) (seals : List Seal) where
  all_went : (g : Going) (words : List ℕ) → IsRunOf g image words → g.halted ≡ None → after (start image words) g.steps ≡ Some (flat_state g)
  all_went g words run on = ap (λ (o : Option ℕ). after (start image words) (went_steps_in g.steps o)) (sym on) ∙ run.reached

  -- where it begins
  pub at_first : (going : Going) (tree : Stored) → 0 < length seals → IsAt image (words_of seals) 0 going tree → going.steps ≡ 0
      → Stands H (start image (words_of seals)) (start image (words_of seals)) 0 seals → AtSeal H image seals 0 going tree
  unfolding after
  at_first going tree some at none stands =
      let here : start image (words_of seals) ≡ flat_state going =
      same_Some (start image (words_of seals)) (flat_state going) (ap (after (start image (words_of seals))) (sym none) ∙ all_went going (words_of seals) at.run at.on) in
      record {
        low = some;
        at = record { run = at.run; steps = refl; on = at.on; memory = at.memory };
        few = omega (arith, none);
        stands = subst (λ (b : ℕ). Stands H (start image (words_of seals)) (flat_state going) b seals) (sym none)
            (subst (λ (s : State). Stands H (start image (words_of seals)) s 0 seals) here stands);
        pair = ap (λ (s : State). seals_pair H (Some s) seals) here;
        place = ap (λ (s : State). seals_place H 0 (Some s) seals) here;
      }

  module _ (k : ℕ) (going : Going) (tree : Stored) (seal : Seal) (rest : List Seal) (at : AtSeal H image seals k going tree) (here : drop k seals ≡ seal ∷ rest) where
    abbrev s : State
    s = flat_state going

    stands_here : Stands H (start image (words_of seals)) s going.steps (seal ∷ rest)
    stands_here = subst (λ (xs : List Seal). Stands H (start image (words_of seals)) s going.steps xs) here at.stands

    -- the seal's tree has the digest of the run's
    pub same_root : root_of H seal.tree ≡ root H (stored_pages tree)
    same_root = first_root H (start image (words_of seals)) s going.steps seal rest stands_here ∙ sym (holds_root H tree s at.at.memory)

    pair_here : seals_pair H (Some (start image (words_of seals))) seals ≡ option_or (split_of H (stored_pages tree) 18 0 seal.tree) (seals_pair H (after s seal.steps) rest)
    pair_here =
        at.pair ∙ ap (seals_pair H (Some s)) here
        ∙ ap (λ (o : Option Pair). option_or o (seals_pair H (after s seal.steps) rest)) (sym (holds_split H tree s at.at.memory seal.tree))

    place_here : seals_place H 0 (Some (start image (words_of seals))) seals
        ≡ option_or (option_map (λ (node : ℕ × ℕ). Tree k node.0 node.1) (place_of H (stored_pages tree) 18 0 seal.tree)) (seals_place H (k + 1) (after s seal.steps) rest)
    place_here =
        at.place ∙ ap (seals_place H k (Some s)) here
        ∙ ap (λ (o : Option (ℕ × ℕ)). option_or (option_map (λ (node : ℕ × ℕ). Tree k node.0 node.1) o) (seals_place H (k + 1) (after s seal.steps) rest)) (sym (holds_place H tree s at.at.memory seal.tree))

    -- it differs
    pub pair_found : (pair : Pair) → split_of H (stored_pages tree) 18 0 seal.tree ≡ Some pair → seals_pair H (Some (start image (words_of seals))) seals ≡ Some pair
    pair_found pair found = pair_here ∙ ap (λ (o : Option Pair). option_or o (seals_pair H (after s seal.steps) rest)) found

    pub place_found : (place : Place) → option_map (λ (node : ℕ × ℕ). Tree k node.0 node.1) (place_of H (stored_pages tree) 18 0 seal.tree) ≡ Some place
        → seals_place H 0 (Some (start image (words_of seals))) seals ≡ Some place
    place_found place found = place_here ∙ ap (λ (o : Option Place). option_or o (seals_place H (k + 1) (after s seal.steps) rest)) found

    -- it doesn't
    pub pair_on : split_of H (stored_pages tree) 18 0 seal.tree ≡ None → seals_pair H (Some (start image (words_of seals))) seals ≡ seals_pair H (after s seal.steps) rest
    pair_on none = pair_here ∙ ap (λ (o : Option Pair). option_or o (seals_pair H (after s seal.steps) rest)) none

    pub place_on : option_map (λ (node : ℕ × ℕ). Tree k node.0 node.1) (place_of H (stored_pages tree) 18 0 seal.tree) ≡ None
        → seals_place H 0 (Some (start image (words_of seals))) seals ≡ seals_place H (k + 1) (after s seal.steps) rest
    place_on none = place_here ∙ ap (λ (o : Option Place). option_or o (seals_place H (k + 1) (after s seal.steps) rest)) none

    -- and another one comes
    module _ (next : Seal) (more : List Seal) (there : rest ≡ next ∷ more) (agree : Agree H (page_of (full s)) 18 0 seal.tree) where
      on : GoesOn H (start image (words_of seals)) s going.steps seal (next ∷ more)
      on = goes_on H (start image (words_of seals)) s going.steps seal next more (subst (λ (xs : List Seal). Stands H (start image (words_of seals)) s going.steps (seal ∷ xs)) there stands_here) agree

      pub goes_through : going.steps + seal.steps ≤ 281474976710656 → GoesThrough going tree seal
      goes_through few = record {
        image = image;
        words = words_of seals;
        at = at.at;
        few = few;
        next = on.state;
        reached = on.reached;
        left = λ page low closed. on.unopened page (omega (arith, low)) closed;
      }

      module _ (going' : Going) (tree' : Stored) (gone : HasGone going going' tree' seal) where
        arrived : on.state ≡ flat_state going'
        arrived =
            same_Some on.state (flat_state going')
            (sym on.stands.reached
            ∙ ap (after (start image (words_of seals))) (sym gone.steps)
            ∙ all_went going' (words_of seals) (gone.run image (words_of seals) at.at.run) gone.on)

        pub at_next : split_of H (stored_pages tree) 18 0 seal.tree ≡ None → option_map (λ (node : ℕ × ℕ). Tree k node.0 node.1) (place_of H (stored_pages tree) 18 0 seal.tree) ≡ None
            → k + 1 < length seals → rest ≡ drop (k + 1) seals → seal.steps ≤ 16777216 → AtSeal H image seals (k + 1) going' tree'
        at_next no_pair no_place low left few = record {
          low = low;
          at = record { run = gone.run image (words_of seals) at.at.run; steps = refl; on = gone.on; memory = gone.memory };
          few = omega (arith, at.few, few, gone.steps);
          stands = subst (λ (xs : List Seal). Stands H (start image (words_of seals)) (flat_state going') going'.steps xs) (sym there ∙ left)
              (subst (λ (b : ℕ). Stands H (start image (words_of seals)) (flat_state going') b (next ∷ more)) (sym gone.steps)
              (subst (λ (t : State). Stands H (start image (words_of seals)) t (going.steps + seal.steps) (next ∷ more)) arrived on.stands));
          pair = pair_on no_pair ∙ ap (λ (o : Option State). seals_pair H o rest) (on.reached ∙ ap Some arrived) ∙ ap (seals_pair H (Some (flat_state going'))) left;
          place = place_on no_place ∙ ap (λ (o : Option State). seals_place H (k + 1) o rest) (on.reached ∙ ap Some arrived) ∙ ap (seals_place H (k + 1) (Some (flat_state going'))) left;
        }

-- ---- the beginning
-- seals within the limits have the form of seals
pub seals_form : (seals : List Seal) → AllSealLimits seals → AreSeals seals
seals_form [] limits = tt
seals_form (seal ∷ seals) limits = (seal_form seal limits.0, seals_form seals limits.1)

-- a chain has a seal
pub halts_some : (H : List ℕ → List ℕ) (seals : List Seal) → ChainHalts H seals → 0 < length seals
halts_some H [] halts = let none : None ≡ Some halts.claim = halts.chain in cc
halts_some H (seal ∷ seals) halts = omega arith

-- a run of no step has not halted
unhalted : (s : State) (n : ℕ) (o : Option ℕ) → n ≡ 0 → HaltsWith s n o → o ≡ None
unhalted s n None none halts = refl
unhalted s n (Some code) none halts = absurd (omega (arith, none, halts.0))

pub is_first : (image : Image) (words : List ℕ) (map : Stored) (going : Going) → IsImage image → IsStoredFrom 0 map → image.memory ≡ memory_of map → going.steps ≡ 0 → IsRunOf going image words
    → IsAt image words 0 going map
unfolding after
is_first image words map going is_image are memory none run =
    let on : going.halted ≡ None = unhalted (flat_state going) going.steps going.halted none run.halts in
    let here : start image words ≡ flat_state going =
    same_Some (start image words) (flat_state going)
    (ap (after (start image words)) (sym none) ∙ ap (λ (o : Option ℕ). after (start image words) (went_steps_in going.steps o)) (sym on) ∙ run.reached) in
    record {
      run = run;
      steps = none;
      on = on;
      memory = λ page low.
          sym (bytes_hold_pages (stored_pages map) page (pages_are map 0 are))
          ∙ page_same (memory_of map) (full (start image words)) page (λ a _. ap (λ (m : ℕ → ℕ). m a) (sym memory) ∙ sym (full-start image.memory is_image.rest a))
          ∙ ap (λ (s : State). page_of (full s) page) here;
    }
