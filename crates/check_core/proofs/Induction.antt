-- Seals that chain from a state whose root the first one has agree with the run from there, or the audit shows a pair.
use Rattle.std.proofs.Common.{◌≡◌, ◌⊎◌, inl, inr, ℕ, ◌+◌, List, [], ◌∷◌, ◌++◌, Option, Some, None, refl, sym, ap, ◌∙◌, subst}
use Rattle.std.specs.List.{flat_map}
use Rattle.std.proofs.lemmas.List.Elements.{Contains-append_left, Contains-append_right}
use Rattle.digest_core.specs.Digests.{IsDigest}
use Rattle.part_tree.specs.Tree.{root, tree_strings}
use Rattle.part_tree.specs.Part.{Agree, part_strings, root_of}
use Rattle.rv_step.specs.Machine.{State, full}
use Rattle.rv_step.specs.Runs.{after}
use Rattle.claim_types.specs.declared.claim.Exit.{Exit}
use Rattle.claim_types.specs.declared.claim.Exit.TheVariants.{Split, Halted as HaltedWith}
use Rattle.seal_replay.specs.Replay.{ending}
use Rattle.rv_step.specs.Laws.{IsReady}
use Rattle.std.proofs.lemmas.Option.{same_Some}
use Rattle.rv_step.proofs.Runs.{after-add}
use Rattle.page_core.specs.Memories.{page_of}
use Rattle.claim_types.specs.declared.state.State.{State as SystemState}
use Rattle.claim_types.specs.Claims.{SpanClaim}
use Rattle.receipt_types.specs.Seals.{Seal, IsSeal, words_of}
use Rattle.seal_replay.specs.Claiming.{put_tree, claim_at, claim_of}
use Rattle.lift_join.specs.Joins.{chain_of}
use Rattle.receipt_types.specs.Bundles.{AreSeals}
use Rattle.check_core.specs.Hashed.{seal_strings, end_strings}
use Rattle.check_core.specs.Vouching.{SealAgrees, SealsAgree}
use Rattle.part_tree.specs.Splits.{split_of, Exhibits}
use Rattle.check_core.specs.Auditing.{seals_pair}
use Rattle.page_core.proofs.Options.{both_none}
use Rattle.part_tree.proofs.Splits.{first_shown, then_shown, Held, agree_or_shown, agree_unsplit}
use Rattle.lift_join.proofs.Inversion.{HasClaim, has_claim, joins}
use Rattle.check_core.proofs.Stretches.{onward}

-- a split claim's end
pub split_end : (H : List ℕ → List ℕ) (seal : Seal) (claim : SpanClaim) → (h : HasClaim H seal claim) → claim.exit ≡ Split → ending seal ≡ Some (Split, h.state)
split_end H seal claim h e =
    let is : h.exit ≡ Split = sym (ap (λ (c : SpanClaim). c.exit) h.is) ∙ e in
    h.ends ∙ ap (λ (x : Exit). Some (x, h.state)) is

pub split_after : (H : List ℕ → List ℕ) (seal : Seal) (claim : SpanClaim) → (h : HasClaim H seal claim) → claim.exit ≡ Split → claim.after ≡ record { pc = h.state.pc; root = root_of H (put_tree seal h.state) }
split_after H seal claim h e =
    let is : h.exit ≡ Split = sym (ap (λ (c : SpanClaim). c.exit) h.is) ∙ e in
    ap (λ (c : SpanClaim). c.after) h.is ∙ ap (λ (x : Exit). (claim_at H seal (x, h.state)).after) is

module _ (H : List ℕ → List ℕ) (is_digest : (x : List ℕ) → IsDigest (H x)) (all : List (List ℕ)) where
  held_left : (xs ys : List (List ℕ)) → Held H all (xs ++ ys) → Held H all xs
  held_left xs ys held x c = held x (Contains-append_left xs ys x c)

  held_right : (xs ys : List (List ℕ)) → Held H all (xs ++ ys) → Held H all ys
  held_right xs ys held x c = held x (Contains-append_right xs ys x c)

  -- the first seal agrees
  agrees : (s : State) (seal : Seal) → IsSeal seal → root_of H seal.tree ≡ root H (page_of (full s)) → Held H all (tree_strings H (page_of (full s)) 18 0) → Held H all (seal_strings H seal)
      → Agree H (page_of (full s)) 18 0 seal.tree ⊎ Exhibits H all (split_of H (page_of (full s)) 18 0 seal.tree)
  agrees s seal good same held mine =
      agree_or_shown H all is_digest (page_of (full s)) 18 0 seal.tree good.shape same (held_left (part_strings H seal.tree) (end_strings H seal (ending seal)) mine) held

  -- the strings of a seal's end are held
  end_held : (seal : Seal) (t : State) → ending seal ≡ Some (Split, t) → Held H all (seal_strings H seal) → Held H all (part_strings H (put_tree seal t))
  end_held seal t ends mine =
      subst (λ (o : Option (Exit × State)). Held H all (end_strings H seal o)) ends
      (held_right (part_strings H seal.tree) (end_strings H seal (ending seal)) mine)

  pub agree_all : (r s : State) (b : ℕ) (seals : List Seal) (claim : SpanClaim) (code : ℕ) → chain_of H seals ≡ Some claim → claim.exit ≡ HaltedWith code → AreSeals seals
      → after r b ≡ Some s → IsReady s → s.words ≡ words_of seals → claim.before.pc ≡ s.pc → claim.before.root ≡ root H (page_of (full s))
      → Held H all (tree_strings H (page_of (full s)) 18 0) → Held H all (flat_map (seal_strings H) seals)
      → SealsAgree H r b seals ⊎ Exhibits H all (seals_pair H (Some s) seals)
  agree_all r s b [] claim code chain exit good reached fit supplied pc same held mine = absurd (cc)
  agree_all r s b (seal ∷ []) claim code chain exit good reached fit supplied pc same held mine =
      let h = has_claim H seal claim chain in
      let my_root : root_of H seal.tree ≡ root H (page_of (full s)) = sym (ap (λ (c : SpanClaim). c.before.root) h.is) ∙ same in
      let my_pc : seal.pc ≡ s.pc = sym (ap (λ (c : SpanClaim). c.before.pc) h.is) ∙ pc in
      elim (agrees s seal good.0 my_root held (held_left (seal_strings H seal) [] mine)) [
        | inl a ↦ inl (record { state = s; reached = reached; pc = my_pc; agrees = a }, tt)
        | inr x ↦ inr (first_shown H all (split_of H (page_of (full s)) 18 0 seal.tree) (seals_pair H (after s seal.steps) []) x)
      ]
  agree_all r s b (seal ∷ next ∷ seals) claim code chain exit good reached fit supplied pc same held mine =
      let j = joins (claim_of H seal) (chain_of H (next ∷ seals)) claim chain in
      let h = has_claim H seal j.left j.is_left in
      let of_left : claim.before ≡ j.left.before = ap (λ (c : SpanClaim). c.before) j.is in
      let begin : claim.before ≡ (claim_at H seal (h.exit, h.state)).before = of_left ∙ ap (λ (c : SpanClaim). c.before) h.is in
      let my_root : root_of H seal.tree ≡ root H (page_of (full s)) = sym (ap (λ (x : SystemState). x.root) begin) ∙ same in
      let my_pc : seal.pc ≡ s.pc = sym (ap (λ (x : SystemState). x.pc) begin) ∙ pc in
      let of_seal : Held H all (seal_strings H seal) = held_left (seal_strings H seal) (flat_map (seal_strings H) (next ∷ seals)) mine in
      let rest : Held H all (flat_map (seal_strings H) (next ∷ seals)) = held_right (seal_strings H seal) (flat_map (seal_strings H) (next ∷ seals)) mine in
      let first = split_of H (page_of (full s)) 18 0 seal.tree in
      let rest_pair = seals_pair H (after s seal.steps) (next ∷ seals) in
      elim (agrees s seal good.0 my_root held of_seal) [
        | inl a ↦
            let ends = split_end H seal j.left h j.split in
            let on = onward H r s b seal (words_of (next ∷ seals)) reached fit supplied h.clean good.0.some_steps my_pc a h.state ends in
            let meets : j.right.before ≡ record { pc = h.state.pc; root = root_of H (put_tree seal h.state) } = sym j.meets ∙ split_after H seal j.left h j.split in
            let next_held : Held H all (tree_strings H (page_of (full on.state)) 18 0) =
            λ x c. elim (on.strings x c) [ inl old ↦ held x old | inr new ↦ end_held seal h.state ends of_seal x new ] in
            elim (agree_all r on.state (b + seal.steps) (next ∷ seals) j.right code j.is_right (sym (ap (λ (c : SpanClaim). c.exit) j.is) ∙ exit) good.1
            on.reached on.ready on.words (ap (λ (x : SystemState). x.pc) meets ∙ sym on.pc) (ap (λ (x : SystemState). x.root) meets ∙ on.root_is) next_held rest) [
              | inl agree ↦ inl (record { state = s; reached = reached; pc = my_pc; agrees = a }, agree)
              | inr x ↦ inr (then_shown H all first rest_pair (agree_unsplit H (page_of (full s)) 18 0 seal.tree a)
                  (subst (λ (o : Option State). Exhibits H all (seals_pair H o (next ∷ seals))) (sym on.reached ∙ after-add r b seal.steps s reached) x))
            ]
        | inr x ↦ inr (first_shown H all first rest_pair x)
      ]

own_unpaired : (H : List ℕ → List ℕ) (r s : State) (b : ℕ) (seal : Seal) → after r b ≡ Some s → SealAgrees H r b seal → split_of H (page_of (full s)) 18 0 seal.tree ≡ None
own_unpaired H r s b seal reached agree =
    let same : agree.state ≡ s = same_Some agree.state s (sym agree.reached ∙ reached) in
    subst (λ (t : State). split_of H (page_of (full t)) 18 0 seal.tree ≡ None) same (agree_unsplit H (page_of (full agree.state)) 18 0 seal.tree agree.agrees)

-- seals that agree show no pair
pub agree_unpaired : (H : List ℕ → List ℕ) (r s : State) (b : ℕ) (seals : List Seal) → after r b ≡ Some s → SealsAgree H r b seals → seals_pair H (Some s) seals ≡ None
agree_unpaired H r s b [] reached agree = refl
agree_unpaired H r s b (seal ∷ []) reached agree =
    both_none (split_of H (page_of (full s)) 18 0 seal.tree) (seals_pair H (after s seal.steps) []) (own_unpaired H r s b seal reached agree.0) refl
agree_unpaired H r s b (seal ∷ next ∷ seals) reached agree =
    let on : after s seal.steps ≡ Some agree.1.0.state = sym (after-add r b seal.steps s reached) ∙ agree.1.0.reached in
    both_none (split_of H (page_of (full s)) 18 0 seal.tree) (seals_pair H (after s seal.steps) (next ∷ seals)) (own_unpaired H r s b seal reached agree.0)
    (ap (λ (o : Option State). seals_pair H o (next ∷ seals)) on ∙ agree_unpaired H r agree.1.0.state (b + seal.steps) (next ∷ seals) agree.1.0.reached agree.1)
