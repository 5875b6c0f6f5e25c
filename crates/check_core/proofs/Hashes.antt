-- All that is hashed are bytes.
use Rattle.std.proofs.Common.{◌≡◌, inl, inr, ℕ, zero, suc, ◌+◌, ◌*◌, ◌<◌, Bool, true, false, ◌&&◌, ltb, List, [], ◌∷◌, ◌++◌, length, map, replicate, Option, Some, None, refl, sym, subst, arith}
use Rattle.rv_step.proofs.Made.{full_pages, bytes_are}
use Rattle.std.specs.Prelude.{Contains}
use Rattle.std.specs.Int.{w16, w32, to_le_bytes}
use Rattle.std.specs.List.{flat_map}
use Rattle.std.proofs.lemmas.Bool.Decides.{nat_tests}
use Rattle.std.proofs.lemmas.List.Elements.{All-nil, All-cons, All-append, Contains-append_cases}
use Rattle.digest_core.specs.Digests.{IsBytes, IsDigest}
use Rattle.digest_core.specs.Tagged.{tag_string, list_digest}
use Rattle.page_core.specs.Pages.{ArePages}
use Rattle.part_tree.specs.Tree.{root, node_string, tree_strings}
use Rattle.part_tree.specs.Part.{Part, pruned, branch, leaf, IsPart, part_strings, put_part}
use Rattle.part_tree.proofs.Made.{bytes_of_root, tree_bytes, part_bytes}
use Rattle.part_tree.proofs.Strings.{Contains-one}
use Rattle.host_calls.specs.declared.call.AssumeCall.{AssumeCall}
use Rattle.rv_step.specs.Machine.{State, full}
use Rattle.claim_types.specs.declared.claim.Exit.{Exit}
use Rattle.claim_types.specs.declared.claim.Exit.TheVariants.{Split, Halted as HaltedWith}
use Rattle.seal_replay.specs.Replay.{ending}
use Rattle.page_core.proofs.Bytes.{length-bytes, to_le_bytes-small, words-small}
use Rattle.page_core.specs.Memories.{page_of}
use Rattle.claim_types.specs.declared.state.State.{State as SystemState}
use Rattle.claim_types.specs.States.{state_tag, state_string, zero_digest, halted_state, image_string}
use Rattle.claim_types.specs.Claims.{SpanClaim, output_tag, assumptions_tag, claim_tag, exit_pair, output_string, claim_string_of, resolved_output, conditional_output, claim_string, conditional_string, assumptions_of, assumption_cells, ok_digest, ok_output, ok_string}
use Rattle.receipt_types.specs.Seals.{Seal, IsSeal}
use Rattle.seal_replay.specs.Claiming.{put_tree, claim_at, claim_of}
use Rattle.lift_join.specs.Joins.{chain_of}
use Rattle.receipt_types.specs.Bundles.{Entry, AreEntries, AreSeals}
use Rattle.check_core.specs.Hashed.{end_strings, seal_strings, ok_strings, claim_strings, entry_strings, tag_names, strings_of}
use Rattle.check_core.specs.Laws.{HashedAreBytes}
use Rattle.lift_join.proofs.Inversion.{has_claim, joins}
use Rattle.rv_step.specs.Acts.{AreCalls}
use Rattle.rv_step.proofs.Made.{bytes_are}
use Rattle.check_core.proofs.Made.{end_made, chain_made}

-- ---- lists of strings
abbrev AllBytes : List (List ℕ) → Type 0
AllBytes xs = (x : List ℕ) → Contains xs x → IsBytes x

all_none : AllBytes []
all_none x c = absurd (omega (arith, c.1))

all_both : (xs ys : List (List ℕ)) → AllBytes xs → AllBytes ys → AllBytes (xs ++ ys)
all_both xs ys h k x c = elim (Contains-append_cases xs ys x c) [ inl l ↦ h x l | inr r ↦ k x r ]

all_one : (y : List ℕ) → IsBytes y → AllBytes (y ∷ [])
all_one y h x c = subst (λ (z : List ℕ). IsBytes z) (Contains-one y x c) h

all_more : (y : List ℕ) (ys : List (List ℕ)) → IsBytes y → AllBytes ys → AllBytes (y ∷ ys)
all_more y ys h k = all_both (y ∷ []) ys (all_one y h) k

-- ---- bytes
none_bytes : IsBytes []
none_bytes = All-nil (λ (b : ℕ). b < 256)

both_bytes : (a b : List ℕ) → IsBytes a → IsBytes b → IsBytes (a ++ b)
both_bytes a b = All-append (λ (byte : ℕ). byte < 256) a b

zero_bytes : (n : ℕ) → IsBytes (replicate n 0)
zero_bytes zero = none_bytes
zero_bytes (suc n) = All-cons (λ (b : ℕ). b < 256) 0 (replicate n 0) (omega arith) (zero_bytes n)

abbrev all_small : List ℕ → Bool
all_small [] = true
all_small (x ∷ xs) = ltb x 256 && all_small xs

tested : (x : ℕ) (xs : List ℕ) (b : Bool) → ltb x 256 ≡ b → (b && all_small xs) ≡ true → (x < 256) × (all_small xs ≡ true)
tested x xs true e h = (small x e, h)
  where
    small : (x : ℕ) → ltb x 256 ≡ true → x < 256
    small x e = grind (arith, nat_tests)
tested x xs false e h = absurd (cc)

small_bytes : (xs : List ℕ) → all_small xs ≡ true → IsBytes xs
small_bytes [] h = none_bytes
small_bytes (x ∷ xs) h = let (s, r) = tested x xs (ltb x 256) refl h in All-cons (λ (b : ℕ). b < 256) x xs s (small_bytes xs r)

-- ---- the tags
state_tag_bytes : IsBytes state_tag
unfolding state_tag
state_tag_bytes = small_bytes state_tag refl

output_tag_bytes : IsBytes output_tag
unfolding output_tag
output_tag_bytes = small_bytes output_tag refl

assumptions_tag_bytes : IsBytes assumptions_tag
unfolding assumptions_tag
assumptions_tag_bytes = small_bytes assumptions_tag refl

claim_tag_bytes : IsBytes claim_tag
unfolding claim_tag
claim_tag_bytes = small_bytes claim_tag refl

-- ---- the memory of a state
pub page_bytes : (m : ℕ → ℕ) → ((a : ℕ) → m a < 256) → ArePages (page_of m)
page_bytes m h i = (length-bytes m (1024 * i) 1024, bytes_are m (1024 * i) 1024 h)

put_shape : (h i : ℕ) (t : Part) (m : ℕ → List ℕ) → ArePages m → IsPart h t → IsPart h (put_part i t m)
put_shape h i (pruned digest) m memory shape = shape
put_shape zero i (branch left right) m memory shape = shape
put_shape (suc h) i (branch left right) m memory shape = (put_shape h (2 * i) left m memory shape.0, put_shape h (2 * i + 1) right m memory shape.1)
put_shape zero i (leaf page) m memory shape = memory i
put_shape (suc h) i (leaf page) m memory shape = shape

module _ (H : List ℕ → List ℕ) (is_digest : (x : List ℕ) → IsDigest (H x)) where
  tag_bytes : (tag : List ℕ) (downs : List (List ℕ)) (words : List ℕ) → IsBytes (flat_map (λ (d : List ℕ). d) downs) → IsBytes (tag_string H tag downs words)
  tag_bytes tag downs words h =
      both_bytes (H tag ++ flat_map (λ (d : List ℕ). d) downs ++ flat_map (to_le_bytes w32) words) (to_le_bytes w16 (length downs))
      (both_bytes (H tag ++ flat_map (λ (d : List ℕ). d) downs) (flat_map (to_le_bytes w32) words)
      (both_bytes (H tag) (flat_map (λ (d : List ℕ). d) downs) (is_digest tag).1 h) (words-small words))
      (to_le_bytes-small w16 (length downs))

  one_down : (a : List ℕ) → IsBytes a → IsBytes (a ++ [])
  one_down a h = both_bytes a [] h none_bytes

  two_down : (a b : List ℕ) → IsBytes a → IsBytes b → IsBytes (a ++ (b ++ []))
  two_down a b h k = both_bytes a (b ++ []) h (one_down b k)

  four_down : (a b c d : List ℕ) → IsBytes a → IsBytes b → IsBytes c → IsBytes d → IsBytes (a ++ (b ++ (c ++ (d ++ []))))
  four_down a b c d ha hb hc hd = both_bytes a (b ++ (c ++ (d ++ []))) ha (both_bytes b (c ++ (d ++ [])) hb (two_down c d hc hd))

  state_bytes : (s : SystemState) → IsBytes s.root → IsBytes (state_string H s)
  state_bytes s h = tag_bytes state_tag (s.root ∷ []) (s.pc ∷ []) (one_down s.root h)

  output_bytes : (a b : List ℕ) → IsBytes a → IsBytes b → IsBytes (output_string H a b)
  output_bytes a b h k = tag_bytes output_tag (a ∷ b ∷ []) [] (two_down a b h k)

  claim_bytes : (b a o : List ℕ) (exit : Exit) → IsBytes b → IsBytes a → IsBytes o → IsBytes (claim_string_of H b a o exit)
  claim_bytes b a o exit hb ha ho = tag_bytes claim_tag (zero_digest ∷ b ∷ a ∷ o ∷ []) (exit_pair exit) (four_down zero_digest b a o (zero_bytes 32) hb ha ho)

  list_bytes : (tag : List ℕ) (items : List (List ℕ)) → IsBytes (list_digest H tag items)
  list_bytes tag [] = zero_bytes 32
  list_bytes tag (item ∷ items) = (is_digest (tag_string H tag (item ∷ list_digest H tag items ∷ []) [])).1

  cell_bytes : (calls : List AssumeCall) → AllBytes (assumption_cells H calls)
  cell_bytes [] = all_none
  cell_bytes (call ∷ calls) =
      all_more (tag_string H assumptions_tag (ok_digest H call ∷ assumptions_of H calls ∷ []) []) (assumption_cells H calls)
      (tag_bytes assumptions_tag (ok_digest H call ∷ assumptions_of H calls ∷ []) []
      (two_down (ok_digest H call) (assumptions_of H calls) (is_digest (ok_string H call)).1 (list_bytes assumptions_tag (map (ok_digest H) calls))))
      (cell_bytes calls)

  ok_bytes : (call : AssumeCall) → IsDigest call.image → IsDigest call.journal → AllBytes (ok_strings H call)
  ok_bytes call i j =
      let of_output = output_bytes call.journal zero_digest j.1 (zero_bytes 32) in
      let of_halted = state_bytes halted_state (zero_bytes 32) in
      all_more (ok_output H call) (ok_string H call ∷ state_string H halted_state ∷ []) of_output
      (all_more (ok_string H call) (state_string H halted_state ∷ [])
      (claim_bytes call.image (H (state_string H halted_state)) (H (ok_output H call)) (HaltedWith 0) i.1 (is_digest (state_string H halted_state)).1 (is_digest (ok_output H call)).1)
      (all_one (state_string H halted_state) of_halted))

  oks_bytes : (calls : List AssumeCall) → AreCalls calls → AllBytes (flat_map (ok_strings H) calls)
  oks_bytes [] are = all_none
  oks_bytes (call ∷ calls) are = all_both (ok_strings H call) (flat_map (ok_strings H) calls) (ok_bytes call are.0.0 are.0.1) (oks_bytes calls are.1)

  -- ---- seals
  put_tree_shape : (seal : Seal) (exit : Exit) (t : State) → IsSeal seal → ending seal ≡ Some (exit, t) → IsPart 18 (put_tree seal t)
  put_tree_shape seal exit t good e = put_shape 18 0 seal.tree (page_of (full t)) (full_pages t (end_made seal exit t good e)) good.shape

  end_bytes : (seal : Seal) (o : Option (Exit × State)) → IsSeal seal → ending seal ≡ o → AllBytes (end_strings H seal o)
  end_bytes seal (Some (Split, t)) good e = λ x c. part_bytes H is_digest 18 (put_tree seal t) x (put_tree_shape seal Split t good e) c
  end_bytes seal (Some (HaltedWith code, t)) good e = all_none
  end_bytes seal None good e = all_none

  seals_bytes : (seals : List Seal) → AreSeals seals → AllBytes (flat_map (seal_strings H) seals)
  seals_bytes [] good = all_none
  seals_bytes (seal ∷ seals) good =
      all_both (seal_strings H seal) (flat_map (seal_strings H) seals)
      (all_both (part_strings H seal.tree) (end_strings H seal (ending seal))
      (λ x c. part_bytes H is_digest 18 seal.tree x good.0.shape c) (end_bytes seal (ending seal) good.0 refl))
      (seals_bytes seals good.1)

  -- ---- claims
  record RootsAreBytes (claim : SpanClaim) : Type 0 where
    before : IsBytes claim.before.root
    after : IsBytes claim.after.root

  after_bytes : (seal : Seal) (exit : Exit) (t : State) → IsSeal seal → ending seal ≡ Some (exit, t) → IsBytes (claim_at H seal (exit, t)).after.root
  after_bytes seal Split t good e = bytes_of_root H is_digest 18 (put_tree seal t) (put_tree_shape seal Split t good e)
  after_bytes seal (HaltedWith code) t good e = zero_bytes 32

  seal_roots : (seal : Seal) (claim : SpanClaim) → IsSeal seal → claim_of H seal ≡ Some claim → RootsAreBytes claim
  seal_roots seal claim good e =
      let h = has_claim H seal claim e in
      subst (λ (c : SpanClaim). RootsAreBytes c) (sym h.is)
      (record { before = bytes_of_root H is_digest 18 seal.tree good.shape; after = after_bytes seal h.exit h.state good h.ends })

  chain_roots : (seals : List Seal) (claim : SpanClaim) → AreSeals seals → chain_of H seals ≡ Some claim → RootsAreBytes claim
  chain_roots [] claim good chain = absurd (cc)
  chain_roots (seal ∷ []) claim good chain = seal_roots seal claim good.0 chain
  chain_roots (seal ∷ next ∷ seals) claim good chain =
      let j = joins (claim_of H seal) (chain_of H (next ∷ seals)) claim chain in
      subst (λ (c : SpanClaim). RootsAreBytes c) (sym j.is)
      (record { before = (seal_roots seal j.left good.0 j.is_left).before; after = (chain_roots (next ∷ seals) j.right good.1 j.is_right).after })

  claims_bytes : (seals : List Seal) (o : Option SpanClaim) → AreSeals seals → chain_of H seals ≡ o → AllBytes (claim_strings H o)
  claims_bytes seals None good chain = all_none
  claims_bytes seals (Some claim) good chain =
      let made = chain_made H seals claim good chain in
      let roots = chain_roots seals claim good chain in
      let before = state_string H claim.before in
      let after = state_string H claim.after in
      let plain = resolved_output H claim in
      let asking = conditional_output H claim in
      let mine = claim_string H claim in
      let other = conditional_string H claim in
      let rest = assumption_cells H claim.calls ++ flat_map (ok_strings H) claim.calls in
      all_more before (after ∷ claim.journal ∷ plain ∷ asking ∷ mine ∷ other ∷ rest) (state_bytes claim.before roots.before)
      (all_more after (claim.journal ∷ plain ∷ asking ∷ mine ∷ other ∷ rest) (state_bytes claim.after roots.after)
      (all_more claim.journal (plain ∷ asking ∷ mine ∷ other ∷ rest) made.journal
      (all_more plain (asking ∷ mine ∷ other ∷ rest) (output_bytes (H claim.journal) zero_digest (is_digest claim.journal).1 (zero_bytes 32))
      (all_more asking (mine ∷ other ∷ rest) (output_bytes (H claim.journal) (assumptions_of H claim.calls) (is_digest claim.journal).1 (list_bytes assumptions_tag (map (ok_digest H) claim.calls)))
      (all_more mine (other ∷ rest) (claim_bytes (H before) (H after) (H plain) claim.exit (is_digest before).1 (is_digest after).1 (is_digest plain).1)
      (all_more other rest (claim_bytes (H before) (H after) (H asking) claim.exit (is_digest before).1 (is_digest after).1 (is_digest asking).1)
      (all_both (assumption_cells H claim.calls) (flat_map (ok_strings H) claim.calls) (cell_bytes claim.calls) (oks_bytes claim.calls made.calls))))))))

  -- ---- all
  entries_bytes : (entries : List Entry) → AreEntries entries → AllBytes (flat_map (entry_strings H) entries)
  entries_bytes [] good = all_none
  entries_bytes (entry ∷ entries) good =
      all_both (entry_strings H entry) (flat_map (entry_strings H) entries)
      (all_both (flat_map (seal_strings H) entry.seals) (claim_strings H (chain_of H entry.seals))
      (seals_bytes entry.seals good.0.seals) (claims_bytes entry.seals (chain_of H entry.seals) good.0.seals refl))
      (entries_bytes entries good.1)

  tags_bytes : AllBytes tag_names
  tags_bytes =
      all_more state_tag (output_tag ∷ assumptions_tag ∷ claim_tag ∷ []) state_tag_bytes
      (all_more output_tag (assumptions_tag ∷ claim_tag ∷ []) output_tag_bytes (all_more assumptions_tag (claim_tag ∷ []) assumptions_tag_bytes (all_one claim_tag claim_tag_bytes)))

  pub hashed_are_bytes : HashedAreBytes H
  hashed_are_bytes B image x good is_image c =
      let memory : ArePages (page_of image.memory) = page_bytes image.memory (λ a. let h = is_image.bytes a in omega (arith, h)) in
      all_both (strings_of H B) (tree_strings H (page_of image.memory) 18 0 ++ (image_string H image ∷ []))
      (all_both (flat_map (entry_strings H) B) tag_names (entries_bytes B good.entries) tags_bytes)
      (all_both (tree_strings H (page_of image.memory) 18 0) (image_string H image ∷ [])
      (λ y d. tree_bytes H is_digest (page_of image.memory) 18 0 y memory d)
      (all_one (image_string H image) (tag_bytes state_tag (root H (page_of image.memory) ∷ []) (image.entry ∷ []) (one_down (root H (page_of image.memory)) (is_digest (node_string H (page_of image.memory) 18 0)).1)))) x c
