-- The exit code of a replay is a word.
use Rattle.std.proofs.Common.{◌≡◌, inl, inr, ℕ, zero, suc, ◌+◌, ◌-◌, ◌*◌, ◌/◌, ◌%◌, ◌^◌, ◌<◌, eqb, List, [], ◌∷◌, length, get_or, Option, Some, None, refl, sym, ap, ◌∙◌, subst, arith}
use Rattle.std.specs.Int.{w32, from_le_bytes}
use Rattle.seal_replay.proofs.Entered.{length-words_at}
use Rattle.std.proofs.lemmas.Option.{cond_some}
use Rattle.page_core.proofs.Zeros.{zero_byte}
use Rattle.std.specs.Prelude.{unwrap_or}
use Rattle.page_core.specs.Pages.{IsPage, zero_page}
use Rattle.part_tree.specs.Part.{Part, pruned, branch, leaf, IsPart, page_at, fill}
use Rattle.page_core.specs.Memory.{top, bytes}
use Rattle.rv_isa.specs.Registers.{AreRegisters}
use Rattle.seal_replay.specs.Replay.{enter, registers_in, words_at}
use Rattle.claim_types.specs.declared.claim.Exit.TheVariants.{Halted as HaltedWith}
use Rattle.rv_step.specs.Laws.{IsReady}
use Rattle.rv_step.proofs.Kept.{step_keeps, step_halts_with_word}
use Rattle.rv_step.proofs.Runs.{run_keeps}
use Rattle.seal_replay.proofs.Chains.{halts}
use Rattle.page_core.specs.Memories.{flat}
use Rattle.claim_types.specs.Claims.{SpanClaim}
use Rattle.receipt_types.specs.Seals.{Seal, IsSeal}
use Rattle.seal_replay.specs.Claiming.{claim_of}
use Rattle.lift_join.specs.Joins.{chain_of}
use Rattle.receipt_types.specs.Bundles.{AreSeals}
use Rattle.part_tree.proofs.Shown.{of_either}
use Rattle.lift_join.proofs.Inversion.{has_claim, joins}
use Rattle.check_core.proofs.Carries.{ends_with}

-- ---- the registers that a tree shows
page_shape : (h i p : ℕ) (t : Part) (page : List ℕ) → IsPart h t → page_at i t p ≡ Some page → IsPage page
page_shape h i p (pruned digest) page shape e = absurd (cc)
page_shape zero i p (branch left right) page shape e = absurd shape
page_shape (suc h) i p (branch left right) page shape e =
    elim (of_either (page_at (2 * i) left p) (page_at (2 * i + 1) right p) page e) [
      | inl l ↦ page_shape h (2 * i) p left page shape.0 l
      | inr r ↦ page_shape h (2 * i + 1) p right page shape.1 r
    ]
page_shape zero i p (leaf own) page shape e = subst IsPage (cond_some (eqb p i) own page e).1 shape
page_shape (suc h) i p (leaf own) page shape e = absurd shape

filled_small : (a : ℕ) (o : Option (List ℕ)) → ((page : List ℕ) → o ≡ Some page → IsPage page) → get_or (unwrap_or o zero_page) (a % 1024) 0 < 256
filled_small a (Some page) shape =
    let is_page : IsPage page = shape page refl in
    let size : length page ≡ 1024 = is_page.0 in
    is_page.1 (a % 1024) 0 (omega arith)
filled_small a None shape = omega (arith, zero_byte (a % 1024))

pub fill_small : (t : Part) → IsPart 18 t → (a : ℕ) → flat (fill t) a < 256
fill_small t shape a = filled_small a (page_at 0 t (a / 1024)) (λ page e. page_shape 18 0 (a / 1024) t page shape e)

small_word : (m : ℕ → ℕ) (a : ℕ) → ((a : ℕ) → m a < 256) → from_le_bytes w32 (bytes m a 4) < 2 ^ 32
unfolding bytes
small_word m a h = omega (arith, h a, h (a + 1), h (a + 1 + 1), h (a + 1 + 1 + 1))

words_small : (m : ℕ → ℕ) (a n k : ℕ) → ((a : ℕ) → m a < 256) → get_or (words_at m a n) k 0 < 2 ^ 32
unfolding words_at
words_small m a zero k h = omega arith
words_small m a (suc n) zero h = small_word m a h
words_small m a (suc n) (suc k) h = words_small m (a + 4) n k h

registers_small : (m : ℕ → ℕ) (k : ℕ) → ((a : ℕ) → m a < 256) → get_or (0 ∷ words_at m (top + 4) 31) k 0 < 2 ^ 32
registers_small m zero h = omega arith
registers_small m (suc k) h = words_small m (top + 4) 31 k h

registers_ready : (m : ℕ → ℕ) → ((a : ℕ) → m a < 256) → AreRegisters (registers_in m)
unfolding registers_in
registers_ready m h = record {
  size = ap suc (length-words_at m (top + 4) 31);
  zero_first = refl;
  are_words = λ n. registers_small m n h;
}

pub enter_ready : (seal : Seal) → IsSeal seal → IsReady (enter seal)
enter_ready seal good = record {
  aligned = good.aligned;
  registers = registers_ready (flat (fill seal.tree)) (fill_small seal.tree good.shape);
  is_word = good.is_word;
}

-- ---- so the exit code of a chain is a word
pub chain_code : (H : List ℕ → List ℕ) (seals : List Seal) (claim : SpanClaim) (code : ℕ) → AreSeals seals → chain_of H seals ≡ Some claim → claim.exit ≡ HaltedWith code → code < 2 ^ 32
chain_code H [] claim code good chain exit = absurd (cc)
chain_code H (seal ∷ []) claim code good chain exit =
    let h = has_claim H seal claim chain in
    let (near, stops) = halts seal code h.state (ends_with H seal claim (HaltedWith code) h exit) in
    step_halts_with_word h.state code
    (run_keeps IsReady (λ u v e. (step_keeps u v e).ready) (enter seal) (seal.steps - 1) h.state (enter_ready seal good.0) near) stops
chain_code H (seal ∷ next ∷ seals) claim code good chain exit =
    let j = joins (claim_of H seal) (chain_of H (next ∷ seals)) claim chain in
    chain_code H (next ∷ seals) j.right code good.1 j.is_right (sym (ap (λ (c : SpanClaim). c.exit) j.is) ∙ exit)
