-- The seals of an image's run keep the limits of a receipt. H is the digest function.
use Rattle.std.proofs.Common.{◌≡◌, ⊎_elim, ℕ, zero, suc, ◌-◌, ◌^◌, ◌<◌, ◌≤◌, true, List, [], ◌∷◌, ◌++◌, length, Option, Some, None, refl, sym, subst, arith, length-append, length-take}
use Rattle.std.specs.Prelude.{All, Contains}
use Rattle.std.proofs.lemmas.Bool.Decides.{eqb_tells}
use Rattle.std.proofs.lemmas.List.Elements.{All-nil, All-cons, All-tail, All-append, All-take, Contains-append_cases}
use Rattle.digest_core.specs.Digests.{IsDigest}
use Rattle.page_core.specs.Images.{Image, IsImage}
use Rattle.page_core.specs.Memory.{ascending}
use Rattle.page_core.specs.Memories.{page_of}
use Rattle.page_core.proofs.Listed.{Contains-none, Contains-head, Contains-tail}
use Rattle.page_core.proofs.Ascending.{Contains-from_ascending}
use Rattle.host_calls.specs.declared.call.Call.TheVariants.{Halt, Read, Commit, Assume}
use Rattle.part_tree.specs.Canonical.{IsCanonical}
use Rattle.part_tree.proofs.Formed.{canonical_form}
use Rattle.rv_step.specs.declared.act.Act.{Act}
use Rattle.rv_step.specs.declared.act.Act.TheVariants.{Sets, Loads, Stores, Does, Faults}
use Rattle.rv_step.specs.Acts.{IsMade}
use Rattle.rv_step.specs.Laws.{IsReady}
use Rattle.rv_step.specs.Machine.{State, act, full, cost_of_act, step_cost}
use Rattle.rv_step.specs.Runs.{start, after, at_some, run_cost, run_pages, pages_at}
use Rattle.rv_step.proofs.Feet.{foot_has_registers}
use Rattle.rv_step.proofs.Kept.{step_keeps}
use Rattle.rv_step.proofs.Made.{full_pages}
use Rattle.rv_step.proofs.Runs.{run_keeps, spent_next}
use Rattle.flat_machine.proofs.RunFeet.{some_cost}
use Rattle.receipt_types.specs.Limits.{SealLimits, AllSealLimits}
use Rattle.seal_replay.proofs.Chains.{start_ready}
use Rattle.executor.specs.Segments.{Limits, done_in, segment_fits, longest, segments}
use Rattle.executor.specs.Proving.{words_taken, read_by, read_at, run_words, seal_from, seals_from}
use Rattle.executor.specs.Laws.{AreLimits, CutsKeepLimits}
use Rattle.executor.proofs.Ordered.{ascending_some}
use Rattle.executor.proofs.Cutting.{run_ready, spent_least, fits_tells, longest_low, longest_fits, longest_some, segments_none, segments_some}
use Rattle.executor.proofs.Covered.{EachFits, later, first_fits, each_done_fits}
use Rattle.executor.proofs.Forward.{foot_in, step_words}
use Rattle.executor.proofs.Replays.{touched_in}

-- ---- words
abbrev AreWords : List ℕ → Type 0
AreWords words = All (λ word. word < 2 ^ 32) words

-- a step takes no more words than it costs
taken_cost : (a : Act) → words_taken a ≤ cost_of_act a
taken_cost (Sets pc rd v) = omega arith
taken_cost (Loads op rd a) = omega arith
taken_cost (Stores op a v) = omega arith
taken_cost (Does (Halt code)) = omega arith
taken_cost (Does (Read pointer count)) = omega arith
taken_cost (Does (Commit pointer count)) = omega arith
taken_cost (Does (Assume image journal)) = omega arith
taken_cost (Faults fault) = omega arith

read_few : (s : State) → length (read_by s) ≤ step_cost s
unfolding read_by step_cost
read_few s = omega (arith, length-take (words_taken (act s)) s.words, taken_cost (act s))

pub used_few : (s : State) (n : ℕ) → length (run_words s n) ≤ run_cost s n
unfolding run_words run_cost
used_few s zero = omega arith
used_few s (suc n) = omega (arith, length-append (run_words s n) (read_at (after s n)), used_few s n, read_at_few (after s n))
  where
    read_at_few : (o : Option State) → length (read_at o) ≤ at_some step_cost o
    read_at_few (Some t) = read_few t
    read_at_few None = omega arith

words_behind : (xs ys : List ℕ) → AreWords (xs ++ ys) → AreWords ys
words_behind [] ys h = h
words_behind (x ∷ xs) ys h = words_behind xs ys (All-tail (λ (word : ℕ). word < 2 ^ 32) x (xs ++ ys) h)

-- the words that are left are among those before
words_left : (s : State) (n : ℕ) (t : State) → AreWords s.words → after s n ≡ Some t → AreWords t.words
words_left s n t =
    run_keeps (λ (u : State). AreWords u.words) (λ u v e h. words_behind (read_by u) v.words (subst AreWords (step_words u v e) h)) s n t

read_words : (s : State) → AreWords s.words → AreWords (read_by s)
unfolding read_by
read_words s h = All-take (λ (word : ℕ). word < 2 ^ 32) (words_taken (act s)) s.words h

used_words : (s : State) (n : ℕ) → AreWords s.words → AreWords (run_words s n)
unfolding run_words
used_words s zero h = All-nil (λ (word : ℕ). word < 2 ^ 32)
used_words s (suc n) h = All-append (λ (word : ℕ). word < 2 ^ 32) (run_words s n) (read_at (after s n)) (used_words s n h) (read_at_words (after s n) refl)
  where
    read_at_words : (o : Option State) → after s n ≡ o → AreWords (read_at o)
    read_at_words (Some t) there = read_words t (words_left s n t h there)
    read_at_words None there = All-nil (λ (word : ℕ). word < 2 ^ 32)

-- ---- pages
pub touched_low : (s : State) (n : ℕ) → IsReady s → (p : ℕ) → Contains (run_pages s n) p → p < 262144
unfolding run_pages
touched_low s zero ready p h = absurd (Contains-none p h)
touched_low s (suc n) ready p h =
    ⊎_elim (touched_low s n ready p) (foot_low (after s n) refl) (Contains-append_cases (run_pages s n) (pages_at (after s n)) p h)
  where
    foot_low : (o : Option State) → after s n ≡ o → Contains (pages_at o) p → p < 262144
    foot_low (Some t) there e = foot_in t (run_ready s n t ready there).aligned p e
    foot_low None there e = absurd (Contains-none p e)

pub all_low : (ps : List ℕ) → ((p : ℕ) → Contains ps p → p < 262144) → All (λ page. page < 262144) ps
all_low [] h = All-nil (λ (page : ℕ). page < 262144)
all_low (p ∷ ps) h = All-cons (λ (page : ℕ). page < 262144) p ps (h p (Contains-head p p ps refl)) (all_low ps (λ q e. h q (Contains-tail q p ps e)))

pub touched_registers : (s : State) (n : ℕ) → 0 < n → Contains (run_pages s n) 262143
unfolding after
touched_registers s n some = touched_in s n 0 s some refl 262143 (foot_has_registers s)

-- ---- a seal
pub steps_cost : (s : State) (n : ℕ) → ((k : ℕ) → k < n → (u : State) × (after s k ≡ Some u)) → n ≤ run_cost s n
steps_cost s zero each = omega arith
steps_cost s (suc m) each =
    let (u, there) = each m (omega arith) in
    omega (arith, spent_least s m u there, spent_next s m u there, some_cost u)

module _ (H : List ℕ → List ℕ) (is_digest : (x : List ℕ) → IsDigest (H x)) (l : Limits) (are : AreLimits l) where
  canonical : (s : State) (n : ℕ) → IsReady s → IsMade s → 0 < n → length (ascending (run_pages s n)) ≤ l.pages → IsCanonical (seal_from H s n).tree
  canonical s n ready made some few =
      let bound : l.pages ≤ 4096 = are.most_pages in
      canonical_form H (page_of (full s)) (ascending (run_pages s n)) is_digest (full_pages s made)
      (all_low (ascending (run_pages s n)) (λ p h. touched_low s n ready p (Contains-from_ascending (run_pages s n) p h)))
      (ascending_some (run_pages s n) 262143 (touched_registers s n some)) (omega (arith, few, bound))

  seal_limits : (s : State) (n : ℕ) → IsReady s → IsMade s → AreWords s.words → 0 < n → segment_fits l s n ≡ true → n ≤ run_cost s n → SealLimits (seal_from H s n)
  seal_limits s n ready made words some fit steps =
      let (cost, few) = fits_tells l s n fit in
      let bound : l.cycles ≤ 16777216 = are.most_cycles in
      record {
        numbers = record {
          aligned = ready.aligned;
          is_word = ready.is_word;
          some_steps = some;
          few_steps = omega (arith, steps, cost, bound);
          few_words = omega (arith, used_few s n, cost, bound);
        };
        are_words = used_words s n words;
        tree = canonical s n ready made some few;
      }

  no_seals : (most : ℕ) (o : Option State) (m : ℕ) → m ≡ 0 → AllSealLimits (seals_from H o (segments l most o m))
  no_seals most o m e =
      subst (λ (j : ℕ). AllSealLimits (seals_from H o (segments l most o j))) (sym e)
      (subst (λ (ns : List ℕ). AllSealLimits (seals_from H o ns)) (sym (segments_none l most o)) (none o))
    where
      none : (o : Option State) → AllSealLimits (seals_from H o [])
      none o = tt

  all_limits : (most : ℕ) (s : State) (n : ℕ) → n ≤ most → IsReady s → IsMade s → AreWords s.words → EachFits l s n
      → AllSealLimits (seals_from H (Some s) (segments l most (Some s) n))
  all_limits zero s n low ready made words each = no_seals 0 (Some s) n (omega (arith, low))
  all_limits (suc most) s n low ready made words each =
      ⊎_elim (λ t. no_seals (suc most) (Some s) n t.1)
      (λ t.
      let some : 0 < n = omega (arith, t.1) in
      let k : ℕ = longest l s n in
      let positive : 0 < k = longest_some l s n some (first_fits l s n some each) in
      let below : k ≤ n = longest_low l s n in
      subst (λ (ns : List ℕ). AllSealLimits (seals_from H (Some s) ns)) (sym (segments_some l most s n some)) (
        seal_limits s k ready made words positive (longest_fits l s n)
            (steps_cost s k (λ j less. let (u, there, one) = each j (omega (arith, less, below)) in (u, there))),
        ⊎_elim (λ e. no_seals most (after s k) (n - k) e.1)
            (λ e.
            let (v, reached, fit) = each k (omega (arith, e.1)) in
            subst (λ (o : Option State). AllSealLimits (seals_from H o (segments l most o (n - k)))) (sym reached)
            (all_limits most v (n - k) (omega (arith, positive, low)) (run_ready s k v ready reached) (run_keeps IsMade (λ u w g. (step_keeps u w g).made) s k v made reached)
            (words_left s k v words reached) (later l s k n v reached below each)))
            (eqb_tells (n - k) 0),
      ))
      (eqb_tells n 0)

start_made : (image : Image) (words : List ℕ) → IsImage image → IsMade (start image words)
start_made image words is_image = record { memory = is_image.bytes; journal = All-nil (λ (b : ℕ). b < 256); calls = tt }

pub cuts_keep_limits : (H : List ℕ → List ℕ) → ((x : List ℕ) → IsDigest (H x)) → CutsKeepLimits H
cuts_keep_limits H is_digest l image words are is_image small =
    let s : State = start image words in
    let ready : IsReady s = start_ready image words is_image in
    all_limits H is_digest l are (done_in l.limit s) s (done_in l.limit s) (omega arith) ready (start_made image words is_image) small (each_done_fits l s are ready)
