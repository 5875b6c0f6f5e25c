use Rattle.std.proofs.Common.{rules, ℕ, ◌+◌, ◌*◌, ◌/◌, ◌%◌, ◌<◌, List, [], ◌∷◌, get_or, set, ap, ◌∙◌}
use Rattle.std.proofs.lemmas.Nat.{le_bytes_4}
use Rattle.page_core.specs.Memory.{put}
use Rattle.rv_step.proofs.Words.{half_patched}
use Rattle.rv_step.proofs.access.store_half.Goals as goal

pub returns-clause-written : goal.returns-clause-written
returns-clause-written g c =
    let m : ℕ → ℕ = g.B.Bus.byte_at c.args.bus.now in
    let a : ℕ = c.args.address in
    let low : ℕ = get_or c.to_le_bytes.result 0 0 in
    let high : ℕ = get_or c.to_le_bytes.result 1 0 in
    let small : (i : ℕ) → get_or (set c.word_bytes-bytes.result (a % 4) low) i 0 < 256 = search rules in
    let bytes : List ℕ = set (set c.word_bytes-bytes.result (a % 4) low) (a % 4 + 1) high in
    c.store_word.ensures.written
    ∙ ap (put m (a / 4 * 4)) (le_bytes_4 bytes c.from_le_bytes.result (search rules) (search rules) c.from_le_bytes.ensures)
    ∙ ap (λ (old : List ℕ). put m (a / 4 * 4) (set (set old (a % 4) low) (a % 4 + 1) high)) c.word_bytes-bytes.ensures
    ∙ half_patched m a low high c.requires.aligned
    ∙ ap (λ (bs : List ℕ). put m a (get_or bs 0 0 ∷ get_or bs 1 0 ∷ [])) c.to_le_bytes.ensures
