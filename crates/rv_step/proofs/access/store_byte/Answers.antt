use Rattle.std.proofs.Common.{rules, ℕ, ◌*◌, ◌/◌, ◌%◌, List, set, ap, ◌∙◌}
use Rattle.std.proofs.lemmas.Nat.{le_bytes_4}
use Rattle.page_core.specs.Memory.{put}
use Rattle.rv_step.proofs.Words.{byte_patched}
use Rattle.rv_step.proofs.access.store_byte.Goals as goal

pub returns-clause-written : goal.returns-clause-written
returns-clause-written g c =
    let m : ℕ → ℕ = g.B.Bus.byte_at c.args.bus.now in
    let a : ℕ = c.args.address in
    let bytes : List ℕ = set c.word_bytes-bytes.result (a % 4) c.args.value in
    c.store_word.ensures.written
    ∙ ap (put m (a / 4 * 4)) (le_bytes_4 bytes c.from_le_bytes.result (search rules) (search rules) c.from_le_bytes.ensures)
    ∙ ap (λ (old : List ℕ). put m (a / 4 * 4) (set old (a % 4) c.args.value)) c.word_bytes-bytes.ensures
    ∙ byte_patched m a c.args.value
