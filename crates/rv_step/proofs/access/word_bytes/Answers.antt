use Rattle.std.proofs.Common.{ℕ, ◌*◌, ◌/◌, List, ◌∙◌}
use Rattle.std.proofs.lemmas.Nat.{le_bytes_4}
use Rattle.page_core.specs.Memory.{bytes}
use Rattle.page_core.proofs.Bytes.{length-bytes, small_in}
use Rattle.rv_step.proofs.access.word_bytes.Goals as goal

pub returns : goal.returns
returns g c =
    let m : ℕ → ℕ = g.B.Bus.byte_at c.args.bus.now in
    let a : ℕ = c.args.address / 4 * 4 in
    let four : List ℕ = bytes m a 4 in
    c.to_le_bytes.ensures ∙ le_bytes_4 four c.load_word.result (length-bytes m a 4) (small_in four c.load_word.ensures.bytes) c.load_word.ensures.value
