use Rattle.std.proofs.Common.{◌≡◌, ◌∙◌, ◌^◌, ◌<◌, arith, append_assoc}
use Rattle.std.specs.Prelude.{string_bytes}
use Rattle.std.proofs.lemmas.Result.{IfOk-weaker}
use Rattle.rv_isa.proofs.HexWords.{padded_hex_word}
use Rattle.cli_text.specs.Runs.{faulted_lines}
use Rattle.cli_text.proofs.runs.faulted_text.Goals as goal

pub returns : goal.returns
returns c =
    let below : c.args.pc < 2 ^ 32 = omega (arith, c.ranges.pc) in
    let told = rw (c.laid_out.ensures, c.in_radix.ensures, padded_hex_word c.args.pc below) at c.in_ok-text.ensures.ok in
    let written : string_bytes c.in_ok-text.text ≡ faulted_lines c.args.step c.args.pc c.args.fault.now = told ∙ simp append_assoc in
    IfOk-weaker c.bytes_of.result _ _ (λ bytes e. e ∙ c.as_str.ensures.value ∙ written) c.bytes_of.ensures
