use Rattle.guest_gen.proofs.Lines.{valid_at, line_written}
use Rattle.guest_gen.proofs.assembling.put_lines.Goals as goal

pub word-requires : goal.word-requires
word-requires c = valid_at c.args.lines.now c.loop-line.line-index _ c.loop-line-test.true c.requires

pub loop-line-preserved : goal.loop-line-preserved
loop-line-preserved c =
    line_written c.args.lines.now c.loop-line.line-index _ c.word.result c.args.out.now c.loop-line.out c.put_u32.new.self c.loop-line-test.true c.loop-line.invariant c.word.ensures c.in_ok-put_u32.ensures.ok
