use Rattle.std.proofs.Common.{◌≡◌, length, arith}
use Rattle.flat_machine.proofs.FullPages.{written_none, written_next, written_all}
use Rattle.flat_machine.proofs.flat.write_registers.Goals as goal

pub loop-n-init : goal.loop-n-init
loop-n-init c = written_none c.args.page.now c.args.regs

pub loop-n-preserved : goal.loop-n-preserved
loop-n-preserved c =
    let size : length c.args.regs ≡ 32 = omega arith in
    written_next c.args.page.now c.loop-n.page c.put.new.self c.args.regs c.to_le_bytes.result c.loop-n.n c.get.result _ c.loop-n.invariant (omega arith) (omega arith) size
    c.get.ensures c.to_le_bytes.ensures (omega arith) c.put.ensures.value c.put.ensures.page

pub returns : goal.returns
returns c =
    let size : length c.args.regs ≡ 32 = omega arith in
    let all : c.loop-n.n ≡ 32 = omega arith in
    written_all c.args.page.now c.loop-n.page c.args.regs c.loop-n.n all size c.loop-n.invariant
