use Rattle.std.proofs.Common.{rules, ◌≡◌, true, false, sym}
use Rattle.rv_isa.specs.Arithmetic.{alu_of, taken_of}
use Rattle.rv_isa.specs.Registers.{register}
use Rattle.rv_isa.specs.Words.{unsigned_of, plus}
use Rattle.rv_step.specs.Machine.{act_of}
use Rattle.rv_step.proofs.quick.do_quickly.Goals as goal

pub returns-in-Lui-clause-went : goal.returns-in-Lui-clause-went
unfolding act_of
returns-in-Lui-clause-went g c went =
    rw c.in-Lui.is (c.set_quickly.ensures.went (g.B.Bus.byte_at c.args.bus.now) (g.P.PageSet.holds c.args.pages.now))

pub returns-in-Auipc-clause-went : goal.returns-in-Auipc-clause-went
unfolding act_of
returns-in-Auipc-clause-went g c went =
    rw c.in-Auipc.is (c.set_quickly-in-Auipc.ensures.went (g.B.Bus.byte_at c.args.bus.now) (g.P.PageSet.holds c.args.pages.now))

pub returns-in-Jal-clause-went : goal.returns-in-Jal-clause-went
unfolding act_of
returns-in-Jal-clause-went g c went =
    let target : c.moved.result ≡ plus c.args.core.now.pc c.in-Jal.offset = search rules in
    rw (c.in-Jal.is, sym target) (c.jump_quickly.ensures.went went (g.B.Bus.byte_at c.args.bus.now) (g.P.PageSet.holds c.args.pages.now))

pub returns-in-Jalr-clause-went : goal.returns-in-Jalr-clause-went
unfolding act_of
returns-in-Jalr-clause-went g c went =
    let target : c.moved-in-Jalr.result ≡ plus (register c.args.core.now.regs c.in-Jalr.rs1) c.in-Jalr.imm = search rules in
    rw (c.in-Jalr.is, sym target) (c.jump_quickly-in-Jalr.ensures.went went (g.B.Bus.byte_at c.args.bus.now) (g.P.PageSet.holds c.args.pages.now))

pub returns-then-taken-clause-went : goal.returns-then-taken-clause-went
unfolding act_of
returns-then-taken-clause-went g c went =
    let target : c.moved-then-taken.result ≡ plus c.args.core.now.pc c.in-Branch.offset = search rules in
    let test : taken_of c.in-Branch.op (register c.args.core.now.regs c.in-Branch.rs1) (register c.args.core.now.regs c.in-Branch.rs2) ≡ true = search rules in
    rw (c.in-Branch.is, test, sym target) (c.jump_quickly-then-taken.ensures.went went (g.B.Bus.byte_at c.args.bus.now) (g.P.PageSet.holds c.args.pages.now))

pub returns-else-taken-clause-went : goal.returns-else-taken-clause-went
unfolding act_of
returns-else-taken-clause-went g c went =
    let test : taken_of c.in-Branch.op (register c.args.core.now.regs c.in-Branch.rs1) (register c.args.core.now.regs c.in-Branch.rs2) ≡ false = search rules in
    rw (c.in-Branch.is, test) (c.set_quickly-else-taken.ensures.went (g.B.Bus.byte_at c.args.bus.now) (g.P.PageSet.holds c.args.pages.now))

pub returns-in-AluImm-clause-went : goal.returns-in-AluImm-clause-went
unfolding act_of
returns-in-AluImm-clause-went g c went =
    let value : c.alu-value.result ≡ alu_of c.in-AluImm.op (register c.args.core.now.regs c.in-AluImm.rs1) (unsigned_of c.in-AluImm.imm) = search rules in
    rw (c.in-AluImm.is, sym value) (c.set_quickly-in-AluImm.ensures.went (g.B.Bus.byte_at c.args.bus.now) (g.P.PageSet.holds c.args.pages.now))

pub returns-in-Alu-clause-went : goal.returns-in-Alu-clause-went
unfolding act_of
returns-in-Alu-clause-went g c went =
    let value : c.alu-value-in-Alu.result ≡ alu_of c.in-Alu.op (register c.args.core.now.regs c.in-Alu.rs1) (register c.args.core.now.regs c.in-Alu.rs2) = search rules in
    rw (c.in-Alu.is, sym value) (c.set_quickly-in-Alu.ensures.went (g.B.Bus.byte_at c.args.bus.now) (g.P.PageSet.holds c.args.pages.now))

pub returns-in-Fence-clause-went : goal.returns-in-Fence-clause-went
unfolding act_of
returns-in-Fence-clause-went g c went =
    rw c.in-Fence.is (c.set_quickly-in-Fence.ensures.went (g.B.Bus.byte_at c.args.bus.now) (g.P.PageSet.holds c.args.pages.now))
