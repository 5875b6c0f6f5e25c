use Rattle.std.proofs.Common.{arith, ◌≡◌, ℕ, ◌+◌, List, ◌++◌, take, subst, sym, IfSome}
use Rattle.std.proofs.lemmas.Grind.{common_steps}
use Rattle.outside.proofs.Pieces.{Begins, told-piece}
use Rattle.outside.proofs.reading.read_all.Goals as goal

pub loop-room-preserved : goal.loop-room-preserved
loop-room-preserved g c =
    let put : c.put_all.new.self ≡ c.loop-room.out ++ take c.in-Ok-Some.n c.read_at.new.buffer =
    grind (arith, common_steps) in
    let P : List ℕ → Type 0 = λ read. IfSome (g.K.Desk.contents c.loop-room.desk)
    (λ files. Begins (files c.args.name.now) (c.loop-room.at + c.in-Ok-Some.n) read) in
    let told = rw c.in-Ok-Some.field-0-is at c.in-Ok-Some.ensures.told in
    let longer = told-piece (g.K.Desk.contents c.loop-room.desk) c.args.name.now c.loop-room.at
    c.in-Ok-Some.n c.loop-room.out c.read_at.new.buffer told c.loop-room.invariant.begins in
    record {
      length_is = grind (arith, common_steps);
      within = omega arith;
      begins = rw c.read_at.ensures.contents (subst P (sym put) longer);
      counted = omega arith;
      contents = cc;
      read_faults = omega arith;
      write_faults = cc;
    }
