use Rattle.std.proofs.Common.{ℕ, Option, inl, inr, map, sym, subst}
use Rattle.std.specs.Prelude.{string_bytes}
use Rattle.outside.specs.Files.{Files}
use Rattle.outside.specs.Faults.{Rose}
use Rattle.command_frame.proofs.Causes.{cause_printed}
use Rattle.command_frame.proofs.After.{done_or_fails, end_written, ends_after}
use Rattle.check_calls.specs.Top.{CheckTable}
use Rattle.check_calls.proofs.Commands.{top_done, top_collision, top_passes}
use Rattle.check_calls.proofs.top.check_top.Goals as goal

pub put_end-requires : goal.put_end-requires
put_end-requires g c =
    cause_printed (CheckTable g.D.Digester.digest_of (map string_bytes c.args.words.now) (g.K.Desk.contents c.args.desk.now)) c.answer-end.result c.answer-end.ensures.answer

pub returns-clause-answer : goal.returns-clause-answer
returns-clause-answer g c =
    let told : Option Files = g.K.Desk.contents c.args.desk.now in
    ends_after (CheckTable g.D.Digester.digest_of (map string_bytes c.args.words.now) told) c.answer-end.result c.put_end.result told _ _ _ _ c.answer-end.ensures.contents
    c.answer-end.ensures.answer c.put_end.ensures.puts

pub returns-clause-done : goal.returns-clause-done
returns-clause-done g c done =
    let H = g.D.Digester.digest_of in
    let words = map string_bytes c.args.words.now in
    let told : Option Files = g.K.Desk.contents c.args.desk.now in
    top_done H c.headline.ensures.vouches c.faithful_vouches.ensures told _ _ _ words c.put_end.result done
    (ends_after (CheckTable H words told) c.answer-end.result c.put_end.result told _ _ _ _ c.answer-end.ensures.contents c.answer-end.ensures.answer c.put_end.ensures.puts)

pub returns-clause-collision : goal.returns-clause-collision
returns-clause-collision g c collides =
    let H = g.D.Digester.digest_of in
    let words = map string_bytes c.args.words.now in
    let told : Option Files = g.K.Desk.contents c.args.desk.now in
    top_collision H told _ _ _ words c.put_end.result collides
    (ends_after (CheckTable H words told) c.answer-end.result c.put_end.result told _ _ _ _ c.answer-end.ensures.contents c.answer-end.ensures.answer c.put_end.ensures.puts)

pub returns-clause-complete : goal.returns-clause-complete
returns-clause-complete g c complete =
    let H = g.D.Digester.digest_of in
    let words = map string_bytes c.args.words.now in
    let told : Option Files = g.K.Desk.contents c.args.desk.now in
    done_or_fails (CheckTable H words told) c.answer-end.result c.put_end.result _ _ _ _ c.answer-end.ensures.answer
    (λ status lines kept answers. top_passes H status lines kept words told complete answers) c.put_end.ensures.puts

pub returns-clause-read_fault : goal.returns-clause-read_fault
returns-clause-read_fault g c fault =
    let (names, rose) = c.answer-end.ensures.fault (c.put_end.ensures.read_fault fault) in
    (names, subst (Rose (g.K.Desk.read_faults c.args.desk.now)) (sym c.put_end.ensures.reads) rose)

pub returns-clause-write_fault : goal.returns-clause-write_fault
returns-clause-write_fault g c fault =
    let H = g.D.Digester.digest_of in
    let words = map string_bytes c.args.words.now in
    let told : Option Files = g.K.Desk.contents c.args.desk.now in
    elim (c.put_end.ensures.write_fault fault) [
      | inl both ↦ inl (
        end_written (CheckTable H words told) c.answer-end.result c.answer-end.ensures.answer both.0,
        subst (λ (n : ℕ). Rose n (g.K.Desk.write_faults c.put_end.new.desk)) c.answer-end.ensures.write_faults both.1,
      )
      | inr put ↦ inr put
    ]
