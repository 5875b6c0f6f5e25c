use Rattle.std.proofs.Common.{◌≤◌, length, Some, sym, ap, ◌∙◌, subst, arith}
use Rattle.std.proofs.lemmas.Result.{IfOk-weaker, IfErr-weaker}
use Rattle.elf_image.specs.Loaded.{image_of}
use Rattle.rv_step.specs.Runs.{start}
use Rattle.executor.specs.Segments.{lengths}
use Rattle.executor.specs.Cutting.{IsCutting, Cut}
use Rattle.session.proofs.SoFar.{SoFar, one_more, may_follow, something, proves, stops, given, are_limits, ready}
use Rattle.session.proofs.alone.prove_alone.Goals as goal

pub with_cut-requires-after_bounds : goal.with_cut-requires-after_bounds
with_cut-requires-after_bounds g c κs within =
    let H = g.D.Digester.digest_of in
    let proving = c.loop-whole.invariant in
    let cut = given H c.next.new.self.number proving c.in_ok-cut.ensures.gives c.in-Cut.is in
    let are = are_limits H proving c.next.ensures.limits (subst IsCutting c.executor.view_is c.executor.invariant) in
    may_follow H _ _ _ are (ready c.args.image _) _ _ proving.so_far (cut.2 ∙ ap (λ (made : Cut). Some made.seal) (sym c.deref.ensures))

pub loop-whole-smaller : goal.loop-whole-smaller
loop-whole-smaller g c =
    let H = g.D.Digester.digest_of in
    let cut = given H c.next.new.self.number c.loop-whole.invariant c.in_ok-cut.ensures.gives c.in-Cut.is in
    omega (arith, cut.0, cut.3)

pub loop-whole-preserved : goal.loop-whole-preserved
loop-whole-preserved g c =
    let H = g.D.Digester.digest_of in
    let proving = c.loop-whole.invariant in
    let cut = given H c.next.new.self.number proving c.in_ok-cut.ensures.gives c.in-Cut.is in
    let joined = c.in_ok-with_cut-in-Cut.ensures in
    record {
      limits = c.next.ensures.limits ∙ proving.limits;
      stands = c.next.ensures.stands _ _ proving.stands;
      so_far =
          subst (λ n. SoFar H c.args.limits (start (image_of c.args.image) c.args.words.items) n (Some c.in_ok-with_cut-in-Cut.field-0)) (sym cut.3)
          (one_more H _ _ _ _ _ _ proving.so_far cut.0 (cut.2 ∙ ap (λ (made : Cut). Some made.seal) (sym c.deref.ensures)) joined.seals joined.chained joined.limits);
    }

pub ended-requires-after_bounds : goal.ended-requires-after_bounds
ended-requires-after_bounds g c κs within =
    let H = g.D.Digester.digest_of in
    let proving = c.loop-whole.invariant in
    let end = given H c.next.new.self.number proving c.in_ok-cut.ensures.gives c.in-Ended.is in
    let are = are_limits H proving c.next.ensures.limits (subst IsCutting c.executor.view_is c.executor.invariant) in
    something H _ _ _ are (ready c.args.image _) end.0 _ _ proving.so_far end.1

pub returns-in-Ended-clause-proved : goal.returns-in-Ended-clause-proved
returns-in-Ended-clause-proved g c =
    let H = g.D.Digester.digest_of in
    let proving = c.loop-whole.invariant in
    let end = given H c.next.new.self.number proving c.in_ok-cut.ensures.gives c.in-Ended.is in
    let are = are_limits H proving c.next.ensures.limits (subst IsCutting c.executor.view_is c.executor.invariant) in
    IfOk-weaker c.ended.result _ _
    (λ joined made. proves H _ _ _ are (ready c.args.image _) end.0 joined _ (subst (SoFar H _ _ _) made.1 proving.so_far) end.1 made.0)
    c.ended.ensures.ok

pub returns-in-Ended-clause-stop : goal.returns-in-Ended-clause-stop
returns-in-Ended-clause-stop g c =
    let H = g.D.Digester.digest_of in
    let proving = c.loop-whole.invariant in
    let end = given H c.next.new.self.number proving c.in_ok-cut.ensures.gives c.in-Ended.is in
    let few : length (lengths c.args.limits (start (image_of c.args.image) c.args.words.items)) ≤ 65535 = omega (arith, end.0, proving.so_far.few) in
    IfErr-weaker c.ended.result _ _ (λ stop told. stops H _ _ _ stop few end.1 told) c.ended.ensures.stop

pub returns-in-TooManySeals-clause-stop : goal.returns-in-TooManySeals-clause-stop
returns-in-TooManySeals-clause-stop g c =
    let more = given g.D.Digester.digest_of c.next.new.self.number c.loop-whole.invariant c.in_ok-cut.ensures.gives c.in-TooManySeals.is in
    omega (arith, more.0, more.1)
