use Rattle.std.proofs.Common.{rules, ◌≡◌, ℕ, ◌+◌, List, ◌++◌, ◌∷◌, [], take, Err, Option, sym, subst, ◌∙◌, arith}
use Rattle.outside.specs.Files.{Files}
use Rattle.check_core.specs.Checked.{Checked}
use Rattle.resolve.specs.Resolving.{bundles_of}
use Rattle.command_frame.specs.Ends.{HasCause}
use Rattle.prove_calls.specs.Others.{HasOther, HasOthers, NotOther}
use Rattle.prove_calls.proofs.Receiving.{others_bad, others_more, others_all}
use Rattle.prove_calls.proofs.others.read_others.Goals as goal

pub returns-in_err-other-clause-bad : goal.returns-in_err-other-clause-bad
returns-in_err-other-clause-bad g c =
    let H = g.D.Digester.digest_of in
    let told : Option Files = g.K.Desk.contents c.args.desk.now in
    let name = c.name-item.result in
    let (same, writes, reads, has) = c.loop-name.invariant in
    let end = c.in_err-other.field-0.0 in
    let is : c.from_residual.result ≡ Err end = search rules in
    let bad : HasCause (NotOther H told c.len.result name) end =
    subst (λ (n : List ℕ). HasCause (NotOther H told c.len.result n) end) c.as_str.ensures.value
    (subst (λ (t : Option Files). HasCause (NotOther H t c.len.result c.as_str.result.now) end) same c.in_err-other.ensures.bad) in
    rw is (others_bad H told c.args.names.now c.loop-name.name-index name name c.loop-name-test.true c.name-item.is c.loop-name.others.items c.len.result c.len.ensures has end bad)

pub loop-name-preserved : goal.loop-name-preserved
loop-name-preserved g c =
    let H = g.D.Digester.digest_of in
    let told : Option Files = g.K.Desk.contents c.args.desk.now in
    let name = c.name-item.result in
    let (same, writes, reads, has) = c.loop-name.invariant in
    let other = c.in_ok-other.other in
    let read : HasOther H told name other.bundle =
    subst (λ (n : List ℕ). HasOther H told n other.bundle) c.as_str.ensures.value
    (subst (λ (t : Option Files). HasOther H t c.as_str.result.now other.bundle) same c.in_ok-other.ensures.other) in
    let pushed : c.push.new.self.items ≡ c.loop-name.others.items ++ other ∷ [] = c.in_ok-push.ensures.ok in
    let risen = c.read_other.ensures.read_faults in (
      c.read_other.ensures.contents ∙ same,
      c.read_other.ensures.write_faults ∙ writes,
      omega (arith, reads, risen),
      subst (λ (items : List Checked). HasOthers H told (take (c.loop-name.name-index + 1) c.args.names.now) (bundles_of items)) (sym pushed)
          (others_more H told c.args.names.now c.loop-name.name-index name name c.loop-name-test.true c.name-item.is c.loop-name.others.items other has read),
    )

pub returns-clause-others : goal.returns-clause-others
returns-clause-others g c =
    let (same, writes, reads, has) = c.loop-name.invariant in
    others_all g.D.Digester.digest_of (g.K.Desk.contents c.args.desk.now) c.args.names.now c.loop-name.name-index c.loop-name-test.false c.loop-name.others.items has
