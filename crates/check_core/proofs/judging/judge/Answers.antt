use Rattle.std.proofs.Common.{rules, ◌≡◌, ⊎_elim, Err, sym, subst}
use Rattle.check_core.specs.Checking.{StopsCheck}
use Rattle.check_core.proofs.Linked.{same_digests}
use Rattle.check_core.proofs.Stopping.{seals_stopped, links_stopped, accepted}
use Rattle.check_core.proofs.judging.judge.Goals as goal

pub returns-in_err-claims-clause-stop : goal.returns-in_err-claims-clause-stop
returns-in_err-claims-clause-stop g c =
    let H = g.D.Digester.digest_of in
    let stop = c.in_err-claims.field-0.0 in
    let same = same_digests c.first_id-found.result c.args.id.now c.ne.result c.ne.ensures c.if-ne.false in
    let is : c.from_residual.result ≡ Err stop = search rules in
    rw is
    (⊎_elim (λ e. subst (StopsCheck H c.args.bundle.now c.args.id.now) (sym e) tt)
    (seals_stopped H c.args.bundle.now c.args.id.now c.first_id-found.result c.first_id-found.ensures same stop)
    c.in_err-claims.ensures.stop)

pub returns-in_err-test_links-clause-stop : goal.returns-in_err-test_links-clause-stop
returns-in_err-test_links-clause-stop g c =
    let H = g.D.Digester.digest_of in
    let stop = c.in_err-test_links.field-0.0 in
    let same = same_digests c.first_id-found.result c.args.id.now c.ne.result c.ne.ensures c.if-ne.false in
    let is : c.from_residual-in_err-test_links.result ≡ Err stop = search rules in
    rw is
    (links_stopped H c.args.bundle.now c.args.id.now c.first_id-found.result c.first_id-found.ensures same c.in_ok-claims.ensures.unstopped stop c.in_err-test_links.ensures.stop)

pub returns-clause-accepted : goal.returns-clause-accepted
returns-clause-accepted g c =
    let H = g.D.Digester.digest_of in
    let same = same_digests c.first_id-found.result c.args.id.now c.ne.result c.ne.ensures c.if-ne.false in
    accepted H c.args.bundle.now c.args.id.now c.first_id-found.result c.first_id-found.ensures same c.in_ok-claims.ensures.unstopped c.requires c.in_ok-test_links.ensures.ok
