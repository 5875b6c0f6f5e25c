use Rattle.check_core.proofs.Vouched as Vouched
use Rattle.check_core.proofs.laws.headline.Goals as goal

pub returns : goal.returns
returns g c = record {
  faithful = Vouched.faithful_or_collides g.D.Digester.digest_of g.D.Digester.is_digest;
  vouches = Vouched.headline g.D.Digester.digest_of g.D.Digester.is_digest;
  audit = Vouched.audit_is_exact g.D.Digester.digest_of g.D.Digester.is_digest;
}
