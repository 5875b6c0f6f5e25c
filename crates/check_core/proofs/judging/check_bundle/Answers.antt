use Rattle.std.proofs.Common.{◌≡◌, Some, arith}
use Rattle.std.proofs.lemmas.Slice.Zip.{AllZip-long}
use Rattle.lift_join.specs.Joins.{chain_of}
use Rattle.check_core.proofs.judging.check_bundle.Goals as goal

pub swap_remove-requires : goal.swap_remove-requires
swap_remove-requires g c =
    let long = AllZip-long (λ entry claim. chain_of g.D.Digester.digest_of entry.seals ≡ Some claim) c.args.bundle.now c.in_ok-claims.field-0.claims.items c.in_ok-claims.ensures.claims in
    omega (arith, long, c.requires.some_entries)
