use Rattle.receipt_codec.proofs.Trees.{one_canonical}
use Rattle.receipt_codec.proofs.Seals.{one_seal}
use Rattle.receipt_codec.proofs.Entries.{one_entry}
use Rattle.receipt_codec.proofs.Wholes.{one_bundle}
use Rattle.receipt_codec.proofs.laws.spelling_laws.Goals as goal

pub returns : goal.returns
returns c = record { trees = one_canonical; seals = one_seal; entries = one_entry; bundles = one_bundle }
