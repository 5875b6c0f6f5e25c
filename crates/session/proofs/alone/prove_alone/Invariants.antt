use Rattle.std.proofs.Common.{◌-◌}
use Rattle.elf_image.specs.Loaded.{image_of}
use Rattle.session.proofs.SoFar.{IsProving}
use Rattle.session.proofs.alone.prove_alone.Given as goal

abbrev pub invariant-loop-whole : goal.invariant-loop-whole
invariant-loop-whole g l = IsProving g.D.Digester.digest_of l.fn.limits (image_of l.fn.image) l.fn.words.items l.executor l.whole

abbrev pub decreases-loop-whole : goal.decreases-loop-whole
decreases-loop-whole g l = 65535 - l.executor.number
