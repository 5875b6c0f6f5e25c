use Rattle.std.proofs.Common.{◌-◌, length, map}
use Rattle.std.specs.Arc.{arc_value}
use Rattle.elf_image.specs.Loaded.{image_of}
use Rattle.audit.proofs.Walked.{AtSeal}
use Rattle.audit.proofs.walk.first_split_seal.Given as goal

abbrev pub invariant-loop-walk : goal.invariant-loop-walk
invariant-loop-walk g l = AtSeal g.D.Digester.digest_of (image_of l.image) (map (λ seal. arc_value seal) l.seals) l.number l.walk.flat l.walk.tree

abbrev pub decreases-loop-walk : goal.decreases-loop-walk
decreases-loop-walk g l = length l.seals - l.number

-- no digest is counted
abbrev pub ghosts-go_through : goal.ghosts-go_through
ghosts-go_through g a = record { name = a.blank.name; parts = a.blank.parts }
