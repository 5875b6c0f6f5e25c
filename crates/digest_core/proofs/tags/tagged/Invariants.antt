use Rattle.std.proofs.Common.{List, ℕ, ◌++◌, take}
use Rattle.std.specs.Int.{w32, to_le_bytes}
use Rattle.std.specs.List.{flat_map}
use Rattle.digest_core.proofs.tags.tagged.Given as goal

abbrev pub invariant-loop-down : goal.invariant-loop-down
invariant-loop-down g l =
    g.D.Digester.stands l.digester (g.D.Digester.digest_of l.tag ++ flat_map (λ (d : List ℕ). d) (take l.down-index l.downs))

abbrev pub invariant-loop-word : goal.invariant-loop-word
invariant-loop-word g l =
    g.D.Digester.stands l.digester (g.D.Digester.digest_of l.tag ++ flat_map (λ (d : List ℕ). d) l.downs ++ flat_map (to_le_bytes w32) (take l.word-index l.words))
