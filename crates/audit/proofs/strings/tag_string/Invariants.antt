use Rattle.std.proofs.Common.{◌≡◌, ◌++◌, take}
use Rattle.std.specs.Int.{w32, to_le_bytes}
use Rattle.std.specs.List.{flat_map}
use Rattle.audit.proofs.strings.tag_string.Given as goal

abbrev pub invariant-loop-down : goal.invariant-loop-down
invariant-loop-down g l = l.out ≡ g.D.Digester.digest_of l.tag ++ flat_map (λ down. down) (take l.down-index l.downs)

abbrev pub invariant-loop-word : goal.invariant-loop-word
invariant-loop-word g l = l.out ≡ g.D.Digester.digest_of l.tag ++ flat_map (λ down. down) l.downs ++ flat_map (to_le_bytes w32) (take l.word-index l.words)
