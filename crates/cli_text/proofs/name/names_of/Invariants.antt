use Rattle.std.proofs.Common.{◌≡◌, All, map, take}
use Rattle.std.specs.Prelude.{string_bytes}
use Rattle.cli_text.specs.Name.{IsName}
use Rattle.cli_text.proofs.name.names_of.Given as goal

abbrev pub invariant-loop-word : goal.invariant-loop-word
invariant-loop-word l =
    (l.names.items ≡ map string_bytes (take l.word-index l.words)) × All IsName (map string_bytes (take l.word-index l.words))
