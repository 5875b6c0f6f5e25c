-- The exit status of each way to end.
use Rattle.std.specs.Prelude.{ℕ}
use Rattle.cli_text.specs.declared.status.Status.{Status}
use Rattle.cli_text.specs.declared.status.Status.TheVariants.{Done, Refused, Words, ReadFault, WriteFault, Memory, NoFile, TooLong, BadFile, Collision}

abbrev pub number_of : Status → ℕ
number_of Done = 0
number_of Refused = 1
number_of Words = 2
number_of ReadFault = 3
number_of WriteFault = 4
number_of Memory = 5
number_of NoFile = 6
number_of TooLong = 7
number_of BadFile = 8
number_of Collision = 9
