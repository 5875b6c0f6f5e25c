-- The text of a check's stop: what is said of a receipt that is refused. Its numbers are decimal.
use Rattle.std.specs.Prelude.{ℕ, List, [], ◌++◌, codes, decimal}
use Rattle.digest_core.specs.Text.{digest_text}
use Rattle.claim_types.specs.Text.{state_text}
use Rattle.seal_replay.specs.Text.{replay_text}
use Rattle.check_core.specs.declared.stop.CheckStop.{CheckStop}
use Rattle.check_core.specs.declared.stop.CheckStop.TheVariants.{Malformed, Version, WrongImage, Broken, Unjoined, EndInside, NoEnd, LinkCount, BadLink, Memory}

-- why a receipt isn't accepted; want of memory is no refusal and has no text
abbrev pub reason_text : CheckStop → List ℕ
reason_text Malformed = codes "malformed"
reason_text (Version version) = codes "version " ++ decimal version
reason_text (WrongImage found) = codes "image " ++ digest_text found
reason_text (Broken entry seal stop) = codes "seal " ++ decimal entry ++ codes " " ++ decimal seal ++ codes " " ++ replay_text stop
reason_text (Unjoined entry seal after before) = codes "unjoined " ++ decimal entry ++ codes " " ++ decimal seal ++ codes " " ++ state_text after ++ codes " " ++ state_text before
reason_text (EndInside entry seal) = codes "end-inside " ++ decimal entry ++ codes " " ++ decimal seal
reason_text (NoEnd entry) = codes "no-end " ++ decimal entry
reason_text (LinkCount entry calls links) = codes "link-count " ++ decimal entry ++ codes " " ++ decimal calls ++ codes " " ++ decimal links
reason_text (BadLink entry call wanted found) = codes "link " ++ decimal entry ++ codes " " ++ decimal call ++ codes " " ++ digest_text wanted ++ codes " " ++ digest_text found
reason_text Memory = []
