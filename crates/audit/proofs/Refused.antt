-- Why an audit isn't made. H is the digest function.
use Rattle.std.proofs.Common.{ℕ, List}
use Rattle.page_core.specs.Images.{Image}
use Rattle.receipt_types.specs.Bundles.{Bundle}
use Rattle.check_core.specs.declared.stop.CheckStop.{CheckStop}
use Rattle.check_core.specs.declared.stop.CheckStop.TheVariants as Check
use Rattle.check_core.specs.Checked.{IsOwnId}
use Rattle.check_core.specs.Checking.{StopsCheck}
use Rattle.check_core.proofs.Stopping.{stops_itself}
use Rattle.audit.specs.Answers.{stop_of_check, StopsAudit}

pub stopped : (H : List ℕ → List ℕ) (B : Bundle) (e : ℕ) (image : Image) (id : List ℕ) (stop : CheckStop) → IsOwnId H B id → StopsCheck H B id stop → StopsAudit H B e image (stop_of_check stop)
stopped H B e image id Check.Malformed own stops = absurd stops
stopped H B e image id (Check.Version version) own stops = absurd stops
stopped H B e image id (Check.WrongImage found) own stops = absurd (stops_itself H B id (Check.WrongImage found) own stops)
stopped H B e image id (Check.Broken entry seal stop) own stops = (stops_itself H B id (Check.Broken entry seal stop) own stops, λ e. cc)
stopped H B e image id (Check.Unjoined entry seal after before) own stops = (stops_itself H B id (Check.Unjoined entry seal after before) own stops, λ e. cc)
stopped H B e image id (Check.EndInside entry seal) own stops = (stops_itself H B id (Check.EndInside entry seal) own stops, λ e. cc)
stopped H B e image id (Check.NoEnd entry) own stops = (stops_itself H B id (Check.NoEnd entry) own stops, λ e. cc)
stopped H B e image id (Check.LinkCount entry calls links) own stops = (stops_itself H B id (Check.LinkCount entry calls links) own stops, λ e. cc)
stopped H B e image id (Check.BadLink entry call wanted found) own stops = (stops_itself H B id (Check.BadLink entry call wanted found) own stops, λ e. cc)
stopped H B e image id Check.Memory own stops = tt
