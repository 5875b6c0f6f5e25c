use Rattle.command_frame.proofs.Whole.{is_read}
use Rattle.command_frame.proofs.reading.read_file.Goals as goal

pub returns-in-Ok-clause-read : goal.returns-in-Ok-clause-read
returns-in-Ok-clause-read g c = is_read c.args.limit c.args.name.now (g.K.Desk.contents c.args.desk.now) c.in-Ok.bytes.items c.in-Ok.ensures.told c.in-Ok.ensures.within
