use Rattle.kendo_code.proofs.Recordings.{from_the_first}
use Rattle.kendo_code.proofs.recording.timeline_bytes.Goals as goal

pub returns-clause-recorded : goal.returns-clause-recorded
returns-clause-recorded c = from_the_first c.args.bytes.items c.args.limit c.args.most c.timeline_window.result c.timeline_window.ensures.recorded c.timeline_window.ensures.shows
