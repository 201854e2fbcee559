use Rattle.trace_comparison.proofs.Reading.{found_in_bytes}
use Rattle.trace_comparison.proofs.trace.event_in.Goals as goal

pub returns-in-Ok : goal.returns-in-Ok
returns-in-Ok c = found_in_bytes c.in-Ok.line.now c.args.bytes.now c.of.result c.in-Ok.ensures.cases.0 c.in-Ok.ensures.cases.1 c.of.ensures
