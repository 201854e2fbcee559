use Rattle.trace_comparison.specs.Comparing.{part_of}
use Rattle.trace_comparison.specs.Requests.{event_of}
use Rattle.trace_comparison.proofs.First.{line_is, no_line}
use Rattle.trace_comparison.proofs.comparison.has_line.Goals as goal

pub returns-in-Some : goal.returns-in-Some
returns-in-Some c =
    let found = c.in-Some.ensures.lookup in
    line_is (part_of c.args.part) c.args.lines.now c.args.index c.in-Some.other.now (event_of c.args.line.now) _ found.3.0 found.1 c.is_same.ensures

pub returns-in-None : goal.returns-in-None
returns-in-None c = no_line (part_of c.args.part) c.args.lines.now c.args.index (part_of c.args.part (event_of c.args.line.now)) c.in-None.ensures.lookup.3
