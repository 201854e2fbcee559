use Rattle.std.proofs.Common.{◌≡◌, ◌++◌, length}
use Rattle.trace_comparison.specs.Requests.{events_of}
use Rattle.trace_comparison.specs.Texts.{AreWhole, text_of}
use Rattle.trace_comparison.proofs.trace.Trace.read.Given as goal

abbrev pub invariant-loop-rest : goal.invariant-loop-rest
invariant-loop-rest l = record { whole : AreWhole (events_of l.lines.items); text : l.fn.bytes ≡ text_of (events_of l.lines.items) ++ l.rest }

abbrev pub decreases-loop-rest : goal.decreases-loop-rest
decreases-loop-rest l = length l.rest
