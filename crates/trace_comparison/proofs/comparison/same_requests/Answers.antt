use Rattle.std.proofs.Common.{sym, ◌∙◌}
use Rattle.std.proofs.lemmas.List.{map-id}
use Rattle.trace_comparison.specs.Requests.{events_of}
use Rattle.trace_comparison.proofs.First.{other_line}
use Rattle.trace_comparison.proofs.comparison.same_requests.Goals as goal

pub returns-in-Some-first_other : goal.returns-in-Some-first_other
returns-in-Some-first_other c = (c.in-None.ensures, other_line (events_of c.args.run.now) (events_of c.args.recorded.now) c.in-Some-first_other.event c.in-Some-first_other.ensures)

pub returns-in-None-first_other : goal.returns-in-None-first_other
returns-in-None-first_other c = sym (map-id (events_of c.args.run.now)) ∙ c.in-None-first_other.ensures ∙ map-id (events_of c.args.recorded.now)
