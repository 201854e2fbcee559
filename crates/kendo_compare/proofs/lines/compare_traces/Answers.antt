use Rattle.std.proofs.Common.{◌↔◌, rules, IsTrue, sym, subst}
use Rattle.trace_comparison.specs.Requests.{HaveSameRequests, events_of}
use Rattle.kendo_compare.specs.Comparing.{IsCompared}
use Rattle.kendo_compare.proofs.lines.compare_traces.Goals as goal
use Rattle.kendo_compare.proofs.lines.compare_traces.Goals.{then-recorded, else-recorded}

pub returns : goal.returns
returns c =
    let recorded = c.args.recorded.now.bytes.now in
    let same = c.if-recorded.is_same in
    elim c.if-recorded.branch [
      | then-recorded w ↦ subst (λ strict. IsCompared strict recorded c.args.trace.now same) (sym w.if-recorded.true) (search rules)
      | else-recorded w ↦
          let was = events_of c.in_ok-was.was'.lines.items in
          let run = events_of c.in_ok-run.run'.lines.items in
          let is = w.is_same_by_goroutine-is_same.ensures was run c.in_ok-comparison.ensures.compared in
          subst (λ strict. IsCompared strict recorded c.args.trace.now same) (sym w.if-recorded.false)
          (was, run, c.in_ok-was.ensures, c.in_ok-run.ensures, subst (λ b. IsTrue b ↔ HaveSameRequests run was) (sym w.is_same-is) is)
    ]
