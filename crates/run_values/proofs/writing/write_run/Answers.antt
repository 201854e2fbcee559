use Rattle.std.proofs.Common.{◌∙◌}
use Rattle.word.specs.Related.{kind_of}
use Rattle.run_values.proofs.Lines.{lined_more, lined_still, lined_whole, opened_lined}
use Rattle.run_values.proofs.writing.write_run.Goals as goal

pub events-init : goal.events-init
events-init g c = record {
  ready = c.in_ok-run.ensures.ready;
  limit = c.in_ok-run.ensures.limit;
  written = opened_lined (kind_of (g.P.Interpreter.parts c.args.program.now)) (g.P.Interpreter.held c.args.program.now) _ _ c.in_ok-run.ensures.after;
}

pub events-preserved : goal.events-preserved
events-preserved g c = record {
  ready = c.in_ok-event.ensures.ready;
  limit = c.in_ok-event.ensures.limit ∙ c.events.invariant.limit;
  written = lined_more (kind_of (g.P.Interpreter.parts c.args.program.now)) (g.P.Interpreter.held c.args.program.now) c.events.run c.next_event.new.run c.in-Some.event (rw c.in-Some.is at c.in_ok-event.ensures.adds) _ _ _ c.events.invariant.written _ c.in_ok-line.ensures (rw c.as_slice.ensures.value at c.in_ok-put.ensures.ok);
}

pub returns-in_default-clause-lines : goal.returns-in_default-clause-lines
returns-in_default-clause-lines g c =
    let still = lined_still (kind_of (g.P.Interpreter.parts c.args.program.now)) (g.P.Interpreter.held c.args.program.now) c.events.run c.next_event.new.run _ _ (rw c.in_default.is at c.in_ok-event.ensures.adds) c.events.invariant.written in
    lined_whole (kind_of (g.P.Interpreter.parts c.args.program.now)) (g.P.Interpreter.held c.args.program.now) c.args.limit c.next_event.new.run (c.in_ok-event.ensures.limit ∙ c.events.invariant.limit) _ _ still (rw c.in_default.is at c.in_ok-event.ensures.ended)

pub events-smaller : goal.events-smaller
events-smaller g c = rw c.in-Some.is at c.in_ok-event.ensures.falls
