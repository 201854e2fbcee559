use Rattle.std.proofs.Common.{refl, ◌∙◌}
use Rattle.word.specs.Related.{kind_of}
use Rattle.traced_run.proofs.Written.{begins_output, begins_trace, opened_written, some_printed, some_traced, whole_output, whole_trace, written_more, written_still}
use Rattle.traced_run.proofs.tracing.run_below.Goals as goal

pub events-init : goal.events-init
events-init g c = record {
  ready = c.in_ok-run.ensures.ready;
  limit = c.in_ok-run.ensures.limit;
  written = opened_written (kind_of (g.P.Interpreter.parts c.args.program.now)) (g.P.Interpreter.held c.args.program.now) _ _ _ c.in_ok-run.ensures.after;
}

pub events-preserved : goal.events-preserved
events-preserved g c = record {
  ready = c.in_ok-event.ensures.ready;
  limit = c.in_ok-event.ensures.limit ∙ c.events.invariant.limit;
  written = written_more (kind_of (g.P.Interpreter.parts c.args.program.now)) (g.P.Interpreter.held c.args.program.now) c.events.run c.next_event.new.run c.in-Some.event (rw c.in-Some.is at c.in_ok-event.ensures.adds) _ _ _ _ c.events.invariant.written _ _ c.in_ok-write_event.ensures.printed c.in_ok-write_event.ensures.traced;
}

pub returns-in_err-event-clause-begins : goal.returns-in_err-event-clause-begins
returns-in_err-event-clause-begins g c = begins_output (kind_of (g.P.Interpreter.parts c.args.program.now)) (g.P.Interpreter.held c.args.program.now) c.args.limit c.events.run (c.events.invariant.limit) _ _ _ _ c.events.invariant.written

pub returns-in_err-event-clause-traces : goal.returns-in_err-event-clause-traces
returns-in_err-event-clause-traces g c = begins_trace (kind_of (g.P.Interpreter.parts c.args.program.now)) (g.P.Interpreter.held c.args.program.now) c.args.limit c.events.run (c.events.invariant.limit) _ _ _ _ c.events.invariant.written

pub returns-in_default-clause-begins : goal.returns-in_default-clause-begins
returns-in_default-clause-begins g c = begins_output (kind_of (g.P.Interpreter.parts c.args.program.now)) (g.P.Interpreter.held c.args.program.now) c.args.limit c.events.run (c.events.invariant.limit) _ _ _ _ c.events.invariant.written

pub returns-in_default-clause-traces : goal.returns-in_default-clause-traces
returns-in_default-clause-traces g c = begins_trace (kind_of (g.P.Interpreter.parts c.args.program.now)) (g.P.Interpreter.held c.args.program.now) c.args.limit c.events.run (c.events.invariant.limit) _ _ _ _ c.events.invariant.written

pub returns-in_default-clause-whole : goal.returns-in_default-clause-whole
returns-in_default-clause-whole g c =
    let still = written_still (kind_of (g.P.Interpreter.parts c.args.program.now)) (g.P.Interpreter.held c.args.program.now) c.events.run c.next_event.new.run _ _ _ _ (rw c.in_default.is at c.in_ok-event.ensures.adds) c.events.invariant.written in
    whole_output (kind_of (g.P.Interpreter.parts c.args.program.now)) (g.P.Interpreter.held c.args.program.now) c.args.limit c.next_event.new.run (c.in_ok-event.ensures.limit ∙ c.events.invariant.limit) _ _ _ _ still c.ending.result c.ending.ensures

pub returns-in_default-clause-traced : goal.returns-in_default-clause-traced
returns-in_default-clause-traced g c =
    let still = written_still (kind_of (g.P.Interpreter.parts c.args.program.now)) (g.P.Interpreter.held c.args.program.now) c.events.run c.next_event.new.run _ _ _ _ (rw c.in_default.is at c.in_ok-event.ensures.adds) c.events.invariant.written in
    whole_trace (kind_of (g.P.Interpreter.parts c.args.program.now)) (g.P.Interpreter.held c.args.program.now) c.args.limit c.next_event.new.run (c.in_ok-event.ensures.limit ∙ c.events.invariant.limit) _ _ _ _ still c.ending.result c.ending.ensures

pub returns-in_err-write_event-clause-begins : goal.returns-in_err-write_event-clause-begins
returns-in_err-write_event-clause-begins g c =
    let part = c.in_err-write_event.ensures.prints refl in
    some_printed (kind_of (g.P.Interpreter.parts c.args.program.now)) (g.P.Interpreter.held c.args.program.now) c.events.run c.next_event.new.run c.in-Some.event (rw c.in-Some.is at c.in_ok-event.ensures.adds) _ _ _ _ c.events.invariant.written (g.O.Write.contents c.write_event.new.output) (g.T.Write.contents c.write_event.new.trace) c.args.limit (c.in_ok-event.ensures.limit ∙ c.events.invariant.limit) part.0 part.1

pub returns-in_err-write_event-clause-traces : goal.returns-in_err-write_event-clause-traces
returns-in_err-write_event-clause-traces g c =
    let part = c.in_err-write_event.ensures.traces refl in
    some_traced (kind_of (g.P.Interpreter.parts c.args.program.now)) (g.P.Interpreter.held c.args.program.now) c.events.run c.next_event.new.run c.in-Some.event (rw c.in-Some.is at c.in_ok-event.ensures.adds) _ _ _ _ c.events.invariant.written (g.O.Write.contents c.write_event.new.output) (g.T.Write.contents c.write_event.new.trace) c.args.limit (c.in_ok-event.ensures.limit ∙ c.events.invariant.limit) part.0 part.1

pub events-smaller : goal.events-smaller
events-smaller g c = rw c.in-Some.is at c.in_ok-event.ensures.falls
