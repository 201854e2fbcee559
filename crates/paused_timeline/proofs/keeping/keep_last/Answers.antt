use Rattle.std.proofs.Common.{◌∙◌}
use Rattle.word.specs.Related.{kind_of}
use Rattle.paused_timeline.proofs.Windows.{kept_next, kept_rest, still_kept, taken_kept}
use Rattle.paused_timeline.proofs.keeping.keep_last.Goals as goal

pub events-preserved : goal.events-preserved
events-preserved g c = record {
  ready = c.in_ok-event.ensures.ready;
  limit = c.in_ok-event.ensures.limit ∙ c.events.invariant.limit;
  had = taken_kept (kind_of (g.P.Interpreter.parts c.args.program.now)) (g.P.Interpreter.held c.args.program.now) c.events.run c.next_event.new.run c.events.latest.before c.push.new.self.before c.events.latest.events.items c.push.new.self.events.items c.in-Some.event (rw c.in-Some.is at c.in_ok-event.ensures.adds) c.events.invariant.had c.in_ok-push.ensures.moves;
  few = c.in_ok-push.ensures.few;
  full = c.in_ok-push.ensures.full;
}

pub returns-in_default-clause-next : goal.returns-in_default-clause-next
returns-in_default-clause-next g c =
    let still = still_kept (kind_of (g.P.Interpreter.parts c.args.program.now)) (g.P.Interpreter.held c.args.program.now) c.events.run c.next_event.new.run c.events.latest.before c.events.latest.events.items (rw c.in_default.is at c.in_ok-event.ensures.adds) c.events.invariant.had in
    rw (c.ended.ensures.0, c.ended.ensures.1)
    (kept_next (kind_of (g.P.Interpreter.parts c.args.program.now)) (g.P.Interpreter.held c.args.program.now) c.args.run.now.limit c.next_event.new.run (c.in_ok-event.ensures.limit ∙ c.events.invariant.limit) c.events.latest.before c.events.latest.events.items still)

pub returns-in_default-clause-rest : goal.returns-in_default-clause-rest
returns-in_default-clause-rest g c =
    let still = still_kept (kind_of (g.P.Interpreter.parts c.args.program.now)) (g.P.Interpreter.held c.args.program.now) c.events.run c.next_event.new.run c.events.latest.before c.events.latest.events.items (rw c.in_default.is at c.in_ok-event.ensures.adds) c.events.invariant.had in
    rw (c.ended.ensures.0, c.ended.ensures.1, c.ended.ensures.2)
    (kept_rest (kind_of (g.P.Interpreter.parts c.args.program.now)) (g.P.Interpreter.held c.args.program.now) c.args.run.now.limit c.next_event.new.run (c.in_ok-event.ensures.limit ∙ c.events.invariant.limit) c.events.latest.before c.events.latest.events.items still c.ending.result c.ending.ensures)

pub events-smaller : goal.events-smaller
events-smaller g c = rw c.in-Some.is at c.in_ok-event.ensures.falls
