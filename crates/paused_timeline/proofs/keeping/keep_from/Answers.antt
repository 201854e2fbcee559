use Rattle.std.proofs.Common.{◌≤◌, ◌∙◌, arith, length}
use Rattle.word.specs.Related.{kind_of}
use Rattle.paused_timeline.proofs.Windows.{kept_next, kept_rest, still_kept, taken_kept}
use Rattle.paused_timeline.proofs.keeping.keep_from.Goals as goal
use Rattle.paused_timeline.proofs.keeping.keep_from.Goals.{else-kept-skip-via-then-kept-skip+else-len-most, else-kept-skip-via-else-kept-skip}

pub events-preserved : goal.events-preserved
events-preserved g c =
    let few : length c.take.new.self.events.items ≤ c.args.most =
    elim c.else-kept-skip.branch [
      | else-kept-skip-via-then-kept-skip+else-len-most v ↦ omega (arith, v.if-len-most.false, v.len.ensures, c.in_ok-take.ensures.more)
      | else-kept-skip-via-else-kept-skip v ↦ rw (c.in_ok-take.ensures.skips (omega (arith, v.if-kept-skip.false))) (omega arith)
    ] in
    record {
      ready = c.in_ok-event.ensures.ready;
      limit = c.in_ok-event.ensures.limit ∙ c.events.invariant.limit;
      had = taken_kept (kind_of (g.P.Interpreter.parts c.args.program.now)) (g.P.Interpreter.held c.args.program.now) c.events.run c.next_event.new.run c.events.kept.before c.take.new.self.before c.events.kept.events.items c.take.new.self.events.items c.in-Some.event (rw c.in-Some.is at c.in_ok-event.ensures.adds) c.events.invariant.had c.in_ok-take.ensures.moves;
      few = few;
      begins = c.in_ok-take.ensures.begins;
      unended = c.take.ensures.end ∙ c.events.invariant.unended;
    }

pub returns-then-len-most-clause-next : goal.returns-then-len-most-clause-next
returns-then-len-most-clause-next g c =
    kept_next (kind_of (g.P.Interpreter.parts c.args.program.now)) (g.P.Interpreter.held c.args.program.now) c.args.run.now.limit c.events.run c.events.invariant.limit c.events.kept.before c.events.kept.events.items c.events.invariant.had

pub returns-in_default-clause-next : goal.returns-in_default-clause-next
returns-in_default-clause-next g c =
    let still = still_kept (kind_of (g.P.Interpreter.parts c.args.program.now)) (g.P.Interpreter.held c.args.program.now) c.events.run c.next_event.new.run c.events.kept.before c.events.kept.events.items (rw c.in_default.is at c.in_ok-event.ensures.adds) c.events.invariant.had in
    rw (c.ended.ensures.0, c.ended.ensures.1)
    (kept_next (kind_of (g.P.Interpreter.parts c.args.program.now)) (g.P.Interpreter.held c.args.program.now) c.args.run.now.limit c.next_event.new.run (c.in_ok-event.ensures.limit ∙ c.events.invariant.limit) c.events.kept.before c.events.kept.events.items still)

pub returns-in_default-clause-rest : goal.returns-in_default-clause-rest
returns-in_default-clause-rest g c =
    let still = still_kept (kind_of (g.P.Interpreter.parts c.args.program.now)) (g.P.Interpreter.held c.args.program.now) c.events.run c.next_event.new.run c.events.kept.before c.events.kept.events.items (rw c.in_default.is at c.in_ok-event.ensures.adds) c.events.invariant.had in
    rw (c.ended.ensures.0, c.ended.ensures.1, c.ended.ensures.2)
    (kept_rest (kind_of (g.P.Interpreter.parts c.args.program.now)) (g.P.Interpreter.held c.args.program.now) c.args.run.now.limit c.next_event.new.run (c.in_ok-event.ensures.limit ∙ c.events.invariant.limit) c.events.kept.before c.events.kept.events.items still c.ending.result c.ending.ensures)

pub events-smaller : goal.events-smaller
events-smaller g c = rw c.in-Some.is at c.in_ok-event.ensures.falls
