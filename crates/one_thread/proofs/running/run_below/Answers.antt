use Rattle.word.specs.Related.{kind_of}
use Rattle.one_thread.proofs.Moves.{appends_none, opened_stands}
use Rattle.one_thread.proofs.running.run_below.Goals as goal

pub returns-in_err-shared-clause-begins : goal.returns-in_err-shared-clause-begins
returns-in_err-shared-clause-begins g c = (0, 0, appends_none (g.W.Write.contents c.args.output.now))

pub events-init : goal.events-init
events-init g c =
    let stands = opened_stands (kind_of (g.P.Interpreter.parts c.args.program.now)) (g.P.Interpreter.held c.args.program.now) c.args.limit (g.W.Write.contents c.args.output.now) c.in_ok-places.places c.in_ok-shared.shared c.in_ok-places.ensures.open c.in_ok-shared.ensures in
    record { going = stands.goes_on; within = c.in_ok-places.ensures.within c.args.limit; stands = stands }

pub events-preserved : goal.events-preserved
events-preserved g c = record {
  going = c.in_ok-end.ensures.going c.in_default.is;
  within = c.in_ok-end.ensures.within;
  stands = rw c.in_default.is at (c.in_ok-end.ensures.goes (g.W.Write.contents c.args.output.now) c.events.invariant.stands);
}

pub returns-in_err-end-clause-begins : goal.returns-in_err-end-clause-begins
returns-in_err-end-clause-begins g c = c.next_event.ensures.begins (g.W.Write.contents c.args.output.now) c.events.invariant.stands

pub returns-in-Some-clause-begins : goal.returns-in-Some-clause-begins
returns-in-Some-clause-begins g c = c.next_event.ensures.begins (g.W.Write.contents c.args.output.now) c.events.invariant.stands

pub returns-in-Some-clause-whole : goal.returns-in-Some-clause-whole
returns-in-Some-clause-whole g c = rw c.in-Some.is at (c.in_ok-end.ensures.goes (g.W.Write.contents c.args.output.now) c.events.invariant.stands)

pub events-smaller : goal.events-smaller
events-smaller g c = c.in_ok-end.ensures.falls c.in_default.is
