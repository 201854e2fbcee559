use Rattle.std.proofs.Common.{◌∙◌, Some, refl, subst}
use Rattle.word.specs.Related.{kind_of}
use Rattle.word.specs.Values.{Exhausted}
use Rattle.one_thread.specs.declared.goroutine.Turn.{Turn}
use Rattle.one_thread.specs.Places.{AdvancesAt}
use Rattle.one_thread.specs.Progress.{TurnFalls}
use Rattle.one_thread.proofs.Falling.{counted_falls, least_awake}
use Rattle.one_thread.proofs.Histories.{asked_adds, asked_clock, exhausted_adds, stepped_adds}
use Rattle.one_thread.proofs.history.take_turn.Goals as goal

pub returns-in-Slid-clause-adds : goal.returns-in-Slid-clause-adds
returns-in-Slid-clause-adds g c =
    let turn = subst (λ (t : Turn). AdvancesAt (kind_of (g.P.Interpreter.parts c.args.program.now)) (g.P.Interpreter.held c.args.program.now) c.run.inside.limit t c.run.inside.goroutines c.args.turn.number c.advance_at.new.places) c.in-Slid.is c.in_ok-advance_at.ensures.turn in
    rw (← c.run.view_is)
    (stepped_adds (kind_of (g.P.Interpreter.parts c.args.program.now)) (g.P.Interpreter.held c.args.program.now) _ (rw (← c.run.view_is) at c.requires.goes) (rw (← c.run.view_is) at c.requires.ready) c.args.turn (rw (← c.run.view_is) at c.requires.turn) c.advance_at.new.places turn)

pub returns-in-Ticked-clause-adds : goal.returns-in-Ticked-clause-adds
returns-in-Ticked-clause-adds g c =
    let turn = subst (λ (t : Turn). AdvancesAt (kind_of (g.P.Interpreter.parts c.args.program.now)) (g.P.Interpreter.held c.args.program.now) c.run.inside.limit t c.run.inside.goroutines c.args.turn.number c.advance_at.new.places) c.in-Ticked.is c.in_ok-advance_at.ensures.turn in
    rw (← c.run.view_is)
    (stepped_adds (kind_of (g.P.Interpreter.parts c.args.program.now)) (g.P.Interpreter.held c.args.program.now) _ (rw (← c.run.view_is) at c.requires.goes) (rw (← c.run.view_is) at c.requires.ready) c.args.turn (rw (← c.run.view_is) at c.requires.turn) c.advance_at.new.places turn)

pub returns-in_ok-event-in-Exhausted-clause-adds : goal.returns-in_ok-event-in-Exhausted-clause-adds
returns-in_ok-event-in-Exhausted-clause-adds g c =
    let turn = subst (λ (t : Turn). AdvancesAt (kind_of (g.P.Interpreter.parts c.args.program.now)) (g.P.Interpreter.held c.args.program.now) c.run.inside.limit t c.run.inside.goroutines c.args.turn.number c.advance_at.new.places) c.in-Exhausted.is c.in_ok-advance_at.ensures.turn in
    let done = c.in_ok-event-in-Exhausted.ensures in
    rw (← c.run.view_is)
    (exhausted_adds (kind_of (g.P.Interpreter.parts c.args.program.now)) (g.P.Interpreter.held c.args.program.now) _ (rw (← c.run.view_is) at c.requires.goes) (rw (← c.run.view_is) at c.requires.ready) c.args.turn (rw (← c.run.view_is) at c.requires.turn) c.advance_at.new.places turn
    Exhausted refl c.in_ok-event-in-Exhausted.field-0-0 c.perform_seen.new.self done.performs c.in_ok-event-in-Exhausted.event done.event)

pub returns-in_ok-event-in-Asks-clause-adds : goal.returns-in_ok-event-in-Asks-clause-adds
returns-in_ok-event-in-Asks-clause-adds g c =
    let turn = subst (λ (t : Turn). AdvancesAt (kind_of (g.P.Interpreter.parts c.args.program.now)) (g.P.Interpreter.held c.args.program.now) c.run.inside.limit t c.run.inside.goroutines c.args.turn.number c.advance_at.new.places) c.in-Asks.is c.in_ok-advance_at.ensures.turn in
    rw (← c.run.view_is)
    (asked_adds (kind_of (g.P.Interpreter.parts c.args.program.now)) (g.P.Interpreter.held c.args.program.now) _ (rw (← c.run.view_is) at c.requires.goes) (rw (← c.run.view_is) at c.requires.ready) c.args.turn (rw (← c.run.view_is) at c.requires.turn) c.advance_at.new.places
    c.in-Asks.clock c.in-Asks.request turn (Some c.in_ok-event-in-Asks.event) c.make_request.new.run c.in_ok-event-in-Asks.ensures.adds)

pub returns-in_ok-event-in-Asks-clause-counts : goal.returns-in_ok-event-in-Asks-clause-counts
returns-in_ok-event-in-Asks-clause-counts g c =
    let turn = subst (λ (t : Turn). AdvancesAt (kind_of (g.P.Interpreter.parts c.args.program.now)) (g.P.Interpreter.held c.args.program.now) c.run.inside.limit t c.run.inside.goroutines c.args.turn.number c.advance_at.new.places) c.in-Asks.is c.in_ok-advance_at.ensures.turn in
    let first = rw (← c.run.view_is) at c.requires.turn in
    let counts = c.in_ok-event-in-Asks.ensures.counts in
    rw (← c.run.view_is)
    (counts.0, counts.1 ∙ asked_clock (kind_of (g.P.Interpreter.parts c.args.program.now)) (g.P.Interpreter.held c.args.program.now) c.run.inside.limit c.run.inside.goroutines c.advance_at.new.places c.args.turn c.in-Asks.clock c.in-Asks.request first turn)

pub returns-in-Slid-clause-falls : goal.returns-in-Slid-clause-falls
returns-in-Slid-clause-falls g c =
    let up = least_awake c.run.inside.goroutines c.args.turn (rw (← c.run.view_is) at c.requires.turn) in
    let falls = subst (λ (t : Turn). TurnFalls (λ (state : g.row.P-State.Denot). g.P.Interpreter.weight c.args.program.now (g.P.Interpreter.held c.args.program.now state)) c.run.inside.limit t c.run.inside.goroutines c.advance_at.new.places) c.in-Slid.is (c.in_ok-advance_at.ensures.falls c.args.turn.clock up) in
    rw (← c.run.view_is)
    (falls.0, falls.1, refl, rw (← c.run.view_is) at c.requires.goes)

pub returns-in-Ticked-clause-falls : goal.returns-in-Ticked-clause-falls
returns-in-Ticked-clause-falls g c =
    let up = least_awake c.run.inside.goroutines c.args.turn (rw (← c.run.view_is) at c.requires.turn) in
    let falls = subst (λ (t : Turn). TurnFalls (λ (state : g.row.P-State.Denot). g.P.Interpreter.weight c.args.program.now (g.P.Interpreter.held c.args.program.now state)) c.run.inside.limit t c.run.inside.goroutines c.advance_at.new.places) c.in-Ticked.is (c.in_ok-advance_at.ensures.falls c.args.turn.clock up) in
    rw (← c.run.view_is)
    (falls, refl, rw (← c.run.view_is) at c.requires.goes)

pub returns-in_ok-event-in-Asks-clause-falls : goal.returns-in_ok-event-in-Asks-clause-falls
returns-in_ok-event-in-Asks-clause-falls g c = λ none.
    rw (← c.run.view_is)
    (counted_falls c.run.inside.shared c.make_request.new.run.shared c.in_ok-event-in-Asks.ensures.counts.0 (c.in_ok-event-in-Asks.ensures.room none))
