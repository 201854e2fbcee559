use Rattle.std.proofs.Common.{ℕ, ◌∙◌, ap, subst, sym}
use Rattle.std.proofs.lemmas.Bool.{false≢true}
use Rattle.word.specs.Related.{kind_of}
use Rattle.logical_clock.specs.Order.{keys, least}
use Rattle.one_thread.specs.Histories.{OpenValue}
use Rattle.one_thread.specs.Places.{clock_of}
use Rattle.one_thread.specs.Progress.{event_in}
use Rattle.one_thread.specs.Snapshots.{IsFarBefore}
use Rattle.one_thread.proofs.Falling.{falls_until}
use Rattle.one_thread.proofs.Histories.{deserted_adds}
use Rattle.one_thread.proofs.Moves.{ok_more}
use Rattle.one_thread.proofs.Snapshots.{stays_more, stays_same}
use Rattle.one_thread.proofs.history.make_move.Goals as goal

pub returns-in_default-clause-adds : goal.returns-in_default-clause-adds
returns-in_default-clause-adds g c =
    rw (← c.run.view_is)
    (deserted_adds (kind_of (g.P.Interpreter.parts c.args.program.now)) (g.P.Interpreter.held c.args.program.now) _ (rw (← c.run.view_is) at c.requires.goes) (rw (← c.run.view_is) at c.requires.ready) (sym c.least.ensures ∙ c.in_default.is))

pub returns-in_default-clause-stays : goal.returns-in_default-clause-stays
returns-in_default-clause-stays g c = rw (← c.run.view_is) (stays_same c.args.until c.run.inside.shared)

pub returns-then-is_reached-clause-adds : goal.returns-then-is_reached-clause-adds
returns-then-is_reached-clause-adds g c = λ events output h. h

pub returns-then-is_reached-clause-stays : goal.returns-then-is_reached-clause-stays
returns-then-is_reached-clause-stays g c = stays_same c.args.until c.args.run.now.shared

pub returns-then-is_reached-clause-falls : goal.returns-then-is_reached-clause-falls
returns-then-is_reached-clause-falls g c = λ none.
    let counted = c.events.ensures ∙ ap (λ (r : OpenValue g.row.P-State.Denot). r.shared.events) c.run.view_is in
    let first = ap (λ (r : OpenValue g.row.P-State.Denot). least (keys clock_of 0 r.places)) (sym c.run.view_is) ∙ sym c.least.ensures ∙ c.in-Some.is in
    (c.in-Some.turn, first, subst (λ (n : ℕ). IsFarBefore c.args.until n c.in-Some.turn) counted (c.is_reached.ensures.0 c.if-is_reached.true))

pub returns-clause-falls : goal.returns-clause-falls
returns-clause-falls g c = ok_more c.take_turn.result c.take_turn.ensures.falls (λ made falls. falls_until c.args.until (λ (state : g.row.P-State.Denot). g.P.Interpreter.weight c.args.program.now (g.P.Interpreter.held c.args.program.now state)) made c.args.run.now c.take_turn.new.run falls)

pub returns-clause-stays : goal.returns-clause-stays
returns-clause-stays g c =
    let counted = c.events.ensures ∙ ap (λ (r : OpenValue g.row.P-State.Denot). r.shared.events) c.run.view_is in
    let far = λ (far : IsFarBefore c.args.until c.args.run.now.shared.events c.in-Some.turn). false≢true (sym c.if-is_reached.false ∙ c.is_reached.ensures.1 (subst (λ (n : ℕ). IsFarBefore c.args.until n c.in-Some.turn) (sym counted) far)) in
    ok_more c.take_turn.result c.take_turn.ensures.counts (λ made counts. stays_more c.args.until c.in-Some.turn c.args.run.now.shared c.take_turn.new.run.shared (event_in made) far counts)
