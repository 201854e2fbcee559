use Rattle.std.proofs.Common.{None, refl, sym, ◌∙◌, subst}
use Rattle.word.specs.Related.{kind_of}
use Rattle.one_thread.specs.declared.goroutine.Turn.{Turn}
use Rattle.one_thread.specs.Places.{AdvancesAt}
use Rattle.one_thread.specs.Progress.{TurnFalls}
use Rattle.one_thread.proofs.Falling.{event_falls, least_awake}
use Rattle.one_thread.proofs.Moves.{asked_world, asks_on, at_moment, begins, deadlock, exhausted, ok_more, stepped, stepped_world}
use Rattle.one_thread.proofs.running.one_move.Goals as goal

pub returns-in_default-clause-begins : goal.returns-in_default-clause-begins
returns-in_default-clause-begins g c = λ known st. begins (kind_of (g.P.Interpreter.parts c.args.program.now)) (g.P.Interpreter.held c.args.program.now) c.args.limit known (g.W.Write.contents c.args.output.now) c.args.places.now c.args.shared.now st

pub returns-in_err-advance_at-clause-begins : goal.returns-in_err-advance_at-clause-begins
returns-in_err-advance_at-clause-begins g c = λ known st. begins (kind_of (g.P.Interpreter.parts c.args.program.now)) (g.P.Interpreter.held c.args.program.now) c.args.limit known (g.W.Write.contents c.args.output.now) c.args.places.now c.args.shared.now st

pub returns-in-Slid-clause-begins : goal.returns-in-Slid-clause-begins
returns-in-Slid-clause-begins g c = λ known st. begins (kind_of (g.P.Interpreter.parts c.args.program.now)) (g.P.Interpreter.held c.args.program.now) c.args.limit known (g.W.Write.contents c.args.output.now) c.args.places.now c.args.shared.now st

pub returns-in-Ticked-clause-begins : goal.returns-in-Ticked-clause-begins
returns-in-Ticked-clause-begins g c = λ known st. begins (kind_of (g.P.Interpreter.parts c.args.program.now)) (g.P.Interpreter.held c.args.program.now) c.args.limit known (g.W.Write.contents c.args.output.now) c.args.places.now c.args.shared.now st

pub returns-in-Exhausted-clause-begins : goal.returns-in-Exhausted-clause-begins
returns-in-Exhausted-clause-begins g c = λ known st. begins (kind_of (g.P.Interpreter.parts c.args.program.now)) (g.P.Interpreter.held c.args.program.now) c.args.limit known (g.W.Write.contents c.args.output.now) c.args.places.now c.args.shared.now st

pub returns-in_default-clause-goes : goal.returns-in_default-clause-goes
returns-in_default-clause-goes g c = λ known st. deadlock (kind_of (g.P.Interpreter.parts c.args.program.now)) (g.P.Interpreter.held c.args.program.now) c.args.limit known (g.W.Write.contents c.args.output.now) c.args.places.now c.args.shared.now st (sym c.least.ensures ∙ c.in_default.is)

pub returns-in-Slid-clause-goes : goal.returns-in-Slid-clause-goes
returns-in-Slid-clause-goes g c = λ known st.
    let turn = subst (λ (t : Turn). AdvancesAt (kind_of (g.P.Interpreter.parts c.args.program.now)) (g.P.Interpreter.held c.args.program.now) c.args.limit t c.args.places.now c.in-Some.key.number c.advance_at.new.places) c.in-Slid.is c.in_ok-advance_at.ensures.turn in
    stepped (kind_of (g.P.Interpreter.parts c.args.program.now)) (g.P.Interpreter.held c.args.program.now) c.args.limit known (g.W.Write.contents c.args.output.now) c.args.places.now c.args.shared.now st c.in-Some.key c.in-Some.key.number c.advance_at.new.places (sym c.least.ensures ∙ c.in-Some.is) refl turn

pub returns-in-Ticked-clause-goes : goal.returns-in-Ticked-clause-goes
returns-in-Ticked-clause-goes g c = λ known st.
    let turn = subst (λ (t : Turn). AdvancesAt (kind_of (g.P.Interpreter.parts c.args.program.now)) (g.P.Interpreter.held c.args.program.now) c.args.limit t c.args.places.now c.in-Some.key.number c.advance_at.new.places) c.in-Ticked.is c.in_ok-advance_at.ensures.turn in
    stepped (kind_of (g.P.Interpreter.parts c.args.program.now)) (g.P.Interpreter.held c.args.program.now) c.args.limit known (g.W.Write.contents c.args.output.now) c.args.places.now c.args.shared.now st c.in-Some.key c.in-Some.key.number c.advance_at.new.places (sym c.least.ensures ∙ c.in-Some.is) refl turn

pub returns-in-Exhausted-clause-goes : goal.returns-in-Exhausted-clause-goes
returns-in-Exhausted-clause-goes g c = λ known st.
    let turn = subst (λ (t : Turn). AdvancesAt (kind_of (g.P.Interpreter.parts c.args.program.now)) (g.P.Interpreter.held c.args.program.now) c.args.limit t c.args.places.now c.in-Some.key.number c.advance_at.new.places) c.in-Exhausted.is c.in_ok-advance_at.ensures.turn in
    exhausted (kind_of (g.P.Interpreter.parts c.args.program.now)) (g.P.Interpreter.held c.args.program.now) c.args.limit known (g.W.Write.contents c.args.output.now) c.args.places.now c.args.shared.now st c.in-Some.key c.in-Some.key.number c.advance_at.new.places (sym c.least.ensures ∙ c.in-Some.is) refl turn

pub returns-in-Asks-clause-goes : goal.returns-in-Asks-clause-goes
returns-in-Asks-clause-goes g c =
    ok_more c.perform.result c.perform.ensures.goes (λ ending more known st.
    let turn = subst (λ (t : Turn). AdvancesAt (kind_of (g.P.Interpreter.parts c.args.program.now)) (g.P.Interpreter.held c.args.program.now) c.args.limit t c.args.places.now c.in-Some.key.number c.advance_at.new.places) c.in-Asks.is c.in_ok-advance_at.ensures.turn in
    let both = asks_on (kind_of (g.P.Interpreter.parts c.args.program.now)) (g.P.Interpreter.held c.args.program.now) c.args.limit known (g.W.Write.contents c.args.output.now) c.args.places.now c.args.shared.now st c.in-Some.key c.in-Some.key.number c.in-Asks.clock c.in-Asks.request c.advance_at.new.places (sym c.least.ensures ∙ c.in-Some.is) refl turn in
    more c.args.limit known both.1 both.0)

pub returns-in-Asks-clause-begins : goal.returns-in-Asks-clause-begins
returns-in-Asks-clause-begins g c = λ known st.
    let turn = subst (λ (t : Turn). AdvancesAt (kind_of (g.P.Interpreter.parts c.args.program.now)) (g.P.Interpreter.held c.args.program.now) c.args.limit t c.args.places.now c.in-Some.key.number c.advance_at.new.places) c.in-Asks.is c.in_ok-advance_at.ensures.turn in
    let both = asks_on (kind_of (g.P.Interpreter.parts c.args.program.now)) (g.P.Interpreter.held c.args.program.now) c.args.limit known (g.W.Write.contents c.args.output.now) c.args.places.now c.args.shared.now st c.in-Some.key c.in-Some.key.number c.in-Asks.clock c.in-Asks.request c.advance_at.new.places (sym c.least.ensures ∙ c.in-Some.is) refl turn in
    c.perform.ensures.begins c.args.limit known both.1 both.0

pub returns-in-Asks-clause-within : goal.returns-in-Asks-clause-within
returns-in-Asks-clause-within g c =
    let soon = rw c.in-Asks.is at c.in_ok-advance_at.ensures.soon in
    ok_more c.perform.result c.perform.ensures.within (λ x kept. kept c.args.limit soon c.in_ok-advance_at.ensures.within)

pub returns-in-Slid-clause-falls : goal.returns-in-Slid-clause-falls
returns-in-Slid-clause-falls g c =
    let up = least_awake c.args.places.now c.in-Some.key (sym c.least.ensures ∙ c.in-Some.is) in
    let falls = subst (λ (t : Turn). TurnFalls (λ (state : g.row.P-State.Denot). g.P.Interpreter.weight c.args.program.now (g.P.Interpreter.held c.args.program.now state)) c.args.limit t c.args.places.now c.advance_at.new.places) c.in-Slid.is (c.in_ok-advance_at.ensures.falls c.in-Some.key.clock up) in
    (falls.0, falls.1, refl)

pub returns-in-Ticked-clause-falls : goal.returns-in-Ticked-clause-falls
returns-in-Ticked-clause-falls g c =
    let up = least_awake c.args.places.now c.in-Some.key (sym c.least.ensures ∙ c.in-Some.is) in
    let falls = subst (λ (t : Turn). TurnFalls (λ (state : g.row.P-State.Denot). g.P.Interpreter.weight c.args.program.now (g.P.Interpreter.held c.args.program.now state)) c.args.limit t c.args.places.now c.advance_at.new.places) c.in-Ticked.is (c.in_ok-advance_at.ensures.falls c.in-Some.key.clock up) in
    (falls, refl)

pub returns-in-Asks-clause-falls : goal.returns-in-Asks-clause-falls
returns-in-Asks-clause-falls g c =
    ok_more c.perform.result c.perform.ensures.falls (λ made falls. event_falls (λ (state : g.row.P-State.Denot). g.P.Interpreter.weight c.args.program.now (g.P.Interpreter.held c.args.program.now state)) c.args.limit made c.args.places.now c.args.shared.now c.perform.new.places c.perform.new.shared falls)

pub returns-in-Slid-clause-moves : goal.returns-in-Slid-clause-moves
returns-in-Slid-clause-moves g c = λ m world none.
    let turn = subst (λ (t : Turn). AdvancesAt (kind_of (g.P.Interpreter.parts c.args.program.now)) (g.P.Interpreter.held c.args.program.now) c.args.limit t c.args.places.now c.in-Some.key.number c.advance_at.new.places) c.in-Slid.is c.in_ok-advance_at.ensures.turn in
    stepped_world (kind_of (g.P.Interpreter.parts c.args.program.now)) (g.P.Interpreter.held c.args.program.now) c.args.limit None None c.args.places.now c.args.shared.now (at_moment (kind_of (g.P.Interpreter.parts c.args.program.now)) (g.P.Interpreter.held c.args.program.now) c.args.limit m c.args.places.now c.args.shared.now world c.requires.going) c.in-Some.key c.in-Some.key.number c.advance_at.new.places (sym c.least.ensures ∙ c.in-Some.is) refl turn

pub returns-in-Ticked-clause-moves : goal.returns-in-Ticked-clause-moves
returns-in-Ticked-clause-moves g c = λ m world none.
    let turn = subst (λ (t : Turn). AdvancesAt (kind_of (g.P.Interpreter.parts c.args.program.now)) (g.P.Interpreter.held c.args.program.now) c.args.limit t c.args.places.now c.in-Some.key.number c.advance_at.new.places) c.in-Ticked.is c.in_ok-advance_at.ensures.turn in
    stepped_world (kind_of (g.P.Interpreter.parts c.args.program.now)) (g.P.Interpreter.held c.args.program.now) c.args.limit None None c.args.places.now c.args.shared.now (at_moment (kind_of (g.P.Interpreter.parts c.args.program.now)) (g.P.Interpreter.held c.args.program.now) c.args.limit m c.args.places.now c.args.shared.now world c.requires.going) c.in-Some.key c.in-Some.key.number c.advance_at.new.places (sym c.least.ensures ∙ c.in-Some.is) refl turn

pub returns-in-Asks-clause-moves : goal.returns-in-Asks-clause-moves
returns-in-Asks-clause-moves g c =
    ok_more c.perform.result c.perform.ensures.moves (λ made more m world none.
    let turn = subst (λ (t : Turn). AdvancesAt (kind_of (g.P.Interpreter.parts c.args.program.now)) (g.P.Interpreter.held c.args.program.now) c.args.limit t c.args.places.now c.in-Some.key.number c.advance_at.new.places) c.in-Asks.is c.in_ok-advance_at.ensures.turn in
    let both = asks_on (kind_of (g.P.Interpreter.parts c.args.program.now)) (g.P.Interpreter.held c.args.program.now) c.args.limit None None c.args.places.now c.args.shared.now (at_moment (kind_of (g.P.Interpreter.parts c.args.program.now)) (g.P.Interpreter.held c.args.program.now) c.args.limit m c.args.places.now c.args.shared.now world c.requires.going) c.in-Some.key c.in-Some.key.number c.in-Asks.clock c.in-Asks.request c.advance_at.new.places (sym c.least.ensures ∙ c.in-Some.is) refl turn in
    more c.args.limit m both.1 (asked_world (kind_of (g.P.Interpreter.parts c.args.program.now)) (g.P.Interpreter.held c.args.program.now) c.args.limit None None c.args.places.now c.args.shared.now (at_moment (kind_of (g.P.Interpreter.parts c.args.program.now)) (g.P.Interpreter.held c.args.program.now) c.args.limit m c.args.places.now c.args.shared.now world c.requires.going) c.advance_at.new.places turn.4 turn.5) none)
