use Rattle.std.proofs.Common.{None, Option, length, refl, subst, sym, ap, ◌∙◌, ◌+◌}
use Rattle.std.specs.Io.KnownBytes.{Appends}
use Rattle.std.proofs.Math.Seq.{take-length}
use Rattle.word.specs.declared.end.End.{End}
use Rattle.word.specs.Related.{kind_of}
use Rattle.word.specs.Views.{request_of}
use Rattle.one_thread.specs.declared.move_kind.Move.{Move}
use Rattle.one_thread.specs.Progress.{EventFalls, ending_in}
use Rattle.one_thread.specs.Worlds.{Goes, printed}
use Rattle.one_thread.proofs.Falling.{performed_ends, performed_falls}
use Rattle.one_thread.proofs.Moves.{at_moment, begins, begins_after, goes_after, went}
use Rattle.one_thread.proofs.running.perform.Goals as goal

pub returns-in_err-deed-clause-begins : goal.returns-in_err-deed-clause-begins
returns-in_err-deed-clause-begins g c = λ limit known ask st. begins (kind_of (g.P.Interpreter.parts c.args.program.now)) (g.P.Interpreter.held c.args.program.now) limit known (g.W.Write.contents c.args.output.now) c.args.places.now c.args.shared.now st

pub returns-in_err-print-clause-begins : goal.returns-in_err-print-clause-begins
returns-in_err-print-clause-begins g c = λ limit known ask st.
    let e = c.in_err-print.ensures.err refl in
    begins_after (kind_of (g.P.Interpreter.parts c.args.program.now)) (g.P.Interpreter.held c.args.program.now) limit known (g.W.Write.contents c.args.output.now) c.args.places.now c.args.shared.now st c.args.place c.args.clock (request_of c.args.request) c.in_ok-deed.deed c.perform.new.self ask c.in_ok-deed.ensures.performs (g.W.Write.contents c.print.new.output) e.0 e.1

pub returns-in_err-apply-clause-begins : goal.returns-in_err-apply-clause-begins
returns-in_err-apply-clause-begins g c = λ limit known ask st.
    begins_after (kind_of (g.P.Interpreter.parts c.args.program.now)) (g.P.Interpreter.held c.args.program.now) limit known (g.W.Write.contents c.args.output.now) c.args.places.now c.args.shared.now st c.args.place c.args.clock (request_of c.args.request) c.in_ok-deed.deed c.perform.new.self ask c.in_ok-deed.ensures.performs (g.W.Write.contents c.print.new.output) (length (printed c.in_ok-deed.deed))
    (subst (Appends (g.W.Write.contents c.args.output.now) (g.W.Write.contents c.print.new.output)) (sym (take-length (printed c.in_ok-deed.deed))) c.in_ok-print.ensures.ok)

pub returns-clause-begins : goal.returns-clause-begins
returns-clause-begins g c = λ limit known ask st.
    begins_after (kind_of (g.P.Interpreter.parts c.args.program.now)) (g.P.Interpreter.held c.args.program.now) limit known (g.W.Write.contents c.args.output.now) c.args.places.now c.args.shared.now st c.args.place c.args.clock (request_of c.args.request) c.in_ok-deed.deed c.perform.new.self ask c.in_ok-deed.ensures.performs (g.W.Write.contents c.print.new.output) (length (printed c.in_ok-deed.deed))
    (subst (Appends (g.W.Write.contents c.args.output.now) (g.W.Write.contents c.print.new.output)) (sym (take-length (printed c.in_ok-deed.deed))) c.in_ok-print.ensures.ok)

pub returns-clause-goes : goal.returns-clause-goes
returns-clause-goes g c = λ limit known ask st.
    subst (λ (o : Option End). Goes (kind_of (g.P.Interpreter.parts c.args.program.now)) (g.P.Interpreter.held c.args.program.now) limit known (g.W.Write.contents c.print.new.output) c.apply.new.places c.perform.new.self o) (sym (ap ending_in c.performed.ensures ∙ performed_ends c.ending.result ∙ c.ending.ensures))
    (goes_after (kind_of (g.P.Interpreter.parts c.args.program.now)) (g.P.Interpreter.held c.args.program.now) limit known (g.W.Write.contents c.args.output.now) c.args.places.now c.args.shared.now st c.args.place c.args.clock (request_of c.args.request) c.in_ok-deed.deed c.perform.new.self ask c.in_ok-deed.ensures.performs (g.W.Write.contents c.print.new.output) c.apply.new.places c.at-later.result (c.at-later.ensures ∙ ap (λ n. n + 1) c.time.ensures.time) c.in_ok-print.ensures.ok (c.in_ok-apply.ensures.applies ask.state ask.at.here))

pub returns-clause-going : goal.returns-clause-going
returns-clause-going g c = λ none. sym (ap ending_in c.performed.ensures ∙ performed_ends c.ending.result ∙ c.ending.ensures) ∙ none

pub returns-clause-falls : goal.returns-clause-falls
returns-clause-falls g c =
    subst (λ (made : Move). EventFalls made c.args.shared.now c.perform.new.self) (sym c.performed.ensures)
    (performed_falls c.args.shared.now c.perform.new.self c.ending.result (sym c.ending.ensures) c.in_ok-deed.ensures.counted c.in_ok-deed.ensures.room)

pub returns-clause-moves : goal.returns-clause-moves
returns-clause-moves g c = λ limit m ask world none.
    went (kind_of (g.P.Interpreter.parts c.args.program.now)) (g.P.Interpreter.held c.args.program.now) limit None None c.args.places.now c.args.shared.now
    (at_moment (kind_of (g.P.Interpreter.parts c.args.program.now)) (g.P.Interpreter.held c.args.program.now) limit m c.args.places.now c.args.shared.now world c.requires.going)
    c.args.place c.args.clock (request_of c.args.request) c.in_ok-deed.deed c.perform.new.self ask c.in_ok-deed.ensures.performs
    c.apply.new.places c.at-later.result (c.at-later.ensures ∙ ap (λ n. n + 1) c.time.ensures.time) (c.in_ok-apply.ensures.applies ask.state ask.at.here)
