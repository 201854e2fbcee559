use Rattle.std.proofs.Common.{refl, subst}
use Rattle.one_thread.specs.declared.interpreter.Step.{Step}
use Rattle.one_thread.specs.Steps.{Moves}
use Rattle.one_thread.proofs.Falling.{slid_less}
use Rattle.one_thread.proofs.goroutine.advance.Goals as goal

pub returns-in-Slides-clause-falls : goal.returns-in-Slides-clause-falls
returns-in-Slides-clause-falls g c =
    let program = c.args.program.now in
    let next = (g.P.Interpreter.parts program).next (g.P.Interpreter.held program c.args.goroutine.now.state) in
    let new = g.P.Interpreter.held program c.step.new.state in
    let moves = subst (λ (step : Step). Moves next step new (g.P.Interpreter.held program c.args.goroutine.now.state)) c.in-Slides.is c.in_ok-step.ensures in
    (slid_less (g.P.Interpreter.weight program) (g.P.Interpreter.weight program (g.P.Interpreter.held program c.args.goroutine.now.state)) next new (g.met.P.Interpreter.falls program (g.P.Interpreter.held program c.args.goroutine.now.state)) moves, refl)
