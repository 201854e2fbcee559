use Rattle.std.proofs.lemmas.Result.{IfOk-weaker}
use Rattle.goroutine_vm.proofs.Quanta.{few_ahead}
use Rattle.goroutine_vm.proofs.Turns.{ahead_stops}
use Rattle.goroutine_vm.proofs.state.GoState.advance.Goals as goal

pub returns-clause-stop : goal.returns-clause-stop
returns-clause-stop c = IfOk-weaker c.stop.result _ _
    (λ stop h. ahead_stops c.args.code.now c.args.limit c.args.quantum c.args.self.now c.step_ahead.new.self _ stop c.in_ok-step_ahead.ensures.steps c.in_ok-step_ahead.ensures.asks c.in_ok-step_ahead.ensures.quantum h)
    c.stop.ensures.stop

pub returns-clause-few : goal.returns-clause-few
returns-clause-few c = IfOk-weaker c.stop.result _ _
    (λ stop h. few_ahead c.args.code.now c.args.limit c.stop.ensures.verified c.args.quantum c.args.self.now c.step_ahead.new.self _ stop c.requires c.in_ok-step_ahead.ensures.asks c.in_ok-step_ahead.ensures.quantum h)
    c.stop.ensures.stop
