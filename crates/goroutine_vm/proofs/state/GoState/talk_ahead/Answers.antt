use Rattle.std.proofs.Common.{◌≡◌, ℕ, ◌+◌, ◌-◌, arith, subst}
use Rattle.std.proofs.lemmas.Result.{IfOk-weaker}
use Rattle.goroutine_vm.specs.Advance.{steps}
use Rattle.goroutine_vm.proofs.Turns.{goes_more, steps_add}
use Rattle.goroutine_vm.proofs.state.GoState.talk_ahead.Goals as goal

pub returns-in-Other-clause-quantum : goal.returns-in-Other-clause-quantum
returns-in-Other-clause-quantum c =
    let code = c.args.code.now in
    let made = c.run-made.result in
    let most = c.run-made.ensures.most in
    let all : made + (c.args.quantum - made) ≡ c.args.quantum = omega (arith, most) in
    IfOk-weaker c.talk_slowly.result _ _
    (λ talk h e. subst (λ (n : ℕ). steps code c.args.limit n c.args.self.now ≡ c.talk_slowly.new.self) all (steps_add code c.args.limit made (c.args.quantum - made) c.args.self.now c.run-made.new.self c.talk_slowly.new.self c.run-made.ensures.steps (h e)))
    c.talk_slowly.ensures.quantum

pub returns-in-Other-clause-steps : goal.returns-in-Other-clause-steps
returns-in-Other-clause-steps c = goes_more c.args.code.now c.args.limit c.args.quantum c.run-made.result c.args.self.now c.run-made.new.self c.talk_slowly.new.self c.run-made.ensures.most c.run-made.ensures.steps c.talk_slowly.ensures.steps
