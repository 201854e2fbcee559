use Rattle.std.proofs.Common.{◌≡◌, ℕ, Some, arith, subst}
use Rattle.goroutine_vm.specs.Advance.{Bursts, steps}
use Rattle.goroutine_vm.proofs.Turns.{goes_more, steps_add}
use Rattle.goroutine_vm.proofs.state.GoState.step_ahead.Goals as goal

pub returns-in-Err-clause-steps : goal.returns-in-Err-clause-steps
returns-in-Err-clause-steps c = goes_more c.args.code.now c.args.limit c.args.quantum c.loop-made.made c.args.self.now c.loop-made.self c.burst.new.self c.loop-made.invariant.most c.loop-made.invariant.steps c.burst.ensures.steps

pub loop-made-preserved : goal.loop-made-preserved
loop-made-preserved c =
    let code = c.args.code.now in
    let n = c.in-Ok-Some.steps in
    let b : Bursts code c.args.limit _ c.loop-made.self (Some n) c.burst.new.self = rw c.in-Ok-Some.field-0-is at c.in-Ok-Some.ensures.made in
    let most = c.loop-made.invariant.most in
    record {
      state = c.burst.ensures.state;
      steps = steps_add code c.args.limit c.loop-made.made n c.args.self.now c.loop-made.self c.burst.new.self c.loop-made.invariant.steps b.2;
      most = let l = b.1 in omega (arith, l, most);
    }

pub returns-in-Ok-None-clause-steps : goal.returns-in-Ok-None-clause-steps
returns-in-Ok-None-clause-steps c = goes_more c.args.code.now c.args.limit c.args.quantum c.loop-made.made c.args.self.now c.loop-made.self c.burst.new.self c.loop-made.invariant.most c.loop-made.invariant.steps c.burst.ensures.steps

pub returns-clause-quantum : goal.returns-clause-quantum
returns-clause-quantum c = λ e.
    let most = c.loop-made.invariant.most in
    let all : c.loop-made.made ≡ c.args.quantum = omega (arith, most, c.loop-made-test.false) in
    subst (λ (n : ℕ). steps c.args.code.now c.args.limit n c.args.self.now ≡ c.loop-made.self) all c.loop-made.invariant.steps
