use Rattle.std.proofs.Common.{◌+◌, ◌≤◌, arith, false, subst}
use Rattle.goroutine_vm.specs.Advance.{Turns}
use Rattle.goroutine_vm.proofs.Turns.{steps_more}
use Rattle.goroutine_vm.proofs.state.GoState.burst.Goals as goal

pub returns-clause-steps : goal.returns-clause-steps
returns-clause-steps c =
    let code = c.args.code.now in
    let n = c.run-ran.result in
    let turn : Turns code c.args.limit c.run-ran.new.self false c.turn.new.self = subst (λ b. Turns code c.args.limit c.run-ran.new.self b c.turn.new.self) c.if-branch.false c.in_ok-turn.ensures.turn in
    let most : n + 1 ≤ c.args.left = let m = c.run-ran.ensures.most in omega (arith, m, c.if-ran-left.false) in
    (n + 1, most, steps_more code c.args.limit n c.args.self.now c.run-ran.new.self c.turn.new.self c.run-ran.ensures.steps turn)

pub returns-clause-made : goal.returns-clause-made
returns-clause-made c =
    let code = c.args.code.now in
    let n = c.run-ran.result in
    let turn : Turns code c.args.limit c.run-ran.new.self false c.turn.new.self = subst (λ b. Turns code c.args.limit c.run-ran.new.self b c.turn.new.self) c.if-branch.false c.in_ok-turn.ensures.turn in
    let most : n + 1 ≤ c.args.left = let m = c.run-ran.ensures.most in omega (arith, m, c.if-ran-left.false) in
    (omega arith, most, steps_more code c.args.limit n c.args.self.now c.run-ran.new.self c.turn.new.self c.run-ran.ensures.steps turn)
