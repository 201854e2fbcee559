use Rattle.std.proofs.Common.{◌≡◌, ◌∙◌, ◌+◌, ◌≤◌, ap, arith, rules, subst, sym}
use Rattle.bytecode.specs.Machine.{Frames}
use Rattle.bytecode.specs.Rules.{IsVerified}
use Rattle.call_frame.specs.Steps.{Runs}
use Rattle.goroutine_vm.specs.Advance.{IsStateOf}
use Rattle.goroutine_vm.proofs.Turns.{Ran, ran, same_view}
use Rattle.superinstruction_base.specs.Forms.{IsTableOf}
use Rattle.word.specs.Kinds.{Clocked, at}
use Rattle.goroutine_vm.proofs.state.GoState.run.Goals as goal

pub run-steps-requires : goal.run-steps-requires
run-steps-requires c = subst (λ x. IsTableOf x c.superinstructions-table.result.now) (sym c.code.ensures.code) c.superinstructions-table.ensures

ran_here : (c : goal.After-self-1) → Ran c.args.code.now c.args.limit (subst IsVerified c.code.ensures.code c.code.ensures.verified) c.args.self.now c.requires (ap (λ (s : Clocked Frames). s.doomed) (sym c.self.view_is) ∙ c.if-self.false) c.run-steps.result.0 c.run-steps.result.1 c.run-steps.new.self
ran_here c =
    let code = c.args.code.now in
    let s = c.args.self.now in
    let now : s.clock ≡ c.time-now.result = search rules in
    let ticks = c.run-steps.ensures.ticks in
    let room : s.clock + c.run-steps.result.1 ≤ c.args.limit = omega (arith, now, ticks, c.if-now-limit.false) in
    ran code c.args.limit (subst IsVerified c.code.ensures.code c.code.ensures.verified) s c.requires (ap (λ (s : Clocked Frames). s.doomed) (sym c.self.view_is) ∙ c.if-self.false) c.run-steps.result.0 c.run-steps.result.1 c.self.inside.frames c.run-steps.new.self (ap (λ (s : Clocked Frames). s.state) (sym c.self.view_is))
    (subst (λ x. Runs x c.run-steps.result.0 c.run-steps.result.1 c.self.inside.frames c.run-steps.new.self) c.code.ensures.code c.run-steps.ensures.runs) room

view_here : (c : goal.After-self-1) → ◌≡◌ {A = Clocked Frames} (at (c.args.self.now.clock + c.run-steps.result.1) c.run-steps.new.self) (record { clock = c.at-self-inside.result; doomed = c.self.inside.doomed; state = c.run-steps.new.self })
view_here c =
    let now : c.args.self.now.clock ≡ c.time-now.result = search rules in
    let k : c.args.self.now.clock + c.run-steps.result.1 ≡ c.at-self-inside.result = ap (λ n. n + c.run-steps.result.1) now ∙ sym c.at-self-inside.ensures in
    same_view (c.args.self.now.clock + c.run-steps.result.1) c.at-self-inside.result c.self.inside.doomed c.run-steps.new.self k c.if-self.false

pub returns-clause-steps : goal.returns-clause-steps
returns-clause-steps c = (ran_here c).steps-are ∙ view_here c

pub returns-clause-state : goal.returns-clause-state
returns-clause-state c = subst (IsStateOf c.args.code.now c.args.limit) (view_here c) (ran_here c).state
