use Rattle.std.proofs.Common.{◌≡◌, ◌-◌, ◌≤◌}
use Rattle.goroutine_vm.specs.Advance.{IsStateOf, steps}
use Rattle.goroutine_vm.proofs.state.GoState.step_ahead.Given as goal

abbrev pub invariant-loop-made : goal.invariant-loop-made
invariant-loop-made l = record {
  state : IsStateOf l.code l.limit l.self;
  steps : steps l.code l.limit l.made l.fn.self ≡ l.self;
  most : l.made ≤ l.quantum;
}

abbrev pub decreases-loop-made : goal.decreases-loop-made
decreases-loop-made l = l.quantum - l.made
