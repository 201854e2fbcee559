use Rattle.std.proofs.Common.{◌≡◌, true, take}
use Rattle.std.specs.List.{list_all}
use Rattle.exploration.specs.declared.shown.Shown.{Shown}
use Rattle.exploration.proofs.findings.are_own_limits.Given as goal

abbrev pub invariant-loop-one : goal.invariant-loop-one
invariant-loop-one l = list_all (λ (one : Shown). one.own_limit) (take l.one-index l.shown) ≡ true
