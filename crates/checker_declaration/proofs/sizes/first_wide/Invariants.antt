use Rattle.std.proofs.Common.{◌≤◌, take, All}
use Rattle.checker_declaration.proofs.sizes.first_wide.Given as goal

abbrev pub invariant-loop-number : goal.invariant-loop-number
invariant-loop-number l = All (λ w. w ≤ 16) (take l.number l.widths)
