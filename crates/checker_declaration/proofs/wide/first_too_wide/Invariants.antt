use Rattle.checker_declaration.proofs.wide.first_too_wide.Given as goal

abbrev pub invariant-loop-number : goal.invariant-loop-number
invariant-loop-number l = Unit {0}
