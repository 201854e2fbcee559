use Rattle.std.proofs.Common.{◌≡◌, ◌≤◌, ℕ, List, length, take}
use Rattle.meaning.specs.Variables.{in_block}
use Rattle.reference_scope.specs.Scopes.{newest_first}
use Rattle.reference_scope.proofs.scope.find.Given as goal

-- what is left has the variable that is looked for
abbrev pub invariant-loop-left : goal.invariant-loop-left
invariant-loop-left l = record {
  within : l.left ≤ length l.variables;
  same : (types : List (List ℕ)) → in_block (newest_first types (take l.left l.variables)) l.name ≡ in_block (newest_first types l.variables) l.name;
}

abbrev pub decreases-loop-left : goal.decreases-loop-left
decreases-loop-left l = l.left
