use Rattle.std.proofs.Common.{◌≡◌, ◌++◌, ℕ, List, map, vec_len}
use Rattle.reference_scope.specs.Scopes.{binding_of, newest_first}
use Rattle.reference_scope.proofs.scope.put_back.Given as goal

-- those that are left, before those that are back
abbrev pub invariant-loop-variable : goal.invariant-loop-variable
invariant-loop-variable l = (types : List (List ℕ)) →
    map (binding_of types) l.newer.items ++ newest_first types l.variables.items
    ≡ map (binding_of types) l.initial.newer.items ++ newest_first types l.initial.variables.items

abbrev pub decreases-loop-variable : goal.decreases-loop-variable
decreases-loop-variable l = vec_len l.newer
