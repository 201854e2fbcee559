use Rattle.std.proofs.Common.{◌≡◌, ◌++◌, ℕ, List, map, vec_len}
use Rattle.meaning.specs.Variables.{assign_in}
use Rattle.reference_scope.specs.Scopes.{binding_of, newest_first}
use Rattle.reference_scope.proofs.scope.put_in.Given as goal

-- those that are newer, before what is to come of those that are left
abbrev pub invariant-loop-variable : goal.invariant-loop-variable
invariant-loop-variable l = (types : List (List ℕ)) →
    map (binding_of types) l.newer.items ++ assign_in l.name l.from l.words (newest_first types l.variables.items)
    ≡ assign_in l.name l.from l.words (newest_first types l.initial.variables.items)

abbrev pub decreases-loop-variable : goal.decreases-loop-variable
decreases-loop-variable l = vec_len l.variables
