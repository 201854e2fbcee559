use Rattle.std.proofs.Common.{◌≡◌, [], ◌∷◌, ◌++◌, ◌∙◌}
use Rattle.reference_scope.proofs.Newer.{taken}
use Rattle.reference_scope.proofs.scope.put_back.Goals as goal

pub loop-variable-preserved : goal.loop-variable-preserved
loop-variable-preserved c = λ types.
    let popped : c.loop-variable.newer.items ≡ c.pop.new.self.items ++ c.in-Some.variable ∷ [] = c.in-Some.ensures.items in
    let pushed : c.put_last.new.list.items ≡ c.loop-variable.variables.items ++ c.in-Some.variable ∷ [] = c.in_ok-put_last.ensures in
    let here = rw popped at (c.loop-variable.invariant types) in
    rw pushed (taken types c.pop.new.self.items c.loop-variable.variables.items c.in-Some.variable ∙ here)
