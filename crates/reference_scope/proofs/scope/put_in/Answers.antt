use Rattle.std.proofs.Common.{◌≡◌, [], ◌∷◌, ◌++◌, ◌∙◌, true, false, bytes_eq, sym}
use Rattle.std.proofs.lemmas.Result.{IfOk-equal}
use Rattle.reference_scope.proofs.Newer.{found_last, passed_last}
use Rattle.reference_scope.proofs.scope.put_in.Goals as goal

pub returns-then-eq : goal.returns-then-eq
returns-then-eq c = λ types.
    let popped : c.loop-variable.variables.items ≡ c.pop.new.self.items ++ c.in-Some.variable ∷ [] = c.in-Some.ensures.items in
    let pushed : c.put_last.new.list.items ≡ c.pop.new.self.items ++ c.in_ok-changed.field-0 ∷ [] = c.in_ok-put_last.ensures in
    let same : bytes_eq c.in-Some.variable.name.now c.args.name.now ≡ true = sym c.eq.ensures ∙ c.if-eq.true in
    let found = found_last types c.args.name.now c.args.from c.args.words.now c.loop-variable.newer.items c.pop.new.self.items c.in-Some.variable c.in_ok-changed.field-0 same (c.in_ok-changed.ensures types) in
    let here = rw popped at (c.loop-variable.invariant types) in
    IfOk-equal c.put_back.result _ _ _ (c.put_back.ensures types) (rw pushed (sym found ∙ here))

pub loop-variable-preserved : goal.loop-variable-preserved
loop-variable-preserved c = λ types.
    let popped : c.loop-variable.variables.items ≡ c.pop.new.self.items ++ c.in-Some.variable ∷ [] = c.in-Some.ensures.items in
    let other : bytes_eq c.in-Some.variable.name.now c.args.name.now ≡ false = sym c.eq.ensures ∙ c.if-eq.false in
    let passed = passed_last types c.args.name.now c.args.from c.args.words.now c.loop-variable.newer.items c.pop.new.self.items c.in-Some.variable other in
    let here = rw popped at (c.loop-variable.invariant types) in
    let pushed : c.put_last-in-Some.new.list.items ≡ c.loop-variable.newer.items ++ c.in-Some.variable ∷ [] = c.in_ok-put_last-2.ensures in
    rw pushed (sym passed ∙ here)
