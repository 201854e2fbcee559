use Rattle.std.proofs.Common.{IfOk, List, ℕ, subst}
use Rattle.kendo_test.specs.Passing.{IsFound}
use Rattle.kendo_test.proofs.ordering.OrderSearch.find.Goals as goal

pub returns-in-Ok : goal.returns-in-Ok
returns-in-Ok g c =
    let shown = c.in-Ok.ensures.shown in
    subst (λ (text : List ℕ). IfOk c.unexpected.result (IsFound c.args.task.now.expectation.now c.args.task.now.leaks text c.args.task.now.limit)) c.in_ok-text.ensures.items
    (c.unexpected.ensures _ c.args.task.now.limit shown.0 _ c.scope_of.ensures shown.1 shown.2)
