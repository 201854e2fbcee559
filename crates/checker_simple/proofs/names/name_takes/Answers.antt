use Rattle.std.proofs.lemmas.Result.{IfOk-weaker}
use Rattle.syntax.specs.View.{name_of}
use Rattle.type_table.specs.Scopes.{own_variable}
use Rattle.type_table.specs.Visible.{scope_of}
use Rattle.checker_simple.proofs.names.name_takes.Goals as goal

pub returns-clause-none : goal.returns-clause-none
returns-clause-none c =
    IfOk-weaker c.own_takes.result _ _ (λ _ good. good (own_variable (scope_of c.args.table.now c.args.visible.now) (name_of c.args.name.now)) c.own_named-own.ensures) c.own_takes.ensures.none
