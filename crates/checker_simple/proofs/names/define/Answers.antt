use Rattle.std.proofs.Common.{rules}
use Rattle.syntax.specs.View.{name_of}
use Rattle.type_table.specs.Scopes.{own_variable}
use Rattle.type_table.specs.Visible.{types_of, scope_of}
use Rattle.typing_rules.specs.Worths.{kind_of}
use Rattle.checker_simple.proofs.names.define.Goals as goal

pub returns-in_err-kind-clause-one : goal.returns-in_err-kind-clause-one
returns-in_err-kind-clause-one c =
    let h = c.in_err-kind.ensures.one (types_of c.args.table.now) (kind_of (own_variable (scope_of c.args.table.now c.args.visible.now) (name_of c.args.name.now))) in
    search (rules, h)

pub returns-clause-none : goal.returns-clause-none
returns-clause-none c =
    c.in_ok-kind.ensures.none (types_of c.args.table.now) (kind_of (own_variable (scope_of c.args.table.now c.args.visible.now) (name_of c.args.name.now)))
