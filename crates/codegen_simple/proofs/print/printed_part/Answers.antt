use Rattle.std.proofs.Common.{rules, ◌≡◌, ◌∙◌, ap}
use Rattle.syntax.specs.View.{expression_of}
use Rattle.type_table.specs.Visible.{globals_in, scope_of, types_of}
use Rattle.typing_rules.specs.Worths.{worth}
use Rattle.codegen_base.specs.Statements.{printed_as}
use Rattle.codegen_simple.proofs.print.printed_part.Goals as goal

pub returns-in-Value : goal.returns-in-Value
returns-in-Value c = λ elements.
    let is : c.printed_as.result ≡ printed_as (worth (globals_in c.args.context.now.table.now) (scope_of c.args.context.now.table.now c.args.visible.now) (expression_of c.in-Value.value)) =
    c.printed_as.ensures (types_of c.args.context.now.table.now) ∙ ap printed_as c.worth.ensures.worth in
    search (rules, is)
