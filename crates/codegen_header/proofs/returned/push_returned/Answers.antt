use Rattle.std.proofs.Common.{rules, subst}
use Rattle.std.proofs.lemmas.Result.{on_ok_weaker}
use Rattle.syntax.specs.View.{expression_of}
use Rattle.type_table.specs.Visible.{globals_in, scope_of, types_of}
use Rattle.codegen_base.specs.Pushes.{pushes}
use Rattle.codegen_expression.specs.Emission.{Puts}
use Rattle.codegen_header.proofs.returned.push_returned.Goals as goal

pub returns-in-Value : goal.returns-in-Value
returns-in-Value c =
    let globals = globals_in c.args.context.now.table.now in
    let elements = c.args.context.now.elements.now in
    on_ok_weaker c.push.result (λ put. let h = subst (λ k. Puts c.args.code.now.items c.push.new.code.items (pushes globals elements (scope_of c.args.context.now.table.now c.args.visible.now) k (expression_of c.in-Value.value)))
    (c.result_type-kind.ensures (types_of c.args.context.now.table.now) globals elements) put in search (rules, h)) c.push.ensures
