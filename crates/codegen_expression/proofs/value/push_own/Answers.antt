use Rattle.std.proofs.Common.{rules, ◌≡◌, length, option_map}
use Rattle.syntax.specs.View.{expression_of}
use Rattle.type_table.specs.Views.{kind_of}
use Rattle.type_table.specs.Visible.{globals_in, scope_of, types_of}
use Rattle.checker_base.specs.Views.{worth_of}
use Rattle.codegen_expression.proofs.Pushed.{puts_own}
use Rattle.codegen_expression.proofs.value.push_own.Goals as goal

pub returns-clause-pushed : goal.returns-clause-pushed
returns-clause-pushed c =
    let types = types_of c.args.context.now.table.now in
    let first : c.len-first.result ≡ length c.args.code.now.items = search rules in
    puts_own (globals_in c.args.context.now.table.now) c.args.context.now.elements.now (scope_of c.args.context.now.table.now c.args.visible.now) (expression_of c.args.expression.now) (option_map (worth_of types) c.in_ok-operand.operand)
    (kind_of types c.kind_in-kind.result) c.len-first.result c.args.code.now.items c.emit.new.code.items c.settle.new.code.items first c.in_ok-operand.ensures.worth (c.kind_in-kind.ensures types) c.in_ok-operand.ensures.emitted c.in_ok-settle.ensures
