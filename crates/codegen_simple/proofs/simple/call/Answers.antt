use Rattle.std.proofs.Common.{map, subst}
use Rattle.std.proofs.lemmas.Result.{on_ok_weaker}
use Rattle.bytecode.specs.declared.instr.Instr.TheVariants as instrs
use Rattle.syntax.specs.View.{expression_of, name_of}
use Rattle.type_table.specs.Visible.{globals_in, scope_of}
use Rattle.meaning.specs.Expressions.{number_of}
use Rattle.typing_rules.specs.Calls.{result_of}
use Rattle.codegen_base.specs.Pushes.{drops}
use Rattle.codegen_base.specs.Statements.{pushes_arguments, result_words}
use Rattle.plan.specs.Plan.{Do, Skip}
use Rattle.codegen_simple.specs.Simples.{Appends}
use Rattle.codegen_simple.proofs.Appending.{ends_call}
use Rattle.codegen_simple.proofs.simple.call.Goals as goal

pub returns : goal.returns
returns c =
    let globals = globals_in c.args.context.now.table.now in
    let elements = c.args.context.now.elements.now in
    let scope = scope_of c.args.context.now.table.now c.args.visible.now in
    let pushed = pushes_arguments globals elements scope (number_of globals (name_of c.args.name.now)) (map expression_of c.args.arguments.now.values.items) in
    let function = c.in_ok-function.function in
    on_ok_weaker c.drop_result.result (λ dropped. let h = ends_call c.args.code.now.items c.push_arguments.new.code.items c.push.new.self.items c.drop_result.new.code.items pushed (drops (result_words globals elements scope (result_of globals function))) (instrs.Call function)
    c.in_ok-function.ensures.pushed c.in_ok-push.ensures.items dropped in
    subst (λ f. Appends c.args.code.now.items c.drop_result.new.code.items (pushed (Do (instrs.Call f) (drops (result_words globals elements scope (result_of globals f)) Skip)))) c.in_ok-function.ensures.number h) (c.drop_result.ensures scope)
