use Rattle.std.proofs.Common.{map}
use Rattle.std.proofs.lemmas.Result.{on_ok_weaker}
use Rattle.bytecode.specs.declared.instr.Instr.TheVariants as instrs
use Rattle.syntax.specs.View.{part_of}
use Rattle.type_table.specs.Visible.{globals_in, scope_of}
use Rattle.codegen_base.specs.Statements.{pushes_parts}
use Rattle.codegen_simple.proofs.Appending.{ends}
use Rattle.codegen_simple.proofs.simple.print.Goals as goal

pub returns : goal.returns
returns c =
    on_ok_weaker c.put.result (λ is. ends c.args.code.now.items c.push_parts.new.code.items c.put.new.code.items (pushes_parts (globals_in c.args.context.now.table.now) c.args.context.now.elements.now (scope_of c.args.context.now.table.now c.args.visible.now) (map part_of c.args.parts.now)) (instrs.Print c.args.number)
    c.in_ok-push_parts.ensures is) c.put.ensures
