use Rattle.std.proofs.Common.{◌∙◌}
use Rattle.type_table.specs.Views.{kind_of}
use Rattle.type_table.specs.Visible.{globals_in, types_of}
use Rattle.codegen_expression.proofs.Widths.{words_counted}
use Rattle.codegen_expression.proofs.operand.words_of.Goals as goal

pub returns : goal.returns
returns c = λ scope. c.words_of.ensures.words ∙ words_counted (globals_in c.args.context.now.table.now).structs c.args.context.now.table.now.widths.items c.args.context.now.elements.now c.args.context.now.table.now.sized (kind_of (types_of c.args.context.now.table.now) c.args.kind)
