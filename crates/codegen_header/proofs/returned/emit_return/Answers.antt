use Rattle.std.proofs.lemmas.Result.{on_ok_weaker}
use Rattle.syntax.specs.View.{returned_of}
use Rattle.type_table.specs.Views.{yield_of}
use Rattle.type_table.specs.Visible.{globals_in, types_of}
use Rattle.codegen_simple.specs.Layouts.{layout_of}
use Rattle.codegen_header.proofs.Returning.{appends_return}
use Rattle.codegen_header.proofs.returned.emit_return.Goals as goal

pub returns : goal.returns
returns c =
    on_ok_weaker c.put.result (λ is. appends_return (globals_in c.args.context.now.table.now) c.args.context.now.elements.now (yield_of (types_of c.args.context.now.table.now) c.args.kind) (layout_of c.args.context.now.table.now c.args.layout.now) (returned_of c.args.returned.now)
    c.args.code.now.items c.push_returned.new.code.items c.put.new.code.items c.in_ok-push_returned.ensures is) c.put.ensures
