use Rattle.std.proofs.Common.{rules}
use Rattle.type_table.specs.Visible.{globals_in}
use Rattle.codegen_header.proofs.select.select_table.Goals as goal

pub returns : goal.returns
returns c = λ yields.
    let made = c.in_ok-made.ensures yields in
    let default = c.default_place.ensures (globals_in c.args.context.now.table.now) c.args.context.now.elements.now yields in
    search (rules, made, default)
