use Rattle.std.proofs.Common.{map}
use Rattle.syntax.specs.View.{top_of}
use Rattle.typing_rules.specs.Kinds.{type_names}
use Rattle.checker_declaration.specs.Parts.{structs_in}
use Rattle.checker_declaration.proofs.KnownWidths.{if_too_wide}
use Rattle.checker_declaration.proofs.earliest.wide_node.Goals as goal

pub returns-in-Some : goal.returns-in-Some
returns-in-Some c =
    let tops = map top_of c.args.tops.now in
    let types = type_names tops in
    if_too_wide tops (structs_in types c.args.all.now) c.in-Some.number c.struct_node.result c.requires.fields ((rw c.in-Some.is at c.in_ok-first_too_wide.ensures) types) c.struct_node.ensures
