use Rattle.std.proofs.Common.{option_map}
use Rattle.type_table.specs.Visible.{types_of}
use Rattle.checker_base.specs.Views.{worth_of}
use Rattle.codegen_expression.proofs.Requesting.{item_placed}
use Rattle.codegen_expression.proofs.channel.item_place.Goals as goal

pub returns-in-Some : goal.returns-in-Some
returns-in-Some c =
    item_placed c.args.context.now.elements.now (option_map (worth_of (types_of c.args.context.now.table.now)) c.args.channel.worth) c.args.channel.place c.in-Some.place c.requires c.in-Some.ensures
