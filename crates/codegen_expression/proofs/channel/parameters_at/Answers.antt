use Rattle.std.proofs.Common.{◌≡◌, ◌∙◌, Some, ap, map, slice_get, arith, sym}
use Rattle.std.proofs.lemmas.Option.{slice_get-get_or, slice_get_past}
use Rattle.type_table.specs.Views.{kind_of}
use Rattle.type_table.specs.Visible.{types_of}
use Rattle.codegen_expression.proofs.Requesting.{parameters_known, no_parameters}
use Rattle.codegen_expression.proofs.channel.parameters_at.Goals as goal

pub returns-then-number-len : goal.returns-then-number-len
returns-then-number-len c =
    let types = types_of c.args.table.now in
    let entries = c.args.table.now.functions.items in
    let function = c.index.result.now in
    let is : slice_get entries c.args.number ≡ Some function = slice_get-get_or entries c.args.number function (omega (arith, c.if-number-len.true, c.len.ensures)) ∙ ap Some (sym c.index.ensures) in
    ap (map (kind_of types)) c.as_slice.ensures.value ∙ parameters_known types entries c.args.number function is

pub returns-else-number-len : goal.returns-else-number-len
returns-else-number-len c =
    let entries = c.args.table.now.functions.items in
    no_parameters (types_of c.args.table.now) entries c.args.number (slice_get_past entries c.args.number (omega (arith, c.if-number-len.false, c.len.ensures)))
