use Rattle.std.proofs.Common.{◌∙◌, ap, map, option_map}
use Rattle.std.proofs.lemmas.Result.{on_ok_weaker}
use Rattle.syntax.specs.View.{expression_of, place_of}
use Rattle.type_table.specs.Views.{kind_of}
use Rattle.type_table.specs.Visible.{globals_in, types_of}
use Rattle.codegen_simple.specs.Spots.{spot_in}
use Rattle.codegen_simple.specs.Layouts.{layout_of}
use Rattle.codegen_header.proofs.Selecting.{appends_assigned, some_mapped}
use Rattle.codegen_header.proofs.comm.emit_assign.Goals as goal

pub returns : goal.returns
returns c = λ yields.
    let elements = c.args.context.now.elements.now in
    let sent = option_map place_of c.args.sent.now in
    on_ok_weaker c.assign.result (λ assigned. appends_assigned (globals_in c.args.context.now.table.now) elements yields (layout_of c.args.context.now.table.now c.args.layout.now) (expression_of c.args.channel.now) (kind_of (types_of c.args.context.now.table.now) c.carried-kind.result)
    c.args.code.now.items c.drop_sent.new.code.items c.assign.new.code.items (c.carried-kind.ensures elements) (place_of c.args.item.now) sent c.is_some.result (map spot_in c.as_slice.result.now)
    (c.is_some.ensures ∙ some_mapped place_of c.args.sent.now) c.in_ok-drop_sent.ensures (ap (map spot_in) c.as_slice.ensures.value ∙ c.in_ok-spots.ensures yields) assigned) c.assign.ensures
