use Rattle.std.proofs.Common.{◌∷◌, [], ◌∙◌, ap, map, option_map, sym}
use Rattle.std.proofs.lemmas.Result.{on_ok_weaker}
use Rattle.syntax.specs.View.{expression_of, name_of}
use Rattle.type_table.specs.Types.{BoolType}
use Rattle.type_table.specs.Views.{kind_of}
use Rattle.type_table.specs.Visible.{globals_in, types_of}
use Rattle.codegen_base.specs.Generated.{one_or_two}
use Rattle.codegen_base.specs.Layouts.{declaring_all}
use Rattle.codegen_simple.specs.Spots.{spot_in}
use Rattle.codegen_simple.specs.Layouts.{layout_of}
use Rattle.codegen_header.proofs.Selecting.{appends_defined, some_mapped}
use Rattle.codegen_header.proofs.comm.emit_define.Goals as goal

pub returns-clause-emitted : goal.returns-clause-emitted
returns-clause-emitted c = λ yields.
    let elements = c.args.context.now.elements.now in
    let sent = option_map name_of c.args.sent.now in
    on_ok_weaker c.assign.result (λ assigned. appends_defined (globals_in c.args.context.now.table.now) elements yields (layout_of c.args.context.now.table.now c.args.layout.now) (expression_of c.args.channel.now) (kind_of (types_of c.args.context.now.table.now) c.carried-kind.result)
    c.args.code.now.items c.drop_sent.new.code.items c.assign.new.code.items (c.carried-kind.ensures elements) (name_of c.args.item.now) sent c.is_some.result (map spot_in c.as_slice.result.now)
    (c.is_some.ensures ∙ some_mapped name_of c.args.sent.now) c.in_ok-drop_sent.ensures (ap (map spot_in) c.as_slice.ensures.value ∙ c.in_ok-spots.ensures.spots yields) assigned) c.assign.ensures

pub returns-clause-after : goal.returns-clause-after
returns-clause-after c = λ yields.
    let globals = globals_in c.args.context.now.table.now in
    let elements = c.args.context.now.elements.now in
    let sent = option_map name_of c.args.sent.now in
    on_ok_weaker c.assign.result (λ _. c.in_ok-spots.ensures.after yields
    ∙ ap (λ k. declaring_all globals elements (one_or_two globals elements yields (name_of c.args.item.now) sent) (k ∷ (BoolType ∷ [])) (layout_of c.args.context.now.table.now c.args.layout.now)) (sym (c.carried-kind.ensures elements))) c.assign.ensures
