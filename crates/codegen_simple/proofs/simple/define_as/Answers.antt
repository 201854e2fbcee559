use Rattle.std.proofs.Common.{◌≡◌, ◌∙◌, ap, sym, length, map}
use Rattle.std.proofs.lemmas.Result.{on_ok_weaker}
use Rattle.std.proofs.lemmas.List.{length-map}
use Rattle.syntax.specs.View.{expression_of, name_of}
use Rattle.type_table.specs.Views.{kind_of}
use Rattle.type_table.specs.Visible.{globals_in, types_of}
use Rattle.codegen_simple.specs.Layouts.{layout_of}
use Rattle.codegen_simple.specs.Spots.{spot_in}
use Rattle.codegen_simple.proofs.Appending.{appends_define}
use Rattle.codegen_simple.proofs.simple.define_as.Goals as goal

pub returns-clause-emitted : goal.returns-clause-emitted
returns-clause-emitted c =
    let kinds = map (kind_of (types_of c.args.context.now.table.now)) in
    let names = map name_of c.args.names.now in
    let count : length c.args.names.now ≡ length names = sym (length-map c.args.names.now name_of) in
    on_ok_weaker c.assign.result (λ assigned. appends_define (globals_in c.args.context.now.table.now) c.args.context.now.elements.now (layout_of c.args.context.now.table.now c.args.layout.now) names (kinds c.args.kinds.now) (map expression_of c.args.right.now) (length c.args.names.now) (kinds c.as_slice-taken.result.now) (map spot_in c.as_slice.result.now)
    c.args.code.now.items c.push_right.new.code.items c.assign.new.code.items count
    (ap kinds c.as_slice-taken.ensures.value ∙ c.in_ok-taken.ensures c.args.context.now.elements.now) (ap (map spot_in) c.as_slice.ensures.value ∙ c.in_ok-spots.ensures.spots)
    c.in_ok-push_right.ensures assigned) c.assign.ensures
