use Rattle.std.proofs.Common.{◌≡◌, ◌∙◌, ap, sym, length, map}
use Rattle.std.proofs.lemmas.Result.{on_ok_weaker}
use Rattle.std.proofs.lemmas.List.{length-map}
use Rattle.syntax.specs.View.{expression_of, place_of}
use Rattle.type_table.specs.Views.{kind_of}
use Rattle.type_table.specs.Visible.{globals_in, scope_of, types_of}
use Rattle.codegen_base.specs.Statements.{place_spots, taken_types}
use Rattle.codegen_simple.specs.Spots.{spot_in}
use Rattle.codegen_simple.proofs.Appending.{appends_set}
use Rattle.codegen_simple.proofs.simple.set.Goals as goal

pub returns : goal.returns
returns c =
    let globals = globals_in c.args.context.now.table.now in
    let elements = c.args.context.now.elements.now in
    let scope = scope_of c.args.context.now.table.now c.args.visible.now in
    let kinds = map (kind_of (types_of c.args.context.now.table.now)) in
    let places = map place_of c.args.places.now in
    let count : length c.args.places.now ≡ length places = sym (length-map c.args.places.now place_of) in
    on_ok_weaker c.assign.result (λ assigned. appends_set globals elements (map expression_of c.args.right.now) (length c.args.places.now) (kinds c.in_ok-given.given.items) (kinds c.as_slice-kinds.result.now) (map spot_in c.as_slice.result.now)
    c.args.code.now.items c.push_right.new.code.items c.assign.new.code.items scope places count (c.in_ok-given.ensures elements)
    (ap kinds c.as_slice-kinds.ensures.value ∙ c.in_ok-taken.ensures elements ∙ ap (λ l. taken_types globals elements scope places (kinds l)) c.as_slice-given.ensures.value)
    (ap (map spot_in) c.as_slice.ensures.value ∙ c.in_ok-spots.ensures ∙ ap (λ l. place_spots globals elements scope places (kinds l)) c.as_slice-given.ensures.value)
    c.in_ok-push_right.ensures assigned) c.assign.ensures
