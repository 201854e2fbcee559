use Rattle.std.proofs.Common.{◌≡◌, ◌∙◌, ap, sym, length, map, subst}
use Rattle.std.proofs.lemmas.Result.{on_ok_weaker}
use Rattle.std.proofs.lemmas.List.{length-map}
use Rattle.syntax.specs.View.{expression_of, name_of}
use Rattle.type_table.specs.Views.{kind_of}
use Rattle.type_table.specs.Visible.{globals_in, types_of}
use Rattle.codegen_base.specs.Layouts.{declaring_all}
use Rattle.codegen_base.specs.Statements.{defines, right_types}
use Rattle.codegen_simple.specs.Layouts.{layout_of}
use Rattle.codegen_simple.specs.Simples.{Appends}
use Rattle.codegen_simple.proofs.simple.define.Goals as goal

pub returns-clause-emitted : goal.returns-clause-emitted
returns-clause-emitted c =
    let globals = globals_in c.args.context.now.table.now in
    let elements = c.args.context.now.elements.now in
    let layout = layout_of c.args.context.now.table.now c.args.layout.now in
    let kinds = map (kind_of (types_of c.args.context.now.table.now)) in
    let names = map name_of c.args.names.now in
    let right = map expression_of c.args.right.now in
    let count : length c.args.names.now ≡ length names = sym (length-map c.args.names.now name_of) in
    let given = ap kinds c.as_slice-kinds.ensures.value ∙ c.in_ok-given.ensures elements ∙ ap (λ n. right_types globals elements layout.scope n right) count in
    on_ok_weaker c.define_as.result (λ put. subst (λ l. Appends c.args.code.now.items c.define_as.new.code.items (defines globals elements layout names l right)) given put) c.define_as.ensures.emitted

pub returns-clause-after : goal.returns-clause-after
returns-clause-after c =
    let globals = globals_in c.args.context.now.table.now in
    let elements = c.args.context.now.elements.now in
    let layout = layout_of c.args.context.now.table.now c.args.layout.now in
    let kinds = map (kind_of (types_of c.args.context.now.table.now)) in
    let names = map name_of c.args.names.now in
    let right = map expression_of c.args.right.now in
    let count : length c.args.names.now ≡ length names = sym (length-map c.args.names.now name_of) in
    let given = ap kinds c.as_slice-kinds.ensures.value ∙ c.in_ok-given.ensures elements ∙ ap (λ n. right_types globals elements layout.scope n right) count in
    on_ok_weaker c.define_as.result (λ after. after ∙ ap (λ l. declaring_all globals elements names l layout) given) c.define_as.ensures.after
