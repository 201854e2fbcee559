use Rattle.std.proofs.Common.{rules, ◌≡◌, ◌∙◌, ap, map}
use Rattle.std.proofs.lemmas.Result.{on_ok_weaker}
use Rattle.syntax.specs.View.{expression_of, name_of}
use Rattle.type_table.specs.Views.{kind_of}
use Rattle.type_table.specs.Visible.{globals_in, types_of}
use Rattle.codegen_base.specs.Generated.{same_types}
use Rattle.codegen_simple.specs.Layouts.{layout_of}
use Rattle.codegen_header.proofs.Zeros.{appends_valued, declared_each, same_kinds}
use Rattle.codegen_header.proofs.variables.emit_known.Goals as goal

pub zero_as-requires : goal.zero_as-requires
zero_as-requires c =
    let kinds = map (kind_of (types_of c.args.context.now.table.now)) in
    ap kinds c.as_slice-kinds.ensures.value ∙ ap kinds c.in_ok-same.ensures ∙ same_kinds (globals_in c.args.context.now.table.now) c.args.context.now.elements.now (types_of c.args.context.now.table.now) c.args.kind c.args.names.now

pub returns-in-Some-clause-emitted : goal.returns-in-Some-clause-emitted
returns-in-Some-clause-emitted c =
    let types = types_of c.args.context.now.table.now in
    let kinds = map (kind_of types) in
    let same : kinds c.as_slice-kinds.result.now ≡ same_types (globals_in c.args.context.now.table.now) c.args.context.now.elements.now (map name_of c.args.names.now) (kind_of types c.args.kind) =
    ap kinds c.as_slice-kinds.ensures.value ∙ ap kinds c.in_ok-same.ensures ∙ same_kinds (globals_in c.args.context.now.table.now) c.args.context.now.elements.now types c.args.kind c.args.names.now in
    on_ok_weaker c.define_as.result (λ put. let h = appends_valued (globals_in c.args.context.now.table.now) c.args.context.now.elements.now (map name_of c.args.names.now) (kind_of types c.args.kind) (kinds c.as_slice-kinds.result.now) same (layout_of c.args.context.now.table.now c.args.layout.now) (map expression_of c.as_slice.result.now)
    c.args.code.now.items c.define_as.new.code.items put in
    search (rules, h)) c.define_as.ensures.emitted

pub returns-in-Some-clause-after : goal.returns-in-Some-clause-after
returns-in-Some-clause-after c =
    let types = types_of c.args.context.now.table.now in
    let kinds = map (kind_of types) in
    let same : kinds c.as_slice-kinds.result.now ≡ same_types (globals_in c.args.context.now.table.now) c.args.context.now.elements.now (map name_of c.args.names.now) (kind_of types c.args.kind) =
    ap kinds c.as_slice-kinds.ensures.value ∙ ap kinds c.in_ok-same.ensures ∙ same_kinds (globals_in c.args.context.now.table.now) c.args.context.now.elements.now types c.args.kind c.args.names.now in
    on_ok_weaker c.define_as.result (λ after. declared_each (globals_in c.args.context.now.table.now) c.args.context.now.elements.now (map name_of c.args.names.now) (kind_of types c.args.kind) (kinds c.as_slice-kinds.result.now) same (layout_of c.args.context.now.table.now c.args.layout.now) (layout_of c.args.context.now.table.now c.define_as.new.layout)
    after) c.define_as.ensures.after
