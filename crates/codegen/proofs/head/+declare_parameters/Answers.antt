use Rattle.std.proofs.Common.{rules, ◌≡◌, ◌∷◌, map, ap, sym, subst}
use Rattle.syntax.specs.View.{declared_of, name_of}
use Rattle.type_table.specs.Views.{kind_of}
use Rattle.type_table.specs.Visible.{globals_in, types_of}
use Rattle.typing_rules.specs.Kinds.{fields_declared}
use Rattle.codegen_base.specs.Layouts.{with_parameters}
use Rattle.codegen_emission.specs.Layouts.{layout_of}
use Rattle.codegen.proofs.Heads.{parameters_grouped}
use Rattle.codegen.proofs.head.+declare_parameters.Goals as goal

pub returns : goal.returns
returns t c =
    let table = c.args.context.now.table.now in
    let globals = globals_in table in
    let elements = c.args.context.now.elements.now in
    let types = types_of table in
    let is : c.args.groups.now ≡ c.in-Some.group.now ∷ c.in-Some.groups.now = search rules in
    subst (λ l. layout_of table c.declare_parameters.new.layout ≡ with_parameters globals elements (fields_declared types (map declared_of l)) (layout_of table c.args.layout.now)) (sym is)
    (parameters_grouped globals elements types (declared_of c.in-Some.group.now) (map declared_of c.in-Some.groups.now) (kind_of types c.written-kind.result) (map name_of c.as_slice.result.now)
    (layout_of table c.args.layout.now) (layout_of table c.declare_names.new.layout) (layout_of table c.declare_parameters.new.layout)
    c.written-kind.ensures (ap (map name_of) c.as_slice.ensures.value) c.in_ok-declare_names.ensures c.in_ok-declare_parameters.ensures)
