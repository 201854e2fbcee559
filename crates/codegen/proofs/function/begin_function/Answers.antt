use Rattle.std.proofs.Common.{rules, ◌≡◌, ◌∙◌, ap, length, map}
use Rattle.syntax.specs.View.{declared_of, function_of}
use Rattle.type_table.specs.Visible.{globals_in, types_of}
use Rattle.typing_rules.specs.Kinds.{fields_declared}
use Rattle.codegen_base.specs.Layouts.{Layout, with_parameters}
use Rattle.codegen_base.specs.Program.{first_layout}
use Rattle.codegen_emission.specs.Layouts.{layout_of}
use Rattle.codegen.proofs.function.begin_function.Goals as goal

pub returns-clause-layout : goal.returns-clause-layout
returns-clause-layout c =
    let table = c.args.context.now.table.now in
    let globals = globals_in table in
    let elements = c.args.context.now.elements.now in
    c.in_ok-declare_parameters.ensures
    ∙ ap (λ gs. with_parameters globals elements (fields_declared (types_of table) (map declared_of gs)) (layout_of table c.begin.new.emitter.layout)) c.as_slice-parameters.ensures.value
    ∙ ap (with_parameters globals elements (fields_declared (types_of table) (function_of c.args.function.now).parameters)) (c.begin.ensures.layout table)

pub returns-clause-params : goal.returns-clause-params
returns-clause-params c =
    let table = c.args.context.now.table.now in
    let globals = globals_in table in
    let elements = c.args.context.now.elements.now in
    let same : layout_of table c.declare_parameters.new.layout ≡ first_layout globals elements (function_of c.args.function.now) =
    c.in_ok-declare_parameters.ensures
    ∙ ap (λ gs. with_parameters globals elements (fields_declared (types_of table) (map declared_of gs)) (layout_of table c.begin.new.emitter.layout)) c.as_slice-parameters.ensures.value
    ∙ ap (with_parameters globals elements (fields_declared (types_of table) (function_of c.args.function.now).parameters)) (c.begin.ensures.layout table) in
    let counted : c.in_ok-params.params ≡ length c.declare_parameters.new.layout.locals.items = search rules in
    counted ∙ ap (λ (l : Layout). length l.locals) same
