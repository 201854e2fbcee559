use Rattle.std.proofs.Common.{rules, ◌≡◌, ◌∷◌, map, sym, subst}
use Rattle.std.proofs.lemmas.Result.{on_ok_weaker}
use Rattle.syntax.specs.View.{name_of}
use Rattle.type_table.specs.Views.{kind_of}
use Rattle.type_table.specs.Visible.{globals_in, types_of}
use Rattle.codegen_base.specs.Generated.{zero_values}
use Rattle.codegen_expression.specs.Emission.{Puts}
use Rattle.codegen_header.proofs.Zeros.{puts_next_zero}
use Rattle.codegen_header.proofs.variables.+push_zero_values.Goals as goal

pub returns : goal.returns
returns t c =
    let globals = globals_in c.args.context.now.table.now in
    let elements = c.args.context.now.elements.now in
    let kind = kind_of (types_of c.args.context.now.table.now) c.args.kind in
    let is : c.args.names.now ≡ c.in-Some._name.now ∷ c.in-Some.names.now = search rules in
    on_ok_weaker c.push_zero_values.result (λ rest. let put = puts_next_zero globals elements (name_of c.in-Some._name.now) (map name_of c.in-Some.names.now) kind c.args.code.now.items c.push_zeros.new.code.items c.push_zero_values.new.code.items c.in_ok-push_zeros.ensures rest in
    subst (λ l. Puts c.args.code.now.items c.push_zero_values.new.code.items (zero_values globals elements 0 (map name_of l) kind)) (sym is) put) c.push_zero_values.ensures
