use Rattle.std.proofs.Common.{◌≡◌, ◌+◌, sym, refl, arith, length, map, Some, option_map, sum_by}
use Rattle.std.proofs.lemmas.List.{length-map}
use Rattle.syntax.specs.Measures.{if_any, type_size, expression_size}
use Rattle.syntax.specs.View.{name_of, type_of, right_of}
use Rattle.type_table.specs.Scopes.{type_in}
use Rattle.type_table.specs.Views.{kind_of}
use Rattle.type_table.specs.Visible.{types_of, globals_in, scope_of}
use Rattle.checker_simple.specs.Names.{names_at}
use Rattle.checker_simple.proofs.Wholes.{typed-none}
use Rattle.checker_simple.proofs.variables.typed_variables.Goals as goal

pub returns-clause-none : goal.returns-clause-none
returns-clause-none c = λ violation.
    let types = types_of c.args.table.now in
    let g = globals_in c.args.table.now in
    let s = scope_of c.args.table.now c.args.visible.now in
    let names = map name_of c.args.names.now in
    let kind = type_of c.args.kind.now in
    let right = option_map right_of c.args.right.now in
    let end = c.args.first + type_size kind + if_any (sum_by expression_size) right + 1 in
    let same : names_at c.in_ok-all.all.items ≡ names = c.in_ok-all.ensures in
    let these : names_at c.as_slice.result.now ≡ names = cc in
    let at = c.type_in.ensures in
    let is = c.in-Some.is in
    let known : type_in types s kind ≡ Some (kind_of types c.in-Some.known) = rw is at (sym at) in
    let n : length c.args.names.now ≡ length names = sym (length-map c.args.names.now name_of) in
    let m : c.args.first + c.type_size.result ≡ c.args.first + type_size kind = omega (arith, c.type_size.ensures) in
    let e : end ≡ c.in_ok-node.node + 1 = omega (arith, c.in_ok-node.ensures.end) in
    typed-none g s c.args.first (c.args.first + c.type_size.result) (length c.args.names.now) end names (names_at c.as_slice.result.now) kind right (kind_of types c.in-Some.known) violation known these n m refl
    (c.in_ok-node.ensures.none violation) (c.in_ok-may_declare.ensures.none end e violation)
