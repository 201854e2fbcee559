use Rattle.std.proofs.Common.{rules, ◌≡◌, false, length, map, nat_eq, ap}
use Rattle.std.proofs.lemmas.List.{length-map}
use Rattle.syntax.specs.declared.node.ExpressionNode.TheFolds.{the_lemmas}
use Rattle.syntax.specs.Tree.{Composite, Named, expressions}
use Rattle.syntax.specs.View.{name_of, expression_of}
use Rattle.type_table.specs.Visible.{types_of, globals_in}
use Rattle.type_table.specs.Zeros.{zero_words}
use Rattle.meaning.specs.Expressions.{fields, type_of}
use Rattle.meaning.specs.Values.{Value}
use Rattle.meaning.specs.Worked.{Worked}
use Rattle.reference_scope.specs.Scopes.{blocks_of}
use Rattle.reference_value.specs.Stops.{all_given}
use Rattle.reference_value.proofs.Constants.{named_value}
use Rattle.reference_value.proofs.Literals.{filled}
use Rattle.reference_value.proofs.value.+value.Goals as goal

pub value-returns-else-is_empty-clause-ok : goal.value-returns-else-is_empty-clause-ok
value-returns-else-is_empty-clause-ok t c =
    let globals = globals_in c.args.table.now in
    let blocks = blocks_of (types_of c.args.table.now) c.args.scope.now in
    let values = map expression_of c.in-Composite.values.items in
    let name = name_of c.in-Composite.field-0 in
    let is : expression_of c.args.expression.now ≡ Composite name (expressions values) c.in-Composite.field-2 = search (rules, the_lemmas) in
    let some : nat_eq (length values) 0 ≡ false = simp length-map (search rules) in
    let same = filled values (zero_words globals.structs (type_of globals blocks (Composite name (expressions values) c.in-Composite.field-2))) (fields globals blocks (expressions values)) some in
    rw (is, same) (rw c.as_slice-in-Composite.ensures.value at c.fields.ensures.ok)

pub value-returns-in_ok-held-in-Named-clause-ok : goal.value-returns-in_ok-held-in-Named-clause-ok
value-returns-in_ok-held-in-Named-clause-ok t c =
    let globals = globals_in c.args.table.now in
    let types = types_of c.args.table.now in
    let name = name_of c.in-Named.name in
    let is : expression_of c.args.expression.now ≡ Named name = search (rules, the_lemmas) in
    let held = rw c.as_slice.ensures.value at (c.in_ok-held-in-Named.ensures types) in
    ap (λ (w : Worked Value). w (all_given c.args.given.now))
    (named_value globals (blocks_of types c.args.scope.now) (expression_of c.args.expression.now) name c.in_ok-held-in-Named.field-0.items is c.in_default.ensures.none held)
