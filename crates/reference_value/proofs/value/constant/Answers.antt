use Rattle.std.proofs.Common.{rules, ◌≡◌, ℕ, Option, Some}
use Rattle.std.specs.Global.{Box}
use Rattle.syntax.specs.declared.node.UnaryOperator.{UnaryOperator}
use Rattle.syntax.specs.declared.node.BinaryOperator.{BinaryOperator}
use Rattle.syntax.specs.declared.node.ExpressionNode.{ExpressionNode}
use Rattle.syntax.specs.declared.node.ExpressionNode.TheVariants as nodes
use Rattle.syntax.specs.declared.node.ExpressionNode.TheFolds.{the_lemmas}
use Rattle.syntax.specs.Tree.{Integer, Unary, Binary}
use Rattle.syntax.specs.View.{expression_of}
use Rattle.type_table.specs.Visible.{types_of, globals_in}
use Rattle.meaning.specs.Expressions.{value, worth_of}
use Rattle.reference_scope.specs.Scopes.{blocks_of}
use Rattle.reference_value.proofs.Constants.{exactly_some, exactly_none, compared_some, compared_none, integer_value, unary_value, binary_value}
use Rattle.reference_value.proofs.value.constant.Goals as goal

integer_is : (e : ExpressionNode) (number : Option ℕ) → e ≡ nodes.Integer number → expression_of e ≡ Integer number
integer_is e number is = search (rules, the_lemmas)

unary_is : (e : ExpressionNode) (operator : UnaryOperator) (operand : Box ExpressionNode) → e ≡ nodes.Unary operator operand → expression_of e ≡ Unary operator (expression_of operand.value)
unary_is e operator operand is = search (rules, the_lemmas)

binary_is : (e : ExpressionNode) (operator : BinaryOperator) (left right : Box ExpressionNode) → e ≡ nodes.Binary operator left right
    → expression_of e ≡ Binary operator (expression_of left.value) (expression_of right.value)
binary_is e operator left right is = search (rules, the_lemmas)

pub returns-in-Integer-clause-some : goal.returns-in-Integer-clause-some
returns-in-Integer-clause-some c =
    let globals = globals_in c.args.table.now in
    let blocks = blocks_of (types_of c.args.table.now) c.args.scope.now in
    let whole = expression_of c.args.expression.now in
    let is = integer_value globals blocks whole _ (integer_is _ _ c.in-Integer.is) in
    exactly_some _ (worth_of globals blocks whole) _ (value globals blocks whole) c.number.result is c.worth.ensures.worth c.number.ensures.some

pub returns-in-Integer-clause-none : goal.returns-in-Integer-clause-none
returns-in-Integer-clause-none c =
    let globals = globals_in c.args.table.now in
    let blocks = blocks_of (types_of c.args.table.now) c.args.scope.now in
    let whole = expression_of c.args.expression.now in
    let is = integer_value globals blocks whole _ (integer_is _ _ c.in-Integer.is) in
    exactly_none _ (worth_of globals blocks whole) _ (value globals blocks whole) c.number.result is c.worth.ensures.worth c.number.ensures.none

pub returns-in-Unary-clause-some : goal.returns-in-Unary-clause-some
returns-in-Unary-clause-some c =
    let globals = globals_in c.args.table.now in
    let blocks = blocks_of (types_of c.args.table.now) c.args.scope.now in
    let whole = expression_of c.args.expression.now in
    let is = unary_value globals blocks whole _ _ (unary_is _ _ _ c.in-Unary.is) in
    exactly_some _ (worth_of globals blocks whole) _ (value globals blocks whole) c.number-in-Unary.result is c.worth-in-Unary.ensures.worth c.number-in-Unary.ensures.some

pub returns-in-Unary-clause-none : goal.returns-in-Unary-clause-none
returns-in-Unary-clause-none c =
    let globals = globals_in c.args.table.now in
    let blocks = blocks_of (types_of c.args.table.now) c.args.scope.now in
    let whole = expression_of c.args.expression.now in
    let is = unary_value globals blocks whole _ _ (unary_is _ _ _ c.in-Unary.is) in
    exactly_none _ (worth_of globals blocks whole) _ (value globals blocks whole) c.number-in-Unary.result is c.worth-in-Unary.ensures.worth c.number-in-Unary.ensures.none

pub returns-in-Some-clause-some : goal.returns-in-Some-clause-some
returns-in-Some-clause-some c =
    let globals = globals_in c.args.table.now in
    let blocks = blocks_of (types_of c.args.table.now) c.args.scope.now in
    let whole = expression_of c.args.expression.now in
    let is = binary_value globals blocks whole _ _ _ (binary_is _ _ _ _ c.in-Binary.is) in
    exactly_some _ (worth_of globals blocks whole) _ (value globals blocks whole) (Some c.in-Some.word) is c.worth-in-Binary.ensures.worth c.in-Some.ensures.some

pub returns-in-None-clause-some : goal.returns-in-None-clause-some
returns-in-None-clause-some c =
    let globals = globals_in c.args.table.now in
    let blocks = blocks_of (types_of c.args.table.now) c.args.scope.now in
    let whole = expression_of c.args.expression.now in
    let is = binary_value globals blocks whole _ _ _ (binary_is _ _ _ _ c.in-Binary.is) in
    let left = expression_of c.in-Binary.left.value in
    let right = expression_of c.in-Binary.right.value in
    compared_some c.in-Binary.operator _ (worth_of globals blocks whole) _ (worth_of globals blocks left) _ (worth_of globals blocks right) _ (value globals blocks whole) c.comparison.result is
    c.worth-in-Binary.ensures.worth (rw (← c.deref.ensures) c.worth-in-None.ensures.worth) (rw (← c.deref-in-None.ensures) c.worth-in-None-2.ensures.worth) c.in-None.ensures.none c.comparison.ensures.some

pub returns-in-None-clause-none : goal.returns-in-None-clause-none
returns-in-None-clause-none c =
    let globals = globals_in c.args.table.now in
    let blocks = blocks_of (types_of c.args.table.now) c.args.scope.now in
    let whole = expression_of c.args.expression.now in
    let is = binary_value globals blocks whole _ _ _ (binary_is _ _ _ _ c.in-Binary.is) in
    let left = expression_of c.in-Binary.left.value in
    let right = expression_of c.in-Binary.right.value in
    compared_none c.in-Binary.operator _ (worth_of globals blocks whole) _ (worth_of globals blocks left) _ (worth_of globals blocks right) _ (value globals blocks whole) c.comparison.result is
    c.worth-in-Binary.ensures.worth (rw (← c.deref.ensures) c.worth-in-None.ensures.worth) (rw (← c.deref-in-None.ensures) c.worth-in-None-2.ensures.worth) c.in-None.ensures.none c.comparison.ensures.none
