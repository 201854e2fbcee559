-- The values of constants, and of comparisons of two.
use Rattle.std.proofs.Common.{◌≡◌, ℕ, List, ◌∷◌, [], Option, Some, None, IfSome, IfNone, refl, ◌∙◌}
use Rattle.syntax.specs.declared.node.UnaryOperator.{UnaryOperator}
use Rattle.syntax.specs.declared.node.BinaryOperator.{BinaryOperator}
use Rattle.syntax.specs.Tree.{Expression, Integer, Named, Unary, Binary}
use Rattle.type_table.specs.Scopes.{Globals}
use Rattle.typing_rules.specs.Worths.{Worth}
use Rattle.word.specs.declared.value.Word.{Word}
use Rattle.meaning.specs.Expressions.{compared, exactly, value, worth_of}
use Rattle.meaning.specs.Values.{Value}
use Rattle.meaning.specs.Variables.{Blocks, lookup, value_of}
use Rattle.meaning.specs.Worked.{Worked, ready}
use Rattle.reference_value.specs.Values.{by_parts}

-- an expression with a constant value gives the constant's word
pub exactly_some : (w v : Option Worth) (other all : Worked Value) (made : Option Word) → all ≡ exactly v other → w ≡ v
    → IfSome made (λ word. (o : Worked Value) → exactly w o ≡ ready (word ∷ [])) → IfSome made (λ word. all ≡ ready (word ∷ []))
exactly_some w v other all None is same given = tt
exactly_some w v other all (Some word) is same given = is ∙ (rw same at given other)

pub exactly_none : (w v : Option Worth) (other all : Worked Value) (made : Option Word) → all ≡ exactly v other → w ≡ v
    → IfNone made ((o : Worked Value) → exactly w o ≡ o) → IfNone made (all ≡ other)
exactly_none w v other all None is same given = is ∙ (rw same at given other)
exactly_none w v other all (Some word) is same given = tt

-- an operator between two operands, whose result is no constant, is a comparison, or the operator's own value
pub compared_some : (operator : BinaryOperator) (w v a l b r : Option Worth) (other all : Worked Value) (made : Option Word) → all ≡ exactly v (compared operator l r other) → w ≡ v → a ≡ l → b ≡ r
    → ((o : Worked Value) → exactly w o ≡ o)
    → IfSome made (λ word. (o : Worked Value) → compared operator a b o ≡ ready (word ∷ [])) → IfSome made (λ word. all ≡ ready (word ∷ []))
compared_some operator w v a l b r other all None is same left right none given = tt
compared_some operator w v a l b r other all (Some word) is same left right none given =
    is ∙ (rw same at none (compared operator l r other)) ∙ (rw (left, right) at given other)

pub compared_none : (operator : BinaryOperator) (w v a l b r : Option Worth) (other all : Worked Value) (made : Option Word) → all ≡ exactly v (compared operator l r other) → w ≡ v → a ≡ l → b ≡ r
    → ((o : Worked Value) → exactly w o ≡ o)
    → IfNone made ((o : Worked Value) → compared operator a b o ≡ o) → IfNone made (all ≡ other)
compared_none operator w v a l b r other all None is same left right none given =
    is ∙ (rw same at none (compared operator l r other)) ∙ (rw (left, right) at given other)
compared_none operator w v a l b r other all (Some word) is same left right none given = tt

-- a number, and an operator before and between operands, by what the typing rules make of them
pub integer_value : (globals : Globals) (blocks : Blocks) (e : Expression) (number : Option ℕ) → e ≡ Integer number → value globals blocks e ≡ exactly (worth_of globals blocks e) (by_parts globals blocks e)
integer_value globals blocks e number is = rw is

pub unary_value : (globals : Globals) (blocks : Blocks) (e operand : Expression) (operator : UnaryOperator) → e ≡ Unary operator operand
    → value globals blocks e ≡ exactly (worth_of globals blocks e) (by_parts globals blocks e)
unary_value globals blocks e operand operator is = rw is

pub binary_value : (globals : Globals) (blocks : Blocks) (e left right : Expression) (operator : BinaryOperator) → e ≡ Binary operator left right
    → value globals blocks e ≡ exactly (worth_of globals blocks e) (compared operator (worth_of globals blocks left) (worth_of globals blocks right) (by_parts globals blocks e))
binary_value globals blocks e left right operator is = rw is

-- a variable's name
pub named_value : (globals : Globals) (blocks : Blocks) (e : Expression) (name : List ℕ) (words : Value) → e ≡ Named name → value globals blocks e ≡ by_parts globals blocks e
    → words ≡ value_of (lookup blocks name) → value globals blocks e ≡ ready words
named_value globals blocks e name words is parts held = parts ∙ rw (is, held) refl
