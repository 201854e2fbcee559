-- Instructions that are appended for a part of a plan, whatever comes after it.
use Rattle.std.specs.Int.{w64, int_wrap}
use Rattle.std.specs.Prelude.{◌≡◌, ◌+◌, ◌-◌, ℕ, true, false, List, [], ◌∷◌, ◌++◌, length, slice_set, take, IfSome, Option, Some, None}
use Rattle.syntax.specs.declared.node.UnaryOperator.{UnaryOperator}
use Rattle.syntax.specs.declared.node.UnaryOperator.TheVariants as signs
use Rattle.syntax.specs.declared.node.BinaryOperator.{BinaryOperator}
use Rattle.syntax.specs.declared.node.BinaryOperator.TheVariants as symbols
use Rattle.syntax.specs.Tree.{Expressions, TypeExpression}
use Rattle.word.specs.declared.apply.Op.TheVariants as ops
use Rattle.bytecode.specs.declared.instr.Instr.{Instr}
use Rattle.bytecode.specs.declared.instr.Instr.TheVariants as instrs
use Rattle.type_table.specs.Types.{ValueType}
use Rattle.typing_rules.specs.Worths.{Worth, Typed, Constant, Nil, element_of}
use Rattle.typing_rules.specs.Expressions.{default_type}
use Rattle.type_table.specs.Scopes.{Globals, Scope, nothing_declared, type_in}
use Rattle.meaning.specs.Values.{known, field_slot, whole}
use Rattle.codegen_base.specs.declared.element.Element.{Element}
use Rattle.codegen_base.specs.Elements.{element_of as element_for, found_at, kinds_of, shape_of}
use Rattle.codegen_base.specs.Pushes.{compared, elements_shape, emits_all, literal_plan, literal_types, operator_of, pushes_zeros, words_of}
use Rattle.plan.specs.Plan.{Plan, flat}

-- what comes after the old instructions is a part of a plan: with the instructions of any plan after them, they are
-- those of the part with that plan
abbrev pub Puts : List Instr → List Instr → (Plan → Plan) → Type 0
Puts old new part = (leave again : ℕ) (rest : Plan) → new ++ flat leave again (length new) rest ≡ old ++ flat leave again (length old) (part rest)

-- ---- the instructions of operands and operators

-- the operator before an operand; a plus is none
abbrev pub signing : UnaryOperator → Option Instr
signing signs.Plus = None
signing signs.Negate = Some (instrs.Apply ops.Neg)
signing signs.Not = Some (instrs.Apply ops.Not)
signing signs.Complement = Some (instrs.Apply ops.Com)

-- one or none
abbrev pub listed : Option Instr → List Instr
listed None = []
listed (Some i) = i ∷ []

-- a constant that is used as a value of a type, and `nil` of one, are pushed instead of the operand's own instructions,
-- which begin at `first`
abbrev pub settling : List Element → Option Worth → ValueType → ℕ → List Instr → List Instr
settling elements (Some (Constant value)) kind first code = take first code ++ instrs.Int (int_wrap w64 value) ∷ []
settling elements (Some Nil) kind first code = take first code ++ instrs.Nil (elements_shape elements kind) ∷ []
settling elements (Some (Typed typed)) kind first code = code
settling elements None kind first code = code

-- the type of an operand
abbrev pub kind_in : Option Worth → ValueType
kind_in worth = known (default_type worth)

-- after the right operand of `&&` comes `false`, to which the instruction `test` leads
abbrev pub or_false : ℕ → List Instr → List Instr
or_false test code = slice_set code test (instrs.Unless (length code + 1)) ++ instrs.Jump (length code + 2) ∷ instrs.Bool false ∷ []

-- after the left operand of `||`, at `start`: `true` if it is, and a jump that is aimed later
abbrev pub true_or : ℕ → List Instr
true_or start = instrs.Unless (start + 3) ∷ instrs.Bool true ∷ instrs.Jump 0 ∷ []

-- what comes between the operands: the last one of these instructions is aimed later
abbrev pub opening : BinaryOperator → ℕ → List Instr
opening symbols.LogicalAnd start = instrs.Unless 0 ∷ []
opening symbols.LogicalOr start = true_or start
opening operator start = []

abbrev pub opened : BinaryOperator → List Instr → List Instr
opened operator code = code ++ opening operator (length code)

-- a left operand, whose own instructions begin at `first`: a constant is pushed at once, and `nil` after the right one
abbrev pub led : BinaryOperator → Option Worth → ℕ → List Instr → List Instr
led operator (Some (Constant value)) first code = opened operator (take first code ++ instrs.Int (int_wrap w64 value) ∷ [])
led operator (Some Nil) first code = take first code
led operator (Some (Typed kind)) first code = opened operator code
led operator None first code = opened operator code

-- what an operator does between values of this type, the second of which begins at `second`
abbrev pub closing : BinaryOperator → ValueType → ℕ → List Instr → List Instr
closing symbols.LogicalAnd kind second code = or_false (second - 1) code
closing symbols.LogicalOr kind second code = slice_set code (second - 1) (instrs.Jump (length code))
closing operator kind second code = code ++ instrs.Apply (operator_of operator kind) ∷ []

-- an operator after both operands, whose instructions begin at `first` and `second`. Two constants are compared
abbrev pub operated : List Element → BinaryOperator → Option Worth → Option Worth → ℕ → ℕ → List Instr → List Instr
operated elements operator (Some (Constant a)) (Some (Constant b)) first second code = take first code ++ compared operator a b ∷ []
operated elements operator (Some Nil) right first second code =
    code ++ instrs.Nil (elements_shape elements (kind_in right)) ∷ instrs.Apply (operator_of operator (kind_in right)) ∷ []
operated elements operator left right first second code = closing operator (kind_in left) second (settling elements right (kind_in left) second code)

-- a field is kept of a value of this type
abbrev pub picking : Globals → List Element → ValueType → List ℕ → Instr
picking globals elements kind field =
    let part = field_slot globals.structs (whole kind) field in
    instrs.Pick (words_of globals elements nothing_declared kind) part.from (words_of globals elements nothing_declared part.kind)

-- the fields of a literal of this type
abbrev pub literal_part : Globals → List Element → Scope → ValueType → Expressions → Plan → Plan
literal_part globals elements scope kind values rest =
    literal_plan values (pushes_zeros (kinds_of globals.structs elements kind) rest) (emits_all globals elements scope (literal_types globals elements scope kind) values rest)

-- ---- channels

-- an item is received from a channel
abbrev pub receiving : List Element → Option Worth → Instr
receiving elements channel = instrs.Receive (shape_of elements (known (element_of channel)))

-- an index, if it is known, is that of the element of an operand's type
abbrev pub IsPlaced : List Element → Option Worth → Option ℕ → Type 0
IsPlaced elements operand place = IfSome place (λ n. found_at elements (element_for elements (kind_in operand)) ≡ Some n)

-- a channel of this type is made
abbrev pub making : Globals → List Element → Scope → TypeExpression → Instr
making globals elements scope kind = instrs.Make (elements_shape elements (known (type_in globals.types scope kind)))
