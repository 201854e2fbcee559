-- The instructions that push the values of expressions.
use Rattle.std.specs.Int.{w64, int_wrap}
use Rattle.std.specs.Prelude.{ℕ, zero, suc, ℤ, pos, true, false, List, [], ◌∷◌, map, length, Option, Some, None, Ok, if◌then◌else◌, bytes_eq, codes}
use Rattle.syntax.specs.declared.node.UnaryOperator.{UnaryOperator}
use Rattle.syntax.specs.declared.node.UnaryOperator.TheVariants as signs
use Rattle.syntax.specs.declared.node.BinaryOperator.{BinaryOperator}
use Rattle.syntax.specs.declared.node.BinaryOperator.TheVariants as symbols
use Rattle.syntax.specs.Tree.{TypeExpression, Expression, Integer, Named, Parenthesized, Selection, Composite, Unary, Binary, Call, Receive, Make, MakeSized, Length, Capacity, Expressions, NoMore, Following, expressions}
use Rattle.word.specs.declared.apply.Op.{Op}
use Rattle.word.specs.declared.apply.Op.TheVariants as ops
use Rattle.word.specs.declared.value.Word.TheVariants.{Int, Bool as Truth}
use Rattle.word.specs.Apply.{Valued, value as applied}
use Rattle.bytecode.specs.declared.instr.Instr.{Instr}
use Rattle.bytecode.specs.declared.instr.Instr.TheVariants as instrs
use Rattle.bytecode.specs.declared.instr.WordKind.{WordKind}
use Rattle.bytecode.specs.declared.instr.WordKind.TheVariants as kinds
use Rattle.type_table.specs.Types.{ValueType, IntType, BoolType, StructType, ChannelType, element_type}
use Rattle.type_table.specs.Containment.{Field, fields_of}
use Rattle.type_table.specs.Scopes.{Scope, Globals, Variable, is_truth, variable_named, type_in}
use Rattle.typing_rules.specs.Calls.{parameters_of}
use Rattle.typing_rules.specs.Worths.{Worth, Typed, Constant, Nil, worth}
use Rattle.meaning.specs.Values.{known, whole, field_slot}
use Rattle.meaning.specs.Expressions.{operator_at, number_of}
use Rattle.codegen_base.specs.declared.element.Element.{Element}
use Rattle.codegen_base.specs.Elements.{shape_of, kinds_of}
use Rattle.codegen_base.specs.Layouts.{type_of, carried}
use Rattle.plan.specs.Plan.{Plan, Skip, Do, Seq, IfElse}

-- ---- operators

-- the operator between two values of this type
abbrev pub operator_of : BinaryOperator → ValueType → Op
operator_of symbols.Equal (ChannelType direction element) = ops.EqChan
operator_of symbols.Equal BoolType = ops.EqBool
operator_of symbols.NotEqual (ChannelType direction element) = ops.NeChan
operator_of symbols.NotEqual BoolType = ops.NeBool
operator_of operator kind = operator_at operator (Int (pos 0))

-- nothing is done for a plus
abbrev pub signed : UnaryOperator → Plan → Plan
signed signs.Plus rest = rest
signed signs.Negate rest = Do (instrs.Apply ops.Neg) rest
signed signs.Not rest = Do (instrs.Apply ops.Not) rest
signed signs.Complement rest = Do (instrs.Apply ops.Com) rest

-- ---- words

abbrev pub zero_instr : WordKind → Instr
zero_instr kinds.Int = instrs.Int (pos 0)
zero_instr kinds.Bool = instrs.Bool false
zero_instr (kinds.Chan shape) = instrs.Nil shape

abbrev pub pushes_zeros : List WordKind → Plan → Plan
pushes_zeros [] rest = rest
pushes_zeros (kind ∷ others) rest = Do (zero_instr kind) (pushes_zeros others rest)

-- words that nobody needs are dropped
abbrev pub drops : ℕ → Plan → Plan
drops zero rest = rest
drops (suc count) rest = Do (instrs.Discard (suc count)) rest

-- the truth of a comparison; `false` for what is no truth, which is never used
abbrev pub valued : Valued → Instr
valued (Some (Ok (Truth b))) = instrs.Bool b
valued other = instrs.Bool false

-- two constants are compared here and now
abbrev pub compared : BinaryOperator → ℤ → ℤ → Instr
compared operator a b = valued (applied (operator_at operator (Int a)) (Int a) (Int b))

-- ---- expressions

-- the type that stands next to an operand: that of the other one
abbrev pub elements_shape : List Element → ValueType → ℕ
elements_shape elements kind = shape_of elements (known (element_type kind))

-- a constant, and `nil` of a type, are pushed as they are
abbrev pub settled : List Element → Option Worth → ValueType → Plan → Plan → Plan
settled elements (Some (Constant value)) kind emitted rest = Do (instrs.Int (int_wrap w64 value)) rest
settled elements (Some Nil) kind emitted rest = Do (instrs.Nil (elements_shape elements kind)) rest
settled elements (Some (Typed typed)) kind emitted rest = emitted
settled elements None kind emitted rest = emitted

-- l and r push the operands
abbrev pub between : BinaryOperator → ValueType → (Plan → Plan) → (Plan → Plan) → Plan → Plan
between symbols.LogicalAnd kind l r rest = l (Seq (IfElse (r Skip) (Do (instrs.Bool false) Skip)) rest)
between symbols.LogicalOr kind l r rest = l (Seq (IfElse (Do (instrs.Bool true) Skip) (r Skip)) rest)
between operator kind l r rest = l (r (Do (instrs.Apply (operator_of operator kind)) rest))

-- `nil` to the left of a channel is pushed after it; two constants are compared
abbrev pub operates : List Element → BinaryOperator → Option Worth → Option Worth → ValueType → ValueType → (Plan → Plan) → (Plan → Plan) → Plan → Plan
operates elements operator (Some (Constant a)) (Some (Constant b)) s t l r rest = Do (compared operator a b) rest
operates elements operator (Some Nil) right s t l r rest =
    r (Do (instrs.Nil (elements_shape elements t)) (Do (instrs.Apply (operator_of operator t)) rest))
operates elements operator left right s t l r rest =
    between operator s (λ k. settled elements left t (l k) k) (λ k. settled elements right s (r k) k) rest

abbrev pub kinds_in : List Field → List ValueType
kinds_in [] = []
kinds_in (field ∷ rest) = known field.kind ∷ kinds_in rest

-- a literal without values is the zero value
abbrev pub literal_plan : Expressions → Plan → Plan → Plan
literal_plan NoMore zeros fields = zeros
literal_plan (Following first others) zeros fields = fields

module _ (globals : Globals) (elements : List Element) (scope : Scope) where
  abbrev pub words_of : ValueType → ℕ
  words_of kind = length (kinds_of globals.structs elements kind)

  abbrev pub loads : Option Variable → Instr
  loads None = instrs.Load 0 0
  loads (Some variable) = instrs.Load variable.place (words_of (known variable.kind))

  abbrev pub named : List ℕ → Instr
  named name = if is_truth name then instrs.Bool (bytes_eq name (codes "true")) else loads (variable_named scope name)

  -- the field of this name is kept of a value of this type
  abbrev pub selects : ValueType → List ℕ → Plan → Plan
  selects kind field rest =
      let part = field_slot globals.structs (whole kind) field in Do (instrs.Pick (words_of kind) part.from (words_of part.kind)) rest

  abbrev pub literal_types : ValueType → List ValueType
  literal_types (StructType number) = kinds_in (fields_of globals.structs number)
  literal_types kind = []

  abbrev pub argument_types : ℕ → List ValueType
  argument_types function = map known (parameters_of globals function)

  abbrev pub receives : Expression → Plan → Plan
  receives channel rest = Do (instrs.Receive (shape_of elements (carried globals elements scope channel))) rest

  abbrev pub makes : TypeExpression → Plan → Plan
  makes kind rest = Do (instrs.Make (elements_shape elements (known (type_in globals.types scope kind)))) rest

  abbrev mutual
    -- what is neither a constant nor `nil` is pushed
    pub emits : Expression → Plan → Plan
    emits (Integer number) rest = rest
    emits (Named name) rest = Do (named name) rest
    emits (Parenthesized inner) rest = emits inner rest
    emits (Selection of field) rest = emits of (selects (type_of globals elements scope of) field rest)
    emits (Composite name values trailing) rest =
        let kind = type_of globals elements scope (Composite name values trailing) in
        literal_plan values (pushes_zeros (kinds_of globals.structs elements kind) rest) (emits_all (literal_types kind) values rest)
    emits (Unary operator operand) rest = emits operand (signed operator rest)
    emits (Binary operator left right) rest =
        operates elements operator (worth globals scope left) (worth globals scope right) (type_of globals elements scope left) (type_of globals elements scope right) (emits left) (emits right) rest
    emits (Call function values trailing) rest =
        let number = number_of globals function in emits_all (argument_types number) values (Do (instrs.Call number) rest)
    -- whether an item was sent is dropped
    emits (Receive channel) rest = emits channel (receives channel (Do (instrs.Discard 1) rest))
    emits (Make kind) rest = Do (instrs.Int (pos 0)) (makes kind rest)
    emits (MakeSized kind size) rest = settled elements (worth globals scope size) IntType (emits size (makes kind rest)) (makes kind rest)
    emits (Length channel) rest = emits channel (Do instrs.Len rest)
    emits (Capacity channel) rest = emits channel (Do instrs.Cap rest)

    -- one value after the other, each as one of its type: arguments, and the fields of a literal
    pub emits_all : List ValueType → Expressions → Plan → Plan
    emits_all types NoMore rest = rest
    emits_all [] (Following first others) rest = rest
    emits_all (kind ∷ types) (Following first others) rest =
        let following = emits_all types others rest in settled elements (worth globals scope first) kind (emits first following) following

  -- a value is pushed as one of a type
  abbrev pub pushes : ValueType → Expression → Plan → Plan
  pushes kind expression rest = settled elements (worth globals scope expression) kind (emits expression rest) rest

  -- one that has a type of its own
  abbrev pub pushes_own : Expression → Plan → Plan
  pushes_own expression rest = pushes (type_of globals elements scope expression) expression rest

  abbrev pub pushes_all : List ValueType → List Expression → Plan → Plan
  pushes_all types all rest = emits_all types (expressions all) rest
