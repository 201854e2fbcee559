-- What the code of operands and operators pushes, by the types or constant values of the operands.
use Rattle.std.specs.Int.{w64, int_wrap}
use Rattle.std.proofs.Common.{◌≡◌, ℕ, ℤ, ◌+◌, ◌<◌, ◌≤◌, Bool, true, false, ◌||◌, List, [], ◌∷◌, ◌++◌, length, map, Option, Some, Ok, refl, sym, ap, ◌∙◌, subst, slice_get, slice_range, ◌⊎◌, inl, inr, ⊎_elim}
use Rattle.std.specs.Prelude.{if◌then◌else◌}
use Rattle.std.proofs.lemmas.Bool.{or_cases}
use Rattle.std.proofs.lemmas.Option.{slice_get_within}
use Rattle.syntax.specs.declared.node.Direction.{Direction}
use Rattle.syntax.specs.declared.node.UnaryOperator.{UnaryOperator}
use Rattle.syntax.specs.declared.node.UnaryOperator.TheVariants as signs
use Rattle.syntax.specs.declared.node.BinaryOperator.{BinaryOperator}
use Rattle.syntax.specs.declared.node.BinaryOperator.TheVariants as symbols
use Rattle.bytecode.specs.declared.instr.WordKind.{WordKind}
use Rattle.bytecode.specs.declared.instr.Instr.TheVariants as instrs
use Rattle.bytecode.specs.Code.{Function as CodeFunction, Code}
use Rattle.bytecode.specs.Rules.{AreThere}
use Rattle.word.specs.declared.apply.Op.TheVariants as ops
use Rattle.type_table.specs.Types.{ValueType, IntType, BoolType, StructType, ChannelType, assignable}
use Rattle.type_table.specs.Containment.{Field, Structs, fields_of}
use Rattle.type_table.specs.Scopes.{Globals, Scope, Variable, Yields, variable_named, function_number}
use Rattle.typing_rules.specs.Calls.{parameters_of, result_of}
use Rattle.bytecode.specs.Effects.{params_in, results_in}
use Rattle.codegen_base.specs.Generated.{result_kinds}
use Rattle.typing_rules.specs.Worths.{Worth, Typed as TypedWorth, Constant, Nil, is_equality, is_order, is_logical, is_not, made_type, if_good, are_comparable, unary_worth, binary_worth}
use Rattle.typing_rules.specs.Expressions.{default_type}
use Rattle.meaning.specs.Values.{known}
use Rattle.codegen_base.specs.declared.element.Element.{Element}
use Rattle.codegen_base.specs.Elements.{kinds_of, shape_of, shapes_of}
use Rattle.codegen_base.specs.Pushes.{operator_of, elements_shape, valued, compared, settled, signed, between, operates}
use Rattle.codegen_base.proofs.Fields.{AllWide, AllTyped}
use Rattle.codegen_base.proofs.Noted.{Noted, shape_there}
use Rattle.codegen_base.proofs.Known.{FieldsNoted, ResultsNoted}
use Rattle.codegen_base.proofs.Typing.{TypesKnown, VariablesKnown, Fits}
use Rattle.codegen_base.proofs.Called.{KindsKnown}
use Rattle.codegen_base.proofs.Splits.{plain_plan, equality_plain, constants_compare, made_logical, channel_is, unary_typed, Operands, Ints, Bools, Channels, Truths, typed_operands, left_operand, right_operand, nil_right, nil_left, two_constants}
use Rattle.plan.specs.Plan.{Plan, Do}
use Rattle.plan.proofs.Typed.{Typed}
use Rattle.codegen_fine.proofs.WordKinds.{carried_same, assignable_kinds}
use Rattle.codegen_fine.proofs.Pushing.{Operates, int_operates, bool_operates, channel_operates, Pushes, puts_int, puts_bool, puts_nil, puts_operator, puts_and, puts_or, puts_unary}

-- ---- types of operands

equality_made : (operator : BinaryOperator) → is_equality operator ≡ true → made_type operator ≡ BoolType
equality_made operator e = ap (λ q. if q || is_order operator || is_logical operator then BoolType else IntType) e

good_is : (good : Bool) (kind k : ValueType) → if_good good kind ≡ Ok (TypedWorth k) → good ≡ true
good_is true kind k e = refl
good_is false kind k e = absurd cc

-- channels that are compared carry the same
carried_compared : (operator : BinaryOperator) (d g : Direction) (s t k : ValueType) → is_equality operator ≡ true → binary_worth operator (TypedWorth (ChannelType d s)) (TypedWorth (ChannelType g t)) ≡ Ok (TypedWorth k) → s ≡ t
carried_compared operator d g s t k eq made = go (is_equality operator) eq (good_is _ (made_type operator) k made) where
  two : are_comparable (ChannelType d s) (ChannelType g t) ≡ true → s ≡ t
  two e = ⊎_elim (carried_same d g s t) (λ h. sym (carried_same g d t s h)) (or_cases (assignable (ChannelType d s) (ChannelType g t)) (assignable (ChannelType g t) (ChannelType d s)) e)

  go : (q : Bool) → q ≡ true → (if q then are_comparable (ChannelType d s) (ChannelType g t) else (if is_logical operator then false else false)) ≡ true → s ≡ t
  go true e h = two h
  go false e h = absurd cc

-- the kinds of values of these types, one after the other
abbrev pub all_kinds : Structs → List Element → List ValueType → List WordKind
all_kinds structs elements [] = []
all_kinds structs elements (kind ∷ types) = kinds_of structs elements kind ++ all_kinds structs elements types

abbrev pub AllNoted : List Element → List ValueType → Type 0
AllNoted elements [] = Unit {0}
AllNoted elements (kind ∷ types) = Noted elements kind × AllNoted elements types

-- what is so of the functions of a program: the code's are there, with the kinds of their parameters and results, which are noted
pub record Functions (globals : Globals) (elements : List Element) (code : Code) : Type 0 where
  pub there : (name : List ℕ) (n : ℕ) → function_number globals.functions name ≡ Some n → n < length code.functions
  pub params : (n : ℕ) → params_in (slice_get code.functions n) ≡ all_kinds globals.structs elements (map known (parameters_of globals n))
  pub results : (n : ℕ) → results_in (slice_get code.functions n) ≡ result_kinds globals elements (result_of globals n)
  pub noted : (n : ℕ) → AllNoted elements (map known (parameters_of globals n))
  pub known_kinds : (n : ℕ) → KindsKnown (parameters_of globals n)
  pub result_known : (n : ℕ) (kind : Option ValueType) → result_of globals n ≡ Yields kind → kind ≡ Some (known kind)
  pub result_noted : (n : ℕ) (kind : Option ValueType) → result_of globals n ≡ Yields kind → Noted elements (known kind)

-- what is so of a program: its structs' words are known, and the elements of its channels are noted
pub record Grounds (globals : Globals) (elements : List Element) (code : Code) : Type 0 where
  pub wide : AllWide globals.structs
  pub typed : (n : ℕ) → AllTyped globals.structs (fields_of globals.structs n)
  pub types_known : TypesKnown globals
  pub fields_noted : FieldsNoted elements globals
  pub results_noted : ResultsNoted elements globals
  pub literals_noted : (n : ℕ) (m : ℕ) (field : Field) → slice_get (fields_of globals.structs n) m ≡ Some field → Noted elements (known field.kind)
  pub shapes : code.shapes ≡ shapes_of globals.structs elements
  pub structs_there : (n : ℕ) → AreThere code (kinds_of globals.structs elements (StructType n))
  pub functions : Functions globals elements code

-- each variable that is visible has a type, of whose kinds its locals are, and whose elements are noted
pub record Housed (globals : Globals) (elements : List Element) (f : CodeFunction) (scope : Scope) : Type 0 where
  pub known : VariablesKnown scope
  pub within : (name : List ℕ) (v : Variable) (t : ValueType) → variable_named scope name ≡ Some v → v.kind ≡ Some t → v.place + length (kinds_of globals.structs elements t) ≤ length f.locals
  pub kinds_are : (name : List ℕ) (v : Variable) (t : ValueType) → variable_named scope name ≡ Some v → v.kind ≡ Some t → slice_range f.locals v.place (v.place + length (kinds_of globals.structs elements t)) ≡ kinds_of globals.structs elements t
  pub noted : (name : List ℕ) (v : Variable) (t : ValueType) → variable_named scope name ≡ Some v → v.kind ≡ Some t → Noted elements t

module _ (globals : Globals) (elements : List Element) (code : Code) (f : CodeFunction) (grounds : Grounds globals elements code) where
  abbrev pub P : ValueType → (Plan → Plan) → Type 0
  P kind push = Pushes globals.structs elements code f kind push

  -- the shape of what a noted channel carries is there
  pub shape_within : (d : Direction) (c : ValueType) → Noted elements (ChannelType d c) → shape_of elements c < length code.shapes
  shape_within d c noted =
      subst (λ (l : List (List WordKind)). shape_of elements c < length l) (sym grounds.shapes) (slice_get_within (shapes_of globals.structs elements) (shape_of elements c) (kinds_of globals.structs elements c) (shape_there globals.structs elements c noted.1))

  nil_pushed : (t : ValueType) (d : Direction) (c : ValueType) → t ≡ ChannelType d c → Noted elements t → P t (λ rest. Do (instrs.Nil (elements_shape elements t)) rest)
  nil_pushed t d c is noted =
      subst (λ j. P j (λ rest. Do (instrs.Nil (elements_shape elements j)) rest)) (sym is) (puts_nil globals.structs elements code f (shape_of elements c) (shape_within d c (subst (Noted elements) is noted)))

  -- ---- operators

  two_pushed : (operator : BinaryOperator) (kind i j k : ValueType) (left right : Plan → Plan) → is_logical operator ≡ false → Operates globals.structs elements (operator_of operator kind) i j k → P i left → P j right → P k (between operator kind left right)
  two_pushed operator kind i j k left right calm o p q a ks out rest t =
      subst (λ plan. Typed code f a ks plan out) (sym (plain_plan operator calm kind left right rest)) (puts_operator globals.structs elements code f (operator_of operator kind) i j k left right o p q a ks out rest t)

  truths : (operator : BinaryOperator) (left right : Plan → Plan) → is_logical operator ≡ true → P BoolType left → P BoolType right → P BoolType (between operator BoolType left right)
  truths symbols.LogicalAnd left right e p q = puts_and globals.structs elements code f left right p q
  truths symbols.LogicalOr left right e p q = puts_or globals.structs elements code f left right p q
  truths symbols.Add left right e p q = absurd cc
  truths symbols.Subtract left right e p q = absurd cc
  truths symbols.Multiply left right e p q = absurd cc
  truths symbols.Divide left right e p q = absurd cc
  truths symbols.Remainder left right e p q = absurd cc
  truths symbols.And left right e p q = absurd cc
  truths symbols.Or left right e p q = absurd cc
  truths symbols.ExclusiveOr left right e p q = absurd cc
  truths symbols.AndNot left right e p q = absurd cc
  truths symbols.ShiftLeft left right e p q = absurd cc
  truths symbols.ShiftRight left right e p q = absurd cc
  truths symbols.Equal left right e p q = absurd cc
  truths symbols.NotEqual left right e p q = absurd cc
  truths symbols.Less left right e p q = absurd cc
  truths symbols.LessEqual left right e p q = absurd cc
  truths symbols.Greater left right e p q = absurd cc
  truths symbols.GreaterEqual left right e p q = absurd cc

  -- operands that have types
  pub typed_pushed : (operator : BinaryOperator) (s t k : ValueType) (left right : Plan → Plan) → binary_worth operator (TypedWorth s) (TypedWorth t) ≡ Ok (TypedWorth k) → P s left → P t right → P k (between operator s left right)
  typed_pushed operator s t k left right made = go s t k (typed_operands operator s t k made) made where
    go : (s t k : ValueType) → Operands operator s t k → binary_worth operator (TypedWorth s) (TypedWorth t) ≡ Ok (TypedWorth k) → P s left → P t right → P k (between operator s left right)
    go _ _ _ (Ints calm) made p q = two_pushed operator IntType IntType IntType (made_type operator) left right calm (int_operates globals.structs elements operator calm) p q
    go _ _ _ (Bools eq) made p q = two_pushed operator BoolType BoolType BoolType (made_type operator) left right (equality_plain operator eq) (bool_operates globals.structs elements operator eq) p q
    go _ _ _ (Channels d g x y eq) made p q =
        two_pushed operator (ChannelType d x) (ChannelType d x) (ChannelType g y) (made_type operator) left right (equality_plain operator eq) (channel_operates globals.structs elements operator d g x y (carried_compared operator d g x y (made_type operator) eq made) eq) p q
    go _ _ _ (Truths lo) made p q = subst (λ j. P j (between operator BoolType left right)) (sym (made_logical operator lo)) (truths operator left right lo p q)

  -- an operator between two channels of one type
  channels_operate : (operator : BinaryOperator) (t k : ValueType) (d : Direction) (c : ValueType) → t ≡ ChannelType d c → is_equality operator ≡ true → k ≡ BoolType → Operates globals.structs elements (operator_of operator t) t t k
  channels_operate operator t k d c is eq bool =
      subst (λ j. Operates globals.structs elements (operator_of operator t) t t j) (equality_made operator eq ∙ sym bool)
      (subst (λ j. Operates globals.structs elements (operator_of operator j) j j (made_type operator)) (sym is) (channel_operates globals.structs elements operator d d c c refl eq))

  pub unary_pushed : (operator : UnaryOperator) (t k : ValueType) (push : Plan → Plan) → unary_worth operator (TypedWorth t) ≡ Ok (TypedWorth k) → P t push → P k (λ rest. push (signed operator rest))
  unary_pushed operator t k push made p = go operator (unary_typed operator t k made) where
    go : (operator : UnaryOperator) → (((is_not operator ≡ true) × (t ≡ BoolType) × (k ≡ BoolType)) ⊎ ((is_not operator ≡ false) × (t ≡ IntType) × (k ≡ IntType))) → P k (λ rest. push (signed operator rest))
    go signs.Not (inl (e, it, ik)) = subst (λ j. P j (λ rest. push (Do (instrs.Apply ops.Not) rest))) (sym ik) (puts_unary globals.structs elements code f ops.Not BoolType BoolType push refl refl refl (subst (λ j. P j push) it p))
    go signs.Not (inr (e, it, ik)) = absurd cc
    go signs.Plus (inl (e, it, ik)) = absurd cc
    go signs.Plus (inr (e, it, ik)) = subst (λ j. P j push) (it ∙ sym ik) p
    go signs.Negate (inl (e, it, ik)) = absurd cc
    go signs.Negate (inr (e, it, ik)) = subst (λ j. P j (λ rest. push (Do (instrs.Apply ops.Neg) rest))) (sym ik) (puts_unary globals.structs elements code f ops.Neg IntType IntType push refl refl refl (subst (λ j. P j push) it p))
    go signs.Complement (inl (e, it, ik)) = absurd cc
    go signs.Complement (inr (e, it, ik)) = subst (λ j. P j (λ rest. push (Do (instrs.Apply ops.Com) rest))) (sym ik) (puts_unary globals.structs elements code f ops.Com IntType IntType push refl refl refl (subst (λ j. P j push) it p))

  -- ---- operands

  -- if an operand has a type of its own, its code pushes a value of it, whose elements are noted
  abbrev pub IsEmitted : (Plan → Plan) → Worth → Type 0
  IsEmitted push w = (t : ValueType) → w ≡ TypedWorth t → Noted elements t × P t push

  pub settled_pushed : (push : Plan → Plan) (w : Worth) (k : ValueType) → Fits w k → Noted elements k → IsEmitted push w → P k (λ rest. settled elements (Some w) k (push rest) rest)
  settled_pushed push (TypedWorth t) k fits noted emitted a ks out rest ty =
      (emitted t refl).1 a ks out rest (subst (λ (l : List WordKind). Typed code f a (ks ++ l) rest out) (sym (assignable_kinds globals.structs elements t k fits)) ty)
  settled_pushed push (Constant z) k fits noted emitted a ks out rest ty =
      puts_int globals.structs elements code f (int_wrap w64 z) a ks out rest (subst (λ j. Typed code f a (ks ++ kinds_of globals.structs elements j) rest out) fits.0 ty)
  settled_pushed push Nil k fits noted emitted a ks out rest ty = let (d, c, is) = channel_is k fits in nil_pushed k d c is noted a ks out rest ty

  -- the type of an operand with this type or constant value
  abbrev pub type_worth : Worth → ValueType
  type_worth w = known (default_type (Some w))

  -- two constants are compared while the code is made
  constants_pushed : (operator : BinaryOperator) (x y : ℤ) (k : ValueType) → binary_worth operator (Constant x) (Constant y) ≡ Ok (TypedWorth k) → P k (λ rest. Do (compared operator x y) rest)
  constants_pushed operator x y k made a ks out rest t =
      let (compares, bool) = two_constants operator x y k made in
      let (truth, is) = constants_compare operator compares x y in
      subst (λ o. Typed code f a ks (Do (valued o) rest) out) (sym is)
      (puts_bool globals.structs elements code f truth a ks out rest (subst (λ j. Typed code f a (ks ++ kinds_of globals.structs elements j) rest out) bool t))

  -- an operator between operands of these worths
  pub operates_pushed : (operator : BinaryOperator) (a b : Worth) (k : ValueType) (left right : Plan → Plan) → binary_worth operator a b ≡ Ok (TypedWorth k) → IsEmitted left a → IsEmitted right b
      → P k (operates elements operator (Some a) (Some b) (type_worth a) (type_worth b) left right)
  operates_pushed operator (Constant a) (Constant b) k left right made el er = constants_pushed operator a b k made
  operates_pushed operator (Constant a) (TypedWorth t) k left right made el er =
      let w = left_operand operator a t k made in
      subst (λ j. P j (between operator IntType (λ rest. Do (instrs.Int (int_wrap w64 a)) rest) right)) w.gives
      (two_pushed operator IntType IntType IntType (made_type operator) (λ rest. Do (instrs.Int (int_wrap w64 a)) rest) right w.plain (int_operates globals.structs elements operator w.plain)
      (puts_int globals.structs elements code f (int_wrap w64 a)) (subst (λ j. P j right) w.int (er t refl).1))
  operates_pushed operator (Constant a) Nil k left right made el er = absurd cc
  operates_pushed operator (TypedWorth s) (Constant b) k left right made el er =
      let w = right_operand operator s b k made in
      subst (λ j. P k (between operator j left (λ rest. Do (instrs.Int (int_wrap w64 b)) rest))) (sym w.int)
      (subst (λ j. P j (between operator IntType left (λ rest. Do (instrs.Int (int_wrap w64 b)) rest))) w.gives
      (two_pushed operator IntType IntType IntType (made_type operator) left (λ rest. Do (instrs.Int (int_wrap w64 b)) rest) w.plain (int_operates globals.structs elements operator w.plain)
      (subst (λ j. P j left) w.int (el s refl).1) (puts_int globals.structs elements code f (int_wrap w64 b))))
  operates_pushed operator (TypedWorth s) (TypedWorth t) k left right made el er = typed_pushed operator s t k left right made (el s refl).1 (er t refl).1
  operates_pushed operator (TypedWorth s) Nil k left right made el er =
      let n = nil_right operator s k made in
      two_pushed operator s s s k left (λ rest. Do (instrs.Nil (elements_shape elements s)) rest) (equality_plain operator n.compares) (channels_operate operator s k n.direction n.carried n.channel n.compares n.gives) (el s refl).1
      (nil_pushed s n.direction n.carried n.channel (el s refl).0)
  operates_pushed operator Nil (Constant b) k left right made el er = absurd cc
  operates_pushed operator Nil (TypedWorth t) k left right made el er =
      let n = nil_left operator t k made in
      puts_operator globals.structs elements code f (operator_of operator t) t t k right (λ rest. Do (instrs.Nil (elements_shape elements t)) rest) (channels_operate operator t k n.direction n.carried n.channel n.compares n.gives) (er t refl).1
      (nil_pushed t n.direction n.carried n.channel (er t refl).0)
  operates_pushed operator Nil Nil k left right made el er = absurd cc
