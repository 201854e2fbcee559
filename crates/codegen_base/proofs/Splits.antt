-- Operators by their kinds: those that compare, those of truth values, and all others.
use Rattle.std.proofs.Common.{◌≡◌, ℤ, Bool, true, false, ◌&&◌, ◌||◌, not, Option, Some, None, Result, Ok, Err, refl, ap, sym, subst, ◌⊎◌, inl, inr}
use Rattle.std.specs.Prelude.{if◌then◌else◌}
use Rattle.syntax.specs.declared.node.UnaryOperator.{UnaryOperator}
use Rattle.syntax.specs.declared.node.BinaryOperator.{BinaryOperator}
use Rattle.syntax.specs.declared.node.BinaryOperator.TheVariants as symbols
use Rattle.syntax.specs.declared.node.Direction.{Direction}
use Rattle.bytecode.specs.declared.instr.Instr.TheVariants as instrs
use Rattle.word.specs.declared.value.Word.{Word}
use Rattle.word.specs.declared.value.Word.TheVariants.{Int, Bool as Truth}
use Rattle.word.specs.Apply.{value as applied}
use Rattle.type_table.specs.Types.{ValueType, IntType, BoolType, StructType, ChannelType, is_int_type, is_bool_type, is_channel_type}
use Rattle.typing_rules.specs.declared.violation.Misuse.{Misuse}
use Rattle.typing_rules.specs.declared.violation.Misuse.TheVariants as misuses
use Rattle.typing_rules.specs.Worths.{Worth, Typed, Constant, Nil, bounded, is_int, is_not, is_equality, is_order, is_logical, is_far, is_wrong_right, made_type, exact_binary, exact_unary, sized, if_good, are_comparable, fit_operator, beside_nil, unary_worth, binary_worth}
use Rattle.meaning.specs.Values.{Value}
use Rattle.meaning.specs.Expressions.{word_in, operator_at, between, beside}
use Rattle.meaning.specs.Worked.{Worked, and_then}
use Rattle.codegen_base.specs.Pushes.{operator_of, between as between_plan}
use Rattle.plan.specs.Plan.{Plan, Do}

-- ---- which of the right operands are always evaluated

pub plain_beside : (operator : BinaryOperator) → is_logical operator ≡ false → (a : Word) (o : Worked Value) → beside operator a o ≡ and_then o (λ b. between operator a (word_in b))
plain_beside symbols.Add e a o = refl
plain_beside symbols.Subtract e a o = refl
plain_beside symbols.Multiply e a o = refl
plain_beside symbols.Divide e a o = refl
plain_beside symbols.Remainder e a o = refl
plain_beside symbols.And e a o = refl
plain_beside symbols.Or e a o = refl
plain_beside symbols.ExclusiveOr e a o = refl
plain_beside symbols.AndNot e a o = refl
plain_beside symbols.ShiftLeft e a o = refl
plain_beside symbols.ShiftRight e a o = refl
plain_beside symbols.Equal e a o = refl
plain_beside symbols.NotEqual e a o = refl
plain_beside symbols.Less e a o = refl
plain_beside symbols.LessEqual e a o = refl
plain_beside symbols.Greater e a o = refl
plain_beside symbols.GreaterEqual e a o = refl
plain_beside symbols.LogicalAnd e a o = absurd cc
plain_beside symbols.LogicalOr e a o = absurd cc

pub plain_plan : (operator : BinaryOperator) → is_logical operator ≡ false → (kind : ValueType) (l r : Plan → Plan) (rest : Plan) → between_plan operator kind l r rest ≡ l (r (Do (instrs.Apply (operator_of operator kind)) rest))
plain_plan symbols.Add e kind l r rest = refl
plain_plan symbols.Subtract e kind l r rest = refl
plain_plan symbols.Multiply e kind l r rest = refl
plain_plan symbols.Divide e kind l r rest = refl
plain_plan symbols.Remainder e kind l r rest = refl
plain_plan symbols.And e kind l r rest = refl
plain_plan symbols.Or e kind l r rest = refl
plain_plan symbols.ExclusiveOr e kind l r rest = refl
plain_plan symbols.AndNot e kind l r rest = refl
plain_plan symbols.ShiftLeft e kind l r rest = refl
plain_plan symbols.ShiftRight e kind l r rest = refl
plain_plan symbols.Equal e kind l r rest = refl
plain_plan symbols.NotEqual e kind l r rest = refl
plain_plan symbols.Less e kind l r rest = refl
plain_plan symbols.LessEqual e kind l r rest = refl
plain_plan symbols.Greater e kind l r rest = refl
plain_plan symbols.GreaterEqual e kind l r rest = refl
plain_plan symbols.LogicalAnd e kind l r rest = absurd cc
plain_plan symbols.LogicalOr e kind l r rest = absurd cc

-- an operator that compares is none of truth values
pub equality_plain : (operator : BinaryOperator) → is_equality operator ≡ true → is_logical operator ≡ false
equality_plain symbols.Equal e = refl
equality_plain symbols.NotEqual e = refl
equality_plain symbols.Add e = absurd cc
equality_plain symbols.Subtract e = absurd cc
equality_plain symbols.Multiply e = absurd cc
equality_plain symbols.Divide e = absurd cc
equality_plain symbols.Remainder e = absurd cc
equality_plain symbols.And e = absurd cc
equality_plain symbols.Or e = absurd cc
equality_plain symbols.ExclusiveOr e = absurd cc
equality_plain symbols.AndNot e = absurd cc
equality_plain symbols.ShiftLeft e = absurd cc
equality_plain symbols.ShiftRight e = absurd cc
equality_plain symbols.Less e = absurd cc
equality_plain symbols.LessEqual e = absurd cc
equality_plain symbols.Greater e = absurd cc
equality_plain symbols.GreaterEqual e = absurd cc
equality_plain symbols.LogicalAnd e = absurd cc
equality_plain symbols.LogicalOr e = absurd cc

-- two constants that are compared make a truth value
pub constants_compare : (operator : BinaryOperator) → (is_equality operator || is_order operator) ≡ true → (a b : ℤ) → (t : Bool) × (applied (operator_at operator (Int a)) (Int a) (Int b) ≡ Some (Ok (Truth t)))
constants_compare symbols.Equal e a b = (_, refl)
constants_compare symbols.NotEqual e a b = (_, refl)
constants_compare symbols.Less e a b = (_, refl)
constants_compare symbols.LessEqual e a b = (_, refl)
constants_compare symbols.Greater e a b = (_, refl)
constants_compare symbols.GreaterEqual e a b = (_, refl)
constants_compare symbols.Add e a b = absurd cc
constants_compare symbols.Subtract e a b = absurd cc
constants_compare symbols.Multiply e a b = absurd cc
constants_compare symbols.Divide e a b = absurd cc
constants_compare symbols.Remainder e a b = absurd cc
constants_compare symbols.And e a b = absurd cc
constants_compare symbols.Or e a b = absurd cc
constants_compare symbols.ExclusiveOr e a b = absurd cc
constants_compare symbols.AndNot e a b = absurd cc
constants_compare symbols.ShiftLeft e a b = absurd cc
constants_compare symbols.ShiftRight e a b = absurd cc
constants_compare symbols.LogicalAnd e a b = absurd cc
constants_compare symbols.LogicalOr e a b = absurd cc

pub made_logical : (operator : BinaryOperator) → is_logical operator ≡ true → made_type operator ≡ BoolType
made_logical symbols.LogicalAnd e = refl
made_logical symbols.LogicalOr e = refl
made_logical symbols.Equal e = absurd cc
made_logical symbols.NotEqual e = absurd cc
made_logical symbols.Add e = absurd cc
made_logical symbols.Subtract e = absurd cc
made_logical symbols.Multiply e = absurd cc
made_logical symbols.Divide e = absurd cc
made_logical symbols.Remainder e = absurd cc
made_logical symbols.And e = absurd cc
made_logical symbols.Or e = absurd cc
made_logical symbols.ExclusiveOr e = absurd cc
made_logical symbols.AndNot e = absurd cc
made_logical symbols.ShiftLeft e = absurd cc
made_logical symbols.ShiftRight e = absurd cc
made_logical symbols.Less e = absurd cc
made_logical symbols.LessEqual e = absurd cc
made_logical symbols.Greater e = absurd cc
made_logical symbols.GreaterEqual e = absurd cc

-- ---- what operands are, by what is made of them

int_is : (t : ValueType) → is_int_type t ≡ true → t ≡ IntType
int_is IntType e = refl
int_is BoolType e = absurd cc
int_is (StructType n) e = absurd cc
int_is (ChannelType d t) e = absurd cc

bool_is : (t : ValueType) → is_bool_type t ≡ true → t ≡ BoolType
bool_is BoolType e = refl
bool_is IntType e = absurd cc
bool_is (StructType n) e = absurd cc
bool_is (ChannelType d t) e = absurd cc

pub channel_is : (t : ValueType) → is_channel_type t ≡ true → (d : Direction) × (e : ValueType) × (t ≡ ChannelType d e)
channel_is (ChannelType d t) e = (d, t, refl)
channel_is IntType e = absurd cc
channel_is BoolType e = absurd cc
channel_is (StructType n) e = absurd cc

good_kind : (good : Bool) (kind k : ValueType) → if_good good kind ≡ Ok (Typed k) → (good ≡ true) × (kind ≡ k)
good_kind true kind k e = (refl, inner e) where
  of : Result Worth Misuse → ValueType
  of (Ok (Typed t)) = t
  of (Ok (Constant z)) = kind
  of (Ok Nil) = kind
  of (Err misuse) = kind

  inner : if_good true kind ≡ Ok (Typed k) → kind ≡ k
  inner e = ap of e
good_kind false kind k e = absurd cc

abbrev typed_of : Result Worth Misuse → ValueType → ValueType
typed_of (Ok (Typed t)) other = t
typed_of (Ok (Constant z)) other = other
typed_of (Ok Nil) other = other
typed_of (Err misuse) other = other

-- a unary operator with a typed operand: `!` and a bool, or another one and an int
pub unary_typed : (operator : UnaryOperator) (t k : ValueType) → unary_worth operator (Typed t) ≡ Ok (Typed k) → ((is_not operator ≡ true) × (t ≡ BoolType) × (k ≡ BoolType)) ⊎ ((is_not operator ≡ false) × (t ≡ IntType) × (k ≡ IntType))
unary_typed operator t k e = go (is_not operator) e where
  go : (b : Bool) → (if b then if_good (is_bool_type t) BoolType else if_good (is_int_type t) IntType) ≡ Ok (Typed k) → ((b ≡ true) × (t ≡ BoolType) × (k ≡ BoolType)) ⊎ ((b ≡ false) × (t ≡ IntType) × (k ≡ IntType))
  go true e = let g = good_kind (is_bool_type t) BoolType k e in inl (refl, bool_is t g.0, sym g.1)
  go false e = let g = good_kind (is_int_type t) IntType k e in inr (refl, int_is t g.0, sym g.1)

-- operands of types: two ints, two bools or two channels that are compared, or two bools of `&&` or `||`
pub data Operands (operator : BinaryOperator) : ValueType → ValueType → ValueType → Type 0 where
  Ints : is_logical operator ≡ false → Operands operator IntType IntType (made_type operator)
  Bools : is_equality operator ≡ true → Operands operator BoolType BoolType (made_type operator)
  Channels : (d f : Direction) (s t : ValueType) → is_equality operator ≡ true → Operands operator (ChannelType d s) (ChannelType f t) (made_type operator)
  Truths : is_logical operator ≡ true → Operands operator BoolType BoolType (made_type operator)

comparable : (operator : BinaryOperator) (s t : ValueType) → is_equality operator ≡ true → are_comparable s t ≡ true → Operands operator s t (made_type operator)
comparable operator IntType IntType eq e = Ints (equality_plain operator eq)
comparable operator IntType BoolType eq e = absurd cc
comparable operator IntType (StructType n) eq e = absurd cc
comparable operator IntType (ChannelType f t) eq e = absurd cc
comparable operator BoolType IntType eq e = absurd cc
comparable operator BoolType BoolType eq e = Bools eq
comparable operator BoolType (StructType n) eq e = absurd cc
comparable operator BoolType (ChannelType f t) eq e = absurd cc
comparable operator (StructType m) IntType eq e = absurd cc
comparable operator (StructType m) BoolType eq e = absurd cc
comparable operator (StructType m) (StructType n) eq e = absurd cc
comparable operator (StructType m) (ChannelType f t) eq e = absurd cc
comparable operator (ChannelType d s) IntType eq e = absurd cc
comparable operator (ChannelType d s) BoolType eq e = absurd cc
comparable operator (ChannelType d s) (StructType n) eq e = absurd cc
comparable operator (ChannelType d s) (ChannelType f t) eq e = Channels d f s t eq

two_bools : (operator : BinaryOperator) (s t : ValueType) → is_logical operator ≡ true → (is_bool_type s && is_bool_type t) ≡ true → Operands operator s t (made_type operator)
two_bools operator IntType IntType lo e = absurd cc
two_bools operator IntType BoolType lo e = absurd cc
two_bools operator IntType (StructType n) lo e = absurd cc
two_bools operator IntType (ChannelType f t) lo e = absurd cc
two_bools operator BoolType IntType lo e = absurd cc
two_bools operator BoolType BoolType lo e = Truths lo
two_bools operator BoolType (StructType n) lo e = absurd cc
two_bools operator BoolType (ChannelType f t) lo e = absurd cc
two_bools operator (StructType m) IntType lo e = absurd cc
two_bools operator (StructType m) BoolType lo e = absurd cc
two_bools operator (StructType m) (StructType n) lo e = absurd cc
two_bools operator (StructType m) (ChannelType f t) lo e = absurd cc
two_bools operator (ChannelType d s) IntType lo e = absurd cc
two_bools operator (ChannelType d s) BoolType lo e = absurd cc
two_bools operator (ChannelType d s) (StructType n) lo e = absurd cc
two_bools operator (ChannelType d s) (ChannelType f t) lo e = absurd cc

two_ints : (operator : BinaryOperator) (s t : ValueType) → is_logical operator ≡ false → (is_int_type s && is_int_type t) ≡ true → Operands operator s t (made_type operator)
two_ints operator IntType IntType lo e = Ints lo
two_ints operator IntType BoolType lo e = absurd cc
two_ints operator IntType (StructType n) lo e = absurd cc
two_ints operator IntType (ChannelType f t) lo e = absurd cc
two_ints operator BoolType IntType lo e = absurd cc
two_ints operator BoolType BoolType lo e = absurd cc
two_ints operator BoolType (StructType n) lo e = absurd cc
two_ints operator BoolType (ChannelType f t) lo e = absurd cc
two_ints operator (StructType m) IntType lo e = absurd cc
two_ints operator (StructType m) BoolType lo e = absurd cc
two_ints operator (StructType m) (StructType n) lo e = absurd cc
two_ints operator (StructType m) (ChannelType f t) lo e = absurd cc
two_ints operator (ChannelType d s) IntType lo e = absurd cc
two_ints operator (ChannelType d s) BoolType lo e = absurd cc
two_ints operator (ChannelType d s) (StructType n) lo e = absurd cc
two_ints operator (ChannelType d s) (ChannelType f t) lo e = absurd cc

-- two operands that have types
pub typed_operands : (operator : BinaryOperator) (s t k : ValueType) → binary_worth operator (Typed s) (Typed t) ≡ Ok (Typed k) → Operands operator s t k
typed_operands operator s t k e =
    let g = good_kind (fit_operator operator s t) (made_type operator) k e in
    subst (Operands operator s t) g.1 (go (is_equality operator) (is_logical operator) refl refl g.0) where
      go : (q l : Bool) → is_equality operator ≡ q → is_logical operator ≡ l → (if q then are_comparable s t else (if l then is_bool_type s && is_bool_type t else is_int_type s && is_int_type t)) ≡ true → Operands operator s t (made_type operator)
      go true l eq lo e = comparable operator s t eq e
      go false true eq lo e = two_bools operator s t lo e
      go false false eq lo e = two_ints operator s t lo e

-- an int, and a constant that is an int
pub record WithConstant (operator : BinaryOperator) (t k : ValueType) (z : ℤ) : Type 0 where
  pub plain : is_logical operator ≡ false
  pub int : t ≡ IntType
  pub gives : made_type operator ≡ k
  pub fits : is_int z ≡ true

not_either : (a b : Bool) → (a || not b) ≡ false → (a ≡ false) × (b ≡ true)
not_either false true e = (refl, refl)
not_either false false e = absurd cc
not_either true b e = absurd cc

abbrev made : ValueType → Result Worth Misuse
made kind = Ok (Typed kind)

made_is : (s k : ValueType) → made s ≡ made k → s ≡ k
made_is s k e = ap (λ o. typed_of o s) e

pub left_operand : (operator : BinaryOperator) (a : ℤ) (t k : ValueType) → binary_worth operator (Constant a) (Typed t) ≡ Ok (Typed k) → WithConstant operator t k a
left_operand operator a t k e = go (is_logical operator || not (is_int_type t)) (is_int a) refl refl e where
  go : (b i : Bool) → (is_logical operator || not (is_int_type t)) ≡ b → is_int a ≡ i → (if b then Err misuses.Operands else (if i then Ok (Typed (made_type operator)) else Err misuses.LeftConstant)) ≡ Ok (Typed k) → WithConstant operator t k a
  go true i is fi e = absurd cc
  go false false is fi e = absurd cc
  go false true is fi e = let n = not_either (is_logical operator) (is_int_type t) is in record { plain = n.0; int = int_is t n.1; gives = made_is (made_type operator) k e; fits = fi }

pub right_operand : (operator : BinaryOperator) (s : ValueType) (b : ℤ) (k : ValueType) → binary_worth operator (Typed s) (Constant b) ≡ Ok (Typed k) → WithConstant operator s k b
right_operand operator s b k e = go (is_logical operator || not (is_int_type s)) (is_int b) (is_wrong_right operator b) refl refl e where
  go : (o i w : Bool) → (is_logical operator || not (is_int_type s)) ≡ o → is_int b ≡ i → (if o then Err misuses.Operands else (if not i then Err misuses.RightConstant else (if w then Err misuses.Right else Ok (Typed (made_type operator))))) ≡ Ok (Typed k) → WithConstant operator s k b
  go true i w is fi e = absurd cc
  go false false w is fi e = absurd cc
  go false true true is fi e = absurd cc
  go false true false is fi e = let n = not_either (is_logical operator) (is_int_type s) is in record { plain = n.0; int = int_is s n.1; gives = made_is (made_type operator) k e; fits = fi }

-- `nil` and a channel as operands
pub record WithNil (operator : BinaryOperator) (t k : ValueType) : Type 0 where
  pub compares : is_equality operator ≡ true
  pub direction : Direction
  pub carried : ValueType
  pub channel : t ≡ ChannelType direction carried
  pub gives : k ≡ BoolType

beside_nil_is : (operator : BinaryOperator) (t k : ValueType) (misuse : Misuse) → beside_nil operator t misuse ≡ Ok (Typed k) → WithNil operator t k
beside_nil_is operator t k misuse e = go (is_equality operator) (is_channel_type t) refl refl e where
  go : (q c : Bool) → is_equality operator ≡ q → is_channel_type t ≡ c → (if q && c then Ok (Typed BoolType) else Err misuse) ≡ Ok (Typed k) → WithNil operator t k
  go true true eq ch e = let c = channel_is t ch in record { compares = eq; direction = c.0; carried = c.1; channel = c.2; gives = sym (made_is BoolType k e) }
  go true false eq ch e = absurd cc
  go false c eq ch e = absurd cc

pub nil_right : (operator : BinaryOperator) (s k : ValueType) → binary_worth operator (Typed s) Nil ≡ Ok (Typed k) → WithNil operator s k
nil_right operator s k e = beside_nil_is operator s k misuses.RightNil e

pub nil_left : (operator : BinaryOperator) (t k : ValueType) → binary_worth operator Nil (Typed t) ≡ Ok (Typed k) → WithNil operator t k
nil_left operator t k e = beside_nil_is operator t k misuses.LeftNil e

-- two constants are compared, or make a constant
pub two_constants : (operator : BinaryOperator) (a b : ℤ) (k : ValueType) → binary_worth operator (Constant a) (Constant b) ≡ Ok (Typed k) → ((is_equality operator || is_order operator) ≡ true) × (k ≡ BoolType)
two_constants operator a b k e = go (is_equality operator || is_order operator) (is_logical operator) (is_wrong_right operator b) (is_far operator b) (bounded (exact_binary operator a b)) e where
  go : (c l w f : Bool) (o : Option ℤ) → (if c then Ok (Typed BoolType) else (if l then Err misuses.Operands else (if w then Err misuses.Right else (if f then Err misuses.Size else sized o)))) ≡ Ok (Typed k) → (c ≡ true) × (k ≡ BoolType)
  go true l w f o e = (refl, sym (made_is BoolType k e))
  go false true w f o e = absurd cc
  go false false true f o e = absurd cc
  go false false false true o e = absurd cc
  go false false false false None e = absurd cc
  go false false false false (Some z) e = absurd cc

-- an operator makes no typed value of a constant
pub constant_untyped : (operator : UnaryOperator) (z : ℤ) (k : ValueType) → unary_worth operator (Constant z) ≡ Ok (Typed k) → ⊥
constant_untyped operator z k e = go (is_not operator) (bounded (exact_unary operator z)) e where
  go : (n : Bool) (o : Option ℤ) → (if n then Err misuses.Operands else sized o) ≡ Ok (Typed k) → ⊥
  go true o e = absurd cc
  go false None e = absurd cc
  go false (Some y) e = absurd cc
