-- The one list of lexemes that spells a type or an expression.
use Rattle.std.specs.Prelude.{◌≡◌, ℕ, ◌<◌, ◌≤◌, Bool, true, false, ◌||◌, List, [], ◌∷◌, ◌++◌, IsTrue, bytes_eq, codes}
use Rattle.scanner.specs.declared.kind.TokenKind.{TokenKind}
use Rattle.scanner.specs.declared.kind.TokenKind.TheVariants as kinds
use Rattle.syntax.specs.declared.node.BinaryOperator.{BinaryOperator}
use Rattle.syntax.specs.declared.node.BinaryOperator.TheVariants as binaries
use Rattle.syntax.specs.declared.node.UnaryOperator.{UnaryOperator}
use Rattle.syntax.specs.declared.node.UnaryOperator.TheVariants as unaries
use Rattle.syntax.specs.declared.node.Direction.{Direction}
use Rattle.syntax.specs.declared.node.Direction.TheVariants as directions
use Rattle.syntax.specs.Tree.{TypeExpression, NamedType, ParenthesizedType, Channel, Expression, Integer, Named, Parenthesized, Selection, Composite, Unary, Binary, Call, Receive, Make, MakeSized, Length, Capacity, Expressions, NoMore, Following}
use Rattle.parser_base.specs.Lexemes.{Lexeme, Literal, Name, Mark}

-- ---- names

-- the names of built-in functions whose calls are expressions
abbrev pub makes_value : List ℕ → Bool
makes_value name = bytes_eq name (codes "make") || bytes_eq name (codes "len") || bytes_eq name (codes "cap")

-- the names that occur only in calls of their own
abbrev pub is_builtin : List ℕ → Bool
is_builtin name = makes_value name || bytes_eq name (codes "close") || bytes_eq name (codes "print") || bytes_eq name (codes "println")

-- ---- lists

-- a mark, and then these
abbrev pub following : TokenKind → List Lexeme → List Lexeme
following kind rest = Mark kind ∷ rest

-- each of a list after a separator, and then these; `each x` and `separator` say what is before what follows
abbrev pub separated : {A : Type 0} → (A → List Lexeme → List Lexeme) → (List Lexeme → List Lexeme) → List A → List Lexeme → List Lexeme
separated each separator [] rest = rest
separated each separator (first ∷ others) rest = separator (each first (separated each separator others rest))

-- like `separated`, with a separator only between each two
abbrev pub joined : {A : Type 0} → (A → List Lexeme → List Lexeme) → (List Lexeme → List Lexeme) → List A → List Lexeme → List Lexeme
joined each separator [] rest = rest
joined each separator (first ∷ others) rest = each first (separated each separator others rest)

-- what holds of all
abbrev pub AreAll : {A : Type 0} → (A → Type 0) → List A → Type 0
AreAll P [] = Unit {0}
AreAll P (first ∷ rest) = P first × AreAll P rest

-- at least one, and what holds of all
abbrev pub AreSome : {A : Type 0} → (A → Type 0) → List A → Type 0
AreSome P [] = ⊥
AreSome P (first ∷ rest) = P first × AreAll P rest

-- what closes a list, whose last entry a separator may follow, and then these
abbrev pub closing : (separator close : TokenKind) → (trailing : Bool) → List Lexeme → List Lexeme
closing separator close true rest = Mark separator ∷ Mark close ∷ rest
closing separator close false rest = Mark close ∷ rest

-- A separator follows only an entry.
abbrev pub IsTrailing : {A : Type 0} → List A → (trailing : Bool) → Type 0
IsTrailing [] trailing = trailing ≡ false
IsTrailing (first ∷ rest) trailing = Unit {0}

-- ---- types

-- what a channel type begins with
abbrev pub direction_words : Direction → List Lexeme → List Lexeme
direction_words directions.Both rest = Mark kinds.Chan ∷ rest
direction_words directions.Send rest = Mark kinds.Chan ∷ Mark kinds.Arrow ∷ rest
direction_words directions.Receive rest = Mark kinds.Arrow ∷ Mark kinds.Chan ∷ rest

abbrev pub type_words : TypeExpression → List Lexeme
type_words (NamedType name) = Name name ∷ []
type_words (ParenthesizedType inner) = Mark kinds.LeftParenthesis ∷ (type_words inner ++ (Mark kinds.RightParenthesis ∷ []))
type_words (Channel direction element) = direction_words direction (type_words element)

-- whether the type is a channel to receive from alone
abbrev pub is_receiver : TypeExpression → Bool
is_receiver (Channel directions.Receive element) = true
is_receiver kind = false

-- `chan` `<-` always begins a channel to send on, so that what follows `chan` alone doesn't begin with `<-`
abbrev pub IsElement : Direction → TypeExpression → Type 0
IsElement directions.Both element = is_receiver element ≡ false
IsElement direction element = Unit {0}

abbrev pub IsType : TypeExpression → Type 0
IsType (NamedType name) = is_builtin name ≡ false
IsType (ParenthesizedType inner) = IsType inner
IsType (Channel direction element) = IsType element × IsElement direction element

-- ---- expressions

abbrev pub unary_kind : UnaryOperator → TokenKind
unary_kind unaries.Plus = kinds.Plus
unary_kind unaries.Negate = kinds.Minus
unary_kind unaries.Not = kinds.Not
unary_kind unaries.Complement = kinds.Caret

abbrev pub binary_kind : BinaryOperator → TokenKind
binary_kind binaries.Add = kinds.Plus
binary_kind binaries.Subtract = kinds.Minus
binary_kind binaries.Multiply = kinds.Star
binary_kind binaries.Divide = kinds.Slash
binary_kind binaries.Remainder = kinds.Percent
binary_kind binaries.And = kinds.Ampersand
binary_kind binaries.Or = kinds.Bar
binary_kind binaries.ExclusiveOr = kinds.Caret
binary_kind binaries.AndNot = kinds.AndNot
binary_kind binaries.ShiftLeft = kinds.ShiftLeft
binary_kind binaries.ShiftRight = kinds.ShiftRight
binary_kind binaries.Equal = kinds.Equal
binary_kind binaries.NotEqual = kinds.NotEqual
binary_kind binaries.Less = kinds.Less
binary_kind binaries.LessEqual = kinds.LessEqual
binary_kind binaries.Greater = kinds.Greater
binary_kind binaries.GreaterEqual = kinds.GreaterEqual
binary_kind binaries.LogicalAnd = kinds.LogicalAnd
binary_kind binaries.LogicalOr = kinds.LogicalOr

-- how strongly a binary operator binds, from 1 to 5
abbrev pub precedence : BinaryOperator → ℕ
precedence binaries.Add = 4
precedence binaries.Subtract = 4
precedence binaries.Or = 4
precedence binaries.ExclusiveOr = 4
precedence binaries.Equal = 3
precedence binaries.NotEqual = 3
precedence binaries.Less = 3
precedence binaries.LessEqual = 3
precedence binaries.Greater = 3
precedence binaries.GreaterEqual = 3
precedence binaries.LogicalAnd = 2
precedence binaries.LogicalOr = 1
precedence operator = 5

-- how strongly the outermost operator binds: 1 to 5 a binary one, 6 a unary one or the arrow of a receive; 7 if there is
-- none, or a selection
abbrev pub outer_precedence : Expression → ℕ
outer_precedence (Unary operator operand) = 6
outer_precedence (Receive channel) = 6
outer_precedence (Binary operator left right) = precedence operator
outer_precedence expression = 7

-- a built-in function of this name, with what is passed to it
abbrev pub builtin_value_words : List ℕ → List Lexeme → List Lexeme
builtin_value_words name passed = Name name ∷ Mark kinds.LeftParenthesis ∷ (passed ++ (Mark kinds.RightParenthesis ∷ []))

abbrev mutual
  pub expression_words : Expression → List Lexeme
  expression_words (Integer value) = Literal value ∷ []
  expression_words (Named name) = Name name ∷ []
  expression_words (Parenthesized inner) = Mark kinds.LeftParenthesis ∷ (expression_words inner ++ (Mark kinds.RightParenthesis ∷ []))
  expression_words (Selection whole field) = expression_words whole ++ (Mark kinds.Period ∷ Name field ∷ [])
  expression_words (Composite name values trailing) =
      Name name ∷ Mark kinds.LeftBrace ∷ (expressions_words values ++ closing kinds.Comma kinds.RightBrace trailing [])
  expression_words (Unary operator operand) = Mark (unary_kind operator) ∷ expression_words operand
  expression_words (Binary operator left right) = expression_words left ++ (Mark (binary_kind operator) ∷ expression_words right)
  expression_words (Call function values trailing) =
      Name function ∷ Mark kinds.LeftParenthesis ∷ (expressions_words values ++ closing kinds.Comma kinds.RightParenthesis trailing [])
  expression_words (Receive channel) = Mark kinds.Arrow ∷ expression_words channel
  expression_words (Make channel) = builtin_value_words (codes "make") (type_words channel)
  expression_words (MakeSized channel size) = builtin_value_words (codes "make") (type_words channel ++ (Mark kinds.Comma ∷ expression_words size))
  expression_words (Length channel) = builtin_value_words (codes "len") (expression_words channel)
  expression_words (Capacity channel) = builtin_value_words (codes "cap") (expression_words channel)

  -- expressions, with a comma between each two
  pub expressions_words : Expressions → List Lexeme
  expressions_words NoMore = []
  expressions_words (Following first rest) = expression_words first ++ more_words rest

  -- each of these after a comma
  pub more_words : Expressions → List Lexeme
  more_words NoMore = []
  more_words (Following first rest) = Mark kinds.Comma ∷ (expression_words first ++ more_words rest)

-- A comma follows only a value of a literal or a call.
abbrev pub HasLast : Expressions → (trailing : Bool) → Type 0
HasLast NoMore trailing = trailing ≡ false
HasLast (Following first rest) trailing = Unit {0}

-- an expression, and then these
abbrev pub before : Expression → List Lexeme → List Lexeme
before expression rest = expression_words expression ++ rest

-- Operators of equal precedence associate to the left, and weaker operands are in parentheses. Composite literals
-- occur only if `literals` holds: not in the header of an if or a for.
abbrev mutual
  pub IsGrouped : (literals : Bool) → Expression → Type 0
  IsGrouped literals (Integer value) = Unit {0}
  IsGrouped literals (Named name) = is_builtin name ≡ false
  IsGrouped literals (Parenthesized inner) = IsGrouped literals inner
  IsGrouped literals (Selection whole field) = IsGrouped literals whole × (outer_precedence whole ≡ 7) × (is_builtin field ≡ false)
  IsGrouped literals (Composite name values trailing) = IsTrue literals × (is_builtin name ≡ false) × AreGrouped literals values × HasLast values trailing
  IsGrouped literals (Unary operator operand) = IsGrouped literals operand × (6 ≤ outer_precedence operand)
  IsGrouped literals (Binary operator left right) =
      IsGrouped literals left × IsGrouped literals right × (precedence operator ≤ outer_precedence left) × (precedence operator < outer_precedence right)
  IsGrouped literals (Call function values trailing) = (is_builtin function ≡ false) × AreGrouped literals values × HasLast values trailing
  IsGrouped literals (Receive channel) = IsGrouped literals channel × (6 ≤ outer_precedence channel)
  IsGrouped literals (Make channel) = IsType channel
  IsGrouped literals (MakeSized channel size) = IsType channel × IsGrouped literals size
  IsGrouped literals (Length channel) = IsGrouped literals channel
  IsGrouped literals (Capacity channel) = IsGrouped literals channel

  pub AreGrouped : (literals : Bool) → Expressions → Type 0
  AreGrouped literals NoMore = Unit {0}
  AreGrouped literals (Following first rest) = IsGrouped literals first × AreGrouped literals rest
