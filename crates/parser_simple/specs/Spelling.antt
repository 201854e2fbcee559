-- The one list of lexemes that spells a simple statement.
--
-- Each of the words below takes what follows: `name_words name rest` is the name, and then `rest`.
use Rattle.std.specs.Prelude.{◌≡◌, ℕ, ◌≤◌, Bool, true, false, List, ◌∷◌, IsTrue, codes}
use Rattle.scanner.specs.declared.kind.TokenKind.{TokenKind}
use Rattle.scanner.specs.declared.kind.TokenKind.TheVariants as kinds
use Rattle.syntax.specs.declared.node.BinaryOperator.{BinaryOperator}
use Rattle.syntax.specs.declared.node.BinaryOperator.TheVariants as binaries
use Rattle.syntax.specs.Tree.{Expression, Arguments, Place, Part, Value, Text as TextPart, Simple, CallAlone, Close, Print, ReceiveAlone, Send, Increment, Decrement, Assign, Define, Update}
use Rattle.parser_base.specs.Lexemes.{Lexeme, Name, Text, Mark}
use Rattle.parser_base.specs.Spelling.{is_builtin, following, separated, joined, closing, before, AreAll, AreSome, IsTrailing, outer_precedence, precedence, IsGrouped}

-- ---- names and lvalues

abbrev pub name_words : List ℕ → List Lexeme → List Lexeme
name_words name rest = Name name ∷ rest

-- a name that may be declared
abbrev pub IsName : List ℕ → Type 0
IsName name = is_builtin name ≡ false

-- a name, and fields each after a period
abbrev pub place_words : Place → List Lexeme → List Lexeme
place_words place rest = Name place.name ∷ separated name_words (following kinds.Period) place.fields rest

abbrev pub IsPlace : Place → Type 0
IsPlace place = IsName place.name × AreAll IsName place.fields

-- ---- values

-- the operand of a send: no operation but selections
abbrev pub IsPrimary : (literals : Bool) → Expression → Type 0
IsPrimary literals expression = IsGrouped literals expression × (outer_precedence expression ≡ 7)

-- the operand of a receive: no operation on two operands
abbrev pub IsUnary : (literals : Bool) → Expression → Type 0
IsUnary literals expression = IsGrouped literals expression × (6 ≤ outer_precedence expression)

abbrev pub arguments_words : Arguments → List Lexeme → List Lexeme
arguments_words arguments rest =
    Mark kinds.LeftParenthesis ∷ joined before (following kinds.Comma) arguments.values (closing kinds.Comma kinds.RightParenthesis arguments.trailing rest)

abbrev pub AreArguments : (literals : Bool) → Arguments → Type 0
AreArguments literals arguments = AreAll (IsGrouped literals) arguments.values × IsTrailing arguments.values arguments.trailing

-- the right side of an assignment: values with a comma between each two
abbrev pub right_words : List Expression → List Lexeme → List Lexeme
right_words values rest = joined before (following kinds.Comma) values rest

abbrev pub IsRight : (literals : Bool) → List Expression → Type 0
IsRight literals values = AreSome (IsGrouped literals) values

-- ---- simple statements

-- a built-in function of this name, with what is passed to it
abbrev pub builtin_words : List ℕ → List Lexeme → List Lexeme
builtin_words name rest = Name name ∷ Mark kinds.LeftParenthesis ∷ rest

abbrev pub part_words : Part → List Lexeme → List Lexeme
part_words (Value value) rest = before value rest
part_words (TextPart bytes) rest = Text bytes ∷ rest

abbrev pub IsPart : (literals : Bool) → Part → Type 0
IsPart literals (Value value) = IsGrouped literals value
IsPart literals (TextPart bytes) = Unit {0}

-- `println` if `line` is true, else `print`
abbrev pub print_name : (line : Bool) → List ℕ
print_name true = codes "println"
print_name false = codes "print"

-- the mark of an assignment with an operator
abbrev pub update_kind : BinaryOperator → TokenKind
update_kind binaries.Add = kinds.PlusAssign
update_kind binaries.Subtract = kinds.MinusAssign
update_kind binaries.Multiply = kinds.StarAssign
update_kind binaries.Divide = kinds.SlashAssign
update_kind binaries.Remainder = kinds.PercentAssign
update_kind binaries.And = kinds.AmpersandAssign
update_kind binaries.Or = kinds.BarAssign
update_kind binaries.ExclusiveOr = kinds.CaretAssign
update_kind binaries.AndNot = kinds.AndNotAssign
update_kind binaries.ShiftLeft = kinds.ShiftLeftAssign
update_kind binaries.ShiftRight = kinds.ShiftRightAssign
update_kind operator = kinds.Assign

abbrev pub simple_words : Simple → List Lexeme → List Lexeme
simple_words (CallAlone function arguments) rest = Name function ∷ arguments_words arguments rest
simple_words (Close channel) rest = builtin_words (codes "close") (before channel (Mark kinds.RightParenthesis ∷ rest))
simple_words (Print line parts trailing) rest =
    builtin_words (print_name line) (joined part_words (following kinds.Comma) parts (closing kinds.Comma kinds.RightParenthesis trailing rest))
simple_words (ReceiveAlone channel) rest = Mark kinds.Arrow ∷ before channel rest
simple_words (Send channel value) rest = before channel (Mark kinds.Arrow ∷ before value rest)
simple_words (Increment place) rest = place_words place (Mark kinds.Increment ∷ rest)
simple_words (Decrement place) rest = place_words place (Mark kinds.Decrement ∷ rest)
simple_words (Assign places right) rest = joined place_words (following kinds.Comma) places (Mark kinds.Assign ∷ right_words right rest)
simple_words (Define names right) rest = joined name_words (following kinds.Comma) names (Mark kinds.Define ∷ right_words right rest)
simple_words (Update place operator value) rest = place_words place (Mark (update_kind operator) ∷ before value rest)

-- Composite literals are allowed only if `literals` is true, and a `:=` only if `defining` is. The operators that assign are
-- those of arithmetic, whose precedence is 4 or 5.
abbrev pub IsSimple : (literals defining : Bool) → Simple → Type 0
IsSimple literals defining (CallAlone function arguments) = IsName function × AreArguments literals arguments
IsSimple literals defining (Close channel) = IsGrouped literals channel
IsSimple literals defining (Print line parts trailing) = AreAll (IsPart literals) parts × IsTrailing parts trailing
IsSimple literals defining (ReceiveAlone channel) = IsUnary literals channel
IsSimple literals defining (Send channel value) = IsPrimary literals channel × IsGrouped literals value
IsSimple literals defining (Increment place) = IsPlace place
IsSimple literals defining (Decrement place) = IsPlace place
IsSimple literals defining (Assign places right) = AreSome IsPlace places × IsRight literals right
IsSimple literals defining (Define names right) = IsTrue defining × AreSome IsName names × IsRight literals right
IsSimple literals defining (Update place operator value) = IsPlace place × (4 ≤ precedence operator) × IsGrouped literals value
