-- A simple statement, a right side or a list has no more nodes than lexemes.
use Rattle.std.proofs.Common.{ℕ, ◌+◌, ◌<◌, ◌≤◌, List, [], ◌∷◌, length, sum_by, arith, length-append, Bool, true, false}
use Rattle.std.proofs.lemmas.List.Sums.{sum_by-cons}
use Rattle.scanner.specs.declared.kind.TokenKind.{TokenKind}
use Rattle.scanner.specs.declared.kind.TokenKind.TheVariants as kinds
use Rattle.syntax.specs.Tree.{Expression, Arguments, Place, Part, Value, Text as TextPart, Simple, CallAlone, Close, Print, ReceiveAlone, Send, Increment, Decrement, Assign, Define, Update}
use Rattle.syntax.specs.Measures.{expression_size, arguments_size, part_size, simple_size}
use Rattle.parser_base.specs.Lexemes.{Lexeme, Mark}
use Rattle.parser_base.specs.Spelling.{following, separated, joined, closing, before, expression_words}
use Rattle.parser_base.proofs.Sizes.{expression_size-le}
use Rattle.parser_simple.specs.Spelling.{name_words, place_words, arguments_words, right_words, part_words, update_kind, simple_words}

-- ---- values and lists

pub value_size : (e : Expression) (rest : List Lexeme) → expression_size e + length rest ≤ length (before e rest)
value_size e rest = omega (arith, expression_size-le e, length-append (expression_words e) rest)

-- what is counted in a list is not more than its words
pub separated_size : {A : Type 0} (count : A → ℕ) (each : A → List Lexeme → List Lexeme) (separator : TokenKind) (xs : List A) (rest : List Lexeme) → ((x : A) (ws : List Lexeme) → count x + length ws ≤ length (each x ws))
    → sum_by count xs + length rest ≤ length (separated each (following separator) xs rest)
separated_size count each separator [] rest grows = omega arith
separated_size count each separator (x ∷ xs) rest grows =
    omega (arith, sum_by-cons count x xs, separated_size count each separator xs rest grows, grows x (separated each (following separator) xs rest))

joined_size : {A : Type 0} (count : A → ℕ) (each : A → List Lexeme → List Lexeme) (separator : TokenKind) (xs : List A) (rest : List Lexeme) → ((x : A) (ws : List Lexeme) → count x + length ws ≤ length (each x ws))
    → sum_by count xs + length rest ≤ length (joined each (following separator) xs rest)
joined_size count each separator [] rest grows = omega arith
joined_size count each separator (x ∷ xs) rest grows =
    omega (arith, sum_by-cons count x xs, separated_size count each separator xs rest grows, grows x (separated each (following separator) xs rest))

pub closing_size : (separator close : TokenKind) (trailing : Bool) (rest : List Lexeme) → length rest < length (closing separator close trailing rest)
closing_size separator close true rest = omega arith
closing_size separator close false rest = omega arith

pub arguments_grow : (all : Arguments) (rest : List Lexeme) → arguments_size all + length rest + 2 ≤ length (arguments_words all rest)
arguments_grow all rest =
    let closed = closing kinds.Comma kinds.RightParenthesis all.trailing rest in
    omega (arith, joined_size expression_size before kinds.Comma all.values closed value_size, closing_size kinds.Comma kinds.RightParenthesis all.trailing rest)

-- ---- right sides

pub right_grows : (vs : List Expression) (rest : List Lexeme) → sum_by expression_size vs + length rest ≤ length (right_words vs rest)
right_grows vs rest = joined_size expression_size before kinds.Comma vs rest value_size

-- ---- simple statements

pub names_grow : (ns : List (List ℕ)) (rest : List Lexeme) → length rest ≤ length (joined name_words (following kinds.Comma) ns rest)
names_grow ns rest = omega (arith, joined_size (λ (n : List ℕ). 0) name_words kinds.Comma ns rest (λ n ws. omega arith))

fields_grow : (fs : List (List ℕ)) (rest : List Lexeme) → length rest ≤ length (separated name_words (following kinds.Period) fs rest)
fields_grow fs rest = omega (arith, separated_size (λ (n : List ℕ). 0) name_words kinds.Period fs rest (λ n ws. omega arith))

pub place_grows : (p : Place) (rest : List Lexeme) → length rest < length (place_words p rest)
place_grows p rest = omega (arith, fields_grow p.fields rest)

more_places : (ps : List Place) (rest : List Lexeme) → length ps + length rest ≤ length (separated place_words (following kinds.Comma) ps rest)
more_places [] rest = omega arith
more_places (p ∷ ps) rest = omega (arith, more_places ps rest, place_grows p (separated place_words (following kinds.Comma) ps rest))

places_grow : (ps : List Place) (rest : List Lexeme) → length ps + length rest ≤ length (joined place_words (following kinds.Comma) ps rest)
places_grow [] rest = omega arith
places_grow (p ∷ ps) rest = omega (arith, more_places ps rest, place_grows p (separated place_words (following kinds.Comma) ps rest))

part_grows : (p : Part) (rest : List Lexeme) → part_size p + length rest ≤ length (part_words p rest)
part_grows (Value v) rest = value_size v rest
part_grows (TextPart bytes) rest = omega arith

pub simple_grows : (s : Simple) (rest : List Lexeme) → simple_size s + length rest ≤ length (simple_words s rest)
simple_grows (CallAlone f all) rest = omega (arith, arguments_grow all rest)
simple_grows (Close c) rest = omega (arith, value_size c (Mark kinds.RightParenthesis ∷ rest))
simple_grows (Print line ps trailing) rest =
    let closed = closing kinds.Comma kinds.RightParenthesis trailing rest in
    omega (arith, joined_size part_size part_words kinds.Comma ps closed part_grows, closing_size kinds.Comma kinds.RightParenthesis trailing rest)
simple_grows (ReceiveAlone c) rest = omega (arith, value_size c rest)
simple_grows (Send c v) rest = omega (arith, value_size c (Mark kinds.Arrow ∷ before v rest), value_size v rest)
simple_grows (Increment p) rest = omega (arith, place_grows p (Mark kinds.Increment ∷ rest))
simple_grows (Decrement p) rest = omega (arith, place_grows p (Mark kinds.Decrement ∷ rest))
simple_grows (Assign ps r) rest = omega (arith, places_grow ps (Mark kinds.Assign ∷ right_words r rest), right_grows r rest)
simple_grows (Define ns r) rest = omega (arith, names_grow ns (Mark kinds.Define ∷ right_words r rest), right_grows r rest)
simple_grows (Update p o v) rest = omega (arith, place_grows p (Mark (update_kind o) ∷ before v rest), value_size v rest)

pub simple_positive : (s : Simple) → 1 ≤ simple_size s
simple_positive (CallAlone f all) = omega arith
simple_positive (Close c) = omega arith
simple_positive (Print line ps trailing) = omega arith
simple_positive (ReceiveAlone c) = omega arith
simple_positive (Send c v) = omega arith
simple_positive (Increment p) = omega arith
simple_positive (Decrement p) = omega arith
simple_positive (Assign ps r) = omega arith
simple_positive (Define ns r) = omega arith
simple_positive (Update p o v) = omega arith
