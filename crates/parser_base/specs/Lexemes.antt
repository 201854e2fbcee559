-- What the grammar sees of the tokens of a text.
use Rattle.std.specs.Prelude.{ℕ, ◌+◌, ◌*◌, ◌-◌, ◌^◌, Bool, true, false, ◌&&◌, ◌||◌, ◌==◌, nat_le, if◌then◌else◌, Option, Some, None, List, [], ◌∷◌, drop, map, slice_range}
use Rattle.std.specs.Int.{is_in_range}
use Rattle.go_text.specs.declared.place.Span.{Span}
use Rattle.scanner.specs.declared.kind.TokenKind.{TokenKind}
use Rattle.scanner.specs.declared.kind.TokenKind.TheVariants as kinds
use Rattle.scanner.specs.declared.token.Token.{Token}

pub data Lexeme : Type 0 where
  -- a number's value, or None if that is over 2^100
  Literal : (value : Option ℕ) → Lexeme
  Name : (bytes : List ℕ) → Lexeme
  -- the bytes that a string stands for
  Text : (bytes : List ℕ) → Lexeme
  Mark : (kind : TokenKind) → Lexeme

-- the value of a digit: 0 to 9, and a to f or A to F for 10 to 15
abbrev pub digit_of : ℕ → ℕ
digit_of b = if is_in_range 48 57 b then b - 48 else (if is_in_range 97 102 b then b - 87 else (if is_in_range 65 70 b then b - 55 else 0))

-- the number whose digits in this base are those of one number, and then these
abbrev pub number_after : (base : ℕ) → ℕ → List ℕ → ℕ
number_after base number [] = number
number_after base number (digit ∷ rest) = number_after base (number * base + digit_of digit) rest

-- the text begins with the 0x or 0X of a hexadecimal number
abbrev pub is_hexadecimal : List ℕ → Bool
is_hexadecimal (zero' ∷ x ∷ digits) = (zero' == 48) && ((x == 120) || (x == 88))
is_hexadecimal digits = false

-- the value of a number as it is written
abbrev pub integer_value : List ℕ → ℕ
integer_value text = if is_hexadecimal text then number_after 16 0 (drop 2 text) else number_after 10 0 text

-- its value, or None if that is over 2^100
abbrev pub literal : List ℕ → Option ℕ
literal text = if nat_le (integer_value text) (2 ^ 100) then Some (integer_value text) else None

-- the byte that a letter after a backslash stands for
abbrev pub escape : ℕ → ℕ
escape letter = if letter == 110 then 10 else (if letter == 116 then 9 else letter)

-- the bytes that a string stands for, up to its quote; `escaped` if a backslash is before it
abbrev pub text_after : (escaped : Bool) → List ℕ → List ℕ
text_after escaped [] = []
text_after true (byte ∷ rest) = escape byte ∷ text_after false rest
text_after false (byte ∷ rest) =
    if byte == 34 then [] else (if byte == 92 then text_after true rest else byte ∷ text_after false rest)

-- the bytes that a string in quotes stands for
abbrev pub text : List ℕ → List ℕ
text [] = []
text (quote ∷ rest) = text_after false rest

-- the bytes of a text at a span
abbrev pub piece : List ℕ → Span → List ℕ
piece source span = slice_range source span.from span.to

abbrev pub lexeme_at : TokenKind → List ℕ → Lexeme
lexeme_at kinds.Integer bytes = Literal (literal bytes)
lexeme_at kinds.Name bytes = Name bytes
lexeme_at kinds.String bytes = Text (text bytes)
lexeme_at kind bytes = Mark kind

abbrev pub lexeme : List ℕ → Token → Lexeme
lexeme source token = lexeme_at token.kind (piece source token.span)

abbrev pub lexemes : List ℕ → List Token → List Lexeme
lexemes source tokens = map (lexeme source) tokens
