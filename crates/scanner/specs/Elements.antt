-- What is at the front of a text: white space, a comment, a token, or a fault.
use Rattle.std.specs.Prelude.{ℕ, ◌+◌, Bool, false, ◌&&◌, ◌||◌, not, ◌==◌, List, [], ◌∷◌, length, take, drop, slice_index, Option, Some, None, Result, Ok, Err, if◌then◌else◌}
use Rattle.std.specs.Str.{byte}
use Rattle.std.specs.List.{list_any}
use Rattle.go_text.specs.declared.fault.Fault.{Fault}
use Rattle.go_text.specs.declared.fault.Fault.TheVariants as faults
use Rattle.go_text.specs.declared.place.Place.{Place}
use Rattle.scanner.specs.declared.kind.TokenKind.{TokenKind}
use Rattle.scanner.specs.declared.kind.TokenKind.TheVariants as kinds
use Rattle.scanner.specs.declared.element.Element.{Element}
use Rattle.scanner.specs.declared.element.Element.TheVariants.{Blank, LineEnd, Token}
use Rattle.scanner.specs.Letters.{front_bytes, begins_letter_or_digit}
use Rattle.scanner.specs.Lexical.{is_space, longest}

-- its bytes
abbrev pub length_of : Element → ℕ
length_of (Blank len) = len
length_of (LineEnd len) = len
length_of (Token len kind) = len

-- the location of a fault, before it has line and column
abbrev pub place_between : (from to : ℕ) → Place
place_between from to = record { span = record { from = from; to = to }; position = None }

-- the location of one byte
abbrev pub byte_place : ℕ → Place
byte_place at = place_between at (at + 1)

-- a newline
abbrev pub is_newline : ℕ → Bool
is_newline b = b == 10

-- The text begins with a character that is allowed nowhere, not even in a comment or a string: NUL, or a byte-order mark,
-- which is these three bytes.
abbrev pub is_forbidden : List ℕ → Bool
is_forbidden (a ∷ b ∷ c ∷ rest) = (a == 0) || ((a == 0xEF) && ((b == 0xBB) && (c == 0xBF)))
is_forbidden (a ∷ rest) = a == 0
is_forbidden [] = false

-- the text begins with */
abbrev pub is_close : List ℕ → Bool
is_close (a ∷ b ∷ rest) = (a == byte "*") && (b == byte "/")
is_close rest = false

-- n more bytes, if a length was found
abbrev pub longer : ℕ → Result ℕ Fault → Result ℕ Fault
longer n (Ok len) = Ok (n + len)
longer n (Err fault) = Err fault

-- The bytes of a line comment up to its line's end, which may be the text's end, or the fault of the comment that
-- opened at offset `opened`.
unfoldable pub line_comment_rest : (opened : ℕ) → List ℕ → Result ℕ Fault
line_comment_rest opened [] = Ok 0
line_comment_rest opened (b ∷ rest) =
    if is_forbidden (b ∷ rest) then Err (faults.BadCharacter (byte_place opened))
    else (if is_newline b then Ok 0 else longer 1 (line_comment_rest opened rest))

-- The bytes of a general comment up to and with its */, or the fault that is met first in reading the comment that
-- opened at offset `opened`.
unfoldable pub general_comment_rest : (opened : ℕ) → List ℕ → Result ℕ Fault
general_comment_rest opened [] = Err (faults.OpenComment (byte_place opened))
general_comment_rest opened (b ∷ rest) =
    if is_forbidden (b ∷ rest) then Err (faults.BadCharacter (byte_place opened))
    else (if is_close (b ∷ rest) then Ok 2 else longer 1 (general_comment_rest opened rest))

-- what follows the backslash of an escape: n t \ "
abbrev pub is_escape : ℕ → Bool
is_escape b = (b == byte "n") || ((b == byte "t") || ((b == byte "\\") || (b == byte "\"")))

-- Of a byte in a string: it ends the line, or can't follow a backslash in an escape; it is the closing quote; it is the
-- backslash of an escape. `escaped` says that the byte before is such a backslash.
abbrev pub is_broken : (escaped : Bool) → ℕ → Bool
is_broken escaped b = is_newline b || (escaped && not (is_escape b))

abbrev pub is_closing : (escaped : Bool) → ℕ → Bool
is_closing escaped b = (b == byte "\"") && not escaped

abbrev pub is_escaping : (escaped : Bool) → ℕ → Bool
is_escaping escaped b = (b == byte "\\") && not escaped

-- The bytes of a string up to and with its closing quote, or the fault that is met first in reading the string that
-- opened at offset `opened`.
unfoldable pub string_rest : (opened : ℕ) → (escaped : Bool) → List ℕ → Result ℕ Fault
string_rest opened escaped [] = Err (faults.OpenString (byte_place opened))
string_rest opened escaped (b ∷ rest) =
    if is_forbidden (b ∷ rest) then Err (faults.BadCharacter (byte_place opened))
    else (if is_broken escaped b then Err (faults.OpenString (byte_place opened))
    else (if is_closing escaped b then Ok 1
    else longer 1 (string_rest opened (is_escaping escaped b) rest)))

-- a line comment after its // acts like a newline
abbrev pub line_comment : Result ℕ Fault → Result Element Fault
line_comment (Ok len) = Ok (LineEnd (2 + len))
line_comment (Err fault) = Err fault

-- a general comment after its /* acts like a newline if it contains one, else like a space
abbrev pub general_comment : List ℕ → Result ℕ Fault → Result Element Fault
general_comment text (Ok len) = Ok (if list_any is_newline (take len text) then LineEnd (2 + len) else Blank (2 + len))
general_comment text (Err fault) = Err fault

-- a string after its opening quote
abbrev pub string_literal : Result ℕ Fault → Result Element Fault
string_literal (Ok len) = Ok (Token (1 + len) kinds.String)
string_literal (Err fault) = Err fault

-- a number is followed directly by a letter, a digit or a point
abbrev pub goes_on : TokenKind → List ℕ → Bool
goes_on kinds.Integer (b ∷ rest) = (b == byte ".") || begins_letter_or_digit (b ∷ rest)
goes_on kind rest = false

abbrev pub judged : ℕ → List ℕ → Option (ℕ × TokenKind) → Result Element Fault
judged place text None = Err (faults.BadCharacter (place_between place (place + length (front_bytes text))))
judged place text (Some found) =
    if goes_on found.1 (drop found.0 text) then Err (faults.BadNumber (place_between place (place + found.0))) else Ok (Token found.0 found.1)

-- the longest token at the front of a text that begins at this offset
abbrev pub token_at : ℕ → List ℕ → Result Element Fault
token_at place text = judged place text (longest text)

-- the first byte is this one, and so is the second
abbrev pub opens : (first second : ℕ) → ℕ → List ℕ → Bool
opens first second a rest = (a == first) && (slice_index rest 0 == second)

-- the element at the front of a text, whose byte `first` lies at offset `place`
abbrev pub element_at : (place first : ℕ) → (rest : List ℕ) → Result Element Fault
element_at place a rest =
    if is_newline a then Ok (LineEnd 1)
    else (if is_space a then Ok (Blank 1)
    else (if opens (byte "/") (byte "/") a rest then line_comment (line_comment_rest place (drop 1 rest))
    else (if opens (byte "/") (byte "*") a rest then general_comment (drop 1 rest) (general_comment_rest place (drop 1 rest))
    else (if a == byte "\"" then string_literal (string_rest place false rest)
    else token_at place (a ∷ rest)))))
