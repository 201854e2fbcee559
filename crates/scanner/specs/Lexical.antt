-- Which bytes are a token, and the longest token at the front of a text.
use Rattle.std.specs.Prelude.{ℕ, zero, suc, Bool, true, false, ◌+◌, ◌&&◌, ◌||◌, not, ◌==◌, List, [], ◌∷◌, length, take, Option, Some, None, if◌then◌else◌, codes}
use Rattle.std.specs.Str.{byte, bytes_eq}
use Rattle.std.specs.List.{list_all, prefix_len}
use Rattle.std.specs.Char.{is_ascii_digit, is_ascii_hexdigit}
use Rattle.scanner.specs.Letters.{is_letter_byte, is_name}
use Rattle.scanner.specs.declared.kind.TokenKind.{TokenKind}
use Rattle.scanner.specs.declared.kind.TokenKind.TheVariants as kinds

abbrev pub is_digit : ℕ → Bool
is_digit b = is_ascii_digit b

-- white space that ends no line: a space, a tab or a carriage return
abbrev pub is_space : ℕ → Bool
is_space b = (b == 32) || ((b == 9) || (b == 13))

-- the keyword of a statement that the bytes are
unfoldable pub statement_keyword : List ℕ → Option TokenKind
statement_keyword text =
    if bytes_eq text (codes "break") then Some kinds.Break
    else (if bytes_eq text (codes "case") then Some kinds.Case
    else (if bytes_eq text (codes "continue") then Some kinds.Continue
    else (if bytes_eq text (codes "default") then Some kinds.Default
    else (if bytes_eq text (codes "defer") then Some kinds.Defer
    else (if bytes_eq text (codes "else") then Some kinds.Else
    else (if bytes_eq text (codes "fallthrough") then Some kinds.Fallthrough
    else (if bytes_eq text (codes "for") then Some kinds.For
    else (if bytes_eq text (codes "go") then Some kinds.Go
    else (if bytes_eq text (codes "goto") then Some kinds.Goto
    else (if bytes_eq text (codes "if") then Some kinds.If
    else (if bytes_eq text (codes "range") then Some kinds.Range
    else (if bytes_eq text (codes "return") then Some kinds.Return
    else (if bytes_eq text (codes "select") then Some kinds.Select
    else (if bytes_eq text (codes "switch") then Some kinds.Switch
    else None))))))))))))))

-- the keyword of a declaration or a type that the bytes are
unfoldable pub declaration_keyword : List ℕ → Option TokenKind
declaration_keyword text =
    if bytes_eq text (codes "chan") then Some kinds.Chan
    else (if bytes_eq text (codes "const") then Some kinds.Const
    else (if bytes_eq text (codes "func") then Some kinds.Func
    else (if bytes_eq text (codes "import") then Some kinds.Import
    else (if bytes_eq text (codes "interface") then Some kinds.Interface
    else (if bytes_eq text (codes "map") then Some kinds.Map
    else (if bytes_eq text (codes "package") then Some kinds.Package
    else (if bytes_eq text (codes "struct") then Some kinds.Struct
    else (if bytes_eq text (codes "type") then Some kinds.TypeKeyword
    else (if bytes_eq text (codes "var") then Some kinds.Var
    else None)))))))))

abbrev pub keyword_or_name : Option TokenKind → Option TokenKind → TokenKind
keyword_or_name (Some kind) declaration = kind
keyword_or_name None (Some kind) = kind
keyword_or_name None None = kinds.Name

-- a keyword, or a name
unfoldable pub word : List ℕ → TokenKind
word text = keyword_or_name (statement_keyword text) (declaration_keyword text)

-- the mark that one byte is
unfoldable pub mark_1 : ℕ → Option TokenKind
mark_1 a =
    if a == byte "+" then Some kinds.Plus
    else (if a == byte "-" then Some kinds.Minus
    else (if a == byte "*" then Some kinds.Star
    else (if a == byte "/" then Some kinds.Slash
    else (if a == byte "%" then Some kinds.Percent
    else (if a == byte "&" then Some kinds.Ampersand
    else (if a == byte "|" then Some kinds.Bar
    else (if a == byte "^" then Some kinds.Caret
    else (if a == byte "<" then Some kinds.Less
    else (if a == byte ">" then Some kinds.Greater
    else (if a == byte "=" then Some kinds.Assign
    else (if a == byte "!" then Some kinds.Not
    else (if a == byte "~" then Some kinds.Tilde
    else (if a == byte "(" then Some kinds.LeftParenthesis
    else (if a == byte ")" then Some kinds.RightParenthesis
    else (if a == byte "[" then Some kinds.LeftBracket
    else (if a == byte "]" then Some kinds.RightBracket
    else (if a == byte "{" then Some kinds.LeftBrace
    else (if a == byte "}" then Some kinds.RightBrace
    else (if a == byte "," then Some kinds.Comma
    else (if a == byte ";" then Some kinds.Semicolon
    else (if a == byte "." then Some kinds.Period
    else (if a == byte ":" then Some kinds.Colon
    else None))))))))))))))))))))))

-- the mark that two bytes are
unfoldable pub mark_2 : ℕ → ℕ → Option TokenKind
mark_2 a b =
    if (a == byte "<") && (b == byte "<") then Some kinds.ShiftLeft
    else (if (a == byte ">") && (b == byte ">") then Some kinds.ShiftRight
    else (if (a == byte "&") && (b == byte "^") then Some kinds.AndNot
    else (if (a == byte "+") && (b == byte "=") then Some kinds.PlusAssign
    else (if (a == byte "-") && (b == byte "=") then Some kinds.MinusAssign
    else (if (a == byte "*") && (b == byte "=") then Some kinds.StarAssign
    else (if (a == byte "/") && (b == byte "=") then Some kinds.SlashAssign
    else (if (a == byte "%") && (b == byte "=") then Some kinds.PercentAssign
    else (if (a == byte "&") && (b == byte "=") then Some kinds.AmpersandAssign
    else (if (a == byte "|") && (b == byte "=") then Some kinds.BarAssign
    else (if (a == byte "^") && (b == byte "=") then Some kinds.CaretAssign
    else (if (a == byte "&") && (b == byte "&") then Some kinds.LogicalAnd
    else (if (a == byte "|") && (b == byte "|") then Some kinds.LogicalOr
    else (if (a == byte "<") && (b == byte "-") then Some kinds.Arrow
    else (if (a == byte "+") && (b == byte "+") then Some kinds.Increment
    else (if (a == byte "-") && (b == byte "-") then Some kinds.Decrement
    else (if (a == byte "=") && (b == byte "=") then Some kinds.Equal
    else (if (a == byte "!") && (b == byte "=") then Some kinds.NotEqual
    else (if (a == byte "<") && (b == byte "=") then Some kinds.LessEqual
    else (if (a == byte ">") && (b == byte "=") then Some kinds.GreaterEqual
    else (if (a == byte ":") && (b == byte "=") then Some kinds.Define
    else None))))))))))))))))))))

-- the mark that three bytes are
unfoldable pub mark_3 : ℕ → ℕ → ℕ → Option TokenKind
mark_3 a b c =
    if (a == byte "<") && ((b == byte "<") && (c == byte "=")) then Some kinds.ShiftLeftAssign
    else (if (a == byte ">") && ((b == byte ">") && (c == byte "=")) then Some kinds.ShiftRightAssign
    else (if (a == byte "&") && ((b == byte "^") && (c == byte "=")) then Some kinds.AndNotAssign
    else (if (a == byte ".") && ((b == byte ".") && (c == byte ".")) then Some kinds.Ellipsis
    else None)))

-- the operator or mark that the bytes are
abbrev pub mark : List ℕ → Option TokenKind
mark [] = None
mark (a ∷ []) = mark_1 a
mark (a ∷ b ∷ []) = mark_2 a b
mark (a ∷ b ∷ c ∷ []) = mark_3 a b c
mark (a ∷ b ∷ c ∷ d ∷ rest) = None

abbrev pub is_empty : List ℕ → Bool
is_empty [] = true
is_empty (b ∷ rest) = false

-- the x of a hexadecimal number
abbrev pub is_x : ℕ → Bool
is_x b = (b == byte "x") || (b == byte "X")

abbrev pub is_hex_digit : ℕ → Bool
is_hex_digit b = is_ascii_hexdigit b

-- after a 0: x and hexadecimal digits, of which there is one at least
abbrev pub is_hexadecimal : List ℕ → Bool
is_hexadecimal [] = false
is_hexadecimal (x ∷ digits) = is_x x && (not (is_empty digits) && list_all is_hex_digit digits)

-- a hexadecimal number, 0, or digits that don't begin with it
abbrev pub is_integer : ℕ → List ℕ → Bool
is_integer first rest = if first == byte "0" then is_empty rest || is_hexadecimal rest else list_all is_digit rest

-- the token that the bytes are, all of them
unfoldable pub exact : List ℕ → Option TokenKind
exact [] = None
exact (first ∷ rest) =
    if is_letter_byte first then (if is_name (first ∷ rest) then Some (word (first ∷ rest)) else None)
    else (if is_digit first then (if is_integer first rest then Some kinds.Integer else None)
    else mark (first ∷ rest))

abbrev pub or_shorter : ℕ → Option TokenKind → Option (ℕ × TokenKind) → Option (ℕ × TokenKind)
or_shorter n None shorter = shorter
or_shorter n (Some kind) shorter = Some (n, kind)

-- the longest token of at most n bytes with which the text begins: its length and its kind
unfoldable pub longest_within : ℕ → List ℕ → Option (ℕ × TokenKind)
longest_within zero text = None
longest_within (suc n) text = or_shorter (suc n) (exact (take (suc n) text)) (longest_within n text)

-- the longest token with which the text begins
unfoldable pub longest : List ℕ → Option (ℕ × TokenKind)
longest text = longest_within (length text) text

-- how many bytes after a 0 make a hexadecimal number of it, as many as possible
abbrev pub hexadecimal_len : List ℕ → ℕ
hexadecimal_len [] = 0
hexadecimal_len (x ∷ digits) =
    let run = prefix_len is_hex_digit digits in
    if is_x x && not (run == 0) then run + 1 else 0

-- the longest mark with which the text begins
abbrev pub longest_mark : List ℕ → Option (ℕ × TokenKind)
longest_mark [] = None
longest_mark (a ∷ []) = or_shorter 1 (mark_1 a) None
longest_mark (a ∷ b ∷ []) = or_shorter 2 (mark_2 a b) (or_shorter 1 (mark_1 a) None)
longest_mark (a ∷ b ∷ c ∷ rest) =
    or_shorter 3 (mark_3 a b c) (or_shorter 2 (mark_2 a b) (or_shorter 1 (mark_1 a) None))

-- whether a line's end directly after this token inserts a semicolon
abbrev pub ends_line : TokenKind → Bool
ends_line kinds.Name = true
ends_line kinds.Integer = true
ends_line kinds.String = true
ends_line kinds.Break = true
ends_line kinds.Continue = true
ends_line kinds.Fallthrough = true
ends_line kinds.Return = true
ends_line kinds.Increment = true
ends_line kinds.Decrement = true
ends_line kinds.RightParenthesis = true
ends_line kinds.RightBracket = true
ends_line kinds.RightBrace = true
ends_line _ = false
