-- What is left to read.
use Rattle.std.specs.Prelude.{ℕ, List, [], ◌∷◌}
use Rattle.go_text.specs.declared.place.Span.{Span}
use Rattle.go_text.specs.Source.{bytes_of}
use Rattle.scanner.specs.declared.token.Token.{Token}
use Rattle.parser_base.specs.Lexemes.{Lexeme, Literal, Name, Text, Mark, literal, text, lexemes}
use Rattle.parser_base.specs.declared.cursor.Word.{Word}
use Rattle.parser_base.specs.declared.cursor.Word.TheVariants as words
use Rattle.parser_base.specs.declared.cursor.Cursor.{Cursor}

abbrev pub lexeme_of : Word → Lexeme
lexeme_of (words.Literal digits) = Literal (literal digits.now)
lexeme_of (words.Name bytes) = Name bytes.now
lexeme_of (words.Text bytes) = Text (text bytes.now)
lexeme_of (words.Mark kind) = Mark kind

-- the lexemes from the cursor on
abbrev pub ahead : Cursor → List Lexeme
ahead cursor = lexemes (bytes_of cursor.source.now) cursor.tokens.now

-- the span of the first token, or the end of a source of `end` bytes
abbrev pub place_at : ℕ → List Token → Span
place_at end [] = record { from = end; to = end }
place_at end (token ∷ rest) = token.span
