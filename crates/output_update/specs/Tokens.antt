-- What the update of a program's comments keeps.
use Rattle.std.specs.Prelude.{◌≡◌, ℕ, List, Ok, map}
use Rattle.std.specs.List.{slice_range}
use Rattle.go_text.specs.declared.place.Span.{Span}
use Rattle.scanner.specs.Tokens.{tokens_of}
use Rattle.scanner.specs.declared.kind.TokenKind.{TokenKind}
use Rattle.scanner.specs.declared.token.Token.{Token}

-- the bytes of a text at a span
abbrev pub piece_of : (text : List ℕ) → Span → List ℕ
piece_of text span = slice_range text span.from span.to

-- a token's kind and its bytes
pub record Spelt : Type 0 where
  pub kind : TokenKind
  pub bytes : List ℕ

abbrev pub spelt_in : (text : List ℕ) → Token → Spelt
spelt_in text token = record { kind = token.kind; bytes = piece_of text token.span }

-- the two texts have the same tokens: they differ in comments and white space alone
pub record HaveSameTokens (text other : List ℕ) : Type 0 where
  pub tokens : List Token
  pub wanted : List Token
  pub scanned : tokens_of text ≡ Ok tokens
  pub others : tokens_of other ≡ Ok wanted
  pub same : map (spelt_in text) tokens ≡ map (spelt_in other) wanted
