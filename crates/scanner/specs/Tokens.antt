-- The tokens of a text, or its first fault.
use Rattle.std.specs.Prelude.{ℕ, zero, suc, ◌+◌, ◌-◌, ◌≤◌, List, [], ◌∷◌, ◌++◌, Option, Some, None, Result, Ok, Err, if◌then◌else◌}
use Rattle.go_text.specs.declared.fault.Fault.{Fault}
use Rattle.go_text.specs.declared.fault.Fault.TheVariants as faults
use Rattle.go_text.specs.declared.place.Place.{Place}
use Rattle.scanner.specs.declared.kind.TokenKind.{TokenKind}
use Rattle.scanner.specs.declared.kind.TokenKind.TheVariants as kinds
use Rattle.scanner.specs.declared.element.Element.{Element}
use Rattle.scanner.specs.declared.element.Element.TheVariants as elements
use Rattle.scanner.specs.declared.token.Token.{Token}
use Rattle.scanner.specs.Lexical.{ends_line}
use Rattle.scanner.specs.Elements.{element_at}

abbrev pub Scanned : Type 0
Scanned = Result (List Token) Fault

abbrev pub following : List Token → Scanned → Scanned
following front (Ok tokens) = Ok (front ++ tokens)
following front (Err fault) = Err fault

-- The semicolon of a line's end, if one belongs there. It is empty, and is directly after the token that it follows.
abbrev pub line_end : Option ℕ → List Token
line_end None = []
line_end (Some place) = record { kind = kinds.Semicolon; span = record { from = place; to = place } } ∷ []

-- the offset at which a line's end would put a semicolon after a token that ends here
abbrev pub ender : TokenKind → ℕ → Option ℕ
ender kind place = if ends_line kind then Some place else None

-- The element at offset `place`, and what follows it. White space changes nothing, a line's end inserts a semicolon if
-- one belongs there, and a token says whether the next line's end does.
abbrev pub taken : (place : ℕ) → (after : Option ℕ) → Result Element Fault → (ℕ → Option ℕ → Scanned) → Scanned
taken place after (Err fault) rest = Err fault
taken place after (Ok (elements.Blank len)) rest = rest (len - 1) after
taken place after (Ok (elements.LineEnd len)) rest = following (line_end after) (rest (len - 1) None)
taken place after (Ok (elements.Token len kind)) rest =
    following (record { kind = kind; span = record { from = place; to = place + len } } ∷ []) (rest (len - 1) (ender kind (place + len)))

-- The tokens from offset `place` of the text on. The first `passed` bytes still belong to the token before; a line's end
-- would put a semicolon at `after`. The end of the text counts as a line's end.
unfoldable pub tokens : (passed place : ℕ) → (after : Option ℕ) → (text : List ℕ) → Scanned
tokens passed place after [] = Ok (line_end after)
tokens (suc passed) place after (b ∷ rest) = tokens passed (place + 1) after rest
tokens zero place after (b ∷ rest) = taken place after (element_at place b rest) (λ passed after. tokens passed (place + 1) after rest)

-- the tokens of a whole text, or its first fault
abbrev pub tokens_of : List ℕ → Scanned
tokens_of text = tokens 0 0 None text

-- each token lies after the one before it, and all between `from` and `to`
abbrev pub IsInOrder : (from to : ℕ) → List Token → Type 0
IsInOrder from to [] = from ≤ to
IsInOrder from to (token ∷ rest) = (from ≤ token.span.from) × (token.span.from ≤ token.span.to) × IsInOrder token.span.to to rest

-- the location lies within a text of `end` bytes
abbrev pub IsWithin : (end : ℕ) → Place → Type 0
IsWithin end place = (place.span.from ≤ place.span.to) × (place.span.to ≤ end)

-- a fault of a text of `end` bytes lies within it
abbrev pub LiesWithin : (end : ℕ) → Fault → Type 0
LiesWithin end (faults.BadCharacter place) = IsWithin end place
LiesWithin end (faults.BadNumber place) = IsWithin end place
LiesWithin end (faults.OpenString place) = IsWithin end place
LiesWithin end (faults.OpenComment place) = IsWithin end place
LiesWithin end faults.Memory = Unit {0}
LiesWithin end fault = ⊥
