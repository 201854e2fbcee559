-- How pieces of a text are shown.
use Rattle.std.specs.Prelude.{◌≡◌, ℕ, ◌++◌, List, [], ◌∷◌, codes}
use Rattle.std.specs.List.{flat_map}
use Rattle.terminal_style.specs.declared.piece.Style.{Style}
use Rattle.terminal_style.specs.declared.piece.Style.TheVariants.{Plain, Location, Marks, Label}
use Rattle.terminal_style.specs.declared.piece.Piece.{Piece}

-- the escape sequence before a piece
abbrev pub begin_of : Style → List ℕ
begin_of Plain = []
begin_of Location = 27 ∷ codes "[1m"
begin_of Marks = 27 ∷ codes "[1;31m"
begin_of Label = 27 ∷ codes "[1;36m"

-- the escape sequence after a piece
abbrev pub end_of : Style → List ℕ
end_of Plain = []
end_of Location = 27 ∷ codes "[0m"
end_of Marks = 27 ∷ codes "[0m"
end_of Label = 27 ∷ codes "[0m"

-- a text as it is in its pieces, without escape sequences
abbrev pub plain_of : List Piece → List ℕ
plain_of pieces = flat_map (λ (piece : Piece). piece.text.now) pieces

-- a text with the escape sequences of its pieces
abbrev pub shown_of : List Piece → List ℕ
shown_of pieces = flat_map (λ (piece : Piece). begin_of piece.style ++ piece.text.now ++ end_of piece.style) pieces

-- these bytes are a text with escape sequences around some of its pieces
abbrev pub IsStyled : (text bytes : List ℕ) → Type 0
IsStyled text bytes = (pieces : List Piece) × (plain_of pieces ≡ text) × (bytes ≡ shown_of pieces)
