use Rattle.std.specs.Prelude.{ℕ, ◌+◌, ◌==◌, if◌then◌else◌, List, [], ◌∷◌}
use Rattle.go_text.specs.declared.place.Position.{Position}

-- The position after these bytes, the first of which is at this line and column. A newline ends its line.
abbrev pub position_after : ℕ → ℕ → List ℕ → Position
position_after line column [] = record { line = line; column = column }
position_after line column (byte ∷ rest) =
    if byte == 10 then position_after (line + 1) 1 rest else position_after line (column + 1) rest
