-- Conditions.
use Rattle.std.specs.Prelude.{Bool, true, false}
use Rattle.syntax.specs.Tree.{Otherwise, NoElse, ElseBlock, ElseIf}

-- whether something follows `else`
abbrev pub is_other : Otherwise → Bool
is_other NoElse = false
is_other (ElseBlock body) = true
is_other (ElseIf branch) = true
