-- Right sides.
use Rattle.std.specs.Prelude.{Bool, false, List, [], ◌∷◌}
use Rattle.syntax.specs.Tree.{Expression}
use Rattle.typing_rules.specs.Operations.{is_receive}

-- whether a right side is one receive
abbrev pub is_lone_receive : List Expression → Bool
is_lone_receive (only ∷ []) = is_receive only
is_lone_receive all = false
