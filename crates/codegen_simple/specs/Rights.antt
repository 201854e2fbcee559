-- What a right side gives.
use Rattle.std.specs.Prelude.{ℕ, ◌==◌, List, [], ◌∷◌, Option, Some, None, if◌then◌else◌}
use Rattle.syntax.specs.Tree.{Expression, Receive}
use Rattle.type_table.specs.Types.{ValueType}
use Rattle.type_table.specs.Scopes.{Globals, Scope}
use Rattle.typing_rules.specs.Worths.{worth}
use Rattle.typing_rules.specs.Expressions.{default_type}
use Rattle.meaning.specs.Values.{known}

-- the type that a variable takes from an expression
abbrev pub own_type : Globals → Scope → Expression → ValueType
own_type globals scope expression = known (default_type (worth globals scope expression))

-- the channel that an expression receives from
abbrev pub source_of : Expression → Option Expression
source_of (Receive channel) = Some channel
source_of expression = None

-- the channel of one receive that gives two values: the item, and whether it was sent
abbrev pub source_of_two : ℕ → List Expression → Option Expression
source_of_two count (value ∷ []) = if count == 2 then source_of value else None
source_of_two count values = None
