-- The names that a statement declares, as they are in memory.
use Rattle.std.specs.Prelude.{ℕ, List, map, option_map}
use Rattle.syntax.specs.declared.node.Name.{Name}
use Rattle.syntax.specs.View.{name_of}
use Rattle.checker_simple.specs.declared.names.Names.{Names}
use Rattle.checker_simple.specs.declared.names.Names.TheVariants as lists
use Rattle.typing_rules.specs.Operations.{and_also}
use denote.Ref.{Bor}

-- names that lie apart in the tree
abbrev pub names_at : List (Bor Name) → List (List ℕ)
names_at names = map (λ (name : Bor Name). name_of name.now) names

-- the names that a statement declares
abbrev pub names_in : Names → List (List ℕ)
names_in (lists.All names) = map name_of names.now
names_in (lists.OneOrTwo one other) = and_also (name_of one.now) (option_map name_of other.now)
