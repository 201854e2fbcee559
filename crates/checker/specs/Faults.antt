-- What a refusal says of a tree.
use Rattle.std.specs.Prelude.{◌≡◌, ℕ, Some, None, slice_get}
use Rattle.go_text.specs.declared.fault.Fault.{Fault}
use Rattle.go_text.specs.declared.fault.Fault.TheVariants as faults
use Rattle.go_text.specs.declared.place.Place.{Place}
use Rattle.syntax.specs.declared.tree.Tree.{Tree}
use Rattle.syntax.specs.Spans.{tree_of, spans_of}
use Rattle.typing_rules.specs.declared.violation.Violation.TheVariants.{Broken, Exceeded}
use Rattle.typing_rules.specs.Files.{Breaks, Exceeds}
use Rattle.checker.specs.Firsts.{ComesFirst}

-- the location is that of the node, still without line and column
pub record IsPlaceOf (tree : Tree) (node : ℕ) (place : Place) : Type 0 where
  pub span : slice_get (spans_of tree) node ≡ Some place.span
  pub position : place.position ≡ None

-- what a refusal of the tree says is so, and nothing comes before it
abbrev pub Tells : Tree → Fault → Type 0
Tells tree (faults.Typing rule node place) = Breaks (tree_of tree) rule node × ComesFirst (tree_of tree) (Broken rule node) × IsPlaceOf tree node place
Tells tree (faults.Limit kind (Some node) place) = Exceeds (tree_of tree) kind node × ComesFirst (tree_of tree) (Exceeded kind node) × IsPlaceOf tree node place
Tells tree fault = ⊥
