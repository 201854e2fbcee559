-- What lvalues are given, as it is in memory.
use Rattle.std.specs.Prelude.{ℕ, ◌+◌, Bool, false, List, [], ◌∷◌, map, option_map, Some}
use Rattle.syntax.specs.declared.node.PlaceNode.{PlaceNode}
use Rattle.syntax.specs.Tree.{Expression, Place, Receive}
use Rattle.syntax.specs.View.{place_of, expression_of}
use Rattle.checker_base.specs.declared.operand.Operand.{Operand}
use Rattle.checker_simple.specs.declared.place.Targets.{Targets}
use Rattle.checker_simple.specs.declared.place.Targets.TheVariants as targets
use Rattle.checker_simple.specs.declared.given.Source.{Source}
use Rattle.checker_simple.specs.declared.given.Source.TheVariants as sources
use Rattle.typing_rules.specs.Operations.{Given, is_receive, and_also}
use Rattle.checker_base.specs.Views.{worth_of}
use denote.Ref.{Bor}

abbrev pub given_of : List (List ℕ) → Operand → Given
given_of types operand = record {
  worth = Some (worth_of types operand.worth);
  nodes = record { first = operand.first; end = operand.node + 1 };
}

-- one receive as a statement
abbrev pub is_one_receive : List Expression → Bool
is_one_receive (value ∷ []) = is_receive value
is_one_receive values = false

-- lvalues that lie apart in the tree
abbrev pub places_at : List (Bor PlaceNode) → List Place
places_at places = map (λ (place : Bor PlaceNode). place_of place.now) places

-- the lvalues to which a statement assigns
abbrev pub places_in : Targets → List Place
places_in (targets.All places) = map place_of places.now
places_in (targets.OneOrTwo one other) = and_also (place_of one.now) (option_map place_of other.now)

-- the right side of a statement
abbrev pub source_of : Source → List Expression
source_of (sources.Right values) = map expression_of values.now
source_of (sources.Receive channel) = Receive (expression_of channel.now) ∷ []
