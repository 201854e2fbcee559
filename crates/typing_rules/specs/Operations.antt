-- What is wrong with the right side of an assignment, and with the lvalues on its left.
use Rattle.std.specs.Prelude.{◌≡◌, ℕ, ◌+◌, ◌==◌, ◌⊎◌, Bool, true, false, not, ◌&&◌, ◌||◌, if◌then◌else◌, List, [], ◌∷◌, ◌++◌, Option, Some, None, option_map, option_and_then}
use Rattle.std.specs.Option.{is_none}
use Rattle.go_text.specs.declared.rule.Rule.TheVariants as rules
use Rattle.syntax.specs.Tree.{Expression, Receive, expressions, Arguments, Place}
use Rattle.syntax.specs.Measures.{expression_size, arguments_size}
use Rattle.typing_rules.specs.declared.violation.Violation.{Violation}
use Rattle.typing_rules.specs.Violations.{Nodes, IsBroken}
use Rattle.type_table.specs.Types.{ValueType, BoolType}
use Rattle.type_table.specs.Containment.{Structs, Selected, following, field_of}
use Rattle.type_table.specs.Scopes.{Variable, Scope, Globals, is_blank, variable_named}
pub use Rattle.typing_rules.specs.Calls.{Callee, NotDeclared, NoFunction, IsFunction, callee, parameters_in, parameters_of, result_of}
pub use Rattle.typing_rules.specs.Expressions.{TypeHas, MadeHas, SizeHas, CalleeHas, ResultHas}
use Rattle.typing_rules.specs.Worths.{Worth, Typed, kind_of, type_of_field, worth}
use Rattle.typing_rules.specs.Expressions.{nodes_of, ValueHas, DefaultHas, ExpressionHas, ExpressionsHave, ChannelHas, ReceivedHas}

abbrev pub CallHas : Globals → Scope → ℕ → List ℕ → Arguments → Violation → Type 0
CallHas globals scope first function arguments violation =
    ExpressionsHave globals scope first (expressions arguments.values) violation
    ⊎ CalleeHas globals scope (callee globals scope function) first arguments.values (first + arguments_size arguments + 1) violation

-- ---- operations

-- the channel of a receive, which is the last node before a number
abbrev pub ReceiveHas : Globals → Scope → ℕ → Expression → Violation → Type 0
ReceiveHas globals scope first channel violation =
    ExpressionHas globals scope first channel violation
    ⊎ (ChannelHas (worth globals scope channel) (nodes_of first channel) violation
    ⊎ ReceivedHas (worth globals scope channel) (first + expression_size channel + 1) violation)

abbrev pub MeasuredHas : Globals → Scope → ℕ → Expression → Violation → Type 0
MeasuredHas globals scope first channel violation =
    ExpressionHas globals scope first channel violation ⊎ ChannelHas (worth globals scope channel) (nodes_of first channel) violation

abbrev pub is_receive : Expression → Bool
is_receive (Receive channel) = true
is_receive expression = false

-- ---- right sides

-- a value that is assigned: its type or constant value, and the nodes that it comes from
pub record Given : Type 0 where
  pub worth : Option Worth
  pub nodes : Nodes

abbrev pub given_values : Globals → Scope → ℕ → List Expression → List Given
given_values globals scope first [] = []
given_values globals scope first (value ∷ rest) =
    record { worth = worth globals scope value; nodes = nodes_of first value } ∷ given_values globals scope (first + expression_size value) rest

-- whether an item was sent, if one receive stands for two lvalues
abbrev pub also_given : ℕ → ℕ → List Expression → List Given
also_given places first (value ∷ []) =
    if (places == 2) && is_receive value then record { worth = Some (Typed BoolType); nodes = nodes_of first value } ∷ [] else []
also_given places first values = []

-- what a right side gives to `places` lvalues: a receive gives two of them the item and whether it was sent
abbrev pub given : Globals → Scope → ℕ → ℕ → List Expression → List Given
given globals scope places first values = given_values globals scope first values ++ also_given places first values

abbrev pub RightHas : Globals → Scope → ℕ → List Expression → Violation → Type 0
RightHas globals scope first values violation = ExpressionsHave globals scope first (expressions values) violation

-- ---- lvalues, each of which is one node

-- the rest of a path leads from a value of this type to a field that is not there
abbrev pub PathHas : Structs → Option ValueType → List (List ℕ) → ℕ → Violation → Type 0
PathHas structs kind [] end violation = ⊥
PathHas structs None (field ∷ rest) end violation = ⊥
PathHas structs (Some kind) (field ∷ rest) end violation =
    ((field_of structs kind field ≡ None) × IsBroken rules.Assigned end violation)
    ⊎ PathHas structs (type_of_field (field_of structs kind field)) rest end violation

-- the part of a value to which a path of fields leads
abbrev pub followed : Structs → Option Selected → List (List ℕ) → Option Selected
followed structs at [] = at
followed structs None (field ∷ rest) = None
followed structs (Some at) (field ∷ rest) =
    followed structs (option_map (following at.place) (option_and_then (λ kind. field_of structs kind field) at.kind)) rest

abbrev pub variable_at : Variable → Selected
variable_at variable = record { place = variable.place; kind = variable.kind }

-- the first word of an lvalue in the frame, and its type
abbrev pub selected : Globals → Scope → Place → Option Selected
selected globals scope place = followed globals.structs (option_map variable_at (variable_named scope place.name)) place.fields

abbrev pub has_fields : Place → Bool
has_fields place = elim place.fields as (λ _. Bool) [ [] ↦ false | field ∷ more ↦ true ]

-- the name of the lvalue is not a variable's, nor `_`
abbrev pub names_no_variable : Scope → Place → Bool
names_no_variable scope place = not (is_blank place.name) && is_none (variable_named scope place.name)

-- The lvalue is no variable and no field of one, nor `_`. If its name is not a variable's, it is also not visible as one.
abbrev pub PlaceHas : Globals → Scope → ℕ → Place → Violation → Type 0
PlaceHas globals scope first place violation =
    ((names_no_variable scope place ≡ true) × IsBroken rules.Visible (first + 1) violation)
    ⊎ ((((names_no_variable scope place || (is_blank place.name && has_fields place)) ≡ true) × IsBroken rules.Assigned (first + 1) violation)
    ⊎ PathHas globals.structs (kind_of (variable_named scope place.name)) place.fields (first + 1) violation)

-- like `PlaceHas`, for an lvalue that is read too, as `_` can't be
abbrev pub ReadPlaceHas : Globals → Scope → ℕ → Place → Violation → Type 0
ReadPlaceHas globals scope first place violation =
    PlaceHas globals scope first place violation ⊎ ((is_blank place.name ≡ true) × IsBroken rules.Assigned (first + 1) violation)

-- the type of an lvalue
abbrev pub place_type : Globals → Scope → Place → Option ValueType
place_type globals scope place = type_of_field (selected globals scope place)

-- a value goes to an lvalue of this type, or to one that takes the type of the value, if the first argument is `true`
abbrev pub GoesHas : Bool → Given → Option ValueType → Violation → Type 0
GoesHas true g kind violation = DefaultHas g.worth g.nodes violation
GoesHas false g kind violation = ValueHas g.worth kind g.nodes violation

-- lvalues are given values; `_` takes each that has a type
abbrev pub PlacesFail : Globals → Scope → List Place → List Given → Violation → Type 0
PlacesFail globals scope [] values violation = ⊥
PlacesFail globals scope (place ∷ places) [] violation = ⊥
PlacesFail globals scope (place ∷ places) (value ∷ values) violation =
    GoesHas (is_blank place.name) value (place_type globals scope place) violation ⊎ PlacesFail globals scope places values violation

-- something is wrong with one of the lvalues themselves
abbrev pub PlacesHave : Globals → Scope → ℕ → List Place → Violation → Type 0
PlacesHave globals scope first [] violation = ⊥
PlacesHave globals scope first (place ∷ places) violation = PlaceHas globals scope first place violation ⊎ PlacesHave globals scope (first + 1) places violation

abbrev pub and_also : {A : Type 0} → A → Option A → List A
and_also first None = first ∷ []
and_also first (Some other) = first ∷ other ∷ []
