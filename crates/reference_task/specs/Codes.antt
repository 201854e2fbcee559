-- What is declared, as numbers: two that have the same numbers are the same.
use Rattle.std.specs.Prelude.{◌≡◌, ℕ, zero, suc, List, [], ◌∷◌, Option, Some, None, refl}
use Rattle.std.specs.Coded.{Coded, Coded-set, code_by, coded×, coded_list, coded_option, coded_ℕ}
use mathlib.Core.Path.{ap}
use Rattle.syntax.specs.declared.node.Direction.{Direction}
use Rattle.syntax.specs.declared.node.Direction.TheVariants as directions
use Rattle.type_table.specs.Types.{ValueType, IntType, BoolType, StructType, ChannelType}
use Rattle.type_table.specs.Containment.{Field}
use Rattle.type_table.specs.Scopes.{Globals, Signature, Yield, NoResult, Yields}

abbrev pub direction_number : Direction → ℕ
direction_number directions.Both = 0
direction_number directions.Send = 1
direction_number directions.Receive = 2

abbrev pub direction_at : ℕ → Direction
direction_at zero = directions.Both
direction_at (suc zero) = directions.Send
direction_at (suc (suc n)) = directions.Receive

pub direction-back : (d : Direction) → direction_at (direction_number d) ≡ d
direction-back directions.Both = refl
direction-back directions.Send = refl
direction-back directions.Receive = refl

abbrev pub type_numbers : ValueType → List ℕ
type_numbers IntType = 0 ∷ []
type_numbers BoolType = 1 ∷ []
type_numbers (StructType number) = 2 ∷ number ∷ []
type_numbers (ChannelType direction element) = 3 ∷ direction_number direction ∷ type_numbers element

abbrev pub type_at : List ℕ → ValueType
type_at [] = IntType
type_at (zero ∷ rest) = IntType
type_at (suc zero ∷ rest) = BoolType
type_at (suc (suc zero) ∷ []) = IntType
type_at (suc (suc zero) ∷ number ∷ rest) = StructType number
type_at (suc (suc (suc n)) ∷ []) = IntType
type_at (suc (suc (suc n)) ∷ direction ∷ rest) = ChannelType (direction_at direction) (type_at rest)

pub type-back : (kind : ValueType) → type_at (type_numbers kind) ≡ kind
type-back IntType = refl
type-back BoolType = refl
type-back (StructType number) = refl
type-back (ChannelType directions.Both element) = ap (ChannelType directions.Both) (type-back element)
type-back (ChannelType directions.Send element) = ap (ChannelType directions.Send) (type-back element)
type-back (ChannelType directions.Receive element) = ap (ChannelType directions.Receive) (type-back element)

abbrev pub type_code : Coded ValueType
type_code = code_by (List ℕ) (coded_list coded_ℕ) type_numbers type_at type-back

abbrev pub name_code : Coded (List ℕ)
name_code = coded_list coded_ℕ

abbrev pub field_code : Coded Field
field_code =
    code_by (List ℕ × Option ValueType) (coded× name_code (coded_option type_code)) (λ f. (f.name, f.kind)) (λ p. record { name = p.0; kind = p.1 }) (λ _. refl)

abbrev pub yielded : Yield → Option (Option ValueType)
yielded NoResult = None
yielded (Yields kind) = Some kind

abbrev pub yield_at : Option (Option ValueType) → Yield
yield_at None = NoResult
yield_at (Some kind) = Yields kind

pub yield-back : (yield : Yield) → yield_at (yielded yield) ≡ yield
yield-back NoResult = refl
yield-back (Yields kind) = refl

abbrev pub yield_code : Coded Yield
yield_code = code_by (Option (Option ValueType)) (coded_option (coded_option type_code)) yielded yield_at yield-back

abbrev pub signature_code : Coded Signature
signature_code =
    code_by (List ℕ × (List (Option ValueType) × Yield)) (coded× name_code (coded× (coded_list (coded_option type_code)) yield_code))
    (λ s. (s.name, (s.parameters, s.result))) (λ p. record { name = p.0; parameters = p.1.0; result = p.1.1 }) (λ _. refl)

abbrev pub globals_code : Coded Globals
globals_code =
    code_by (List (List ℕ) × (List (List Field) × List Signature)) (coded× (coded_list name_code) (coded× (coded_list (coded_list field_code)) (coded_list signature_code)))
    (λ g. (g.types, (g.structs, g.functions))) (λ p. record { types = p.0; structs = p.1.0; functions = p.1.1 }) (λ _. refl)

-- that one is the other is known in one way at most
pub one_globals : (a b : Globals) → IsProp (a ≡ b)
one_globals = Coded-set globals_code
