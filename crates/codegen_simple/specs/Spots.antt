-- Where values go, as it is in memory.
use Rattle.std.specs.Prelude.{◌≡◌, ◌≤◌, ◌-◌, ◌^◌, ℕ, List, [], ◌∷◌, Option, Some, None, min}
use Rattle.std.specs.HashSet.{HashSet, contains}
use Rattle.std.specs.Prelude.{nat_eq}
use Rattle.bytecode.specs.declared.instr.Instr.{Instr}
use Rattle.type_table.specs.Containment.{Selected}
use Rattle.codegen_base.specs.Statements.{Spot, Dropped, Local, has_place, last_counts, singles, stores, stores_all}
use Rattle.plan.specs.Plan.{Plan}
use Rattle.codegen_expression.specs.Emission.{Puts}
use Rattle.codegen_simple.specs.declared.spot.Spot.{Spot as InMemory}
use Rattle.codegen_simple.specs.declared.spot.Spot.TheVariants as spots

abbrev pub spot_in : InMemory → Spot
spot_in (spots.Dropped words) = Dropped words
spot_in (spots.Local place words) = Local place words

-- after the instructions `first`, the last word for each local is stored; `places` are the locals
abbrev pub Stored : {S : Type 0} → List Instr → List Spot → HashSet ℕ S → List Instr → Type 0
Stored first later places code = ((place : ℕ) → contains nat_eq places place ≡ has_place place later) × Puts first code (stores_all (last_counts later))

-- values go to their spots, before the clock ticks
abbrev pub stores_each : List Spot → Plan → Plan
stores_each [] rest = rest
stores_each (spot ∷ []) rest = stores spot rest
stores_each (spot ∷ (other ∷ others)) rest = stores_all (last_counts (singles (spot ∷ (other ∷ others)))) rest

-- ---- parts of the frame

-- in memory the first word of a part is at most 2^64 - 1
abbrev pub capped : Selected → Selected
capped part = record { place = min part.place (2 ^ 64 - 1); kind = part.kind }

-- a part that no number of the code names
abbrev pub IsFar : Option Selected → Type 0
IsFar None = ⊥
IsFar (Some part) = 2 ^ 32 ≤ part.place
