-- Words that go to their spots, the last one first.
use Rattle.std.proofs.Common.{◌≡◌, ◌<◌, ◌≤◌, ℕ, zero, suc, ◌+◌, ◌-◌, arith, List, [], ◌∷◌, ◌++◌, map, length, get_or, refl, sym, ap, ◌∙◌}
use Rattle.bytecode.specs.declared.instr.Instr.{Instr}
use Rattle.bytecode.specs.declared.instr.Instr.TheVariants as instrs
use Rattle.codegen_base.specs.Pushes.{drops}
use Rattle.codegen_base.specs.Statements.{Spot, Local, assigns, last_counts, single_spots, singles, stores, stores_all}
use Rattle.plan.specs.Plan.{Plan, flat}
use Rattle.codegen_expression.specs.Emission.{Puts}
use Rattle.codegen_simple.specs.declared.spot.Spot.{Spot as InMemory}
use Rattle.codegen_simple.specs.Spots.{spot_in, stores_each}
use Rattle.codegen_expression.proofs.Emitting.{puts_do, puts_none}
use Rattle.codegen_expression.proofs.Operating.{puts_then}

pub puts_no_drop : (count : ℕ) (old : List Instr) → count ≡ 0 → Puts old old (drops count)
puts_no_drop zero old is = puts_none old
puts_no_drop (suc count) old is = absurd (omega (arith, is))

pub puts_drop : (count : ℕ) (old new : List Instr) → 0 < count → new ≡ old ++ instrs.Discard count ∷ [] → Puts old new (drops count)
puts_drop zero old new some is = absurd (omega (arith, some))
puts_drop (suc count) old new some is = puts_do old new (instrs.Discard (suc count)) is

-- the clock ticks after all
pub puts_assigned : (spots : List Spot) (i0 i1 i2 : List Instr) → Puts i0 i1 (stores_each spots) → i2 ≡ i1 ++ instrs.Tick ∷ [] → Puts i0 i2 (assigns spots)
puts_assigned [] i0 i1 i2 p is = puts_then (stores_each []) instrs.Tick i0 i1 i2 p is
puts_assigned (spot ∷ []) i0 i1 i2 p is = puts_then (stores_each (spot ∷ [])) instrs.Tick i0 i1 i2 p is
puts_assigned (spot ∷ (other ∷ others)) i0 i1 i2 p is = puts_then (stores_each (spot ∷ (other ∷ others))) instrs.Tick i0 i1 i2 p is

-- the first word of a value goes to the first local
pub first_word : (place words next : ℕ) → 0 < words → next ≡ place + 1 → single_spots place words ≡ Local place 1 ∷ single_spots next (words - 1)
first_word place zero next some is = absurd (omega (arith, some))
first_word place (suc words) next some is = let n : suc words - 1 ≡ words = omega arith in ap (λ n. Local place 1 ∷ single_spots n words) (sym is) ∙ ap (λ m. Local place 1 ∷ single_spots next m) (sym n)

-- the same part, said otherwise
pub re_put : (old new : List Instr) (p q : Plan → Plan) → ((rest : Plan) → p rest ≡ q rest) → Puts old new p → Puts old new q
re_put old new p q same has leave again rest = has leave again rest ∙ ap (λ x. old ++ flat leave again (length old) x) (same rest)

-- ---- one spot, or more

pub one_spot : (spots : List InMemory) (default : InMemory) (rest : Plan) → 1 ≤ length spots → length spots < 2 → stores (spot_in (get_or spots 0 default)) rest ≡ stores_each (map spot_in spots) rest
one_spot [] default rest some few = absurd (omega (arith, some))
one_spot (spot ∷ []) default rest some few = refl
one_spot (spot ∷ (other ∷ others)) default rest some few = absurd (omega (arith, few))

pub more_spots : (spots : List InMemory) (rest : Plan) → 2 ≤ length spots → stores_all (last_counts (singles (map spot_in spots))) rest ≡ stores_each (map spot_in spots) rest
more_spots [] rest many = absurd (omega (arith, many))
more_spots (spot ∷ []) rest many = absurd (omega (arith, many))
more_spots (spot ∷ (other ∷ others)) rest many = refl
