-- Instructions of statements, whose breaks and continues wait for their targets.
use Rattle.std.specs.Prelude.{◌≡◌, ℕ, ◌+◌, ◌≤◌, ◌<◌, Bool, cond, List, [], ◌∷◌, ◌++◌, length, slice_set}
use Rattle.bytecode.specs.declared.instr.Instr.{Instr}
use Rattle.bytecode.specs.declared.instr.Instr.TheVariants as instrs
use Rattle.plan.specs.Plan.{Plan, flat}
use Rattle.codegen_flow.specs.declared.waits.Wait.{Wait}

-- one jump that waits
abbrev pub wait_at : ℕ → Bool → List Wait
wait_at place leaves = record { place = place; leaves = leaves } ∷ []

-- the jump, if breaks lead to `leave` and continues to `again`
abbrev pub jump : ℕ → ℕ → Wait → Instr
jump leave again wait = instrs.Jump (cond wait.leaves leave again)

-- the instructions with these targets
abbrev pub filled : List Wait → ℕ → ℕ → List Instr → List Instr
filled [] leave again code = code
filled (w ∷ ws) leave again code = slice_set (filled ws leave again code) w.place (jump leave again w)

-- they are one after the other, from `first` on, and before `end`
abbrev pub AreWithin : ℕ → ℕ → List Wait → Type 0
AreWithin first end [] = Unit {0}
AreWithin first end (w ∷ ws) = (first ≤ w.place) × (w.place < end) × AreWithin (w.place + 1) end ws

-- breaks have this target now, and continues still wait
abbrev pub settled : List Wait → ℕ → List Instr → List Instr
settled [] leave code = code
settled (w ∷ ws) leave code = cond w.leaves (slice_set (settled ws leave code) w.place (instrs.Jump leave)) (settled ws leave code)

abbrev pub continues : List Wait → List Wait
continues [] = []
continues (w ∷ ws) = cond w.leaves (continues ws) (w ∷ continues ws)

-- what follows the old instructions is a plan, whatever the targets will be
pub record Makes (old new : List Instr) (waits : List Wait) (plan : Plan) : Type 0 where
  pub within : AreWithin (length old) (length new) waits
  pub is : (leave again : ℕ) → filled waits leave again new ≡ old ++ flat leave again (length old) plan
