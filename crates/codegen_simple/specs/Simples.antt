-- Whole plans whose instructions are appended.
use Rattle.std.specs.Prelude.{◌≡◌, ℕ, List, ◌++◌, length}
use Rattle.bytecode.specs.declared.instr.Instr.{Instr}
use Rattle.plan.specs.Plan.{Plan, flat}

-- the instructions of a plan are appended, wherever a break and a continue lead
abbrev pub Appends : List Instr → List Instr → Plan → Type 0
Appends old new plan = (leave again : ℕ) → new ≡ old ++ flat leave again (length old) plan
