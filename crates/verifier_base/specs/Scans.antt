-- The rules that a function's instructions violate by themselves: none, or the rule at a pc.
use Rattle.std.specs.Prelude.{◌≡◌, ℕ, Option, Some, None, slice_get}
use Rattle.bytecode.specs.declared.instr.Instr.{Instr}
use Rattle.bytecode.specs.declared.rule.Rule.{Rule}
use Rattle.bytecode.specs.Code.{Function, Code}
use Rattle.bytecode.specs.Rules.{Named, Inside, Directed, BrokenIn}

abbrev pub Scanned : Option (Rule × ℕ) → Code → Function → Type 0
Scanned None code f = (place : ℕ) (i : Instr) → slice_get f.instrs place ≡ Some i → (Named code f i × Inside f place i) × Directed code place i
Scanned (Some b) code f = BrokenIn code f b.0 b.1

abbrev pub ScannedAt : Option (Rule × ℕ) → Code → Function → ℕ → Type 0
ScannedAt None code f place = (i : Instr) → slice_get f.instrs place ≡ Some i → (Named code f i × Inside f place i) × Directed code place i
ScannedAt (Some b) code f place = BrokenIn code f b.0 b.1
