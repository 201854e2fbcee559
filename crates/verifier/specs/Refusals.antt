-- Which rule is violated where, and what the rules are for.
use Rattle.std.specs.Prelude.{◌≡◌, ◌≢◌, ℕ, ◌<◌, List, Some, length, slice_get}
use Rattle.bytecode.specs.declared.instr.WordKind.{WordKind}
use Rattle.bytecode.specs.declared.rule.Rule.{Rule}
use Rattle.bytecode.specs.declared.rule.Rule.TheVariants.{Names, Tables}
use Rattle.bytecode.specs.Code.{Function, PrintTable, SelectTable, Code}
use Rattle.bytecode.specs.Machine.{Frames, code_begin, code_next, code_answer}
use Rattle.bytecode.specs.Rules.{rule_number, AreThere, Holds, HasShapes, Breaks, IsFew, IsSelect, IsShaped, IsShort, IsSized}
use Rattle.go_text.specs.declared.fault.Fault.{Fault}
use Rattle.go_text.specs.declared.fault.Fault.TheVariants as faults
use Rattle.word.specs.declared.value.Word.{Word}
use Rattle.word.specs.Values.{Request, Reply}
use Rattle.word.specs.Kinds.{Slides, Ticks, Asks, Stuck}

-- the error names a rule that is violated there, or memory ran out
abbrev pub IsRefused : Code → Fault → Type 0
IsRefused code (faults.Unverified rule function place) = (r : Rule) × (rule ≡ rule_number r) × Breaks code r function place
IsRefused code faults.Memory = Unit {0}
IsRefused code fault = ⊥

-- the frames to which the machine comes from the beginning of a function, step by step, whatever the replies are
pub data Comes (code : Code) : Frames → Type 0 where
  begins : (function : ℕ) → function < length code.functions → (args : List Word) → Comes code (code_begin code function args)
  slides : {s t : Frames} → Comes code s → code_next code s ≡ Slides t → Comes code t
  ticks : {s t : Frames} → Comes code s → code_next code s ≡ Ticks t → Comes code t
  answers : {s : Frames} → Comes code s → (q : Request) → code_next code s ≡ Asks q → (reply : Reply) → Comes code (code_answer code s reply)

-- no test of the machine fails
abbrev pub NeverStuck : Code → Type 0
NeverStuck code = (s : Frames) → Comes code s → code_next code s ≢ Stuck

-- each shape, each table, each function keeps its rules
abbrev pub ShapesFine : Code → Type 0
ShapesFine code = (s : ℕ) (ks : List WordKind) → slice_get code.shapes s ≡ Some ks → IsShaped code ks

abbrev pub PrintsFine : Code → Type 0
PrintsFine code = (q : ℕ) (table : PrintTable) → slice_get code.prints q ≡ Some table → IsShort table

abbrev pub SelectsFine : Code → Type 0
SelectsFine code = (q : ℕ) (table : SelectTable) → slice_get code.selects q ≡ Some table → IsSelect code table

abbrev pub FunctionsFine : Code → Type 0
FunctionsFine code = (g : ℕ) (f : Function) → slice_get code.functions g ≡ Some f → Holds code f

-- the rule that a shape violates
abbrev pub ShapeBroken : Code → List WordKind → Rule → Type 0
ShapeBroken code ks Names = AreThere code ks → ⊥
ShapeBroken code ks Tables = IsSized ks → ⊥
ShapeBroken code ks rule = ⊥

-- the rule that a select table violates
abbrev pub SelectBroken : Code → SelectTable → Rule → Type 0
SelectBroken code table Names = HasShapes code table → ⊥
SelectBroken code table Tables = IsFew table → ⊥
SelectBroken code table rule = ⊥
