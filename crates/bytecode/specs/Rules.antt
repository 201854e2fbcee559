-- What the verifier requires of code, so that no test of the machine fails.
use Rattle.std.specs.Prelude.{◌≡◌, ℕ, zero, suc, ◌+◌, ◌<◌, ◌≤◌, ◌⊎◌, List, [], ◌∷◌, ◌++◌, length, Some, slice_get}
use Rattle.bytecode.specs.declared.instr.WordKind.{WordKind}
use Rattle.bytecode.specs.declared.instr.WordKind.TheVariants as kinds
use Rattle.bytecode.specs.declared.table.Clause.{Clause}
use Rattle.bytecode.specs.declared.instr.Instr.{Instr}
use Rattle.bytecode.specs.declared.instr.Instr.TheVariants as instrs
use Rattle.bytecode.specs.declared.rule.Rule.{Rule}
use Rattle.bytecode.specs.declared.rule.Rule.TheVariants.{Names, Targets, Paths, Calls, Returns, Locals, Tables, Main}
use Rattle.bytecode.specs.Code.{Function, PrintTable, SelectTable, Code}
use Rattle.bytecode.specs.Effects.{clause_shape, targets, targets_in, Fits, afterwards}
use Rattle.bytecode.specs.Machine.{Frame, Frames, main_of}
use Rattle.bytecode.specs.declared.table.TheConstants.{MAX_CLAUSES, MAX_PARTS}
use Rattle.word.specs.declared.limits.TheConstants.{MAX_DEPTH, MAX_WORDS}
use Rattle.word.specs.declared.value.Word.{Word}
use Rattle.word.specs.declared.value.Word.TheVariants.{Int, Bool as Truth, Chan}

-- V1 to V8
abbrev pub rule_number : Rule → ℕ
rule_number Names = 1
rule_number Targets = 2
rule_number Paths = 3
rule_number Calls = 4
rule_number Returns = 5
rule_number Locals = 6
rule_number Tables = 7
rule_number Main = 8

-- the pcs to which the instruction at pc `place` may lead
abbrev pub ways : Code → Instr → ℕ → List ℕ
ways code (instrs.Jump to) place = to ∷ []
ways code (instrs.Unless to) place = (place + 1) ∷ (to ∷ [])
ways code (instrs.Loop to) place = to ∷ []
ways code instrs.Return place = []
ways code (instrs.Select q) place = targets_in (slice_get code.selects q)
ways code i place = (place + 1) ∷ []

-- a path of n instructions that fit, from a function's start to pc `place`, and the kinds on the stack there
abbrev pub Path : Code → Function → ℕ → ℕ → List WordKind → Type 0
Path code f zero place ks = (place ≡ 0) × (ks ≡ [])
Path code f (suc n) place ks =
    (from : ℕ) × (js : List WordKind) × (i : Instr) × (k : ℕ) × Path code f n from js × (slice_get f.instrs from ≡ Some i) × Fits code f i js × (slice_get (ways code i from) k ≡ Some place) × (ks ≡ afterwards code f i k js)

-- a shape that a kind names is there
abbrev pub IsThere : Code → WordKind → Type 0
IsThere code kinds.Int = Unit {0}
IsThere code kinds.Bool = Unit {0}
IsThere code (kinds.Chan s) = s < length code.shapes

abbrev pub AreThere : Code → List WordKind → Type 0
AreThere code ks = (n : ℕ) (k : WordKind) → slice_get ks n ≡ Some k → IsThere code k

-- pcs are within a function of `n` instructions (`AreWithin`), and are after pc `place` (`AreAfter`)
abbrev pub AreWithin : List ℕ → ℕ → Type 0
AreWithin places n = (k to : ℕ) → slice_get places k ≡ Some to → to < n

abbrev pub AreAfter : List ℕ → ℕ → Type 0
AreAfter places place = (k to : ℕ) → slice_get places k ≡ Some to → place < to

-- what an instruction names is there
abbrev pub Named : Code → Function → Instr → Type 0
Named code f (instrs.Nil s) = s < length code.shapes
Named code f (instrs.Load a n) = a + n ≤ length f.locals
Named code f (instrs.Store a n) = a + n ≤ length f.locals
Named code f (instrs.Pick t a n) = a + n ≤ t
Named code f (instrs.Call g) = g < length code.functions
Named code f (instrs.Go g) = g < length code.functions
Named code f (instrs.Make s) = s < length code.shapes
Named code f (instrs.Send s) = s < length code.shapes
Named code f (instrs.Receive s) = s < length code.shapes
Named code f (instrs.Print q) = q < length code.prints
Named code f (instrs.Select q) = (q < length code.selects) × AreWithin (targets_in (slice_get code.selects q)) (length f.instrs)
Named code f i = Unit {0}

-- its ways lead to pcs of the function
abbrev pub Inside : Function → ℕ → Instr → Type 0
Inside f place (instrs.Jump to) = to < length f.instrs
Inside f place (instrs.Unless to) = (to < length f.instrs) × (place + 1 < length f.instrs)
Inside f place (instrs.Loop to) = to < length f.instrs
Inside f place instrs.Return = Unit {0}
Inside f place i = place + 1 < length f.instrs

-- a jump and a select lead forward, a loop back
abbrev pub Directed : Code → ℕ → Instr → Type 0
Directed code place (instrs.Jump to) = place < to
Directed code place (instrs.Unless to) = place < to
Directed code place (instrs.Loop to) = to ≤ place
Directed code place (instrs.Select q) = AreAfter (targets_in (slice_get code.selects q)) place
Directed code place i = Unit {0}

-- the rule that an instruction breaks which does not fit
abbrev pub rule_of : Instr → Rule
rule_of (instrs.Call g) = Calls
rule_of (instrs.Go g) = Calls
rule_of instrs.Return = Returns
rule_of (instrs.Store a n) = Locals
rule_of i = Paths

-- a function's heading: it has instructions, no more parameters than locals, and its kinds are there
pub record IsHeaded (code : Code) (f : Function) : Type 0 where
  pub filled : 0 < length f.instrs
  pub params : f.params ≤ length f.locals
  pub locals : AreThere code f.locals
  pub results : AreThere code f.results

-- a function keeps V1 to V6
pub record Holds (code : Code) (f : Function) : Type 0 where
  pub headed : IsHeaded code f
  pub named : (place : ℕ) (i : Instr) → slice_get f.instrs place ≡ Some i → Named code f i × Inside f place i
  pub directed : (place : ℕ) (i : Instr) → slice_get f.instrs place ≡ Some i → Directed code place i
  pub fit : (n place : ℕ) (ks : List WordKind) → Path code f n place ks → (i : Instr) × (slice_get f.instrs place ≡ Some i) × Fits code f i ks
  pub same : (n m place : ℕ) (ks js : List WordKind) → Path code f n place ks → Path code f m place js → ks ≡ js

-- V7 of a shape, and of a select table, a default counted too
abbrev pub IsSized : List WordKind → Type 0
IsSized ks = (0 < length ks) × (length ks ≤ MAX_WORDS)

abbrev pub IsFew : SelectTable → Type 0
IsFew table = length (targets table) ≤ MAX_CLAUSES

-- V7 and, of the shapes that a shape names, V1
pub record IsShaped (code : Code) (ks : List WordKind) : Type 0 where
  pub some : 0 < length ks
  pub most : length ks ≤ MAX_WORDS
  pub there : AreThere code ks

abbrev pub IsShort : PrintTable → Type 0
IsShort table = length table.parts ≤ MAX_PARTS

-- the shapes that a select table names are there
abbrev pub HasShapes : Code → SelectTable → Type 0
HasShapes code table = (n : ℕ) (x : Clause) → slice_get table.clauses n ≡ Some x → clause_shape x < length code.shapes

-- V7, a default counted too, and, of the shapes that a select table names, V1
pub record IsSelect (code : Code) (table : SelectTable) : Type 0 where
  pub most : length (targets table) ≤ MAX_CLAUSES
  pub there : HasShapes code table

-- V8
pub record HasMain (code : Code) : Type 0 where
  pub number : ℕ
  pub function : Function
  pub first : main_of code.functions ≡ Some number
  pub there : slice_get code.functions number ≡ Some function
  pub params : function.params ≡ 0
  pub results : function.results ≡ []

-- all of it
pub record IsVerified (code : Code) : Type 0 where
  pub shapes : (s : ℕ) (ks : List WordKind) → slice_get code.shapes s ≡ Some ks → IsShaped code ks
  pub prints : (q : ℕ) (table : PrintTable) → slice_get code.prints q ≡ Some table → IsShort table
  pub selects : (q : ℕ) (table : SelectTable) → slice_get code.selects q ≡ Some table → IsSelect code table
  pub functions : (g : ℕ) (f : Function) → slice_get code.functions g ≡ Some f → Holds code f
  pub main : HasMain code

-- some path leads to an instruction that it does not fit, and the rule is this
abbrev pub Misfit : Code → Function → Rule → ℕ → Type 0
Misfit code f rule place =
    (n : ℕ) × (ks : List WordKind) × (i : Instr) × Path code f n place ks × (slice_get f.instrs place ≡ Some i) × (rule_of i ≡ rule) × (Fits code f i ks → ⊥)

-- two paths lead there with different kinds
abbrev pub Parting : Code → Function → ℕ → Type 0
Parting code f place =
    (n : ℕ) × (m : ℕ) × (ks : List WordKind) × (js : List WordKind) × Path code f n place ks × Path code f m place js × (ks ≡ js → ⊥)

-- a rule that a function violates at pc `place`; its heading counts as pc 0
abbrev pub BrokenIn : Code → Function → Rule → ℕ → Type 0
BrokenIn code f Names place = ((i : Instr) × (slice_get f.instrs place ≡ Some i) × (Named code f i × Inside f place i → ⊥)) ⊎ ((place ≡ 0) × (IsHeaded code f → ⊥))
BrokenIn code f Targets place = (i : Instr) × (slice_get f.instrs place ≡ Some i) × (Directed code place i → ⊥)
BrokenIn code f Paths place = Misfit code f Paths place ⊎ Parting code f place
BrokenIn code f Calls place = Misfit code f Calls place
BrokenIn code f Returns place = Misfit code f Returns place
BrokenIn code f Locals place = Misfit code f Locals place
BrokenIn code f Tables place = ⊥
BrokenIn code f Main place = ⊥

-- a rule that code violates outside its functions; `place` is the number of the shape or table
abbrev pub BrokenBeside : Code → Rule → ℕ → Type 0
BrokenBeside code Names place =
    ((ks : List WordKind) × (slice_get code.shapes place ≡ Some ks) × (AreThere code ks → ⊥))
    ⊎ ((table : SelectTable) × (slice_get code.selects place ≡ Some table) × (HasShapes code table → ⊥))
BrokenBeside code Tables place =
    ((ks : List WordKind) × (slice_get code.shapes place ≡ Some ks) × (IsSized ks → ⊥))
    ⊎ ((table : PrintTable) × (slice_get code.prints place ≡ Some table) × (IsShort table → ⊥))
    ⊎ ((table : SelectTable) × (slice_get code.selects place ≡ Some table) × (IsFew table → ⊥))
BrokenBeside code Main place = (place ≡ 0) × (HasMain code → ⊥)
BrokenBeside code rule place = ⊥

-- a rule that is violated at a pc of a function, or outside the functions, in which case the function's number is 0
abbrev pub Breaks : Code → Rule → ℕ → ℕ → Type 0
Breaks code rule function place =
    ((f : Function) × (slice_get code.functions function ≡ Some f) × BrokenIn code f rule place) ⊎ ((function ≡ 0) × BrokenBeside code rule place)

-- a path leads to this instruction of this function with these kinds on the stack
abbrev pub At : Code → ℕ → ℕ → List WordKind → Type 0
At code g place ks = (f : Function) × (slice_get code.functions g ≡ Some f) × (n : ℕ) × Path code f n place ks

-- a word is of a kind, and words of kinds, one by one
abbrev pub Has : Word → WordKind → Type 0
Has (Int n) kinds.Int = Unit {0}
Has (Truth b) kinds.Bool = Unit {0}
Has (Chan c) (kinds.Chan s) = Unit {0}
Has w k = ⊥

abbrev pub AllHave : List Word → List WordKind → Type 0
AllHave [] [] = Unit {0}
AllHave (w ∷ ws) (k ∷ ks) = Has w k × AllHave ws ks
AllHave ws ks = ⊥

-- a frame's locals are of the function's kinds, which has these results
abbrev pub Stands : Code → Frame → List WordKind → Type 0
Stands code c results = (f : Function) × (slice_get code.functions c.function ≡ Some f) × (f.results ≡ results) × AllHave c.locals f.locals

-- each caller waits for results of these kinds, which the code at its pc expects on its stack
abbrev pub Await : Code → List WordKind → Frames → Type 0
Await code results [] = Unit {0}
Await code results (c ∷ cs) =
    (own : List WordKind) × (ks : List WordKind) × Stands code c own × AllHave c.stack ks × (c.told ≡ []) × At code c.function c.place (ks ++ results) × Await code own cs

abbrev pub AreGood : Code → Frames → Type 0
AreGood code [] = ⊥
AreGood code (c ∷ cs) =
    (own : List WordKind) × (ks : List WordKind) × Stands code c own × AllHave (c.stack ++ c.told) ks × At code c.function c.place ks × Await code own cs

-- the frames of a goroutine of verified code: locals and stacks are of the kinds that paths lead to, at most 1,000 frames
pub record IsFrameOf (code : Code) (frames : Frames) : Type 0 where
  pub good : AreGood code frames
  pub depth : length frames ≤ MAX_DEPTH
