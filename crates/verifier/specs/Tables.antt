-- The verifier's table of the kinds at each pc of a function, and what its steps do to it, as the code does: these words
-- are proved against the rules (bytecode's `Rules`), and claim nothing themselves.
use Rattle.std.specs.Prelude.{◌≡◌, ℕ, suc, ◌+◌, ◌<◌, ◌≤◌, List, [], ◌∷◌, length, Option, Some, None, Bool, true, false, cond, nat_lt, slice_get, slice_set}
use Rattle.std.specs.Global.{Vec}
use Rattle.bytecode.specs.declared.instr.WordKind.{WordKind}
use Rattle.bytecode.specs.declared.instr.Instr.{Instr}
use Rattle.bytecode.specs.declared.rule.Rule.{Rule}
use Rattle.bytecode.specs.declared.rule.Rule.TheVariants.{Paths}
use Rattle.bytecode.specs.Code.{Function, Code}
use Rattle.bytecode.specs.Effects.{Fits, afterwards, wants, count}
use Rattle.bytecode.specs.Rules.{ways, Path, Misfit, Parting, BrokenIn, Holds}
use Rattle.verifier.specs.declared.paths.Merge.{Merge}
use Rattle.verifier.specs.declared.paths.Merge.TheVariants.{Same, New, Differs}
use Rattle.verifier.specs.declared.paths.Visit.{Visit}
use Rattle.verifier.specs.declared.paths.Visit.TheVariants.{Settles, Grows, Unfit, Parts}
use Rattle.verifier.specs.declared.paths.Onward.{Onward}
use Rattle.verifier.specs.declared.paths.Onward.TheVariants.{Kept, Grown, Apart}
use Rattle.verifier.specs.declared.paths.Transfer.{Transfer}
use Rattle.verifier.specs.declared.paths.Transfer.TheVariants.{Dead, Unfits, Leads}
use Rattle.verifier.specs.declared.paths.Sweep.{Sweep}
use Rattle.verifier.specs.declared.paths.Sweep.TheVariants.{Done, More, Broken, Parted}
use Rattle.verifier.specs.declared.paths.Inferred.{Inferred}
use Rattle.verifier.specs.declared.paths.Inferred.TheVariants.{Full, BrokenAt, PartedAt}

-- a table of the kinds at each pc
abbrev pub Table : Type 0
Table = List (Option (Vec WordKind))

abbrev pub kinds_at : Option (Option (Vec WordKind)) → Option (List WordKind)
kinds_at None = None
kinds_at (Some None) = None
kinds_at (Some (Some ks)) = Some ks.items

abbrev pub entry : Table → ℕ → Option (List WordKind)
entry table place = kinds_at (slice_get table place)

-- the instruction at a pc with kinds fits them, and the pcs to which it leads have the kinds after it
abbrev pub Settled : Code → Function → Table → ℕ → Type 0
Settled code f table place =
    (ks : List WordKind) → entry table place ≡ Some ks → (i : Instr) × (slice_get f.instrs place ≡ Some i) × Fits code f i ks × ((k to : ℕ) → slice_get (ways code i place) k ≡ Some to → entry table to ≡ Some (afterwards code f i k ks))

-- the function starts with nothing on the stack, and each entry has its path
abbrev pub Reached : Code → Function → Table → Type 0
Reached code f table = (entry table 0 ≡ Some []) × ((place : ℕ) (ks : List WordKind) → entry table place ≡ Some ks → (n : ℕ) × Path code f n place ks)

-- how many pcs have no kinds yet
abbrev pub unknown : Table → ℕ
unknown [] = 0
unknown (None ∷ t) = suc (unknown t)
unknown (Some ks ∷ t) = unknown t

abbrev pub Merged : Merge → Table → Table → ℕ → List WordKind → Type 0
Merged Same old new to ks = (new ≡ old) × (entry old to ≡ Some ks)
Merged Differs old new to ks = (new ≡ old) × ((js : List WordKind) × (entry old to ≡ Some js) × (js ≡ ks → ⊥))
Merged New old new to ks = (entry old to ≡ None) × ((v : Vec WordKind) × (v.items ≡ ks) × (new ≡ slice_set old to (Some v)))

-- no entry is lost, and new ones are after `place` alone
pub record Ahead (old new : Table) (place : ℕ) : Type 0 where
  pub kept : (p : ℕ) (ks : List WordKind) → entry old p ≡ Some ks → entry new p ≡ Some ks
  pub same : (p : ℕ) → p ≤ place → entry new p ≡ entry old p
  pub fewer : unknown new ≤ unknown old

-- after a way to a pc, on a path
abbrev pub Led : Merge → Code → Function → Table → Table → ℕ → List WordKind → Type 0
Led Same code f old new to ks = (new ≡ old) × (entry old to ≡ Some ks)
Led Differs code f old new to ks = Parting code f to
Led New code f old new to ks = (unknown new < unknown old) × Merged New old new to ks

-- the result of a look at one pc
abbrev pub Visited : Visit → Code → Function → Table → Table → ℕ → Type 0
Visited Settles code f old new place = Ahead old new place × Settled code f new place
Visited Grows code f old new place = unknown new < unknown old
Visited (Unfit rule) code f old new place = Misfit code f rule place
Visited (Parts to) code f old new place = Parting code f to

-- the instruction there fits the kinds there, of which its operands begin at a number
pub record LeadsOn (code : Code) (f : Function) (table : Table) (place : ℕ) (i : Instr) (ks : List WordKind) (at : ℕ) : Type 0 where
  pub fetched : slice_get f.instrs place ≡ Some i
  pub here : entry table place ≡ Some ks
  pub fits : Fits code f i ks
  pub operands : at + count (wants code f i) ≡ length ks

abbrev pub Steps : Transfer → Code → Function → Table → ℕ → Type 0
Steps Dead code f table place = entry table place ≡ None
Steps (Unfits rule) code f table place = Misfit code f rule place
Steps (Leads i ks at) code f table place = LeadsOn code f table place i ks.items at

-- each way of an instruction leads to its pc on a path
abbrev pub AreReached : Code → Function → ℕ → Instr → List WordKind → Type 0
AreReached code f place i ks = (k to : ℕ) → slice_get (ways code i place) k ≡ Some to → (n : ℕ) × Path code f n to (afterwards code f i k ks)

-- the outcome of a way from `place` to `to`: an entry made after the first is looked at in the same pass
abbrev pub onward_of : Merge → ℕ → ℕ → Onward
onward_of Same place to = Kept
onward_of New place to = cond (nat_lt place to) Kept Grown
onward_of Differs place to = Apart to

-- after the way of this number, if there is one
abbrev pub Followed : Onward → Code → Function → Table → Table → ℕ → Instr → List WordKind → ℕ → Type 0
Followed Kept code f old new place i ks number =
    Ahead old new place × ((to : ℕ) → slice_get (ways code i place) number ≡ Some to → entry new to ≡ Some (afterwards code f i number ks))
Followed Grown code f old new place i ks number = unknown new < unknown old
Followed (Apart to) code f old new place i ks number = Parting code f to

-- after `number` ways of an instruction
abbrev pub Spread : Bool → Code → Function → Table → Table → ℕ → Instr → List WordKind → ℕ → Type 0
Spread false code f old new place i ks number =
    Ahead old new place × ((k to : ℕ) → k < number → slice_get (ways code i place) k ≡ Some to → entry new to ≡ Some (afterwards code f i k ks))
Spread true code f old new place i ks number = unknown new < unknown old

-- a sweep so far
abbrev pub Going : Bool → Code → Function → Table → Table → ℕ → Type 0
Going false code f old new place = (unknown new ≤ unknown old) × ((q : ℕ) → q < place → Settled code f new q)
Going true code f old new place = unknown new < unknown old

abbrev pub Swept : Sweep → Code → Function → Table → Table → Type 0
Swept Done code f old new = (q : ℕ) → q < length f.instrs → Settled code f new q
Swept More code f old new = unknown new < unknown old
Swept (Broken rule place) code f old new = Misfit code f rule place
Swept (Parted to) code f old new = Parting code f to

abbrev pub Full' : Code → Function → Table → Type 0
Full' code f table = (entry table 0 ≡ Some []) × ((q : ℕ) → q < length f.instrs → Settled code f table q)

abbrev pub Infers : Inferred → Code → Function → Type 0
Infers (Full table) code f = (length table.items ≡ length f.instrs) × Full' code f table.items
Infers (BrokenAt rule place) code f = Misfit code f rule place
Infers (PartedAt to) code f = Parting code f to

abbrev pub judged_of : Inferred → Option (Rule × ℕ)
judged_of (Full table) = None
judged_of (BrokenAt rule place) = Some (rule, place)
judged_of (PartedAt to) = Some (Paths, to)

abbrev pub Judged : Option (Rule × ℕ) → Code → Function → Type 0
Judged None code f = Holds code f
Judged (Some b) code f = BrokenIn code f b.0 b.1
