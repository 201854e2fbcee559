-- The code of what is still to be done, and its pcs.
use Rattle.std.proofs.Common.{◌≡◌, ℕ, ◌+◌, ◌≤◌, Bool, true, List, [], ◌∷◌, ◌++◌, length, map, take, drop, Option, Some, None, IfSome, slice_get}
use Rattle.syntax.specs.declared.node.Direction.{Direction}
use Rattle.syntax.specs.Tree.{Expression, Simple, Statement, Block, Statements, Otherwise}
use Rattle.bytecode.specs.declared.instr.Instr.TheVariants as instrs
use Rattle.bytecode.specs.Code.{PrintTable, Code}
use Rattle.bytecode.specs.Effects.{shape_kinds}
use Rattle.type_table.specs.Types.{ValueType, ChannelType}
use Rattle.type_table.specs.Scopes.{Variable, Globals, Scope, entered, left, last_named}
use Rattle.typing_rules.specs.Expressions.{TestHas}
use Rattle.typing_rules.specs.Simples.{SimpleHas}
use Rattle.typing_rules.specs.Statements.{Setting, after, after_all, StatementHas, StatementsHave, OtherwiseHas}
use Rattle.type_table.specs.Zeros.{zero_words}
use Rattle.meaning.specs.Values.{Value, known, words_in, words_like}
use Rattle.meaning.specs.Expressions.{zero_result}
use Rattle.meaning.specs.Variables.{Destination, blank}
use Rattle.meaning.specs.Tasks.{Loop, Repeating, Ranging, Task, Do, EndBlock, Decide, Head, Again, Turn, EndSelect}
use Rattle.codegen_base.specs.Pushes.{pushes_zeros, drops}
use Rattle.codegen_base.specs.Statements.{Spot, assigns}
use Rattle.codegen_base.specs.Elements.{kinds_of}
use Rattle.codegen_base.specs.Generated.{Site, Made, past, ended, inside, loop, test_plan, made_post, made, made_all, made_otherwise, result_kinds}
pub use Rattle.codegen_base.proofs.StatementMakes.{DeclaresNone, OneMakes, ValuesMake, PartsMake, SimpleMakes, ReturnedMakes, IfHeadMakes, ForHeadMakes, CommMakes, Makes, AllMake, BranchMakes, OtherwiseMakes, ClausesMake}
use Rattle.plan.specs.Plan.{Plan, Skip, Stop}
use Rattle.plan.proofs.Places.{At, On, Leads}
use Rattle.codegen_base.proofs.Alike.{Alike}
use Rattle.codegen_base.proofs.Known.{VariablesNoted}
use Rattle.codegen_base.proofs.Static.{innermost_begins, IsPlaced}
use Rattle.codegen_base.proofs.Typing.{Free}
use Rattle.codegen_base.proofs.Assigned.{AreSpots, following_all}
use Rattle.codegen_base.proofs.Running.{Compiled, Coded}

-- the pcs to which a break and a continue lead
pub record Around : Type 0 where
  pub leave : Option ℕ
  pub again : Option ℕ

-- in no loop and no select
abbrev pub nowhere : Around
nowhere = record { leave = None; again = None }

-- in a way of a select a break leads past the select
abbrev pub in_way : Around → Option ℕ → Around
in_way l out = record { leave = out; again = l.again }

-- what is known of the variables at a pc: the layout's site, the beginning of each block, and what the typing rules see
pub record View : Type 0 where
  pub site : Site
  pub begins : List ℕ
  pub checked : Scope

abbrev pub scope_of : View → Scope
scope_of view = view.site.layout.scope

abbrev pub variables : View → List Variable
variables view = (scope_of view).variables

-- the variables of the blocks round the innermost one are the same
abbrev pub Together : View → View → Type 0
Together view next = (next.begins ≡ view.begins) × (take (innermost_begins view.begins) (variables next) ≡ take (innermost_begins view.begins) (variables view))

-- the innermost block of the one is in the innermost block of the other
pub record Inner (outer view : View) : Type 0 where
  pub begin : ℕ
  pub begins : view.begins ≡ begin ∷ outer.begins
  pub within : take begin (variables view) ≡ variables outer

-- a block begins
abbrev pub opened : View → View
opened view = record { site = inside view.site; begins = length (variables view) ∷ view.begins; checked = entered view.checked }

-- print tables have numbers from a number on
abbrev pub Prints : Code → ℕ → List PrintTable → Type 0
Prints code first tables = (n : ℕ) (table : PrintTable) → slice_get tables n ≡ Some table → slice_get code.prints (first + n) ≡ Some table

module _ {globals : Globals} {program : Compiled globals} (coded : Coded program) where
  open program use {elements, code, wide as all}
  open coded use {function as f, result}

  abbrev pub IsOn : Around → Plan → ℕ → Option ℕ → Type 0
  IsOn l plan place out = On code.selects f.instrs l.leave l.again plan place out

  -- from `mid`, if it is reached, jumps alone lead to `to`
  abbrev pub LeadsOn : Option ℕ → Option ℕ → Type 0
  LeadsOn mid to = IfSome mid (λ m. Leads f.instrs m to)

  -- a statement's setting
  abbrev pub within : Bool → Bool → Setting
  within breaks continues = record { globals = globals; result = result; breaks = breaks; continues = continues }

  -- the variables are laid out as the layout says, and are those that the typing rules see; the elements of their types are noted
  pub record Fine (view : View) : Type 0 where
    pub placed : IsPlaced globals.structs (scope_of view) view.begins
    pub alike : Alike view.checked (scope_of view)
    pub noted : VariablesNoted elements globals (scope_of view)

  abbrev pub made_here : View → Statement → Made
  made_here view s = made globals elements result view.site s

  abbrev pub made_body : View → Statements → Made
  made_body view body = made_all globals elements result (inside view.site) body

  abbrev pub made_other : View → Expression → Statements → Otherwise → Made
  made_other view condition body otherwise = made_otherwise globals elements result view.site condition (ended view.site.layout (made_body view body)) otherwise

  -- after a statement
  abbrev pub following : View → Statement → View
  following view s = record { site = past view.site (made_here view s); begins = view.begins; checked = after globals view.checked s }

  -- after the first block of an if or a for
  abbrev pub after_body : View → Statements → View
  after_body view body = record {
    site = past view.site (ended view.site.layout (made_body view body));
    begins = view.begins;
    checked = left view.checked (after_all globals (entered view.checked) body);
  }

  -- what is made has its print tables, and locals enough for its variables
  pub record Fits (first : ℕ) (one : Made) : Type 0 where
    pub tables : Prints code first one.prints
    pub room : one.layout.scope.words ≤ length f.locals

  -- ---- tasks that are done at a pc

  pub record Doing (l : Around) (view : View) (s : Statement) (place : ℕ) (mid : Option ℕ) : Type 0 where
    pub first : ℕ
    pub breaks : Bool
    pub continues : Bool
    pub fine : Fine view
    pub good : Free (StatementHas (within breaks continues) view.checked first s)
    pub makes : Makes globals elements s
    pub on : IsOn l (made_here view s).plan place mid
    pub fits : Fits view.site.prints (made_here view s)

  pub record Deciding (l : Around) (view : View) (condition : Expression) (body : Statements) (otherwise : Otherwise) (place : ℕ) (mid : Option ℕ) : Type 0 where
    pub first : ℕ
    pub second : ℕ
    pub third : ℕ
    pub breaks : Bool
    pub continues : Bool
    pub fine : Fine view
    pub test : Free (TestHas globals view.checked first condition)
    pub good : Free (StatementsHave (within breaks continues) (entered view.checked) second body)
    pub other : Free (OtherwiseHas (within breaks continues) (left view.checked (after_all globals (entered view.checked) body)) third otherwise)
    pub test_makes : OneMakes globals elements condition
    pub makes : AllMake globals elements body
    pub other_makes : OtherwiseMakes globals elements otherwise
    pub on : IsOn l (made_other view condition body otherwise).plan place mid
    pub fits : Fits view.site.prints (made_other view condition body otherwise)

  -- the statements of a block
  pub record Live (view : View) (l : Around) (body : Statements) (place : ℕ) (out : Option ℕ) : Type 0 where
    pub first : ℕ
    pub breaks : Bool
    pub continues : Bool
    pub fine : Fine view
    pub good : Free (StatementsHave (within breaks continues) view.checked first body)
    pub makes : AllMake globals elements body
    pub on : IsOn l (made_all globals elements result view.site body).plan place out
    pub fits : Fits view.site.prints (made_all globals elements result view.site body)

  abbrev pub post_made : View → Statements → Option Simple → Made
  post_made view body post = made_post globals elements view.site.layout (after_body view body).site post

  -- a loop with a condition and a post statement; a continue leads to `again`
  pub record Looping (l : Around) (view : View) (condition : Option Expression) (post : Option Simple) (body : Statements) (head : ℕ) (out : Option ℕ) : Type 0 where
    pub first : ℕ
    pub second : ℕ
    pub third : ℕ
    pub fine : Fine view
    pub test : IfSome condition (λ c. Free (TestHas globals view.checked first c))
    pub good : Free (StatementsHave (within true true) (entered view.checked) second body)
    pub after_good : IfSome post (λ s. Free (SimpleHas globals (entered (after_body view body).checked) third s))
    pub test_makes : IfSome condition (OneMakes globals elements)
    pub makes : AllMake globals elements body
    pub post_makes : IfSome post (SimpleMakes globals elements)
    pub on : IsOn l (loop (test_plan globals elements view.site.layout condition) (made_body view body).plan (post_made view body post).plan) head out
    pub fits : Fits view.site.prints (made_body view body)
    pub post_fits : Fits (after_body view body).site.prints (post_made view body post)

  -- a value that is returned is of the function's result
  abbrev pub IsResult : Value → Type 0
  IsResult v = words_like (zero_result globals result) v ≡ v

  -- how many words values of these types take
  abbrev pub all_wide : List ValueType → ℕ
  all_wide [] = 0
  all_wide (kind ∷ types) = words_in globals.structs kind + all_wide types

  -- values of these types go to their destinations from the stack, after `dropped` words that are dropped
  pub record Assigning (l : Around) (view : View) (dropped : ℕ) (types : List ValueType) (destinations : List Destination) (next : View) (place : ℕ) (mid : Option ℕ) : Type 0 where
    pub spots : List Spot
    pub fine : Fine view
    pub spots_are : AreSpots globals.structs all (scope_of view) destinations types spots
    pub room : (following_all globals.structs all destinations (scope_of view)).words ≤ length f.locals
    pub on : IsOn l (drops dropped (assigns spots Skip)) place mid
    pub variables_are : variables next ≡ (following_all globals.structs all destinations (scope_of view)).variables

  -- ---- loops over a channel

  -- an item on the stack is dropped, or stored as a value of a type with the same zero
  abbrev pub Items : Around → View → ValueType → List Destination → View → ℕ → Option ℕ → Type 0
  Items l view kind [] next place mid = IsOn l (drops (words_in globals.structs kind) Skip) place mid × (variables next ≡ variables view)
  Items l view kind (first ∷ more) next place mid = (other : ValueType) × (zero_words globals.structs kind ≡ zero_words globals.structs other) × Assigning l view 0 (other ∷ []) (first ∷ more) next place mid

  -- the block of an item, in which the typing rules see this
  abbrev pub item_view : View → Scope → View
  item_view view checked = record { site = inside view.site; begins = length (variables view) ∷ view.begins; checked = checked }

  -- a loop over a channel, which is the variable `_` of the block round the items
  pub record RangingAt (l : Around) (view : View) (destinations : List Destination) (zero : Value) (body : Statements) (head : ℕ) (out : Option ℕ) : Type 0 where
    pub fine : Fine view
    pub direction : Direction
    pub kind : ValueType
    pub channel : Variable
    pub channel_is : last_named (drop (innermost_begins view.begins) (variables view)) blank ≡ Some channel
    pub carries : known channel.kind ≡ ChannelType direction kind
    pub below : channel.place + 1 ≤ (scope_of view).words
    pub room : (scope_of view).words ≤ length f.locals
    pub zero_is : zero ≡ zero_words globals.structs kind
    pub shape : ℕ
    pub shape_is : shape_kinds code shape ≡ kinds_of globals.structs elements kind
    pub check : ℕ
    pub again : Option ℕ
    pub exit : ℕ
    pub loads : At f.instrs head (instrs.Load channel.place 1)
    pub receives : At f.instrs (head + 1) (instrs.Receive shape)
    pub checks : Leads f.instrs (head + 1 + 1) (Some check)
    pub unless : At f.instrs check (instrs.Unless exit)
    pub checked : Scope
    pub next : View
    pub together : Together (item_view view checked) next
    pub mid : Option ℕ
    pub item : Items (record { leave = out; again = again }) (item_view view checked) kind destinations next (check + 1) mid
    pub goes : IfSome mid (λ p. Doing (record { leave = out; again = again }) next (Block body) p again)
    pub turns : IfSome again (λ m. (turn : ℕ) × Leads f.instrs m (Some turn) × At f.instrs turn (instrs.Loop head))
    pub ends : IsOn l (drops (words_in globals.structs kind) Skip) exit out

  -- values of these types are on the stack: those without a destination are dropped, and the others are stored as ones
  -- of types with the same zeros
  abbrev pub Taking : Around → View → List ValueType → List Destination → View → ℕ → Option ℕ → Type 0
  Taking l view types [] next place mid = IsOn l (drops (all_wide types) Skip) place mid × (variables next ≡ variables view)
  Taking l view types (first ∷ more) next place mid = (kept : List ValueType) × (others : List ValueType) × (map (zero_words globals.structs) types ≡ map (zero_words globals.structs) (kept ++ others)) × Assigning l view (all_wide others) kept (first ∷ more) next place mid

  -- ---- selects

  -- a way of a select, which is a block: values of these types go to destinations, and then its statements are done
  pub record WayAt (l : Around) (view : View) (types : List ValueType) (destinations : List Destination) (body : Statements) (place : ℕ) (out : Option ℕ) : Type 0 where
    pub outer : View
    pub begins_are : outer.begins ≡ view.begins
    pub same : variables outer ≡ variables view
    pub next : View
    pub together : Together (opened outer) next
    pub fine : Fine next
    pub mid : Option ℕ
    pub taking : Taking (in_way l out) (opened outer) types destinations next place mid
    pub live : IfSome mid (λ m. Live next (in_way l out) body m out)

  -- what a loop's head does at pc `head`
  abbrev pub Loops : Around → View → Loop → ℕ → Option ℕ → Type 0
  Loops l view (Repeating condition post body) head out = Looping l view condition post body head out
  Loops l view (Ranging destinations zero body) head out = RangingAt l view destinations zero body head out

  -- a task at pc `place`: its code leads to `mid`, where what is next has its variables
  abbrev pub Does : Around → View → Task → View → ℕ → Option ℕ → Type 0
  Does l view (Do s) next place mid = Doing l view s place mid × (variables next ≡ variables (following view s))
  Does l view (Decide condition body otherwise) next place mid = Deciding l view condition body otherwise place mid × (variables next ≡ variables view)
  Does l view (Head loop) next place mid = Loops l view loop place mid × (variables next ≡ variables view)
  Does l view (Turn loop) next place mid = (head : ℕ) × At f.instrs place (instrs.Loop head) × Loops l view loop head mid × (variables next ≡ variables view)
  Does l view task next place mid = ⊥

  -- where a loop's body ends
  abbrev pub Turns : Loop → Around → View → ℕ → Option ℕ → Option ℕ → Type 0
  Turns (Ranging destinations zero body) l view head out post_at = (d : RangingAt l view destinations zero body head out) × (d.again ≡ post_at)
  Turns (Repeating condition post body) l view head out post_at =
      Looping l view condition post body head out
      × IfSome post_at (λ m. (turn : ℕ) × IsOn l (post_made view body post).plan m (Some turn) × At f.instrs turn (instrs.Loop head))

  -- the code from pc `place` on does what is still to be done; what is never reached has no pc
  abbrev pub Sits : View → Around → Option ℕ → List Task → Type 0
  Sits view l place [] = (l ≡ nowhere) × IfSome place (λ p. IsOn nowhere (pushes_zeros (result_kinds globals elements result) Stop) p None)
  Sits view l place (EndBlock ∷ rest) = (outer : View) × Inner outer view × (to : Option ℕ) × IfSome place (λ p. Leads f.instrs p to) × Sits outer l to rest
  Sits view l place (EndSelect ∷ rest) =
      (outer : View) × Inner outer view × (around : Around) × (l.again ≡ around.again) × (to : Option ℕ) × LeadsOn l.leave to × IfSome place (λ p. Leads f.instrs p to) × Sits outer around to rest
  Sits view l place (Again loop ∷ rest) =
      (outer : View) × Inner outer view × (around : Around) × (next : View) × Together outer next × (variables next ≡ variables outer) × (head : ℕ) × (out : Option ℕ) × (l.leave ≡ out) × Turns loop around outer head out l.again
      × IfSome place (λ p. l.again ≡ Some p) × (to : Option ℕ) × LeadsOn out to × Sits next around to rest
  Sits view l place (task ∷ rest) =
      (next : View) × Together view next × (mid : Option ℕ) × IfSome place (λ p. Does l view task next p mid) × (to : Option ℕ) × LeadsOn mid to × Sits next l to rest
