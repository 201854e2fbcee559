-- The code of statements with which nothing is wrong keeps the verifier's rules.
use Rattle.std.proofs.Common.{◌≡◌, ℕ, ◌+◌, ◌≤◌, Bool, true, false, List, [], ◌++◌, length, Option, Some, None, IfSome, refl, sym, ap, ◌∙◌, subst, arith, inl, inr}
use Rattle.std.specs.Prelude.{if◌then◌else◌}
use Rattle.go_text.specs.declared.rule.Rule.TheVariants as rules
use Rattle.syntax.specs.Tree.{Expression, IfHead, First, Bare, Semicolon, Target, Forever, While, ForClauses, Range, Statement, Empty, Alone, VarTyped, VarUntyped, Block, If, For, Select, Go, Return, Break, Continue, Statements, NoStatement, Then, Branch, Conditional, Otherwise, NoElse, ElseBlock, ElseIf, Clauses, NoClause, Clause}
use Rattle.syntax.specs.Measures.{comm_size, if_any, simple_size, expression_size, if_head_size, for_head_size, statement_size, statements_size}
use Rattle.std.proofs.lemmas.Bool.{OnTrue_from, OnTrue_at}
use Rattle.bytecode.specs.declared.instr.WordKind.{WordKind}
use Rattle.bytecode.specs.Code.{Function as CodeFunction, Code}
use Rattle.type_table.specs.Scopes.{Globals, Scope, Yield, entered, left, type_in}
use Rattle.typing_rules.specs.Expressions.{TestHas}
use Rattle.typing_rules.specs.Simples.{comm_simple}
use Rattle.typing_rules.specs.Statements.{Setting, head_simple, after_any, ForHeadHas, after_for_head, after, after_all, after_branch, after_otherwise, ClausesHave, StatementHas, StatementsHave, BranchHas, OtherwiseHas}
use Rattle.meaning.specs.Values.{known}
use Rattle.codegen_base.specs.declared.element.Element.{Element}
use Rattle.codegen_base.specs.Layouts.{Layout}
use Rattle.codegen_base.specs.Generated.{Site, Made, at, past, made_of, followed, ended, inside, loop, test_plan, made_any, made_post, made_else, item_site, with_way, comm_kinds, made_comm, made_select, made_ways, made_default, within_select, unless_ended, made, made_all, made_branch, made_otherwise}
use Rattle.syntax.specs.Grammar.{FormedStatement, FormedAll, FormedBranch, FormedOtherwise, FormedClauses}
use Rattle.codegen_base.proofs.Alike.{Alike, alike_entered, alike_left, type_alike}
use Rattle.codegen_base.proofs.Noted.{Noted}
use Rattle.codegen_base.proofs.StatementMakes.{OneMakes, SimpleMakes, IfHeadMakes, Makes, AllMake, BranchMakes, OtherwiseMakes, ClausesMake}
use Rattle.codegen_base.proofs.Typing.{Free, broken, not_false}
use Rattle.plan.specs.Plan.{Skip, reaches_end}
use Rattle.plan.proofs.Typed.{Allowed, in_loop, in_select, Typed}
use Rattle.codegen_fine.proofs.Operands.{Grounds}
use Rattle.codegen_fine.proofs.Branches.{typed_go}
use Rattle.codegen_fine.proofs.Places.{housed_of}
use Rattle.codegen_fine.proofs.Layouts.{Longer, longer_on, begins_before, Room, room_entering, room_leaving}
use Rattle.codegen_fine.proofs.Makes.{written, written_noted}
use Rattle.codegen_fine.proofs.Variables.{typed_typed, typed_untyped}
use Rattle.codegen_fine.proofs.Simples.{typed_simple}
use Rattle.codegen_fine.proofs.Growing.{longer_post, longer, longer_statements, longer_otherwise, longer_ways, longer_default, longer_as, longer_kept}
use Rattle.codegen_fine.proofs.Bodies.{prints_front, prints_back, IsMade, IsMadeAlike, Fits, fits_first, fits_rest, fits_as, made_followed, made_ended, runs_if, runs_else, runs_loop, typed_any, typed_post}
use Rattle.codegen_fine.proofs.Sees.{Sees}
use Rattle.codegen_fine.proofs.Comms.{comm_fine, comm_made}
use Rattle.codegen_fine.proofs.Selects.{alike_step, alike_right, alike_clauses, comm_same, WaysOf, join_way, last_way, typed_choice}
use Rattle.codegen_fine.proofs.Returns.{IsResult, typed_returned}

abbrev allowed : Bool → Bool → Allowed
allowed breaks continues = record { break = breaks; continue = continues }

module _ (globals : Globals) (elements : List Element) (code : Code) (f : CodeFunction) (grounds : Grounds globals elements code) (result : Yield) (yields : IsResult globals elements f result) where
  abbrev setting : Bool → Bool → Setting
  setting breaks continues = record { globals = globals; result = result; breaks = breaks; continues = continues }

  abbrev M : Allowed → Made → Type 0
  M a x = IsMade globals elements code f grounds a x

  abbrev MA : Allowed → Made → Scope → Type 0
  MA a x after = IsMadeAlike globals elements code f grounds a x after

  abbrev F : ℕ → Made → Type 0
  F first x = Fits globals elements code f grounds first x

  abbrev R : Layout → Type 0
  R layout = Room globals elements code f layout

  -- a statement's code, and that of what comes after it if its end is reached
  made_unless : (a : Allowed) (first : ℕ) (x y : Made) (following : Scope) → Longer x.layout y.layout → F first (unless_ended globals elements result x y) → (F first x → MA a x following) → (F (first + length x.prints) y → MA a x following → M a y) → M a (unless_ended globals elements result x y)
  made_unless a first x y following longer fits p q = go (reaches_end x.plan) fits where
    go : (t : Bool) → F first (if t then followed x y else x) → M a (if t then followed x y else x)
    go true h =
        let m = p (fits_first globals elements code f grounds first x y longer h) in
        made_followed globals elements code f grounds a x y m.0 (q (fits_rest globals elements code f grounds first x y h) m)
    go false h = (p h).0

  -- a block of its own
  blocked : (a : Allowed) (outer : Layout) (x : Made) (s inner : Scope) → R outer → Alike s outer.scope → M a x → MA a (ended outer x) (left s inner)
  blocked a outer x s inner room alike m = (made_ended globals elements code f grounds a outer x room m, alike_left s outer.scope inner x.layout.scope alike)

  head_makes : (head : IfHead) → IfHeadMakes globals elements head → IfSome (head_simple head) (SimpleMakes globals elements)
  head_makes (First simple) makes = makes
  head_makes Bare makes = tt
  head_makes Semicolon makes = tt

  -- the body of an `if`, before its other part
  fits_so : (site : Site) (condition : Expression) (so : Made) (otherwise : Otherwise) → F site.prints (made_otherwise globals elements result site condition so otherwise) → F site.prints so
  fits_so site condition so NoElse h = record { begins = h.begins; prints = h.prints }
  fits_so site condition so (ElseBlock body) h =
      record { begins = begins_before f so.layout (made_otherwise globals elements result site condition so (ElseBlock body)).layout (longer_otherwise globals elements result site condition so (ElseBlock body)) h.begins; prints = prints_front code site.prints so.prints _ h.prints }
  fits_so site condition so (ElseIf branch) h =
      record { begins = begins_before f so.layout (made_otherwise globals elements result site condition so (ElseIf branch)).layout (longer_otherwise globals elements result site condition so (ElseIf branch)) h.begins; prints = prints_front code site.prints so.prints _ h.prints }

  -- the parts of an `if` are those of what is made of it
  fits_else : (first : ℕ) (layout : Layout) (condition : Expression) (so other : Made) → F first (made_else globals elements result layout condition so other) → F (first + length so.prints) other
  fits_else first layout condition so other h = record { begins = h.begins; prints = prints_back code first so.prints other.prints h.prints }

  -- ---- what is so of ranges

  abbrev pub RangesHold : Type 0
  RangesHold = (target : Target) (channel : Expression) (body : Statements) (site : Site) (s : Scope) (a : Allowed) (first end : ℕ) → 1 ≤ end → R site.layout → Alike s site.layout.scope → Free (ForHeadHas globals (entered s) first (Range target channel) end) → OneMakes globals elements channel
      → F site.prints (made globals elements result site (For (Range target channel) body))
      → (R (item_site globals elements result site target channel).layout → Alike (after_for_head globals (entered s) (Range target channel)) (item_site globals elements result site target channel).layout.scope → F site.prints (made_all globals elements result (inside (item_site globals elements result site target channel)) body)
      → M in_loop (made_all globals elements result (inside (item_site globals elements result site target channel)) body))
      → M a (made globals elements result site (For (Range target channel) body))

  -- ---- selects

  abbrev WF : (layout : Layout) → R layout → Scope → Clauses → Allowed → Option Made → Type 0
  WF layout room s clauses a o = WaysOf globals elements code f grounds result layout room s clauses a o

  -- ways that are there fit
  abbrev FO : ℕ → Option Made → Type 0
  FO first None = Unit {0}
  FO first (Some m) = F first m

  fits_way : (first : ℕ) (ks : List WordKind) (one : Made) (o : Option Made) → IfSome o (λ m. Longer one.layout m.layout) → F first (with_way ks one o) → F first one × FO (first + length one.prints) o
  fits_way first ks one None longer h = (record { begins = h.begins; prints = h.prints }, tt)
  fits_way first ks one (Some m) longer h =
      (record { begins = begins_before f one.layout m.layout longer h.begins; prints = prints_front code first one.prints m.prints h.prints }, record { begins = h.begins; prints = prints_back code first one.prints m.prints h.prints })

  fits_select : (site : Site) (clauses : Clauses) (o : Option Made) → F site.prints (made_select globals elements result site clauses o) → FO site.prints o
  fits_select site clauses None h = tt
  fits_select site clauses (Some m) h = record { begins = h.begins; prints = h.prints }

  -- a default among other clauses
  as_none : (layout : Layout) (outer : R layout) (base : Scope) (body : Statements) (more : Clauses) (a : Allowed) (o : Option Made) → WF layout outer base more a o → WF layout outer base (Clause None body more) a o
  as_none layout outer base body more a None none = none
  as_none layout outer base body more a (Some m) w = record { least = w.least; most = w.most; begin = w.begin; kinds_are = w.kinds_are; runs = w.runs; following = w.following; seen = w.seen }

  module _ (ranges : RangesHold) where
    mutual
      pub typed_statement : (statement : Statement) (site : Site) (s : Scope) (breaks continues : Bool) (first : ℕ) → R site.layout → Alike s site.layout.scope → FormedStatement statement → Free (StatementHas (setting breaks continues) s first statement) → Makes globals elements statement
          → F site.prints (made globals elements result site statement) → MA (allowed breaks continues) (made globals elements result site statement) (after globals s statement)
      typed_statement Empty site s b c first room alike still free makes fits = (record { runs = λ place tabled. refl; room = room }, alike)
      typed_statement (Alone simple) site s b c first room alike still free makes fits =
          let d = typed_simple globals elements code f grounds site.layout room s alike site.prints simple first free makes fits.begins fits.prints in
          (record { runs = λ place tabled. d.leaves (allowed b c) [] [] refl; room = d.room }, d.alike)
      typed_statement (VarTyped names kind right) site s b c first room alike still free makes fits =
          let (t, is) = written globals.types s kind first (λ violation h. free violation (inl h)) in
          let same = type_alike s site.layout.scope alike globals.types kind in
          let here-is : type_in globals.types site.layout.scope kind ≡ Some t = sym same ∙ is in
          let own : t ≡ known (type_in globals.types site.layout.scope kind) = sym (ap known here-is) in
          let noted = written_noted globals.types elements site.layout.scope kind t makes.0 here-is in
          let d = typed_typed globals elements code f grounds site.layout room s alike names kind right first (known (type_in globals.types site.layout.scope kind)) (is ∙ ap Some own) (subst (Noted elements) own noted) free makes.1 fits.begins in
          (record { runs = λ place tabled. d.leaves (allowed b c) [] [] refl; room = d.room }, d.alike)
      typed_statement (VarUntyped names right) site s b c first room alike still free makes fits =
          let d = typed_untyped globals elements code f grounds site.layout room s alike names right first free makes fits.begins in
          (record { runs = λ place tabled. d.leaves (allowed b c) [] [] refl; room = d.room }, d.alike)
      typed_statement (Block body) site s b c first room alike still free makes fits =
          let inner = made_all globals elements result (inside site) body in
          blocked (allowed b c) site.layout inner s (after_all globals (entered s) body) room alike
          (typed_statements body (inside site) (entered s) b c first (room_entering globals elements code f site.layout room) (alike_entered s site.layout.scope alike) still free makes (fits_as globals elements code f grounds site.prints (ended site.layout inner) inner refl refl fits))
      typed_statement (If branch) site s b c first room alike still free makes fits = typed_branch branch site s b c first room alike still free makes fits
      typed_statement (For Forever body) site s b c first room alike still free makes fits =
          let inner = made_all globals elements result (inside site) body in
          let m = typed_statements body (inside site) (entered s) true true (first + for_head_size Forever) (room_entering globals elements code f site.layout room) (alike_entered s site.layout.scope alike) still (λ violation h. free violation (inr h)) makes.1
          (fits_as globals elements code f grounds site.prints (made globals elements result site (For Forever body)) inner refl refl fits) in (
            record { runs = runs_loop globals elements code f grounds site.layout room (entered s) alike.named None first (λ violation h. h) tt (allowed b c) inner.plan Skip m.runs (λ place tabled. refl); room = room_leaving globals elements code f site.layout inner.layout room m.room },
            alike_left s site.layout.scope (after_all globals (entered s) body) inner.layout.scope alike,
          )
      typed_statement (For (While condition) body) site s b c first room alike still free makes fits =
          let inner = made_all globals elements result (inside site) body in
          let m = typed_statements body (inside site) (entered s) true true (first + for_head_size (While condition)) (room_entering globals elements code f site.layout room) (alike_entered s site.layout.scope alike) still (λ violation h. free violation (inr h)) makes.1
          (fits_as globals elements code f grounds site.prints (made globals elements result site (For (While condition) body)) inner refl refl fits) in (
            record { runs = runs_loop globals elements code f grounds site.layout room (entered s) alike.named (Some condition) first (λ violation h. free violation (inl h)) makes.0 (allowed b c) inner.plan Skip m.runs (λ place tabled. refl); room = room_leaving globals elements code f site.layout inner.layout room m.room },
            alike_left s site.layout.scope (after_all globals (entered s) body) inner.layout.scope alike,
          )
      typed_statement (For (ForClauses simple condition post) body) site s b c first room alike still free makes fits =
          let header = made_any globals elements (inside site) simple in
          let following = past (inside site) header in
          let inner = made_all globals elements result (inside following) body in
          let within = ended header.layout inner in
          let turn = made_post globals elements header.layout (past following within) post in
          let looped = made_of (loop (test_plan globals elements header.layout condition) within.plan turn.plan) (within.prints ++ turn.prints) turn.layout in
          let kept : Longer header.layout within.layout = longer_kept header.layout inner.layout (longer_statements globals elements result (inside following) body) in
          let last : Longer within.layout turn.layout = longer_post globals elements header.layout (past following within) post in
          let all-fit = fits_as globals elements code f grounds site.prints (made globals elements result site (For (ForClauses simple condition post) body)) (followed header looped) refl refl fits in
          let head = typed_any globals elements code f grounds (inside site) (room_entering globals elements code f site.layout room) (entered s) simple first (allowed b c) (alike_entered s site.layout.scope alike) (λ violation h. free violation (inl (inl h))) makes.0.0
          (fits_first globals elements code f grounds site.prints header looped (longer_on header.layout within.layout turn.layout kept last) all-fit) in
          let h = after_any globals (entered s) simple in
          let loop-fits = fits_rest globals elements code f grounds site.prints header looped all-fit in
          let inner-fits : F following.prints inner = record { begins = begins_before f inner.layout turn.layout (longer_as within.layout turn.layout inner.layout turn.layout refl refl last) loop-fits.begins; prints = prints_front code following.prints within.prints turn.prints loop-fits.prints } in
          let m = typed_statements body (inside following) (entered h) true true (first + for_head_size (ForClauses simple condition post)) (room_entering globals elements code f header.layout head.0.room) (alike_entered h header.layout.scope head.1) still.1 (λ violation x. free violation (inr x)) makes.1 inner-fits in
          let within-room = room_leaving globals elements code f header.layout inner.layout head.0.room m.room in
          let p = typed_post globals elements code f grounds header.layout (past following within) head.0.room within-room h head.1.named post (first + if_any simple_size simple + if_any expression_size condition) (allowed b c) still.0 (λ violation x. free violation (inl (inr (inr x)))) makes.0.2
          (prints_back code following.prints within.prints turn.prints loop-fits.prints) in
          let l : M (allowed b c) looped = record { runs = runs_loop globals elements code f grounds header.layout head.0.room h head.1.named condition (first + if_any simple_size simple) (λ violation x. free violation (inl (inr (inl x)))) makes.0.1 (allowed b c) within.plan turn.plan m.runs p.runs; room = p.room } in
          blocked (allowed b c) site.layout (followed header looped) s (after_all globals (entered h) body) room alike (made_followed globals elements code f grounds (allowed b c) header looped head.0 l)
      typed_statement (For (Range target channel) body) site s b c first room alike still free makes fits =
          let item = item_site globals elements result site target channel in
          let x = after_for_head globals (entered s) (Range target channel) in (
            ranges target channel body site s (allowed b c) first (first + statement_size (For (Range target channel) body)) (omega arith) room alike (λ violation h. free violation (inl h)) makes.0 fits
                (λ item-room item-alike inner-fits. typed_statements body (inside item) (entered x) true true (first + for_head_size (Range target channel)) (room_entering globals elements code f item.layout item-room) (alike_entered x item.layout.scope item-alike) still (λ violation h. free violation (inr h)) makes.1 inner-fits),
            alike_left s site.layout.scope (after_all globals (entered x) body) (made globals elements result site (For (Range target channel) body)).layout.scope alike,
          )
      typed_statement (Select clauses) site s b c first room alike still free makes fits =
          let default : Site → Option Made = λ following. made_default globals elements result following clauses in
          let o = made_ways globals elements result (within_select globals elements result site) default clauses in
          let w = typed_ways clauses (within_select globals elements result site) site.layout room s s alike.named b c first room alike alike still (λ violation h. free violation (inl h)) makes default (λ following. longer_default globals elements result following clauses)
          (λ following following-room seen h. typed_default clauses following site.layout room s s b c first following-room seen seen still (λ violation h. free violation (inl h)) makes h) (fits_select site clauses o fits) in
          let x = typed_choice globals elements code f grounds result site.layout room site refl s alike.named clauses b c first (allowed b c) o (λ violation h. free violation (inl h)) makes alike w in
          (x.0, alike_clauses globals clauses s (made globals elements result site (Select clauses)).layout.scope x.1)
      typed_statement (Go function arguments) site s b c first room alike still free makes fits =
          (record { runs = λ place tabled. typed_go globals elements code f grounds site.layout.scope (housed_of globals elements f site.layout.scope room.housed) s alike.named function arguments first free makes (allowed b c) [] [] refl; room = room }, alike)
      typed_statement (Return returned) site s b c first room alike still free makes fits =
          (record { runs = λ place tabled. typed_returned globals elements code f grounds site.layout room s alike.named result yields returned first free makes (allowed b c) []; room = room }, alike)
      typed_statement Break site s b c first room alike still free makes fits =
          let x = broken rules.Branch (first + 1) (omega arith) in (record { runs = λ place tabled. (not_false b (λ e. free x.0 (e, x.1)), refl); room = room }, alike)
      typed_statement Continue site s b c first room alike still free makes fits =
          let x = broken rules.Branch (first + 1) (omega arith) in (record { runs = λ place tabled. (not_false c (λ e. free x.0 (e, x.1)), refl); room = room }, alike)

      pub typed_statements : (body : Statements) (site : Site) (s : Scope) (breaks continues : Bool) (first : ℕ) → R site.layout → Alike s site.layout.scope → FormedAll body → Free (StatementsHave (setting breaks continues) s first body) → AllMake globals elements body
          → F site.prints (made_all globals elements result site body) → M (allowed breaks continues) (made_all globals elements result site body)
      typed_statements NoStatement site s b c first room alike still free makes fits = record { runs = λ place tabled. refl; room = room }
      typed_statements (Then statement rest) site s b c first room alike still free makes fits =
          let one = made globals elements result site statement in
          let more = made_all globals elements result (past site one) rest in
          made_unless (allowed b c) site.prints one more (after globals s statement) (longer_statements globals elements result (past site one) rest) fits
          (λ h. typed_statement statement site s b c first room alike still.0 (λ violation x. free violation (inl x)) makes.0 h)
          (λ h m. typed_statements rest (past site one) (after globals s statement) b c (first + statement_size statement) m.0.room m.1 still.1 (λ violation x. free violation (inr x)) makes.1 h)

      pub typed_branch : (branch : Branch) (site : Site) (s : Scope) (breaks continues : Bool) (first : ℕ) → R site.layout → Alike s site.layout.scope → FormedBranch branch → Free (BranchHas (setting breaks continues) s first branch) → BranchMakes globals elements branch
          → F site.prints (made_branch globals elements result site branch) → MA (allowed breaks continues) (made_branch globals elements result site branch) (after_branch globals s branch)
      typed_branch (Conditional head condition body otherwise) site s b c first room alike still free makes fits =
          let simple = head_simple head in
          let header = made_any globals elements (inside site) simple in
          let following = past (inside site) header in
          let inner = made_all globals elements result (inside following) body in
          let so = ended header.layout inner in
          let other = made_otherwise globals elements result following condition so otherwise in
          let block = first + if_head_size head + expression_size condition in
          let kept : Longer header.layout so.layout = longer_kept header.layout inner.layout (longer_statements globals elements result (inside following) body) in
          let last : Longer so.layout other.layout = longer_otherwise globals elements result following condition so otherwise in
          let all-fit = fits_as globals elements code f grounds site.prints (made_branch globals elements result site (Conditional head condition body otherwise)) (followed header other) refl refl fits in
          let top = typed_any globals elements code f grounds (inside site) (room_entering globals elements code f site.layout room) (entered s) simple first (allowed b c) (alike_entered s site.layout.scope alike) (λ violation h. free violation (inl (inl h))) (head_makes head makes.0)
          (fits_first globals elements code f grounds site.prints header other (longer_on header.layout so.layout other.layout kept last) all-fit) in
          let h = after_any globals (entered s) simple in
          let other-fits = fits_rest globals elements code f grounds site.prints header other all-fit in
          let m = typed_statements body (inside following) (entered h) b c block (room_entering globals elements code f header.layout top.0.room) (alike_entered h header.layout.scope top.1) still.0 (λ violation x. free violation (inr (inl x))) makes.2
          (fits_as globals elements code f grounds following.prints so inner refl refl (fits_so following condition so otherwise other-fits)) in
          let so-made = made_ended globals elements code f grounds (allowed b c) header.layout inner top.0.room m in
          let next = left h (after_all globals (entered h) body) in
          let o = typed_otherwise otherwise following h next condition (first + if_head_size head) (λ violation x. free violation (inl (inr x))) makes.1 so b c (block + statements_size body + 1) top.0.room top.1 so-made (alike_left h header.layout.scope (after_all globals (entered h) body) inner.layout.scope top.1) still.1 (λ violation x. free violation (inr (inr x))) makes.3 other-fits in
          blocked (allowed b c) site.layout (followed header other) s (after_otherwise globals next otherwise) room alike (made_followed globals elements code f grounds (allowed b c) header other top.0 o)

      typed_otherwise : (otherwise : Otherwise) (site : Site) (h s : Scope) (condition : Expression) (at : ℕ) → Free (TestHas globals h at condition) → OneMakes globals elements condition → (so : Made) (breaks continues : Bool) (first : ℕ) → R site.layout → Alike h site.layout.scope → M (allowed breaks continues) so → Alike s so.layout.scope → FormedOtherwise otherwise
          → Free (OtherwiseHas (setting breaks continues) s first otherwise) → OtherwiseMakes globals elements otherwise → F site.prints (made_otherwise globals elements result site condition so otherwise) → M (allowed breaks continues) (made_otherwise globals elements result site condition so otherwise)
      typed_otherwise NoElse site h s condition at test tested so b c first room alike m so-alike still free makes fits = runs_if globals elements code f grounds site.layout room h alike.named result condition at test tested (allowed b c) so m
      typed_otherwise (ElseBlock body) site h s condition at test tested so b c first room alike m so-alike still free makes fits =
          let following = past site so in
          let inner = made_all globals elements result (inside following) body in
          let other = ended site.layout inner in
          let other-fits = fits_else site.prints site.layout condition so other fits in
          let n = typed_statements body (inside following) (entered s) b c first (room_entering globals elements code f so.layout m.room) (alike_entered s so.layout.scope so-alike) still free makes (fits_as globals elements code f grounds following.prints other inner refl refl other-fits) in
          runs_else globals elements code f grounds site.layout room h alike.named result condition at test tested (allowed b c) so other m (made_ended globals elements code f grounds (allowed b c) site.layout inner room n)
      typed_otherwise (ElseIf branch) site h s condition at test tested so b c first room alike m so-alike still free makes fits =
          let following = past site so in
          let other = made_branch globals elements result following branch in
          let n = typed_branch branch following s b c first m.room so-alike still free makes (fits_else site.prints site.layout condition so other fits) in
          runs_else globals elements code f grounds site.layout room h alike.named result condition at test tested (allowed b c) so other m n.0

      typed_ways : (clauses : Clauses) (site : Site) (layout : Layout) (outer : R layout) (base s : Scope) → Sees s layout.scope → (breaks continues : Bool) (first : ℕ) → R site.layout → Alike base site.layout.scope → Alike s site.layout.scope → FormedClauses clauses → Free (ClausesHave (setting breaks continues) s first clauses)
          → ClausesMake globals elements clauses → (default : Site → Option Made) → ((following : Site) → IfSome (default following) (λ m. Longer following.layout m.layout))
          → ((following : Site) → R following.layout → Alike base following.layout.scope → FO following.prints (default following) → WF layout outer base NoClause (in_select (allowed breaks continues)) (default following)) → FO site.prints (made_ways globals elements result site default clauses)
          → WF layout outer base clauses (in_select (allowed breaks continues)) (made_ways globals elements result site default clauses)
      typed_ways NoClause site layout outer base s sees b c first room seen alike still free makes default grows last fits = last site room seen fits
      typed_ways (Clause None body more) site layout outer base s sees b c first room seen alike still free makes default grows last fits =
          let inner = after_all globals (entered s) body in
          as_none layout outer base body more (in_select (allowed b c)) (made_ways globals elements result site default more)
          (typed_ways more site layout outer base (left s inner) sees b c (first + if_any comm_size None + statements_size body + 1) room seen (alike_step s site.layout.scope inner alike) still.1 (λ violation h. free violation (inr (inr h))) makes.2 default grows last fits)
      typed_ways (Clause (Some comm) body more) site layout outer base s sees b c first room seen alike still free makes default grows last fits =
          let ks = comm_kinds globals elements result site.layout comm in
          let begun = made_comm globals elements result (inside site) comm in
          let following = past (inside site) begun in
          let inner = made_all globals elements result following body in
          let one = ended site.layout (followed begun inner) in
          let o = made_ways globals elements result (past site one) default more in
          let parts = fits_way site.prints ks one o (longer_ways globals elements result (past site one) default more grows) fits in
          let both = fits_as globals elements code f grounds site.prints one (followed begun inner) refl refl parts.0 in
          let grown = longer_statements globals elements result following body in
          let within = room_entering globals elements code f site.layout room in
          let cm = comm_made globals elements code f grounds result (inside site).layout within (entered s) (alike_entered s site.layout.scope alike) comm first (λ violation h. free violation (inl h)) makes.0 (begins_before f begun.layout inner.layout grown both.begins) in
          let checked = after_any globals (entered s) (Some (comm_simple comm)) in
          let m = typed_statements body following checked true c (first + comm_size comm) cm.following cm.seen still.0 (λ violation h. free violation (inr (inl h))) makes.1
          (fits_rest globals elements code f grounds site.prints begun inner both) in
          let a = in_select (allowed b c) in
          let takes = subst (λ (l : List WordKind). Typed code f a l begun.plan []) (comm_same globals elements code f grounds result comm (inside site).layout site.layout (λ name e. refl)) (cm.takes a) in
          let fine = comm_fine globals elements code f grounds result layout outer (entered s) sees comm first (λ violation h. free violation (inl h)) makes.0 in
          let ended-scope = after_all globals checked body in
          join_way globals elements code f grounds result layout outer base comm body more a ks one o
          (λ to. fine.gives to ∙ comm_same globals elements code f grounds result comm layout site.layout (λ name e. sym (sees name e) ∙ alike.named name e))
          (λ place tabled. ([], takes, OnTrue_from (reaches_end begun.plan) (Typed code f a [] inner.plan []) (λ e. m.runs _ (OnTrue_at e tabled.1))))
          (room_leaving globals elements code f site.layout inner.layout room m.room) (alike_right base site.layout.scope inner.layout.scope seen)
          (typed_ways more (past site one) layout outer base (left s ended-scope) sees b c (first + comm_size comm + statements_size body + 1) (room_leaving globals elements code f site.layout inner.layout room m.room) (alike_right base site.layout.scope inner.layout.scope seen) (alike_left s site.layout.scope ended-scope inner.layout.scope alike) still.1
          (λ violation h. free violation (inr (inr h))) makes.2 default grows last parts.1)

      typed_default : (clauses : Clauses) (site : Site) (layout : Layout) (outer : R layout) (base s : Scope) (breaks continues : Bool) (first : ℕ) → R site.layout → Alike base site.layout.scope → Alike s site.layout.scope → FormedClauses clauses → Free (ClausesHave (setting breaks continues) s first clauses) → ClausesMake globals elements clauses → FO site.prints (made_default globals elements result site clauses) → WF layout outer base NoClause (in_select (allowed breaks continues)) (made_default globals elements result site clauses)
      typed_default NoClause site layout outer base s b c first room seen alike still free makes fits = refl
      typed_default (Clause None body more) site layout outer base s b c first room seen alike still free makes fits =
          let inner = made_all globals elements result (inside site) body in
          let one = ended site.layout inner in
          let inner-fits : F site.prints inner = record { begins = record { more = fits.begins.more; is = fits.begins.is }; prints = fits.prints } in
          let m = typed_statements body (inside site) (entered s) true c (first + if_any comm_size None) (room_entering globals elements code f site.layout room) (alike_entered s site.layout.scope alike) still.0 (λ violation h. free violation (inr (inl h))) makes.1 inner-fits in
          last_way globals elements code f grounds result layout outer base (in_select (allowed b c)) one (made_ended globals elements code f grounds (in_select (allowed b c)) site.layout inner room m) (alike_right base site.layout.scope inner.layout.scope seen)
      typed_default (Clause (Some comm) body more) site layout outer base s b c first room seen alike still free makes fits =
          let ended-scope = after_all globals (after_any globals (entered s) (Some (comm_simple comm))) body in
          typed_default more site layout outer base (left s ended-scope) b c (first + comm_size comm + statements_size body + 1) room seen (alike_step s site.layout.scope ended-scope alike) still.1 (λ violation h. free violation (inr (inr h))) makes.2 fits
