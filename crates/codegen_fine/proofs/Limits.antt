-- The tables of a file whose lists keep their limits are as short as they may be.
use Rattle.std.proofs.Common.{ℕ, suc, ◌+◌, ◌≤◌, All, Bool, true, false, List, [], ◌∷◌, ◌++◌, length, Option, Some, None, arith}
use Rattle.std.specs.Prelude.{if◌then◌else◌}
use Rattle.std.proofs.lemmas.Bool.{OnTrue_from}
use Rattle.std.proofs.lemmas.List.{length-map}
use Rattle.std.proofs.lemmas.List.Elements.{All-append, All-nil, All-cons}
use Rattle.syntax.specs.Tree.{Expression, Simple, CallAlone, Close, Print, ReceiveAlone, Send, Increment, Decrement, Assign, Define, Update, IfHead, Bare, Semicolon, First, Target, Forever, While, ForClauses, Range, Returned, NoValue, ReturnedValue, Statement, Empty, Alone, VarTyped, VarUntyped, Block, If, For, Select, Go, Return, Break, Continue, Statements, NoStatement, Then, Branch, Conditional, Otherwise, NoElse, ElseBlock, ElseIf, Clauses, NoClause, Clause, Top, StructTop, FunctionTop}
use Rattle.syntax.specs.Measures.{Listing, Entries, SelectClauses, highest, if_any, simple_longest, if_head_longest, statement_longest, statements_longest, branch_longest, otherwise_longest, clauses_longest, clauses_count, top_longest}
use Rattle.bytecode.specs.declared.instr.WordKind.{WordKind}
use Rattle.bytecode.specs.Effects.{targets}
use Rattle.bytecode.specs.Rules.{IsFew, IsShort}
use Rattle.type_table.specs.Scopes.{Globals, Yield, type_in}
use Rattle.typing_rules.specs.Statements.{head_simple}
use Rattle.meaning.specs.Values.{known}
use Rattle.meaning.specs.Expressions.{number_of}
use Rattle.codegen_base.specs.declared.element.Element.{Element}
use Rattle.codegen_base.specs.Elements.{kinds_of}
use Rattle.codegen_base.specs.Layouts.{Layout, entering, keeping, carried}
use Rattle.codegen_base.specs.Program.{result_of, first_layout, made_function, all_prints, all_selects}
use Rattle.codegen_base.specs.Pushes.{drops, pushes_own, pushes_zeros}
use Rattle.codegen_base.specs.Statements.{printed_part, right_types}
use Rattle.codegen_base.specs.Generated.{Site, Made, past, made_of, followed, ended, inside, loop, test_plan, made_any, made_simple, made_post, made_comm, item_site, with_way, comm_kinds, made_select, made_ways, made_default, within_select, unless_ended, return_plan, result_type, result_kinds, keeps, receives, takes, made_range, select_table, made, made_all, made_branch, made_otherwise, made_body}
use Rattle.plan.specs.Plan.{Plan, Skip, Seq, IfElse, IfThen, Cycle, Choose, Stop, jump_size, size, starts, reaches_end, turns, table_count, tables}
use Rattle.plan.proofs.Tables.{Makes, all_made}
use Rattle.codegen_base.proofs.Before.{Before, Here, Step, Choice, zeros_before, pushes_before, clauses_before}
use Rattle.codegen_base.proofs.Plain.{drops_before, then_step, arguments_before, defines_before, simple_before, variables_before, comm_plain}
use Rattle.codegen_fine.proofs.Numbering.{takes_before}
use Rattle.codegen_fine.proofs.Selects.{comm_count}

-- ---- print tables and select tables of what is made

-- lists of each kind are no longer than may be
abbrev pub Small : (Listing → ℕ) → Type 0
Small most = (listing : Listing) → most listing ≤ 64

-- the tables of what is made are as short as may be
abbrev pub Short : Made → Type 0
Short x = All IsShort x.prints × Makes IsFew x.plan

before_few : (rest p : Plan) → Before rest p → Makes IsFew rest → Makes IsFew p
before_few rest _ (Here _) m = m
before_few rest _ (Step i _ p g) m = before_few rest p g m
before_few rest _ (Choice _ so other p x y g) m = ((before_few Skip so x tt, before_few Skip other y tt), OnTrue_from (reaches_end (IfElse so other)) (Makes IsFew p) (λ e. before_few rest p g m))

plain_few : (p : Plan) → Before Skip p → Makes IsFew p
plain_few p b = before_few Skip p b tt

seq_few : (first rest : Plan) → Makes IsFew first → Makes IsFew rest → Makes IsFew (Seq first rest)
seq_few first rest a b = (a, OnTrue_from (reaches_end first) (Makes IsFew rest) (λ e. b))

-- what has no tables
plain_short : (p : Plan) (layout : Layout) → Before Skip p → Short (made_of p [] layout)
plain_short p layout b = (All-nil IsShort, plain_few p b)

followed_short : (x y : Made) → Short x → Short y → Short (followed x y)
followed_short x y a b = (All-append IsShort x.prints y.prints a.0 b.0, seq_few x.plan y.plan a.1 b.1)

module _ (globals : Globals) (elements : List Element) (result : Yield) where
  simple_short : (site : Site) (simple : Simple) → Small (λ l. simple_longest l simple) → Short (made_simple globals elements site simple)
  simple_short site simple small = (prints simple small, plain_few _ (simple_before globals elements site.layout site.prints simple)) where
    prints : (simple : Simple) → Small (λ l. simple_longest l simple) → All IsShort (made_simple globals elements site simple).prints
    prints (Print line parts trailing) small = let most = small Entries in let same = length-map parts (printed_part globals elements site.layout.scope) in All-cons IsShort _ [] (omega (arith, most, same)) (All-nil IsShort)
    prints (CallAlone function arguments) small = All-nil IsShort
    prints (Close channel) small = All-nil IsShort
    prints (ReceiveAlone channel) small = All-nil IsShort
    prints (Send channel value) small = All-nil IsShort
    prints (Increment place) small = All-nil IsShort
    prints (Decrement place) small = All-nil IsShort
    prints (Assign places right) small = All-nil IsShort
    prints (Define names right) small = All-nil IsShort
    prints (Update place operator value) small = All-nil IsShort

  any_short : (site : Site) (simple : Option Simple) → Small (λ l. if_any (simple_longest l) simple) → Short (made_any globals elements site simple)
  any_short site None small = (All-nil IsShort, tt)
  any_short site (Some simple) small = simple_short site simple small

  post_short : (header : Layout) (site : Site) (simple : Option Simple) → Small (λ l. if_any (simple_longest l) simple) → Short (made_post globals elements header site simple)
  post_short header site None small = (All-nil IsShort, tt)
  post_short header site (Some simple) small = simple_short (record { layout = entering site.layout; prints = site.prints; selects = site.selects }) simple small

  head_short : (head : IfHead) → Small (λ l. if_head_longest l head) → Small (λ l. if_any (simple_longest l) (head_simple head))
  head_short Bare small l = omega arith
  head_short Semicolon small l = omega arith
  head_short (First simple) small l = small l

  loop_few : (layout : Layout) (condition : Option Expression) (body post : Plan) → Makes IsFew body → Makes IsFew post → Makes IsFew (loop (test_plan globals elements layout condition) body post)
  loop_few layout None body post b p = (b, OnTrue_from (turns body) (Makes IsFew post) (λ e. p))
  loop_few layout (Some condition) body post b p = (plain_few _ (pushes_before globals elements layout.scope _ condition Skip), b, OnTrue_from (turns body) (Makes IsFew post) (λ e. p), tt)

  returned_few : (layout : Layout) (returned : Returned) → Makes IsFew (return_plan globals elements result layout returned)
  returned_few layout NoValue = tt
  returned_few layout (ReturnedValue value) = before_few Stop _ (pushes_before globals elements layout.scope (result_type globals elements result) value Stop) tt

  range_few : (site : Site) (target : Target) (channel : Expression) (body : Made) → Makes IsFew body.plan → Makes IsFew (made_range globals elements result site target channel body).plan
  range_few site target channel body b =
      let layout = site.layout in
      let kind = carried globals elements layout.scope channel in
      let kept = keeps globals elements result layout channel in
      let inner = entering (keeping globals elements channel layout) in
      let taken = takes globals elements result inner kind target in
      let unused = drops (length (kinds_of globals.structs elements kind)) Skip in
      seq_few kept (Cycle (receives globals elements result layout channel) (Seq taken body.plan) Skip unused)
      (plain_few kept (then_step (pushes_own globals elements layout.scope channel) _ (pushes_before globals elements layout.scope _ channel) Skip))
      (tt, seq_few taken body.plan (plain_few taken (takes_before globals elements result inner kind target)) b, OnTrue_from (turns (Seq taken body.plan)) (Makes IsFew Skip) (λ e. tt), plain_few unused (drops_before (length (kinds_of globals.structs elements kind)) Skip))

  unless_short : (x y : Made) → Short x → Short y → Short (unless_ended globals elements result x y)
  unless_short x y a b = go (reaches_end x.plan) where
    go : (t : Bool) → Short (if t then followed x y else x)
    go true = followed_short x y a b
    go false = a

  -- ---- how many clauses a select's table has

  -- its ways have no fewer
  few_targets : (layout : Layout) (clauses : Clauses) (places : List ℕ) → length (targets (select_table globals elements result layout clauses places)) ≤ length places
  few_targets layout NoClause [] = omega arith
  few_targets layout NoClause (p ∷ places) = omega arith
  few_targets layout (Clause None body more) places = few_targets layout more places
  few_targets layout (Clause (Some comm) body more) [] = omega arith
  few_targets layout (Clause (Some comm) body more) (to ∷ places) = let rest = few_targets layout more places in omega (arith, rest)

  -- how many clauses wait for nothing
  abbrev defaults : Clauses → ℕ
  defaults NoClause = 0
  defaults (Clause None body more) = suc (defaults more)
  defaults (Clause (Some comm) body more) = defaults more

  counted : (clauses : Clauses) → comm_count clauses + defaults clauses ≤ clauses_count clauses
  counted NoClause = omega arith
  counted (Clause None body more) = let h = counted more in omega (arith, h)
  counted (Clause (Some comm) body more) = let h = counted more in omega (arith, h)

  -- ways that are there are at most `n`, and their tables are short
  abbrev Ways : ℕ → Option Made → Type 0
  Ways n None = Unit {0}
  Ways n (Some m) = Short m × ((place : ℕ) → length (starts place m.plan) ≤ n)

  more_ways : (m n : ℕ) (o : Option Made) → m ≤ n → Ways m o → Ways n o
  more_ways m n None le w = tt
  more_ways m n (Some x) le w = (w.0, λ place. let h = w.1 place in omega (arith, h, le))

  way_more : (ks : List WordKind) (n : ℕ) (one : Made) (o : Option Made) → Short one → Ways n o → Ways (suc n) (Some (with_way ks one o))
  way_more ks n one None a w = (a, λ place. omega arith)
  way_more ks n one (Some m) a w = ((All-append IsShort one.prints m.prints a.0 w.0.0, (a.1, w.0.1)), λ place. let h = w.1 (place + size one.plan + jump_size one.plan) in omega (arith, h))

  select_short : (site : Site) (clauses : Clauses) (n : ℕ) (o : Option Made) → n ≤ 64 → Ways n o → Short (made_select globals elements result site clauses o)
  select_short site clauses n None le w =
      (All-nil IsShort, before_few _ _ (clauses_before globals elements site.layout result clauses (Choose site.selects (select_table globals elements result site.layout clauses) Skip)) ((λ place. let h = few_targets site.layout clauses [] in omega (arith, h)), tt))
  select_short site clauses n (Some m) le w =
      (w.0.0, before_few _ _ (clauses_before globals elements site.layout result clauses (Choose site.selects (select_table globals elements result site.layout clauses) m.plan)) ((λ place. let h = few_targets site.layout clauses (starts place m.plan) in let many = w.1 place in omega (arith, h, many, le)), w.0.1))

  -- ---- statements

  mutual
    short : (statement : Statement) (site : Site) → Small (λ l. statement_longest l statement) → Short (made globals elements result site statement)
    short Empty site small = (All-nil IsShort, tt)
    short (Alone simple) site small = simple_short site simple small
    short (VarTyped names kind right) site small = (All-nil IsShort, plain_few _ (variables_before globals elements site.layout names (known (type_in globals.types site.layout.scope kind)) right))
    short (VarUntyped names right) site small = (All-nil IsShort, plain_few _ (defines_before globals elements site.layout names (right_types globals elements site.layout.scope (length names) right) right))
    short (Block body) site small = short_all body (inside site) small
    short (If branch) site small = short_branch branch site small
    short (For Forever body) site small = let b = short_all body (inside site) (λ l. omega (arith, small l)) in (b.0, loop_few site.layout None (made_all globals elements result (inside site) body).plan Skip b.1 tt)
    short (For (While condition) body) site small = let b = short_all body (inside site) (λ l. omega (arith, small l)) in (b.0, loop_few site.layout (Some condition) (made_all globals elements result (inside site) body).plan Skip b.1 tt)
    short (For (ForClauses simple condition post) body) site small =
        let header = made_any globals elements (inside site) simple in
        let following = past (inside site) header in
        let within = ended header.layout (made_all globals elements result (inside following) body) in
        let turn = made_post globals elements header.layout (past following within) post in
        let h = any_short (inside site) simple (λ l. omega (arith, small l)) in
        let b = short_all body (inside following) (λ l. omega (arith, small l)) in
        let p = post_short header.layout (past following within) post (λ l. omega (arith, small l)) in
        (All-append IsShort header.prints (within.prints ++ turn.prints) h.0 (All-append IsShort within.prints turn.prints b.0 p.0), seq_few header.plan (loop (test_plan globals elements header.layout condition) within.plan turn.plan) h.1 (loop_few header.layout condition within.plan turn.plan b.1 p.1))
    short (For (Range target channel) body) site small =
        let item = item_site globals elements result site target channel in
        let b = short_all body (inside item) (λ l. omega (arith, small l)) in
        (b.0, range_few site target channel (ended item.layout (made_all globals elements result (inside item) body)) b.1)
    short (Select clauses) site small =
        let many = small SelectClauses in
        let below : Small (λ l. clauses_longest l clauses) = λ l. omega (arith, small l) in
        select_short site clauses (clauses_count clauses) (made_ways globals elements result (within_select globals elements result site) (λ following. made_default globals elements result following clauses) clauses) (omega (arith, many))
        (short_ways clauses (within_select globals elements result site) (λ following. made_default globals elements result following clauses) (defaults clauses) below (λ following. short_default clauses following below) (clauses_count clauses) (counted clauses))
    short (Go function arguments) site small = (All-nil IsShort, plain_few _ (then_step _ _ (arguments_before globals elements site.layout.scope (number_of globals function) arguments.values) Skip))
    short (Return returned) site small = (All-nil IsShort, returned_few site.layout returned)
    short Break site small = (All-nil IsShort, tt)
    short Continue site small = (All-nil IsShort, tt)

    short_all : (body : Statements) (site : Site) → Small (λ l. statements_longest l body) → Short (made_all globals elements result site body)
    short_all NoStatement site small = (All-nil IsShort, tt)
    short_all (Then statement rest) site small =
        let one = made globals elements result site statement in
        unless_short one (made_all globals elements result (past site one) rest) (short statement site (λ l. omega (arith, small l))) (short_all rest (past site one) (λ l. omega (arith, small l)))

    short_branch : (branch : Branch) (site : Site) → Small (λ l. branch_longest l branch) → Short (made_branch globals elements result site branch)
    short_branch (Conditional head condition body otherwise) site small =
        let header = made_any globals elements (inside site) (head_simple head) in
        let following = past (inside site) header in
        let so = ended header.layout (made_all globals elements result (inside following) body) in
        followed_short header (made_otherwise globals elements result following condition so otherwise) (any_short (inside site) (head_simple head) (head_short head (λ l. omega (arith, small l))))
        (short_otherwise otherwise following condition so (short_all body (inside following) (λ l. omega (arith, small l))) (λ l. omega (arith, small l)))

    short_otherwise : (otherwise : Otherwise) (site : Site) (condition : Expression) (so : Made) → Short so → Small (λ l. otherwise_longest l otherwise) → Short (made_otherwise globals elements result site condition so otherwise)
    short_otherwise NoElse site condition so a small = (a.0, before_few (IfThen so.plan) _ (pushes_before globals elements site.layout.scope _ condition (IfThen so.plan)) a.1)
    short_otherwise (ElseBlock body) site condition so a small =
        let other = ended site.layout (made_all globals elements result (inside (past site so)) body) in
        let b = short_all body (inside (past site so)) small in
        (All-append IsShort so.prints other.prints a.0 b.0, before_few (IfElse so.plan other.plan) _ (pushes_before globals elements site.layout.scope _ condition (IfElse so.plan other.plan)) (a.1, b.1))
    short_otherwise (ElseIf branch) site condition so a small =
        let other = made_branch globals elements result (past site so) branch in
        let b = short_branch branch (past site so) small in
        (All-append IsShort so.prints other.prints a.0 b.0, before_few (IfElse so.plan other.plan) _ (pushes_before globals elements site.layout.scope _ condition (IfElse so.plan other.plan)) (a.1, b.1))

    short_ways : (clauses : Clauses) (site : Site) (default : Site → Option Made) (d : ℕ) → Small (λ l. clauses_longest l clauses) → ((following : Site) → Ways d (default following)) → (n : ℕ) → comm_count clauses + d ≤ n → Ways n (made_ways globals elements result site default clauses)
    short_ways NoClause site default d small w n le = more_ways d n (default site) (omega (arith, le)) (w site)
    short_ways (Clause None body more) site default d small w n le = short_ways more site default d (λ l. omega (arith, small l)) w n le
    short_ways (Clause (Some comm) body more) site default d small w n le =
        let begun = made_comm globals elements result (inside site) comm in
        let inner = made_all globals elements result (past (inside site) begun) body in
        let one = ended site.layout (followed begun inner) in
        let rest = made_ways globals elements result (past site one) default more in
        let many = comm_count more + d in
        more_ways (suc many) n (Some (with_way (comm_kinds globals elements result site.layout comm) one rest)) (omega (arith, le))
        (way_more (comm_kinds globals elements result site.layout comm) many one rest
        (followed_short begun inner (plain_short _ begun.layout (comm_plain globals elements (inside site).layout result comm)) (short_all body (past (inside site) begun) (λ l. omega (arith, small l))))
        (short_ways more (past site one) default d (λ l. omega (arith, small l)) w many (omega arith)))

    short_default : (clauses : Clauses) (site : Site) → Small (λ l. clauses_longest l clauses) → Ways (defaults clauses) (made_default globals elements result site clauses)
    short_default NoClause site small = tt
    short_default (Clause None body more) site small = way_more [] (defaults more) (ended site.layout (made_all globals elements result (inside site) body)) None (short_all body (inside site) (λ l. omega (arith, small l))) tt
    short_default (Clause (Some comm) body more) site small = short_default more site (λ l. omega (arith, small l))

  short_body : (body : Statements) (site : Site) → Small (λ l. statements_longest l body) → Short (made_body globals elements result site body)
  short_body body site small =
      let zeros = pushes_zeros (result_kinds globals elements result) Stop in
      let all = made_all globals elements result site body in
      unless_short all (made_of zeros [] all.layout) (short_all body site small) (All-nil IsShort, before_few Stop zeros (zeros_before (result_kinds globals elements result) Stop) tt)

module _ (globals : Globals) (elements : List Element) where
  -- the tables of all functions
  pub short_tops : (tops : List Top) (prints selects : ℕ) → Small (λ l. highest (top_longest l) tops) → All IsShort (all_prints globals elements prints selects tops) × All IsFew (all_selects globals elements prints selects tops)
  short_tops [] prints selects small = (All-nil IsShort, All-nil IsFew)
  short_tops (StructTop struct ∷ rest) prints selects small = short_tops rest prints selects (λ l. omega (arith, small l))
  short_tops (FunctionTop function ∷ rest) prints selects small =
      let m = made_function globals elements prints selects function in
      let one : Short m = short_body globals elements (result_of globals elements function) function.body (record { layout = first_layout globals elements function; prints = prints; selects = selects }) (λ l. omega (arith, small l)) in
      let more = short_tops rest (prints + length m.prints) (selects + table_count m.plan) (λ l. omega (arith, small l)) in
      (All-append IsShort m.prints (all_prints globals elements (prints + length m.prints) (selects + table_count m.plan) rest) one.0 more.0, All-append IsFew (tables 0 m.plan) (all_selects globals elements (prints + length m.prints) (selects + table_count m.plan) rest) (all_made IsFew m.plan 0 one.1) more.1)
