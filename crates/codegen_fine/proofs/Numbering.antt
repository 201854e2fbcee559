-- The selects of what is made of statements have the numbers of their tables.
use Rattle.std.proofs.Common.{◌≡◌, ℕ, ◌+◌, Bool, true, false, List, [], length, Option, Some, None, IfSome, refl, subst, arith}
use Rattle.std.specs.Prelude.{if◌then◌else◌}
use Rattle.std.proofs.lemmas.Bool.{OnTrue_from}
use Rattle.syntax.specs.Tree.{Expression, Simple, Target, NoTarget, DefineTarget, AssignTarget, Forever, While, ForClauses, Range, Returned, NoValue, ReturnedValue, Statement, Empty, Alone, VarTyped, VarUntyped, Block, If, For, Select, Go, Return, Break, Continue, Statements, NoStatement, Then, Branch, Conditional, Otherwise, NoElse, ElseBlock, ElseIf, Clauses, NoClause, Clause}
use Rattle.bytecode.specs.declared.instr.WordKind.{WordKind}
use Rattle.bytecode.specs.declared.instr.Instr.TheVariants as instrs
use Rattle.type_table.specs.Types.{ValueType}
use Rattle.type_table.specs.Scopes.{Globals, Yield, type_in}
use Rattle.typing_rules.specs.Statements.{head_simple}
use Rattle.meaning.specs.Values.{known}
use Rattle.meaning.specs.Expressions.{number_of}
use Rattle.codegen_base.specs.declared.element.Element.{Element}
use Rattle.codegen_base.specs.Elements.{kinds_of}
use Rattle.codegen_base.specs.Layouts.{Layout, entering, keeping, carried}
use Rattle.codegen_base.specs.Pushes.{drops, pushes_own, pushes_zeros}
use Rattle.codegen_base.specs.Statements.{stores, name_spot, place_spot, right_types}
use Rattle.codegen_base.specs.Generated.{Site, Made, past, made_of, followed, ended, inside, loop, tests, test_plan, made_any, made_post, made_comm, item_site, with_way, comm_kinds, made_select, made_ways, made_default, within_select, unless_ended, return_plan, result_type, result_kinds, keeps, receives, takes, made_range, select_table, made, made_all, made_branch, made_otherwise, made_body}
use Rattle.plan.specs.Plan.{Plan, Skip, Seq, IfElse, IfThen, Cycle, Choose, Stop, reaches_end, turns, table_count}
use Rattle.plan.proofs.Tables.{Numbered}
use Rattle.codegen_base.proofs.Before.{Before, Here, before_count, before_numbered, zeros_before, pushes_before, clauses_before}
use Rattle.codegen_base.proofs.Plain.{drops_before, stores_before, then_step, arguments_before, defines_before, simple_before, variables_before, comm_plain}

-- what stands before nothing
plain_numbered : (p : Plan) (n : ℕ) → Before Skip p → Numbered n p
plain_numbered p n b = before_numbered Skip p n b tt

seq_numbered : (first rest : Plan) (n : ℕ) → Numbered n first → Numbered (n + table_count first) rest → Numbered n (Seq first rest)
seq_numbered first rest n a b = (a, OnTrue_from (reaches_end first) (Numbered (n + table_count first) rest) (λ e. b))

module _ (globals : Globals) (elements : List Element) (result : Yield) where
  abbrev N : Site → Made → Type 0
  N site x = Numbered site.selects x.plan

  any_before : (site : Site) (simple : Option Simple) → Before Skip (made_any globals elements site simple).plan
  any_before site None = Here Skip
  any_before site (Some simple) = simple_before globals elements site.layout site.prints simple

  post_before : (header : Layout) (site : Site) (simple : Option Simple) → Before Skip (made_post globals elements header site simple).plan
  post_before header site None = Here Skip
  post_before header site (Some simple) = simple_before globals elements (entering site.layout) site.prints simple

  -- a loop, whose test has no selects
  loop_numbered : (layout : Layout) (condition : Option Expression) (body post : Plan) (n : ℕ) → Numbered n body → Numbered (n + table_count body) post → Numbered n (loop (test_plan globals elements layout condition) body post)
  loop_numbered layout None body post n b p = (b, OnTrue_from (turns body) (Numbered (n + table_count body) post) (λ e. p))
  loop_numbered layout (Some condition) body post n b p =
      let test = tests globals elements layout condition Skip in
      let before = pushes_before globals elements layout.scope _ condition Skip in
      let none = before_count Skip test before in
      let here-is : n ≡ n + table_count test = omega (arith, none) in
      let following : n + table_count body ≡ n + table_count test + table_count body = omega (arith, none) in
      (plain_numbered test n before, subst (λ k. Numbered k body) here-is b, OnTrue_from (turns body) (Numbered (n + table_count test + table_count body) post) (λ e. subst (λ k. Numbered k post) following p), tt)

  returned_numbered : (r : Yield) (layout : Layout) (returned : Returned) (n : ℕ) → Numbered n (return_plan globals elements r layout returned)
  returned_numbered r layout NoValue n = tt
  returned_numbered r layout (ReturnedValue value) n = before_numbered Stop (return_plan globals elements r layout (ReturnedValue value)) n (pushes_before globals elements layout.scope (result_type globals elements r) value Stop) tt

  pub takes_before : (layout : Layout) (kind : ValueType) (target : Target) → Before Skip (takes globals elements result layout kind target)
  takes_before layout kind NoTarget = drops_before _ Skip
  takes_before layout kind (DefineTarget name) = then_step (stores (name_spot globals elements layout name kind)) instrs.Tick (stores_before (name_spot globals elements layout name kind)) Skip
  takes_before layout kind (AssignTarget place) = then_step (stores (place_spot globals elements layout.scope place kind)) instrs.Tick (stores_before (place_spot globals elements layout.scope place kind)) Skip

  range_numbered : (site : Site) (target : Target) (channel : Expression) (body : Made) → Numbered site.selects body.plan → N site (made_range globals elements result site target channel body)
  range_numbered site target channel body b =
      let layout = site.layout in
      let n = site.selects in
      let kind = carried globals elements layout.scope channel in
      let kept = keeps globals elements result layout channel in
      let kept-before : Before Skip kept = then_step (pushes_own globals elements layout.scope channel) _ (pushes_before globals elements layout.scope _ channel) Skip in
      let taken = takes globals elements result (entering (keeping globals elements channel layout)) kind target in
      let taken-before = takes_before (entering (keeping globals elements channel layout)) kind target in
      let a = before_count Skip kept kept-before in
      let c = before_count Skip taken taken-before in
      let at = n + table_count kept + 0 in
      let here-is : n ≡ at + table_count taken = omega (arith, a, c) in
      let unused = drops (length (kinds_of globals.structs elements kind)) Skip in
      seq_numbered kept (Cycle (receives globals elements result layout channel) (Seq taken body.plan) Skip unused) n (plain_numbered kept n kept-before)
      (tt, seq_numbered taken body.plan at (plain_numbered taken at taken-before) (subst (λ k. Numbered k body.plan) here-is b), OnTrue_from (turns (Seq taken body.plan)) (Numbered (at + table_count (Seq taken body.plan)) Skip) (λ e. tt), plain_numbered unused _ (drops_before (length (kinds_of globals.structs elements kind)) Skip))

  -- ways that are there have their numbers
  abbrev NO : Site → Option Made → Type 0
  NO site o = IfSome o (λ m. Numbered site.selects m.plan)

  way_numbered : (site : Site) (ks : List WordKind) (one : Made) (o : Option Made) → N site one → NO (past site one) o → N site (with_way ks one o)
  way_numbered site ks one None a b = a
  way_numbered site ks one (Some m) a b = (a, b)

  unless_numbered : (site : Site) (x y : Made) → N site x → N (past site x) y → N site (unless_ended globals elements result x y)
  unless_numbered site x y a b = go (reaches_end x.plan) where
    go : (t : Bool) → N site (if t then followed x y else x)
    go true = seq_numbered x.plan y.plan site.selects a b
    go false = a

  select_numbered : (site : Site) (clauses : Clauses) (o : Option Made) → NO (within_select globals elements result site) o → N site (made_select globals elements result site clauses o)
  select_numbered site clauses None h = before_numbered _ _ site.selects (clauses_before globals elements site.layout result clauses (Choose site.selects (select_table globals elements result site.layout clauses) Skip)) (refl, tt)
  select_numbered site clauses (Some m) h = before_numbered _ _ site.selects (clauses_before globals elements site.layout result clauses (Choose site.selects (select_table globals elements result site.layout clauses) m.plan)) (refl, h)

  mutual
    pub numbered : (statement : Statement) (site : Site) → N site (made globals elements result site statement)
    numbered Empty site = tt
    numbered (Alone simple) site = plain_numbered _ site.selects (simple_before globals elements site.layout site.prints simple)
    numbered (VarTyped names kind right) site = plain_numbered _ site.selects (variables_before globals elements site.layout names (known (type_in globals.types site.layout.scope kind)) right)
    numbered (VarUntyped names right) site = plain_numbered _ site.selects (defines_before globals elements site.layout names (right_types globals elements site.layout.scope (length names) right) right)
    numbered (Block body) site = numbered_all body (inside site)
    numbered (If branch) site = numbered_branch branch site
    numbered (For Forever body) site = loop_numbered site.layout None (made_all globals elements result (inside site) body).plan Skip site.selects (numbered_all body (inside site)) tt
    numbered (For (While condition) body) site = loop_numbered site.layout (Some condition) (made_all globals elements result (inside site) body).plan Skip site.selects (numbered_all body (inside site)) tt
    numbered (For (ForClauses simple condition post) body) site =
        let header = made_any globals elements (inside site) simple in
        let following = past (inside site) header in
        let within = ended header.layout (made_all globals elements result (inside following) body) in
        let turn = made_post globals elements header.layout (past following within) post in
        seq_numbered header.plan (loop (test_plan globals elements header.layout condition) within.plan turn.plan) site.selects (plain_numbered header.plan site.selects (any_before (inside site) simple))
        (loop_numbered header.layout condition within.plan turn.plan following.selects (numbered_all body (inside following)) (plain_numbered turn.plan _ (post_before header.layout (past following within) post)))
    numbered (For (Range target channel) body) site =
        let item = item_site globals elements result site target channel in range_numbered site target channel (ended item.layout (made_all globals elements result (inside item) body)) (numbered_all body (inside item))
    numbered (Select clauses) site =
        select_numbered site clauses (made_ways globals elements result (within_select globals elements result site) (λ following. made_default globals elements result following clauses) clauses)
        (numbered_ways clauses (within_select globals elements result site) (λ following. made_default globals elements result following clauses) (λ following. numbered_default clauses following))
    numbered (Go function arguments) site = plain_numbered _ site.selects (then_step _ _ (arguments_before globals elements site.layout.scope (number_of globals function) arguments.values) Skip)
    numbered (Return returned) site = returned_numbered result site.layout returned site.selects
    numbered Break site = tt
    numbered Continue site = tt

    pub numbered_all : (body : Statements) (site : Site) → N site (made_all globals elements result site body)
    numbered_all NoStatement site = tt
    numbered_all (Then statement rest) site =
        let one = made globals elements result site statement in unless_numbered site one (made_all globals elements result (past site one) rest) (numbered statement site) (numbered_all rest (past site one))

    numbered_branch : (branch : Branch) (site : Site) → N site (made_branch globals elements result site branch)
    numbered_branch (Conditional head condition body otherwise) site =
        let header = made_any globals elements (inside site) (head_simple head) in
        let following = past (inside site) header in
        let so = ended header.layout (made_all globals elements result (inside following) body) in
        seq_numbered header.plan (made_otherwise globals elements result following condition so otherwise).plan site.selects (plain_numbered header.plan site.selects (any_before (inside site) (head_simple head))) (numbered_otherwise otherwise following condition so (numbered_all body (inside following)))

    numbered_otherwise : (otherwise : Otherwise) (site : Site) (condition : Expression) (so : Made) → N site so → N site (made_otherwise globals elements result site condition so otherwise)
    numbered_otherwise NoElse site condition so a = before_numbered (IfThen so.plan) _ site.selects (pushes_before globals elements site.layout.scope _ condition (IfThen so.plan)) a
    numbered_otherwise (ElseBlock body) site condition so a =
        let other = ended site.layout (made_all globals elements result (inside (past site so)) body) in before_numbered (IfElse so.plan other.plan) _ site.selects (pushes_before globals elements site.layout.scope _ condition (IfElse so.plan other.plan)) (a, numbered_all body (inside (past site so)))
    numbered_otherwise (ElseIf branch) site condition so a =
        let other = made_branch globals elements result (past site so) branch in before_numbered (IfElse so.plan other.plan) _ site.selects (pushes_before globals elements site.layout.scope _ condition (IfElse so.plan other.plan)) (a, numbered_branch branch (past site so))

    numbered_ways : (clauses : Clauses) (site : Site) (default : Site → Option Made) → ((following : Site) → NO following (default following)) → NO site (made_ways globals elements result site default clauses)
    numbered_ways NoClause site default d = d site
    numbered_ways (Clause None body more) site default d = numbered_ways more site default d
    numbered_ways (Clause (Some comm) body more) site default d =
        let begun = made_comm globals elements result (inside site) comm in
        let inner = made_all globals elements result (past (inside site) begun) body in
        let one = ended site.layout (followed begun inner) in
        way_numbered site (comm_kinds globals elements result site.layout comm) one (made_ways globals elements result (past site one) default more)
        (seq_numbered begun.plan inner.plan site.selects (plain_numbered begun.plan site.selects (comm_plain globals elements (inside site).layout result comm)) (numbered_all body (past (inside site) begun))) (numbered_ways more (past site one) default d)

    numbered_default : (clauses : Clauses) (site : Site) → NO site (made_default globals elements result site clauses)
    numbered_default NoClause site = tt
    numbered_default (Clause None body more) site = numbered_all body (inside site)
    numbered_default (Clause (Some comm) body more) site = numbered_default more site

  -- the body of a function
  pub numbered_body : (body : Statements) (site : Site) → N site (made_body globals elements result site body)
  numbered_body body site =
      let zeros = pushes_zeros (result_kinds globals elements result) Stop in
      let all = made_all globals elements result site body in
      unless_numbered site all (made_of zeros [] all.layout) (numbered_all body site) (before_numbered Stop zeros (site.selects + table_count all.plan) (zeros_before (result_kinds globals elements result) Stop) tt)
