-- Selects: the code makes the request that the source makes, and goes on as it does.
use Rattle.std.proofs.Common.{◌≡◌, ℕ, ◌+◌, ◌≤◌, List, [], length, Option, Some, None, IfSome, refl, sym, ap, ◌∙◌, arith, inl, subst}
use Rattle.std.specs.Option.{is_some}
use Rattle.syntax.specs.Tree.{Comm, Statements, Select, Clauses, NoClause, Clause}
use Rattle.bytecode.specs.declared.instr.WordKind.{WordKind}
use Rattle.bytecode.specs.Effects.{all_clause_kinds, clauses_in}
use Rattle.bytecode.specs.Machine.{Frames as CodeFrames}
use Rattle.word.specs.declared.request.Case.{Case}
use Rattle.word.specs.Values.{Request, Panic}
use Rattle.word.specs.Values as requests
use Rattle.type_table.specs.Containment.{Structs}
use Rattle.type_table.specs.Scopes.{Scope, Globals}
use Rattle.meaning.specs.Variables.{Blocks}
use Rattle.meaning.specs.Tasks.{Course}
use Rattle.meaning.specs.Source.{default_of, cases_of, chosen, statement_work}
use Rattle.codegen_base.specs.Generated.{Site, Made, past, followed, ended, inside, with_way, select_table, pushes_clauses, comm_kinds, made_comm, made_all, made_select, made_ways, made_default, within_select}
use Rattle.plan.specs.Plan.{Plan, Choose, starts}
use Rattle.plan.proofs.Words.{Words}
use Rattle.codegen_follows.proofs.Stands.{Around, scope_of, variables, IsOn, Fits, Doing, in_way, following}
use Rattle.codegen_follows.proofs.Grown.{grown_default}
use Rattle.codegen_follows.proofs.Comms.{Beside}
use Rattle.codegen_follows.proofs.Operands.{AllOffered, clauses_go, AllAt}
use Rattle.codegen_follows.proofs.Ways.{plan_of, default_laid, ways_laid}
use Rattle.codegen_base.proofs.Running.{Compiled, Coded}
use Rattle.codegen_follows.proofs.Simulated.{Simulated, at, Comes, Works, Position, here_blocks, On'}
use Rattle.meaning.specs.Worked.{Worked, ready, and_then, needs, Asking}
use Rattle.codegen_base.proofs.Gave.{bind as follows_then}
use Rattle.codegen_follows.proofs.Chosen.{Choosing, ways_of, choose_goes}

module _ {globals : Globals} {program : Compiled globals} (coded : Coded program) where
  open program use {elements}
  open coded use {result}

  -- ---- a select keeps the variables

  abbrev Keeps : Site → Option Made → Type 0
  Keeps site o = IfSome o (λ m. m.layout.scope.variables ≡ site.layout.scope.variables)

  way_keeps : (site : Site) (comm : Comm) (body : Statements) (ks : List WordKind) (one : Made) (o : Option Made) → one.layout.scope.variables ≡ site.layout.scope.variables → Keeps (past site one) o → (with_way ks one o).layout.scope.variables ≡ site.layout.scope.variables
  way_keeps site comm body ks one None same more = same
  way_keeps site comm body ks one (Some m) same more = more ∙ same

  ways_keep : (site : Site) (default : Site → Option Made) (clauses : Clauses) → ((following : Site) → Keeps following (default following)) → Keeps site (made_ways globals elements result site default clauses)
  ways_keep site default NoClause d = d site
  ways_keep site default (Clause None body more) d = ways_keep site default more d
  ways_keep site default (Clause (Some comm) body more) d =
      let first = made_comm globals elements result (inside site) comm in
      let one = ended site.layout (followed first (made_all globals elements result (past (inside site) first) body)) in
      way_keeps site comm body (comm_kinds globals elements result site.layout comm) one (made_ways globals elements result (past site one) default more) refl (ways_keep (past site one) default more d)

  default_keeps : (clauses : Clauses) (site : Site) → Keeps site (made_default globals elements result site clauses)
  default_keeps NoClause site = tt
  default_keeps (Clause None body more) site = refl
  default_keeps (Clause (Some comm) body more) site = default_keeps more site

  select_keeps : (site : Site) (clauses : Clauses) (o : Option Made) → Keeps site o → (made_select globals elements result site clauses o).layout.scope.variables ≡ site.layout.scope.variables
  select_keeps site clauses None same = refl
  select_keeps site clauses (Some m) same = same

module _ {globals : Globals} {program : Compiled globals} {coded : Coded program} {simulated : Simulated coded} (position : Position simulated) where
  open program use {elements, code, wide as all}
  open coded use {function as f, number as g, there, result}
  open simulated use {running, running.{context, context.{callers as ds}}}
  open position use {point, next, mid, tasks as k, together as t, rest as r, point.{locals as ls, around as l, view, fine, room, held as h}}

  abbrev structs : Structs
  structs = globals.structs

  abbrev Works' : Worked Course → CodeFrames → Type 0
  Works' work c = Works simulated work c

  abbrev place_at : ℕ → Words → Words → CodeFrames
  place_at place ls stack = at simulated place ls stack

  abbrev blocks : Blocks
  blocks = here_blocks point

  abbrev scope : Scope
  scope = scope_of view

  abbrev On : Plan → ℕ → Type 0
  On plan place = On' point plan place mid

  abbrev inside-way : Around
  inside-way = in_way l mid

  abbrev default_at_site : Clauses → Site → Option Made
  default_at_site clauses site = made_default globals elements result site clauses

  -- the ways of a select
  abbrev ways : Clauses → Option Made
  ways clauses = made_ways globals elements result (within_select globals elements result view.site) (default_at_site clauses) clauses

  abbrev asking : Clauses → Plan
  asking clauses = Choose view.site.selects (select_table globals elements result view.site.layout clauses) (plan_of (ways clauses))

  select_on : (clauses : Clauses) (o : Option Made) (place : ℕ) → IsOn coded l (made_select globals elements result view.site clauses o).plan place mid
      → IsOn coded l (pushes_clauses globals elements result view.site.layout clauses (Choose view.site.selects (select_table globals elements result view.site.layout clauses) (plan_of o))) place mid
  select_on clauses None place on = on
  select_on clauses (Some m) place on = on

  ways_on : (clauses : Clauses) (o : Option Made) (place : ℕ) → Fits coded view.site.prints (made_select globals elements result view.site clauses o) → IsOn coded inside-way (plan_of o) place mid
      → IfSome o (λ m. IsOn coded inside-way m.plan place mid × Fits coded view.site.prints m)
  ways_on clauses None place fits on = tt
  ways_on clauses (Some m) place fits on = (on, record { tables = fits.tables; room = fits.room })

  abbrev first_beside : Beside
  first_beside = record { words = (scope_of view).words; locals = view.site.layout.locals; prints = view.site.prints; selects = view.site.selects + 1; checked = view.checked.words }

  select_asked : (clauses : Clauses) (place : ℕ) (d : Doing coded l view (Select clauses) place mid) → (cases : List Case) (ws : Words) (to : ℕ) → AllOffered point k mid clauses ws cases
      → IsOn coded l (asking clauses) to mid → Choosing coded l view ws cases (ways_of globals blocks k clauses) (default_of globals blocks k clauses) to mid
  select_asked clauses place d cases ws to offered (asks, table, on) =
      let all_words : (scope_of view).words ≤ (scope_of view).words = omega arith in
      let laid = ways_laid point k mid (default_of globals blocks k clauses) (default_at_site clauses) clauses first_beside d.breaks d.continues d.first (to + 1)
      (λ following. grown_default globals elements result following clauses)
      (λ b p wider x. default_laid point k mid clauses b d.breaks d.continues view.checked.words d.first p wider (λ violation y. d.good violation (inl y)) d.makes x)
      all_words (λ violation y. d.good violation (inl y)) d.makes (ways_on clauses (ways clauses) (to + 1) d.fits on) in
      let places = starts (to + 1) (plan_of (ways clauses)) in
      let o = offered places laid.many in
      record {
        number = view.site.selects;
        table = select_table globals elements result view.site.layout clauses places;
        there = asks;
        table_is = table;
        pops_are = ap (λ x. length (all_clause_kinds code (clauses_in x))) table ∙ o.1;
        cases_are = o.0;
        ways_are = laid.ways;
        default_is = laid.default;
        default_there = laid.is_there;
      }

  pub select_goes : (clauses : Clauses) (place : ℕ) → Doing coded l view (Select clauses) place mid → variables next ≡ variables (following coded view (Select clauses)) → Works' (statement_work globals blocks k (Select clauses)) (place_at place ls [])
  select_goes clauses place d same =
      let kept = select_keeps coded view.site clauses (ways clauses) (ways_keep coded (within_select globals elements result view.site) (default_at_site clauses) clauses (default_keeps coded clauses)) in
      let go : List Case → Worked Course = λ cases. and_then (needs (Asking (requests.Select cases (is_some (default_of globals blocks k clauses))))) (λ given. ready (chosen globals blocks k clauses given)) in
      follows_then context (cases_of globals blocks k clauses) go (AllAt point k mid clauses (asking clauses) []) (Comes simulated) (place_at place ls [])
      (clauses_go point k mid clauses d.breaks d.continues view.checked.words d.first (λ violation x. d.good violation (inl x)) d.makes (asking clauses) place [] (select_on clauses (ways clauses) place d.on))
      (λ cases e m. subst (λ x. Works' (go cases) x) (sym m.3) (choose_goes position clauses cases m.1 m.0 (select_asked clauses place d cases m.0 m.1 m.2 m.4) (same ∙ kept)))
