-- Statements add locals after those that are there.
use Rattle.std.proofs.Common.{◌≡◌, Bool, true, false, List, [], ◌∷◌, ◌++◌, Option, Some, None, IfSome, refl, sym, ap, ◌∙◌}
use Rattle.std.specs.Prelude.{if◌then◌else◌}
use Rattle.syntax.specs.Tree.{Expression, Simple, CallAlone, Close, Print, ReceiveAlone, Send, Increment, Decrement, Assign, Define, Update, Target, NoTarget, DefineTarget, AssignTarget, Forever, While, ForClauses, Range, Comm, CommSend, CommReceive, CommDefine, CommAssign, Statement, Empty, Alone, VarTyped, VarUntyped, Block, If, For, Select, Go, Return, Break, Continue, Statements, NoStatement, Then, Branch, Conditional, Otherwise, NoElse, ElseBlock, ElseIf, Clauses, NoClause, Clause}
use Rattle.type_table.specs.Types.{ValueType, BoolType}
use Rattle.type_table.specs.Scopes.{Globals, Yield}
use Rattle.meaning.specs.Variables.{blank}
use Rattle.bytecode.specs.declared.instr.WordKind.{WordKind}
use Rattle.typing_rules.specs.Statements.{head_simple}
use Rattle.codegen_base.specs.declared.element.Element.{Element}
use Rattle.codegen_base.specs.Layouts.{Layout, entering, leaving, type_of, following_simple, following_target, keeping, with_item, carried}
use Rattle.codegen_base.specs.Generated.{Site, Made, past, followed, ended, inside, with_way, made_any, made_post, made_comm, after_comm, item_site, within_select, unless_ended, made, made_all, made_branch, made_otherwise, made_ways, made_default, made_select, one_or_two, comm_kinds}
use Rattle.plan.specs.Plan.{reaches_end}
use Rattle.codegen_fine.proofs.Layouts.{Longer, longer_no, longer_on, longer_declaring, longer_new, longer_all, longer_each}

-- of layouts with the same locals
pub longer_as : (a b c d : Layout) → c.locals ≡ a.locals → d.locals ≡ b.locals → Longer a b → Longer c d
longer_as a b c d e h g = record { more = g.more; is = h ∙ g.is ∙ ap (λ (l : List WordKind). l ++ g.more) (sym e) }

-- a block has ended
pub longer_kept : (outer inner : Layout) → Longer (entering outer) inner → Longer outer (leaving outer inner)
longer_kept outer inner g = longer_as (entering outer) inner outer (leaving outer inner) refl refl g

-- a block within a block
longer_within : (outer header inner : Layout) → Longer outer header → Longer (entering header) inner → Longer outer (leaving header inner)
longer_within outer header inner g h = longer_on outer header (leaving header inner) g (longer_kept header inner h)

module _ (globals : Globals) (elements : List Element) where
  pub longer_simple : (simple : Simple) (layout : Layout) → Longer layout (following_simple globals elements simple layout)
  longer_simple (Define names right) layout = longer_all globals elements names _ layout
  longer_simple (CallAlone a b) layout = longer_no layout
  longer_simple (Close a) layout = longer_no layout
  longer_simple (Print a b c) layout = longer_no layout
  longer_simple (ReceiveAlone a) layout = longer_no layout
  longer_simple (Send a b) layout = longer_no layout
  longer_simple (Increment a) layout = longer_no layout
  longer_simple (Decrement a) layout = longer_no layout
  longer_simple (Assign a b) layout = longer_no layout
  longer_simple (Update a b c) layout = longer_no layout

  pub longer_any : (simple : Option Simple) (site : Site) → Longer site.layout (made_any globals elements site simple).layout
  longer_any None site = longer_no site.layout
  longer_any (Some simple) site = longer_simple simple site.layout

  pub longer_target : (kind : ValueType) (target : Target) (layout : Layout) → Longer layout (following_target globals elements kind target layout)
  longer_target kind NoTarget layout = longer_no layout
  longer_target kind (DefineTarget name) layout = longer_new globals elements kind name layout
  longer_target kind (AssignTarget place) layout = longer_no layout

  pub longer_item : (target : Target) (channel : Expression) (layout : Layout) → Longer layout (with_item globals elements target channel layout)
  longer_item target channel layout =
      let k = keeping globals elements channel layout in
      let kept = longer_declaring globals elements (type_of globals elements layout.scope channel) blank (entering layout) in
      longer_on layout k (with_item globals elements target channel layout) (longer_as (entering layout) k layout k refl refl kept)
      (longer_as (entering k) (with_item globals elements target channel layout) k (with_item globals elements target channel layout) refl refl (longer_target (carried globals elements layout.scope channel) target (entering k)))

  pub longer_post : (header : Layout) (site : Site) (post : Option Simple) → Longer site.layout (made_post globals elements header site post).layout
  longer_post header site None = longer_no site.layout
  longer_post header site (Some simple) = longer_as (entering site.layout) (following_simple globals elements simple (entering site.layout)) site.layout (made_post globals elements header site (Some simple)).layout refl refl (longer_simple simple (entering site.layout))

  module _ (result : Yield) where
    pub longer_comm : (comm : Comm) (layout : Layout) → Longer layout (after_comm globals elements result comm layout)
    longer_comm (CommSend a b) layout = longer_no layout
    longer_comm (CommReceive a) layout = longer_no layout
    longer_comm (CommDefine a b c) layout = longer_all globals elements (one_or_two globals elements result a b) (carried globals elements layout.scope c ∷ BoolType ∷ []) layout
    longer_comm (CommAssign a b c) layout = longer_no layout

    pub longer_unless : (first rest : Made) (layout : Layout) → Longer layout first.layout → Longer first.layout rest.layout → Longer layout (unless_ended globals elements result first rest).layout
    longer_unless first rest layout g h = go (reaches_end first.plan) where
      go : (t : Bool) → Longer layout (if t then followed first rest else first).layout
      go true = longer_on layout first.layout rest.layout g h
      go false = g

    mutual
      pub longer : (site : Site) (s : Statement) → Longer site.layout (made globals elements result site s).layout
      longer site Empty = longer_no site.layout
      longer site (Alone simple) = longer_simple simple site.layout
      longer site (VarTyped names kind right) = longer_each globals elements _ names site.layout
      longer site (VarUntyped names right) = longer_all globals elements names _ site.layout
      longer site (Block body) = longer_kept site.layout _ (longer_statements (inside site) body)
      longer site (If branch) = longer_branch site branch
      longer site (For Forever body) = longer_kept site.layout _ (longer_statements (inside site) body)
      longer site (For (While condition) body) = longer_kept site.layout _ (longer_statements (inside site) body)
      longer site (For (ForClauses first condition post) body) =
          let header = made_any globals elements (inside site) first in
          let following = past (inside site) header in
          let within = ended header.layout (made_all globals elements result (inside following) body) in
          let turn = made_post globals elements header.layout (past following within) post in
          longer_kept site.layout turn.layout
          (longer_on (inside site).layout within.layout turn.layout (longer_within (inside site).layout header.layout (made_all globals elements result (inside following) body).layout (longer_any first (inside site)) (longer_statements (inside following) body)) (longer_post header.layout (past following within) post))
      longer site (For (Range target channel) body) =
          let item = item_site globals elements result site target channel in
          let inner = made_all globals elements result (inside item) body in
          longer_as site.layout (leaving item.layout inner.layout) site.layout (leaving site.layout (leaving item.layout inner.layout)) refl refl (longer_within site.layout item.layout inner.layout (longer_item target channel site.layout) (longer_statements (inside item) body))
      longer site (Select all) = go (made_ways globals elements result (within_select globals elements result site) (λ following. made_default globals elements result following all) all) (longer_ways (within_select globals elements result site) (λ following. made_default globals elements result following all) all (λ following. longer_default following all)) where
        go : (o : Option Made) → IfSome o (λ m. Longer site.layout m.layout) → Longer site.layout (made_select globals elements result site all o).layout
        go None g = longer_no site.layout
        go (Some m) g = g
      longer site (Go function arguments) = longer_no site.layout
      longer site (Return returned) = longer_no site.layout
      longer site Break = longer_no site.layout
      longer site Continue = longer_no site.layout

      pub longer_statements : (site : Site) (body : Statements) → Longer site.layout (made_all globals elements result site body).layout
      longer_statements site NoStatement = longer_no site.layout
      longer_statements site (Then first rest) =
          let one = made globals elements result site first in
          longer_unless one (made_all globals elements result (past site one) rest) site.layout (longer site first) (longer_statements (past site one) rest)

      pub longer_branch : (site : Site) (branch : Branch) → Longer site.layout (made_branch globals elements result site branch).layout
      longer_branch site (Conditional head condition body otherwise) =
          let first = made_any globals elements (inside site) (head_simple head) in
          let following = past (inside site) first in
          let inner = made_all globals elements result (inside following) body in
          let so = ended first.layout inner in
          let other = made_otherwise globals elements result following condition so otherwise in
          longer_kept site.layout other.layout
          (longer_on (inside site).layout so.layout other.layout (longer_within (inside site).layout first.layout inner.layout (longer_any (head_simple head) (inside site)) (longer_statements (inside following) body)) (longer_otherwise following condition so otherwise))

      pub longer_otherwise : (site : Site) (condition : Expression) (so : Made) (otherwise : Otherwise) → Longer so.layout (made_otherwise globals elements result site condition so otherwise).layout
      longer_otherwise site condition so NoElse = longer_no so.layout
      longer_otherwise site condition so (ElseBlock body) = let inner = made_all globals elements result (inside (past site so)) body in longer_as (entering so.layout) inner.layout so.layout (leaving site.layout inner.layout) refl refl (longer_statements (inside (past site so)) body)
      longer_otherwise site condition so (ElseIf branch) = longer_branch (past site so) branch

      pub longer_ways : (site : Site) (default : Site → Option Made) (clauses : Clauses) → ((following : Site) → IfSome (default following) (λ m. Longer following.layout m.layout)) → IfSome (made_ways globals elements result site default clauses) (λ m. Longer site.layout m.layout)
      longer_ways site default NoClause d = d site
      longer_ways site default (Clause None body more) d = longer_ways site default more d
      longer_ways site default (Clause (Some comm) body more) d =
          let first = made_comm globals elements result (inside site) comm in
          let inner = made_all globals elements result (past (inside site) first) body in
          let one = ended site.layout (followed first inner) in
          let g : Longer site.layout one.layout = longer_kept site.layout inner.layout (longer_on (inside site).layout first.layout inner.layout (longer_comm comm (inside site).layout) (longer_statements (past (inside site) first) body)) in
          go one g (made_ways globals elements result (past site one) default more) (longer_ways (past site one) default more d) where
            go : (one : Made) → Longer site.layout one.layout → (o : Option Made) → IfSome o (λ m. Longer one.layout m.layout) → Longer site.layout (with_way (comm_kinds globals elements result site.layout comm) one o).layout
            go one g None h = g
            go one g (Some m) h = longer_on site.layout one.layout m.layout g h

      pub longer_default : (site : Site) (clauses : Clauses) → IfSome (made_default globals elements result site clauses) (λ m. Longer site.layout m.layout)
      longer_default site NoClause = tt
      longer_default site (Clause None body more) = longer_kept site.layout _ (longer_statements (inside site) body)
      longer_default site (Clause (Some comm) body more) = longer_default site more
