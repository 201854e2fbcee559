-- Statements add variables after those that are there, and take words of the frame.
use Rattle.std.proofs.Common.{◌≡◌, ℕ, ◌≤◌, Bool, true, false, List, [], ◌∷◌, ◌++◌, Option, Some, None, IfSome, refl, sym, ap, ◌∙◌, arith, append_assoc}
use Rattle.std.specs.Prelude.{if◌then◌else◌}
use Rattle.std.proofs.lemmas.List.{append-nil}
use Rattle.syntax.specs.Tree.{Expression, Simple, CallAlone, Close, Print, ReceiveAlone, Send, Increment, Decrement, Assign, Define, Update, Target, NoTarget, DefineTarget, AssignTarget, Forever, While, ForClauses, Range, Comm, CommSend, CommReceive, CommDefine, CommAssign, Statement, Empty, Alone, VarTyped, VarUntyped, Block, If, For, Select, Go, Return, Break, Continue, Statements, NoStatement, Then, Branch, Conditional, Otherwise, NoElse, ElseBlock, ElseIf, Clauses, NoClause, Clause}
use Rattle.type_table.specs.Types.{ValueType, BoolType}
use Rattle.type_table.specs.Scopes.{Variable, Globals, Yield}
use Rattle.typing_rules.specs.Simples.{is_declarable}
use Rattle.typing_rules.specs.Statements.{head_simple}
use Rattle.codegen_base.specs.declared.element.Element.{Element}
use Rattle.codegen_base.specs.Layouts.{Layout, entering, declaring, declaring_new, declaring_all, declaring_each, following_simple, following_target, keeping, with_item, carried}
use Rattle.codegen_base.specs.Generated.{Site, Made, past, followed, ended, inside, with_way, made_any, made_post, made_comm, after_comm, item_site, within_select, unless_ended, made, made_all, made_branch, made_otherwise, made_ways, made_default, made_select, one_or_two, comm_kinds}
use Rattle.plan.specs.Plan.{reaches_end}

-- the variables that were there are there, and no fewer words are taken
pub record Grown (layout following : Layout) : Type 0 where
  pub more : List Variable
  pub variables : following.scope.variables ≡ layout.scope.variables ++ more
  pub words : layout.scope.words ≤ following.scope.words

pub grown_no : (layout : Layout) → Grown layout layout
grown_no layout = record { more = []; variables = sym (append-nil layout.scope.variables); words = omega arith }

pub grown_on : (a b c : Layout) → Grown a b → Grown b c → Grown a c
grown_on a b c g h =
    let x = g.words in
    let y = h.words in
    record { more = g.more ++ h.more; variables = h.variables ∙ ap (λ (l : List Variable). l ++ h.more) g.variables ∙ append_assoc a.scope.variables g.more h.more; words = omega (arith, x, y) }

pub grown_kept : (outer following : Layout) → following.scope.variables ≡ outer.scope.variables → outer.scope.words ≤ following.scope.words → Grown outer following
grown_kept outer following same le = record { more = []; variables = same ∙ sym (append-nil outer.scope.variables); words = le }

module _ (globals : Globals) (elements : List Element) where
  grown_declaring : (kind : ValueType) (name : List ℕ) (layout : Layout) → Grown layout (declaring globals elements kind name layout)
  grown_declaring kind name layout = record { more = _; variables = refl; words = omega arith }

  grown_new : (kind : ValueType) (name : List ℕ) (layout : Layout) → Grown layout (declaring_new globals elements kind name layout)
  grown_new kind name layout = go (is_declarable layout.scope name) where
    go : (t : Bool) → Grown layout (if t then declaring globals elements kind name layout else layout)
    go true = grown_declaring kind name layout
    go false = grown_no layout

  grown_all : (names : List (List ℕ)) (types : List ValueType) (layout : Layout) → Grown layout (declaring_all globals elements names types layout)
  grown_all [] types layout = grown_no layout
  grown_all (name ∷ names) [] layout = grown_no layout
  grown_all (name ∷ names) (kind ∷ types) layout = grown_on layout (declaring_new globals elements kind name layout) _ (grown_new kind name layout) (grown_all names types (declaring_new globals elements kind name layout))

  grown_each : (kind : ValueType) (names : List (List ℕ)) (layout : Layout) → Grown layout (declaring_each globals elements kind names layout)
  grown_each kind [] layout = grown_no layout
  grown_each kind (name ∷ names) layout = grown_on layout (declaring_new globals elements kind name layout) _ (grown_new kind name layout) (grown_each kind names (declaring_new globals elements kind name layout))

  pub grown_simple : (simple : Simple) (layout : Layout) → Grown layout (following_simple globals elements simple layout)
  grown_simple (Define names right) layout = grown_all names _ layout
  grown_simple (CallAlone a b) layout = grown_no layout
  grown_simple (Close a) layout = grown_no layout
  grown_simple (Print a b c) layout = grown_no layout
  grown_simple (ReceiveAlone a) layout = grown_no layout
  grown_simple (Send a b) layout = grown_no layout
  grown_simple (Increment a) layout = grown_no layout
  grown_simple (Decrement a) layout = grown_no layout
  grown_simple (Assign a b) layout = grown_no layout
  grown_simple (Update a b c) layout = grown_no layout

  pub grown_any : (simple : Option Simple) (site : Site) → Grown site.layout (made_any globals elements site simple).layout
  grown_any None site = grown_no site.layout
  grown_any (Some simple) site = grown_simple simple site.layout

  grown_target : (kind : ValueType) (target : Target) (layout : Layout) → Grown layout (following_target globals elements kind target layout)
  grown_target kind NoTarget layout = grown_no layout
  grown_target kind (DefineTarget name) layout = grown_new kind name layout
  grown_target kind (AssignTarget place) layout = grown_no layout

  grown_item : (target : Target) (channel : Expression) (layout : Layout) → layout.scope.words ≤ (with_item globals elements target channel layout).scope.words
  grown_item target channel layout =
      let k = keeping globals elements channel layout in
      let t = grown_target (carried globals elements layout.scope channel) target (entering k) in
      let w = t.words in
      omega (arith, w)

  pub grown_post : (header : Layout) (site : Site) (post : Option Simple) → site.layout.scope.words ≤ (made_post globals elements header site post).layout.scope.words
  grown_post header site None = omega arith
  grown_post header site (Some simple) = (grown_simple simple (entering site.layout)).words

  module _ (result : Yield) where
    pub grown_comm : (comm : Comm) (layout : Layout) → Grown layout (after_comm globals elements result comm layout)
    grown_comm (CommSend a b) layout = grown_no layout
    grown_comm (CommReceive a) layout = grown_no layout
    grown_comm (CommDefine a b c) layout = grown_all (one_or_two globals elements result a b) (carried globals elements layout.scope c ∷ BoolType ∷ []) layout
    grown_comm (CommAssign a b c) layout = grown_no layout

    grown_unless : (first rest : Made) (layout : Layout) → Grown layout first.layout → Grown first.layout rest.layout → Grown layout (unless_ended globals elements result first rest).layout
    grown_unless first rest layout g h = go (reaches_end first.plan) where
      go : (t : Bool) → Grown layout (if t then followed first rest else first).layout
      go true = grown_on layout first.layout rest.layout g h
      go false = g

    mutual
      pub grown : (site : Site) (s : Statement) → Grown site.layout (made globals elements result site s).layout
      grown site Empty = grown_no site.layout
      grown site (Alone simple) = grown_simple simple site.layout
      grown site (VarTyped names kind right) = grown_each _ names site.layout
      grown site (VarUntyped names right) = grown_all names _ site.layout
      grown site (Block body) = grown_kept site.layout _ refl ((grown_statements (inside site) body).words)
      grown site (If branch) = grown_branch site branch
      grown site (For Forever body) = grown_kept site.layout _ refl ((grown_statements (inside site) body).words)
      grown site (For (While condition) body) = grown_kept site.layout _ refl ((grown_statements (inside site) body).words)
      grown site (For (ForClauses first condition post) body) =
          let header = made_any globals elements (inside site) first in
          let following = past (inside site) header in
          let within = ended header.layout (made_all globals elements result (inside following) body) in
          let a = (grown_any first (inside site)).words in
          let b = (grown_statements (inside following) body).words in
          let c = grown_post header.layout (past following within) post in
          grown_kept site.layout _ refl (omega (arith, a, b, c))
      grown site (For (Range target channel) body) =
          let item = item_site globals elements result site target channel in
          let a = grown_item target channel site.layout in
          let b = (grown_statements (inside item) body).words in
          grown_kept site.layout _ refl (omega (arith, a, b))
      grown site (Select all) = go (made_ways globals elements result (within_select globals elements result site) (λ following. made_default globals elements result following all) all) (grown_ways (within_select globals elements result site) (λ following. made_default globals elements result following all) all (λ following. grown_default following all)) where
        go : (o : Option Made) → IfSome o (λ m. Grown site.layout m.layout) → Grown site.layout (made_select globals elements result site all o).layout
        go None g = grown_no site.layout
        go (Some m) g = g
      grown site (Go function arguments) = grown_no site.layout
      grown site (Return returned) = grown_no site.layout
      grown site Break = grown_no site.layout
      grown site Continue = grown_no site.layout

      pub grown_statements : (site : Site) (body : Statements) → Grown site.layout (made_all globals elements result site body).layout
      grown_statements site NoStatement = grown_no site.layout
      grown_statements site (Then first rest) =
          let one = made globals elements result site first in
          grown_unless one (made_all globals elements result (past site one) rest) site.layout (grown site first) (grown_statements (past site one) rest)

      pub grown_branch : (site : Site) (branch : Branch) → Grown site.layout (made_branch globals elements result site branch).layout
      grown_branch site (Conditional head condition body otherwise) =
          let first = made_any globals elements (inside site) (head_simple head) in
          let following = past (inside site) first in
          let so = ended first.layout (made_all globals elements result (inside following) body) in
          let a = (grown_any (head_simple head) (inside site)).words in
          let b = (grown_statements (inside following) body).words in
          let c = grown_otherwise following condition so otherwise in
          grown_kept site.layout _ refl (omega (arith, a, b, c))

      pub grown_otherwise : (site : Site) (condition : Expression) (so : Made) (otherwise : Otherwise) → so.layout.scope.words ≤ (made_otherwise globals elements result site condition so otherwise).layout.scope.words
      grown_otherwise site condition so NoElse = omega arith
      grown_otherwise site condition so (ElseBlock body) = (grown_statements (inside (past site so)) body).words
      grown_otherwise site condition so (ElseIf branch) = (grown_branch (past site so) branch).words

      pub grown_ways : (site : Site) (default : Site → Option Made) (clauses : Clauses) → ((following : Site) → IfSome (default following) (λ m. Grown following.layout m.layout)) → IfSome (made_ways globals elements result site default clauses) (λ m. Grown site.layout m.layout)
      grown_ways site default NoClause d = d site
      grown_ways site default (Clause None body more) d = grown_ways site default more d
      grown_ways site default (Clause (Some comm) body more) d =
          let first = made_comm globals elements result (inside site) comm in
          let inner = made_all globals elements result (past (inside site) first) body in
          let one = ended site.layout (followed first inner) in
          let a = (grown_comm comm (inside site).layout).words in
          let b = (grown_statements (past (inside site) first) body).words in
          let g : Grown site.layout one.layout = grown_kept site.layout one.layout refl (omega (arith, a, b)) in
          go one g (made_ways globals elements result (past site one) default more) (grown_ways (past site one) default more d) where
            go : (one : Made) → Grown site.layout one.layout → (o : Option Made) → IfSome o (λ m. Grown one.layout m.layout) → Grown site.layout (with_way (comm_kinds globals elements result site.layout comm) one o).layout
            go one g None h = g
            go one g (Some m) h = grown_on site.layout one.layout m.layout g h

      pub grown_default : (site : Site) (clauses : Clauses) → IfSome (made_default globals elements result site clauses) (λ m. Grown site.layout m.layout)
      grown_default site NoClause = tt
      grown_default site (Clause None body more) = grown_kept site.layout _ refl ((grown_statements (inside site) body).words)
      grown_default site (Clause (Some comm) body more) = grown_default site more
