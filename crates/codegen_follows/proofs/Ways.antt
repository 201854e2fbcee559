-- The ways of a select: each is at the pc of its clause of the table.
use Rattle.std.proofs.Common.{◌≡◌, ℕ, ◌+◌, ◌≤◌, Bool, true, false, List, [], ◌∷◌, ◌++◌, length, map, Option, Some, None, IfSome, refl, sym, ap, ◌∙◌, subst, arith, inl, inr}
use Rattle.std.specs.Prelude.{unwrap_or}
use Rattle.std.specs.Option.{is_some}
use Rattle.std.proofs.lemmas.List.{map-append}
use Rattle.syntax.specs.Tree.{Expression, Comm, CommSend, CommReceive, CommDefine, CommAssign, Statements, NoStatement, Clauses, NoClause, Clause}
use Rattle.syntax.specs.Measures.{if_any, comm_size, statements_size}
use Rattle.bytecode.specs.declared.instr.WordKind.{WordKind}
use Rattle.bytecode.specs.declared.instr.WordKind.TheVariants as kinds
use Rattle.bytecode.specs.declared.table.Clause.{Clause as TableClause}
use Rattle.bytecode.specs.Effects.{clause_gives, clause_target, kinds_in, shape_kinds}
use Rattle.bytecode.specs.Machine.{Frames as CodeFrames, zero_of}
use Rattle.word.specs.declared.value.Word.TheVariants.{Bool as Truth}
use Rattle.type_table.specs.Types.{ValueType}
use Rattle.type_table.specs.Containment.{Structs}
use Rattle.type_table.specs.Scopes.{entered, Globals}
use Rattle.type_table.specs.Zeros.{zero_words}
use Rattle.typing_rules.specs.Simples.{SimpleHas, comm_simple}
use Rattle.typing_rules.specs.Statements.{after_all, after_any, StatementsHave, ClausesHave}
use Rattle.meaning.specs.Variables.{Blocks, Destination}
use Rattle.meaning.specs.Tasks.{Task}
use Rattle.meaning.specs.Source.{default_of, comm_zeros, comm_destinations}
use Rattle.codegen_base.specs.Elements.{shape_of}
use Rattle.codegen_base.specs.Layouts.{carried}
use Rattle.codegen_base.specs.Generated.{Site, Made, past, followed, ended, inside, with_way, default_at, table_clause, table_clauses, default_places, comm_kinds, made_comm, made_all, made_ways, made_default}
use Rattle.plan.specs.Plan.{Plan, Skip, jump_size, size, starts, table_count}
use Rattle.plan.proofs.Words.{Words}
use Rattle.plan.proofs.Places.{at_once}
use Rattle.codegen_base.proofs.Likeness.{kinds_zeros, all_words_of}
use Rattle.codegen_base.proofs.Typing.{Free}
use Rattle.codegen_follows.proofs.Stands.{View, scope_of, opened, IsOn, Fits, within, AllMake, ClausesMake, Live, in_way, WayAt, SimpleMakes}
use Rattle.codegen_follows.proofs.Begun.{fine_opened, prints_front, prints_back}
use Rattle.codegen_follows.proofs.Grown.{Grown, grown_statements, grown_ways, grown_comm}
use Rattle.codegen_follows.proofs.Comms.{Beside, beside, fine_beside, comm_channel, comm_view, comm_together, comm_fine, kind_item, received_types, comm_taking}
use Rattle.codegen_follows.proofs.Operands.{comm_count, comm_waited}
use Rattle.codegen_base.proofs.Running.{Compiled, Coded}
use Rattle.codegen_follows.proofs.Simulated.{Simulated, at, Point, here_blocks}
use Rattle.codegen_follows.proofs.Channels.{IsChannel}
use Rattle.codegen_follows.proofs.Chosen.{WaysAt, ways_of}
use Rattle.meaning.specs.Expressions.{element_kind}

abbrev pub plan_of : Option Made → Plan
plan_of None = Skip
plan_of (Some m) = m.plan

module _ {globals : Globals} {program : Compiled globals} {coded : Coded program} {simulated : Simulated coded} (point : Point simulated) (k : List Task) (mid : Option ℕ) where
  open program use {elements, code, wide as all}
  open coded use {function as f, number as g, there, result}
  open simulated use {running, running.{context, context.{callers as ds}}}
  open point use {locals as ls, around as l, view, fine, room, held as h}

  abbrev structs : Structs
  structs = globals.structs

  abbrev place_at : ℕ → Words → Words → CodeFrames
  place_at place ls stack = at simulated place ls stack

  abbrev blocks : Blocks
  blocks = here_blocks point

  abbrev OnIn : Plan → ℕ → Type 0
  OnIn plan place = IsOn coded (in_way l mid) plan place mid

  abbrev Fits' : ℕ → Made → Type 0
  Fits' first one = Fits coded first one

  -- what is made is at pc `place`
  abbrev Laying : ℕ → ℕ → Made → Type 0
  Laying first place m = OnIn m.plan place × Fits' first m

  abbrev clause_at : Comm → ℕ → TableClause
  clause_at comm to = table_clause globals elements result view.site.layout comm to

  abbrev clauses_at : Clauses → List ℕ → List TableClause
  clauses_at clauses places = table_clauses globals elements result view.site.layout clauses places

  abbrev default_in : Clauses → List ℕ → Option ℕ
  default_in clauses places = default_at (default_places globals elements result clauses places)

  abbrev default_body : Clauses → Option Statements
  default_body clauses = default_of globals blocks k clauses

  abbrev Way' : List ValueType → List Destination → Statements → ℕ → Type 0
  Way' types destinations body place = WayAt coded l view types destinations body place mid

  -- ---- a way

  target_is : (comm : Comm) (to : ℕ) → clause_target (clause_at comm to) ≡ to
  target_is (CommSend e value) to = refl
  target_is (CommReceive e) to = refl
  target_is (CommDefine item ok e) to = refl
  target_is (CommAssign item ok e) to = refl

  abbrev Channel' : Expression → Type 0
  Channel' e = IsChannel point e

  -- the reply of a channel has the words of an item, and whether it was sent
  item_told : (e : Expression) → Channel' e → map zero_of (shape_kinds code (shape_of elements (carried globals elements (scope_of view) e)) ++ kinds.Bool ∷ []) ≡ zero_words globals.structs (element_kind globals blocks e) ++ Truth false ∷ []
  item_told e c =
      let structs = globals.structs in
      let shape = shape_of elements (carried globals elements (scope_of view) e) in
      let carried-kinds = ap (λ kind. shape_kinds code (shape_of elements kind)) c.carries ∙ ap kinds_in c.shape in
      map-append zero_of (shape_kinds code shape) (kinds.Bool ∷ [])
      ∙ ap (λ (z : Words). z ++ Truth false ∷ []) (ap (map zero_of) carried-kinds ∙ kinds_zeros structs elements c.element ∙ ap (zero_words structs) (sym c.runs))

  comm_told : (comm : Comm) (to : ℕ) → Channel' (comm_channel comm) → map zero_of (clause_gives code (Some (clause_at comm to))) ≡ all_words_of (comm_zeros globals blocks k comm)
  comm_told (CommSend e value) to c = refl
  comm_told (CommReceive e) to c = item_told e c
  comm_told (CommDefine item ok e) to c = item_told e c
  comm_told (CommAssign item ok e) to c = item_told e c

  module _ (b : Beside) (wider : (scope_of view).words ≤ b.words) where
    abbrev types_of : Comm → List ValueType
    types_of comm = received_types point k b wider comm

    abbrev after_comm : Comm → View
    after_comm comm = comm_view point k b wider comm

    abbrev site : Site
    site = (beside view b).site

    -- a clause's code
    abbrev made_clause : Comm → Statements → Made
    made_clause comm body =
        let first = made_comm globals elements result (inside site) comm in ended site.layout (followed first (made_all globals elements result (past (inside site) first) body))

    comm_zeros_are : (comm : Comm) → Channel' (comm_channel comm) → comm_zeros globals blocks k comm ≡ map (zero_words globals.structs) (types_of comm)
    comm_zeros_are comm c = go comm c where
      item : (e : Expression) → Channel' e → zero_words globals.structs (element_kind globals blocks e) ∷ (Truth false ∷ []) ∷ [] ≡ map (zero_words globals.structs) (types_of (CommReceive e))
      item e c = ap (λ kind. zero_words globals.structs kind ∷ (Truth false ∷ []) ∷ []) (kind_item point k b wider e c)

      go : (comm : Comm) → Channel' (comm_channel comm) → comm_zeros globals blocks k comm ≡ map (zero_words globals.structs) (types_of comm)
      go (CommSend e value) c = refl
      go (CommReceive e) c = item e c
      go (CommDefine name ok e) c = item e c
      go (CommAssign name ok e) c = item e c

    clause_way : (comm : Comm) (body : Statements) (continues : Bool) (first place : ℕ) → Channel' (comm_channel comm) → Free (SimpleHas globals (entered (beside view b).checked) first (comm_simple comm))
        → Free (StatementsHave (within coded true continues) (after_any globals (entered (beside view b).checked) (Some (comm_simple comm))) (first + comm_size comm) body) → SimpleMakes globals elements (comm_simple comm) → AllMake globals elements body
        → OnIn (made_clause comm body).plan place → Fits' b.prints (made_clause comm body) → Way' (types_of comm) (comm_destinations globals blocks k comm) body place
    clause_way comm body continues first place c good body_good comm-makes makes on fits =
        let inner = made_all globals elements result (after_comm comm).site body in
        let grown = (grown_statements globals elements result (after_comm comm).site body).words in
        let most = fits.room in
        let fine_comm = comm_fine point k b wider comm first good comm-makes in
        record {
          outer = beside view b;
          begins_are = refl;
          same = refl;
          next = after_comm comm;
          together = comm_together point k b wider comm;
          fine = fine_comm;
          mid = on.0;
          taking = comm_taking point k b wider (in_way l mid) comm first place on.0 c good (omega (arith, grown, most)) on.1;
          live = map_live on.0 on.2;
        } where
          map_live : (o : Option ℕ) → IfSome o (λ p. OnIn (made_all globals elements result (after_comm comm).site body).plan p) → IfSome o (λ p. Live coded (after_comm comm) (in_way l mid) body p mid)
          map_live None x = tt
          map_live (Some p) x = record {
            first = first + comm_size comm;
            breaks = true;
            continues = continues;
            fine = comm_fine point k b wider comm first good comm-makes;
            good = body_good;
            makes = makes;
            on = x;
            fits = record { tables = prints_back code b.prints [] (made_all globals elements result (after_comm comm).site body).prints fits.tables; room = fits.room };
          }

    default_way : (body : Statements) (continues : Bool) (first place : ℕ) → Free (StatementsHave (within coded true continues) (entered (beside view b).checked) first body) → AllMake globals elements body
        → OnIn (made_all globals elements result (inside site) body).plan place → Fits' b.prints (made_all globals elements result (inside site) body) → Way' [] [] body place
    default_way body continues first place good makes on fits =
        let fine_here = fine_opened coded (beside view b) (fine_beside coded view b wider fine) in
        record {
          outer = beside view b;
          begins_are = refl;
          same = refl;
          next = opened (beside view b);
          together = (refl, refl);
          fine = fine_here;
          mid = Some place;
          taking = (at_once, refl);
          live = record { first = first; breaks = true; continues = continues; fine = fine_here; good = good; makes = makes; on = on; fits = fits };
        }

  -- ---- the default

  -- the pc at which the default begins
  pub record HasDefault (o : Option Made) (body : Option Statements) (place : ℕ) : Type 0 where
    pub way : IfSome (default_at (starts place (plan_of o))) (λ p. Way' [] [] (unwrap_or body NoStatement) p)
    pub is_there : is_some (default_at (starts place (plan_of o))) ≡ is_some body

  pub default_laid : (clauses : Clauses) (b : Beside) (breaks continues : Bool) (n first place : ℕ) → (scope_of view).words ≤ b.words → Free (ClausesHave (within coded breaks continues) (beside view (record b { checked = n })).checked first clauses) → ClausesMake globals elements clauses
      → IfSome (made_default globals elements result (beside view b).site clauses) (Laying b.prints place) → HasDefault (made_default globals elements result (beside view b).site clauses) (default_body clauses) place
  default_laid NoClause b breaks continues n first place wider free makes h = record { way = tt; is_there = refl }
  default_laid (Clause (Some comm) body more) b breaks continues n first place wider free makes h =
      let inner = after_all globals (after_any globals (entered (beside view (record b { checked = n })).checked) (Some (comm_simple comm))) body in
      let rest = default_laid more b breaks continues inner.words (first + comm_size comm + statements_size body + 1) place wider (λ violation x. free violation (inr (inr x))) makes.2 h in
      record { way = rest.way; is_there = rest.is_there }
  default_laid (Clause None body more) b breaks continues n first place wider free makes h = record {
    way = default_way (record b { checked = n }) wider body continues (first + if_any comm_size None) place (λ violation x. free violation (inr (inl x))) makes.1 h.0 (record { tables = h.1.tables; room = h.1.room });
    is_there = refl;
  }

  -- ---- all ways

  -- the ways of these clauses begin at pc `place`; those of a select end with its default
  pub record Laid (body : Option Statements) (clauses : Clauses) (o : Option Made) (place : ℕ) : Type 0 where
    pub many : comm_count clauses ≤ length (starts place (plan_of o))
    pub ways : WaysAt coded l view (ways_of globals blocks k clauses) (clauses_at clauses (starts place (plan_of o))) mid
    pub default : IfSome (default_in clauses (starts place (plan_of o))) (λ p. Way' [] [] (unwrap_or body NoStatement) p)
    pub is_there : is_some (default_in clauses (starts place (plan_of o))) ≡ is_some body

  -- the first way, and the others
  record Parts (ks : List WordKind) (one : Made) (o : Option Made) (first place : ℕ) : Type 0 where
    pub on : OnIn one.plan place
    pub fits : Fits' first one
    pub others : IfSome o (Laying (first + length one.prints) (place + size one.plan + jump_size one.plan))

  parts : (ks : List WordKind) (one : Made) (o : Option Made) (first place : ℕ) → IfSome o (λ m. Grown one.layout m.layout) → Laying first place (with_way ks one o) → Parts ks one o first place
  parts ks one None first place g h = record { on = h.0; fits = record { tables = h.1.tables; room = h.1.room }; others = tt }
  parts ks one (Some m) first place g h =
      let w = g.words in
      let r = h.1.room in
      record {
        on = h.0.0;
        fits = record { tables = prints_front code first one.prints m.prints h.1.tables; room = omega (arith, w, r) };
        others = (h.0.1, record { tables = prints_back code first one.prints m.prints h.1.tables; room = r });
      }

  laid_more : (body : Option Statements) (comm : Comm) (statements : Statements) (clauses : Clauses) (types : List ValueType) (ks : List WordKind) (one : Made) (o : Option Made) (place : ℕ) → Channel' (comm_channel comm) → comm_zeros globals blocks k comm ≡ map (zero_words globals.structs) types
      → Way' types (comm_destinations globals blocks k comm) statements place → Laid body clauses o (place + size one.plan + jump_size one.plan) → Laid body (Clause (Some comm) statements clauses) (Some (with_way ks one o)) place
  laid_more body comm statements clauses types ks one o place c zeros way rest = go o rest where
    first : Way' types (comm_destinations globals blocks k comm) statements (clause_target (clause_at comm place))
    first = subst (Way' types (comm_destinations globals blocks k comm) statements) (sym (target_is comm place)) way

    go : (o : Option Made) → Laid body clauses o (place + size one.plan + jump_size one.plan) → Laid body (Clause (Some comm) statements clauses) (Some (with_way ks one o)) place
    go None rest = let many = rest.many in record { many = omega (arith, many); ways = (types, zeros, comm_told comm place c, first, rest.ways); default = rest.default; is_there = rest.is_there }
    go (Some m) rest = let many = rest.many in record { many = omega (arith, many); ways = (types, zeros, comm_told comm place c, first, rest.ways); default = rest.default; is_there = rest.is_there }

  -- what is known of the default, wherever it is
  abbrev Default' : Option Statements → (Site → Option Made) → Type 0
  Default' body default = (b : Beside) (place : ℕ) → (scope_of view).words ≤ b.words → IfSome (default (beside view b).site) (Laying b.prints place) → HasDefault (default (beside view b).site) body place

  pub ways_laid : (body : Option Statements) (default : Site → Option Made) (clauses : Clauses) (b : Beside) (breaks continues : Bool) (first place : ℕ) → ((following : Site) → IfSome (default following) (λ m. Grown following.layout m.layout)) → Default' body default → (scope_of view).words ≤ b.words
      → Free (ClausesHave (within coded breaks continues) (beside view b).checked first clauses) → ClausesMake globals elements clauses → IfSome (made_ways globals elements result (beside view b).site default clauses) (Laying b.prints place)
      → Laid body clauses (made_ways globals elements result (beside view b).site default clauses) place
  ways_laid body default NoClause b breaks continues first place grows d wider free makes h = let x = d b place wider h in record { many = omega arith; ways = tt; default = x.way; is_there = x.is_there }
  ways_laid body default (Clause None statements more) b breaks continues first place grows d wider free makes h =
      let inner = after_all globals (entered (beside view b).checked) statements in
      let rest = ways_laid body default more (record b { checked = inner.words }) breaks continues (first + if_any comm_size None + statements_size statements + 1) place grows d wider (λ violation x. free violation (inr (inr x))) makes.2 h in
      record { many = rest.many; ways = rest.ways; default = rest.default; is_there = rest.is_there }
  ways_laid body default (Clause (Some comm) statements more) b breaks continues first place grows d wider free makes h =
      let site = (beside view b).site in
      let one = made_clause b wider comm statements in
      let waits = made_comm globals elements result (inside site) comm in
      let inner = after_all globals (after_any globals (entered (beside view b).checked) (Some (comm_simple comm))) statements in
      let ks = comm_kinds globals elements result site.layout comm in
      let others = made_ways globals elements result (past site one) default more in
      let p = parts ks one others b.prints place (grown_ways globals elements result (past site one) default more grows) h in
      let next : Beside = record { words = one.layout.scope.words; locals = one.layout.locals; prints = b.prints + length one.prints; selects = b.selects + table_count one.plan; checked = inner.words } in
      let c = (comm_waited point k mid comm first b.checked (λ violation x. free violation (inl x)) makes.0).channel in
      let a = (grown_comm globals elements result comm (inside site).layout).words in
      let e = (grown_statements globals elements result (past (inside site) waits) statements).words in
      let rest = ways_laid body default more next breaks continues (first + comm_size comm + statements_size statements + 1) (place + size one.plan + jump_size one.plan) grows d (omega (arith, wider, a, e)) (λ violation x. free violation (inr (inr x))) makes.2 p.others in
      laid_more body comm statements more (types_of b wider comm) ks one others place c (comm_zeros_are b wider comm c) (clause_way b wider comm statements continues first place c (λ violation x. free violation (inl x)) (λ violation x. free violation (inr (inl x))) makes.0 makes.1 p.on p.fits) rest
