-- A select that has asked goes on at the way that was done.
use Rattle.bytecode.specs.declared.instr.Instr.TheVariants as instrs
use Rattle.std.proofs.Common.{◌≡◌, ℕ, zero, suc, ◌-◌, ◌<◌, Bool, true, List, [], ◌∷◌, ◌++◌, length, map, take, drop, Option, Some, None, IfSome, refl, sym, ap, ◌∙◌, subst, arith, slice_get}
use Rattle.std.specs.Option.{is_some}
use Rattle.std.proofs.lemmas.Option.{same_Some}
use Rattle.syntax.specs.Tree.{Statements, Clauses, NoClause, Clause as Clauses-Clause, NoStatement}
use Rattle.bytecode.specs.declared.table.Clause.{Clause as TableClause}
use Rattle.bytecode.specs.Code.{Code, SelectTable}
use Rattle.bytecode.specs.Effects.{clause_gives, clause_kinds, clause_target, clauses_in, default_targets, targets}
use Rattle.bytecode.specs.Machine.{Frames as CodeFrames, fitted, zero_of, code_answer, reply_words as machine_words, also, case_of, cases_of, way_of, choice, pops}
use Rattle.word.specs.declared.request.Case.{Case}
use Rattle.word.specs.declared.value.Word.{Word}
use Rattle.word.specs.Values.{Item, Reply, Nothing, Value, Received, Clause, Default, Closed, Select}
use Rattle.word.specs.Kinds.{Suits, SuitsClause, Asks}
use Rattle.type_table.specs.Types.{ValueType}
use Rattle.type_table.specs.Containment.{Structs}
use Rattle.type_table.specs.Scopes.{Scope, Globals}
use Rattle.type_table.specs.Zeros.{zero_words}
use Rattle.meaning.specs.Values.{Value as SourceValue, words_like, parted, reply_words}
use Rattle.meaning.specs.Variables.{Blocks, Destination, entered}
use Rattle.meaning.specs.Tasks.{Task, EndSelect, all_of, Course}
use Rattle.plan.proofs.Words.{Words}
use Rattle.plan.proofs.Selects.{select_asks, select_answer}
use Rattle.plan.proofs.Steps.{takes_told}
use Rattle.codegen_base.proofs.Static.{Holding}
use Rattle.codegen_base.proofs.Likeness.{fitted_like, AreLike, all_words_of}
use Rattle.codegen_follows.proofs.Stands.{Around, View, variables, opened, in_way, WayAt, scope_of}
use Rattle.codegen_follows.proofs.Unwound.{together_on}
use Rattle.codegen_base.proofs.Running.{Compiled, Coded}
use Rattle.codegen_follows.proofs.Simulated.{Simulated, Held, Rest, blocks_of, at, Comes, Works, works_after, Position, here_blocks, On'}
use Rattle.meaning.specs.Worked.{Worked, ready, and_then, needs, Asking, Given, Told}
use Rattle.plan.specs.Plan.{Plan}
use Rattle.codegen_base.proofs.Gave.{bind as follows_then, asks as asks_at}
use Rattle.meaning.specs.Source.{comm_zeros, comm_destinations, at_clause, at_default, default_of, assigned, chosen}
use Rattle.codegen_follows.proofs.Taken.{comes_of, assigned_comes, taken_goes, parted_like}
use Rattle.codegen_follows.proofs.Follows.{blocks_same, inner_same, lead_there}
use Rattle.codegen_follows.proofs.Begun.{seen_opened, sits_all, inner_opened}
use Rattle.codegen_base.proofs.Told.{same_reply, parted_words}
use Rattle.std.specs.Prelude.{unwrap_or}
use Rattle.plan.proofs.Places.{At}

-- ---- the clauses of a table

-- a reply is for one of the cases
suits_within : (cases : List Case) (j : ℕ) (got : Option (Item × Bool)) → SuitsClause cases j got → (n : ℕ) × (j ≡ suc n) × (n < length cases)
suits_within [] j got s = absurd s
suits_within (x ∷ xs) zero got s = absurd s
suits_within (x ∷ xs) (suc zero) got s = (0, refl, omega arith)
suits_within (x ∷ xs) (suc (suc j)) got s = let m = suits_within xs (suc j) got s in let le = m.2 in let e = m.1 in (suc m.0, ap suc e, omega (arith, le))

-- there are as many cases as clauses
cases_long : (code : Code) (clauses : List TableClause) (ws : List Word) (cases : List Case) → cases_of code clauses ws ≡ Some cases → length clauses ≡ length cases
cases_long code [] ws cases e = ap length (same_Some [] cases e)
cases_long code (x ∷ xs) ws cases e = go (case_of x (take' ws)) (cases_of code xs (drop' ws)) (λ more h. cases_long code xs (drop' ws) more h) e where
  take' : List Word → List Word
  take' ws = take (length (clause_kinds code x)) ws

  drop' : List Word → List Word
  drop' ws = drop (length (clause_kinds code x)) ws

  go : (o : Option Case) (r : Option (List Case)) → ((more : List Case) → r ≡ Some more → length xs ≡ length more) → also o r ≡ Some cases → length (x ∷ xs) ≡ length cases
  go None r more e = absurd cc
  go (Some c) None more e = absurd cc
  go (Some c) (Some cs) more e = ap suc (more cs refl) ∙ ap length (same_Some (c ∷ cs) cases e)

target_there : (clauses : List TableClause) (more : List ℕ) (n : ℕ) (clause : TableClause) → slice_get clauses n ≡ Some clause → slice_get (map clause_target clauses ++ more) n ≡ Some (clause_target clause)
target_there [] more n clause e = absurd cc
target_there (x ∷ xs) more zero clause e = ap (λ c. Some (clause_target c)) (same_Some x clause e)
target_there (x ∷ xs) more (suc n) clause e = target_there xs more n clause e

default_there : (clauses : List TableClause) (to : ℕ) → (slice_get (map clause_target clauses ++ to ∷ []) (length clauses) ≡ Some to) × (slice_get clauses (length clauses) ≡ None)
default_there [] to = (refl, refl)
default_there (x ∷ xs) to = default_there xs to

-- what a way of a select receives is made like these zeros, and goes to destinations
pub record Way : Type 0 where
  pub zeros : List SourceValue
  pub destinations : List Destination
  pub body : Statements

module _ (globals : Globals) (blocks : Blocks) (rest : List Task) where
  -- the ways of the clauses but the default
  abbrev pub ways_of : Clauses → List Way
  ways_of NoClause = []
  ways_of (Clauses-Clause None body more) = ways_of more
  ways_of (Clauses-Clause (Some comm) body more) = record { zeros = comm_zeros globals blocks rest comm; destinations = comm_destinations globals blocks rest comm; body = body } ∷ ways_of more

  -- the clause that was done is the way of its number
  way_is : (clauses : Clauses) (n : ℕ) (way : Way) (got : Words) → slice_get (ways_of clauses) n ≡ Some way → at_clause globals blocks rest clauses (suc n) got ≡ assigned globals blocks rest way.destinations (parted way.zeros got) (all_of way.body ++ EndSelect ∷ rest)
  way_is NoClause n way got e = absurd cc
  way_is (Clauses-Clause None body more) n way got e = way_is more n way got e
  way_is (Clauses-Clause (Some comm) body more) zero way got e = ap (λ (w : Way). assigned globals blocks rest w.destinations (parted w.zeros got) (all_of w.body ++ EndSelect ∷ rest)) (same_Some (record { zeros = comm_zeros globals blocks rest comm; destinations = comm_destinations globals blocks rest comm; body = body }) way e)
  way_is (Clauses-Clause (Some comm) body more) (suc n) way got e = way_is more n way got e

module _ {globals : Globals} {program : Compiled globals} (coded : Coded program) where
  open program use {elements, code}
  open coded use {function as f}

  -- the ways of the clauses of a table: what is received has the words of their zeros
  abbrev pub WaysAt : Around → View → List Way → List TableClause → Option ℕ → Type 0
  WaysAt l view [] [] out = Unit {0}
  WaysAt l view (way ∷ ways) (clause ∷ clauses) out =
      (types : List ValueType) × (way.zeros ≡ map (zero_words globals.structs) types) × (map zero_of (clause_gives code (Some clause)) ≡ all_words_of way.zeros)
      × WayAt coded l view types way.destinations way.body (clause_target clause) out × WaysAt l view ways clauses out
  WaysAt l view ways clauses out = ⊥

  -- a select that asks, its operands on the stack, and its ways
  pub record Choosing (l : Around) (view : View) (stack : Words) (cases : List Case) (ways : List Way) (default : Option Statements) (place : ℕ) (mid : Option ℕ) : Type 0 where
    pub number : ℕ
    pub table : SelectTable
    pub there : At f.instrs place (instrs.Select number)
    pub table_is : slice_get code.selects number ≡ Some table
    pub pops_are : pops code f (instrs.Select number) ≡ length stack
    pub cases_are : cases_of code table.clauses stack ≡ Some cases
    pub ways_are : WaysAt l view ways table.clauses mid
    pub default_is : IfSome table.default (λ p. WayAt coded l view [] [] (unwrap_or default NoStatement) p mid)
    pub default_there : is_some table.default ≡ is_some default

module _ {globals : Globals} {program : Compiled globals} {coded : Coded program} {simulated : Simulated coded} (position : Position simulated) where
  open program use {elements, code, wide as all}
  open coded use {function as f, number as g, there, result}
  open simulated use {running, running.{context, context.{callers as ds}}}
  open position use {point, next, mid, tasks as k, together as t, rest as r, point.{locals as ls, around as l, view, fine, room, held as h}}

  abbrev structs : Structs
  structs = globals.structs

  abbrev Works' : Worked Course → CodeFrames → Type 0
  Works' work c = Works simulated work c

  abbrev place_at : ℕ → Words → Words → CodeFrames
  place_at place ls stack = at simulated place ls stack

  abbrev blocks : Blocks
  blocks = here_blocks point

  abbrev scope : Scope
  scope = scope_of view

  abbrev On : Plan → ℕ → Type 0
  On plan place = On' point plan place mid

  abbrev Likes : List ValueType → List SourceValue → Type 0
  Likes types vs = AreLike structs types vs

  -- the way of a clause
  record WayThere (ways : List Way) (clauses : List TableClause) (n : ℕ) : Type 0 where
    pub way : Way
    pub clause : TableClause
    pub way_there : slice_get ways n ≡ Some way
    pub clause_is : slice_get clauses n ≡ Some clause
    pub types : List ValueType
    pub zeros_are : way.zeros ≡ map (zero_words structs) types
    pub gives_are : map zero_of (clause_gives code (Some clause)) ≡ all_words_of way.zeros
    pub stands : WayAt coded l view types way.destinations way.body (clause_target clause) mid

  there_is : (ways : List Way) (clauses : List TableClause) (n : ℕ) → WaysAt coded l view ways clauses mid → n < length clauses → WayThere ways clauses n
  there_is [] [] n w le = absurd (omega (arith, le))
  there_is [] (c ∷ clauses) n w le = absurd w
  there_is (way ∷ ways) [] n w le = absurd w
  there_is (way ∷ ways) (c ∷ clauses) zero (types, zeros, gives, one, more) le = record { way = way; clause = c; way_there = refl; clause_is = refl; types = types; zeros_are = zeros; gives_are = gives; stands = one }
  there_is (way ∷ ways) (c ∷ clauses) (suc n) (types, zeros, gives, one, more) le =
      let w = there_is ways clauses n more (omega (arith, le)) in
      record { way = w.way; clause = w.clause; way_there = w.way_there; clause_is = w.clause_is; types = w.types; zeros_are = w.zeros_are; gives_are = w.gives_are; stands = w.stands }

  -- a way begins, with what was received on the stack
  way_goes : (types : List ValueType) (destinations : List Destination) (body : Statements) (place : ℕ) (vs : List SourceValue) → WayAt coded l view types destinations body place mid → Likes types vs → variables next ≡ variables view
      → Works' (ready (assigned globals blocks k destinations vs (all_of body ++ EndSelect ∷ k))) (place_at place ls (all_words_of vs))
  way_goes types destinations body place vs w like same =
      subst (λ c. Works' (ready c) (place_at place ls (all_words_of vs))) (assigned_comes simulated blocks k destinations vs tail)
      (subst (λ (b : Blocks). Works' (ready (comes_of simulated b tail destinations vs)) (place_at place ls (all_words_of vs))) blocks_are
      (taken_goes simulated ls inner w.next (in_way l mid) types vs destinations place w.mid tail held like w.taking w.together soon)) where
        inner : View
        inner = opened w.outer

        tail : List Task
        tail = all_of body ++ EndSelect ∷ k

        held : Held coded ls inner
        held = record { holding = subst (Holding structs ls) (sym w.same) h.holding; full = h.full }

        blocks_are : blocks_of coded ls inner ≡ entered blocks
        blocks_are = seen_opened coded ls w.outer ∙ ap entered (blocks_same simulated ls view w.outer w.same w.begins_are)

        soon : Rest coded w.next (in_way l mid) w.mid tail
        soon = sits_all coded simulated.fine_following body w.next (in_way l mid) w.mid mid (EndSelect ∷ k) w.live w.fine.placed.nested (λ last u. (
          next,
          inner_same simulated w.outer next last (same ∙ sym w.same) (t.0 ∙ sym w.begins_are) (inner_opened coded w.outer last (together_on inner w.next last w.together u)),
          l,
          refl,
          r.0,
          r.1,
          lead_there simulated mid r.0 r.1,
          r.2,
        ))

  -- ---- the reply of a select names the clause that was done

  module _ (clauses : Clauses) (cases : List Case) (place : ℕ) (stack : Words) (d : Choosing coded l view stack cases (ways_of globals blocks k clauses) (default_of globals blocks k clauses) place mid) (same : variables next ≡ variables view) where
    abbrev answered : Reply → CodeFrames
    answered reply = code_answer code (place_at place ls stack) reply

    answer_is : (reply : Reply) (n to : ℕ) → way_of (Some d.table) (choice reply) ≡ n → slice_get (targets d.table) n ≡ Some to
        → answered reply ≡ record { function = g; place = to; locals = ls; stack = []; told = fitted (clause_gives code (slice_get d.table.clauses n)) (machine_words reply) } ∷ ds
    answer_is reply n to way leads =
        select_answer code g f there ds d.number place ls [] stack d.table reply n to d.there d.pops_are d.table_is way leads
        ∙ ap (λ o. record { function = g; place = to; locals = ls; stack = []; told = fitted (clause_gives code (slice_get (clauses_in o) n)) (machine_words reply) } ∷ ds) d.table_is

    clause_goes : (j : ℕ) (got : Option (Item × Bool)) → SuitsClause cases j got → Works' (ready (at_clause globals blocks k clauses j (reply_words (Clause j got)))) (answered (Clause j got))
    clause_goes j got suits =
        let (n, is, less) = suits_within cases j got suits in
        let long = cases_long code d.table.clauses stack cases d.cases_are in
        let w = there_is (ways_of globals blocks k clauses) d.table.clauses n d.ways_are (omega (arith, less, long)) in
        let index : j - 1 ≡ n = omega (arith, is) in
        let number : suc n ≡ j = omega (arith, is) in
        let reply = Clause j got in
        let ws = reply_words reply in
        let values = parted w.way.zeros ws in
        let like : Likes w.types values = subst (λ (zs : List SourceValue). Likes w.types (parted zs ws)) (sym w.zeros_are) (parted_like structs w.types ws) in
        let told-are : fitted (clause_gives code (slice_get d.table.clauses n)) (machine_words reply) ≡ all_words_of values = ap (λ o. fitted (clause_gives code o) (machine_words reply)) w.clause_is ∙ fitted_like (clause_gives code (Some w.clause)) (machine_words reply)
        ∙ ap (λ (zs : Words). words_like zs (machine_words reply)) w.gives_are ∙ ap (words_like (all_words_of w.way.zeros)) (same_reply reply) ∙ parted_words w.way.zeros ws in
        let to = clause_target w.clause in
        let c = assigned globals blocks k w.way.destinations values (all_of w.way.body ++ EndSelect ∷ k) in
        subst (λ x. Works' (ready x) (answered reply)) (sym (way_is globals blocks k clauses n w.way ws w.way_there) ∙ ap (λ m. at_clause globals blocks k clauses m ws) number)
        (subst (λ x. Works' (ready c) x) (sym (answer_is reply n to index (target_there d.table.clauses (default_targets d.table.default) n w.clause w.clause_is)))
        (subst (λ (x : Words). Works' (ready c) (record { function = g; place = to; locals = ls; stack = []; told = x } ∷ ds)) (sym told-are)
        (works_after simulated (ready c) (record { function = g; place = to; locals = ls; stack = []; told = all_words_of values } ∷ ds) (place_at to ls (all_words_of values)) (takes_told code g f there ds to ls [] (all_words_of values))
        (way_goes w.types w.way.destinations w.way.body to values w.stands like same))))

    default_goes : is_some (default_of globals blocks k clauses) ≡ true → Works' (ready (at_default globals blocks k (default_of globals blocks k clauses))) (answered Default)
    default_goes some = go (default_of globals blocks k clauses) d.table.default refl d.default_is d.default_there some where
      go : (o : Option Statements) (p : Option ℕ) → d.table.default ≡ p → IfSome p (λ p. WayAt coded l view [] [] (unwrap_or o NoStatement) p mid) → is_some p ≡ is_some o → is_some o ≡ true → Works' (ready (at_default globals blocks k o)) (answered Default)
      go None p is w there some = absurd cc
      go (Some body) None is w there some = absurd cc
      go (Some body) (Some to) is w there some =
          let n = length d.table.clauses in
          let last = default_there d.table.clauses to in
          subst (λ x. Works' (ready (at_default globals blocks k (Some body))) x) (sym (answer_is Default n to refl (ap (λ o. slice_get (map clause_target d.table.clauses ++ default_targets o) n) is ∙ last.0) ∙ ap (λ o. record { function = g; place = to; locals = ls; stack = []; told = fitted (clause_gives code o) [] } ∷ ds) last.1))
          (way_goes [] [] body to [] w tt same)

    chosen_goes : (reply : Reply) → Suits (Select cases (is_some (default_of globals blocks k clauses))) reply → Works' (ready (chosen globals blocks k clauses (Told reply))) (answered reply)
    chosen_goes (Clause j got) suits = clause_goes j got suits
    chosen_goes Default suits = default_goes suits
    chosen_goes Nothing suits = absurd suits
    chosen_goes (Value w) suits = absurd suits
    chosen_goes (Received item ok) suits = absurd suits
    chosen_goes Closed suits = absurd suits

    pub choose_goes : Works' (and_then (needs (Asking (Select cases (is_some (default_of globals blocks k clauses))))) (λ given. ready (chosen globals blocks k clauses given))) (place_at place ls stack)
    choose_goes =
        let q = Select cases (is_some (default_of globals blocks k clauses)) in
        let M : Given → CodeFrames → Type 0 = λ given e. (reply : Reply) × Suits q reply × (given ≡ Told reply) × (e ≡ answered reply) in
        follows_then context (needs (Asking q)) (λ given. ready (chosen globals blocks k clauses given)) M (Comes simulated) (place_at place ls stack)
        (asks_at context q M (place_at place ls stack) (select_asks code g f there ds d.number place ls [] stack d.table cases d.there d.pops_are d.table_is d.cases_are ∙ ap (λ b. Asks (Select cases b)) d.default_there) (running.calm q (place_at place ls stack) tt) (λ reply suits. (reply, suits, refl, refl)))
        (λ given e m. subst (λ x. Works' (ready (chosen globals blocks k clauses x)) e) (sym m.2) (subst (λ x. Works' (ready (chosen globals blocks k clauses (Told m.0))) x) (sym m.3) (chosen_goes m.0 m.1)))
