-- A select keeps the verifier's rules, if its ways do.
use Rattle.std.proofs.Common.{◌≡◌, ℕ, Bool, zero, suc, ◌+◌, ◌<◌, ◌≤◌, List, [], ◌∷◌, ◌++◌, length, map, Option, Some, None, option_map, refl, sym, ap, ◌∙◌, subst, arith, slice_get, inl, inr}
use Rattle.std.proofs.lemmas.Option.{same_Some}
use Rattle.std.proofs.lemmas.List.{append-nil}
use Rattle.syntax.specs.Tree.{Comm, CommSend, CommReceive, CommDefine, CommAssign, Statements, Clauses, NoClause, Clause}
use Rattle.syntax.specs.Measures.{if_any, comm_size, statements_size}
use Rattle.bytecode.specs.declared.instr.WordKind.{WordKind}
use Rattle.bytecode.specs.declared.instr.WordKind.TheVariants as kinds
use Rattle.bytecode.specs.declared.table.Clause.{Clause as TableClause}
use Rattle.bytecode.specs.Code.{Function as CodeFunction, Code}
use Rattle.bytecode.specs.Rules.{HasShapes}
use Rattle.bytecode.specs.Effects.{all_clause_kinds, clause_gives, clauses_in, clause_target, clause_shape, default_targets}
use Rattle.type_table.specs.Scopes.{Globals, Scope, Yield, entered, left}
use Rattle.typing_rules.specs.Expressions.{element_of}
use Rattle.typing_rules.specs.Simples.{comm_simple}
use Rattle.typing_rules.specs.Statements.{Setting, ClausesHave, after_all, after_any, after_clauses}
use Rattle.meaning.specs.Values.{known}
use Rattle.codegen_base.specs.declared.element.Element.{Element}
use Rattle.codegen_base.specs.Elements.{kinds_of}
use Rattle.codegen_base.specs.Layouts.{Layout}
use Rattle.codegen_base.specs.Generated.{Site, Made, made_of, default_at, with_way, pushes_comm, pushes_clauses, table_clause, table_clauses, default_places, select_table, comm_kinds, made_select}
use Rattle.codegen_base.proofs.Alike.{Alike}
use Rattle.codegen_base.proofs.Typing.{Free}
use Rattle.codegen_base.proofs.StatementMakes.{ClausesMake}
use Rattle.plan.specs.Plan.{Skip, Choose, starts, entries}
use Rattle.plan.proofs.Steps.{below_of, top_of_is}
use Rattle.plan.proofs.Tables.{Tabled}
use Rattle.plan.proofs.Typed.{Allowed, in_select, Typed}
use Rattle.codegen_fine.proofs.Sees.{Sees, worth_sees}
use Rattle.codegen_fine.proofs.Pushing.{Puts, puts_both}
use Rattle.codegen_fine.proofs.Operands.{Grounds}
use Rattle.codegen_fine.proofs.Layouts.{Room}
use Rattle.codegen_fine.proofs.Comms.{comm_fine}
use Rattle.codegen_base.proofs.Before.{before_tabled, clauses_before}
use Rattle.codegen_fine.proofs.Bodies.{IsMade}

abbrev pub comm_count : Clauses → ℕ
comm_count NoClause = 0
comm_count (Clause None body more) = comm_count more
comm_count (Clause (Some comm) body more) = suc (comm_count more)

-- ---- a block that has ended changes nothing that is seen

pub alike_step : (s t i : Scope) → Alike s t → Alike (left s i) t
alike_step s t i a = record { named = a.named; own = a.own; fits = a.fits; fit = a.fit }

pub alike_right : (s t j : Scope) → Alike s t → Alike s (left t j)
alike_right s t j a = record { named = a.named; own = a.own; fits = a.fits; fit = a.fit }

pub alike_clauses : (globals : Globals) (clauses : Clauses) (s t : Scope) → Alike s t → Alike (after_clauses globals s clauses) t
alike_clauses globals NoClause s t a = a
alike_clauses globals (Clause comm body rest) s t a =
    let inner = after_all globals (after_any globals (entered s) (option_map comm_simple comm)) body in alike_clauses globals rest (left s inner) t (alike_step s t inner a)

module _ (globals : Globals) (elements : List Element) (code : Code) (f : CodeFunction) (grounds : Grounds globals elements code) (result : Yield) where
  abbrev setting : (breaks continues : Bool) → Setting
  setting breaks continues = record { globals = globals; result = result; breaks = breaks; continues = continues }

  abbrev clauses_at : Layout → Clauses → List ℕ → List TableClause
  clauses_at layout clauses places = table_clauses globals elements result layout clauses places

  -- the kinds of a clause are the same if the same variables are seen
  pub comm_same : (comm : Comm) (a b : Layout) → Sees a.scope b.scope → comm_kinds globals elements result a comm ≡ comm_kinds globals elements result b comm
  comm_same (CommSend channel value) a b sees = refl
  comm_same (CommReceive channel) a b sees = ap (λ o. kinds_of globals.structs elements (known (element_of o)) ++ kinds.Bool ∷ []) (worth_sees a.scope b.scope sees globals channel)
  comm_same (CommDefine item ok channel) a b sees = ap (λ o. kinds_of globals.structs elements (known (element_of o)) ++ kinds.Bool ∷ []) (worth_sees a.scope b.scope sees globals channel)
  comm_same (CommAssign item ok channel) a b sees = ap (λ o. kinds_of globals.structs elements (known (element_of o)) ++ kinds.Bool ∷ []) (worth_sees a.scope b.scope sees globals channel)

  module _ (layout : Layout) (room : Room globals elements code f layout) where
    -- ---- the operands of all clauses

    pub all_puts : (clauses : Clauses) (s : Scope) → Sees s layout.scope → (breaks continues : Bool) (first : ℕ) (places : List ℕ) → comm_count clauses ≤ length places → Free (ClausesHave (setting breaks continues) s first clauses) → ClausesMake globals elements clauses
        → Puts globals.structs elements code f (all_clause_kinds code (clauses_at layout clauses places)) (pushes_clauses globals elements result layout clauses)
    all_puts NoClause s sees b c first places le free makes a ks out rest t = subst (λ (l : List WordKind). Typed code f a l rest out) (append-nil ks) t
    all_puts (Clause None body more) s sees b c first places le free makes a ks out rest t =
        all_puts more (left s (after_all globals (entered s) body)) sees b c (first + if_any comm_size None + statements_size body + 1) places le (λ violation h. free violation (inr (inr h))) makes.2 a ks out rest t
    all_puts (Clause (Some comm) body more) s sees b c first [] le free makes a ks out rest t = absurd (omega (arith, le))
    all_puts (Clause (Some comm) body more) s sees b c first (to ∷ places) le free makes a ks out rest t =
        let inner = after_any globals (entered s) (Some (comm_simple comm)) in
        let one = comm_fine globals elements code f grounds result layout room (entered s) sees comm first (λ violation h. free violation (inl h)) makes.0 in
        puts_both globals.structs elements code f _ (all_clause_kinds code (clauses_at layout more places)) (pushes_comm globals elements result layout comm) (pushes_clauses globals elements result layout more) (one.pushed to)
        (all_puts more (left s (after_all globals inner body)) sees b c (first + comm_size comm + statements_size body + 1) places (omega (arith, le)) (λ violation h. free violation (inr (inr h))) makes.2) a ks out rest t

    -- the shapes that they name are there
    shapes_named : (clauses : Clauses) (s : Scope) → Sees s layout.scope → (breaks continues : Bool) (first : ℕ) (places : List ℕ) → Free (ClausesHave (setting breaks continues) s first clauses) → ClausesMake globals elements clauses
        → (n : ℕ) (x : TableClause) → slice_get (clauses_at layout clauses places) n ≡ Some x → clause_shape x < length code.shapes
    shapes_named NoClause s sees b c first places free makes n x e = absurd cc
    shapes_named (Clause None body more) s sees b c first places free makes n x e =
        shapes_named more (left s (after_all globals (entered s) body)) sees b c (first + if_any comm_size None + statements_size body + 1) places (λ violation h. free violation (inr (inr h))) makes.2 n x e
    shapes_named (Clause (Some comm) body more) s sees b c first [] free makes n x e = absurd cc
    shapes_named (Clause (Some comm) body more) s sees b c first (to ∷ places) free makes zero x e =
        let one = comm_fine globals elements code f grounds result layout room (entered s) sees comm first (λ violation h. free violation (inl h)) makes.0 in
        subst (λ y. clause_shape y < length code.shapes) (same_Some (table_clause globals elements result layout comm to) x e) (one.there to)
    shapes_named (Clause (Some comm) body more) s sees b c first (to ∷ places) free makes (suc n) x e =
        let inner = after_any globals (entered s) (Some (comm_simple comm)) in
        shapes_named more (left s (after_all globals inner body)) sees b c (first + comm_size comm + statements_size body + 1) places (λ violation h. free violation (inr (inr h))) makes.2 n x e

    -- ---- the pcs at which the ways begin

    target_is : (comm : Comm) (to : ℕ) → clause_target (table_clause globals elements result layout comm to) ≡ to
    target_is (CommSend channel value) to = refl
    target_is (CommReceive channel) to = refl
    target_is (CommDefine item ok channel) to = refl
    target_is (CommAssign item ok channel) to = refl

    targets_are : (clauses : Clauses) (places : List ℕ) → comm_count clauses ≤ length places → length places ≤ comm_count clauses + 1
        → map clause_target (clauses_at layout clauses places) ++ default_targets (default_at (default_places globals elements result clauses places)) ≡ places
    targets_are NoClause [] le most = refl
    targets_are NoClause (p ∷ []) le most = refl
    targets_are NoClause (p ∷ q ∷ places) le most = absurd (omega (arith, most))
    targets_are (Clause None body more) places le most = targets_are more places le most
    targets_are (Clause (Some comm) body more) [] le most = absurd (omega (arith, le))
    targets_are (Clause (Some comm) body more) (to ∷ places) le most =
        ap (λ n. n ∷ (map clause_target (clauses_at layout more places) ++ default_targets (default_at (default_places globals elements result more places)))) (target_is comm to)
        ∙ ap (λ (l : List ℕ). to ∷ l) (targets_are more places (omega (arith, le)) (omega (arith, most)))

    -- ---- ways

    -- ways for clauses, and perhaps a default
    pub record WaysFine (s : Scope) (clauses : Clauses) (a : Allowed) (m : Made) : Type 0 where
      pub least : comm_count clauses ≤ length (entries m.plan)
      pub most : length (entries m.plan) ≤ comm_count clauses + 1
      pub begin : (place : ℕ) → length (starts place m.plan) ≡ length (entries m.plan)
      pub kinds_are : (places : List ℕ) → comm_count clauses ≤ length places → (k : ℕ) (js : List WordKind) → slice_get (entries m.plan) k ≡ Some js → js ≡ clause_gives code (slice_get (clauses_at layout clauses places) k)
      pub runs : (place : ℕ) → Tabled code.selects place m.plan → (first : List WordKind) × Typed code f a first m.plan []
      pub following : Room globals elements code f m.layout
      pub seen : Alike s m.layout.scope

    abbrev pub WaysOf : Scope → Clauses → Allowed → Option Made → Type 0
    WaysOf s clauses a None = comm_count clauses ≡ 0
    WaysOf s clauses a (Some m) = WaysFine s clauses a m

    -- a way, and those after it
    pub join_way : (s : Scope) (comm : Comm) (body : Statements) (more : Clauses) (a : Allowed) (ks : List WordKind) (one : Made) (o : Option Made) → ((to : ℕ) → clause_gives code (Some (table_clause globals elements result layout comm to)) ≡ ks)
        → ((place : ℕ) → Tabled code.selects place one.plan → Typed code f a ks one.plan []) → Room globals elements code f one.layout → Alike s one.layout.scope → WaysOf s more a o → WaysFine s (Clause (Some comm) body more) a (with_way ks one o)
    join_way s comm body more a ks one None gives runs following seen none = record {
      least = omega (arith, none);
      most = omega (arith, none);
      begin = λ place. refl;
      kinds_are = own;
      runs = λ place tabled. (ks, (refl, runs place tabled));
      following = following;
      seen = seen;
    } where
      own : (places : List ℕ) → suc (comm_count more) ≤ length places → (k : ℕ) (js : List WordKind) → slice_get (ks ∷ []) k ≡ Some js → js ≡ clause_gives code (slice_get (clauses_at layout (Clause (Some comm) body more) places) k)
      own [] le k js e = absurd (omega (arith, le))
      own (to ∷ places) le zero js e = sym (same_Some ks js e) ∙ sym (gives to)
      own (to ∷ places) le (suc k) js e = absurd cc
    join_way s comm body more a ks one (Some m) gives runs following seen w =
        let least = w.least in
        let most = w.most in
        record {
          least = omega (arith, least);
          most = omega (arith, most);
          begin = λ place. ap suc (w.begin _);
          kinds_are = own;
          runs = λ place tabled. let next = w.runs _ tabled.1 in (ks, (next.0, refl, runs place tabled.0, next.1));
          following = w.following;
          seen = w.seen;
        } where
          own : (places : List ℕ) → suc (comm_count more) ≤ length places → (k : ℕ) (js : List WordKind) → slice_get (ks ∷ entries m.plan) k ≡ Some js → js ≡ clause_gives code (slice_get (clauses_at layout (Clause (Some comm) body more) places) k)
          own [] le k js e = absurd (omega (arith, le))
          own (to ∷ places) le zero js e = sym (same_Some ks js e) ∙ sym (gives to)
          own (to ∷ places) le (suc k) js e = w.kinds_are places (omega (arith, le)) k js e

    -- the default
    pub last_way : (s : Scope) (a : Allowed) (one : Made) → IsMade globals elements code f grounds a one → Alike s one.layout.scope → WaysFine s NoClause a (with_way [] one None)
    last_way s a one m seen = record {
      least = omega arith;
      most = omega arith;
      begin = λ place. refl;
      kinds_are = λ places le k js e. own k js e;
      runs = λ place tabled. ([], (refl, m.runs place tabled));
      following = m.room;
      seen = seen;
    } where
      own : (k : ℕ) (js : List WordKind) → slice_get ([] ∷ []) k ≡ Some js → js ≡ []
      own zero js e = sym (same_Some [] js e)
      own (suc k) js e = absurd cc

    no_way : (s : Scope) (clauses : Clauses) (a : Allowed) → comm_count clauses ≡ 0 → Alike s layout.scope → WaysFine s clauses a (made_of Skip [] layout)
    no_way s clauses a none seen = record {
      least = omega (arith, none);
      most = omega arith;
      begin = λ place. refl;
      kinds_are = λ places le k js e. absurd cc;
      runs = λ place tabled. ([], refl);
      following = room;
      seen = seen;
    }

    -- ---- the select

    chosen : (s : Scope) (clauses : Clauses) (a : Allowed) (q to : ℕ) (ways : Made) (w : WaysFine s clauses (in_select a) ways) → ((places : List ℕ) → HasShapes code (select_table globals elements result layout clauses places))
        → slice_get code.selects q ≡ Some (select_table globals elements result layout clauses (starts (to + 1) ways.plan)) → Tabled code.selects (to + 1) ways.plan
        → Typed code f a (all_clause_kinds code (clauses_at layout clauses (starts (to + 1) ways.plan))) (Choose q (select_table globals elements result layout clauses) ways.plan) []
    chosen s clauses a q to ways w shapes at tabled =
        let places = starts (to + 1) ways.plan in
        let ks = all_clause_kinds code (clauses_at layout clauses places) in
        let is : clauses_in (slice_get code.selects q) ≡ clauses_at layout clauses places = ap clauses_in at in
        let want : all_clause_kinds code (clauses_in (slice_get code.selects q)) ≡ ks = ap (all_clause_kinds code) is in
        let many : length (all_clause_kinds code (clauses_in (slice_get code.selects q))) ≡ length ks = ap length want in
        let n = length (all_clause_kinds code (clauses_in (slice_get code.selects q))) in
        let least = w.least in
        let most = w.most in
        let r = w.runs (to + 1) tabled in (
          r.0,
          refl,
          (omega (arith, many), top_of_is [] ks n many ∙ sym want),
          λ place. let b = w.begin place in (targets_are clauses (starts place ways.plan) (omega (arith, b, least)) (omega (arith, b, most)), shapes (starts place ways.plan)),
          λ k js e. let b = w.begin (to + 1) in w.kinds_are places (omega (arith, b, least)) k js e ∙ ap (λ l. clause_gives code (slice_get l k)) (sym is) ∙ ap (λ (l : List WordKind). l ++ clause_gives code (slice_get (clauses_in (slice_get code.selects q)) k)) (sym (below_of [] ks n many)),
          r.1,
        )

    pub typed_choice : (site : Site) → site.layout ≡ layout → (s : Scope) (sees : Sees s layout.scope) (clauses : Clauses) (breaks continues : Bool) (first : ℕ) (a : Allowed) (o : Option Made) → Free (ClausesHave (setting breaks continues) s first clauses) → ClausesMake globals elements clauses → Alike s layout.scope → WaysOf s clauses (in_select a) o
        → IsMade globals elements code f grounds a (made_select globals elements result (record { layout = layout; prints = site.prints; selects = site.selects }) clauses o) × Alike s (made_select globals elements result (record { layout = layout; prints = site.prints; selects = site.selects }) clauses o).layout.scope
    typed_choice site same s sees clauses b c first a None free makes alike none = (record { runs = λ place tabled. go place tabled; room = room }, alike) where
      go : (place : ℕ) → Tabled code.selects place (pushes_clauses globals elements result layout clauses (Choose site.selects (select_table globals elements result layout clauses) Skip)) → Typed code f a [] (pushes_clauses globals elements result layout clauses (Choose site.selects (select_table globals elements result layout clauses) Skip)) []
      go place tabled =
          let plan = Choose site.selects (select_table globals elements result layout clauses) Skip in
          let t = before_tabled code.selects plan (pushes_clauses globals elements result layout clauses plan) place (clauses_before globals elements layout result clauses plan) tabled in
          all_puts clauses s sees b c first [] (omega (arith, none)) free makes a [] [] plan (chosen s clauses a site.selects t.0 (made_of Skip [] layout) (no_way s clauses (in_select a) none alike) (λ places. shapes_named clauses s sees b c first places free makes) t.1.0 t.1.1)
    typed_choice site same s sees clauses b c first a (Some ways) free makes alike w =
        let plan = Choose site.selects (select_table globals elements result layout clauses) ways.plan in (
          record {
            runs = λ place tabled.
                let t = before_tabled code.selects plan (pushes_clauses globals elements result layout clauses plan) place (clauses_before globals elements layout result clauses plan) tabled in
                let begin = w.begin (t.0 + 1) in
                let least = w.least in
                all_puts clauses s sees b c first (starts (t.0 + 1) ways.plan) (omega (arith, begin, least)) free makes a [] [] plan (chosen s clauses a site.selects t.0 ways w (λ places. shapes_named clauses s sees b c first places free makes) t.1.0 t.1.1);
            room = w.following;
          },
          w.seen,
        )
