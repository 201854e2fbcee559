-- Selects that are emitted.
use Rattle.std.proofs.Common.{◌≡◌, ℕ, ◌+◌, Bool, true, false, cond, ◌||◌, List, [], ◌∷◌, ◌++◌, length, Option, Some, None, refl, sym, ap, ◌∙◌, subst, append_assoc, length-append}
use Rattle.std.specs.Prelude.{slice_set}
use Rattle.std.specs.Result.{result_ok}
use Rattle.std.specs.Prelude.{option_and_then, option_map}
use Rattle.std.proofs.Math.Seq.{take-length}
use Rattle.std.proofs.lemmas.List.{append-nil, length-set, set_at}
use Rattle.syntax.specs.Tree.{Binary, Call, Capacity, Channel, Clause, Clauses, Comm, CommAssign, CommDefine, CommReceive, CommSend, Composite, Expression, Integer, Length, Make, MakeSized, Named, NamedType, NoClause, Parenthesized, ParenthesizedType, Receive, Select, Selection, Statements, TypeExpression, Unary}
use Rattle.bytecode.specs.declared.instr.Instr.{Instr}
use Rattle.bytecode.specs.declared.instr.Instr.TheVariants as instrs
use Rattle.bytecode.specs.declared.table.Clause.TheVariants as clauses
use Rattle.bytecode.specs.Code.{PrintTable, SelectTable}
use Rattle.plan.specs.Plan.{Choose, reaches_end, starts, tables}
use Rattle.type_table.specs.declared.table.TypeTable.{TypeTable}
use Rattle.type_table.specs.Scopes.{Globals, Scope, Variable, Yield, type_in}
use Rattle.type_table.specs.Visible.{Keeps}
use Rattle.typing_rules.specs.Worths.{Typed, binary_worth, element_of, named_worth, selected_worth, unary_worth, worth}
use Rattle.type_table.specs.Types.{ChannelType}
use Rattle.typing_rules.specs.Calls.{made_of as made_type}
use Rattle.meaning.specs.Values.{known}
use Rattle.codegen_base.specs.declared.element.Element.{Element}
use Rattle.codegen_base.specs.Elements.{shape_of}
use Rattle.codegen_base.specs.Layouts.{Layout, carried}
use Rattle.codegen_base.proofs.Before.{clauses_before}
use Rattle.codegen_base.proofs.Plain.{comm_plain}
use Rattle.codegen_expression.specs.Emission.{Puts}
use Rattle.codegen_header.specs.Simples.{Appends}
use Rattle.codegen_base.specs.Generated.{Made, Site, after_comm, comm_plan, followed, made, made_all, made_comm, made_default, made_of, made_select, made_ways, past, pushes_clauses, select_table, table_clause, table_clauses, within_select, with_way}
use Rattle.codegen_header.specs.Layouts.{layout_of}
use Rattle.codegen_flow.specs.declared.waits.Wait.{Wait}
use Rattle.codegen_emission.specs.declared.emitter.Emitter.{Emitter}
use Rattle.codegen_flow.specs.Waits.{Makes, settled}
use Rattle.codegen_flow.specs.Controls.{Control, through}
use Rattle.codegen_emission.specs.Emitted.{Emits, site_of}
use Rattle.codegen_flow.specs.Selects.{any_control, after_select}
use Rattle.codegen_emission.specs.Ways.{EmitsAs, made_way, or_nothing, ways_left}
use Rattle.codegen_emission.proofs.Following.{emits_alone, emits_after}
use Rattle.codegen_emission.proofs.Blocks.{Entered, Left, emits_inside, emits_then}
use Rattle.codegen_emission.proofs.Branching.{Beside, beside_keeps, same_site}
use Rattle.codegen_emission.proofs.Chosen.{makes_choose}
use Rattle.codegen_emission.proofs.Emitting.{keeps_both}

-- ---- what the variables of a scope alone decide

module _ (globals : Globals) (s t : Scope) (e : s.variables ≡ t.variables) where
  -- the scope with these variables instead of its own
  abbrev with_variables : List Variable → Scope
  with_variables vs = record { variables = vs; outer = s.outer; words = s.words }

  same_type : (types : List (List ℕ)) (kind : TypeExpression) → type_in types s kind ≡ type_in types t kind
  same_type types (NamedType name) = ap (λ vs. type_in types (with_variables vs) (NamedType name)) e
  same_type types (ParenthesizedType inner) = same_type types inner
  same_type types (Channel direction element) = ap (option_map (ChannelType direction)) (same_type types element)

  pub same_worth : (x : Expression) → worth globals s x ≡ worth globals t x
  same_worth (Integer value) = refl
  same_worth (Named name) = ap (λ vs. named_worth (with_variables vs) name) e
  same_worth (Parenthesized inner) = same_worth inner
  same_worth (Selection of field) = ap (option_and_then (selected_worth globals field)) (same_worth of)
  same_worth (Composite name values trailing) = ap (λ vs. worth globals (with_variables vs) (Composite name values trailing)) e
  same_worth (Unary operator operand) = ap (option_and_then (λ x. result_ok (unary_worth operator x))) (same_worth operand)
  same_worth (Binary operator l r) =
      ap (option_and_then (λ x. option_and_then (λ y. result_ok (binary_worth operator x y)) (worth globals s r))) (same_worth l)
      ∙ ap (λ o. option_and_then (λ x. option_and_then (λ y. result_ok (binary_worth operator x y)) o) (worth globals t l)) (same_worth r)
  same_worth (Call function values trailing) = ap (λ vs. worth globals (with_variables vs) (Call function values trailing)) e
  same_worth (Receive channel) = ap (λ w. option_map Typed (element_of w)) (same_worth channel)
  same_worth (Make kind) = ap (λ o. option_map Typed (made_type o)) (same_type globals.types kind)
  same_worth (MakeSized kind size) = ap (λ o. option_map Typed (made_type o)) (same_type globals.types kind)
  same_worth (Length channel) = refl
  same_worth (Capacity channel) = refl

module _ (globals : Globals) (elements : List Element) (result : Yield) (l m : Layout) (e : l.scope.variables ≡ m.scope.variables) where
  same_carried : (channel : Expression) → carried globals elements l.scope channel ≡ carried globals elements m.scope channel
  same_carried channel = ap (λ w. known (element_of w)) (same_worth globals l.scope m.scope e channel)

  same_clause : (comm : Comm) (to : ℕ) → table_clause globals elements result l comm to ≡ table_clause globals elements result m comm to
  same_clause (CommSend channel value) to = ap (λ k. clauses.Send (shape_of elements k) to) (same_carried channel)
  same_clause (CommReceive channel) to = ap (λ k. clauses.Receive (shape_of elements k) to) (same_carried channel)
  same_clause (CommDefine item ok channel) to = ap (λ k. clauses.Receive (shape_of elements k) to) (same_carried channel)
  same_clause (CommAssign item ok channel) to = ap (λ k. clauses.Receive (shape_of elements k) to) (same_carried channel)

  same_clauses : (all : Clauses) (places : List ℕ) → table_clauses globals elements result l all places ≡ table_clauses globals elements result m all places
  same_clauses NoClause places = refl
  same_clauses (Clause None body more) places = same_clauses more places
  same_clauses (Clause (Some comm) body more) [] = refl
  same_clauses (Clause (Some comm) body more) (to ∷ places) =
      ap (λ c. c ∷ table_clauses globals elements result l more places) (same_clause comm to) ∙ ap (λ cs. table_clause globals elements result m comm to ∷ cs) (same_clauses more places)

  pub same_table : (all : Clauses) (places : List ℕ) → select_table globals elements result l all places ≡ select_table globals elements result m all places
  same_table all places = let clauses_same = same_clauses all places in cc

-- after the ways of a select the variables are those before it
module _ (globals : Globals) (elements : List Element) (result : Yield) (whole : Clauses) where
  abbrev ways : Site → Clauses → Option Made
  ways site all = made_ways globals elements result site (λ following. made_default globals elements result following whole) all

  default_variables : (site : Site) (all : Clauses) → (or_nothing site (made_default globals elements result site all)).layout.scope.variables ≡ site.layout.scope.variables
  default_variables site NoClause = refl
  default_variables site (Clause None body more) = refl
  default_variables site (Clause (Some comm) body more) = default_variables site more

  way_variables : (ks : _) (one : Made) (site : Site) (others : Option Made) → (or_nothing (past site one) others).layout.scope.variables ≡ one.layout.scope.variables → (with_way ks one others).layout.scope.variables ≡ one.layout.scope.variables
  way_variables ks one site None e = refl
  way_variables ks one site (Some others) e = e

  pub ways_variables : (site : Site) (all : Clauses) → (or_nothing site (ways site all)).layout.scope.variables ≡ site.layout.scope.variables
  ways_variables site NoClause = default_variables site whole
  ways_variables site (Clause None body more) = ways_variables site more
  ways_variables site (Clause (Some comm) body more) = let one = made_way globals elements result site comm body in way_variables _ one site (ways (past site one) more) (ways_variables (past site one) more)

-- ---- selects

settled_length : (ws : List Wait) (stop : ℕ) (code : List Instr) → length (settled ws stop code) ≡ length code
settled_length [] stop code = refl
settled_length (w ∷ ws) stop code = by w.leaves (settled_length ws stop code) where
  by : (b : Bool) → length (settled ws stop code) ≡ length code → length (cond b (slice_set (settled ws stop code) w.place (instrs.Jump stop)) (settled ws stop code)) ≡ length code
  by true more = length-set (settled ws stop code) w.place (instrs.Jump stop) ∙ more
  by false more = more

module _ (table : TypeTable) where
  pub emits_choose : (q : ℕ) (make : List ℕ → SelectTable) (held made : SelectTable) (e0 e1 e2 e3 : Emitter) (f : Control) (ways : Made) (stop : ℕ) → e1.code.items ≡ e0.code.items ++ instrs.Select q ∷ [] → e1.prints.items ≡ e0.prints.items → e1.selects.items ≡ e0.selects.items ++ held ∷ [] → Keeps e0.layout.visible e1.layout.visible
      → Emits table e1 e2 f ways → stop ≡ length e2.code.items → e3.code.items ≡ settled f.waits stop e2.code.items → e3.prints.items ≡ e2.prints.items → e3.selects.items ≡ slice_set e2.selects.items (length e0.selects.items) made → made ≡ make (starts (length e1.code.items) ways.plan)
      → layout_of table e3.layout ≡ layout_of table e2.layout → Keeps e2.layout.visible e3.layout.visible → Emits table e0 e3 (after_select f) (made_of (Choose q make ways.plan) ways.prints ways.layout)
  emits_choose q make held made e0 e1 e2 e3 f ways stop c1 p1 s1 k1 e es c3 p3 s3 em l3 k3 =
      let n1 : length e1.code.items ≡ length e0.code.items + 1 = ap length c1 ∙ length-append e0.code.items (instrs.Select q ∷ []) in
      let following = tables (length e1.code.items) ways.plan in
      let before : e2.selects.items ≡ e0.selects.items ++ (held ∷ following) = e.selects ∙ ap (λ (l : List SelectTable). l ++ following) s1 ∙ append_assoc e0.selects.items (held ∷ []) following in
      record {
        code = makes_choose q make e0.code.items e1.code.items e2.code.items e3.code.items f.waits ways.plan stop c1 e.code es c3 (ap length c3 ∙ settled_length f.waits stop e2.code.items);
        flows = record { ends = ap (λ x. x || f.breaks) e.flows.ends ∙ ap (λ x. reaches_end ways.plan || x) e.flows.breaks; breaks = refl; continues = e.flows.continues };
        prints = p3 ∙ e.prints ∙ ap (λ (l : List PrintTable). l ++ ways.prints) p1;
        selects = s3 ∙ ap (λ (l : List SelectTable). slice_set l (length e0.selects.items) made) before ∙ set_at e0.selects.items held following made (length e0.selects.items) refl ∙ ap (λ x. e0.selects.items ++ (x ∷ following)) em
            ∙ ap (λ n. e0.selects.items ++ (make (starts n ways.plan) ∷ tables n ways.plan)) n1;
        layout = l3 ∙ e.layout;
        kept = keeps_both table e0 e1 e3 k1 (keeps_both table e1 e2 e3 e.kept k3);
      }

  -- if these are the instructions, with nothing else changed
  pub emits_as_is : (e0 e1 e2 : Emitter) (code : List Instr) (flow : Control) (made : Made) → EmitsAs table e0 code e1 flow made → e2.code.items ≡ code → Beside e1 e2 → Emits table e0 e2 flow made
  emits_as_is e0 e1 e2 code flow made e c b = record {
    code = subst (λ l. Makes e0.code.items l flow.waits made.plan) (sym c) e.code_is;
    flows = e.flows;
    prints = b.prints ∙ e.prints;
    selects = b.selects ∙ e.selects;
    layout = ap (layout_of table) b.layout ∙ e.layout;
    kept = keeps_both table e0 e1 e2 e.kept (beside_keeps e1 e2 b);
  }

  module _ (globals : Globals) (elements : List Element) (result : Yield) where
    -- what was received is stored or dropped, and the statements of the clause are done
    pub emits_comm : (comm : Comm) (body : Statements) (e0 e1 e2 e3 e4 : Emitter) (count outer : ℕ) (flow : Control) → Entered table e0 e1 count outer → Appends e1.code.items e2.code.items (comm_plan globals elements result (layout_of table e1.layout) comm)
        → e2.prints.items ≡ e1.prints.items → e2.selects.items ≡ e1.selects.items → layout_of table e2.layout ≡ after_comm globals elements result comm (layout_of table e1.layout) → Keeps e1.layout.visible e2.layout.visible
        → Emits table e2 e3 flow (made_all globals elements result (site_of table e2) body) → Left e3 e4 count outer → Emits table e0 e4 flow (made_way globals elements result (site_of table e0) comm body)
    emits_comm comm body e0 e1 e2 e3 e4 count outer flow i code p s l k e left =
        let first = λ (site : Site). made_comm globals elements result site comm in
        let rest = λ (site : Site). made_all globals elements result site body in
        let one = emits_alone table e1 e2 through (first (site_of table e1)) refl (comm_plain globals elements (layout_of table e1.layout) result comm) code (p ∙ sym (append-nil e1.prints.items)) s l k in
        emits_inside table (λ site. followed (first site) (rest (past site (first site)))) e0 e1 e3 e4 count outer flow i (emits_then table first rest e1 e2 e3 flow one e) left

    whole_select : (all : Clauses) (site : Site) (ways : Option Made)
        → made_of (pushes_clauses globals elements result site.layout all (Choose site.selects (select_table globals elements result site.layout all) (or_nothing (within_select globals elements result site) ways).plan)) (or_nothing (within_select globals elements result site) ways).prints
        (or_nothing (within_select globals elements result site) ways).layout
        ≡ made_select globals elements result site all ways
    whole_select all site None = refl
    whole_select all site (Some ways) = refl

    pub emits_select : (all : Clauses) (held table_made : SelectTable) (e0 e1 e2 e3 e4 : Emitter) (flow : Option Control) (g : Control) (places : List ℕ) (q stop : ℕ) → Puts e0.code.items e1.code.items (pushes_clauses globals elements result (layout_of table e0.layout) all) → Beside e0 e1
        → q ≡ length e1.selects.items → e2.code.items ≡ e1.code.items ++ instrs.Select q ∷ [] → e2.prints.items ≡ e1.prints.items → e2.selects.items ≡ e1.selects.items ++ held ∷ [] → e2.layout ≡ e1.layout
        → Emits table e2 e3 (any_control flow) (or_nothing (site_of table e2) (ways_left globals elements result all (site_of table e2) all)) → places ≡ starts (length e2.code.items) (or_nothing (site_of table e2) (ways_left globals elements result all (site_of table e2) all)).plan
        → stop ≡ length e3.code.items → e4.code.items ≡ settled (any_control flow).waits stop e3.code.items → e4.prints.items ≡ e3.prints.items → e4.selects.items ≡ slice_set e3.selects.items (length e1.selects.items) table_made → e4.layout ≡ e3.layout
        → table_made ≡ select_table globals elements result (layout_of table e3.layout) all places → g ≡ after_select (any_control flow) → Emits table e0 e4 g (made globals elements result (site_of table e0) (Select all))
    emits_select all held table_made e0 e1 e2 e3 e4 flow g places q stop puts b1 eq c2 p2 s2 l2 e begin es c4 p4 s4 l4 et is =
        let site = site_of table e0 in
        let l = site.layout in
        let first : site_of table e1 ≡ site = same_site table e0 e1 b1 in
        let number : q ≡ site.selects = eq ∙ ap length b1.selects in
        let n2 = ap length p2 ∙ ap length b1.prints in
        let m2 : length e2.selects.items ≡ site.selects + 1 = ap length s2 ∙ length-append e1.selects.items (held ∷ []) ∙ ap (λ n. n + 1) (ap length b1.selects) in
        let layout2 = ap (layout_of table) (l2 ∙ b1.layout) in
        let second : site_of table e2 ≡ within_select globals elements result site = cc (n2, m2, layout2) in
        let ways = ways_left globals elements result all (site_of table e2) all in
        let w = or_nothing (site_of table e2) ways in
        let same : (layout_of table e3.layout).scope.variables ≡ l.scope.variables = ap (λ (x : Layout). x.scope.variables) e.layout ∙ ways_variables globals elements result all (site_of table e2) all ∙ ap (λ (x : Layout). x.scope.variables) layout2 in
        let whole : table_made ≡ select_table globals elements result l all (starts (length e2.code.items) w.plan) = et ∙ same_table globals elements result (layout_of table e3.layout) l same all places ∙ ap (select_table globals elements result l all) begin in
        let keeps = subst (λ x. Keeps e1.layout.visible x.visible) (sym l2) (take-length e1.layout.visible.entries.items, refl) in
        let keeps_on = subst (λ x. Keeps e3.layout.visible x.visible) (sym l4) (take-length e3.layout.visible.entries.items, refl) in
        let choose = emits_choose q (select_table globals elements result l all) held table_made e1 e2 e3 e4 (any_control flow) w stop c2 p2 s2 keeps e es c4 p4 s4 whole (ap (layout_of table) l4) keeps_on in
        let chosen = emits_after table (pushes_clauses globals elements result l all) e0 e1 e4 (after_select (any_control flow)) (made_of (Choose q (select_table globals elements result l all) w.plan) w.prints w.layout)
        (clauses_before globals elements l result all (Choose q (select_table globals elements result l all) w.plan)) puts b1.prints b1.selects (beside_keeps e0 e1 b1) choose in
        let at_number = subst (λ n. Emits table e0 e4 (after_select (any_control flow)) (made_of (pushes_clauses globals elements result l all (Choose n (select_table globals elements result l all) w.plan)) w.prints w.layout)) number chosen in
        let within = λ (s : Site). or_nothing s (ways_left globals elements result all s all) in
        let at_site = subst (λ s. Emits table e0 e4 (after_select (any_control flow)) (made_of (pushes_clauses globals elements result l all (Choose site.selects (select_table globals elements result l all) (within s).plan)) (within s).prints (within s).layout)) second at_number in
        subst (λ f. Emits table e0 e4 f (made globals elements result site (Select all))) (sym is)
        (subst (λ m. Emits table e0 e4 (after_select (any_control flow)) m) (whole_select all site (ways_left globals elements result all (within_select globals elements result site) all)) at_site)
