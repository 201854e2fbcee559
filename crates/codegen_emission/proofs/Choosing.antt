-- The ways of selects that are emitted.
use Rattle.std.proofs.Common.{◌≡◌, ℕ, ◌+◌, Bool, true, false, cond, ◌||◌, List, [], ◌∷◌, ◌++◌, length, take, Option, Some, None, refl, sym, ap, ◌∙◌, subst, arith, append_assoc, length-append}
use Rattle.std.specs.Prelude.{slice_set, option_map}
use Rattle.syntax.specs.Tree.{Clause, Clauses, Comm, Statements}
use Rattle.std.specs.Option.{is_some}
use Rattle.std.proofs.Math.Seq.{take-length}
use Rattle.std.proofs.lemmas.List.{append-nil, take-append-le}
use Rattle.bytecode.specs.declared.instr.Instr.{Instr}
use Rattle.bytecode.specs.declared.instr.Instr.TheVariants as instrs
use Rattle.bytecode.specs.declared.instr.WordKind.{WordKind}
use Rattle.bytecode.specs.Code.{PrintTable, SelectTable}
use Rattle.plan.specs.Plan.{Plan, Way, LastWay, reaches_end, has_break, has_continue, size, jump_size, starts, tables}
use Rattle.plan.proofs.Lists.{length_if}
use Rattle.type_table.specs.declared.table.TypeTable.{TypeTable}
use Rattle.type_table.specs.Scopes.{Globals, Yield}
use Rattle.codegen_base.specs.declared.element.Element.{Element}
use Rattle.codegen_base.specs.Generated.{Made, Site, comm_kinds, made_of, past, with_way}
use Rattle.codegen_header.specs.Layouts.{layout_of}
use Rattle.codegen_flow.specs.declared.waits.Wait.{Wait}
use Rattle.codegen_emission.specs.declared.emitter.Emitter.{Emitter}
use Rattle.codegen_flow.specs.Waits.{Makes}
use Rattle.codegen_flow.specs.Controls.{Control, control, either}
use Rattle.codegen_emission.specs.Emitted.{Emits, site_of}
use Rattle.codegen_flow.specs.declared.select.Held.{Held}
use Rattle.codegen_flow.specs.declared.select.WayList.{WayList}
use Rattle.codegen_flow.specs.Closed.{closed, closed_one}
use Rattle.codegen_flow.specs.Selects.{together, with_others}
use Rattle.codegen_emission.specs.Ways.{EmitsAs, Reaches, Ways, made_way, ways_left}
use Rattle.codegen_flow.proofs.Closing.{closed_more}
use Rattle.codegen_flow.proofs.Filled.{makes_length}
use Rattle.codegen_emission.proofs.Chosen.{makes_ended_way, makes_last_way, makes_way}
use Rattle.codegen_emission.proofs.Emitting.{keeps_both, site_past}
use Rattle.codegen_emission.proofs.Listing.{or_assoc}
use Rattle.codegen_emission.proofs.Branching.{Beside, beside_keeps, same_site}

-- whether a way leads on or not
makes_any_way : (leads : Bool) (ks : List WordKind) (i0 i1 i2 i3 i4 : List Instr) (ws vs : List Wait) (body others : Plan) → reaches_end body ≡ leads → Makes i0 i1 ws body → i2 ≡ i1 ++ cond leads (instrs.Jump 0 ∷ []) [] → Makes i2 i3 vs others
    → i4 ≡ cond leads (slice_set i3 (length i1) (instrs.Jump (length i3))) i3 → Makes i0 i4 (ws ++ vs) (Way ks body others)
makes_any_way true ks i0 i1 i2 i3 i4 ws vs body others on m e2 o e4 = makes_way ks i0 i1 i2 i3 i4 ws vs body others (length i3) on m e2 o refl e4
makes_any_way false ks i0 i1 i2 i3 i4 ws vs body others off m e2 o e4 =
    let following = subst (λ c. Makes c i3 vs others) (e2 ∙ append-nil i1) o in
    subst (λ c. Makes i0 c (ws ++ vs) (Way ks body others)) (sym e4) (makes_ended_way ks i0 i1 i3 ws vs body others off m following)

module _ (table : TypeTable) where
  -- the pc at which the ways after it begin
  pub way_place : (e0 e1 e2 : Emitter) (f : Control) (one : Made) → Emits table e0 e1 f one → e2.code.items ≡ e1.code.items ++ cond f.ends (instrs.Jump 0 ∷ []) [] → length e2.code.items ≡ length e0.code.items + size one.plan + jump_size one.plan
  way_place e0 e1 e2 f one a c2 =
      let over = cond f.ends (instrs.Jump 0 ∷ []) [] in
      let n1 = makes_length e0.code.items e1.code.items f.waits one.plan a.code in
      let one_more : length over ≡ jump_size one.plan = length_if f.ends (instrs.Jump 0 ∷ []) 1 refl ∙ ap (λ b. cond b 1 0) a.flows.ends in
      let n2 = ap length c2 ∙ length-append e1.code.items over in
      omega (arith, n1, n2, one_more)

  -- a way with others after it
  pub emits_way : (ks : List WordKind) (e0 e1 e2 e3 : Emitter) (i3 i4 : List Instr) (f g : Control) (one others : Made) → Emits table e0 e1 f one → e2.code.items ≡ e1.code.items ++ cond f.ends (instrs.Jump 0 ∷ []) [] → Beside e1 e2 → EmitsAs table e2 i3 e3 g others
      → i4 ≡ cond f.ends (slice_set i3 (length e1.code.items) (instrs.Jump (length i3))) i3 → EmitsAs table e0 i4 e3 (either f g) (made_of (Way ks one.plan others.plan) (one.prints ++ others.prints) others.layout)
  emits_way ks e0 e1 e2 e3 i3 i4 f g one others a c2 b2 b c4 =
      let n2 = way_place e0 e1 e2 f one a c2 in
      let t1 = tables (length e0.code.items) one.plan in
      let t2 = tables (length e2.code.items) others.plan in
      record {
        code_is = makes_any_way f.ends ks e0.code.items e1.code.items e2.code.items i3 i4 f.waits g.waits one.plan others.plan (sym a.flows.ends) a.code c2 b.code_is c4;
        flows = record {
          ends = ap (λ x. x || g.ends) a.flows.ends ∙ ap (λ x. reaches_end one.plan || x) b.flows.ends;
          breaks = ap (λ x. x || g.breaks) a.flows.breaks ∙ ap (λ x. has_break one.plan || x) b.flows.breaks;
          continues = ap (λ x. x || g.continues) a.flows.continues ∙ ap (λ x. has_continue one.plan || x) b.flows.continues;
        };
        prints = b.prints ∙ ap (λ (l : List PrintTable). l ++ others.prints) (b2.prints ∙ a.prints) ∙ append_assoc e0.prints.items one.prints others.prints;
        selects = b.selects ∙ ap (λ (l : List SelectTable). l ++ t2) (b2.selects ∙ a.selects) ∙ append_assoc e0.selects.items t1 t2 ∙ ap (λ x. e0.selects.items ++ (t1 ++ tables x others.plan)) n2;
        layout = b.layout;
        kept = keeps_both table e0 e1 e3 a.kept (keeps_both table e1 e2 e3 (beside_keeps e1 e2 b2) b.kept);
      }

  -- the last way
  pub emits_last : (ks : List WordKind) (e0 e1 : Emitter) (f : Control) (one : Made) → Emits table e0 e1 f one → Emits table e0 e1 f (made_of (LastWay ks one.plan) one.prints one.layout)
  emits_last ks e0 e1 f one e = record {
    code = makes_last_way ks e0.code.items e1.code.items f.waits one.plan e.code;
    flows = record { ends = e.flows.ends; breaks = e.flows.breaks; continues = e.flows.continues };
    prints = e.prints;
    selects = e.selects;
    layout = e.layout;
    kept = e.kept;
  }

  -- a way, and those after it, if there are any: if there are none the jump over them is taken back
  pub one_more_way : (ks : List WordKind) (make : Site → Option Made) (e0 e1 e2 e3 : Emitter) (i3 i4 : List Instr) (f : Control) (h : Held) (one : Made) (others : Option Control) (noted places0 places : List ℕ) → Emits table e0 e1 f one → e2.code.items ≡ e1.code.items ++ cond f.ends (instrs.Jump 0 ∷ []) [] → Beside e1 e2
      → places0 ≡ noted ++ length e0.code.items ∷ [] → Ways table e2 i3 e3 places0 places others (make (site_of table e2)) → h.place ≡ length e1.code.items → h.leads ≡ f.ends → i4 ≡ closed_one h (is_some others) i3
      → Ways table e0 i4 e3 noted places (Some (with_others f others)) (Some (with_way ks one (make (past (site_of table e0) one))))
  one_more_way ks make e0 e1 e2 e3 i3 i4 f h one others noted places0 places a c2 b2 p0 w hp hl c4 =
      let same : site_of table e2 ≡ past (site_of table e0) one = same_site table e1 e2 b2 ∙ site_past table e0 e1 f one a in
      let over : i4 ≡ cond (is_some others) (cond f.ends (slice_set i3 (length e1.code.items) (instrs.Jump (length i3))) i3) (take (length e1.code.items) i3) =
      c4 ∙ ap (λ n. cond (is_some others) (cond h.leads (slice_set i3 n (instrs.Jump (length i3))) i3) (take n i3)) hp ∙ ap (λ b. cond (is_some others) (cond b (slice_set i3 (length e1.code.items) (instrs.Jump (length i3))) i3) (take (length e1.code.items) i3)) hl in
      subst (λ s. Ways table e0 i4 e3 noted places (Some (with_others f others)) (Some (with_way ks one (make s)))) same (go others (make (site_of table e2)) w over) where
        go : (flow : Option Control) (made : Option Made) → Ways table e2 i3 e3 places0 places flow made → i4 ≡ cond (is_some flow) (cond f.ends (slice_set i3 (length e1.code.items) (instrs.Jump (length i3))) i3) (take (length e1.code.items) i3)
            → Ways table e0 i4 e3 noted places (Some (with_others f flow)) (Some (with_way ks one made))
        go (Some flow) (Some m) w c =
            let start = length e0.code.items in
            record {
              emits = emits_way ks e0 e1 e2 e3 i3 i4 f flow one m a c2 b2 w.emits c;
              begin = w.begin ∙ ap (λ (l : List ℕ). l ++ starts (length e2.code.items) m.plan) p0 ∙ append_assoc noted (start ∷ []) (starts (length e2.code.items) m.plan) ∙ ap (λ n. noted ++ start ∷ starts n m.plan) (way_place e0 e1 e2 f one a c2);
              there = refl;
            }
        go None None w c =
            let e = emits_last ks e0 e1 f one a in
            let over = cond f.ends (instrs.Jump 0 ∷ []) [] in
            let held : i3 ≡ e1.code.items ++ over = w.emits.code_is.is 0 0 ∙ append-nil e2.code.items ∙ c2 in
            let back : i4 ≡ e1.code.items = c ∙ ap (take (length e1.code.items)) held ∙ take-append-le (length e1.code.items) e1.code.items over (omega arith) ∙ take-length e1.code.items in
            record {
              emits = record {
                code_is = subst (λ x. Makes e0.code.items x f.waits (LastWay ks one.plan)) (sym back) e.code;
                flows = e.flows;
                prints = w.emits.prints ∙ append-nil e2.prints.items ∙ b2.prints ∙ e.prints;
                selects = w.emits.selects ∙ append-nil e2.selects.items ∙ b2.selects ∙ e.selects;
                layout = w.emits.layout ∙ ap (layout_of table) b2.layout ∙ e.layout;
                kept = keeps_both table e0 e1 e3 a.kept (keeps_both table e1 e2 e3 (beside_keeps e1 e2 b2) w.emits.kept);
              };
              begin = w.begin ∙ append-nil places0 ∙ p0;
              there = refl;
            }
        go (Some flow) None w c = let no : true ≡ false = w.there in absurd cc
        go None (Some m) w c = let no : false ≡ true = w.there in absurd cc

-- ---- many ways

either_assoc : (f g h : Control) → either (either f g) h ≡ either f (either g h)
either_assoc f g h = let a = append_assoc f.waits g.waits h.waits in let b = or_assoc f.ends g.ends h.ends in let c = or_assoc f.breaks g.breaks h.breaks in let d = or_assoc f.continues g.continues h.continues in cc

pub together_more : (acc others : Option Control) (f : Control) → together (together acc (Some f)) others ≡ together acc (Some (with_others f others))
together_more None others f = refl
together_more (Some a) None f = refl
together_more (Some a) (Some g) f = ap Some (either_assoc a f g)

-- ---- all ways, one after the other

module _ (globals : Globals) (elements : List Element) (result : Yield) (table : TypeTable) (whole : Clauses) where
  -- none yet
  pub reaches : (now : Emitter) (list : WayList) (all : Clauses) → list.flow ≡ None → list.places.items ≡ [] → list.held.items ≡ [] → Reaches globals elements result table whole now now list all all
  reaches now list all flow places held = record {
    is = λ code last end others p w closing.
        let same : last ≡ code = closing ∙ ap (λ l. closed l (is_some others) code) held in
        let from = subst (λ l. Ways table now code end l p others (ways_left globals elements result whole (site_of table now) all)) places w in
        subst (λ o. Ways table now last end [] p (together (option_map control o) others) (ways_left globals elements result whole (site_of table now) all)) (sym flow)
        (subst (λ l. Ways table now l end [] p others (ways_left globals elements result whole (site_of table now) all)) (sym same) from);
  }

  -- one more
  pub reaches_more : (old now e1 e2 : Emitter) (list next : WayList) (f : Control) (h : Held) (comm : Comm) (body : Statements) (rest all : Clauses) → Reaches globals elements result table whole old now list (Clause (Some comm) body rest) all
      → Emits table now e1 f (made_way globals elements result (site_of table now) comm body) → e2.code.items ≡ e1.code.items ++ cond f.ends (instrs.Jump 0 ∷ []) [] → Beside e1 e2 → h.place ≡ length e1.code.items → h.leads ≡ f.ends
      → option_map control next.flow ≡ together (option_map control list.flow) (Some f) → next.places.items ≡ list.places.items ++ length now.code.items ∷ [] → next.held.items ≡ list.held.items ++ h ∷ [] → Reaches globals elements result table whole old e2 next rest all
  reaches_more old now e1 e2 list next f h comm body rest all r a c2 b2 hp hl flow places held =
      record {
        is = λ code last end others p w closing.
            let make = λ (site : Site). ways_left globals elements result whole site rest in
            let one = made_way globals elements result (site_of table now) comm body in
            let mid = closed_one h (is_some others) code in
            let more = one_more_way table (comm_kinds globals elements result (layout_of table now.layout) comm) make now e1 e2 end code mid f h one others list.places.items next.places.items p a c2 b2 places w hp hl refl in
            let closes : last ≡ closed list.held.items true mid = closing ∙ ap (λ l. closed l (is_some others) code) held ∙ closed_more list.held.items h (is_some others) code in
            let all_of = r.is mid last end (Some (with_others f others)) p more closes in
            subst (λ o. Ways table old last end [] p o (ways_left globals elements result whole (site_of table old) all)) (sym (together_more (option_map control list.flow) others f) ∙ ap (λ o. together o others) (sym flow)) all_of;
      }
