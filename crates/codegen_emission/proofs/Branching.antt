-- Conditions that are emitted, with one way or two.
use Rattle.std.proofs.Common.{◌≡◌, ℕ, ◌+◌, Bool, true, false, cond, ◌||◌, List, [], ◌∷◌, ◌++◌, length, refl, sym, ap, ◌∙◌, subst, arith, append_assoc, length-append}
use Rattle.std.specs.Prelude.{slice_set}
use Rattle.std.proofs.lemmas.List.{append-nil, length-set}
use Rattle.std.proofs.Math.Seq.{take-length}
use Rattle.syntax.specs.Tree.{Expression, Statements, Otherwise, NoElse, ElseBlock, ElseIf}
use Rattle.bytecode.specs.declared.instr.Instr.{Instr}
use Rattle.bytecode.specs.declared.instr.Instr.TheVariants as instrs
use Rattle.bytecode.specs.Code.{PrintTable, SelectTable}
use Rattle.plan.specs.Plan.{Plan, IfElse, IfThen, reaches_end, has_break, has_continue, size, jump_size, tables}
use Rattle.plan.proofs.Lists.{length_if}
use Rattle.type_table.specs.declared.table.TypeTable.{TypeTable}
use Rattle.type_table.specs.Visible.{Keeps}
use Rattle.type_table.specs.Types.{BoolType}
use Rattle.type_table.specs.Scopes.{Globals, Yield}
use Rattle.codegen_base.specs.declared.element.Element.{Element}
use Rattle.codegen_base.specs.Generated.{Made, Site, made_else, made_if, made_of, past, tests}
use Rattle.codegen_base.proofs.Before.{pushes_before}
use Rattle.codegen_expression.specs.Emission.{Puts}
use Rattle.codegen_header.specs.Layouts.{layout_of}
use Rattle.codegen_flow.specs.declared.waits.Wait.{Wait}
use Rattle.codegen_emission.specs.declared.emitter.Emitter.{Emitter}
use Rattle.codegen_flow.specs.Waits.{Makes}
use Rattle.codegen_flow.specs.Controls.{Control, either, may_end}
use Rattle.codegen_emission.specs.Emitted.{Emits, site_of}
use Rattle.codegen_flow.specs.Branches.{is_other}
use Rattle.codegen_emission.specs.Branches.{made_condition, made_one_way, made_two_ways}
use Rattle.codegen_flow.proofs.Filled.{makes_length, makes_if_then}
use Rattle.codegen_emission.proofs.Chosen.{makes_if_else, makes_if_other}
use Rattle.codegen_emission.proofs.Emitting.{keeps_both, site_past}
use Rattle.codegen_emission.proofs.Following.{emits_after}

-- only the instructions have changed
pub record Beside (old new : Emitter) : Type 0 where
  pub prints : new.prints.items ≡ old.prints.items
  pub selects : new.selects.items ≡ old.selects.items
  pub layout : new.layout ≡ old.layout

pub beside_keeps : (old new : Emitter) → Beside old new → Keeps old.layout.visible new.layout.visible
beside_keeps old new b = subst (λ l. Keeps old.layout.visible l.visible) (sym b.layout) (take-length old.layout.visible.entries.items, refl)

-- whether the first way leads on or not
makes_two_ways : (leads : Bool) (i0 i1 i2 i3 i4 i5 : List Instr) (ws vs : List Wait) (so other : Plan) → reaches_end so ≡ leads → i1 ≡ i0 ++ instrs.Unless 0 ∷ [] → Makes i1 i2 ws so → i3 ≡ slice_set (i2 ++ cond leads (instrs.Jump 0 ∷ []) []) (length i0) (instrs.Unless (length i3))
    → Makes i3 i4 vs other → i5 ≡ cond leads (slice_set i4 (length i2) (instrs.Jump (length i4))) i4 → Makes i0 i5 (ws ++ vs) (IfElse so other)
makes_two_ways true i0 i1 i2 i3 i4 i5 ws vs so other on e1 m e3 o e5 =
    let held = i2 ++ instrs.Jump 0 ∷ [] in
    makes_if_else i0 i1 i2 held i3 i4 i5 ws vs so other (length i3) (length i4) on e1 m refl (ap length e3 ∙ length-set held (length i0) (instrs.Unless (length i3))) e3 o refl e5
makes_two_ways false i0 i1 i2 i3 i4 i5 ws vs so other off e1 m e3 o e5 =
    let same = e3 ∙ ap (λ (c : List Instr). slice_set c (length i0) (instrs.Unless (length i3))) (append-nil i2) in
    subst (λ c. Makes i0 c (ws ++ vs) (IfElse so other)) (sym e5) (makes_if_other i0 i1 i2 i3 i4 ws vs so other (length i3) off e1 m (ap length same ∙ length-set i2 (length i0) (instrs.Unless (length i3))) same o)

module _ (table : TypeTable) where
  pub same_site : (old new : Emitter) → Beside old new → site_of table new ≡ site_of table old
  same_site old new b =
      let prints = ap length b.prints in
      let selects = ap length b.selects in
      let layout = ap (layout_of table) b.layout in
      cc

  pub emits_if_then : (e0 e1 e2 e3 : Emitter) (f g : Control) (so : Made) (next : ℕ) → e1.code.items ≡ e0.code.items ++ instrs.Unless 0 ∷ [] → Beside e0 e1 → Emits table e1 e2 f so → next ≡ length e2.code.items
      → e3.code.items ≡ slice_set e2.code.items (length e0.code.items) (instrs.Unless next) → Beside e2 e3 → g ≡ may_end f → Emits table e0 e3 g (made_of (IfThen so.plan) so.prints so.layout)
  emits_if_then e0 e1 e2 e3 f g so next c1 b1 e en c3 b3 is =
      let n = ap length c1 ∙ length-append e0.code.items (instrs.Unless 0 ∷ []) in
      subst (λ h. Emits table e0 e3 h (made_of (IfThen so.plan) so.prints so.layout)) (sym is) (record {
        code = makes_if_then e0.code.items e1.code.items e2.code.items e3.code.items f.waits so.plan next c1 e.code en c3;
        flows = record { ends = refl; breaks = e.flows.breaks; continues = e.flows.continues };
        prints = b3.prints ∙ e.prints ∙ ap (λ (l : List PrintTable). l ++ so.prints) b1.prints;
        selects = b3.selects ∙ e.selects ∙ ap (λ (l : List SelectTable). l ++ tables (length e1.code.items) so.plan) b1.selects ∙ ap (λ x. e0.selects.items ++ tables x so.plan) n;
        layout = ap (layout_of table) b3.layout ∙ e.layout;
        kept = keeps_both table e0 e2 e3 (keeps_both table e0 e1 e2 (beside_keeps e0 e1 b1) e.kept) (beside_keeps e2 e3 b3);
      })

  pub emits_if_else : (e0 e1 e2 e3 e4 e5 : Emitter) (f g h : Control) (so other : Made) → e1.code.items ≡ e0.code.items ++ instrs.Unless 0 ∷ [] → Beside e0 e1 → Emits table e1 e2 f so
      → e3.code.items ≡ slice_set (e2.code.items ++ cond f.ends (instrs.Jump 0 ∷ []) []) (length e0.code.items) (instrs.Unless (length e3.code.items)) → Beside e2 e3 → Emits table e3 e4 g other
      → e5.code.items ≡ cond f.ends (slice_set e4.code.items (length e2.code.items) (instrs.Jump (length e4.code.items))) e4.code.items → Beside e4 e5 → h ≡ either f g
      → Emits table e0 e5 h (made_of (IfElse so.plan other.plan) (so.prints ++ other.prints) other.layout)
  emits_if_else e0 e1 e2 e3 e4 e5 f g h so other c1 b1 a c3 b3 b c5 b5 is =
      let over = cond f.ends (instrs.Jump 0 ∷ []) [] in
      let n1 = ap length c1 ∙ length-append e0.code.items (instrs.Unless 0 ∷ []) in
      let n2 = makes_length e1.code.items e2.code.items f.waits so.plan a.code in
      let one : length over ≡ jump_size so.plan = length_if f.ends (instrs.Jump 0 ∷ []) 1 refl ∙ ap (λ b. cond b 1 0) a.flows.ends in
      let n3 : length e3.code.items ≡ length e0.code.items + 1 + size so.plan + jump_size so.plan =
      (let long = ap length c3 ∙ length-set (e2.code.items ++ over) (length e0.code.items) (instrs.Unless (length e3.code.items)) ∙ length-append e2.code.items over in omega (arith, long, one, n1, n2)) in
      let t1 = tables (length e1.code.items) so.plan in
      let t2 = tables (length e3.code.items) other.plan in
      subst (λ x. Emits table e0 e5 x (made_of (IfElse so.plan other.plan) (so.prints ++ other.prints) other.layout)) (sym is) (record {
        code = makes_two_ways f.ends e0.code.items e1.code.items e2.code.items e3.code.items e4.code.items e5.code.items f.waits g.waits so.plan other.plan (sym a.flows.ends) c1 a.code c3 b.code c5;
        flows = record {
          ends = ap (λ x. x || g.ends) a.flows.ends ∙ ap (λ x. reaches_end so.plan || x) b.flows.ends;
          breaks = ap (λ x. x || g.breaks) a.flows.breaks ∙ ap (λ x. has_break so.plan || x) b.flows.breaks;
          continues = ap (λ x. x || g.continues) a.flows.continues ∙ ap (λ x. has_continue so.plan || x) b.flows.continues;
        };
        prints = b5.prints ∙ b.prints ∙ ap (λ (l : List PrintTable). l ++ other.prints) (b3.prints ∙ a.prints ∙ ap (λ (l : List PrintTable). l ++ so.prints) b1.prints) ∙ append_assoc e0.prints.items so.prints other.prints;
        selects = b5.selects ∙ b.selects ∙ ap (λ (l : List SelectTable). l ++ t2) (b3.selects ∙ a.selects ∙ ap (λ (l : List SelectTable). l ++ t1) b1.selects) ∙ append_assoc e0.selects.items t1 t2
            ∙ ap (λ x. e0.selects.items ++ (tables x so.plan ++ t2)) n1 ∙ ap (λ x. e0.selects.items ++ (tables (length e0.code.items + 1) so.plan ++ tables x other.plan)) n3;
        layout = ap (layout_of table) b5.layout ∙ b.layout;
        kept = keeps_both table e0 e2 e5 (keeps_both table e0 e1 e2 (beside_keeps e0 e1 b1) a.kept) (keeps_both table e2 e4 e5 (keeps_both table e2 e3 e4 (beside_keeps e2 e3 b3) b.kept) (beside_keeps e4 e5 b5));
      })

  -- after the test
  module _ (globals : Globals) (elements : List Element) (result : Yield) where
    pub emits_one_way : (condition : Expression) (so : Made) (e0 e1 e2 e3 e4 : Emitter) (f g : Control) (next : ℕ) → Puts e0.code.items e1.code.items (tests globals elements (layout_of table e0.layout) condition) → Beside e0 e1 → e2.code.items ≡ e1.code.items ++ instrs.Unless 0 ∷ [] → Beside e1 e2
        → Emits table e2 e3 f so → next ≡ length e3.code.items → e4.code.items ≡ slice_set e3.code.items (length e1.code.items) (instrs.Unless next) → Beside e3 e4 → g ≡ may_end f → Emits table e0 e4 g (made_if globals elements result (layout_of table e0.layout) condition so)
    emits_one_way condition so e0 e1 e2 e3 e4 f g next puts b1 c2 b2 e en c4 b4 is =
        let test = tests globals elements (layout_of table e0.layout) condition in
        emits_after table test e0 e1 e4 g (made_of (IfThen so.plan) so.prints so.layout) (pushes_before globals elements (layout_of table e0.layout).scope BoolType condition (IfThen so.plan)) puts b1.prints b1.selects (beside_keeps e0 e1 b1)
        (emits_if_then e1 e2 e3 e4 f g so next c2 b2 e en c4 b4 is)

    pub emits_two_ways : (condition : Expression) (so : Made) (make : Site → Made) (e0 e1 e2 e3 e4 e5 e6 : Emitter) (f g h : Control) → Puts e0.code.items e1.code.items (tests globals elements (layout_of table e0.layout) condition) → Beside e0 e1 → e2.code.items ≡ e1.code.items ++ instrs.Unless 0 ∷ [] → Beside e1 e2
        → Emits table e2 e3 f so → e4.code.items ≡ slice_set (e3.code.items ++ cond f.ends (instrs.Jump 0 ∷ []) []) (length e1.code.items) (instrs.Unless (length e4.code.items)) → Beside e3 e4 → Emits table e4 e5 g (make (site_of table e4))
        → e6.code.items ≡ cond f.ends (slice_set e5.code.items (length e3.code.items) (instrs.Jump (length e5.code.items))) e5.code.items → Beside e5 e6 → h ≡ either f g → Emits table e0 e6 h (made_else globals elements result (layout_of table e0.layout) condition so (make (past (site_of table e0) so)))
    emits_two_ways condition so make e0 e1 e2 e3 e4 e5 e6 f g h puts b1 c2 b2 a c4 b4 b c6 b6 is =
        let test = tests globals elements (layout_of table e0.layout) condition in
        let first : site_of table e2 ≡ site_of table e0 = same_site e1 e2 b2 ∙ same_site e0 e1 b1 in
        let other : site_of table e4 ≡ past (site_of table e0) so = same_site e3 e4 b4 ∙ site_past table e2 e3 f so a ∙ ap (λ site. past site so) first in
        let o = make (past (site_of table e0) so) in
        emits_after table test e0 e1 e6 h (made_of (IfElse so.plan o.plan) (so.prints ++ o.prints) o.layout) (pushes_before globals elements (layout_of table e0.layout).scope BoolType condition (IfElse so.plan o.plan)) puts b1.prints b1.selects (beside_keeps e0 e1 b1)
        (emits_if_else e1 e2 e3 e4 e5 e6 f g h so o c2 b2 a c4 b4 (subst (λ site. Emits table e4 e5 g (make site)) other b) c6 b6 is)

    -- one way or two, as something follows `else` or not
    pub with_other : (e0 e1 : Emitter) (flow : Control) (site : Site) (condition : Expression) (body : Statements) (otherwise : Otherwise) → is_other otherwise ≡ true → Emits table e0 e1 flow (made_two_ways globals elements result site condition body otherwise)
        → Emits table e0 e1 flow (made_condition globals elements result site condition body otherwise)
    with_other e0 e1 flow site condition body NoElse is e = absurd cc
    with_other e0 e1 flow site condition body (ElseBlock other) is e = e
    with_other e0 e1 flow site condition body (ElseIf branch) is e = e

    pub without_other : (e0 e1 : Emitter) (flow : Control) (site : Site) (condition : Expression) (body : Statements) (otherwise : Otherwise) → is_other otherwise ≡ false → Emits table e0 e1 flow (made_one_way globals elements result site condition body)
        → Emits table e0 e1 flow (made_condition globals elements result site condition body otherwise)
    without_other e0 e1 flow site condition body NoElse is e = e
    without_other e0 e1 flow site condition body (ElseBlock other) is e = absurd cc
    without_other e0 e1 flow site condition body (ElseIf branch) is e = absurd cc
