-- The ends of bodies.
use Rattle.std.proofs.Common.{◌≡◌, true, false, List, [], sym, ap, ◌∙◌, subst}
use Rattle.std.specs.Prelude.{if◌then◌else◌}
use Rattle.syntax.specs.Tree.{Statements}
use Rattle.plan.specs.Plan.{Stop, reaches_end}
use Rattle.type_table.specs.declared.table.TypeTable.{TypeTable}
use Rattle.type_table.specs.Scopes.{Globals, Yield}
use Rattle.codegen_base.specs.declared.element.Element.{Element}
use Rattle.codegen_base.specs.Layouts.{Layout}
use Rattle.codegen_base.specs.Pushes.{pushes_zeros}
use Rattle.codegen_base.specs.Generated.{Made, Site, followed, made_all, made_body, made_of, result_kinds}
use Rattle.codegen_base.proofs.Before.{zeros_before}
use Rattle.codegen_header.specs.Layouts.{layout_of}
use Rattle.codegen_header.specs.Simples.{Appends}
use Rattle.codegen_emission.specs.declared.emitter.Emitter.{Emitter}
use Rattle.codegen_flow.specs.Waits.{filled}
use Rattle.codegen_flow.specs.Controls.{Control, joined, never}
use Rattle.codegen_emission.specs.Emitted.{Emits, Finishes}
use Rattle.codegen_emission.proofs.Emitting.{emits_both}
use Rattle.codegen_emission.proofs.Branching.{Beside}
use Rattle.codegen_emission.proofs.Straight.{emits_stop}

module _ (table : TypeTable) (globals : Globals) (elements : List Element) (result : Yield) where
  abbrev pub end_made : Layout → Made
  end_made layout = made_of (pushes_zeros (result_kinds globals elements result) Stop) [] layout

  pub emits_end : (e0 e1 : Emitter) (flow : Control) → flow ≡ never → Appends e0.code.items e1.code.items (pushes_zeros (result_kinds globals elements result) Stop) → Beside e0 e1 → Emits table e0 e1 flow (end_made (layout_of table e0.layout))
  emits_end e0 e1 flow is code beside = emits_stop table e0 e1 flow (pushes_zeros (result_kinds globals elements result) Stop) is (zeros_before (result_kinds globals elements result) Stop) code beside

  -- the end is reached
  pub emits_finished : (site : Site) (body : Statements) (e0 e1 e2 : Emitter) (f g h : Control) → Emits table e0 e1 f (made_all globals elements result site body) → f.ends ≡ true → Emits table e1 e2 g (end_made (layout_of table e1.layout)) → h ≡ joined f g
      → Emits table e0 e2 h (made_body globals elements result site body)
  emits_finished site body e0 e1 e2 f g h a on b is =
      let m = made_all globals elements result site body in
      let leads : reaches_end m.plan ≡ true = sym a.flows.ends ∙ on in
      let following = subst (λ l. Emits table e1 e2 g (end_made l)) a.layout b in
      let both = subst (λ f. Emits table e0 e2 f (followed m (end_made m.layout))) (sym is) (emits_both table e0 e1 e2 f g m (end_made m.layout) on a following) in
      subst (λ b. Emits table e0 e2 h (if b then followed m (end_made m.layout) else m)) (sym leads) both

  -- it isn't
  pub emits_unfinished : (site : Site) (body : Statements) (e0 e1 : Emitter) (f : Control) → Emits table e0 e1 f (made_all globals elements result site body) → f.ends ≡ false → Emits table e0 e1 f (made_body globals elements result site body)
  emits_unfinished site body e0 e1 f a off =
      let m = made_all globals elements result site body in
      let ends : reaches_end m.plan ≡ false = sym a.flows.ends ∙ off in
      subst (λ b. Emits table e0 e1 f (if b then followed m (end_made m.layout) else m)) (sym ends) a

pub finishes : (table : TypeTable) (made : Made) (e0 e1 e2 : Emitter) (flow : Control) → Emits table e0 e1 flow made → e2.code.items ≡ filled flow.waits 0 0 e1.code.items → Beside e1 e2 → Finishes table e0 e2 made
finishes table made e0 e1 e2 flow e code beside = record {
  code = code ∙ e.code.is 0 0;
  prints = beside.prints ∙ e.prints;
  selects = beside.selects ∙ e.selects;
  layout = ap (layout_of table) beside.layout ∙ e.layout;
}
