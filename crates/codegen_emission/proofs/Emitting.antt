-- What is emitted of statements, from what is emitted of their parts.
use Rattle.std.proofs.Common.{◌≡◌, ℕ, ◌+◌, Bool, true, false, cond, ◌&&◌, ◌||◌, List, [], ◌∷◌, ◌++◌, length, take, refl, sym, ap, ◌∙◌, subst, arith, append_assoc, length-append}
use Rattle.std.specs.Prelude.{min}
use Rattle.std.proofs.lemmas.List.{append-nil, length-take, take-take}
use Rattle.std.proofs.Math.Seq.{take-length}
use Rattle.bytecode.specs.declared.instr.Instr.TheVariants as instrs
use Rattle.bytecode.specs.Code.{PrintTable, SelectTable}
use Rattle.plan.specs.Plan.{Plan, Skip, Leave, Again, reaches_end, has_break, has_continue, table_count, tables}
use Rattle.plan.proofs.Tables.{tables_size}
use Rattle.type_table.specs.declared.table.TypeTable.{TypeTable}
use Rattle.type_table.specs.Visible.{Keeps}
use Rattle.codegen_base.specs.Generated.{Made, made, made_of, nothing, past, followed}
use Rattle.codegen_header.specs.Layouts.{layout_of}
use Rattle.codegen_emission.specs.declared.emitter.Emitter.{Emitter}
use Rattle.codegen_emission.specs.declared.marks.Marks.{Marks}
use Rattle.codegen_flow.specs.Waits.{Makes}
use Rattle.codegen_flow.specs.Controls.{Control, Flows, joined, jumping, through}
use Rattle.codegen_emission.specs.Emitted.{Emits, Jumps, site_of}
use Rattle.codegen_flow.proofs.Filled.{makes_length, makes_leave, makes_again, makes_seq}

module _ (table : TypeTable) where
  same_kept : (old new : Emitter) → new.layout ≡ old.layout → Keeps old.layout.visible new.layout.visible
  same_kept old new same = subst (λ l. Keeps old.layout.visible l.visible) (sym same) (take-length old.layout.visible.entries.items, refl)

  -- a plan without prints, selects and names
  pub emits_plain : (old new : Emitter) (flow : Control) (plan : Plan) → Makes old.code.items new.code.items flow.waits plan → Flows flow plan → ((place : ℕ) → tables place plan ≡ []) → new.prints.items ≡ old.prints.items → new.selects.items ≡ old.selects.items → new.layout ≡ old.layout
      → Emits table old new flow (made_of plan [] (layout_of table old.layout))
  emits_plain old new flow plan m f none prints selects layout = record {
    code = m;
    flows = f;
    prints = prints ∙ sym (append-nil old.prints.items);
    selects = selects ∙ sym (append-nil old.selects.items) ∙ ap (λ (l : List SelectTable). old.selects.items ++ l) (sym (none (length old.code.items)));
    layout = ap (layout_of table) layout;
    kept = same_kept old new layout;
  }

  -- a break or a continue
  emits_jump : (leaves : Bool) (old new : Emitter) (flow : Control) → new.code.items ≡ old.code.items ++ instrs.Jump 0 ∷ [] → flow ≡ jumping (length old.code.items) leaves
      → new.prints.items ≡ old.prints.items → new.selects.items ≡ old.selects.items → new.layout ≡ old.layout → Emits table old new flow (made_of (cond leaves Leave Again) [] (layout_of table old.layout))
  emits_jump true old new flow code is prints selects layout =
      subst (λ f. Emits table old new f (made_of Leave [] (layout_of table old.layout))) (sym is)
      (emits_plain old new (jumping (length old.code.items) true) Leave (makes_leave old.code.items new.code.items code) (record { ends = refl; breaks = refl; continues = refl }) (λ place. refl) prints selects layout)
  emits_jump false old new flow code is prints selects layout =
      subst (λ f. Emits table old new f (made_of Again [] (layout_of table old.layout))) (sym is)
      (emits_plain old new (jumping (length old.code.items) false) Again (makes_again old.code.items new.code.items code) (record { ends = refl; breaks = refl; continues = refl }) (λ place. refl) prints selects layout)

  pub emits_break : (old new : Emitter) (flow : Control) → Jumps true old new flow → Emits table old new flow (made_of Leave [] (layout_of table old.layout))
  emits_break old new flow j = emits_jump true old new flow j.code j.waits j.prints j.selects j.layout

  pub emits_continue : (old new : Emitter) (flow : Control) → Jumps false old new flow → Emits table old new flow (made_of Again [] (layout_of table old.layout))
  emits_continue old new flow j = emits_jump false old new flow j.code j.waits j.prints j.selects j.layout

  -- nothing
  pub emits_nothing : (now : Emitter) (flow : Control) → flow ≡ through → Emits table now now flow (nothing (site_of table now))
  emits_nothing now flow is =
      subst (λ f. Emits table now now f (nothing (site_of table now))) (sym is)
      (emits_plain now now through Skip (record { within = tt; is = λ leave again. sym (append-nil now.code.items) }) (record { ends = refl; breaks = refl; continues = refl }) (λ place. refl) refl refl refl)

  pub emits_none : (now : Emitter) → Emits table now now through (nothing (site_of table now))
  emits_none now = emits_nothing now through refl

  -- marks change nothing
  pub emits_marked : (e0 e1 : Emitter) (before following : Marks) (flow : Control) (made : Made) → Emits table (record e0 { marks = before }) e1 flow made → Emits table e0 (record e1 { marks = following }) flow made
  emits_marked e0 e1 before following flow made e = record { code = e.code; flows = e.flows; prints = e.prints; selects = e.selects; layout = e.layout; kept = e.kept }

  -- ---- one after the other

  pub keeps_both : (e0 e1 e2 : Emitter) → Keeps e0.layout.visible e1.layout.visible → Keeps e1.layout.visible e2.layout.visible → Keeps e0.layout.visible e2.layout.visible
  keeps_both e0 e1 e2 a b =
      let v0 = e0.layout.visible.entries.items in
      let v1 = e1.layout.visible.entries.items in
      let v2 = e2.layout.visible.entries.items in
      let n : min (length v0) (length v1) ≡ length v0 = sym (length-take (length v0) v1) ∙ ap length a.0 in
      (sym (take-take (length v0) (length v1) v2 (omega (arith, n))) ∙ ap (take (length v0)) b.0 ∙ a.0, b.1 ∙ a.1)

  pub emits_both : (e0 e1 e2 : Emitter) (f g : Control) (first rest : Made) → f.ends ≡ true → Emits table e0 e1 f first → Emits table e1 e2 g rest → Emits table e0 e2 (joined f g) (followed first rest)
  emits_both e0 e1 e2 f g first rest on a b =
      let leads : reaches_end first.plan ≡ true = sym a.flows.ends ∙ on in
      let n = makes_length e0.code.items e1.code.items f.waits first.plan a.code in
      let following = tables (length e1.code.items) rest.plan in
      record {
        code = makes_seq e0.code.items e1.code.items e2.code.items f.waits g.waits first.plan rest.plan leads a.code b.code;
        flows = record {
          ends = b.flows.ends ∙ ap (λ x. x && reaches_end rest.plan) (sym leads);
          breaks = ap (λ x. x || g.breaks) a.flows.breaks ∙ ap (λ x. has_break first.plan || x) b.flows.breaks ∙ ap (λ x. has_break first.plan || (x && has_break rest.plan)) (sym leads);
          continues = ap (λ x. x || g.continues) a.flows.continues ∙ ap (λ x. has_continue first.plan || x) b.flows.continues ∙ ap (λ x. has_continue first.plan || (x && has_continue rest.plan)) (sym leads);
        };
        prints = b.prints ∙ ap (λ (l : List PrintTable). l ++ rest.prints) a.prints ∙ append_assoc e0.prints.items first.prints rest.prints;
        selects = b.selects ∙ ap (λ (l : List SelectTable). l ++ following) a.selects ∙ append_assoc e0.selects.items (tables (length e0.code.items) first.plan) following
            ∙ ap (λ b. e0.selects.items ++ (tables (length e0.code.items) first.plan ++ cond b following [])) (sym leads)
            ∙ ap (λ x. e0.selects.items ++ (tables (length e0.code.items) first.plan ++ cond (reaches_end first.plan) (tables x rest.plan) [])) n;
        layout = b.layout;
        kept = keeps_both e0 e1 e2 a.kept b.kept;
      }

  -- the site of the next statement
  pub site_past : (e0 e1 : Emitter) (f : Control) (made : Made) → Emits table e0 e1 f made → site_of table e1 ≡ past (site_of table e0) made
  site_past e0 e1 f made e =
      let p : length e1.prints.items ≡ length e0.prints.items + length made.prints = ap length e.prints ∙ length-append e0.prints.items made.prints in
      let q : length e1.selects.items ≡ length e0.selects.items + table_count made.plan = ap length e.selects ∙ length-append e0.selects.items (tables (length e0.code.items) made.plan) ∙ ap (λ n. length e0.selects.items + n) (tables_size made.plan (length e0.code.items)) in
      cc (e.layout, p, q)
