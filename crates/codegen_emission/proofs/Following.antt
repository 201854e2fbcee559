-- What is emitted after code that has no jumps and no selects of its own.
use Rattle.std.proofs.Common.{◌≡◌, ℕ, ◌+◌, true, cond, ◌&&◌, ◌||◌, List, [], ◌++◌, length, refl, sym, ap, ◌∙◌, subst, arith}
use Rattle.std.proofs.lemmas.List.{append-nil}
use Rattle.bytecode.specs.Code.{PrintTable, SelectTable}
use Rattle.plan.specs.Plan.{Plan, Skip, IfElse, reaches_end, has_break, has_continue, size, jump_size, tables}
use Rattle.type_table.specs.declared.table.TypeTable.{TypeTable}
use Rattle.type_table.specs.Visible.{Keeps}
use Rattle.codegen_base.specs.Generated.{Made, made_of}
use Rattle.codegen_base.proofs.Before.{Before, Here, Step, Choice, before_ends}
use Rattle.codegen_expression.specs.Emission.{Puts}
use Rattle.codegen_header.specs.Layouts.{layout_of}
use Rattle.codegen_header.specs.Simples.{Appends}
use Rattle.codegen_emission.specs.declared.emitter.Emitter.{Emitter}
use Rattle.codegen_flow.specs.Controls.{Control, through}
use Rattle.codegen_emission.specs.Emitted.{Emits}
use Rattle.codegen_flow.proofs.Filled.{makes_after, makes_length}
use Rattle.codegen_emission.proofs.Emitting.{keeps_both}

-- ---- such code

pub before_break : (rest p : Plan) → Before rest p → has_break p ≡ has_break rest
before_break rest _ (Here _) = refl
before_break rest _ (Step i _ p g) = before_break rest p g
before_break rest _ (Choice _ so other p x y g) =
    ap (λ t. (t || has_break other) || ((reaches_end so || reaches_end other) && has_break p)) (before_break Skip so x) ∙ ap (λ t. t || ((reaches_end so || reaches_end other) && has_break p)) (before_break Skip other y)
    ∙ ap (λ t. (t || reaches_end other) && has_break p) (before_ends Skip so x) ∙ before_break rest p g

pub before_continue : (rest p : Plan) → Before rest p → has_continue p ≡ has_continue rest
before_continue rest _ (Here _) = refl
before_continue rest _ (Step i _ p g) = before_continue rest p g
before_continue rest _ (Choice _ so other p x y g) =
    ap (λ t. (t || has_continue other) || ((reaches_end so || reaches_end other) && has_continue p)) (before_continue Skip so x) ∙ ap (λ t. t || ((reaches_end so || reaches_end other) && has_continue p)) (before_continue Skip other y)
    ∙ ap (λ t. (t || reaches_end other) && has_continue p) (before_ends Skip so x) ∙ before_continue rest p g

-- there are none if there are none after it
pub before_none : (rest p : Plan) → ((to : ℕ) → tables to rest ≡ []) → Before rest p → (place : ℕ) → tables place p ≡ []
before_none rest _ none (Here _) place = none place
before_none rest _ none (Step i _ p g) place = before_none rest p none g (place + 1)
before_none rest _ none (Choice _ so other p x y g) place =
    let at = place + 1 + size so + jump_size so in
    let following = tables (place + size (IfElse so other)) p in
    ap (λ (l : List SelectTable). (l ++ tables at other) ++ cond (reaches_end (IfElse so other)) following []) (before_none Skip so (λ to. refl) x (place + 1))
    ∙ ap (λ (l : List SelectTable). l ++ cond (reaches_end (IfElse so other)) following []) (before_none Skip other (λ to. refl) y at)
    ∙ ap (λ b. cond b following []) (ap (λ t. t || reaches_end other) (before_ends Skip so x)) ∙ before_none rest p none g (place + size (IfElse so other))

-- the select tables are those of what follows it
pub before_tables : (rest p : Plan) (place to : ℕ) → Before rest p → place + size p ≡ to + size rest → tables place p ≡ tables to rest
before_tables rest _ place to (Here _) e = ap (λ n. tables n rest) (omega (arith, e))
before_tables rest _ place to (Step i _ p g) e = before_tables rest p (place + 1) to g (omega (arith, e))
before_tables rest _ place to (Choice _ so other p x y g) e =
    let at = place + 1 + size so + jump_size so in
    let on : reaches_end (IfElse so other) ≡ true = ap (λ t. t || reaches_end other) (before_ends Skip so x) in
    let n : cond (reaches_end (IfElse so other)) (size p) 0 ≡ size p = ap (λ b. cond b (size p) 0) on in
    let following = tables (place + size (IfElse so other)) p in
    ap (λ (l : List SelectTable). (l ++ tables at other) ++ cond (reaches_end (IfElse so other)) following []) (before_none Skip so (λ m. refl) x (place + 1))
    ∙ ap (λ (l : List SelectTable). l ++ cond (reaches_end (IfElse so other)) following []) (before_none Skip other (λ m. refl) y at)
    ∙ ap (λ b. cond b following []) on ∙ before_tables rest p (place + size (IfElse so other)) to g (omega (arith, e, n))

pub alone_tables : (p : Plan) (place : ℕ) → Before Skip p → tables place p ≡ []
alone_tables p place b = before_none Skip p (λ to. refl) b place

module _ (table : TypeTable) where
  pub emits_after : (part : Plan → Plan) (e0 e1 e2 : Emitter) (flow : Control) (rest : Made) → Before rest.plan (part rest.plan) → Puts e0.code.items e1.code.items part → e1.prints.items ≡ e0.prints.items → e1.selects.items ≡ e0.selects.items
      → Keeps e0.layout.visible e1.layout.visible → Emits table e1 e2 flow rest → Emits table e0 e2 flow (made_of (part rest.plan) rest.prints rest.layout)
  emits_after part e0 e1 e2 flow rest before puts prints selects kept e =
      let c = makes_after e0.code.items e1.code.items e2.code.items flow.waits part rest.plan puts e.code in
      let n = sym (makes_length e0.code.items e2.code.items flow.waits (part rest.plan) c) ∙ makes_length e1.code.items e2.code.items flow.waits rest.plan e.code in
      record {
        code = c;
        flows = record {
          ends = e.flows.ends ∙ sym (before_ends rest.plan (part rest.plan) before);
          breaks = e.flows.breaks ∙ sym (before_break rest.plan (part rest.plan) before);
          continues = e.flows.continues ∙ sym (before_continue rest.plan (part rest.plan) before);
        };
        prints = e.prints ∙ ap (λ (l : List PrintTable). l ++ rest.prints) prints;
        selects = e.selects ∙ ap (λ (l : List SelectTable). l ++ tables (length e1.code.items) rest.plan) selects
            ∙ ap (λ (l : List SelectTable). e0.selects.items ++ l) (sym (before_tables rest.plan (part rest.plan) (length e0.code.items) (length e1.code.items) before n));
        layout = e.layout;
        kept = keeps_both table e0 e1 e2 kept e.kept;
      }

  -- such code alone
  pub emits_alone : (e0 e1 : Emitter) (flow : Control) (made : Made) → flow ≡ through → Before Skip made.plan → Appends e0.code.items e1.code.items made.plan → e1.prints.items ≡ e0.prints.items ++ made.prints → e1.selects.items ≡ e0.selects.items
      → layout_of table e1.layout ≡ made.layout → Keeps e0.layout.visible e1.layout.visible → Emits table e0 e1 flow made
  emits_alone e0 e1 flow made is before code prints selects layout kept =
      let n = alone_tables made.plan (length e0.code.items) before in
      subst (λ f. Emits table e0 e1 f made) (sym is) (record {
        code = record { within = tt; is = code };
        flows = record { ends = sym (before_ends Skip made.plan before); breaks = sym (before_break Skip made.plan before); continues = sym (before_continue Skip made.plan before) };
        prints = prints;
        selects = selects ∙ sym (append-nil e0.selects.items) ∙ ap (λ (l : List SelectTable). e0.selects.items ++ l) (sym n);
        layout = layout;
        kept = kept;
      })
