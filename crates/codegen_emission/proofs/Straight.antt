-- Statements without statements in them.
use Rattle.std.proofs.Common.{◌≡◌, ℕ, List, [], ◌++◌, length, Option, refl, sym, ap, ◌∙◌, subst}
use Rattle.std.proofs.lemmas.List.{append-nil}
use Rattle.syntax.specs.Tree.{Expression, Returned, NoValue, ReturnedValue, Simple}
use Rattle.bytecode.specs.Code.{SelectTable}
use Rattle.bytecode.specs.declared.instr.Instr.TheVariants as instrs
use Rattle.plan.specs.Plan.{Plan, Skip, Do, Stop}
use Rattle.type_table.specs.declared.table.TypeTable.{TypeTable}
use Rattle.type_table.specs.Types.{ValueType}
use Rattle.type_table.specs.Scopes.{Globals, Yield}
use Rattle.type_table.specs.Visible.{Keeps}
use Rattle.codegen_base.specs.declared.element.Element.{Element}
use Rattle.codegen_base.specs.Layouts.{Layout, following_simple, declaring_all, declaring_each}
use Rattle.codegen_base.specs.Statements.{defines, pushes_arguments, simple_plan, simple_prints}
use Rattle.codegen_base.specs.Generated.{made_go, made_of, made_simple, made_typed, made_untyped, result_type, return_plan, variables_plan}
use Rattle.codegen_base.proofs.Before.{Before, Here, before_ends, pushes_before}
use Rattle.codegen_base.proofs.Plain.{arguments_before, defines_before, simple_before, then_step, variables_before}
use Rattle.codegen_header.specs.Layouts.{layout_of}
use Rattle.codegen_header.specs.Simples.{Appends}
use Rattle.codegen_emission.specs.declared.emitter.Emitter.{Emitter}
use Rattle.codegen_flow.specs.Controls.{Control, never, through}
use Rattle.codegen_emission.specs.Emitted.{Emits, site_of}
use Rattle.codegen_emission.proofs.Following.{before_break, before_continue, before_none, emits_alone}
use Rattle.codegen_emission.proofs.Branching.{Beside, beside_keeps}

module _ (table : TypeTable) where
  -- code that ends in a return
  pub emits_stop : (e0 e1 : Emitter) (flow : Control) (plan : Plan) → flow ≡ never → Before Stop plan → Appends e0.code.items e1.code.items plan → Beside e0 e1 → Emits table e0 e1 flow (made_of plan [] (layout_of table e0.layout))
  emits_stop e0 e1 flow plan is before code beside =
      subst (λ f. Emits table e0 e1 f (made_of plan [] (layout_of table e0.layout))) (sym is) (record {
        code = record { within = tt; is = code };
        flows = record { ends = sym (before_ends Stop plan before); breaks = sym (before_break Stop plan before); continues = sym (before_continue Stop plan before) };
        prints = beside.prints ∙ sym (append-nil e0.prints.items);
        selects = beside.selects ∙ sym (append-nil e0.selects.items) ∙ ap (λ (l : List SelectTable). e0.selects.items ++ l) (sym (before_none Stop plan (λ to. refl) before (length e0.code.items)));
        layout = ap (layout_of table) beside.layout;
        kept = beside_keeps e0 e1 beside;
      })

  module _ (globals : Globals) (elements : List Element) where
    -- a simple statement, whose print table has this number
    pub emits_simple : (simple : Simple) (e0 e1 : Emitter) (flow : Control) (q : ℕ) → flow ≡ through → q ≡ length e0.prints.items → Appends e0.code.items e1.code.items (simple_plan globals elements (layout_of table e0.layout) q simple)
        → e1.prints.items ≡ e0.prints.items ++ simple_prints globals elements (layout_of table e0.layout).scope simple → e1.selects.items ≡ e0.selects.items → layout_of table e1.layout ≡ following_simple globals elements simple (layout_of table e0.layout) → Keeps e0.layout.visible e1.layout.visible
        → Emits table e0 e1 flow (made_simple globals elements (site_of table e0) simple)
    emits_simple simple e0 e1 flow q is eq code prints selects layout kept =
        emits_alone table e0 e1 flow (made_simple globals elements (site_of table e0) simple) is (simple_before globals elements (layout_of table e0.layout) (length e0.prints.items) simple)
        (subst (λ n. Appends e0.code.items e1.code.items (simple_plan globals elements (layout_of table e0.layout) n simple)) eq code) prints selects layout kept

    -- variables of a type
    pub emits_typed : (yields : Yield) (names : List (List ℕ)) (kind : ValueType) (right : Option (List Expression)) (e0 e1 : Emitter) (flow : Control) → flow ≡ through → Appends e0.code.items e1.code.items (variables_plan globals elements (layout_of table e0.layout) names kind right)
        → e1.prints.items ≡ e0.prints.items → e1.selects.items ≡ e0.selects.items → layout_of table e1.layout ≡ declaring_each globals elements kind names (layout_of table e0.layout) → Keeps e0.layout.visible e1.layout.visible → Emits table e0 e1 flow (made_typed globals elements yields (site_of table e0) names kind right)
    emits_typed yields names kind right e0 e1 flow is code prints selects layout kept =
        emits_alone table e0 e1 flow (made_typed globals elements yields (site_of table e0) names kind right) is (variables_before globals elements (layout_of table e0.layout) names kind right) code (prints ∙ sym (append-nil e0.prints.items)) selects layout kept

    -- variables that take the types of what they are given
    pub emits_untyped : (yields : Yield) (names : List (List ℕ)) (types : List ValueType) (right : List Expression) (e0 e1 : Emitter) (flow : Control) → flow ≡ through → Appends e0.code.items e1.code.items (defines globals elements (layout_of table e0.layout) names types right)
        → e1.prints.items ≡ e0.prints.items → e1.selects.items ≡ e0.selects.items → layout_of table e1.layout ≡ declaring_all globals elements names types (layout_of table e0.layout) → Keeps e0.layout.visible e1.layout.visible → Emits table e0 e1 flow (made_untyped globals elements yields (site_of table e0) names types right)
    emits_untyped yields names types right e0 e1 flow is code prints selects layout kept =
        emits_alone table e0 e1 flow (made_untyped globals elements yields (site_of table e0) names types right) is (defines_before globals elements (layout_of table e0.layout) names types right) code (prints ∙ sym (append-nil e0.prints.items)) selects layout kept

    pub emits_go : (yields : Yield) (number : ℕ) (values : List Expression) (e0 e1 : Emitter) (flow : Control) → flow ≡ through → Appends e0.code.items e1.code.items (pushes_arguments globals elements (layout_of table e0.layout).scope number values (Do (instrs.Go number) Skip)) → Beside e0 e1
        → Emits table e0 e1 flow (made_go globals elements yields (site_of table e0) number values)
    emits_go yields number values e0 e1 flow is code beside =
        let scope = (layout_of table e0.layout).scope in
        emits_alone table e0 e1 flow (made_go globals elements yields (site_of table e0) number values) is (then_step (pushes_arguments globals elements scope number values) (instrs.Go number) (arguments_before globals elements scope number values) Skip) code
        (beside.prints ∙ sym (append-nil e0.prints.items)) beside.selects (ap (layout_of table) beside.layout) (beside_keeps e0 e1 beside)

    return_before : (yields : Yield) (layout : Layout) (returned : Returned) → Before Stop (return_plan globals elements yields layout returned)
    return_before yields layout NoValue = Here Stop
    return_before yields layout (ReturnedValue value) = pushes_before globals elements layout.scope (result_type globals elements yields) value Stop

    pub emits_return : (result : Yield) (returned : Returned) (e0 e1 : Emitter) (flow : Control) → flow ≡ never → Appends e0.code.items e1.code.items (return_plan globals elements result (layout_of table e0.layout) returned) → Beside e0 e1
        → Emits table e0 e1 flow (made_of (return_plan globals elements result (layout_of table e0.layout) returned) [] (layout_of table e0.layout))
    emits_return result returned e0 e1 flow is code beside = emits_stop e0 e1 flow (return_plan globals elements result (layout_of table e0.layout) returned) is (return_before result (layout_of table e0.layout) returned) code beside
