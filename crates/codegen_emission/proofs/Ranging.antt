-- Loops over what is received from a channel, as they are emitted.
use Rattle.std.proofs.Common.{◌≡◌, ℕ, Bool, ◌||◌, List, [], ◌∷◌, ◌++◌, length, refl, sym, ap, ◌∙◌, subst}
use Rattle.std.specs.Prelude.{cond, slice_set}
use Rattle.std.proofs.lemmas.List.{append-nil}
use Rattle.syntax.specs.Tree.{Expression, For, Range, Statements, Target, NoTarget, DefineTarget, AssignTarget}
use Rattle.bytecode.specs.declared.instr.Instr.{Instr}
use Rattle.bytecode.specs.declared.instr.Instr.TheVariants as instrs
use Rattle.bytecode.specs.Code.{PrintTable, SelectTable}
use Rattle.plan.specs.Plan.{Plan, Cycle, Do, Seq, Skip, tables}
use Rattle.type_table.specs.declared.table.TypeTable.{TypeTable}
use Rattle.type_table.specs.Types.{ValueType}
use Rattle.type_table.specs.Scopes.{Globals, Yield}
use Rattle.type_table.specs.Visible.{Keeps}
use Rattle.codegen_base.specs.declared.element.Element.{Element}
use Rattle.codegen_base.specs.Layouts.{Layout, following_target, carried, keeping}
use Rattle.codegen_base.specs.Pushes.{drops}
use Rattle.codegen_base.specs.Statements.{name_spot, place_spot, stores, width}
use Rattle.codegen_base.specs.Generated.{Made, Site, at, ended, keeps, made, made_of, receives, takes}
use Rattle.codegen_base.proofs.Before.{Before, Here, Stands, Step, before_on, pushes_before}
use Rattle.codegen_base.proofs.Plain.{drops_before, stores_before, then_step}
use Rattle.codegen_header.specs.Layouts.{layout_of}
use Rattle.codegen_header.specs.Simples.{Appends}
use Rattle.codegen_emission.specs.declared.emitter.Emitter.{Emitter}
use Rattle.codegen_flow.specs.Waits.{Makes, filled}
use Rattle.codegen_flow.specs.Controls.{Control, through}
use Rattle.codegen_emission.specs.Emitted.{Emits, site_of}
use Rattle.codegen_emission.specs.Branches.{made_within}
use Rattle.codegen_emission.specs.Items.{made_item, made_items}
use Rattle.codegen_emission.proofs.Emitting.{emits_both, keeps_both}
use Rattle.codegen_emission.proofs.Following.{emits_alone}
use Rattle.codegen_emission.proofs.Blocks.{Entered, Left, emits_inside}
use Rattle.codegen_emission.proofs.Branching.{Beside, beside_keeps}
use Rattle.codegen_emission.proofs.Looping.{emits_cycle}

module _ (globals : Globals) (elements : List Element) (result : Yield) where
  -- ---- code without jumps

  stored_before : (put : Plan → Plan) → Stands put → Before Skip (put (Do instrs.Tick Skip))
  stored_before put b = then_step put instrs.Tick b Skip

  pub takes_before : (layout : Layout) (kind : ValueType) (target : Target) → Before Skip (takes globals elements result layout kind target)
  takes_before layout kind NoTarget = drops_before (width globals elements layout.scope kind) Skip
  takes_before layout kind (DefineTarget name) = let spot = name_spot globals elements layout name kind in stored_before (stores spot) (stores_before spot)
  takes_before layout kind (AssignTarget place) = let spot = place_spot globals elements layout.scope place kind in stored_before (stores spot) (stores_before spot)

  pub keeps_before : (layout : Layout) (channel : Expression) → Before Skip (keeps globals elements result layout channel)
  keeps_before layout channel = before_on (keeps globals elements result layout channel) (Do (instrs.Store layout.scope.words 1) Skip) Skip (pushes_before globals elements layout.scope _ channel (Do (instrs.Store layout.scope.words 1) Skip)) (Step _ Skip Skip (Here Skip))

  receives_before : (layout : Layout) (channel : Expression) → Before Skip (receives globals elements result layout channel)
  receives_before layout channel = Step _ Skip _ (Step _ Skip Skip (Here Skip))

  -- ---- statements

  module _ (table : TypeTable) where
    -- a name is declared first
    emits_declared : (e0 e1 e2 : Emitter) (flow : Control) (made : Made) → e1.code.items ≡ e0.code.items → e1.prints.items ≡ e0.prints.items → e1.selects.items ≡ e0.selects.items → Keeps e0.layout.visible e1.layout.visible → Emits table e1 e2 flow made → Emits table e0 e2 flow made
    emits_declared e0 e1 e2 flow made c p s k e = record {
      code = subst (λ l. Makes l e2.code.items flow.waits made.plan) c e.code;
      flows = e.flows;
      prints = e.prints ∙ ap (λ (l : List PrintTable). l ++ made.prints) p;
      selects = e.selects ∙ ap (λ (l : List SelectTable). l ++ tables (length e1.code.items) made.plan) s ∙ ap (λ (l : List Instr). e0.selects.items ++ tables (length l) made.plan) c;
      layout = e.layout;
      kept = keeps_both table e0 e1 e2 k e.kept;
    }

    site_after : (layout : Layout) (e0 e1 : Emitter) → e1.prints.items ≡ e0.prints.items → e1.selects.items ≡ e0.selects.items → layout_of table e1.layout ≡ layout → site_of table e1 ≡ at layout (site_of table e0)
    site_after layout e0 e1 p s l =
        let prints = ap length p in
        let selects = ap length s in
        cc

    abbrev item_at : ValueType → Target → Statements → Site → Made
    item_at kind target body site =
        let within = made_within globals elements result (at (following_target globals elements kind target site.layout) site) body in made_of (Seq (takes globals elements result site.layout kind target) within.plan) within.prints within.layout

    -- an item is taken, and the body is done
    pub emits_item : (kind : ValueType) (target : Target) (body : Statements) (e0 e1 e2 e3 e4 : Emitter) (count outer : ℕ) (flow : Control) → Entered table e0 e1 count outer → Appends e1.code.items e2.code.items (takes globals elements result (layout_of table e1.layout) kind target)
        → e2.prints.items ≡ e1.prints.items → e2.selects.items ≡ e1.selects.items → layout_of table e2.layout ≡ following_target globals elements kind target (layout_of table e1.layout) → Keeps e1.layout.visible e2.layout.visible
        → Emits table e2 e3 flow (made_within globals elements result (site_of table e2) body) → Left e3 e4 count outer → Emits table e0 e4 flow (made_item globals elements result (site_of table e0) kind target body)
    emits_item kind target body e0 e1 e2 e3 e4 count outer flow i code p s l k e left =
        let layout = layout_of table e1.layout in
        let taken = following_target globals elements kind target layout in
        let first = made_of (takes globals elements result layout kind target) [] taken in
        let one = emits_alone table e1 e2 through first refl (takes_before layout kind target) code (p ∙ sym (append-nil e1.prints.items)) s l k in
        let rest = subst (λ site. Emits table e2 e3 flow (made_within globals elements result site body)) (site_after taken e1 e2 p s l) e in
        emits_inside table (item_at kind target body) e0 e1 e3 e4 count outer flow i (emits_both table e1 e2 e3 through flow first (made_within globals elements result (at taken (site_of table e1)) body) refl one rest) left

    -- the items, one after the other
    pub emits_items : (around : Layout) (channel : Expression) (target : Target) (body : Statements) (b : Bool) (e0 e1 e2 e3 e4 e5 e6 : Emitter) (flow g : Control) (head again exit_at stop : ℕ) → Appends e0.code.items e1.code.items (receives globals elements result around channel) → Beside e0 e1
        → e2.code.items ≡ e1.code.items ++ instrs.Unless 0 ∷ [] → Beside e1 e2 → Emits table e2 e3 flow (made_item globals elements result (site_of table e0) (carried globals elements around.scope channel) target body) → b ≡ (flow.ends || flow.continues) → head ≡ length e0.code.items → again ≡ length e3.code.items
        → e4.code.items ≡ e3.code.items ++ cond b (instrs.Loop head ∷ []) [] → Beside e3 e4 → exit_at ≡ length e4.code.items → Appends e4.code.items e5.code.items (drops (width globals elements around.scope (carried globals elements around.scope channel)) Skip) → Beside e4 e5 → stop ≡ length e5.code.items
        → e6.code.items ≡ filled flow.waits stop again (slice_set e5.code.items (length e1.code.items) (instrs.Unless exit_at)) → Beside e5 e6 → g ≡ through → Emits table e0 e6 g (made_items globals elements result around channel (site_of table e0) target body)
    emits_items around channel target body b e0 e1 e2 e3 e4 e5 e6 flow g head again exit_at stop c1 b1 c2 b2 e comes eh ea c4 b4 ex c5 b5 es c6 b6 is =
        let kind = carried globals elements around.scope channel in
        let item = made_item globals elements result (site_of table e0) kind target body in
        let unused = drops (width globals elements around.scope kind) Skip in
        let whole = emits_cycle table e0 e1 e2 e3 e4 e5 e6 flow g (receives globals elements result around channel) unused item (made_of Skip [] item.layout) b head again exit_at stop (record {
          alone = receives_before around channel;
          following = Here Skip;
          failed = drops_before (width globals elements around.scope kind) Skip;
          tests = c1;
          jumps = c2;
          prints = b2.prints ∙ b1.prints;
          selects = b2.selects ∙ b1.selects;
          kept = keeps_both table e0 e1 e2 (beside_keeps e0 e1 b1) (beside_keeps e1 e2 b2);
          within = e;
          comes = comes;
          head_is = eh;
          again_is = ea;
          rounds = record { code = λ leave next. c4; prints = b4.prints ∙ sym (append-nil e3.prints.items); selects = b4.selects; layout = ap (layout_of table) b4.layout ∙ e.layout; kept = beside_keeps e3 e4 b4 };
          exits = c5;
          beside = b5;
          exit_is = ex;
          stop_is = es;
        }) c6 b6 is in
        subst (λ (l : List PrintTable). Emits table e0 e6 g (made_of (Cycle (receives globals elements result around channel) item.plan Skip unused) l item.layout)) (append-nil item.prints) whole

    -- the channel is kept first, in a block of its own
    pub emits_range : (channel : Expression) (target : Target) (body : Statements) (e0 e1 e2 e3 e4 e5 : Emitter) (count outer : ℕ) (flow : Control) → Appends e0.code.items e1.code.items (keeps globals elements result (layout_of table e0.layout) channel) → Beside e0 e1 → Entered table e1 e2 count outer
        → e3.code.items ≡ e2.code.items → e3.prints.items ≡ e2.prints.items → e3.selects.items ≡ e2.selects.items → layout_of table e3.layout ≡ keeping globals elements channel (layout_of table e0.layout) → Keeps e2.layout.visible e3.layout.visible
        → Emits table e3 e4 flow (made_items globals elements result (layout_of table e0.layout) channel (site_of table e3) target body) → Left e4 e5 count outer → Emits table e0 e5 flow (made globals elements result (site_of table e0) (For (Range target channel) body))
    emits_range channel target body e0 e1 e2 e3 e4 e5 count outer flow c1 b1 i c3 p3 s3 l3 k3 e left =
        let around = layout_of table e0.layout in
        let kept = keeping globals elements channel around in
        let first = made_of (keeps globals elements result around channel) [] around in
        let one = emits_alone table e0 e1 through first refl (keeps_before around channel) c1 (b1.prints ∙ sym (append-nil e0.prints.items)) b1.selects (ap (layout_of table) b1.layout) (beside_keeps e0 e1 b1) in
        let make = λ (site : Site). made_items globals elements result around channel (at kept site) target body in
        let items = emits_declared e2 e3 e4 flow (make (site_of table e2)) c3 p3 s3 k3 (subst (λ site. Emits table e3 e4 flow (made_items globals elements result around channel site target body)) (site_after kept e2 e3 p3 s3 l3) e) in
        let rest = emits_inside table make e1 e2 e4 e5 count outer flow i items left in
        let same : layout_of table e1.layout ≡ around = ap (layout_of table) b1.layout in
        let at_first = site_after around e0 e1 b1.prints b1.selects same in
        emits_both table e0 e1 e5 through flow first (ended around (make (site_of table e0))) refl one (subst (λ site. Emits table e1 e5 flow (ended site.layout (make site))) at_first rest)
