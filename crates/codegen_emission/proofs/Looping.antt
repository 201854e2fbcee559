-- Loops that are emitted.
use Rattle.std.proofs.Common.{◌≡◌, ℕ, ◌+◌, Bool, true, false, cond, ◌&&◌, ◌||◌, List, [], ◌∷◌, ◌++◌, length, take, Option, None, refl, sym, ap, ◌∙◌, subst, arith, append_assoc, length-append}
use Rattle.std.specs.Prelude.{slice_set}
use Rattle.std.proofs.lemmas.List.{append-nil, take-append-le}
use Rattle.std.proofs.Math.Seq.{take-length}
use Rattle.syntax.specs.Tree.{Expression, Statements}
use Rattle.bytecode.specs.declared.instr.Instr.{Instr}
use Rattle.bytecode.specs.declared.instr.Instr.TheVariants as instrs
use Rattle.bytecode.specs.Code.{PrintTable, SelectTable}
use Rattle.plan.specs.Plan.{Plan, Skip, Cycle, Endless, reaches_end, has_break, has_continue, tables, turns, flat, size}
use Rattle.plan.proofs.Appends.{round}
use Rattle.type_table.specs.declared.table.TypeTable.{TypeTable}
use Rattle.type_table.specs.Visible.{Keeps}
use Rattle.type_table.specs.Scopes.{Globals, Yield}
use Rattle.codegen_base.specs.declared.element.Element.{Element}
use Rattle.codegen_base.specs.Generated.{Made, Site, ended, inside, made_all, made_of, made_while}
use Rattle.codegen_base.proofs.Before.{Before}
use Rattle.codegen_header.specs.Layouts.{layout_of}
use Rattle.codegen_header.specs.Simples.{Appends}
use Rattle.codegen_emission.specs.declared.emitter.Emitter.{Emitter}
use Rattle.codegen_flow.specs.Waits.{filled}
use Rattle.codegen_flow.specs.Controls.{Control, leading, through}
use Rattle.codegen_emission.specs.Emitted.{Emits}
use Rattle.codegen_emission.specs.Turns.{Rounds, made_turns}
use Rattle.codegen_flow.proofs.Filled.{makes_length}
use Rattle.codegen_emission.proofs.Chosen.{makes_cycle, makes_endless}
use Rattle.codegen_emission.proofs.Emitting.{keeps_both}
use Rattle.codegen_emission.proofs.Following.{alone_tables, before_break, before_continue}
use Rattle.codegen_emission.proofs.Branching.{Beside, beside_keeps}

and_false : (b : Bool) → (b && false) ≡ false
and_false true = refl
and_false false = refl

no_tables : (b : Bool) (xs : List SelectTable) → xs ≡ [] → cond b xs [] ≡ []
no_tables true xs none = none
no_tables false xs none = refl

-- ---- between the turns

-- the way back, or nothing that follows the body
come_back : (b : Bool) (i0 i1 i2 xs : List Instr) (head : ℕ) → i1 ≡ i0 ++ xs → i2 ≡ cond b (i1 ++ instrs.Loop head ∷ []) (take (length i0) i1) → i2 ≡ i0 ++ cond b (xs ++ instrs.Loop head ∷ []) []
come_back true i0 i1 i2 xs head e1 e2 = e2 ∙ ap (λ (l : List Instr). l ++ instrs.Loop head ∷ []) e1 ∙ append_assoc i0 xs (instrs.Loop head ∷ [])
come_back false i0 i1 i2 xs head e1 e2 = e2 ∙ ap (take (length i0)) e1 ∙ take-append-le (length i0) i0 xs (omega arith) ∙ take-length i0 ∙ sym (append-nil i0)

module _ (table : TypeTable) where
  pub rounds : (b : Bool) (head : ℕ) (e0 e1 e2 : Emitter) (flow : Control) (post : Made) → flow ≡ through → Before Skip post.plan → Emits table e0 e1 flow post → e2.code.items ≡ cond b (e1.code.items ++ instrs.Loop head ∷ []) (take (length e0.code.items) e1.code.items) → Beside e1 e2
      → Rounds table b head e0 e2 post
  rounds b head e0 e1 e2 flow post is before emitted c2 b2 =
      let e = subst (λ f. Emits table e0 e1 f post) is emitted in
      record {
        code = λ leave again. come_back b e0.code.items e1.code.items e2.code.items (flat leave again (length e0.code.items) post.plan) head (e.code.is leave again) c2;
        prints = b2.prints ∙ e.prints;
        selects = b2.selects ∙ e.selects ∙ ap (λ (l : List SelectTable). e0.selects.items ++ l) (alone_tables post.plan (length e0.code.items) before) ∙ append-nil e0.selects.items;
        layout = ap (layout_of table) b2.layout ∙ e.layout;
        kept = keeps_both table e0 e1 e2 e.kept (beside_keeps e1 e2 b2);
      }

  -- the body turns back to the head if its plan does
  turned : (b : Bool) (head : ℕ) (e0 e1 e2 : Emitter) (flow : Control) (body post : Made) → Emits table e0 e1 flow body → b ≡ (flow.ends || flow.continues) → (place : ℕ) → head ≡ place → Rounds table b head e1 e2 post
      → (leave again : ℕ) → e2.code.items ≡ e1.code.items ++ round leave again place (length e1.code.items) body.plan post.plan
  turned b head e0 e1 e2 flow body post e is place eh r leave again =
      let following = flat leave again (length e1.code.items) post.plan in
      let comes : b ≡ turns body.plan = is ∙ ap (λ b. b || flow.continues) e.flows.ends ∙ ap (λ b. reaches_end body.plan || b) e.flows.continues in
      r.code leave again ∙ ap (λ h. e1.code.items ++ cond b (following ++ instrs.Loop h ∷ []) []) eh ∙ ap (λ b. e1.code.items ++ cond b (following ++ instrs.Loop place ∷ []) []) comes

  -- ---- loops

  -- a loop without a test
  pub emits_endless : (b : Bool) (e0 e1 e2 e3 : Emitter) (flow g : Control) (body post : Made) (head again stop : ℕ) → Before Skip post.plan → Emits table e0 e1 flow body → b ≡ (flow.ends || flow.continues) → head ≡ length e0.code.items → again ≡ length e1.code.items → Rounds table b head e1 e2 post
      → stop ≡ length e2.code.items → e3.code.items ≡ filled flow.waits stop again e2.code.items → Beside e2 e3 → g ≡ leading flow.breaks → Emits table e0 e3 g (made_of (Endless body.plan post.plan) (body.prints ++ post.prints) post.layout)
  emits_endless b e0 e1 e2 e3 flow g body post head again stop before e comes eh ea r es c3 b3 is =
      let t1 = tables (length e0.code.items) body.plan in
      subst (λ f. Emits table e0 e3 f (made_of (Endless body.plan post.plan) (body.prints ++ post.prints) post.layout)) (sym is) (record {
        code = makes_endless e0.code.items e1.code.items e2.code.items e3.code.items flow.waits body.plan post.plan stop e.code (turned b head e0 e1 e2 flow body post e comes (length e0.code.items) eh r) es (c3 ∙ ap (λ a. filled flow.waits stop a e2.code.items) ea);
        flows = record {
          ends = e.flows.breaks;
          breaks = sym (ap (λ x. turns body.plan && x) (before_break Skip post.plan before) ∙ and_false (turns body.plan));
          continues = sym (ap (λ x. turns body.plan && x) (before_continue Skip post.plan before) ∙ and_false (turns body.plan));
        };
        prints = b3.prints ∙ r.prints ∙ ap (λ (l : List PrintTable). l ++ post.prints) e.prints ∙ append_assoc e0.prints.items body.prints post.prints;
        selects = b3.selects ∙ r.selects ∙ e.selects ∙ ap (λ (l : List SelectTable). e0.selects.items ++ l) (sym (append-nil t1))
            ∙ ap (λ (l : List SelectTable). e0.selects.items ++ (t1 ++ l)) (sym (no_tables (turns body.plan) (tables (length e0.code.items + size body.plan) post.plan) (alone_tables post.plan (length e0.code.items + size body.plan) before)));
        layout = ap (layout_of table) b3.layout ∙ r.layout;
        kept = keeps_both table e0 e1 e3 e.kept (keeps_both table e1 e2 e3 r.kept (beside_keeps e2 e3 b3));
      })

  -- what is emitted of a loop with a test, part by part: its test, its jump, the body, what is done between its turns, and what
  -- is done if the test fails
  pub record Tested (e0 e1 e2 e3 e4 e5 : Emitter) (flow : Control) (test exit : Plan) (body post : Made) (turns : Bool) (head again exit_at stop : ℕ) : Type 0 where
    pub alone : Before Skip test
    pub following : Before Skip post.plan
    pub failed : Before Skip exit
    pub tests : Appends e0.code.items e1.code.items test
    pub jumps : e2.code.items ≡ e1.code.items ++ instrs.Unless 0 ∷ []
    pub prints : e2.prints.items ≡ e0.prints.items
    pub selects : e2.selects.items ≡ e0.selects.items
    pub kept : Keeps e0.layout.visible e2.layout.visible
    pub within : Emits table e2 e3 flow body
    pub comes : turns ≡ (flow.ends || flow.continues)
    pub head_is : head ≡ length e0.code.items
    pub again_is : again ≡ length e3.code.items
    pub rounds : Rounds table turns head e3 e4 post
    pub exits : Appends e4.code.items e5.code.items exit
    pub beside : Beside e4 e5
    pub exit_is : exit_at ≡ length e4.code.items
    pub stop_is : stop ≡ length e5.code.items

  pub emits_cycle : (e0 e1 e2 e3 e4 e5 e6 : Emitter) (flow g : Control) (test exit : Plan) (body post : Made) (b : Bool) (head again exit_at stop : ℕ) → Tested e0 e1 e2 e3 e4 e5 flow test exit body post b head again exit_at stop
      → e6.code.items ≡ filled flow.waits stop again (slice_set e5.code.items (length e1.code.items) (instrs.Unless exit_at)) → Beside e5 e6 → g ≡ through → Emits table e0 e6 g (made_of (Cycle test body.plan post.plan exit) (body.prints ++ post.prints) post.layout)
  emits_cycle e0 e1 e2 e3 e4 e5 e6 flow g test exit body post b head again exit_at stop t c6 b6 is =
      let e = t.within in
      let i6 = slice_set e5.code.items (length e1.code.items) (instrs.Unless exit_at) in
      let place = length e0.code.items in
      let n1 = makes_length e0.code.items e1.code.items [] test (record { within = tt; is = t.tests }) in
      let n2 = ap length t.jumps ∙ length-append e1.code.items (instrs.Unless 0 ∷ []) in
      let body_at : length e2.code.items ≡ place + size test + 1 = omega (arith, n1, n2) in
      let post_at = place + size test + 1 + size body.plan in
      let ended_at = post_at + cond (turns body.plan) (size post.plan + 1) 0 in
      let t1 = tables (length e2.code.items) body.plan in
      let t2 = cond (turns body.plan) (tables post_at post.plan) [] ++ tables ended_at exit in
      let none : t2 ≡ [] = ap (λ (l : List SelectTable). l ++ tables ended_at exit) (no_tables (turns body.plan) (tables post_at post.plan) (alone_tables post.plan post_at t.following)) ∙ alone_tables exit ended_at t.failed in
      subst (λ f. Emits table e0 e6 f (made_of (Cycle test body.plan post.plan exit) (body.prints ++ post.prints) post.layout)) (sym is) (record {
        code = makes_cycle e0.code.items e1.code.items e2.code.items e3.code.items e4.code.items e5.code.items i6 e6.code.items flow.waits test body.plan post.plan exit exit_at stop (record { within = tt; is = t.tests }) t.jumps e.code
            (turned b head e2 e3 e4 flow body post e t.comes place t.head_is t.rounds) (record { within = tt; is = t.exits }) t.exit_is t.stop_is refl (c6 ∙ ap (λ a. filled flow.waits stop a i6) t.again_is);
        flows = record {
          ends = refl;
          breaks = sym (ap (λ x. x || (turns body.plan && has_break post.plan || has_break exit)) (before_break Skip test t.alone) ∙ ap (λ x. turns body.plan && x || has_break exit) (before_break Skip post.plan t.following) ∙ ap (λ x. x || has_break exit) (and_false (turns body.plan)) ∙ before_break Skip exit t.failed);
          continues = sym (ap (λ x. x || (turns body.plan && has_continue post.plan || has_continue exit)) (before_continue Skip test t.alone) ∙ ap (λ x. turns body.plan && x || has_continue exit) (before_continue Skip post.plan t.following) ∙ ap (λ x. x || has_continue exit) (and_false (turns body.plan)) ∙ before_continue Skip exit t.failed);
        };
        prints = b6.prints ∙ t.beside.prints ∙ t.rounds.prints ∙ ap (λ (l : List PrintTable). l ++ post.prints) (e.prints ∙ ap (λ (l : List PrintTable). l ++ body.prints) t.prints) ∙ append_assoc e0.prints.items body.prints post.prints;
        selects = b6.selects ∙ t.beside.selects ∙ t.rounds.selects ∙ e.selects ∙ ap (λ (l : List SelectTable). l ++ t1) t.selects ∙ ap (λ (l : List SelectTable). e0.selects.items ++ l) (sym (append-nil t1)) ∙ ap (λ (l : List SelectTable). e0.selects.items ++ (t1 ++ l)) (sym none)
            ∙ ap (λ x. e0.selects.items ++ (tables x body.plan ++ t2)) body_at ∙ ap (λ (l : List SelectTable). e0.selects.items ++ (l ++ (tables (place + size test + 1) body.plan ++ t2))) (sym (alone_tables test place t.alone));
        layout = ap (layout_of table) (b6.layout ∙ t.beside.layout) ∙ t.rounds.layout;
        kept = keeps_both table e0 e2 e6 t.kept (keeps_both table e2 e3 e6 e.kept (keeps_both table e3 e4 e6 t.rounds.kept (keeps_both table e4 e5 e6 (beside_keeps e4 e5 t.beside) (beside_keeps e5 e6 b6))));
      })

  module _ (globals : Globals) (elements : List Element) (result : Yield) where
    -- nothing is done after each turn
    pub emits_turns : (e0 e1 : Emitter) (flow : Control) (site : Site) (condition : Option Expression) (body : Statements) → Emits table e0 e1 flow (made_turns globals elements result site condition body None)
        → Emits table e0 e1 flow (made_while globals elements result site condition (ended site.layout (made_all globals elements result (inside site) body)))
    emits_turns e0 e1 flow site condition body e =
        let within = ended site.layout (made_all globals elements result (inside site) body) in
        let whole = made_turns globals elements result site condition body None in
        record { code = e.code; flows = e.flows; prints = e.prints ∙ ap (λ (l : List PrintTable). e0.prints.items ++ l) (append-nil within.prints); selects = e.selects; layout = e.layout; kept = e.kept }
