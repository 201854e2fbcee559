-- The turns of loops.
use Rattle.std.proofs.Common.{◌≡◌, ℕ, Bool, ◌||◌, List, [], ◌∷◌, ◌++◌, length, Option, Some, None, refl, sym, ap, ◌∙◌, subst}
use Rattle.std.specs.Prelude.{slice_set}
use Rattle.std.proofs.lemmas.List.{append-nil}
use Rattle.syntax.specs.Tree.{Expression, Simple, Statements}
use Rattle.bytecode.specs.declared.instr.Instr.TheVariants as instrs
use Rattle.plan.specs.Plan.{Cycle, Skip}
use Rattle.type_table.specs.declared.table.TypeTable.{TypeTable}
use Rattle.type_table.specs.Types.{BoolType}
use Rattle.type_table.specs.Scopes.{Globals, Yield}
use Rattle.codegen_base.specs.declared.element.Element.{Element}
use Rattle.codegen_base.specs.Layouts.{Layout, entering, leaving}
use Rattle.codegen_base.specs.Generated.{Site, inside, made_all, made_of, made_post, past, tests}
use Rattle.codegen_base.proofs.Before.{Before, Here, pushes_before}
use Rattle.codegen_base.proofs.Plain.{simple_before}
use Rattle.codegen_expression.specs.Emission.{Puts}
use Rattle.codegen_expression.proofs.Emitting.{puts_alone}
use Rattle.codegen_header.specs.Layouts.{layout_of}
use Rattle.codegen_emission.specs.declared.emitter.Emitter.{Emitter}
use Rattle.codegen_flow.specs.Waits.{filled}
use Rattle.codegen_flow.specs.Controls.{Control, leading, through}
use Rattle.codegen_emission.specs.Emitted.{Emits, site_of}
use Rattle.codegen_emission.specs.Branches.{made_within}
use Rattle.codegen_emission.specs.Turns.{Rounds, made_turns}
use Rattle.codegen_emission.proofs.Emitting.{keeps_both, site_past}
use Rattle.codegen_emission.proofs.Branching.{Beside, beside_keeps, same_site}
use Rattle.codegen_emission.proofs.Looping.{emits_cycle, emits_endless}

module _ (globals : Globals) (elements : List Element) where
  pub post_before : (header : Layout) (site : Site) (post : Option Simple) → Before Skip (made_post globals elements header site post).plan
  post_before header site None = Here Skip
  post_before header site (Some simple) = simple_before globals elements (entering site.layout) site.prints simple

  -- after a block it is done in the block around it
  post_after : (header inner : Layout) (site : Site) (post : Option Simple) → made_post globals elements (leaving header inner) site post ≡ made_post globals elements header site post
  post_after header inner site None = refl
  post_after header inner site (Some simple) = refl

module _ (table : TypeTable) (globals : Globals) (elements : List Element) (result : Yield) where
  -- what is done after each turn follows the body
  after_body : (body : Statements) (post : Option Simple) (e0 e1 : Emitter) (flow : Control) → Emits table e0 e1 flow (made_within globals elements result (site_of table e0) body)
      → made_post globals elements (layout_of table e1.layout) (site_of table e1) post ≡ made_post globals elements (layout_of table e0.layout) (past (site_of table e0) (made_within globals elements result (site_of table e0) body)) post
  after_body body post e0 e1 flow e =
      let site = site_of table e0 in
      let within = made_within globals elements result site body in
      ap (λ l. made_post globals elements l (site_of table e1) post) e.layout ∙ ap (λ s. made_post globals elements within.layout s post) (site_past table e0 e1 flow within e)
      ∙ post_after globals elements site.layout (made_all globals elements result (inside site) body).layout (past site within) post

  pub emits_untested : (body : Statements) (post : Option Simple) (b : Bool) (e0 e1 e2 e3 : Emitter) (flow g : Control) (head again stop : ℕ) → Emits table e0 e1 flow (made_within globals elements result (site_of table e0) body) → b ≡ (flow.ends || flow.continues) → head ≡ length e0.code.items → again ≡ length e1.code.items
      → Rounds table b head e1 e2 (made_post globals elements (layout_of table e1.layout) (site_of table e1) post) → stop ≡ length e2.code.items → e3.code.items ≡ filled flow.waits stop again e2.code.items → Beside e2 e3 → g ≡ leading flow.breaks
      → Emits table e0 e3 g (made_turns globals elements result (site_of table e0) None body post)
  emits_untested body post b e0 e1 e2 e3 flow g head again stop e comes eh ea r es c3 b3 is =
      let site = site_of table e0 in
      let within = made_within globals elements result site body in
      let turn = made_post globals elements site.layout (past site within) post in
      emits_endless table b e0 e1 e2 e3 flow g within turn head again stop (post_before globals elements site.layout (past site within) post) e comes eh ea (subst (λ m. Rounds table b head e1 e2 m) (after_body body post e0 e1 flow e) r) es c3 b3 is

  pub emits_tested : (condition : Expression) (body : Statements) (post : Option Simple) (b : Bool) (e0 e1 e2 e3 e4 e5 : Emitter) (flow g : Control) (head again stop : ℕ) → Puts e0.code.items e1.code.items (tests globals elements (layout_of table e0.layout) condition) → Beside e0 e1
      → e2.code.items ≡ e1.code.items ++ instrs.Unless 0 ∷ [] → Beside e1 e2 → Emits table e2 e3 flow (made_within globals elements result (site_of table e2) body) → b ≡ (flow.ends || flow.continues) → head ≡ length e0.code.items → again ≡ length e3.code.items
      → Rounds table b head e3 e4 (made_post globals elements (layout_of table e3.layout) (site_of table e3) post) → stop ≡ length e4.code.items → e5.code.items ≡ filled flow.waits stop again (slice_set e4.code.items (length e1.code.items) (instrs.Unless stop)) → Beside e4 e5 → g ≡ through
      → Emits table e0 e5 g (made_turns globals elements result (site_of table e0) (Some condition) body post)
  emits_tested condition body post b e0 e1 e2 e3 e4 e5 flow g head again stop puts b1 c2 b2 e comes eh ea r es c5 b5 is =
      let site = site_of table e2 in
      let test = tests globals elements (layout_of table e0.layout) condition in
      let within = made_within globals elements result site body in
      let turn = made_post globals elements site.layout (past site within) post in
      let same : site ≡ site_of table e0 = same_site table e1 e2 b2 ∙ same_site table e0 e1 b1 in
      let whole = emits_cycle table e0 e1 e2 e3 e4 e4 e5 flow g (test Skip) Skip within turn b head again stop stop (record {
        alone = pushes_before globals elements (layout_of table e0.layout).scope BoolType condition Skip;
        following = post_before globals elements site.layout (past site within) post;
        failed = Here Skip;
        tests = λ leave next. puts_alone e0.code.items e1.code.items test puts leave next;
        jumps = c2;
        prints = b2.prints ∙ b1.prints;
        selects = b2.selects ∙ b1.selects;
        kept = keeps_both table e0 e1 e2 (beside_keeps e0 e1 b1) (beside_keeps e1 e2 b2);
        within = e;
        comes = comes;
        head_is = eh;
        again_is = ea;
        rounds = subst (λ m. Rounds table b head e3 e4 m) (after_body body post e2 e3 flow e) r;
        exits = λ leave next. sym (append-nil e4.code.items);
        beside = record { prints = refl; selects = refl; layout = refl };
        exit_is = es;
        stop_is = es;
      }) c5 b5 is in
      subst (λ s. Emits table e0 e5 g (made_of (Cycle (tests globals elements (layout_of table e0.layout) condition Skip) (made_within globals elements result s body).plan (made_post globals elements s.layout (past s (made_within globals elements result s body)) post).plan Skip)
      ((made_within globals elements result s body).prints ++ (made_post globals elements s.layout (past s (made_within globals elements result s body)) post).prints) (made_post globals elements s.layout (past s (made_within globals elements result s body)) post).layout)) same whole
