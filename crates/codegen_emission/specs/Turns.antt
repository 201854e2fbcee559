-- Loops, and what is done between their turns.
use Rattle.std.specs.Prelude.{◌≡◌, ℕ, Bool, cond, List, [], ◌∷◌, ◌++◌, length, Option}
use Rattle.syntax.specs.Tree.{Expression, Simple, Statements}
use Rattle.bytecode.specs.declared.instr.Instr.TheVariants as instrs
use Rattle.plan.specs.Plan.{flat}
use Rattle.type_table.specs.declared.table.TypeTable.{TypeTable}
use Rattle.type_table.specs.Scopes.{Globals, Yield}
use Rattle.type_table.specs.Visible.{Keeps}
use Rattle.codegen_base.specs.declared.element.Element.{Element}
use Rattle.codegen_base.specs.Generated.{Made, Site, ended, inside, loop, made_all, made_of, made_post, past, test_plan}
use Rattle.codegen_header.specs.Layouts.{layout_of}
use Rattle.codegen_emission.specs.declared.emitter.Emitter.{Emitter}

-- what is done after each turn, and the way back to the loop's head; nothing if the body never comes round again
pub record Rounds (table : TypeTable) (turns : Bool) (head : ℕ) (old new : Emitter) (post : Made) : Type 0 where
  pub code : (leave again : ℕ) → new.code.items ≡ old.code.items ++ cond turns (flat leave again (length old.code.items) post.plan ++ instrs.Loop head ∷ []) []
  pub prints : new.prints.items ≡ old.prints.items ++ post.prints
  pub selects : new.selects.items ≡ old.selects.items
  pub layout : layout_of table new.layout ≡ post.layout
  pub kept : Keeps old.layout.visible new.layout.visible

module _ (globals : Globals) (elements : List Element) (result : Yield) where
  -- the turns of a loop, after what is done first
  abbrev pub made_turns : Site → Option Expression → Statements → Option Simple → Made
  made_turns site condition body post =
      let within = ended site.layout (made_all globals elements result (inside site) body) in
      let turn = made_post globals elements site.layout (past site within) post in
      made_of (loop (test_plan globals elements site.layout condition) within.plan turn.plan) (within.prints ++ turn.prints) turn.layout
