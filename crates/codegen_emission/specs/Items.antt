-- Loops over what is received from a channel.
use Rattle.std.specs.Prelude.{List}
use Rattle.syntax.specs.Tree.{Expression, Statements, Target}
use Rattle.type_table.specs.Types.{ValueType}
use Rattle.type_table.specs.Scopes.{Globals, Yield}
use Rattle.plan.specs.Plan.{Cycle, Seq, Skip}
use Rattle.codegen_base.specs.declared.element.Element.{Element}
use Rattle.codegen_base.specs.Layouts.{Layout, following_target, carried, entering}
use Rattle.codegen_base.specs.Pushes.{drops}
use Rattle.codegen_base.specs.Statements.{width}
use Rattle.codegen_base.specs.Generated.{Made, Site, at, ended, made_of, receives, takes}
use Rattle.codegen_emission.specs.Branches.{made_within}

module _ (globals : Globals) (elements : List Element) (result : Yield) where
  -- an item goes to its target, in a block of its own, and the body is done
  abbrev pub made_item : Site → ValueType → Target → Statements → Made
  made_item site kind target body =
      let layout = entering site.layout in
      let within = made_within globals elements result (at (following_target globals elements kind target layout) site) body in
      ended site.layout (made_of (Seq (takes globals elements result layout kind target) within.plan) within.prints within.layout)

  -- the items of a channel, which is kept in the first local after the layout around the loop
  abbrev pub made_items : Layout → Expression → Site → Target → Statements → Made
  made_items outer channel site target body =
      let kind = carried globals elements outer.scope channel in
      let item = made_item site kind target body in
      made_of (Cycle (receives globals elements result outer channel) item.plan Skip (drops (width globals elements outer.scope kind) Skip)) item.prints item.layout
