-- What is emitted of a statement.
use Rattle.std.specs.Prelude.{◌≡◌, Bool, [], ◌∷◌, ◌++◌, length}
use Rattle.bytecode.specs.declared.instr.Instr.TheVariants as instrs
use Rattle.plan.specs.Plan.{flat, tables}
use Rattle.syntax.specs.Tree.{Statement, Block, If, For, Select}
use Rattle.type_table.specs.declared.table.TypeTable.{TypeTable}
use Rattle.type_table.specs.Visible.{Keeps}
use Rattle.codegen_base.specs.Generated.{Made, Site}
use Rattle.codegen_header.specs.Layouts.{layout_of}
use Rattle.codegen_flow.specs.Waits.{Makes}
use Rattle.codegen_flow.specs.Controls.{Control, Flows, jumping}
use Rattle.codegen_emission.specs.declared.emitter.Emitter.{Emitter}

-- the site of the next statement
abbrev pub site_of : TypeTable → Emitter → Site
site_of table emitter = record { layout = layout_of table emitter.layout; prints = length emitter.prints.items; selects = length emitter.selects.items }

-- what was made is what is emitted
pub record Emits (table : TypeTable) (old new : Emitter) (flow : Control) (made : Made) : Type 0 where
  pub code : Makes old.code.items new.code.items flow.waits made.plan
  pub flows : Flows flow made.plan
  pub prints : new.prints.items ≡ old.prints.items ++ made.prints
  pub selects : new.selects.items ≡ old.selects.items ++ tables (length old.code.items) made.plan
  pub layout : layout_of table new.layout ≡ made.layout
  pub kept : Keeps old.layout.visible new.layout.visible

-- a jump that waits is emitted
pub record Jumps (leaves : Bool) (old new : Emitter) (flow : Control) : Type 0 where
  pub code : new.code.items ≡ old.code.items ++ instrs.Jump 0 ∷ []
  pub waits : flow ≡ jumping (length old.code.items) leaves
  pub prints : new.prints.items ≡ old.prints.items
  pub selects : new.selects.items ≡ old.selects.items
  pub layout : new.layout ≡ old.layout

-- what was made is emitted, and no jump of it waits
pub record Finishes (table : TypeTable) (old new : Emitter) (made : Made) : Type 0 where
  pub code : new.code.items ≡ old.code.items ++ flat 0 0 (length old.code.items) made.plan
  pub prints : new.prints.items ≡ old.prints.items ++ made.prints
  pub selects : new.selects.items ≡ old.selects.items ++ tables (length old.code.items) made.plan
  pub layout : layout_of table new.layout ≡ made.layout

-- the statement holds no other one
abbrev pub IsSingle : Statement → Type 0
IsSingle (Block body) = ⊥
IsSingle (If branch) = ⊥
IsSingle (For head body) = ⊥
IsSingle (Select clauses) = ⊥
IsSingle statement = Unit {0}
