-- The ways of a select.
use Rattle.std.specs.Prelude.{◌≡◌, ℕ, cond, List, [], ◌∷◌, ◌++◌, length, Option, Some, None, option_map}
use Rattle.std.specs.Option.{is_some}
use Rattle.syntax.specs.Tree.{Clauses, Comm, Statements}
use Rattle.bytecode.specs.declared.instr.Instr.{Instr}
use Rattle.plan.specs.Plan.{starts, tables}
use Rattle.type_table.specs.Visible.{Keeps}
use Rattle.type_table.specs.declared.table.TypeTable.{TypeTable}
use Rattle.type_table.specs.Scopes.{Globals, Yield}
use Rattle.codegen_base.specs.declared.element.Element.{Element}
use Rattle.codegen_base.specs.Generated.{Made, Site, ended, followed, inside, made_all, made_comm, made_default, made_ways, nothing, past}
use Rattle.codegen_emission.specs.declared.emitter.Emitter.{Emitter}
use Rattle.codegen_flow.specs.declared.select.WayList.{WayList}
use Rattle.codegen_flow.specs.Closed.{closed}
use Rattle.codegen_header.specs.Layouts.{layout_of}
use Rattle.codegen_flow.specs.Waits.{Makes}
use Rattle.codegen_flow.specs.Controls.{Control, Flows, control}
use Rattle.codegen_flow.specs.Selects.{any_control, together}
use Rattle.codegen_emission.specs.Emitted.{site_of}

-- if there are no ways nothing is made
abbrev pub or_nothing : Site → Option Made → Made
or_nothing site None = nothing site
or_nothing site (Some made) = made

-- the pcs in `noted`, and then the pc at which the default's way begins, if there is one
abbrev pub default_start : List ℕ → Emitter → Option Control → List ℕ
default_start noted old flow = noted ++ cond (is_some flow) (length old.code.items ∷ []) []

-- what was made is what is emitted, if `code` are the instructions then
pub record EmitsAs (table : TypeTable) (old : Emitter) (code : List Instr) (new : Emitter) (flow : Control) (made : Made) : Type 0 where
  pub code_is : Makes old.code.items code flow.waits made.plan
  pub flows : Flows flow made.plan
  pub prints : new.prints.items ≡ old.prints.items ++ made.prints
  pub selects : new.selects.items ≡ old.selects.items ++ tables (length old.code.items) made.plan
  pub layout : layout_of table new.layout ≡ made.layout
  pub kept : Keeps old.layout.visible new.layout.visible

-- ways are emitted, if there are any, and the pcs at which they begin are noted
pub record Ways (table : TypeTable) (old : Emitter) (code : List Instr) (new : Emitter) (noted places : List ℕ) (flow : Option Control) (made : Option Made) : Type 0 where
  pub emits : EmitsAs table old code new (any_control flow) (or_nothing (site_of table old) made)
  pub begin : places ≡ noted ++ starts (length old.code.items) (or_nothing (site_of table old) made).plan
  pub there : is_some flow ≡ is_some made

module _ (globals : Globals) (elements : List Element) (result : Yield) where
  -- a way is a block, in which a clause's names are
  abbrev pub made_way : Site → Comm → Statements → Made
  made_way site comm body =
      let first = made_comm globals elements result (inside site) comm in
      ended site.layout (followed first (made_all globals elements result (past (inside site) first) body))

  -- the ways that are left, of a select with these clauses
  abbrev pub ways_left : Clauses → Site → Clauses → Option Made
  ways_left whole site left = made_ways globals elements result site (λ following. made_default globals elements result following whole) left

  -- what is emitted of ways: with the ways that are left after it, and their jumps closed, it is all of them
  pub record Reaches (table : TypeTable) (whole : Clauses) (old now : Emitter) (list : WayList) (left all : Clauses) : Type 0 where
    pub is : (code last : List Instr) (end : Emitter) (others : Option Control) (places : List ℕ) → Ways table now code end list.places.items places others (ways_left whole (site_of table now) left)
        → last ≡ closed list.held.items (is_some others) code → Ways table old last end [] places (together (option_map control list.flow) others) (ways_left whole (site_of table old) all)
