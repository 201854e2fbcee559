-- Blocks in which something is done first.
use Rattle.std.proofs.Common.{◌≡◌, ℕ, List, length, take, refl, subst}
use Rattle.syntax.specs.Tree.{Simple}
use Rattle.std.specs.Prelude.{Option}
use Rattle.type_table.specs.declared.table.TypeTable.{TypeTable}
use Rattle.type_table.specs.Scopes.{Globals}
use Rattle.codegen_base.specs.declared.element.Element.{Element}
use Rattle.codegen_base.specs.Layouts.{entering}
use Rattle.codegen_base.specs.Generated.{Made, Site, ended, followed, inside, made_any, past}
use Rattle.codegen_header.specs.Layouts.{layout_of}
use Rattle.codegen_emission.specs.declared.emitter.Emitter.{Emitter}
use Rattle.codegen_flow.specs.Controls.{Control, through}
use Rattle.codegen_emission.specs.Emitted.{Emits, site_of}
use Rattle.codegen_emission.proofs.Emitting.{emits_both, site_past}
use Rattle.codegen_emission.proofs.Listing.{emits_within}

-- a block begins, outside of which `count` variables are visible
pub record Entered (table : TypeTable) (old new : Emitter) (count outer : ℕ) : Type 0 where
  pub code : new.code.items ≡ old.code.items
  pub prints : new.prints.items ≡ old.prints.items
  pub selects : new.selects.items ≡ old.selects.items
  pub layout : layout_of table new.layout ≡ entering (layout_of table old.layout)
  pub entries : new.layout.visible.entries.items ≡ old.layout.visible.entries.items
  pub count_is : count ≡ length old.layout.visible.entries.items
  pub outer_is : outer ≡ old.layout.visible.outer

-- it has ended
pub record Left (old new : Emitter) (count outer : ℕ) : Type 0 where
  pub code : new.code.items ≡ old.code.items
  pub prints : new.prints.items ≡ old.prints.items
  pub selects : new.selects.items ≡ old.selects.items
  pub entries : new.layout.visible.entries.items ≡ take count old.layout.visible.entries.items
  pub outer_is : new.layout.visible.outer ≡ outer
  pub words : new.layout.visible.words ≡ old.layout.visible.words
  pub locals : new.layout.locals.items ≡ old.layout.locals.items

module _ (table : TypeTable) where
  pub emits_inside : (make : Site → Made) (e0 e1 e2 e3 : Emitter) (count outer : ℕ) (flow : Control) → Entered table e0 e1 count outer → Emits table e1 e2 flow (make (site_of table e1)) → Left e2 e3 count outer → Emits table e0 e3 flow (ended (layout_of table e0.layout) (make (inside (site_of table e0))))
  emits_inside make e0 e1 e2 e3 count outer flow i e l =
      emits_within table make e0 e1 e2 e3 count outer flow i.code i.prints i.selects i.layout i.entries i.count_is i.outer_is e l.code l.prints l.selects l.entries l.outer_is l.words l.locals

  -- one after the other
  pub emits_then : (first make : Site → Made) (e0 e1 e2 : Emitter) (flow : Control) → Emits table e0 e1 through (first (site_of table e0)) → Emits table e1 e2 flow (make (site_of table e1))
      → Emits table e0 e2 flow (followed (first (site_of table e0)) (make (past (site_of table e0) (first (site_of table e0)))))
  emits_then first make e0 e1 e2 flow a b =
      let m = first (site_of table e0) in
      subst (λ site. Emits table e0 e2 flow (followed m (make site))) (site_past table e0 e1 through m a) (emits_both table e0 e1 e2 through flow m (make (site_of table e1)) refl a b)

  -- a block in which a simple statement is done first
  pub emits_headed : (globals : Globals) (elements : List Element) (first : Option Simple) (make : Site → Made) (e0 e1 e2 e3 e4 : Emitter) (count outer : ℕ) (flow : Control) → Entered table e0 e1 count outer → Emits table e1 e2 through (made_any globals elements (site_of table e1) first)
      → Emits table e2 e3 flow (make (site_of table e2)) → Left e3 e4 count outer
      → Emits table e0 e4 flow (ended (layout_of table e0.layout) (followed (made_any globals elements (inside (site_of table e0)) first) (make (past (inside (site_of table e0)) (made_any globals elements (inside (site_of table e0)) first)))))
  emits_headed globals elements first make e0 e1 e2 e3 e4 count outer flow i a b l =
      let head = λ (site : Site). made_any globals elements site first in
      emits_inside (λ site. followed (head site) (make (past site (head site)))) e0 e1 e3 e4 count outer flow i (emits_then head make e1 e2 e3 flow a b) l
