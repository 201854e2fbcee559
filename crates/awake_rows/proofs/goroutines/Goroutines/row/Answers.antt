use Rattle.std.proofs.Common.{◌≡◌, ◌∙◌, None, Option, Some, ap, subst, sym}
use Rattle.std.specs.Prelude.{IfNone, IfSome}
use Rattle.turn_rule.specs.declared.Row.{Row}
use Rattle.awake_rows.specs.Living.{Items, row_in}
use Rattle.awake_rows.specs.Slots.{State}
use Rattle.awake_rows.proofs.Kept.{row_none, row_some}
use Rattle.awake_rows.proofs.goroutines.Goroutines.row.Goals as goal

pub returns-in_default-clause-none : goal.returns-in_default-clause-none
returns-in_default-clause-none c =
    let g = c.self.inside in
    rw (← c.self.view_is) (row_none g.count g.slots g.items.items g.orders c.self.invariant c.args.number (sym c.slot.ensures ∙ c.in_default.is))

pub returns-clause-none : goal.returns-clause-none
returns-clause-none c =
    let g = c.self.inside in
    let slot = c.in-Some.slot in
    let is = ap (λ (items : Items). row_in items slot) c.deref.ensures.value ∙ sym (row_some g.count g.slots g.items.items g.orders c.self.invariant c.args.number slot (sym c.slot.ensures ∙ c.in-Some.is)) in
    rw (← c.self.view_is) (subst (λ (o : Option (Row State)). IfNone c.row_in.result (o ≡ None)) is c.row_in.ensures.none)

pub returns-clause-some : goal.returns-clause-some
returns-clause-some c =
    let g = c.self.inside in
    let slot = c.in-Some.slot in
    let is = ap (λ (items : Items). row_in items slot) c.deref.ensures.value ∙ sym (row_some g.count g.slots g.items.items g.orders c.self.invariant c.args.number slot (sym c.slot.ensures ∙ c.in-Some.is)) in
    rw (← c.self.view_is) (subst (λ (o : Option (Row State)). IfSome c.row_in.result (λ row. o ≡ Some row.now)) is c.row_in.ensures.some)
