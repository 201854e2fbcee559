use Rattle.std.proofs.Common.{◌≡◌, ◌∙◌, None, Option, Some, ap, subst, sym}
use Rattle.std.specs.Prelude.{IfNone, IfSome, slice_index_or}
use Rattle.awake_rows.specs.Living.{Items, asleep_of}
use Rattle.awake_rows.specs.Slots.{State}
use Rattle.awake_rows.proofs.Kept.{bed_none, bed_some}
use Rattle.awake_rows.proofs.goroutines.Goroutines.bed.Goals as goal

pub returns-in_default-clause-none : goal.returns-in_default-clause-none
returns-in_default-clause-none c =
    let g = c.self.inside in
    rw (← c.self.view_is) (bed_none g.count g.slots g.items.items g.orders c.self.invariant c.args.number (sym c.slot.ensures ∙ c.in_default.is))

pub returns-clause-none : goal.returns-clause-none
returns-clause-none c =
    let g = c.self.inside in
    let slot = c.in-Some.slot in
    let is = ap (λ (items : Items). asleep_of (slice_index_or items slot None)) c.deref.ensures.value ∙ sym (bed_some g.count g.slots g.items.items g.orders c.self.invariant c.args.number slot (sym c.slot.ensures ∙ c.in-Some.is)) in
    rw (← c.self.view_is) (subst (λ (o : Option State). IfNone c.bed_in.result (o ≡ None)) is c.bed_in.ensures.none)

pub returns-clause-some : goal.returns-clause-some
returns-clause-some c =
    let g = c.self.inside in
    let slot = c.in-Some.slot in
    let is = ap (λ (items : Items). asleep_of (slice_index_or items slot None)) c.deref.ensures.value ∙ sym (bed_some g.count g.slots g.items.items g.orders c.self.invariant c.args.number slot (sym c.slot.ensures ∙ c.in-Some.is)) in
    rw (← c.self.view_is) (subst (λ (o : Option State). IfSome c.bed_in.result (λ bed. o ≡ Some bed.now)) is c.bed_in.ensures.some)
