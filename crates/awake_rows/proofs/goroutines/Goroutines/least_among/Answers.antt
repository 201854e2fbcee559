use Rattle.std.proofs.Common.{◌∙◌, ℕ, Option, ap}
use Rattle.slot_index.specs.Numbers.{number_at}
use Rattle.awake_rows.specs.Living.{Items, keyed, row_in}
use Rattle.awake_rows.specs.Slots.{clock_among}
use Rattle.awake_rows.proofs.Least.{among_found}
use Rattle.awake_rows.proofs.goroutines.Goroutines.least_among.Goals as goal

pub returns : goal.returns
returns c =
    let g = c.self.inside in
    let late = g.orders.late in
    let clock = c.clock_at.ensures ∙ ap (λ (items : Items). clock_among c.args.among (row_in items late)) c.deref.ensures.value in
    let own = c.keyed-own.ensures ∙ ap (λ (o : Option ℕ). keyed o c.clock_at.result) c.number.ensures ∙ ap (λ (o : Option ℕ). keyed (number_at g.slots late) o) clock in
    rw (← c.self.view_is) (among_found c.args.among g.count g.slots g.items.items g.orders c.keyed-own.result c.others.result c.soonest.result c.self.invariant own c.others.ensures c.soonest.ensures)
