use Rattle.std.proofs.Common.{◌≡◌, ◌≢◌, ◌∙◌, ℕ, Option, true, false, ap}
use Rattle.std.specs.Prelude.{IfSome}
use Rattle.turn_rule.specs.Schedule.{has_turn}
use Rattle.slot_index.specs.Numbers.{number_at}
use Rattle.awake_rows.specs.Slots.{IsBefore, Rows, floor_clock, lent_clock}
use Rattle.awake_rows.specs.Living.{IsClear, IsFirst, IsNotClear, IsOther, Items, keyed, living_in, row_in}
use Rattle.awake_rows.proofs.Floors.{for_none, for_some, turn_clear, waits_free, waits_lent, waits_own, waits_parked}
use Rattle.awake_rows.proofs.Least.{others_lent}
use Rattle.awake_rows.proofs.goroutines.Goroutines.not_above.Goals as goal

pub returns-in-Some-clause-some : goal.returns-in-Some-clause-some
returns-in-Some-clause-some c =
    let g = c.self.inside in
    rw (← c.self.view_is) (waits_free g.count g.slots g.items.items g.orders c.self.invariant c.args.key.now c.others.result c.in-Some.number (c.others.ensures g.slots g.items.items c.self.invariant.ordered) c.in-Some.ensures.some)

pub returns-in-Some-not_above-clause-some : goal.returns-in-Some-not_above-clause-some
returns-in-Some-not_above-clause-some c =
    let g = c.self.inside in
    let late = g.orders.late in
    let clock = c.clock_at.ensures ∙ ap (λ (items : Items). floor_clock (row_in items late)) c.deref.ensures.value in
    let own = c.keyed-own.ensures ∙ ap (λ (o : Option ℕ). keyed o c.clock_at.result) c.number.ensures ∙ ap (λ (o : Option ℕ). keyed (number_at g.slots late) o) clock in
    rw (← c.self.view_is) (waits_own g.count g.slots g.items.items g.orders c.self.invariant c.args.key.now c.keyed-own.result own c.in-Some-not_above.number c.in-Some-not_above.ensures.some)

pub returns-in-Some-not_above-2-clause-some : goal.returns-in-Some-not_above-2-clause-some
returns-in-Some-not_above-2-clause-some c =
    let g = c.self.inside in
    rw (← c.self.view_is) (waits_parked g.count g.slots g.items.items g.orders c.self.invariant c.args.key.now c.others-2.result c.in-Some-not_above-2.number (c.others-2.ensures g.slots g.items.items c.self.invariant.ordered) c.in-Some-not_above-2.ensures.some)

pub returns-clause-none : goal.returns-clause-none
returns-clause-none c =
    let g = c.self.inside in
    let items = g.items.items in
    let late = g.orders.late in
    let all = c.self.invariant.ordered in
    let rows : Rows = (living_in g.count g.slots items).rows in
    let clock = c.clock_at.ensures ∙ ap (λ (items : Items). floor_clock (row_in items late)) c.deref.ensures.value in
    let own = c.keyed-own.ensures ∙ ap (λ (o : Option ℕ). keyed o c.clock_at.result) c.number.ensures ∙ ap (λ (o : Option ℕ). keyed (number_at g.slots late) o) clock in
    let lent : IsFirst (IsOther late lent_clock g.slots items) c.first.result = others_lent g.orders g.slots items all c.first.result c.first.ensures in
    rw (← c.self.view_is) (for_none c.not_above-4.result (IfSome c.first.result (IsClear c.args.key.now)) (has_turn c.args.key.now 0 rows ≡ true) c.not_above-4.ensures.none
    (λ clear. turn_clear g.count g.slots items g.orders c.self.invariant c.args.key.now c.keyed-own.result own c.others-2.result c.others.result c.first.result (c.others-2.ensures g.slots items all) (c.others.ensures g.slots items all) lent
    c.in_default-not_above.ensures.none c.in_default-not_above-2.ensures.none c.in_default.ensures.none clear))

pub returns-clause-some : goal.returns-clause-some
returns-clause-some c =
    let g = c.self.inside in
    let items = g.items.items in
    let key = c.args.key.now in
    let rows : Rows = (living_in g.count g.slots items).rows in
    let lent : IsFirst (IsOther g.orders.late lent_clock g.slots items) c.first.result = others_lent g.orders g.slots items c.self.invariant.ordered c.first.result c.first.ensures in
    rw (← c.self.view_is) (for_some c.not_above-4.result (IsNotClear key c.first.result) (λ n. n ≢ key.number → (has_turn key 0 rows ≡ false) × IsBefore rows key n) c.not_above-4.ensures.some
    (λ n h. waits_lent g.count g.slots items g.orders c.self.invariant key c.first.result n lent h))
