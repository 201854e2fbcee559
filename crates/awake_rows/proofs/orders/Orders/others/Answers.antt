use Rattle.std.proofs.Common.{◌≡◌, ◌∙◌, Option, ap, sym, subst}
use Rattle.logical_clock.specs.declared.key.Key.{Key}
use Rattle.slot_index.specs.Numbers.{Numbered}
use Rattle.awake_rows.specs.Slots.{clock_among, floor_clock}
use Rattle.awake_rows.specs.Living.{AreOrders, IsFirst, IsOther, Items, soonest}
use Rattle.awake_rows.specs.declared.orders.Orders.{Orders}
use Rattle.awake_rows.specs.declared.turns.Among.{Among}
use Rattle.awake_rows.proofs.Least.{others_awake, others_free, others_parked}
use Rattle.awake_rows.proofs.orders.Orders.others.Goals as goal

pub returns-in-Awake : goal.returns-in-Awake
returns-in-Awake c = λ (slots : Numbered) (items : Items) (all : AreOrders c.args.self.now slots items).
    let orders : Orders = c.args.self.now in
    let parked = c.first-in-Awake in
    let free = c.first-in-Awake-2 in
    let lent = c.first-in-Awake-3 in
    let first : IsFirst (IsOther orders.late floor_clock slots items) (soonest (soonest parked.result free.result) lent.result) = others_awake orders slots items all parked.result free.result lent.result parked.ensures free.ensures lent.ensures in
    let is : c.soonest.result ≡ soonest (soonest parked.result free.result) lent.result = c.soonest.ensures ∙ ap (λ (x : Option Key). soonest x lent.result) c.soonest-unlent.ensures in
    subst (λ (a : Among). IsFirst (IsOther orders.late (clock_among a) slots items) c.soonest.result) (sym c.in-Awake.is) (subst (λ (x : Option Key). IsFirst (IsOther orders.late floor_clock slots items) x) (sym is) first)

pub returns-in-Parked : goal.returns-in-Parked
returns-in-Parked c = λ (slots : Numbered) (items : Items) (all : AreOrders c.args.self.now slots items).
    let orders : Orders = c.args.self.now in
    subst (λ (a : Among). IsFirst (IsOther orders.late (clock_among a) slots items) c.first.result) (sym c.in-Parked.is) (others_parked orders slots items all c.first.result c.first.ensures)

pub returns-in-Free : goal.returns-in-Free
returns-in-Free c = λ (slots : Numbered) (items : Items) (all : AreOrders c.args.self.now slots items).
    let orders : Orders = c.args.self.now in
    subst (λ (a : Among). IsFirst (IsOther orders.late (clock_among a) slots items) c.first-in-Free.result) (sym c.in-Free.is) (others_free orders slots items all c.first-in-Free.result c.first-in-Free.ensures)
