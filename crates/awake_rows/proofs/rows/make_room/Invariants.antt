use Rattle.std.proofs.Common.{◌-◌, ◌+◌, length, vec_len}
use Rattle.awake_rows.specs.Living.{Grows, HaveGrown, HaveRoom}
use Rattle.awake_rows.proofs.rows.make_room.Given as goal

abbrev pub invariant-loop-orders : goal.invariant-loop-orders
invariant-loop-orders l = record {
  items : Grows l.fn.items.items l.items.items;
  orders : HaveGrown l.fn.orders l.orders;
  room : HaveRoom l.orders (length l.items.items);
}

abbrev pub decreases-loop-orders : goal.decreases-loop-orders
decreases-loop-orders l = l.slot + 1 - vec_len l.items
