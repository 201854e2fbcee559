use Rattle.std.proofs.Common.{◌≡◌, ◌-◌, ◌*◌, ◌++◌}
use Rattle.std.specs.Prelude.{drop}
use Rattle.item_queue.specs.Items.{items_in}
use Rattle.item_queue.proofs.line.spread.Given as goal

abbrev pub invariant-loop-done : goal.invariant-loop-done
invariant-loop-done l = record {
  from : l.from ≡ l.width * l.done;
  items : l.items.items ++ items_in l.width (l.count - l.done) (drop l.from l.words.items) ≡ items_in l.width l.count l.words.items;
}
