use Rattle.std.proofs.Common.{arith, ◌≤◌, length}
use Rattle.std.specs.List.{filter}
use Rattle.sleep_queue.specs.Queue.{is_in_either}
use Rattle.sleep_queue.proofs.Counts.{either_counts, either_few}
use Rattle.sleep_queue.proofs.queues.SleepQueues.count_of_two.Goals as goal

pub overflow_add-result : goal.overflow_add-result
overflow_add-result c =
    let both = either_counts c.args.row c.args.other c.requires c.args.self.now.waiting in
    let few : length (filter (is_in_either c.args.row c.args.other) c.args.self.now.waiting) ≤ length c.self.inside.slots.slots =
    rw (← c.self.view_is) (either_few c.self.inside.slots.slots c.args.row c.args.other c.self.inside.time) in
    omega (arith, both, few, c.count.ensures, c.count-2.ensures, c.capacity-most.ensures.slots, c.capacity-most.type_inv)

pub returns : goal.returns
returns c =
    let both = either_counts c.args.row c.args.other c.requires c.args.self.now.waiting in
    omega (arith, both, c.count.ensures, c.count-2.ensures)
