use Rattle.std.proofs.Common.{◌∙◌}
use Rattle.clock_table.specs.Seats.{rows as words_of}
use Rattle.logical_clock.specs.declared.limits.TheConstants.{MAX_GOROUTINES}
use Rattle.book.proofs.Homes.{all_home, as_many}
use Rattle.book.proofs.slots.Slots.new.Goals as goal

pub invariant_of-result : goal.invariant_of-result
invariant_of-result g c =
    let blank = c.args.blank in
    record {
      table_is = c.requires;
      seat_is = blank.own ∙ c.requires;
      size = as_many MAX_GOROUTINES (words_of blank.seat) blank.home;
      free = all_home MAX_GOROUTINES c.new.result (words_of blank.seat) blank.home;
    }
