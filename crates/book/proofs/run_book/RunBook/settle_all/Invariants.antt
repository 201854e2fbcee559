use Rattle.std.specs.Prelude.{List}
use Rattle.book.specs.Desks.{KeepsLeases}
use Rattle.word.specs.declared.request.Event.{Event as Recorded}
use Rattle.book.specs.Handing.{KeepsTaken}
use Rattle.book.specs.Turns.{Commits}
use Rattle.book.proofs.run_book.RunBook.settle_all.Given as goal

abbrev pub invariant-events : goal.invariant-events
invariant-events g l = record {
  taken : KeepsTaken l.initial.self.book l.self.book;
  leases : KeepsLeases l.initial.self.book l.self.book;
  committed : (events : List Recorded) × Commits l.initial.self.book events l.self.book;
}
