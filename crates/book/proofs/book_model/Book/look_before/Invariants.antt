use Rattle.std.proofs.Common.{◌≡◌, ℕ, None}
use Rattle.std.specs.Prelude.{sum_by}
use Rattle.book.specs.Desks.{OnlyLooks}
use Rattle.book.proofs.Settling.{following}
use Rattle.book.proofs.book_model.Book.look_before.Given as goal

abbrev pub invariant-loop-number : goal.invariant-loop-number
invariant-loop-number g l = record {
  only : OnlyLooks l.initial.self l.self;
  going : l.self.core.ending ≡ None;
}

abbrev pub decreases-loop-number : goal.decreases-loop-number
decreases-loop-number g l = sum_by (following l.key) l.self.core.rows
