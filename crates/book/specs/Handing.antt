-- What the workers hand to the thread that writes.
use Rattle.std.specs.Prelude.{◌≡◌, ℕ, ◌+◌, Bool, true, Option, IfSome, length}
use Rattle.book.specs.Desks.{Desk, IsEnd}
use Rattle.bytecode.specs.Code.{Code}
use Rattle.output.specs.declared.piece.Piece.{Piece}
use Rattle.word.specs.declared.end.End.{End as Ending}
use Rattle.book.specs.Runs.{EndsAt, IsHanded, output_run, trace_run}

pub record Handing : Type 0 where
  pub output : Piece
  pub trace : Piece
  -- if the pieces are the last ones
  pub end : Option Ending

-- what is handed out of the run of this code: pieces of its output and of its trace, which reach to their ends if the run ends so;
-- if no lines are kept, the pieces of the trace are empty
pub record IsHanding (code : Code) (limit : ℕ) (traces : Bool) (h : Handing) : Type 0 where
  pub output : IsHanded (output_run code limit) h.output
  pub trace : IsHanded (trace_run code limit) h.trace
  pub output_ends : IfSome h.end (EndsAt (output_run code limit) (h.output.from + length h.output.bytes.items))
  pub trace_ends : traces ≡ true → IfSome h.end (EndsAt (trace_run code limit) (h.trace.from + length h.trace.bytes.items))

-- the run of the book has ended, and what it holds are its last bytes
abbrev pub HasEnded : Desk → Ending → Type 0
HasEnded d ending = IsEnd d.code d.limit d.traces d.core.events (d.taken + length d.pending) (d.traced + length d.lines) ending

-- nothing was taken out of the book
pub record KeepsTaken (old new : Desk) : Type 0 where
  pub taken : new.taken ≡ old.taken
  pub traced : new.traced ≡ old.traced
