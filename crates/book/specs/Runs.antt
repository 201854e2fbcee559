-- What a run writes, and what goes between its threads.
use Rattle.std.specs.Prelude.{◌≡◌, ℕ, Bool, ◌+◌, ◌≤◌, List, Option, Some, Result, IfOk, drop, length, take}
use Rattle.std.specs.Io.KnownBytes.{Appends}
use Rattle.book.specs.Desks.{Desk}
use Rattle.bytecode.specs.Code.{Code}
use Rattle.bytecode.specs.Machine.{code_kind}
use Rattle.go_text.specs.declared.fault.Fault.{Fault}
use Rattle.output.specs.Progress.{Run, piece_run, progress_place, run_of}
use Rattle.output.specs.declared.piece.Kind.{Kind}
use Rattle.output.specs.declared.piece.Kind.TheVariants.{Output, Trace}
use Rattle.output.specs.declared.piece.Piece.{Piece}
use Rattle.output.specs.declared.progress.Progress.{Progress}
use Rattle.tracer.specs.Trace.{trace}
use Rattle.word.specs.declared.end.End.{End as Ending}
use Rattle.word.specs.Kinds.{GoroutineKind}
use Rattle.word.specs.Values.{Shared}
use Rattle.word.specs.Worlds.{end_of, moment}

-- ---- the bytes of a run

-- the bytes of this kind so far: the output, or the lines of the events
abbrev pub bytes_of : Kind → Shared → List ℕ
bytes_of Output w = w.output
bytes_of Trace w = trace w.events

-- those of a run after n moves
abbrev pub bytes_after : Run → ℕ → List ℕ
bytes_after run n = bytes_of run.kind (moment (code_kind run.program) run.limit n).shared.shared

-- the bytes are at offset `from` of the run's bytes
abbrev pub IsPieceOf : Run → ℕ → List ℕ → Type 0
IsPieceOf run from bytes =
    (n : ℕ) × (from + length bytes ≤ length (bytes_after run n)) × (take (length bytes) (drop from (bytes_after run n)) ≡ bytes)

-- a piece of the run's bytes
pub record IsHanded (bytes : Run) (piece : Piece) : Type 0 where
  pub run : piece_run piece ≡ bytes
  pub stands : IsPieceOf bytes piece.from piece.bytes.items

-- the run ends so, after `size` bytes
abbrev pub EndsAt : Run → ℕ → Ending → Type 0
EndsAt run size ending =
    (n : ℕ) × (length (bytes_after run n) ≡ size) × (end_of (moment (code_kind run.program) run.limit n) ≡ Some ending)

-- what was written after the old contents are the first `taken` ones of the run's
abbrev pub Written : Run → Option (List ℕ) → Option (List ℕ) → ℕ → Type 0
Written run old new taken = (bytes : List ℕ) × Appends old new bytes × IsPieceOf run 0 bytes × (length bytes ≡ taken)

-- what was written after the old contents begins the bytes of this kind
abbrev pub Begins : Kind → GoroutineKind → ℕ → Option (List ℕ) → Option (List ℕ) → Type 0
Begins kind K limit old new = (n : ℕ) × (k : ℕ) × Appends old new (take k (bytes_of kind (moment K limit n).shared.shared))

-- it is all of them, and the run ends so
abbrev pub IsAll : Kind → GoroutineKind → ℕ → Option (List ℕ) → Option (List ℕ) → Ending → Type 0
IsAll kind K limit old new ending =
    (n : ℕ) × Appends old new (bytes_of kind (moment K limit n).shared.shared) × (end_of (moment K limit n) ≡ Some ending)

-- the outcome of a run, and of a writer of these bytes
pub record ComesOf (run : Run) (old new : Option (List ℕ)) (outcome : Result Ending Fault) : Type 0 where
  pub begins : Begins run.kind (code_kind run.program) run.limit old new
  pub all : IfOk outcome (IsAll run.kind (code_kind run.program) run.limit old new)

-- ---- the run of a name

-- its output
abbrev pub output_run : Code → ℕ → Run
output_run code limit = record { program = code; limit = limit; kind = Output }

-- its trace
abbrev pub trace_run : Code → ℕ → Run
trace_run code limit = record { program = code; limit = limit; kind = Trace }

-- what was handed out of the run's bytes is written, and the owner of this share has all of the ledger
pub record IsReached (bytes : Run) (p : Progress) (parts amount : ℕ) : Type 0 where
  pub run : run_of p ≡ bytes
  pub place : progress_place p ≡ amount
  pub whole : parts ≡ 1

-- the book is of this run, and keeps the lines of the trace or not
pub record IsOfRun (program : Code) (most : ℕ) (kept : Bool) (d : Desk) : Type 0 where
  pub code : d.code ≡ program
  pub limit : d.limit ≡ most
  pub traces : d.traces ≡ kept

-- a run of this code begins: nothing was written
pub record IsStart (code : Code) (limit : ℕ) (printed traced : Progress) : Type 0 where
  pub printed_run : run_of printed ≡ output_run code limit
  pub traced_run : run_of traced ≡ trace_run code limit
  pub printed_place : progress_place printed ≡ 0
  pub traced_place : progress_place traced ≡ 0
