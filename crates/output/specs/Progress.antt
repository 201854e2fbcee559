-- A run's bytes, and how far they were written.
use Rattle.std.specs.Prelude.{ℕ, ◌≡◌}
use Rattle.std.specs.Arc.{arc_value}
use Rattle.bytecode.specs.Code.{Code}
use Rattle.go_text.specs.declared.fault.Fault.{Fault}
use Rattle.go_text.specs.declared.fault.Fault.TheVariants as faults
use Rattle.output.specs.declared.draining.DrainFault.{DrainFault}
use Rattle.output.specs.declared.draining.DrainFault.TheVariants as drained
use Rattle.output.specs.declared.piece.Kind.{Kind}
use Rattle.output.specs.declared.piece.Piece.{Piece}
use Rattle.output.specs.declared.progress.Progress.{Progress}

-- of which run, and which of its bytes: the program by its content
pub record Run : Type 0 where
  pub program : Code
  pub limit : ℕ
  pub kind : Kind

-- how many bytes were written
abbrev pub progress_place : Progress → ℕ
progress_place p = p.place

-- what they are bytes of
abbrev pub run_of : Progress → Run
run_of p = record { program = arc_value p.program; limit = p.limit; kind = p.kind }

abbrev pub piece_run : Piece → Run
piece_run piece = record { program = arc_value piece.program; limit = piece.limit; kind = piece.kind }

-- the piece is of this run, and begins where the last one ended
pub record IsNext (p : Progress) (piece : Piece) : Type 0 where
  pub program : arc_value piece.program ≡ arc_value p.program
  pub limit : piece.limit ≡ p.limit
  pub kind : piece.kind ≡ p.kind
  pub from : piece.from ≡ p.place

-- the `Fault` of a `DrainFault`
abbrev pub fault_of : DrainFault → Fault
fault_of drained.NotYours = faults.NotYours
fault_of drained.Write = faults.Write
