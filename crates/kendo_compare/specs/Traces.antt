-- The trace of a program.
use Rattle.std.specs.Prelude.{◌≡◌, ℕ, List, Some}
use Rattle.kendo_reading.specs.Reading.{Reads}
use Rattle.meaning.specs.Source.{source_kind}
use Rattle.pauses.specs.Paused.{paused}
use Rattle.pauses.specs.Plans.{Pause}
use Rattle.syntax.specs.Tree.{File}
use Rattle.tracer.specs.Trace.{trace}
use Rattle.word.specs.Kinds.{GoroutineKind}
use Rattle.word.specs.Worlds.{end_of, moment}
use Rattle.word.specs.declared.end.End.{End}

-- the lines are the whole trace of the one-thread run of these goroutines, up to this limit, which ends so
abbrev pub IsTraceOf : GoroutineKind → (limit : ℕ) → End → (lines : List ℕ) → Type 0
IsTraceOf K limit end lines = (n : ℕ) × (lines ≡ trace (moment K limit n).shared.shared.events) × (end_of (moment K limit n) ≡ Some end)

-- the lines are the trace of the run of a program
abbrev pub IsTraced : (text : List ℕ) → (limit : ℕ) → (lines : List ℕ) → End → Type 0
IsTraced text limit lines end = (file : File) × Reads text file × IsTraceOf (source_kind file) limit end lines

-- the lines are the trace of its run by a plan of pauses
abbrev pub IsTracedBy : List Pause → (text : List ℕ) → (limit : ℕ) → (lines : List ℕ) → End → Type 0
IsTracedBy pauses text limit lines end = (file : File) × Reads text file × IsTraceOf (paused (source_kind file) pauses) limit end lines
