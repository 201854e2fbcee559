-- Goroutines that keep to a plan, as they are kept.
use Rattle.pauses.specs.Paused.{PausedState, Progress}
use Rattle.pauses.specs.Views.{way_kept}
use Rattle.paused_goroutine.specs.declared.progress.Progress.{Progress as Kept}
use Rattle.paused_goroutine.specs.declared.paused.PausedState.{PausedState as KeptState}

abbrev pub progress_of : Kept → Progress
progress_of g = record { way = way_kept g.way; request = g.request; started = g.started; left = g.left; prepared = g.prepared }

abbrev pub state_of : {S H : Type 0} → (S → H) → KeptState S → PausedState H
state_of held s = record { state = held s.state; progress = progress_of s.progress }
