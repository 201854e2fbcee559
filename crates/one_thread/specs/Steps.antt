-- What a step and a turn of a goroutine do.
use Rattle.std.specs.Prelude.{◌≡◌, ℕ, Option, Some, None}
use Rattle.word.specs.declared.request.Request.{Request as Asked}
use Rattle.word.specs.Values.{Exhausted}
use Rattle.word.specs.Kinds.{Next, Slides, Ticks, Asks, GoroutineKind, Clocked, local, asks}
use Rattle.word.specs.Views.{request_of}
use Rattle.one_thread.specs.declared.goroutine.Turn.{Turn}
use Rattle.one_thread.specs.declared.goroutine.Turn.TheVariants as turns
use Rattle.one_thread.specs.declared.interpreter.Step.{Step}
use Rattle.one_thread.specs.declared.interpreter.Step.TheVariants as steps

-- this step comes next, and leads from the old state to the new one; a goroutine that makes a request stays as it is
abbrev pub Moves : {A : Type 0} → Next A → Step → A → A → Type 0
Moves next steps.Slides new old = next ≡ Slides new
Moves next steps.Ticks new old = next ≡ Ticks new
Moves next (steps.Asks request) new old = (next ≡ Asks (request_of request)) × (new ≡ old)

-- the goroutine makes this local step, or has none and makes a request
abbrev pub Advances : (K : GoroutineKind) (limit : ℕ) → Turn → Clocked K.State → Clocked K.State → Type 0
Advances K limit turns.Slid old new = local K limit old ≡ Some new
Advances K limit turns.Ticked old new = local K limit old ≡ Some new
Advances K limit (turns.Asks request clock) old new = (local K limit old ≡ None) × (asks K limit old ≡ Some (request_of request)) × (new ≡ old) × (clock ≡ old.clock)
Advances K limit turns.Exhausted old new = (local K limit old ≡ None) × (asks K limit old ≡ Some Exhausted)

-- the turn of a goroutine that makes this request at this clock, if there is a later one
abbrev pub asking : Asked → ℕ → Option ℕ → Turn
asking request clock None = turns.Exhausted
asking request clock (Some later) = turns.Asks request clock
