-- The event of a request, from what was done.
use Rattle.std.specs.Prelude.{ℕ, ◌+◌, ◌==◌, ◌^◌, cond, List, [], ◌∷◌, map}
use Rattle.word.specs.Values.{Request, Exhausted, Reply, Nothing, EventOutcome, Done, Sleeps, Panics, Event}
use Rattle.word.specs.Requests.{asked}
use Rattle.word.specs.Views.{reply_of}
use Rattle.reference_world.specs.declared.deed.Deed.{Deed as Did}
use Rattle.reference_world.specs.declared.deed.Deed.TheVariants as did

-- what goroutine n's request means after this many events: event number 2^62 is `exhausted`, whatever the request
abbrev pub meant_after : ℕ → ℕ → Request → Request
meant_after events n q = cond (events + 1 == 2 ^ 62) Exhausted (asked n q)

-- what became of the request
abbrev pub came_of : Did → EventOutcome
came_of (did.Done reply woken) = Done (reply_of reply)
came_of (did.Prints bytes) = Done Nothing
came_of (did.Starts function arguments) = Done Nothing
came_of did.Sleeps = Sleeps
came_of did.Leaves = Done Nothing
came_of (did.Panics cause clause) = Panics cause clause
came_of (did.Ends end) = Done Nothing

-- the goroutines that were woken or started, the newest of which has the number `made`
abbrev pub partners_of : ℕ → Did → List ℕ
partners_of made (did.Done reply woken) = map (λ (x : ℕ × Reply). x.0) woken.items
partners_of made (did.Starts function arguments) = made ∷ []
partners_of made deed = []

-- the event of goroutine n's request q at clock c that this deed came of
abbrev pub event_by : ℕ → ℕ → Request → ℕ → Did → Event
event_by n c q made deed = record { clock = c; number = n; request = q; outcome = came_of deed; partners = partners_of made deed }
