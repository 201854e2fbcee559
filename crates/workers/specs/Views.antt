-- What a worker's passes know of the queues.
use Rattle.std.specs.Prelude.{◌≡◌, List, ◌∷◌, ◌++◌, map}
use Rattle.run_queue.specs.Passes.{put_view, take_view}
use Rattle.run_queue.specs.Turns.{TakesOne, told_gone, told_put}
use Rattle.run_queue.specs.declared.view.View.{View}
use Rattle.workers.specs.declared.ends.Owner.{Owner}
use Rattle.workers.specs.declared.ends.Stealer.{Stealer}

module _ {T : Type 0} where
  -- what the passes of a worker's own queue know once each has learnt what the other knows; the one that takes knew this before
  abbrev pub LooksInto : (old : Owner T) → View T → (new : Owner T) → Type 0
  LooksInto old knows new = (put_view new.puts ≡ told_gone (put_view old.puts) knows) × (take_view new.takes ≡ told_put knows (put_view old.puts))

  -- an item is taken from its own queue
  abbrev pub TakesOwn : (old : Owner T) → T → (new : Owner T) → Type 0
  TakesOwn old item new = (knows : View T) × TakesOne (take_view old.takes) item knows × LooksInto old knows new

  -- what it knows of each other queue as one that takes
  abbrev pub views_of : List (Stealer T) → List (View T)
  views_of stealers = map (λ (stealer : Stealer T). take_view stealer.pass) stealers

  -- an item is taken from one of the queues, and nothing from the others
  abbrev pub TakesOfOne : List (View T) → T → List (View T) → Type 0
  TakesOfOne old item new =
      (before following : List (View T)) × (v w : View T)
      × (old ≡ before ++ v ∷ following) × (new ≡ before ++ w ∷ following) × TakesOne v item w
