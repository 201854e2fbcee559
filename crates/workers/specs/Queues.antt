-- The queues of all workers.
use Rattle.std.specs.Prelude.{◌≡◌, ℕ, ◌+◌, ◌<◌, ◌⊎◌, List, [], ◌++◌, drop, length, map, slice_index_or, take}
use Rattle.std.specs.Arc.{arc_value}
use Rattle.run_queue.specs.Passes.{take_view}
use Rattle.run_queue.specs.declared.queue.RunQueue.{RunQueue}
use Rattle.workers.specs.Views.{LooksInto, TakesOfOne, TakesOwn, views_of}
use Rattle.workers.specs.declared.ends.Stealer.{Stealer}
use Rattle.workers.specs.declared.work_queues.WorkQueues.{WorkQueues}

module _ {T : Type 0} where
  -- the queues from which these take
  abbrev pub queues_of : List (Stealer T) → List (RunQueue T)
  queues_of stealers = map (λ (stealer : Stealer T). arc_value stealer.queue) stealers

  -- the queue of each worker, into which it puts
  abbrev pub own_queues : List (WorkQueues T) → List (RunQueue T)
  own_queues all = map (λ (queues : WorkQueues T). arc_value queues.own.queue) all

  -- the other queues from which each worker takes
  abbrev pub others_of : List (WorkQueues T) → List (List (RunQueue T))
  others_of all = map (λ (queues : WorkQueues T). queues_of queues.others.items) all

  -- after its own queue each worker takes from those of the workers after it, and then from those of the workers before it
  abbrev pub IsTeam : List (WorkQueues T) → Type 0
  IsTeam all = (worker : ℕ) → worker < length all → slice_index_or (others_of all) worker [] ≡ drop (worker + 1) (own_queues all) ++ take worker (own_queues all)

  -- a worker takes an item of its own queue; or it finds none there, and takes one of another queue
  abbrev pub TakesFrom : (old : WorkQueues T) → T → (new : WorkQueues T) → Type 0
  TakesFrom old item new =
      (TakesOwn old.own item new.own × (views_of new.others.items ≡ views_of old.others.items))
      ⊎ (LooksInto old.own (take_view old.own.takes) new.own × TakesOfOne (views_of old.others.items) item (views_of new.others.items))
