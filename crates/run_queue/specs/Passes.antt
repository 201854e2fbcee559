-- What the crates above see of a queue and its passes.
use Rattle.std.specs.Prelude.{ℕ}
use Rattle.crossbeam_queue.specs.Passes.{view, IsPassOf, ruled_capacity}
use Rattle.run_queue.specs.declared.queue.PutPass.{PutPass}
use Rattle.run_queue.specs.declared.queue.RunQueue.{RunQueue}
use Rattle.run_queue.specs.declared.queue.TakePass.{TakePass}
use Rattle.run_queue.specs.declared.view.View.{View}

module _ {T : Type 0} where
  -- how many items it holds at most
  abbrev pub capacity_of : RunQueue T → ℕ
  capacity_of q = ruled_capacity q.line

  -- the pass is one of this queue
  abbrev pub IsPutOf : RunQueue T → PutPass T → Type 0
  IsPutOf q p = IsPassOf q.line p.pass

  abbrev pub IsTakeOf : RunQueue T → TakePass T → Type 0
  IsTakeOf q p = IsPassOf q.line p.pass

  -- what it knows
  abbrev pub put_view : PutPass T → View T
  put_view p = view p.pass

  abbrev pub take_view : TakePass T → View T
  take_view p = view p.pass

  -- how many were put with it
  abbrev pub put_count : PutPass T → ℕ
  put_count p = p.count
