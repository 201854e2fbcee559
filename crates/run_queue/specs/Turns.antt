-- The rule of a queue with one pass that puts, and what each step does to the passes.
use Rattle.std.specs.Prelude.{◌≡◌, ℕ, ◌+◌, ◌≤◌, Bool, true, false, cond, nat_lt, List, [], ◌∷◌, ◌++◌, length, slice_get, Some}
use mathlib.Core.Option.{some}
use lib.ListN.{get_elem?}
use Rattle.run_queue.specs.declared.view.View.{View}

module _ {T : Type 0} where
  -- the second list begins with the first
  abbrev pub Begins : List T → List T → Type 0
  Begins a b = (rest : List T) × (b ≡ a ++ rest)

  -- the longer of two lists
  abbrev pub longer : List T → List T → List T
  longer a b = cond (nat_lt (length a) (length b)) b a

  -- one pass puts, and knows all that was put; if only one takes, a pass that takes alone is that one, and knows how many were taken
  abbrev pub Fits : ℕ → ℕ → Bool → ℕ → List T → ℕ → View T → Type 0
  Fits writer taker single gone put pass v =
      Begins v.put put
      × (v.gone ≤ gone)
      × (v.puts ≡ true → (pass ≡ writer) × (v.put ≡ put))
      × (v.takes ≡ true → single ≡ true → pass ≡ taker)
      × (v.alone ≡ true → (single ≡ true) × (pass ≡ taker) × (v.gone ≡ gone))

  -- what was put is what was taken and then what the queue holds
  abbrev pub Kept : List T → List (View T) → Type 0
  Kept items views =
      (writer : ℕ) × (taker : ℕ) × (single : Bool) × (put : List T) × (taken : List T) × (put ≡ taken ++ items)
      × ((pass : ℕ) (v : View T) → get_elem? views pass ≡ some v → Fits writer taker single (length taken) put pass v)

  -- the first pass may do all
  abbrev pub whole : View T
  whole = record { puts = true; takes = true; alone = true; put = []; gone = 0 }

  -- its two parts: the pass that puts, and one that takes alone
  abbrev pub putting : View T → View T
  putting v = record v { takes = false; alone = false }

  abbrev pub taking : View T → View T
  taking v = record { puts = false; takes = true; alone = true; put = v.put; gone = v.gone }

  -- a pass that takes no longer alone, and a further one, which knows the same
  abbrev pub shared : View T → View T
  shared v = record v { alone = false }

  abbrev pub further : View T → View T
  further v = record { puts = false; takes = true; alone = false; put = v.put; gone = v.gone }

  -- a pass that may do nothing, and knows the same
  abbrev pub note : View T → View T
  note v = record { puts = false; takes = false; alone = false; put = v.put; gone = v.gone }

  -- a pass that may do nothing and knows nothing
  abbrev pub spent : View T
  spent = record { puts = false; takes = false; alone = false; put = []; gone = 0 }

  -- a pass that learns what was put
  abbrev pub told_put : View T → View T → View T
  told_put v w = record v { put = longer v.put w.put }

  -- a pass that learns how many were taken
  abbrev pub told_gone : View T → View T → View T
  told_gone v w = record v { gone = cond (nat_lt v.gone w.gone) w.gone v.gone }

  -- the pass puts; it takes nothing alone
  abbrev pub IsPutting : View T → Type 0
  IsPutting v = (v.puts ≡ true) × (v.alone ≡ false)

  -- the pass takes, and doesn't put
  abbrev pub IsTaking : View T → Type 0
  IsTaking v = (v.takes ≡ true) × (v.puts ≡ false)

  -- if the pass takes alone, all that it knows to be put was taken
  abbrev pub IsAllTaken : View T → Type 0
  IsAllTaken v = v.alone ≡ true → length v.put ≤ v.gone

  -- as many as the capacity were put of which the pass doesn't know that they were taken
  abbrev pub IsFull : ℕ → View T → Type 0
  IsFull capacity v = v.gone + capacity ≤ length v.put

  -- a pass puts an item
  abbrev pub PutsOne : View T → T → View T → Type 0
  PutsOne v x w = w ≡ record v { put = v.put ++ x ∷ [] }

  -- a pass takes the item before which n were put: it took none from there on, if it takes alone it took all before, and the item is the one that was put there
  abbrev pub TakesOne : View T → T → View T → Type 0
  TakesOne v x w =
      (n : ℕ) × (v.gone ≤ n) × (v.alone ≡ true → n ≡ v.gone) × (slice_get w.put n ≡ Some x) × Begins v.put w.put
      × (w ≡ record v { put = w.put; gone = n + 1 })

  -- what the pass that puts knows of how many the queue holds
  abbrev pub PutsAfter : View T → List T → Type 0
  PutsAfter v items = v.puts ≡ true → v.gone + length items ≤ length v.put

  -- what a pass that takes alone knows of it
  abbrev pub TakesBefore : View T → List T → Type 0
  TakesBefore v items = v.alone ≡ true → length v.put ≤ v.gone + length items
