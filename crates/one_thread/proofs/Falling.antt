-- What falls with a step, a turn and a move.
use Rattle.std.proofs.Common.{◌≡◌, ℕ, ◌+◌, ◌-◌, ◌<◌, ◌≤◌, ◌^◌, Bool, true, false, cond, List, length, Option, Some, None, refl, sym, ap, ◌∙◌, subst, arith}
use Rattle.std.specs.Prelude.{slice_index_or, slice_set, sum_by, Result, Ok, Err, IfNone, IfOk, IfSome, IsSome}
use Rattle.std.proofs.lemmas.Bool.{false≢true, true≢false}
use Rattle.std.proofs.lemmas.List.{get_or_past}
use Rattle.std.proofs.lemmas.List.Sums.{sum_by-set}
use Rattle.logical_clock.specs.declared.key.Key.{Key}
use Rattle.logical_clock.specs.Order.{keys, least}
use Rattle.logical_clock.proofs.Keys.{IsNext, next_is}
use Rattle.reference_world.specs.Deeds.{SharedValue}
use Rattle.word.specs.declared.end.End.{End as Ending}
use Rattle.word.specs.declared.request.Event.{Event as Recorded}
use Rattle.word.specs.declared.request.Request.{Request as Asked}
use Rattle.word.specs.Kinds.{Next, Slides}
use Rattle.word.specs.Related.{Falls}
use Rattle.one_thread.specs.declared.goroutine.Goroutine.{Goroutine}
use Rattle.one_thread.specs.declared.goroutine.Turn.{Turn}
use Rattle.one_thread.specs.declared.goroutine.Turn.TheVariants as turns
use Rattle.one_thread.specs.declared.move_kind.Move.{Move}
use Rattle.one_thread.specs.declared.move_kind.Move.TheVariants as moves
use Rattle.one_thread.specs.declared.move_kind.MoveSeen.{MoveSeen}
use Rattle.one_thread.specs.declared.move_kind.MoveSeen.TheVariants as seen
use Rattle.one_thread.specs.declared.snapshot.Until.{Until}
use Rattle.one_thread.specs.Histories.{OpenValue}
use Rattle.one_thread.specs.Places.{clock_of, here}
use Rattle.one_thread.specs.Snapshots.{IsThere}
use Rattle.one_thread.specs.Steps.{asking}
use Rattle.one_thread.specs.Progress.{EventFalls, EventSeenFalls, FallsInTurn, MoveFalls, SeenFalls, TickFalls, TickSeenFalls, TurnFalls, ending_in, event_in, events_left, is_slide, is_slide_seen, is_tick, is_tick_seen, left_after, left_in, performed, ticks_left, ticks_of, weight_left, weight_of}

-- ---- a step

-- after a step that costs nothing a state weighs less
pub slid_less : {H : Type 0} (weight : H → ℕ) (n : ℕ) (next : Next H) (new : H) → Falls weight n next → next ≡ Slides new → weight new < n
slid_less weight n next new falls is = subst (Falls weight n) is falls

-- a clock that is later leaves fewer ticks
pub ticked_less : (limit old new : ℕ) → new ≡ old + 1 → new ≤ limit → limit - new < limit - old
ticked_less limit old new later within = omega (arith, later, within)

-- a goroutine that makes a request has nothing that falls
pub asking_falls : {S : Type 0} (weight : S → ℕ) (limit : ℕ) (turn : Turn) (request : Asked) (clock : ℕ) (later : Option ℕ) (old new : Goroutine S) → turn ≡ asking request clock later → FallsInTurn weight limit turn old new
asking_falls weight limit turn request clock None old new is = subst (λ (t : Turn). FallsInTurn weight limit t old new) (sym is) tt
asking_falls weight limit turn request clock (Some later) old new is = subst (λ (t : Turn). FallsInTurn weight limit t old new) (sym is) tt

-- ---- a turn

module _ {S : Type 0} (f : Option (Goroutine S) → ℕ) (xs : List (Option (Goroutine S))) (n : ℕ) (g h : Goroutine S) (there : n < length xs) (at : slice_index_or xs n None ≡ Some g) where
  set_is : sum_by f (slice_set xs n (Some h)) + f (Some g) ≡ sum_by f xs + f (Some h)
  set_is = subst (λ (x : Option (Goroutine S)). sum_by f (slice_set xs n (Some h)) + f x ≡ sum_by f xs + f (Some h)) at (sum_by-set f xs n (Some h) None there)

  fell : f (Some h) < f (Some g) → sum_by f (slice_set xs n (Some h)) < sum_by f xs
  fell less = omega (arith, set_is, less)

  stayed : f (Some h) ≡ f (Some g) → sum_by f (slice_set xs n (Some h)) ≡ sum_by f xs
  stayed same = omega (arith, set_is, same)

module _ {S : Type 0} (weight : S → ℕ) (limit : ℕ) where
  turn_falls : (old : List (Option (Goroutine S))) (n : ℕ) (g h : Goroutine S) (turn : Turn) → n < length old → slice_index_or old n None ≡ Some g → FallsInTurn weight limit turn g h → TurnFalls weight limit turn old (slice_set old n (Some h))
  turn_falls old n g h turns.Slid there at f = (fell (weight_of weight) old n g h there at f.0, stayed (ticks_of limit) old n g h there at (ap (λ (c : ℕ). limit - c) f.1))
  turn_falls old n g h turns.Ticked there at f = fell (ticks_of limit) old n g h there at f
  turn_falls old n g h (turns.Asks request clock) there at f = tt
  turn_falls old n g h turns.Exhausted there at f = tt

  pub turn_falls_ok : {E : Type 0} (r : Result Turn E) (old : List (Option (Goroutine S))) (n : ℕ) (g h : Goroutine S) → n < length old → slice_index_or old n None ≡ Some g → IfOk r (λ turn. FallsInTurn weight limit turn g h)
      → IfOk r (λ turn. (clock : ℕ) → here clock_of old n ≡ Some clock → TurnFalls weight limit turn old (slice_set old n (Some h)))
  turn_falls_ok (Ok turn) old n g h there at f = λ clock up. turn_falls old n g h turn there at f
  turn_falls_ok (Err e) old n g h there at f = tt

-- ---- goroutines that are not awake

module _ {S : Type 0} where
  pub none_beyond : (old : List (Option (Goroutine S))) (n clock : ℕ) → length old ≤ n → here clock_of old n ≡ Some clock → ⊥
  none_beyond old n clock past up = let e : here clock_of old n ≡ None = ap clock_of (get_or_past old n None past) in cc

  pub none_there : (old : List (Option (Goroutine S))) (n clock : ℕ) → slice_index_or old n None ≡ None → here clock_of old n ≡ Some clock → ⊥
  none_there old n clock none up = let e : here clock_of old n ≡ None = ap clock_of none in cc

  pub none_awake : (old : List (Option (Goroutine S))) (n clock : ℕ) (g : Goroutine S) → slice_index_or old n None ≡ Some g → g.asleep ≡ true → here clock_of old n ≡ Some clock → ⊥
  none_awake old n clock g at down up =
      let e : here clock_of old n ≡ None = ap clock_of at ∙ ap (λ (b : Bool). cond b None (Some g.clock)) down in
      cc

  -- the goroutine that has the least key is awake
  pub least_awake : (places : List (Option (Goroutine S))) (key : Key) → least (keys clock_of 0 places) ≡ Some key → here clock_of places key.number ≡ Some key.clock
  least_awake places key is = (subst (IsNext clock_of None places) is (next_is clock_of None refl places)).0

-- ---- a move

never_ended : (end : Ending) → Some end ≡ None → ⊥
never_ended end e = cc

module _ {S : Type 0} (weight : S → ℕ) (limit : ℕ) where
  pub event_falls : (made : Move) (old : List (Option (Goroutine S))) (v : SharedValue) (new : List (Option (Goroutine S))) (v' : SharedValue) → EventFalls made v v' → MoveFalls weight limit made old v new v'
  event_falls moves.Slide old v new v' f = absurd f
  event_falls moves.Tick old v new v' f = absurd f
  event_falls moves.Event old v new v' f = f
  event_falls (moves.Last end) old v new v' f = tt

  -- a slide
  pub slide_falls : (made : Move) (old : List (Option (Goroutine S))) (v : SharedValue) (new : List (Option (Goroutine S))) (v' : SharedValue) → is_slide made ≡ true → MoveFalls weight limit made old v new v'
      → (weight_left weight new < weight_left weight old) × (ticks_left limit new ≡ ticks_left limit old) × (v' ≡ v)
  slide_falls moves.Slide old v new v' is f = f
  slide_falls moves.Tick old v new v' is f = absurd (false≢true is)
  slide_falls moves.Event old v new v' is f = absurd (false≢true is)
  slide_falls (moves.Last end) old v new v' is f = absurd (false≢true is)

  -- a move that is no slide, after slides
  pub no_slide_falls : (made : Move) (first old : List (Option (Goroutine S))) (v0 v : SharedValue) (new : List (Option (Goroutine S))) (v' : SharedValue) → is_slide made ≡ false → ticks_left limit old ≡ ticks_left limit first → v ≡ v0 → MoveFalls weight limit made old v new v' → TickFalls limit made first v0 new v'
  no_slide_falls moves.Slide first old v0 v new v' isnt ticks same f = absurd (true≢false isnt)
  no_slide_falls moves.Tick first old v0 v new v' isnt ticks same f = (subst (λ (n : ℕ). ticks_left limit new < n) ticks f.0, f.1 ∙ same)
  no_slide_falls moves.Event first old v0 v new v' isnt ticks same f = subst (λ (x : SharedValue). events_left v' < events_left x) same f
  no_slide_falls (moves.Last end) first old v0 v new v' isnt ticks same f = tt

module _ {S : Type 0} (limit : ℕ) where
  -- a tick
  pub tick_falls : (made : Move) (old : List (Option (Goroutine S))) (v : SharedValue) (new : List (Option (Goroutine S))) (v' : SharedValue) → is_tick made ≡ true → TickFalls limit made old v new v' → (ticks_left limit new < ticks_left limit old) × (v' ≡ v)
  tick_falls moves.Slide old v new v' is f = absurd (false≢true is)
  tick_falls moves.Tick old v new v' is f = f
  tick_falls moves.Event old v new v' is f = absurd (false≢true is)
  tick_falls (moves.Last end) old v new v' is f = absurd (false≢true is)

  -- a move that is no tick, after ticks
  pub no_tick_falls : (made : Move) (old : List (Option (Goroutine S))) (v0 v : SharedValue) (new : List (Option (Goroutine S))) (v' : SharedValue) → is_tick made ≡ false → v ≡ v0 → TickFalls limit made old v new v' → ending_in made ≡ None → events_left v' < events_left v0
  no_tick_falls moves.Slide old v0 v new v' isnt same f goes = absurd f
  no_tick_falls moves.Tick old v0 v new v' isnt same f goes = absurd (true≢false isnt)
  no_tick_falls moves.Event old v0 v new v' isnt same f goes = subst (λ (x : SharedValue). events_left v' < events_left x) same f
  no_tick_falls (moves.Last end) old v0 v new v' isnt same f goes = absurd (never_ended end goes)

-- after a slide or a tick the run goes on
pub slide_goes : (made : Move) → is_slide made ≡ true → ending_in made ≡ None
slide_goes moves.Slide is = refl
slide_goes moves.Tick is = absurd (false≢true is)
slide_goes moves.Event is = absurd (false≢true is)
slide_goes (moves.Last end) is = absurd (false≢true is)

pub tick_goes : (made : Move) → is_tick made ≡ true → ending_in made ≡ None
tick_goes moves.Slide is = absurd (false≢true is)
tick_goes moves.Tick is = refl
tick_goes moves.Event is = absurd (false≢true is)
tick_goes (moves.Last end) is = absurd (false≢true is)

pub performed_ends : (ending : Option Ending) → ending_in (performed ending) ≡ ending
performed_ends None = refl
performed_ends (Some end) = refl

-- a request that is performed is one event more
pub performed_falls : (v v' : SharedValue) (ending : Option Ending) → v'.ending ≡ ending → v'.events ≡ v.events + 1 → (v'.ending ≡ None → v'.events < 2 ^ 62) → EventFalls (performed ending) v v'
performed_falls v v' None is one room = let below : v'.events < 2 ^ 62 = room is in omega (arith, one, below)
performed_falls v v' (Some end) is one room = tt

-- ---- a move of an open run

-- one event more leaves one fewer
pub counted_falls : (v v' : SharedValue) → v'.events ≡ v.events + 1 → v'.events < 2 ^ 62 → events_left v' < events_left v
counted_falls v v' one room = omega (arith, one, room)

-- a local step is no event
pub slide_unseen : (made : MoveSeen) → is_slide_seen made ≡ true → event_in made ≡ None
slide_unseen seen.Nothing is = refl
slide_unseen seen.Slide is = refl
slide_unseen seen.Tick is = refl
slide_unseen (seen.Event event) is = absurd (false≢true is)

pub tick_unseen : (made : MoveSeen) → is_tick_seen made ≡ true → event_in made ≡ None
tick_unseen seen.Nothing is = refl
tick_unseen seen.Slide is = refl
tick_unseen seen.Tick is = refl
tick_unseen (seen.Event event) is = absurd (false≢true is)

module _ {S : Type 0} (until : Option Until) where
  module _ (weight : S → ℕ) where
    -- what falls in a run that should go on to its end
    pub falls_until : (made : MoveSeen) (old new : OpenValue S) → SeenFalls weight None made old new → SeenFalls weight until made old new
    falls_until seen.Nothing old new f = λ none. absurd (f none).2
    falls_until seen.Slide old new f = f
    falls_until seen.Tick old new f = f
    falls_until (seen.Event event) old new f = f

    -- a slide
    pub slide_seen_falls : (made : MoveSeen) (old new : OpenValue S) → is_slide_seen made ≡ true → SeenFalls weight until made old new → SeenFalls weight until seen.Slide old new
    slide_seen_falls seen.Nothing old new is f = absurd (false≢true is)
    slide_seen_falls seen.Slide old new is f = f
    slide_seen_falls seen.Tick old new is f = absurd (false≢true is)
    slide_seen_falls (seen.Event event) old new is f = absurd (false≢true is)

    -- a move that is no slide, after slides
    pub after_slides : (made : MoveSeen) (first old new : OpenValue S) → is_slide_seen made ≡ false → old.limit ≡ first.limit → ticks_left first.limit old.places ≡ ticks_left first.limit first.places → old.shared ≡ first.shared
        → SeenFalls weight until made old new → TickSeenFalls until made first new
    after_slides seen.Nothing first old new isnt limit ticks same f = f
    after_slides seen.Slide first old new isnt limit ticks same f = absurd (true≢false isnt)
    after_slides seen.Tick first old new isnt limit ticks same f =
        (subst (λ (n : ℕ). ticks_left first.limit new.places < n) ticks (subst (λ (k : ℕ). ticks_left k new.places < ticks_left k old.places) limit f.0), f.1 ∙ same, f.2)
    after_slides (seen.Event event) first old new isnt limit ticks same f = subst (λ (v : SharedValue). new.end ≡ None → events_left new.shared < events_left v) same f

  -- a tick
  pub tick_seen_falls : (made : MoveSeen) (old new : OpenValue S) → is_tick_seen made ≡ true → TickSeenFalls until made old new → TickSeenFalls until seen.Tick old new
  tick_seen_falls seen.Nothing old new is f = absurd (false≢true is)
  tick_seen_falls seen.Slide old new is f = absurd f
  tick_seen_falls seen.Tick old new is f = f
  tick_seen_falls (seen.Event event) old new is f = absurd (false≢true is)

  -- a move that is no tick, after ticks
  pub after_ticks : (made : MoveSeen) (first old new : OpenValue S) → is_tick_seen made ≡ false → old.shared ≡ first.shared → TickSeenFalls until made old new → EventSeenFalls until (event_in made) first new
  after_ticks seen.Nothing first old new isnt same f = f
  after_ticks seen.Slide first old new isnt same f = absurd f
  after_ticks seen.Tick first old new isnt same f = absurd (true≢false isnt)
  after_ticks (seen.Event event) first old new isnt same f = subst (λ (v : SharedValue). new.end ≡ None → events_left new.shared < events_left v) same f

-- an event leaves an open run fewer of them
pub event_left : {S : Type 0} (until : Option Until) (found : Option Recorded) (old new : OpenValue S) → old.end ≡ None → EventSeenFalls until found old new → IfSome found (λ event. left_in new < left_in old)
event_left until None old new goes f = tt
event_left until (Some event) old new goes f = rw goes (go new.end f)
  where
    go : (end : Option Ending) → (end ≡ None → events_left new.shared < events_left old.shared) → left_after end (events_left new.shared) < events_left old.shared + 1
    go None less = let l : events_left new.shared < events_left old.shared = less refl in omega (arith, l)
    go (Some end) less = omega arith

-- without one it has ended, if it should go on to its end
pub ended_unless : {S : Type 0} (found : Option Recorded) (old new : OpenValue S) → EventSeenFalls None found old new → IfNone found (IsSome new.end)
ended_unless (Some event) old new f = tt
ended_unless None old new f = go new.end f
  where
    go : (end : Option Ending) → (end ≡ None → IsThere None new) → IsSome end
    go None none = absurd (none refl).2
    go (Some end) none = search
