-- Steps without cost end, also of a goroutine that keeps to a plan.
use Rattle.std.proofs.Common.{◌≡◌, ℕ, ◌+◌, ◌-◌, ◌<◌, ◌==◌, Bool, true, false, cond, List, ◌++◌, Option, Some, None, refl, sym, subst, arith}
use Rattle.word.specs.declared.request.Case.{Case}
use Rattle.word.specs.Values.{Request, Make, Go, Send, Receive, Close, Select, Len, Cap, Print, End, Exit, Panic, Exhausted}
use Rattle.word.specs.Kinds.{Next, Slides, Ticks, Asks, Stuck}
use Rattle.word.specs.Related.{Falls, Parts}
use Rattle.pauses.specs.Paused.{PausedState, Progress, asking, beside, clause_of, paused_parts, selecting, step_of, way_to, way_words}
use Rattle.pauses.specs.Plans.{Pause}
use Rattle.pauses.specs.Selects.{alone, thinned}
use Rattle.pauses.specs.Weights.{count_left, paused_weight}

module _ {S : Type 0} (K : Parts S) (ps : List Pause) (weight : S → ℕ) where
  -- a goroutine counts the next one that it starts only once
  going_falls : (s : PausedState S) (b : Bool) (q : Request) (g : Progress) → s.progress.prepared ≡ b → g.prepared ≡ true → Falls (paused_weight weight) (paused_weight weight s) (beside s.state (cond b (Asks q) (Slides g)))
  going_falls s true q g is done = tt
  going_falls s false q g is done =
      subst (λ (b : Bool). weight s.state + count_left b < weight s.state + count_left s.progress.prepared) (sym done)
      (subst (λ (b : Bool). weight s.state + count_left true < weight s.state + count_left b) (sym is) (let e : weight s.state + 0 < weight s.state + 1 = omega arith in e))

  asks_either : (s : PausedState S) (b : Bool) (p q : Request) → Falls (paused_weight weight) (paused_weight weight s) (beside s.state (cond b (Asks p) (Asks q)))
  asks_either s true p q = tt
  asks_either s false p q = tt

  selecting_falls : (s : PausedState S) (cases : List Case) (default : Bool) (clause : Option ℕ) → Falls (paused_weight weight) (paused_weight weight s) (beside s.state (selecting ps s.progress cases default clause))
  selecting_falls s cases default None = tt
  selecting_falls s cases default (Some clause) = asks_either s s.progress.prepared (Select (thinned clause cases) default) (Select (alone clause cases) true)

  asking_falls : (s : PausedState S) (q : Request) → Falls (paused_weight weight) (paused_weight weight s) (beside s.state (asking ps s.progress q))
  asking_falls s (Go function args) =
      going_falls s s.progress.prepared (Go function (way_words (way_to ps s.progress.way s.progress.started) ++ args)) (record s.progress { started = s.progress.started + 1; prepared = true }) refl refl
  asking_falls s (Select cases default) = selecting_falls s cases default (clause_of ps s.progress.way s.progress.request)
  asking_falls s (Make size zero) = tt
  asking_falls s (Send c item) = tt
  asking_falls s (Receive c) = tt
  asking_falls s (Close c) = tt
  asking_falls s (Len c) = tt
  asking_falls s (Cap c) = tt
  asking_falls s (Print bytes) = tt
  asking_falls s End = tt
  asking_falls s Exit = tt
  asking_falls s (Panic p) = tt
  asking_falls s Exhausted = tt

  step_falls : (s : PausedState S) (next : Next S) → Falls weight (weight s.state) next → Falls (paused_weight weight) (paused_weight weight s) (step_of K ps s next)
  step_falls s (Slides a) falls = let e : weight a + count_left s.progress.prepared < weight s.state + count_left s.progress.prepared = omega (arith, falls) in e
  step_falls s (Ticks a) falls = tt
  step_falls s (Asks q) falls = asking_falls s q
  step_falls s Stuck falls = tt

  waits_or : (s : PausedState S) (b : Bool) (waited : PausedState S) → Falls weight (weight s.state) (K.next s.state) → Falls (paused_weight weight) (paused_weight weight s) (cond b (step_of K ps s (K.next s.state)) (Ticks waited))
  waits_or s true waited falls = step_falls s (K.next s.state) falls
  waits_or s false waited falls = tt

  pub paused_falls : ((s : S) → Falls weight (weight s) (K.next s)) → (s : PausedState S) → Falls (paused_weight weight) (paused_weight weight s) ((paused_parts K ps).next s)
  paused_falls falls s = waits_or s (s.progress.left == 0) (record s { progress = record s.progress { left = s.progress.left - 1 } }) (falls s.state)
