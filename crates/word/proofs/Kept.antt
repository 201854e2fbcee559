-- What each request keeps of what is shared, the run keeps.
use Rattle.std.proofs.Common.{ℕ, zero, suc, Bool, true, false, cond, Option, Some, None, get_or}
use Rattle.logical_clock.specs.declared.key.Key.{Key}
use Rattle.turn_rule.specs.Turns.{World, next, move_on, move_at, move_next, perform as perform_in, one, run}
use Rattle.word.specs.Kinds.{GoroutineKind, Clocked, asks}
use Rattle.word.specs.Values.{Request, Shared}
use Rattle.word.specs.Requests.{act, meant}
use Rattle.word.specs.Worlds.{Rest, rules, performs, opening, moment}

module _ (P : Shared → Type 0) (keeps : (w : Shared) (n c : ℕ) (q : Request) → P w → P (act w n c q q).shared) (K : GoroutineKind) (limit : ℕ) where
  performs_keeps : (w : Rest K.State) (n : ℕ) (s : Clocked K.State) (o : Option Request) → P w.shared → P (performs K limit w n s o).shared.shared
  performs_keeps w n s None h = h
  performs_keeps w n s (Some q) h = keeps w.shared n s.clock (meant w.shared n q) h

  on_by : (w : World (Clocked K.State) (Rest K.State)) (n : ℕ) (s : Clocked K.State) (b : Bool) → P w.shared.shared → P (cond b (perform_in (rules K limit) w n s) w).shared.shared
  on_by w n s true h = performs_keeps w.shared n s (asks K limit s) h
  on_by w n s false h = h

  at_by : (w : World (Clocked K.State) (Rest K.State)) (n : ℕ) (s : Clocked K.State) (o : Option (Clocked K.State)) → P w.shared.shared → P (move_on (rules K limit) w n s o).shared.shared
  at_by w n s (Some t) h = h
  at_by w n s None h = on_by w n s ((rules K limit).asks s) h

  move_by : (w : World (Clocked K.State) (Rest K.State)) (n : ℕ) (o : Option (Clocked K.State)) → P w.shared.shared → P (move_at (rules K limit) w n o).shared.shared
  move_by w n None h = h
  move_by w n (Some s) h = at_by w n s ((rules K limit).local s) h

  next_by : (w : World (Clocked K.State) (Rest K.State)) (o : Option Key) → P w.shared.shared → P (move_next (rules K limit) w o).shared.shared
  next_by w None h = h
  next_by w (Some k) h = move_by w k.number (get_or w.awake k.number None) h

  one_by : (w : World (Clocked K.State) (Rest K.State)) (b : Bool) → P w.shared.shared → P (cond b w (move_next (rules K limit) w (next (rules K limit) w.awake))).shared.shared
  one_by w true h = h
  one_by w false h = next_by w (next (rules K limit) w.awake) h

  run_keeps : (n : ℕ) (w : World (Clocked K.State) (Rest K.State)) → P w.shared.shared → P (run (rules K limit) n w).shared.shared
  run_keeps zero w h = h
  run_keeps (suc n) w h = run_keeps n (one (rules K limit) w) (one_by w ((rules K limit).is_over w.shared) h)

  pub moment_keeps : P (opening K).shared.shared → (n : ℕ) → P (moment K limit n).shared.shared
  moment_keeps h n = run_keeps n (opening K) h
