-- Every kind of state has the laws of turns.
use Rattle.std.proofs.Common.{◌≡◌, ℕ, ◌+◌, ◌≤◌, Bool, true, false, cond, Option, Some, None, refl, arith}
use Rattle.std.specs.Prelude.{unwrap_or, ◌==◌}
use Rattle.std.specs.Option.{is_some}
use Rattle.turn_rule.specs.Schedule.{Laws}
use Rattle.word.specs.Values.{Exhausted}
use Rattle.word.specs.Kinds.{Next, Slides, Ticks, Asks, Stuck, GoroutineKind, Clocked, at, local_of, asks_of, does}
use Rattle.word.specs.Worlds.{rules}

ticks_climb : {A : Type 0} (s : Clocked A) (a : A) (b : Bool) → s.clock ≤ (unwrap_or (cond b None (Some (at (s.clock + 1) a))) s).clock
ticks_climb s a true = omega arith
ticks_climb s a false = omega arith

climbs_by : {A : Type 0} (limit : ℕ) (s : Clocked A) (x : Next A) → s.clock ≤ (unwrap_or (local_of limit s.clock x) s).clock
climbs_by limit s (Slides a) = omega arith
climbs_by limit s (Ticks a) = ticks_climb s a (s.clock == limit)
climbs_by limit s (Asks q) = omega arith
climbs_by limit s Stuck = omega arith

ticks_park : {A : Type 0} (s : Clocked A) (a : A) (b : Bool) → is_some (cond b (Some Exhausted) None) ≡ true → ◌≡◌ {A = Option (Clocked A)} (cond b None (Some (at (s.clock + 1) a))) None
ticks_park s a true h = refl
ticks_park s a false h = cc

parks_by : {A : Type 0} (limit : ℕ) (s : Clocked A) (x : Next A) → is_some (asks_of limit s.clock x) ≡ true → local_of limit s.clock x ≡ None
parks_by limit s (Slides a) h = cc
parks_by limit s (Ticks a) h = ticks_park s a (s.clock == limit) h
parks_by limit s (Asks q) h = refl
parks_by limit s Stuck h = refl

pub laws : (K : GoroutineKind) (limit : ℕ) → Laws (rules K limit)
laws K limit = record {
  climbs = λ s. climbs_by limit s (does K s);
  parks = λ s h. parks_by limit s (does K s) h;
}
