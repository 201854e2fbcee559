-- Steps of a schedule, on a world and its core.
use Rattle.std.proofs.Common.{◌≡◌, ℕ, zero, suc, ◌+◌, ◌<◌, Bool, true, false, cond, List, [], ◌∷◌, map, length, take, Option, Some, None, refl, sym, ap, ◌∙◌, subst, arith}
use Rattle.std.specs.Prelude.{option_map, slice_index_or, slice_set}
use Rattle.std.specs.Option.{is_some}
use Rattle.std.proofs.lemmas.Option.{same_Some}
use Rattle.bytecode.specs.Code.{Code}
use Rattle.bytecode.specs.Machine.{Frames, code_kind}
use Rattle.logical_clock.specs.declared.key.Key.{Key}
use Rattle.logical_clock.specs.Order.{keys, least}
use Rattle.turn_rule.specs.declared.Row.{Row}
use Rattle.turn_rule.specs.declared.Step.{Step}
use Rattle.turn_rule.specs.declared.Step.TheVariants.{Lend, Local, Publish, Look, Return, Settle}
use Rattle.turn_rule.specs.Schedule.{happens, step as stepped_machine, has_turn, parked_clock, perform_row, schedule, settle_key, RowStands}
use Rattle.turn_rule.proofs.Stable.{opened_stands, schedule_stands}
use Rattle.word.specs.Worlds.{Rest, is_deserted, moment, opening, rules}
use Rattle.word.proofs.Flows.{in_order}
use Rattle.word.proofs.Rise.{rising}
use Rattle.word.proofs.Shut.{shut}
use Rattle.word.proofs.Zeros.{zero_last}
use Rattle.word.proofs.Laws.{laws}
use Rattle.word.specs.declared.end.End.{End as Ending}
use Rattle.word.specs.declared.end.End.TheVariants.{Deadlock}
use Rattle.world_core_base.specs.Cores.{CodeMachine, CoreValue, Asks, FitsCore, HasTurn, IsCoreOf, shared_of, opened_core}
use Rattle.world_core.specs.Schedules.{WorldValue, IsWorldOf, IsMoment, IsFirstInFirstOut, end_in, first_world, has_turn_with, is_turn, goroutine_of, scheduled, turns_at, turns_in}
use Rattle.world_core_base.specs.Slots.{State, Rows, FitsRow, IsAwake, IsNobodyAwake, stepped_row, stepped_rows, waiting_clock}
use Rattle.world_core_base.proofs.Deserted.{deserted, inhabited}
use Rattle.world_core_base.proofs.Found.{waiting_found}
use Rattle.world_core_base.proofs.Leases.{core_set}

-- ---- the goroutines that are awake, and those that make a request

pub end_where : (core : CoreValue) (b : Bool) → core.ending ≡ None → is_deserted (map is_some core.rows) ≡ b → end_in core ≡ cond b (Some Deadlock) None
end_where core b going e = ap (λ (o : Option Ending). cond (is_some o) o (cond (is_deserted (map is_some core.rows)) (Some Deadlock) None)) going ∙ ap (λ t. cond t (Some Deadlock) None) e

pub end_awake : (core : CoreValue) (n : ℕ) → core.ending ≡ None → IsAwake core.rows n → end_in core ≡ None
end_awake core n going awake = end_where core false going (inhabited core.rows n awake.0 awake.1)

pub end_nobody : (core : CoreValue) → core.ending ≡ None → IsNobodyAwake core.rows → end_in core ≡ Some Deadlock
end_nobody core going nobody = end_where core true going (deserted core.rows nobody)

parked_row : (p : Option (Row State)) (c : ℕ) → waiting_clock p ≡ Some c → (row : Row State) × (p ≡ Some row) × (row.parked ≡ true)
parked_row None c h = cc
parked_row (Some row) c h = (row, refl, go row.parked refl h)
  where
    go : (b : Bool) → row.parked ≡ b → cond b (Some row.state.clock) None ≡ Some c → row.parked ≡ true
    go true e h' = e
    go false e h' = absurd cc

-- the goroutine that has the turn makes a request
pub turn_asks : (code : Code) (limit : ℕ) (core : CoreValue) (n : ℕ) → FitsCore code limit core → HasTurn core n → Asks code limit core.rows n
turn_asks code limit core n fits t =
    let p = parked_row (slice_index_or core.rows t.key.number None) t.key.clock (waiting_found core.rows t.key t.least) in
    let here : slice_index_or core.rows n None ≡ Some p.0 = subst (λ k. slice_index_or core.rows k None ≡ Some p.0) t.number p.1 in
    let row = subst (FitsRow code limit) here (fits.rows n) in
    record { row = p.0; here = here; state = row.state; asks = row.asks p.2; unlent = row.unlent p.2 }

pub none_of : {A : Type 0} (o : Option A) → ((x : A) → o ≡ Some x → ⊥) → o ≡ None
none_of None h = refl
none_of (Some x) h = absurd (h x refl)

-- ---- one step

module _ (code : Code) (limit : ℕ) where
  still : (m : CodeMachine) (w : WorldValue) → IsWorldOf m w → w.core.ending ≡ None → is_some (shared_of m).ending ≡ false
  still m w h going = ap is_some (sym h.core.ending ∙ going)

  happens_is : (m : CodeMachine) (step : Step) → is_some (shared_of m).ending ≡ false → happens (rules (code_kind code) limit) m step ≡ stepped_machine (rules (code_kind code) limit) m step
  happens_is m step over = ap (λ b. cond b m (stepped_machine (rules (code_kind code) limit) m step)) over

  -- after an end nothing happens
  pub over_step : (m : CodeMachine) (w : WorldValue) (step : Step) → IsWorldOf m w → is_some w.core.ending ≡ true → IsWorldOf (happens (rules (code_kind code) limit) m step) w × (length w.events ≡ length w.events + turns_at code limit m step)
  over_step m w step h ended =
      let over : is_some (shared_of m).ending ≡ true = ap is_some (sym h.core.ending) ∙ ended in (
        subst (λ x. IsWorldOf x w) (sym (ap (λ b. cond b m (stepped_machine (rules (code_kind code) limit) m step)) over)) h,
        let none : turns_at code limit m step ≡ 0 = ap (λ b. cond b 0 (cond (is_turn m code limit step) 1 0)) over in omega (arith, none),
      )

  row_step : (m : CodeMachine) (step : Step) (n : ℕ) → goroutine_of step ≡ Some n → stepped_machine (rules (code_kind code) limit) m step ≡ record m { rows = stepped_rows code limit step n m.rows }
  row_step m (Lend k) n e = ap (λ j. record m { rows = stepped_rows code limit (Lend k) j m.rows }) (same_Some k n e)
  row_step m (Local k) n e = ap (λ j. record m { rows = stepped_rows code limit (Local k) j m.rows }) (same_Some k n e)
  row_step m (Publish k) n e = ap (λ j. record m { rows = stepped_rows code limit (Publish k) j m.rows }) (same_Some k n e)
  row_step m (Look k) n e = ap (λ j. record m { rows = stepped_rows code limit (Look k) j m.rows }) (same_Some k n e)
  row_step m (Return k) n e = ap (λ j. record m { rows = stepped_rows code limit (Return k) j m.rows }) (same_Some k n e)
  row_step m Settle n e = cc

  no_turn : (m : CodeMachine) (step : Step) (n : ℕ) → goroutine_of step ≡ Some n → is_turn m code limit step ≡ false
  no_turn m (Lend k) n e = refl
  no_turn m (Local k) n e = refl
  no_turn m (Publish k) n e = refl
  no_turn m (Look k) n e = refl
  no_turn m (Return k) n e = refl
  no_turn m Settle n e = cc

  core_step : (m : CodeMachine) (core : CoreValue) (step : Step) (n : ℕ) → IsCoreOf m core → IsCoreOf (record m { rows = stepped_rows code limit step n m.rows }) (record core { rows = stepped_rows code limit step n core.rows })
  core_step m core step n h =
      subst (λ (rows : Rows). IsCoreOf (record m { rows = slice_set m.rows n (option_map (stepped_row code limit step) (slice_index_or rows n None)) }) (record core { rows = stepped_rows code limit step n core.rows })) h.rows
      (core_set m core n (option_map (stepped_row code limit step) (slice_index_or core.rows n None)) h)

  -- a step of one goroutine
  pub moved_step : (m : CodeMachine) (w new : WorldValue) (step : Step) (n : ℕ) → goroutine_of step ≡ Some n → IsWorldOf m w → w.core.ending ≡ None → new ≡ record w { core = record w.core { rows = stepped_rows code limit step n w.core.rows } }
      → IsWorldOf (happens (rules (code_kind code) limit) m step) new × (length new.events ≡ length w.events + turns_at code limit m step)
  moved_step m w new step n e h going is =
      let over = still m w h going in
      let next : happens (rules (code_kind code) limit) m step ≡ record m { rows = stepped_rows code limit step n m.rows } = happens_is m step over ∙ row_step m step n e in
      let world : IsWorldOf (record m { rows = stepped_rows code limit step n m.rows }) (record w { core = record w.core { rows = stepped_rows code limit step n w.core.rows } }) = record { core = core_step m w.core step n h.core; events = h.events; output = h.output } in
      let none : turns_at code limit m step ≡ 0 = ap (λ b. cond b 0 (cond (is_turn m code limit step) 1 0)) over ∙ ap (λ b. cond b 1 0) (no_turn m step n e) in
      let same = ap (λ (x : WorldValue). length x.events) is in (
        subst (λ x. IsWorldOf x new) (sym next) (subst (λ x. IsWorldOf (record m { rows = stepped_rows code limit step n m.rows }) x) (sym is) world),
        omega (arith, none, same),
      )

  least_is : (m : CodeMachine) (w : WorldValue) (o : Option Key) → IsWorldOf m w → least (keys waiting_clock 0 w.core.rows) ≡ o → least (keys (parked_clock (rules (code_kind code) limit)) 0 m.rows) ≡ o
  least_is m w o h e = subst (λ (rows : Rows). least (keys waiting_clock 0 rows) ≡ o) h.core.rows e

  -- nobody is parked, or the key is not below every floor
  pub idle_settle : (m : CodeMachine) (w : WorldValue) (o : Option Key) → IsWorldOf m w → w.core.ending ≡ None → least (keys waiting_clock 0 w.core.rows) ≡ o → has_turn_with w.core.rows o ≡ false → IsWorldOf (happens (rules (code_kind code) limit) m Settle) w × (length w.events ≡ length w.events + turns_at code limit m Settle)
  idle_settle m w o h going e waits =
      let over = still m w h going in
      let key = least_is m w o h e in
      let turn : has_turn_with m.rows o ≡ false = subst (λ (rows : Rows). has_turn_with rows o ≡ false) h.core.rows waits in
      let none : turns_at code limit m Settle ≡ 0 = ap (λ b. cond b 0 (cond (is_turn m code limit Settle) 1 0)) over ∙ ap (λ (x : Option Key). cond (has_turn_with m.rows x) 1 0) key ∙ ap (λ b. cond b 1 0) turn in (
        subst (λ x. IsWorldOf x w) (sym (happens_is m Settle over ∙ ap (settle_key (rules (code_kind code) limit) m) key ∙ go o turn)) h,
        omega (arith, none),
      )
    where
      go : (o : Option Key) → has_turn_with m.rows o ≡ false → settle_key (rules (code_kind code) limit) m o ≡ m
      go None t = refl
      go (Some k) t = ap (λ b. cond b (perform_row (rules (code_kind code) limit) m k.number (slice_index_or m.rows k.number None)) m) t

  -- the parked goroutine of least key has the turn
  pub turn_settle : (m : CodeMachine) (w new : WorldValue) (k : Key) → IsWorldOf m w → w.core.ending ≡ None → least (keys waiting_clock 0 w.core.rows) ≡ Some k → has_turn k 0 w.core.rows ≡ true
      → IsWorldOf (perform_row (rules (code_kind code) limit) m k.number (slice_index_or m.rows k.number None)) new → length new.events ≡ length w.events + 1 → IsWorldOf (happens (rules (code_kind code) limit) m Settle) new × (length new.events ≡ length w.events + turns_at code limit m Settle)
  turn_settle m w new k h going e turn next more =
      let over = still m w h going in
      let key = least_is m w (Some k) h e in
      let turn' : has_turn k 0 m.rows ≡ true = subst (λ (rows : Rows). has_turn k 0 rows ≡ true) h.core.rows turn in
      let one : turns_at code limit m Settle ≡ 1 = ap (λ b. cond b 0 (cond (is_turn m code limit Settle) 1 0)) over ∙ ap (λ (x : Option Key). cond (has_turn_with m.rows x) 1 0) key ∙ ap (λ b. cond b 1 0) turn' in (
        subst (λ x. IsWorldOf x new)
            (sym (happens_is m Settle over ∙ ap (settle_key (rules (code_kind code) limit) m) key ∙ ap (λ b. cond b (perform_row (rules (code_kind code) limit) m k.number (slice_index_or m.rows k.number None)) m) turn')) next,
        omega (arith, one, more),
      )

  -- ---- a list of steps

  pub more_steps : (steps : List Step) (i : ℕ) (d : Step) (m : CodeMachine) → i < length steps → schedule (rules (code_kind code) limit) (take (i + 1) steps) m ≡ happens (rules (code_kind code) limit) (schedule (rules (code_kind code) limit) (take i steps) m) (slice_index_or steps i d)
  more_steps [] i d m l = absurd (omega (arith, l))
  more_steps (s ∷ steps) zero d m l = refl
  more_steps (s ∷ steps) (suc i) d m l =
      let e : suc i + 1 ≡ suc (i + 1) = omega arith in
      rw e (more_steps steps i d (happens (rules (code_kind code) limit) m s) (omega (arith, l)))

  pub more_turns : (steps : List Step) (i : ℕ) (d : Step) (m : CodeMachine) → i < length steps
      → turns_in code limit (take (i + 1) steps) m ≡ turns_in code limit (take i steps) m + turns_at code limit (schedule (rules (code_kind code) limit) (take i steps) m) (slice_index_or steps i d)
  more_turns [] i d m l = absurd (omega (arith, l))
  more_turns (s ∷ steps) zero d m l = omega arith
  more_turns (s ∷ steps) (suc i) d m l =
      let e : suc i + 1 ≡ suc (i + 1) = omega arith in
      let h = more_turns steps i d (happens (rules (code_kind code) limit) m s) (omega (arith, l)) in
      rw e (omega (arith, h))

  -- after `steps` the world is the machine's, and has an event for each turn
  pub record Went (steps : List Step) (w : WorldValue) : Type 0 where
    pub world : IsWorldOf (scheduled code limit steps) w
    pub fits : FitsCore code limit w.core
    pub turns : length w.events ≡ turns_in code limit steps (first_world code limit)

  pub went_on : (steps : List Step) (i : ℕ) (d : Step) (w new : WorldValue) → i < length steps → Went (take i steps) w
      → ((m : CodeMachine) → IsWorldOf m w → IsWorldOf (happens (rules (code_kind code) limit) m (slice_index_or steps i d)) new) → ((m : CodeMachine) → IsWorldOf m w → length new.events ≡ length w.events + turns_at code limit m (slice_index_or steps i d)) → FitsCore code limit new.core → Went (take (i + 1) steps) new
  went_on steps i d w new l h happens' turns' fits =
      let m = scheduled code limit (take i steps) in
      let next = more_steps steps i d (first_world code limit) l in
      let more = more_turns steps i d (first_world code limit) l in
      let one = turns' m h.world in
      let had = h.turns in
      record { world = subst (λ x. IsWorldOf x new) (sym next) (happens' m h.world); fits = fits; turns = omega (arith, more, one, had) }

  pub opened_world : IsWorldOf (first_world code limit) (record { core = opened_core code; events = []; output = [] })
  opened_world = record { core = record { rows = refl; beds = tt; channels = refl; asleep = refl; live = refl; made = refl; events = refl; ending = refl }; events = refl; output = refl }

  same_awake : (ss : List (Option State)) (rows : Rows) → length rows ≡ length ss → ((n : ℕ) → RowStands (rules (code_kind code) limit) (slice_index_or ss n None) (slice_index_or rows n None)) → map is_some rows ≡ map is_some ss
  same_awake [] [] l h = refl
  same_awake [] (r ∷ rows) l h = absurd (omega (arith, l))
  same_awake (a ∷ ss) [] l h = absurd (omega (arith, l))
  same_awake (None ∷ ss) (None ∷ rows) l h = ap (λ bs. false ∷ bs) (same_awake ss rows (omega (arith, l)) (λ n. h (suc n)))
  same_awake (Some a ∷ ss) (Some r ∷ rows) l h = ap (λ bs. true ∷ bs) (same_awake ss rows (omega (arith, l)) (λ n. h (suc n)))
  same_awake (None ∷ ss) (Some r ∷ rows) l h = absurd (h zero)
  same_awake (Some a ∷ ss) (None ∷ rows) l h = absurd (h zero)

  -- what a schedule commits is what the one-thread run commits
  pub is_moment : (steps : List Step) (w : WorldValue) → IsWorldOf (scheduled code limit steps) w → IsMoment code limit w
  is_moment steps w h =
      let r = rules (code_kind code) limit in
      let L = laws (code_kind code) limit in
      let m = scheduled code limit steps in
      let q = schedule_stands r L steps (first_world code limit) (opening (code_kind code)) (opened_stands r L (opening (code_kind code))) in
      let end = moment (code_kind code) limit q.0 in
      let shared : m.shared.shared ≡ end.shared.shared = ap (λ (x : Rest Frames). x.shared) q.1.shared in
      let ending : w.core.ending ≡ end.shared.shared.ending = h.core.ending ∙ ap (λ s. s.ending) shared in
      let awake : map is_some w.core.rows ≡ map is_some end.awake = ap (map is_some) h.core.rows ∙ same_awake end.awake m.rows q.1.size q.1.rows in
      record {
        moves = q.0;
        events = h.events ∙ ap (λ s. s.events) shared;
        output = h.output ∙ ap (λ s. s.output) shared;
        ending = ap (λ (o : Option Ending). cond (is_some o) o (cond (is_deserted (map is_some w.core.rows)) (Some Deadlock) None)) ending
            ∙ ap (λ bs. cond (is_some end.shared.shared.ending) end.shared.shared.ending (cond (is_deserted bs) (Some Deadlock) None)) awake;
      }

  pub is_in_order : (steps : List Step) (w : WorldValue) → IsWorldOf (scheduled code limit steps) w → IsFirstInFirstOut w
  is_in_order steps w h =
      let r = rules (code_kind code) limit in
      let L = laws (code_kind code) limit in
      let q = schedule_stands r L steps (first_world code limit) (opening (code_kind code)) (opened_stands r L (opening (code_kind code))) in
      let shared : (scheduled code limit steps).shared.shared ≡ (moment (code_kind code) limit q.0).shared.shared = ap (λ (x : Rest Frames). x.shared) q.1.shared in
      let events = h.events ∙ ap (λ s. s.events) shared in
      let channels = h.core.channels ∙ ap (λ s. s.channels) shared in
      record {
        order = λ c. rw (events, channels) (in_order (code_kind code) limit q.0 c);
        rising = λ c. rw events (rising (code_kind code) limit q.0 c);
        shut = λ c. rw events (shut (code_kind code) limit q.0 c);
        zero = λ c. rw events (zero_last (code_kind code) limit q.0 c);
      }
