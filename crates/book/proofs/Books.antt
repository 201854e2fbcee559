-- Each call of the book leaves it in a state of the one-thread run.
use Rattle.std.proofs.Common.{◌≡◌, ◌≢◌, ℕ, zero, suc, ◌+◌, ◌*◌, ◌<◌, ◌≤◌, ◌^◌, Bool, true, false, cond, List, [], ◌∷◌, ◌++◌, map, length, take, drop, Option, Some, None, refl, sym, ap, ◌∙◌, subst, inl, inr, arith, length-append, get_or-set_same}
use Rattle.std.specs.Prelude.{slice_index_or, slice_set, slice_get, option_map}
use Rattle.std.specs.Option.{is_some, MatchOption}
use Rattle.std.proofs.lemmas.Bool.{true≢false, cases_lt}
use Rattle.std.proofs.Math.Seq.{take-length}
use Rattle.std.proofs.lemmas.List.{drop_all, get_or_past}
use Rattle.std.proofs.lemmas.Option.{none-some}
use Rattle.bytecode.specs.Code.{Code}
use Rattle.bytecode.specs.Machine.{Frames, code_kind}
use Rattle.bytecode.specs.Rules.{IsVerified}
use Rattle.clock_table.specs.declared.view.Row.{Row as Word}
use Rattle.clock_table.specs.declared.view.Row.TheVariants.{Home, Lent}
use Rattle.clock_table.specs.Clocks.{IsLentOn, loan_for}
use Rattle.goroutine_vm.specs.Advance.{IsStateOf}
use Rattle.logical_clock.specs.declared.key.Key.{Key}
use Rattle.logical_clock.specs.Order.{is_before, keys, least}
use Rattle.turn_rule.specs.declared.Row.{Row}
use Rattle.turn_rule.specs.Turns.{Leads, Rules, run, World as Whole}
use Rattle.turn_rule.specs.Schedule.{Stands, at_row, lend, opened, parked_clock, perform_row, settle_key, has_turn}
use Rattle.turn_rule.proofs.Stable.{opened_stands, run_add}
use Rattle.word.specs.declared.end.End.{End as Ending}
use Rattle.word.specs.declared.end.End.TheVariants.{Deadlock}
use Rattle.word.specs.declared.request.Event.{Event as Recorded}
use Rattle.word.specs.Kinds.{asks}
use Rattle.word.specs.Views.{event_of}
use Rattle.word.specs.Worlds.{Rest, rules, opening, moment, is_deserted, end_of}
use Rattle.word.specs.Values.{Event, Sleeper}
use Rattle.tracer.specs.Trace.{trace}
use Rattle.tracer.proofs.Traces.{trace-push}
use Rattle.word.proofs.Apart.{apart}
use Rattle.word.proofs.Found.{In}
use Rattle.word.proofs.Laws.{laws}
use Rattle.world_core_base.specs.Cores.{CodeMachine, CoreValue, FitsCore, HasTurn, IsCoreOf, IsFreeIn, IsLentRow, Performs, Asks, bytes_of, shared_of}
use Rattle.world_core_base.specs.Talking.{TakesTurn}
use Rattle.world_core_base.specs.Slots.{State, Rows, FitsRow, IsAwake, IsNobodyAwake, IsBefore, free_row, lent_row, waiting_clock}
use Rattle.world_core_base.proofs.Leases.{core_fits_set, core_set, opened_fits}
use Rattle.world_core_base.proofs.Others.{performed_other}
use Rattle.world_core_base.proofs.Deserted.{deserted}
use Rattle.book.specs.Desks.{Desk, CommitsNext, IsDesk, IsPiece, IsTracePiece, IsEnd, kept_line, kept_trace, KeepsLeases, StandsBefore, Held, IsLent, brought, opened_desk, lent_desk}
use Rattle.book.proofs.Desks.{lend_keeps, bring_keeps, lent_other, row_awake, settle_keeps, parked_asks, waits_alone, waits_before, nobody_awake}

abbrev rules_of : Desk → Rules State (Rest Frames)
rules_of d = rules (code_kind d.code) d.limit

-- ---- what is kept of the trace

nothing_kept : (traces : Bool) → length (kept_trace traces []) ≡ 0
nothing_kept true = refl
nothing_kept false = refl

nothing_left : (traces : Bool) → drop 0 (kept_trace traces []) ≡ []
nothing_left true = refl
nothing_left false = refl

line_more : (traces : Bool) (events : List Event) (event : Event) → kept_trace traces (events ++ event ∷ []) ≡ kept_trace traces events ++ kept_line traces event
line_more true events event = trace-push events event
line_more false events event = refl

-- ---- open

pub opened_is_desk : (code : Code) (limit : ℕ) (traces : Bool) → IsVerified code → limit ≤ 2 ^ 62 → IsDesk (opened_desk code limit traces)
opened_is_desk code limit traces v le =
    let r = rules (code_kind code) limit in
    let w = opening (code_kind code) in
    record {
      verified = v;
      limit = le;
      many = omega arith;
      room = omega arith;
      trace_room = omega arith;
      fits = opened_fits code limit v le;
      at = (0, opened r w, record { stands = opened_stands r (laws (code_kind code) limit) w; core = record { rows = refl; beds = tt; channels = refl; asleep = refl; live = refl; made = refl; events = refl; ending = refl }; size = refl; bytes = refl; trace_size = nothing_kept traces; trace_bytes = nothing_left traces });
    }

-- ---- lend and bring

-- words and looks count for nothing here
pub worded : (d : Desk) (words : List Word) (looks : ℕ) → IsDesk d → IsDesk (record d { words = words; looks = looks })
worded d words looks h =
    let a = h.at.2 in
    record {
      verified = h.verified;
      limit = h.limit;
      many = h.many;
      room = h.room;
      trace_room = h.trace_room;
      fits = h.fits;
      at = (h.at.0, h.at.1, record { stands = a.stands; core = a.core; size = a.size; bytes = a.bytes; trace_size = a.trace_size; trace_bytes = a.trace_bytes });
    }

abbrev lent_core : Desk → ℕ → State → Desk
lent_core d n s = record d { core = record d.core { rows = slice_set d.core.rows n (Some (lent_row s)) } }

lent_row_is_desk : (d : Desk) (n : ℕ) (s : State) → IsDesk d → IsFreeIn d.core.rows n s → IsDesk (lent_core d n s)
lent_row_is_desk d n s h free =
    let r = rules_of d in
    let m = h.at.1 in
    let a = h.at.2 in
    let here : slice_index_or m.rows n None ≡ Some (free_row s) = subst (λ (rows : Rows). slice_index_or rows n None ≡ Some (free_row s)) a.core.rows free in
    let row : option_map (λ (row : Row State). lend r row row.lease) (slice_index_or m.rows n None) ≡ Some (lent_row s) = ap (option_map (λ (row : Row State). lend r row row.lease)) here in
    let fits : FitsRow d.code d.limit (Some (free_row s)) = subst (FitsRow d.code d.limit) free (h.fits.rows n) in
    record {
      verified = h.verified;
      limit = h.limit;
      many = h.many;
      room = h.room;
      trace_room = h.trace_room;
      fits = core_fits_set d.code d.limit d.core n (Some (lent_row s)) h.fits (record { state = fits.state; present = fits.state; asks = λ e. absurd (true≢false (sym e)); unlent = λ e. absurd (true≢false (sym e)) });
      at = (
        h.at.0,
        at_row r (lend r) m n,
        record {
          stands = lend_keeps r (laws (code_kind d.code) d.limit) m (moment (code_kind d.code) d.limit h.at.0) n a.stands;
          core = subst (λ (o : Option (Row State)). IsCoreOf (record m { rows = slice_set m.rows n o }) (lent_core d n s).core) (sym row) (core_set m d.core n (Some (lent_row s)) a.core);
          size = a.size;
          bytes = a.bytes;
          trace_size = a.trace_size;
          trace_bytes = a.trace_bytes;
        },
      );
    }

pub lent_is_desk : (d : Desk) (l : Held) → IsDesk d → IsFreeIn d.core.rows l.number l.base → IsDesk (lent_desk d l)
lent_is_desk d l h free = worded (lent_core d l.number l.base) (lent_desk d l).words d.looks (lent_row_is_desk d l.number l.base h free)

abbrev back_row : Desk → State → Row State
back_row d s = record { state = s; floor = s.clock; lease = None; parked = is_some (asks (code_kind d.code) d.limit s) }

pub brought_is_desk : (d : Desk) (n : ℕ) (row : Row State) (s : State) → IsDesk d → slice_index_or d.core.rows n None ≡ Some row → Leads (rules (code_kind d.code) d.limit) row.state s → IsStateOf d.code d.limit s
    → IsDesk (record d { core = record d.core { rows = slice_set d.core.rows n (Some (record { state = s; floor = s.clock; lease = None; parked = is_some (asks (code_kind d.code) d.limit s) })) } })
brought_is_desk d n row s h here leads fits =
    let r = rules_of d in
    let m = h.at.1 in
    let a = h.at.2 in
    let at : slice_index_or m.rows n None ≡ Some row = subst (λ (rows : Rows). slice_index_or rows n None ≡ Some row) a.core.rows here in
    record {
      verified = h.verified;
      limit = h.limit;
      many = h.many;
      room = h.room;
      trace_room = h.trace_room;
      fits = core_fits_set d.code d.limit d.core n (Some (back_row d s)) h.fits (record { state = fits; present = tt; asks = λ e. e; unlent = λ e. refl });
      at = (
        h.at.0,
        record m { rows = slice_set m.rows n (Some (back_row d s)) },
        record {
          stands = bring_keeps r (laws (code_kind d.code) d.limit) m (moment (code_kind d.code) d.limit h.at.0) n row s s.clock refl at leads a.stands;
          core = core_set m d.core n (Some (back_row d s)) a.core;
          size = a.size;
          bytes = a.bytes;
          trace_size = a.trace_size;
          trace_bytes = a.trace_bytes;
        },
      );
    }

-- ---- settle

least_in : (d : Desk) (m : CodeMachine) → IsCoreOf m d.core → (o : Option Key) → least (keys waiting_clock 0 d.core.rows) ≡ o → least (keys (parked_clock (rules_of d)) 0 m.rows) ≡ o
least_in d m c o e = subst (λ (rows : Rows). least (keys waiting_clock 0 rows) ≡ o) c.rows e

pub asks_at : (d : Desk) (n : ℕ) → IsDesk d → HasTurn d.core n → Asks d.code d.limit d.core.rows n
asks_at d n h t =
    let a = h.at.2 in
    let p = parked_asks (rules_of d) (laws (code_kind d.code) d.limit) h.at.1 (moment (code_kind d.code) d.limit h.at.0) a.stands t.key (least_in d h.at.1 a.core (Some t.key) t.least) in
    let here : slice_index_or d.core.rows n None ≡ Some p.0 = subst (λ (rows : Rows). slice_index_or rows n None ≡ Some p.0) (sym a.core.rows) (subst (λ k. slice_index_or h.at.1.rows k None ≡ Some p.0) t.number p.1) in
    record { row = p.0; here = here; state = (subst (FitsRow d.code d.limit) here (h.fits.rows n)).state; asks = p.4; unlent = (subst (FitsRow d.code d.limit) here (h.fits.rows n)).unlent p.2 }

at_end : {A : Type 0} (xs : List A) (x : A) → slice_get (xs ++ x ∷ []) (length xs) ≡ Some x
at_end [] x = refl
at_end (y ∷ xs) x = at_end xs x

drop_more : {A : Type 0} (n : ℕ) (xs ys : List A) → n ≤ length xs → drop n (xs ++ ys) ≡ drop n xs ++ ys
drop_more zero xs ys le = refl
drop_more (suc n) [] ys le = absurd (omega (arith, le))
drop_more (suc n) (x ∷ xs) ys le = drop_more n xs ys (omega (arith, le))

-- if `all` has `out` elements more than `kept`, this still holds once `more` is appended to both
longer : (all new kept more : List ℕ) (out : ℕ) → new ≡ all ++ more → length all ≡ out + length kept → length new ≡ out + length (kept ++ more)
longer all new kept more out e size =
    let long = ap length e ∙ length-append all more in
    let sum = length-append kept more in
    omega (arith, long, sum, size)

-- and these are still the last of them
kept_more : (all new kept more : List ℕ) (out : ℕ) → new ≡ all ++ more → length all ≡ out + length kept → drop out all ≡ kept → drop out new ≡ kept ++ more
kept_more all new kept more out e size bytes = ap (drop out) e ∙ drop_more out all more (omega (arith, size)) ∙ ap (λ xs. xs ++ more) bytes

-- the bound of 2^64 bytes for each event is kept
fits_more : (out : ℕ) (kept more : List ℕ) (events after : ℕ) → out + length kept ≤ events * 2 ^ 64 → length (kept ++ more) < 2 ^ 64 → after ≡ events + 1 → out + length (kept ++ more) ≤ after * 2 ^ 64
fits_more out kept more events after room fits one =
    let sum = length-append kept more in
    omega (arith, room, fits, one, sum)

-- the world after the goroutine that has the turn was served
abbrev pub after_turn : Desk → CodeMachine → ℕ → CodeMachine
after_turn d m n = perform_row (rules_of d) m n (slice_index_or m.rows n None)

-- it stands where the one-thread run comes to
turn_stands : (d : Desk) (n : ℕ) (h : IsDesk d) → HasTurn d.core n → (k : ℕ) × Stands (rules_of d) (after_turn d h.at.1 n) (moment (code_kind d.code) d.limit k)
turn_stands d n h t =
    let r = rules_of d in
    let L = laws (code_kind d.code) d.limit in
    let m = h.at.1 in
    let a = h.at.2 in
    let w = moment (code_kind d.code) d.limit h.at.0 in
    let going : is_some (shared_of m).ending ≡ false = ap is_some (sym a.core.ending ∙ t.going) in
    let s = settle_keeps r L m w a.stands going in
    let turn : has_turn t.key 0 m.rows ≡ true = subst (λ (rows : Rows). has_turn t.key 0 rows ≡ true) a.core.rows t.turn in
    let settled : settle_key r m (least (keys (parked_clock r) 0 m.rows)) ≡ after_turn d m n =
    ap (settle_key r m) (least_in d m a.core (Some t.key) t.least) ∙ ap (λ b. cond b (perform_row r m t.key.number (slice_index_or m.rows t.key.number None)) m) turn ∙ ap (λ k. perform_row r m k (slice_index_or m.rows k None)) t.number in
    (h.at.0 + s.0, subst (λ x. Stands r (after_turn d m n) x) (sym (run_add r L h.at.0 s.0 (opening (code_kind d.code)))) (subst (λ x. Stands r x (run r s.0 w)) settled s.1))

-- the desk after an event
abbrev pub after_event : Desk → Recorded → CoreValue → Desk
after_event d event new = record d { core = new; pending = d.pending ++ bytes_of event; lines = d.lines ++ kept_line d.traces (event_of event) }

pub commits : (d : Desk) (n : ℕ) (event : Recorded) (new : CoreValue) → IsDesk d → HasTurn d.core n → Performs d.code d.limit d.core n event (bytes_of event) new → FitsCore d.code d.limit new → length (d.pending ++ bytes_of event) < 2 ^ 64 → length (d.lines ++ kept_line d.traces (event_of event)) < 2 ^ 64
    → IsDesk (after_event d event new) × CommitsNext d event (after_event d event new)
commits d n event new h t done fits room trace_room =
    let bytes = bytes_of event in
    let line = kept_line d.traces (event_of event) in
    let m = h.at.1 in
    let a = h.at.2 in
    let p = done m a.core in
    let s = turn_stands d n h t in
    let after = after_turn d m n in
    let events = ap length p.events ∙ length-append (shared_of m).events (event_of event ∷ []) in
    let one : new.events ≡ d.core.events + 1 = p.core.events ∙ events ∙ ap (λ k. k + 1) (sym a.core.events) in
    let was = h.fits.count (ap is_some t.going) in
    let lines = ap (kept_trace d.traces) p.events ∙ line_more d.traces (shared_of m).events (event_of event) in
    let before = kept_trace d.traces (shared_of m).events in (
      record {
        verified = h.verified;
        limit = h.limit;
        many = omega (arith, was, one);
        room = fits_more d.taken d.pending bytes d.core.events new.events h.room room one;
        trace_room = fits_more d.traced d.lines line d.core.events new.events h.trace_room trace_room one;
        fits = fits;
        at = (
          s.0,
          after,
          record {
            stands = s.1;
            core = p.core;
            size = longer (shared_of m).output (shared_of after).output d.pending bytes d.taken p.output a.size;
            bytes = kept_more (shared_of m).output (shared_of after).output d.pending bytes d.taken p.output a.size a.bytes;
            trace_size = longer before (kept_trace d.traces (shared_of after).events) d.lines line d.traced lines a.trace_size;
            trace_bytes = kept_more before (kept_trace d.traces (shared_of after).events) d.lines line d.traced lines a.trace_size a.trace_bytes;
          },
        );
      },
      record {
        number = n;
        turn = t;
        performs = done;
        is_next = (
          s.0,
          ap (λ es. slice_get es d.core.events) (sym (ap (λ (x : Rest Frames). x.shared.events) s.1.shared) ∙ p.events)
              ∙ ap (λ k. slice_get ((shared_of m).events ++ event_of event ∷ []) k) a.core.events ∙ at_end (shared_of m).events (event_of event),
        );
        one_more = one;
        pending = refl;
        code = refl;
        limit = refl;
        taken = refl;
        lines = refl;
        traces = refl;
        traced = refl;
        words = refl;
        looks = refl;
      },
    )

-- the book after a commit, if the bytes and the lines that are left are known by equations
pub committed : (d : Desk) (n : ℕ) (event : Recorded) (new : CoreValue) (pending lines : List ℕ) → IsDesk d → HasTurn d.core n → Performs d.code d.limit d.core n event (bytes_of event) new → FitsCore d.code d.limit new
    → pending ≡ d.pending ++ bytes_of event → lines ≡ d.lines ++ kept_line d.traces (event_of event) → length pending < 2 ^ 64 → length lines < 2 ^ 64
    → IsDesk (record d { core = new; pending = pending; lines = lines }) × CommitsNext d event (record d { core = new; pending = pending; lines = lines })
committed d n event new pending lines h turn done fits bytes line room trace_room =
    let P : List ℕ → Type 0 = λ xs. length xs < 2 ^ 64 in
    let r = commits d n event new h turn done fits (subst P bytes room) (subst P line trace_room) in
    subst (λ (xs : List ℕ). IsDesk (record d { core = new; pending = xs; lines = lines }) × CommitsNext d event (record d { core = new; pending = xs; lines = lines })) (sym bytes)
    (subst (λ (ls : List ℕ). IsDesk (record d { core = new; pending = d.pending ++ bytes_of event; lines = ls }) × CommitsNext d event (record d { core = new; pending = d.pending ++ bytes_of event; lines = ls })) (sym line) r)

-- a lent goroutine is neither the actor nor asleep, so its row stays
pub lent_stays : (d : Desk) (n : ℕ) (core : CoreValue) (h : IsDesk d) → HasTurn d.core n → core.rows ≡ (after_turn d h.at.1 n).rows → (k : ℕ) (base : State) → IsLentRow d.core.rows k base → IsLentRow core.rows k base
lent_stays d n core h t rows k base lent =
    let r = rules_of d in
    let L = laws (code_kind d.code) d.limit in
    let m = h.at.1 in
    let a = h.at.2 in
    let w = moment (code_kind d.code) d.limit h.at.0 in
    let p = parked_asks r L m w a.stands t.key (least_in d m a.core (Some t.key) t.least) in
    let actor : slice_index_or m.rows n None ≡ Some p.0 = subst (λ k. slice_index_or m.rows k None ≡ Some p.0) t.number p.1 in
    let here : slice_index_or m.rows k None ≡ Some lent.0 = subst (λ (rows : Rows). slice_index_or rows k None ≡ Some lent.0) a.core.rows lent.1 in
    let other = lent_other r L m w a.stands n k p.0 lent.0 actor p.2 here lent.2 in
    let s = row_awake r L m w a.stands k lent.0 here in
    let awake : (y : Sleeper) → In y (shared_of m).asleep → k ≢ y.number = λ y i same.
    let lies = apart (code_kind d.code) d.limit h.at.0 y (subst (λ (x : Rest Frames). In y x.shared.asleep) a.stands.shared i) in
    let nobody : slice_index_or w.awake k None ≡ None = ap (λ j. slice_index_or w.awake j None) same ∙ lies.1 in
    none-some s.0 (sym nobody ∙ s.1) in
    let stays = performed_other d.code d.limit m n k p.0 lent.0 actor here other awake in
    (lent.0, ap (λ (rows : Rows). slice_index_or rows k None) rows ∙ stays, lent.2, lent.3)

-- so its lease stays out
pub commits_keeps : (d e : Desk) (event : Recorded) → IsDesk d → CommitsNext d event e → KeepsLeases d e
commits_keeps d e event h c l out = record {
  code = c.code ∙ out.code;
  limit = c.limit ∙ out.limit;
  row = lent_stays d c.number e.core h c.turn (c.performs h.at.1 h.at.2.core).core.rows l.number l.base out.row;
  word = rw (c.code, c.limit, c.words) out.word;
}

-- ---- turns without events to show, where no lines are kept

silent_trace : (traces : Bool) → traces ≡ false → (xs ys : List Event) → kept_trace traces xs ≡ kept_trace traces ys
silent_trace traces silent xs ys = ap (λ b. kept_trace b xs) silent ∙ sym (ap (λ b. kept_trace b ys) silent)

pub turn_is_desk : (d : Desk) (core : CoreValue) → IsDesk d → d.traces ≡ false → TakesTurn d.code d.limit d.core core → IsDesk (record d { core = core })
turn_is_desk d core h silent t =
    let m = h.at.1 in
    let a = h.at.2 in
    let p = t.passes.passed m a.core in
    let s = turn_stands d t.number h t.turn in
    let lines = silent_trace d.traces silent (shared_of (after_turn d m t.number)).events (shared_of m).events in
    let was = h.fits.count (ap is_some t.turn.going) in
    let one = t.passes.event in
    let room = h.room in
    let trace_room = h.trace_room in
    record {
      verified = h.verified;
      limit = h.limit;
      many = omega (arith, was, one);
      room = omega (arith, room, one);
      trace_room = omega (arith, trace_room, one);
      fits = t.fits;
      at = (
        s.0,
        after_turn d m t.number,
        record {
          stands = s.1;
          core = p.core;
          size = ap length p.output ∙ a.size;
          bytes = ap (drop d.taken) p.output ∙ a.bytes;
          trace_size = ap length lines ∙ a.trace_size;
          trace_bytes = ap (drop d.traced) lines ∙ a.trace_bytes;
        },
      );
    }

pub turn_keeps : (d : Desk) (core : CoreValue) → IsDesk d → TakesTurn d.code d.limit d.core core → KeepsLeases d (record d { core = core })
turn_keeps d core h t l out = record {
  code = out.code;
  limit = out.limit;
  row = lent_stays d t.number core h t.turn (t.passes.passed h.at.1 h.at.2.core).core.rows l.number l.base out.row;
  word = out.word;
}

abbrev begun : Desk → ℕ → Whole State (Rest Frames)
begun d n = moment (code_kind d.code) d.limit n

-- if nobody is parked, a goroutine that is awake stands before whatever comes
pub waits_free : (d : Desk) (n : ℕ) → IsDesk d → d.core.ending ≡ None → least (keys waiting_clock 0 d.core.rows) ≡ None → IsAwake d.core.rows n → StandsBefore d.core n
waits_free d n h going e awake =
    let a = h.at.2 in
    let here : slice_index_or h.at.1.rows n None ≡ Some awake.0 = subst (λ (rows : Rows). slice_index_or rows n None ≡ Some awake.0) a.core.rows awake.1 in
    record {
      going = going;
      row = awake.0;
      here = awake.1;
      runs = waits_alone (rules_of d) (laws (code_kind d.code) d.limit) h.at.1 n awake.0 (least_in d h.at.1 a.core None e) here;
      below = subst (λ (o : Option Key). MatchOption o (Unit {0}) (λ k. is_before (record { clock = awake.0.floor; number = n }) k ≡ true)) (sym e) tt;
    }

-- whose floor the least parked key is not below stands before it
pub waits_key : (d : Desk) (n : ℕ) (k : Key) → IsDesk d → d.core.ending ≡ None → least (keys waiting_clock 0 d.core.rows) ≡ Some k → IsBefore d.core.rows k n → StandsBefore d.core n
waits_key d n k h going e b =
    let a = h.at.2 in
    let here : slice_index_or h.at.1.rows n None ≡ Some b.0 = subst (λ (rows : Rows). slice_index_or rows n None ≡ Some b.0) a.core.rows b.1 in
    let q = waits_before (rules_of d) (laws (code_kind d.code) d.limit) h.at.1 (begun d h.at.0) a.stands k n b.0 (least_in d h.at.1 a.core (Some k) e) here b.2 b.3 in
    record {
      going = going;
      row = b.0;
      here = b.1;
      runs = q.0;
      below = subst (λ (o : Option Key). MatchOption o (Unit {0}) (λ k. is_before (record { clock = b.0.floor; number = n }) k ≡ true)) (sym e) q.1;
    }

ends_by : (w : Whole State (Rest Frames)) (e : Ending) (o : Option Ending) → w.shared.shared.ending ≡ o → o ≡ Some e → end_of w ≡ Some e
ends_by w e o is ended = ap (λ (x : Option Ending). cond (is_some x) x (cond (is_deserted (map is_some w.awake)) (Some Deadlock) None)) (is ∙ ended)

-- an event ended the run
pub ended_desk : (d : Desk) (e : Ending) → IsDesk d → d.core.ending ≡ Some e → IsEnd d.code d.limit d.traces d.core.events (d.taken + length d.pending) (d.traced + length d.lines) e
ended_desk d e h ended =
    let a = h.at.2 in
    let same = sym a.stands.shared in
    record {
      moves = h.at.0;
      events = ap (λ (x : Rest Frames). length x.shared.events) same ∙ sym a.core.events;
      bytes = ap (λ (x : Rest Frames). length x.shared.output) same ∙ a.size;
      lines = ap (λ (x : Rest Frames). length (kept_trace d.traces x.shared.events)) same ∙ a.trace_size;
      ending = ends_by (begun d h.at.0) e d.core.ending (ap (λ (x : Rest Frames). x.shared.ending) same ∙ sym a.core.ending) ended;
    }

-- no goroutine is awake
pub dead_desk : (d : Desk) → IsDesk d → d.core.ending ≡ None → IsNobodyAwake d.core.rows → IsEnd d.code d.limit d.traces d.core.events (d.taken + length d.pending) (d.traced + length d.lines) Deadlock
dead_desk d h going nobody =
    let a = h.at.2 in
    let w = begun d h.at.0 in
    let same = sym a.stands.shared in
    let none : w.shared.shared.ending ≡ None = ap (λ (x : Rest Frames). x.shared.ending) same ∙ sym a.core.ending ∙ going in
    let all = nobody_awake (rules_of d) (laws (code_kind d.code) d.limit) h.at.1 w a.stands (λ n. subst (λ (rows : Rows). slice_index_or rows n None ≡ None) a.core.rows (nobody n)) in
    record {
      moves = h.at.0;
      events = ap (λ (x : Rest Frames). length x.shared.events) same ∙ sym a.core.events;
      bytes = ap (λ (x : Rest Frames). length x.shared.output) same ∙ a.size;
      lines = ap (λ (x : Rest Frames). length (kept_trace d.traces x.shared.events)) same ∙ a.trace_size;
      ending = ap (λ (x : Option Ending). cond (is_some x) x (cond (is_deserted (map is_some w.awake)) (Some Deadlock) None)) none ∙ ap (λ b. cond b (Some Deadlock) None) (deserted w.awake all);
    }

-- what was not taken out follows what was
pub pending_stands : (d : Desk) → IsDesk d → IsPiece d.code d.limit d.taken d.pending
pending_stands d h =
    let a = h.at.2 in
    let same = ap (λ (x : Rest Frames). x.shared.output) (sym a.stands.shared) in
    let long = ap length same ∙ a.size in
    (h.at.0, omega (arith, long), ap (λ xs. take (length d.pending) (drop d.taken xs)) same ∙ ap (take (length d.pending)) a.bytes ∙ take-length d.pending)

-- like `pending_stands`, of the trace, whatever is kept of it
kept_stands : (traces : Bool) (events : List Event) (from : ℕ) (bytes : List ℕ) → length (kept_trace traces events) ≡ from + length bytes → drop from (kept_trace traces events) ≡ bytes
    → (from + length bytes ≤ length (trace events)) × (take (length bytes) (drop from (trace events)) ≡ bytes)
kept_stands true events from bytes size last = (omega (arith, size), ap (take (length bytes)) last ∙ take-length bytes)
kept_stands false events from [] size last = (omega (arith, size), refl)
kept_stands false events from (b ∷ bytes) size last = absurd (omega (arith, size))

pub lines_stand : (d : Desk) → IsDesk d → IsTracePiece d.code d.limit d.traced d.lines
lines_stand d h =
    let a = h.at.2 in
    let same = ap (λ (x : Rest Frames). kept_trace d.traces x.shared.events) (sym a.stands.shared) in
    let k = kept_stands d.traces (moment (code_kind d.code) d.limit h.at.0).shared.shared.events d.traced d.lines (ap length same ∙ a.trace_size) (ap (drop d.traced) same ∙ a.trace_bytes) in
    (h.at.0, k.0, k.1)

-- once all that was left is taken out, nothing is left
none_left : (all kept left : List ℕ) (out count : ℕ) → length all ≡ out + length kept → count ≡ length kept → left ≡ [] → length all ≡ out + count + length left
none_left all kept left out count size whole none =
    let long = ap length none in
    omega (arith, size, whole, long)

dropped_all : (all kept left : List ℕ) (out count : ℕ) → length all ≡ out + length kept → count ≡ length kept → left ≡ [] → drop (out + count) all ≡ left
dropped_all all kept left out count size whole none = drop_all (out + count) all (omega (arith, size, whole)) ∙ sym none

fits_still : (kept left : List ℕ) (out count most : ℕ) → count ≡ length kept → left ≡ [] → out + length kept ≤ most → out + count + length left ≤ most
fits_still kept left out count most whole none room =
    let long = ap length none in
    omega (arith, room, whole, long)

pub output_taken : (d : Desk) (count : ℕ) (left : List ℕ) → IsDesk d → count ≡ length d.pending → left ≡ [] → IsDesk (record d { taken = d.taken + count; pending = left })
output_taken d count left h whole none =
    let a = h.at.2 in
    let all = (shared_of h.at.1).output in
    record {
      verified = h.verified;
      limit = h.limit;
      many = h.many;
      room = fits_still d.pending left d.taken count (d.core.events * 2 ^ 64) whole none h.room;
      trace_room = h.trace_room;
      fits = h.fits;
      at = (h.at.0, h.at.1, record { stands = a.stands; core = a.core; size = none_left all d.pending left d.taken count a.size whole none; bytes = dropped_all all d.pending left d.taken count a.size whole none; trace_size = a.trace_size; trace_bytes = a.trace_bytes });
    }

pub trace_taken : (d : Desk) (count : ℕ) (left : List ℕ) → IsDesk d → count ≡ length d.lines → left ≡ [] → IsDesk (record d { traced = d.traced + count; lines = left })
trace_taken d count left h whole none =
    let a = h.at.2 in
    let all = kept_trace d.traces (shared_of h.at.1).events in
    record {
      verified = h.verified;
      limit = h.limit;
      many = h.many;
      room = h.room;
      trace_room = fits_still d.lines left d.traced count (d.core.events * 2 ^ 64) whole none h.trace_room;
      fits = h.fits;
      at = (h.at.0, h.at.1, record { stands = a.stands; core = a.core; size = a.size; bytes = a.bytes; trace_size = none_left all d.lines left d.traced count a.trace_size whole none; trace_bytes = dropped_all all d.lines left d.traced count a.trace_size whole none });
    }

-- the row that was lent is lent
lent_is_lent : (rows : Rows) (n : ℕ) (s : State) → IsFreeIn rows n s → IsLentRow (slice_set rows n (Some (lent_row s))) n s
lent_is_lent rows n s free = elim (cases_lt n (length rows)) [
  | inl l ↦ (lent_row s, get_or-set_same rows n (Some (lent_row s)) None l, refl, refl)
  | inr l ↦ absurd (true≢false (sym (ap is_some (sym (get_or_past rows n None l) ∙ free))))
]

pub lease_is_lent : (d : Desk) (l : Held) → IsFreeIn d.core.rows l.number l.base → l.code ≡ d.code → l.limit ≡ d.limit → l.slot < length d.words → IsLent (lent_desk d l) l
lease_is_lent d l free code limit size =
    let loan = loan_for d.code d.limit l.number l.base in
    record {
      code = sym code;
      limit = sym limit;
      row = lent_is_lent d.core.rows l.number l.base free;
      word = subst (IsLentOn loan) (sym (get_or-set_same d.words l.slot (Lent loan l.base.clock) (Home 0) size)) refl;
    }

-- a lease that is out comes back
pub brought_by : (d : Desk) (l : Held) (b : Bool) → is_some d.core.ending ≡ b → IsDesk d → IsLent d l → IsStateOf d.code d.limit l.present → Leads (rules (code_kind d.code) d.limit) l.base l.present → IsDesk (brought d l)
brought_by d l true e h out fits leads = rw e (worded d (brought d l).words d.looks h)
brought_by d l false e h out fits leads =
    let row = out.row.0 in
    let leads' : Leads (rules (code_kind d.code) d.limit) row.state l.present = rw out.row.3 leads in
    let back = brought_is_desk d l.number row l.present h out.row.1 leads' fits in
    rw e (worded (record d { core = record d.core { rows = slice_set d.core.rows l.number (Some (back_row d l.present)) } }) (brought d l).words d.looks back)
