-- What the core does for each shape of outcome is what the deed leaves.
use Rattle.logical_clock.specs.declared.limits.TheConstants.{MAX_GOROUTINES}
use Rattle.std.proofs.Common.{◌≡◌, ◌≢◌, ℕ, ◌+◌, ◌-◌, ◌<◌, ◌≤◌, max, cond, List, [], ◌∷◌, ◌++◌, map, length, Option, Some, None, refl, sym, ap, ◌∙◌, subst, arith}
use Rattle.std.proofs.Math.Nat.{le-min}
use Rattle.std.specs.Prelude.{slice_index_or, slice_set, option_map}
use Rattle.std.proofs.lemmas.Bool.{ne_eqb}
use Rattle.std.proofs.lemmas.List.{append-nil, get_or_append_left, length-map, set-append_left}
use Rattle.bytecode.specs.Code.{Code}
use Rattle.bytecode.specs.Machine.{code_begin, code_kind}
use Rattle.channel_core.specs.Channels.{ChannelsValue, Others, shared_with, DoesAt, deed_of}
use Rattle.channel_core.proofs.Meeting.{length-partners}
use Rattle.channel_core.proofs.Offered.{partners_few}
use Rattle.channel_core.specs.declared.outcome.Outcome.{Outcome}
use Rattle.channel_core.specs.declared.outcome.Outcome.TheVariants as outcomes
use Rattle.turn_rule.specs.declared.Row.{Row}
use Rattle.word.specs.declared.end.End.{End as Ending}
use Rattle.word.specs.declared.end.End.TheVariants.{Panicked}
use Rattle.word.specs.declared.panic.Panic.TheVariants.{TooManyGoroutines}
use Rattle.word.specs.declared.value.Word.{Word}
use Rattle.word.specs.Kinds.{at, told}
use Rattle.word.specs.Requests.{Deed, GoesOn, Leaves, act, ends, panics}
use Rattle.word.specs.Values.{Request, Make, Go, Send, Receive, Close, Select, Len, Cap, Print, End, Exit, Panic, Exhausted, Reply, Nothing, EventOutcome as Came, Done, Sleeps, Panics, Event, Sleeper}
use Rattle.word.specs.Views.{reply_of}
use Rattle.world_core_base.specs.Cores.{CoreValue, IsAsked, woken_rows, left_beds, most_offered, most_woken}
use Rattle.awake_rows.specs.Slots.{State, Rows, Beds, answered_rows, free_row}
use Rattle.world_core_base.proofs.Orderly.{Orderly, orderly}
use Rattle.world_core_base.proofs.Performing.{Beside, LeavesAll, there}

-- the event of goroutine n at this clock
abbrev pub recorded : ℕ → ℕ → Request → Came → List ℕ → Event
recorded clock n q o who = record { clock = clock; number = n; request = q; outcome = o; partners = who }

module _ (code : Code) (limit : ℕ) (core : CoreValue) (n clock : ℕ) (means : Request) (a : IsAsked code limit core n clock means) where
  abbrev answered : ℕ → Reply → Rows
  answered later reply = answered_rows code core.rows n later reply

  answered_is : (later : ℕ) (reply : Reply) → later ≡ clock + 1 → answered later reply ≡ slice_set core.rows n (Some (free_row (told (code_kind code) a.row.state (a.row.state.clock + 1) reply)))
  answered_is later reply e =
      ap (λ (o : Option (Row State)). slice_set core.rows n (option_map (λ (row : Row State). free_row (told (code_kind code) row.state later reply)) o)) a.here
      ∙ ap (λ t. slice_set core.rows n (Some (free_row (told (code_kind code) a.row.state t reply)))) (e ∙ ap (λ t. t + 1) (sym a.time))

  -- so it does if another one comes after the others
  answered_before : (new : Option (Row State)) (later : ℕ) (reply : Reply) → answered_rows code (core.rows ++ new ∷ []) n later reply ≡ answered later reply ++ new ∷ []
  answered_before new later reply =
      let l = there core.rows n a.row a.here in
      let f : Option (Row State) → Option (Row State) = option_map (λ (row : Row State). free_row (told (code_kind code) row.state later reply)) in
      ap (λ (o : Option (Row State)). slice_set (core.rows ++ new ∷ []) n (f o)) (get_or_append_left core.rows (new ∷ []) None n l) ∙ set-append_left core.rows (new ∷ []) n (f (slice_index_or core.rows n None)) l

  later_is : (later : ℕ) → later ≡ clock + 1 → later ≡ a.row.state.clock + 1
  later_is later e = e ∙ ap (λ t. t + 1) (sym a.time)

  -- what is counted and how it ends are the core's own
  counted : (rows : Rows) (beds : Beds) (channels : ChannelsValue) (o : Others) → Beside code limit core o
      → ◌≡◌ {A = CoreValue} (record { rows = rows; beds = beds; channels = channels; live = o.live; events = core.events + 1; ending = o.ending }) (record { rows = rows; beds = beds; channels = channels; live = core.live; events = core.events + 1; ending = core.ending })
  counted rows beds channels o b = ap (λ l. record { rows = rows; beds = beds; channels = channels; live = l; events = core.events + 1; ending = o.ending }) b.live ∙ ap (λ e. record { rows = rows; beds = beds; channels = channels; live = core.live; events = core.events + 1; ending = e }) b.ending

  -- done, and these are woken
  pub leaves_done : (reply : Reply) (woken : List (ℕ × Reply)) (channels : ChannelsValue) (later : ℕ) (event : Event) (new : CoreValue) (deed : Others → Deed)
      → ((o : Others) → act (shared_with o core.channels) n clock means means ≡ deed o)
      → ((o : Others) → deed o ≡ record { fate = GoesOn reply; woken = woken; started = []; shared = record (shared_with o channels) { events = o.events ++ recorded clock n means (Done reply) (map (λ (w : ℕ × Reply). w.0) woken) ∷ [] } })
      → later ≡ clock + 1 → clock < limit
      → new ≡ record core { rows = woken_rows code (answered later reply) core.beds later woken; beds = left_beds core.beds woken; channels = channels; events = core.events + 1 }
      → event ≡ recorded clock n means (Done reply) (map (λ (w : ℕ × Reply). w.0) woken)
      → LeavesAll code limit core n clock means a.row.state event [] new
  leaves_done reply woken channels later event new deed act_is deed_is e below new_is event_is o b = record {
    deed = record { fate = GoesOn reply; woken = woken; started = []; shared = record (shared_with o channels) { events = o.events ++ recorded clock n means (Done reply) (map (λ (w : ℕ × Reply). w.0) woken) ∷ [] } };
    is = act_is o ∙ deed_is o;
    left = counted (woken_rows code (slice_set core.rows n (Some (free_row (told (code_kind code) a.row.state (a.row.state.clock + 1) reply)))) core.beds (a.row.state.clock + 1) woken) (left_beds core.beds woken) channels o b
        ∙ ap (λ (rows : Rows). record core { rows = woken_rows code rows core.beds (a.row.state.clock + 1) woken; beds = left_beds core.beds woken; channels = channels; events = core.events + 1 }) (sym (answered_is later reply e))
        ∙ ap (λ t. record core { rows = woken_rows code (answered later reply) core.beds t woken; beds = left_beds core.beds woken; channels = channels; events = core.events + 1 }) (sym (later_is later e)) ∙ sym new_is;
    quiet = tt;
    later = λ p. below;
    events = ap (λ x. o.events ++ x ∷ []) (sym event_is);
    output = sym (append-nil o.output);
  }

  -- so the core is left, with this event, by outcome
  pub record IsDone (reply : Reply) (woken : List (ℕ × Reply)) (channels : ChannelsValue) (event' : Event) (new' : CoreValue) : Type 0 where
    pub later : ℕ
    pub is : later ≡ clock + 1
    pub below : clock < limit
    pub new : new' ≡ record core { rows = woken_rows code (answered later reply) core.beds later woken; beds = left_beds core.beds woken; channels = channels; events = core.events + 1 }
    pub event : event' ≡ recorded clock n means (Done reply) (map (λ (w : ℕ × Reply). w.0) woken)

  pub record IsLeft (o : Came) (event' : Event) (new' left : CoreValue) : Type 0 where
    pub new : new' ≡ left
    pub event : event' ≡ recorded clock n means o []

  abbrev pub LeavesBy : Outcome → ChannelsValue → Event → CoreValue → Type 0
  LeavesBy (outcomes.Done reply woken) channels event new = IsDone (reply_of reply) woken.items channels event new
  LeavesBy outcomes.Sleeps channels event new =
      IsLeft Sleeps event new (record core { rows = slice_set core.rows n None; beds = slice_set core.beds n (option_map (λ (row : Row State). row.state) (slice_index_or core.rows n None)); channels = channels; events = core.events + 1 })
  LeavesBy (outcomes.Panics cause k) channels event new =
      IsLeft (Panics cause k) event new (record core { rows = slice_set core.rows n (option_map (λ (row : Row State). free_row row.state) (slice_index_or core.rows n None)); channels = channels; events = core.events + 1; ending = Some (Panicked cause) })

  -- a request to channels that is done
  pub leaves_met : (outcome : Outcome) (channels : ChannelsValue) (event : Event) (new : CoreValue) → DoesAt core.channels n clock means outcome channels → LeavesBy outcome channels event new → LeavesAll code limit core n clock means a.row.state event [] new
  leaves_met (outcomes.Done reply woken) channels event new does h o b =
      leaves_done (reply_of reply) woken.items channels h.later event new (λ o. deed_of o n clock means (outcomes.Done reply woken) channels) does (λ o. refl) h.is h.below h.new h.event o b
  leaves_met outcomes.Sleeps channels event new does h o b = record {
    deed = deed_of o n clock means outcomes.Sleeps channels;
    is = does o;
    left = counted (slice_set core.rows n None) (slice_set core.beds n (Some a.row.state)) channels o b
        ∙ ap (λ (s : Option State). record core { rows = slice_set core.rows n None; beds = slice_set core.beds n s; channels = channels; events = core.events + 1 }) (ap (option_map (λ (row : Row State). row.state)) (sym a.here)) ∙ sym h.new;
    quiet = (refl, refl);
    later = λ p. absurd p;
    events = ap (λ x. o.events ++ x ∷ []) (sym h.event);
    output = sym (append-nil o.output);
  }
  leaves_met (outcomes.Panics cause k) channels event new does h o b = record {
    deed = deed_of o n clock means (outcomes.Panics cause k) channels;
    is = does o;
    left = ap (λ l. record { rows = slice_set core.rows n (Some (free_row a.row.state)); beds = core.beds; channels = channels; live = l; events = core.events + 1; ending = Some (Panicked cause) }) b.live
        ∙ ap (λ (s : Option (Row State)). record core { rows = slice_set core.rows n s; channels = channels; events = core.events + 1; ending = Some (Panicked cause) }) (ap (option_map (λ (row : Row State). free_row row.state)) (sym a.here)) ∙ sym h.new;
    quiet = (refl, refl);
    later = λ p. absurd p;
    events = ap (λ x. o.events ++ x ∷ []) (sym h.event);
    output = sym (append-nil o.output);
  }

  -- a print
  pub leaves_printed : (bytes : List ℕ) (later : ℕ) (event : Event) (new : CoreValue) → means ≡ Print bytes → later ≡ clock + 1 → clock < limit → new ≡ record core { rows = answered later Nothing; events = core.events + 1 }
      → event ≡ recorded clock n means (Done Nothing) [] → LeavesAll code limit core n clock means a.row.state event bytes new
  leaves_printed bytes later event new printed e below new_is event_is o b = record {
    deed = record { fate = GoesOn Nothing; woken = []; started = []; shared = record (shared_with o core.channels) { output = o.output ++ bytes; events = o.events ++ recorded clock n means (Done Nothing) [] ∷ [] } };
    is = ap (λ q. act (shared_with o core.channels) n clock means q) printed;
    left = counted (slice_set core.rows n (Some (free_row (told (code_kind code) a.row.state (a.row.state.clock + 1) Nothing)))) core.beds core.channels o b
        ∙ ap (λ (rows : Rows). record core { rows = rows; events = core.events + 1 }) (sym (answered_is later Nothing e)) ∙ sym new_is;
    quiet = tt;
    later = λ p. below;
    events = ap (λ x. o.events ++ x ∷ []) (sym event_is);
    output = refl;
  }

  -- a run that ends so
  pub leaves_ends : (outcome : Came) (end : Ending) (event : Event) (new : CoreValue) → ((o : Others) → Beside code limit core o → act (shared_with o core.channels) n clock means means ≡ ends (shared_with o core.channels) n clock means outcome end)
      → new ≡ record core { rows = slice_set core.rows n (option_map (λ (row : Row State). free_row row.state) (slice_index_or core.rows n None)); events = core.events + 1; ending = Some end }
      → event ≡ recorded clock n means outcome [] → LeavesAll code limit core n clock means a.row.state event [] new
  leaves_ends outcome end event new act_is new_is event_is o b = record {
    deed = ends (shared_with o core.channels) n clock means outcome end;
    is = act_is o b;
    left = ap (λ l. record { rows = slice_set core.rows n (Some (free_row a.row.state)); beds = core.beds; channels = core.channels; live = l; events = core.events + 1; ending = Some end }) b.live
        ∙ ap (λ (s : Option (Row State)). record core { rows = slice_set core.rows n s; events = core.events + 1; ending = Some end }) (ap (option_map (λ (row : Row State). free_row row.state)) (sym a.here)) ∙ sym new_is;
    quiet = (refl, refl);
    later = λ p. absurd p;
    events = ap (λ x. o.events ++ x ∷ []) (sym event_is);
    output = sym (append-nil o.output);
  }

  -- a goroutine that is no more
  pub leaves_ended : (event : Event) (new : CoreValue) → means ≡ End → new ≡ record core { rows = slice_set core.rows n None; live = core.live - 1; events = core.events + 1 } → event ≡ recorded clock n means (Done Nothing) []
      → LeavesAll code limit core n clock means a.row.state event [] new
  leaves_ended event new ended new_is event_is o b = record {
    deed = record { fate = Leaves; woken = []; started = []; shared = record (shared_with o core.channels) { live = o.live - 1; events = o.events ++ recorded clock n means (Done Nothing) [] ∷ [] } };
    is = ap (λ q. act (shared_with o core.channels) n clock means q) ended;
    left = ap (λ l. record { rows = slice_set core.rows n None; beds = core.beds; channels = core.channels; live = l - 1; events = core.events + 1; ending = o.ending }) b.live
        ∙ ap (λ x. record core { rows = slice_set core.rows n None; live = core.live - 1; events = core.events + 1; ending = x }) b.ending ∙ sym new_is;
    quiet = (refl, refl);
    later = λ p. absurd p;
    events = ap (λ x. o.events ++ x ∷ []) (sym event_is);
    output = sym (append-nil o.output);
  }

  -- a new goroutine
  pub leaves_started : (f : ℕ) (args : List Word) (later : ℕ) (event : Event) (new : CoreValue) → means ≡ Go f args → core.live ≢ MAX_GOROUTINES → later ≡ clock + 1 → clock < limit
      → new ≡ record core { rows = answered_rows code (core.rows ++ Some (free_row (at later (code_begin code f args))) ∷ []) n later Nothing; beds = core.beds ++ None ∷ []; live = core.live + 1; events = core.events + 1 }
      → event ≡ recorded clock n means (Done Nothing) (length core.rows ∷ []) → LeavesAll code limit core n clock means a.row.state event [] new
  leaves_started f args later event new went room e below new_is event_is o b =
      let s = a.row.state in
      let there : o.live ≢ MAX_GOROUTINES = λ k. room (sym b.live ∙ k) in
      let rows : Rows = slice_set core.rows n (Some (free_row (told (code_kind code) s (s.clock + 1) Nothing))) ++ Some (free_row (at (s.clock + 1) (code_begin code f args))) ∷ [] in
      let d : Deed = record { fate = GoesOn Nothing; woken = []; started = (f, args) ∷ []; shared = record (shared_with o core.channels) { live = o.live + 1; made = o.made + 1; events = o.events ++ recorded clock n means (Done Nothing) ((o.made + 1) ∷ []) ∷ [] } } in
      record {
        deed = d;
        is = ap (λ q. act (shared_with o core.channels) n clock means q) went ∙ ap (λ t. cond t (panics (shared_with o core.channels) n clock means TooManyGoroutines 0) d) (ne_eqb o.live MAX_GOROUTINES there);
        left = ap (λ l. record { rows = rows; beds = core.beds ++ None ∷ []; channels = core.channels; live = l + 1; events = core.events + 1; ending = o.ending }) b.live
            ∙ ap (λ x. record core { rows = rows; beds = core.beds ++ None ∷ []; live = core.live + 1; events = core.events + 1; ending = x }) b.ending
            ∙ ap (λ (rs : Rows). record core { rows = rs ++ Some (free_row (at (s.clock + 1) (code_begin code f args))) ∷ []; beds = core.beds ++ None ∷ []; live = core.live + 1; events = core.events + 1 }) (sym (answered_is later Nothing e))
            ∙ ap (λ t. record core { rows = answered later Nothing ++ Some (free_row (at t (code_begin code f args))) ∷ []; beds = core.beds ++ None ∷ []; live = core.live + 1; events = core.events + 1 }) (sym (later_is later e))
            ∙ ap (λ (rs : Rows). record core { rows = rs; beds = core.beds ++ None ∷ []; live = core.live + 1; events = core.events + 1 }) (sym (answered_before (Some (free_row (at later (code_begin code f args)))) later Nothing)) ∙ sym new_is;
        quiet = tt;
        later = λ p. below;
        events = ap (λ k. o.events ++ recorded clock n means (Done Nothing) (k ∷ []) ∷ []) (sym b.made) ∙ ap (λ x. o.events ++ x ∷ []) (sym event_is);
        output = sym (append-nil o.output);
      }

abbrev pub woken_of : Outcome → List (ℕ × Reply)
woken_of (outcomes.Done reply woken) = woken.items
woken_of outcomes.Sleeps = []
woken_of (outcomes.Panics cause k) = []

-- a request wakes no more than it may
pub few_woken : (channels : ChannelsValue) (n c : ℕ) (means : Request) (outcome : Outcome) (new : ChannelsValue) → DoesAt channels n c means outcome new → length (woken_of outcome) ≤ most_woken means channels.asleep
few_woken channels n c means (outcomes.Done reply woken) new does =
    let o : Others = record { output = []; live = 0; made = 0; events = []; ending = None } in
    let ord : Orderly (shared_with o channels) (most_woken means channels.asleep) (deed_of o n c means (outcomes.Done reply woken) new) = subst (Orderly (shared_with o channels) (most_woken means channels.asleep)) (does o) (orderly (shared_with o channels) n c means means) in
    ord.few
few_woken channels n c means outcomes.Sleeps new does = omega arith
few_woken channels n c means (outcomes.Panics cause k) new does = omega arith

-- a request wakes at most the sleeping goroutines, or one
most_within : (means : Request) (ss : List Sleeper) → most_woken means ss ≤ max (length ss) 1
most_within (Close None) ss = omega arith
most_within (Close (Some k)) ss = let few = length-partners k ss in omega (arith, few)
most_within (Make size zero) ss = omega arith
most_within (Go f args) ss = omega arith
most_within (Send c item) ss = omega arith
most_within (Receive c) ss = omega arith
most_within (Select cases default) ss = omega arith
most_within (Len c) ss = omega arith
most_within (Cap c) ss = omega arith
most_within (Print bytes) ss = omega arith
most_within End ss = omega arith
most_within Exit ss = omega arith
most_within (Panic cause) ss = omega arith
most_within Exhausted ss = omega arith

-- and at most as many as offer something there
pub most_met : (means : Request) (ss : List Sleeper) → most_woken means ss ≤ most_offered means ss
most_met (Close None) ss = omega arith
most_met (Close (Some k)) ss = le-min (partners_few k ss) (length-partners k ss)
most_met (Make size zero) ss = omega arith
most_met (Go f args) ss = omega arith
most_met (Send c item) ss = omega arith
most_met (Receive c) ss = omega arith
most_met (Select cases default) ss = omega arith
most_met (Len c) ss = omega arith
most_met (Cap c) ss = omega arith
most_met (Print bytes) ss = omega arith
most_met End ss = omega arith
most_met Exit ss = omega arith
most_met (Panic cause) ss = omega arith
most_met Exhausted ss = omega arith

-- so the numbers of those whom it wakes are as few
pub few_partners : (channels : ChannelsValue) (n c : ℕ) (means : Request) (outcome : Outcome) (new : ChannelsValue) → DoesAt channels n c means outcome new → (partners : List ℕ) → partners ≡ map (λ (w : ℕ × Reply). w.0) (woken_of outcome)
    → length partners ≤ max (length channels.asleep) 1
few_partners channels n c means outcome new does partners is =
    let few = few_woken channels n c means outcome new does in
    let within = most_within means channels.asleep in
    let long = ap length is ∙ length-map (woken_of outcome) (λ (w : ℕ × Reply). w.0) in
    omega (arith, few, within, long)

-- ---- step by step

pub done_core : (code : Code) (n later : ℕ) (reply : Reply) (woken : List (ℕ × Reply)) (core asked next new : CoreValue) → asked ≡ record core { channels = asked.channels }
    → next ≡ record asked { rows = answered_rows code asked.rows n later reply; events = asked.events + 1 } → new ≡ record next { rows = woken_rows code next.rows next.beds later woken; beds = left_beds next.beds woken }
    → new ≡ record core { rows = woken_rows code (answered_rows code core.rows n later reply) core.beds later woken; beds = left_beds core.beds woken; channels = asked.channels; events = core.events + 1 }
done_core code n later reply woken core asked next new a b c =
    c ∙ ap (λ (x : CoreValue). record x { rows = woken_rows code x.rows x.beds later woken; beds = left_beds x.beds woken }) (b ∙ ap (λ (x : CoreValue). record x { rows = answered_rows code x.rows n later reply; events = x.events + 1 }) a)

pub slept_core : (n : ℕ) (core asked new : CoreValue) → asked ≡ record core { channels = asked.channels }
    → new ≡ record asked { rows = slice_set asked.rows n None; beds = slice_set asked.beds n (option_map (λ (row : Row State). row.state) (slice_index_or asked.rows n None)); events = asked.events + 1 }
    → new ≡ record core { rows = slice_set core.rows n None; beds = slice_set core.beds n (option_map (λ (row : Row State). row.state) (slice_index_or core.rows n None)); channels = asked.channels; events = core.events + 1 }
slept_core n core asked new a b = b ∙ ap (λ (x : CoreValue). record x { rows = slice_set x.rows n None; beds = slice_set x.beds n (option_map (λ (row : Row State). row.state) (slice_index_or x.rows n None)); events = x.events + 1 }) a

pub stopped_core : (n : ℕ) (end : Ending) (core asked new : CoreValue) → asked ≡ record core { channels = asked.channels }
    → new ≡ record asked { rows = slice_set asked.rows n (option_map (λ (row : Row State). free_row row.state) (slice_index_or asked.rows n None)); events = asked.events + 1; ending = Some end }
    → new ≡ record core { rows = slice_set core.rows n (option_map (λ (row : Row State). free_row row.state) (slice_index_or core.rows n None)); channels = asked.channels; events = core.events + 1; ending = Some end }
stopped_core n end core asked new a b = b ∙ ap (λ (x : CoreValue). record x { rows = slice_set x.rows n (option_map (λ (row : Row State). free_row row.state) (slice_index_or x.rows n None)); events = x.events + 1; ending = Some end }) a

pub added_core : (code : Code) (n later : ℕ) (s t : State) (core added new : CoreValue) → s ≡ t → added ≡ record core { rows = core.rows ++ Some (free_row s) ∷ []; beds = core.beds ++ None ∷ []; live = core.live + 1 }
    → new ≡ record added { rows = answered_rows code added.rows n later Nothing; events = added.events + 1 }
    → new ≡ record core { rows = answered_rows code (core.rows ++ Some (free_row t) ∷ []) n later Nothing; beds = core.beds ++ None ∷ []; live = core.live + 1; events = core.events + 1 }
added_core code n later s t core added new e a b =
    b ∙ ap (λ (x : CoreValue). record x { rows = answered_rows code x.rows n later Nothing; events = x.events + 1 }) (a ∙ ap (λ u. record core { rows = core.rows ++ Some (free_row u) ∷ []; beds = core.beds ++ None ∷ []; live = core.live + 1 }) e)
