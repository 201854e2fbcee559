-- What an `Event` holds once its request was performed.
use Rattle.logical_clock.specs.declared.limits.TheConstants.{MAX_GOROUTINES}
use Rattle.std.proofs.Common.{◌≡◌, ◌≢◌, ℕ, ◌+◌, ◌-◌, ◌<◌, ◌^◌, ◌==◌, Bool, true, false, IfSome, cond, List, [], ◌∷◌, ◌++◌, length, Option, Some, None, refl, sym, ap, ◌∙◌, subst}
use Rattle.std.specs.Prelude.{slice_index_or, slice_set, option_map}
use Rattle.std.proofs.lemmas.Bool.{eq-eqb}
use Rattle.bytecode.specs.Code.{Code}
use Rattle.bytecode.proofs.Options.{some_inj}
use Rattle.bytecode.specs.Machine.{NextFrames, code_begin, code_next}
use Rattle.channel_core.specs.Channels.{ChannelsValue, DoesAt, IsOfChannels, Others, shared_with}
use Rattle.channel_core.specs.declared.outcome.Outcome.{Outcome}
use Rattle.goroutine_vm.proofs.Quiet.{asking_quiet}
use Rattle.goroutine_vm.specs.Advance.{IsQuiet}
use Rattle.turn_rule.specs.declared.Row.{Row}
use Rattle.word.specs.declared.end.End.{End as Ending}
use Rattle.word.specs.declared.end.End.TheVariants.{Panicked}
use Rattle.word.specs.declared.panic.Panic.TheVariants.{SendOnClosed, TooManyGoroutines}
use Rattle.word.specs.declared.request.Event.{Event as Recorded}
use Rattle.word.specs.declared.request.Request.{Request as Asked}
use Rattle.word.specs.declared.request.Request.TheVariants as asking
use Rattle.word.specs.declared.value.Word.{Word}
use Rattle.word.specs.Kinds.{Asks, asks_of, at}
use Rattle.word.specs.Requests.{Deed, GoesOn, act, asked, ends, panics}
use Rattle.word.specs.Values.{Request, Go, Print, End, Exit, Panic, Exhausted, Nothing, EventOutcome as Came, Done, Panics, Shared}
use Rattle.word.specs.Views.{event_of, outcome_of, request_of}
use Rattle.world_core_base.specs.Cores.{CoreValue, FitsCore, IsAsked, IsGo, IsLast, Performs, bytes_of, meant_after, printed_by}
use Rattle.awake_rows.specs.Slots.{State, answered_rows, free_row}
use Rattle.world_core_base.proofs.Performing.{Beside, LeavesAll, fits_by, performs_by}
use Rattle.world_core_base.proofs.Shapes.{LeavesBy, leaves_ended, leaves_ends, leaves_met, leaves_printed, leaves_started, recorded}
use Rattle.world_core_base.proofs.Starting.{still_below}

-- ---- what is printed

abbrev prints : Request → List ℕ
prints (Print bytes) = bytes
prints q = []

printed_is : (q : Asked) → printed_by q ≡ prints (request_of q)
printed_is (asking.Print text) = refl
printed_is (asking.Go f args) = refl
printed_is (asking.Select cases default) = refl
printed_is (asking.Make size zero) = refl
printed_is (asking.Send c item) = refl
printed_is (asking.Receive c) = refl
printed_is (asking.Close c) = refl
printed_is (asking.Len c) = refl
printed_is (asking.Cap c) = refl
printed_is asking.End = refl
printed_is asking.Exit = refl
printed_is (asking.Panic cause) = refl
printed_is asking.Exhausted = refl

quiet : (q : Request) → ((bytes : List ℕ) → q ≡ Print bytes → ⊥) → prints q ≡ []
quiet (Print bytes) h = absurd (h bytes refl)
quiet q h = refl

pub channels_quiet : (q : Asked) → IsOfChannels (request_of q) → printed_by q ≡ []
channels_quiet q h = printed_is q ∙ quiet (request_of q) (λ bytes e. subst IsOfChannels e h)

pub go_quiet : (q : Asked) → IsGo (request_of q) → printed_by q ≡ []
go_quiet q h = printed_is q ∙ quiet (request_of q) (λ bytes e. subst IsGo e h)

pub last_quiet : (q : Asked) (o : Came) (e : Ending) → IsLast (request_of q) o e → printed_by q ≡ []
last_quiet q o e h = printed_is q ∙ quiet (request_of q) (λ bytes s. subst (λ (p : Request). IsLast p o e) s h)

pub end_quiet : (q : Asked) → request_of q ≡ End → printed_by q ≡ []
end_quiet q h = printed_is q ∙ ap prints h

-- ---- below the limit

no_print : (bytes : List ℕ) → Print bytes ≡ Exhausted → ⊥
no_print bytes e = cc

pub print_below : (code : Code) (limit : ℕ) (core : CoreValue) (n clock : ℕ) (means : Request) (bytes : List ℕ) → IsAsked code limit core n clock means → means ≡ Print bytes → clock < limit
print_below code limit core n clock means bytes a is = still_below code limit core n clock means a (λ (e : means ≡ Exhausted). no_print bytes (sym is ∙ e))

pub go_below : (code : Code) (limit : ℕ) (core : CoreValue) (n clock : ℕ) (means : Request) → IsAsked code limit core n clock means → IsGo means → clock < limit
go_below code limit core n clock means a go = still_below code limit core n clock means a (λ (e : means ≡ Exhausted). subst IsGo e go)

pub meets_below : (code : Code) (limit : ℕ) (core : CoreValue) (n clock : ℕ) (means : Request) → IsAsked code limit core n clock means → IsOfChannels means → clock < limit
meets_below code limit core n clock means a meets = still_below code limit core n clock means a (λ (e : means ≡ Exhausted). subst IsOfChannels e meets)

-- ---- a goroutine that falls asleep has no pending reply words

-- a goroutine with a request to channels is not doomed
not_doomed : (limit clock events n : ℕ) (d : Bool) (x : NextFrames) (what means : Request) → asks_of limit clock (cond d (Asks (Panic SendOnClosed)) x) ≡ Some what → means ≡ meant_after events n what → IsOfChannels means → d ≡ false
not_doomed limit clock events n false x what means e meant meets = refl
not_doomed limit clock events n true x what means e meant meets = absurd (by (clock == limit) (events + 1 == 2 ^ 62) e meant)
  where
    by : (p q : Bool) → cond p (Some Exhausted) (Some (Panic SendOnClosed)) ≡ Some what → means ≡ cond q Exhausted (asked n what) → ⊥
    by p true e meant = subst IsOfChannels meant meets
    by true false e meant = subst IsOfChannels (meant ∙ ap (asked n) (sym (some_inj e))) meets
    by false false e meant = subst IsOfChannels (meant ∙ ap (asked n) (sym (some_inj e))) meets

pub sleeper_quiet : (code : Code) (limit : ℕ) (core : CoreValue) (n clock : ℕ) (means : Request) → IsAsked code limit core n clock means → IsOfChannels means → IfSome (slice_index_or core.rows n None) (λ (row : Row State). IsQuiet row.state.state)
sleeper_quiet code limit core n clock means a meets =
    let doomed = not_doomed limit a.row.state.clock core.events n a.row.state.doomed (code_next code a.row.state.state) a.what means a.request a.meant meets in
    subst (λ (o : Option (Row State)). IfSome o (λ (row : Row State). IsQuiet row.state.state)) (sym a.here) (asking_quiet code limit a.row.state a.what doomed a.request)

-- ---- what is done

last_acts : (w : Shared) (n c : ℕ) (p q : Request) (o : Came) (e : Ending) → IsLast q o e → act w n c p q ≡ ends w n c p o e
last_acts w n c p Exit o e h = λ i. ends w n c p (sym h.0 i) (sym h.1 i)
last_acts w n c p Exhausted o e h = λ i. ends w n c p (sym h.0 i) (sym h.1 i)
last_acts w n c p (Panic cause) o e h = λ i. ends w n c p (sym h.0 i) (sym h.1 i)
last_acts w n c p q o e h = absurd h

many_acts : (w : Shared) (n c : ℕ) (p q : Request) → IsGo q → w.live ≡ MAX_GOROUTINES → act w n c p q ≡ ends w n c p (Panics TooManyGoroutines 0) (Panicked TooManyGoroutines)
many_acts w n c p (Go f args) h full =
    let d : Deed = record { fate = GoesOn Nothing; woken = []; started = (f, args) ∷ []; shared = record w { live = w.live + 1; made = w.made + 1; events = w.events ++ recorded c n p (Done Nothing) ((w.made + 1) ∷ []) ∷ [] } } in
    ap (λ t. cond t (panics w n c p TooManyGoroutines 0) d) (eq-eqb w.live MAX_GOROUTINES full)
many_acts w n c p q h full = absurd h

-- the request is performed, which is this event, and leaves a core that fits
pub record Made (code : Code) (limit : ℕ) (core : CoreValue) (event : Recorded) (new : CoreValue) : Type 0 where
  pub performs : Performs code limit core event.number event (bytes_of event) new
  pub fits : FitsCore code limit new

-- the event was written
module _ (code : Code) (limit : ℕ) (core : CoreValue) (event : Recorded) (new : CoreValue) (a : IsAsked code limit core event.number event.clock (request_of event.request)) (fits : FitsCore code limit core) (more : core.events < 2 ^ 62) where
  made : (bytes : List ℕ) → bytes_of event ≡ bytes → LeavesAll code limit core event.number event.clock (request_of event.request) a.row.state (event_of event) bytes new → Made code limit core event new
  made bytes is left = record {
    performs = subst (λ (xs : List ℕ). Performs code limit core event.number event xs new) (sym is) (performs_by code limit core event.number event.clock (request_of event.request) event bytes new a fits left);
    fits = fits_by code limit core event.number event.clock (request_of event.request) (event_of event) bytes new a fits more left;
  }

  stands : (o : Came) (who : List ℕ) → outcome_of event.outcome ≡ o → event.partners.items ≡ who → event_of event ≡ recorded event.clock event.number (request_of event.request) o who
  stands o who came met = λ i. recorded event.clock event.number (request_of event.request) (came i) (met i)

  pub made_printed : (later : ℕ) → request_of event.request ≡ Print (bytes_of event) → outcome_of event.outcome ≡ Done Nothing → event.partners.items ≡ [] → later ≡ event.clock + 1
      → new ≡ record core { rows = answered_rows code core.rows event.number later Nothing; events = core.events + 1 } → Made code limit core event new
  made_printed later printed came alone one left =
      let below = print_below code limit core event.number event.clock (request_of event.request) (bytes_of event) a printed in
      made (bytes_of event) refl (leaves_printed code limit core event.number event.clock (request_of event.request) a (bytes_of event) later (event_of event) new printed one below left (stands (Done Nothing) [] came alone))

  pub made_ended : request_of event.request ≡ End → outcome_of event.outcome ≡ Done Nothing → event.partners.items ≡ []
      → new ≡ record core { rows = slice_set core.rows event.number None; live = core.live - 1; events = core.events + 1 } → Made code limit core event new
  made_ended ended came alone left =
      made [] (end_quiet event.request ended) (leaves_ended code limit core event.number event.clock (request_of event.request) a (event_of event) new ended left (stands (Done Nothing) [] came alone))

  pub made_last : (o : Came) (e : Ending) → IsLast (request_of event.request) o e → outcome_of event.outcome ≡ o → event.partners.items ≡ []
      → new ≡ record core { rows = slice_set core.rows event.number (option_map (λ (row : Row State). free_row row.state) (slice_index_or core.rows event.number None)); events = core.events + 1; ending = Some e } → Made code limit core event new
  made_last o e last came alone left =
      made [] (last_quiet event.request o e last) (leaves_ends code limit core event.number event.clock (request_of event.request) a o e (event_of event) new
      (λ (x : Others) (b : Beside code limit core x). last_acts (shared_with x core.channels) event.number event.clock (request_of event.request) (request_of event.request) o e last) left (stands o [] came alone))

  -- a new goroutine when too many are alive
  pub made_full : IsGo (request_of event.request) → core.live ≡ MAX_GOROUTINES → outcome_of event.outcome ≡ Panics TooManyGoroutines 0 → event.partners.items ≡ []
      → new ≡ record core { rows = slice_set core.rows event.number (option_map (λ (row : Row State). free_row row.state) (slice_index_or core.rows event.number None)); events = core.events + 1; ending = Some (Panicked TooManyGoroutines) } → Made code limit core event new
  made_full go full came alone left =
      made [] (go_quiet event.request go) (leaves_ends code limit core event.number event.clock (request_of event.request) a (Panics TooManyGoroutines 0) (Panicked TooManyGoroutines) (event_of event) new
      (λ (x : Others) (b : Beside code limit core x). many_acts (shared_with x core.channels) event.number event.clock (request_of event.request) (request_of event.request) go (b.live ∙ full)) left (stands (Panics TooManyGoroutines 0) [] came alone))

  pub made_started : (f : ℕ) (args : List Word) (later : ℕ) → request_of event.request ≡ Go f args → core.live ≢ MAX_GOROUTINES → outcome_of event.outcome ≡ Done Nothing → event.partners.items ≡ length core.rows ∷ [] → later ≡ event.clock + 1
      → new ≡ record core { rows = answered_rows code (core.rows ++ Some (free_row (at later (code_begin code f args))) ∷ []) event.number later Nothing; beds = core.beds ++ None ∷ []; live = core.live + 1; events = core.events + 1 }
      → Made code limit core event new
  made_started f args later went room came started one left =
      let go : IsGo (request_of event.request) = subst IsGo (sym went) tt in
      let below = go_below code limit core event.number event.clock (request_of event.request) a go in
      made [] (go_quiet event.request go) (leaves_started code limit core event.number event.clock (request_of event.request) a f args later (event_of event) new went room one below left (stands (Done Nothing) (length core.rows ∷ []) came started))

  pub made_met : (outcome : Outcome) (channels : ChannelsValue) → IsOfChannels (request_of event.request) → DoesAt core.channels event.number event.clock (request_of event.request) outcome channels
      → LeavesBy code limit core event.number event.clock (request_of event.request) a outcome channels (event_of event) new → Made code limit core event new
  made_met outcome channels meets does left =
      made [] (channels_quiet event.request meets) (leaves_met code limit core event.number event.clock (request_of event.request) a outcome channels (event_of event) new does left)
