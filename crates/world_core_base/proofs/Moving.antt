-- Goroutines that send and receive single words: what is performed, and how many moves it takes.
use Rattle.std.proofs.Common.{◌≡◌, ◌≢◌, ℕ, zero, suc, ◌+◌, ◌<◌, ◌≤◌, ◌^◌, Bool, true, false, cond, List, [], ◌∷◌, ◌++◌, map, Option, Some, None, Result, Ok, Err, IfSome, refl, sym, ap, ◌∙◌, subst, inl, inr, arith}
use Rattle.std.specs.Prelude.{IfOk, OnErr, option_map, slice_index_or, slice_set}
use Rattle.std.specs.Option.{is_some}
use Rattle.std.proofs.lemmas.Bool.{ne_eqb}
use Rattle.std.proofs.lemmas.List.{append-nil}
use Rattle.std.proofs.lemmas.Option.{none-some}
use Rattle.bytecode.proofs.Options.{some_inj}
use Rattle.logical_clock.specs.declared.key.Key.{Key}
use Rattle.logical_clock.specs.Order.{keys, least}
use Rattle.turn_rule.specs.Schedule.{has_turn}
use Rattle.bytecode.specs.Code.{Code}
use Rattle.bytecode.specs.Machine.{code_kind}
use Rattle.bytecode.specs.Rules.{IsVerified}
use Rattle.channel_core.specs.Channels.{ChannelsValue, Does, IsOfChannels, Others, shared_with}
use Rattle.channel_core.specs.Words.{DoesWith}
use Rattle.channel_core.specs.declared.outcome.Outcome.TheVariants as outcomes
use Rattle.goroutine_vm_request.specs.declared.talks.Talk.{Talk}
use Rattle.goroutine_vm_request.specs.declared.talks.Talk.TheVariants as talks
use Rattle.goroutine_vm_request.specs.Talks.{talk_at, talk_in, talk_of}
use Rattle.turn_rule.specs.declared.Row.{Row}
use Rattle.word.specs.declared.value.Word.{Word}
use Rattle.word.specs.Kinds.{asks}
use Rattle.word.specs.Requests.{Deed, GoesOn, asked}
use Rattle.word.specs.Values.{Request, Exhausted, Send, Receive, Reply, Done, Sleeps, Event}
use Rattle.awake_rows.proofs.Found.{waiting_found}
use Rattle.awake_rows.specs.Slots.{IsRowOf, State, answered_rows, is_asking, talk_of_row, waiting_clock}
use Rattle.world_core_base.specs.Cores.{CoreValue, FitsCore, HasTurn, IsAsked, Works, left_beds, shared_of, woken_rows}
use Rattle.world_core_base.specs.Talking.{FailsTalk, IsActor, IsServed, Moves, Passes, Talks, is_enough}
use Rattle.world_core_base.specs.declared.talked.Talked.{Talked}
use Rattle.world_core_base.specs.declared.talked.Talked.TheVariants as came
use Rattle.world_core_base.proofs.Events.{meets_below}
use Rattle.world_core_base.proofs.Leases.{core_fits_set}
use Rattle.world_core_base.proofs.Performing.{LeavesAll, fits_by, happens_by}
use Rattle.world_core_base.proofs.Shapes.{leaves_done, leaves_met, recorded}

-- local steps leave a core that fits
pub works_fit : (code : Code) (limit quantum : ℕ) (old : CoreValue) (answer : Option Bool) (new : CoreValue) → FitsCore code limit old → Works code limit quantum old answer new → FitsCore code limit new
works_fit code limit quantum old answer new h w =
    let row : Row State = w.worked.1 in
    let k = w.worked.3 in
    let fits : IsRowOf code limit row = subst (IsRowOf code limit) (sym k.2) (record { state = k.1; present = tt; asks = λ e. e; unlent = λ e. refl }) in
    let is : new ≡ record old { rows = slice_set old.rows w.key.number (Some row) } = w.rest ∙ ap (λ rows. record old { rows = rows }) w.worked.4 in
    subst (FitsCore code limit) (sym is) (core_fits_set code limit old w.key.number (Some row) h fits)

-- a run that goes on still does
pub works_going : (code : Code) (limit quantum : ℕ) (old : CoreValue) (answer : Option Bool) (new : CoreValue) → old.ending ≡ None → Works code limit quantum old answer new → new.ending ≡ None
works_going code limit quantum old answer new going w = ap (λ (x : CoreValue). x.ending) w.rest ∙ going

-- ---- the request of a goroutine that has the turn

parked_at : (b : Bool) (clock c : ℕ) → cond b (Some clock) None ≡ Some c → (b ≡ true) × (clock ≡ c)
parked_at true clock c e = (refl, cc)
parked_at false clock c e = absurd cc

-- it is parked in this row
pub record IsParked (code : Code) (limit : ℕ) (core : CoreValue) (n clock : ℕ) : Type 0 where
  pub row : Row State
  pub here : slice_index_or core.rows n None ≡ Some row
  pub time : row.state.clock ≡ clock
  pub fits : IsRowOf code limit row
  pub parked : row.parked ≡ true

parked_in : (code : Code) (limit : ℕ) (core : CoreValue) (n clock : ℕ) (o : Option (Row State)) → slice_index_or core.rows n None ≡ o → IfSome o (IsRowOf code limit) → waiting_clock o ≡ Some clock → IsParked code limit core n clock
parked_in code limit core n clock None e h w = absurd cc
parked_in code limit core n clock (Some row) e h w = let p = parked_at row.parked row.state.clock clock w in record { row = row; here = e; time = p.1; fits = h; parked = p.0 }

pub is_parked : (code : Code) (limit : ℕ) (core : CoreValue) (n clock : ℕ) → FitsCore code limit core → IsActor core n clock → IsParked code limit core n clock
is_parked code limit core n clock h a = parked_in code limit core n clock (slice_index_or core.rows n None) refl (h.rows n) a.parked

-- the one that has the turn is parked
pub turn_parked : (core : CoreValue) (n : ℕ) (t : HasTurn core n) → IsActor core n t.key.clock
turn_parked core n t = record { turn = t; parked = subst (λ k. waiting_clock (slice_index_or core.rows k None) ≡ Some t.key.clock) t.number (waiting_found core.rows t.key t.least) }

pub actor_is : (core inside : CoreValue) (k : Key) → inside ≡ core → core.ending ≡ None → least (keys waiting_clock 0 inside.rows) ≡ Some k → has_turn k 0 inside.rows ≡ true → IsActor core k.number k.clock
actor_is core inside k same going first turn = subst (λ (x : CoreValue). IsActor x k.number k.clock) same (record {
  turn = record { key = k; number = refl; least = first; turn = turn; going = ap (λ (x : CoreValue). x.ending) same ∙ going };
  parked = waiting_found inside.rows k first;
})

-- the row in which it is parked is the one that is found
pub row_parked : (code : Code) (limit : ℕ) (core inside : CoreValue) (n clock : ℕ) (p : IsParked code limit core n clock) (row : Row State) → inside ≡ core → slice_index_or inside.rows n None ≡ Some row → row ≡ p.row
row_parked code limit core inside n clock p row same here = some_inj (sym here ∙ ap (λ (x : CoreValue). slice_index_or x.rows n None) same ∙ p.here)

pub row_found : (code : Code) (limit : ℕ) (core inside : CoreValue) (n clock : ℕ) (p : IsParked code limit core n clock) → inside ≡ core → slice_index_or inside.rows n None ≡ None → ⊥
row_found code limit core inside n clock p same none = none-some p.row (sym none ∙ ap (λ (x : CoreValue). slice_index_or x.rows n None) same ∙ p.here)

talk_found : (o : Option Request) → is_some o ≡ true → talk_at o ≡ talk_of o
talk_found None e = absurd cc
talk_found (Some q) e = refl

-- so what is found is its talk
pub talk_is : (code : Code) (limit : ℕ) (core : CoreValue) (n clock : ℕ) (talk : Talk) (state : State) (p : IsParked code limit core n clock) → state ≡ p.row.state → talk ≡ talk_at (asks (code_kind code) limit state) → talk ≡ talk_of_row code limit (slice_index_or core.rows n None)
talk_is code limit core n clock talk state p at is =
    is ∙ ap (λ s. talk_at (asks (code_kind code) limit s)) at ∙ talk_found (asks (code_kind code) limit p.row.state) (p.fits.asks p.parked) ∙ ap (talk_of_row code limit) (sym p.here)

send_in : (q : Request) (k : ℕ) (w : Word) → talk_in q ≡ talks.Send k w → q ≡ Send (Some k) (w ∷ [])
send_in (Send (Some c) (x ∷ [])) k w e = let same : talks.Send c x ≡ talks.Send k w = e in cc
send_in (Send (Some c) (x ∷ (y ∷ ys))) k w e = absurd cc
send_in (Send (Some c) []) k w e = absurd cc
send_in (Send None item) k w e = absurd cc
send_in (Receive (Some c)) k w e = absurd cc
send_in (Receive None) k w e = absurd cc
send_in q k w e = absurd cc

receive_in : (q : Request) (k : ℕ) → talk_in q ≡ talks.Receive k → q ≡ Receive (Some k)
receive_in (Send (Some c) (x ∷ [])) k e = absurd cc
receive_in (Send (Some c) (x ∷ (y ∷ ys))) k e = absurd cc
receive_in (Send (Some c) []) k e = absurd cc
receive_in (Send None item) k e = absurd cc
receive_in (Receive (Some c)) k e = let same : talks.Receive c ≡ talks.Receive k = e in cc
receive_in (Receive None) k e = absurd cc
receive_in q k e = absurd cc

send_of : (o : Option Request) (k : ℕ) (w : Word) → talk_of o ≡ talks.Send k w → o ≡ Some (Send (Some k) (w ∷ []))
send_of None k w e = absurd cc
send_of (Some q) k w e = ap Some (send_in q k w e)

receive_of : (o : Option Request) (k : ℕ) → talk_of o ≡ talks.Receive k → o ≡ Some (Receive (Some k))
receive_of None k e = absurd cc
receive_of (Some q) k e = ap Some (receive_in q k e)

module _ (code : Code) (limit : ℕ) (core : CoreValue) (n clock : ℕ) (fits : FitsCore code limit core) (a : IsActor core n clock) (verified : IsVerified code) (more : core.events + 1 ≢ 2 ^ 62) where
  parked : IsParked code limit core n clock
  parked = is_parked code limit core n clock fits a

  -- the request stands for itself, unless it is the last
  asked_for : (q : Request) → asked n q ≡ q → asks (code_kind code) limit parked.row.state ≡ Some q → IsAsked code limit core n clock q
  asked_for q same is = record {
    row = parked.row;
    what = q;
    here = parked.here;
    state = parked.fits.state;
    time = parked.time;
    request = is;
    verified = verified;
    meant = sym (ap (λ b. cond b Exhausted (asked n q)) (ne_eqb (core.events + 1) (2 ^ 62) more) ∙ same);
    unlent = parked.fits.unlent parked.parked;
  }

  pub asked_send : (k : ℕ) (w : Word) (talk : Talk) → talk ≡ talk_of_row code limit (slice_index_or core.rows n None) → talk ≡ talks.Send k w → IsAsked code limit core n clock (Send (Some k) (w ∷ []))
  asked_send k w talk is send = asked_for (Send (Some k) (w ∷ [])) refl (send_of (asks (code_kind code) limit parked.row.state) k w (sym (is ∙ ap (talk_of_row code limit) parked.here) ∙ send))

  pub asked_receive : (k : ℕ) (talk : Talk) → talk ≡ talk_of_row code limit (slice_index_or core.rows n None) → talk ≡ talks.Receive k → IsAsked code limit core n clock (Receive (Some k))
  asked_receive k talk is receive = asked_for (Receive (Some k)) refl (receive_of (asks (code_kind code) limit parked.row.state) k (sym (is ∙ ap (talk_of_row code limit) parked.here) ∙ receive))

-- ---- a request that is performed

module _ (code : Code) (limit : ℕ) (core : CoreValue) (n clock : ℕ) (means : Request) (a : IsAsked code limit core n clock means) (meets : IsOfChannels means) (fits : FitsCore code limit core) (more : core.events < 2 ^ 62) (going : core.ending ≡ None) where
  passed_by : (event : Event) (new : CoreValue) → new.events ≡ core.events + 1 → new.ending ≡ core.ending → LeavesAll code limit core n clock means a.row.state event [] new → Passes code limit core n new × FitsCore code limit new
  passed_by event new one same left = (
    record {
      passed = λ m h. let x = happens_by code limit core n clock means event [] new a fits left m h in record { core = x.core; output = x.output ∙ append-nil (shared_of m).output };
      event = one;
      going = same ∙ going;
    },
    fits_by code limit core n clock means event [] new a fits more left,
  )

  -- it goes on, and these are woken
  pub passed_done : (reply : Reply) (woken : List (ℕ × Reply)) (channels : ChannelsValue) (later : ℕ) (new : CoreValue) → DoesWith core.channels n means reply woken channels → later ≡ clock + 1
      → new ≡ record core { rows = woken_rows code (answered_rows code core.rows n later reply) core.beds later woken; beds = left_beds core.beds woken; channels = channels; events = core.events + 1 } → Passes code limit core n new × FitsCore code limit new
  passed_done reply woken channels later new does is left =
      let event : Event = recorded clock n means (Done reply) (map (λ (w : ℕ × Reply). w.0) woken) in
      let deed : Others → Deed = λ o. record { fate = GoesOn reply; woken = woken; started = []; shared = record (shared_with o channels) { events = o.events ++ event ∷ [] } } in
      passed_by event new (ap (λ (x : CoreValue). x.events) left) (ap (λ (x : CoreValue). x.ending) left)
      (leaves_done code limit core n clock means a reply woken channels later event new deed (λ (o : Others). does o clock) (λ (o : Others). refl) is (meets_below code limit core n clock means a meets) left refl)

  -- it falls asleep
  pub passed_asleep : (channels : ChannelsValue) (new : CoreValue) → Does core.channels n means outcomes.Sleeps channels
      → new ≡ record core { rows = slice_set core.rows n None; beds = slice_set core.beds n (option_map (λ (row : Row State). row.state) (slice_index_or core.rows n None)); channels = channels; events = core.events + 1 } → Passes code limit core n new × FitsCore code limit new
  passed_asleep channels new does left =
      passed_by (recorded clock n means Sleeps []) new (ap (λ (x : CoreValue). x.events) left) (ap (λ (x : CoreValue). x.ending) left)
      (leaves_met code limit core n clock means a outcomes.Sleeps channels (recorded clock n means Sleeps []) new (λ (o : Others). does o clock) (record { new = left; event = refl }))

-- ---- moves

module _ (code : Code) (limit quantum : ℕ) where
  pub served_first : (old new : CoreValue) (n clock : ℕ) (x : Talked) → IsActor old n clock → IsServed code limit old n x new → Talks code limit quantum 1 old x new
  served_first old new n clock came.Enough a s = (suc zero, omega arith, (old, refl, inr (record { number = n; turn = a.turn; passes = s.0; fits = s.1 })))
  served_first old new n clock came.Nobody a s = absurd s
  served_first old new n clock came.Running a s = absurd s
  served_first old new n clock came.Left a s = (zero, old, refl, (s.0, (n, a.turn, s.1)))

  pub served_then : (old mid new : CoreValue) (n clock : ℕ) (x : Talked) → Works code limit quantum old (Some true) mid → IsActor mid n clock → IsServed code limit mid n x new → Talks code limit quantum 1 old x new
  served_then old mid new n clock came.Enough w a s = (suc (suc zero), omega arith, (mid, (old, refl, inl w), inr (record { number = n; turn = a.turn; passes = s.0; fits = s.1 })))
  served_then old mid new n clock came.Nobody w a s = absurd s
  served_then old mid new n clock came.Running w a s = absurd s
  served_then old mid new n clock came.Left w a s = (suc zero, mid, (old, refl, inl w), (s.0, (n, a.turn, s.1)))

  pub one_move : (old new : CoreValue) → Works code limit quantum old (Some true) new → Talks code limit quantum 1 old came.Enough new
  one_move old new w = (suc zero, omega arith, (old, refl, inl w))

  -- at least this many moves
  abbrev pub Makes : ℕ → CoreValue → CoreValue → Type 0
  Makes least old new = (k : ℕ) × (least ≤ k) × Moves code limit quantum k old new

  more_moves : (j k : ℕ) (old mid new : CoreValue) → Moves code limit quantum j old mid → Moves code limit quantum k mid new → (i : ℕ) × (i ≡ j + k) × Moves code limit quantum i old new
  more_moves j zero old mid new m is = (j, omega arith, subst (Moves code limit quantum j old) (sym is) m)
  more_moves j (suc k) old mid new m more =
      let all = more_moves j k old mid more.0 m more.1 in
      let long = all.1 in
      (suc all.0, omega (arith, long), (more.0, all.2, more.2))

  pub makes_more : (least : ℕ) (x : Talked) (old mid new : CoreValue) → Makes least old mid → Talks code limit quantum 1 mid x new → is_enough x ≡ true → Makes (least + 1) old new
  makes_more least came.Enough old mid new m t e =
      let all = more_moves m.0 t.0 old mid new m.2 t.2 in
      let one = t.1 in
      let had = m.1 in
      let long = all.1 in
      (all.0, omega (arith, one, had, long), all.2)
  makes_more least came.Nobody old mid new m t e = absurd cc
  makes_more least came.Running old mid new m t e = absurd cc
  makes_more least came.Left old mid new m t e = absurd cc

  pub talks_end : (least most : ℕ) (x : Talked) (old mid new : CoreValue) → Makes least old mid → Talks code limit quantum 1 mid x new → is_enough x ≡ false → Talks code limit quantum most old x new
  talks_end least most came.Enough old mid new m t e = absurd cc
  talks_end least most came.Nobody old mid new m t e = let all = more_moves m.0 t.0 old mid t.1 m.2 t.2 in (all.0, t.1, all.2, t.3)
  talks_end least most came.Running old mid new m t e = let all = more_moves m.0 t.0 old mid t.1 m.2 t.2 in (all.0, t.1, all.2, t.3)
  talks_end least most came.Left old mid new m t e = let all = more_moves m.0 t.0 old mid t.1 m.2 t.2 in (all.0, t.1, all.2, t.3)

  pub talks_fail : (least : ℕ) (old mid new : CoreValue) → Makes least old mid → FailsTalk code limit quantum mid new → FailsTalk code limit quantum old new
  talks_fail least old mid new m t = let all = more_moves m.0 t.0 old mid t.1 m.2 t.2 in (all.0, t.1, all.2, t.3)

-- ---- by result

pub served_fits : {E : Type 0} (code : Code) (limit : ℕ) (old new : CoreValue) (n : ℕ) (r : Result Talked E) → FitsCore code limit old → IfOk r (λ x. IsServed code limit old n x new) → OnErr r (new ≡ old) → FitsCore code limit new
served_fits {E} code limit old new n (Ok came.Enough) h s e = s.1
served_fits {E} code limit old new n (Ok came.Nobody) h s e = absurd s
served_fits {E} code limit old new n (Ok came.Running) h s e = absurd s
served_fits {E} code limit old new n (Ok came.Left) h s e = subst (FitsCore code limit) (sym s.0) h
served_fits {E} code limit old new n (Err x) h s e = subst (FitsCore code limit) (sym e) h

pub first_ok : {E : Type 0} (code : Code) (limit quantum : ℕ) (old new : CoreValue) (n clock : ℕ) (r : Result Talked E) → IsActor old n clock → IfOk r (λ x. IsServed code limit old n x new) → IfOk r (λ x. Talks code limit quantum 1 old x new)
first_ok {E} code limit quantum old new n clock (Ok x) a s = served_first code limit quantum old new n clock x a s
first_ok {E} code limit quantum old new n clock (Err x) a s = tt

pub then_ok : {E : Type 0} (code : Code) (limit quantum : ℕ) (old mid new : CoreValue) (n clock : ℕ) (r : Result Talked E) → Works code limit quantum old (Some true) mid → IsActor mid n clock → IfOk r (λ x. IsServed code limit mid n x new) → IfOk r (λ x. Talks code limit quantum 1 old x new)
then_ok {E} code limit quantum old mid new n clock (Ok x) w a s = served_then code limit quantum old mid new n clock x w a s
then_ok {E} code limit quantum old mid new n clock (Err x) w a s = tt

pub fails_any : {A E : Type 0} (P : Type 0) (r : Result A E) → P → OnErr r P
fails_any {A} {E} P (Ok x) p = tt
fails_any {A} {E} P (Err x) p = p

-- the one that was found asks
pub found_asks : (code : Code) (limit quantum : ℕ) (old new : CoreValue) (found : Option (ℕ × Talk)) (n : ℕ) (talk : Talk) → found ≡ Some (n, talk) → is_asking talk ≡ true → IfSome found (λ one. Works code limit quantum old (Some (is_asking one.1)) new) → Works code limit quantum old (Some true) new
found_asks code limit quantum old new found n talk is asks h =
    let works : Works code limit quantum old (Some (is_asking talk)) new = subst (λ (o : Option (ℕ × Talk)). IfSome o (λ one. Works code limit quantum old (Some (is_asking one.1)) new)) is h in
    subst (λ b. Works code limit quantum old (Some b) new) asks works
