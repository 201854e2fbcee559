-- Go allows what kendo does.
use Rattle.logical_clock.specs.declared.limits.TheConstants.{MAX_GOROUTINES}
use Rattle.logical_clock.specs.declared.key.Key.{Key}
use Rattle.std.proofs.Common.{◌≡◌, ℕ, zero, suc, ◌+◌, ◌-◌, ◌<◌, ◌≤◌, ◌≢◌, ℤ, pos, negsuc, Bool, true, false, ◌||◌, cond, List, [], ◌∷◌, ◌++◌, map, length, Option, Some, None, refl, sym, ap, ◌∙◌, subst, arith, inl, inr, ◌⊎◌, get_or, set, get_or-set_same, get_or-set_other, length-set, append-nil}
use Rattle.std.specs.Prelude.{◌==◌, ◌^◌, nat_lt, slice_set, unwrap_or, option_map}
use Rattle.std.specs.Option.{is_some}
use Rattle.std.specs.List.{slice_get}
use Rattle.std.proofs.lemmas.Bool.{or_parts, eqb-true, eqb-false, true≢false, cases_eq, cases_lt, ltb-true, lt-ltb, ltb-false}
use Rattle.std.proofs.lemmas.Option.{same_Some}
use Rattle.std.proofs.lemmas.List.{get_or_past, get_or_append_left, get_or-append_right, set_past, set-set, set-get_or}
use Rattle.turn_rule.specs.Turns.{World, changed, next, move_on, move_at, move_next, perform as perform_in, one, run}
use Rattle.word.specs.declared.limits.TheConstants.{MAX_CAPACITY, MAX_CHANNELS}
use Rattle.word.specs.declared.value.Word.{Word}
use Rattle.word.specs.declared.value.Word.TheVariants.{Chan}
use Rattle.word.specs.declared.panic.Panic.TheVariants.{SendOnClosed, CloseOfClosed, ChannelSize, TooManyGoroutines, TooManyChannels}
use Rattle.word.specs.declared.request.Case.{Case}
use Rattle.word.specs.declared.end.End.{End as Ending}
use Rattle.word.specs.declared.end.End.TheVariants.{Deadlock}
use Rattle.word.specs.Values.{Item, Request, Make, Go, Send, Receive, Close, Select, Len, Cap, Print, End, Exit, Panic, Exhausted, Reply, Nothing, Value, Received, Clause, Default, Closed, EventOutcome, Done, Sleeper, Offer, Channel, Shared}
use Rattle.word.specs.Kinds.{Next, Slides, Ticks, Asks, Stuck, GoroutineKind, Clocked, at as clocked, local_of, asks_of, local, asks, told}
use Rattle.word.specs.Requests.{GoesOn, Deed, no_channel, channel_of, with_offer, clause_offers, offers, first_offer, first_on, also, partner, partners, without, without_all, sent, got, done, sleeps, ends, panics, with_channel, send_to, do_send, receive_from, do_receive, send_ready, receive_ready, is_ready as is_ready_in, choose, do_clause, do_select, do_make, do_go, do_close, close_reply, act, asked, meant, perform, happened}
use Rattle.word.specs.Worlds.{Bed, Rest, in_bed, actor_after, beds_after, woken_by, begun_at, performs, rules, opening, moment, is_deserted}
use Rattle.word.proofs.Found.{In}
use Rattle.word.proofs.Fair.{partner_is}
use Rattle.word.proofs.Flows.{partner_first}
use Rattle.word.proofs.Apart as apart
use Rattle.word.proofs.Chosen.{chosen}
use Rattle.allowed.specs.Orders.{Scene, IsOneOf, has_space, Waits, with_items, Acts, makes, puts, takes, drains, defaults, closes as closes_channel, lens, caps, prints, Goes, steps, acts, starts, leaves, meet, Ends, returns, exits, panics as panics_so, sends as sends_so, closes as closes_so, closes_nil, makes as makes_so, deadlock, Leads, here, more, first, Allowed, IsOwnLimit, UsesMade, NamesMade, RunsAsAllowed}
use Rattle.allowed.proofs.Calm.{IsCalm, Once, calm_act, first_is, absent, none_at, made_at, idle_select, space}
use Rattle.allowed.proofs.Stands.{Awake, States, Down, Stand, within, in_kept, stand_on, stand_woken, stand_dozes, stand_leaves, stand_begins}

-- ---- lists

pub set_swap : {A : Type 0} (xs : List A) (i j : ℕ) (a b : A) → (i ≡ j → ⊥) → set (set xs i a) j b ≡ set (set xs j b) i a
set_swap [] i j a b ne = refl
set_swap (x ∷ xs) zero zero a b ne = absurd (ne refl)
set_swap (x ∷ xs) zero (suc j) a b ne = refl
set_swap (x ∷ xs) (suc i) zero a b ne = refl
set_swap (x ∷ xs) (suc i) (suc j) a b ne = ap (λ ys. x ∷ ys) (set_swap xs i j a b (λ e. ne (ap suc e)))

none_of : {A : Type 0} (o : Option A) → is_some o ≡ false → o ≡ None
none_of None h = refl
none_of (Some x) h = cc

some_of : {A : Type 0} (o : Option A) → is_some o ≡ true → (x : A) × (o ≡ Some x)
some_of None h = cc
some_of (Some x) h = (x, refl)

empty_by : {A : Type 0} (xs : List A) → nat_lt 0 (length xs) ≡ false → xs ≡ []
empty_by [] h = refl
empty_by (x ∷ xs) h = let l = ltb-false 0 (length (x ∷ xs)) h in absurd (omega (arith, l))

sent_open : (i : ℕ) → sent i ≡ Closed → ⊥
sent_open zero h = cc
sent_open (suc i) h = cc

got_open : (i : ℕ) (x : Item) (ok : Bool) → got i x ok ≡ Closed → ⊥
got_open zero x ok h = cc
got_open (suc i) x ok h = cc

find_sleeper : (ss : List Sleeper) (n : ℕ) → ((x : Sleeper) × In x ss × (x.number ≡ n)) ⊎ ((x : Sleeper) → In x ss → x.number ≢ n)
find_sleeper [] n = inr (λ x i. elim i [ ])
find_sleeper (s ∷ ss) n = elim (cases_eq s.number n) [
  | inl e ↦ inl (s, inl refl, e)
  | inr ne ↦ elim (find_sleeper ss n) [
    | inl f ↦ inl (f.0, inr f.1, f.2)
    | inr none ↦ inr (λ x i. elim i [ inl e ↦ (λ z. ne (ap (λ (y : Sleeper). y.number) (sym e) ∙ z)) | inr i' ↦ none x i' ])
  ]
]

-- ---- channels

-- a channel that is written once more
twice : (cs : List Channel) (k : ℕ) (a : Channel) (items : List Item) → k < length cs → with_items (slice_set cs k a) k items ≡ slice_set cs k (record a { items = items })
twice cs k a items l =
    ap (λ (x : Channel). slice_set (slice_set cs k a) k (record x { items = items })) (get_or-set_same cs k a no_channel l)
    ∙ set-set cs k a (record a { items = items })

-- what it was before
undone : (cs : List Channel) (k : ℕ) (a : Channel) → k < length cs → record a { items = [] } ≡ channel_of cs k → with_items (slice_set cs k a) k [] ≡ cs
undone cs k a l e = twice cs k a [] l ∙ ap (λ x. slice_set cs k x) e ∙ set-get_or cs k no_channel

-- what was closed stays closed
abbrev StaysClosed : List Channel → List Channel → Type 0
StaysClosed cs ds = (j : ℕ) → (channel_of cs j).closed ≡ true → (channel_of ds j).closed ≡ true

closed_written : (cs : List Channel) (k : ℕ) (ch : Channel) → ((channel_of cs k).closed ≡ true → ch.closed ≡ true) → StaysClosed cs (slice_set cs k ch)
closed_written cs k ch f j h = elim (cases_eq j k) [
  | inl e ↦ elim (cases_lt k (length cs)) [
    | inl l ↦ ap (λ i. (channel_of (slice_set cs k ch) i).closed) e ∙ ap (λ (x : Channel). x.closed) (get_or-set_same cs k ch no_channel l) ∙ f (ap (λ i. (channel_of cs i).closed) (sym e) ∙ h)
    | inr l ↦ ap (λ (ys : List Channel). (channel_of ys j).closed) (set_past cs k ch l) ∙ h
  ]
  | inr ne ↦ ap (λ (x : Channel). x.closed) (get_or-set_other cs k j ch no_channel ne) ∙ h
]

closed_made : (cs : List Channel) (ch : Channel) → StaysClosed cs (cs ++ ch ∷ [])
closed_made cs ch j h = elim (cases_lt j (length cs)) [
  | inl l ↦ ap (λ (x : Channel). x.closed) (get_or_append_left cs (ch ∷ []) no_channel j l) ∙ h
  | inr l ↦ absurd (true≢false (sym h ∙ ap (λ (x : Channel). x.closed) (get_or_past cs j no_channel l)))
]

within_by : (cs : List Channel) (k m : ℕ) → nat_lt m (channel_of cs k).capacity ≡ true → k < length cs
within_by cs k m h = elim (cases_lt k (length cs)) [
  | inl l ↦ l
  | inr l ↦ let p = ap (λ (y : Channel). nat_lt m y.capacity) (get_or_past cs k no_channel l) in let q = ltb-true m 0 (sym p ∙ h) in absurd (omega (arith, q))
]

filled : (cs : List Channel) (k : ℕ) (x : Item) (xs : List Item) → (channel_of cs k).items ≡ x ∷ xs → k < length cs
filled cs k x xs h = elim (cases_lt k (length cs)) [ inl l ↦ l | inr l ↦ let p = ap (λ (y : Channel). y.items) (get_or_past cs k no_channel l) in absurd cc ]

-- ---- what a goroutine does next

pub local_is : (K : GoroutineKind) (limit : ℕ) (s t : Clocked K.State) → local K limit s ≡ Some t → ((K.next s.state ≡ Slides t.state) ⊎ (K.next s.state ≡ Ticks t.state)) × (t.doomed ≡ false)
local_is K limit s t h = go s.doomed (K.next s.state) refl h
  where
    ticks : (b : Bool) (a : K.State) → K.next s.state ≡ Ticks a → cond b None (Some (clocked (s.clock + 1) a)) ≡ Some t → ((K.next s.state ≡ Slides t.state) ⊎ (K.next s.state ≡ Ticks t.state)) × (t.doomed ≡ false)
    ticks true a e h' = cc
    ticks false a e h' = let f = same_Some (clocked (s.clock + 1) a) t h' in (inr (e ∙ ap (λ (z : Clocked K.State). Ticks z.state) f), sym (ap (λ (z : Clocked K.State). z.doomed) f))

    go : (b : Bool) (x : Next K.State) → K.next s.state ≡ x → local_of limit s.clock (cond b (Asks (Panic SendOnClosed)) x) ≡ Some t → ((K.next s.state ≡ Slides t.state) ⊎ (K.next s.state ≡ Ticks t.state)) × (t.doomed ≡ false)
    go true x e h' = cc
    go false (Slides a) e h' = let f = same_Some (clocked s.clock a) t h' in (inl (e ∙ ap (λ (z : Clocked K.State). Slides z.state) f), sym (ap (λ (z : Clocked K.State). z.doomed) f))
    go false (Ticks a) e h' = ticks (s.clock == limit) a e h'
    go false (Asks q) e h' = cc
    go false Stuck e h' = cc

abbrev pub AsksSo : (K : GoroutineKind) → Clocked K.State → Request → Type 0
AsksSo K s q = (q ≡ Exhausted) ⊎ (((s.doomed ≡ true) × (q ≡ Panic SendOnClosed)) ⊎ (K.next s.state ≡ Asks q))

pub asks_is : (K : GoroutineKind) (limit : ℕ) (s : Clocked K.State) (q : Request) → asks K limit s ≡ Some q → AsksSo K s q
asks_is K limit s q h = go s.doomed refl (K.next s.state) refl h
  where
    spent : (b : Bool) → cond b (Some Exhausted) None ≡ Some q → AsksSo K s q
    spent true h' = inl (sym (same_Some Exhausted q h'))
    spent false h' = cc

    asking : (b : Bool) (p : Request) → AsksSo K s p → cond b (Some Exhausted) (Some p) ≡ Some q → AsksSo K s q
    asking true p f h' = inl (sym (same_Some Exhausted q h'))
    asking false p f h' = subst (AsksSo K s) (same_Some p q h') f

    go : (b : Bool) → s.doomed ≡ b → (x : Next K.State) → K.next s.state ≡ x → asks_of limit s.clock (cond b (Asks (Panic SendOnClosed)) x) ≡ Some q → AsksSo K s q
    go true e x f h' = asking (s.clock == limit) (Panic SendOnClosed) (inr (inl (e, refl))) h'
    go false e (Slides a) f h' = cc
    go false e (Ticks a) f h' = spent (s.clock == limit) h'
    go false e (Asks p) f h' = asking (s.clock == limit) p (inr (inr f)) h'
    go false e Stuck f h' = cc

abbrev MeantSo : ℕ → Request → Request → Type 0
MeantSo n q p = (p ≡ Exhausted) ⊎ (((n ≡ 1) × (q ≡ End) × (p ≡ Exit)) ⊎ ((p ≡ q) × (q ≡ End → n ≢ 1)))

meant_so : (w : Shared) (n : ℕ) (q : Request) → MeantSo n q (meant w n q)
meant_so w n q = go (length w.events + 1 == 2 ^ 62)
  where
    by : (q : Request) → MeantSo n q (asked n q)
    by (Make size z) = inr (inr (refl, λ e f. cc))
    by (Go f args) = inr (inr (refl, λ e f. cc))
    by (Send c item) = inr (inr (refl, λ e f. cc))
    by (Receive c) = inr (inr (refl, λ e f. cc))
    by (Close c) = inr (inr (refl, λ e f. cc))
    by (Select cases default) = inr (inr (refl, λ e f. cc))
    by (Len c) = inr (inr (refl, λ e f. cc))
    by (Cap c) = inr (inr (refl, λ e f. cc))
    by (Print bytes) = inr (inr (refl, λ e f. cc))
    by End = ended (n == 1) refl
      where
        ended : (b : Bool) → (n == 1) ≡ b → MeantSo n End (cond b Exit End)
        ended true e = inr (inl (eqb-true n 1 e, refl, refl))
        ended false e = inr (inr (refl, λ _. eqb-false n 1 e))
    by Exit = inr (inr (refl, λ e f. cc))
    by (Panic p) = inr (inr (refl, λ e f. cc))
    by Exhausted = inr (inr (refl, λ e f. cc))

    go : (b : Bool) → MeantSo n q (cond b Exhausted (asked n q))
    go true = inl refl
    go false = by q

-- ---- who waits does nothing alone

pub never_acts : (cs ds : List Channel) (q : Request) (reply : Reply) (bytes : List ℕ) → Acts cs q reply ds bytes → Waits cs q → ⊥
never_acts cs ds q reply bytes (makes size z) w = elim w.0 [ ]
never_acts cs ds q reply bytes (puts r o item one is opened has) w =
    let e = none_at cs (offers r) o one w.1 in
    let e' = subst (λ (t : Option Item). ((channel_of cs o.chan).closed || cond (is_some t) (has_space (channel_of cs o.chan)) (nat_lt 0 (length (channel_of cs o.chan).items))) ≡ false) is e in
    true≢false (sym has ∙ (or_parts _ _ e').1)
never_acts cs ds q reply bytes (takes r o item rest one is there) w =
    let e = none_at cs (offers r) o one w.1 in
    let e' = subst (λ (t : Option Item). ((channel_of cs o.chan).closed || cond (is_some t) (has_space (channel_of cs o.chan)) (nat_lt 0 (length (channel_of cs o.chan).items))) ≡ false) is e in
    let none = empty_by (channel_of cs o.chan).items (or_parts _ _ e').1 in
    let bad : item ∷ rest ≡ [] = sym there ∙ none in
    absurd cc
never_acts cs ds q reply bytes (drains r o one is none closed) w =
    let e = none_at cs (offers r) o one w.1 in
    true≢false (sym closed ∙ (or_parts _ _ e).0)
never_acts cs ds q reply bytes (defaults cases none) w = elim w.0 [ ]
never_acts cs ds q reply bytes (closes_channel k opened) w = elim w.0 [ ]
never_acts cs ds q reply bytes (lens k) w = elim w.0 [ ]
never_acts cs ds q reply bytes (caps k) w = elim w.0 [ ]
never_acts cs ds q reply bytes (prints text) w = elim w.0 [ ]

-- ---- the offer of a clause

clause_in : (xs : List Case) (j k i : ℕ) (x : Case) (chan : ℕ) → i ≡ j + k → slice_get xs k ≡ Some x → x.chan ≡ Some chan → IsOneOf (record { case = i; chan = chan; item = x.item }) (clause_offers j xs)
clause_in [] j k i x chan e h c = cc
clause_in (y ∷ ys) j zero i x chan e h c =
    let same : i ≡ j = omega (arith, e) in
    subst (λ (z : Case). IsOneOf (record { case = i; chan = chan; item = x.item }) (with_offer j z.chan z.item (clause_offers (suc j) ys))) (sym (same_Some y x h))
    (subst (λ o. IsOneOf (record { case = i; chan = chan; item = x.item }) (with_offer j o x.item (clause_offers (suc j) ys))) (sym c)
    (inl (ap (λ m. record { case = m; chan = chan; item = x.item }) same)))
clause_in (y ∷ ys) j (suc k) i x chan e h c = go y.chan (clause_in ys (suc j) k i x chan (omega (arith, e)) h c)
  where
    go : (o : Option ℕ) → IsOneOf (record { case = i; chan = chan; item = x.item }) (clause_offers (suc j) ys) → IsOneOf (record { case = i; chan = chan; item = x.item }) (with_offer j o y.item (clause_offers (suc j) ys))
    go None f = f
    go (Some m) f = inr f

-- ---- a scene of a world

module _ (K : GoroutineKind) (limit : ℕ) where
  abbrev Place : Type 0
  Place = World (Clocked K.State) (Rest K.State)

  told_is : (s : Clocked K.State) (clock : ℕ) (reply : Reply) → (reply ≡ Closed → ⊥) → told K s clock reply ≡ clocked clock (K.answer s.state reply)
  told_is s clock Nothing ne = refl
  told_is s clock (Value x) ne = refl
  told_is s clock (Received x ok) ne = refl
  told_is s clock (Clause i g) ne = refl
  told_is s clock Default ne = refl
  told_is s clock Closed ne = absurd (ne refl)

  -- woken by a close at a send, which it hasn't left
  record Doomed (cs : List Channel) (s : K.State) : Type 0 where
    q : Request
    asks : K.next s ≡ Asks q
    o : Offer
    one : IsOneOf o (offers q)
    sends : is_some o.item ≡ true
    closed : (channel_of cs o.chan).closed ≡ true

  abbrev Dooms : List Channel → Awake K → Type 0
  Dooms cs aw = (m : ℕ) (s : Clocked K.State) → get_or aw m None ≡ Some s → s.doomed ≡ true → Doomed cs s.state

  abbrev scene : States K → List Channel → List ℕ → Scene K.State
  scene gs cs output = record { goroutines = gs; channels = cs; output = output }

  record After (aw : Awake K) (beds : List (Bed K.State)) (u : Shared) : Type 0 where
    gs : States K
    run : Leads K (first K) (scene gs u.channels u.output)
    stand : Stand K aw beds u.asleep gs
    dooms : Dooms u.channels aw
    ends : (e : Ending) → u.ending ≡ Some e → IsOwnLimit e ⊎ Ends K (scene gs u.channels u.output) e

  doomed_on : (cs ds : List Channel) → StaysClosed cs ds → (s : K.State) → Doomed cs s → Doomed ds s
  doomed_on cs ds f s d = record { q = d.q; asks = d.asks; o = d.o; one = d.one; sends = d.sends; closed = f d.o.chan d.closed }

  -- one goroutine is written that isn't doomed
  dooms_set : (cs ds : List Channel) → StaysClosed cs ds → (aw : Awake K) (n : ℕ) (t : Clocked K.State) → n < length aw → t.doomed ≡ false → Dooms cs aw → Dooms ds (set aw n (Some t))
  dooms_set cs ds f aw n t l e h m s g d = elim (cases_eq m n) [
    | inl z ↦
        let a : Some t ≡ Some s = sym (get_or-set_same aw n (Some t) None l) ∙ ap (λ i. get_or (set aw n (Some t)) i None) (sym z) ∙ g in
        absurd (true≢false (sym d ∙ ap (λ (x : Clocked K.State). x.doomed) (sym (same_Some t s a)) ∙ e))
    | inr ne ↦ doomed_on cs ds f s.state (h m s (sym (get_or-set_other aw n m (Some t) None ne) ∙ g) d)
  ]

  dooms_gone : (cs : List Channel) (aw : Awake K) (n : ℕ) → n < length aw → Dooms cs aw → Dooms cs (set aw n None)
  dooms_gone cs aw n l h m s g d = elim (cases_eq m n) [
    | inl z ↦
        let nothing : Option (Clocked K.State) = None in
        let a : nothing ≡ Some s = sym (get_or-set_same aw n nothing None l) ∙ ap (λ i. get_or (set aw n nothing) i None) (sym z) ∙ g in absurd cc
    | inr ne ↦ h m s (sym (get_or-set_other aw n m None None ne) ∙ g) d
  ]

  dooms_more : (cs : List Channel) (aw : Awake K) (t : Clocked K.State) → t.doomed ≡ false → Dooms cs aw → Dooms cs (aw ++ Some t ∷ [])
  dooms_more cs aw t e h m s g d = elim (cases_lt m (length aw)) [
    | inl l ↦ h m s (sym (get_or_append_left aw (Some t ∷ []) None m l) ∙ g) d
    | inr l ↦ last (m - length aw) (sym (get_or-append_right aw (Some t ∷ []) (length aw) m None refl l) ∙ g)
  ]
    where
      last : (i : ℕ) → get_or (Some t ∷ []) i None ≡ Some s → Doomed cs s.state
      last zero a = absurd (true≢false (sym d ∙ ap (λ (x : Clocked K.State). x.doomed) (sym (same_Some t s a)) ∙ e))
      last (suc i) a = cc

  -- ---- one event

  module _ (w : Place) (n : ℕ) (s : Clocked K.State) (up : get_or w.awake n None ≡ Some s) (lies : apart.Apart K limit w) (going : w.shared.shared.ending ≡ None)
      (gs : States K) (ran : Leads K (first K) (scene gs w.shared.shared.channels w.shared.shared.output)) (stand : Stand K w.awake w.shared.beds w.shared.shared.asleep gs) (dooms : Dooms w.shared.shared.channels w.awake)
      (calm : IsCalm w.shared.shared) (made : UsesMade w.shared.shared) where
    abbrev v : Shared
    v = w.shared.shared

    abbrev c : ℕ
    c = s.clock

    abbrev beds : List (Bed K.State)
    beds = w.shared.beds

    abbrev its : ℕ → Channel
    its k = channel_of v.channels k

    abbrev there : n < length w.awake
    there = within w.awake n s up

    abbrev stands : get_or gs n None ≡ Some s.state
    stands = stand.up n s up

    off : (x : Sleeper) → In x v.asleep → x.number ≢ n
    off x i = apart.not_asleep K limit w lies n s up x i

    abbrev awake_after : Deed → Awake K
    awake_after d = changed (rules K limit) w.awake ((n, actor_after K limit (c + 1) s d.fate) ∷ woken_by K limit beds (c + 1) d.woken) ++ map Some (begun_at K limit (c + 1) d.started)

    abbrev Did : Deed → Type 0
    Did d = After (awake_after d) (beds_after K limit beds n s d.fate) d.shared

    abbrev answered : Reply → Clocked K.State
    answered reply = clocked (c + 1) (K.answer s.state reply)

    going_on : {A : Type 0} (e : Ending) → v.ending ≡ Some e → A
    going_on e h = let bad : None ≡ Some e = sym going ∙ h in absurd cc

    did_ends : (q : Request) (o : EventOutcome) (e : Ending) → (IsOwnLimit e ⊎ Ends K (scene gs v.channels v.output) e) → Did (ends v n c q o e)
    did_ends q o e h = record {
      gs = gs;
      run = ran;
      stand = subst (λ a. Stand K a beds v.asleep gs) (sym same) stand;
      dooms = subst (λ a. Dooms v.channels a) (sym same) dooms;
      ends = λ e' f. subst (λ x. IsOwnLimit x ⊎ Ends K (scene gs v.channels v.output) x) (same_Some e e' f) h;
    }
      where
        same : set w.awake n (Some s) ++ [] ≡ w.awake
        same = append-nil (set w.awake n (Some s)) ∙ ap (λ o'. set w.awake n o') (sym up) ∙ set-get_or w.awake n None

    -- the goroutine goes on alone
    did_on : (u : Shared) (q : Request) (reply : Reply) (bytes : List ℕ) → K.next s.state ≡ Asks q → Acts v.channels q reply u.channels bytes → (reply ≡ Closed → ⊥) → StaysClosed v.channels u.channels → u.asleep ≡ v.asleep → u.output ≡ v.output ++ bytes → u.ending ≡ v.ending
        → After (set w.awake n (Some (told K s (c + 1) reply)) ++ []) beds u
    did_on u q reply bytes asking a ne closed same out ending = record {
      gs = set gs n (Some (K.answer s.state reply));
      run = subst (λ o. Leads K (first K) (scene (set gs n (Some (K.answer s.state reply))) u.channels o)) (sym out) (more ran (acts n s.state q reply u.channels bytes stands asking a));
      stand = subst (λ x. Stand K x beds u.asleep (set gs n (Some (K.answer s.state reply)))) (sym is) (subst (λ x. Stand K (set w.awake n (Some (answered reply))) beds x (set gs n (Some (K.answer s.state reply)))) (sym same) (stand_on K w.awake beds v.asleep gs stand n (answered reply) there off));
      dooms = subst (λ x. Dooms u.channels x) (sym is) (dooms_set v.channels u.channels closed w.awake n (answered reply) there refl dooms);
      ends = λ e h. going_on e (sym ending ∙ h);
    }
      where
        is : set w.awake n (Some (told K s (c + 1) reply)) ++ [] ≡ set w.awake n (Some (answered reply))
        is = append-nil (set w.awake n (Some (told K s (c + 1) reply))) ∙ ap (λ x. set w.awake n (Some x)) (told_is s (c + 1) reply ne)

    did_sleeps : (q : Request) → K.next s.state ≡ Asks q → Did (sleeps v n c q)
    did_sleeps q asking = record {
      gs = gs;
      run = ran;
      stand = subst (λ x. Stand K x (record { number = n; state = s } ∷ beds) (without v.asleep n ++ record { number = n; request = q } ∷ []) gs) (sym (append-nil (set w.awake n None))) (stand_dozes K w.awake beds v.asleep gs stand n s q up asking);
      dooms = subst (λ x. Dooms v.channels x) (sym (append-nil (set w.awake n None))) (dooms_gone v.channels w.awake n there dooms);
      ends = λ e h. going_on e h;
    }

    did_leaves : K.next s.state ≡ Asks End → n ≢ 1 → Did (act v n c End End)
    did_leaves asking other = record {
      gs = set gs n None;
      run = more ran (leaves n s.state other stands asking);
      stand = subst (λ x. Stand K x beds v.asleep (set gs n None)) (sym (append-nil (set w.awake n None))) (stand_leaves K w.awake beds v.asleep gs stand n there off);
      dooms = subst (λ x. Dooms v.channels x) (sym (append-nil (set w.awake n None))) (dooms_gone v.channels w.awake n there dooms);
      ends = λ e h. going_on e h;
    }

    did_go : (f : ℕ) (args : List Word) → K.next s.state ≡ Asks (Go f args) → Did (do_go v n c (Go f args) f args)
    did_go f args asking = go (v.live == MAX_GOROUTINES)
      where
        go : (b : Bool) → Did (cond b (panics v n c (Go f args) TooManyGoroutines 0) (record {
          fate = GoesOn Nothing;
          woken = [];
          started = (f, args) ∷ [];
          shared = happened v n c (Go f args) (record v { live = v.live + 1; made = v.made + 1 }) (Done Nothing) ((v.made + 1) ∷ []);
        }))
        go true = did_ends (Go f args) _ _ (inl tt)
        go false = record {
          gs = set gs n (Some (K.answer s.state Nothing)) ++ Some (K.begin f args) ∷ [];
          run = more ran (starts n s.state f args stands asking);
          stand = stand_begins K (set w.awake n (Some (answered Nothing))) beds v.asleep (set gs n (Some (K.answer s.state Nothing))) (stand_on K w.awake beds v.asleep gs stand n (answered Nothing) there off) (clocked (c + 1) (K.begin f args));
          dooms = dooms_more v.channels (set w.awake n (Some (answered Nothing))) (clocked (c + 1) (K.begin f args)) refl (dooms_set v.channels v.channels (λ j h. h) w.awake n (answered Nothing) there refl dooms);
          ends = λ e h. going_on e h;
        }

    -- the goroutine goes on, and so does one that sleeps
    module _ (y : Sleeper) (i : In y v.asleep) where
      abbrev lying : Down K beds gs y
      lying = stand.down y i

      abbrev met : Reply → Clocked K.State
      met reply = clocked (c + 1) (K.answer lying.s.state reply)

      abbrev both : Reply → Reply → States K
      both reply other = set (set gs n (Some (K.answer s.state reply))) y.number (Some (K.answer lying.s.state other))

      did_both : (u : Shared) (reply other : Reply) → Leads K (first K) (scene (both reply other) u.channels u.output) → (reply ≡ Closed → ⊥) → (other ≡ Closed → ⊥) → StaysClosed v.channels u.channels → u.asleep ≡ without v.asleep y.number → u.ending ≡ v.ending
          → After (set (set w.awake n (Some (told K s (c + 1) reply))) y.number (option_map (λ (t : Clocked K.State). told K t (c + 1) other) (in_bed y.number beds)) ++ []) beds u
      did_both u reply other run ne ne' closed same ending = record {
        gs = both reply other;
        run = run;
        stand = subst (λ x. Stand K x beds u.asleep (both reply other)) (sym is) (subst (λ x. Stand K (set (set w.awake n (Some (answered reply))) y.number (Some (met other))) beds x (both reply other)) (sym same)
            (stand_woken K (set w.awake n (Some (answered reply))) beds v.asleep (set gs n (Some (K.answer s.state reply))) (stand_on K w.awake beds v.asleep gs stand n (answered reply) there off) y i (met other)));
        dooms = subst (λ x. Dooms u.channels x) (sym is) (dooms_set v.channels u.channels closed (set w.awake n (Some (answered reply))) y.number (met other) far refl (dooms_set v.channels v.channels (λ j h. h) w.awake n (answered reply) there refl dooms));
        ends = λ e h. going_on e (sym ending ∙ h);
      }
        where
          far : y.number < length (set w.awake n (Some (answered reply)))
          far = omega (arith, within gs y.number lying.s.state lying.here, stand.size, length-set w.awake n (Some (answered reply)))

          is : set (set w.awake n (Some (told K s (c + 1) reply))) y.number (option_map (λ (t : Clocked K.State). told K t (c + 1) other) (in_bed y.number beds)) ++ [] ≡ set (set w.awake n (Some (answered reply))) y.number (Some (met other))
          is =
              append-nil (set (set w.awake n (Some (told K s (c + 1) reply))) y.number (option_map (λ (t : Clocked K.State). told K t (c + 1) other) (in_bed y.number beds)))
              ∙ ap (λ x. set (set w.awake n (Some x)) y.number (option_map (λ (t : Clocked K.State). told K t (c + 1) other) (in_bed y.number beds))) (told_is s (c + 1) reply ne)
              ∙ ap (λ o. set (set w.awake n (Some (answered reply))) y.number (option_map (λ (t : Clocked K.State). told K t (c + 1) other) o)) lying.bed
              ∙ ap (λ x. set (set w.awake n (Some (answered reply))) y.number (Some x)) (told_is lying.s (c + 1) other ne')

      -- one after the other
      two_acts : (q : Request) (reply other : Reply) (cs ds : List Channel) → K.next s.state ≡ Asks q → Acts v.channels q reply cs [] → Acts cs y.request other ds [] → Leads K (first K) (scene (both reply other) ds v.output)
      two_acts q reply other cs ds asking a b =
          subst (λ o. Leads K (first K) (scene (both reply other) ds o)) (append-nil (v.output ++ []) ∙ append-nil v.output)
          (more (more ran (acts n s.state q reply cs [] stands asking a)) (acts y.number lying.s.state y.request other ds [] (get_or-set_other gs n y.number (Some (K.answer s.state reply)) None (off y i) ∙ lying.here) lying.asks b))

    -- ---- a send

    did_send : (q : Request) (k i : ℕ) (item : Item) → K.next s.state ≡ Asks q → IsOneOf (record { case = i; chan = k; item = Some item }) (offers q) → send_ready v n c q k ≡ true → Did (do_send v n c q k item i)
    did_send q k i item asking one ready = go (its k).closed refl (partner k false v.asleep) refl
      where
        o : Offer
        o = record { case = i; chan = k; item = Some item }

        go : (b : Bool) → (its k).closed ≡ b → (f : Option (Sleeper × Offer)) → partner k false v.asleep ≡ f → Did (cond b (panics v n c q SendOnClosed i) (send_to v n c q k (its k) item i f))
        go true e f g = did_ends q _ _ (inr (sends_so n s.state q o stands asking one refl e))
        go false e None g = did_on _ q (sent i) [] asking (puts q o item one refl e (space v n c q calm made off k ready e g)) (sent_open i) (closed_written v.channels k _ (λ h. h)) refl (sym (append-nil v.output)) refl
        go false e (Some p) g = elim (cases_eq (its k).capacity 0) [
          | inl z ↦ did_both p.0 lie _ (sent i) reply
              (more ran (meet n p.0.number s.state (lying p.0 lie).s.state q p.0.request o p.1 item (λ h. off p.0 lie (sym h)) stands (lying p.0 lie).here asking (lying p.0 lie).asks
              (record { gives = one; takes = f.0; sends = refl; receives = none; same = f.1; opened = e; unbuffered = z; waits = inr waits })))
              (sent_open i) (got_open p.1.case item true) (λ j h. h) refl refl
          | inr nz ↦
              let has : has_space (its k) ≡ true = lt-ltb (length (its k).items) (its k).capacity (omega (arith, nz, ap length empty)) in
              let l = within_by v.channels k (length (its k).items) has in
              let cs : List Channel = with_items v.channels k ((its k).items ++ item ∷ []) in
              let there' : (channel_of cs p.1.chan).items ≡ item ∷ []
              = ap (λ m. (channel_of cs m).items) f.1 ∙ ap (λ (x : Channel). x.items) (get_or-set_same v.channels k (record (its k) { items = (its k).items ++ item ∷ [] }) no_channel l) ∙ ap (λ xs. xs ++ item ∷ []) empty in
              let back : with_items cs p.1.chan [] ≡ v.channels
              = ap (λ m. with_items cs m []) f.1 ∙ undone v.channels k (record (its k) { items = (its k).items ++ item ∷ [] }) l (ap (λ xs. record (its k) { items = xs }) (sym empty)) in
              did_both p.0 lie _ (sent i) reply
              (subst (λ x. Leads K (first K) (scene (both p.0 lie (sent i) reply) x v.output)) back
              (two_acts p.0 lie q (sent i) reply cs (with_items cs p.1.chan []) asking (puts q o item one refl e has) (takes p.0.request p.1 item [] f.0 none there')))
              (sent_open i) (got_open p.1.case item true) (λ j h. h) refl refl
        ]
          where
            lie : In p.0 v.asleep
            lie = (partner_is k false v.asleep p g).lies

            reply : Reply
            reply = got p.1.case item true

            f : IsOneOf p.1 (offers p.0.request) × (p.1.chan ≡ k) × (is_some p.1.item ≡ false)
            f = first_is k false (offers p.0.request) p.1 (partner_first k false v.asleep p g)

            none : p.1.item ≡ None
            none = none_of p.1.item f.2

            waits : Waits v.channels p.0.request
            waits = calm.waits p.0 lie

            empty : (its k).items ≡ []
            empty =
                let r = none_at v.channels (offers p.0.request) p.1 f.0 waits.1 in
                let r' = subst (λ m. ((its m).closed || cond (is_some p.1.item) (has_space (its m)) (nat_lt 0 (length (its m).items))) ≡ false) f.1 r in
                let r'' = subst (λ (t : Option Item). ((its k).closed || cond (is_some t) (has_space (its k)) (nat_lt 0 (length (its k).items))) ≡ false) none r' in
                empty_by (its k).items (or_parts (its k).closed (nat_lt 0 (length (its k).items)) r'').1

    -- ---- a receive

    did_receive : (q : Request) (k i : ℕ) → K.next s.state ≡ Asks q → IsOneOf (record { case = i; chan = k; item = None }) (offers q) → receive_ready v n c q k ≡ true → Did (do_receive v n c q k i)
    did_receive q k i asking one ready = go (its k).items refl (partner k true v.asleep) refl
      where
        o : Offer
        o = record { case = i; chan = k; item = None }

        or_false : (b : Bool) → (b || false) ≡ b
        or_false true = refl
        or_false false = refl

        shut : (its k).items ≡ [] → partner k true v.asleep ≡ None → (its k).closed ≡ true
        shut e g = sym (or_false (its k).closed) ∙ sym (ap (λ (xs : List Item). (its k).closed || (nat_lt 0 (length xs) || is_some (partner k true v.asleep))) e ∙ ap (λ (x : Option (Sleeper × Offer)). (its k).closed || is_some x) g) ∙ ready

        go : (items : List Item) → (its k).items ≡ items → (f : Option (Sleeper × Offer)) → partner k true v.asleep ≡ f → Did (receive_from v n c q k (its k) i items f)
        go (x ∷ xs) e None g = did_on _ q (got i x true) [] asking (takes q o x xs one refl e) (got_open i x true) (closed_written v.channels k _ (λ h. h)) refl (sym (append-nil v.output)) refl
        go [] e None g = did_on _ q (got i (its k).zero false) [] asking (drains q o one refl e (shut e g)) (got_open i (its k).zero false) (λ j h. h) refl (sym (append-nil v.output)) refl
        go (x ∷ xs) e (Some p) g =
            let l = filled v.channels k x xs e in
            let cs : List Channel = with_items v.channels k xs in
            let new : channel_of cs k ≡ record (its k) { items = xs } = get_or-set_same v.channels k (record (its k) { items = xs }) no_channel l in
            let at_k : channel_of cs p.1.chan ≡ record (its k) { items = xs } = ap (channel_of cs) f.1 ∙ new in
            let opened : (channel_of cs p.1.chan).closed ≡ false = ap (λ (z : Channel). z.closed) at_k ∙ shuts.0 in
            let has : has_space (channel_of cs p.1.chan) ≡ true = ap has_space at_k ∙ lt-ltb (length xs) (its k).capacity (let full = ltb-false (length (its k).items) (its k).capacity shuts.1 in omega (arith, full, calm.fits k, ap length e)) in
            let end : with_items cs p.1.chan ((channel_of cs p.1.chan).items ++ given.0 ∷ []) ≡ slice_set v.channels k (record (its k) { items = xs ++ unwrap_or p.1.item [] ∷ [] })
            = ap (λ (z : Channel). with_items cs p.1.chan (z.items ++ given.0 ∷ [])) at_k ∙ ap (λ m. with_items cs m (xs ++ given.0 ∷ [])) f.1 ∙ twice v.channels k (record (its k) { items = xs }) (xs ++ given.0 ∷ []) l ∙ ap (λ z. slice_set v.channels k (record (its k) { items = xs ++ z ∷ [] })) (sym same_item) in
            did_both p.0 lie _ (got i x true) (sent p.1.case)
            (subst (λ z. Leads K (first K) (scene (both p.0 lie (got i x true) (sent p.1.case)) z v.output)) end
            (two_acts p.0 lie q (got i x true) (sent p.1.case) cs (with_items cs p.1.chan ((channel_of cs p.1.chan).items ++ given.0 ∷ [])) asking (takes q o x xs one refl e) (puts p.0.request p.1 given.0 f.0 given.1 opened has)))
            (got_open i x true) (sent_open p.1.case) (closed_written v.channels k _ (λ h. h)) refl refl
          where
            lie : In p.0 v.asleep
            lie = (partner_is k true v.asleep p g).lies

            f : IsOneOf p.1 (offers p.0.request) × (p.1.chan ≡ k) × (is_some p.1.item ≡ true)
            f = first_is k true (offers p.0.request) p.1 (partner_first k true v.asleep p g)

            given : (z : Item) × (p.1.item ≡ Some z)
            given = some_of p.1.item f.2

            same_item : unwrap_or p.1.item [] ≡ given.0
            same_item = ap (λ (t : Option Item). unwrap_or t []) given.1

            shuts : ((its k).closed ≡ false) × (has_space (its k) ≡ false)
            shuts =
                let r = none_at v.channels (offers p.0.request) p.1 f.0 (calm.waits p.0 lie).1 in
                let r' = subst (λ m. ((its m).closed || cond (is_some p.1.item) (has_space (its m)) (nat_lt 0 (length (its m).items))) ≡ false) f.1 r in
                or_parts (its k).closed (has_space (its k)) (subst (λ (t : Option Item). ((its k).closed || cond (is_some t) (has_space (its k)) (nat_lt 0 (length (its k).items))) ≡ false) given.1 r')
        go [] e (Some p) g =
            let unbuffered : (its k).capacity ≡ 0 = let full = ltb-false (length (its k).items) (its k).capacity shuts.1 in omega (arith, full, ap length e) in
            did_both p.0 lie _ (got i (unwrap_or p.1.item []) true) (sent p.1.case)
            (subst (λ z. Leads K (first K) (scene z v.channels v.output)) swapped
            (more ran (meet p.0.number n (lying p.0 lie).s.state s.state p.0.request q p.1 o given.0 (off p.0 lie) (lying p.0 lie).here stands (lying p.0 lie).asks asking
            (record {
              gives = f.0;
              takes = one;
              sends = given.1;
              receives = refl;
              same = sym f.1;
              opened = ap (λ m. (its m).closed) f.1 ∙ shuts.0;
              unbuffered = ap (λ m. (its m).capacity) f.1 ∙ unbuffered;
              waits = inl (calm.waits p.0 lie);
            }))))
            (got_open i (unwrap_or p.1.item []) true) (sent_open p.1.case) (λ j h. h) refl refl
          where
            lie : In p.0 v.asleep
            lie = (partner_is k true v.asleep p g).lies

            f : IsOneOf p.1 (offers p.0.request) × (p.1.chan ≡ k) × (is_some p.1.item ≡ true)
            f = first_is k true (offers p.0.request) p.1 (partner_first k true v.asleep p g)

            given : (z : Item) × (p.1.item ≡ Some z)
            given = some_of p.1.item f.2

            same_item : unwrap_or p.1.item [] ≡ given.0
            same_item = ap (λ (t : Option Item). unwrap_or t []) given.1

            shuts : ((its k).closed ≡ false) × (has_space (its k) ≡ false)
            shuts =
                let r = none_at v.channels (offers p.0.request) p.1 f.0 (calm.waits p.0 lie).1 in
                let r' = subst (λ m. ((its m).closed || cond (is_some p.1.item) (has_space (its m)) (nat_lt 0 (length (its m).items))) ≡ false) f.1 r in
                or_parts (its k).closed (has_space (its k)) (subst (λ (t : Option Item). ((its k).closed || cond (is_some t) (has_space (its k)) (nat_lt 0 (length (its k).items))) ≡ false) given.1 r')

            swapped : set (set gs p.0.number (Some (K.answer (lying p.0 lie).s.state (sent p.1.case)))) n (Some (K.answer s.state (got i given.0 true))) ≡ both p.0 lie (got i (unwrap_or p.1.item []) true) (sent p.1.case)
            swapped =
                set_swap gs p.0.number n _ _ (off p.0 lie)
                ∙ ap (λ z. set (set gs n (Some (K.answer s.state (got i z true)))) p.0.number (Some (K.answer (lying p.0 lie).s.state (sent p.1.case)))) (sym same_item)

    -- ---- a make

    did_make : (size : ℤ) (z : Item) → K.next s.state ≡ Asks (Make size z) → Did (do_make v n c (Make size z) size z)
    did_make (negsuc m) z asking = did_ends (Make (negsuc m) z) _ _ (inr (makes_so n s.state m z stands asking))
    did_make (pos size) z asking = go (nat_lt MAX_CAPACITY size) (length v.channels == MAX_CHANNELS + 1)
      where
        q : Request
        q = Make (pos size) z

        go : (a b : Bool) → Did (cond a (panics v n c (Make (pos size) z) ChannelSize 0) (cond b (panics v n c (Make (pos size) z) TooManyChannels 0)
            (done v n c (Make (pos size) z) (record v { channels = v.channels ++ record { capacity = size; items = []; closed = false; zero = z } ∷ [] }) (Value (Chan (Some (length v.channels)))) [])))
        go true b = did_ends (Make (pos size) z) _ _ (inl tt)
        go false true = did_ends (Make (pos size) z) _ _ (inl tt)
        go false false = did_on _ (Make (pos size) z) (Value (Chan (Some (length v.channels)))) [] asking (makes size z) (λ e. cc) (closed_made v.channels _) refl (sym (append-nil v.output)) refl

    -- ---- a select

    did_clause : (q : Request) → K.next s.state ≡ Asks q → (i : ℕ) (chan : Option ℕ) (item : Option Item) → ((k : ℕ) → chan ≡ Some k → IsOneOf (record { case = i; chan = k; item = item }) (offers q)) → is_ready_in v n c q chan item ≡ true → Did (do_clause v n c q i chan item)
    did_clause q asking i None item one ready = cc
    did_clause q asking i (Some k) None one ready = did_receive q k i asking (one k refl) ready
    did_clause q asking i (Some k) (Some item) one ready = did_send q k i item asking (one k refl) ready

    -- ---- a close

    module _ (k : ℕ) where
      abbrev shut : List Channel
      shut = slice_set v.channels k (record (its k) { closed = true })

      abbrev reply_to : Sleeper × Offer → ℕ × Reply
      reply_to p = (p.0.number, close_reply (its k).zero p.1)

      abbrev Off : ℕ → List (Sleeper × Offer) → Type 0
      Off m [] = Unit {0}
      Off m (p ∷ ps) = (p.0.number ≢ m) × Off m ps

      -- these sleep with an offer on the channel, each once
      abbrev AllServed : List Sleeper → List (Sleeper × Offer) → Type 0
      AllServed ss [] = Unit {0}
      AllServed ss (p ∷ ps) = In p.0 ss × IsOneOf p.1 (offers p.0.request) × (p.1.chan ≡ k) × (is_some p.1.item ≡ false → (its k).items ≡ []) × (k < length v.channels) × Off p.0.number ps × AllServed ss ps

      served_without : (m : ℕ) (ss : List Sleeper) (ps : List (Sleeper × Offer)) → Off m ps → AllServed ss ps → AllServed (without ss m) ps
      served_without m ss [] off' h = tt
      served_without m ss (p ∷ ps) off' h = (in_kept ss m p.0 h.0 off'.0, h.1, h.2, h.3, h.4, h.5, served_without m ss ps off'.1 h.6)

      record Rest' (aw : Awake K) (ss : List Sleeper) : Type 0 where
        gs' : States K
        run : Leads K (first K) (scene gs' shut v.output)
        standing : Stand K aw beds ss gs'
        doomed : Dooms shut aw

      wakes : (ps : List (Sleeper × Offer)) (aw : Awake K) (ss : List Sleeper) → AllServed ss ps → Rest' aw ss → Rest' (changed (rules K limit) aw (woken_by K limit beds (c + 1) (map reply_to ps))) (without_all ss (map reply_to ps))
      wakes [] aw ss h r = r
      wakes (p ∷ ps) aw ss h r = wakes ps _ (without ss p.0.number) (served_without p.0.number ss ps h.5 h.6) (one (is_some p.1.item) refl)
        where
          down : Down K beds r.gs' p.0
          down = r.standing.down p.0 h.0

          far : p.0.number < length aw
          far = omega (arith, within r.gs' p.0.number down.s.state down.here, r.standing.size)

          new : channel_of shut p.1.chan ≡ record (its k) { closed = true }
          new = ap (channel_of shut) h.2 ∙ get_or-set_same v.channels k (record (its k) { closed = true }) no_channel h.4

          -- what it does in the world
          woken : Reply → Option (Clocked K.State)
          woken reply = option_map (λ (t : Clocked K.State). told K t (c + 1) reply) (in_bed p.0.number beds)

          one : (b : Bool) → is_some p.1.item ≡ b → Rest' (set aw p.0.number (woken (close_reply (its k).zero p.1))) (without ss p.0.number)
          one true e =
              let t : Clocked K.State = record { clock = c + 1; doomed = true; state = down.s.state } in
              let is : woken (close_reply (its k).zero p.1) ≡ Some t = ap (λ b. woken (cond b Closed (got p.1.case (its k).zero false))) e ∙ ap (λ o. option_map (λ (x : Clocked K.State). told K x (c + 1) Closed) o) down.bed in
              let same : set r.gs' p.0.number (Some down.s.state) ≡ r.gs' = ap (λ o. set r.gs' p.0.number o) (sym down.here) ∙ set-get_or r.gs' p.0.number None in
              record {
                gs' = r.gs';
                run = r.run;
                standing = subst (λ o. Stand K (set aw p.0.number o) beds (without ss p.0.number) r.gs') (sym is) (subst (Stand K (set aw p.0.number (Some t)) beds (without ss p.0.number)) same (stand_woken K aw beds ss r.gs' r.standing p.0 h.0 t));
                doomed = subst (λ o. Dooms shut (set aw p.0.number o)) (sym is) (λ m x g d. elim (cases_eq m p.0.number) [
                  | inl z ↦
                      let a : Some t ≡ Some x = sym (get_or-set_same aw p.0.number (Some t) None far) ∙ ap (λ j. get_or (set aw p.0.number (Some t)) j None) (sym z) ∙ g in
                      subst (λ (y : Clocked K.State). Doomed shut y.state) (same_Some t x a) (record { q = p.0.request; asks = down.asks; o = p.1; one = h.1; sends = e; closed = ap (λ (y : Channel). y.closed) new })
                  | inr ne ↦ r.doomed m x (sym (get_or-set_other aw p.0.number m (Some t) None ne) ∙ g) d
                ]);
              }
          one false e =
              let reply : Reply = got p.1.case (its k).zero false in
              let t : Clocked K.State = clocked (c + 1) (K.answer down.s.state reply) in
              let is : woken (close_reply (its k).zero p.1) ≡ Some t
              = ap (λ b. woken (cond b Closed (got p.1.case (its k).zero false))) e ∙ ap (λ o. option_map (λ (x : Clocked K.State). told K x (c + 1) (got p.1.case (its k).zero false)) o) down.bed ∙ ap (λ x. Some x) (told_is down.s (c + 1) reply (got_open p.1.case (its k).zero false)) in
              let empty : (channel_of shut p.1.chan).items ≡ [] = ap (λ (y : Channel). y.items) new ∙ h.3 e in
              let closed : (channel_of shut p.1.chan).closed ≡ true = ap (λ (y : Channel). y.closed) new in
              let move = acts p.0.number down.s.state p.0.request (got p.1.case (channel_of shut p.1.chan).zero false) shut [] down.here down.asks (drains p.0.request p.1 h.1 (none_of p.1.item e) empty closed) in
              record {
                gs' = set r.gs' p.0.number (Some (K.answer down.s.state reply));
                run = subst (λ o. Leads K (first K) (scene (set r.gs' p.0.number (Some (K.answer down.s.state reply))) shut o)) (append-nil v.output)
                    (subst (λ (y : Channel). Leads K (first K) (scene (set r.gs' p.0.number (Some (K.answer down.s.state (got p.1.case y.zero false)))) shut (v.output ++ []))) new (more r.run move));
                standing = subst (λ o. Stand K (set aw p.0.number o) beds (without ss p.0.number) (set r.gs' p.0.number (Some (K.answer down.s.state reply)))) (sym is) (stand_woken K aw beds ss r.gs' r.standing p.0 h.0 t);
                doomed = subst (λ o. Dooms shut (set aw p.0.number o)) (sym is) (dooms_set shut shut (λ j g. g) aw p.0.number t far refl r.doomed);
              }

      off_partners : (m : ℕ) (ss : List Sleeper) → ((x : Sleeper) → In x ss → x.number ≢ m) → Off m (partners k ss)
      off_partners m [] h = tt
      off_partners m (x ∷ xs) h = go (first_on k (offers x.request)) (off_partners m xs (λ y i. h y (inr i)))
        where
          go : (o : Option Offer) → Off m (partners k xs) → Off m (also x o (partners k xs))
          go None rest = rest
          go (Some o) rest = (h x (inl refl), rest)

      on_is : (os : List Offer) (o : Offer) → first_on k os ≡ Some o → IsOneOf o os × (o.chan ≡ k)
      on_is [] o h = cc
      on_is (p ∷ ps) o h = go (p.chan == k) refl (on_is ps o) h
        where
          go : (b : Bool) → (p.chan == k) ≡ b → (first_on k ps ≡ Some o → IsOneOf o ps × (o.chan ≡ k)) → cond b (Some p) (first_on k ps) ≡ Some o → IsOneOf o (p ∷ ps) × (o.chan ≡ k)
          go true e rec h' = subst (λ (x : Offer). IsOneOf x (p ∷ ps) × (x.chan ≡ k)) (same_Some p o h') (inl refl, eqb-true p.chan k e)
          go false e rec h' = let r = rec h' in (inr r.0, r.1)

      served_by : (ss : List Sleeper) → ((x : Sleeper) → In x ss → In x v.asleep) → Once ss → AllServed v.asleep (partners k ss)
      served_by [] sub once = tt
      served_by (x ∷ xs) sub once = go (first_on k (offers x.request)) refl (served_by xs (λ y i. sub y (inr i)) once.1)
        where
          go : (o : Option Offer) → first_on k (offers x.request) ≡ o → AllServed v.asleep (partners k xs) → AllServed v.asleep (also x o (partners k xs))
          go None e rest = rest
          go (Some o) e rest =
              let here : In x v.asleep = sub x (inl refl) in
              let f = on_is (offers x.request) o e in (
                here,
                f.0,
                f.1,
                (λ none.
                    let r = none_at v.channels (offers x.request) o f.0 (calm.waits x here).1 in
                    let r' = subst (λ m. ((its m).closed || cond (is_some o.item) (has_space (its m)) (nat_lt 0 (length (its m).items))) ≡ false) f.1 r in
                    let r'' = subst (λ b. ((its k).closed || cond b (has_space (its k)) (nat_lt 0 (length (its k).items))) ≡ false) none r' in
                    empty_by (its k).items (or_parts (its k).closed (nat_lt 0 (length (its k).items)) r'').1),
                subst (λ m. m < length v.channels) f.1 (made_at (length v.channels) (offers x.request) o f.0 (made x here)),
                off_partners x.number xs once.0,
                rest,
              )

      did_close : K.next s.state ≡ Asks (Close (Some k)) → Did (do_close v n c (Close (Some k)) k)
      did_close asking = go (its k).closed refl
        where
          go : (b : Bool) → (its k).closed ≡ b → Did (cond b (panics v n c (Close (Some k)) CloseOfClosed 0) (done v n c (Close (Some k)) (with_channel v n c (Close (Some k)) k (record (its k) { closed = true })) Nothing (map reply_to (partners k v.asleep))))
          go true e = did_ends (Close (Some k)) _ _ (inr (closes_so n s.state k stands asking e))
          go false e =
              let r = wakes (partners k v.asleep) (set w.awake n (Some (answered Nothing))) v.asleep (served_by v.asleep (λ x i. i) calm.once) (record {
                gs' = set gs n (Some (K.answer s.state Nothing));
                run = subst (λ o. Leads K (first K) (scene (set gs n (Some (K.answer s.state Nothing))) shut o)) (append-nil v.output) (more ran (acts n s.state (Close (Some k)) Nothing shut [] stands asking (closes_channel k e)));
                standing = stand_on K w.awake beds v.asleep gs stand n (answered Nothing) there off;
                doomed = dooms_set v.channels shut (closed_written v.channels k (record (its k) { closed = true }) (λ h. refl)) w.awake n (answered Nothing) there refl dooms;
              }) in
              record {
                gs = r.gs';
                run = r.run;
                stand = subst (λ x. Stand K x beds (without_all v.asleep (map reply_to (partners k v.asleep))) r.gs') (sym (append-nil (changed (rules K limit) (set w.awake n (Some (answered Nothing))) (woken_by K limit beds (c + 1) (map reply_to (partners k v.asleep)))))) r.standing;
                dooms = subst (Dooms shut) (sym (append-nil (changed (rules K limit) (set w.awake n (Some (answered Nothing))) (woken_by K limit beds (c + 1) (map reply_to (partners k v.asleep)))))) r.doomed;
                ends = λ e' h. going_on e' h;
              }

    -- ---- each request

    did_act : (q : Request) → K.next s.state ≡ Asks q → (q ≡ End → n ≢ 1) → Did (act v n c q q)
    did_act (Make size z) asking other = did_make size z asking
    did_act (Go f args) asking other = did_go f args asking
    did_act (Send None item) asking other = did_sleeps (Send None item) asking
    did_act (Send (Some k) item) asking other = go (send_ready v n c (Send (Some k) item) k) refl
      where
        go : (b : Bool) → send_ready v n c (Send (Some k) item) k ≡ b → Did (cond b (do_send v n c (Send (Some k) item) k item 0) (sleeps v n c (Send (Some k) item)))
        go true e = did_send (Send (Some k) item) k 0 item asking (inl refl) e
        go false e = did_sleeps (Send (Some k) item) asking
    did_act (Receive None) asking other = did_sleeps (Receive None) asking
    did_act (Receive (Some k)) asking other = go (receive_ready v n c (Receive (Some k)) k) refl
      where
        go : (b : Bool) → receive_ready v n c (Receive (Some k)) k ≡ b → Did (cond b (do_receive v n c (Receive (Some k)) k 0) (sleeps v n c (Receive (Some k))))
        go true e = did_receive (Receive (Some k)) k 0 asking (inl refl) e
        go false e = did_sleeps (Receive (Some k)) asking
    did_act (Close None) asking other = did_ends (Close None) _ _ (inr (closes_nil n s.state stands asking))
    did_act (Close (Some k)) asking other = did_close k asking
    did_act (Select cases true) asking other = go (choose v n c (Select cases true) cases) refl
      where
        go : (o : Option (ℕ × Case)) → choose v n c (Select cases true) cases ≡ o → Did (do_select v n c (Select cases true) true o)
        go (Some x) e = let h = chosen v n c (Select cases true) cases x e in did_clause (Select cases true) asking x.0 x.1.chan x.1.item (λ k f. clause_in cases 1 h.k x.0 x.1 k (omega (arith, h.is)) h.stands f) h.ready
        go None e = did_on _ (Select cases true) Default [] asking (defaults cases (idle_select v n c (Select cases true) calm made off cases true e).0) (λ z. cc) (λ j h. h) refl (sym (append-nil v.output)) refl
    did_act (Select cases false) asking other = go (choose v n c (Select cases false) cases) refl
      where
        go : (o : Option (ℕ × Case)) → choose v n c (Select cases false) cases ≡ o → Did (do_select v n c (Select cases false) false o)
        go (Some x) e = let h = chosen v n c (Select cases false) cases x e in did_clause (Select cases false) asking x.0 x.1.chan x.1.item (λ k f. clause_in cases 1 h.k x.0 x.1 k (omega (arith, h.is)) h.stands f) h.ready
        go None e = did_sleeps (Select cases false) asking
    did_act (Len None) asking other = did_on _ (Len None) _ [] asking (lens None) (λ z. cc) (λ j h. h) refl (sym (append-nil v.output)) refl
    did_act (Len (Some k)) asking other = did_on _ (Len (Some k)) _ [] asking (lens (Some k)) (λ z. cc) (λ j h. h) refl (sym (append-nil v.output)) refl
    did_act (Cap None) asking other = did_on _ (Cap None) _ [] asking (caps None) (λ z. cc) (λ j h. h) refl (sym (append-nil v.output)) refl
    did_act (Cap (Some k)) asking other = did_on _ (Cap (Some k)) _ [] asking (caps (Some k)) (λ z. cc) (λ j h. h) refl (sym (append-nil v.output)) refl
    did_act (Print bytes) asking other = did_on _ (Print bytes) Nothing bytes asking (prints bytes) (λ z. cc) (λ j h. h) refl refl refl
    did_act End asking other = did_leaves asking (other refl)
    did_act Exit asking other = did_ends Exit _ _ (inr (exits n s.state stands asking))
    did_act (Panic p) asking other = did_ends (Panic p) _ _ (inr (panics_so n s.state p stands asking))
    did_act Exhausted asking other = did_ends Exhausted _ _ (inl tt)

    -- the request that is made, at the limit too
    did : (q : Request) → AsksSo K s q → Did (perform v n c q)
    did q asking = by (meant v n q) (meant_so v n q)
      where
        by : (p : Request) → MeantSo n q p → Did (act v n c p p)
        by p (inl e) = subst (λ x. Did (act v n c x x)) (sym e) (did_ends Exhausted _ _ (inl tt))
        by p (inr (inl (is_main, ends, e))) = subst (λ x. Did (act v n c x x)) (sym e) (elim asking [
          | inl f ↦ let bad : Exhausted ≡ End = sym f ∙ ends in absurd cc
          | inr (inl f) ↦ let bad : Panic SendOnClosed ≡ End = sym f.1 ∙ ends in absurd cc
          | inr (inr f) ↦ did_ends Exit _ _ (inr (returns s.state (subst (λ m. get_or gs m None ≡ Some s.state) is_main stands) (f ∙ ap (λ x. Asks x) ends)))
        ])
        by p (inr (inr (e, other))) = subst (λ x. Did (act v n c x x)) (sym e) (elim asking [
          | inl f ↦ subst (λ x. Did (act v n c x x)) (sym f) (did_ends Exhausted _ _ (inl tt))
          | inr (inl f) ↦ let d = dooms n s up f.0 in subst (λ x. Did (act v n c x x)) (sym f.1) (did_ends (Panic SendOnClosed) _ _ (inr (sends_so n s.state d.q d.o stands d.asks d.one d.sends d.closed)))
          | inr (inr f) ↦ did_act q f other
        ])

  -- ---- a whole run

  record Seen (w : Place) : Type 0 where
    after : After w.awake w.shared.beds w.shared.shared
    calm : IsCalm w.shared.shared
    lies : apart.Apart K limit w

  seen_asks : (w : Place) (n : ℕ) (s : Clocked K.State) → get_or w.awake n None ≡ Some s → Seen w → w.shared.shared.ending ≡ None → UsesMade w.shared.shared → (o : Option Request) → asks K limit s ≡ o
      → (let e = performs K limit w.shared n s o in After (changed (rules K limit) w.awake e.changes ++ map Some e.started) e.shared.beds e.shared.shared × IsCalm e.shared.shared)
  seen_asks w n s up seen going made None a =
      let r = seen.after in
      (record { gs = r.gs; run = r.run; stand = subst (λ x. Stand K x w.shared.beds w.shared.shared.asleep r.gs) (sym (append-nil w.awake)) r.stand; dooms = subst (Dooms w.shared.shared.channels) (sym (append-nil w.awake)) r.dooms; ends = r.ends }, seen.calm)
  seen_asks w n s up seen going made (Some q) a =
      let r = seen.after in
      let p = meant w.shared.shared n q in
      (did w n s up seen.lies going r.gs r.run r.stand r.dooms seen.calm made q (asks_is K limit s q a), calm_act w.shared.shared n s.clock p seen.calm made (λ x i. apart.not_asleep K limit w seen.lies n s up x i))

  abbrev Near : Place → Type 0
  Near w = After w.awake w.shared.beds w.shared.shared × IsCalm w.shared.shared

  seen_step : (w : Place) (n : ℕ) (s t : Clocked K.State) → get_or w.awake n None ≡ Some s → Seen w → w.shared.shared.ending ≡ None → local K limit s ≡ Some t → Near (record w { awake = slice_set w.awake n (Some t) })
  seen_step w n s t up seen going l =
      let r = seen.after in
      let f = local_is K limit s t l in
      let far = within w.awake n s up in (
        record {
          gs = set r.gs n (Some t.state);
          run = more r.run (steps n s.state t.state (r.stand.up n s up) f.0);
          stand = stand_on K w.awake w.shared.beds w.shared.shared.asleep r.gs r.stand n t far (λ x i. apart.not_asleep K limit w seen.lies n s up x i);
          dooms = dooms_set w.shared.shared.channels w.shared.shared.channels (λ j h. h) w.awake n t far f.1 r.dooms;
          ends = λ e h. (let bad : None ≡ Some e = sym going ∙ h in absurd cc);
        },
        seen.calm,
      )

  seen_on : (w : Place) (n : ℕ) (s : Clocked K.State) → get_or w.awake n None ≡ Some s → Seen w → w.shared.shared.ending ≡ None → UsesMade w.shared.shared → (o : Option (Clocked K.State)) → local K limit s ≡ o → Near (move_on (rules K limit) w n s o)
  seen_on w n s up seen going made (Some t) l = seen_step w n s t up seen going l
  seen_on w n s up seen going made None l = go ((rules K limit).asks s)
    where
      go : (b : Bool) → Near (cond b (perform_in (rules K limit) w n s) w)
      go true = seen_asks w n s up seen going made (asks K limit s) refl
      go false = (seen.after, seen.calm)

  seen_at : (w : Place) (n : ℕ) → Seen w → w.shared.shared.ending ≡ None → UsesMade w.shared.shared → (o : Option (Clocked K.State)) → get_or w.awake n None ≡ o → Near (move_at (rules K limit) w n o)
  seen_at w n seen going made None e = (seen.after, seen.calm)
  seen_at w n seen going made (Some s) e = seen_on w n s e seen going made (local K limit s) refl

  seen_next : (w : Place) → Seen w → w.shared.shared.ending ≡ None → UsesMade w.shared.shared → (o : Option Key) → Near (move_next (rules K limit) w o)
  seen_next w seen going made None = (seen.after, seen.calm)
  seen_next w seen going made (Some k) = seen_at w k.number seen going made (get_or w.awake k.number None) refl

  seen_one : (w : Place) → Seen w → UsesMade w.shared.shared → Seen (one (rules K limit) w)
  seen_one w seen made =
      let near = go (is_some w.shared.shared.ending) refl in
      record { after = near.0; calm = near.1; lies = apart.one_by K limit w (is_some w.shared.shared.ending) seen.lies }
    where
      go : (b : Bool) → is_some w.shared.shared.ending ≡ b → Near (cond b w (move_next (rules K limit) w (next (rules K limit) w.awake)))
      go true e = (seen.after, seen.calm)
      go false e = seen_next w seen (none_of w.shared.shared.ending e) made (next (rules K limit) w.awake)

  seen_run : (m : ℕ) (w : Place) → Seen w → ((j : ℕ) → UsesMade (run (rules K limit) j w).shared.shared) → Seen (run (rules K limit) m w)
  seen_run zero w seen made = seen
  seen_run (suc m) w seen made = seen_run m (one (rules K limit) w) (seen_one w seen (made 0)) (λ j. made (suc j))

  seen_opening : Seen (opening K)
  seen_opening = record {
    after = record {
      gs = None ∷ Some (K.begin K.main []) ∷ [];
      run = here;
      stand = record { size = refl; up = ups; down = λ x i. elim i [ ]; gone = gones };
      dooms = not_doomed;
      ends = λ e h. cc;
    };
    calm = record { waits = λ x i. elim i [ ]; fits = fit; lone = λ x y i. elim i [ ]; once = tt };
    lies = λ x i. elim i [ ];
  }
    where
      first_one : Clocked K.State
      first_one = clocked 0 (K.begin K.main [])

      ups : (m : ℕ) (s : Clocked K.State) → get_or (None ∷ Some (clocked 0 (K.begin K.main [])) ∷ []) m None ≡ Some s → get_or (None ∷ Some (K.begin K.main []) ∷ []) m None ≡ Some s.state
      ups zero s h = cc
      ups (suc zero) s h = ap (λ (x : Clocked K.State). Some x.state) (same_Some (clocked 0 (K.begin K.main [])) s h)
      ups (suc (suc m)) s h = cc

      gones : (m : ℕ) → get_or (None ∷ Some (clocked 0 (K.begin K.main [])) ∷ []) m None ≡ None → ((x : Sleeper) → In x [] → x.number ≢ m) → get_or (None ∷ Some (K.begin K.main []) ∷ []) m None ≡ None
      gones zero h none = refl
      gones (suc zero) h none = cc
      gones (suc (suc m)) h none = refl

      not_doomed : (m : ℕ) (s : Clocked K.State) → get_or (None ∷ Some (clocked 0 (K.begin K.main [])) ∷ []) m None ≡ Some s → s.doomed ≡ true → Doomed (no_channel ∷ []) s.state
      not_doomed zero s h d = cc
      not_doomed (suc zero) s h d = absurd (true≢false (sym d ∙ ap (λ (x : Clocked K.State). x.doomed) (sym (same_Some (clocked 0 (K.begin K.main [])) s h))))
      not_doomed (suc (suc m)) s h d = cc

      fit : (k : ℕ) → length (channel_of (no_channel ∷ []) k).items ≤ (channel_of (no_channel ∷ []) k).capacity
      fit zero = omega arith
      fit (suc k) = omega arith

  -- ---- a deadlock

  nobody : (aw : Awake K) → is_deserted (map is_some aw) ≡ true → (m : ℕ) → get_or aw m None ≡ None
  nobody [] h m = refl
  nobody (None ∷ aw) h zero = refl
  nobody (None ∷ aw) h (suc m) = nobody aw h m
  nobody (Some s ∷ aw) h m = cc

  asks_same : (q p : Request) (x : Next K.State) → x ≡ Asks q → x ≡ Asks p → q ≡ p
  asks_same q p x a b = cc

  module _ (w : Place) (seen : Seen w) (alone : (m : ℕ) → get_or w.awake m None ≡ None) where
    abbrev stuck : Scene K.State
    stuck = scene seen.after.gs w.shared.shared.channels w.shared.shared.output

    -- whoever is left sleeps
    record Sleeps' (m : ℕ) (s : K.State) : Type 0 where
      x : Sleeper
      lies : In x w.shared.shared.asleep
      number : x.number ≡ m
      asks : K.next s ≡ Asks x.request

    sleeps_at : (m : ℕ) (s : K.State) → get_or seen.after.gs m None ≡ Some s → Sleeps' m s
    sleeps_at m s h = elim (find_sleeper w.shared.shared.asleep m) [
      | inl f ↦
          let d = seen.after.stand.down f.0 f.1 in
          let e : Some d.s.state ≡ Some s = sym d.here ∙ ap (λ i. get_or seen.after.gs i None) f.2 ∙ h in
          record { x = f.0; lies = f.1; number = f.2; asks = ap K.next (sym (same_Some d.s.state s e)) ∙ d.asks }
      | inr none ↦ let e : None ≡ Some s = sym (seen.after.stand.gone m (alone m) none) ∙ h in absurd cc
    ]

    waits_at : (m : ℕ) (s : K.State) → get_or seen.after.gs m None ≡ Some s → (q : Request) × (K.next s ≡ Asks q) × Waits w.shared.shared.channels q
    waits_at m s h = let z = sleeps_at m s h in (z.x.request, z.asks, seen.calm.waits z.x z.lies)

    -- a request that a goroutine makes here may wait
    quiet : (m : ℕ) (s : K.State) (q : Request) → get_or seen.after.gs m None ≡ Some s → K.next s ≡ Asks q → Waits w.shared.shared.channels q
    quiet m s q h a = let z = waits_at m s h in subst (Waits w.shared.shared.channels) (asks_same z.0 q (K.next s) z.1 a) z.2

    first_there : (k : ℕ) (b : Bool) (os : List Offer) (o : Offer) → IsOneOf o os → o.chan ≡ k → is_some o.item ≡ b → (f : Offer) × (first_offer k b os ≡ Some f)
    first_there k b os o one e i = go (first_offer k b os) refl
      where
        go : (x : Option Offer) → first_offer k b os ≡ x → (f : Offer) × (first_offer k b os ≡ Some f)
        go None g = absurd (absent k b os o one e i g)
        go (Some f) g = (f, g)

    no_move : (u : Scene K.State) → Goes K stuck u → ⊥
    no_move u (steps m s t h (inl a)) = let z = waits_at m s h in let bad : Slides t ≡ Asks z.0 = sym a ∙ z.1 in cc
    no_move u (steps m s t h (inr a)) = let z = waits_at m s h in let bad : Ticks t ≡ Asks z.0 = sym a ∙ z.1 in cc
    no_move u (acts m s q reply cs bytes h a act') = never_acts w.shared.shared.channels cs q reply bytes act' (quiet m s q h a)
    no_move u (starts m s f args h a) = elim (quiet m s (Go f args) h a).0 [ ]
    no_move u (leaves m s ne h a) = elim (quiet m s End h a).0 [ ]
    no_move u (meet i j s t q r o p item ne h h' a a' met) =
        let x = sleeps_at i s h in
        let y = sleeps_at j t h' in
        let e = asks_same q x.x.request (K.next s) a x.asks in
        let e' = asks_same r y.x.request (K.next t) a' y.asks in
        let f = first_there o.chan true (offers x.x.request) o (subst (λ z. IsOneOf o (offers z)) e met.gives) refl (ap is_some met.sends) in
        let g = first_there o.chan false (offers y.x.request) p (subst (λ z. IsOneOf p (offers z)) e' met.takes) met.same (ap is_some met.receives) in
        seen.calm.lone x.x y.x x.lies y.lies (λ z. ne (sym x.number ∙ z ∙ y.number)) o.chan f.0 g.0 f.1 g.1

    stuck_ends : Ends K stuck Deadlock
    stuck_ends = deadlock waits_at no_move

  pub ordinary_is_allowed : NamesMade K limit → RunsAsAllowed K K limit
  ordinary_is_allowed made n e h = go w.shared.shared.ending refl h
    where
      w : Place
      w = moment K limit n

      seen : Seen (moment K limit n)
      seen = seen_run n (opening K) seen_opening made

      at_end : (e' : Ending) → Ends K (scene seen.after.gs (moment K limit n).shared.shared.channels (moment K limit n).shared.shared.output) e' → Allowed K (moment K limit n).shared.shared.output e'
      at_end e' f = record { last = scene seen.after.gs (moment K limit n).shared.shared.channels (moment K limit n).shared.shared.output; run = seen.after.run; ends = f; printed = refl }

      lasts : (b : Bool) → is_deserted (map is_some (moment K limit n).awake) ≡ b → cond b (Some Deadlock) None ≡ Some e → IsOwnLimit e ⊎ Allowed K (moment K limit n).shared.shared.output e
      lasts true d g = inr (subst (Allowed K (moment K limit n).shared.shared.output) (same_Some Deadlock e g) (at_end Deadlock (stuck_ends (moment K limit n) seen (nobody (moment K limit n).awake d))))
      lasts false d g = cc

      go : (o : Option Ending) → (moment K limit n).shared.shared.ending ≡ o → cond (is_some o) o (cond (is_deserted (map is_some (moment K limit n).awake)) (Some Deadlock) None) ≡ Some e → IsOwnLimit e ⊎ Allowed K (moment K limit n).shared.shared.output e
      go (Some e') f g = elim (seen.after.ends e' f) [
        | inl own ↦ inl (subst IsOwnLimit (same_Some e' e g) own)
        | inr ends' ↦ inr (subst (Allowed K (moment K limit n).shared.shared.output) (same_Some e' e g) (at_end e' ends'))
      ]
      go None f g = lasts (is_deserted (map is_some (moment K limit n).awake)) refl g
