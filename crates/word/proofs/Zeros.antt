-- Zero with false is given only in or after a close, when all that was accepted was received.
use Rattle.logical_clock.specs.declared.limits.TheConstants.{MAX_GOROUTINES}
use Rattle.std.proofs.Common.{◌≡◌, ℕ, zero, suc, ◌+◌, ◌<◌, ℤ, pos, negsuc, Bool, true, false, ◌&&◌, ◌||◌, not, cond, List, [], ◌∷◌, ◌++◌, map, length, Option, Some, None, refl, sym, ap, ◌∙◌, subst, arith, inl, inr, ◌⊎◌, append_assoc, get_or-set_same, get_or-set_other}
use Rattle.std.specs.Prelude.{◌==◌, nat_le, nat_lt, slice_set, unwrap_or}
use Rattle.std.specs.Option.{is_some}
use Rattle.std.proofs.Math.Bool.{and-false}
use Rattle.std.proofs.lemmas.Bool.{and_parts, eqb-true, eq-eqb, true≢false, cases_eq, cases_lt}
use Rattle.std.proofs.lemmas.Bool.Decides.{nat_tests}
use Rattle.std.proofs.lemmas.List.{append-nil, set_past}
use Rattle.word.specs.Kinds.{GoroutineKind}
use Rattle.word.specs.Values.{Cause, Int, Chan, Item, Case, Request, Make, Go, Send, Receive, Close, Select, Len, Cap, Print, End, Exit, Panic, Exhausted, Reply, Nothing, Value, Clause, Default, EventOutcome, Done, Sleeps, Panics, Event, Sleeper, Offer, Channel, Shared, ChannelSize, CloseOfClosed, CloseOfNil, SendOnClosed, TooManyChannels, TooManyGoroutines}
use Rattle.word.specs.Requests.{GoesOn, happened, no_channel, channel_of, offers, first_offer, first_on, also, partner, sent, got, done, sleeps, panics, with_channel, send_to, do_send, receive_from, do_receive, send_ready, receive_ready, is_ready, choose, do_clause, do_select, do_make, do_close, close_reply, partners, act}
use Rattle.word.specs.Worlds.{moment}
use Rattle.word.specs.Flow.{clause_deal, Deal, Gives, Takes, NoDeal, reply_deal, slept, accepted, received}
use Rattle.word.specs.Closing.{is_close, made_in, closes, closed_after, is_closed_in}
use Rattle.word.specs.Zeros.{ZeroAfter, IsZeroLast, any_receives, gives_zero, is_receive, is_zero, receives}
use Rattle.word.proofs.Found.{In}
use Rattle.word.proofs.Chosen.{chosen, deals_at}
use Rattle.word.proofs.Flows.{IsSound, opening_sound, sound_act}
use Rattle.word.proofs.Kept.{moment_keeps}
use Rattle.word.proofs.Shut.{IsTight, closed_kept, closed_snoc, made_open, opening_tight, or_cases, or_false, tight_act}

-- ---- lists of events

zero_snoc : (c : ℕ) (before es : List Event) (e : Event) → ZeroAfter c before es
    → (gives_zero c (before ++ es) e ≡ true → (is_closed_in c ((before ++ es) ++ e ∷ []) ≡ true) × (accepted c ((before ++ es) ++ e ∷ []) ≡ received c ((before ++ es) ++ e ∷ []))) → ZeroAfter c before (es ++ e ∷ [])
zero_snoc c before [] e h new = (subst (λ b. gives_zero c b e ≡ true → (is_closed_in c (b ++ e ∷ []) ≡ true) × (accepted c (b ++ e ∷ []) ≡ received c (b ++ e ∷ []))) (append-nil before) new, tt)
zero_snoc c before (x ∷ es) e h new = (
  h.0,
  zero_snoc c (before ++ x ∷ []) es e h.1 (subst (λ b. gives_zero c b e ≡ true → (is_closed_in c (b ++ e ∷ []) ≡ true) × (accepted c (b ++ e ∷ []) ≡ received c (b ++ e ∷ []))) (sym (append_assoc before (x ∷ []) es)) new),
)

-- ---- receivers that a close wakes

-- whose first offer on a channel is to receive has an offer to receive
first_receives : (k : ℕ) (os : List Offer) → is_receive (first_on k os) ≡ true → (f : Offer) × (first_offer k false os ≡ Some f)
first_receives k [] h = cc
first_receives k (o ∷ os) h = go (o.chan == k) (first_receives k os) h
  where
    go : (b : Bool) → (is_receive (first_on k os) ≡ true → (f : Offer) × (first_offer k false os ≡ Some f)) → is_receive (cond b (Some o) (first_on k os)) ≡ true → (f : Offer) × (cond (b && not (is_some o.item)) (Some o) (first_offer k false os) ≡ Some f)
    go true rec h' = (o, ap (λ t. cond t (Some o) (first_offer k false os)) h')
    go false rec h' = rec h'

woken_receives : (k : ℕ) (z : Item) (es : List Event) (ss : List Sleeper) → ((x : Sleeper) → In x ss → slept x.number es ≡ Some x.request)
    → any_receives k es (map (λ (x : ℕ × Reply). x.0) (map (λ (p : Sleeper × Offer). (p.0.number, close_reply z p.1)) (partners k ss))) ≡ true → (x : Sleeper) × In x ss × (is_receive (first_on k (offers x.request)) ≡ true)
woken_receives k z es [] lie h = cc
woken_receives k z es (s ∷ ss) lie h = go (first_on k (offers s.request)) (woken_receives k z es ss (λ x i. lie x (inr i))) h
  where
    numbers : List (Sleeper × Offer) → List ℕ
    numbers ps = map (λ (x : ℕ × Reply). x.0) (map (λ (p : Sleeper × Offer). (p.0.number, close_reply z p.1)) ps)

    go : (f : Option Offer) → (any_receives k es (map (λ (x : ℕ × Reply). x.0) (map (λ (p : Sleeper × Offer). (p.0.number, close_reply z p.1)) (partners k ss))) ≡ true → (x : Sleeper) × In x ss × (is_receive (first_on k (offers x.request)) ≡ true))
        → any_receives k es (map (λ (x : ℕ × Reply). x.0) (map (λ (p : Sleeper × Offer). (p.0.number, close_reply z p.1)) (also s f (partners k ss)))) ≡ true → (x : Sleeper) × In x (s ∷ ss) × (is_receive (first_on k (offers x.request)) ≡ true)
    go None rec h' = let r = rec h' in (r.0, inr r.1, r.2)
    go (Some o) rec h' = elim (or_cases (receives k (slept s.number es)) (any_receives k es (map (λ (x : ℕ × Reply). x.0) (map (λ (p : Sleeper × Offer). (p.0.number, close_reply z p.1)) (partners k ss)))) h') [
      | inl a ↦ (s, inl refl, ap (receives k) (sym (lie s (inl refl))) ∙ a)
      | inr a ↦ let r = rec a in (r.0, inr r.1, r.2)
    ]

-- ---- one event more

-- closed is what was, or what the event closes; and if it gives zero with false, the channel is closed and empty
record Adds (w v : Shared) : Type 0 where
  event : Event
  events : v.events ≡ w.events ++ event ∷ []
  closed : (j : ℕ) → (channel_of v.channels j).closed ≡ true → ((channel_of w.channels j).closed ≡ true) ⊎ ((closes j event ≡ true) × (j < length w.channels))
  empty : (j : ℕ) → gives_zero j w.events event ≡ true → ((channel_of v.channels j).closed ≡ true) × ((channel_of v.channels j).items ≡ [])

record Late (w : Shared) : Type 0 where
  sound : IsSound w
  tight : IsTight w
  -- what is closed was closed
  known : (c : ℕ) → (channel_of w.channels c).closed ≡ true → is_closed_in c w.events ≡ true
  law : IsZeroLast w

late_by : (w v : Shared) → Late w → IsSound v → IsTight v → Adds w v → Late v
late_by w v l s t a =
    let known : (c : ℕ) → (channel_of v.channels c).closed ≡ true → is_closed_in c (w.events ++ a.event ∷ []) ≡ true = λ c h. closed_snoc c 0 w.events a.event ∙ go c (a.closed c h) in
    record {
      sound = s;
      tight = t;
      known = λ c h. ap (is_closed_in c) a.events ∙ known c h;
      law = λ c. subst (ZeroAfter c []) (sym a.events) (zero_snoc c [] w.events a.event (l.law c) (λ h.
          let e = a.empty c h in
          (known c e.0, subst (λ es. accepted c es ≡ received c es ++ (channel_of v.channels c).items) a.events (s.order c) ∙ ap (λ xs. received c (w.events ++ a.event ∷ []) ++ xs) e.1 ∙ append-nil (received c (w.events ++ a.event ∷ [])))));
    }
  where
    or_true : (b : Bool) → (b || true) ≡ true
    or_true true = refl
    or_true false = refl

    within : (c m k : ℕ) → c < k → k ≡ m + 1 → nat_le c (0 + m) ≡ true
    within c m k lt e = grind (arith, nat_tests)

    go : (c : ℕ) → ((channel_of w.channels c).closed ≡ true) ⊎ ((closes c a.event ≡ true) × (c < length w.channels)) → (closed_after c 0 w.events || (closes c a.event && nat_le c (0 + made_in w.events))) ≡ true
    go c (inl h) = ap (λ b. b || (closes c a.event && nat_le c (0 + made_in w.events))) (l.known c h)
    go c (inr h) = ap (λ b. closed_after c 0 w.events || (b && nat_le c (0 + made_in w.events))) h.0 ∙ ap (λ b. closed_after c 0 w.events || b) (within c (made_in w.events) (length w.channels) h.1 l.tight.count) ∙ or_true (closed_after c 0 w.events)

-- ---- each request

module _ (w : Shared) (n c : ℕ) (q : Request) (l : Late w) where
  abbrev its : ℕ → Channel
  its j = channel_of w.channels j

  abbrev event_of : EventOutcome → List ℕ → Event
  event_of o who = record { clock = c; number = n; request = q; outcome = o; partners = who }

  -- no channel is closed, and no zero is given
  adds_still : (v : Shared) (o : EventOutcome) (who : List ℕ) → v.events ≡ w.events ++ event_of o who ∷ [] → ((j : ℕ) → (channel_of v.channels j).closed ≡ (its j).closed) → ((j : ℕ) → gives_zero j w.events (event_of o who) ≡ false) → Adds w v
  adds_still v o who e same none = record { event = event_of o who; events = e; closed = λ j h. inl (sym (same j) ∙ h); empty = λ j h. absurd (true≢false (sym h ∙ none j)) }

  adds_panics : (cause : Cause) (k : ℕ) → Adds w (panics w n c q cause k).shared
  adds_panics cause k = adds_still _ (Panics cause k) [] refl (λ j. refl) (λ j. refl)

  adds_sleeps : Adds w (sleeps w n c q).shared
  adds_sleeps = adds_still _ Sleeps [] refl (λ j. refl) (λ j. refl)

  module _ (close : (j : ℕ) → is_close j q ≡ false) where
    -- of one that closes nothing the deal decides
    zero_by : (j : ℕ) (reply : Reply) (who : List ℕ) (d : Deal) → reply_deal q reply ≡ d → gives_zero j w.events (event_of (Done reply) who) ≡ is_zero j d
    zero_by j reply who d e =
        ap (λ x. is_zero j x || ((is_close j q && nat_le j (made_in w.events)) && any_receives j w.events who)) e
        ∙ ap (λ b. is_zero j d || ((b && nat_le j (made_in w.events)) && any_receives j w.events who)) (close j) ∙ or_false (is_zero j d)

    adds_done : (v : Shared) (reply : Reply) (ws : List (ℕ × Reply)) (d : Deal) → v.events ≡ w.events → ((j : ℕ) → (channel_of v.channels j).closed ≡ (its j).closed) → reply_deal q reply ≡ d → ((j : ℕ) → is_zero j d ≡ false) → Adds w (done w n c q v reply ws).shared
    adds_done v reply ws d e same deals none = adds_still _ (Done reply) (map (λ (x : ℕ × Reply). x.0) ws) (ap (λ es. es ++ event_of (Done reply) (map (λ (x : ℕ × Reply). x.0) ws) ∷ []) e) same (λ j. zero_by j reply (map (λ (x : ℕ × Reply). x.0) ws) d deals ∙ none j)

    adds_send : (k : ℕ) (item : Item) (i : ℕ) → reply_deal q (sent i) ≡ Gives k item → Adds w (do_send w n c q k item i).shared
    adds_send k item i d = go (its k).closed (partner k false w.asleep)
      where
        go : (b : Bool) (o : Option (Sleeper × Offer)) → Adds w (cond b (panics w n c q SendOnClosed i) (send_to w n c q k (channel_of w.channels k) item i o)).shared
        go true o = adds_panics SendOnClosed i
        go false None = adds_done (with_channel w n c q k (record (channel_of w.channels k) { items = (channel_of w.channels k).items ++ item ∷ [] })) (sent i) [] (Gives k item) refl (closed_kept w.channels k _ refl) d (λ j. refl)
        go false (Some p) = adds_done w (sent i) ((p.0.number, got p.1.case item true) ∷ []) (Gives k item) refl (λ j. refl) d (λ j. refl)

    -- a receiver that finds nothing, and is ready, is at a closed channel
    ready_closed : (k : ℕ) → (its k).items ≡ [] → partner k true w.asleep ≡ None → receive_ready w n c q k ≡ true → (its k).closed ≡ true
    ready_closed k items none r = sym (or_false (its k).closed) ∙ sym (ap (λ (xs : List Item). (its k).closed || (nat_lt 0 (length xs) || is_some (partner k true w.asleep))) items ∙ ap (λ (o : Option (Sleeper × Offer)). (its k).closed || is_some o) none) ∙ r

    adds_receive : (k i : ℕ) → ((x : Item) (ok : Bool) → reply_deal q (got i x ok) ≡ Takes k x ok) → receive_ready w n c q k ≡ true → Adds w (do_receive w n c q k i).shared
    adds_receive k i d r = go (its k).items refl (partner k true w.asleep) refl
      where
        go : (items : List Item) → (its k).items ≡ items → (o : Option (Sleeper × Offer)) → partner k true w.asleep ≡ o → Adds w (receive_from w n c q k (channel_of w.channels k) i items o).shared
        go (x ∷ xs) e None f = adds_done (with_channel w n c q k (record (channel_of w.channels k) { items = xs })) (got i x true) [] (Takes k x true) refl (closed_kept w.channels k _ refl) (d x true) (λ j. and-false (k == j))
        go (x ∷ xs) e (Some p) f =
            adds_done (with_channel w n c q k (record (channel_of w.channels k) { items = xs ++ unwrap_or p.1.item [] ∷ [] })) (got i x true) ((p.0.number, sent p.1.case) ∷ []) (Takes k x true) refl (closed_kept w.channels k _ refl) (d x true) (λ j. and-false (k == j))
        go [] e (Some p) f = adds_done w (got i (unwrap_or p.1.item []) true) ((p.0.number, sent p.1.case) ∷ []) (Takes k (unwrap_or p.1.item []) true) refl (λ j. refl) (d (unwrap_or p.1.item []) true) (λ j. and-false (k == j))
        go [] e None f = record {
          event = event_of (Done (got i (its k).zero false)) [];
          events = refl;
          closed = λ j h. inl h;
          empty = λ j h.
              let both = and_parts (k == j) true (sym (zero_by j (got i (its k).zero false) [] (Takes k (its k).zero false) (d (its k).zero false)) ∙ h) in
              let same : k ≡ j = eqb-true k j both.0 in
              (ap (λ m. (its m).closed) (sym same) ∙ ready_closed k e f r, ap (λ m. (its m).items) (sym same) ∙ e);
        }

    adds_clause : (i : ℕ) (chan : Option ℕ) (item : Option Item) → ((g : Option (Item × Bool)) → reply_deal q (Clause (suc i) g) ≡ clause_deal chan item g) → is_ready w n c q chan item ≡ true → Adds w (do_clause w n c q (suc i) chan item).shared
    adds_clause i None item h r = cc
    adds_clause i (Some k) None h r = adds_receive k (suc i) (λ x ok. h (Some (x, ok))) r
    adds_clause i (Some k) (Some item) h r = adds_send k item (suc i) (h None)

  -- a close: a receiver that it wakes slept at an empty buffer
  adds_close : (k : ℕ) → q ≡ Close (Some k) → Adds w (do_close w n c q k).shared
  adds_close k e = go (its k).closed
    where
      ch : Channel
      ch = record (channel_of w.channels k) { closed = true }

      closed_at : (j : ℕ) → (channel_of (slice_set w.channels k (record (channel_of w.channels k) { closed = true })) j).closed ≡ true → ((its j).closed ≡ true) ⊎ ((is_close j q ≡ true) × (j < length w.channels))
      closed_at j h = elim (cases_eq j k) [
        | inl z ↦ elim (cases_lt k (length w.channels)) [
          | inl lt ↦ inr (ap (is_close j) e ∙ eq-eqb k j (sym z), subst (λ m. m < length w.channels) (sym z) lt)
          | inr lt ↦ inl (sym (ap (λ (ys : List Channel). (channel_of ys j).closed) (set_past w.channels k (record (channel_of w.channels k) { closed = true }) lt)) ∙ h)
        ]
        | inr ne ↦ inl (sym (ap (λ (x : Channel). x.closed) (get_or-set_other w.channels k j (record (channel_of w.channels k) { closed = true }) no_channel ne)) ∙ h)
      ]

      below : (m count long : ℕ) → nat_le m count ≡ true → long ≡ count + 1 → m < long
      below m count long h same = grind (arith, nat_tests)

      empty_at : (j : ℕ) → gives_zero j w.events (event_of (Done Nothing) (map (λ (x : ℕ × Reply). x.0) (map (λ (p : Sleeper × Offer). (p.0.number, close_reply (channel_of w.channels k).zero p.1)) (partners k w.asleep)))) ≡ true
          → ((channel_of (slice_set w.channels k (record (channel_of w.channels k) { closed = true })) j).closed ≡ true) × ((channel_of (slice_set w.channels k (record (channel_of w.channels k) { closed = true })) j).items ≡ [])
      empty_at j h =
          let who = map (λ (x : ℕ × Reply). x.0) (map (λ (p : Sleeper × Offer). (p.0.number, close_reply (channel_of w.channels k).zero p.1)) (partners k w.asleep)) in
          let h' : (((k == j) && nat_le j (made_in w.events)) && any_receives j w.events who) ≡ true = sym (ap (λ p. is_zero j (reply_deal p Nothing) || ((is_close j p && nat_le j (made_in w.events)) && any_receives j w.events who)) e) ∙ h in
          let p = and_parts ((k == j) && nat_le j (made_in w.events)) (any_receives j w.events who) h' in
          let m = and_parts (k == j) (nat_le j (made_in w.events)) p.0 in
          let same : k ≡ j = eqb-true k j m.0 in
          let lt : k < length w.channels = subst (λ i. i < length w.channels) (sym same) (below j (made_in w.events) (length w.channels) m.1 l.tight.count) in
          let x = woken_receives k (channel_of w.channels k).zero w.events w.asleep l.sound.asleep (subst (λ i. any_receives i w.events who ≡ true) (sym same) p.1) in
          let f = first_receives k (offers x.0.request) x.2 in
          let at : channel_of (slice_set w.channels k (record (channel_of w.channels k) { closed = true })) k ≡ record (channel_of w.channels k) { closed = true } = get_or-set_same w.channels k (record (channel_of w.channels k) { closed = true }) no_channel lt in
          subst (λ i. ((channel_of (slice_set w.channels k (record (channel_of w.channels k) { closed = true })) i).closed ≡ true) × ((channel_of (slice_set w.channels k (record (channel_of w.channels k) { closed = true })) i).items ≡ [])) same
          (ap (λ (y : Channel). y.closed) at, ap (λ (y : Channel). y.items) at ∙ l.sound.calm k x.0 f.0 x.1 f.1)

      go : (b : Bool) → Adds w (cond b (panics w n c q CloseOfClosed 0) (done w n c q (with_channel w n c q k (record (channel_of w.channels k) { closed = true })) Nothing (map (λ (p : Sleeper × Offer). (p.0.number, close_reply (channel_of w.channels k).zero p.1)) (partners k w.asleep)))).shared
      go true = adds_panics CloseOfClosed 0
      go false = record {
        event = event_of (Done Nothing) (map (λ (x : ℕ × Reply). x.0) (map (λ (p : Sleeper × Offer). (p.0.number, close_reply (channel_of w.channels k).zero p.1)) (partners k w.asleep)));
        events = refl;
        closed = closed_at;
        empty = empty_at;
      }

  adds_make : (size : ℤ) (z : Item) → q ≡ Make size z → Adds w (do_make w n c q size z).shared
  adds_make (negsuc m) z e = adds_panics ChannelSize 0
  adds_make (pos size) z e = go (nat_lt 65536 size) (length w.channels == 65537)
    where
      go : (a b : Bool) → Adds w (cond a (panics w n c q ChannelSize 0) (cond b (panics w n c q TooManyChannels 0) (done w n c q (record w { channels = w.channels ++ record { capacity = size; items = []; closed = false; zero = z } ∷ [] }) (Value (Chan (Some (length w.channels)))) []))).shared
      go true b = adds_panics ChannelSize 0
      go false true = adds_panics TooManyChannels 0
      go false false =
          adds_done (λ j. ap (is_close j) e) (record w { channels = w.channels ++ record { capacity = size; items = []; closed = false; zero = z } ∷ [] }) (Value (Chan (Some (length w.channels)))) [] NoDeal refl
          (made_open w.channels (record { capacity = size; items = []; closed = false; zero = z }) refl) (ap (λ p. reply_deal p (Value (Chan (Some (length w.channels))))) e) (λ j. refl)

adds_select : (w : Shared) (n c : ℕ) (cases : List Case) (default : Bool) → Late w → (o : Option (ℕ × Case)) → choose w n c (Select cases default) cases ≡ o → Adds w (do_select w n c (Select cases default) default o).shared
adds_select w n c cases default l (Some y) e =
    let z = chosen w n c (Select cases default) cases y e in
    let i : y.0 ≡ suc z.k = omega (arith, z.is) in
    subst (λ i. Adds w (do_clause w n c (Select cases default) i y.1.chan y.1.item).shared) (sym i) (adds_clause w n c (Select cases default) l (λ j. refl) z.k y.1.chan y.1.item (deals_at cases z.k y.1 z.stands) z.ready)
adds_select w n c cases true l None e = adds_done w n c (Select cases true) l (λ j. refl) w Default [] NoDeal refl (λ j. refl) refl (λ j. refl)
adds_select w n c cases false l None e = adds_sleeps w n c (Select cases false) l

adds_act : (w : Shared) (n c : ℕ) (q : Request) → Late w → Adds w (act w n c q q).shared
adds_act w n c (Make size z) l = adds_make w n c (Make size z) l size z refl
adds_act w n c (Go f args) l = go (w.live == MAX_GOROUTINES)
  where
    go : (b : Bool) → Adds w (cond b (panics w n c (Go f args) TooManyGoroutines 0) (record { fate = GoesOn Nothing; woken = []; started = (f, args) ∷ []; shared = happened w n c (Go f args) (record w { live = w.live + 1; made = w.made + 1 }) (Done Nothing) ((w.made + 1) ∷ []) })).shared
    go true = adds_panics w n c (Go f args) l TooManyGoroutines 0
    go false = adds_still w n c (Go f args) l _ (Done Nothing) ((w.made + 1) ∷ []) refl (λ j. refl) (λ j. refl)
adds_act w n c (Send None item) l = adds_sleeps w n c (Send None item) l
adds_act w n c (Send (Some k) item) l = go (send_ready w n c (Send (Some k) item) k)
  where
    go : (b : Bool) → Adds w (cond b (do_send w n c (Send (Some k) item) k item 0) (sleeps w n c (Send (Some k) item))).shared
    go true = adds_send w n c (Send (Some k) item) l (λ j. refl) k item 0 refl
    go false = adds_sleeps w n c (Send (Some k) item) l
adds_act w n c (Receive None) l = adds_sleeps w n c (Receive None) l
adds_act w n c (Receive (Some k)) l = go (receive_ready w n c (Receive (Some k)) k) refl
  where
    go : (b : Bool) → receive_ready w n c (Receive (Some k)) k ≡ b → Adds w (cond b (do_receive w n c (Receive (Some k)) k 0) (sleeps w n c (Receive (Some k)))).shared
    go true e = adds_receive w n c (Receive (Some k)) l (λ j. refl) k 0 (λ x ok. refl) e
    go false e = adds_sleeps w n c (Receive (Some k)) l
adds_act w n c (Close None) l = adds_panics w n c (Close None) l CloseOfNil 0
adds_act w n c (Close (Some k)) l = adds_close w n c (Close (Some k)) l k refl
adds_act w n c (Select cases default) l = adds_select w n c cases default l (choose w n c (Select cases default) cases) refl
adds_act w n c (Len None) l = adds_still w n c (Len None) l _ (Done (Value (Int (pos 0)))) [] refl (λ j. refl) (λ j. refl)
adds_act w n c (Len (Some k)) l = adds_still w n c (Len (Some k)) l _ (Done (Value (Int (pos (length (channel_of w.channels k).items))))) [] refl (λ j. refl) (λ j. refl)
adds_act w n c (Cap None) l = adds_still w n c (Cap None) l _ (Done (Value (Int (pos 0)))) [] refl (λ j. refl) (λ j. refl)
adds_act w n c (Cap (Some k)) l = adds_still w n c (Cap (Some k)) l _ (Done (Value (Int (pos (channel_of w.channels k).capacity)))) [] refl (λ j. refl) (λ j. refl)
adds_act w n c (Print bytes) l = adds_still w n c (Print bytes) l _ (Done Nothing) [] refl (λ j. refl) (λ j. refl)
adds_act w n c End l = adds_still w n c End l _ (Done Nothing) [] refl (λ j. refl) (λ j. refl)
adds_act w n c Exit l = adds_still w n c Exit l _ (Done Nothing) [] refl (λ j. refl) (λ j. refl)
adds_act w n c (Panic p) l = adds_still w n c (Panic p) l _ (Panics p 0) [] refl (λ j. refl) (λ j. refl)
adds_act w n c Exhausted l = adds_still w n c Exhausted l _ (Done Nothing) [] refl (λ j. refl) (λ j. refl)

late_act : (w : Shared) (n c : ℕ) (q : Request) → Late w → Late (act w n c q q).shared
late_act w n c q l = late_by w (act w n c q q).shared l (sound_act w n c q l.sound) (tight_act w n c q l.tight) (adds_act w n c q l)

-- ---- the run

none_closed : (c : ℕ) → (channel_of (no_channel ∷ []) c).closed ≡ false
none_closed zero = refl
none_closed (suc c) = refl

pub zero_last : (K : GoroutineKind) (limit n : ℕ) → IsZeroLast (moment K limit n).shared.shared
zero_last K limit n = (moment_keeps Late late_act K limit (record { sound = opening_sound K; tight = opening_tight K; known = λ c h. absurd (true≢false (sym h ∙ none_closed c)); law = λ c. tt }) n).law
