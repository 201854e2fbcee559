-- Nothing is accepted after a close.
use Rattle.logical_clock.specs.declared.limits.TheConstants.{MAX_GOROUTINES}
use Rattle.std.proofs.Common.{◌≡◌, ℕ, zero, suc, ◌+◌, ◌-◌, ◌<◌, ◌≢◌, ℤ, pos, negsuc, Bool, true, false, ◌&&◌, ◌||◌, not, cond, List, [], ◌∷◌, ◌++◌, map, length, Option, Some, None, refl, sym, ap, ◌∙◌, subst, arith, inl, inr, ◌⊎◌, append_assoc, get_or-set_same, get_or-set_other, length-set, length-append}
use Rattle.std.specs.Prelude.{◌==◌, nat_le, nat_lt, slice_index_or, slice_set, unwrap_or}
use Rattle.std.specs.Option.{is_some}
use Rattle.std.proofs.Math.Bool.{and-false}
use Rattle.std.proofs.lemmas.Bool.{and_parts, eqb-true, ne_eqb, true≢false, cases_eq, cases_lt}
use Rattle.std.proofs.lemmas.Bool.Decides.{nat_tests}
use Rattle.std.proofs.lemmas.List.{get_or_past, get_or_append_left, get_or-append_right, set_past, append-nil}
use Rattle.word.specs.Values.{Cause, Int, Chan, Item, Case, Request, Make, Go, Send, Receive, Close, Select, Len, Cap, Print, End, Exit, Panic, Exhausted, Reply, Nothing, Value, Clause, Default, EventOutcome, Ending, Finished, Panicked, RanOut, Done, Sleeps, Panics, Event, Sleeper, Offer, Channel, Shared, ChannelSize, CloseOfClosed, CloseOfNil, SendOnClosed, TooManyChannels, TooManyGoroutines}
use Rattle.word.specs.Requests.{GoesOn, happened, no_channel, channel_of, with_offer, clause_offers, offers, first_offer, first_on, also, partner, without, without_all, sent, got, done, sleeps, ends, panics, with_channel, send_to, do_send, receive_from, do_receive, send_ready, receive_ready, is_ready, ready_clauses, choose, do_clause, do_select, do_make, do_close, close_reply, partners, act}
use Rattle.word.specs.Kinds.{GoroutineKind}
use Rattle.word.specs.Worlds.{opening, moment}
use Rattle.word.specs.Flow.{clause_deal, Gives, Takes, NoDeal, reply_deal, deal, slept, offered, enters}
use Rattle.word.specs.Closing.{is_done, is_make, is_close, makes, made_in, closes, closed_after, is_closed_in, ShutAfter, IsShut}
use Rattle.word.proofs.Found.{In}
use Rattle.word.proofs.Fair.{IsApart, partner_is, in_without, in_without_all, in_back, without_gone}
use Rattle.word.proofs.Chosen.{chosen, deals_at, none_ready}
use Rattle.word.proofs.Flows.{partner_first}
use Rattle.word.proofs.Kept.{moment_keeps}

-- ---- lists of events

pub or_cases : (a b : Bool) → (a || b) ≡ true → (a ≡ true) ⊎ (b ≡ true)
or_cases true b h = inl refl
or_cases false b h = inr h

or_assoc : (a b c : Bool) → (a || (b || c)) ≡ ((a || b) || c)
or_assoc true b c = refl
or_assoc false b c = refl

pub or_false : (a : Bool) → (a || false) ≡ a
or_false true = refl
or_false false = refl

made_snoc : (es : List Event) (e : Event) → made_in (es ++ e ∷ []) ≡ made_in es + makes e
made_snoc [] e = omega arith
made_snoc (x ∷ es) e = let h = made_snoc es e in omega (arith, h)

pub closed_snoc : (c m : ℕ) (es : List Event) (e : Event) → closed_after c m (es ++ e ∷ []) ≡ (closed_after c m es || (closes c e && nat_le c (m + made_in es)))
closed_snoc c m [] e =
    let z : m ≡ m + 0 = omega arith in
    or_false (closes c e && nat_le c m) ∙ ap (λ k. closes c e && nat_le c k) z
closed_snoc c m (x ∷ es) e =
    let z : (m + makes x) + made_in es ≡ m + (makes x + made_in es) = omega arith in
    ap (λ b. (closes c x && nat_le c m) || b) (closed_snoc c (m + makes x) es e)
    ∙ or_assoc (closes c x && nat_le c m) (closed_after c (m + makes x) es) (closes c e && nat_le c ((m + makes x) + made_in es))
    ∙ ap (λ k. ((closes c x && nat_le c m) || closed_after c (m + makes x) es) || (closes c e && nat_le c k)) z

law_snoc : (c : ℕ) (before es : List Event) (e : Event) → ShutAfter c before es → (is_closed_in c (before ++ es) ≡ true → enters c (before ++ es) (deal e) e.partners ≡ []) → ShutAfter c before (es ++ e ∷ [])
law_snoc c before [] e h new = (subst (λ b. is_closed_in c b ≡ true → enters c b (deal e) e.partners ≡ []) (append-nil before) new, tt)
law_snoc c before (x ∷ es) e h new = (h.0, law_snoc c (before ++ x ∷ []) es e h.1 (subst (λ b. is_closed_in c b ≡ true → enters c b (deal e) e.partners ≡ []) (sym (append_assoc before (x ∷ []) es)) new))

abbrev zero_or_one : Bool → ℕ
zero_or_one b = cond b 1 0

-- ---- channels

past_open : (cs : List Channel) (c : ℕ) → (channel_of cs c).closed ≡ true → c < length cs
past_open cs c h = elim (cases_lt c (length cs)) [ inl l ↦ l | inr l ↦ absurd (true≢false (sym h ∙ ap (λ (x : Channel). x.closed) (get_or_past cs c no_channel l))) ]

-- a channel is written that stays closed or open
pub closed_kept : (cs : List Channel) (k : ℕ) (ch : Channel) → ch.closed ≡ (channel_of cs k).closed → (j : ℕ) → (channel_of (slice_set cs k ch) j).closed ≡ (channel_of cs j).closed
closed_kept cs k ch h j = elim (cases_eq j k) [
  | inl e ↦ ap (λ i. (channel_of (slice_set cs k ch) i).closed) e ∙ elim (cases_lt k (length cs)) [
    | inl l ↦ ap (λ (x : Channel). x.closed) (get_or-set_same cs k ch no_channel l) ∙ h
    | inr l ↦ ap (λ (ys : List Channel). (channel_of ys k).closed) (set_past cs k ch l)
  ] ∙ ap (λ i. (channel_of cs i).closed) (sym e)
  | inr ne ↦ ap (λ (x : Channel). x.closed) (get_or-set_other cs k j ch no_channel ne)
]

pub made_open : (cs : List Channel) (ch : Channel) → ch.closed ≡ false → (j : ℕ) → (channel_of (cs ++ ch ∷ []) j).closed ≡ (channel_of cs j).closed
made_open cs ch h j = elim (cases_lt j (length cs)) [
  | inl l ↦ ap (λ (x : Channel). x.closed) (get_or_append_left cs (ch ∷ []) no_channel j l)
  | inr l ↦ ap (λ (x : Channel). x.closed) (get_or-append_right cs (ch ∷ []) (length cs) j no_channel refl l) ∙ go (j - length cs) ∙ sym (ap (λ (x : Channel). x.closed) (get_or_past cs j no_channel l))
]
  where
    go : (i : ℕ) → (slice_index_or (ch ∷ []) i no_channel).closed ≡ false
    go zero = h
    go (suc i) = refl

-- ---- offers on a channel

none_on : (c : ℕ) (sends : Bool) (os : List Offer) → first_on c os ≡ None → first_offer c sends os ≡ None
none_on c sends [] h = refl
none_on c sends (o ∷ os) h = go (o.chan == c) (cond sends (is_some o.item) (not (is_some o.item))) (none_on c sends os) h
  where
    go : (b d : Bool) → (first_on c os ≡ None → first_offer c sends os ≡ None) → cond b (Some o) (first_on c os) ≡ None → cond (b && d) (Some o) (first_offer c sends os) ≡ None
    go true d rec h' = cc
    go false d rec h' = rec h'

-- a goroutine with an offer on a channel is woken by its close
woken_on : (k : ℕ) (z : Item) (ss : List Sleeper) (x : Sleeper) (o : Offer) → In x ss → first_on k (offers x.request) ≡ Some o → IsApart x.number (map (λ (p : Sleeper × Offer). (p.0.number, close_reply z p.1)) (partners k ss)) → ⊥
woken_on k z [] x o i h a = elim i [ ]
woken_on k z (s ∷ ss) x o i h a = go (first_on k (offers s.request)) refl (woken_on k z ss x o) i a
  where
    go : (f : Option Offer) → first_on k (offers s.request) ≡ f → (In x ss → first_on k (offers x.request) ≡ Some o → IsApart x.number (map (λ (p : Sleeper × Offer). (p.0.number, close_reply z p.1)) (partners k ss)) → ⊥) → In x (s ∷ ss)
        → IsApart x.number (map (λ (p : Sleeper × Offer). (p.0.number, close_reply z p.1)) (also s f (partners k ss))) → ⊥
    go None e rec (inl same) a' = let f : None ≡ Some o = sym e ∙ ap (λ (y : Sleeper). first_on k (offers y.request)) (sym same) ∙ h in absurd cc
    go None e rec (inr i') a' = rec i' h a'
    go (Some f) e rec (inl same) a' = a'.0 (ap (λ (y : Sleeper). y.number) same)
    go (Some f) e rec (inr i') a' = rec i' h a'.1

-- ---- the invariant

pub record Tight (ss : List Sleeper) (cs : List Channel) (es : List Event) : Type 0 where
  pub count : length cs ≡ made_in es + 1
  -- what was closed is closed
  pub shut : (c : ℕ) → is_closed_in c es ≡ true → (channel_of cs c).closed ≡ true
  -- nobody sleeps at a closed channel
  pub calm : (c : ℕ) (x : Sleeper) → (channel_of cs c).closed ≡ true → In x ss → first_on c (offers x.request) ≡ None
  pub law : (c : ℕ) → ShutAfter c [] es

abbrev pub IsTight : Shared → Type 0
IsTight w = Tight w.asleep w.channels w.events

module _ (w : Shared) (n c : ℕ) (q : Request) (tw : IsTight w) where
  abbrev its : ℕ → Bool
  its j = (channel_of w.channels j).closed

  abbrev event : EventOutcome → List ℕ → Event
  event o who = record { clock = c; number = n; request = q; outcome = o; partners = who }

  -- one event more
  tight_on : (ss : List Sleeper) (cs : List Channel) (o : EventOutcome) (who : List ℕ) → length cs ≡ length w.channels + makes (event o who) → ((j : ℕ) → its j ≡ true → (channel_of cs j).closed ≡ true)
      → ((j : ℕ) → closes j (event o who) ≡ true → j < length w.channels → (channel_of cs j).closed ≡ true) → ((j : ℕ) (x : Sleeper) → (channel_of cs j).closed ≡ true → In x ss → first_on j (offers x.request) ≡ None)
      → ((j : ℕ) → its j ≡ true → enters j w.events (deal (event o who)) who ≡ []) → Tight ss cs (w.events ++ event o who ∷ [])
  tight_on ss cs o who count keep new calm enter =
      let e = event o who in
      let had = tw.count in
      let more = made_snoc w.events e in
      record {
        count = omega (arith, count, had, more);
        shut = λ j h. elim (or_cases (is_closed_in j w.events) (closes j e && nat_le j (0 + made_in w.events)) (sym (closed_snoc j 0 w.events e) ∙ h)) [
          | inl b ↦ keep j (tw.shut j b)
          | inr b ↦ let p = and_parts (closes j e) (nat_le j (0 + made_in w.events)) b in let q = p.1 in new j p.0 (below j (made_in w.events) (length w.channels) q had)
        ];
        calm = calm;
        law = λ j. law_snoc j [] w.events e (tw.law j) (λ b. enter j (tw.shut j b));
      }
    where
      below : (j m l : ℕ) → nat_le j (0 + m) ≡ true → l ≡ m + 1 → j < l
      below j m l h e = grind (arith, nat_tests)

  -- the channels stay as they are, closed or open
  tight_still : (ss : List Sleeper) (cs : List Channel) (o : EventOutcome) (who : List ℕ) → length cs ≡ length w.channels → ((j : ℕ) → (channel_of cs j).closed ≡ its j) → is_make q ≡ false → ((j : ℕ) → is_close j q ≡ false)
      → ((j : ℕ) (x : Sleeper) → its j ≡ true → In x ss → first_on j (offers x.request) ≡ None) → ((j : ℕ) → its j ≡ true → enters j w.events (deal (event o who)) who ≡ []) → Tight ss cs (w.events ++ event o who ∷ [])
  tight_still ss cs o who size same make close calm enter =
      let none : makes (event o who) ≡ 0 = ap (λ b. zero_or_one (is_done o && b)) make ∙ ap zero_or_one (and-false (is_done o)) in
      tight_on ss cs o who (omega (arith, size, none)) (λ j h. same j ∙ h) (λ j h l. absurd (true≢false (sym h ∙ ap (λ b. is_done o && b) (close j) ∙ and-false (is_done o)))) (λ j x h i. calm j x (sym (same j) ∙ h) i) enter

  tight_ends : (o : EventOutcome) (e : Ending) → ((is_make q ≡ false) ⊎ (is_done o ≡ false)) → (((j : ℕ) → is_close j q ≡ false) ⊎ (is_done o ≡ false)) → ((j : ℕ) → enters j w.events (deal (event o [])) [] ≡ []) → IsTight (ends w n c q o e).shared
  tight_ends o e make close enter =
      tight_on w.asleep w.channels o [] (let z = not_made make in omega (arith, z)) (λ j h. h) (λ j h l. absurd (true≢false (sym h ∙ not_closed j close))) tw.calm (λ j h. enter j)
    where
      not_made : (is_make q ≡ false) ⊎ (is_done o ≡ false) → ◌≡◌ {A = ℕ} (cond (is_done o && is_make q) 1 0) 0
      not_made (inl m) = ap (λ b. zero_or_one (is_done o && b)) m ∙ go (is_done o)
        where
          go : (b : Bool) → ◌≡◌ {A = ℕ} (cond (b && false) 1 0) 0
          go true = refl
          go false = refl
      not_made (inr d) = ap (λ b. zero_or_one (b && is_make q)) d

      not_closed : (j : ℕ) → (((j : ℕ) → is_close j q ≡ false) ⊎ (is_done o ≡ false)) → (is_done o && is_close j q) ≡ false
      not_closed j (inl m) = ap (λ b. is_done o && b) (m j) ∙ go (is_done o)
        where
          go : (b : Bool) → (b && false) ≡ false
          go true = refl
          go false = refl
      not_closed j (inr d) = ap (λ b. b && is_close j q) d

  tight_panics : (cause : Cause) (k : ℕ) → IsTight (panics w n c q cause k).shared
  tight_panics cause k = tight_ends (Panics cause k) (Panicked cause) (inr refl) (inr refl) (λ j. refl)

  module _ (make : is_make q ≡ false) (close : (j : ℕ) → is_close j q ≡ false) where
    tight_sleeps : ((j : ℕ) → its j ≡ true → first_on j (offers q) ≡ None) → IsTight (sleeps w n c q).shared
    tight_sleeps opened =
        tight_still (without w.asleep n ++ record { number = n; request = q } ∷ []) w.channels Sleeps [] refl (λ j. refl) make close
        (λ j x h i. elim (in_back (without w.asleep n) (record { number = n; request = q }) x i) [ inl a ↦ tw.calm j x h (in_without w.asleep n x a).0 | inr e ↦ ap (λ (y : Sleeper). first_on j (offers y.request)) e ∙ opened j h ]) (λ j h. refl)

    -- done, the channels being closed and open as before
    tight_done : (cs : List Channel) (reply : Reply) (ws : List (ℕ × Reply)) → length cs ≡ length w.channels → ((j : ℕ) → (channel_of cs j).closed ≡ its j) → ((j : ℕ) → its j ≡ true → enters j w.events (reply_deal q reply) (map (λ (x : ℕ × Reply). x.0) ws) ≡ [])
        → IsTight (done w n c q (record w { channels = cs }) reply ws).shared
    tight_done cs reply ws size same enter = tight_still (without_all w.asleep ws) cs (Done reply) (map (λ (x : ℕ × Reply). x.0) ws) size same make close (λ j x h i. tw.calm j x h (in_without_all w.asleep ws x i)) enter

    -- what is given on an open channel does not enter a closed one
    elsewhere : (k j : ℕ) (xs : List Item) → its k ≡ false → its j ≡ true → cond (k == j) xs [] ≡ []
    elsewhere k j xs opened h = ap (λ b. cond b xs []) (ne_eqb k j (λ e. true≢false (sym h ∙ ap its (sym e) ∙ opened)))

    tight_send : (k : ℕ) (item : Item) (i : ℕ) → reply_deal q (sent i) ≡ Gives k item → IsTight (do_send w n c q k item i).shared
    tight_send k item i d = go (its k) refl (partner k false w.asleep)
      where
        ch : Channel
        ch = record (channel_of w.channels k) { items = (channel_of w.channels k).items ++ item ∷ [] }

        given : (b : its k ≡ false) (who : List ℕ) (j : ℕ) → its j ≡ true → enters j w.events (reply_deal q (sent i)) who ≡ []
        given opened who j h = ap (λ x. enters j w.events x who) d ∙ elsewhere k j (item ∷ []) opened h

        go : (b : Bool) → its k ≡ b → (o : Option (Sleeper × Offer)) → IsTight (cond b (panics w n c q SendOnClosed i) (send_to w n c q k (channel_of w.channels k) item i o)).shared
        go true e o = tight_panics SendOnClosed i
        go false e None = tight_done (slice_set w.channels k (record (channel_of w.channels k) { items = (channel_of w.channels k).items ++ item ∷ [] })) (sent i) [] (length-set w.channels k _) (closed_kept w.channels k _ refl) (given e [])
        go false e (Some p) = tight_done w.channels (sent i) ((p.0.number, got p.1.case item true) ∷ []) refl (λ j. refl) (given e (p.0.number ∷ []))

    taken_alone : (k : ℕ) (reply : Reply) (y : Item) (ok : Bool) → reply_deal q reply ≡ Takes k y ok → (j : ℕ) → its j ≡ true → enters j w.events (reply_deal q reply) [] ≡ []
    taken_alone k reply y ok d j h = ap (λ x. enters j w.events x []) d

    -- a sleeping sender that is met is on an open channel
    met_open : (k : ℕ) (p : Sleeper × Offer) → partner k true w.asleep ≡ Some p → its k ≡ false
    met_open k p h = go (its k) refl
      where
        go : (b : Bool) → its k ≡ b → b ≡ false
        go true e =
            let x = partner_is k true w.asleep p h in
            let none = none_on k true (offers p.0.request) (tw.calm k p.0 e x.lies) in
            let some = partner_first k true w.asleep p h in
            let z : None ≡ Some p.1 = sym none ∙ some in absurd cc
        go false e = refl

    taken_from : (k : ℕ) (reply : Reply) (y : Item) (ok : Bool) (p : Sleeper × Offer) → partner k true w.asleep ≡ Some p → reply_deal q reply ≡ Takes k y ok → (j : ℕ) → its j ≡ true → enters j w.events (reply_deal q reply) (p.0.number ∷ []) ≡ []
    taken_from k reply y ok p met d j h = ap (λ x. enters j w.events x (p.0.number ∷ [])) d ∙ elsewhere k j (offered j (slept p.0.number w.events)) (met_open k p met) h

    tight_receive : (k i : ℕ) → ((x : Item) (ok : Bool) → reply_deal q (got i x ok) ≡ Takes k x ok) → IsTight (do_receive w n c q k i).shared
    tight_receive k i d = go (channel_of w.channels k).items (partner k true w.asleep) refl
      where
        go : (items : List Item) (o : Option (Sleeper × Offer)) → partner k true w.asleep ≡ o → IsTight (receive_from w n c q k (channel_of w.channels k) i items o).shared
        go (x ∷ xs) None e = tight_done (slice_set w.channels k (record (channel_of w.channels k) { items = xs })) (got i x true) [] (length-set w.channels k _) (closed_kept w.channels k _ refl) (taken_alone k (got i x true) x true (d x true))
        go (x ∷ xs) (Some p) e =
            tight_done (slice_set w.channels k (record (channel_of w.channels k) { items = xs ++ unwrap_or p.1.item [] ∷ [] })) (got i x true) ((p.0.number, sent p.1.case) ∷ []) (length-set w.channels k _) (closed_kept w.channels k _ refl)
            (taken_from k (got i x true) x true p e (d x true))
        go [] None e = tight_done w.channels (got i (channel_of w.channels k).zero false) [] refl (λ j. refl) (taken_alone k (got i (channel_of w.channels k).zero false) (channel_of w.channels k).zero false (d (channel_of w.channels k).zero false))
        go [] (Some p) e = tight_done w.channels (got i (unwrap_or p.1.item []) true) ((p.0.number, sent p.1.case) ∷ []) refl (λ j. refl) (taken_from k (got i (unwrap_or p.1.item []) true) (unwrap_or p.1.item []) true p e (d (unwrap_or p.1.item []) true))

    tight_clause : (i : ℕ) (chan : Option ℕ) (item : Option Item) → ((g : Option (Item × Bool)) → reply_deal q (Clause (suc i) g) ≡ clause_deal chan item g) → is_ready w n c q chan item ≡ true → IsTight (do_clause w n c q (suc i) chan item).shared
    tight_clause i None item h r = cc
    tight_clause i (Some k) None h r = tight_receive k (suc i) (λ x ok. h (Some (x, ok)))
    tight_clause i (Some k) (Some item) h r = tight_send k item (suc i) (h None)

  -- the channel is closed, and all that offered on it are woken
  closed_now : (k : ℕ) → q ≡ Close (Some k) → IsTight (done w n c q (with_channel w n c q k (record (channel_of w.channels k) { closed = true })) Nothing (map (λ (p : Sleeper × Offer). (p.0.number, close_reply (channel_of w.channels k).zero p.1)) (partners k w.asleep))).shared
  closed_now k e =
      let ch : Channel = record (channel_of w.channels k) { closed = true } in
      let ws = map (λ (p : Sleeper × Offer). (p.0.number, close_reply (channel_of w.channels k).zero p.1)) (partners k w.asleep) in
      let who = map (λ (x : ℕ × Reply). x.0) ws in
      let none : makes (event (Done Nothing) who) ≡ 0 = ap (λ p. zero_or_one (true && is_make p)) e in
      let size = length-set w.channels k ch in
      tight_on (without_all w.asleep ws) (slice_set w.channels k ch) (Done Nothing) who (omega (arith, size, none)) (λ j h. kept j h)
      (λ j h l. let z : k ≡ j = eqb-true k j (sym (ap (λ p. true && is_close j p) e) ∙ h) in subst (λ i. (channel_of (slice_set w.channels k ch) i).closed ≡ true) z (ap (λ (x : Channel). x.closed) (get_or-set_same w.channels k ch no_channel (subst (λ i. i < length w.channels) (sym z) l))))
      (λ j x h i. calm j x h i (without_gone ws w.asleep x i)) (λ j h. ap (λ p. enters j w.events (reply_deal p Nothing) who) e)
    where
      kept : (j : ℕ) → its j ≡ true → (channel_of (slice_set w.channels k (record (channel_of w.channels k) { closed = true })) j).closed ≡ true
      kept j h = elim (cases_eq j k) [
        | inl z ↦ ap (λ i. (channel_of (slice_set w.channels k (record (channel_of w.channels k) { closed = true })) i).closed) z ∙ ap (λ (x : Channel). x.closed) (get_or-set_same w.channels k (record (channel_of w.channels k) { closed = true }) no_channel (past_open w.channels k (ap its (sym z) ∙ h)))
        | inr ne ↦ ap (λ (x : Channel). x.closed) (get_or-set_other w.channels k j (record (channel_of w.channels k) { closed = true }) no_channel ne) ∙ h
      ]

      calm : (j : ℕ) (x : Sleeper) → (channel_of (slice_set w.channels k (record (channel_of w.channels k) { closed = true })) j).closed ≡ true → In x (without_all w.asleep (map (λ (p : Sleeper × Offer). (p.0.number, close_reply (channel_of w.channels k).zero p.1)) (partners k w.asleep)))
          → IsApart x.number (map (λ (p : Sleeper × Offer). (p.0.number, close_reply (channel_of w.channels k).zero p.1)) (partners k w.asleep)) → first_on j (offers x.request) ≡ None
      calm j x h i apart = elim (cases_eq j k) [
        | inl z ↦ ap (λ m. first_on m (offers x.request)) z ∙ go (first_on k (offers x.request)) refl
        | inr ne ↦ tw.calm j x (sym (ap (λ (y : Channel). y.closed) (get_or-set_other w.channels k j (record (channel_of w.channels k) { closed = true }) no_channel ne)) ∙ h) there
      ]
        where
          there : In x w.asleep
          there = in_without_all w.asleep (map (λ (p : Sleeper × Offer). (p.0.number, close_reply (channel_of w.channels k).zero p.1)) (partners k w.asleep)) x i

          go : (f : Option Offer) → first_on k (offers x.request) ≡ f → f ≡ None
          go None t = refl
          go (Some o) t = absurd (woken_on k (channel_of w.channels k).zero w.asleep x o there t apart)

  tight_make : (size : ℤ) (z : Item) → q ≡ Make size z → IsTight (do_make w n c q size z).shared
  tight_make (negsuc m) z e = tight_panics ChannelSize 0
  tight_make (pos size) z e = go (nat_lt 65536 size) (length w.channels == 65537)
    where
      new : IsTight (done w n c q (record w { channels = w.channels ++ record { capacity = size; items = []; closed = false; zero = z } ∷ [] }) (Value (Chan (Some (length w.channels)))) []).shared
      new =
          let ch : Channel = record { capacity = size; items = []; closed = false; zero = z } in
          let reply = Value (Chan (Some (length w.channels))) in
          let one : makes (event (Done reply) []) ≡ 1 = ap (λ p. zero_or_one (true && is_make p)) e in
          let long = length-append w.channels (ch ∷ []) in
          tight_on w.asleep (w.channels ++ ch ∷ []) (Done reply) [] (omega (arith, long, one)) (λ j h. made_open w.channels ch refl j ∙ h) (λ j h l. absurd (true≢false (sym h ∙ ap (λ p. true && is_close j p) e)))
          (λ j x h i. tw.calm j x (sym (made_open w.channels ch refl j) ∙ h) i) (λ j h. ap (λ p. enters j w.events (reply_deal p reply) []) e)

      go : (a b : Bool) → IsTight (cond a (panics w n c q ChannelSize 0) (cond b (panics w n c q TooManyChannels 0) (done w n c q (record w { channels = w.channels ++ record { capacity = size; items = []; closed = false; zero = z } ∷ [] }) (Value (Chan (Some (length w.channels)))) []))).shared
      go true b = tight_panics ChannelSize 0
      go false true = tight_panics TooManyChannels 0
      go false false = new

  tight_close : (k : ℕ) → q ≡ Close (Some k) → IsTight (do_close w n c q k).shared
  tight_close k e = go (its k)
    where
      go : (b : Bool) → IsTight (cond b (panics w n c q CloseOfClosed 0) (done w n c q (with_channel w n c q k (record (channel_of w.channels k) { closed = true })) Nothing (map (λ (p : Sleeper × Offer). (p.0.number, close_reply (channel_of w.channels k).zero p.1)) (partners k w.asleep)))).shared
      go true = tight_panics CloseOfClosed 0
      go false = closed_now k e

  tight_idle : is_make q ≡ false → ((j : ℕ) → is_close j q ≡ false) → (reply : Reply) → reply_deal q reply ≡ NoDeal → IsTight (done w n c q w reply []).shared
  tight_idle make close reply d = tight_done make close w.channels reply [] refl (λ j. refl) (λ j h. ap (λ x. enters j w.events x []) d)

  -- if no clause is ready, none is on a closed channel
  not_ready : (k : ℕ) (item : Option Item) → is_ready w n c q (Some k) item ≡ false → its k ≡ false
  not_ready k None h = go (its k) h
    where
      go : (b : Bool) → (b || (nat_lt 0 (length (channel_of w.channels k).items) || is_some (partner k true w.asleep))) ≡ false → b ≡ false
      go true e = e
      go false e = refl
  not_ready k (Some item) h = go (its k) h
    where
      go : (b : Bool) → (b || (nat_lt (length (channel_of w.channels k).items) (channel_of w.channels k).capacity || is_some (partner k false w.asleep))) ≡ false → b ≡ false
      go true e = e
      go false e = refl

  none_closed : (xs : List Case) (i : ℕ) → ready_clauses w n c q i xs ≡ [] → (j : ℕ) → its j ≡ true → first_on j (clause_offers i xs) ≡ None
  none_closed [] i h j closed = refl
  none_closed (x ∷ xs) i h j closed = go (none_closed xs (suc i)) x.chan x.item (is_ready w n c q x.chan x.item) refl h
    where
      go : (ready_clauses w n c q (suc i) xs ≡ [] → (m : ℕ) → its m ≡ true → first_on m (clause_offers (suc i) xs) ≡ None) → (a : Option ℕ) (b : Option Item) (r : Bool) → is_ready w n c q a b ≡ r → cond r ((i, x) ∷ ready_clauses w n c q (suc i) xs) (ready_clauses w n c q (suc i) xs) ≡ []
          → first_on j (with_offer i a b (clause_offers (suc i) xs)) ≡ None
      go rec a b true re h' = cc
      go rec None b false re h' = rec h' j closed
      go rec (Some m) b false re h' =
          let ne : m ≢ j = λ e. true≢false (sym closed ∙ ap its (sym e) ∙ not_ready m b re) in
          ap (λ t. cond t (Some (record { case = i; chan = m; item = b })) (first_on j (clause_offers (suc i) xs))) (ne_eqb m j ne) ∙ rec h' j closed

  other_chan : (k : ℕ) (item : Option Item) → its k ≡ false → (j : ℕ) → its j ≡ true → first_on j (record { case = 0; chan = k; item = item } ∷ []) ≡ None
  other_chan k item free j closed = ap (λ t. cond t (Some (record { case = 0; chan = k; item = item })) None) (ne_eqb k j (λ e. true≢false (sym closed ∙ ap its (sym e) ∙ free)))

tight_select : (w : Shared) (n c : ℕ) (cases : List Case) (default : Bool) → IsTight w → (o : Option (ℕ × Case)) → choose w n c (Select cases default) cases ≡ o → IsTight (do_select w n c (Select cases default) default o).shared
tight_select w n c cases default tw (Some y) e =
    let z = chosen w n c (Select cases default) cases y e in
    let i : y.0 ≡ suc z.k = omega (arith, z.is) in
    subst (λ i. IsTight (do_clause w n c (Select cases default) i y.1.chan y.1.item).shared) (sym i) (tight_clause w n c (Select cases default) tw refl (λ j. refl) z.k y.1.chan y.1.item (deals_at cases z.k y.1 z.stands) z.ready)
tight_select w n c cases true tw None e = tight_idle w n c (Select cases true) tw refl (λ j. refl) Default refl
tight_select w n c cases false tw None e = tight_sleeps w n c (Select cases false) tw refl (λ j. refl) (none_closed w n c (Select cases false) tw cases 1 (none_ready w n c (Select cases false) cases e))

pub tight_act : (w : Shared) (n c : ℕ) (q : Request) → IsTight w → IsTight (act w n c q q).shared
tight_act w n c (Make size z) tw = tight_make w n c (Make size z) tw size z refl
tight_act w n c (Go f args) tw = go (w.live == MAX_GOROUTINES)
  where
    go : (b : Bool) → IsTight (cond b (panics w n c (Go f args) TooManyGoroutines 0) (record { fate = GoesOn Nothing; woken = []; started = (f, args) ∷ []; shared = happened w n c (Go f args) (record w { live = w.live + 1; made = w.made + 1 }) (Done Nothing) ((w.made + 1) ∷ []) })).shared
    go true = tight_panics w n c (Go f args) tw TooManyGoroutines 0
    go false = tight_still w n c (Go f args) tw w.asleep w.channels (Done Nothing) ((w.made + 1) ∷ []) refl (λ j. refl) refl (λ j. refl) tw.calm (λ j h. refl)
tight_act w n c (Send None item) tw = tight_sleeps w n c (Send None item) tw refl (λ j. refl) (λ j h. refl)
tight_act w n c (Send (Some k) item) tw = go (send_ready w n c (Send (Some k) item) k) refl
  where
    go : (b : Bool) → send_ready w n c (Send (Some k) item) k ≡ b → IsTight (cond b (do_send w n c (Send (Some k) item) k item 0) (sleeps w n c (Send (Some k) item))).shared
    go true e = tight_send w n c (Send (Some k) item) tw refl (λ j. refl) k item 0 refl
    go false e = tight_sleeps w n c (Send (Some k) item) tw refl (λ j. refl) (other_chan w n c (Send (Some k) item) tw k (Some item) (not_ready w n c (Send (Some k) item) tw k (Some item) e))
tight_act w n c (Receive None) tw = tight_sleeps w n c (Receive None) tw refl (λ j. refl) (λ j h. refl)
tight_act w n c (Receive (Some k)) tw = go (receive_ready w n c (Receive (Some k)) k) refl
  where
    go : (b : Bool) → receive_ready w n c (Receive (Some k)) k ≡ b → IsTight (cond b (do_receive w n c (Receive (Some k)) k 0) (sleeps w n c (Receive (Some k)))).shared
    go true e = tight_receive w n c (Receive (Some k)) tw refl (λ j. refl) k 0 (λ x ok. refl)
    go false e = tight_sleeps w n c (Receive (Some k)) tw refl (λ j. refl) (other_chan w n c (Receive (Some k)) tw k None (not_ready w n c (Receive (Some k)) tw k None e))
tight_act w n c (Close None) tw = tight_panics w n c (Close None) tw CloseOfNil 0
tight_act w n c (Close (Some k)) tw = tight_close w n c (Close (Some k)) tw k refl
tight_act w n c (Select cases default) tw = tight_select w n c cases default tw (choose w n c (Select cases default) cases) refl
tight_act w n c (Len None) tw = tight_idle w n c (Len None) tw refl (λ j. refl) (Value (Int (pos 0))) refl
tight_act w n c (Len (Some k)) tw = tight_idle w n c (Len (Some k)) tw refl (λ j. refl) (Value (Int (pos (length (channel_of w.channels k).items)))) refl
tight_act w n c (Cap None) tw = tight_idle w n c (Cap None) tw refl (λ j. refl) (Value (Int (pos 0))) refl
tight_act w n c (Cap (Some k)) tw = tight_idle w n c (Cap (Some k)) tw refl (λ j. refl) (Value (Int (pos (channel_of w.channels k).capacity))) refl
tight_act w n c (Print bytes) tw = tight_idle w n c (Print bytes) tw refl (λ j. refl) Nothing refl
tight_act w n c End tw = tight_still w n c End tw w.asleep w.channels (Done Nothing) [] refl (λ j. refl) refl (λ j. refl) tw.calm (λ j h. refl)
tight_act w n c Exit tw = tight_ends w n c Exit tw (Done Nothing) Finished (inl refl) (inl (λ j. refl)) (λ j. refl)
tight_act w n c (Panic p) tw = tight_ends w n c (Panic p) tw (Panics p 0) (Panicked p) (inr refl) (inr refl) (λ j. refl)
tight_act w n c Exhausted tw = tight_ends w n c Exhausted tw (Done Nothing) RanOut (inl refl) (inl (λ j. refl)) (λ j. refl)

-- ---- the run

pub opening_tight : (K : GoroutineKind) → IsTight (opening K).shared.shared
opening_tight K = record { count = refl; shut = λ c h. absurd (true≢false (sym h)); calm = λ c x h i. elim i [ ]; law = λ c. tt }

pub shut : (K : GoroutineKind) (limit n : ℕ) → IsShut (moment K limit n).shared.shared
shut K limit n = (moment_keeps IsTight tight_act K limit (opening_tight K) n).law
