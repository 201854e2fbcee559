-- Each channel delivers once and in order.
use Rattle.logical_clock.specs.declared.limits.TheConstants.{MAX_GOROUTINES}
use Rattle.std.proofs.Common.{◌≡◌, ℕ, zero, suc, ◌+◌, ◌-◌, ◌<◌, ◌≤◌, ℤ, pos, negsuc, Bool, true, false, ◌&&◌, ◌||◌, cond, List, [], ◌∷◌, ◌++◌, map, length, Option, Some, None, refl, sym, ap, ◌∙◌, subst, arith, inl, inr, ◌⊎◌, append_assoc, append-nil, get_or, set, get_or-set_same, get_or-set_other, length-set}
use Rattle.std.specs.Prelude.{◌==◌, nat_lt, unwrap_or, slice_set}
use Rattle.std.specs.Option.{is_some}
use Rattle.std.proofs.Math.Bool.{and-false}
use Rattle.std.proofs.lemmas.Bool.{eqb-true, eq-eqb, ne_eqb, true≢false, cases_eq, cases_lt}
use Rattle.std.proofs.lemmas.Bool.Decides.{nat_tests}
use Rattle.std.proofs.lemmas.Option.{same_Some}
use Rattle.std.proofs.lemmas.List.{get_or_past, get_or_append_left, get_or-append_right}
use Rattle.word.specs.Values.{Word, Int, Chan, Item, Case, Request, Make, Go, Send, Receive, Close, Select, Len, Cap, Print, End, Exit, Panic, Exhausted, Reply, Nothing, Value, Clause, Default, EventOutcome, Ending, Finished, Panicked, RanOut, Done, Sleeps, Panics, Event, Sleeper, Offer, Channel, Shared, ChannelSize, CloseOfClosed, CloseOfNil, SendOnClosed, TooManyChannels, TooManyGoroutines}
use Rattle.word.specs.Requests.{GoesOn, happened, no_channel, channel_of, with_offer, clause_offers, offers, first_offer, or_else, partner, without, without_all, sent, got, done, sleeps, ends, panics, with_channel, send_to, do_send, receive_from, do_receive, send_ready, receive_ready, is_ready, ready_clauses, choose, do_clause, do_select, do_make, do_go, do_close, close_reply, partners, act}
use Rattle.word.specs.Kinds.{GoroutineKind}
use Rattle.word.specs.Worlds.{opening, moment}
use Rattle.word.specs.Flow.{clause_deal, Deal, Gives, Takes, NoDeal, reply_deal, deal, latest, is_sleeps, dozed, slept, item_of, offered, enters, leaves, accepted_after, accepted, received, InOrder}
use Rattle.word.proofs.Found.{In}
use Rattle.word.proofs.Chosen.{chosen, deals_at, none_ready}
use Rattle.word.proofs.Kept.{moment_keeps}
use Rattle.word.proofs.Fair.{partner_is, in_without, in_without_all, in_back}

latest_none : (o : Option Request) → latest o None ≡ o
latest_none None = refl
latest_none (Some q) = refl

latest_assoc : (a b c : Option Request) → latest (latest a b) c ≡ latest a (latest b c)
latest_assoc None b c = refl
latest_assoc (Some q) b c = refl

slept_snoc : (p : ℕ) (es : List Event) (e : Event) → slept p (es ++ e ∷ []) ≡ latest (dozed p e) (slept p es)
slept_snoc p [] e = sym (latest_none (dozed p e))
slept_snoc p (x ∷ es) e = ap (λ o. latest o (dozed p x)) (slept_snoc p es e) ∙ latest_assoc (dozed p e) (slept p es) (dozed p x)

accepted_snoc : (c : ℕ) (before es : List Event) (e : Event) → accepted_after c before (es ++ e ∷ []) ≡ accepted_after c before es ++ enters c (before ++ es) (deal e) e.partners
accepted_snoc c before [] e = append-nil (enters c before (deal e) e.partners) ∙ ap (λ b. enters c b (deal e) e.partners) (sym (append-nil before))
accepted_snoc c before (x ∷ es) e =
    ap (λ l. enters c before (deal x) x.partners ++ l) (accepted_snoc c (before ++ x ∷ []) es e)
    ∙ sym (append_assoc (enters c before (deal x) x.partners) (accepted_after c (before ++ x ∷ []) es) (enters c ((before ++ x ∷ []) ++ es) (deal e) e.partners))
    ∙ ap (λ b. (enters c before (deal x) x.partners ++ accepted_after c (before ++ x ∷ []) es) ++ enters c b (deal e) e.partners) (append_assoc before (x ∷ []) es)

received_snoc : (c : ℕ) (es : List Event) (e : Event) → received c (es ++ e ∷ []) ≡ received c es ++ leaves c (deal e) e.partners
received_snoc c [] e = append-nil (leaves c (deal e) e.partners)
received_snoc c (x ∷ es) e = ap (λ l. leaves c (deal x) x.partners ++ l) (received_snoc c es e) ∙ sym (append_assoc (leaves c (deal x) x.partners) (received c es) (leaves c (deal e) e.partners))

-- the partner's offer is its first one
pub partner_first : (c : ℕ) (sends : Bool) (ss : List Sleeper) (p : Sleeper × Offer) → partner c sends ss ≡ Some p → first_offer c sends (offers p.0.request) ≡ Some p.1
partner_first c sends [] p h = cc
partner_first c sends (s ∷ ss) p h = go (partner_first c sends ss p) (first_offer c sends (offers s.request)) refl h
  where
    go : (partner c sends ss ≡ Some p → first_offer c sends (offers p.0.request) ≡ Some p.1) → (o : Option Offer) → first_offer c sends (offers s.request) ≡ o → or_else s o (partner c sends ss) ≡ Some p → first_offer c sends (offers p.0.request) ≡ Some p.1
    go rec None t h' = rec h'
    go rec (Some o) t h' = subst (λ (y : Sleeper × Offer). first_offer c sends (offers y.0.request) ≡ Some y.1) (same_Some (s, o) p h') t

partner_none : (c : ℕ) (sends : Bool) (ss : List Sleeper) → partner c sends ss ≡ None → (x : Sleeper) → In x ss → first_offer c sends (offers x.request) ≡ None
partner_none c sends [] h x i = elim i [ ]
partner_none c sends (s ∷ ss) h x i = go (partner_none c sends ss) (first_offer c sends (offers s.request)) refl h i
  where
    go : (partner c sends ss ≡ None → (y : Sleeper) → In y ss → first_offer c sends (offers y.request) ≡ None) → (o : Option Offer) → first_offer c sends (offers s.request) ≡ o → or_else s o (partner c sends ss) ≡ None → In x (s ∷ ss) → first_offer c sends (offers x.request) ≡ None
    go rec None t h' (inl e) = ap (λ (y : Sleeper). first_offer c sends (offers y.request)) e ∙ t
    go rec None t h' (inr i') = rec h' x i'
    go rec (Some o) t h' i' = cc

-- one channel is written
items_set : (cs : List Channel) (k : ℕ) (ch : Channel) → ((k < length cs) ⊎ (ch.items ≡ [])) → (j : ℕ) → (channel_of (slice_set cs k ch) j).items ≡ cond (k == j) ch.items (channel_of cs j).items
items_set cs k ch h j = elim (cases_eq j k) [
  | inl e ↦ ap (λ i. (channel_of (slice_set cs k ch) i).items) e ∙ elim (cases_lt k (length cs)) [
    | inl l ↦ ap (λ (x : Channel). x.items) (get_or-set_same cs k ch no_channel l) ∙ sym (ap (λ b. cond b ch.items (channel_of cs j).items) (eq-eqb k j (sym e)))
    | inr l ↦
        let past : length (set cs k ch) ≤ k = omega (arith, length-set cs k ch) in
        let none : ch.items ≡ [] = elim h [ inl a ↦ absurd (omega (arith, a, l)) | inr a ↦ a ] in
        ap (λ (x : Channel). x.items) (get_or_past (set cs k ch) k no_channel past) ∙ sym none ∙ sym (ap (λ b. cond b ch.items (channel_of cs j).items) (eq-eqb k j (sym e)))
  ]
  | inr ne ↦ ap (λ (x : Channel). x.items) (get_or-set_other cs k j ch no_channel ne) ∙ sym (ap (λ b. cond b ch.items (channel_of cs j).items) (ne_eqb k j (λ z. ne (sym z))))
]

in_range : (cs : List Channel) (k : ℕ) (x : Item) (xs : List Item) → (channel_of cs k).items ≡ x ∷ xs → k < length cs
in_range cs k x xs h = elim (cases_lt k (length cs)) [ inl l ↦ l | inr l ↦ let p = ap (λ (y : Channel). y.items) (get_or_past cs k no_channel l) in absurd cc ]

has_room : (cs : List Channel) (k m : ℕ) → nat_lt m (channel_of cs k).capacity ≡ true → k < length cs
has_room cs k m h = elim (cases_lt k (length cs)) [ inl l ↦ l | inr l ↦ let p = ap (λ (y : Channel). nat_lt m y.capacity) (get_or_past cs k no_channel l) in let z : nat_lt m 0 ≡ true = sym p ∙ h in grind (arith, nat_tests) ]

pub record Sound (ss : List Sleeper) (cs : List Channel) (es : List Event) : Type 0 where
  -- whoever is asleep fell asleep at its request
  pub asleep : (x : Sleeper) → In x ss → slept x.number es ≡ Some x.request
  -- if a receiver sleeps, the buffer is empty
  pub calm : (k : ℕ) (x : Sleeper) (o : Offer) → In x ss → first_offer k false (offers x.request) ≡ Some o → (channel_of cs k).items ≡ []
  pub order : (k : ℕ) → accepted k es ≡ received k es ++ (channel_of cs k).items

abbrev pub IsSound : Shared → Type 0
IsSound w = Sound w.asleep w.channels w.events

put_back : (A R I : List Item) (x : Item) → A ≡ R ++ I → A ++ x ∷ [] ≡ (R ++ []) ++ (I ++ x ∷ [])
put_back A R I x h = ap (λ l. l ++ x ∷ []) h ∙ append_assoc R I (x ∷ []) ∙ ap (λ l. l ++ (I ++ x ∷ [])) (sym (append-nil R))

handed : (A R I : List Item) (x : Item) → A ≡ R ++ I → I ≡ [] → A ++ x ∷ [] ≡ (R ++ x ∷ []) ++ I
handed A R I x h e = ap (λ l. l ++ x ∷ []) (h ∙ ap (λ l. R ++ l) e ∙ append-nil R) ∙ sym (append-nil (R ++ x ∷ [])) ∙ ap (λ l. (R ++ x ∷ []) ++ l) (sym e)

idle : (A R I : List Item) → A ≡ R ++ I → A ++ [] ≡ (R ++ []) ++ I
idle A R I h = append-nil A ∙ h ∙ ap (λ l. l ++ I) (sym (append-nil R))

taken : (A R xs : List Item) (x : Item) → A ≡ R ++ x ∷ xs → A ++ [] ≡ (R ++ x ∷ []) ++ xs
taken A R xs x h = append-nil A ∙ h ∙ sym (append_assoc R (x ∷ []) xs)

shifted : (A R xs : List Item) (x y : Item) → A ≡ R ++ x ∷ xs → A ++ y ∷ [] ≡ (R ++ x ∷ []) ++ (xs ++ y ∷ [])
shifted A R xs x y h = ap (λ l. l ++ y ∷ []) h ∙ append_assoc R (x ∷ xs) (y ∷ []) ∙ sym (append_assoc R (x ∷ []) (xs ++ y ∷ []))

item_is : (o : Offer) → is_some o.item ≡ true → item_of (Some o) ≡ unwrap_or o.item [] ∷ []
item_is o h = go o.item h
  where
    go : (i : Option Item) → is_some i ≡ true → (elim i as (λ _. List Item) [ None ↦ [] | Some x ↦ x ∷ [] ]) ≡ unwrap_or i [] ∷ []
    go None h' = cc
    go (Some x) h' = refl

items_make : (cs : List Channel) (ch : Channel) → ch.items ≡ [] → (j : ℕ) → (channel_of (cs ++ ch ∷ []) j).items ≡ (channel_of cs j).items
items_make cs ch e j = elim (cases_lt j (length cs)) [
  | inl l ↦ ap (λ (x : Channel). x.items) (get_or_append_left cs (ch ∷ []) no_channel j l)
  | inr l ↦ ap (λ (x : Channel). x.items) (get_or-append_right cs (ch ∷ []) (length cs) j no_channel refl l) ∙ go (j - length cs) ∙ sym (ap (λ (x : Channel). x.items) (get_or_past cs j no_channel l))
]
  where
    go : (i : ℕ) → (get_or (ch ∷ []) i no_channel).items ≡ []
    go zero = e
    go (suc i) = refl

module _ (w : Shared) (n c : ℕ) (q : Request) (sw : IsSound w) where
  abbrev its : ℕ → List Item
  its k = (channel_of w.channels k).items

  abbrev Ord : ℕ → Deal → List ℕ → List Item → Type 0
  Ord j d who items = accepted j w.events ++ enters j w.events d who ≡ (received j w.events ++ leaves j d who) ++ items

  not_dozed : (x m : ℕ) (b : Bool) → ((m == x) && false) ≡ b → ◌≡◌ {A = Option Request} (cond b (Some q) None) None
  not_dozed x m true e = absurd (true≢false (sym e ∙ and-false (m == x)))
  not_dozed x m false e = refl

  sound_on : (ss : List Sleeper) (cs : List Channel) (o : EventOutcome) (who : List ℕ) → is_sleeps o ≡ false → ((x : Sleeper) → In x ss → In x w.asleep)
      → ((k : ℕ) (x : Sleeper) (f : Offer) → In x w.asleep → first_offer k false (offers x.request) ≡ Some f → (channel_of cs k).items ≡ [])
      → (let e : Event = record { clock = c; number = n; request = q; outcome = o; partners = who } in ((j : ℕ) → Ord j (deal e) who (channel_of cs j).items) → Sound ss cs (w.events ++ e ∷ []))
  sound_on ss cs o who ns sub calm order =
      let e : Event = record { clock = c; number = n; request = q; outcome = o; partners = who } in
      record {
        asleep = λ x i. slept_snoc x.number w.events e ∙ ap (λ b. latest (cond ((n == x.number) && b) (Some q) None) (slept x.number w.events)) ns ∙ ap (λ z. latest z (slept x.number w.events)) (not_dozed x.number n ((n == x.number) && false) refl) ∙ sw.asleep x (sub x i);
        calm = λ k x f i t. calm k x f (sub x i) t;
        order = λ j. accepted_snoc j [] w.events e ∙ order j ∙ ap (λ l. l ++ (channel_of cs j).items) (sym (received_snoc j w.events e));
      }

  -- the done: with a deal d
  sound_done : (v : Shared) → v.events ≡ w.events → ((x : Sleeper) → In x v.asleep → In x w.asleep) → (reply : Reply) (ws : List (ℕ × Reply)) (d : Deal) → reply_deal q reply ≡ d
      → ((k : ℕ) (x : Sleeper) (f : Offer) → In x w.asleep → first_offer k false (offers x.request) ≡ Some f → (channel_of v.channels k).items ≡ [])
      → ((j : ℕ) → Ord j d (map (λ (x : ℕ × Reply). x.0) ws) (channel_of v.channels j).items)
      → IsSound (done w n c q v reply ws).shared
  sound_done v same sub reply ws d e calm order =
      let who = map (λ (x : ℕ × Reply). x.0) ws in
      subst (λ es. Sound (without_all v.asleep ws) v.channels (es ++ record { clock = c; number = n; request = q; outcome = Done reply; partners = who } ∷ [])) (sym same)
      (sound_on (without_all v.asleep ws) v.channels (Done reply) who refl (λ x i. sub x (in_without_all v.asleep ws x i)) calm
      (λ j. subst (λ z. Ord j z who (channel_of v.channels j).items) (sym e) (order j)))

  -- nothing goes through a channel
  sound_idle : (v : Shared) → v.events ≡ w.events → ((x : Sleeper) → In x v.asleep → In x w.asleep) → (reply : Reply) (ws : List (ℕ × Reply)) → reply_deal q reply ≡ NoDeal → ((j : ℕ) → (channel_of v.channels j).items ≡ its j) → IsSound (done w n c q v reply ws).shared
  sound_idle v same sub reply ws e items =
      sound_done v same sub reply ws NoDeal e (λ k x f i t. items k ∙ sw.calm k x f i t) (λ j. idle (accepted j w.events) (received j w.events) (channel_of v.channels j).items (sw.order j ∙ ap (λ l. received j w.events ++ l) (sym (items j))))

  sound_ends : (o : EventOutcome) (e : Ending) → is_sleeps o ≡ false → deal (record { clock = c; number = n; request = q; outcome = o; partners = [] }) ≡ NoDeal → IsSound (ends w n c q o e).shared
  sound_ends o e ns nd = sound_on w.asleep w.channels o [] ns (λ x i. i) (λ k x f i t. sw.calm k x f i t) (λ j. subst (λ z. Ord j z [] (its j)) (sym nd) (idle (accepted j w.events) (received j w.events) (its j) (sw.order j)))

  sound_sleeps : ((k : ℕ) (f : Offer) → first_offer k false (offers q) ≡ Some f → its k ≡ []) → IsSound (sleeps w n c q).shared
  sound_sleeps quiet =
      let e : Event = record { clock = c; number = n; request = q; outcome = Sleeps; partners = [] } in
      let me : Sleeper = record { number = n; request = q } in
      record {
        asleep = λ x i. slept_snoc x.number w.events e ∙ elim (in_back (without w.asleep n) me x i) [
          | inl a ↦ let b = in_without w.asleep n x a in ap (λ t. latest (cond (t && true) (Some q) None) (slept x.number w.events)) (ne_eqb n x.number (λ z. b.1 (sym z))) ∙ sw.asleep x b.0
          | inr a ↦ subst (λ (y : Sleeper). latest (cond ((n == y.number) && true) (Some q) None) (slept y.number w.events) ≡ Some y.request) (sym a) (ap (λ t. latest (cond (t && true) (Some q) None) (slept n w.events)) (eq-eqb n n refl))
        ];
        calm = λ k x f i t. elim (in_back (without w.asleep n) me x i) [
          | inl a ↦ sw.calm k x f (in_without w.asleep n x a).0 t
          | inr a ↦ quiet k f (ap (λ (y : Sleeper). first_offer k false (offers y.request)) (sym a) ∙ t)
        ];
        order = λ j. accepted_snoc j [] w.events e ∙ idle (accepted j w.events) (received j w.events) (its j) (sw.order j) ∙ ap (λ l. l ++ its j) (sym (received_snoc j w.events e));
      }

  by_chan : (k j : ℕ) (P : Bool → Type 0) → (k ≡ j → P true) → P false → P (k == j)
  by_chan k j P at_k off_k = go (k == j) refl
    where
      go : (b : Bool) → (k == j) ≡ b → P b
      go true e = at_k (eqb-true k j e)
      go false e = off_k

  -- channel k gets these items
  written : (k : ℕ) (items : List Item) → ((k < length w.channels) ⊎ (items ≡ [])) → (j : ℕ) → (channel_of (with_channel w n c q k (record (channel_of w.channels k) { items = items })).channels j).items ≡ cond (k == j) items (its j)
  written k items h j = items_set w.channels k (record (channel_of w.channels k) { items = items }) h j

  -- channel k is written, if no receiver sleeps on it or its buffer is not filled
  sound_written : (k : ℕ) (items : List Item) → ((k < length w.channels) ⊎ (items ≡ [])) → (reply : Reply) (ws : List (ℕ × Reply)) (d : Deal) → reply_deal q reply ≡ d
      → ((x : Sleeper) (f : Offer) → In x w.asleep → first_offer k false (offers x.request) ≡ Some f → items ≡ [])
      → ((j : ℕ) → Ord j d (map (λ (x : ℕ × Reply). x.0) ws) (cond (k == j) items (its j)))
      → IsSound (done w n c q (with_channel w n c q k (record (channel_of w.channels k) { items = items })) reply ws).shared
  sound_written k items h reply ws d e calm order =
      sound_done (with_channel w n c q k (record (channel_of w.channels k) { items = items })) refl (λ x i. i) reply ws d e
      (λ j x f i t. written k items h j ∙ by_chan k j (λ b. cond b items (its j) ≡ []) (λ z. calm x f i (ap (λ m. first_offer m false (offers x.request)) z ∙ t)) (sw.calm j x f i t))
      (λ j. subst (λ l. Ord j d (map (λ (x : ℕ × Reply). x.0) ws) l) (sym (written k items h j)) (order j))

  order_at : (k j : ℕ) → k ≡ j → accepted j w.events ≡ received j w.events ++ its k
  order_at k j z = sw.order j ∙ ap (λ m. received j w.events ++ its m) (sym z)

  ready_room : (k : ℕ) → (a b : Bool) → (channel_of w.channels k).closed ≡ false → (nat_lt (length (its k)) (channel_of w.channels k).capacity) ≡ a → is_some (partner k false w.asleep) ≡ false → send_ready w n c q k ≡ true → k < length w.channels
  ready_room k true b nc e np r = has_room w.channels k (length (its k)) e
  ready_room k false b nc e np r = absurd (true≢false (sym r ∙ ap (λ t. t || (nat_lt (length (its k)) (channel_of w.channels k).capacity || is_some (partner k false w.asleep))) nc ∙ ap (λ t. t || is_some (partner k false w.asleep)) e ∙ np))

  sound_send_to : (k : ℕ) (item : Item) (clause : ℕ) → reply_deal q (sent clause) ≡ Gives k item → (channel_of w.channels k).closed ≡ false → send_ready w n c q k ≡ true → (o : Option (Sleeper × Offer)) → partner k false w.asleep ≡ o → IsSound (send_to w n c q k (channel_of w.channels k) item clause o).shared
  sound_send_to k item clause d nc r None e =
      sound_written k (its k ++ item ∷ []) (inl (ready_room k (nat_lt (length (its k)) (channel_of w.channels k).capacity) true nc refl (ap is_some e) r)) (sent clause) [] (Gives k item) d
      (λ x f i t. let z = partner_none k false w.asleep e x i in absurd (let y = sym z ∙ t in none_some f y))
      (λ j. by_chan k j (λ b. accepted j w.events ++ cond b (item ∷ []) [] ≡ (received j w.events ++ []) ++ cond b (its k ++ item ∷ []) (its j)) (λ z. put_back (accepted j w.events) (received j w.events) (its k) item (order_at k j z)) (idle (accepted j w.events) (received j w.events) (its j) (sw.order j)))
    where
      none_some : (f : Offer) → ◌≡◌ {A = Option Offer} None (Some f) → ⊥
      none_some f h = cc
  sound_send_to k item clause d nc r (Some p) e =
      let s = partner_is k false w.asleep p e in
      let empty : its k ≡ [] = sw.calm k p.0 p.1 s.lies (partner_first k false w.asleep p e) in
      sound_done w refl (λ x i. i) (sent clause) ((p.0.number, got p.1.case item true) ∷ []) (Gives k item) d (λ j x f i t. sw.calm j x f i t)
      (λ j. by_chan k j (λ b. accepted j w.events ++ cond b (item ∷ []) [] ≡ (received j w.events ++ cond b (item ∷ []) []) ++ its j)
      (λ z. handed (accepted j w.events) (received j w.events) (its j) item (sw.order j) (ap its (sym z) ∙ empty))
      (idle (accepted j w.events) (received j w.events) (its j) (sw.order j)))

  sound_send : (k : ℕ) (item : Item) (clause p : ℕ) → reply_deal q (sent clause) ≡ Gives k item → send_ready w n c q k ≡ true → IsSound (do_send w n c q k item clause).shared
  sound_send k item clause p d r = go (channel_of w.channels k).closed refl
    where
      go : (b : Bool) → (channel_of w.channels k).closed ≡ b → IsSound (cond b (panics w n c q SendOnClosed clause) (send_to w n c q k (channel_of w.channels k) item clause (partner k false w.asleep))).shared
      go true e = sound_ends (Panics SendOnClosed clause) (Panicked SendOnClosed) refl refl
      go false e = sound_send_to k item clause d e r (partner k false w.asleep) refl

  -- what a sleeping sender offers
  offers_it : (k j : ℕ) (p : Sleeper × Offer) → partner k true w.asleep ≡ Some p → k ≡ j → offered j (slept p.0.number w.events) ≡ unwrap_or p.1.item [] ∷ []
  offers_it k j p e z =
      let s = partner_is k true w.asleep p e in
      ap (offered j) (sw.asleep p.0 s.lies) ∙ ap (λ m. item_of (first_offer m true (offers p.0.request))) (sym z) ∙ ap item_of (partner_first k true w.asleep p e) ∙ item_is p.1 s.item

  sound_receive_from : (k clause : ℕ) → ((x : Item) (ok : Bool) → reply_deal q (got clause x ok) ≡ Takes k x ok) → (items : List Item) → its k ≡ items → (o : Option (Sleeper × Offer)) → partner k true w.asleep ≡ o → IsSound (receive_from w n c q k (channel_of w.channels k) clause items o).shared
  sound_receive_from k clause d (x ∷ xs) e None pe =
      sound_written k xs (inl (in_range w.channels k x xs e)) (got clause x true) [] (Takes k x true) (d x true)
      (λ y f i t. let z = sym e ∙ sw.calm k y f i t in cc)
      (λ j. by_chan k j (λ b. accepted j w.events ++ [] ≡ (received j w.events ++ cond (b && true) (x ∷ []) []) ++ cond b xs (its j))
      (λ z. taken (accepted j w.events) (received j w.events) xs x (order_at k j z ∙ ap (λ l. received j w.events ++ l) e))
      (idle (accepted j w.events) (received j w.events) (its j) (sw.order j)))
  sound_receive_from k clause d (x ∷ xs) e (Some p) pe =
      let y = unwrap_or p.1.item [] in
      sound_written k (xs ++ y ∷ []) (inl (in_range w.channels k x xs e)) (got clause x true) ((p.0.number, sent p.1.case) ∷ []) (Takes k x true) (d x true)
      (λ u f i t. let z = sym e ∙ sw.calm k u f i t in cc)
      (λ j. by_chan k j (λ b. accepted j w.events ++ cond b (offered j (slept p.0.number w.events)) [] ≡ (received j w.events ++ cond (b && true) (x ∷ []) []) ++ cond b (xs ++ y ∷ []) (its j))
      (λ z. ap (λ l. accepted j w.events ++ l) (offers_it k j p pe z) ∙ shifted (accepted j w.events) (received j w.events) xs x y (order_at k j z ∙ ap (λ l. received j w.events ++ l) e))
      (idle (accepted j w.events) (received j w.events) (its j) (sw.order j)))
  sound_receive_from k clause d [] e (Some p) pe =
      let y = unwrap_or p.1.item [] in
      sound_done w refl (λ x i. i) (got clause y true) ((p.0.number, sent p.1.case) ∷ []) (Takes k y true) (d y true) (λ j x f i t. sw.calm j x f i t)
      (λ j. by_chan k j (λ b. accepted j w.events ++ cond b (offered j (slept p.0.number w.events)) [] ≡ (received j w.events ++ cond (b && true) (y ∷ []) []) ++ its j)
      (λ z. ap (λ l. accepted j w.events ++ l) (offers_it k j p pe z) ∙ handed (accepted j w.events) (received j w.events) (its j) y (sw.order j) (ap its (sym z) ∙ e))
      (idle (accepted j w.events) (received j w.events) (its j) (sw.order j)))
  sound_receive_from k clause d [] e None pe =
      let y = (channel_of w.channels k).zero in
      sound_done w refl (λ x i. i) (got clause y false) [] (Takes k y false) (d y false) (λ j x f i t. sw.calm j x f i t)
      (λ j. by_chan k j (λ b. accepted j w.events ++ [] ≡ (received j w.events ++ cond (b && false) (y ∷ []) []) ++ its j)
      (λ z. idle (accepted j w.events) (received j w.events) (its j) (sw.order j))
      (idle (accepted j w.events) (received j w.events) (its j) (sw.order j)))

  sound_receive : (k clause : ℕ) → ((x : Item) (ok : Bool) → reply_deal q (got clause x ok) ≡ Takes k x ok) → IsSound (do_receive w n c q k clause).shared
  sound_receive k clause d = sound_receive_from k clause d (its k) refl (partner k true w.asleep) refl

  sound_close : (k : ℕ) → reply_deal q Nothing ≡ NoDeal → IsSound (do_close w n c q k).shared
  sound_close k d = go (channel_of w.channels k).closed
    where
      ch' : Channel
      ch' = record (channel_of w.channels k) { closed = true }

      kept : (k < length w.channels) ⊎ (its k ≡ [])
      kept = elim (cases_lt k (length w.channels)) [ inl l ↦ inl l | inr l ↦ inr (ap (λ (x : Channel). x.items) (get_or_past w.channels k no_channel l)) ]

      same : (j : ℕ) → (channel_of (with_channel w n c q k (record (channel_of w.channels k) { closed = true })).channels j).items ≡ its j
      same j = items_set w.channels k (record (channel_of w.channels k) { closed = true }) kept j ∙ by_chan k j (λ b. cond b (its k) (its j) ≡ its j) (λ z. ap its z) refl

      go : (b : Bool) → IsSound (cond b (panics w n c q CloseOfClosed 0) (done w n c q (with_channel w n c q k (record (channel_of w.channels k) { closed = true })) Nothing (map (λ (p : Sleeper × Offer). (p.0.number, close_reply (channel_of w.channels k).zero p.1)) (partners k w.asleep)))).shared
      go true = sound_ends (Panics CloseOfClosed 0) (Panicked CloseOfClosed) refl refl
      go false = sound_idle (with_channel w n c q k (record (channel_of w.channels k) { closed = true })) refl (λ x i. i) Nothing (map (λ (p : Sleeper × Offer). (p.0.number, close_reply (channel_of w.channels k).zero p.1)) (partners k w.asleep)) d same

  not_ready_empty : (k : ℕ) → receive_ready w n c q k ≡ false → its k ≡ []
  not_ready_empty k h = go (its k) (channel_of w.channels k).closed h
    where
      go : (l : List Item) (b : Bool) → (b || (nat_lt 0 (length l) || is_some (partner k true w.asleep))) ≡ false → l ≡ []
      go [] b e = refl
      go (x ∷ xs) true e = cc
      go (x ∷ xs) false e = let z : nat_lt 0 (suc (length xs)) ≡ true = grind (arith, nat_tests) in absurd (true≢false (sym (ap (λ t. t || is_some (partner k true w.asleep)) z) ∙ e))

  -- if no clause is ready, buffers of its receives are empty
  quiet_clauses : (xs : List Case) (i : ℕ) → ready_clauses w n c q i xs ≡ [] → (k : ℕ) (f : Offer) → first_offer k false (clause_offers i xs) ≡ Some f → its k ≡ []
  quiet_clauses [] i h k f t = cc
  quiet_clauses (x ∷ xs) i h k f t = go (quiet_clauses xs (suc i)) x.chan x.item (is_ready w n c q x.chan x.item) refl h t
    where
      go : (ready_clauses w n c q (suc i) xs ≡ [] → (m : ℕ) (g : Offer) → first_offer m false (clause_offers (suc i) xs) ≡ Some g → its m ≡ []) → (a : Option ℕ) (b : Option Item) (r : Bool) → is_ready w n c q a b ≡ r → cond r ((i, x) ∷ ready_clauses w n c q (suc i) xs) (ready_clauses w n c q (suc i) xs) ≡ [] → first_offer k false (with_offer i a b (clause_offers (suc i) xs)) ≡ Some f → its k ≡ []
      go rec a b true re h' t' = cc
      go rec None b false re h' t' = rec h' k f t'
      go rec (Some m) (Some y) false re h' t' = rec h' k f (by_chan m k (λ u. cond (u && false) (Some (record { case = i; chan = m; item = Some y })) (first_offer k false (clause_offers (suc i) xs)) ≡ Some f → first_offer k false (clause_offers (suc i) xs) ≡ Some f) (λ z p. p) (λ p. p) t')
      go rec (Some m) None false re h' t' = by_chan m k (λ u. cond (u && true) (Some (record { case = i; chan = m; item = None })) (first_offer k false (clause_offers (suc i) xs)) ≡ Some f → its k ≡ []) (λ z p. ap its (sym z) ∙ not_ready_empty m re) (λ p. rec h' k f p) t'

  sound_clause : (i : ℕ) (chan : Option ℕ) (item : Option Item) → ((g : Option (Item × Bool)) → reply_deal q (Clause (suc i) g) ≡ clause_deal chan item g) → is_ready w n c q chan item ≡ true → IsSound (do_clause w n c q (suc i) chan item).shared
  sound_clause i None item h r = cc
  sound_clause i (Some k) None h r = sound_receive k (suc i) (λ x ok. h (Some (x, ok)))
  sound_clause i (Some k) (Some item) h r = sound_send k item (suc i) 0 (h None) r

  sound_make : (size : ℤ) (z : Item) → ((k : ℕ) → reply_deal q (Value (Chan (Some k))) ≡ NoDeal) → IsSound (do_make w n c q size z).shared
  sound_make (negsuc m) z d = sound_ends (Panics ChannelSize 0) (Panicked ChannelSize) refl refl
  sound_make (pos size) z d = go (nat_lt 65536 size) (length w.channels == 65537)
    where
      ch : Channel
      ch = record { capacity = size; items = []; closed = false; zero = z }

      go : (a b : Bool) → IsSound (cond a (panics w n c q ChannelSize 0) (cond b (panics w n c q TooManyChannels 0) (done w n c q (record w { channels = w.channels ++ record { capacity = size; items = []; closed = false; zero = z } ∷ [] }) (Value (Chan (Some (length w.channels)))) []))).shared
      go true b = sound_ends (Panics ChannelSize 0) (Panicked ChannelSize) refl refl
      go false true = sound_ends (Panics TooManyChannels 0) (Panicked TooManyChannels) refl refl
      go false false = sound_idle (record w { channels = w.channels ++ record { capacity = size; items = []; closed = false; zero = z } ∷ [] }) refl (λ x i. i) (Value (Chan (Some (length w.channels)))) [] (d (length w.channels)) (items_make w.channels (record { capacity = size; items = []; closed = false; zero = z }) refl)

  sound_go : (f : ℕ) (args : List Word) → reply_deal q Nothing ≡ NoDeal → IsSound (do_go w n c q f args).shared
  sound_go f args d = go (w.live == MAX_GOROUTINES)
    where
      go : (b : Bool) → IsSound (cond b (panics w n c q TooManyGoroutines 0) (record { fate = GoesOn Nothing; woken = []; started = (f, args) ∷ []; shared = happened w n c q (record w { live = w.live + 1; made = w.made + 1 }) (Done Nothing) ((w.made + 1) ∷ []) })).shared
      go true = sound_ends (Panics TooManyGoroutines 0) (Panicked TooManyGoroutines) refl refl
      go false = sound_on w.asleep w.channels (Done Nothing) ((w.made + 1) ∷ []) refl (λ x i. i) (λ k x f i t. sw.calm k x f i t) (λ j. subst (λ z. Ord j z ((w.made + 1) ∷ []) (its j)) (sym d) (idle (accepted j w.events) (received j w.events) (its j) (sw.order j)))

sound_select : (w : Shared) (n c : ℕ) (cases : List Case) (default : Bool) → IsSound w → (o : Option (ℕ × Case)) → choose w n c (Select cases default) cases ≡ o → IsSound (do_select w n c (Select cases default) default o).shared
sound_select w n c cases default sw (Some y) e =
    let z = chosen w n c (Select cases default) cases y e in
    let i : y.0 ≡ suc z.k = omega (arith, z.is) in
    subst (λ i. IsSound (do_clause w n c (Select cases default) i y.1.chan y.1.item).shared) (sym i) (sound_clause w n c (Select cases default) sw z.k y.1.chan y.1.item (deals_at cases z.k y.1 z.stands) z.ready)
sound_select w n c cases true sw None e = sound_idle w n c (Select cases true) sw w refl (λ x i. i) Default [] refl (λ j. refl)
sound_select w n c cases false sw None e = sound_sleeps w n c (Select cases false) sw (quiet_clauses w n c (Select cases false) sw cases 1 (none_ready w n c (Select cases false) cases e))

no_receive : (k m i : ℕ) (x : Item) (f : Offer) → first_offer m false (record { case = i; chan = k; item = Some x } ∷ []) ≡ Some f → ⊥
no_receive k m i x f h = go (k == m) h
  where
    go : (b : Bool) → cond (b && false) (Some (record { case = i; chan = k; item = Some x })) None ≡ Some f → ⊥
    go true h' = cc
    go false h' = cc

pub sound_act : (w : Shared) (n c : ℕ) (q : Request) → IsSound w → IsSound (act w n c q q).shared
sound_act w n c (Make size z) sw = sound_make w n c (Make size z) sw size z (λ k. refl)
sound_act w n c (Go f args) sw = sound_go w n c (Go f args) sw f args refl
sound_act w n c (Send None item) sw = sound_sleeps w n c (Send None item) sw (λ k f t. cc)
sound_act w n c (Send (Some k) item) sw = go (send_ready w n c (Send (Some k) item) k) refl
  where
    go : (b : Bool) → send_ready w n c (Send (Some k) item) k ≡ b → IsSound (cond b (do_send w n c (Send (Some k) item) k item 0) (sleeps w n c (Send (Some k) item))).shared
    go true e = sound_send w n c (Send (Some k) item) sw k item 0 0 refl e
    go false e = sound_sleeps w n c (Send (Some k) item) sw (λ m f t. absurd (no_receive k m 0 item f t))
sound_act w n c (Receive None) sw = sound_sleeps w n c (Receive None) sw (λ k f t. cc)
sound_act w n c (Receive (Some k)) sw = go (receive_ready w n c (Receive (Some k)) k) refl
  where
    go : (b : Bool) → receive_ready w n c (Receive (Some k)) k ≡ b → IsSound (cond b (do_receive w n c (Receive (Some k)) k 0) (sleeps w n c (Receive (Some k)))).shared
    go true e = sound_receive w n c (Receive (Some k)) sw k 0 (λ x ok. refl)
    go false e = sound_sleeps w n c (Receive (Some k)) sw (λ m f t. by_chan w n c (Receive (Some k)) sw k m (λ u. cond (u && true) (Some (record { case = 0; chan = k; item = None })) None ≡ Some f → (channel_of w.channels m).items ≡ []) (λ z p. ap (λ i. (channel_of w.channels i).items) (sym z) ∙ not_ready_empty w n c (Receive (Some k)) sw k e) (λ p. cc) t)
sound_act w n c (Close None) sw = sound_ends w n c (Close None) sw (Panics CloseOfNil 0) (Panicked CloseOfNil) refl refl
sound_act w n c (Close (Some k)) sw = sound_close w n c (Close (Some k)) sw k refl
sound_act w n c (Select cases default) sw = sound_select w n c cases default sw (choose w n c (Select cases default) cases) refl
sound_act w n c (Len None) sw = sound_idle w n c (Len None) sw w refl (λ x i. i) (Value (Int (pos 0))) [] refl (λ j. refl)
sound_act w n c (Len (Some k)) sw = sound_idle w n c (Len (Some k)) sw w refl (λ x i. i) (Value (Int (pos (length (channel_of w.channels k).items)))) [] refl (λ j. refl)
sound_act w n c (Cap None) sw = sound_idle w n c (Cap None) sw w refl (λ x i. i) (Value (Int (pos 0))) [] refl (λ j. refl)
sound_act w n c (Cap (Some k)) sw = sound_idle w n c (Cap (Some k)) sw w refl (λ x i. i) (Value (Int (pos (channel_of w.channels k).capacity))) [] refl (λ j. refl)
sound_act w n c (Print bytes) sw = sound_idle w n c (Print bytes) sw (record w { output = w.output ++ bytes }) refl (λ x i. i) Nothing [] refl (λ j. refl)
sound_act w n c End sw = sound_on w n c End sw w.asleep w.channels (Done Nothing) [] refl (λ x i. i) (λ k x f i t. sw.calm k x f i t) (λ j. idle (accepted j w.events) (received j w.events) (channel_of w.channels j).items (sw.order j))
sound_act w n c Exit sw = sound_ends w n c Exit sw (Done Nothing) Finished refl refl
sound_act w n c (Panic p) sw = sound_ends w n c (Panic p) sw (Panics p 0) (Panicked p) refl refl
sound_act w n c Exhausted sw = sound_ends w n c Exhausted sw (Done Nothing) RanOut refl refl

empty_items : (k : ℕ) → (channel_of (no_channel ∷ []) k).items ≡ []
empty_items zero = refl
empty_items (suc k) = refl

pub opening_sound : (K : GoroutineKind) → IsSound (opening K).shared.shared
opening_sound K = record { asleep = λ x i. elim i [ ]; calm = λ k x f i t. elim i [ ]; order = λ k. sym (empty_items k) }

pub in_order : (K : GoroutineKind) (limit n : ℕ) → InOrder (moment K limit n).shared.shared
in_order K limit n = (moment_keeps IsSound sound_act K limit (opening_sound K) n).order
