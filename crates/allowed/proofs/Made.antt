-- Goroutines that use only channels that they were given offer only on channels that were made.
use Rattle.std.proofs.Common.{◌≡◌, ℕ, zero, suc, ◌+◌, ◌-◌, ◌<◌, ◌≤◌, ◌⊎◌, pos, negsuc, Bool, true, false, cond, List, [], ◌∷◌, ◌++◌, map, length, Option, Some, None, refl, sym, ap, ◌∙◌, subst, arith, inl, inr, get_or, set, get_or-set_same, get_or-set_other, length-set, length-append}
use Rattle.std.specs.Prelude.{◌==◌, nat_lt, slice_index_or, slice_set, unwrap_or, option_map}
use Rattle.std.specs.Option.{is_some}
use Rattle.std.specs.List.{slice_get}
use Rattle.std.proofs.lemmas.Bool.{cases_eq, cases_lt}
use Rattle.std.proofs.lemmas.Option.{same_Some}
use Rattle.std.proofs.lemmas.List.{get_or_append_left, get_or-append_right, set_past}
use Rattle.turn_rule.specs.Turns.{World, next, changed, move_on, move_at, move_next, perform as perform_in, one, run}
use Rattle.logical_clock.specs.declared.key.Key.{Key}
use Rattle.logical_clock.specs.declared.limits.TheConstants.{MAX_GOROUTINES}
use Rattle.word.specs.declared.limits.TheConstants.{MAX_CAPACITY, MAX_CHANNELS}
use Rattle.word.specs.declared.request.Case.{Case}
use Rattle.word.specs.declared.value.Word.{Word}
use Rattle.word.specs.declared.value.Word.TheVariants.{Int, Chan}
use Rattle.word.specs.declared.panic.Panic.TheVariants.{SendOnClosed}
use Rattle.word.specs.Values.{Item, Request, Make, Go, Send, Receive, Close, Select, Len, Cap, Print, End, Exit, Panic, Exhausted, Reply, Nothing, Value, Received, Clause, Default, Closed, Sleeper, Offer, Channel, Shared}
use Rattle.word.specs.Kinds.{Asks, GoroutineKind, Clocked, local, asks, told, at}
use Rattle.word.specs.Requests.{Fate, GoesOn, Dozes, Leaves, Stays, Deed, no_channel, channel_of, with_offer, clause_offers, offers, partner, first_on, also, partners, without_all, sent, got, done, sleeps, with_channel, send_to, do_send, receive_from, do_receive, send_ready, receive_ready, choose, do_clause, do_select, do_close, close_reply, act, meant}
use Rattle.word.specs.Worlds.{Bed, Rest, in_bed, actor_after, beds_after, woken_by, begun_at, performs, rules, opening, moment}
use Rattle.word.proofs.Found.{In}
use Rattle.word.proofs.Fair.{partner_is, in_without_all, in_back, meant_is}
use Rattle.word.proofs.Chosen.{chosen}
use Rattle.allowed.specs.Naming.{InWords, InItems, InItem, InCases, InRequest, InReply, IsHonest}
use Rattle.allowed.specs.Orders.{AreMade, NamesMade}
use Rattle.allowed.proofs.Ordinary.{asks_is, local_is}

-- whatever is named is below this
abbrev Below : ℕ → (ℕ → Type 0) → Type 0
Below N Named = (k : ℕ) → Named k → k < N

-- ---- what requests name

clause_chan : (cases : List Case) (i : ℕ) (o : Offer) → In o (clause_offers i cases) → InCases o.chan cases
clause_chan [] i o h = elim h [ ]
clause_chan (x ∷ xs) i o h = go (clause_chan xs (suc i) o) x.chan refl h
  where
    go : (In o (clause_offers (suc i) xs) → InCases o.chan xs) → (c : Option ℕ) → x.chan ≡ c → In o (with_offer i c x.item (clause_offers (suc i) xs)) → InCases o.chan (x ∷ xs)
    go rec None e h' = inr (rec h')
    go rec (Some c) e (inl s) = inl (inl (e ∙ ap (λ (p : Offer). Some p.chan) (sym s)))
    go rec (Some c) e (inr h') = inr (rec h')

clause_item : (cases : List Case) (i : ℕ) (o : Offer) → In o (clause_offers i cases) → (k : ℕ) → InItem k o.item → InCases k cases
clause_item [] i o h k n = elim h [ ]
clause_item (x ∷ xs) i o h k n = go (λ h'. clause_item xs (suc i) o h' k n) x.chan h
  where
    go : (In o (clause_offers (suc i) xs) → InCases k xs) → (c : Option ℕ) → In o (with_offer i c x.item (clause_offers (suc i) xs)) → InCases k (x ∷ xs)
    go rec None h' = inr (rec h')
    go rec (Some c) (inl s) = inl (inr (subst (λ (p : Offer). InItem k p.item) s n))
    go rec (Some c) (inr h') = inr (rec h')

offer_chan : (q : Request) (o : Offer) → In o (offers q) → InRequest o.chan q
offer_chan (Send None item) o h = elim h [ ]
offer_chan (Send (Some c) item) o (inl e) = inl (ap (λ (p : Offer). Some p.chan) (sym e))
offer_chan (Send (Some c) item) o (inr h) = elim h [ ]
offer_chan (Receive None) o h = elim h [ ]
offer_chan (Receive (Some c)) o (inl e) = ap (λ (p : Offer). Some p.chan) (sym e)
offer_chan (Receive (Some c)) o (inr h) = elim h [ ]
offer_chan (Select cases default) o h = clause_chan cases 1 o h
offer_chan (Make size z) o h = elim h [ ]
offer_chan (Go f args) o h = elim h [ ]
offer_chan (Close c) o h = elim h [ ]
offer_chan (Len c) o h = elim h [ ]
offer_chan (Cap c) o h = elim h [ ]
offer_chan (Print bytes) o h = elim h [ ]
offer_chan End o h = elim h [ ]
offer_chan Exit o h = elim h [ ]
offer_chan (Panic p) o h = elim h [ ]
offer_chan Exhausted o h = elim h [ ]

offer_item : (q : Request) (o : Offer) → In o (offers q) → (k : ℕ) → InItem k o.item → InRequest k q
offer_item (Send None item) o h k n = elim h [ ]
offer_item (Send (Some c) item) o (inl e) k n = inr (subst (λ (p : Offer). InItem k p.item) e n)
offer_item (Send (Some c) item) o (inr h) k n = elim h [ ]
offer_item (Receive None) o h k n = elim h [ ]
offer_item (Receive (Some c)) o (inl e) k n = elim (subst (λ (p : Offer). InItem k p.item) e n) [ ]
offer_item (Receive (Some c)) o (inr h) k n = elim h [ ]
offer_item (Select cases default) o h k n = clause_item cases 1 o h k n
offer_item (Make size z) o h k n = elim h [ ]
offer_item (Go f args) o h k n = elim h [ ]
offer_item (Close c) o h k n = elim h [ ]
offer_item (Len c) o h k n = elim h [ ]
offer_item (Cap c) o h k n = elim h [ ]
offer_item (Print bytes) o h k n = elim h [ ]
offer_item End o h k n = elim h [ ]
offer_item Exit o h k n = elim h [ ]
offer_item (Panic p) o h k n = elim h [ ]
offer_item Exhausted o h k n = elim h [ ]

all_made : (N : ℕ) (os : List Offer) → ((o : Offer) → In o os → o.chan < N) → AreMade N os
all_made N [] h = tt
all_made N (o ∷ os) h = (h o (inl refl), all_made N os (λ p i. h p (inr i)))

case_names : (cases : List Case) (i : ℕ) (x : Case) → slice_get cases i ≡ Some x → (k : ℕ) → ((x.chan ≡ Some k) ⊎ InItem k x.item) → InCases k cases
case_names [] i x h k n = cc
case_names (y ∷ ys) zero x h k n = inl (subst (λ (z : Case). (z.chan ≡ Some k) ⊎ InItem k z.item) (sym (same_Some y x h)) n)
case_names (y ∷ ys) (suc i) x h k n = inr (case_names ys i x h k n)

-- ---- what items name

item_here : (k : ℕ) (x : Item) (xs : List Item) → InWords k x → InItems k (x ∷ xs)
item_here k x xs h = inl h

items_back : (k : ℕ) (xs : List Item) (x : Item) → InItems k (xs ++ x ∷ []) → InItems k xs ⊎ InWords k x
items_back k [] x (inl h) = inr h
items_back k [] x (inr h) = elim h [ ]
items_back k (y ∷ ys) x (inl h) = inl (inl h)
items_back k (y ∷ ys) x (inr h) = elim (items_back k ys x h) [ inl a ↦ inl (inr a) | inr b ↦ inr b ]

got_names : (i : ℕ) (x : Item) (ok : Bool) (k : ℕ) → InReply k (got i x ok) → InWords k x
got_names zero x ok k h = h
got_names (suc i) x ok k h = h

sent_names : (i k : ℕ) → InReply k (sent i) → ⊥
sent_names zero k h = h
sent_names (suc i) k h = h

none_named : (k : ℕ) (item : Option Item) → InWords k (unwrap_or item []) → InItem k item
none_named k None h = h
none_named k (Some x) h = h

-- ---- what all share names

record IsWithin (v : Shared) : Type 0 where
  items : (c : ℕ) → Below (length v.channels) (λ k. InItems k (channel_of v.channels c).items)
  zeros : (c : ℕ) → Below (length v.channels) (λ k. InWords k (channel_of v.channels c).zero)
  asleep : (x : Sleeper) → In x v.asleep → Below (length v.channels) (λ k. InRequest k x.request)

abbrev FateWithin : ℕ → Fate → Type 0
FateWithin N (GoesOn reply) = Below N (λ k. InReply k reply)
FateWithin N Dozes = Unit {0}
FateWithin N Leaves = Unit {0}
FateWithin N Stays = Unit {0}

abbrev WokenWithin : ℕ → List (ℕ × Reply) → Type 0
WokenWithin N [] = Unit {0}
WokenWithin N (x ∷ xs) = Below N (λ k. InReply k x.1) × WokenWithin N xs

abbrev StartedWithin : ℕ → List (ℕ × List Word) → Type 0
StartedWithin N [] = Unit {0}
StartedWithin N (x ∷ xs) = Below N (λ k. InWords k x.1) × StartedWithin N xs

-- what a deed gives to whom names channels that are made then
record Gives (N : ℕ) (d : Deed) : Type 0 where
  more : N ≤ length d.shared.channels
  fate : FateWithin (length d.shared.channels) d.fate
  woken : WokenWithin (length d.shared.channels) d.woken
  started : StartedWithin (length d.shared.channels) d.started
  within : IsWithin d.shared

module _ (w : Shared) (n c : ℕ) (q : Request) (h : IsWithin w) (named : Below (length w.channels) (λ k. InRequest k q)) where
  abbrev made : ℕ
  made = length w.channels

  abbrev its : ℕ → Channel
  its k = channel_of w.channels k

  abbrev Gives' : Deed → Type 0
  Gives' d = Gives made d

  gives_cond : (b : Bool) (d e : Deed) → Gives' d → Gives' e → Gives' (cond b d e)
  gives_cond true d e f g = f
  gives_cond false d e f g = g

  gives_ends : (d : Deed) → d.fate ≡ Stays → d.woken ≡ [] → d.started ≡ [] → d.shared.channels ≡ w.channels → d.shared.asleep ≡ w.asleep → Gives' d
  gives_ends d fate woken started channels asleep = record {
    more = omega (arith, ap length channels);
    fate = subst (FateWithin _) (sym fate) tt;
    woken = subst (WokenWithin _) (sym woken) tt;
    started = subst (StartedWithin _) (sym started) tt;
    within = record {
      items = λ k. subst (λ (cs : List Channel). Below (length cs) (λ j. InItems j (channel_of cs k).items)) (sym channels) (h.items k);
      zeros = λ k. subst (λ (cs : List Channel). Below (length cs) (λ j. InWords j (channel_of cs k).zero)) (sym channels) (h.zeros k);
      asleep = λ x i. subst (λ (cs : List Channel). Below (length cs) (λ j. InRequest j x.request)) (sym channels) (h.asleep x (subst (In x) asleep i));
    };
  }

  -- a request that is done, with the same channels but for one
  gives_done : (k : ℕ) (ch : Channel) (reply : Reply) (woken : List (ℕ × Reply)) → Below made (λ j. InItems j ch.items) → Below made (λ j. InWords j ch.zero) → Below made (λ j. InReply j reply) → WokenWithin made woken → Gives' (done w n c q (with_channel w n c q k ch) reply woken)
  gives_done k ch reply woken items zeros fate wakes =
      let same : length (slice_set w.channels k ch) ≡ made = length-set w.channels k ch in
      record {
        more = omega (arith, same);
        fate = subst (λ M. Below M (λ j. InReply j reply)) (sym same) fate;
        woken = subst (λ M. WokenWithin M woken) (sym same) wakes;
        started = tt;
        within = record {
          items = λ m. subst (λ M. Below M (λ j. InItems j (channel_of (slice_set w.channels k ch) m).items)) (sym same) (at_either m (λ (x : Channel). Below made (λ j. InItems j x.items)) items (h.items m));
          zeros = λ m. subst (λ M. Below M (λ j. InWords j (channel_of (slice_set w.channels k ch) m).zero)) (sym same) (at_either m (λ (x : Channel). Below made (λ j. InWords j x.zero)) zeros (h.zeros m));
          asleep = λ x i. subst (λ M. Below M (λ j. InRequest j x.request)) (sym same) (h.asleep x (in_without_all w.asleep woken x i));
        };
      }
    where
      at_either : (m : ℕ) (P : Channel → Type 0) → P ch → P (its m) → P (channel_of (slice_set w.channels k ch) m)
      at_either m P new old = elim (cases_eq m k) [
        | inl e ↦ elim (cases_lt k (length w.channels)) [
          | inl l ↦ subst P (sym (ap (λ i. channel_of (slice_set w.channels k ch) i) e ∙ get_or-set_same w.channels k ch no_channel l)) new
          | inr l ↦ subst P (ap (λ (ys : List Channel). channel_of ys m) (sym (set_past w.channels k ch l))) old
        ]
        | inr ne ↦ subst P (sym (get_or-set_other w.channels k m ch no_channel ne)) old
      ]

  -- with the same channels
  gives_same : (v : Shared) (reply : Reply) (woken : List (ℕ × Reply)) → v.channels ≡ w.channels → v.asleep ≡ w.asleep → Below made (λ j. InReply j reply) → WokenWithin made woken → Gives' (done w n c q v reply woken)
  gives_same v reply woken channels asleep fate wakes = record {
    more = omega (arith, ap length channels);
    fate = subst (λ (cs : List Channel). Below (length cs) (λ j. InReply j reply)) (sym channels) fate;
    woken = subst (λ (cs : List Channel). WokenWithin (length cs) woken) (sym channels) wakes;
    started = tt;
    within = record {
      items = λ k. subst (λ (cs : List Channel). Below (length cs) (λ j. InItems j (channel_of cs k).items)) (sym channels) (h.items k);
      zeros = λ k. subst (λ (cs : List Channel). Below (length cs) (λ j. InWords j (channel_of cs k).zero)) (sym channels) (h.zeros k);
      asleep = λ x i. subst (λ (cs : List Channel). Below (length cs) (λ j. InRequest j x.request)) (sym channels) (h.asleep x (subst (In x) asleep (in_without_all v.asleep woken x i)));
    };
  }

  gives_sleeps : Gives' (sleeps w n c q)
  gives_sleeps = record {
    more = omega arith;
    fate = tt;
    woken = tt;
    started = tt;
    within = record {
      items = h.items;
      zeros = h.zeros;
      asleep = λ x i. elim (in_back (without_all w.asleep ((n, Nothing) ∷ [])) (record { number = n; request = q }) x i) [
        | inl old ↦ h.asleep x (in_without_all w.asleep ((n, Nothing) ∷ []) x old)
        | inr e ↦ subst (λ (y : Sleeper). Below made (λ k. InRequest k y.request)) (sym e) named
      ];
    };
  }

  -- what a partner sends, and what it offers
  partner_names : (k : ℕ) (b : Bool) (p : Sleeper × Offer) → partner k b w.asleep ≡ Some p → Below made (λ j. InWords j (unwrap_or p.1.item []))
  partner_names k b p e j i = let r = partner_is k b w.asleep p e in h.asleep p.0 r.lies j (offer_item p.0.request p.1 r.offers j (none_named j p.1.item i))

  gives_send : (k : ℕ) (item : Item) (i : ℕ) → Below made (λ j. InWords j item) → Gives' (do_send w n c q k item i)
  gives_send k item i below = gives_cond (its k).closed _ _ (gives_ends _ refl refl refl refl refl) (go (partner k false w.asleep))
    where
      go : (o : Option (Sleeper × Offer)) → Gives' (send_to w n c q k (its k) item i o)
      go (Some p) = gives_same w (sent i) ((p.0.number, got p.1.case item true) ∷ []) refl refl (λ j z. absurd (sent_names i j z)) ((λ j z. below j (got_names p.1.case item true j z)), tt)
      go None = gives_done k (record (its k) { items = (its k).items ++ item ∷ [] }) (sent i) [] (λ j z. elim (items_back j (its k).items item z) [ inl a ↦ h.items k j a | inr b ↦ below j b ]) (h.zeros k) (λ j z. absurd (sent_names i j z)) tt

  gives_receive : (k i : ℕ) → Gives' (do_receive w n c q k i)
  gives_receive k i = go (its k).items refl (partner k true w.asleep) refl
    where
      go : (items : List Item) → (its k).items ≡ items → (o : Option (Sleeper × Offer)) → partner k true w.asleep ≡ o → Gives' (receive_from w n c q k (its k) i items o)
      go (x ∷ xs) e (Some p) f = gives_done k (record (its k) { items = xs ++ unwrap_or p.1.item [] ∷ [] }) (got i x true) ((p.0.number, sent p.1.case) ∷ [])
          (λ j z. elim (items_back j xs (unwrap_or p.1.item []) z) [ inl a ↦ h.items k j (subst (InItems j) (sym e) (inr a)) | inr b ↦ partner_names k true p f j b ])
          (h.zeros k) (λ j z. h.items k j (subst (InItems j) (sym e) (inl (got_names i x true j z)))) ((λ j z. absurd (sent_names p.1.case j z)), tt)
      go (x ∷ xs) e None f = gives_done k (record (its k) { items = xs }) (got i x true) [] (λ j z. h.items k j (subst (InItems j) (sym e) (inr z))) (h.zeros k) (λ j z. h.items k j (subst (InItems j) (sym e) (inl (got_names i x true j z)))) tt
      go [] e (Some p) f = gives_same w (got i (unwrap_or p.1.item []) true) ((p.0.number, sent p.1.case) ∷ []) refl refl (λ j z. partner_names k true p f j (got_names i (unwrap_or p.1.item []) true j z)) ((λ j z. absurd (sent_names p.1.case j z)), tt)
      go [] e None f = gives_same w (got i (its k).zero false) [] refl refl (λ j z. h.zeros k j (got_names i (its k).zero false j z)) tt

  gives_close : (k : ℕ) → Gives' (do_close w n c q k)
  gives_close k = gives_cond (its k).closed _ _ (gives_ends _ refl refl refl refl refl)
      (gives_done k (record (its k) { closed = true }) Nothing (map (λ (p : Sleeper × Offer). (p.0.number, close_reply (its k).zero p.1)) (partners k w.asleep)) (h.items k) (h.zeros k) (λ j z. elim z [ ]) (all_woken w.asleep))
    where
      replied : (p : Sleeper × Offer) → Below made (λ j. InReply j (close_reply (its k).zero p.1))
      replied p j z = go (is_some p.1.item) z
        where
          go : (b : Bool) → InReply j (cond b Closed (got p.1.case (its k).zero false)) → j < made
          go true z' = elim z' [ ]
          go false z' = h.zeros k j (got_names p.1.case (its k).zero false j z')

      all_woken : (ss : List Sleeper) → WokenWithin made (map (λ (p : Sleeper × Offer). (p.0.number, close_reply (its k).zero p.1)) (partners k ss))
      all_woken [] = tt
      all_woken (s ∷ ss) = go (first_on k (offers s.request)) (all_woken ss)
        where
          go : (o : Option Offer) → WokenWithin made (map (λ (p : Sleeper × Offer). (p.0.number, close_reply (its k).zero p.1)) (partners k ss)) → WokenWithin made (map (λ (p : Sleeper × Offer). (p.0.number, close_reply (its k).zero p.1)) (also s o (partners k ss)))
          go None rest = rest
          go (Some o) rest = (replied (s, o), rest)

  gives_new : (ch : Channel) → ch.items ≡ [] → Below made (λ j. InWords j ch.zero) → Gives' (done w n c q (record w { channels = w.channels ++ ch ∷ [] }) (Value (Chan (Some (length w.channels)))) [])
  gives_new ch empty zeros =
      let size : length (w.channels ++ ch ∷ []) ≡ made + 1 = length-append w.channels (ch ∷ []) in
      record {
        more = omega (arith, size);
        fate = λ j z. (let e : length w.channels ≡ j = named_is j z in omega (arith, size, e));
        woken = tt;
        started = tt;
        within = record {
          items = λ m. at_either m (λ (x : Channel). Below (length (w.channels ++ ch ∷ [])) (λ j. InItems j x.items)) (λ j z. elim (subst (InItems j) empty z) [ ]) (λ j z. (let l = h.items m j z in omega (arith, size, l))) (λ j z. elim z [ ]);
          zeros = λ m. at_either m (λ (x : Channel). Below (length (w.channels ++ ch ∷ [])) (λ j. InWords j x.zero)) (λ j z. (let l = zeros j z in omega (arith, size, l))) (λ j z. (let l = h.zeros m j z in omega (arith, size, l))) (λ j z. elim z [ ]);
          asleep = λ x i j z. (let l = h.asleep x i j z in omega (arith, size, l));
        };
      }
    where
      named_is : (j : ℕ) → Chan (Some (length w.channels)) ≡ Chan (Some j) → length w.channels ≡ j
      named_is j e = cc

      at_either : (m : ℕ) (P : Channel → Type 0) → P ch → P (its m) → P no_channel → P (channel_of (w.channels ++ ch ∷ []) m)
      at_either m P new old none = elim (cases_lt m (length w.channels)) [
        | inl l ↦ subst P (sym (get_or_append_left w.channels (ch ∷ []) no_channel m l)) old
        | inr l ↦ subst P (sym (get_or-append_right w.channels (ch ∷ []) (length w.channels) m no_channel refl l)) (one (m - length w.channels))
      ]
        where
          one : (i : ℕ) → P (slice_index_or (ch ∷ []) i no_channel)
          one zero = new
          one (suc i) = none

  gives_clause : (i : ℕ) (chan : Option ℕ) (item : Option Item) → Below made (λ j. InItem j item) → Gives' (do_clause w n c q i chan item)
  gives_clause i None item below = gives_sleeps
  gives_clause i (Some k) None below = gives_receive k i
  gives_clause i (Some k) (Some item) below = gives_send k item i below

-- each request gives only names of channels that are made then
gives_act : (w : Shared) (n c : ℕ) (q : Request) → IsWithin w → Below (length w.channels) (λ k. InRequest k q) → Gives (length w.channels) (act w n c q q)
gives_act w n c (Make (negsuc m) z) h b = gives_ends w n c (Make (negsuc m) z) h b _ refl refl refl refl refl
gives_act w n c (Make (pos size) z) h b =
    gives_cond w n c (Make (pos size) z) h b (nat_lt MAX_CAPACITY size) _ _ (gives_ends w n c (Make (pos size) z) h b _ refl refl refl refl refl)
    (gives_cond w n c (Make (pos size) z) h b (length w.channels == MAX_CHANNELS + 1) _ _ (gives_ends w n c (Make (pos size) z) h b _ refl refl refl refl refl)
    (gives_new w n c (Make (pos size) z) h b (record { capacity = size; items = []; closed = false; zero = z }) refl b))
gives_act w n c (Go f args) h b =
    gives_cond w n c (Go f args) h b (w.live == MAX_GOROUTINES) _ _ (gives_ends w n c (Go f args) h b _ refl refl refl refl refl)
    (record { more = omega arith; fate = λ j z. elim z [ ]; woken = tt; started = (b, tt); within = record { items = h.items; zeros = h.zeros; asleep = h.asleep } })
gives_act w n c (Send None item) h b = gives_sleeps w n c (Send None item) h b
gives_act w n c (Send (Some k) item) h b = gives_cond w n c (Send (Some k) item) h b (send_ready w n c (Send (Some k) item) k) _ _ (gives_send w n c (Send (Some k) item) h b k item 0 (λ j z. b j (inr z))) (gives_sleeps w n c (Send (Some k) item) h b)
gives_act w n c (Receive None) h b = gives_sleeps w n c (Receive None) h b
gives_act w n c (Receive (Some k)) h b = gives_cond w n c (Receive (Some k)) h b (receive_ready w n c (Receive (Some k)) k) _ _ (gives_receive w n c (Receive (Some k)) h b k 0) (gives_sleeps w n c (Receive (Some k)) h b)
gives_act w n c (Close None) h b = gives_ends w n c (Close None) h b _ refl refl refl refl refl
gives_act w n c (Close (Some k)) h b = gives_close w n c (Close (Some k)) h b k
gives_act w n c (Select cases default) h b = go (choose w n c (Select cases default) cases) refl
  where
    none : (d : Bool) → Gives (length w.channels) (do_select w n c (Select cases default) d None)
    none true = gives_same w n c (Select cases default) h b w Default [] refl refl (λ j z. elim z [ ]) tt
    none false = gives_sleeps w n c (Select cases default) h b

    go : (o : Option (ℕ × Case)) → choose w n c (Select cases default) cases ≡ o → Gives (length w.channels) (do_select w n c (Select cases default) default o)
    go (Some x) e = let r = chosen w n c (Select cases default) cases x e in gives_clause w n c (Select cases default) h b x.0 x.1.chan x.1.item (λ j z. b j (case_names cases r.k x.1 r.stands j (inr z)))
    go None e = none default
gives_act w n c (Len None) h b = gives_same w n c (Len None) h b w (Value (Int (pos 0))) [] refl refl (λ j z. cc) tt
gives_act w n c (Len (Some k)) h b = gives_same w n c (Len (Some k)) h b w _ [] refl refl (λ j z. cc) tt
gives_act w n c (Cap None) h b = gives_same w n c (Cap None) h b w (Value (Int (pos 0))) [] refl refl (λ j z. cc) tt
gives_act w n c (Cap (Some k)) h b = gives_same w n c (Cap (Some k)) h b w _ [] refl refl (λ j z. cc) tt
gives_act w n c (Print bytes) h b = gives_same w n c (Print bytes) h b (record w { output = w.output ++ bytes }) Nothing [] refl refl (λ j z. elim z [ ]) tt
gives_act w n c End h b = record { more = omega arith; fate = tt; woken = tt; started = tt; within = record { items = h.items; zeros = h.zeros; asleep = h.asleep } }
gives_act w n c Exit h b = gives_ends w n c Exit h b _ refl refl refl refl refl
gives_act w n c (Panic p) h b = gives_ends w n c (Panic p) h b _ refl refl refl refl refl
gives_act w n c Exhausted h b = gives_ends w n c Exhausted h b _ refl refl refl refl refl

-- ---- the run

module _ (K : GoroutineKind) (holds : K.State → ℕ → Type 0) (honest : IsHonest K holds) (limit : ℕ) where
  abbrev Place : Type 0
  Place = World (Clocked K.State) (Rest K.State)

  abbrev AllUp : ℕ → List (Option (Clocked K.State)) → Type 0
  AllUp N ss = (n : ℕ) (s : Clocked K.State) → get_or ss n None ≡ Some s → Below N (holds s.state)

  abbrev AllDown : ℕ → List (Bed K.State) → Type 0
  AllDown N beds = (n : ℕ) (s : Clocked K.State) → in_bed n beds ≡ Some s → Below N (holds s.state)

  abbrev OneUp : ℕ → Option (Clocked K.State) → Type 0
  OneUp N o = (s : Clocked K.State) → o ≡ Some s → Below N (holds s.state)

  record IsMade (w : Place) : Type 0 where
    up : AllUp (length w.shared.shared.channels) w.awake
    down : AllDown (length w.shared.shared.channels) w.shared.beds
    within : IsWithin w.shared.shared

  higher : (N M : ℕ) (P : ℕ → Type 0) → N ≤ M → Below N P → Below M P
  higher N M P le f k z = let l = f k z in omega (arith, l, le)

  told_up : (N : ℕ) (s : Clocked K.State) (clock : ℕ) (reply : Reply) → Below N (holds s.state) → Below N (λ k. InReply k reply) → Below N (holds (told K s clock reply).state)
  told_up N s clock Closed old new k z = old k z
  told_up N s clock Nothing old new k z = elim (honest.answers s.state Nothing k z) [ inl a ↦ old k a | inr b ↦ new k b ]
  told_up N s clock (Value x) old new k z = elim (honest.answers s.state (Value x) k z) [ inl a ↦ old k a | inr b ↦ new k b ]
  told_up N s clock (Received x ok) old new k z = elim (honest.answers s.state (Received x ok) k z) [ inl a ↦ old k a | inr b ↦ new k b ]
  told_up N s clock (Clause i g) old new k z = elim (honest.answers s.state (Clause i g) k z) [ inl a ↦ old k a | inr b ↦ new k b ]
  told_up N s clock Default old new k z = elim (honest.answers s.state Default k z) [ inl a ↦ old k a | inr b ↦ new k b ]

  set_up : (N : ℕ) (ss : List (Option (Clocked K.State))) (n : ℕ) (o : Option (Clocked K.State)) → AllUp N ss → OneUp N o → AllUp N (slice_set ss n o)
  set_up N ss n o all one m s e = elim (cases_eq m n) [
    | inl same ↦ elim (cases_lt n (length ss)) [
      | inl l ↦ one s (sym (ap (λ i. get_or (set ss n o) i None) same ∙ get_or-set_same ss n o None l) ∙ e)
      | inr l ↦ all m s (ap (λ xs. get_or xs m None) (sym (set_past ss n o l)) ∙ e)
    ]
    | inr ne ↦ all m s (sym (get_or-set_other ss n m o None ne) ∙ e)
  ]

  changed_up : (N : ℕ) (beds : List (Bed K.State)) (clock : ℕ) (woken : List (ℕ × Reply)) (ss : List (Option (Clocked K.State))) → AllDown N beds → WokenWithin N woken → AllUp N ss → AllUp N (changed (rules K limit) ss (woken_by K limit beds clock woken))
  changed_up N beds clock [] ss down wakes all = all
  changed_up N beds clock (x ∷ xs) ss down wakes all = changed_up N beds clock xs _ down wakes.1 (set_up N ss x.0 _ all (one (in_bed x.0 beds) refl))
    where
      one : (o : Option (Clocked K.State)) → in_bed x.0 beds ≡ o → OneUp N (option_map (λ (t : Clocked K.State). told K t clock x.1) o)
      one None e s h = cc
      one (Some t) e s h = subst (λ (y : Clocked K.State). Below N (holds y.state)) (same_Some (told K t clock x.1) s h) (told_up N t clock x.1 (down x.0 t e) wakes.0)

  begun_up : (N clock : ℕ) (started : List (ℕ × List Word)) → StartedWithin N started → AllUp N (map Some (begun_at K limit clock started))
  begun_up N clock [] h n s e k z = cc
  begun_up N clock (x ∷ xs) h zero s e k z = h.0 k (honest.begins x.0 x.1 k (subst (λ (y : Clocked K.State). holds y.state k) (sym (same_Some (at clock (K.begin x.0 x.1)) s e)) z))
  begun_up N clock (x ∷ xs) h (suc n) s e k z = begun_up N clock xs h.1 n s e k z

  append_up : (N : ℕ) (ss ts : List (Option (Clocked K.State))) → AllUp N ss → AllUp N ts → AllUp N (ss ++ ts)
  append_up N ss ts f g n s e = elim (cases_lt n (length ss)) [
    | inl l ↦ f n s (sym (get_or_append_left ss ts None n l) ∙ e)
    | inr l ↦ g (n - length ss) s (sym (get_or-append_right ss ts (length ss) n None refl l) ∙ e)
  ]

  actor_up : (N clock : ℕ) (s : Clocked K.State) (fate : Fate) → Below N (holds s.state) → FateWithin N fate → OneUp N (actor_after K limit clock s fate)
  actor_up N clock s (GoesOn reply) old h t e = subst (λ (y : Clocked K.State). Below N (holds y.state)) (same_Some (told K s clock reply) t e) (told_up N s clock reply old h)
  actor_up N clock s Dozes old h t e = cc
  actor_up N clock s Leaves old h t e = cc
  actor_up N clock s Stays old h t e = subst (λ (y : Clocked K.State). Below N (holds y.state)) (same_Some s t e) old

  beds_down : (N : ℕ) (beds : List (Bed K.State)) (n : ℕ) (s : Clocked K.State) (fate : Fate) → AllDown N beds → Below N (holds s.state) → AllDown N (beds_after K limit beds n s fate)
  beds_down N beds n s (GoesOn reply) down old m t e = down m t e
  beds_down N beds n s Leaves down old m t e = down m t e
  beds_down N beds n s Stays down old m t e = down m t e
  beds_down N beds n s Dozes down old m t e = go (n == m) e
    where
      go : (b : Bool) → cond b (Some s) (in_bed m beds) ≡ Some t → Below N (holds t.state)
      go true e' = subst (λ (y : Clocked K.State). Below N (holds y.state)) (same_Some s t e') old
      go false e' = down m t e'

  -- what a request means names what it names
  meant_names : (w : Place) (n : ℕ) (s : Clocked K.State) (q : Request) → get_or w.awake n None ≡ Some s → IsMade w → asks K limit s ≡ Some q → Below (length w.shared.shared.channels) (λ k. InRequest k (meant w.shared.shared n q))
  meant_names w n s q up made a = elim (meant_is w.shared.shared n q) [
    | inl e ↦ subst (λ p. Below (length w.shared.shared.channels) (λ k. InRequest k p)) (sym e) (by (asks_is K limit s q a))
    | inr (inl e) ↦ subst (λ p. Below (length w.shared.shared.channels) (λ k. InRequest k p)) (sym e) (λ k z. elim z [ ])
    | inr (inr e) ↦ subst (λ p. Below (length w.shared.shared.channels) (λ k. InRequest k p)) (sym e) (λ k z. elim z [ ])
  ]
    where
      by : (q ≡ Exhausted) ⊎ (((s.doomed ≡ true) × (q ≡ Panic SendOnClosed)) ⊎ (K.next s.state ≡ Asks q)) → Below (length w.shared.shared.channels) (λ k. InRequest k q)
      by (inl e) = subst (λ p. Below (length w.shared.shared.channels) (λ k. InRequest k p)) (sym e) (λ k z. elim z [ ])
      by (inr (inl e)) = subst (λ p. Below (length w.shared.shared.channels) (λ k. InRequest k p)) (sym e.1) (λ k z. elim z [ ])
      by (inr (inr e)) = λ k z. made.up n s up k (honest.asks s.state q k e z)

  made_asks : (w : Place) (n : ℕ) (s : Clocked K.State) → get_or w.awake n None ≡ Some s → IsMade w → (o : Option Request) → asks K limit s ≡ o
      → (let e = performs K limit w.shared n s o in IsMade (record { awake = changed (rules K limit) w.awake e.changes ++ map Some e.started; shared = e.shared }))
  made_asks w n s up made None a = record { up = append_up _ w.awake [] made.up (λ m t e. cc); down = made.down; within = made.within }
  made_asks w n s up made (Some q) a =
      let p = meant w.shared.shared n q in
      let d = act w.shared.shared n s.clock p p in
      let g = gives_act w.shared.shared n s.clock p made.within (meant_names w n s q up made a) in
      let down' : AllDown (length d.shared.channels) w.shared.beds = λ m t e. higher (length w.shared.shared.channels) (length d.shared.channels) (holds t.state) g.more (made.down m t e) in
      let own : Below (length d.shared.channels) (holds s.state) = higher (length w.shared.shared.channels) (length d.shared.channels) (holds s.state) g.more (made.up n s up) in
      record {
        up = append_up (length d.shared.channels) _ _
            (changed_up (length d.shared.channels) w.shared.beds (s.clock + 1) d.woken (slice_set w.awake n (actor_after K limit (s.clock + 1) s d.fate)) down' g.woken
            (set_up (length d.shared.channels) w.awake n (actor_after K limit (s.clock + 1) s d.fate) (λ m t e. higher (length w.shared.shared.channels) (length d.shared.channels) (holds t.state) g.more (made.up m t e)) (actor_up (length d.shared.channels) (s.clock + 1) s d.fate own g.fate)))
            (begun_up (length d.shared.channels) (s.clock + 1) d.started g.started);
        down = beds_down (length d.shared.channels) w.shared.beds n s d.fate down' own;
        within = g.within;
      }

  made_on : (w : Place) (n : ℕ) (s : Clocked K.State) → get_or w.awake n None ≡ Some s → IsMade w → (o : Option (Clocked K.State)) → local K limit s ≡ o → IsMade (move_on (rules K limit) w n s o)
  made_on w n s up made (Some t) l = record {
    up = set_up (length w.shared.shared.channels) w.awake n (Some t) made.up (λ u e k z. made.up n s up k (honest.steps s.state t.state k (local_is K limit s t l).0 (subst (λ (y : Clocked K.State). holds y.state k) (sym (same_Some t u e)) z)));
    down = made.down;
    within = made.within;
  }
  made_on w n s up made None l = go ((rules K limit).asks s)
    where
      go : (b : Bool) → IsMade (cond b (perform_in (rules K limit) w n s) w)
      go true = made_asks w n s up made (asks K limit s) refl
      go false = made

  made_at : (w : Place) (n : ℕ) → IsMade w → (o : Option (Clocked K.State)) → get_or w.awake n None ≡ o → IsMade (move_at (rules K limit) w n o)
  made_at w n made None e = made
  made_at w n made (Some s) e = made_on w n s e made (local K limit s) refl

  made_next : (w : Place) → IsMade w → (o : Option Key) → IsMade (move_next (rules K limit) w o)
  made_next w made None = made
  made_next w made (Some k) = made_at w k.number made (get_or w.awake k.number None) refl

  made_one : (w : Place) → IsMade w → IsMade (one (rules K limit) w)
  made_one w made = go (is_some w.shared.shared.ending)
    where
      go : (b : Bool) → IsMade (cond b w (move_next (rules K limit) w (next (rules K limit) w.awake)))
      go true = made
      go false = made_next w made (next (rules K limit) w.awake)

  made_run : (m : ℕ) (w : Place) → IsMade w → IsMade (run (rules K limit) m w)
  made_run zero w made = made
  made_run (suc m) w made = made_run m (one (rules K limit) w) (made_one w made)

  made_opening : IsMade (opening K)
  made_opening = record { up = ups; down = λ m s e. cc; within = record { items = no_items; zeros = no_zeros; asleep = λ x i. elim i [ ] } }
    where
      ups : AllUp 1 (None ∷ Some (at 0 (K.begin K.main [])) ∷ [])
      ups zero s e k z = cc
      ups (suc zero) s e k z = elim (honest.begins K.main [] k (subst (λ (y : Clocked K.State). holds y.state k) (sym (same_Some (at 0 (K.begin K.main [])) s e)) z)) [ ]
      ups (suc (suc m)) s e k z = cc

      no_items : (c : ℕ) → Below 1 (λ k. InItems k (channel_of (no_channel ∷ []) c).items)
      no_items zero k z = elim z [ ]
      no_items (suc c) k z = elim z [ ]

      no_zeros : (c : ℕ) → Below 1 (λ k. InWords k (channel_of (no_channel ∷ []) c).zero)
      no_zeros zero k z = elim z [ ]
      no_zeros (suc c) k z = elim z [ ]

  pub names_made : NamesMade K limit
  names_made n x i =
      let m = made_run n (opening K) made_opening in
      all_made (length (moment K limit n).shared.shared.channels) (offers x.request) (λ o j. m.within.asleep x (lies x (moment K limit n).shared.shared.asleep i) o.chan (offer_chan x.request o j))
    where
      lies : (y : Sleeper) (ss : List Sleeper) → In y ss → In y ss
      lies y ss h = h
