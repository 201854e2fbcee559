-- Whoever is asleep waits, and no two who are asleep could meet: each request keeps that.
use Rattle.logical_clock.specs.declared.limits.TheConstants.{MAX_GOROUTINES}
use Rattle.std.proofs.Common.{◌≡◌, ℕ, zero, suc, ◌+◌, ◌-◌, ◌<◌, ◌≤◌, ◌≢◌, ℤ, pos, negsuc, Bool, true, false, ◌&&◌, ◌||◌, not, cond, List, [], ◌∷◌, ◌++◌, map, length, Option, Some, None, refl, sym, ap, ◌∙◌, subst, arith, inl, inr, get_or-set_same, get_or-set_other, length-append}
use Rattle.std.specs.Prelude.{◌==◌, nat_lt, slice_index_or, slice_set, unwrap_or}
use Rattle.std.specs.Option.{is_some}
use Rattle.std.proofs.lemmas.Bool.{and_from, and_parts, or_from, or_parts, eqb-true, eq-eqb, not_from_false, true≢false, cases_eq, cases_lt, ltb-true, le-ltb, ltb-false}
use Rattle.std.proofs.lemmas.Option.{same_Some}
use Rattle.std.proofs.lemmas.List.{get_or_append_left, get_or-append_right, set_past}
use Rattle.word.specs.declared.value.Word.TheVariants.{Chan}
use Rattle.word.specs.declared.panic.Panic.TheVariants.{SendOnClosed, CloseOfClosed}
use Rattle.word.specs.declared.request.Case.{Case}
use Rattle.word.specs.declared.end.End.{End as Ending}
use Rattle.word.specs.Values.{Item, Request, Make, Go, Send, Receive, Close, Select, Len, Cap, Print, End, Exit, Panic, Exhausted, Reply, Nothing, Value, Default, EventOutcome, Sleeper, Offer, Channel, Shared}
use Rattle.word.specs.declared.limits.TheConstants.{MAX_CAPACITY, MAX_CHANNELS}
use Rattle.word.specs.Requests.{Deed, no_channel, channel_of, with_offer, clause_offers, offers, first_offer, first_on, also, or_else, partner, partners, without, without_all, sent, got, done, sleeps, ends, panics, with_channel, send_to, do_send, receive_from, do_receive, send_ready, receive_ready, is_ready as is_ready_in, ready_clauses, choose, do_clause, do_select, do_make, do_close, close_reply, act}
use Rattle.word.proofs.Found.{In}
use Rattle.word.proofs.Fair.{IsApart, in_without, in_without_all, in_back, without_gone}
use Rattle.word.proofs.Chosen.{chosen, none_ready}
use Rattle.allowed.specs.Orders.{IsOneOf, has_space, is_ready, NoneReady, Waits, AreMade, UsesMade}

-- ---- offers

sends_from : (b t : Bool) → t ≡ b → cond b t (not t) ≡ true
sends_from true t e = e
sends_from false t e = not_from_false t e

sends_is : (b t : Bool) → cond b t (not t) ≡ true → t ≡ b
sends_is true t h = h
sends_is false true h = sym h
sends_is false false h = refl

pub first_is : (k : ℕ) (b : Bool) (os : List Offer) (o : Offer) → first_offer k b os ≡ Some o → IsOneOf o os × (o.chan ≡ k) × (is_some o.item ≡ b)
first_is k b [] o h = cc
first_is k b (p ∷ ps) o h = go ((p.chan == k) && cond b (is_some p.item) (not (is_some p.item))) refl (first_is k b ps o) h
  where
    go : (t : Bool) → ((p.chan == k) && cond b (is_some p.item) (not (is_some p.item))) ≡ t → (first_offer k b ps ≡ Some o → IsOneOf o ps × (o.chan ≡ k) × (is_some o.item ≡ b)) → cond t (Some p) (first_offer k b ps) ≡ Some o
        → IsOneOf o (p ∷ ps) × (o.chan ≡ k) × (is_some o.item ≡ b)
    go true e rec h' =
        let s = same_Some p o h' in
        let a = and_parts (p.chan == k) (cond b (is_some p.item) (not (is_some p.item))) e in
        subst (λ (x : Offer). IsOneOf x (p ∷ ps) × (x.chan ≡ k) × (is_some x.item ≡ b)) s (inl refl, eqb-true p.chan k a.0, sends_is b (is_some p.item) a.1)
    go false e rec h' = let r = rec h' in (inr r.0, r.1, r.2)

-- a channel on which there is no such offer has none
pub absent : (k : ℕ) (b : Bool) (os : List Offer) (o : Offer) → IsOneOf o os → o.chan ≡ k → is_some o.item ≡ b → first_offer k b os ≡ None → ⊥
absent k b [] o i c e h = elim i [ ]
absent k b (p ∷ ps) o i c e h = go ((p.chan == k) && cond b (is_some p.item) (not (is_some p.item))) refl (λ i' h'. absent k b ps o i' c e h') i h
  where
    is_on : (p ≡ o) → ((p.chan == k) && cond b (is_some p.item) (not (is_some p.item))) ≡ true
    is_on s = subst (λ (x : Offer). ((x.chan == k) && cond b (is_some x.item) (not (is_some x.item))) ≡ true) (sym s) (and_from _ _ (eq-eqb o.chan k c) (sends_from b (is_some o.item) e))

    go : (t : Bool) → ((p.chan == k) && cond b (is_some p.item) (not (is_some p.item))) ≡ t → (IsOneOf o ps → first_offer k b ps ≡ None → ⊥) → IsOneOf o (p ∷ ps) → cond t (Some p) (first_offer k b ps) ≡ None → ⊥
    go true f rec i' h' = cc
    go false f rec (inl s) h' = true≢false (sym (is_on (sym s)) ∙ f)
    go false f rec (inr i') h' = rec i' h'

pub none_at : (cs : List Channel) (os : List Offer) (o : Offer) → IsOneOf o os → NoneReady cs os → is_ready cs o ≡ false
none_at cs [] o i h = elim i [ ]
none_at cs (p ∷ ps) o (inl e) h = subst (λ (x : Offer). is_ready cs x ≡ false) (sym e) h.0
none_at cs (p ∷ ps) o (inr i) h = none_at cs ps o i h.1

pub none_changed : (cs ds : List Channel) (os : List Offer) → ((o : Offer) → IsOneOf o os → is_ready cs o ≡ false → is_ready ds o ≡ false) → NoneReady cs os → NoneReady ds os
none_changed cs ds [] f h = tt
none_changed cs ds (o ∷ os) f h = (f o (inl refl) h.0, none_changed cs ds os (λ p i. f p (inr i)) h.1)

-- ---- channels

abbrev pub ready_in : Channel → Offer → Bool
ready_in ch o = ch.closed || cond (is_some o.item) (has_space ch) (nat_lt 0 (length ch.items))

-- what holds of the channel written, and held of the others, holds of each
pub written : (P : Channel → Type 0) (cs : List Channel) (k : ℕ) (ch : Channel) (j : ℕ) → P (channel_of cs j) → (j ≡ k → P ch) → P (channel_of (slice_set cs k ch) j)
written P cs k ch j old new = elim (cases_eq j k) [
  | inl e ↦ elim (cases_lt k (length cs)) [
    | inl l ↦ subst (λ i. P (channel_of (slice_set cs k ch) i)) (sym e) (subst P (sym (get_or-set_same cs k ch no_channel l)) (new e))
    | inr l ↦ subst (λ (ys : List Channel). P (channel_of ys j)) (sym (set_past cs k ch l)) old
  ]
  | inr ne ↦ subst P (sym (get_or-set_other cs k j ch no_channel ne)) old
]

pub none_written : (cs : List Channel) (k : ℕ) (ch : Channel) (os : List Offer) → ((o : Offer) → IsOneOf o os → o.chan ≡ k → is_ready cs o ≡ false → ready_in ch o ≡ false) → NoneReady cs os → NoneReady (slice_set cs k ch) os
none_written cs k ch os f h = none_changed cs (slice_set cs k ch) os (λ o i r. written (λ (x : Channel). ready_in x o ≡ false) cs k ch o.chan r (λ e. f o i e r)) h

pub made_at : (count : ℕ) (os : List Offer) (o : Offer) → IsOneOf o os → AreMade count os → o.chan < count
made_at count [] o i h = elim i [ ]
made_at count (p ∷ ps) o (inl e) h = subst (λ (x : Offer). x.chan < count) (sym e) h.0
made_at count (p ∷ ps) o (inr i) h = made_at count ps o i h.1

none_made : (cs : List Channel) (ch : Channel) (os : List Offer) → AreMade (length cs) os → NoneReady cs os → NoneReady (cs ++ ch ∷ []) os
none_made cs ch os m h = none_changed cs (cs ++ ch ∷ []) os (λ o i r. subst (λ (x : Channel). ready_in x o ≡ false) (sym (get_or_append_left cs (ch ∷ []) no_channel o.chan (made_at (length cs) os o i m))) r) h

-- ---- sleepers

pub partner_none : (k : ℕ) (b : Bool) (ss : List Sleeper) → partner k b ss ≡ None → (x : Sleeper) → In x ss → first_offer k b (offers x.request) ≡ None
partner_none k b [] h x i = elim i [ ]
partner_none k b (s ∷ ss) h x i = go (first_offer k b (offers s.request)) refl (partner_none k b ss) h i
  where
    go : (f : Option Offer) → first_offer k b (offers s.request) ≡ f → (partner k b ss ≡ None → (y : Sleeper) → In y ss → first_offer k b (offers y.request) ≡ None) → or_else s f (partner k b ss) ≡ None → In x (s ∷ ss)
        → first_offer k b (offers x.request) ≡ None
    go None e rec h' (inl same) = ap (λ (y : Sleeper). first_offer k b (offers y.request)) same ∙ e
    go None e rec h' (inr i') = rec h' x i'
    go (Some o) e rec h' i' = cc

-- nobody sleeps twice
abbrev pub Once : List Sleeper → Type 0
Once [] = Unit {0}
Once (s ∷ ss) = ((x : Sleeper) → In x ss → x.number ≢ s.number) × Once ss

once_without : (ss : List Sleeper) (n : ℕ) → Once ss → Once (without ss n)
once_without [] n h = tt
once_without (s ∷ ss) n h = go (s.number == n) (once_without ss n h.1)
  where
    go : (b : Bool) → Once (without ss n) → Once (cond b (without ss n) (s ∷ without ss n))
    go true rest = rest
    go false rest = (λ x i. h.0 x (in_without ss n x i).0, rest)

pub once_without_all : (ws : List (ℕ × Reply)) (ss : List Sleeper) → Once ss → Once (without_all ss ws)
once_without_all [] ss h = h
once_without_all (w ∷ ws) ss h = once_without_all ws (without ss w.0) (once_without ss w.0 h)

once_back : (ss : List Sleeper) (y : Sleeper) → ((x : Sleeper) → In x ss → x.number ≢ y.number) → Once ss → Once (ss ++ y ∷ [])
once_back [] y f h = (λ x i. elim i [ ], tt)
once_back (s ∷ ss) y f h = (λ x i. elim (in_back ss y x i) [ inl a ↦ h.0 x a | inr e ↦ (λ z. f s (inl refl) (sym z ∙ ap (λ (t : Sleeper). t.number) e)) ], once_back ss y (λ x i. f x (inr i)) h.1)

-- ---- the invariant

pub record Calm (ss : List Sleeper) (cs : List Channel) : Type 0 where
  pub waits : (x : Sleeper) → In x ss → Waits cs x.request
  pub fits : (k : ℕ) → length (channel_of cs k).items ≤ (channel_of cs k).capacity
  -- no two could meet
  pub lone : (x y : Sleeper) → In x ss → In y ss → x.number ≢ y.number → (k : ℕ) (o p : Offer) → first_offer k true (offers x.request) ≡ Some o → first_offer k false (offers y.request) ≡ Some p → ⊥
  pub once : Once ss

abbrev pub IsCalm : Shared → Type 0
IsCalm w = Calm w.asleep w.channels

-- an offer of no one asleep fits these
abbrev pub Unmet : List Sleeper → List Offer → Type 0
Unmet ss os = (o : Offer) → IsOneOf o os → partner o.chan (not (is_some o.item)) ss ≡ None

module _ (w : Shared) (n c : ℕ) (q : Request) (calm : IsCalm w) (made : UsesMade w) (up : (x : Sleeper) → In x w.asleep → x.number ≢ n) where
  abbrev its : ℕ → Channel
  its k = channel_of w.channels k

  -- fewer sleep
  fewer : (ss : List Sleeper) (cs : List Channel) → ((x : Sleeper) → In x ss → In x w.asleep) → Once ss → ((x : Sleeper) → In x ss → NoneReady cs (offers x.request)) → ((k : ℕ) → length (channel_of cs k).items ≤ (channel_of cs k).capacity) → Calm ss cs
  fewer ss cs sub once none fits = record {
    waits = λ x i. ((calm.waits x (sub x i)).0, none x i);
    fits = fits;
    lone = λ x y i j ne k o p. calm.lone x y (sub x i) (sub y j) ne k o p;
    once = once;
  }

  still : (x : Sleeper) → In x w.asleep → NoneReady w.channels (offers x.request)
  still x i = (calm.waits x i).1

  calm_ends : (o : EventOutcome) (e : Ending) → IsCalm (ends w n c q o e).shared
  calm_ends o e = calm

  calm_done : (reply : Reply) (ws : List (ℕ × Reply)) → IsCalm (done w n c q w reply ws).shared
  calm_done reply ws = fewer (without_all w.asleep ws) w.channels (in_without_all w.asleep ws) (once_without_all ws w.asleep calm.once) (λ x i. still x (in_without_all w.asleep ws x i)) calm.fits

  -- a channel is written
  calm_written : (k : ℕ) (ch : Channel) (reply : Reply) (ws : List (ℕ × Reply)) → ((x : Sleeper) → In x (without_all w.asleep ws) → (o : Offer) → IsOneOf o (offers x.request) → o.chan ≡ k → is_ready w.channels o ≡ false → ready_in ch o ≡ false) → length ch.items ≤ ch.capacity
      → IsCalm (done w n c q (with_channel w n c q k ch) reply ws).shared
  calm_written k ch reply ws f fit =
      fewer (without_all w.asleep ws) (slice_set w.channels k ch) (in_without_all w.asleep ws) (once_without_all ws w.asleep calm.once)
      (λ x i. none_written w.channels k ch (offers x.request) (f x i) (still x (in_without_all w.asleep ws x i)))
      (λ j. written (λ (x : Channel). length x.items ≤ x.capacity) w.channels k ch j (calm.fits j) (λ e. fit))

  calm_sleeps : Waits w.channels q → Unmet w.asleep (offers q) → IsCalm (sleeps w n c q).shared
  calm_sleeps wait unmet =
      let z : Sleeper = record { number = n; request = q } in
      record {
        waits = λ x i. elim (in_back (without w.asleep n) z x i) [ inl a ↦ calm.waits x (in_without w.asleep n x a).0 | inr e ↦ subst (λ (y : Sleeper). Waits w.channels y.request) (sym e) wait ];
        fits = calm.fits;
        lone = λ x y i j ne k o p f g. elim (in_back (without w.asleep n) z x i) [
          | inl a ↦ elim (in_back (without w.asleep n) z y j) [
            | inl b ↦ calm.lone x y (in_without w.asleep n x a).0 (in_without w.asleep n y b).0 ne k o p f g
            | inr e ↦
                let r = first_is k false (offers q) p (ap (λ (t : Sleeper). first_offer k false (offers t.request)) (sym e) ∙ g) in
                let u : partner k true w.asleep ≡ None = subst (λ m. partner m true w.asleep ≡ None) r.1 (subst (λ b. partner p.chan (not b) w.asleep ≡ None) r.2 (unmet p r.0)) in
                let v = partner_none k true w.asleep u x (in_without w.asleep n x a).0 in
                let bad : None ≡ Some o = sym v ∙ f in
                absurd cc
          ]
          | inr e ↦ elim (in_back (without w.asleep n) z y j) [
            | inl b ↦
                let r = first_is k true (offers q) o (ap (λ (t : Sleeper). first_offer k true (offers t.request)) (sym e) ∙ f) in
                let u : partner k false w.asleep ≡ None = subst (λ m. partner m false w.asleep ≡ None) r.1 (subst (λ b. partner o.chan (not b) w.asleep ≡ None) r.2 (unmet o r.0)) in
                let v = partner_none k false w.asleep u y (in_without w.asleep n y b).0 in
                let bad : None ≡ Some p = sym v ∙ g in
                absurd cc
            | inr d ↦ absurd (ne (ap (λ (t : Sleeper). t.number) e ∙ ap (λ (t : Sleeper). t.number) (sym d)))
          ]
        ];
        once = once_back (without w.asleep n) z (λ x i. (in_without w.asleep n x i).1) (once_without w.asleep n calm.once);
      }

  -- ---- a send

  room_left : (ch : Channel) (item : Item) → has_space ch ≡ true → length (ch.items ++ item ∷ []) ≤ ch.capacity
  room_left ch item h = let l = ltb-true (length ch.items) ch.capacity h in omega (arith, l, length-append ch.items (item ∷ []))

  -- nobody waits for an item of channel k; so one that comes into its buffer makes nobody ready
  put_quiet : (k : ℕ) (item : Item) → partner k false w.asleep ≡ None → (x : Sleeper) → In x w.asleep → (o : Offer) → IsOneOf o (offers x.request) → o.chan ≡ k → is_ready w.channels o ≡ false → ready_in (record (its k) { items = (its k).items ++ item ∷ [] }) o ≡ false
  put_quiet k item none x i o j e h = go o.item refl
    where
      here : ready_in (its k) o ≡ false
      here = subst (λ m. ready_in (its m) o ≡ false) e h

      go : (y : Option Item) → o.item ≡ y → ready_in (record (its k) { items = (its k).items ++ item ∷ [] }) o ≡ false
      go None f = absurd (absent k false (offers x.request) o j e (ap is_some f) (partner_none k false w.asleep none x i))
      go (Some y) f =
          let p = or_parts _ _ (subst (λ (t : Option Item). ((its k).closed || cond (is_some t) (has_space (its k)) (nat_lt 0 (length (its k).items))) ≡ false) f here) in
          let full = ltb-false (length (its k).items) (its k).capacity p.1 in
          subst (λ (t : Option Item). ((its k).closed || cond (is_some t) (nat_lt (length ((its k).items ++ item ∷ [])) (its k).capacity) (nat_lt 0 (length ((its k).items ++ item ∷ [])))) ≡ false) (sym f)
          (or_from (its k).closed (nat_lt (length ((its k).items ++ item ∷ [])) (its k).capacity) p.0 (le-ltb (length ((its k).items ++ item ∷ [])) (its k).capacity (omega (arith, full, length-append (its k).items (item ∷ [])))))

  or_false : (b : Bool) → (b || false) ≡ b
  or_false true = refl
  or_false false = refl

  pub space : (k : ℕ) → send_ready w n c q k ≡ true → (its k).closed ≡ false → partner k false w.asleep ≡ None → has_space (its k) ≡ true
  space k ready e f = sym (or_false (has_space (its k))) ∙ sym (ap (λ (o : Option (Sleeper × Offer)). has_space (its k) || is_some o) f) ∙ sym (ap (λ b. b || (has_space (its k) || is_some (partner k false w.asleep))) e) ∙ ready

  calm_send : (k : ℕ) (item : Item) (i : ℕ) → send_ready w n c q k ≡ true → IsCalm (do_send w n c q k item i).shared
  calm_send k item i ready = go (its k).closed refl (partner k false w.asleep) refl
    where
      go : (b : Bool) → (its k).closed ≡ b → (o : Option (Sleeper × Offer)) → partner k false w.asleep ≡ o → IsCalm (cond b (panics w n c q SendOnClosed i) (send_to w n c q k (its k) item i o)).shared
      go true e o f = calm
      go false e None f = calm_written k (record (its k) { items = (its k).items ++ item ∷ [] }) (sent i) [] (put_quiet k item f) (room_left (its k) item (space k ready e f))
      go false e (Some p) f = calm_done (sent i) ((p.0.number, got p.1.case item true) ∷ [])

  -- ---- a receive

  -- an item goes out, and nobody waits to send one
  take_quiet : (k : ℕ) (x : Item) (xs : List Item) → (its k).items ≡ x ∷ xs → partner k true w.asleep ≡ None → (s : Sleeper) → In s w.asleep → (o : Offer) → IsOneOf o (offers s.request) → o.chan ≡ k → is_ready w.channels o ≡ false → ready_in (record (its k) { items = xs }) o ≡ false
  take_quiet k x xs items none s i o j e h = go o.item refl
    where
      here : ready_in (its k) o ≡ false
      here = subst (λ m. ready_in (its m) o ≡ false) e h

      go : (y : Option Item) → o.item ≡ y → ready_in (record (its k) { items = xs }) o ≡ false
      go (Some y) f = absurd (absent k true (offers s.request) o j e (ap is_some f) (partner_none k true w.asleep none s i))
      go None f =
          let p = or_parts _ _ (subst (λ (t : Option Item). ((its k).closed || cond (is_some t) (has_space (its k)) (nat_lt 0 (length (its k).items))) ≡ false) f here) in
          let none_there = ltb-false 0 (length (its k).items) p.1 in
          absurd (omega (arith, none_there, ap length items))

  -- one goes out and one comes in
  turn_quiet : (k : ℕ) (x y : Item) (xs : List Item) → (its k).items ≡ x ∷ xs → (s : Sleeper) → (o : Offer) → IsOneOf o (offers s.request) → o.chan ≡ k → is_ready w.channels o ≡ false → ready_in (record (its k) { items = xs ++ y ∷ [] }) o ≡ false
  turn_quiet k x y xs items s o j e h =
      let here : ready_in (its k) o ≡ false = subst (λ m. ready_in (its m) o ≡ false) e h in
      let same : length (xs ++ y ∷ []) ≡ length (its k).items = omega (arith, length-append xs (y ∷ []), ap length items) in
      ap (λ m. (its k).closed || cond (is_some o.item) (nat_lt m (its k).capacity) (nat_lt 0 m)) same ∙ here

  calm_receive : (k i : ℕ) → IsCalm (do_receive w n c q k i).shared
  calm_receive k i = go (its k).items refl (partner k true w.asleep) refl
    where
      go : (items : List Item) → (its k).items ≡ items → (o : Option (Sleeper × Offer)) → partner k true w.asleep ≡ o → IsCalm (receive_from w n c q k (its k) i items o).shared
      go (x ∷ xs) e None f = calm_written k (record (its k) { items = xs }) (got i x true) [] (take_quiet k x xs e f) (omega (arith, calm.fits k, ap length e))
      go (x ∷ xs) e (Some p) f = calm_written k (record (its k) { items = xs ++ unwrap_or p.1.item [] ∷ [] }) (got i x true) ((p.0.number, sent p.1.case) ∷ []) (λ s j. turn_quiet k x (unwrap_or p.1.item []) xs e s) (omega (arith, calm.fits k, ap length e, length-append xs (unwrap_or p.1.item [] ∷ [])))
      go [] e (Some p) f = calm_done (got i (unwrap_or p.1.item []) true) ((p.0.number, sent p.1.case) ∷ [])
      go [] e None f = calm_done (got i (its k).zero false) []

  -- ---- waiting

  or_none : {A : Type 0} (o : Option A) → is_some o ≡ false → o ≡ None
  or_none None h = refl
  or_none (Some x) h = cc

  -- an offer that isn't ready
  unready : (k i : ℕ) (item : Option Item) → is_ready_in w n c q (Some k) item ≡ false → (ready_in (its k) (record { case = i; chan = k; item = item }) ≡ false) × (partner k (not (is_some item)) w.asleep ≡ None)
  unready k i None h =
      let a = or_parts _ _ h in
      let b = or_parts _ _ a.1 in
      (or_from _ _ a.0 b.0, or_none (partner k true w.asleep) b.1)
  unready k i (Some x) h =
      let a = or_parts _ _ h in
      let b = or_parts _ _ a.1 in
      (or_from _ _ a.0 b.0, or_none (partner k false w.asleep) b.1)

  abbrev pub Idle : List Offer → Type 0
  Idle os = NoneReady w.channels os × Unmet w.asleep os

  idle_nil : Idle []
  idle_nil = (tt, λ o i. elim i [ ])

  idle_more : (k i : ℕ) (item : Option Item) (os : List Offer) → is_ready_in w n c q (Some k) item ≡ false → Idle os → Idle (record { case = i; chan = k; item = item } ∷ os)
  idle_more k i item os h idle =
      let u = unready k i item h in
      ((u.0, idle.0), λ o j. elim j [ inl e ↦ subst (λ (p : Offer). partner p.chan (not (is_some p.item)) w.asleep ≡ None) (sym e) u.1 | inr j' ↦ idle.1 o j' ])

  idle_clauses : (i : ℕ) (cases : List Case) → ready_clauses w n c q i cases ≡ [] → Idle (clause_offers i cases)
  idle_clauses i [] h = idle_nil
  idle_clauses i (x ∷ xs) h = go (is_ready_in w n c q x.chan x.item) refl (idle_clauses (suc i) xs) h
    where
      one : (chan : Option ℕ) → is_ready_in w n c q chan x.item ≡ false → Idle (clause_offers (suc i) xs) → Idle (with_offer i chan x.item (clause_offers (suc i) xs))
      one None e idle = idle
      one (Some k) e idle = idle_more k i x.item (clause_offers (suc i) xs) e idle

      go : (b : Bool) → is_ready_in w n c q x.chan x.item ≡ b → (ready_clauses w n c q (suc i) xs ≡ [] → Idle (clause_offers (suc i) xs)) → cond b ((i, x) ∷ ready_clauses w n c q (suc i) xs) (ready_clauses w n c q (suc i) xs) ≡ []
          → Idle (with_offer i x.chan x.item (clause_offers (suc i) xs))
      go true e rec h' = cc
      go false e rec h' = one x.chan e (rec h')

  pub idle_send : (k : ℕ) (item : Item) → send_ready w n c q k ≡ false → Idle (offers (Send (Some k) item))
  idle_send k item h = idle_more k 0 (Some item) [] h idle_nil

  pub idle_receive : (k : ℕ) → receive_ready w n c q k ≡ false → Idle (offers (Receive (Some k)))
  idle_receive k h = idle_more k 0 None [] h idle_nil

  pub idle_select : (cases : List Case) (default : Bool) → choose w n c q cases ≡ None → Idle (offers (Select cases default))
  idle_select cases default h = idle_clauses 1 cases (none_ready w n c q cases h)

  -- ---- a close

  none_on : (k : ℕ) (os : List Offer) → first_on k os ≡ None → (o : Offer) → IsOneOf o os → o.chan ≡ k → ⊥
  none_on k [] h o i e = elim i [ ]
  none_on k (p ∷ ps) h o i e = go (p.chan == k) refl (λ h' i'. none_on k ps h' o i' e) h i
    where
      go : (b : Bool) → (p.chan == k) ≡ b → (first_on k ps ≡ None → IsOneOf o ps → ⊥) → cond b (Some p) (first_on k ps) ≡ None → IsOneOf o (p ∷ ps) → ⊥
      go true f rec h' i' = cc
      go false f rec h' (inl s) = true≢false (sym (eq-eqb p.chan k (ap (λ (x : Offer). x.chan) (sym s) ∙ e)) ∙ f)
      go false f rec h' (inr i') = rec h' i'

  abbrev pub woken_at : ℕ → Item → List Sleeper → List (ℕ × Reply)
  woken_at k z ss = map (λ (p : Sleeper × Offer). (p.0.number, close_reply z p.1)) (partners k ss)

  -- who sleeps on has no offer there
  stays_off : (k : ℕ) (z : Item) (ss : List Sleeper) (x : Sleeper) → In x ss → IsApart x.number (woken_at k z ss) → first_on k (offers x.request) ≡ None
  stays_off k z [] x i a = elim i [ ]
  stays_off k z (s ∷ ss) x i a = go (first_on k (offers s.request)) refl (stays_off k z ss x) i a
    where
      go : (f : Option Offer) → first_on k (offers s.request) ≡ f → (In x ss → IsApart x.number (woken_at k z ss) → first_on k (offers x.request) ≡ None) → In x (s ∷ ss)
          → IsApart x.number (map (λ (p : Sleeper × Offer). (p.0.number, close_reply z p.1)) (also s f (partners k ss))) → first_on k (offers x.request) ≡ None
      go None e rec (inl same) a' = ap (λ (y : Sleeper). first_on k (offers y.request)) same ∙ e
      go None e rec (inr i') a' = rec i' a'
      go (Some f) e rec (inl same) a' = absurd (a'.0 (ap (λ (y : Sleeper). y.number) same))
      go (Some f) e rec (inr i') a' = rec i' a'.1

  calm_close : (k : ℕ) → IsCalm (do_close w n c q k).shared
  calm_close k = go (its k).closed
    where
      go : (b : Bool) → IsCalm (cond b (panics w n c q CloseOfClosed 0) (done w n c q (with_channel w n c q k (record (its k) { closed = true })) Nothing (woken_at k (its k).zero w.asleep))).shared
      go true = calm
      go false =
          let ws = woken_at k (its k).zero w.asleep in
          calm_written k (record (its k) { closed = true }) Nothing ws
          (λ x i o j e r. absurd (none_on k (offers x.request) (stays_off k (its k).zero w.asleep x (in_without_all w.asleep ws x i) (without_gone ws w.asleep x i)) o j e))
          (calm.fits k)

  -- ---- a make

  new_fits : (ch : Channel) → length ch.items ≤ ch.capacity → (j : ℕ) → length (channel_of (w.channels ++ ch ∷ []) j).items ≤ (channel_of (w.channels ++ ch ∷ []) j).capacity
  new_fits ch fit j = elim (cases_lt j (length w.channels)) [
    | inl l ↦ subst (λ (x : Channel). length x.items ≤ x.capacity) (sym (get_or_append_left w.channels (ch ∷ []) no_channel j l)) (calm.fits j)
    | inr l ↦ subst (λ (x : Channel). length x.items ≤ x.capacity) (sym (get_or-append_right w.channels (ch ∷ []) (length w.channels) j no_channel refl l)) (one (j - length w.channels))
  ]
    where
      one : (i : ℕ) → length (slice_index_or (ch ∷ []) i no_channel).items ≤ (slice_index_or (ch ∷ []) i no_channel).capacity
      one zero = fit
      one (suc i) = omega arith

  calm_new : (ch : Channel) (reply : Reply) → length ch.items ≤ ch.capacity → IsCalm (done w n c q (record w { channels = w.channels ++ ch ∷ [] }) reply []).shared
  calm_new ch reply fit = fewer w.asleep (w.channels ++ ch ∷ []) (λ x i. i) calm.once (λ x i. none_made w.channels ch (offers x.request) (made x i) (still x i)) (new_fits ch fit)

  calm_cond : (b : Bool) (d e : Deed) → IsCalm d.shared → IsCalm e.shared → IsCalm (cond b d e).shared
  calm_cond true d e f g = f
  calm_cond false d e f g = g

  calm_make : (size : ℤ) (z : Item) → IsCalm (do_make w n c q size z).shared
  calm_make (negsuc m) z = calm
  calm_make (pos size) z =
      calm_cond (nat_lt MAX_CAPACITY size) _ _ calm
      (calm_cond (length w.channels == MAX_CHANNELS + 1) _ _ calm
      (calm_new (record { capacity = size; items = []; closed = false; zero = z }) (Value (Chan (Some (length w.channels)))) (omega arith)))

  -- ---- a select

  calm_clause : (i : ℕ) (chan : Option ℕ) (item : Option Item) → is_ready_in w n c q chan item ≡ true → IsCalm (do_clause w n c q i chan item).shared
  calm_clause i None item h = cc
  calm_clause i (Some k) None h = calm_receive k i
  calm_clause i (Some k) (Some item) h = calm_send k item i h

-- each request keeps it
pub calm_act : (w : Shared) (n c : ℕ) (q : Request) → IsCalm w → UsesMade w → ((x : Sleeper) → In x w.asleep → x.number ≢ n) → IsCalm (act w n c q q).shared
calm_act w n c (Make size z) h m u = calm_make w n c (Make size z) h m u size z
calm_act w n c (Go f args) h m u = calm_cond w n c (Go f args) h m u (w.live == MAX_GOROUTINES) _ _ h h
calm_act w n c (Send None item) h m u = calm_sleeps w n c (Send None item) h m u (tt, tt) (λ o i. elim i [ ])
calm_act w n c (Send (Some k) item) h m u = go (send_ready w n c (Send (Some k) item) k) refl
  where
    go : (b : Bool) → send_ready w n c (Send (Some k) item) k ≡ b → IsCalm (cond b (do_send w n c (Send (Some k) item) k item 0) (sleeps w n c (Send (Some k) item))).shared
    go true e = calm_send w n c (Send (Some k) item) h m u k item 0 e
    go false e = let i = idle_send w n c (Send (Some k) item) h m u k item e in calm_sleeps w n c (Send (Some k) item) h m u (tt, i.0) i.1
calm_act w n c (Receive None) h m u = calm_sleeps w n c (Receive None) h m u (tt, tt) (λ o i. elim i [ ])
calm_act w n c (Receive (Some k)) h m u = go (receive_ready w n c (Receive (Some k)) k) refl
  where
    go : (b : Bool) → receive_ready w n c (Receive (Some k)) k ≡ b → IsCalm (cond b (do_receive w n c (Receive (Some k)) k 0) (sleeps w n c (Receive (Some k)))).shared
    go true e = calm_receive w n c (Receive (Some k)) h m u k 0
    go false e = let i = idle_receive w n c (Receive (Some k)) h m u k e in calm_sleeps w n c (Receive (Some k)) h m u (tt, i.0) i.1
calm_act w n c (Close None) h m u = h
calm_act w n c (Close (Some k)) h m u = calm_close w n c (Close (Some k)) h m u k
calm_act w n c (Select cases true) h m u = go (choose w n c (Select cases true) cases) refl
  where
    go : (o : Option (ℕ × Case)) → choose w n c (Select cases true) cases ≡ o → IsCalm (do_select w n c (Select cases true) true o).shared
    go (Some x) e = calm_clause w n c (Select cases true) h m u x.0 x.1.chan x.1.item (chosen w n c (Select cases true) cases x e).ready
    go None e = calm_done w n c (Select cases true) h m u Default []
calm_act w n c (Select cases false) h m u = go (choose w n c (Select cases false) cases) refl
  where
    go : (o : Option (ℕ × Case)) → choose w n c (Select cases false) cases ≡ o → IsCalm (do_select w n c (Select cases false) false o).shared
    go (Some x) e = calm_clause w n c (Select cases false) h m u x.0 x.1.chan x.1.item (chosen w n c (Select cases false) cases x e).ready
    go None e = let i = idle_select w n c (Select cases false) h m u cases false e in calm_sleeps w n c (Select cases false) h m u (tt, i.0) i.1
calm_act w n c (Len None) h m u = h
calm_act w n c (Len (Some k)) h m u = h
calm_act w n c (Cap None) h m u = h
calm_act w n c (Cap (Some k)) h m u = h
calm_act w n c (Print bytes) h m u = h
calm_act w n c End h m u = h
calm_act w n c Exit h m u = h
calm_act w n c (Panic p) h m u = h
calm_act w n c Exhausted h m u = h
