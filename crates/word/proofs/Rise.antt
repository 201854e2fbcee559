-- One sender's items have rising event numbers.
use Rattle.logical_clock.specs.declared.limits.TheConstants.{MAX_GOROUTINES}
use Rattle.std.proofs.Common.{◌≡◌, ℕ, zero, suc, ◌+◌, ◌<◌, ◌≤◌, ◌≢◌, ℤ, pos, negsuc, Bool, true, false, ◌&&◌, cond, List, [], ◌∷◌, ◌++◌, map, length, Option, Some, None, refl, sym, ap, ◌∙◌, subst, inl, inr, ◌⊎◌, arith, append_assoc, append-nil, length-append, get_or}
use Rattle.std.specs.Prelude.{◌==◌, nat_lt}
use Rattle.std.proofs.lemmas.Bool.{eq-eqb, ne_eqb}
use Rattle.word.specs.Values.{Cause, Item, Case, Request, Make, Go, Send, Receive, Close, Select, Len, Cap, Print, End, Exit, Panic, Exhausted, Reply, Nothing, EventOutcome, Done, Sleeps, Panics, Event, Sleeper, Offer, Channel, Shared, ChannelSize, CloseOfClosed, CloseOfNil, SendOnClosed, TooManyChannels, TooManyGoroutines}
use Rattle.word.specs.Requests.{Fate, GoesOn, Dozes, Leaves, Stays, Deed, channel_of, offers, first_offer, partner, done, sleeps, panics, send_to, do_send, receive_from, send_ready, receive_ready, choose, do_clause, do_select, do_make, act, meant}
use Rattle.word.specs.Flow.{Deal, Gives, Takes, NoDeal, deal, is_sleeps, item_of}
use Rattle.word.specs.Rising.{Entry, later, falls_in, fell, offered_by, entered, entries_after, entries, IsIn, Rises, IsRising}
use Rattle.logical_clock.specs.declared.key.Key.{Key}
use Rattle.turn_rule.specs.Turns.{World, next, move_on, move_at, move_next, perform as perform_in, one, run}
use Rattle.word.specs.Kinds.{GoroutineKind, Clocked, asks}
use Rattle.word.specs.Worlds.{Rest, rules, performs, opening, moment}
use Rattle.word.proofs.Apart.{Apart, not_asleep, one_by as one_apart}
use Rattle.word.proofs.Found.{In}
use Rattle.word.proofs.Fair.{IsApart, AllWake, Lies, Fair, fair}

later_none : (o : Option (ℕ × Request)) → later o None ≡ o
later_none None = refl
later_none (Some q) = refl

later_assoc : (a b c : Option (ℕ × Request)) → later (later a b) c ≡ later a (later b c)
later_assoc None b c = refl
later_assoc (Some q) b c = refl

fell_snoc : (p i : ℕ) (es : List Event) (e : Event) → fell p i (es ++ e ∷ []) ≡ later (falls_in p (suc (i + length es)) e) (fell p i es)
fell_snoc p i [] e = let z : i + 0 ≡ i = omega arith in sym (later_none (falls_in p (suc (i + 0)) e) ∙ ap (λ m. falls_in p (suc m) e) z)
fell_snoc p i (x ∷ es) e =
    let z : suc i + length es ≡ i + suc (length es) = omega arith in
    ap (λ o. later o (falls_in p (suc i) x)) (fell_snoc p (suc i) es e) ∙ later_assoc (falls_in p (suc (suc i + length es)) e) (fell p (suc i) es) (falls_in p (suc i) x) ∙ ap (λ m. later (falls_in p (suc m) e) (later (fell p (suc i) es) (falls_in p (suc i) x))) z

entries_snoc : (c : ℕ) (before es : List Event) (e : Event) → entries_after c before (es ++ e ∷ []) ≡ entries_after c before es ++ entered c (before ++ es) (deal e) e.number e.partners
entries_snoc c before [] e = append-nil (entered c before (deal e) e.number e.partners) ∙ ap (λ b. entered c b (deal e) e.number e.partners) (sym (append-nil before))
entries_snoc c before (x ∷ es) e =
    ap (λ l. entered c before (deal x) x.number x.partners ++ l) (entries_snoc c (before ++ x ∷ []) es e)
    ∙ sym (append_assoc (entered c before (deal x) x.number x.partners) (entries_after c (before ++ x ∷ []) es) (entered c ((before ++ x ∷ []) ++ es) (deal e) e.number e.partners))
    ∙ ap (λ b. (entered c before (deal x) x.number x.partners ++ entries_after c (before ++ x ∷ []) es) ++ entered c b (deal e) e.number e.partners) (append_assoc before (x ∷ []) es)

is_in_append : (as' bs : List Entry) (a : Entry) → IsIn a (as' ++ bs) → IsIn a as' ⊎ IsIn a bs
is_in_append [] bs a h = inr h
is_in_append (x ∷ xs) bs a (inl e) = inl (inl e)
is_in_append (x ∷ xs) bs a (inr h) = elim (is_in_append xs bs a h) [ inl i ↦ inl (inr i) | inr i ↦ inr i ]

rises_append : (es : List Entry) (fs : List Entry) → Rises es → Rises fs → ((a b : Entry) → IsIn a es → IsIn b fs → b.sender ≡ a.sender → a.event < b.event) → Rises (es ++ fs)
rises_append [] fs r s h = s
rises_append (a ∷ es) fs r s h = ((λ b i e. elim (is_in_append es fs b i) [ inl j ↦ r.0 b j e | inr j ↦ h a b (inl refl) j e ]), rises_append es fs r.1 s (λ x y i j e. h x y (inr i) j e))

-- what the event of a deed says
pub record Logs (w : Shared) (n c : ℕ) (q : Request) (d : Deed) : Type 0 where
  pub o : EventOutcome
  pub who : List ℕ
  pub events : d.shared.events ≡ w.events ++ record { clock = c; number = n; request = q; outcome = o; partners = who } ∷ []
  pub dozes : d.fate ≡ Dozes → is_sleeps o ≡ true
  pub woken : (who ≡ map (λ (x : ℕ × Reply). x.0) d.woken) ⊎ (deal (record { clock = c; number = n; request = q; outcome = o; partners = who }) ≡ NoDeal)

module _ (w : Shared) (n c : ℕ) (q : Request) where
  log_cond : (b : Bool) (d e : Deed) → Logs w n c q d → Logs w n c q e → Logs w n c q (cond b d e)
  log_cond true d e f g = f
  log_cond false d e f g = g

  log_done : (v : Shared) → v.events ≡ w.events → (reply : Reply) (ws : List (ℕ × Reply)) → Logs w n c q (done w n c q v reply ws)
  log_done v e reply ws = record { o = Done reply; who = map (λ (x : ℕ × Reply). x.0) ws; events = ap (λ l. l ++ record { clock = c; number = n; request = q; outcome = Done reply; partners = map (λ (x : ℕ × Reply). x.0) ws } ∷ []) e; dozes = λ h. cc; woken = inl refl }

  log_panics : (p : Cause) (i : ℕ) → Logs w n c q (panics w n c q p i)
  log_panics p i = record { o = Panics p i; who = []; events = refl; dozes = λ h. cc; woken = inl refl }

  log_sleeps : Logs w n c q (sleeps w n c q)
  log_sleeps = record { o = Sleeps; who = []; events = refl; dozes = λ h. refl; woken = inl refl }

  log_send_to : (k : ℕ) (ch : Channel) (item : Item) (i : ℕ) (o : Option (Sleeper × Offer)) → Logs w n c q (send_to w n c q k ch item i o)
  log_send_to k ch item i None = log_done _ refl _ []
  log_send_to k ch item i (Some p) = log_done w refl _ _

  log_send : (k : ℕ) (item : Item) (i : ℕ) → Logs w n c q (do_send w n c q k item i)
  log_send k item i = log_cond (channel_of w.channels k).closed (panics w n c q SendOnClosed i) (send_to w n c q k (channel_of w.channels k) item i (partner k false w.asleep)) (log_panics SendOnClosed i) (log_send_to k (channel_of w.channels k) item i (partner k false w.asleep))

  log_receive : (k : ℕ) (ch : Channel) (i : ℕ) (items : List Item) (o : Option (Sleeper × Offer)) → Logs w n c q (receive_from w n c q k ch i items o)
  log_receive k ch i (x ∷ xs) None = log_done _ refl _ []
  log_receive k ch i (x ∷ xs) (Some p) = log_done _ refl _ _
  log_receive k ch i [] None = log_done w refl _ []
  log_receive k ch i [] (Some p) = log_done w refl _ _

  log_clause : (i : ℕ) (chan : Option ℕ) (item : Option Item) → Logs w n c q (do_clause w n c q i chan item)
  log_clause i None item = log_sleeps
  log_clause i (Some k) None = log_receive k (channel_of w.channels k) i (channel_of w.channels k).items (partner k true w.asleep)
  log_clause i (Some k) (Some item) = log_send k item i

  log_select : (default : Bool) (o : Option (ℕ × Case)) → Logs w n c q (do_select w n c q default o)
  log_select default (Some x) = log_clause x.0 x.1.chan x.1.item
  log_select true None = log_done w refl _ []
  log_select false None = log_sleeps

  log_make : (size : ℤ) (z : Item) → Logs w n c q (do_make w n c q size z)
  log_make (negsuc m) z = log_panics ChannelSize 0
  log_make (pos size) z = log_cond (nat_lt 65536 size) (panics w n c q ChannelSize 0) _ (log_panics ChannelSize 0) (log_cond (length w.channels == 65537) (panics w n c q TooManyChannels 0) _ (log_panics TooManyChannels 0) (log_done _ refl _ []))

log_act : (w : Shared) (n c : ℕ) (q : Request) → Logs w n c q (act w n c q q)
log_act w n c (Make size z) = log_make w n c (Make size z) size z
log_act w n c (Go f args) = log_cond w n c (Go f args) (w.live == MAX_GOROUTINES) (panics w n c (Go f args) TooManyGoroutines 0) _ (log_panics w n c (Go f args) TooManyGoroutines 0) (record { o = Done Nothing; who = (w.made + 1) ∷ []; events = refl; dozes = λ h. cc; woken = inr refl })
log_act w n c (Send None item) = log_sleeps w n c (Send None item)
log_act w n c (Send (Some k) item) = log_cond w n c (Send (Some k) item) (send_ready w n c (Send (Some k) item) k) _ _ (log_send w n c (Send (Some k) item) k item 0) (log_sleeps w n c (Send (Some k) item))
log_act w n c (Receive None) = log_sleeps w n c (Receive None)
log_act w n c (Receive (Some k)) = log_cond w n c (Receive (Some k)) (receive_ready w n c (Receive (Some k)) k) _ _ (log_receive w n c (Receive (Some k)) k (channel_of w.channels k) 0 (channel_of w.channels k).items (partner k true w.asleep)) (log_sleeps w n c (Receive (Some k)))
log_act w n c (Close None) = log_panics w n c (Close None) CloseOfNil 0
log_act w n c (Close (Some k)) = log_cond w n c (Close (Some k)) (channel_of w.channels k).closed (panics w n c (Close (Some k)) CloseOfClosed 0) _ (log_panics w n c (Close (Some k)) CloseOfClosed 0) (log_done w n c (Close (Some k)) _ refl _ _)
log_act w n c (Select cases default) = log_select w n c (Select cases default) default (choose w n c (Select cases default) cases)
log_act w n c (Len None) = log_done w n c (Len None) w refl _ []
log_act w n c (Len (Some k)) = log_done w n c (Len (Some k)) w refl _ []
log_act w n c (Cap None) = log_done w n c (Cap None) w refl _ []
log_act w n c (Cap (Some k)) = log_done w n c (Cap (Some k)) w refl _ []
log_act w n c (Print bytes) = log_done w n c (Print bytes) _ refl _ []
log_act w n c End = record { o = Done Nothing; who = []; events = refl; dozes = λ h. cc; woken = inl refl }
log_act w n c Exit = record { o = Done Nothing; who = []; events = refl; dozes = λ h. cc; woken = inl refl }
log_act w n c (Panic p) = log_panics w n c (Panic p) p 0
log_act w n c Exhausted = record { o = Done Nothing; who = []; events = refl; dozes = λ h. cc; woken = inl refl }

-- asleep since event i, after all its items that were accepted
pub record Since (es : List Event) (x : Sleeper) : Type 0 where
  pub i : ℕ
  pub fell : fell x.number 0 es ≡ Some (i, x.request)
  pub past : i ≤ length es
  pub below : (c : ℕ) (a : Entry) → IsIn a (entries c es) → a.sender ≡ x.number → a.event < i

pub record Ranked (ss : List Sleeper) (es : List Event) : Type 0 where
  pub low : (c : ℕ) (a : Entry) → IsIn a (entries c es) → a.event ≤ length es
  pub since : (x : Sleeper) → In x ss → Since es x
  pub rises : (c : ℕ) → Rises (entries c es)

is_in_map : (p i : ℕ) (ys : List Item) (a : Entry) → IsIn a (map (λ y. record { sender = p; event = i; item = y }) ys) → (a.sender ≡ p) × (a.event ≡ i)
is_in_map p i [] a h = elim h [ ]
is_in_map p i (y ∷ ys) a (inl e) = (ap (λ (b : Entry). b.sender) e, ap (λ (b : Entry). b.event) e)
is_in_map p i (y ∷ ys) a (inr h) = is_in_map p i ys a h

sleeps_nodeal : (n c : ℕ) (q : Request) (o : EventOutcome) (who : List ℕ) → is_sleeps o ≡ true → deal (record { clock = c; number = n; request = q; outcome = o; partners = who }) ≡ NoDeal
sleeps_nodeal n c q (Done reply) who h = cc
sleeps_nodeal n c q Sleeps who h = refl
sleeps_nodeal n c q (Panics p k) who h = cc

one_rises : (p i : ℕ) (o : Option Offer) → Rises (map (λ y. record { sender = p; event = i; item = y }) (item_of o))
one_rises p i None = tt
one_rises p i (Some f) = go f.item
  where
    go : (t : Option Item) → Rises (map (λ y. record { sender = p; event = i; item = y }) (elim t as (λ _. List Item) [ None ↦ [] | Some x ↦ x ∷ [] ]))
    go None = tt
    go (Some x) = ((λ b h e. elim h [ ]), tt)

offered_rises : (c p : ℕ) (o : Option (ℕ × Request)) → Rises (offered_by c p o)
offered_rises c p None = tt
offered_rises c p (Some x) = one_rises p x.0 (first_offer c true (offers x.1))

cond_rises : (b : Bool) (l : List Entry) → Rises l → Rises (cond b l [])
cond_rises true l r = r
cond_rises false l r = tt

entered_rises : (c : ℕ) (before : List Event) (d : Deal) (n : ℕ) (who : List ℕ) → Rises (entered c before d n who)
entered_rises c before (Gives k x) n who = cond_rises (k == c) (record { sender = n; event = suc (length before); item = x } ∷ []) ((λ b h e. elim h [ ]), tt)
entered_rises c before (Takes k x ok) n [] = tt
entered_rises c before (Takes k x ok) n (p ∷ who) = cond_rises (k == c) (offered_by c p (fell p 0 before)) (offered_rises c p (fell p 0 before))
entered_rises c before NoDeal n who = tt

cond_in : (b : Bool) (l : List Entry) (a : Entry) → IsIn a (cond b l []) → IsIn a l
cond_in true l a h = h
cond_in false l a h = elim h [ ]

module _ (w : Shared) (n c : ℕ) (q : Request) (rk : Ranked w.asleep w.events) (lone : (x : Sleeper) → In x w.asleep → x.number ≢ n) (d : Deed) (lg : Logs w n c q d) (fr : Fair w.asleep n q d) where
  abbrev e : Event
  e = record { clock = c; number = n; request = q; outcome = lg.o; partners = lg.who }

  -- an item that enters now: the actor's, or one that a sleeper offered
  record Offered (a : Entry) : Type 0 where
    y : Sleeper
    lies : In y w.asleep
    is : y.number ≡ a.sender
    at_i : a.event ≡ (rk.since y lies).i
    woken : (m : ℕ) → IsApart m d.woken → m ≢ a.sender

  abbrev Fresh : Entry → Type 0
  Fresh a = ((a.sender ≡ n) × (a.event ≡ suc (length w.events))) ⊎ Offered a

  woken_first : (p : ℕ) (who : List ℕ) (ws : List (ℕ × Reply)) → (p ∷ who) ≡ map (λ (x : ℕ × Reply). x.0) ws → AllWake w.asleep ws → (y : Sleeper) × In y w.asleep × (y.number ≡ p) × ((m : ℕ) → IsApart m ws → m ≢ p)
  woken_first p who [] h a = cc
  woken_first p who (x ∷ xs) h a = let z : p ≡ x.0 = cc in (a.0.0, a.0.1, a.0.2 ∙ sym z, λ m t u. t.0 (u ∙ z))

  fresh_by : (k : ℕ) (a : Entry) (D : Deal) (who : List ℕ) → deal e ≡ D → lg.who ≡ who → IsIn a (entered k w.events D n who) → Fresh a
  fresh_by k a (Gives j x) who dd ww h = elim (cond_in (j == k) _ a h) [ inl z ↦ inl (ap (λ (b : Entry). b.sender) z, ap (λ (b : Entry). b.event) z) | inr z ↦ absurd z ]
  fresh_by k a (Takes j x ok) [] dd ww h = elim h [ ]
  fresh_by k a (Takes j x ok) (p ∷ who) dd ww h = elim lg.woken [
    | inl same ↦
        let f = woken_first p who d.woken (sym ww ∙ same) fr.woken in
        let s = rk.since f.0 f.1 in
        let at_p : fell p 0 w.events ≡ Some (s.i, f.0.request) = ap (λ m. fell m 0 w.events) (sym f.2) ∙ s.fell in
        let i : IsIn a (offered_by k p (Some (s.i, f.0.request))) = subst (λ o. IsIn a (offered_by k p o)) at_p (cond_in (j == k) (offered_by k p (fell p 0 w.events)) a h) in
        let z = is_in_map p s.i (item_of (first_offer k true (offers f.0.request))) a i in
        inr (record { y = f.0; lies = f.1; is = f.2 ∙ sym z.0; at_i = z.1; woken = λ m t u. f.3 m t (u ∙ z.0) })
    | inr none ↦ let z = sym none ∙ dd in absurd (no_takes j x ok z)
  ]
    where
      no_takes : (j' : ℕ) (x' : Item) (ok' : Bool) → NoDeal ≡ Takes j' x' ok' → ⊥
      no_takes j' x' ok' t = cc
  fresh_by k a NoDeal who dd ww h = elim h [ ]

  fresh : (k : ℕ) (a : Entry) → IsIn a (entered k w.events (deal e) n lg.who) → Fresh a
  fresh k a h = fresh_by k a (deal e) lg.who refl refl h

  split_in : (k : ℕ) (a : Entry) → IsIn a (entries k (w.events ++ e ∷ [])) → IsIn a (entries k w.events) ⊎ IsIn a (entered k w.events (deal e) n lg.who)
  split_in k a h = is_in_append (entries k w.events) (entered k w.events (deal e) n lg.who) a (subst (IsIn a) (entries_snoc k [] w.events e) h)

  grown : length (w.events ++ e ∷ []) ≡ length w.events + 1
  grown = length-append w.events (e ∷ [])

  low_now : (k : ℕ) (a : Entry) → IsIn a (entries k (w.events ++ e ∷ [])) → a.event ≤ length (w.events ++ e ∷ [])
  low_now k a h = elim (split_in k a h) [
    | inl i ↦ omega (arith, rk.low k a i, grown)
    | inr i ↦ elim (fresh k a i) [ inl f ↦ omega (arith, f.1, grown) | inr f ↦ omega (arith, f.at_i, (rk.since f.y f.lies).past, grown) ]
  ]

  rises_now : (k : ℕ) → Rises (entries k (w.events ++ e ∷ []))
  rises_now k = subst Rises (sym (entries_snoc k [] w.events e)) (rises_append (entries k w.events) (entered k w.events (deal e) n lg.who) (rk.rises k) (entered_rises k w.events (deal e) n lg.who)
      (λ a b i j z. elim (fresh k b j) [ inl f ↦ omega (arith, rk.low k a i, f.1) | inr f ↦ omega (arith, (rk.since f.y f.lies).below k a i (sym z ∙ sym f.is), f.at_i) ]))

  since_old : (x : Sleeper) → In x w.asleep → IsApart x.number d.woken → Since (w.events ++ e ∷ []) x
  since_old x i g =
      let s = rk.since x i in
      let ne : n ≡ x.number → ⊥ = λ z. lone x i (sym z) in
      record {
        i = s.i;
        fell = fell_snoc x.number 0 w.events e ∙ ap (λ b. later (cond (b && is_sleeps lg.o) (Some (suc (0 + length w.events), q)) None) (fell x.number 0 w.events)) (ne_eqb n x.number ne) ∙ s.fell;
        past = omega (arith, s.past, grown);
        below = λ k a h z. elim (split_in k a h) [
          | inl j ↦ s.below k a j z
          | inr j ↦ elim (fresh k a j) [ inl f ↦ absurd (lone x i (sym z ∙ f.0)) | inr f ↦ absurd (f.woken x.number g (sym z)) ]
        ];
      }

  since_new : is_sleeps lg.o ≡ true → Since (w.events ++ e ∷ []) (record { number = n; request = q })
  since_new sl =
      record {
        i = suc (0 + length w.events);
        fell = fell_snoc n 0 w.events e ∙ ap (λ b. later (cond (b && is_sleeps lg.o) (Some (suc (0 + length w.events), q)) None) (fell n 0 w.events)) (eq-eqb n n refl) ∙ ap (λ b. later (cond (true && b) (Some (suc (0 + length w.events), q)) None) (fell n 0 w.events)) sl;
        past = omega (arith, grown);
        below = λ k a h z. elim (split_in k a h) [
          | inl j ↦ omega (arith, rk.low k a j)
          | inr j ↦ absurd (subst (λ D. IsIn a (entered k w.events D n lg.who)) (sleeps_nodeal n c q lg.o lg.who sl) j)
        ];
      }

  since_by : (fate : Fate) → d.fate ≡ fate → (x : Sleeper) → Lies w.asleep n q fate x → IsApart x.number d.woken → Since (w.events ++ e ∷ []) x
  since_by (GoesOn reply) f x h g = since_old x h g
  since_by Leaves f x h g = since_old x h g
  since_by Stays f x h g = since_old x h g
  since_by Dozes f x (inl h) g = since_old x h.0 g
  since_by Dozes f x (inr h) g = subst (Since (w.events ++ e ∷ [])) (sym h) (since_new (lg.dozes f))

  pub ranked_deed : Ranked d.shared.asleep d.shared.events
  ranked_deed = subst (Ranked d.shared.asleep) (sym lg.events) (record { low = low_now; since = λ x i. since_by d.fate refl x (fr.asleep x i) (fr.gone x i); rises = rises_now })

module _ (K : GoroutineKind) (limit : ℕ) where
  abbrev Rank : World (Clocked K.State) (Rest K.State) → Type 0
  Rank w = Ranked w.shared.shared.asleep w.shared.shared.events

  performs_rank : (w : World (Clocked K.State) (Rest K.State)) → Apart K limit w → Rank w → (n : ℕ) (s : Clocked K.State) → get_or w.awake n None ≡ Some s → (o : Option Request) → Ranked (performs K limit w.shared n s o).shared.shared.asleep (performs K limit w.shared n s o).shared.shared.events
  performs_rank w ap' rk n s at None = rk
  performs_rank w ap' rk n s at (Some q) =
      let p = meant w.shared.shared n q in
      ranked_deed w.shared.shared n s.clock p rk (not_asleep K limit w ap' n s at) (act w.shared.shared n s.clock p p) (log_act w.shared.shared n s.clock p) (fair w.shared.shared n s.clock p)

  on_by : (w : World (Clocked K.State) (Rest K.State)) → Apart K limit w → Rank w → (n : ℕ) (s : Clocked K.State) → get_or w.awake n None ≡ Some s → (b : Bool) → Rank (cond b (perform_in (rules K limit) w n s) w)
  on_by w h rk n s at true = performs_rank w h rk n s at (asks K limit s)
  on_by w h rk n s at false = rk

  at_by : (w : World (Clocked K.State) (Rest K.State)) → Apart K limit w → Rank w → (n : ℕ) (s : Clocked K.State) → get_or w.awake n None ≡ Some s → (o : Option (Clocked K.State)) → Rank (move_on (rules K limit) w n s o)
  at_by w h rk n s at (Some t) = rk
  at_by w h rk n s at None = on_by w h rk n s at ((rules K limit).asks s)

  move_by : (w : World (Clocked K.State) (Rest K.State)) → Apart K limit w → Rank w → (n : ℕ) (o : Option (Clocked K.State)) → get_or w.awake n None ≡ o → Rank (move_at (rules K limit) w n o)
  move_by w h rk n None at = rk
  move_by w h rk n (Some s) at = at_by w h rk n s at ((rules K limit).local s)

  next_by : (w : World (Clocked K.State) (Rest K.State)) → Apart K limit w → Rank w → (o : Option Key) → Rank (move_next (rules K limit) w o)
  next_by w h rk None = rk
  next_by w h rk (Some k) = move_by w h rk k.number (get_or w.awake k.number None) refl

  one_by : (w : World (Clocked K.State) (Rest K.State)) → Apart K limit w → Rank w → (b : Bool) → Rank (cond b w (move_next (rules K limit) w (next (rules K limit) w.awake)))
  one_by w h rk true = rk
  one_by w h rk false = next_by w h rk (next (rules K limit) w.awake)

  run_rank : (n : ℕ) (w : World (Clocked K.State) (Rest K.State)) → Apart K limit w → Rank w → Rank (run (rules K limit) n w)
  run_rank zero w h rk = rk
  run_rank (suc n) w h rk = run_rank n (one (rules K limit) w) (one_apart K limit w ((rules K limit).is_over w.shared) h) (one_by w h rk ((rules K limit).is_over w.shared))

  -- at every moment, one sender's items in what a channel accepted have rising event numbers
  pub rising : (n : ℕ) → IsRising (moment K limit n).shared.shared
  rising n = (run_rank n (opening K) (λ x i. elim i [ ]) (record { low = λ c a i. elim i [ ]; since = λ x i. elim i [ ]; rises = λ c. tt })).rises
