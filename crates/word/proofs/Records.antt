-- Each request performed is one more event.
use Rattle.logical_clock.specs.declared.limits.TheConstants.{MAX_GOROUTINES}
use Rattle.std.proofs.Common.{◌≡◌, ℕ, ℤ, pos, negsuc, Bool, true, false, cond, List, [], ◌∷◌, ◌++◌, length, Option, Some, None, refl}
use Rattle.std.specs.Prelude.{◌==◌, nat_lt}
use Rattle.std.specs.Option.{is_some}
use Rattle.turn_rule.specs.Schedule.{Records, IsPrefixOf}
use Rattle.turn_rule.specs.Turns.{run}
use Rattle.turn_rule.proofs.Grows.{grows}
use Rattle.turn_rule.proofs.Settled.{same_count}
use Rattle.word.specs.Values.{Item, Case, Request, Make, Go, Send, Receive, Close, Select, Len, Cap, Print, End, Exit, Panic, Exhausted, Event, Sleeper, Offer, Channel, Shared, ChannelSize, CloseOfClosed, SendOnClosed, TooManyChannels, TooManyGoroutines}
use Rattle.word.specs.Kinds.{GoroutineKind, Clocked, asks}
use Rattle.word.specs.Requests.{Deed, channel_of, partner, sleeps, panics, send_to, do_send, receive_from, do_receive, send_ready, receive_ready, choose, do_clause, do_select, do_make, act, meant}
use Rattle.word.specs.Worlds.{Rest, rules, performs, opening, moment}
use Rattle.word.proofs.Laws.{laws}

module _ (w : Shared) (n c : ℕ) (q : Request) where
  abbrev One : Deed → Type 0
  One d = (e : Event) × (d.shared.events ≡ w.events ++ e ∷ [])

  one_cond : (b : Bool) (d e : Deed) → One d → One e → One (cond b d e)
  one_cond true d e f g = f
  one_cond false d e f g = g

  one_send_to : (k : ℕ) (ch : Channel) (item : Item) (i : ℕ) (o : Option (Sleeper × Offer)) → One (send_to w n c q k ch item i o)
  one_send_to k ch item i None = (_, refl)
  one_send_to k ch item i (Some p) = (_, refl)

  one_send : (k : ℕ) (item : Item) (i : ℕ) → One (do_send w n c q k item i)
  one_send k item i = one_cond (channel_of w.channels k).closed (panics w n c q SendOnClosed i) (send_to w n c q k (channel_of w.channels k) item i (partner k false w.asleep)) (_, refl) (one_send_to k (channel_of w.channels k) item i (partner k false w.asleep))

  one_receive_from : (k : ℕ) (ch : Channel) (i : ℕ) (items : List Item) (o : Option (Sleeper × Offer)) → One (receive_from w n c q k ch i items o)
  one_receive_from k ch i (x ∷ xs) None = (_, refl)
  one_receive_from k ch i (x ∷ xs) (Some p) = (_, refl)
  one_receive_from k ch i [] None = (_, refl)
  one_receive_from k ch i [] (Some p) = (_, refl)

  one_clause : (i : ℕ) (chan : Option ℕ) (item : Option Item) → One (do_clause w n c q i chan item)
  one_clause i None item = (_, refl)
  one_clause i (Some k) None = one_receive_from k (channel_of w.channels k) i (channel_of w.channels k).items (partner k true w.asleep)
  one_clause i (Some k) (Some item) = one_send k item i

  one_select : (default : Bool) (o : Option (ℕ × Case)) → One (do_select w n c q default o)
  one_select default (Some x) = one_clause x.0 x.1.chan x.1.item
  one_select true None = (_, refl)
  one_select false None = (_, refl)

  one_make : (size : ℤ) (z : Item) → One (do_make w n c q size z)
  one_make (negsuc m) z = (_, refl)
  one_make (pos size) z = one_cond (nat_lt 65536 size) (panics w n c q ChannelSize 0) _ (_, refl) (one_cond (length w.channels == 65537) (panics w n c q TooManyChannels 0) _ (_, refl) (_, refl))

  one_act : (p : Request) → One (act w n c q p)
  one_act (Make size z) = one_make size z
  one_act (Go f args) = one_cond (w.live == MAX_GOROUTINES) (panics w n c q TooManyGoroutines 0) _ (_, refl) (_, refl)
  one_act (Send None item) = (_, refl)
  one_act (Send (Some k) item) = one_cond (send_ready w n c q k) (do_send w n c q k item 0) (sleeps w n c q) (one_send k item 0) (_, refl)
  one_act (Receive None) = (_, refl)
  one_act (Receive (Some k)) = one_cond (receive_ready w n c q k) (do_receive w n c q k 0) (sleeps w n c q) (one_receive_from k (channel_of w.channels k) 0 (channel_of w.channels k).items (partner k true w.asleep)) (_, refl)
  one_act (Close None) = (_, refl)
  one_act (Close (Some k)) = one_cond (channel_of w.channels k).closed (panics w n c q CloseOfClosed 0) _ (_, refl) (_, refl)
  one_act (Select cases default) = one_select default (choose w n c q cases)
  one_act (Len None) = (_, refl)
  one_act (Len (Some k)) = (_, refl)
  one_act (Cap None) = (_, refl)
  one_act (Cap (Some k)) = (_, refl)
  one_act (Print bytes) = (_, refl)
  one_act End = (_, refl)
  one_act Exit = (_, refl)
  one_act (Panic p) = (_, refl)
  one_act Exhausted = (_, refl)

module _ (K : GoroutineKind) (limit : ℕ) where
  abbrev pub events_of : Rest K.State → List Event
  events_of w = w.shared.events

  performs_one : (w : Rest K.State) (n : ℕ) (s : Clocked K.State) (o : Option Request) → is_some o ≡ true → (e : Event) × (events_of (performs K limit w n s o).shared ≡ events_of w ++ e ∷ [])
  performs_one w n s None h = cc
  performs_one w n s (Some q) h = one_act w.shared n s.clock (meant w.shared n q) (meant w.shared n q)

  pub records : Records (rules K limit) events_of
  records w n s h = performs_one w n s (asks K limit s) h

  -- two moments with as many events share the same: so event(k), output(k) and the end are the run's own
  pub one_moment : (n m : ℕ) → length (moment K limit n).shared.shared.events ≡ length (moment K limit m).shared.shared.events → (moment K limit n).shared ≡ (moment K limit m).shared
  one_moment n m e = same_count (rules K limit) events_of records (laws K limit) n m (opening K) e

  pub events_begin : (n d : ℕ) → IsPrefixOf (moment K limit n).shared.shared.events (run (rules K limit) d (moment K limit n)).shared.shared.events
  events_begin n d = grows (rules K limit) events_of records d (moment K limit n)
