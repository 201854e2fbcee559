-- A receive when a sender sleeps, a send that is ready, and a close.
use Rattle.std.proofs.Common.{◌≡◌, ℕ, true, false, Option, None, option_map, List, [], ◌∷◌, ◌++◌, map, drop, length, slice_set, Some, unwrap_or, refl, sym, ap, ◌∙◌}
use Rattle.std.specs.Global.{Vec}
use Rattle.std.specs.Vec.{with_items}
use Rattle.std.proofs.lemmas.List.{length-set, set-get_or, with_items_is}
use Rattle.word.specs.Values.{Channel, Close, Done, Item, Nothing, Offer, Reply, Request, Shared, Sleeper}
use Rattle.word.specs.Requests.{GoesOn, act, channel_of, do_send, done, got, partner, partners, receive_from, send_to, sent, without, without_all}
use Rattle.reference_world.specs.Deeds.{History, MeetingValue, SharedValue, closed_for, exchanged, met, shared_with, with_event}
use Rattle.reference_world.specs.declared.sleeper.Partner.{Partner}

-- the channels, of which one was written
pub written : (v : Vec Channel) (ws cs : List Channel) (k : ℕ) (x : Channel) → cs ≡ v.items → ws ≡ slice_set cs k x → (with_items v ws).items ≡ slice_set cs k x
written v ws cs k x same is = with_items_is v ws (ap length is ∙ length-set cs k x ∙ ap length same ∙ sym v.ok.0) ∙ is

same_front : (a b : Item) (xs : List Item) → ◌≡◌ {A = List Item} (a ∷ xs) (b ∷ xs) → a ≡ b
same_front a b xs e = cc

-- one item goes in and one comes out
taken : (w : Shared) (n c : ℕ) (q : Request) (k clause : ℕ) (ch : Channel) (items : List Item) (x : Sleeper × Offer) (front : Item)
    → slice_set w.channels k (record ch { items = items }) ≡ w.channels → items ++ unwrap_or x.1.item [] ∷ [] ≡ front ∷ drop 1 (items ++ unwrap_or x.1.item [] ∷ [])
    → receive_from w n c q k ch clause items (Some x)
    ≡ done w n c q (record w { channels = slice_set w.channels k (record ch { items = drop 1 (items ++ unwrap_or x.1.item [] ∷ []) }) }) (got clause front true) ((x.0.number, sent x.1.case) ∷ [])
taken w n c q k clause ch [] x front same first = rw (same, ← same_front (unwrap_or x.1.item []) front [] first) refl
taken w n c q k clause ch (y ∷ ys) x front same first = rw (← same_front y front (ys ++ unwrap_or x.1.item [] ∷ []) first) refl

pub served : (h : History) (v : SharedValue) (old : MeetingValue) (n c : ℕ) (q : Request) (k clause : ℕ) (x : Sleeper × Offer) (p : Partner)
    (channels after : List Channel) (asleep left : List Sleeper) (offered front : Item) (reply : Reply) (woken : List (ℕ × Reply))
    → met x ≡ p → channels ≡ old.channels → asleep ≡ old.asleep → offered ≡ unwrap_or p.offer.item []
    → (channel_of channels k).items ++ offered ∷ [] ≡ front ∷ exchanged channels k offered
    → after ≡ slice_set channels k (record (channel_of channels k) { items = exchanged channels k offered })
    → left ≡ without asleep p.number → reply ≡ got clause front true → woken ≡ (p.number, sent p.offer.case) ∷ []
    → receive_from (shared_with h v old) n c q k (channel_of old.channels k) clause (channel_of old.channels k).items (Some x)
    ≡ record {
      fate = GoesOn reply;
      woken = woken;
      started = [];
      shared = with_event h n c q v (record { asleep = left; channels = after }) (Done reply) (map (λ (y : ℕ × Reply). y.0) woken);
    }
served h v old n c q k clause x p channels after asleep left offered front reply woken meets there sleep offers first following gone tells wakes =
    let own : offered ≡ unwrap_or x.1.item [] = offers ∙ ap (λ (p : Partner). unwrap_or p.offer.item []) (sym meets) in
    let number : left ≡ without old.asleep x.0.number = gone ∙ ap (λ (ss : List Sleeper). without ss p.number) sleep ∙ ap (λ (p : Partner). without old.asleep p.number) (sym meets) in
    let waken : woken ≡ (x.0.number, sent x.1.case) ∷ [] = wakes ∙ ap (λ (p : Partner). (p.number, sent p.offer.case) ∷ []) (sym meets) in
    let front_is : (channel_of old.channels k).items ++ unwrap_or x.1.item [] ∷ [] ≡ front ∷ exchanged old.channels k (unwrap_or x.1.item []) = rw (there, own) at first in
    let after_is : after ≡ slice_set old.channels k (record (channel_of old.channels k) { items = exchanged old.channels k (unwrap_or x.1.item []) }) = rw (there, own) at following in
    taken (shared_with h v old) n c q k clause (channel_of old.channels k) (channel_of old.channels k).items x front (set-get_or old.channels k _) front_is
    ∙ rw (number, waken, tells, after_is) refl

none_met : (o : Option (Sleeper × Offer)) → None ≡ option_map met o → o ≡ None
none_met None e = refl
none_met (Some x) e = cc

pub sent_alone : (h : History) (v : SharedValue) (old : MeetingValue) (n c : ℕ) (q : Request) (k : ℕ) (item : Item) (clause : ℕ) (channels after : List Channel) (asleep : List Sleeper) (reply : Reply) (woken : List (ℕ × Reply))
    → (channel_of old.channels k).closed ≡ false → None ≡ option_map met (partner k false old.asleep) → channels ≡ old.channels → asleep ≡ old.asleep
    → after ≡ slice_set channels k (record (channel_of channels k) { items = (channel_of channels k).items ++ item ∷ [] }) → reply ≡ sent clause → woken ≡ []
    → do_send (shared_with h v old) n c q k item clause
    ≡ record {
      fate = GoesOn reply;
      woken = woken;
      started = [];
      shared = with_event h n c q v (record { asleep = asleep; channels = after }) (Done reply) (map (λ (y : ℕ × Reply). y.0) woken);
    }
sent_alone h v old n c q k item clause channels after asleep reply woken stands alone there sleep following tells wakes =
    let after_is : after ≡ slice_set old.channels k (record (channel_of old.channels k) { items = (channel_of old.channels k).items ++ item ∷ [] }) = rw there at following in
    rw (stands, none_met (partner k false old.asleep) alone, after_is, sleep, tells, wakes) refl

same_met : (x : Sleeper × Offer) (p : Partner) → Some p ≡ Some (met x) → met x ≡ p
same_met x p e = cc

met_one : (w : Shared) (n c : ℕ) (q : Request) (k : ℕ) (ch : Channel) (item : Item) (clause : ℕ) (o : Option (Sleeper × Offer)) (p : Partner) → Some p ≡ option_map met o
    → send_to w n c q k ch item clause o ≡ done w n c q w (sent clause) ((p.number, got p.offer.case item true) ∷ [])
met_one w n c q k ch item clause None p e = cc
met_one w n c q k ch item clause (Some x) p e = rw (← same_met x p e) refl

pub sent_to : (h : History) (v : SharedValue) (old : MeetingValue) (n c : ℕ) (q : Request) (k : ℕ) (item : Item) (clause : ℕ) (p : Partner) (new : MeetingValue) (channels : List Channel) (asleep left : List Sleeper) (number : ℕ) (reply told : Reply) (woken : List (ℕ × Reply))
    → (channel_of old.channels k).closed ≡ false → Some p ≡ option_map met (partner k false old.asleep) → channels ≡ old.channels → asleep ≡ old.asleep
    → new ≡ record { asleep = left; channels = channels } → number ≡ p.number → told ≡ got p.offer.case item true → left ≡ without asleep number → reply ≡ sent clause → woken ≡ (number, told) ∷ []
    → do_send (shared_with h v old) n c q k item clause
    ≡ record {
      fate = GoesOn reply;
      woken = woken;
      started = [];
      shared = with_event h n c q v new (Done reply) (map (λ (y : ℕ × Reply). y.0) woken);
    }
sent_to h v old n c q k item clause p new channels asleep left number reply told woken stands meets there sleep becomes numbered says gone tells wakes =
    let open_still : do_send (shared_with h v old) n c q k item clause ≡ send_to (shared_with h v old) n c q k (channel_of old.channels k) item clause (partner k false old.asleep) = rw stands refl in
    let left_is : left ≡ without old.asleep p.number = rw (sleep, numbered) at gone in
    let woken_is : woken ≡ (p.number, got p.offer.case item true) ∷ [] = rw (numbered, says) at wakes in
    open_still ∙ met_one (shared_with h v old) n c q k (channel_of old.channels k) item clause (partner k false old.asleep) p meets ∙ rw (becomes, left_is, there, tells, woken_is) refl

pub closes : (h : History) (v : SharedValue) (old : MeetingValue) (n c : ℕ) (q : Request) (chan : Option ℕ) (k : ℕ) (zero : Item) (channels after : List Channel) (asleep left : List Sleeper) (woken : List (ℕ × Reply))
    → chan ≡ Some k → (channel_of old.channels k).closed ≡ false → zero ≡ (channel_of old.channels k).zero → channels ≡ old.channels → asleep ≡ old.asleep
    → woken ≡ closed_for zero (partners k asleep) → left ≡ without_all asleep woken → after ≡ slice_set channels k (record (channel_of channels k) { closed = true })
    → act (shared_with h v old) n c q (Close chan)
    ≡ record {
      fate = GoesOn Nothing;
      woken = woken;
      started = [];
      shared = with_event h n c q v (record { asleep = left; channels = after }) (Done Nothing) (map (λ (y : ℕ × Reply). y.0) woken);
    }
closes h v old n c q chan k zero channels after asleep left woken some stands empty there sleep wakes gone following =
    let woken_is : woken ≡ closed_for (channel_of old.channels k).zero (partners k old.asleep) = rw (empty, sleep) at wakes in
    let left_is : left ≡ without_all old.asleep woken = rw sleep at gone in
    let after_is : after ≡ slice_set old.channels k (record (channel_of old.channels k) { closed = true }) = rw there at following in
    rw (some, stands, left_is, woken_is, after_is) refl
