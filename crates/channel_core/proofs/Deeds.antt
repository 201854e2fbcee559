-- What sends and receives do, branch by branch.
use Rattle.std.proofs.Common.{◌≡◌, ◌∙◌, ℕ, zero, suc, Bool, true, false, List, [], ◌∷◌, ◌++◌, Option, Some, None, Result, Ok, Err, OnErr, OnOk, refl, sym, ap, subst, arith, length}
use Rattle.std.specs.Global.{Vec}
use Rattle.std.specs.Vec.{with_items}
use Rattle.word.specs.declared.request.EventOutcome.{EventOutcome as Fate}
use Rattle.word.specs.declared.request.EventOutcome.TheVariants as fates
use Rattle.word.specs.declared.panic.Panic.TheVariants.{SendOnClosed}
use Rattle.word.specs.Values.{Item, Request, Send, Receive}
use Rattle.word.specs.Views.{outcome_of, reply_of}
use Rattle.word.specs.Requests.{receive_ready, send_ready, without}
use Rattle.std.specs.Prelude.{drop, nat_lt, map, option_map, slice_index_or, slice_set, unwrap_or}
use Rattle.std.proofs.lemmas.List.{length-set, set-get_or, with_items_is}
use Rattle.std.proofs.lemmas.Option.{none-some}
use Rattle.std.proofs.Common.{◌<◌, ◌≤◌, length-append}
use Rattle.std.proofs.lemmas.Bool.{lt-ltb}
use Rattle.word.specs.Requests.{Deed, GoesOn, act, channel_of, do_send, got, happened, no_channel, partner, partners, receive_from, send_to, sent, without_all}
use Rattle.word.specs.Values.{Channel, Close, Done, Nothing, Offer, Reply, Shared, Sleeper}
use Rattle.channel_core.specs.Channels.{ChannelsValue, IsAlone, IsServed, Others, Partner, after_passing, came, deed_of, given, closed_for, partner_of, shared_with, Does, DoesAlone, Sends, Receives}
use Rattle.channel_core.specs.declared.outcome.Outcome.{Outcome}
use Rattle.channel_core.specs.declared.outcome.Outcome.TheVariants as outcomes

pub send_done : (old new : ChannelsValue) (n k : ℕ) (item : Item) (outcome : Outcome) → ((o : Others) (m c : ℕ) (q : Request) → true ≡ send_ready (shared_with o old) m c q k) → Sends old n k item 0 outcome new → Does old n (Send (Some k) item) outcome new
send_done old new n k item outcome ready sends o c = rw (← ready o n c (Send (Some k) item)) (sends o c (Send (Some k) item))

pub receive_done : (old new : ChannelsValue) (n k : ℕ) (outcome : Outcome) → ((o : Others) (m c : ℕ) (q : Request) → true ≡ receive_ready (shared_with o old) m c q k) → Receives old n k 0 outcome new → Does old n (Receive (Some k)) outcome new
receive_done old new n k outcome ready receives o c = rw (← ready o n c (Receive (Some k))) (receives o c (Receive (Some k)))

partner_inj : (a b : Partner) → Some a ≡ Some b → a ≡ b
partner_inj a b e = ap (λ (o : Option Partner). unwrap_or o a) e

-- a receive that meets a sender
pub receive_met : (old new : ChannelsValue) (k clause : ℕ) (p : Partner) (outcome : Outcome) → Some p ≡ option_map partner_of (partner k true old.asleep) → IsServed old k clause p outcome new → (n : ℕ) → Receives old n k clause outcome new
receive_met old new k clause p outcome e served n o c q = at (partner k true old.asleep) e
  where
    at : (m : Option (Sleeper × Offer)) → Some p ≡ option_map partner_of m → receive_from (shared_with o old) n c q k (channel_of old.channels k) clause (channel_of old.channels k).items m ≡ deed_of o n c q outcome new
    at None h = absurd (none-some p (sym h))
    at (Some x) h = served o n c q x (partner_inj (partner_of x) p (sym h))

-- a request is done with this reply, and these are woken with theirs
abbrev pub deed : Others → ℕ → ℕ → Request → Reply → List (ℕ × Reply) → List Channel → List Sleeper → Deed
deed o n c q r ws channels asleep =
    let w : Shared = shared_with o (record { channels = channels; asleep = asleep }) in
    record { fate = GoesOn r; woken = ws; started = []; shared = happened w n c q w (Done r) (map (λ (x : ℕ × Reply). x.0) ws) }

abbrev pub told : ℕ → Reply → List (ℕ × Reply)
told n r = (n, r) ∷ []

-- the item of a sender passes through a channel's buffer
module _ (old : ChannelsValue) (k clause : ℕ) (front : Item) (o : Others) (n c : ℕ) (q : Request) (x : Sleeper × Offer) where
  abbrev ch : Channel
  ch = channel_of old.channels k

  abbrev sent_item : Item
  sent_item = unwrap_or x.1.item []

  abbrev woken : List (ℕ × Reply)
  woken = (x.0.number, sent x.1.case) ∷ []

  abbrev left : List Sleeper
  left = without old.asleep x.0.number

  passes : (xs : List Item) → ch.items ≡ xs → xs ++ sent_item ∷ [] ≡ front ∷ drop 1 (xs ++ sent_item ∷ [])
      → receive_from (shared_with o old) n c q k ch clause xs (Some x) ≡ deed o n c q (got clause front true) woken (slice_set old.channels k (record ch { items = drop 1 (xs ++ sent_item ∷ []) })) left
  passes [] e h =
      let same : slice_set old.channels k (record ch { items = [] }) ≡ old.channels = ap (λ (l : List Item). slice_set old.channels k (record ch { items = l })) (sym e) ∙ set-get_or old.channels k no_channel in
      ap (λ (i : Item). deed o n c q (got clause i true) woken old.channels left) (ap (λ (l : List Item). slice_index_or l 0 []) h)
      ∙ ap (λ (cs : List Channel). deed o n c q (got clause front true) woken cs left) (sym same)
  passes (y ∷ ys) e h =
      ap (λ (i : Item). deed o n c q (got clause i true) woken (slice_set old.channels k (record ch { items = ys ++ sent_item ∷ [] })) left) (ap (λ (l : List Item). slice_index_or l 0 []) h)

done_inj : (a b : Reply) → Done a ≡ Done b → a ≡ b
done_inj a b e = cc

-- a request that has this fate in its event is done, and these are woken
pub done_is : (o : Others) (n c : ℕ) (q : Request) (fate : Fate) (w : Vec (ℕ × Reply)) (r : Reply) (new : ChannelsValue) → outcome_of fate ≡ Done r → deed o n c q r w.items new.channels new.asleep ≡ deed_of o n c q (came fate w) new
done_is o n c q (fates.Done reply) w r new e = ap (λ (a : Reply). deed o n c q a w.items new.channels new.asleep) (sym (done_inj (reply_of reply) r e))
done_is o n c q fates.Sleeps w r new e = cc
done_is o n c q (fates.Panics cause k) w r new e = cc

-- like `done_is`, if these are the woken, the channels and the sleepers
deed_is : (o : Others) (n c : ℕ) (q : Request) (fate : Fate) (w : Vec (ℕ × Reply)) (r : Reply) (new : ChannelsValue) (ws : List (ℕ × Reply)) (channels : List Channel) (asleep : List Sleeper)
    → outcome_of fate ≡ Done r → w.items ≡ ws → new.channels ≡ channels → new.asleep ≡ asleep → deed o n c q r ws channels asleep ≡ deed_of o n c q (came fate w) new
deed_is o n c q fate w r new ws channels asleep tells woke put left =
    ap (λ (l : List (ℕ × Reply)). deed o n c q r l channels asleep) (sym woke)
    ∙ ap (λ (l : List Channel). deed o n c q r w.items l asleep) (sym put)
    ∙ ap (λ (l : List Sleeper). deed o n c q r w.items new.channels l) (sym left)
    ∙ done_is o n c q fate w r new tells

pub on_err_always : {A E : Type 0} (r : Result A E) (P : Type 0) → P → OnErr r P
on_err_always (Ok x) P p = tt
on_err_always (Err e) P p = p

-- the channels, if one of them may have been written: as many as before
module _ (v : Vec Channel) (ws : List Channel) where
  pub few_still : (most : ℕ) → length v.items ≤ most → length (with_items v ws).items ≤ most
  few_still most few = omega (arith, few, v.ok.0, (with_items v ws).ok.0)

  pub written : (cs : List Channel) (k : ℕ) (x : Channel) → cs ≡ v.items → ws ≡ slice_set cs k x → (with_items v ws).items ≡ ws
  written cs k x same is = with_items_is v ws (ap length is ∙ length-set cs k x ∙ ap length same ∙ sym v.ok.0)

  pub unwritten : ws ≡ v.items → (with_items v ws).items ≡ v.items
  unwritten is = with_items_is v ws (ap length is ∙ sym v.ok.0) ∙ is

-- a close that wakes these
pub close_done : (old new : ChannelsValue) (k n : ℕ) (fate : Fate) (w : Vec (ℕ × Reply)) → false ≡ (channel_of old.channels k).closed → outcome_of fate ≡ Done Nothing
    → w.items ≡ closed_for (channel_of old.channels k).zero (partners k old.asleep) → new.channels ≡ slice_set old.channels k (record (channel_of old.channels k) { closed = true }) → new.asleep ≡ without_all old.asleep w.items
    → Does old n (Close (Some k)) (came fate w) new
close_done old new k n fate w is tells woke put left o c =
    let q : Request = Close (Some k) in
    let ws : List (ℕ × Reply) = closed_for (channel_of old.channels k).zero (partners k old.asleep) in
    let channels : List Channel = slice_set old.channels k (record (channel_of old.channels k) { closed = true }) in
    let closes : act (shared_with o old) n c q q ≡ deed o n c q Nothing ws channels (without_all old.asleep ws) = rw (← is) refl in
    closes ∙ deed_is o n c q fate w Nothing new ws channels (without_all old.asleep ws) tells woke put (left ∙ ap (without_all old.asleep) woke)

-- ---- a send that is ready
module _ (old : ChannelsValue) (n k : ℕ) (item : Item) (clause : ℕ) where
  pub send_closed : true ≡ (channel_of old.channels k).closed → Sends old n k item clause (outcomes.Panics SendOnClosed clause) old
  send_closed closed o c q = rw (← closed) refl

  live : (o : Others) (c : ℕ) (q : Request) → false ≡ (channel_of old.channels k).closed
      → do_send (shared_with o old) n c q k item clause ≡ send_to (shared_with o old) n c q k (channel_of old.channels k) item clause (partner k false old.asleep)
  live o c q is = rw (← is) refl

  -- it meets a receiver
  pub send_met : (new : ChannelsValue) (p : Partner) (fate : Fate) (w : Vec (ℕ × Reply)) → false ≡ (channel_of old.channels k).closed → Some p ≡ option_map partner_of (partner k false old.asleep)
      → outcome_of fate ≡ Done (sent clause) → w.items ≡ (p.number, got p.case item true) ∷ [] → new.channels ≡ old.channels → new.asleep ≡ without old.asleep p.number
      → Sends old n k item clause (came fate w) new
  send_met new p fate w is e tells woke same left o c q =
      live o c q is ∙ at (partner k false old.asleep) e
      ∙ deed_is o n c q fate w (sent clause) new ((p.number, got p.case item true) ∷ []) old.channels (without old.asleep p.number) tells woke same left
    where
      at : (m : Option (Sleeper × Offer)) → Some p ≡ option_map partner_of m
          → send_to (shared_with o old) n c q k (channel_of old.channels k) item clause m ≡ deed o n c q (sent clause) ((p.number, got p.case item true) ∷ []) old.channels (without old.asleep p.number)
      at None h = absurd (none-some p (sym h))
      at (Some x) h = ap (λ (m : Partner). deed o n c q (sent clause) ((m.number, got m.case item true) ∷ []) old.channels (without old.asleep m.number)) (partner_inj (partner_of x) p (sym h))

  -- it meets nobody
  pub send_buffered : (new : ChannelsValue) (fate : Fate) (w : Vec (ℕ × Reply)) → false ≡ (channel_of old.channels k).closed → None ≡ option_map partner_of (partner k false old.asleep)
      → outcome_of fate ≡ Done (sent clause) → w.items ≡ [] → new.channels ≡ slice_set old.channels k (record (channel_of old.channels k) { items = (channel_of old.channels k).items ++ item ∷ [] }) → new.asleep ≡ old.asleep
      → Sends old n k item clause (came fate w) new
  send_buffered new fate w is e tells woke put same o c q =
      live o c q is ∙ at (partner k false old.asleep) e
      ∙ deed_is o n c q fate w (sent clause) new [] (slice_set old.channels k (record (channel_of old.channels k) { items = (channel_of old.channels k).items ++ item ∷ [] })) old.asleep tells woke put same
    where
      at : (m : Option (Sleeper × Offer)) → None ≡ option_map partner_of m
          → send_to (shared_with o old) n c q k (channel_of old.channels k) item clause m ≡ deed o n c q (sent clause) [] (slice_set old.channels k (record (channel_of old.channels k) { items = (channel_of old.channels k).items ++ item ∷ [] })) old.asleep
      at None h = refl
      at (Some x) h = absurd (none-some (partner_of x) h)

pub given_got : (k : ℕ) (item : Item) (ok : Bool) → given (got k [] ok) item ≡ got k item ok
given_got zero item ok = refl
given_got (suc k) item ok = refl

-- an item enters at a buffer's back, and one leaves at its front
pub front_is : (xs : List Item) (item : Item) → xs ++ item ∷ [] ≡ slice_index_or (xs ++ item ∷ []) 0 [] ∷ drop 1 (xs ++ item ∷ [])
front_is [] item = refl
front_is (y ∷ ys) item = refl

pub is_longer : (xs : List Item) (item : Item) → nat_lt 0 (length (xs ++ item ∷ [])) ≡ true
is_longer xs item = let h : 0 < length (xs ++ item ∷ []) = omega (arith, length-append xs (item ∷ [])) in lt-ltb 0 (length (xs ++ item ∷ [])) h

-- the only one is this now
pub one_is : {A : Type 0} (xs : List A) (x : A) → length xs ≡ 1 → slice_set xs 0 x ≡ x ∷ []
one_is [] x e = absurd (omega arith)
one_is (y ∷ []) x e = refl
one_is (y ∷ z ∷ zs) x e = absurd (omega arith)

pub served : (old : ChannelsValue) (k clause : ℕ) (front : Item) (p : Partner) (r : Reply) (ws : List (ℕ × Reply)) (channels : List Channel) (asleep : List Sleeper)
    → r ≡ got clause front true → ws ≡ (p.number, sent p.case) ∷ []
    → (channel_of old.channels k).items ++ unwrap_or p.item [] ∷ [] ≡ front ∷ after_passing old.channels k (unwrap_or p.item [])
    → channels ≡ slice_set old.channels k (record (channel_of old.channels k) { items = after_passing old.channels k (unwrap_or p.item []) }) → asleep ≡ without old.asleep p.number
    → (o : Others) (n c : ℕ) (q : Request) (x : Sleeper × Offer) → partner_of x ≡ p
    → receive_from (shared_with o old) n c q k (channel_of old.channels k) clause (channel_of old.channels k).items (Some x) ≡ deed o n c q r ws channels asleep
served old k clause front p r ws channels asleep reply woke passed put gone o n c q x e =
    passes old k clause front o n c q x (channel_of old.channels k).items refl (subst (λ (m : Partner). (channel_of old.channels k).items ++ unwrap_or m.item [] ∷ [] ≡ front ∷ after_passing old.channels k (unwrap_or m.item [])) (sym e) passed)
    ∙ ap (λ (l : List Channel). deed o n c q (got clause front true) ((x.0.number, sent x.1.case) ∷ []) l (without old.asleep x.0.number)) (sym (subst (λ (m : Partner). channels ≡ slice_set old.channels k (record (channel_of old.channels k) { items = after_passing old.channels k (unwrap_or m.item []) })) (sym e) put))
    ∙ ap (λ (l : List Sleeper). deed o n c q (got clause front true) ((x.0.number, sent x.1.case) ∷ []) channels l) (sym (subst (λ (m : Partner). asleep ≡ without old.asleep m.number) (sym e) gone))
    ∙ ap (λ (l : List (ℕ × Reply)). deed o n c q (got clause front true) l channels asleep) (sym (subst (λ (m : Partner). ws ≡ (m.number, sent m.case) ∷ []) (sym e) woke))
    ∙ ap (λ (a : Reply). deed o n c q a ws channels asleep) (sym reply)

-- a receive that meets nobody, if an item is in the buffer
pub popped : (old new : ChannelsValue) (k clause : ℕ) (fate : Fate) → nat_lt 0 (length (channel_of old.channels k).items) ≡ true
    → outcome_of fate ≡ Done (got clause (slice_index_or (channel_of old.channels k).items 0 []) true)
    → new.channels ≡ slice_set old.channels k (record (channel_of old.channels k) { items = drop 1 (channel_of old.channels k).items }) → new.asleep ≡ old.asleep → IsAlone old k clause fate new
popped old new k clause fate some tells put same w none o n c q =
    let told_it : Reply = got clause (slice_index_or (channel_of old.channels k).items 0 []) true in
    at (channel_of old.channels k).items some
    ∙ deed_is o n c q fate w told_it new [] (slice_set old.channels k (record (channel_of old.channels k) { items = drop 1 (channel_of old.channels k).items })) old.asleep tells none put same
  where
    at : (xs : List Item) → nat_lt 0 (length xs) ≡ true
        → receive_from (shared_with o old) n c q k (channel_of old.channels k) clause xs None ≡ deed o n c q (got clause (slice_index_or xs 0 []) true) [] (slice_set old.channels k (record (channel_of old.channels k) { items = drop 1 xs })) old.asleep
    at [] e = cc
    at (x ∷ xs) e = refl

abbrev pub with_sleeper : ChannelsValue → ℕ → Request → ChannelsValue
with_sleeper old n q = record { channels = old.channels; asleep = without old.asleep n ++ record { number = n; request = q } ∷ [] }

pub send_sleeps : (old : ChannelsValue) (n k : ℕ) (item : Item) → ((o : Others) (m c : ℕ) (q : Request) → false ≡ send_ready (shared_with o old) m c q k) → Does old n (Send (Some k) item) outcomes.Sleeps (with_sleeper old n (Send (Some k) item))
send_sleeps old n k item ready o c = rw (← ready o n c (Send (Some k) item)) refl

pub receive_sleeps : (old : ChannelsValue) (n k : ℕ) → ((o : Others) (m c : ℕ) (q : Request) → false ≡ receive_ready (shared_with o old) m c q k) → Does old n (Receive (Some k)) outcomes.Sleeps (with_sleeper old n (Receive (Some k)))
receive_sleeps old n k ready o c = rw (← ready o n c (Receive (Some k))) refl

-- one that asked p, and fell asleep, as q stands for it
pub falls_asleep : {A E : Type 0} (old new : ChannelsValue) (n : ℕ) (q p : Request) (fate : Fate) (w : Vec (ℕ × Reply)) (r : Result A E) → OnOk r (fate ≡ fates.Sleeps) → OnOk r (new ≡ with_sleeper old n q) → q ≡ p
    → Does old n p outcomes.Sleeps (with_sleeper old n p) → OnOk r (Does old n p (came fate w) new)
falls_asleep old new n q p fate w (Ok x) sleeps asleep same does =
    let at_p : new ≡ with_sleeper old n p = asleep ∙ ap (with_sleeper old n) same in
    subst (λ (f : Fate). Does old n p (came f w) new) (sym sleeps) (subst (λ (v : ChannelsValue). Does old n p outcomes.Sleeps v) (sym at_p) does)
falls_asleep old new n q p fate w (Err e) sleeps asleep same does = tt

-- a request that wakes nobody
pub nobody_woken : {A E : Type 0} (old new : ChannelsValue) (n : ℕ) (q p : Request) (fate : Fate) (w : Vec (ℕ × Reply)) (r : Result A E) → w.items ≡ [] → q ≡ p → OnOk r ((m : ℕ) → DoesAlone old m p fate new) → OnOk r (Does old n q (came fate w) new)
nobody_woken old new n q p fate w (Ok x) none same does = subst (λ (a : Request). Does old n a (came fate w) new) (sym same) (does n w none)
nobody_woken old new n q p fate w (Err e) none same does = tt

pub send_nil : (old : ChannelsValue) (n : ℕ) (item : Item) → Does old n (Send None item) outcomes.Sleeps (with_sleeper old n (Send None item))
send_nil old n item o c = refl

pub receive_nil : (old : ChannelsValue) (n : ℕ) → Does old n (Receive None) outcomes.Sleeps (with_sleeper old n (Receive None))
receive_nil old n o c = refl
