-- What a request leaves of numbers and counts: each goroutine sleeps once and is woken once, and at most 16,384 are alive.
use Rattle.logical_clock.specs.declared.limits.TheConstants.{MAX_GOROUTINES}
use Rattle.std.proofs.Common.{◌≡◌, ◌≢◌, ℕ, ◌+◌, ◌≤◌, ℤ, pos, negsuc, Bool, true, false, cond, List, [], ◌∷◌, ◌++◌, map, length, Option, Some, None, refl, sym, ◌∙◌, arith}
use Rattle.std.specs.Prelude.{◌==◌, nat_lt}
use Rattle.std.proofs.lemmas.Bool.{true≢false, eq-eqb}
use Rattle.std.proofs.lemmas.List.{length-map, map-append}
use Rattle.word.specs.declared.request.Case.{Case}
use Rattle.word.specs.declared.value.Word.{Word}
use Rattle.word.specs.declared.panic.Panic.TheVariants.{CloseOfClosed, ChannelSize, SendOnClosed, TooManyChannels, TooManyGoroutines}
use Rattle.word.specs.declared.end.End.{End as Ending}
use Rattle.word.specs.Values.{Item, Request, Make, Go, Send, Receive, Close, Select, Len, Cap, Print, End, Exit, Panic, Exhausted, Reply, EventOutcome, Channel, Sleeper, Offer, Shared}
use Rattle.word.specs.Requests.{Deed, channel_of, offers, first_on, also, partner, partners, without, without_all, close_reply, done, sleeps, ends, panics, send_to, do_send, receive_from, do_receive, send_ready, receive_ready, do_close, choose, do_clause, do_select, do_make, do_go, act}
use Rattle.world_core_base.specs.Cores.{Misses, Once, numbers, most_woken}

misses_without : (m n : ℕ) (ss : List Sleeper) → Misses m (numbers ss) → Misses m (numbers (without ss n))
misses_without m n [] h = tt
misses_without m n (s ∷ ss) h = go (misses_without m n ss h.1) (s.number == n)
  where
    go : Misses m (numbers (without ss n)) → (b : Bool) → Misses m (numbers (cond b (without ss n) (s ∷ without ss n)))
    go rest true = rest
    go rest false = (h.0, rest)

without_misses : (n : ℕ) (ss : List Sleeper) → Misses n (numbers (without ss n))
without_misses n [] = tt
without_misses n (s ∷ ss) = go (without_misses n ss) (s.number == n) refl
  where
    go : Misses n (numbers (without ss n)) → (b : Bool) → (s.number == n) ≡ b → Misses n (numbers (cond b (without ss n) (s ∷ without ss n)))
    go rest true e = rest
    go rest false e = ((λ same. true≢false (sym (eq-eqb s.number n same) ∙ e)), rest)

once_without : (n : ℕ) (ss : List Sleeper) → Once (numbers ss) → Once (numbers (without ss n))
once_without n [] h = tt
once_without n (s ∷ ss) h = go (once_without n ss h.1) (s.number == n)
  where
    go : Once (numbers (without ss n)) → (b : Bool) → Once (numbers (cond b (without ss n) (s ∷ without ss n)))
    go rest true = rest
    go rest false = (misses_without s.number n ss h.0, rest)

once_without_all : (ws : List (ℕ × Reply)) (ss : List Sleeper) → Once (numbers ss) → Once (numbers (without_all ss ws))
once_without_all [] ss h = h
once_without_all (w ∷ ws) ss h = once_without_all ws (without ss w.0) (once_without w.0 ss h)

misses_back : (m n : ℕ) (ns : List ℕ) → Misses m ns → n ≢ m → Misses m (ns ++ n ∷ [])
misses_back m n [] h ne = (ne, tt)
misses_back m n (k ∷ ns) h ne = (h.0, misses_back m n ns h.1 ne)

once_back : (n : ℕ) (ns : List ℕ) → Once ns → Misses n ns → Once (ns ++ n ∷ [])
once_back n [] h out = (tt, tt)
once_back n (k ∷ ns) h out = (misses_back k n ns h.0 (λ e. out.0 (sym e)), once_back n ns h.1 out.1)

once_slept : (n : ℕ) (q : Request) (ss : List Sleeper) → Once (numbers ss) → Once (numbers (without ss n ++ record { number = n; request = q } ∷ []))
once_slept n q ss h = rw map-append (once_back n (numbers (without ss n)) (once_without n ss h) (without_misses n ss))

-- ---- those whom a close wakes

abbrev pub woken_numbers : List (ℕ × Reply) → List ℕ
woken_numbers ws = map (λ (w : ℕ × Reply). w.0) ws

abbrev closed : Item → List (Sleeper × Offer) → List (ℕ × Reply)
closed z ps = map (λ (p : Sleeper × Offer). (p.0.number, close_reply z p.1)) ps

misses_partners : (m c : ℕ) (z : Item) (ss : List Sleeper) → Misses m (numbers ss) → Misses m (woken_numbers (closed z (partners c ss)))
misses_partners m c z [] h = tt
misses_partners m c z (s ∷ ss) h = go (misses_partners m c z ss h.1) (first_on c (offers s.request))
  where
    go : Misses m (woken_numbers (closed z (partners c ss))) → (o : Option Offer) → Misses m (woken_numbers (closed z (also s o (partners c ss))))
    go rest None = rest
    go rest (Some o) = (h.0, rest)

once_partners : (c : ℕ) (z : Item) (ss : List Sleeper) → Once (numbers ss) → Once (woken_numbers (closed z (partners c ss)))
once_partners c z [] h = tt
once_partners c z (s ∷ ss) h = go (once_partners c z ss h.1) (first_on c (offers s.request))
  where
    go : Once (woken_numbers (closed z (partners c ss))) → (o : Option Offer) → Once (woken_numbers (closed z (also s o (partners c ss))))
    go rest None = rest
    go rest (Some o) = (misses_partners s.number c z ss h.0, rest)

as_many : (c : ℕ) (z : Item) (ss : List Sleeper) → length (closed z (partners c ss)) ≡ length (partners c ss)
as_many c z ss = length-map (partners c ss) (λ (p : Sleeper × Offer). (p.0.number, close_reply z p.1))

-- ---- each request

pub record Orderly (w : Shared) (most : ℕ) (d : Deed) : Type 0 where
  pub asleep : Once (numbers w.asleep) → Once (numbers d.shared.asleep)
  pub woken : Once (numbers w.asleep) → Once (woken_numbers d.woken)
  pub few : length d.woken ≤ most
  pub made : d.shared.made ≡ w.made + length d.started
  pub live : w.live ≤ MAX_GOROUTINES → d.shared.live ≤ MAX_GOROUTINES

module _ (w : Shared) (n c : ℕ) (q : Request) (most : ℕ) where
  by_done : (v : Shared) (reply : Reply) (ws : List (ℕ × Reply)) → v.asleep ≡ w.asleep → v.made ≡ w.made → v.live ≡ w.live → (Once (numbers w.asleep) → Once (woken_numbers ws)) → length ws ≤ most → Orderly w most (done w n c q v reply ws)
  by_done v reply ws a m l once few = record {
    asleep = λ h. once_without_all ws v.asleep (rw a h);
    woken = once;
    few = few;
    made = m ∙ omega arith;
    live = λ h. rw l h;
  }

  by_sleeps : Orderly w most (sleeps w n c q)
  by_sleeps = record { asleep = once_slept n q w.asleep; woken = λ h. tt; few = omega arith; made = omega arith; live = λ h. h }

  by_ends : (o : EventOutcome) (e : Ending) → Orderly w most (ends w n c q o e)
  by_ends o e = record { asleep = λ h. h; woken = λ h. tt; few = omega arith; made = omega arith; live = λ h. h }

  by_cond : (b : Bool) (d e : Deed) → Orderly w most d → Orderly w most e → Orderly w most (cond b d e)
  by_cond true d e h k = h
  by_cond false d e h k = k

  module _ (one : 1 ≤ most) where
    by_send_to : (k : ℕ) (ch : Channel) (item : Item) (i : ℕ) (o : Option (Sleeper × Offer)) → Orderly w most (send_to w n c q k ch item i o)
    by_send_to k ch item i None = by_done _ _ [] refl refl refl (λ h. tt) (omega arith)
    by_send_to k ch item i (Some p) = by_done w _ (_ ∷ []) refl refl refl (λ h. (tt, tt)) one

    by_send : (k : ℕ) (item : Item) (i : ℕ) → Orderly w most (do_send w n c q k item i)
    by_send k item i = by_cond (channel_of w.channels k).closed (panics w n c q SendOnClosed i) (send_to w n c q k (channel_of w.channels k) item i (partner k false w.asleep)) (by_ends _ _) (by_send_to k (channel_of w.channels k) item i (partner k false w.asleep))

    by_receive_from : (k : ℕ) (ch : Channel) (i : ℕ) (items : List Item) (o : Option (Sleeper × Offer)) → Orderly w most (receive_from w n c q k ch i items o)
    by_receive_from k ch i (x ∷ xs) None = by_done _ _ [] refl refl refl (λ h. tt) (omega arith)
    by_receive_from k ch i (x ∷ xs) (Some p) = by_done _ _ (_ ∷ []) refl refl refl (λ h. (tt, tt)) one
    by_receive_from k ch i [] None = by_done w _ [] refl refl refl (λ h. tt) (omega arith)
    by_receive_from k ch i [] (Some p) = by_done w _ (_ ∷ []) refl refl refl (λ h. (tt, tt)) one

    by_receive : (k i : ℕ) → Orderly w most (do_receive w n c q k i)
    by_receive k i = by_receive_from k (channel_of w.channels k) i (channel_of w.channels k).items (partner k true w.asleep)

    by_clause : (i : ℕ) (chan : Option ℕ) (item : Option Item) → Orderly w most (do_clause w n c q i chan item)
    by_clause i None item = by_sleeps
    by_clause i (Some k) None = by_receive k i
    by_clause i (Some k) (Some item) = by_send k item i

    by_select : (default : Bool) (o : Option (ℕ × Case)) → Orderly w most (do_select w n c q default o)
    by_select default (Some x) = by_clause x.0 x.1.chan x.1.item
    by_select true None = by_done w _ [] refl refl refl (λ h. tt) (omega arith)
    by_select false None = by_sleeps

  by_make : (size : ℤ) (z : Item) → Orderly w most (do_make w n c q size z)
  by_make (negsuc m) z = by_ends _ _
  by_make (pos size) z = by_cond (nat_lt 65536 size) (panics w n c q ChannelSize 0) _ (by_ends _ _) (by_cond (length w.channels == 65537) (panics w n c q TooManyChannels 0) _ (by_ends _ _) (by_done _ _ [] refl refl refl (λ h. tt) (omega arith)))

  by_cond_false : (b : Bool) (d e : Deed) → Orderly w most d → (b ≡ false → Orderly w most e) → Orderly w most (cond b d e)
  by_cond_false true d e h k = h
  by_cond_false false d e h k = k refl

  by_go : (f : ℕ) (args : List Word) → Orderly w most (do_go w n c q f args)
  by_go f args = by_cond_false (w.live == MAX_GOROUTINES) (panics w n c q TooManyGoroutines 0) _ (by_ends _ _) (λ e. record {
    asleep = λ h. h;
    woken = λ h. tt;
    few = omega arith;
    made = refl;
    live = λ h. below h (λ s. true≢false (sym (eq-eqb w.live MAX_GOROUTINES s) ∙ e));
  })
    where
      below : {k : ℕ} → k ≤ MAX_GOROUTINES → k ≢ MAX_GOROUTINES → k + 1 ≤ MAX_GOROUTINES
      below h ne = omega arith

  by_close : (k : ℕ) → length (partners k w.asleep) ≤ most → Orderly w most (do_close w n c q k)
  by_close k le =
      let ch = channel_of w.channels k in
      by_cond ch.closed (panics w n c q CloseOfClosed 0) _ (by_ends _ _)
      (by_done _ _ (closed ch.zero (partners k w.asleep)) refl refl refl (once_partners k ch.zero w.asleep) (let few = as_many k ch.zero w.asleep in omega (arith, few, le)))

pub orderly : (w : Shared) (n c : ℕ) (p q : Request) → Orderly w (most_woken q w.asleep) (act w n c p q)
orderly w n c p (Make size z) = by_make w n c p 1 size z
orderly w n c p (Go f args) = by_go w n c p 1 f args
orderly w n c p (Send None item) = by_sleeps w n c p 1
orderly w n c p (Send (Some k) item) = by_cond w n c p 1 (send_ready w n c p k) (do_send w n c p k item 0) (sleeps w n c p) (by_send w n c p 1 (omega arith) k item 0) (by_sleeps w n c p 1)
orderly w n c p (Receive None) = by_sleeps w n c p 1
orderly w n c p (Receive (Some k)) = by_cond w n c p 1 (receive_ready w n c p k) (do_receive w n c p k 0) (sleeps w n c p) (by_receive w n c p 1 (omega arith) k 0) (by_sleeps w n c p 1)
orderly w n c p (Close None) = by_ends w n c p 0 _ _
orderly w n c p (Close (Some k)) = by_close w n c p (length (partners k w.asleep)) k (omega arith)
orderly w n c p (Select cases default) = by_select w n c p 1 (omega arith) default (choose w n c p cases)
orderly w n c p (Len None) = by_done w n c p 1 w _ [] refl refl refl (λ h. tt) (omega arith)
orderly w n c p (Len (Some k)) = by_done w n c p 1 w _ [] refl refl refl (λ h. tt) (omega arith)
orderly w n c p (Cap None) = by_done w n c p 1 w _ [] refl refl refl (λ h. tt) (omega arith)
orderly w n c p (Cap (Some k)) = by_done w n c p 1 w _ [] refl refl refl (λ h. tt) (omega arith)
orderly w n c p (Print bytes) = by_done w n c p 1 _ _ [] refl refl refl (λ h. tt) (omega arith)
orderly w n c p End = record { asleep = λ h. h; woken = λ h. tt; few = omega arith; made = omega arith; live = λ h. omega (arith, h) }
orderly w n c p Exit = by_ends w n c p 1 _ _
orderly w n c p (Panic cause) = by_ends w n c p 1 _ _
orderly w n c p Exhausted = by_ends w n c p 1 _ _
