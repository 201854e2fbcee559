-- All ends of a small program, by computation.
use Rattle.std.proofs.Common.{◌≡◌, ℕ, zero, suc, pos, negsuc, ◌==◌, Bool, true, false, ◌&&◌, cond, List, [], ◌∷◌, ◌++◌, map, length, Option, Some, None, refl, sym, ap, ◌∙◌, subst, inl, inr, bytes_eq, slice_index_or}
use Rattle.std.specs.Option.{is_some}
use Rattle.std.proofs.lemmas.Bool.{and_from, and_parts, eqb-true, false≢true}
use Rattle.std.proofs.lemmas.Slice.Eq.{bytes_eq-Decides}
use Rattle.word.specs.declared.end.End.{End as Ending}
use Rattle.word.specs.declared.end.End.TheVariants.{Finished, Panicked, Deadlock, Exhausted as RanOut}
use Rattle.word.specs.declared.panic.Panic.{Panic as Cause}
use Rattle.word.specs.declared.panic.Panic.TheVariants as causes
use Rattle.word.specs.Values.{Request, Make, Go, Send, Receive, Close, Select, Len, Cap, Print, End, Exit, Panic, Exhausted, Offer}
use Rattle.word.specs.Kinds.{Next, Slides, Ticks, Asks, Stuck, GoroutineKind}
use Rattle.word.specs.Requests.{channel_of, offers}
use Rattle.allowed.specs.Orders.{Scene, IsOneOf, Waits, at, Goes, Ends, returns, exits, panics, sends, closes, closes_nil, makes, deadlock, Leads, here, more, first}
use Rattle.allowed.specs.Rows.{HasExactly}
use Rattle.allowed.proofs.Listing.{in_left, in_right, in_either, when, in_when, of_when, all, all_in, is_empty, none_in, empty_if, gather, in_gather, of_gather, below, in_below, waits, waits_is, is_waiting, moves, all_moves, only_moves}
use Rattle.allowed.proofs.Stands.{within}

in_map : {A B : Type 0} (f : A → B) (xs : List A) (x : A) → IsOneOf x xs → IsOneOf (f x) (map f xs)
in_map f [] x i = absurd i
in_map f (y ∷ ys) x (inl e) = inl (ap f e)
in_map f (y ∷ ys) x (inr i) = inr (in_map f ys x i)

of_map : {A B : Type 0} (f : A → B) (xs : List A) (y : B) → IsOneOf y (map f xs) → (x : A) × IsOneOf x xs × (y ≡ f x)
of_map f [] y i = absurd i
of_map f (x ∷ xs) y (inl e) = (x, inl refl, e)
of_map f (x ∷ xs) y (inr i) = let r = of_map f xs y i in (r.0, inr r.1, r.2)

module _ (K : GoroutineKind) where
  module _ (w : Scene K.State) where
    abbrev pub asked_ends : ℕ → Request → List Ending
    asked_ends n End = when (n == 1) Finished
    asked_ends n Exit = Finished ∷ []
    asked_ends n (Panic cause) = Panicked cause ∷ []
    asked_ends n (Close (Some c)) = when (channel_of w.channels c).closed (Panicked causes.CloseOfClosed)
    asked_ends n (Close None) = Panicked causes.CloseOfNil ∷ []
    asked_ends n (Make (negsuc size) z) = Panicked causes.ChannelSize ∷ []
    asked_ends n q = []

    abbrev pub offer_end : Offer → List Ending
    offer_end o = when (is_some o.item && (channel_of w.channels o.chan).closed) (Panicked causes.SendOnClosed)

    abbrev pub next_ends : ℕ → Next K.State → List Ending
    next_ends n (Asks q) = asked_ends n q ++ gather offer_end (offers q)
    next_ends n x = []

    abbrev pub ends_by : ℕ → Option K.State → List Ending
    ends_by n None = []
    ends_by n (Some s) = next_ends n (K.next s)

    abbrev pub ends_at : ℕ → List Ending
    ends_at n = ends_by n (at w n)

    abbrev pub waits_next : Next K.State → Bool
    waits_next (Asks q) = waits w.channels q
    waits_next x = false

    abbrev pub waits_by : Option K.State → Bool
    waits_by None = true
    waits_by (Some s) = waits_next (K.next s)

    abbrev pub is_stuck : Bool
    is_stuck = all (λ n. waits_by (at w n)) (below (length w.goroutines)) && is_empty (moves K w)

    abbrev pub ends : List Ending
    ends = gather ends_at (below (length w.goroutines)) ++ when is_stuck Deadlock

    -- ---- each end is listed

    in_ends : (n : ℕ) (s : K.State) (q : Request) (e : Ending) → at w n ≡ Some s → K.next s ≡ Asks q → IsOneOf e (asked_ends n q ++ gather offer_end (offers q)) → IsOneOf e ends
    in_ends n s q e h a i =
        in_left e (gather ends_at (below (length w.goroutines))) (when is_stuck Deadlock)
        (in_gather ends_at (below (length w.goroutines)) n e (in_below n (length w.goroutines) (within w.goroutines n s h))
        (subst (λ o. IsOneOf e (ends_by n o)) (sym h) (subst (λ x. IsOneOf e (next_ends n x)) (sym a) i)))

    waits_at : ((n : ℕ) (s : K.State) → at w n ≡ Some s → (q : Request) × (K.next s ≡ Asks q) × Waits w.channels q) → (n : ℕ) (o : Option K.State) → at w n ≡ o → waits_by o ≡ true
    waits_at each n None h = refl
    waits_at each n (Some s) h = let r = each n s h in subst (λ x. waits_next x ≡ true) (sym r.1) (is_waiting w.channels r.0 r.2)

    all_wait : ((n : ℕ) → waits_by (at w n) ≡ true) → (ns : List ℕ) → all (λ n. waits_by (at w n)) ns ≡ true
    all_wait each [] = refl
    all_wait each (n ∷ ns) = and_from (waits_by (at w n)) (all (λ m. waits_by (at w m)) ns) (each n) (all_wait each ns)

    all_ends : (e : Ending) → Ends K w e → IsOneOf e ends
    all_ends e (returns s h a) = in_ends 1 s End e h a (inl refl)
    all_ends e (exits n s h a) = in_ends n s Exit e h a (inl refl)
    all_ends e (panics n s cause h a) = in_ends n s (Panic cause) e h a (inl refl)
    all_ends e (sends n s q o h a one is closed) =
        in_ends n s q e h a
        (in_right e (asked_ends n q) (gather offer_end (offers q)) (in_gather offer_end (offers q) o e one (in_when (is_some o.item && (channel_of w.channels o.chan).closed) (Panicked causes.SendOnClosed) (and_from (is_some o.item) (channel_of w.channels o.chan).closed is closed))))
    all_ends e (closes n s c h a closed) = in_ends n s (Close (Some c)) e h a (in_left e (when (channel_of w.channels c).closed (Panicked causes.CloseOfClosed)) [] (in_when (channel_of w.channels c).closed (Panicked causes.CloseOfClosed) closed))
    all_ends e (closes_nil n s h a) = in_ends n s (Close None) e h a (inl refl)
    all_ends e (makes n s size z h a) = in_ends n s (Make (negsuc size) z) e h a (inl refl)
    all_ends e (deadlock each never) =
        in_right e (gather ends_at (below (length w.goroutines))) (when is_stuck Deadlock)
        (in_when is_stuck Deadlock (and_from (all (λ n. waits_by (at w n)) (below (length w.goroutines))) (is_empty (moves K w))
        (all_wait (λ n. waits_at each n (at w n) refl) (below (length w.goroutines)))
        (empty_if (moves K w) (λ v i. never v (only_moves K w v i)))))

    -- ---- and nothing else

    one_of : (e d : Ending) → IsOneOf e (d ∷ []) → e ≡ d
    one_of e d (inl h) = h
    one_of e d (inr i) = absurd i

    ends_asked : (n : ℕ) (s : K.State) (q : Request) → at w n ≡ Some s → K.next s ≡ Asks q → (e : Ending) → IsOneOf e (asked_ends n q) → Ends K w e
    ends_asked n s End h a e i =
        let r = of_when (n == 1) Finished e i in
        subst (Ends K w) (sym r.1) (returns s (subst (λ m. at w m ≡ Some s) (eqb-true n 1 r.0) h) a)
    ends_asked n s Exit h a e i = subst (Ends K w) (sym (one_of e Finished i)) (exits n s h a)
    ends_asked n s (Panic cause) h a e i = subst (Ends K w) (sym (one_of e (Panicked cause) i)) (panics n s cause h a)
    ends_asked n s (Close (Some c)) h a e i =
        let r = of_when (channel_of w.channels c).closed (Panicked causes.CloseOfClosed) e i in
        subst (Ends K w) (sym r.1) (closes n s c h a r.0)
    ends_asked n s (Close None) h a e i = subst (Ends K w) (sym (one_of e (Panicked causes.CloseOfNil) i)) (closes_nil n s h a)
    ends_asked n s (Make (negsuc size) z) h a e i = subst (Ends K w) (sym (one_of e (Panicked causes.ChannelSize) i)) (makes n s size z h a)
    ends_asked n s (Make (pos size) z) h a e i = absurd i
    ends_asked n s (Go f args) h a e i = absurd i
    ends_asked n s (Send c item) h a e i = absurd i
    ends_asked n s (Receive c) h a e i = absurd i
    ends_asked n s (Select cases default) h a e i = absurd i
    ends_asked n s (Len c) h a e i = absurd i
    ends_asked n s (Cap c) h a e i = absurd i
    ends_asked n s (Print bytes) h a e i = absurd i
    ends_asked n s Exhausted h a e i = absurd i

    ends_offered : (n : ℕ) (s : K.State) (q : Request) → at w n ≡ Some s → K.next s ≡ Asks q → (e : Ending) → IsOneOf e (gather offer_end (offers q)) → Ends K w e
    ends_offered n s q h a e i =
        let r = of_gather offer_end (offers q) e i in
        let z = of_when (is_some r.0.item && (channel_of w.channels r.0.chan).closed) (Panicked causes.SendOnClosed) e r.2 in
        let p = and_parts (is_some r.0.item) (channel_of w.channels r.0.chan).closed z.0 in
        subst (Ends K w) (sym z.1) (sends n s q r.0 h a r.1 p.0 p.1)

    ends_next : (n : ℕ) (s : K.State) → at w n ≡ Some s → (x : Next K.State) → K.next s ≡ x → (e : Ending) → IsOneOf e (next_ends n x) → Ends K w e
    ends_next n s h (Asks q) a e i = elim (in_either e (asked_ends n q) (gather offer_end (offers q)) i) [ inl j ↦ ends_asked n s q h a e j | inr j ↦ ends_offered n s q h a e j ]
    ends_next n s h (Slides t) a e i = absurd i
    ends_next n s h (Ticks t) a e i = absurd i
    ends_next n s h Stuck a e i = absurd i

    ends_here : (n : ℕ) (o : Option K.State) → at w n ≡ o → (e : Ending) → IsOneOf e (ends_by n o) → Ends K w e
    ends_here n None h e i = absurd i
    ends_here n (Some s) h e i = ends_next n s h (K.next s) refl e i

    waiting : (x : Next K.State) → waits_next x ≡ true → (q : Request) × (x ≡ Asks q) × Waits w.channels q
    waiting (Asks q) h = (q, refl, waits_is w.channels q h)
    waiting (Slides t) h = absurd (false≢true h)
    waiting (Ticks t) h = absurd (false≢true h)
    waiting Stuck h = absurd (false≢true h)

    stuck_ends : is_stuck ≡ true → Ends K w Deadlock
    stuck_ends h =
        let p = and_parts (all (λ n. waits_by (at w n)) (below (length w.goroutines))) (is_empty (moves K w)) h in
        deadlock
        (λ n s here'. waiting (K.next s) (subst (λ o. waits_by o ≡ true) here' (all_in (λ m. waits_by (at w m)) (below (length w.goroutines)) n p.0 (in_below n (length w.goroutines) (within w.goroutines n s here')))))
        (λ v g. none_in (moves K w) v p.1 (all_moves K w v g))

    only_ends : (e : Ending) → IsOneOf e ends → Ends K w e
    only_ends e i = elim (in_either e (gather ends_at (below (length w.goroutines))) (when is_stuck Deadlock) i) [
      | inl j ↦ let r = of_gather ends_at (below (length w.goroutines)) e j in ends_here r.0 (at w r.0) refl e r.2
      | inr j ↦ let r = of_when is_stuck Deadlock e j in subst (Ends K w) (sym r.1) (stuck_ends r.0)
    ]

  -- ---- runs of up to so many moves

  abbrev pub ends_seen : Scene K.State → List (List ℕ × Ending)
  ends_seen w = map (λ (e : Ending). (w.output, e)) (ends w)

  abbrev pub found : ℕ → Scene K.State → List (List ℕ × Ending)
  found zero w = []
  found (suc k) w = ends_seen w ++ gather (found k) (moves K w)

  -- no run has more moves
  abbrev pub is_whole : ℕ → Scene K.State → Bool
  is_whole zero w = false
  is_whole (suc k) w = all (is_whole k) (moves K w)

  -- a run from its first move on
  data Path (v : Scene K.State) : Scene K.State → Type 0 where
    there : Path v v
    goes : {w u : Scene K.State} → Goes K w u → Path v u → Path v w

  path_more : (v u w : Scene K.State) → Path v w → Goes K v u → Path u w
  path_more v u w there g = goes g there
  path_more v u w (goes {u = x} f rest) g = goes f (path_more v u x rest g)

  path_of : (w v : Scene K.State) → Leads K w v → Path v w
  path_of w v here = there
  path_of w v (more {v = x} run g) = path_more x v w (path_of w x run) g

  leads_first : (w u v : Scene K.State) → Goes K w u → Leads K u v → Leads K w v
  leads_first w u v g here = more here g
  leads_first w u v g (more {v = x} run f) = more (leads_first w u x g run) f

  all_found : (k : ℕ) (w v : Scene K.State) (e : Ending) → is_whole k w ≡ true → Path v w → Ends K v e → IsOneOf (v.output, e) (found k w)
  all_found zero w v e whole path end = absurd (false≢true whole)
  all_found (suc k) w v e whole there end = in_left (v.output, e) (ends_seen w) (gather (found k) (moves K w)) (in_map (λ (d : Ending). (w.output, d)) (ends w) e (all_ends w e end))
  all_found (suc k) w v e whole (goes {u = u} g rest) end =
      in_right (v.output, e) (ends_seen w) (gather (found k) (moves K w))
      (in_gather (found k) (moves K w) u (v.output, e) (all_moves K w u g) (all_found k u v e (all_in (is_whole k) (moves K w) u whole (all_moves K w u g)) rest end))

  record Reached (w : Scene K.State) (x : List ℕ × Ending) : Type 0 where
    last : Scene K.State
    run : Leads K w last
    end : Ends K last x.1
    printed : last.output ≡ x.0

  only_found : (k : ℕ) (w : Scene K.State) (x : List ℕ × Ending) → IsOneOf x (found k w) → Reached w x
  only_found zero w x i = absurd i
  only_found (suc k) w x i = elim (in_either x (ends_seen w) (gather (found k) (moves K w)) i) [
    | inl j ↦ let r = of_map (λ (e : Ending). (w.output, e)) (ends w) x j in record { last = w; run = here; end = subst (Ends K w) (sym (ap (λ (y : List ℕ × Ending). y.1) r.2)) (only_ends w r.0 r.1); printed = sym (ap (λ (y : List ℕ × Ending). y.0) r.2) }
    | inr j ↦
        let r = of_gather (found k) (moves K w) x j in
        let z = only_found k r.0 x r.2 in
        record { last = z.last; run = leads_first w r.0 z.last (only_moves K w r.0 r.1) z.run; end = z.end; printed = z.printed }
  ]

-- ---- the same ends

abbrev pub cause_number : Cause → ℕ
cause_number causes.DivideByZero = 0
cause_number causes.SendOnClosed = 1
cause_number causes.CloseOfClosed = 2
cause_number causes.CloseOfNil = 3
cause_number causes.NegativeShift = 4
cause_number causes.ChannelSize = 5
cause_number causes.CallDepth = 6
cause_number causes.TooManyGoroutines = 7
cause_number causes.TooManyChannels = 8

abbrev cause_of : ℕ → Cause
cause_of n =
    slice_index_or (causes.DivideByZero ∷ causes.SendOnClosed ∷ causes.CloseOfClosed ∷ causes.CloseOfNil ∷ causes.NegativeShift ∷ causes.ChannelSize ∷ causes.CallDepth ∷ causes.TooManyGoroutines ∷ []) n causes.TooManyChannels

cause_back : (cause : Cause) → cause_of (cause_number cause) ≡ cause
cause_back causes.DivideByZero = refl
cause_back causes.SendOnClosed = refl
cause_back causes.CloseOfClosed = refl
cause_back causes.CloseOfNil = refl
cause_back causes.NegativeShift = refl
cause_back causes.ChannelSize = refl
cause_back causes.CallDepth = refl
cause_back causes.TooManyGoroutines = refl
cause_back causes.TooManyChannels = refl

abbrev pub is_same_ending : Ending → Ending → Bool
is_same_ending Finished Finished = true
is_same_ending Deadlock Deadlock = true
is_same_ending RanOut RanOut = true
is_same_ending (Panicked p) (Panicked q) = cause_number p == cause_number q
is_same_ending _ _ = false

same_ending : (e d : Ending) → is_same_ending e d ≡ true → e ≡ d
same_ending Finished Finished h = refl
same_ending Deadlock Deadlock h = refl
same_ending RanOut RanOut h = refl
same_ending (Panicked p) (Panicked q) h = ap (λ (c : Cause). Panicked c) (sym (cause_back p) ∙ ap cause_of (eqb-true (cause_number p) (cause_number q) h) ∙ cause_back q)
same_ending Finished Deadlock h = absurd (false≢true h)
same_ending Finished RanOut h = absurd (false≢true h)
same_ending Finished (Panicked q) h = absurd (false≢true h)
same_ending Deadlock Finished h = absurd (false≢true h)
same_ending Deadlock RanOut h = absurd (false≢true h)
same_ending Deadlock (Panicked q) h = absurd (false≢true h)
same_ending RanOut Finished h = absurd (false≢true h)
same_ending RanOut Deadlock h = absurd (false≢true h)
same_ending RanOut (Panicked q) h = absurd (false≢true h)
same_ending (Panicked p) Finished h = absurd (false≢true h)
same_ending (Panicked p) Deadlock h = absurd (false≢true h)
same_ending (Panicked p) RanOut h = absurd (false≢true h)

abbrev pub is_same : List ℕ × Ending → List ℕ × Ending → Bool
is_same x y = bytes_eq x.0 y.0 && is_same_ending x.1 y.1

abbrev pub is_among : List (List ℕ × Ending) → List ℕ × Ending → Bool
is_among [] x = false
is_among (y ∷ ys) x = cond (is_same x y) true (is_among ys x)

among : (ys : List (List ℕ × Ending)) (x : List ℕ × Ending) → is_among ys x ≡ true → IsOneOf x ys
among [] x h = absurd (false≢true h)
among (y ∷ ys) x h = go (is_same x y) refl h (λ h'. among ys x h')
  where
    go : (b : Bool) → is_same x y ≡ b → cond b true (is_among ys x) ≡ true → (is_among ys x ≡ true → IsOneOf x ys) → IsOneOf x (y ∷ ys)
    go true e h' rec =
        let p = and_parts (bytes_eq x.0 y.0) (is_same_ending x.1 y.1) e in
        inl (ap (λ (o : List ℕ). (o, x.1)) ((bytes_eq-Decides x.0 y.0).0 p.0) ∙ ap (λ (d : Ending). (y.0, d)) (same_ending x.1 y.1 p.1))
    go false e h' rec = inr (rec h')

abbrev pub all_among : List (List ℕ × Ending) → List (List ℕ × Ending) → Bool
all_among xs ys = all (is_among ys) xs

-- no run has more than k moves, and their ends are these
abbrev pub Computes : GoroutineKind → ℕ → List (List ℕ × Ending) → Type 0
Computes K k listed = (is_whole K k (first K) ≡ true) × (all_among (found K k (first K)) listed ≡ true) × (all_among listed (found K k (first K)) ≡ true)

pub computed : (K : GoroutineKind) (k : ℕ) (listed : List (List ℕ × Ending)) → Computes K k listed → HasExactly K listed
computed K k listed c = record {
  each = λ output ending. (
    (λ h.
        let i = all_found K k (first K) h.last ending c.0 (path_of K (first K) h.last h.run) h.ends in
        let x = subst (λ o. IsOneOf (o, ending) (found K k (first K))) h.printed i in
        among listed (output, ending) (all_in (is_among listed) (found K k (first K)) (output, ending) c.1 x)),
    (λ i.
        let r = only_found K k (first K) (output, ending) (among (found K k (first K)) (output, ending) (all_in (is_among (found K k (first K))) listed (output, ending) c.2 i)) in
        record { last = r.last; run = r.run; ends = r.end; printed = r.printed }),
  );
}
