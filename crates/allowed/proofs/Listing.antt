-- All moves of a scene, as a list, so that the runs of a small program can be computed.
use Rattle.std.proofs.Common.{◌≡◌, ◌≢◌, ◌⊎◌, ℕ, zero, suc, ◌<◌, pos, negsuc, ◌==◌, Bool, true, false, ◌&&◌, ◌||◌, not, cond, List, [], ◌∷◌, ◌++◌, length, Option, Some, None, refl, sym, ◌∙◌, subst, arith, inl, inr, slice_set}
use Rattle.std.proofs.lemmas.Bool.{and_from, and_parts, cases_eq, eq-eqb, eqb-true, false≢true, ne_eqb, not-true, not_from_false, or_cases, or_left, or_right}
use Rattle.word.specs.declared.value.Word.TheVariants.{Int, Chan}
use Rattle.word.specs.Values.{Item, Request, Make, Go, Send, Receive, Close, Select, Len, Cap, Print, End, Exit, Panic, Exhausted, Reply, Nothing, Value, Default, Offer, Channel}
use Rattle.word.specs.Kinds.{Next, Slides, Ticks, Asks, Stuck, GoroutineKind}
use Rattle.word.specs.Requests.{channel_of, offers, sent, got}
use Rattle.allowed.specs.Orders.{Scene, IsOneOf, has_space, is_ready, NoneReady, CanWait, Waits, items_in, capacity_in, with_items, Acts, makes, puts, takes, drains, defaults, closes, lens, caps, prints, Meets, at, Goes, steps, acts, starts, leaves, meet}
use Rattle.allowed.proofs.Stands.{within}

-- ---- lists

module _ {A : Type 0} where
  pub in_left : (x : A) (xs ys : List A) → IsOneOf x xs → IsOneOf x (xs ++ ys)
  in_left x [] ys h = absurd h
  in_left x (y ∷ xs) ys (inl e) = inl e
  in_left x (y ∷ xs) ys (inr h) = inr (in_left x xs ys h)

  pub in_right : (x : A) (xs ys : List A) → IsOneOf x ys → IsOneOf x (xs ++ ys)
  in_right x [] ys h = h
  in_right x (y ∷ xs) ys h = inr (in_right x xs ys h)

  pub in_either : (x : A) (xs ys : List A) → IsOneOf x (xs ++ ys) → IsOneOf x xs ⊎ IsOneOf x ys
  in_either x [] ys h = inr h
  in_either x (y ∷ xs) ys (inl e) = inl (inl e)
  in_either x (y ∷ xs) ys (inr h) = elim (in_either x xs ys h) [ inl a ↦ inl (inr a) | inr b ↦ inr b ]

  -- one element, or none
  abbrev pub when : Bool → A → List A
  when true x = x ∷ []
  when false x = []

  pub in_when : (b : Bool) (x : A) → b ≡ true → IsOneOf x (when b x)
  in_when true x e = inl refl
  in_when false x e = absurd (false≢true e)

  pub of_when : (b : Bool) (x y : A) → IsOneOf y (when b x) → (b ≡ true) × (y ≡ x)
  of_when true x y (inl e) = (refl, e)
  of_when true x y (inr h) = absurd h
  of_when false x y h = absurd h

  abbrev pub all : (A → Bool) → List A → Bool
  all test [] = true
  all test (x ∷ xs) = test x && all test xs

  pub all_in : (test : A → Bool) (xs : List A) (x : A) → all test xs ≡ true → IsOneOf x xs → test x ≡ true
  all_in test [] x h i = absurd i
  all_in test (y ∷ ys) x h (inl e) = subst (λ z. test z ≡ true) (sym e) (and_parts (test y) (all test ys) h).0
  all_in test (y ∷ ys) x h (inr i) = all_in test ys x (and_parts (test y) (all test ys) h).1 i

  abbrev pub is_empty : List A → Bool
  is_empty [] = true
  is_empty (x ∷ xs) = false

  pub none_in : (xs : List A) (x : A) → is_empty xs ≡ true → IsOneOf x xs → ⊥
  none_in [] x h i = i
  none_in (y ∷ ys) x h i = absurd (false≢true h)

  pub empty_if : (xs : List A) → ((x : A) → IsOneOf x xs → ⊥) → is_empty xs ≡ true
  empty_if [] h = refl
  empty_if (y ∷ ys) h = absurd (h y (inl refl))

module _ {A B : Type 0} (f : A → List B) where
  abbrev pub gather : List A → List B
  gather [] = []
  gather (x ∷ xs) = f x ++ gather xs

  pub in_gather : (xs : List A) (x : A) (y : B) → IsOneOf x xs → IsOneOf y (f x) → IsOneOf y (gather xs)
  in_gather [] x y i h = absurd i
  in_gather (z ∷ zs) x y (inl e) h = in_left y (f z) (gather zs) (subst (λ w. IsOneOf y (f w)) e h)
  in_gather (z ∷ zs) x y (inr i) h = in_right y (f z) (gather zs) (in_gather zs x y i h)

  pub of_gather : (xs : List A) (y : B) → IsOneOf y (gather xs) → (x : A) × IsOneOf x xs × IsOneOf y (f x)
  of_gather [] y h = absurd h
  of_gather (z ∷ zs) y h = elim (in_either y (f z) (gather zs) h) [
    | inl a ↦ (z, inl refl, a)
    | inr b ↦ let r = of_gather zs y b in (r.0, inr r.1, r.2)
  ]

abbrev pub below : ℕ → List ℕ
below zero = []
below (suc k) = k ∷ below k

pub in_below : (n k : ℕ) → n < k → IsOneOf n (below k)
in_below n zero l = absurd (omega (arith, l))
in_below n (suc k) l = elim (cases_eq n k) [ inl e ↦ inl e | inr ne ↦ inr (in_below n k (omega (arith, l, ne))) ]

-- ---- who waits

module _ (cs : List Channel) where
  abbrev pub none_ready : List Offer → Bool
  none_ready [] = true
  none_ready (o ∷ os) = not (is_ready cs o) && none_ready os

  none_is : (os : List Offer) → none_ready os ≡ true → NoneReady cs os
  none_is [] h = tt
  none_is (o ∷ os) h = let p = and_parts (not (is_ready cs o)) (none_ready os) h in (not-true (is_ready cs o) p.0, none_is os p.1)

  is_none : (os : List Offer) → NoneReady cs os → none_ready os ≡ true
  is_none [] h = refl
  is_none (o ∷ os) h = and_from (not (is_ready cs o)) (none_ready os) (not_from_false (is_ready cs o) h.0) (is_none os h.1)

  abbrev pub can_wait : Request → Bool
  can_wait (Send c item) = true
  can_wait (Receive c) = true
  can_wait (Select cases default) = not default
  can_wait q = false

  can_is : (q : Request) → can_wait q ≡ true → CanWait q
  can_is (Send c item) h = tt
  can_is (Receive c) h = tt
  can_is (Select cases false) h = tt
  can_is (Select cases true) h = absurd (false≢true h)
  can_is (Make size z) h = absurd (false≢true h)
  can_is (Go f args) h = absurd (false≢true h)
  can_is (Close c) h = absurd (false≢true h)
  can_is (Len c) h = absurd (false≢true h)
  can_is (Cap c) h = absurd (false≢true h)
  can_is (Print bytes) h = absurd (false≢true h)
  can_is End h = absurd (false≢true h)
  can_is Exit h = absurd (false≢true h)
  can_is (Panic cause) h = absurd (false≢true h)
  can_is Exhausted h = absurd (false≢true h)

  is_can : (q : Request) → CanWait q → can_wait q ≡ true
  is_can (Send c item) h = refl
  is_can (Receive c) h = refl
  is_can (Select cases false) h = refl
  is_can (Select cases true) h = absurd h
  is_can (Make size z) h = absurd h
  is_can (Go f args) h = absurd h
  is_can (Close c) h = absurd h
  is_can (Len c) h = absurd h
  is_can (Cap c) h = absurd h
  is_can (Print bytes) h = absurd h
  is_can End h = absurd h
  is_can Exit h = absurd h
  is_can (Panic cause) h = absurd h
  is_can Exhausted h = absurd h

  abbrev pub waits : Request → Bool
  waits q = can_wait q && none_ready (offers q)

  pub waits_is : (q : Request) → waits q ≡ true → Waits cs q
  waits_is q h = let p = and_parts (can_wait q) (none_ready (offers q)) h in (can_is q p.0, none_is (offers q) p.1)

  pub is_waiting : (q : Request) → Waits cs q → waits q ≡ true
  is_waiting q h = and_from (can_wait q) (none_ready (offers q)) (is_can q h.0) (is_none (offers q) h.1)

  -- ---- what a goroutine may do by itself: the reply, the channels after it, and what is printed

  abbrev Outcome : Type 0
  Outcome = Reply × (List Channel × List ℕ)

  abbrev pub its : Offer → Channel
  its o = channel_of cs o.chan

  abbrev pub offered_by : Offer → Option Item → List Item → List Outcome
  offered_by o (Some item) items = when (not (its o).closed && has_space (its o)) (sent o.case, (with_items cs o.chan ((its o).items ++ item ∷ []), []))
  offered_by o None [] = when (its o).closed (got o.case (its o).zero false, (cs, []))
  offered_by o None (item ∷ rest) = (got o.case item true, (with_items cs o.chan rest, [])) ∷ []

  abbrev pub offered : Offer → List Outcome
  offered o = offered_by o o.item (its o).items

  abbrev pub by_itself : Request → List Outcome
  by_itself (Make (pos size) z) = (Value (Chan (Some (length cs))), (cs ++ record { capacity = size; items = []; closed = false; zero = z } ∷ [], [])) ∷ []
  by_itself (Select cases default) = when (default && none_ready (offers (Select cases default))) (Default, (cs, []))
  by_itself (Close (Some c)) = when (not (channel_of cs c).closed) (Nothing, (slice_set cs c (record (channel_of cs c) { closed = true }), []))
  by_itself (Len c) = (Value (Int (pos (items_in cs c))), (cs, [])) ∷ []
  by_itself (Cap c) = (Value (Int (pos (capacity_in cs c))), (cs, [])) ∷ []
  by_itself (Print bytes) = (Nothing, (cs, bytes)) ∷ []
  by_itself q = []

  abbrev pub outcomes : Request → List Outcome
  outcomes q = gather offered (offers q) ++ by_itself q

  offer_in : (q : Request) (o : Offer) (x : Outcome) → IsOneOf o (offers q) → IsOneOf x (offered o) → IsOneOf x (outcomes q)
  offer_in q o x one i = in_left x (gather offered (offers q)) (by_itself q) (in_gather offered (offers q) o x one i)

  all_outcomes : (q : Request) (reply : Reply) (ds : List Channel) (bytes : List ℕ) → Acts cs q reply ds bytes → IsOneOf (reply, (ds, bytes)) (outcomes q)
  all_outcomes q reply ds bytes (makes size z) = inl refl
  all_outcomes q reply ds bytes (puts r o item one is opened has) =
      offer_in r o _ one (subst (λ t. IsOneOf (reply, (ds, bytes)) (offered_by o t (its o).items)) (sym is) (in_when (not (its o).closed && has_space (its o)) _ (and_from _ _ (not_from_false (its o).closed opened) has)))
  all_outcomes q reply ds bytes (takes r o item rest one is there) =
      offer_in r o _ one (subst (λ t. IsOneOf (reply, (ds, bytes)) (offered_by o t (its o).items)) (sym is) (subst (λ items. IsOneOf (reply, (ds, bytes)) (offered_by o None items)) (sym there) (inl refl)))
  all_outcomes q reply ds bytes (drains r o one is none closed) =
      offer_in r o _ one (subst (λ t. IsOneOf (reply, (ds, bytes)) (offered_by o t (its o).items)) (sym is) (subst (λ items. IsOneOf (reply, (ds, bytes)) (offered_by o None items)) (sym none) (in_when (its o).closed _ closed)))
  all_outcomes q reply ds bytes (defaults cases none) =
      in_right _ (gather offered (offers (Select cases true))) (by_itself (Select cases true)) (in_when (none_ready (offers (Select cases true))) _ (is_none (offers (Select cases true)) none))
  all_outcomes q reply ds bytes (closes c opened) = in_when (not (channel_of cs c).closed) _ (not_from_false (channel_of cs c).closed opened)
  all_outcomes q reply ds bytes (lens c) = inl refl
  all_outcomes q reply ds bytes (caps c) = inl refl
  all_outcomes q reply ds bytes (prints text) = inl refl

  abbrev Acts' : Request → Outcome → Type 0
  Acts' q x = Acts cs q x.0 x.1.0 x.1.1

  offered_acts : (q : Request) (o : Offer) → IsOneOf o (offers q) → (t : Option Item) → o.item ≡ t → (items : List Item) → (its o).items ≡ items → (x : Outcome) → IsOneOf x (offered_by o t items) → Acts' q x
  offered_acts q o one (Some item) is items there x i =
      let w = of_when (not (its o).closed && has_space (its o)) _ x i in
      let p = and_parts (not (its o).closed) (has_space (its o)) w.0 in
      subst (Acts' q) (sym w.1) (puts q o item one is (not-true (its o).closed p.0) p.1)
  offered_acts q o one None is [] there x i = let w = of_when (its o).closed _ x i in subst (Acts' q) (sym w.1) (drains q o one is there w.0)
  offered_acts q o one None is (item ∷ rest) there x (inl e) = subst (Acts' q) (sym e) (takes q o item rest one is there)
  offered_acts q o one None is (item ∷ rest) there x (inr i) = absurd i

  alone_acts : (q : Request) (x : Outcome) → IsOneOf x (by_itself q) → Acts' q x
  alone_acts (Make (pos size) z) x (inl e) = subst (Acts' (Make (pos size) z)) (sym e) (makes size z)
  alone_acts (Make (pos size) z) x (inr i) = absurd i
  alone_acts (Make (negsuc size) z) x i = absurd i
  alone_acts (Select cases true) x i =
      let w = of_when (none_ready (offers (Select cases true))) _ x i in subst (Acts' (Select cases true)) (sym w.1) (defaults cases (none_is (offers (Select cases true)) w.0))
  alone_acts (Select cases false) x i = absurd i
  alone_acts (Close (Some c)) x i = let w = of_when (not (channel_of cs c).closed) _ x i in subst (Acts' (Close (Some c))) (sym w.1) (closes c (not-true (channel_of cs c).closed w.0))
  alone_acts (Close None) x i = absurd i
  alone_acts (Len c) x (inl e) = subst (Acts' (Len c)) (sym e) (lens c)
  alone_acts (Len c) x (inr i) = absurd i
  alone_acts (Cap c) x (inl e) = subst (Acts' (Cap c)) (sym e) (caps c)
  alone_acts (Cap c) x (inr i) = absurd i
  alone_acts (Print bytes) x (inl e) = subst (Acts' (Print bytes)) (sym e) (prints bytes)
  alone_acts (Print bytes) x (inr i) = absurd i
  alone_acts (Go f args) x i = absurd i
  alone_acts (Send c item) x i = absurd i
  alone_acts (Receive c) x i = absurd i
  alone_acts End x i = absurd i
  alone_acts Exit x i = absurd i
  alone_acts (Panic cause) x i = absurd i
  alone_acts Exhausted x i = absurd i

  only_outcomes : (q : Request) (x : Outcome) → IsOneOf x (outcomes q) → Acts' q x
  only_outcomes q x i = elim (in_either x (gather offered (offers q)) (by_itself q) i) [
    | inl a ↦ let r = of_gather offered (offers q) x a in offered_acts q r.0 r.1 r.0.item refl (its r.0).items refl x r.2
    | inr b ↦ alone_acts q x b
  ]

  -- ---- who meets

  abbrev pub is_meeting : Request → Request → Offer → Offer → Bool
  is_meeting q r o p = ((p.chan == o.chan) && not (its o).closed) && (((its o).capacity == 0) && (waits q || waits r))

  meeting_is : (q r : Request) (o p : Offer) (item : Item) → Meets cs q r o p item → is_meeting q r o p ≡ true
  meeting_is q r o p item m =
      and_from ((p.chan == o.chan) && not (its o).closed) (((its o).capacity == 0) && (waits q || waits r))
      (and_from (p.chan == o.chan) (not (its o).closed) (eq-eqb p.chan o.chan m.same) (not_from_false (its o).closed m.opened))
      (and_from ((its o).capacity == 0) (waits q || waits r) (eq-eqb (its o).capacity 0 m.unbuffered)
      (elim m.waits [ inl a ↦ or_left (waits q) (waits r) (is_waiting q a) | inr b ↦ or_right (waits q) (waits r) (is_waiting r b) ]))

  is_meet : (q r : Request) (o p : Offer) (item : Item) → IsOneOf o (offers q) → IsOneOf p (offers r) → o.item ≡ Some item → p.item ≡ None → is_meeting q r o p ≡ true → Meets cs q r o p item
  is_meet q r o p item i j is none h =
      let a = and_parts ((p.chan == o.chan) && not (its o).closed) (((its o).capacity == 0) && (waits q || waits r)) h in
      let b = and_parts (p.chan == o.chan) (not (its o).closed) a.0 in
      let c = and_parts ((its o).capacity == 0) (waits q || waits r) a.1 in
      record {
        gives = i;
        takes = j;
        sends = is;
        receives = none;
        same = eqb-true p.chan o.chan b.0;
        opened = not-true (its o).closed b.1;
        unbuffered = eqb-true (its o).capacity 0 c.0;
        waits = elim (or_cases (waits q) (waits r) c.1) [ inl e ↦ inl (waits_is q e) | inr e ↦ inr (waits_is r e) ];
      }

-- ---- moves

module _ (K : GoroutineKind) (w : Scene K.State) where
  abbrev pub set_one : ℕ → Option K.State → List (Option K.State)
  set_one n o = slice_set w.goroutines n o

  abbrev pub started : ℕ → K.State → Request → List (Scene K.State)
  started n s (Go function args) = record w { goroutines = set_one n (Some (K.answer s Nothing)) ++ Some (K.begin function args) ∷ [] } ∷ []
  started n s End = when (not (n == 1)) (record w { goroutines = set_one n None })
  started n s q = []

  abbrev pub acted : ℕ → K.State → (Reply × (List Channel × List ℕ)) → Scene K.State
  acted n s x = record { goroutines = set_one n (Some (K.answer s x.0)); channels = x.1.0; output = w.output ++ x.1.1 }

  abbrev pub moved : ℕ → K.State → Next K.State → List (Scene K.State)
  moved n s (Slides t) = record w { goroutines = set_one n (Some t) } ∷ []
  moved n s (Ticks t) = record w { goroutines = set_one n (Some t) } ∷ []
  moved n s (Asks q) = gather (λ x. acted n s x ∷ []) (outcomes w.channels q) ++ started n s q
  moved n s Stuck = []

  abbrev pub moved_at : ℕ → Option K.State → List (Scene K.State)
  moved_at n None = []
  moved_at n (Some s) = moved n s (K.next s)

  abbrev pub after_meeting : (n m : ℕ) (s t : K.State) (o p : Offer) → Item → Scene K.State
  after_meeting n m s t o p item = record w { goroutines = slice_set (set_one n (Some (K.answer s (sent o.case)))) m (Some (K.answer t (got p.case item true))) }

  abbrev pub met_by : (n m : ℕ) (s t : K.State) (q r : Request) (o p : Offer) → Option Item → Option Item → List (Scene K.State)
  met_by n m s t q r o p (Some item) None = when (is_meeting w.channels q r o p) (after_meeting n m s t o p item)
  met_by n m s t q r o p _ _ = []

  abbrev pub met_with : (n m : ℕ) (s t : K.State) (q r : Request) → Offer → List (Scene K.State)
  met_with n m s t q r o = gather (λ (p : Offer). met_by n m s t q r o p o.item p.item) (offers r)

  abbrev pub met : (n m : ℕ) (s t : K.State) → Next K.State → Next K.State → List (Scene K.State)
  met n m s t (Asks q) (Asks r) = gather (met_with n m s t q r) (offers q)
  met n m s t _ _ = []

  abbrev pub met_at : (n m : ℕ) → Option K.State → Option K.State → List (Scene K.State)
  met_at n m (Some s) (Some t) = met n m s t (K.next s) (K.next t)
  met_at n m _ _ = []

  abbrev pub size : ℕ
  size = length w.goroutines

  abbrev pub alone_at : ℕ → List (Scene K.State)
  alone_at n = moved_at n (at w n)

  abbrev pub with_other : ℕ → ℕ → List (Scene K.State)
  with_other n m = cond (n == m) [] (met_at n m (at w n) (at w m))

  abbrev pub with_others : ℕ → List (Scene K.State)
  with_others n = gather (with_other n) (below size)

  abbrev pub moves : List (Scene K.State)
  moves = gather alone_at (below size) ++ gather with_others (below size)

  abbrev V : Type 0
  V = Scene K.State

  -- ---- each move is listed

  in_alone : (n : ℕ) (s : K.State) (x : Next K.State) (v : V) → at w n ≡ Some s → K.next s ≡ x → IsOneOf v (moved n s x) → IsOneOf v moves
  in_alone n s x v h e i =
      in_left v (gather alone_at (below size)) (gather with_others (below size))
      (in_gather alone_at (below size) n v (in_below n size (within w.goroutines n s h)) (subst (λ o. IsOneOf v (moved_at n o)) (sym h) (subst (λ y. IsOneOf v (moved n s y)) (sym e) i)))

  in_other : (n m : ℕ) (s t : K.State) (x y : Next K.State) (v : V) → n ≢ m → at w n ≡ Some s → at w m ≡ Some t → K.next s ≡ x → K.next t ≡ y → IsOneOf v (met n m s t x y) → IsOneOf v moves
  in_other n m s t x y v ne h h' e e' i =
      let there = subst (λ o. IsOneOf v (met_at n m o (at w m))) (sym h) (subst (λ o. IsOneOf v (met_at n m (Some s) o)) (sym h') (subst (λ z. IsOneOf v (met n m s t z (K.next t))) (sym e) (subst (λ z. IsOneOf v (met n m s t x z)) (sym e') i))) in
      in_right v (gather alone_at (below size)) (gather with_others (below size))
      (in_gather with_others (below size) n v (in_below n size (within w.goroutines n s h))
      (in_gather (with_other n) (below size) m v (in_below m size (within w.goroutines m t h')) (subst (λ (b : Bool). IsOneOf v (cond b [] (met_at n m (at w n) (at w m)))) (sym (ne_eqb n m ne)) there)))

  pub all_moves : (v : V) → Goes K w v → IsOneOf v moves
  all_moves v (steps n s t h (inl e)) = in_alone n s (Slides t) v h e (inl refl)
  all_moves v (steps n s t h (inr e)) = in_alone n s (Ticks t) v h e (inl refl)
  all_moves v (acts n s q reply cs bytes h a act) =
      in_alone n s (Asks q) v h a
      (in_left v (gather (λ x. acted n s x ∷ []) (outcomes w.channels q)) (started n s q)
      (in_gather (λ x. acted n s x ∷ []) (outcomes w.channels q) (reply, (cs, bytes)) v (all_outcomes w.channels q reply cs bytes act) (inl refl)))
  all_moves v (starts n s function args h a) = in_alone n s (Asks (Go function args)) v h a (inl refl)
  all_moves v (leaves n s ne h a) = in_alone n s (Asks End) v h a (in_when (not (n == 1)) _ (not_from_false (n == 1) (ne_eqb n 1 ne)))
  all_moves v (meet n m s t q r o p item ne h h' a a' m') =
      in_other n m s t (Asks q) (Asks r) v ne h h' a a'
      (in_gather (met_with n m s t q r) (offers q) o v m'.gives
      (in_gather (λ (z : Offer). met_by n m s t q r o z o.item z.item) (offers r) p v m'.takes
      (subst (λ x. IsOneOf v (met_by n m s t q r o p x p.item)) (sym m'.sends) (subst (λ y. IsOneOf v (met_by n m s t q r o p (Some item) y)) (sym m'.receives)
      (in_when (is_meeting w.channels q r o p) _ (meeting_is w.channels q r o p item m'))))))

  -- ---- and nothing else

  goes_started : (n : ℕ) (s : K.State) (q : Request) → at w n ≡ Some s → K.next s ≡ Asks q → (v : V) → IsOneOf v (started n s q) → Goes K w v
  goes_started n s (Go function args) h a v (inl e) = subst (Goes K w) (sym e) (starts n s function args h a)
  goes_started n s (Go function args) h a v (inr i) = absurd i
  goes_started n s End h a v i =
      let r = of_when (not (n == 1)) _ v i in
      subst (Goes K w) (sym r.1) (leaves n s (λ same. false≢true (sym (not-true (n == 1) r.0) ∙ eq-eqb n 1 same)) h a)
  goes_started n s (Make count z) h a v i = absurd i
  goes_started n s (Send c item) h a v i = absurd i
  goes_started n s (Receive c) h a v i = absurd i
  goes_started n s (Close c) h a v i = absurd i
  goes_started n s (Select cases default) h a v i = absurd i
  goes_started n s (Len c) h a v i = absurd i
  goes_started n s (Cap c) h a v i = absurd i
  goes_started n s (Print bytes) h a v i = absurd i
  goes_started n s Exit h a v i = absurd i
  goes_started n s (Panic cause) h a v i = absurd i
  goes_started n s Exhausted h a v i = absurd i

  goes_acted : (n : ℕ) (s : K.State) (q : Request) (x : Reply × (List Channel × List ℕ)) → at w n ≡ Some s → K.next s ≡ Asks q → IsOneOf x (outcomes w.channels q) → Goes K w (acted n s x)
  goes_acted n s q x h a i = acts n s q x.0 x.1.0 x.1.1 h a (only_outcomes w.channels q x i)

  one_of : (v u : V) → IsOneOf v (u ∷ []) → v ≡ u
  one_of v u (inl e) = e
  one_of v u (inr i) = absurd i

  goes_alone : (n : ℕ) (s : K.State) → at w n ≡ Some s → (x : Next K.State) → K.next s ≡ x → (v : V) → IsOneOf v (moved n s x) → Goes K w v
  goes_alone n s h (Slides t) e v i = subst (Goes K w) (sym (one_of v _ i)) (steps n s t h (inl e))
  goes_alone n s h (Ticks t) e v i = subst (Goes K w) (sym (one_of v _ i)) (steps n s t h (inr e))
  goes_alone n s h (Asks q) e v i = elim (in_either v (gather (λ x. acted n s x ∷ []) (outcomes w.channels q)) (started n s q) i) [
    | inl j ↦ let r = of_gather (λ x. acted n s x ∷ []) (outcomes w.channels q) v j in subst (Goes K w) (sym (one_of v (acted n s r.0) r.2)) (goes_acted n s q r.0 h e r.1)
    | inr j ↦ goes_started n s q h e v j
  ]
  goes_alone n s h Stuck e v i = absurd i

  goes_moved : (n : ℕ) (o : Option K.State) → at w n ≡ o → (v : V) → IsOneOf v (moved_at n o) → Goes K w v
  goes_moved n None h v i = absurd i
  goes_moved n (Some s) h v i = goes_alone n s h (K.next s) refl v i

  module _ (n m : ℕ) (ne : n ≢ m) where
    goes_met_by : (s t : K.State) (q r : Request) (o p : Offer) → at w n ≡ Some s → at w m ≡ Some t → K.next s ≡ Asks q → K.next t ≡ Asks r → IsOneOf o (offers q) → IsOneOf p (offers r)
        → (x y : Option Item) → o.item ≡ x → p.item ≡ y → (v : V) → IsOneOf v (met_by n m s t q r o p x y) → Goes K w v
    goes_met_by s t q r o p h h' a a' one two (Some item) None is none v i =
        let z = of_when (is_meeting w.channels q r o p) _ v i in
        subst (Goes K w) (sym z.1) (meet n m s t q r o p item ne h h' a a' (is_meet w.channels q r o p item one two is none z.0))
    goes_met_by s t q r o p h h' a a' one two (Some item) (Some other) is none v i = absurd i
    goes_met_by s t q r o p h h' a a' one two None None is none v i = absurd i
    goes_met_by s t q r o p h h' a a' one two None (Some other) is none v i = absurd i

    goes_met : (s t : K.State) → at w n ≡ Some s → at w m ≡ Some t → (x y : Next K.State) → K.next s ≡ x → K.next t ≡ y → (v : V) → IsOneOf v (met n m s t x y) → Goes K w v
    goes_met s t h h' (Asks q) (Asks r) a a' v i =
        let j = of_gather (met_with n m s t q r) (offers q) v i in
        let k = of_gather (λ (p : Offer). met_by n m s t q r j.0 p j.0.item p.item) (offers r) v j.2 in
        goes_met_by s t q r j.0 k.0 h h' a a' j.1 k.1 j.0.item k.0.item refl refl v k.2
    goes_met s t h h' (Asks q) (Slides b) a a' v i = absurd i
    goes_met s t h h' (Asks q) (Ticks b) a a' v i = absurd i
    goes_met s t h h' (Asks q) Stuck a a' v i = absurd i
    goes_met s t h h' (Slides b) y a a' v i = absurd i
    goes_met s t h h' (Ticks b) y a a' v i = absurd i
    goes_met s t h h' Stuck y a a' v i = absurd i

    goes_met_at : (o p : Option K.State) → at w n ≡ o → at w m ≡ p → (v : V) → IsOneOf v (met_at n m o p) → Goes K w v
    goes_met_at (Some s) (Some t) h h' v i = goes_met s t h h' (K.next s) (K.next t) refl refl v i
    goes_met_at (Some s) None h h' v i = absurd i
    goes_met_at None (Some t) h h' v i = absurd i
    goes_met_at None None h h' v i = absurd i

  goes_other : (n m : ℕ) (b : Bool) → (n == m) ≡ b → (v : V) → IsOneOf v (cond b [] (met_at n m (at w n) (at w m))) → Goes K w v
  goes_other n m true e v i = absurd i
  goes_other n m false e v i = goes_met_at n m (λ same. false≢true (sym e ∙ eq-eqb n m same)) (at w n) (at w m) refl refl v i

  pub only_moves : (v : V) → IsOneOf v moves → Goes K w v
  only_moves v i = elim (in_either v (gather alone_at (below size)) (gather with_others (below size)) i) [
    | inl j ↦ let r = of_gather alone_at (below size) v j in goes_moved r.0 (at w r.0) refl v r.2
    | inr j ↦ let r = of_gather with_others (below size) v j in let q = of_gather (with_other r.0) (below size) v r.2 in goes_other r.0 q.0 (r.0 == q.0) refl v q.2
  ]
