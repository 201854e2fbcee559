-- Goroutines without their pauses do what they do with them.
use Rattle.std.proofs.Common.{◌≡◌, ℕ, zero, suc, ◌+◌, ◌-◌, pos, negsuc, ◌==◌, Bool, true, false, ◌&&◌, ◌||◌, not, cond, List, [], ◌∷◌, ◌++◌, map, length, Option, Some, None, refl, sym, ap, ◌∙◌, subst, inl, inr, ◌⊎◌, get_or, set, append-nil}
use Rattle.std.specs.Prelude.{nat_lt, option_map}
use Rattle.std.specs.List.{list_any}
use Rattle.std.specs.Option.{is_some}
use Rattle.std.proofs.lemmas.Bool.{and_from, and_parts, eq-eqb, eqb-true, or_cases, false≢true}
use Rattle.std.proofs.lemmas.Option.{same_Some}
use Rattle.std.proofs.lemmas.List.{map-append, set-get_or}
use Rattle.word.specs.declared.end.End.{End as Ending}
use Rattle.word.specs.declared.request.Case.{Case}
use Rattle.word.specs.declared.value.Word.{Word}
use Rattle.word.specs.declared.value.Word.TheVariants.{Chan}
use Rattle.word.specs.Values.{Item, Request, Make, Go, Send, Receive, Close, Select, Len, Cap, Print, End, Exit, Panic, Exhausted, Reply, Nothing, Value, Default, Offer, Channel}
use Rattle.word.specs.Kinds.{Next, Slides, Ticks, Asks, Stuck, GoroutineKind}
use Rattle.word.specs.Related.{Parts, kind_of}
use Rattle.word.specs.Requests.{channel_of, with_offer, clause_offers, offers, sent, got}
use Rattle.allowed.specs.Orders.{Scene, IsOneOf, is_ready, NoneReady, Waits, Acts, makes, puts, takes, drains, defaults, closes, lens, caps, prints, Meets, Goes, steps as step, acts, starts, leaves, meet, Ends, returns, exits, panics, sends as sends_so, closes as closes_so, closes_nil, makes as makes_so, deadlock, Leads, here, more, first, Allowed}
use Rattle.allowed.proofs.Ordinary.{never_acts}
use Rattle.pauses.specs.Laws.{ArePart, OffersAlike, is_on}
use Rattle.pauses.specs.Paused.{PausedState, Progress, asking, beside, clause_of, is_vain, onward, paused_answer, paused_next, paused, selecting, step_of, way_in, way_to, way_words}
use Rattle.pauses.specs.Plans.{Pause}
use Rattle.pauses.specs.Selects.{alone, is_same_channel, is_same_direction, thinned}
use Rattle.pauses.proofs.Offers.{alone_part, thinned_offers, thinned_part}
use Rattle.pauses.proofs.Retelling.{way_back}

-- ---- some clauses of a select

part_offers : (cases some : List Case) (i : ℕ) (o : Offer) → ArePart cases some → IsOneOf o (clause_offers i some) → IsOneOf o (clause_offers i cases)
part_offers [] [] i o p h = h
part_offers [] (y ∷ ys) i o p h = absurd p
part_offers (x ∷ xs) [] i o p h = absurd p
part_offers (x ∷ xs) (y ∷ ys) i o p h = elim p.0 [
  | inl e ↦ same y.chan (ap (λ (z : Case). z.chan) (sym e)) (ap (λ (z : Case). z.item) (sym e)) (part_offers xs ys (suc i) o p.1) h
  | inr e ↦ behind x.chan (part_offers xs ys (suc i) o p.1 (subst (λ c. IsOneOf o (with_offer i c y.item (clause_offers (suc i) ys))) (ap (λ (z : Case). z.chan) e) h))
]
  where
    behind : (c : Option ℕ) → IsOneOf o (clause_offers (suc i) xs) → IsOneOf o (with_offer i c x.item (clause_offers (suc i) xs))
    behind None r = r
    behind (Some k) r = inr r

    same : (c : Option ℕ) → x.chan ≡ c → x.item ≡ y.item → (IsOneOf o (clause_offers (suc i) ys) → IsOneOf o (clause_offers (suc i) xs)) → IsOneOf o (with_offer i c y.item (clause_offers (suc i) ys)) → IsOneOf o (with_offer i x.chan x.item (clause_offers (suc i) xs))
    same None e e' rec h' = subst (λ c. IsOneOf o (with_offer i c x.item (clause_offers (suc i) xs))) (sym e) (rec h')
    same (Some k) e e' rec h' = subst (λ c. IsOneOf o (with_offer i c x.item (clause_offers (suc i) xs))) (sym e) (subst (λ z. IsOneOf o (record { case = i; chan = k; item = z } ∷ clause_offers (suc i) xs)) (sym e') (elim h' [ inl f ↦ inl f | inr r ↦ inr (rec r) ]))

-- an offer on this channel in this direction
record OnSame (c : ℕ) (sends : Bool) (os : List Offer) : Type 0 where
  o : Offer
  one : IsOneOf o os
  chan : o.chan ≡ c
  way : is_some o.item ≡ sends

way_is : (a b : Bool) → (cond a b (not b)) ≡ true → a ≡ b
way_is true true h = refl
way_is true false h = cc
way_is false true h = cc
way_is false false h = refl

offer_on : (c : ℕ) (sends : Bool) (xs : List Case) (i : ℕ) → list_any (is_on c sends) xs ≡ true → OnSame c sends (clause_offers i xs)
offer_on c sends [] i h = cc
offer_on c sends (x ∷ xs) i h = go x.chan refl (λ f. offer_on c sends xs (suc i) f) (or_cases (is_on c sends x) (list_any (is_on c sends) xs) h)
  where
    rest : (o : Option ℕ) → OnSame c sends (clause_offers (suc i) xs) → OnSame c sends (with_offer i o x.item (clause_offers (suc i) xs))
    rest None r = r
    rest (Some k) r = record { o = r.o; one = inr r.one; chan = r.chan; way = r.way }

    direct : (a b : Bool) → is_same_direction a b ≡ true → a ≡ b
    direct true true e = refl
    direct true false e = cc
    direct false true e = cc
    direct false false e = refl

    go : (o : Option ℕ) → x.chan ≡ o → (list_any (is_on c sends) xs ≡ true → OnSame c sends (clause_offers (suc i) xs)) → (is_on c sends x ≡ true) ⊎ (list_any (is_on c sends) xs ≡ true) → OnSame c sends (with_offer i o x.item (clause_offers (suc i) xs))
    go None e rec (inl f) = let p = and_parts (is_same_channel x.chan (Some c)) (is_same_direction (is_some x.item) sends) f in let bad : false ≡ true = ap (λ z. is_same_channel z (Some c)) (sym e) ∙ p.0 in absurd (false≢true bad)
    go (Some k) e rec (inl f) =
        let p = and_parts (is_same_channel x.chan (Some c)) (is_same_direction (is_some x.item) sends) f in
        let same : (k == c) ≡ true = ap (λ z. is_same_channel z (Some c)) (sym e) ∙ p.0 in
        record { o = record { case = i; chan = k; item = x.item }; one = inl refl; chan = eqb-true k c same; way = direct (is_some x.item) sends p.1 }
    go o e rec (inr f) = rest o (rec f)

any_on : (xs : List Case) (i : ℕ) (o : Offer) → IsOneOf o (clause_offers i xs) → list_any (is_on o.chan (is_some o.item)) xs ≡ true
any_on [] i o h = elim h [ ]
any_on (x ∷ xs) i o h = go x.chan refl (any_on xs (suc i) o) h
  where
    here' : (b : Bool) → is_same_direction b b ≡ true
    here' true = refl
    here' false = refl

    first_is : (k : ℕ) → x.chan ≡ Some k → o ≡ record { case = i; chan = k; item = x.item } → is_on o.chan (is_some o.item) x ≡ true
    first_is k e f = subst (λ (z : Offer). is_on z.chan (is_some z.item) x ≡ true) (sym f) (and_from _ _ (ap (λ z. is_same_channel z (Some k)) e ∙ eq-eqb k k refl) (here' (is_some x.item)))

    go : (c : Option ℕ) → x.chan ≡ c → (IsOneOf o (clause_offers (suc i) xs) → list_any (is_on o.chan (is_some o.item)) xs ≡ true) → IsOneOf o (with_offer i c x.item (clause_offers (suc i) xs)) → (is_on o.chan (is_some o.item) x || list_any (is_on o.chan (is_some o.item)) xs) ≡ true
    go None e rec h' = right (is_on o.chan (is_some o.item) x) (rec h')
      where
        right : (b : Bool) {d : Bool} → d ≡ true → (b || d) ≡ true
        right true e' = refl
        right false e' = e'
    go (Some k) e rec (inl f) = ap (λ b. b || list_any (is_on o.chan (is_some o.item)) xs) (first_is k e f)
    go (Some k) e rec (inr h') = right (is_on o.chan (is_some o.item) x) (rec h')
      where
        right : (b : Bool) {d : Bool} → d ≡ true → (b || d) ≡ true
        right true e' = refl
        right false e' = e'

none_at : (cs : List Channel) (os : List Offer) (o : Offer) → IsOneOf o os → NoneReady cs os → is_ready cs o ≡ false
none_at cs [] o i h = elim i [ ]
none_at cs (p ∷ ps) o (inl e) h = subst (λ (x : Offer). is_ready cs x ≡ false) (sym e) h.0
none_at cs (p ∷ ps) o (inr i) h = none_at cs ps o i h.1

none_all : (cs : List Channel) (os : List Offer) → ((o : Offer) → IsOneOf o os → is_ready cs o ≡ false) → NoneReady cs os
none_all cs [] h = tt
none_all cs (o ∷ os) h = (h o (inl refl), none_all cs os (λ p i. h p (inr i)))

ready_same : (cs : List Channel) (o p : Offer) → o.chan ≡ p.chan → is_some o.item ≡ is_some p.item → is_ready cs o ≡ is_ready cs p
ready_same cs o p e f = ap (λ k. (channel_of cs k).closed || cond (is_some o.item) (nat_lt (length (channel_of cs k).items) (channel_of cs k).capacity) (nat_lt 0 (length (channel_of cs k).items))) e
    ∙ ap (λ b. (channel_of cs p.chan).closed || cond b (nat_lt (length (channel_of cs p.chan).items) (channel_of cs p.chan).capacity) (nat_lt 0 (length (channel_of cs p.chan).items))) f

none_alike : (cs : List Channel) (cases some : List Case) → OffersAlike cases some → NoneReady cs (clause_offers 1 some) → NoneReady cs (clause_offers 1 cases)
none_alike cs cases some alike none = none_all cs (clause_offers 1 cases) (λ o i.
    let s = offer_on o.chan (is_some o.item) some 1 (alike o.chan (is_some o.item) ∙ any_on cases 1 o i) in
    ready_same cs o s.o (sym s.chan) (sym s.way) ∙ none_at cs (clause_offers 1 some) s.o s.one none)

-- ---- what a goroutine that keeps to a plan requests

module _ (ps : List Pause) where
  abbrev pub IsPlain : Request → Type 0
  IsPlain (Go function args) = ⊥
  IsPlain (Select cases default) = ⊥
  IsPlain q = Unit {0}

  pub data Made (g : Progress) : Request → Request → Type 0 where
    itself : (q : Request) → IsPlain q → Made g q q
    with_way : (function : ℕ) (args : List Word) (way : Option (List ℕ)) → Made g (Go function args) (Go function (way_words way ++ args))
    whole : (cases : List Case) (default : Bool) → is_vain ps g Default ≡ false → Made g (Select cases default) (Select cases default)
    thins : (cases : List Case) (default : Bool) (clause : ℕ) → is_vain ps g Default ≡ false → Made g (Select cases default) (Select (thinned clause cases) default)
    tries : (cases : List Case) (default : Bool) (clause : ℕ) → is_vain ps g Default ≡ true → Made g (Select cases default) (Select (alone clause cases) true)

  same_asks : (p q : Request) → ◌≡◌ {A = Next Progress} (Asks p) (Asks q) → p ≡ q
  same_asks p q e = cc

  plain_made : (g : Progress) (q asked : Request) → IsPlain q → ◌≡◌ {A = Next Progress} (Asks q) (Asks asked) → Made g q asked
  plain_made g q asked plain e = subst (Made g q) (same_asks q asked e) (itself q plain)

  pub made : (g : Progress) (q asked : Request) → asking ps g q ≡ Asks asked → Made g q asked
  made g (Make size z) asked e = plain_made g (Make size z) asked tt e
  made g (Send c item) asked e = plain_made g (Send c item) asked tt e
  made g (Receive c) asked e = plain_made g (Receive c) asked tt e
  made g (Close c) asked e = plain_made g (Close c) asked tt e
  made g (Len c) asked e = plain_made g (Len c) asked tt e
  made g (Cap c) asked e = plain_made g (Cap c) asked tt e
  made g (Print bytes) asked e = plain_made g (Print bytes) asked tt e
  made g End asked e = plain_made g End asked tt e
  made g Exit asked e = plain_made g Exit asked tt e
  made g (Panic p) asked e = plain_made g (Panic p) asked tt e
  made g Exhausted asked e = plain_made g Exhausted asked tt e
  made g (Go function args) asked e = go g.prepared (record g { started = g.started + 1; prepared = true }) e
    where
      go : (b : Bool) (h : Progress) → ◌≡◌ {A = Next Progress} (cond b (Asks (Go function (way_words (way_to ps g.way g.started) ++ args))) (Slides h)) (Asks asked) → Made g (Go function args) asked
      go true h e' = subst (Made g (Go function args)) (same_asks (Go function (way_words (way_to ps g.way g.started) ++ args)) asked e') (with_way function args (way_to ps g.way g.started))
      go false h e' = cc
  made g (Select cases default) asked e = go (clause_of ps g.way g.request) refl e
    where
      one : (clause : ℕ) → clause_of ps g.way g.request ≡ Some clause → (b : Bool) → g.prepared ≡ b → ◌≡◌ {A = Next Progress} (cond b (Asks (Select (thinned clause cases) default)) (Asks (Select (alone clause cases) true))) (Asks asked) → Made g (Select cases default) asked
      one clause named true f e' = subst (Made g (Select cases default)) (same_asks (Select (thinned clause cases) default) asked e') (thins cases default clause (ap (λ (b : Bool). not b && is_some (clause_of ps g.way g.request)) f))
      one clause named false f e' = subst (Made g (Select cases default)) (same_asks (Select (alone clause cases) true) asked e') (tries cases default clause (ap (λ (b : Bool). not b && is_some (clause_of ps g.way g.request)) f ∙ ap (λ (o : Option ℕ). is_some o) named))

      and_false : (b : Bool) → (b && false) ≡ false
      and_false true = refl
      and_false false = refl

      go : (o : Option ℕ) → clause_of ps g.way g.request ≡ o → selecting ps g cases default o ≡ Asks asked → Made g (Select cases default) asked
      go None f e' = subst (Made g (Select cases default)) (same_asks (Select cases default) asked e') (whole cases default (ap (λ (o : Option ℕ). not g.prepared && is_some o) f ∙ and_false (not g.prepared)))
      go (Some clause) f e' = one clause f g.prepared refl e'

  -- what is offered is offered without the plan
  made_offers : (g : Progress) (q asked : Request) (o : Offer) → Made g q asked → IsOneOf o (offers asked) → IsOneOf o (offers q)
  made_offers g q asked o (itself p plain) h = h
  made_offers g q asked o (with_way function args way) h = h
  made_offers g q asked o (whole cases default vain) h = h
  made_offers g q asked o (thins cases default clause vain) h = part_offers cases (thinned clause cases) 1 o (thinned_part clause cases) h
  made_offers g q asked o (tries cases default clause vain) h = part_offers cases (alone clause cases) 1 o (alone_part clause cases) h

  -- who waits waits without the plan
  made_waits : (cs : List Channel) (g : Progress) (q asked : Request) → Made g q asked → Waits cs asked → Waits cs q
  made_waits cs g q asked (itself p plain) w = w
  made_waits cs g q asked (with_way function args way) w = elim w.0 [ ]
  made_waits cs g q asked (whole cases default vain) w = w
  made_waits cs g q asked (thins cases true clause vain) w = elim w.0 [ ]
  made_waits cs g q asked (thins cases false clause vain) w = (tt, none_alike cs cases (thinned clause cases) (thinned_offers clause cases) w.1)
  made_waits cs g q asked (tries cases default clause vain) w = elim w.0 [ ]

  -- and one of its offers is the same
  made_same : (cs : List Channel) (g : Progress) (q asked : Request) (o : Offer) → Made g q asked → Waits cs asked → IsOneOf o (offers q) → OnSame o.chan (is_some o.item) (offers asked)
  made_same cs g q asked o (itself p plain) w h = record { o = o; one = h; chan = refl; way = refl }
  made_same cs g q asked o (with_way function args way) w h = elim h [ ]
  made_same cs g q asked o (whole cases default vain) w h = record { o = o; one = h; chan = refl; way = refl }
  made_same cs g q asked o (thins cases default clause vain) w h = offer_on o.chan (is_some o.item) (thinned clause cases) 1 (thinned_offers clause cases o.chan (is_some o.item) ∙ any_on cases 1 o h)
  made_same cs g q asked o (tries cases default clause vain) w h = elim w.0 [ ]

module _ {S : Type 0} (K : Parts S) (ps : List Pause) where
  abbrev P : GoroutineKind
  P = paused (kind_of K) ps

  abbrev M : GoroutineKind
  M = kind_of K

  abbrev under : List (Option (PausedState S)) → List (Option S)
  under gs = map (option_map (λ (s : PausedState S). s.state)) gs

  get_under : (gs : List (Option (PausedState S))) (n : ℕ) → get_or (under gs) n None ≡ option_map (λ (s : PausedState S). s.state) (get_or gs n None)
  get_under [] n = refl
  get_under (o ∷ gs) zero = refl
  get_under (o ∷ gs) (suc n) = get_under gs n

  set_under : (gs : List (Option (PausedState S))) (n : ℕ) (o : Option (PausedState S)) → under (set gs n o) ≡ set (under gs) n (option_map (λ (s : PausedState S). s.state) o)
  set_under [] n o = refl
  set_under (p ∷ gs) zero o = refl
  set_under (p ∷ gs) (suc n) o = ap (λ xs. option_map (λ (s : PausedState S). s.state) p ∷ xs) (set_under gs n o)

  abbrev scene : List (Option (PausedState S)) → List Channel → List ℕ → Scene S
  scene gs cs output = record { goroutines = under gs; channels = cs; output = output }

  abbrev bare : Scene (PausedState S) → Scene S
  bare v = scene v.goroutines v.channels v.output

  at_under : (gs : List (Option (PausedState S))) (n : ℕ) (s : PausedState S) → get_or gs n None ≡ Some s → get_or (under gs) n None ≡ Some s.state
  at_under gs n s h = get_under gs n ∙ ap (option_map (λ (x : PausedState S). x.state)) h

  -- ---- what comes next

  abbrev Next' : Type 0
  Next' = Next (PausedState S)

  abbrev Says : PausedState S → Next' → Type 0
  Says s (Slides t) = (K.next s.state ≡ Slides t.state) ⊎ (s.state ≡ t.state)
  Says s (Ticks t) = (K.next s.state ≡ Ticks t.state) ⊎ (s.state ≡ t.state)
  Says s (Asks asked) = (q : Request) × (K.next s.state ≡ Asks q) × Made ps s.progress q asked
  Says s Stuck = Unit {0}

  says_beside : (s : PausedState S) (q : Request) (m : Next Progress) → K.next s.state ≡ Asks q → asking ps s.progress q ≡ m → Says s (beside s.state m)
  says_beside s q (Slides h) e f = inr refl
  says_beside s q (Ticks h) e f = inr refl
  says_beside s q (Asks asked) e f = (q, e, made ps s.progress q asked f)
  says_beside s q Stuck e f = tt

  says_of : (s : PausedState S) (x : Next S) → K.next s.state ≡ x → Says s (step_of K ps s x)
  says_of s (Slides a) e = inl e
  says_of s (Ticks a) e = inl e
  says_of s (Asks q) e = says_beside s q (asking ps s.progress q) e refl
  says_of s Stuck e = tt

  says : (s : PausedState S) → Says s (paused_next K ps s)
  says s = go (s.progress.left == 0)
    where
      go : (b : Bool) → Says s (cond b (step_of K ps s (K.next s.state)) (Ticks (record s { progress = record s.progress { left = s.progress.left - 1 } })))
      go true = says_of s (K.next s.state) refl
      go false = inr refl

  said : (s : PausedState S) (x : Next') → paused_next K ps s ≡ x → Says s x
  said s x e = subst (Says s) e (says s)

  -- ---- replies

  told : (s : PausedState S) (reply : Reply) → is_vain ps s.progress reply ≡ false → (paused_answer K ps s reply).state ≡ K.answer s.state reply
  told s reply e = ap (λ (b : Bool). (cond b (record s { progress = record s.progress { prepared = true } }) (record { state = K.answer s.state reply; progress = onward ps s.progress })).state) e

  told_vain : (s : PausedState S) (reply : Reply) → is_vain ps s.progress reply ≡ true → (paused_answer K ps s reply).state ≡ s.state
  told_vain s reply e = ap (λ (b : Bool). (cond b (record s { progress = record s.progress { prepared = true } }) (record { state = K.answer s.state reply; progress = onward ps s.progress })).state) e

  sent_told : (g : Progress) (i : ℕ) → is_vain ps g (sent i) ≡ false
  sent_told g zero = refl
  sent_told g (suc i) = refl

  got_told : (g : Progress) (i : ℕ) (x : Item) (ok : Bool) → is_vain ps g (got i x ok) ≡ false
  got_told g zero x ok = refl
  got_told g (suc i) x ok = refl

  -- ---- what is done alone

  -- it is done without the plan too, or it was a clause that was tried in vain
  abbrev Does : List Channel → Progress → Request → Reply → List Channel → List ℕ → Type 0
  Does cs g q reply ds bytes = (Acts cs q reply ds bytes × (is_vain ps g reply ≡ false)) ⊎ ((is_vain ps g reply ≡ true) × (ds ≡ cs) × (bytes ≡ []))

  defaulted : (cs : List Channel) (g : Progress) (q asked : Request) (cases : List Case) → Made ps g q asked → asked ≡ Select cases true → NoneReady cs (clause_offers 1 cases) → Does cs g q Default cs []
  defaulted cs g q asked cases (itself p plain) e none = elim (subst (λ x. IsPlain ps x) e plain) [ ]
  defaulted cs g q asked cases (with_way function args way) e none = cc
  defaulted cs g q asked cases (whole xs default vain) e none = inl (subst (λ x. Acts cs x Default cs []) (sym e) (defaults cases none), vain)
  defaulted cs g q asked cases (thins xs true clause vain) e none =
      let same : thinned clause xs ≡ cases = cc in
      inl (defaults xs (none_alike cs xs (thinned clause xs) (thinned_offers clause xs) (subst (λ zs. NoneReady cs (clause_offers 1 zs)) (sym same) none)), vain)
  defaulted cs g q asked cases (thins xs false clause vain) e none = cc
  defaulted cs g q asked cases (tries xs default clause vain) e none = inr (vain, refl, refl)

  -- a request that is no select and no go is made as it is
  plainly : (g : Progress) (q asked : Request) → IsPlain ps asked → Made ps g q asked → asked ≡ q
  plainly g q asked plain (itself p plain') = refl
  plainly g q asked plain (with_way function args way) = elim plain [ ]
  plainly g q asked plain (whole cases default vain) = elim plain [ ]
  plainly g q asked plain (thins cases default clause vain) = elim plain [ ]
  plainly g q asked plain (tries cases default clause vain) = elim plain [ ]

  does : (cs ds : List Channel) (g : Progress) (q asked : Request) (reply : Reply) (bytes : List ℕ) → Made ps g q asked → Acts cs asked reply ds bytes → Does cs g q reply ds bytes
  does cs ds g q asked reply bytes m (makes size z) = inl (subst (λ x. Acts cs x (Value (Chan (Some (length cs)))) (cs ++ record { capacity = size; items = []; closed = false; zero = z } ∷ []) []) (plainly g q (Make (pos size) z) tt m) (makes size z), refl)
  does cs ds g q asked reply bytes m (puts r o item one is opened has) = inl (puts q o item (made_offers ps g q r o m one) is opened has, sent_told g o.case)
  does cs ds g q asked reply bytes m (takes r o item rest one is has) = inl (takes q o item rest (made_offers ps g q r o m one) is has, got_told g o.case item true)
  does cs ds g q asked reply bytes m (drains r o one is none closed) = inl (drains q o (made_offers ps g q r o m one) is none closed, got_told g o.case (channel_of cs o.chan).zero false)
  does cs ds g q asked reply bytes m (defaults cases none) = defaulted cs g q (Select cases true) cases m refl none
  does cs ds g q asked reply bytes m (closes k opened) = inl (subst (λ x. Acts cs x Nothing ds []) (plainly g q (Close (Some k)) tt m) (closes k opened), refl)
  does cs ds g q asked reply bytes m (lens k) = inl (subst (λ x. Acts cs x reply cs []) (plainly g q (Len k) tt m) (lens k), refl)
  does cs ds g q asked reply bytes m (caps k) = inl (subst (λ x. Acts cs x reply cs []) (plainly g q (Cap k) tt m) (caps k), refl)
  does cs ds g q asked reply bytes m (prints text) = inl (subst (λ x. Acts cs x Nothing cs text) (plainly g q (Print text) tt m) (prints text), refl)

  -- ---- moves

  module _ (w : Scene S) (v : Scene (PausedState S)) (run : Leads M w (bare v)) where
    -- nothing changes without the plan
    nothing : (gs : List (Option S)) → gs ≡ under v.goroutines → Leads M w (record { goroutines = gs; channels = v.channels; output = v.output })
    nothing gs e = subst (λ xs. Leads M w (record { goroutines = xs; channels = v.channels; output = v.output })) (sym e) run

    same_state : (n : ℕ) (s : PausedState S) (a : S) → get_or v.goroutines n None ≡ Some s → a ≡ s.state → set (under v.goroutines) n (Some a) ≡ under v.goroutines
    same_state n s a h e = ap (λ x. set (under v.goroutines) n (Some x)) e ∙ ap (λ o. set (under v.goroutines) n o) (sym (at_under v.goroutines n s h)) ∙ set-get_or (under v.goroutines) n None

    stepped : (n : ℕ) (s t : PausedState S) → get_or v.goroutines n None ≡ Some s → ((K.next s.state ≡ Slides t.state) ⊎ (K.next s.state ≡ Ticks t.state)) ⊎ (s.state ≡ t.state) → Leads M w (scene (set v.goroutines n (Some t)) v.channels v.output)
    stepped n s t h (inl e) = subst (λ gs. Leads M w (record { goroutines = gs; channels = v.channels; output = v.output })) (sym (set_under v.goroutines n (Some t))) (more run (step n s.state t.state (at_under v.goroutines n s h) e))
    stepped n s t h (inr e) = nothing (under (set v.goroutines n (Some t))) (set_under v.goroutines n (Some t) ∙ same_state n s t.state h (sym e))

    acted : (n : ℕ) (s : PausedState S) (q : Request) (reply : Reply) (ds : List Channel) (bytes : List ℕ) → get_or v.goroutines n None ≡ Some s → K.next s.state ≡ Asks q → Does v.channels s.progress q reply ds bytes
        → Leads M w (scene (set v.goroutines n (Some (paused_answer K ps s reply))) ds (v.output ++ bytes))
    acted n s q reply ds bytes h a (inl d) =
        subst (λ gs. Leads M w (record { goroutines = gs; channels = ds; output = v.output ++ bytes })) (sym (set_under v.goroutines n (Some (paused_answer K ps s reply)) ∙ ap (λ x. set (under v.goroutines) n (Some x)) (told s reply d.1)))
        (more run (acts n s.state q reply ds bytes (at_under v.goroutines n s h) a d.0))
    acted n s q reply ds bytes h a (inr d) =
        let gs = set_under v.goroutines n (Some (paused_answer K ps s reply)) ∙ same_state n s (paused_answer K ps s reply).state h (told_vain s reply d.0) in
        subst (λ cs. Leads M w (record { goroutines = under (set v.goroutines n (Some (paused_answer K ps s reply))); channels = cs; output = v.output ++ bytes })) (sym d.1)
        (subst (λ out. Leads M w (record { goroutines = under (set v.goroutines n (Some (paused_answer K ps s reply))); channels = v.channels; output = out })) (sym (ap (λ b. v.output ++ b) d.2 ∙ append-nil v.output)) (nothing _ gs))

    moved : (u : Scene (PausedState S)) → Goes P v u → Leads M w (bare u)
    moved u (step n s t h (inl e)) = stepped n s t h (elim (said s (Slides t) e) [ inl f ↦ inl (inl f) | inr f ↦ inr f ])
    moved u (step n s t h (inr e)) = stepped n s t h (elim (said s (Ticks t) e) [ inl f ↦ inl (inr f) | inr f ↦ inr f ])
    moved u (acts n s asked reply ds bytes h a act) = let f = said s (Asks asked) a in acted n s f.0 reply ds bytes h f.1 (does v.channels ds s.progress f.0 asked reply bytes f.2 act)
    moved u (starts n s function words h a) = let f = said s (Asks (Go function words)) a in begun f.0 (Go function words) f.1 f.2 refl
      where
        begun : (q asked : Request) → K.next s.state ≡ Asks q → Made ps s.progress q asked → asked ≡ Go function words
            → Leads M w (scene (set v.goroutines n (Some (paused_answer K ps s Nothing)) ++ Some (P.begin function words) ∷ []) v.channels v.output)
        begun q asked e (itself p plain) same = elim (subst (λ x. IsPlain ps x) same plain) [ ]
        begun q asked e (with_way f args way) same =
            let one : f ≡ function = cc in
            let rest : way_words way ++ args ≡ words = cc in
            let back : args ≡ (way_in words).1 = sym (way_back way args) ∙ ap (λ ws. (way_in ws).1) rest in
            let child : K.begin f args ≡ (P.begin function words).state = ap (λ i. K.begin i args) one ∙ ap (K.begin function) back in
            subst (λ gs. Leads M w (record { goroutines = gs; channels = v.channels; output = v.output }))
            (sym (map-append (option_map (λ (x : PausedState S). x.state)) (set v.goroutines n (Some (paused_answer K ps s Nothing))) (Some (P.begin function words) ∷ [])
            ∙ ap (λ gs. gs ++ Some (P.begin function words).state ∷ []) (set_under v.goroutines n (Some (paused_answer K ps s Nothing)) ∙ ap (λ x. set (under v.goroutines) n (Some x)) (told s Nothing refl))
            ∙ ap (λ x. set (under v.goroutines) n (Some (K.answer s.state Nothing)) ++ Some x ∷ []) (sym child)))
            (more run (starts n s.state f args (at_under v.goroutines n s h) e))
        begun q asked e (whole cases default vain) same = cc
        begun q asked e (thins cases default clause vain) same = cc
        begun q asked e (tries cases default clause vain) same = cc
    moved u (leaves n s ne h a) =
        let f = said s (Asks End) a in
        subst (λ gs. Leads M w (record { goroutines = gs; channels = v.channels; output = v.output })) (sym (set_under v.goroutines n None))
        (more run (leaves n s.state ne (at_under v.goroutines n s h) (f.1 ∙ ap (λ x. Asks x) (sym (plainly s.progress f.0 End tt f.2)))))
    moved u (meet n m s t asked asked' o p item ne h h' a a' met) =
        let f = said s (Asks asked) a in
        let g = said t (Asks asked') a' in
        let both : Meets v.channels f.0 g.0 o p item = record {
          gives = made_offers ps s.progress f.0 asked o f.2 met.gives;
          takes = made_offers ps t.progress g.0 asked' p g.2 met.takes;
          sends = met.sends;
          receives = met.receives;
          same = met.same;
          opened = met.opened;
          unbuffered = met.unbuffered;
          waits = elim met.waits [ inl x ↦ inl (made_waits ps v.channels s.progress f.0 asked f.2 x) | inr x ↦ inr (made_waits ps v.channels t.progress g.0 asked' g.2 x) ];
        } in
        let one : Option (PausedState S) = Some (paused_answer K ps s (sent o.case)) in
        let two : Option (PausedState S) = Some (paused_answer K ps t (got p.case item true)) in
        subst (λ gs. Leads M w (record { goroutines = gs; channels = v.channels; output = v.output }))
        (sym (set_under (set v.goroutines n one) m two
        ∙ ap (λ gs. set gs m (Some (paused_answer K ps t (got p.case item true)).state)) (set_under v.goroutines n one)
        ∙ ap (λ x. set (set (under v.goroutines) n (Some x)) m (Some (paused_answer K ps t (got p.case item true)).state)) (told s (sent o.case) (sent_told s.progress o.case))
        ∙ ap (λ x. set (set (under v.goroutines) n (Some (K.answer s.state (sent o.case)))) m (Some x)) (told t (got p.case item true) (got_told t.progress p.case item true))))
        (more run (meet n m s.state t.state f.0 g.0 o p item ne (at_under v.goroutines n s h) (at_under v.goroutines m t h') f.1 g.1 both))

  leads : (w : Scene S) (v u : Scene (PausedState S)) → Leads M w (bare v) → Leads P v u → Leads M w (bare u)
  leads w v u run here = run
  leads w v u run (more {v = x} rest g) = moved w x (leads w v x run rest) u g

  -- ---- ends

  some_of : (o : Option (PausedState S)) (a : S) → option_map (λ (s : PausedState S). s.state) o ≡ Some a → (s : PausedState S) × (o ≡ Some s) × (s.state ≡ a)
  some_of None a e = cc
  some_of (Some s) a e = (s, refl, same_Some s.state a e)

  module _ (v : Scene (PausedState S)) where
    plain_end : (e : Ending) (n : ℕ) (s : PausedState S) (asked : Request) → IsPlain ps asked → get_or v.goroutines n None ≡ Some s → paused_next K ps s ≡ Asks asked → ((get_or (under v.goroutines) n None ≡ Some s.state) → (K.next s.state ≡ Asks asked) → Ends M (bare v) e) → Ends M (bare v) e
    plain_end e n s asked plain h a end = let f = said s (Asks asked) a in end (at_under v.goroutines n s h) (f.1 ∙ ap (λ x. Asks x) (sym (plainly s.progress f.0 asked plain f.2)))

    module _ (waits : (n : ℕ) (s : PausedState S) → get_or v.goroutines n None ≡ Some s → (q : Request) × (paused_next K ps s ≡ Asks q) × Waits v.channels q) (never : (u : Scene (PausedState S)) → Goes P v u → ⊥) where
      record At (n : ℕ) (a : S) : Type 0 where
        s : PausedState S
        is : s.state ≡ a
        here' : get_or v.goroutines n None ≡ Some s
        asked : Request
        next' : paused_next K ps s ≡ Asks asked
        wait : Waits v.channels asked
        q : Request
        next : K.next s.state ≡ Asks q
        m : Made ps s.progress q asked

      at_state : (n : ℕ) (a : S) → get_or (under v.goroutines) n None ≡ Some a → At n a
      at_state n a h =
          let s = some_of (get_or v.goroutines n None) a (sym (get_under v.goroutines n) ∙ h) in
          let w = waits n s.0 s.1 in
          let f = said s.0 (Asks w.0) w.1 in
          record { s = s.0; is = s.2; here' = s.1; asked = w.0; next' = w.1; wait = w.2; q = f.0; next = f.1; m = f.2 }

      waits_too : (n : ℕ) (a : S) → get_or (under v.goroutines) n None ≡ Some a → (q : Request) × (K.next a ≡ Asks q) × Waits v.channels q
      waits_too n a h = let x = at_state n a h in (x.q, ap K.next (sym x.is) ∙ x.next, made_waits ps v.channels x.s.progress x.q x.asked x.m x.wait)

      one_next : (a : S) (q r : Request) → K.next a ≡ Asks q → K.next a ≡ Asks r → q ≡ r
      one_next a q r e f = cc

      quiet : (n : ℕ) (a : S) (q : Request) → get_or (under v.goroutines) n None ≡ Some a → K.next a ≡ Asks q → Waits v.channels q
      quiet n a q h e = let w = waits_too n a h in subst (Waits v.channels) (one_next a w.0 q w.1 e) w.2

      no_move : (u : Scene S) → Goes M (bare v) u → ⊥
      no_move u (step n a b h (inl e)) = let w = waits_too n a h in let bad : Slides b ≡ Asks w.0 = sym e ∙ w.1 in cc
      no_move u (step n a b h (inr e)) = let w = waits_too n a h in let bad : Ticks b ≡ Asks w.0 = sym e ∙ w.1 in cc
      no_move u (acts n a q reply ds bytes h e act) = never_acts v.channels ds q reply bytes act (quiet n a q h e)
      no_move u (starts n a function args h e) = elim (quiet n a (Go function args) h e).0 [ ]
      no_move u (leaves n a ne h e) = elim (quiet n a End h e).0 [ ]
      no_move u (meet i j a b q r o p item ne h h' e e' met) =
          let x = at_state i a h in
          let y = at_state j b h' in
          let xq = one_next a x.q q (ap K.next (sym x.is) ∙ x.next) e in
          let yr = one_next b y.q r (ap K.next (sym y.is) ∙ y.next) e' in
          let f = made_same ps v.channels x.s.progress x.q x.asked o x.m x.wait (subst (λ z. IsOneOf o (offers z)) (sym xq) met.gives) in
          let g = made_same ps v.channels y.s.progress y.q y.asked p y.m y.wait (subst (λ z. IsOneOf p (offers z)) (sym yr) met.takes) in
          let its = sent_item f.o.item (f.way ∙ ap is_some met.sends) in
          never _ (meet i j x.s y.s x.asked y.asked f.o g.o its.0 ne x.here' y.here' x.next' y.next' (record {
            gives = f.one;
            takes = g.one;
            sends = its.1;
            receives = no_item g.o.item (g.way ∙ ap is_some met.receives);
            same = g.chan ∙ met.same ∙ sym f.chan;
            opened = ap (λ k. (channel_of v.channels k).closed) f.chan ∙ met.opened;
            unbuffered = ap (λ k. (channel_of v.channels k).capacity) f.chan ∙ met.unbuffered;
            waits = inl x.wait;
          }))
        where
          sent_item : (z : Option Item) → is_some z ≡ true → (x : Item) × (z ≡ Some x)
          sent_item None e = cc
          sent_item (Some x) e = (x, refl)

          no_item : (z : Option Item) → is_some z ≡ false → z ≡ None
          no_item None e = refl
          no_item (Some x) e = cc

    ended : (e : Ending) → Ends P v e → Ends M (bare v) e
    ended e (returns s h a) = plain_end e 1 s End tt h a (λ x y. returns s.state x y)
    ended e (exits n s h a) = plain_end e n s Exit tt h a (λ x y. exits n s.state x y)
    ended e (panics n s cause h a) = plain_end e n s (Panic cause) tt h a (λ x y. panics n s.state cause x y)
    ended e (sends_so n s asked o h a one is closed) = let f = said s (Asks asked) a in sends_so n s.state f.0 o (at_under v.goroutines n s h) f.1 (made_offers ps s.progress f.0 asked o f.2 one) is closed
    ended e (closes_so n s k h a closed) = plain_end e n s (Close (Some k)) tt h a (λ x y. closes_so n s.state k x y closed)
    ended e (closes_nil n s h a) = plain_end e n s (Close None) tt h a (λ x y. closes_nil n s.state x y)
    ended e (makes_so n s size z h a) = plain_end e n s (Make (negsuc size) z) tt h a (λ x y. makes_so n s.state size z x y)
    ended e (deadlock waits never) = deadlock (waits_too waits never) (no_move waits never)

  -- what is allowed with the plan is allowed without it
  pub unpaused : (output : List ℕ) (ending : Ending) → Allowed P output ending → Allowed M output ending
  unpaused output ending h = record { last = bare h.last; run = leads (first M) (first P) h.last here h.run; ends = ended h.last ending h.ends; printed = h.printed }
