-- A goroutine that keeps to a plan has the story of the goroutine that doesn't.
use Rattle.std.proofs.Common.{◌≡◌, ℕ, ◌==◌, Bool, true, false, ◌&&◌, not, cond, List, [], ◌∷◌, ◌++◌, map, Option, Some, None, refl, sym, ◌∙◌, ap, subst, append_assoc, append-nil, inl, inr, ◌⊎◌}
use Rattle.std.proofs.lemmas.Bool.{and_right}
use Rattle.std.specs.Option.{is_some}
use Rattle.word.specs.declared.value.Word.{Word}
use Rattle.word.specs.declared.value.Word.TheVariants.{Bool as Truth}
use Rattle.word.specs.declared.request.Case.{Case}
use Rattle.word.specs.Values.{Request, Make, Go, Send, Receive, Close, Select, Len, Cap, Print, End, Exit, Panic, Exhausted, Reply, Nothing, Value, Received, Clause, Default, Closed}
use Rattle.word.specs.Kinds.{Next, Slides, Ticks, Asks, Stuck, Suits}
use Rattle.word.specs.Related.{Parts}
use Rattle.pauses.specs.Laws.{ArePart, Retold, Serves, Story}
use Rattle.pauses.specs.Paused.{PausedState, Progress, asking, beside, clause_of, is_vain, number_word, onward, paused_answer, paused_next, paused_parts, selecting, step_of, way_after, way_in, way_to, way_words}
use Rattle.pauses.specs.Plans.{Pause}
use Rattle.pauses.specs.Selects.{alone, thinned}
use Rattle.pauses.proofs.Offers.{alone_part, thinned_offers, thinned_part}

-- ---- a way comes back from its words

numbers_back : (before ns : List ℕ) (args : List Word) → way_after before (map number_word ns ++ Truth true ∷ args) ≡ (Some (before ++ ns), args)
numbers_back before [] args = ap (λ (b : List ℕ). (Some b, args)) (sym (append-nil before))
numbers_back before (n ∷ ns) args = numbers_back (before ++ n ∷ []) ns args ∙ ap (λ (b : List ℕ). (Some b, args)) (append_assoc before (n ∷ []) ns)

pub way_back : (way : Option (List ℕ)) (args : List Word) → (way_in (way_words way ++ args)).1 ≡ args
way_back None args = refl
way_back (Some []) args = refl
way_back (Some (n ∷ ns)) args =
    ap (λ (ws : List Word). (way_after (n ∷ []) ws).1) (append_assoc (map number_word ns) (Truth true ∷ []) args) ∙ ap (λ (f : Option (List ℕ) × List Word). f.1) (numbers_back (n ∷ []) ns args)

-- ---- the outcome of a request

module _ (ps : List Pause) where
  -- the clause that was tried isn't ready
  record IsVain (g : Progress) (q asked : Request) (reply : Reply) : Type 0 where
    cases : List Case
    some : List Case
    default : Bool
    wanted : q ≡ Select cases default
    tried : asked ≡ Select some true
    part : ArePart cases some
    told : reply ≡ Default
    vain : is_vain ps g reply ≡ true

  abbrev Replied : Progress → Request → Request → Reply → Type 0
  Replied g q asked reply = (Serves q asked reply × (is_vain ps g reply ≡ false)) ⊎ IsVain g q asked reply

  abbrev Comes : Progress → Request → Next Progress → Type 0
  Comes g q (Slides h) = Unit {0}
  Comes g q (Ticks h) = ⊥
  Comes g q (Asks asked) = (reply : Reply) → Suits asked reply → Replied g q asked reply
  Comes g q Stuck = ⊥

  plain : (g : Progress) (q : Request) (reply : Reply) → (Suits q Default → ⊥) → Suits q reply → Replied g q q reply
  plain g q Nothing never suits = inl (Serves.itself, refl)
  plain g q (Value w) never suits = inl (Serves.itself, refl)
  plain g q (Received item ok) never suits = inl (Serves.itself, refl)
  plain g q (Clause k got) never suits = inl (Serves.itself, refl)
  plain g q Default never suits = absurd (never suits)
  plain g q Closed never suits = inl (Serves.itself, refl)

  started : (g : Progress) (function : ℕ) (args : List Word) (way : Option (List ℕ)) (reply : Reply) → Suits (Go function (way_words way ++ args)) reply → Replied g (Go function args) (Go function (way_words way ++ args)) reply
  started g function args way Nothing suits = inl (Serves.named (way_back way args), refl)
  started g function args way (Value w) suits = absurd suits
  started g function args way (Received item ok) suits = absurd suits
  started g function args way (Clause k got) suits = absurd suits
  started g function args way Default suits = absurd suits
  started g function args way Closed suits = absurd suits

  goes : (g h : Progress) (function : ℕ) (args : List Word) (way : Option (List ℕ)) (b : Bool) → Comes g (Go function args) (cond b (Asks (Go function (way_words way ++ args))) (Slides h))
  goes g h function args way true = started g function args way
  goes g h function args way false = tt

  -- a select that is made as it is, or thinned
  selected : (g : Progress) (cases some : List Case) (default : Bool) (reply : Reply) → Serves (Select cases default) (Select some default) reply → is_vain ps g Default ≡ false → Suits (Select some default) reply → Replied g (Select cases default) (Select some default) reply
  selected g cases some default Nothing serves never suits = inl (serves, refl)
  selected g cases some default (Value w) serves never suits = inl (serves, refl)
  selected g cases some default (Received item ok) serves never suits = inl (serves, refl)
  selected g cases some default (Clause k got) serves never suits = inl (serves, refl)
  selected g cases some default Default serves never suits = inl (serves, never)
  selected g cases some default Closed serves never suits = inl (serves, refl)

  tries : (g : Progress) (cases : List Case) (default : Bool) (clause : ℕ) (reply : Reply) → is_vain ps g Default ≡ true → Suits (Select (alone clause cases) true) reply → Replied g (Select cases default) (Select (alone clause cases) true) reply
  tries g cases default clause Nothing vain suits = absurd suits
  tries g cases default clause (Value w) vain suits = absurd suits
  tries g cases default clause (Received item ok) vain suits = absurd suits
  tries g cases default clause (Clause k got) vain suits = inl (Serves.tried (alone_part clause cases), refl)
  tries g cases default clause Default vain suits = inr (record { cases = cases; some = alone clause cases; default = default; wanted = refl; tried = refl; part = alone_part clause cases; told = refl; vain = vain })
  tries g cases default clause Closed vain suits = absurd suits

  abbrev chosen : Bool → List Case → Bool → Option ℕ → Next Progress
  chosen prepared cases default None = Asks (Select cases default)
  chosen prepared cases default (Some clause) = cond prepared (Asks (Select (thinned clause cases) default)) (Asks (Select (alone clause cases) true))

  selects : (g : Progress) (cases : List Case) (default : Bool) (o : Option ℕ) (b : Bool) → clause_of ps g.way g.request ≡ o → g.prepared ≡ b → Comes g (Select cases default) (chosen b cases default o)
  selects g cases default None b named prepared = λ reply suits.
      selected g cases cases default reply Serves.itself (ap (λ (o : Option ℕ). not g.prepared && is_some o) named ∙ and_right (not g.prepared) false refl) suits
  selects g cases default (Some clause) true named prepared = λ reply suits.
      selected g cases (thinned clause cases) default reply (Serves.thinned (thinned_part clause cases) (thinned_offers clause cases))
      (ap (λ (b : Bool). not b && is_some (clause_of ps g.way g.request)) prepared) suits
  selects g cases default (Some clause) false named prepared = λ reply suits.
      tries g cases default clause reply (ap (λ (b : Bool). not b && is_some (clause_of ps g.way g.request)) prepared ∙ ap (λ (o : Option ℕ). is_some o) named) suits

  selects_all : (g : Progress) (cases : List Case) (default : Bool) (o : Option ℕ) → clause_of ps g.way g.request ≡ o → Comes g (Select cases default) (selecting ps g cases default o)
  selects_all g cases default None named = selects g cases default None g.prepared named refl
  selects_all g cases default (Some clause) named = selects g cases default (Some clause) g.prepared named refl

  comes : (g : Progress) (q : Request) → Comes g q (asking ps g q)
  comes g (Make size z) = λ reply suits. plain g (Make size z) reply (λ h. h) suits
  comes g (Go function args) = goes g _ function args (way_to ps g.way g.started) g.prepared
  comes g (Send c item) = λ reply suits. plain g (Send c item) reply (λ h. h) suits
  comes g (Receive c) = λ reply suits. plain g (Receive c) reply (λ h. h) suits
  comes g (Close c) = λ reply suits. plain g (Close c) reply (λ h. h) suits
  comes g (Select cases default) = selects_all g cases default (clause_of ps g.way g.request) refl
  comes g (Len c) = λ reply suits. plain g (Len c) reply (λ h. h) suits
  comes g (Cap c) = λ reply suits. plain g (Cap c) reply (λ h. h) suits
  comes g (Print bytes) = λ reply suits. plain g (Print bytes) reply (λ h. h) suits
  comes g End = λ reply suits. plain g End reply (λ h. h) suits
  comes g Exit = λ reply suits. plain g Exit reply (λ h. h) suits
  comes g (Panic p) = λ reply suits. plain g (Panic p) reply (λ h. h) suits
  comes g Exhausted = λ reply suits. plain g Exhausted reply (λ h. h) suits

-- ---- steps

module _ {S : Type 0} (K : Parts S) (ps : List Pause) where
  abbrev Steps : PausedState S → Next (PausedState S) → Type 0
  Steps s (Slides t) = (K.next s.state ≡ Slides t.state) ⊎ (s.state ≡ t.state)
  Steps s (Ticks t) = (K.next s.state ≡ Ticks t.state) ⊎ (s.state ≡ t.state)
  Steps s (Asks asked) = (q : Request) × (K.next s.state ≡ Asks q) × ((reply : Reply) → Suits asked reply → Replied ps s.progress q asked reply)
  Steps s Stuck = Unit {0}

  steps_beside : (s : PausedState S) (q : Request) (m : Next Progress) → K.next s.state ≡ Asks q → Comes ps s.progress q m → Steps s (beside s.state m)
  steps_beside s q (Slides h) e come = inr refl
  steps_beside s q (Ticks h) e come = absurd come
  steps_beside s q (Asks asked) e come = (q, e, come)
  steps_beside s q Stuck e come = tt

  steps_of : (s : PausedState S) (n : Next S) → K.next s.state ≡ n → Steps s (step_of K ps s n)
  steps_of s (Slides a) e = inl e
  steps_of s (Ticks a) e = inl e
  steps_of s (Asks q) e = steps_beside s q (asking ps s.progress q) e (comes ps s.progress q)
  steps_of s Stuck e = tt

  steps_by : (s t : PausedState S) (b : Bool) → s.state ≡ t.state → Steps s (cond b (step_of K ps s (K.next s.state)) (Ticks t))
  steps_by s t true same = steps_of s (K.next s.state) refl
  steps_by s t false same = inr same

  steps : (s : PausedState S) → Steps s (paused_next K ps s)
  steps s = steps_by s _ (s.progress.left == 0) refl

  -- ---- stories

  abbrev Tells : S → List (Request × Reply) → S → Type 0
  Tells a story b = Retold K a story b

  slid : (s t : PausedState S) (story : List (Request × Reply)) (b : S) → Steps s (Slides t) → Tells t.state story b → Tells s.state story b
  slid s t story b (inl e) rest = Retold.slides e rest
  slid s t story b (inr e) rest = subst (λ (a : S). Tells a story b) (sym e) rest

  ticked : (s t : PausedState S) (story : List (Request × Reply)) (b : S) → Steps s (Ticks t) → Tells t.state story b → Tells s.state story b
  ticked s t story b (inl e) rest = Retold.ticks e rest
  ticked s t story b (inr e) rest = subst (λ (a : S). Tells a story b) (sym e) rest

  told_by : (s : PausedState S) (reply : Reply) → is_vain ps s.progress reply ≡ false → (paused_answer K ps s reply).state ≡ K.answer s.state reply
  told_by s reply e = ap (λ (b : Bool). (cond b (record s { progress = record s.progress { prepared = true } }) (record { state = K.answer s.state reply; progress = onward ps s.progress })).state) e

  vain_by : (s : PausedState S) (reply : Reply) → is_vain ps s.progress reply ≡ true → (paused_answer K ps s reply).state ≡ s.state
  vain_by s reply e = ap (λ (b : Bool). (cond b (record s { progress = record s.progress { prepared = true } }) (record { state = K.answer s.state reply; progress = onward ps s.progress })).state) e

  replied : (s : PausedState S) (q asked : Request) (reply : Reply) (story : List (Request × Reply)) (b : S) → K.next s.state ≡ Asks q → Replied ps s.progress q asked reply → Tells (paused_answer K ps s reply).state story b → Tells s.state ((asked, reply) ∷ story) b
  replied s q asked reply story b e (inl (serves, never)) rest = Retold.asks e serves (subst (λ (a : S). Tells a story b) (told_by s reply never) rest)
  replied s q asked reply story b e (inr v) rest =
      let first : Tells s.state ((Select v.some true, Default) ∷ story) b = Retold.tries (e ∙ ap (λ (r : Request). Asks r) v.wanted) v.part (subst (λ (a : S). Tells a story b) (vain_by s reply v.vain) rest) in
      let second : Tells s.state ((Select v.some true, reply) ∷ story) b = subst (λ (r : Reply). Tells s.state ((Select v.some true, r) ∷ story) b) (sym v.told) first in
      subst (λ (r : Request). Tells s.state ((r, reply) ∷ story) b) (sym v.tried) second

  pub retold : (s t : PausedState S) (story : List (Request × Reply)) → Story (paused_parts K ps) s story t → Retold K s.state story t.state
  retold s t story Story.over = Retold.over
  retold s t story (Story.slides {t = m} e rest) = slid s m story t.state (subst (Steps s) e (steps s)) (retold m t story rest)
  retold s t story (Story.ticks {t = m} e rest) = ticked s m story t.state (subst (Steps s) e (steps s)) (retold m t story rest)
  retold s t story (Story.asks {q = asked} {reply = reply} {story = more} e suits rest) =
      let found = subst (Steps s) e (steps s) in
      replied s found.0 asked reply more t.state found.1 (found.2 reply suits) (retold (paused_answer K ps s reply) t more rest)
