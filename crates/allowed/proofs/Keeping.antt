-- A goroutine that keeps to a plan uses only channels that it was given, if it does so without the plan.
use Rattle.std.proofs.Common.{◌≡◌, ℕ, ◌+◌, ◌-◌, pos, negsuc, ◌==◌, ◌⊎◌, Bool, true, false, cond, List, [], ◌∷◌, ◌++◌, map, Option, Some, None, refl, sym, subst, inl, inr}
use Rattle.word.specs.declared.request.Case.{Case}
use Rattle.word.specs.declared.value.Word.{Word}
use Rattle.word.specs.declared.value.Word.TheVariants.{Int, Bool as Truth, Chan}
use Rattle.word.specs.Values.{Request, Make, Go, Send, Receive, Close, Select, Len, Cap, Print, End, Exit, Panic, Exhausted, Reply}
use Rattle.word.specs.Kinds.{Next, Slides, Ticks, Asks, Stuck}
use Rattle.word.specs.Related.{Parts, kind_of}
use Rattle.allowed.specs.Naming.{InWords, InItem, InCases, InRequest, InReply, IsHonest}
use Rattle.pauses.specs.Laws.{ArePart}
use Rattle.pauses.specs.Paused.{PausedState, Progress, asking, beside, clause_of, is_vain, number_word, onward, paused_answer, paused_next, paused_parts, selecting, step_of, way_after, way_in, way_to, way_words}
use Rattle.pauses.specs.Plans.{Pause}
use Rattle.pauses.specs.Selects.{alone, thinned}
use Rattle.pauses.proofs.Offers.{alone_part, thinned_part}

-- ---- words

in_after : (k : ℕ) (before : List ℕ) (ws : List Word) → InWords k (way_after before ws).1 → InWords k ws
in_after k before [] h = h
in_after k before (Int (pos n) ∷ ws) h = inr (in_after k _ ws h)
in_after k before (Int (negsuc n) ∷ ws) h = h
in_after k before (Truth true ∷ ws) h = inr h
in_after k before (Truth false ∷ ws) h = inr h
in_after k before (Chan c ∷ ws) h = h

in_way : (k : ℕ) (ws : List Word) → InWords k (way_in ws).1 → InWords k ws
in_way k [] h = h
in_way k (w ∷ ws) h = in_after k [] (w ∷ ws) h

behind_numbers : (k : ℕ) (ns : List ℕ) (ws : List Word) → InWords k (map number_word ns ++ ws) → InWords k ws
behind_numbers k [] ws h = h
behind_numbers k (n ∷ ns) ws (inl e) = cc
behind_numbers k (n ∷ ns) ws (inr h) = behind_numbers k ns ws h

behind_truth : (k : ℕ) (ns : List ℕ) (args : List Word) → InWords k ((map number_word ns ++ Truth true ∷ []) ++ args) → InWords k args
behind_truth k [] args (inl e) = cc
behind_truth k [] args (inr h) = h
behind_truth k (n ∷ ns) args (inl e) = cc
behind_truth k (n ∷ ns) args (inr h) = behind_truth k ns args h

behind_way : (k : ℕ) (way : Option (List ℕ)) (args : List Word) → InWords k (way_words way ++ args) → InWords k args
behind_way k None args (inl e) = cc
behind_way k None args (inr h) = h
behind_way k (Some way) args h = behind_truth k way args h

-- ---- selects

abbrev InCase : ℕ → Case → Type 0
InCase k x = (x.chan ≡ Some k) ⊎ InItem k x.item

in_part : (k : ℕ) (cases some : List Case) → ArePart cases some → InCases k some → InCases k cases
in_part k [] [] p h = h
in_part k [] (y ∷ ys) p h = absurd p
in_part k (x ∷ xs) [] p h = elim h [ ]
in_part k (x ∷ xs) (y ∷ ys) p (inr h) = inr (in_part k xs ys p.1 h)
in_part k (x ∷ xs) (y ∷ ys) p (inl h) = inl (elim p.0 [
  | inl e ↦ subst (InCase k) e h
  | inr e ↦ elim (subst (InCase k) e h) [ inl c ↦ absurd (no_chan c) | inr i ↦ inr i ]
])
  where
    no_chan : (o : None ≡ Some k) → ⊥
    no_chan o = cc

-- ---- steps

abbrev tried_next : List Case → Bool → ℕ → Bool → Next Progress
tried_next cases default clause prepared = cond prepared (Asks (Select (thinned clause cases) default)) (Asks (Select (alone clause cases) true))

asked_same : (q p : Request) (x : Next Progress) → x ≡ Asks q → x ≡ Asks p → q ≡ p
asked_same q p x e e' = cc

module _ {S : Type 0} (K : Parts S) (holds : S → ℕ → Type 0) (honest : IsHonest (kind_of K) holds) (ps : List Pause) where
  abbrev Held : PausedState S → ℕ → Type 0
  Held s k = holds s.state k

  -- what the request names that is made names the request that would be made
  asked_names : (g : Progress) (q p : Request) (k : ℕ) → asking ps g q ≡ Asks p → InRequest k p → InRequest k q
  asked_names g (Go f args) p k e h = go g.prepared e
    where
      go : (b : Bool) → cond b (Asks (Go f (way_words (way_to ps g.way g.started) ++ args))) (Slides (record g { started = g.started + 1; prepared = true })) ≡ Asks p → InWords k args
      go true e' = behind_way k (way_to ps g.way g.started) args (subst (InRequest k) (sym (asked_same (Go f (way_words (way_to ps g.way g.started) ++ args)) p (Asks (Go f (way_words (way_to ps g.way g.started) ++ args))) refl e')) h)
      go false e' = cc
  asked_names g (Select cases default) p k e h = go (clause_of ps g.way g.request) e
    where
      tried : (clause : ℕ) (b : Bool) → tried_next cases default clause b ≡ Asks p → InCases k cases
      tried clause true e' = in_part k cases (thinned clause cases) (thinned_part clause cases) (subst (InRequest k) (sym (asked_same (Select (thinned clause cases) default) p (Asks (Select (thinned clause cases) default)) refl e')) h)
      tried clause false e' = in_part k cases (alone clause cases) (alone_part clause cases) (subst (InRequest k) (sym (asked_same (Select (alone clause cases) true) p (Asks (Select (alone clause cases) true)) refl e')) h)

      go : (o : Option ℕ) → selecting ps g cases default o ≡ Asks p → InCases k cases
      go None e' = subst (InRequest k) (sym (asked_same (Select cases default) p (Asks (Select cases default)) refl e')) h
      go (Some clause) e' = tried clause g.prepared e'
  asked_names g (Make size z) p k e h = subst (InRequest k) (sym (asked_same (Make size z) p (Asks (Make size z)) refl e)) h
  asked_names g (Send c item) p k e h = subst (InRequest k) (sym (asked_same (Send c item) p (Asks (Send c item)) refl e)) h
  asked_names g (Receive c) p k e h = subst (InRequest k) (sym (asked_same (Receive c) p (Asks (Receive c)) refl e)) h
  asked_names g (Close c) p k e h = subst (InRequest k) (sym (asked_same (Close c) p (Asks (Close c)) refl e)) h
  asked_names g (Len c) p k e h = subst (InRequest k) (sym (asked_same (Len c) p (Asks (Len c)) refl e)) h
  asked_names g (Cap c) p k e h = subst (InRequest k) (sym (asked_same (Cap c) p (Asks (Cap c)) refl e)) h
  asked_names g (Print bytes) p k e h = absurd (subst (InRequest k) (sym (asked_same (Print bytes) p (Asks (Print bytes)) refl e)) h)
  asked_names g End p k e h = absurd (subst (InRequest k) (sym (asked_same End p (Asks End) refl e)) h)
  asked_names g Exit p k e h = absurd (subst (InRequest k) (sym (asked_same Exit p (Asks Exit) refl e)) h)
  asked_names g (Panic cause) p k e h = absurd (subst (InRequest k) (sym (asked_same (Panic cause) p (Asks (Panic cause)) refl e)) h)
  asked_names g Exhausted p k e h = absurd (subst (InRequest k) (sym (asked_same Exhausted p (Asks Exhausted) refl e)) h)

  -- a step beside a request leaves the state as it is
  beside_state : (s : S) (x : Next Progress) (t : PausedState S) → (beside s x ≡ Slides t) ⊎ (beside s x ≡ Ticks t) → t.state ≡ s
  beside_state s (Slides g) t (inl e) = cc
  beside_state s (Slides g) t (inr e) = cc
  beside_state s (Ticks g) t (inl e) = cc
  beside_state s (Ticks g) t (inr e) = cc
  beside_state s (Asks q) t (inl e) = cc
  beside_state s (Asks q) t (inr e) = cc
  beside_state s Stuck t (inl e) = cc
  beside_state s Stuck t (inr e) = cc

  beside_asks : (s : S) (x : Next Progress) (q : Request) → beside s x ≡ Asks q → x ≡ Asks q
  beside_asks s (Slides g) q e = cc
  beside_asks s (Ticks g) q e = cc
  beside_asks s (Asks p) q e = cc
  beside_asks s Stuck q e = cc

  keeps_steps : (s t : PausedState S) (k : ℕ) → (paused_next K ps s ≡ Slides t) ⊎ (paused_next K ps s ≡ Ticks t) → Held t k → Held s k
  keeps_steps s t k h held = go (s.progress.left == 0) h
    where
      waits : PausedState S
      waits = record s { progress = record s.progress { left = s.progress.left - 1 } }

      on : (x : Next S) → K.next s.state ≡ x → (step_of K ps s x ≡ Slides t) ⊎ (step_of K ps s x ≡ Ticks t) → holds s.state k
      on (Slides a) e (inl f) = honest.steps s.state a k (inl e) (subst (λ (y : PausedState S). holds y.state k) (sym (slid f)) held)
        where
          slid : Slides (record s { state = a }) ≡ Slides t → record s { state = a } ≡ t
          slid i = cc
      on (Slides a) e (inr f) = cc
      on (Ticks a) e (inl f) = cc
      on (Ticks a) e (inr f) = honest.steps s.state a k (inr e) (subst (λ (y : PausedState S). holds y.state k) (sym (ticked f)) held)
        where
          ticked : Ticks (record s { state = a }) ≡ Ticks t → record s { state = a } ≡ t
          ticked i = cc
      on (Asks q) e f = subst (λ x. holds x k) (beside_state s.state (asking ps s.progress q) t f) held
      on Stuck e (inl f) = cc
      on Stuck e (inr f) = cc

      go : (b : Bool) → (cond b (step_of K ps s (K.next s.state)) (Ticks (record s { progress = record s.progress { left = s.progress.left - 1 } })) ≡ Slides t)
          ⊎ (cond b (step_of K ps s (K.next s.state)) (Ticks (record s { progress = record s.progress { left = s.progress.left - 1 } })) ≡ Ticks t) → holds s.state k
      go true f = on (K.next s.state) refl f
      go false (inl f) = cc
      go false (inr f) = subst (λ (y : PausedState S). holds y.state k) (sym (ticked f)) held
        where
          ticked : Ticks waits ≡ Ticks t → waits ≡ t
          ticked i = cc

  keeps_asks : (s : PausedState S) (q : Request) (k : ℕ) → paused_next K ps s ≡ Asks q → InRequest k q → Held s k
  keeps_asks s q k h named = go (s.progress.left == 0) h
    where
      on : (x : Next S) → K.next s.state ≡ x → step_of K ps s x ≡ Asks q → holds s.state k
      on (Slides a) e f = cc
      on (Ticks a) e f = cc
      on (Asks p) e f = honest.asks s.state p k e (asked_names s.progress p q k (beside_asks s.state (asking ps s.progress p) q f) named)
      on Stuck e f = cc

      go : (b : Bool) → cond b (step_of K ps s (K.next s.state)) (Ticks (record s { progress = record s.progress { left = s.progress.left - 1 } })) ≡ Asks q → holds s.state k
      go true f = on (K.next s.state) refl f
      go false f = cc

  keeps_answers : (s : PausedState S) (reply : Reply) (k : ℕ) → Held (paused_answer K ps s reply) k → Held s k ⊎ InReply k reply
  keeps_answers s reply k h = go (is_vain ps s.progress reply) h
    where
      go : (b : Bool) → Held (cond b (record s { progress = record s.progress { prepared = true } }) (record { state = K.answer s.state reply; progress = onward ps s.progress })) k → holds s.state k ⊎ InReply k reply
      go true h' = inl h'
      go false h' = honest.answers s.state reply k h'

  pub paused_honest : IsHonest (kind_of (paused_parts K ps)) Held
  paused_honest = record {
    steps = keeps_steps;
    asks = keeps_asks;
    answers = keeps_answers;
    begins = λ function args k h. in_way k args (honest.begins function (way_in args).1 k h);
  }
