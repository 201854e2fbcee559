-- Goroutines that are related step by step to others use only channels that were made if the others do, also if they keep to a plan.
use Rattle.std.proofs.Common.{◌≡◌, ℕ, zero, suc, ◌-◌, ◌==◌, Bool, true, false, not, cond, List, [], ◌∷◌, ◌++◌, Option, Some, None, refl, sym, ap, ◌∙◌, subst, inl, inr}
use Rattle.std.specs.Option.{is_some}
use Rattle.std.proofs.lemmas.Bool.{false≢true}
use Rattle.word.specs.declared.request.Case.{Case}
use Rattle.word.specs.declared.value.Word.{Word}
use Rattle.word.specs.Values.{Item, Request, Make, Go, Send, Receive, Close, Select, Len, Cap, Print, End, Exit, Panic, Exhausted, Reply, Nothing, Value, Received, Clause, Default, Closed}
use Rattle.word.specs.Kinds.{Next, Slides, Ticks, Asks, Stuck, GoroutineKind, Suits, SuitsClause}
use Rattle.word.specs.Related.{Parts, kind_of, Slips, here, more, Falls, Starts, Answers, Matches, IsPair, IsKept}
use Rattle.word.specs.Worlds.{Follows, Equal}
use Rattle.word.proofs.Equal.{equal}
use Rattle.pauses.specs.Laws.{ArePart}
use Rattle.pauses.specs.Paused.{PausedState, Progress, asking, beside, clause_of, is_vain, onward, paused, paused_next, selecting, step_of, way_words}
use Rattle.pauses.specs.Plans.{Pause}
use Rattle.pauses.specs.Selects.{alone, thinned}
use Rattle.pauses.specs.Weights.{paused_weight}
use Rattle.pauses.proofs.Falls.{paused_falls}
use Rattle.pauses.proofs.Offers.{alone_part, thinned_part}
use Rattle.pauses.proofs.Retelling.{way_back}
use Rattle.allowed.specs.Naming.{IsHonest}
use Rattle.allowed.specs.Orders.{UsesMade, NamesMade, RunsAsAllowed}
use Rattle.allowed.proofs.Keeping.{paused_honest}
use Rattle.allowed.proofs.Made.{names_made}
use Rattle.allowed.proofs.Ordinary.{ordinary_is_allowed}
use Rattle.allowed.proofs.Unpaused.{IsPlain, Made, itself, with_way, whole, thins, tries, made, unpaused}

-- ---- silent steps

pub slips_on : {A : Type 0} (next : A → Next A) (a b c : A) → Slips next a b → Slips next b c → Slips next a c
slips_on next a b c here rest = rest
slips_on next a b c (more {b = m} e first) rest = more e (slips_on next m b c first rest)

module _ (K M : GoroutineKind) (R : K.State → M.State → Type 0) where
  -- what comes next may come after silent steps
  matches_later : (s : K.State) (x : Next K.State) (c d : M.State) → Slips M.next c d → Matches K M R s x d → Matches K M R s x c
  matches_later s (Slides a) c d first m = (m.0, slips_on M.next c d m.0 first m.1, m.2)
  matches_later s (Ticks a) c d first m = (m.0, m.1, slips_on M.next c d m.0 first m.2, m.3, m.4)
  matches_later s (Asks q) c d first m = (m.0, slips_on M.next c d m.0 first m.1, m.2, m.3, m.4)
  matches_later s Stuck c d first m = m

pub pairs_match : {S T P : Type 0} (K : Parts S) (M : Parts T) (left : P → S) (right : P → T) → IsKept K M left right → (s : S) (t : T) → IsPair left right s t → Matches (kind_of K) (kind_of M) (IsPair left right) s (K.next s) t
pairs_match K M left right h s t p =
    subst (λ x. Matches (kind_of K) (kind_of M) (IsPair left right) x (K.next x) t) p.1
    (subst (λ y. Matches (kind_of K) (kind_of M) (IsPair left right) (left p.0) (K.next (left p.0)) y) p.2 (h.steps p.0))

-- ---- a reply that suits the request that a plan makes of another suits the other, unless a clause was tried in vain

part_suits : (cases some : List Case) → ArePart cases some → (k : ℕ) (got : Option (Item × Bool)) → SuitsClause some k got → SuitsClause cases k got
part_suits [] [] part k got h = h
part_suits [] (y ∷ ys) part k got h = absurd part
part_suits (x ∷ xs) [] part k got h = absurd h
part_suits (x ∷ xs) (y ∷ ys) part zero got h = h
part_suits (x ∷ xs) (y ∷ ys) part (suc zero) got h = elim part.0 [
  | inl e ↦ subst (λ (z : Case). is_some got ≡ not (is_some z.item)) e h
  | inr e ↦ subst (λ (z : Case). is_some got ≡ not (is_some z.item)) e h
]
part_suits (x ∷ xs) (y ∷ ys) part (suc (suc k)) got h = part_suits xs ys part.1 (suc k) got h

module _ (ps : List Pause) (g : Progress) where
  way_suits : (function : ℕ) (args words : List Word) (reply : Reply) → Suits (Go function words) reply → Suits (Go function args) reply
  way_suits function args words Nothing h = tt
  way_suits function args words (Value w) h = absurd h
  way_suits function args words (Received item ok) h = absurd h
  way_suits function args words (Clause k got) h = absurd h
  way_suits function args words Default h = absurd h
  way_suits function args words Closed h = absurd h

  thinned_suits : (cases some : List Case) (default : Bool) (reply : Reply) → ArePart cases some → Suits (Select some default) reply → Suits (Select cases default) reply
  thinned_suits cases some default Nothing part h = absurd h
  thinned_suits cases some default (Value w) part h = absurd h
  thinned_suits cases some default (Received item ok) part h = absurd h
  thinned_suits cases some default (Clause k got) part h = part_suits cases some part k got h
  thinned_suits cases some default Default part h = h
  thinned_suits cases some default Closed part h = absurd h

  tried_suits : (cases some : List Case) (default : Bool) (reply : Reply) → ArePart cases some → is_vain ps g Default ≡ true → Suits (Select some true) reply → is_vain ps g reply ≡ false → Suits (Select cases default) reply
  tried_suits cases some default Nothing part vain h never = absurd h
  tried_suits cases some default (Value w) part vain h never = absurd h
  tried_suits cases some default (Received item ok) part vain h never = absurd h
  tried_suits cases some default (Clause k got) part vain h never = part_suits cases some part k got h
  tried_suits cases some default Default part vain h never = absurd (false≢true (sym never ∙ vain))
  tried_suits cases some default Closed part vain h never = absurd h

  made_suits : (q asked : Request) → Made ps g q asked → (reply : Reply) → Suits asked reply → is_vain ps g reply ≡ false → Suits q reply
  made_suits q asked (itself p plain) reply h never = h
  made_suits q asked (with_way function args way) reply h never = way_suits function args (way_words way ++ args) reply h
  made_suits q asked (whole cases default vain) reply h never = h
  made_suits q asked (thins cases default clause vain) reply h never = thinned_suits cases (thinned clause cases) default reply (thinned_part clause cases) h
  made_suits q asked (tries cases default clause vain) reply h never = tried_suits cases (alone clause cases) default reply (alone_part clause cases) vain h never

  never_stuck : (q : Request) → asking ps g q ≡ Stuck → ⊥
  never_stuck (Go function args) e = go g.prepared _ _ e
    where
      go : (b : Bool) (q : Request) (h : Progress) → ◌≡◌ {A = Next Progress} (cond b (Asks q) (Slides h)) Stuck → ⊥
      go true q h e' = cc
      go false q h e' = cc
  never_stuck (Select cases default) e = go (clause_of ps g.way g.request) e
    where
      one : (b : Bool) (p q : Request) → ◌≡◌ {A = Next Progress} (cond b (Asks p) (Asks q)) Stuck → ⊥
      one true p q e' = cc
      one false p q e' = cc

      go : (o : Option ℕ) → selecting ps g cases default o ≡ Stuck → ⊥
      go None e' = cc
      go (Some clause) e' = one g.prepared _ _ e'
  never_stuck (Make size z) e = cc
  never_stuck (Send c item) e = cc
  never_stuck (Receive c) e = cc
  never_stuck (Close c) e = cc
  never_stuck (Len c) e = cc
  never_stuck (Cap c) e = cc
  never_stuck (Print bytes) e = cc
  never_stuck End e = cc
  never_stuck Exit e = cc
  never_stuck (Panic p) e = cc
  never_stuck Exhausted e = cc

module _ {S : Type 0} (K : Parts S) (ps : List Pause) (a : S) (g : Progress) where
  -- who doesn't wait makes its own step
  steps_now : (g.left == 0) ≡ true → (x : Next S) → K.next a ≡ x → paused_next K ps (record { state = a; progress = g }) ≡ step_of K ps (record { state = a; progress = g }) x
  steps_now z x e =
      ap (λ (b : Bool). cond b (step_of K ps (record { state = a; progress = g }) (K.next a)) (Ticks (record { state = a; progress = record g { left = g.left - 1 } }))) z
      ∙ ap (step_of K ps (record { state = a; progress = g })) e

-- ---- two kinds that keep to a plan

module _ {S T : Type 0} (K : Parts S) (M : Parts T) (R : S → T → Type 0) (ps : List Pause) (sim : (s : S) (t : T) → R s t → Matches (kind_of K) (kind_of M) R s (K.next s) t) where
  -- related, or at the same request
  data Near (s : S) (t : T) : Type 0 where
    related : R s t → Near s t
    at_same : (q : Request) → K.next s ≡ Asks q → M.next t ≡ Asks q → Answers (kind_of K) (kind_of M) R q s t → Starts (kind_of K) (kind_of M) R q → Near s t

  abbrev Both : PausedState S → PausedState T → Type 0
  Both s t = Near s.state t.state × (t.progress ≡ s.progress)

  abbrev Left : GoroutineKind
  Left = paused (kind_of K) ps

  abbrev Right : GoroutineKind
  Right = paused (kind_of M) ps

  starts_plain : (q : Request) → IsPlain ps q → Starts Left Right Both q
  starts_plain (Go function args) plain = absurd plain
  starts_plain (Select cases default) plain = tt
  starts_plain (Make size z) plain = tt
  starts_plain (Send c item) plain = tt
  starts_plain (Receive c) plain = tt
  starts_plain (Close c) plain = tt
  starts_plain (Len c) plain = tt
  starts_plain (Cap c) plain = tt
  starts_plain (Print bytes) plain = tt
  starts_plain End plain = tt
  starts_plain Exit plain = tt
  starts_plain (Panic p) plain = tt
  starts_plain Exhausted plain = tt

  made_starts : (g : Progress) (q asked : Request) → Made ps g q asked → Starts (kind_of K) (kind_of M) R q → Starts Left Right Both asked
  made_starts g q asked (itself p plain) h = starts_plain p plain
  made_starts g q asked (with_way function args way) h = (related (subst (λ (words : List Word). R (K.begin function words) (M.begin function words)) (sym (way_back way args)) h), refl)
  made_starts g q asked (whole cases default vain) h = tt
  made_starts g q asked (thins cases default clause vain) h = tt
  made_starts g q asked (tries cases default clause vain) h = tt

  module _ (g : Progress) where
    abbrev left : S → PausedState S
    left a = record { state = a; progress = g }

    abbrev right : T → PausedState T
    right c = record { state = c; progress = g }

    -- after a reply
    replied : (s : S) (t : T) (reply : Reply) (b : Bool) → is_vain ps g reply ≡ b → Near s t → (is_vain ps g reply ≡ false → R (K.answer s reply) (M.answer t reply))
        → Both (cond b (record (left s) { progress = record g { prepared = true } }) (record { state = K.answer s reply; progress = onward ps g }))
        (cond b (record (right t) { progress = record g { prepared = true } }) (record { state = M.answer t reply; progress = onward ps g }))
    replied s t reply true e near told = (near, refl)
    replied s t reply false e near told = (related (told e), refl)

    module _ (now : (g.left == 0) ≡ true) where
      slips : (c d : T) → Slips M.next c d → Slips (paused_next M ps) (right c) (right d)
      slips c d here = here
      slips c d (more {b = b} e rest) = more (steps_now M ps c g now (Slides b) e) (slips b d rest)

      asks_alike : (s : S) (t : T) (q : Request) → K.next s ≡ Asks q → M.next t ≡ Asks q → Answers (kind_of K) (kind_of M) R q s t → Starts (kind_of K) (kind_of M) R q
          → (x : Next Progress) → asking ps g q ≡ x → Matches Left Right Both (left s) (beside s x) (right t)
      asks_alike s t q e f answers starts (Slides h) is =
          (record { state = t; progress = h }, more (steps_now M ps t g now (Asks q) f ∙ ap (beside t) is) here, (at_same q e f answers starts, refl))
      asks_alike s t q e f answers starts (Ticks h) is =
          (right t, record { state = t; progress = h }, here, steps_now M ps t g now (Asks q) f ∙ ap (beside t) is, (at_same q e f answers starts, refl))
      asks_alike s t q e f answers starts (Asks asked) is =
          let m = made ps g q asked is in (
            right t,
            here,
            steps_now M ps t g now (Asks q) f ∙ ap (beside t) is,
            (λ reply suits. replied s t reply (is_vain ps g reply) refl (at_same q e f answers starts) (λ never. answers reply (made_suits ps g q asked m reply suits never))),
            made_starts g q asked m starts,
          )
      asks_alike s t q e f answers starts Stuck is = absurd (never_stuck ps g q is)

      goes_alike : (s : S) (t : T) (x : Next S) → K.next s ≡ x → Matches (kind_of K) (kind_of M) R s x t → Matches Left Right Both (left s) (step_of K ps (left s) x) (right t)
      goes_alike s t (Slides a) e m = (right m.0, slips t m.0 m.1, (related m.2, refl))
      goes_alike s t (Ticks a) e m = (right m.0, right m.1, slips t m.0 m.2, steps_now M ps m.0 g now (Ticks m.1) m.3, (related m.4, refl))
      goes_alike s t (Asks q) e m =
          matches_later Left Right Both (left s) (beside s (asking ps g q)) (right t) (right m.0) (slips t m.0 m.1) (asks_alike s m.0 q e m.2 m.3 m.4 (asking ps g q) refl)
      goes_alike s t Stuck e m = absurd m

      steps_alike : (s : S) (t : T) → Near s t → Matches Left Right Both (left s) (step_of K ps (left s) (K.next s)) (right t)
      steps_alike s t (related h) = goes_alike s t (K.next s) refl (sim s t h)
      steps_alike s t (at_same q e f answers starts) =
          subst (λ (x : Next S). Matches Left Right Both (left s) (step_of K ps (left s) x) (right t)) (sym e) (asks_alike s t q e f answers starts (asking ps g q) refl)

    waits_alike : (s : S) (t : T) → Near s t → (b : Bool) → (g.left == 0) ≡ b → Matches Left Right Both (left s) (cond b (step_of K ps (left s) (K.next s)) (Ticks (record (left s) { progress = record g { left = g.left - 1 } }))) (right t)
    waits_alike s t near true e = steps_alike e s t near
    waits_alike s t near false e = (
      right t,
      record (right t) { progress = record g { left = g.left - 1 } },
      here,
      ap (λ (b : Bool). cond b (step_of M ps (right t) (M.next t)) (Ticks (record (right t) { progress = record g { left = g.left - 1 } }))) e,
      (near, refl),
    )

  paused_matches : (s : PausedState S) (t : PausedState T) → Both s t → Matches Left Right Both s (paused_next K ps s) t
  paused_matches s t both =
      subst (λ (g : Progress). Matches Left Right Both s (paused_next K ps s) (record { state = t.state; progress = g })) (sym both.1)
      (waits_alike s.progress s.state t.state both.0 (s.progress.left == 0) refl)

  paused_equal : (size : S → ℕ) → ((s : S) → Falls size (size s) (K.next s)) → R (K.begin K.main []) (M.begin M.main []) → Equal Left Right
  paused_equal size falls start = equal Left Right Both (paused_weight size) paused_matches (paused_falls K ps size falls) (related start, refl)

-- ---- the runs that Go allows

-- the sleepers and channels are the same
follows_made : (K M : GoroutineKind) (limit : ℕ) → Follows K M limit → NamesMade M limit → NamesMade K limit
follows_made K M limit follows made' n = let f = follows n in subst UsesMade (sym f.1.shared) (made' f.0)

module _ {S T : Type 0} (K : Parts S) (M : Parts T) (R : S → T → Type 0) (size : S → ℕ) (sim : (s : S) (t : T) → R s t → Matches (kind_of K) (kind_of M) R s (K.next s) t) (falls : (s : S) → Falls size (size s) (K.next s)) (start : R (K.begin K.main []) (M.begin M.main []))
    (holds : T → ℕ → Type 0) (honest : IsHonest (kind_of M) holds) where
  pub related_is_allowed : (limit : ℕ) → RunsAsAllowed (kind_of K) (kind_of K) limit
  related_is_allowed limit =
      ordinary_is_allowed (kind_of K) limit
      (follows_made (kind_of K) (kind_of M) limit ((equal (kind_of K) (kind_of M) R size sim falls start).there limit) (names_made (kind_of M) holds honest limit))

  pub related_paused_is_allowed : (ps : List Pause) (limit : ℕ) → RunsAsAllowed (paused (kind_of K) ps) (kind_of K) limit
  related_paused_is_allowed ps limit n ending e =
      let made' = follows_made (paused (kind_of K) ps) (paused (kind_of M) ps) limit ((paused_equal K M R ps sim size falls start).there limit) (names_made (paused (kind_of M) ps) (λ s k. holds s.state k) (paused_honest M holds honest ps) limit) in
      elim (ordinary_is_allowed (paused (kind_of K) ps) limit made' n ending e) [
        | inl own ↦ inl own
        | inr allowed ↦ inr (unpaused K ps _ ending allowed)
      ]
