-- Nobody is both awake and asleep.
use Rattle.std.proofs.Common.{◌≡◌, ℕ, zero, suc, ◌+◌, ◌<◌, ◌≢◌, Bool, true, false, cond, List, [], ◌∷◌, ◌++◌, map, length, Option, Some, None, refl, sym, ap, ◌∙◌, subst, inl, inr, arith, get_or, set, get_or-set_same, get_or-set_other, length-set, length-append}
use Rattle.std.proofs.lemmas.Bool.{cases_lt}
use Rattle.std.proofs.lemmas.List.{get_or_past, get_or_append_left}
use Rattle.logical_clock.specs.declared.key.Key.{Key}
use Rattle.turn_rule.specs.Turns.{World, next, changed, move_on, move_at, move_next, perform as perform_in, one, run}
use Rattle.word.specs.Values.{Request, Reply, Sleeper}
use Rattle.word.specs.Kinds.{GoroutineKind, Clocked, asks}
use Rattle.word.specs.Requests.{Fate, GoesOn, Dozes, Leaves, Stays, Deed, act, meant}
use Rattle.word.specs.Worlds.{Bed, Rest, actor_after, woken_by, begun_at, effect, performs, rules, opening, moment}
use Rattle.word.proofs.Found.{In}
use Rattle.word.proofs.Fair.{IsApart, Lies, Fair, fair}

module _ (K : GoroutineKind) (limit : ℕ) where
  abbrev States : Type 0
  States = List (Option (Clocked K.State))

  -- m is there, and not awake
  abbrev Lying : States → ℕ → Type 0
  Lying ss m = (m < length ss) × (get_or ss m None ≡ None)

  abbrev pub Apart : World (Clocked K.State) (Rest K.State) → Type 0
  Apart w = (x : Sleeper) → In x w.shared.shared.asleep → Lying w.awake x.number

  lying_other : (ss : States) (m n : ℕ) (o : Option (Clocked K.State)) → m ≢ n → Lying ss m → Lying (set ss n o) m
  lying_other ss m n o ne h = (omega (arith, length-set ss n o, h.0), get_or-set_other ss n m o None ne ∙ h.1)

  lying_changed : (beds : List (Bed K.State)) (clock : ℕ) (ws : List (ℕ × Reply)) (ss : States) (m : ℕ) → IsApart m ws → Lying ss m → Lying (changed (rules K limit) ss (woken_by K limit beds clock ws)) m
  lying_changed beds clock [] ss m a h = h
  lying_changed beds clock (x ∷ xs) ss m a h = lying_changed beds clock xs (set ss x.0 _) m a.1 (lying_other ss m x.0 _ a.0 h)

  lying_append : (ss : States) (ts : States) (m : ℕ) → Lying ss m → Lying (ss ++ ts) m
  lying_append ss ts m h = (omega (arith, length-append ss ts, h.0), get_or_append_left ss ts None m h.0 ∙ h.1)

  differs : (ss : States) (m n : ℕ) (s : Clocked K.State) → get_or ss n None ≡ Some s → Lying ss m → m ≢ n
  differs ss m n s e h q = let z : get_or ss n None ≡ None = ap (λ i. get_or ss i None) (sym q) ∙ h.1 in let y = sym z ∙ e in cc

  within : (ss : States) (n : ℕ) (s : Clocked K.State) → get_or ss n None ≡ Some s → n < length ss
  within ss n s h = elim (cases_lt n (length ss)) [ inl l ↦ l | inr l ↦ let e = get_or_past ss n None l in absurd cc ]

  module _ (w : World (Clocked K.State) (Rest K.State)) (apart : Apart w) (n : ℕ) (s : Clocked K.State) (e : get_or w.awake n None ≡ Some s) where
    -- the actor is not asleep
    pub not_asleep : (x : Sleeper) → In x w.shared.shared.asleep → x.number ≢ n
    not_asleep x i = differs w.awake x.number n s e (apart x i)

    actor_set : (q : Request) (clock : ℕ) (fate : Fate) (x : Sleeper) → Lies w.shared.shared.asleep n q fate x → Lying (set w.awake n (actor_after K limit clock s fate)) x.number
    actor_set q clock (GoesOn reply) x h = lying_other w.awake x.number n _ (not_asleep x h) (apart x h)
    actor_set q clock Leaves x h = lying_other w.awake x.number n _ (not_asleep x h) (apart x h)
    actor_set q clock Stays x h = lying_other w.awake x.number n _ (not_asleep x h) (apart x h)
    actor_set q clock Dozes x (inl h) = lying_other w.awake x.number n None h.1 (apart x h.0)
    actor_set q clock Dozes x (inr h) =
        let m : x.number ≡ n = ap (λ (y : Sleeper). y.number) h in
        let l = within w.awake n s e in
        let o : Option (Clocked K.State) = None in
        subst (λ i. Lying (set w.awake n None) i) (sym m) (omega (arith, length-set w.awake n o, l), get_or-set_same w.awake n None None l)

    effect_apart : (q : Request) (clock : ℕ) (d : Deed) → Fair w.shared.shared.asleep n q d → (let f = effect K limit w.shared n clock s d in Apart (record { awake = changed (rules K limit) w.awake f.changes ++ map Some f.started; shared = f.shared }))
    effect_apart q clock d f = λ x i.
        lying_append (changed (rules K limit) (set w.awake n (actor_after K limit clock s d.fate)) (woken_by K limit w.shared.beds clock d.woken)) (map Some (begun_at K limit clock d.started)) x.number
        (lying_changed w.shared.beds clock d.woken (set w.awake n (actor_after K limit clock s d.fate)) x.number (f.gone x i) (actor_set q clock d.fate x (f.asleep x i)))

    performs_apart : (o : Option Request) → (let f = performs K limit w.shared n s o in Apart (record { awake = changed (rules K limit) w.awake f.changes ++ map Some f.started; shared = f.shared }))
    performs_apart None = λ x i. lying_append w.awake [] x.number (apart x i)
    performs_apart (Some q) = let p = meant w.shared.shared n q in effect_apart p (s.clock + 1) (act w.shared.shared n s.clock p p) (fair w.shared.shared n s.clock p)

    on_by : (b : Bool) → Apart (cond b (perform_in (rules K limit) w n s) w)
    on_by true = performs_apart (asks K limit s)
    on_by false = apart

    at_by : (o : Option (Clocked K.State)) → Apart (move_on (rules K limit) w n s o)
    at_by (Some t) = λ x i. lying_other w.awake x.number n (Some t) (not_asleep x i) (apart x i)
    at_by None = on_by ((rules K limit).asks s)

  move_by : (w : World (Clocked K.State) (Rest K.State)) → Apart w → (n : ℕ) (o : Option (Clocked K.State)) → get_or w.awake n None ≡ o → Apart (move_at (rules K limit) w n o)
  move_by w h n None e = h
  move_by w h n (Some s) e = at_by w h n s e ((rules K limit).local s)

  next_by : (w : World (Clocked K.State) (Rest K.State)) (o : Option Key) → Apart w → Apart (move_next (rules K limit) w o)
  next_by w None h = h
  next_by w (Some k) h = move_by w h k.number (get_or w.awake k.number None) refl

  pub one_by : (w : World (Clocked K.State) (Rest K.State)) (b : Bool) → Apart w → Apart (cond b w (move_next (rules K limit) w (next (rules K limit) w.awake)))
  one_by w true h = h
  one_by w false h = next_by w (next (rules K limit) w.awake) h

  pub run_apart : (n : ℕ) (w : World (Clocked K.State) (Rest K.State)) → Apart w → Apart (run (rules K limit) n w)
  run_apart zero w h = h
  run_apart (suc n) w h = run_apart n (one (rules K limit) w) (one_by w ((rules K limit).is_over w.shared) h)

  pub apart : (n : ℕ) → Apart (moment K limit n)
  apart n = run_apart n (opening K) (λ x i. elim i [ ])
