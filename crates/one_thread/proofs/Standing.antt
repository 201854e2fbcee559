-- One index changes.
use Rattle.std.proofs.Common.{◌≡◌, ℕ, suc, zero, ◌<◌, ◌≤◌, Bool, true, false, cond, List, [], ◌∷◌, ◌++◌, length, Option, Some, None, refl, sym, ap, ◌∙◌, subst, arith, inl, inr, get_or-set_same, get_or-set_other}
use Rattle.std.specs.Prelude.{slice_index_or, slice_set, Result, Ok, Err, IfOk, OnOk}
use Rattle.std.proofs.lemmas.Bool.{cases_eq, cases_lt}
use Rattle.std.proofs.lemmas.List.{map-set, get_or_past}
use Rattle.std.proofs.lemmas.List.Elements.{All-set}
use Rattle.std.proofs.Math.Seq.{map-set_same}
use Rattle.turn_rule.specs.Turns.{World, move_at, move_on}
use Rattle.word.specs.Values.{Reply}
use Rattle.word.specs.Kinds.{Clocked, GoroutineKind, local, told}
use Rattle.word.specs.Worlds.{Rest, rules}
use Rattle.one_thread.specs.declared.goroutine.Goroutine.{Goroutine}
use Rattle.one_thread.specs.declared.goroutine.Turn.{Turn}
use Rattle.one_thread.specs.declared.goroutine.Turn.TheVariants as turns
use Rattle.one_thread.specs.Steps.{Advances}
use Rattle.one_thread.specs.Places.{AdvancesAt, AreWithin, IsLaid, IsWithin, Sets, SleepOn, StepsAt, Wakes, awake_in, awake_of, bed_at, bed_of, clocked, here, woken_to}

-- what was read at index n, whatever the default
pub read_at : {A : Type 0} (xs : List A) (n : ℕ) (x d : A) → n < length xs → x ≡ slice_index_or xs n x → slice_index_or xs n d ≡ x
read_at [] n x d lt is = absurd (omega (arith, lt))
read_at (y ∷ ys) zero x d lt is = sym is
read_at (y ∷ ys) (suc n) x d lt is = read_at ys n x d (omega (arith, lt)) is

-- clocks stay within the limit if one goroutine changes
pub within_set : {S : Type 0} (limit : ℕ) (xs : List (Option (Goroutine S))) (n : ℕ) (x : Option (Goroutine S)) → IsWithin limit x → AreWithin limit xs → AreWithin limit (slice_set xs n x)
within_set limit xs n x one all = All-set (IsWithin limit) xs n x one all

pub within_at : {S : Type 0} (limit : ℕ) (xs : List (Option (Goroutine S))) (n : ℕ) (g : Goroutine S) → n < length xs → slice_index_or xs n None ≡ Some g → AreWithin limit xs → g.clock ≤ limit
within_at limit xs n g lt is all = rw is at (all n None lt)

set_twice : {A : Type 0} (xs : List A) (n : ℕ) (x y : A) → slice_set (slice_set xs n x) n y ≡ slice_set xs n y
set_twice [] n x y = refl
set_twice (z ∷ zs) zero x y = refl
set_twice (z ∷ zs) (suc n) x y = ap (λ ws. z ∷ ws) (set_twice zs n x y)

module _ {S H : Type 0} (held : S → H) where
  pub awake_is : (g : Goroutine S) → g.asleep ≡ false → awake_of held (Some g) ≡ Some (clocked held g)
  awake_is g e = ap (λ b. cond b None (Some (clocked held g))) e

  -- the goroutine that is awake at index n
  pub here_is : (xs : List (Option (Goroutine S))) (n : ℕ) → slice_index_or (awake_in held xs) n None ≡ here (awake_of held) xs n
  here_is [] n = refl
  here_is (x ∷ xs) zero = refl
  here_is (x ∷ xs) (suc n) = here_is xs n

  pub no_bed : (g : Goroutine S) → g.asleep ≡ false → bed_of held (Some g) ≡ None
  no_bed g e = ap (λ b. cond b (Some (clocked held g)) None) e

  pub sets : (old : List (Option (Goroutine S))) (n : ℕ) (x : Option (Goroutine S)) (a b : Option (Clocked H)) → n < length old → awake_of held x ≡ a → bed_of held x ≡ b → Sets held old (slice_set old n x) n a b
  sets old n x a b lt awake bed = record {
    awake = map-set (awake_of held) old n x ∙ ap (slice_set (awake_in held old) n) awake;
    bed = ap (bed_of held) (get_or-set_same old n x None lt) ∙ bed;
    others = λ k ne. ap (bed_of held) (get_or-set_other old n k x None ne);
  }

  -- a goroutine that was awake and stays awake sleeps neither before nor after
  pub sleep_on : (old new : List (Option (Goroutine S))) (n : ℕ) (a : Option (Clocked H)) → bed_at held old n ≡ None → Sets held old new n a None → SleepOn held old new
  sleep_on old new n a none h k = elim (cases_eq k n) [
    | inl e ↦ ap (bed_at held new) e ∙ h.bed ∙ sym none ∙ ap (bed_at held old) (sym e)
    | inr ne ↦ h.others k ne
  ]

  -- `bed_of` a goroutine that is awake is `None`
  pub awake_no_bed : (x : Option (Goroutine S)) (s : Clocked H) → awake_of held x ≡ Some s → bed_of held x ≡ None
  awake_no_bed None s e = cc
  awake_no_bed (Some g) s e = go g.asleep e
    where
      go : (b : Bool) → cond b None (Some (clocked held g)) ≡ Some s → cond b (Some (clocked held g)) None ≡ None
      go true e' = cc
      go false e' = refl

module _ {S : Type 0} (K : GoroutineKind) (held : S → K.State) (limit : ℕ) where
  steps_at : (old : List (Option (Goroutine S))) (n : ℕ) (g h : Goroutine S) → slice_index_or old n None ≡ Some g → n < length old → g.asleep ≡ false → h.asleep ≡ g.asleep → local K limit (clocked held g) ≡ Some (clocked held h) → StepsAt K held limit old n (slice_set old n (Some h))
  steps_at old n g h at lt up same step =
      let there : here (awake_of held) old n ≡ Some (clocked held g) = ap (awake_of held) at ∙ awake_is held g up in
      let set : Sets held old (slice_set old n (Some h)) n (Some (clocked held h)) None = sets held old n (Some h) (Some (clocked held h)) None lt (awake_is held h (same ∙ up)) (no_bed held h (same ∙ up)) in (
        (λ w.
            let W : World (Clocked K.State) (Rest K.State) = record { awake = awake_in held old; shared = w } in
            ap (move_at (rules K limit) W n) there ∙ ap (move_on (rules K limit) W n (clocked held g)) step
            ∙ ap (λ (a : List (Option (Clocked K.State))). let v : World (Clocked K.State) (Rest K.State) = record { awake = a; shared = w } in v) (sym set.awake)),
        sleep_on held old (slice_set old n (Some h)) n (Some (clocked held h)) (awake_no_bed held (slice_index_or old n None) (clocked held g) there) set,
      )

  pub turned : (old : List (Option (Goroutine S))) (n : ℕ) (g h : Goroutine S) (turn : Turn) → slice_index_or old n None ≡ Some g → n < length old → g.asleep ≡ false → h.asleep ≡ g.asleep → Advances K limit turn (clocked held g) (clocked held h) → AdvancesAt K held limit turn old n (slice_set old n (Some h))
  turned old n g h turns.Slid at lt up same step = steps_at old n g h at lt up same step
  turned old n g h turns.Ticked at lt up same step = steps_at old n g h at lt up same step
  turned old n g h (turns.Asks request clock) at lt up same step =
      let there : here (awake_of held) old n ≡ Some (clocked held g) = ap (awake_of held) at ∙ awake_is held g up in
      let set : Sets held old (slice_set old n (Some h)) n (Some (clocked held h)) None = sets held old n (Some h) (Some (clocked held h)) None lt (awake_is held h (same ∙ up)) (no_bed held h (same ∙ up)) in (
        clocked held g,
        record { here = there; asks = step.0 },
        step.1,
        step.3,
        map-set_same (awake_of held) old n (Some h) None (awake_is held h (same ∙ up) ∙ ap (λ (s : Clocked K.State). Some s) step.2 ∙ sym there),
        sleep_on held old (slice_set old n (Some h)) n (Some (clocked held h)) (awake_no_bed held (slice_index_or old n None) (clocked held g) there) set,
      )
  turned old n g h turns.Exhausted at lt up same step =
      let there : here (awake_of held) old n ≡ Some (clocked held g) = ap (awake_of held) at ∙ awake_is held g up in
      (clocked held g, record { here = there; asks = step.0 }, step.1)

module _ {S E : Type 0} (K : GoroutineKind) (held : S → K.State) (limit : ℕ) where
  pub turned_ok : (r : Result Turn E) (old : List (Option (Goroutine S))) (n : ℕ) (g h : Goroutine S) → slice_index_or old n None ≡ Some g → n < length old → g.asleep ≡ false → OnOk r (h.asleep ≡ g.asleep) → IfOk r (λ turn. Advances K limit turn (clocked held g) (clocked held h))
      → IfOk r (λ turn. AdvancesAt K held limit turn old n (slice_set old n (Some h)))
  turned_ok (Ok turn) old n g h at lt up same step = turned K held limit old n g h turn at lt up same step
  turned_ok (Err e) old n g h at lt up same step = tt

module _ {S : Type 0} (K : GoroutineKind) (held : S → K.State) where
  -- a goroutine that gets a reply goes on
  pub told_there : (old : List (Option (Goroutine S))) (n : ℕ) (g h : Goroutine S) (s : Clocked K.State) (clock : ℕ) (reply : Reply) → slice_index_or old n None ≡ Some g → n < length old → h.asleep ≡ false → clocked held h ≡ told K (clocked held g) clock reply → here (awake_of held) old n ≡ Some s → Sets held old (slice_set old n (Some h)) n (Some (told K s clock reply)) None
  told_there old n g h s clock reply at lt up told_is is =
      sets held old n (Some h) (Some (told K s clock reply)) None lt
      (awake_is held h up ∙ ap (λ (t : Clocked K.State). Some t) (told_is ∙ ap (λ (t : Clocked K.State). told K t clock reply) (who g.asleep (sym (ap (awake_of held) at) ∙ is))))
      (no_bed held h up)
    where
      who : (b : Bool) → cond b None (Some (clocked held g)) ≡ Some s → clocked held g ≡ s
      who true e = cc
      who false e = cc

  pub told_ok : {T E : Type 0} (r : Result T E) (old : List (Option (Goroutine S))) (n : ℕ) (g h : Goroutine S) (clock : ℕ) (reply : Reply) → slice_index_or old n None ≡ Some g → n < length old → OnOk r (clocked held h ≡ told K (clocked held g) clock reply) → OnOk r (h.asleep ≡ false)
      → OnOk r ((s : Clocked K.State) → here (awake_of held) old n ≡ Some s → Sets held old (slice_set old n (Some h)) n (Some (told K s clock reply)) None)
  told_ok (Ok x) old n g h clock reply at lt told_is up = λ s is. told_there old n g h s clock reply at lt up told_is is
  told_ok (Err e) old n g h clock reply at lt told_is up = tt

  -- a goroutine that was asleep goes on with its reply
  woken_there : (old : List (Option (Goroutine S))) (n : ℕ) (g h : Goroutine S) (clock : ℕ) (reply : Reply) → slice_index_or old n None ≡ Some g → n < length old → g.asleep ≡ true → h.asleep ≡ false → clocked held h ≡ told K (clocked held g) clock reply → Sets held old (slice_set old n (Some h)) n (woken_to K clock reply (bed_at held old n)) None
  woken_there old n g h clock reply at lt down up told_is =
      let bed : bed_at held old n ≡ Some (clocked held g) = ap (bed_of held) at ∙ ap (λ b. cond b (Some (clocked held g)) None) down in
      sets held old n (Some h) (woken_to K clock reply (bed_at held old n)) None lt
      (awake_is held h up ∙ ap (λ (t : Clocked K.State). Some t) told_is ∙ sym (ap (woken_to K clock reply) bed))
      (no_bed held h up)

  pub woken_ok : {T E : Type 0} (r : Result T E) (old : List (Option (Goroutine S))) (n : ℕ) (g h : Goroutine S) (clock : ℕ) (reply : Reply) → slice_index_or old n None ≡ Some g → n < length old → g.asleep ≡ true → OnOk r (clocked held h ≡ told K (clocked held g) clock reply) → OnOk r (h.asleep ≡ false)
      → OnOk r (Sets held old (slice_set old n (Some h)) n (woken_to K clock reply (bed_at held old n)) None)
  woken_ok (Ok x) old n g h clock reply at lt down told_is up = woken_there old n g h clock reply at lt down up told_is
  woken_ok (Err e) old n g h clock reply at lt down told_is up = tt

  -- a goroutine that was not asleep has ended
  pub none_woken : (old : List (Option (Goroutine S))) (n : ℕ) (clock : ℕ) (reply : Reply) → bed_at held old n ≡ None → n < length old → Sets held old (slice_set old n None) n (woken_to K clock reply (bed_at held old n)) None
  none_woken old n clock reply none lt = sets held old n None (woken_to K clock reply (bed_at held old n)) None lt (sym (ap (woken_to K clock reply) none)) refl

  pub none_stays : (old : List (Option (Goroutine S))) (n : ℕ) (r : Option (Goroutine S)) (clock : ℕ) (reply : Reply) → n < length old → r ≡ slice_index_or old n r → r ≡ None → Sets held old (slice_set old n r) n (woken_to K clock reply (bed_at held old n)) None
  none_stays old n r clock reply lt is none =
      let at : slice_index_or old n None ≡ None = read_at old n r None lt is ∙ none in
      subst (λ (x : Option (Goroutine S)). Sets held old (slice_set old n x) n (woken_to K clock reply (bed_at held old n)) None) (sym none)
      (none_woken old n clock reply (ap (bed_of held) at) lt)

  pub awake_woken : (old : List (Option (Goroutine S))) (n : ℕ) (g : Goroutine S) (clock : ℕ) (reply : Reply) → n < length old → slice_index_or old n None ≡ Some g → g.asleep ≡ false → Sets held old (slice_set (slice_set old n (Some g)) n None) n (woken_to K clock reply (bed_at held old n)) None
  awake_woken old n g clock reply lt at up =
      subst (λ (x : List (Option (Goroutine S))). Sets held old x n (woken_to K clock reply (bed_at held old n)) None) (sym (set_twice old n (Some g) None))
      (none_woken old n clock reply (ap (bed_of held) at ∙ no_bed held g up) lt)

  -- one more is woken
  pub wakes_more : (clock : ℕ) (ws : List (ℕ × Reply)) (w : ℕ × Reply) (old mid new : List (Option (Goroutine S))) → Wakes K held clock old ws mid → Sets held mid new w.0 (woken_to K clock w.1 (bed_at held mid w.0)) None → Wakes K held clock old (ws ++ w ∷ []) new
  wakes_more clock [] w old mid new is set = (new, subst (λ (x : List (Option (Goroutine S))). Sets held x new w.0 (woken_to K clock w.1 (bed_at held x w.0)) None) is set, refl)
  wakes_more clock (v ∷ vs) w old mid new h set = (h.0, h.1, wakes_more clock vs w h.0 mid new h.2 set)

module _ {S H : Type 0} (held : S → H) where
  -- the awake goroutine at index n falls asleep
  pub laid : (old : List (Option (Goroutine S))) (n : ℕ) (g h : Goroutine S) (s : Clocked H) → slice_index_or old n None ≡ Some g → n < length old → h ≡ record g { asleep = true } → here (awake_of held) old n ≡ Some s → Sets held old (slice_set old n (Some h)) n None (Some s)
  laid old n g h s at lt is up =
      sets held old n (Some h) None (Some s) lt
      (ap (λ (x : Goroutine S). awake_of held (Some x)) is)
      (ap (λ (x : Goroutine S). bed_of held (Some x)) is ∙ who g.asleep (sym (ap (awake_of held) at) ∙ up))
    where
      who : (b : Bool) → cond b None (Some (clocked held g)) ≡ Some s → Some (clocked held g) ≡ Some s
      who true e = cc
      who false e = e

  -- the awake goroutine at index n has ended
  pub ended : (old : List (Option (Goroutine S))) (n : ℕ) → n < length old → Sets held old (slice_set old n None) n None None
  ended old n lt = sets held old n None None None lt refl refl

  pub beyond : (old : List (Option (Goroutine S))) (n : ℕ) (s : Clocked H) → length old ≤ n → here (awake_of held) old n ≡ Some s → ⊥
  beyond old n s le is = let none = get_or_past old n None le in let e : here (awake_of held) old n ≡ None = ap (awake_of held) none in cc

  -- a goroutine that is awake has an index
  pub within : (old : List (Option (Goroutine S))) (n : ℕ) (s : Clocked H) → here (awake_of held) old n ≡ Some s → n < length old
  within old n s up = elim (cases_lt n (length old)) [ inl lt ↦ lt | inr le ↦ absurd (beyond old n s le up) ]

  pub laid_by : (old : List (Option (Goroutine S))) (n : ℕ) (new : List (Option (Goroutine S))) (s : Clocked H) → IsLaid old n new → here (awake_of held) old n ≡ Some s → Sets held old new n None (Some s)
  laid_by old n new s h up = go (slice_index_or old n None) refl
    where
      go : (x : Option (Goroutine S)) → slice_index_or old n None ≡ x → Sets held old new n None (Some s)
      go None e = let no : here (awake_of held) old n ≡ None = ap (awake_of held) e in cc
      go (Some g) e = subst (λ (x : List (Option (Goroutine S))). Sets held old x n None (Some s)) (sym (h g e)) (laid old n g (record g { asleep = true }) s e (within old n s up) refl up)

  pub ended_by : (old : List (Option (Goroutine S))) (n : ℕ) (new : List (Option (Goroutine S))) (s : Clocked H) → new ≡ slice_set old n None → here (awake_of held) old n ≡ Some s → Sets held old new n None None
  ended_by old n new s is up = subst (λ (x : List (Option (Goroutine S))). Sets held old x n None None) (sym is) (ended old n (within old n s up))
