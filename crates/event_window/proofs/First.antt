-- The first events of a run, and one more of them.
use Rattle.std.proofs.Common.{◌≡◌, ℕ, zero, suc, ◌+◌, ◌-◌, ◌≤◌, List, [], ◌∷◌, ◌++◌, length, take, drop, Some, refl, sym, ap, ◌∙◌, subst, arith, length-append, append_assoc}
use Rattle.std.specs.Prelude.{slice_get, unwrap_or}
use Rattle.std.proofs.Math.Seq.{take-length}
use Rattle.turn_rule.specs.Schedule.{IsPrefixOf}
use Rattle.turn_rule.specs.Turns.{World}
use Rattle.turn_rule.proofs.Stable.{run_add}
use Rattle.word.specs.declared.end.End.{End as Ending}
use Rattle.word.specs.Kinds.{Clocked, GoroutineKind}
use Rattle.word.specs.Values.{Event}
use Rattle.word.specs.Worlds.{Rest, end_of, moment, opening, rules}
use Rattle.word.proofs.Laws.{laws}
use Rattle.word.proofs.Records.{events_begin}
use Rattle.event_window.specs.Windows.{AreAll, AreFirst, AreNext, AreRest}

-- ---- beginnings of lists

taken_longer : {A : Type 0} (xs ys rest : List A) → take (length ys) xs ≡ ys → take (length ys) (xs ++ rest) ≡ ys
taken_longer xs [] rest e = refl
taken_longer [] (y ∷ ys) rest e = absurd cc
taken_longer (x ∷ xs) (y ∷ ys) rest e =
    let tail : take (length ys) xs ≡ ys = ap (drop 1) e in
    ap (λ zs. x ∷ zs) (taken_longer xs ys rest tail) ∙ (ap (λ zs. x ∷ zs) (sym tail) ∙ e)

got_longer : {A : Type 0} (xs rest : List A) (k : ℕ) (e : A) → slice_get xs k ≡ Some e → slice_get (xs ++ rest) k ≡ Some e
got_longer [] rest k e is = absurd cc
got_longer (x ∷ xs) rest zero e is = is
got_longer (x ∷ xs) rest (suc k) e is = got_longer xs rest k e is

taken_more : {A : Type 0} (xs ys : List A) (e : A) → take (length ys) xs ≡ ys → slice_get xs (length ys) ≡ Some e → take (length (ys ++ e ∷ [])) xs ≡ ys ++ e ∷ []
taken_more [] [] e front is = absurd cc
taken_more (x ∷ xs) [] e front is = ap (λ o. unwrap_or o e ∷ []) is
taken_more [] (y ∷ ys) e front is = absurd cc
taken_more (x ∷ xs) (y ∷ ys) e front is =
    let tail : take (length ys) xs ≡ ys = ap (drop 1) front in
    let same : x ∷ ys ≡ y ∷ ys = ap (λ zs. x ∷ zs) (sym tail) ∙ front in
    ap (λ zs. x ∷ zs) (taken_more xs ys e tail is) ∙ ap (λ zs. zs ++ e ∷ []) same

pub one_longer : {A : Type 0} (xs : List A) (x : A) → length (xs ++ x ∷ []) ≡ length xs + 1
one_longer xs x = length-append xs (x ∷ [])

-- ---- events of a run

module _ (K : GoroutineKind) (limit : ℕ) where
  abbrev happened : ℕ → List Event
  happened n = (moment K limit n).shared.shared.events

  longer : (n m : ℕ) → n ≤ m → IsPrefixOf (happened n) (happened m)
  longer n m le =
      let z : n + (m - n) ≡ m = omega (arith, le) in
      let p = events_begin K limit n (m - n) in
      (p.0, p.1 ∙ ap (λ (x : World (Clocked K.State) (Rest K.State)). x.shared.shared.events) (sym (run_add (rules K limit) (laws K limit) n (m - n) (opening K)) ∙ ap (λ k. moment K limit k) z))

  -- those at a moment are there later too
  first_later : (events : List Event) (n m : ℕ) → n ≤ m → take (length events) (happened n) ≡ events → take (length events) (happened m) ≡ events
  first_later events n m le front =
      let p = longer n m le in
      ap (take (length events)) (sym p.1) ∙ taken_longer (happened n) events p.0 front

  got_later : (k : ℕ) (e : Event) (n m : ℕ) → n ≤ m → slice_get (happened n) k ≡ Some e → slice_get (happened m) k ≡ Some e
  got_later k e n m le is =
      let p = longer n m le in
      ap (λ xs. slice_get xs k) (sym p.1) ∙ got_longer (happened n) p.0 k e is

  pub first_more : (events : List Event) (e : Event) → AreFirst K limit events → (n : ℕ) × (slice_get (happened n) (length events) ≡ Some e) → AreFirst K limit (events ++ e ∷ [])
  first_more events e first is =
      let m = first.0 + is.0 in
      (m, taken_more (happened m) events e (first_later events first.0 m (omega arith) first.1) (got_later (length events) e is.0 m (omega arith) is.1))

  pub first_all : (events : List Event) (ending : Ending) → AreFirst K limit events → (n : ℕ) × (length (happened n) ≡ length events) × (end_of (moment K limit n) ≡ Some ending) → AreAll K limit events ending
  first_all events ending first ends =
      let m = first.0 + ends.0 in
      let one = first_later events first.0 m (omega arith) first.1 in
      let two = first_later (happened ends.0) ends.0 m (omega arith) (take-length (happened ends.0)) in
      (ends.0, sym two ∙ ap (λ k. take k (happened m)) ends.1 ∙ one, ends.2)

  -- after other events

  pub next_more : (before : ℕ) (events : List Event) (e : Event) → AreNext K limit before events → (n : ℕ) × (slice_get (happened n) (before + length events) ≡ Some e) → AreNext K limit before (events ++ e ∷ [])
  next_more before events e next is =
      let counted : before + length events ≡ length (next.0 ++ events) = ap (λ k. k + length events) (sym next.1) ∙ sym (length-append next.0 events) in
      (next.0, next.1, subst (AreFirst K limit) (append_assoc next.0 events (e ∷ [])) (first_more (next.0 ++ events) e next.2 (is.0, ap (slice_get (happened is.0)) (sym counted) ∙ is.1)))

  pub next_all : (before : ℕ) (events : List Event) (ending : Ending) → AreNext K limit before events → (n : ℕ) × (length (happened n) ≡ before + length events) × (end_of (moment K limit n) ≡ Some ending) → AreRest K limit before events ending
  next_all before events ending next ends =
      let counted : before + length events ≡ length (next.0 ++ events) = ap (λ k. k + length events) (sym next.1) ∙ sym (length-append next.0 events) in
      (next.0, next.1, first_all (next.0 ++ events) ending next.2 (ends.0, ends.1 ∙ counted, ends.2))

  pub next_later : (before later : ℕ) (gone events : List Event) → before + length gone ≡ later → AreNext K limit before (gone ++ events) → AreNext K limit later events
  next_later before later gone events counts next =
      (next.0 ++ gone, length-append next.0 gone ∙ ap (λ k. k + length gone) next.1 ∙ counts, subst (AreFirst K limit) (sym (append_assoc next.0 gone events)) next.2)
