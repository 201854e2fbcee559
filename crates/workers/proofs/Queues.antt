-- What a worker knows of the queues after it looked into one of them.
use Rattle.std.proofs.Common.{◌≡◌, ℕ, suc, ◌+◌, ◌<◌, false, true≢false, List, ◌∷◌, ◌++◌, take, drop, set, length, length-set, Option, Some, None, IfSome, IfNone, refl, sym, ap, ◌∙◌, subst, arith, inl, inr}
use Rattle.std.specs.Option.{is_some}
use Rattle.std.specs.Prelude.{slice_index_or}
use Rattle.std.proofs.lemmas.Bool.{cases_eq}
use Rattle.std.proofs.lemmas.List.{get_or-map, map-set, set_split, length-map}
use Rattle.std.proofs.Math.Seq.{map-set_same, take-append_seam}
use lib.ListN.{get_or}
use Rattle.run_queue.specs.Passes.{take_view}
use Rattle.run_queue.specs.Turns.{IsAllTaken, TakesOne}
use Rattle.run_queue.specs.declared.view.View.{View}
use Rattle.workers.specs.Views.{TakesOfOne, views_of}
use Rattle.workers.specs.declared.ends.Stealer.{Stealer}

pub none_of : {A : Type 0} (o : Option A) → is_some o ≡ false → o ≡ None
none_of None e = refl
none_of (Some x) e = absurd (true≢false e)

pub if_none : {A P : Type 0} (o : Option A) → o ≡ None → IfNone o P → P
if_none {A} {P} o e = subst (λ (it : Option A). IfNone it P) e

pub if_some : {A : Type 0} {P Q : A → Type 0} (o : Option A) → ((x : A) → P x → Q x) → IfSome o P → IfSome o Q
if_some None f h = h
if_some (Some x) f h = f x h

module _ {T : Type 0} where
  abbrev view_of : Stealer T → View T
  view_of stealer = take_view stealer.pass

  -- a pass that takes nothing knows what it knew
  pub views_kept : (l : List (Stealer T)) (i : ℕ) (x y : Stealer T) → take_view y.pass ≡ take_view (get_or l i x).pass → views_of (set l i y) ≡ views_of l
  views_kept l i x y same = map-set_same view_of l i y x same

  replaced : (l : List (Stealer T)) (i : ℕ) (y : Stealer T) → i < length l → views_of (set l i y) ≡ take i (views_of l) ++ view_of y ∷ drop (suc i) (views_of l)
  replaced l i y lt = map-set view_of l i y ∙ set_split (views_of l) i (view_of y) (subst (λ n. i < n) (sym (length-map l view_of)) lt)

  -- a pass that takes an item takes it of one of the queues
  taken : (l : List (Stealer T)) (i : ℕ) (x y : Stealer T) (item : T) → i < length l → TakesOne (take_view (get_or l i x).pass) item (take_view y.pass) → TakesOfOne (views_of l) item (views_of (set l i y))
  taken l i x y item lt takes =
      (take i (views_of l), drop (suc i) (views_of l), view_of (get_or l i x), view_of y, sym (views_kept l i x (get_or l i x) refl) ∙ replaced l i (get_or l i x) lt, replaced l i y lt, takes)

  -- like `taken`, for the first `n` queues of a list, of which each is as it was but one
  pub taken_back : (old now l : List (Stealer T)) (i n : ℕ) (x y : Stealer T) (item : T) (rest : List (Stealer T))
      → now ≡ old → length now ≡ n → length l ≡ length now → views_of l ≡ views_of now → i < length now
      → TakesOne (take_view (get_or l i x).pass) item (take_view y.pass) → TakesOfOne (views_of old) item (views_of (take n (set l i y ++ rest)))
  taken_back old now l i n x y item rest same many long views lt takes =
      let back : take n (set l i y ++ rest) ≡ set l i y = ap (λ m. take m (set l i y ++ rest)) (sym many ∙ sym long ∙ sym (length-set l i y)) ∙ take-append_seam (set l i y) rest in
      subst (λ v. TakesOfOne v item (views_of (take n (set l i y ++ rest)))) (views ∙ ap views_of same)
      (subst (λ z. TakesOfOne (views_of l) item (views_of z)) (sym back) (taken l i x y item (subst (λ m. i < m) (sym long) lt) takes))

  -- one more queue was empty
  pub empty_more : (first l : List (Stealer T)) (i : ℕ) (x : Stealer T) → views_of l ≡ views_of first → i < length l → ((k : ℕ) (d : View T) → k < i → IsAllTaken (slice_index_or (views_of first) k d)) → IsAllTaken (take_view (get_or l i x).pass)
      → (k : ℕ) (d : View T) → k < i + 1 → IsAllTaken (slice_index_or (views_of first) k d)
  empty_more first l i x same lt each one k d less = elim (cases_eq k i) [
    | inl e ↦ subst (λ (n : ℕ). IsAllTaken (slice_index_or (views_of first) n d)) (sym e)
        (subst (λ (v : View T). IsAllTaken v) (sym (get_or-map view_of l i x d lt) ∙ ap (λ (vs : List (View T)). slice_index_or vs i d) same) one)
    | inr ne ↦ each k d (omega (arith, less, ne))
  ]

pub none_more : {A P Q : Type 0} (o : Option A) → (P → Q) → IfNone o P → IfNone o Q
none_more None f h = f h
none_more (Some x) f h = tt
