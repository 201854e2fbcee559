-- Which queues a worker takes from.
use Rattle.std.proofs.Common.{◌≡◌, ℕ, zero, suc, ◌+◌, ◌<◌, ◌≤◌, List, [], ◌∷◌, ◌++◌, append_assoc, drop, length, take, refl, sym, ap, ◌∙◌, arith, inl, inr, get_or-set_same, get_or-set_other}
use Rattle.std.specs.Arc.{arc_value}
use Rattle.std.specs.Prelude.{slice_index_or, slice_set}
use Rattle.std.proofs.lemmas.Bool.{cases_eq}
use Rattle.std.proofs.lemmas.List.{get_or-map, length-map, map-append, map-set, take_all}
use Rattle.std.proofs.Math.Seq.{map-set_same}
use Rattle.run_queue.specs.declared.queue.RunQueue.{RunQueue}
use Rattle.workers.specs.Queues.{others_of, own_queues, queues_of}
use Rattle.workers.specs.declared.ends.Stealer.{Stealer}
use Rattle.workers.specs.declared.work_queues.WorkQueues.{WorkQueues}

-- ---- a part of a list

pub none_yet : {A : Type 0} (xs : List A) (n : ℕ) → drop n (take n xs) ≡ []
none_yet [] zero = refl
none_yet [] (suc n) = refl
none_yet (x ∷ xs) zero = refl
none_yet (x ∷ xs) (suc n) = none_yet xs n

part_more : {A : Type 0} (xs : List A) (from place : ℕ) (x : A) → from ≤ place → place < length xs → x ≡ slice_index_or xs place x → drop from (take (suc place) xs) ≡ drop from (take place xs) ++ x ∷ []
part_more [] from place x le lt is = absurd (omega (arith, lt))
part_more (y ∷ ys) zero zero x le lt is = ap (λ z. z ∷ []) (sym is)
part_more (y ∷ ys) zero (suc place) x le lt is = ap (λ zs. y ∷ zs) (part_more ys zero place x (omega arith) (omega (arith, lt)) is)
part_more (y ∷ ys) (suc from) zero x le lt is = absurd (omega (arith, le))
part_more (y ∷ ys) (suc from) (suc place) x le lt is = part_more ys from place x (omega (arith, le)) (omega (arith, lt)) is

module _ {T : Type 0} where
  abbrev pub own_of : WorkQueues T → RunQueue T
  own_of w = arc_value w.own.queue

  abbrev pub taken_by : WorkQueues T → List (RunQueue T)
  taken_by w = queues_of w.others.items

  pub same_size : (a b : List (WorkQueues T)) → own_queues a ≡ own_queues b → length a ≡ length b
  same_size a b e = sym (length-map a own_of) ∙ ap length e ∙ length-map b own_of

  -- ---- one worker changes

  pub own_kept : (all : List (WorkQueues T)) (n : ℕ) (old new : WorkQueues T) → old ≡ slice_index_or all n old → own_of new ≡ own_of old → own_queues (slice_set all n new) ≡ own_queues all
  own_kept all n old new at same = map-set_same own_of all n new old (same ∙ ap own_of at)

  pub others_kept : (all : List (WorkQueues T)) (n : ℕ) (old new : WorkQueues T) → old ≡ slice_index_or all n old → taken_by new ≡ taken_by old → others_of (slice_set all n new) ≡ others_of all
  others_kept all n old new at same = map-set_same taken_by all n new old (same ∙ ap taken_by at)

  -- ---- stealers

  -- one more, of the queue of the worker at index n
  pub added : (all : List (WorkQueues T)) (stealers : List (Stealer T)) (queues before : List (RunQueue T)) (from n : ℕ) (old : WorkQueues T) (stealer : Stealer T) → from ≤ n → n < length all → own_queues all ≡ queues
      → old ≡ slice_index_or all n old → arc_value stealer.queue ≡ own_of old → queues_of stealers ≡ before ++ drop from (take n queues)
      → queues_of (stealers ++ stealer ∷ []) ≡ before ++ drop from (take (n + 1) queues)
  added all stealers queues before from n old stealer le lt same at is so =
      let q : RunQueue T = arc_value stealer.queue in
      let there : q ≡ slice_index_or queues n q = is ∙ ap own_of at ∙ sym (get_or-map own_of all n old q lt) ∙ ap (λ (qs : List (RunQueue T)). slice_index_or qs n q) same in
      let long : n < length queues = omega (arith, lt, length-map all own_of, ap length same) in
      let next : n + 1 ≡ suc n = omega arith in
      map-append _ _ _
      ∙ ap (λ (qs : List (RunQueue T)). qs ++ q ∷ []) so
      ∙ append_assoc before (drop from (take n queues)) (q ∷ [])
      ∙ ap (λ (qs : List (RunQueue T)). before ++ qs) (sym (part_more queues from n q le long there))
      ∙ ap (λ (k : ℕ). before ++ drop from (take k queues)) (sym next)

  -- of the workers after it, and of those before it
  pub turned : (queues : List (RunQueue T)) (worker count : ℕ) (all : List (RunQueue T)) → length queues ≡ count → all ≡ drop (worker + 1) (take count queues) ++ drop 0 (take worker queues) → all ≡ drop (worker + 1) queues ++ take worker queues
  turned queues worker count all long is = is ∙ ap (λ (qs : List (RunQueue T)). drop (worker + 1) qs ++ take worker queues) (take_all count queues (omega (arith, long)))

  -- ---- a worker gets its stealers

  abbrev Turned : List (RunQueue T) → ℕ → List (RunQueue T) → Type 0
  Turned queues k taken = taken ≡ drop (k + 1) queues ++ take k queues

  pub team_more : (queues : List (RunQueue T)) (first all : List (WorkQueues T)) (worker : ℕ) (new : WorkQueues T) → worker < length all → others_of all ≡ others_of first → ((k : ℕ) → k < worker → Turned queues k (slice_index_or (others_of first) k [])) → Turned queues worker (taken_by new)
      → (k : ℕ) → k < worker + 1 → Turned queues k (slice_index_or (others_of (slice_set all worker new)) k [])
  team_more queues first all worker new lt same each one k less =
      let set : others_of (slice_set all worker new) ≡ slice_set (others_of all) worker (taken_by new) = map-set taken_by all worker new in
      let long : worker < length (others_of all) = omega (arith, lt, length-map all taken_by) in
      elim (cases_eq k worker) [
        | inl e ↦ ap (λ (n : ℕ). slice_index_or (others_of (slice_set all worker new)) n []) e ∙ ap (λ (l : List (List (RunQueue T))). slice_index_or l worker []) set ∙ get_or-set_same (others_of all) worker (taken_by new) [] long ∙ one ∙ ap (λ (n : ℕ). drop (n + 1) queues ++ take n queues) (sym e)
        | inr ne ↦ ap (λ (l : List (List (RunQueue T))). slice_index_or l k []) (set ∙ ap (λ (l : List (List (RunQueue T))). slice_set l worker (taken_by new)) same)
            ∙ get_or-set_other (others_of first) worker k (taken_by new) [] ne ∙ each k (omega (arith, less, ne))
      ]
