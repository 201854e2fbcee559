-- A vector whose elements a call wrote through a slice.
use Rattle.std.proofs.Common.{◌≡◌, ℕ, ◌<◌, ◌≤◌, List, [], ◌∷◌, ◌++◌, length, length-set, sym, ap, subst, ◌∙◌, inl, inr, arith, Option, Some, None, take, drop}
use Rattle.std.specs.Prelude.{slice_index, slice_index_or, slice_set}
use Rattle.std.proofs.lemmas.Bool.{cases_lt}
use Rattle.std.proofs.Math.ListN.{drop_of_length-le}
use Rattle.std.proofs.Math.Seq.{take-length}
use Rattle.std.proofs.lemmas.List.{append-nil}
use Rattle.logical_clock.specs.declared.key.Key.{Key}
use Rattle.key_index.specs.declared.heap.Entry.{Entry}
use Rattle.key_index.specs.declared.heap.TheConstants.{NOWHERE}
use Rattle.key_index.proofs.Slots.{gone_place, heap_length, removed_index, removed_last, removed_order}
use Rattle.key_index.specs.Heap.{IsFilled, IsHeap, IsIndex, IsIndexWith, IsOrdered, key_at}

-- as many elements as there were
pub refilled : {X : Type 0} (n : ℕ) (xs ws : List X) → n ≡ length xs → length ws ≡ length xs → take n (ws ++ drop (length ws) xs) ≡ ws
refilled {X = X} n xs ws e same =
    ap (λ (l : List X). take n (ws ++ l)) (drop_of_length-le xs (omega arith)) ∙ ap (take n) (append-nil ws) ∙ ap (λ (m : ℕ). take m ws) (e ∙ sym same) ∙ take-length ws

pub ordered : (keys : List (Option Key)) (heap lent filled whole : List Entry) (places lent' filled' whole' : List ℕ) (q : ℕ) (e : Entry) (room : ℕ) → lent ≡ heap → lent' ≡ places → IsIndexWith keys heap places q e
    → IsFilled lent filled lent' filled' q e → whole ≡ filled → whole' ≡ filled' → length keys ≤ room → IsOrdered keys whole whole' room
ordered keys heap lent filled whole places lent' filled' whole' q e room le le' x f we we' fits =
    let y : IsIndex keys filled filled' = f.index keys (subst (λ (h : List Entry). IsIndexWith keys h lent' q e) (sym le) (subst (λ (p : List ℕ). IsIndexWith keys heap p q e) (sym le') x)) in
    record {
      index = subst (λ (h : List Entry). IsIndex keys h whole') (sym we) (subst (λ (p : List ℕ). IsIndex keys filled p) (sym we') y);
      order = subst (λ (h : List Entry). IsHeap (key_at h) (length h)) (sym we) f.order;
      slots = fits;
    }

pub ordered_as : (keys : List (Option Key)) (heap whole : List Entry) (places whole' : List ℕ) (room : ℕ) → IsOrdered keys heap places room → whole ≡ heap → whole' ≡ places → IsOrdered keys whole whole' room
ordered_as keys heap whole places whole' room x we we' = subst (λ (h : List Entry). IsOrdered keys h whole' room) (sym we) (subst (λ (p : List ℕ). IsOrdered keys heap p room) (sym we') x)

-- a taken slot is freed
pub removed : (keys : List (Option Key)) (init heap : List Entry) (places : List ℕ) (last : Entry) → heap ≡ init ++ last ∷ [] → IsIndex keys heap places → IsHeap (key_at heap) (length heap) → (slot q : ℕ) → q ≡ slice_index places slot
    → (old : Key) → slice_index_or keys slot None ≡ Some old → (lent filled whole : List Entry) (lent' filled' whole' : List ℕ) (room : ℕ) → lent ≡ init → lent' ≡ slice_set places slot NOWHERE
    → (q < length lent → IsFilled lent filled lent' filled' q last) → (length lent ≤ q → filled ≡ lent) → (length lent ≤ q → filled' ≡ lent') → whole ≡ filled → whole' ≡ filled' → length keys ≤ room → IsOrdered (slice_set keys slot None) whole whole' room
removed keys init heap places last parts x order slot q at old was lent filled whole lent' filled' whole' room le le' in_heap end end' we we' fits =
    let long : length lent ≡ length init = ap (λ (l : List Entry). length l) le in
    let most : length (slice_set keys slot None) ≤ room = omega (arith, fits, length-set keys slot None) in
    elim (cases_lt q (length lent)) [
      | inl inside ↦
          ordered _ _ _ _ _ _ _ _ _ _ _ _ le le' (removed_index keys init heap places last parts x order slot q at old was (omega (arith, inside, long))) (in_heap inside) we we' most
      | inr out ↦
          ordered_as _ _ _ _ _ _
          (record {
            index = removed_last keys init heap places last parts x order slot q at old was
                (omega (arith, out, long, gone_place keys init heap places last parts x order slot q at old was, heap_length keys init heap places last parts x order slot q at old was));
            order = removed_order keys init heap places last parts x order slot q at old was;
            slots = most;
          })
          (we ∙ end out ∙ le) (we' ∙ end' out ∙ le')
    ]
