use Rattle.std.proofs.Common.{arith, ◌≡◌, ◌∙◌, ℕ, ◌<◌, List, Option, None, Some, length, length-set, subst, sym, ap}
use Rattle.std.specs.Prelude.{IsSome, slice_index, slice_index_or, slice_set}
use Rattle.std.proofs.lemmas.List.{get_or_default}
use Rattle.logical_clock.specs.declared.key.Key.{Key}
use Rattle.key_index.specs.declared.heap.Entry.{Entry}
use Rattle.key_index.specs.declared.heap.TheConstants.{NOWHERE}
use Rattle.key_index.specs.Heap.{IsLeast, entry_at, keys_of, nobody}
use Rattle.key_index.proofs.Holes.{some_within}
use Rattle.key_index.proofs.Leasts.{least_first, shown, shown_ordered, some_first}
use Rattle.key_index.proofs.Refills.{refilled, removed}
use Rattle.key_index.proofs.Slots.{fits, heap_length, removed_hole}
use Rattle.key_index.proofs.index.KeyIndex.remove_least.Goals as goal

pub index_mut-requires : goal.index_mut-requires
index_mut-requires g c =
    let x = c.self.invariant in
    let keys = keys_of c.self.inside.heap.items c.self.inside.places.items in
    let taken = subst (λ (l : List (Option Key)). (s : ℕ) × IsSome (slice_index_or l s None)) (sym c.self.view_is) c.requires in
    let some : 0 < length c.self.inside.heap.items = some_first keys _ _ x.index taken.0 taken.1 in
    let is : c.index-first.result.now ≡ entry_at c.self.inside.heap.items 0 = c.index-first.ensures ∙ get_or_default c.self.inside.heap.items 0 c.index-first.result.now nobody some in
    let own = subst (λ (n : Entry). slice_index_or keys n.slot None ≡ Some n.key) (sym is) (x.index.entry 0 some).0 in
    omega (arith, some_within keys c.index-first.result.now.slot c.index-first.result.now.key own, x.index.slots, c.self.inside.places.ok.0)

pub refill-requires : goal.refill-requires
refill-requires g c = λ inside.
    let x = c.self.invariant in
    let keys = keys_of c.self.inside.heap.items c.self.inside.places.items in
    let taken = subst (λ (l : List (Option Key)). (s : ℕ) × IsSome (slice_index_or l s None)) (sym c.self.view_is) c.requires in
    let some : 0 < length c.self.inside.heap.items = some_first keys _ _ x.index taken.0 taken.1 in
    let is : c.index-first.result.now ≡ entry_at c.self.inside.heap.items 0 = c.index-first.ensures ∙ get_or_default c.self.inside.heap.items 0 c.index-first.result.now nobody some in
    let own = subst (λ (n : Entry). (slice_index_or keys n.slot None ≡ Some n.key) × (slice_index c.self.inside.places.items n.slot ≡ 0)) (sym is) (x.index.entry 0 some) in
    rw (c.deref_mut.ensures.value, c.deref_mut-2.ensures.value)
    (removed_hole _ _ _ _ _ c.take_last-last.ensures.items x.index x.order c.index-first.result.now.slot 0 (sym own.1) c.index-first.result.now.key own.0 (subst (λ (l : List Entry). 0 < length l) c.deref_mut.ensures.value inside))

pub invariant_of-self : goal.invariant_of-self
invariant_of-self g c =
    let x = c.self.invariant in
    let keys = keys_of c.self.inside.heap.items c.self.inside.places.items in
    let taken = subst (λ (l : List (Option Key)). (s : ℕ) × IsSome (slice_index_or l s None)) (sym c.self.view_is) c.requires in
    let some : 0 < length c.self.inside.heap.items = some_first keys _ _ x.index taken.0 taken.1 in
    let is : c.index-first.result.now ≡ entry_at c.self.inside.heap.items 0 = c.index-first.ensures ∙ get_or_default c.self.inside.heap.items 0 c.index-first.result.now nobody some in
    let own = subst (λ (n : Entry). (slice_index_or keys n.slot None ≡ Some n.key) × (slice_index c.self.inside.places.items n.slot ≡ 0)) (sym is) (x.index.entry 0 some) in
    let all = removed _ _ _ _ _ c.take_last-last.ensures.items x.index x.order c.index-first.result.now.slot 0 (sym own.1) c.index-first.result.now.key own.0 _ _ _ _ _ _ c.take_last-last.new.self.cap c.deref_mut.ensures.value c.deref_mut-2.ensures.value c.refill.ensures.filled c.refill.ensures.heap c.refill.ensures.places
    (refilled _ _ _ c.take_last-last.new.self.ok.0 (c.refill.auto.heap ∙ ap (λ (l : List Entry). length l) c.deref_mut.ensures.value))
    (refilled _ _ _ (c.self.inside.places.ok.0 ∙ sym (length-set c.self.inside.places.items c.index-first.result.now.slot NOWHERE)) (c.refill.auto.places ∙ ap (λ (l : List ℕ). length l) c.deref_mut-2.ensures.value))
    (omega (arith, x.slots, c.take_last-last.ensures.capacity)) in
    shown_ordered _ _ _ _ all c.take_last-last.new.self.small

pub returns-clause-least : goal.returns-clause-least
returns-clause-least g c =
    let x = c.self.invariant in
    let keys = keys_of c.self.inside.heap.items c.self.inside.places.items in
    let taken = subst (λ (l : List (Option Key)). (s : ℕ) × IsSome (slice_index_or l s None)) (sym c.self.view_is) c.requires in
    let some : 0 < length c.self.inside.heap.items = some_first keys _ _ x.index taken.0 taken.1 in
    let is : c.index-first.result.now ≡ entry_at c.self.inside.heap.items 0 = c.index-first.ensures ∙ get_or_default c.self.inside.heap.items 0 c.index-first.result.now nobody some in
    subst (λ (l : List (Option Key)). IsLeast l c.index-first.result.now.slot c.index-first.result.now.key) c.self.view_is (least_first keys _ _ x.index x.order some c.index-first.result.now is)

pub returns-clause-contents : goal.returns-clause-contents
returns-clause-contents g c =
    let x = c.self.invariant in
    let keys = keys_of c.self.inside.heap.items c.self.inside.places.items in
    let taken = subst (λ (l : List (Option Key)). (s : ℕ) × IsSome (slice_index_or l s None)) (sym c.self.view_is) c.requires in
    let some : 0 < length c.self.inside.heap.items = some_first keys _ _ x.index taken.0 taken.1 in
    let is : c.index-first.result.now ≡ entry_at c.self.inside.heap.items 0 = c.index-first.ensures ∙ get_or_default c.self.inside.heap.items 0 c.index-first.result.now nobody some in
    let own = subst (λ (n : Entry). (slice_index_or keys n.slot None ≡ Some n.key) × (slice_index c.self.inside.places.items n.slot ≡ 0)) (sym is) (x.index.entry 0 some) in
    let all = removed _ _ _ _ _ c.take_last-last.ensures.items x.index x.order c.index-first.result.now.slot 0 (sym own.1) c.index-first.result.now.key own.0 _ _ _ _ _ _ c.take_last-last.new.self.cap c.deref_mut.ensures.value c.deref_mut-2.ensures.value c.refill.ensures.filled c.refill.ensures.heap c.refill.ensures.places
    (refilled _ _ _ c.take_last-last.new.self.ok.0 (c.refill.auto.heap ∙ ap (λ (l : List Entry). length l) c.deref_mut.ensures.value))
    (refilled _ _ _ (c.self.inside.places.ok.0 ∙ sym (length-set c.self.inside.places.items c.index-first.result.now.slot NOWHERE)) (c.refill.auto.places ∙ ap (λ (l : List ℕ). length l) c.deref_mut-2.ensures.value))
    (omega (arith, x.slots, c.take_last-last.ensures.capacity)) in
    shown _ _ _ _ all c.take_last-last.new.self.small ∙ ap (λ (l : List (Option Key)). slice_set l c.index-first.result.now.slot None) c.self.view_is

pub returns-clause-steps : goal.returns-clause-steps
returns-clause-steps g c = λ d h.
    let x = c.self.invariant in
    let keys = keys_of c.self.inside.heap.items c.self.inside.places.items in
    let taken = subst (λ (l : List (Option Key)). (s : ℕ) × IsSome (slice_index_or l s None)) (sym c.self.view_is) c.requires in
    let some : 0 < length c.self.inside.heap.items = some_first keys _ _ x.index taken.0 taken.1 in
    let is : c.index-first.result.now ≡ entry_at c.self.inside.heap.items 0 = c.index-first.ensures ∙ get_or_default c.self.inside.heap.items 0 c.index-first.result.now nobody some in
    let own = subst (λ (n : Entry). (slice_index_or keys n.slot None ≡ Some n.key) × (slice_index c.self.inside.places.items n.slot ≡ 0)) (sym is) (x.index.entry 0 some) in
    let long : length c.deref_mut.result.now ≡ length c.take_last-last.new.self.items = ap (λ (l : List Entry). length l) c.deref_mut.ensures.value in
    c.refill.ensures.steps d (omega (arith, h, fits _ _ _ x.index, long, heap_length _ _ _ _ _ c.take_last-last.ensures.items x.index x.order c.index-first.result.now.slot 0 (sym own.1) c.index-first.result.now.key own.0, ap (λ (l : List (Option Key)). length l) c.self.view_is))
