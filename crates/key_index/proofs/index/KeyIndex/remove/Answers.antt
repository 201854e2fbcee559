use Rattle.std.proofs.Common.{arith, ◌≡◌, ◌∙◌, ℕ, ◌<◌, List, Option, None, length, length-set, subst, sym, ap}
use Rattle.std.specs.Prelude.{IsSome, slice_index, slice_index_or, slice_set}
use Rattle.std.proofs.lemmas.List.{get_or_default}
use Rattle.logical_clock.specs.declared.key.Key.{Key}
use Rattle.key_index.specs.declared.heap.Entry.{Entry}
use Rattle.key_index.specs.declared.heap.TheConstants.{NOWHERE}
use Rattle.key_index.specs.Heap.{keys_of}
use Rattle.key_index.proofs.Holes.{some_within}
use Rattle.key_index.proofs.Leasts.{shown, shown_ordered}
use Rattle.key_index.proofs.Refills.{refilled, removed}
use Rattle.key_index.proofs.Slots.{fits, heap_length, removed_hole, some_key}
use Rattle.key_index.proofs.index.KeyIndex.remove.Goals as goal

pub refill-requires : goal.refill-requires
refill-requires g c = λ inside.
    let x = c.self.invariant in
    let keys = keys_of c.self.inside.heap.items c.self.inside.places.items in
    let old = some_key (slice_index_or keys c.args.slot None) (subst (λ (l : List (Option Key)). IsSome (slice_index_or l c.args.slot None)) (sym c.self.view_is) c.requires) in
    let at : c.index-place.result.now ≡ slice_index c.self.inside.places.items c.args.slot = c.index-place.ensures ∙ get_or_default c.self.inside.places.items c.args.slot c.index-place.result.now 0 (omega (arith, x.index.slots, some_within keys c.args.slot old.0 old.1)) in
    rw (c.deref_mut.ensures.value, c.deref_mut-2.ensures.value)
    (removed_hole _ _ _ _ _ c.take_last-last.ensures.items x.index x.order c.args.slot _ at old.0 old.1 (subst (λ (l : List Entry). c.index-place.result.now < length l) c.deref_mut.ensures.value inside))

pub invariant_of-self : goal.invariant_of-self
invariant_of-self g c =
    let x = c.self.invariant in
    let keys = keys_of c.self.inside.heap.items c.self.inside.places.items in
    let old = some_key (slice_index_or keys c.args.slot None) (subst (λ (l : List (Option Key)). IsSome (slice_index_or l c.args.slot None)) (sym c.self.view_is) c.requires) in
    let at : c.index-place.result.now ≡ slice_index c.self.inside.places.items c.args.slot = c.index-place.ensures ∙ get_or_default c.self.inside.places.items c.args.slot c.index-place.result.now 0 (omega (arith, x.index.slots, some_within keys c.args.slot old.0 old.1)) in
    let all = removed _ _ _ _ _ c.take_last-last.ensures.items x.index x.order c.args.slot _ at old.0 old.1 _ _ _ _ _ _ c.take_last-last.new.self.cap c.deref_mut.ensures.value c.deref_mut-2.ensures.value c.refill.ensures.filled c.refill.ensures.heap c.refill.ensures.places
    (refilled _ _ _ c.take_last-last.new.self.ok.0 (c.refill.auto.heap ∙ ap (λ (l : List Entry). length l) c.deref_mut.ensures.value))
    (refilled _ _ _ (c.self.inside.places.ok.0 ∙ sym (length-set c.self.inside.places.items c.args.slot NOWHERE)) (c.refill.auto.places ∙ ap (λ (l : List ℕ). length l) c.deref_mut-2.ensures.value))
    (omega (arith, x.slots, c.take_last-last.ensures.capacity)) in
    shown_ordered _ _ _ _ all c.take_last-last.new.self.small

pub returns-clause-contents : goal.returns-clause-contents
returns-clause-contents g c =
    let x = c.self.invariant in
    let keys = keys_of c.self.inside.heap.items c.self.inside.places.items in
    let old = some_key (slice_index_or keys c.args.slot None) (subst (λ (l : List (Option Key)). IsSome (slice_index_or l c.args.slot None)) (sym c.self.view_is) c.requires) in
    let at : c.index-place.result.now ≡ slice_index c.self.inside.places.items c.args.slot = c.index-place.ensures ∙ get_or_default c.self.inside.places.items c.args.slot c.index-place.result.now 0 (omega (arith, x.index.slots, some_within keys c.args.slot old.0 old.1)) in
    let all = removed _ _ _ _ _ c.take_last-last.ensures.items x.index x.order c.args.slot _ at old.0 old.1 _ _ _ _ _ _ c.take_last-last.new.self.cap c.deref_mut.ensures.value c.deref_mut-2.ensures.value c.refill.ensures.filled c.refill.ensures.heap c.refill.ensures.places
    (refilled _ _ _ c.take_last-last.new.self.ok.0 (c.refill.auto.heap ∙ ap (λ (l : List Entry). length l) c.deref_mut.ensures.value))
    (refilled _ _ _ (c.self.inside.places.ok.0 ∙ sym (length-set c.self.inside.places.items c.args.slot NOWHERE)) (c.refill.auto.places ∙ ap (λ (l : List ℕ). length l) c.deref_mut-2.ensures.value))
    (omega (arith, x.slots, c.take_last-last.ensures.capacity)) in
    shown _ _ _ _ all c.take_last-last.new.self.small ∙ ap (λ (l : List (Option Key)). slice_set l c.args.slot None) c.self.view_is

pub returns-clause-steps : goal.returns-clause-steps
returns-clause-steps g c = λ d h.
    let x = c.self.invariant in
    let keys = keys_of c.self.inside.heap.items c.self.inside.places.items in
    let old = some_key (slice_index_or keys c.args.slot None) (subst (λ (l : List (Option Key)). IsSome (slice_index_or l c.args.slot None)) (sym c.self.view_is) c.requires) in
    let at : c.index-place.result.now ≡ slice_index c.self.inside.places.items c.args.slot = c.index-place.ensures ∙ get_or_default c.self.inside.places.items c.args.slot c.index-place.result.now 0 (omega (arith, x.index.slots, some_within keys c.args.slot old.0 old.1)) in
    let long : length c.deref_mut.result.now ≡ length c.take_last-last.new.self.items = ap (λ (l : List Entry). length l) c.deref_mut.ensures.value in
    c.refill.ensures.steps d (omega (arith, h, fits _ _ _ x.index, long, heap_length _ _ _ _ _ c.take_last-last.ensures.items x.index x.order c.args.slot _ at old.0 old.1, ap (λ (l : List (Option Key)). length l) c.self.view_is))
