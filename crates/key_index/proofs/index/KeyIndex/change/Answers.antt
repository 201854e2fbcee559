use Rattle.std.proofs.Common.{arith, ◌≡◌, ◌∙◌, ◌^◌, ◌<◌, ℕ, List, Option, None, Some, length, length-set, subst, sym, ap, refl}
use Rattle.std.specs.Prelude.{IsSome, slice_index, slice_index_or, slice_set}
use Rattle.std.proofs.lemmas.List.{get_or_default}
use Rattle.logical_clock.specs.declared.key.Key.{Key}
use Rattle.key_index.specs.declared.heap.Entry.{Entry}
use Rattle.key_index.specs.Heap.{keys_of}
use Rattle.key_index.proofs.Holes.{some_within}
use Rattle.key_index.proofs.Leasts.{shown, shown_ordered}
use Rattle.key_index.proofs.Orders.{below_multiple}
use Rattle.key_index.proofs.Refills.{ordered, refilled}
use Rattle.key_index.proofs.Slots.{changed_hole, changed_index, fits, some_key}
use Rattle.key_index.proofs.index.KeyIndex.change.Goals as goal

pub sift-requires : goal.sift-requires
sift-requires g c =
    let x = c.self.invariant in
    let keys = keys_of c.self.inside.heap.items c.self.inside.places.items in
    let old = some_key (slice_index_or keys c.args.slot None) (subst (λ (l : List (Option Key)). IsSome (slice_index_or l c.args.slot None)) (sym c.self.view_is) c.requires) in
    let at : c.index-place.result.now ≡ slice_index c.self.inside.places.items c.args.slot = c.index-place.ensures ∙ get_or_default c.self.inside.places.items c.args.slot c.index-place.result.now 0 (omega (arith, x.index.slots, some_within keys c.args.slot old.0 old.1)) in
    rw (c.deref_mut.ensures.value, c.deref_mut-2.ensures.value) (changed_hole _ _ _ x.index x.order c.args.slot _ at old.0 c.args.key old.1 (record { key = c.args.key; slot = c.args.slot }) refl)

pub invariant_of-self : goal.invariant_of-self
invariant_of-self g c =
    let x = c.self.invariant in
    let keys = keys_of c.self.inside.heap.items c.self.inside.places.items in
    let old = some_key (slice_index_or keys c.args.slot None) (subst (λ (l : List (Option Key)). IsSome (slice_index_or l c.args.slot None)) (sym c.self.view_is) c.requires) in
    let at : c.index-place.result.now ≡ slice_index c.self.inside.places.items c.args.slot = c.index-place.ensures ∙ get_or_default c.self.inside.places.items c.args.slot c.index-place.result.now 0 (omega (arith, x.index.slots, some_within keys c.args.slot old.0 old.1)) in
    let all = ordered _ _ _ _ _ _ _ _ _ _ _ _ c.deref_mut.ensures.value c.deref_mut-2.ensures.value
    (changed_index _ _ _ x.index x.order c.args.slot _ at old.0 c.args.key old.1 (record { key = c.args.key; slot = c.args.slot }) refl) c.sift.ensures.filled
    (refilled _ _ _ c.self.inside.heap.ok.0 (c.sift.auto.heap ∙ ap (λ (l : List Entry). length l) c.deref_mut.ensures.value))
    (refilled _ _ _ c.self.inside.places.ok.0 (c.sift.auto.places ∙ ap (λ (l : List ℕ). length l) c.deref_mut-2.ensures.value))
    (omega (arith, x.slots, length-set keys c.args.slot (Some c.args.key))) in
    shown_ordered _ _ _ _ all c.self.inside.heap.small

pub returns-clause-contents : goal.returns-clause-contents
returns-clause-contents g c =
    let x = c.self.invariant in
    let keys = keys_of c.self.inside.heap.items c.self.inside.places.items in
    let old = some_key (slice_index_or keys c.args.slot None) (subst (λ (l : List (Option Key)). IsSome (slice_index_or l c.args.slot None)) (sym c.self.view_is) c.requires) in
    let at : c.index-place.result.now ≡ slice_index c.self.inside.places.items c.args.slot = c.index-place.ensures ∙ get_or_default c.self.inside.places.items c.args.slot c.index-place.result.now 0 (omega (arith, x.index.slots, some_within keys c.args.slot old.0 old.1)) in
    let all = ordered _ _ _ _ _ _ _ _ _ _ _ _ c.deref_mut.ensures.value c.deref_mut-2.ensures.value
    (changed_index _ _ _ x.index x.order c.args.slot _ at old.0 c.args.key old.1 (record { key = c.args.key; slot = c.args.slot }) refl) c.sift.ensures.filled
    (refilled _ _ _ c.self.inside.heap.ok.0 (c.sift.auto.heap ∙ ap (λ (l : List Entry). length l) c.deref_mut.ensures.value))
    (refilled _ _ _ c.self.inside.places.ok.0 (c.sift.auto.places ∙ ap (λ (l : List ℕ). length l) c.deref_mut-2.ensures.value))
    (omega (arith, x.slots, length-set keys c.args.slot (Some c.args.key))) in
    shown _ _ _ _ all c.self.inside.heap.small ∙ ap (λ (l : List (Option Key)). slice_set l c.args.slot (Some c.args.key)) c.self.view_is

pub returns-clause-steps : goal.returns-clause-steps
returns-clause-steps g c = λ d h.
    let most = fits _ _ _ c.self.invariant.index in
    let low : length c.deref_mut.result.now < 2 ^ d = omega (arith, h, most, ap (λ (l : List Entry). length l) c.deref_mut.ensures.value, ap (λ (l : List (Option Key)). length l) c.self.view_is) in
    let f = c.sift.ensures.steps d d (below_multiple c.index-place.result.now (2 ^ d) (length c.deref_mut.result.now) low) low in
    omega (arith, f)
