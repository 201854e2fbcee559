use Rattle.std.proofs.Common.{arith, ◌≡◌, ◌∙◌, ℕ, List, [], ◌∷◌, ◌++◌, Option, Some, length, length-set, ap, refl, subst, sym}
use Rattle.std.specs.Prelude.{slice_set}
use Rattle.logical_clock.specs.declared.key.Key.{Key}
use Rattle.key_index.specs.declared.heap.Entry.{Entry}
use Rattle.key_index.specs.Heap.{IsIndexWith, keys_of}
use Rattle.key_index.proofs.Leasts.{shown, shown_ordered}
use Rattle.key_index.proofs.Refills.{ordered, refilled}
use Rattle.key_index.proofs.Slots.{fits_more, inserted_hole, inserted_index}
use Rattle.key_index.proofs.index.KeyIndex.insert.Goals as goal

pub push_reserved-requires : goal.push_reserved-requires
push_reserved-requires g c =
    let x = c.self.invariant in
    let more = fits_more _ _ _ x.index c.args.slot (rw c.self.view_is c.requires.slot) (rw c.self.view_is c.requires.free) in
    omega (arith, more, x.slots, c.self.inside.heap.ok.0)

pub sift_up-requires-clause-hole : goal.sift_up-requires-clause-hole
sift_up-requires-clause-hole g c =
    let x = c.self.invariant in
    let last : c.len-last.result ≡ length c.self.inside.heap.items = c.len-last.ensures ∙ c.self.inside.heap.ok.0 in
    rw (c.deref_mut.ensures.value, c.deref_mut-2.ensures.value, c.push_reserved.ensures.items, last)
    (inserted_hole _ _ _ x.index c.args.slot c.args.key (record { key = c.args.key; slot = c.args.slot }) refl (rw c.self.view_is c.requires.slot) (rw c.self.view_is c.requires.free) x.order)

pub invariant_of-self : goal.invariant_of-self
invariant_of-self g c =
    let x = c.self.invariant in
    let keys = keys_of c.self.inside.heap.items c.self.inside.places.items in
    let last : c.len-last.result ≡ length c.self.inside.heap.items = c.len-last.ensures ∙ c.self.inside.heap.ok.0 in
    let entry : Entry = record { key = c.args.key; slot = c.args.slot } in
    let index = subst (λ (q : ℕ). IsIndexWith (slice_set keys c.args.slot (Some c.args.key)) (c.self.inside.heap.items ++ entry ∷ []) c.self.inside.places.items q entry) (sym last)
    (inserted_index _ _ _ x.index c.args.slot c.args.key entry refl (rw c.self.view_is c.requires.slot) (rw c.self.view_is c.requires.free)) in
    let all = ordered _ _ _ _ _ _ _ _ _ _ _ _ (c.deref_mut.ensures.value ∙ c.push_reserved.ensures.items) c.deref_mut-2.ensures.value
    index c.sift_up.ensures.filled
    (refilled _ _ _ c.push_reserved.new.self.ok.0 (c.sift_up.auto.heap ∙ ap (λ (l : List Entry). length l) c.deref_mut.ensures.value))
    (refilled _ _ _ c.self.inside.places.ok.0 (c.sift_up.auto.places ∙ ap (λ (l : List ℕ). length l) c.deref_mut-2.ensures.value))
    (omega (arith, x.slots, c.push_reserved.ensures.capacity, length-set keys c.args.slot (Some c.args.key))) in
    shown_ordered _ _ _ _ all c.push_reserved.new.self.small

pub returns-clause-contents : goal.returns-clause-contents
returns-clause-contents g c =
    let x = c.self.invariant in
    let keys = keys_of c.self.inside.heap.items c.self.inside.places.items in
    let last : c.len-last.result ≡ length c.self.inside.heap.items = c.len-last.ensures ∙ c.self.inside.heap.ok.0 in
    let entry : Entry = record { key = c.args.key; slot = c.args.slot } in
    let index = subst (λ (q : ℕ). IsIndexWith (slice_set keys c.args.slot (Some c.args.key)) (c.self.inside.heap.items ++ entry ∷ []) c.self.inside.places.items q entry) (sym last)
    (inserted_index _ _ _ x.index c.args.slot c.args.key entry refl (rw c.self.view_is c.requires.slot) (rw c.self.view_is c.requires.free)) in
    let all = ordered _ _ _ _ _ _ _ _ _ _ _ _ (c.deref_mut.ensures.value ∙ c.push_reserved.ensures.items) c.deref_mut-2.ensures.value
    index c.sift_up.ensures.filled
    (refilled _ _ _ c.push_reserved.new.self.ok.0 (c.sift_up.auto.heap ∙ ap (λ (l : List Entry). length l) c.deref_mut.ensures.value))
    (refilled _ _ _ c.self.inside.places.ok.0 (c.sift_up.auto.places ∙ ap (λ (l : List ℕ). length l) c.deref_mut-2.ensures.value))
    (omega (arith, x.slots, c.push_reserved.ensures.capacity, length-set keys c.args.slot (Some c.args.key))) in
    shown _ _ _ _ all c.push_reserved.new.self.small ∙ ap (λ (l : List (Option Key)). slice_set l c.args.slot (Some c.args.key)) c.self.view_is

pub returns-clause-steps : goal.returns-clause-steps
returns-clause-steps g c = λ d h.
    let more = fits_more _ _ _ c.self.invariant.index c.args.slot (rw c.self.view_is c.requires.slot) (rw c.self.view_is c.requires.free) in
    let f = c.sift_up.ensures.steps d (omega (arith, h, more, c.len-last.ensures, c.self.inside.heap.ok.0, ap (λ (l : List (Option Key)). length l) c.self.view_is)) in
    omega (arith, f)
