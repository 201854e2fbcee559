use Rattle.std.proofs.Common.{arith, ◌≡◌, ◌∙◌, ℕ, ◌<◌, ◌^◌, List, Option, None, Some, length, length-set, subst, sym, ap, refl}
use Rattle.std.specs.Prelude.{IsSome, slice_index_or, slice_set}
use Rattle.std.proofs.lemmas.List.{get_or_default}
use Rattle.logical_clock.specs.declared.key.Key.{Key}
use Rattle.key_index.specs.declared.heap.Entry.{Entry}
use Rattle.key_index.specs.declared.heap.TheConstants.{NOWHERE}
use Rattle.key_index.specs.Heap.{IsLeast, entry_at, keys_of, nobody}
use Rattle.key_index.proofs.Holes.{some_within}
use Rattle.key_index.proofs.Leasts.{least_first, shown, shown_ordered, some_first}
use Rattle.key_index.proofs.Orders.{below_multiple}
use Rattle.key_index.proofs.Refills.{ordered, refilled}
use Rattle.key_index.proofs.Slots.{fits, replaced_hole, replaced_index}
use Rattle.key_index.proofs.index.KeyIndex.replace_least.Goals as goal

pub index_mut-requires : goal.index_mut-requires
index_mut-requires g c =
    let x = c.self.invariant in
    let keys = keys_of c.self.inside.heap.items c.self.inside.places.items in
    let taken = subst (λ (l : List (Option Key)). (s : ℕ) × IsSome (slice_index_or l s None)) (sym c.self.view_is) c.requires.taken in
    let some : 0 < length c.self.inside.heap.items = some_first keys _ _ x.index taken.0 taken.1 in
    let is : c.index-first.result.now ≡ entry_at c.self.inside.heap.items 0 = c.index-first.ensures ∙ get_or_default c.self.inside.heap.items 0 c.index-first.result.now nobody some in
    let own = subst (λ (n : Entry). slice_index_or keys n.slot None ≡ Some n.key) (sym is) (x.index.entry 0 some).0 in
    omega (arith, some_within keys c.index-first.result.now.slot c.index-first.result.now.key own, x.index.slots, c.self.inside.places.ok.0)

pub sift-requires : goal.sift-requires
sift-requires g c =
    let x = c.self.invariant in
    let keys = keys_of c.self.inside.heap.items c.self.inside.places.items in
    let taken = subst (λ (l : List (Option Key)). (s : ℕ) × IsSome (slice_index_or l s None)) (sym c.self.view_is) c.requires.taken in
    let some : 0 < length c.self.inside.heap.items = some_first keys _ _ x.index taken.0 taken.1 in
    let is : c.index-first.result.now ≡ entry_at c.self.inside.heap.items 0 = c.index-first.ensures ∙ get_or_default c.self.inside.heap.items 0 c.index-first.result.now nobody some in
    let entry : Entry = record { key = c.args.key; slot = c.args.slot } in
    let within : c.args.slot < length keys = rw c.self.view_is c.requires.slot in
    let free : slice_index_or keys c.args.slot None ≡ None = rw c.self.view_is c.requires.free in
    rw (c.deref_mut.ensures.value, c.deref_mut-2.ensures.value) (replaced_hole keys _ _ x.index some c.index-first.result.now is c.args.slot c.args.key entry refl within free x.order)

pub invariant_of-self : goal.invariant_of-self
invariant_of-self g c =
    let x = c.self.invariant in
    let keys = keys_of c.self.inside.heap.items c.self.inside.places.items in
    let taken = subst (λ (l : List (Option Key)). (s : ℕ) × IsSome (slice_index_or l s None)) (sym c.self.view_is) c.requires.taken in
    let some : 0 < length c.self.inside.heap.items = some_first keys _ _ x.index taken.0 taken.1 in
    let is : c.index-first.result.now ≡ entry_at c.self.inside.heap.items 0 = c.index-first.ensures ∙ get_or_default c.self.inside.heap.items 0 c.index-first.result.now nobody some in
    let entry : Entry = record { key = c.args.key; slot = c.args.slot } in
    let within : c.args.slot < length keys = rw c.self.view_is c.requires.slot in
    let free : slice_index_or keys c.args.slot None ≡ None = rw c.self.view_is c.requires.free in
    let all = ordered _ _ _ _ _ _ _ _ _ _ _ _ c.deref_mut.ensures.value c.deref_mut-2.ensures.value (replaced_index keys _ _ x.index some c.index-first.result.now is c.args.slot c.args.key entry refl within free) c.sift.ensures.filled
    (refilled _ _ _ c.self.inside.heap.ok.0 (c.sift.auto.heap ∙ ap (λ (l : List Entry). length l) c.deref_mut.ensures.value))
    (refilled _ _ _ (c.self.inside.places.ok.0 ∙ sym (length-set c.self.inside.places.items c.index-first.result.now.slot NOWHERE)) (c.sift.auto.places ∙ ap (λ (l : List ℕ). length l) c.deref_mut-2.ensures.value))
    (omega (arith, x.slots, length-set keys c.index-first.result.now.slot None, length-set (slice_set keys c.index-first.result.now.slot None) c.args.slot (Some c.args.key))) in
    shown_ordered _ _ _ _ all c.self.inside.heap.small

pub returns-clause-least : goal.returns-clause-least
returns-clause-least g c =
    let x = c.self.invariant in
    let keys = keys_of c.self.inside.heap.items c.self.inside.places.items in
    let taken = subst (λ (l : List (Option Key)). (s : ℕ) × IsSome (slice_index_or l s None)) (sym c.self.view_is) c.requires.taken in
    let some : 0 < length c.self.inside.heap.items = some_first keys _ _ x.index taken.0 taken.1 in
    let is : c.index-first.result.now ≡ entry_at c.self.inside.heap.items 0 = c.index-first.ensures ∙ get_or_default c.self.inside.heap.items 0 c.index-first.result.now nobody some in
    subst (λ (l : List (Option Key)). IsLeast l c.index-first.result.now.slot c.index-first.result.now.key) c.self.view_is (least_first keys _ _ x.index x.order some c.index-first.result.now is)

pub returns-clause-contents : goal.returns-clause-contents
returns-clause-contents g c =
    let x = c.self.invariant in
    let keys = keys_of c.self.inside.heap.items c.self.inside.places.items in
    let taken = subst (λ (l : List (Option Key)). (s : ℕ) × IsSome (slice_index_or l s None)) (sym c.self.view_is) c.requires.taken in
    let some : 0 < length c.self.inside.heap.items = some_first keys _ _ x.index taken.0 taken.1 in
    let is : c.index-first.result.now ≡ entry_at c.self.inside.heap.items 0 = c.index-first.ensures ∙ get_or_default c.self.inside.heap.items 0 c.index-first.result.now nobody some in
    let entry : Entry = record { key = c.args.key; slot = c.args.slot } in
    let within : c.args.slot < length keys = rw c.self.view_is c.requires.slot in
    let free : slice_index_or keys c.args.slot None ≡ None = rw c.self.view_is c.requires.free in
    let all = ordered _ _ _ _ _ _ _ _ _ _ _ _ c.deref_mut.ensures.value c.deref_mut-2.ensures.value (replaced_index keys _ _ x.index some c.index-first.result.now is c.args.slot c.args.key entry refl within free) c.sift.ensures.filled
    (refilled _ _ _ c.self.inside.heap.ok.0 (c.sift.auto.heap ∙ ap (λ (l : List Entry). length l) c.deref_mut.ensures.value))
    (refilled _ _ _ (c.self.inside.places.ok.0 ∙ sym (length-set c.self.inside.places.items c.index-first.result.now.slot NOWHERE)) (c.sift.auto.places ∙ ap (λ (l : List ℕ). length l) c.deref_mut-2.ensures.value))
    (omega (arith, x.slots, length-set keys c.index-first.result.now.slot None, length-set (slice_set keys c.index-first.result.now.slot None) c.args.slot (Some c.args.key))) in
    shown _ _ _ _ all c.self.inside.heap.small ∙ ap (λ (l : List (Option Key)). slice_set (slice_set l c.index-first.result.now.slot None) c.args.slot (Some c.args.key)) c.self.view_is

pub returns-clause-steps : goal.returns-clause-steps
returns-clause-steps g c = λ d h.
    let most = fits _ _ _ c.self.invariant.index in
    let low : length c.deref_mut.result.now < 2 ^ d = omega (arith, h, most, ap (λ (l : List Entry). length l) c.deref_mut.ensures.value, ap (λ (l : List (Option Key)). length l) c.self.view_is) in
    let f = c.sift.ensures.steps d d (below_multiple 0 (2 ^ d) (length c.deref_mut.result.now) low) low in
    omega (arith, f)
