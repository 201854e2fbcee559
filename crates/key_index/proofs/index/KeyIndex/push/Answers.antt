use Rattle.std.proofs.Common.{◌≡◌, ◌∙◌, ℕ, ◌∷◌, ◌++◌, [], List, Option, None, ap, arith}
use Rattle.std.proofs.lemmas.List.{length-append}
use Rattle.logical_clock.specs.declared.key.Key.{Key}
use Rattle.key_index.specs.declared.heap.TheConstants.{NOWHERE}
use Rattle.key_index.specs.Heap.{IsOrdered, keys_of}
use Rattle.key_index.proofs.Leasts.{grown, shown, shown_ordered}
use Rattle.key_index.proofs.Slots.{fits}
use Rattle.key_index.proofs.index.KeyIndex.push.Goals as goal

pub overflow_sub-len : goal.overflow_sub-len
overflow_sub-len c =
    let x = c.self.invariant in
    let most = fits _ _ _ x.index in
    omega (arith, most, x.index.slots, c.len.ensures, c.len-2.ensures, c.self.inside.heap.ok.0, c.self.inside.places.ok.0)

pub invariant_of-self-2 : goal.invariant_of-self-2
invariant_of-self-2 c =
    let x = c.self.invariant in
    let keys = keys_of c.self.inside.heap.items c.self.inside.places.items in
    let p : c.push_reserved.new.self.items ≡ c.self.inside.places.items ++ NOWHERE ∷ [] = c.push_reserved.ensures.items ∙ ap (λ (l : List ℕ). l ++ NOWHERE ∷ []) c.reserve-2.ensures.items in
    let all : IsOrdered (keys ++ None ∷ []) c.reserve.new.self.items c.push_reserved.new.self.items c.reserve.new.self.cap = rw (p, c.reserve.ensures.items) (record {
      index = grown _ _ _ x.index;
      order = x.order;
      slots = omega (arith, fits _ _ _ x.index, x.index.slots, c.in_ok-reserve.ensures.ok, c.reserve.ensures.len, c.len.ensures, c.len-2.ensures, c.self.inside.heap.ok.0, c.self.inside.places.ok.0, length-append keys (None ∷ []));
    }) in
    shown_ordered _ _ _ _ all c.reserve.new.self.small

pub returns-clause-ok : goal.returns-clause-ok
returns-clause-ok c =
    let x = c.self.invariant in
    let keys = keys_of c.self.inside.heap.items c.self.inside.places.items in
    let p : c.push_reserved.new.self.items ≡ c.self.inside.places.items ++ NOWHERE ∷ [] = c.push_reserved.ensures.items ∙ ap (λ (l : List ℕ). l ++ NOWHERE ∷ []) c.reserve-2.ensures.items in
    let all : IsOrdered (keys ++ None ∷ []) c.reserve.new.self.items c.push_reserved.new.self.items c.reserve.new.self.cap = rw (p, c.reserve.ensures.items) (record {
      index = grown _ _ _ x.index;
      order = x.order;
      slots = omega (arith, fits _ _ _ x.index, x.index.slots, c.in_ok-reserve.ensures.ok, c.reserve.ensures.len, c.len.ensures, c.len-2.ensures, c.self.inside.heap.ok.0, c.self.inside.places.ok.0, length-append keys (None ∷ []));
    }) in
    shown _ _ _ _ all c.reserve.new.self.small ∙ ap (λ (l : List (Option Key)). l ++ None ∷ []) c.self.view_is
