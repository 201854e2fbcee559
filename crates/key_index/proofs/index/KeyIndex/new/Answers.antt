use Rattle.std.proofs.Common.{◌≡◌, ◌∙◌, ℕ, replicate, ap, arith}
use Rattle.key_index.specs.declared.heap.TheConstants.{NOWHERE}
use Rattle.key_index.proofs.Leasts.{all_free}
use Rattle.key_index.proofs.index.KeyIndex.new.Goals as goal

pub returns : goal.returns
returns c =
    let all : c.loop-slot._slot ≡ c.args.slots = omega arith in
    all_free _ _ _ c.in_ok-heap.ensures.items (c.loop-slot.invariant.places ∙ ap (λ (n : ℕ). replicate n NOWHERE) all)
