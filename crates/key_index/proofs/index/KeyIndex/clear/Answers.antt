use Rattle.std.proofs.Common.{◌≡◌, ◌∙◌, None, sym, arith}
use Rattle.std.specs.Prelude.{slice_index}
use Rattle.std.proofs.lemmas.List.{get_or_default}
use Rattle.key_index.specs.declared.heap.TheConstants.{NOWHERE}
use Rattle.key_index.proofs.Leasts.{free_key}
use Rattle.key_index.proofs.Slots.{kept}
use Rattle.key_index.proofs.index.KeyIndex.clear.Goals as goal

pub returns-else-index-clause-contents : goal.returns-else-index-clause-contents
returns-else-index-clause-contents g c =
    let x = c.self.invariant in
    let is : c.index.result.now ≡ NOWHERE = omega arith in
    let at : slice_index c.self.inside.places.items c.args.slot ≡ NOWHERE = sym (c.index.ensures ∙ get_or_default c.self.inside.places.items c.args.slot c.index.result.now 0 (omega arith)) ∙ is in
    rw (← c.self.view_is) (sym (kept _ c.args.slot None (free_key _ _ _ _ x c.self.inside.heap.small c.args.slot at)))
