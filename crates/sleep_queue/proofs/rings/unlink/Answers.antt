use Rattle.std.proofs.Common.{arith, sym, ◌∙◌}
use Rattle.std.proofs.lemmas.List.{get_or_read}
use Rattle.sleep_queue.proofs.Places.{alone_relinked, swapped, swapped_links}
use Rattle.sleep_queue.proofs.rings.unlink.Goals as goal

pub returns-then-after-x-clause-relinked : goal.returns-then-after-x-clause-relinked
returns-then-after-x-clause-relinked c =
    let after = get_or_read c.args.next.now.items _ _ (omega (arith, c.requires.inverse.size, c.requires.within)) c.index-after.ensures 0 in
    alone_relinked c.args.next.now.items c.args.prev.now.items c.args.x c.requires.inverse c.requires.within (sym after ∙ c.if-after-x.true)

pub returns-clause-inverse : goal.returns-clause-inverse
returns-clause-inverse c =
    let after = get_or_read c.args.next.now.items _ _ (omega (arith, c.requires.inverse.size, c.requires.within)) c.index-after.ensures 0 in
    let before = get_or_read c.args.prev.now.items _ _ c.requires.within c.index-before.ensures 0 in
    swapped c.args.next.now.items c.args.prev.now.items c.requires.inverse _ c.args.x _ c.args.x c.requires.within c.requires.within before (sym after)

pub returns-clause-relinked : goal.returns-clause-relinked
returns-clause-relinked c =
    let after = get_or_read c.args.next.now.items _ _ (omega (arith, c.requires.inverse.size, c.requires.within)) c.index-after.ensures 0 in
    let before = get_or_read c.args.prev.now.items _ _ c.requires.within c.index-before.ensures 0 in
    swapped_links c.args.next.now.items c.args.prev.now.items c.requires.inverse _ c.args.x _ c.args.x c.requires.within c.requires.within before (sym after)
