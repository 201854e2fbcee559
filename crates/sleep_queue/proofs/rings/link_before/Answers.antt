use Rattle.std.proofs.lemmas.List.{get_or_read}
use Rattle.sleep_queue.proofs.Places.{swapped, swapped_links}
use Rattle.sleep_queue.proofs.rings.link_before.Goals as goal

pub returns-clause-inverse : goal.returns-clause-inverse
returns-clause-inverse c =
    let before = get_or_read c.args.prev.now.items _ _ c.requires.after c.index-before.ensures 0 in
    swapped c.args.next.now.items c.args.prev.now.items c.requires.inverse _ c.args.x c.args.x c.args.after c.requires.after c.requires.within before c.requires.alone

pub returns-clause-relinked : goal.returns-clause-relinked
returns-clause-relinked c =
    let before = get_or_read c.args.prev.now.items _ _ c.requires.after c.index-before.ensures 0 in
    swapped_links c.args.next.now.items c.args.prev.now.items c.requires.inverse _ c.args.x c.args.x c.args.after c.requires.after c.requires.within before c.requires.alone
