use Rattle.std.proofs.Common.{◌≡◌, ◌∙◌, None, sym}
use Rattle.std.specs.Prelude.{IsSome, slice_index_or}
use Rattle.awake_rows.specs.Living.{living_in}
use Rattle.awake_rows.proofs.Kept.{row_none}
use Rattle.awake_rows.proofs.Changed.{end_set, kept_end, some_not_none, some_there}
use Rattle.awake_rows.proofs.goroutines.Goroutines.end.Goals as goal

pub unreachable-requires : goal.unreachable-requires
unreachable-requires c =
    let g = c.self.inside in
    let awake : IsSome (slice_index_or c.args.self.now.rows c.args.number None) = some_there c.row.result (λ row. row.now) (slice_index_or c.args.self.now.rows c.args.number None) c.if-is_none.ensures c.row.ensures.some in
    let none : slice_index_or c.args.self.now.rows c.args.number None ≡ None = rw (← c.self.view_is) (row_none g.count g.slots g.items.items g.orders c.self.invariant c.args.number (sym c.free.ensures.slot ∙ c.in_default.is)) in
    some_not_none (slice_index_or c.args.self.now.rows c.args.number None) awake none

pub invariant_of-self : goal.invariant_of-self
invariant_of-self c =
    let g = c.self.inside in
    kept_end g.count g.slots g.items.items g.orders c.self.invariant c.args.number c.in-Some.slot (sym c.free.ensures.slot ∙ c.in-Some.is) c.as_mut_slice.result.now c.as_mut_slice.ensures.value
    g.items.len g.items.ok.0 c.take_at-ended.new.items c.take_at-ended.ensures.items c.free.new.self c.is_inverse.ensures c.free.ensures.frees c.deref.result.now c.note.new.orders c.deref.ensures.value c.note.ensures.same c.note.ensures.other c.note.ensures.floor

pub returns : goal.returns
returns c =
    let g = c.self.inside in
    let awake : IsSome (slice_index_or c.args.self.now.rows c.args.number None) = some_there c.row.result (λ row. row.now) (slice_index_or c.args.self.now.rows c.args.number None) c.if-is_none.ensures c.row.ensures.some in
    let row : IsSome (slice_index_or (living_in g.count g.slots g.items.items).rows c.args.number None) = rw (← c.self.view_is) at awake in
    rw (← c.self.view_is) (end_set g.count g.slots g.items.items g.orders c.self.invariant c.args.number c.in-Some.slot (sym c.free.ensures.slot ∙ c.in-Some.is) c.as_mut_slice.result.now c.as_mut_slice.ensures.value
    g.items.len g.items.ok.0 c.take_at-ended.new.items c.take_at-ended.ensures.items c.free.new.self c.is_inverse.ensures c.free.ensures.frees row)
