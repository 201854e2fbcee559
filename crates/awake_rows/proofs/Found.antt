-- The least of some keys is one of them.
use Rattle.std.proofs.Common.{◌≡◌, Some, None, refl}
use Rattle.std.specs.Prelude.{slice_index_or}
use Rattle.logical_clock.specs.declared.key.Key.{Key}
use Rattle.logical_clock.specs.Order.{keys, least}
use Rattle.logical_clock.proofs.Keys.{IsNext, next_is}
use Rattle.awake_rows.specs.Slots.{Rows, free_clock, waiting_clock}

pub waiting_found : (rows : Rows) (k : Key) → least (keys waiting_clock 0 rows) ≡ Some k → waiting_clock (slice_index_or rows k.number None) ≡ Some k.clock
waiting_found rows k e =
    let nx : IsNext waiting_clock None rows (Some k) = rw e at (next_is waiting_clock None refl rows) in
    nx.0

pub free_found : (rows : Rows) (k : Key) → least (keys free_clock 0 rows) ≡ Some k → free_clock (slice_index_or rows k.number None) ≡ Some k.clock
free_found rows k e =
    let nx : IsNext free_clock None rows (Some k) = rw e at (next_is free_clock None refl rows) in
    nx.0
