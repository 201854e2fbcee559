use Rattle.std.proofs.Common.{sym}
use Rattle.awake_rows.proofs.Kept.{numbered_length}
use Rattle.awake_rows.proofs.goroutines.Goroutines.count.Goals as goal

pub returns-clause-rows : goal.returns-clause-rows
returns-clause-rows c = rw (← c.self.view_is) (sym (numbered_length _ 0 c.self.inside.count))

pub returns-clause-beds : goal.returns-clause-beds
returns-clause-beds c = rw (← c.self.view_is) (sym (numbered_length _ 0 c.self.inside.count))
