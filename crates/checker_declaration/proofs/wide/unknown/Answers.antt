use Rattle.checker_declaration.proofs.KnownWidths.{one_unknown}
use Rattle.checker_declaration.proofs.wide.unknown.Goals as goal

pub loop-number-preserved : goal.loop-number-preserved
loop-number-preserved c = one_unknown c.loop-number.known.items _ c.in_ok-push.ensures.items c.loop-number.invariant
