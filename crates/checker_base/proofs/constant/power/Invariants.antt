use Rattle.std.proofs.Common.{◌≡◌, ◌^◌}
use Rattle.checker_base.proofs.constant.power.Given as goal

abbrev pub invariant-loop-number : goal.invariant-loop-number
invariant-loop-number l = l.power ≡ 2 ^ l.number
