use Rattle.std.proofs.Common.{length, ◌-◌, ◌≡◌, ◌≤◌, drop, None}
use Rattle.scanner.specs.Tokens.{following, tokens}
use Rattle.scanner.proofs.tokens.scan_bytes.Given as goal

abbrev pub invariant-loop-at : goal.invariant-loop-at
invariant-loop-at l = record {
  within : l.at ≤ length l.text;
  total : following l.out.items (tokens 0 l.at l.after (drop l.at l.text)) ≡ tokens 0 0 None l.fn.text;
}

abbrev pub decreases-loop-at : goal.decreases-loop-at
decreases-loop-at l = length l.text - l.at
