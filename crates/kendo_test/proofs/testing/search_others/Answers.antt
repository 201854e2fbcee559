use Rattle.std.proofs.Common.{rules}
use Rattle.kendo_test.proofs.Verdicts.{failed_is_right, found_fails}
use Rattle.kendo_test.proofs.testing.search_others.Goals as goal

pub returns-then-fails : goal.returns-then-fails
returns-then-fails g c =
    failed_is_right c.fails_elsewhere.result c.args.expectation c.args.options.leaks c.args.bytes.now c.args.options.limit c.fails_elsewhere.ensures
    (found_fails c.args.expectation c.args.options.leaks c.args.bytes.now c.args.options.limit c.in_ok-found.found c.in_ok-found.ensures (c.fails.ensures (search rules)))
