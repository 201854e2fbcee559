use Rattle.std.proofs.Common.{◌≡◌, drop}
use Rattle.syntax.specs.View.{body_of}
use Rattle.typing_rules.specs.Terminating.{some_breaks_out}
use Rattle.checker_statement.proofs.terminate.+breaks_out.Given as goal

abbrev pub invariant-some_breaks_out-loop-statement : goal.invariant-some_breaks_out-loop-statement
invariant-some_breaks_out-loop-statement l = some_breaks_out (body_of (drop l.statement-index l.body)) ≡ some_breaks_out (body_of l.body)
