use Rattle.std.proofs.Common.{◌∙◌, sym}
use Rattle.word.specs.Values.{End}
use Rattle.select_core.proofs.Readiness.{open_at}
use Rattle.select_core.proofs.choice.nth_ready.Goals as goal

pub returns-then-left-eq0-clause-there : goal.returns-then-left-eq0-clause-there
returns-then-left-eq0-clause-there c =
    open_at c.args.channels.now c.args.cases.now c.loop-i.i c.index-cases-i.result c.loop-i-test.true c.index-cases-i.is (λ o n k q. sym c.if-ready.true ∙ c.ready.ensures o n k q) End
