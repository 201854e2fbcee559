use Rattle.word.specs.Related.{kind_of}
use Rattle.one_thread.proofs.Histories.{opened_history}
use Rattle.one_thread.proofs.history.open_run.Goals as goal

pub returns-clause-after : goal.returns-clause-after
returns-clause-after g c = opened_history (kind_of (g.P.Interpreter.parts c.args.program.now)) (g.P.Interpreter.held c.args.program.now) c.args.limit c.in_ok-goroutines.goroutines c.in_ok-shared.shared c.in_ok-goroutines.ensures.open c.in_ok-shared.ensures
