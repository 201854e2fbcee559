use Rattle.event_window.proofs.Moving.{first_goes}
use Rattle.event_window.proofs.kept.Kept.take.Goals as goal

pub returns-then-self-skip-clause-moves : goal.returns-then-self-skip-clause-moves
returns-then-self-skip-clause-moves c = first_goes c.args.self.now.before c.args.skip c.args.self.now.events.items c.args.event c.if-self-skip.true c.requires.begins
