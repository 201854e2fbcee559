use Rattle.std.proofs.Common.{rules}
use Rattle.pauses.specs.Headers.{header_of}
use Rattle.pauses.specs.Plans.{pauses_of}
use Rattle.pauses.proofs.Headed.{headed_bytes_again}
use Rattle.pauses.proofs.plan.Plan.bytes_with.Goals as goal

pub returns-clause-again : goal.returns-clause-again
returns-clause-again c = λ ok. headed_bytes_again c.push_pauses.new.text.items (header_of c.args.header.now) (pauses_of c.args.self.now.pauses.items) (search rules) ok
