use Rattle.std.proofs.Common.{sym}
use Rattle.pauses.proofs.Headed.{short_file}
use Rattle.pauses.proofs.header.header_in_lines.Goals as goal

pub returns-in_default : goal.returns-in_default
returns-in_default c = sym (short_file (λ l. l.now) c.args.lines.now c.in_default.len_below)
