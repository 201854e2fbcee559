use Rattle.std.proofs.Common.{rules}
use Rattle.expected_output.proofs.Saying.{after_front, no_front}
use Rattle.expected_output.proofs.said.after_words.Goals as goal

pub returns-in_default : goal.returns-in_default
returns-in_default c = no_front c.args.text.now c.args.words.now c.utf8.text c.in_default.ensures.cases

pub returns-then-eq_ignore_ascii_case : goal.returns-then-eq_ignore_ascii_case
returns-then-eq_ignore_ascii_case c =
    after_front c.args.text.now c.args.words.now c.in-Some.front.now c.get-then-eq_ignore_ascii_case.result c.utf8.text (search rules) (search rules) (search rules) (search rules)
    c.get-then-eq_ignore_ascii_case.ensures.cases
