use Rattle.std.proofs.Common.{rules}
use Rattle.expected_output.specs.Saying.{Unordered, Ordered, Nothing}
use Rattle.expected_output.proofs.said.SaidOutput.by.Goals as goal

pub returns-in-Some : goal.returns-in-Some
returns-in-Some c = Unordered c.in-Some.text.now (search rules)

pub returns-in-Some-after_words : goal.returns-in-Some-after_words
returns-in-Some-after_words c = Ordered c.in-Some-after_words.text.now (search rules) (search rules)

pub returns-in-None : goal.returns-in-None
returns-in-None c = Nothing (search rules) (search rules)
