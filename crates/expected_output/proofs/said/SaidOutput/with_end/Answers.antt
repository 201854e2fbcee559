use Rattle.expected_output.proofs.Saying.{last_says, not_last, other_last}
use Rattle.expected_output.proofs.said.SaidOutput.with_end.Goals as goal

pub returns-in-Some-after_words : goal.returns-in-Some-after_words
returns-in-Some-after_words c =
    last_says c.args.self.text.now c.in-Some.text.now c.in-Some.line.now c.in-Some-after_words.end.now c.trim.result.now c.args.self.is_unordered c.in-Some.ensures c.in-Some-after_words.ensures
    c.trim.ensures.trim

pub returns-in-None-after_words : goal.returns-in-None-after_words
returns-in-None-after_words c =
    not_last c.args.self.text.now c.args.self.is_unordered _ c.alone.result.end c.alone.ensures.output c.alone.ensures.end
    (other_last c.args.self.text.now c.in-Some.text.now c.in-Some.line.now c.in-Some.ensures c.in-None-after_words.ensures)

pub returns-in-None : goal.returns-in-None
returns-in-None c =
    not_last c.args.self.text.now c.args.self.is_unordered _ c.alone-in-None.result.end c.alone-in-None.ensures.output c.alone-in-None.ensures.end
    (λ before line last begins. c.in-None.ensures before line last)
