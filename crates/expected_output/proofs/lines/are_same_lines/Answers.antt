use Rattle.std.proofs.Common.{sym, ◌∙◌}
use Rattle.std.proofs.lemmas.Slice.Eq.{bytes_eq-Decides}
use Rattle.expected_output.proofs.SameLines.{alike_lines, same_lines}
use Rattle.expected_output.proofs.lines.are_same_lines.Goals as goal

pub returns-clause-yes : goal.returns-clause-yes
returns-clause-yes c = λ yes. same_lines _ (λ a b is. (bytes_eq-Decides a.now b.now).0 is) _ _ (sym c.eq.ensures ∙ yes)

pub returns-clause-no : goal.returns-clause-no
returns-clause-no c = λ same. c.eq.ensures ∙ alike_lines _ (λ a b is. (bytes_eq-Decides a.now b.now).1 is) _ _ same
