use Rattle.std.proofs.Common.{rules}
use Rattle.codegen_simple.proofs.print.put_prints.Goals as goal

pub returns-in_ok-push-in-Print : goal.returns-in_ok-push-in-Print
returns-in_ok-push-in-Print c = λ elements.
    let made = c.in_ok-parts-in-Print.ensures elements in
    search (rules, made)
