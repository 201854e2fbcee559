use Rattle.std.proofs.Common.{subst}
use Rattle.syntax.specs.Spans.{tree_of}
use Rattle.syntax.specs.Tree.{File}
use Rattle.typing_rules.specs.declared.violation.Violation.{Violation}
use Rattle.typing_rules.specs.Files.{FileHas}
use Rattle.checker.specs.Firsts.{ComesFirst}
use Rattle.checker.proofs.Bodies.{typed_of_none}
use Rattle.checker.proofs.Nodes.{file_within}
use Rattle.checker.proofs.tree.check.Goals as goal

pub new-requires : goal.new-requires
new-requires c = record { typed = typed_of_none (tree_of c.args.tree) (subst (λ (file : File). (violation : Violation) → FileHas file violation → ⊥) c.file.ensures.file c.in-Ok.ensures.none) }

pub fault_of-requires-clause-node : goal.fault_of-requires-clause-node
fault_of-requires-clause-node c =
    let has = rw c.in-Err-Violated.field-0-is at c.in-Err-Violated.ensures.one in
    file_within (tree_of c.args.tree) c.in-Err-Violated.violation (subst (λ (file : File). FileHas file c.in-Err-Violated.violation) c.file.ensures.file has)

pub fault_of-requires-clause-first : goal.fault_of-requires-clause-first
fault_of-requires-clause-first c =
    let first = rw c.in-Err-Violated.field-0-is at c.in-Err-Violated.ensures.first in
    subst (λ (file : File). ComesFirst file c.in-Err-Violated.violation) c.file.ensures.file first
