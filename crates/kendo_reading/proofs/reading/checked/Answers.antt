use Rattle.checker.specs.Faults.{Tells}
use Rattle.go_text.specs.Source.{bytes_of}
use Rattle.typing_rules.specs.Files.{IsTyped}
use Rattle.syntax.specs.Spans.{tree_of}
use Rattle.kendo_reading.proofs.Refusals.{told_why, told_refusal}
use Rattle.kendo_reading.proofs.reading.checked.Goals as goal

pub returns-in-Err-clause-why : goal.returns-in-Err-clause-why
returns-in-Err-clause-why c = told_why (Tells c.args.tree) (bytes_of c.args.source.now) c.in-Err.fault _ c.located.ensures c.in-Err.ensures.fault

pub returns-in-Err-clause-refused : goal.returns-in-Err-clause-refused
returns-in-Err-clause-refused c = told_refusal (IsTyped (tree_of c.args.tree) → ⊥) (bytes_of c.args.source.now) c.in-Err.fault _ c.located.ensures c.in-Err.ensures.wrong
