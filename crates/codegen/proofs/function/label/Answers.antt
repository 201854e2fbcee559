use Rattle.std.proofs.Common.{◌≡◌, IfOk, string_bytes, subst, sym, ◌∙◌}
use Rattle.codegen.proofs.Labels.{label_text, label_none}
use Rattle.codegen.proofs.function.label.Goals as goal

pub returns-in-Ok : goal.returns-in-Ok
returns-in-Ok c = subst (λ x. IfOk c.from_str.result (λ t. string_bytes t ≡ x)) (c.in-Ok.ensures.cases.0 ∙ sym (label_text c.args.name.now c.in-Ok.ensures.cases.1)) c.from_str.ensures.ok

pub returns-in-Err : goal.returns-in-Err
returns-in-Err c = c.new.ensures.bytes ∙ sym (label_none c.args.name.now c.in-Err.ensures.cases.0)
