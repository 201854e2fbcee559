use Rattle.std.proofs.Common.{refl, ap, ◌≡◌, ◌∷◌, ◌∙◌}
use Rattle.std.specs.Prelude.{drop}
use Rattle.bytecode.specs.Machine.{Frame, applied}
use Rattle.call_frame.proofs.Operands.{applied_at, put_over, stands_within}
use Rattle.call_frame.proofs.instrs.operate.Goals as goal

pub returns-in-None-clause-step : goal.returns-in-None-clause-step
returns-in-None-clause-step c =
    let made : applied c.args.op (drop c.args.at c.args.frame.now.stack) ≡ c.checked_apply.result =
    applied_at c.args.op c.frame.inside.stack.items c.args.frame.now.stack c.args.at c.len-last.result c.index.result.now c.index-2.result.now c.checked_apply.result (ap (λ (x : Frame). x.stack) c.frame.view_is)
    c.requires.at (c.len-last.ensures ∙ c.frame.inside.stack.ok.0) c.index.ensures c.index-2.ensures c.checked_apply.ensures in
    λ may code callers. rw (made, c.in-None.is) refl

pub returns-in-Some-Err-clause-step : goal.returns-in-Some-Err-clause-step
returns-in-Some-Err-clause-step c =
    let made : applied c.args.op (drop c.args.at c.args.frame.now.stack) ≡ c.checked_apply.result =
    applied_at c.args.op c.frame.inside.stack.items c.args.frame.now.stack c.args.at c.len-last.result c.index.result.now c.index-2.result.now c.checked_apply.result (ap (λ (x : Frame). x.stack) c.frame.view_is)
    c.requires.at (c.len-last.ensures ∙ c.frame.inside.stack.ok.0) c.index.ensures c.index-2.ensures c.checked_apply.ensures in
    λ may code callers. rw (made, c.in-Some-Err.is, c.in-Some-Err.field-0-is) refl

pub returns-in-Some-Ok-clause-step : goal.returns-in-Some-Ok-clause-step
returns-in-Some-Ok-clause-step c =
    let st = c.frame.inside.stack.items in
    let same = ap (λ (x : Frame). x.stack) c.frame.view_is in
    let made : applied c.args.op (drop c.args.at c.args.frame.now.stack) ≡ c.checked_apply.result =
    applied_at c.args.op st c.args.frame.now.stack c.args.at c.len-last.result c.index.result.now c.index-2.result.now c.checked_apply.result same c.requires.at (c.len-last.ensures ∙ c.frame.inside.stack.ok.0) c.index.ensures c.index-2.ensures c.checked_apply.ensures in
    let put = put_over c.frame.inside.function c.frame.inside.place c.frame.inside.locals.items st c.truncate.new.self.items c.args.frame.now c.args.at c.in-Some-Ok.word c.frame.view_is
    (stands_within c.args.op st c.args.frame.now.stack c.args.at _ same c.requires.at refl) c.truncate.ensures.items in
    λ may code callers. rw (made, c.in-Some-Ok.is, c.in-Some-Ok.field-0-is) (ap (λ (x : Frame). x ∷ callers) put)
