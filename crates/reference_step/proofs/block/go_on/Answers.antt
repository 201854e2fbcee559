use Rattle.std.proofs.Common.{sym, ◌∙◌}
use Rattle.reference_scope.specs.Scopes.{blocks_of}
use Rattle.reference_step.proofs.Leaving.{continues_block, continues_here, continues_over}
use Rattle.reference_step.proofs.block.go_on.Goals as goal

pub loop-task-preserved : goal.loop-task-preserved
loop-task-preserved c = λ types.
    let all = c.loop-task.top.tasks.items in
    let rest = c.pop.new.self.items in
    let blocks = blocks_of types c.loop-task.top.scope in
    sym (continues_over types blocks all rest c.in-Some.task c.in-Some.ensures.items c.in_default-task.not-EndBlock c.in_default-task.not-Again c.in_default-task.not-EndSelect) ∙ c.loop-task.invariant types

pub loop-task-preserved-in-EndBlock : goal.loop-task-preserved-in-EndBlock
loop-task-preserved-in-EndBlock c = λ types.
    let all = c.loop-task.top.tasks.items in
    let rest = c.pop.new.self.items in
    let blocks = blocks_of types c.loop-task.top.scope in
    rw (c.leave.ensures types) (sym (continues_block types blocks all rest c.in-Some.task c.in-Some.ensures.items c.in-EndBlock.is) ∙ c.loop-task.invariant types)

pub returns-in-Again : goal.returns-in-Again
returns-in-Again c = λ types.
    let all = c.loop-task.top.tasks.items in
    let rest = c.pop.new.self.items in
    let blocks = blocks_of types c.loop-task.top.scope in
    c.in_ok-push-in-Again.ensures types ∙ sym (continues_here types blocks all rest c.in-Some.task c.in-Some.ensures.items c.in-Again.field-0 c.in-Again.is) ∙ c.loop-task.invariant types
