use Rattle.std.proofs.lemmas.Result.{IfOk-weaker}
use Rattle.goroutine_vm_base.proofs.single.instr.Goals as goal

pub returns-in-Return-clause-ok : goal.returns-in-Return-clause-ok
returns-in-Return-clause-ok c = IfOk-weaker c.leave.result _ _ (λ step h x cs is sound. rw c.in-Return.is (h c.args.may c.args.code.now x cs is)) c.leave.ensures.ok
