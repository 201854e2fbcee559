use Rattle.std.proofs.lemmas.List.{get_or_default}
use Rattle.codegen_flow.proofs.Settling.{continues_more}
use Rattle.codegen_flow.proofs.select.left_waiting.Goals as goal

pub loop-wait-preserved : goal.loop-wait-preserved
loop-wait-preserved c =
    let at = c.loop-wait.wait-index in
    let waits = c.args.waits.now in
    let there = c.loop-wait-test.true in
    continues_more at waits c.loop-wait.left.items c.keep_waiting.new.left.items _ there (get_or_default waits at _ _ there) c.loop-wait.invariant c.in_ok-keep_waiting.ensures
