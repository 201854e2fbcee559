use Rattle.expected_output.specs.Saying.{said_end, said_output}
use Rattle.expected_output.proofs.Saying.{end_first, neither, output_first}
use Rattle.expected_output.proofs.said.Said.by.Goals as goal

pub returns-in-Some : goal.returns-in-Some
returns-in-Some c =
    end_first c.args.comment.now c.trim-comment.result.now c.in-Some.rest.now (said_output c.with_end_first.result.output) (said_end c.with_end_first.result.end) c.trim-comment.ensures.trim
    c.in-Some.ensures c.with_end_first.ensures.output c.with_end_first.ensures.end

pub returns-in-Some-by : goal.returns-in-Some-by
returns-in-Some-by c =
    output_first c.args.comment.now c.trim-comment.result.now _ _ _ _ c.trim-comment.ensures.trim c.in_default.ensures c.in-Some-by.ensures c.with_end.ensures

pub returns-in-None : goal.returns-in-None
returns-in-None c = neither c.args.comment.now c.trim-comment.result.now c.trim-comment.ensures.trim c.in_default.ensures c.in-None.ensures
