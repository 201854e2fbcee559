use Rattle.std.proofs.Common.{◌≡◌, length, arith}
use Rattle.std.proofs.lemmas.Grind.{common_steps}
use Rattle.syntax.specs.Measures.{size}
use Rattle.syntax.specs.View.{file_of}
use Rattle.spans.proofs.Sizes.{spans_of_all_nodes}
use Rattle.spans.proofs.file.file_spans.Goals as goal

pub returns-clause-numbered : goal.returns-clause-numbered
returns-clause-numbered c =
    let spans = c.add_node.new.spans in
    let file = file_of c.args.file.now in
    let each : length spans.items ≡ size file = spans_of_all_nodes spans.items c.args.tokens.now file (grind (arith, common_steps)) in
    omega (arith, spans.ok.0)
