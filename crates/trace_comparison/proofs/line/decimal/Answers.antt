use Rattle.std.proofs.Common.{arith}
use Rattle.std.proofs.lemmas.Bool.{both_ways}
use Rattle.std.proofs.lemmas.Str.Pattern.{starts_char}
use Rattle.trace_comparison.proofs.Reading.{plus_is_none, number_parsed}
use Rattle.trace_comparison.proofs.line.decimal.Goals as goal

pub returns-then-starts_with : goal.returns-then-starts_with
returns-then-starts_with c =
    let starts = starts_char 43 c.args.text.now c.starts_with.result c.starts_with.ensures.cases (omega arith) (omega arith) in
    plus_is_none c.args.text.now (starts.0 c.if-starts_with.true)

pub returns-else-starts_with : goal.returns-else-starts_with
returns-else-starts_with c =
    let starts = starts_char 43 c.args.text.now c.starts_with.result c.starts_with.ensures.cases (omega arith) (omega arith) in
    number_parsed c.args.text.now c.parse.result c.ok.result c.ok.ensures.value c.parse.ensures.value.0
    (λ plus. both_ways c.starts_with.result c.if-starts_with.false (starts.1 plus))
