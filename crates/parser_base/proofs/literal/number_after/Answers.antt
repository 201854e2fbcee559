use Rattle.std.proofs.Common.{◌^◌, ◌∙◌}
use Rattle.parser_base.proofs.Literals.{limited_digit}
use Rattle.parser_base.proofs.literal.number_after.Goals as goal

pub loop-digit-preserved : goal.loop-digit-preserved
loop-digit-preserved c =
    let made = rw c.from.ensures at c.min-value.ensures in
    limited_digit (2 ^ 100) c.args.base c.args.digits.now c.loop-digit.digit-index c.from-in-loop-digit.result c.loop-digit.value _ c.requires c.loop-digit-test.true
    (c.from-in-loop-digit.ensures ∙ c.digit_of-digit.ensures.digit) c.loop-digit.invariant made
