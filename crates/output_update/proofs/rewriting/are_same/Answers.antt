use Rattle.std.proofs.Common.{rules}
use Rattle.output_update.specs.Tokens.{spelt_in}
use Rattle.output_update.proofs.Same.{more_same}
use Rattle.output_update.proofs.rewriting.are_same.Goals as goal

pub tokens-preserved : goal.tokens-preserved
tokens-preserved c = λ same. c.tokens.invariant
    (more_same (spelt_in c.args.text.now) (spelt_in c.args.other.now) c.tokens.tokens.now c.tokens.wanted.now c.in-Some.token.now c.in-Some.more.now c.in-Some-split_first.want.now c.in-Some-split_first.others.now
    (search rules) (search rules) (c.is_same.ensures (search rules)) same)
