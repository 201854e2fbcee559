use Rattle.std.proofs.Common.{rules, refl, take}
use Rattle.expected_output.proofs.Grouping.{first_is}
use Rattle.expected_output.proofs.comments.first_group.Goals as goal

pub returns-clause-group : goal.returns-clause-group
returns-clause-group c =
    first_is c.args.follows_token c.args.comments.now c.in-Some.more.now (take c.group_size-size.result c.in-Some.more.now) c.in-Some.first.now _ c.group_size-size.result _ _ _ c.most_lines.ensures c.group_size-size.ensures.value
    c.in_ok-append.ensures c.in_ok-append_all.ensures (search rules) refl (search rules)
