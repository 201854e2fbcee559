use Rattle.std.proofs.Common.{rules, refl, ◌∙◌, ap, map, string_bytes}
use Rattle.std.proofs.lemmas.List.{map-append}
use Rattle.expected_output.proofs.Grouping.{group_next, no_group}
use Rattle.expected_output.proofs.comments.groups_of.Goals as goal

pub loop-at-preserved : goal.loop-at-preserved
loop-at-preserved c = (
  search rules,
  group_next c.args.follows_token c.loop-at.follows c.args.comments.now _ c.loop-at.at c.in_ok-group.size _ _ (string_bytes c.in_ok-group.group) refl
      c.in_ok-group.ensures.group (ap (map string_bytes) c.in_ok-push.ensures.items ∙ map-append string_bytes _ _) c.loop-at.invariant.1,
)

pub returns : goal.returns
returns c = no_group c.args.follows_token c.loop-at.follows c.args.comments.now c.loop-at.at _ (search rules) c.loop-at.invariant.1
