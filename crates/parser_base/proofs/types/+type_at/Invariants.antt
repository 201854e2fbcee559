use Rattle.std.proofs.Common.{◌+◌, ◌*◌}
use Rattle.parser_base.proofs.types.+type_at.Given as goal

abbrev pub decreases-type_at : goal.decreases-type_at
decreases-type_at l = 4 * l.depth_left + 3

abbrev pub decreases-after_chan : goal.decreases-after_chan
decreases-after_chan l = 4 * l.depth_left + 2

abbrev pub decreases-channel_type : goal.decreases-channel_type
decreases-channel_type l = 4 * l.depth_left + 1

abbrev pub decreases-parenthesized_type : goal.decreases-parenthesized_type
decreases-parenthesized_type l = 4 * l.depth_left + 1

abbrev pub decreases-after_arrow : goal.decreases-after_arrow
decreases-after_arrow l = 4 * l.depth_left + 2
