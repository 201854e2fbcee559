use Rattle.std.proofs.Common.{◌++◌, List, ap, refl, ◌∙◌}
use Rattle.std.specs.List.{filter}
use Rattle.std.proofs.lemmas.List.{append-nil}
use Rattle.std.proofs.lemmas.List.Elements.{filter-append}
use Rattle.word.specs.Views.{request_of}
use Rattle.channel_core.specs.Asleep.{Placed, is_not_of, placed, placed_all}
use Rattle.channel_core.proofs.Keys.{all_go}
use Rattle.channel_core.proofs.sleepers.place.Goals as goal

pub returns-in-Err-clause-same_rows : goal.returns-in-Err-clause-same_rows
returns-in-Err-clause-same_rows c =
    c.leave_all.ensures ∙ ap (filter (is_not_of c.args.key)) c.in_ok-enter_all.ensures.ok
    ∙ filter-append (is_not_of c.args.key) (placed c.args.queues.now) (placed_all c.args.key (request_of c.args.request.now))
    ∙ ap (λ (l : List Placed). filter (is_not_of c.args.key) (placed c.args.queues.now) ++ l) (all_go c.args.key c.args.key refl (request_of c.args.request.now))
    ∙ append-nil (filter (is_not_of c.args.key) (placed c.args.queues.now)) ∙ c.requires
