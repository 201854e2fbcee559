use Rattle.std.proofs.Common.{refl}
use Rattle.allowed.proofs.Computed.{computed}
use Rattle.allowed.proofs.small_programs_have_these_ends.Goals as goal

pub returns-clause-two_senders : goal.returns-clause-two_senders
returns-clause-two_senders c = computed _ 15 _ (refl, refl, refl)

pub returns-clause-default_or_sender : goal.returns-clause-default_or_sender
returns-clause-default_or_sender c = computed _ 12 _ (refl, refl, refl)

pub returns-clause-close_and_receive : goal.returns-clause-close_and_receive
returns-clause-close_and_receive c = computed _ 15 _ (refl, refl, refl)

pub returns-clause-close_and_send : goal.returns-clause-close_and_send
returns-clause-close_and_send c = computed _ 12 _ (refl, refl, refl)

pub returns-clause-two_closes : goal.returns-clause-two_closes
returns-clause-two_closes c = computed _ 6 _ (refl, refl, refl)

pub returns-clause-still_running : goal.returns-clause-still_running
returns-clause-still_running c = computed _ 8 _ (refl, refl, refl)

pub returns-clause-deadlock : goal.returns-clause-deadlock
returns-clause-deadlock c = computed _ 8 _ (refl, refl, refl)

pub returns-clause-first_in_first_out : goal.returns-clause-first_in_first_out
returns-clause-first_in_first_out c = computed _ 15 _ (refl, refl, refl)

pub returns-clause-polls : goal.returns-clause-polls
returns-clause-polls c = computed _ 12 _ (refl, refl, refl)

pub returns-clause-poll_and_select : goal.returns-clause-poll_and_select
returns-clause-poll_and_select c = computed _ 12 _ (refl, refl, refl)

pub returns-clause-lengths : goal.returns-clause-lengths
returns-clause-lengths c = computed _ 15 _ (refl, refl, refl)

pub returns-clause-nil_waits : goal.returns-clause-nil_waits
returns-clause-nil_waits c = computed _ 6 _ (refl, refl, refl)

pub returns-clause-exit : goal.returns-clause-exit
returns-clause-exit c = computed _ 6 _ (refl, refl, refl)

pub returns-clause-panic : goal.returns-clause-panic
returns-clause-panic c = computed _ 3 _ (refl, refl, refl)

pub returns-clause-close_of_nil : goal.returns-clause-close_of_nil
returns-clause-close_of_nil c = computed _ 3 _ (refl, refl, refl)

pub returns-clause-negative_size : goal.returns-clause-negative_size
returns-clause-negative_size c = computed _ 3 _ (refl, refl, refl)
