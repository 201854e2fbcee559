use Rattle.std.proofs.Common.{◌≡◌, ◌≤◌, ◌+◌, ◌++◌, length}
use Rattle.std.specs.Prelude.{vec_capacity, vec_len}
use Rattle.word.specs.Requests.{partners, without_all}
use Rattle.channel_core.specs.Channels.{closed_for}
use Rattle.channel_core.proofs.sleepers.Sleepers.close.Given as goal

abbrev pub invariant-loop-first : goal.invariant-loop-first
invariant-loop-first l = record {
  woken : l.woken.items ++ closed_for l.zero (partners l.chan l.self) ≡ closed_for l.zero (partners l.chan l.fn.self);
  left : l.self ≡ without_all l.fn.self l.woken.items;
  room : vec_len l.woken + length (partners l.chan l.self) ≤ vec_capacity l.woken;
}

abbrev pub decreases-loop-first : goal.decreases-loop-first
decreases-loop-first l = length (partners l.chan l.self)
