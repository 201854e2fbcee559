use Rattle.std.proofs.Common.{◌≡◌, ◌∙◌, false, true, sym}
use Rattle.world_core_base.specs.Talking.{FailsTalk, is_enough}
use Rattle.world_core_base.proofs.Moving.{fails_any, makes_more, talks_end, talks_fail}
use Rattle.world_core_base.proofs.core_model.Core.talk.Goals as goal

pub returns-in_err-came-clause-memory : goal.returns-in_err-came-clause-memory
returns-in_err-came-clause-memory c =
    let fails : FailsTalk c.args.code.now c.args.limit c.args.quantum c.args.self.now c.talk_once.new.self = talks_fail c.args.code.now c.args.limit c.args.quantum c.loop-made.made c.args.self.now c.loop-made.self c.talk_once.new.self c.loop-made.invariant.0 c.in_err-came.ensures.memory in
    fails_any (FailsTalk c.args.code.now c.args.limit c.args.quantum c.args.self.now c.talk_once.new.self) c.from_residual.result fails

pub returns-then-not-is_enough-clause-talks : goal.returns-then-not-is_enough-clause-talks
returns-then-not-is_enough-clause-talks c =
    let no : is_enough c.in_ok-came.came ≡ false = sym c.is_enough.ensures ∙ c.if-not-is_enough.true in
    talks_end c.args.code.now c.args.limit c.args.quantum c.loop-made.made c.args.moves c.in_ok-came.came c.args.self.now c.loop-made.self c.talk_once.new.self c.loop-made.invariant.0 c.in_ok-came.ensures.talks no

pub loop-made-preserved : goal.loop-made-preserved
loop-made-preserved c =
    let yes : is_enough c.in_ok-came.came ≡ true = sym c.is_enough.ensures ∙ c.if-not-is_enough.false in
    (makes_more c.args.code.now c.args.limit c.args.quantum c.loop-made.made c.in_ok-came.came c.args.self.now c.loop-made.self c.talk_once.new.self c.loop-made.invariant.0 c.in_ok-came.ensures.talks yes, c.talk_once.ensures.fits)
