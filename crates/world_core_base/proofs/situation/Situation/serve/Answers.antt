use Rattle.std.proofs.Common.{◌≢◌, ◌+◌, ◌^◌, ap, arith, subst}
use Rattle.bytecode.specs.Code.{Code}
use Rattle.bytecode.specs.Rules.{IsVerified}
use Rattle.world_core_base.specs.Cores.{CoreValue}
use Rattle.world_core_base.proofs.Moving.{asked_receive, asked_send}
use Rattle.world_core_base.proofs.situation.Situation.serve.Goals as goal

pub send-requires-clause-asked : goal.send-requires-clause-asked
send-requires-clause-asked c =
    let core = c.args.self.now in
    let verified : IsVerified c.args.code.now = subst (λ (code : Code). IsVerified code) c.code-verified.ensures.code c.code-verified.ensures.verified in
    let same = ap (λ (x : CoreValue). x.events) c.self.view_is in
    let more : core.events + 1 ≢ 2 ^ 62 = λ e. omega (arith, e, same, c.if-self-eq-LAST.false) in
    asked_send c.args.code.now c.args.limit core c.args.actor.number c.args.actor.clock c.requires.fits c.requires.actor verified more c.in-Send.chan c.in-Send.word c.args.talk c.requires.talk c.in-Send.is

pub receive-requires-clause-asked : goal.receive-requires-clause-asked
receive-requires-clause-asked c =
    let core = c.args.self.now in
    let verified : IsVerified c.args.code.now = subst (λ (code : Code). IsVerified code) c.code-verified.ensures.code c.code-verified.ensures.verified in
    let same = ap (λ (x : CoreValue). x.events) c.self.view_is in
    let more : core.events + 1 ≢ 2 ^ 62 = λ e. omega (arith, e, same, c.if-self-eq-LAST.false) in
    asked_receive c.args.code.now c.args.limit core c.args.actor.number c.args.actor.clock c.requires.fits c.requires.actor verified more c.in-Receive.chan c.args.talk c.requires.talk c.in-Receive.is
