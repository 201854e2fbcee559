use Rattle.std.proofs.Common.{◌≡◌, ◌<◌, ◌∙◌, ap, false, refl, subst, sym, rules}
use Rattle.word.specs.Kinds.{Clocked}
use Rattle.bytecode.specs.Machine.{Frames, code_next}
use Rattle.bytecode.specs.Rules.{IsVerified}
use Rattle.call_frame.specs.Steps.{AsksOrFails}
use Rattle.goroutine_vm.proofs.Turns.{sound_at, slid_state, surely_asks, ticked_state, never}
use Rattle.goroutine_vm.proofs.state.GoState.turn.Goals as goal

pub step-requires-clause-sound : goal.step-requires-clause-sound
step-requires-clause-sound c = sound_at c.args.code.now c.code-source.result.now c.args.limit c.args.self.now c.self.inside.frames c.code-source.ensures.code c.code-source.ensures.verified c.requires (ap (λ (s : Clocked Frames). s.state) (sym c.self.view_is))

pub unreachable-requires : goal.unreachable-requires
unreachable-requires c =
    let st = ap (λ (s : Clocked Frames). s.state) (sym c.self.view_is) in
    never c.args.code.now c.code-source.result.now c.args.limit c.args.self.now c.self.inside.frames c.step.new.self c.code-source.ensures.code st _ (sound_at c.args.code.now c.code-source.result.now c.args.limit c.args.self.now c.self.inside.frames c.code-source.ensures.code c.code-source.ensures.verified c.requires st) (rw c.in-Stuck.is at c.in_ok-step.ensures.ok)

pub returns-in-Slid-clause-state : goal.returns-in-Slid-clause-state
returns-in-Slid-clause-state c =
    let st = ap (λ (s : Clocked Frames). s.state) (sym c.self.view_is) in
    slid_state c.args.code.now c.code-source.result.now c.args.limit c.args.self.now c.self.inside.frames c.step.new.self c.code-source.ensures.code st _ c.self.inside.doomed c.self.inside.clock c.code-source.ensures.verified c.requires (ap (λ (s : Clocked Frames). s.clock) c.self.view_is) (rw c.in-Slid.is at c.in_ok-step.ensures.ok)

pub returns-else-not-may-clause-state : goal.returns-else-not-may-clause-state
returns-else-not-may-clause-state c =
    let st = ap (λ (s : Clocked Frames). s.state) (sym c.self.view_is) in
    let k : c.self.inside.clock ≡ c.args.self.now.clock = ap (λ (s : Clocked Frames). s.clock) c.self.view_is in
    let below : c.args.self.now.clock < c.args.limit = search rules in
    ticked_state c.args.code.now c.code-source.result.now c.args.limit c.args.self.now c.self.inside.frames c.step.new.self c.code-source.ensures.code st _ c.self.inside.doomed c.at-self-inside.result c.code-source.ensures.verified c.requires (search rules) below (search rules) (rw c.in-Ticked.is at c.in_ok-step.ensures.ok)

pub returns-then-is_at_request-clause-turn : goal.returns-then-is_at_request-clause-turn
returns-then-is_at_request-clause-turn c =
    let code = c.args.code.now in
    let s = c.args.self.now in
    let st = ap (λ (x : Clocked Frames). x.state) (sym c.self.view_is) in
    let calm : s.doomed ≡ false = ap (λ (x : Clocked Frames). x.doomed) (sym c.self.view_is) ∙ c.if-self.false in
    let sound = sound_at code code c.args.limit s s.state refl (subst IsVerified c.code-source.ensures.code c.code-source.ensures.verified) c.requires refl in
    let asks : AsksOrFails (code_next code s.state) = subst (λ x. AsksOrFails (code_next x s.state)) c.code-source.ensures.code (subst (λ f. AsksOrFails (code_next c.code-source.result.now f)) (sym st) (c.if-is_at_request.ensures refl)) in
    (refl, surely_asks code c.args.limit s calm sound asks)
