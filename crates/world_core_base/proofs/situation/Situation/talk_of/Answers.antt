use Rattle.std.proofs.Common.{◌∙◌, ap}
use Rattle.turn_rule.specs.declared.Row.{Row}
use Rattle.awake_rows.specs.Slots.{State}
use Rattle.world_core_base.proofs.Moving.{is_parked, row_found, row_parked, talk_is, turn_parked}
use Rattle.world_core_base.proofs.situation.Situation.talk_of.Goals as goal

pub unreachable-requires : goal.unreachable-requires
unreachable-requires c =
    let t = c.requires.turn in
    let p = is_parked c.args.code.now c.args.limit c.args.self.now c.args.number t.key.clock c.requires.fits (turn_parked c.args.self.now c.args.number t) in
    row_found c.args.code.now c.args.limit c.args.self.now _ c.args.number t.key.clock p c.self.view_is c.in_default.ensures.none

pub state-requires : goal.state-requires
state-requires c =
    let t = c.requires.turn in
    let p = is_parked c.args.code.now c.args.limit c.args.self.now c.args.number t.key.clock c.requires.fits (turn_parked c.args.self.now c.args.number t) in
    let row = row_parked c.args.code.now c.args.limit c.args.self.now _ c.args.number t.key.clock p c.in-Some.slot.now c.self.view_is c.in-Some.ensures.some in
    ap (λ (x : Row State). x.lease) row ∙ p.fits.unlent p.parked

pub returns : goal.returns
returns c =
    let t = c.requires.turn in
    let p = is_parked c.args.code.now c.args.limit c.args.self.now c.args.number t.key.clock c.requires.fits (turn_parked c.args.self.now c.args.number t) in
    let row = row_parked c.args.code.now c.args.limit c.args.self.now _ c.args.number t.key.clock p c.in-Some.slot.now c.self.view_is c.in-Some.ensures.some in
    talk_is c.args.code.now c.args.limit c.args.self.now c.args.number t.key.clock c.find_talk.result c.state.result.now p (c.state.ensures ∙ ap (λ (x : Row State). x.state) row) c.find_talk.ensures
