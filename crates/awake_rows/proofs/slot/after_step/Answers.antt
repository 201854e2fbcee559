use Rattle.std.proofs.Common.{◌∙◌, ap, sym}
use Rattle.awake_rows.proofs.Stepping.{one_step}
use Rattle.awake_rows.proofs.slot.after_step.Goals as goal
use Rattle.awake_rows.specs.Slots.{State}
use Rattle.bytecode.specs.Machine.{code_kind}
use Rattle.turn_rule.specs.Turns.{stepped}
use Rattle.word.specs.Worlds.{rules}

pub returns-clause-step : goal.returns-clause-step
returns-clause-step c =
    let ahead = c.in_ok-step_ahead.ensures in
    ap (λ (s : State). stepped (rules (code_kind c.args.code.now) c.args.limit) s) (sym c.in_ok-next.ensures)
    ∙ one_step c.args.code.now c.args.limit _ c.step_ahead.new.self c.in_ok-step_ahead.field-0 ahead.asks ahead.quantum ahead.steps

pub returns-clause-fits : goal.returns-clause-fits
returns-clause-fits c = c.step_ahead.ensures.state
