use Rattle.std.proofs.lemmas.Result.{IfOk-weaker}
use Rattle.syntax.specs.View.{place_of}
use Rattle.type_table.specs.Visible.{globals_in, scope_of}
use Rattle.typing_rules.specs.Operations.{selected}
use Rattle.codegen_simple.proofs.place.spot_at.Goals as goal

pub returns-clause-spot : goal.returns-clause-spot
returns-clause-spot c =
    let scope = scope_of c.args.context.now.table.now c.args.visible.now in
    IfOk-weaker c.spot_of.result _ _ (λ spot every. every scope) (c.spot_of.ensures.spot (selected (globals_in c.args.context.now.table.now) scope (place_of c.args.place.now)) c.selected.ensures)
