use Rattle.std.proofs.Common.{◌+◌, length, sym, refl, arith}
use Rattle.std.proofs.lemmas.List.{take_all}
use Rattle.type_table.proofs.scope.leave.Goals as goal

pub loop-visible-init : goal.loop-visible-init
loop-visible-init c =
    let items = c.args.visible.now.entries.items in
    ((length items + c.args.count, sym (take_all (length items + c.args.count) items (omega arith)), omega arith), refl)
