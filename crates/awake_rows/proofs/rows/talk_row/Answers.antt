use Rattle.std.proofs.Common.{◌≡◌, ◌∙◌, None, Some, ap}
use Rattle.std.specs.Prelude.{slice_index_or}
use Rattle.std.proofs.lemmas.List.{get_or_default}
use Rattle.awake_rows.specs.declared.goroutine.Goroutine.TheVariants.{Awake}
use Rattle.awake_rows.proofs.Talking.{talks_at}
use Rattle.awake_rows.proofs.rows.talk_row.Goals as goal

pub returns-in-Some-Awake-clause-ok : goal.returns-in-Some-Awake-clause-ok
returns-in-Some-Awake-clause-ok c =
    let here : slice_index_or c.args.items.now c.args.slot None ≡ Some (Awake c.in-Some-Awake.row) =
    get_or_default c.args.items.now c.args.slot None c.index-items-slot.result c.if-slot-items.true ∙ c.in-Some-Awake.is ∙ ap Some c.in-Some-Awake.field-0-is in
    talks_at c.args.code.now c.args.limit c.args.quantum c.args.items.now c.args.slot c.in-Some-Awake.row c.talk.new.self c.talk.result here c.talk.ensures.ok
