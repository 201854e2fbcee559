use Rattle.std.proofs.Common.{inl, inr, length, refl}
use Rattle.std.proofs.lemmas.Option.{slice_get_read}
use Rattle.checker_declaration.proofs.Within.{field_has}
use Rattle.checker_declaration.proofs.held.note_fields.Goals as goal

pub loop-part-preserved : goal.loop-part-preserved
loop-part-preserved c = λ types j t h.
    let item = slice_get_read c.args.fields.now (length c.args.fields.now) c.loop-part.part-index c.part-item.result refl c.loop-part-test.true c.part-item.is in
    elim (c.in_ok-note_kind.ensures types j t h) [
      | inl e ↦ c.loop-part.invariant types j t e
      | inr k ↦ inr (field_has types c.args.fields.now c.loop-part.part-index c.part-item.result t item k)
    ]
