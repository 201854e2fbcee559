use Rattle.checker_declaration.proofs.earliest.earliest.Goals as goal

pub held_before-requires-clause-fields : goal.held_before-requires-clause-fields
held_before-requires-clause-fields c = rw (c.as_slice.ensures.value, ← c.requires.names) c.in_ok-all.ensures

pub wide_before-requires-clause-fields : goal.wide_before-requires-clause-fields
wide_before-requires-clause-fields c = rw (c.as_slice-2.ensures.value, ← c.requires.names) c.in_ok-all.ensures
