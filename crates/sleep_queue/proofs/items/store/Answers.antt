use Rattle.std.proofs.Common.{refl, ◌∙◌}
use Rattle.sleep_queue.proofs.items.store.Goals as goal

pub returns-in-Some-clause-others : goal.returns-in-Some-clause-others
returns-in-Some-clause-others c p ne = c.write.ensures.others p (ne _ refl) ∙ c.insert_reserved-place.ensures.updates.others p (ne _ refl)
