-- A goroutine that is taken to a send or a receive in its slot.
use Rattle.std.proofs.Common.{◌≡◌, ◌∙◌, ℕ, None, Option, Some, Result, Ok, Err, ap, refl}
use Rattle.std.specs.Prelude.{IfOk, slice_index_or, slice_set}
use Rattle.bytecode.specs.Code.{Code}
use Rattle.goroutine_vm_request.specs.declared.talks.Talk.{Talk}
use Rattle.turn_rule.specs.declared.Row.{Row}
use Rattle.awake_rows.specs.declared.goroutine.Goroutine.TheVariants.{Awake}
use Rattle.awake_rows.specs.Living.{Items, WorksAt, awake_of}
use Rattle.awake_rows.specs.Slots.{IsWorked, State, free_row, is_asking}

pub talks_at : {E : Type 0} (code : Code) (limit quantum : ℕ) (items : Items) (slot : ℕ) (old new : Row State) (r : Result Talk E) → slice_index_or items slot None ≡ Some (Awake old)
    → IfOk r (λ talk. (base : State) × (old ≡ free_row base) × IsWorked code limit quantum base (Some (is_asking talk)) new) → IfOk r (λ talk. WorksAt code limit quantum items slot (Some (is_asking talk)) (slice_set items slot (Some (Awake new))))
talks_at {E} code limit quantum items slot old new (Ok talk) here h = (h.0, new, ap awake_of here ∙ ap Some h.1, h.2, refl)
talks_at {E} code limit quantum items slot old new (Err e) here h = tt
