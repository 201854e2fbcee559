-- What a lease leads to.
use Rattle.std.proofs.Common.{◌≡◌, ℕ, zero, suc, ◌+◌, ◌≤◌, ◌<◌, ◌^◌, [], Option, None, ap, ◌∙◌, refl, sym, subst, length, inl, inr, arith, length-set, get_or-set_same, get_or-set_other}
use Rattle.std.specs.Prelude.{slice_index_or, slice_set, unwrap_or}
use Rattle.bytecode.specs.Rules.{IsVerified}
use Rattle.bytecode.proofs.Unstuck.{begin_keeps}
use Rattle.std.proofs.lemmas.Option.{slice_get_within}
use Rattle.std.proofs.lemmas.Bool.{cases_eq, cases_lt, true≢false}
use Rattle.std.proofs.lemmas.List.{set_past}
use Rattle.turn_rule.specs.declared.Row.{Row}
use Rattle.bytecode.specs.Code.{Code}
use Rattle.bytecode.specs.Machine.{code_kind, main_of}
use Rattle.goroutine_vm.specs.Advance.{Goes, IsStateOf}
use Rattle.turn_rule.specs.Turns.{moved, Leads}
use Rattle.turn_rule.proofs.Stable.{moved_add}
use Rattle.word.specs.Worlds.{rules}
use Rattle.word.proofs.Laws.{laws}
use Rattle.world_core_base.specs.Cores.{CodeMachine, CoreValue, FitsCore, IsCoreOf, opened_core}
use Rattle.awake_rows.specs.Slots.{State, Rows, FitsAll, FitsBeds, FitsRow, IsRowOf, free_row}

pub leads_goes : (code : Code) (limit quantum : ℕ) (base s t : State) → Leads (rules (code_kind code) limit) base s → Goes code limit quantum s t → Leads (rules (code_kind code) limit) base t
leads_goes code limit quantum base s t h g =
    let r = rules (code_kind code) limit in
    (h.0 + g.0, moved_add r (laws (code_kind code) limit) h.0 g.0 base ∙ ap (moved r g.0) h.1 ∙ g.2)

-- rows that fit still fit if one is replaced by another that fits
pub fits_set : (code : Code) (limit : ℕ) (rows : Rows) (n : ℕ) (row : Option (Row State)) → FitsAll code limit rows → FitsRow code limit row → FitsAll code limit (slice_set rows n row)
fits_set code limit rows n row all fits k = elim (cases_eq k n) [
  | inl e ↦ elim (cases_lt n (length rows)) [
    | inl l ↦ subst (FitsRow code limit) (sym (ap (λ j. slice_index_or (slice_set rows n row) j None) e ∙ get_or-set_same rows n row None l)) fits
    | inr l ↦ subst (λ ys. FitsRow code limit (slice_index_or ys k None)) (sym (set_past rows n row l)) (all k)
  ]
  | inr ne ↦ subst (FitsRow code limit) (sym (get_or-set_other rows n k row None ne)) (all k)
]

-- one that may be lent
pub free_fits : (code : Code) (limit : ℕ) (s : State) → IsStateOf code limit s → IsRowOf code limit (free_row s)
free_fits code limit s h = record { state = h; present = tt; asks = λ e. absurd (true≢false (sym e)); unlent = λ e. refl }

-- so does a core
pub core_fits_set : (code : Code) (limit : ℕ) (core : CoreValue) (n : ℕ) (row : Option (Row State)) → FitsCore code limit core → FitsRow code limit row → FitsCore code limit (record core { rows = slice_set core.rows n row })
core_fits_set code limit core n row h fits = record { rows = fits_set code limit core.rows n row h.rows fits; beds = h.beds; size = h.size ∙ sym (length-set core.rows n row); live = h.live; once = h.once; count = h.count }

-- a row is set in the world as in its core
pub core_set : (m : CodeMachine) (core : CoreValue) (n : ℕ) (row : Option (Row State)) → IsCoreOf m core → IsCoreOf (record m { rows = slice_set m.rows n row }) (record core { rows = slice_set core.rows n row })
core_set m core n row h = record {
  rows = ap (λ (rows : Rows). slice_set rows n row) h.rows;
  beds = h.beds;
  channels = h.channels;
  asleep = h.asleep;
  live = h.live;
  made = length-set core.rows n row ∙ h.made;
  events = h.events;
  ending = h.ending;
}

-- ---- goroutine 1 alone

main_within : (code : Code) → IsVerified code → (code_kind code).main < length code.functions
main_within code v =
    let e : unwrap_or (main_of code.functions) 0 ≡ v.main.number = ap (λ o. unwrap_or o 0) v.main.first in
    subst (λ k. k < length code.functions) (sym e) (slice_get_within code.functions v.main.number v.main.function v.main.there)

opened_rows_fit : (code : Code) (limit : ℕ) → IsVerified code → limit ≤ 2 ^ 62 → FitsAll code limit (opened_core code).rows
opened_rows_fit code limit v le zero = tt
opened_rows_fit code limit v le (suc zero) = free_fits code limit _ (record { frame = begin_keeps code v (code_kind code).main [] (main_within code v); clock = omega arith; last = le })
opened_rows_fit code limit v le (suc (suc k)) = tt

opened_beds_fit : (code : Code) (limit : ℕ) → FitsBeds code limit (opened_core code).beds
opened_beds_fit code limit zero = tt
opened_beds_fit code limit (suc zero) = tt
opened_beds_fit code limit (suc (suc k)) = tt

pub opened_fits : (code : Code) (limit : ℕ) → IsVerified code → limit ≤ 2 ^ 62 → FitsCore code limit (opened_core code)
opened_fits code limit v le = record { rows = opened_rows_fit code limit v le; beds = opened_beds_fit code limit; size = refl; live = omega arith; once = tt; count = λ e. omega arith }
