-- One step of a schedule.
use Rattle.std.proofs.Common.{ℕ, None, sym, subst, ◌∙◌, inl, inr, length-set, get_or-set_other}
use Rattle.std.specs.Prelude.{option_map, slice_index_or}
use Rattle.std.proofs.lemmas.Bool.{cases_eq}
use Rattle.bytecode.specs.Code.{Code}
use Rattle.turn_rule.specs.declared.Step.{Step}
use Rattle.awake_rows.specs.Slots.{FitsRow, stepped_row, stepped_rows}
use Rattle.world_core_base.specs.Cores.{CoreValue, FitsCore}

-- rows that fit still fit after a step
pub rows_fit : (code : Code) (limit : ℕ) (step : Step) (n : ℕ) (core : CoreValue) → FitsCore code limit core → FitsRow code limit (slice_index_or (stepped_rows code limit step n core.rows) n None) → FitsCore code limit (record core { rows = stepped_rows code limit step n core.rows })
rows_fit code limit step n core fits here = record {
  rows = λ k. elim (cases_eq k n) [
    | inl e ↦ subst (λ j. FitsRow code limit (slice_index_or (stepped_rows code limit step n core.rows) j None)) (sym e) here
    | inr ne ↦ subst (FitsRow code limit) (sym (get_or-set_other core.rows n k (option_map (stepped_row code limit step) (slice_index_or core.rows n None)) None ne)) (fits.rows k)
  ];
  beds = fits.beds;
  size = fits.size ∙ sym (length-set core.rows n (option_map (stepped_row code limit step) (slice_index_or core.rows n None)));
  live = fits.live;
  once = fits.once;
  count = fits.count;
}
