use Rattle.logical_clock.specs.declared.limits.TheConstants.{MAX_GOROUTINES}
use Rattle.std.proofs.Common.{◌≡◌, ℕ, ◌<◌, ap, arith, length, sym, subst, ◌∙◌}
use Rattle.std.proofs.lemmas.List.{length-replicate}
use Rattle.clock_table.specs.declared.view.Row.{Row}
use Rattle.clock_table.specs.declared.view.Row.TheVariants.{Home}
use Rattle.clock_table.specs.Clocks.{desk_view, looks_of, rows_of}
use Rattle.clock_table.proofs.Moves.{opens}
use Rattle.clock_table.proofs.table.ClockTable.new.Goals as goal

pub of_words-requires : goal.of_words-requires
of_words-requires c = opens MAX_GOROUTINES c.as_slice.result.now (c.as_slice.ensures.value ∙ c.in_ok-zeros.ensures.items_if_clones_equal (λ y e. e))

pub invariant_of-result : goal.invariant_of-result
invariant_of-result c =
    let sized : length c.as_slice.result.now ≡ MAX_GOROUTINES = ap length (c.as_slice.ensures.value ∙ c.in_ok-zeros.ensures.items_if_clones_equal (λ y e. e)) ∙ length-replicate {A = ℕ} MAX_GOROUTINES 0 in
    record { some = subst (λ (n : ℕ). 0 < n) (sym (ap (λ t. t.shared.table_id.words) c.in_ok-words.ensures.ok ∙ c.in_ok-table.ensures.0 ∙ sized)) (omega arith) }

pub invariant_of-result-2 : goal.invariant_of-result-2
invariant_of-result-2 c =
    let sized : length c.as_slice.result.now ≡ MAX_GOROUTINES = ap length (c.as_slice.ensures.value ∙ c.in_ok-zeros.ensures.items_if_clones_equal (λ y e. e)) ∙ length-replicate {A = ℕ} MAX_GOROUTINES 0 in
    let me = c.in_ok-table.ensures.4 in
    record {
      is_desk = me ∙ sym (ap (λ m. desk_view (rows_of m.0) (looks_of m.0)) me);
      whole = ap (λ m. length (rows_of m.0)) me ∙ length-replicate {A = Row} MAX_GOROUTINES (Home 0) ∙ sym (ap (λ t. t.words) c.in_ok-table.ensures.2 ∙ c.in_ok-table.ensures.0 ∙ sized);
    }

pub returns-clause-rows : goal.returns-clause-rows
returns-clause-rows c = ap (λ m. rows_of m.0) c.in_ok-table.ensures.4
