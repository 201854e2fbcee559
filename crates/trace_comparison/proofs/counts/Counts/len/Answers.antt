use Rattle.std.proofs.Common.{sym, ◌∙◌}
use Rattle.std.specs.BTreeMap.{keys}
use Rattle.std.proofs.lemmas.Cmp.{nat_cmp_total}
use Rattle.std.proofs.lemmas.Map.Lookups.{exact_unsigned}
use Rattle.std.proofs.lemmas.Map.Views.{btree_map_contains_key_iff}
use Rattle.std.proofs.lemmas.List.{length-map}
use Rattle.trace_comparison.proofs.Counting.{some_from_count, count_from_some}
use Rattle.trace_comparison.proofs.counts.Counts.len.Goals as goal

pub returns : goal.returns
returns c = λ es counts.
    let map = c.args.self.now.counts in (
      keys map,
      c.len.ensures.ordered,
      (λ g. let iff = btree_map_contains_key_iff nat_cmp_total exact_unsigned map g in
          (λ there. count_from_some _ _ (counts g) (iff.1 there), λ has. iff.0 (some_from_count _ _ (counts g) has))),
      length-map map.entries _ ∙ sym c.len.ensures.len,
    )
