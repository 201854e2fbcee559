use Rattle.std.proofs.Common.{[], map, get_or, ap}
use Rattle.std.proofs.lemmas.Result.{on_ok_weaker}
use Rattle.std.specs.Prelude.{nat_eq}
use Rattle.std.specs.List.{list_any}
use Rattle.codegen_base.specs.Statements.{last_counts, singles, stores, stores_all}
use Rattle.codegen_simple.specs.declared.spot.Spot.TheVariants as spots
use Rattle.codegen_simple.specs.Spots.{Stored, spot_in, stores_each}
use Rattle.codegen_expression.proofs.Emitting.{puts_none}
use Rattle.codegen_simple.proofs.Storing.{one_spot, more_spots, re_put}
use Rattle.codegen_simple.proofs.assignment.store_each.Goals as goal

pub returns-in-len1 : goal.returns-in-len1
returns-in-len1 c =
    let all = c.args.spots.now in
    on_ok_weaker c.store.result (λ put. re_put c.args.code.now.items c.store.new.code.items (stores (spot_in (get_or all 0 (spots.Dropped 0)))) (stores_each (map spot_in all)) (λ rest. one_spot all (spots.Dropped 0) rest c.in-len1.len_at_least c.in-len1.len_below) put) c.store.ensures

pub returns-in-len2-up : goal.returns-in-len2-up
returns-in-len2-up c =
    let all = map spot_in c.args.spots.now in
    let none : Stored c.args.code.now.items [] c.new-places.result c.args.code.now.items = (λ place. ap (λ keys. list_any (nat_eq place) keys) c.new-places.ensures.empty, puts_none c.args.code.now.items) in
    on_ok_weaker c.store_spots.result (λ stores. re_put c.args.code.now.items c.store_spots.new.code.items (stores_all (last_counts (singles all))) (stores_each all) (λ rest. more_spots c.args.spots.now rest c.in-len2-up.len_at_least) (stores none).1) (c.store_spots.ensures c.args.code.now.items)
