use Rattle.std.proofs.Common.{rules, ◌≡◌, ◌∷◌, map, sym, subst}
use Rattle.std.proofs.lemmas.Result.{on_ok_weaker}
use Rattle.codegen_base.specs.Statements.{singles}
use Rattle.codegen_simple.specs.Spots.{Stored, spot_in}
use Rattle.codegen_simple.proofs.assignment.+store_spots.Goals as goal

pub returns : goal.returns
returns t c =
    let is : c.args.spots.now ≡ c.in-Some.spot.now ∷ c.in-Some.spots.now = search rules in
    λ first. on_ok_weaker c.store_spot.result (λ stored h. subst (λ l. Stored first (singles (map spot_in l)) c.store_spot.new.places c.store_spot.new.code.items) (sym is)
    (stored (c.in_ok-store_spots.ensures first h))) (c.store_spot.ensures first (map spot_in c.in-Some.spots.now))
