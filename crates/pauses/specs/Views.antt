-- A way as it is kept.
use Rattle.std.specs.Prelude.{ℕ, List, Option}
use Rattle.std.specs.Option.{option_map}
use Rattle.std.specs.Global.{Vec}

abbrev pub way_kept : Option (Vec ℕ) → Option (List ℕ)
way_kept way = option_map (λ v. v.items) way
