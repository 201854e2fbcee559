-- Texts in memory.
use Rattle.std.specs.Prelude.{ℕ, List, map}
use Rattle.std.specs.Global.{Vec}

abbrev pub bytes_of : List (Vec ℕ) → List (List ℕ)
bytes_of all = map (λ (v : Vec ℕ). v.items) all
