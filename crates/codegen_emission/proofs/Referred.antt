-- What follows an optional reference.
use Rattle.std.proofs.Common.{◌≡◌, Option, None, Some, option_map, Bor, ap}
use Rattle.std.specs.Option.{option_copied}

pub of_copied : {X Y : Type 0} (f : X → Y) (r : Option (Bor X)) (o : Option X) → option_copied r ≡ o → option_map (λ (s : Bor X). f s.now) r ≡ option_map f o
of_copied f None o e = ap (option_map f) e
of_copied f (Some b) o e = ap (option_map f) e
