-- What a program declares.
use Rattle.std.proofs.Common.{ℕ, suc, ◌<◌, Bool, true, false, cond, List, [], ◌∷◌, map, length, Option, Some, None, option_map, bytes_eq, sym, arith}
use Rattle.std.proofs.lemmas.List.{length-map}
use Rattle.std.specs.Option.{IfSome}
use Rattle.type_table.specs.Scopes.{Signature, function_number}
use Rattle.type_table.specs.Views.{signature_of}
use Rattle.type_table.specs.declared.entry.FunctionEntry.{FunctionEntry}

-- a number that is found is one of a function
below : (all : List Signature) (name : List ℕ) → IfSome (function_number all name) (λ n. n < length all)
below [] name = tt
below (f ∷ rest) name = go (bytes_eq f.name name) (function_number rest name) (below rest name)
  where
    go : (same : Bool) (found : Option ℕ) → IfSome found (λ n. n < length rest) → IfSome (cond same (Some 0) (option_map suc found)) (λ n. n < length (f ∷ rest))
    go true found h = omega arith
    go false None h = tt
    go false (Some n) h = omega (arith, h)

pub number_below : (types : List (List ℕ)) (all : List FunctionEntry) (name : List ℕ) → IfSome (function_number (map (signature_of types) all) name) (λ n. n < length all)
number_below types all name = rw (sym (length-map all (signature_of types))) (below (map (signature_of types) all) name)
