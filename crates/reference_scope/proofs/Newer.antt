-- Lists that were taken off another from its end: the one taken first is the newest.
use Rattle.std.proofs.Common.{◌≡◌, ℕ, ◌+◌, ◌<◌, true, false, List, [], ◌∷◌, ◌++◌, map, reverse, length, take, get_or, bytes_eq, refl, sym, ap, ◌∙◌}
use Rattle.std.proofs.lemmas.List.{take_more}
use Rattle.meaning.specs.Values.{Value, written}
use Rattle.meaning.specs.Variables.{assign_in}
use Rattle.reference_scope.specs.Scopes.{binding_of, newest_first}
use Rattle.reference_scope.specs.declared.scope.Variable.{Variable}
use Rattle.reference_scope.proofs.Lasts.{shown_last}

-- the one taken last is before the rest
pub shown_before : {A B : Type 0} (f : A → B) (xs : List A) (x : A) (rest : List B) → map f (xs ++ x ∷ []) ++ rest ≡ map f xs ++ (f x ∷ rest)
shown_before f [] x rest = refl
shown_before f (first ∷ xs) x rest = ap (λ shown. f first ∷ shown) (shown_before f xs x rest)

-- the newest one of those up to an index
pub shown_take : {A B : Type 0} (f : A → B) (xs : List A) (i : ℕ) (d : A) → i < length xs → reverse (map f (take (i + 1) xs)) ≡ f (get_or xs i d) ∷ reverse (map f (take i xs))
shown_take f xs i d within = ap (λ part. reverse (map f part)) (take_more xs i d within) ∙ shown_last f (take i xs) (get_or xs i d)

-- the last of the rest becomes the first of the newer ones
pub taken : (types : List (List ℕ)) (newer older : List Variable) (v : Variable)
    → map (binding_of types) newer ++ newest_first types (older ++ v ∷ []) ≡ map (binding_of types) (newer ++ v ∷ []) ++ newest_first types older
taken types newer older v = rw (shown_last (binding_of types) older v) (sym (shown_before (binding_of types) newer v (newest_first types older)))

-- the last of the rest has the name, or it has not
pub found_last : (types : List (List ℕ)) (name : List ℕ) (from : ℕ) (words : Value) (newer older : List Variable) (v w : Variable) → bytes_eq v.name.now name ≡ true
    → binding_of types w ≡ record (binding_of types v) { value = written from words (binding_of types v).value }
    → map (binding_of types) newer ++ assign_in name from words (newest_first types (older ++ v ∷ [])) ≡ map (binding_of types) newer ++ newest_first types (older ++ w ∷ [])
found_last types name from words newer older v w same is = rw (shown_last (binding_of types) older v, shown_last (binding_of types) older w, same, is) refl

pub passed_last : (types : List (List ℕ)) (name : List ℕ) (from : ℕ) (words : Value) (newer older : List Variable) (v : Variable) → bytes_eq v.name.now name ≡ false
    → map (binding_of types) newer ++ assign_in name from words (newest_first types (older ++ v ∷ [])) ≡ map (binding_of types) (newer ++ v ∷ []) ++ assign_in name from words (newest_first types older)
passed_last types name from words newer older v other =
    rw (shown_last (binding_of types) older v, other) (sym (shown_before (binding_of types) newer v (assign_in name from words (newest_first types older))))
