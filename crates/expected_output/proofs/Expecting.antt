-- What comments say, one after the other.
use Rattle.std.proofs.Common.{◌≡◌, ◌+◌, ◌<◌, ◌≤◌, ℕ, Bool, List, [], ◌∷◌, ◌++◌, length, map, take, get_or, Option, Some, None, refl, sym, ap, subst, ◌∙◌, arith, option_map}
use Rattle.std.proofs.lemmas.List.{get_or-map, length-map, take_all, take_more}
use Rattle.expected_output.specs.Expecting.{AreSaid, OneMore}
use Rattle.std.specs.Option.{option_or}
use Rattle.expected_output.specs.Saying.{Says}

pub said_next : {T : Type 0} (bytes : T → List ℕ) (comments : List T) (at : ℕ) (d : T) (said : List ℕ) (output its_output : Option (List ℕ × Bool)) (end its_end : Option (List ℕ)) (new_output : Option (List ℕ × Bool)) (new_end : Option (List ℕ))
    → at < length comments → AreSaid (take at (map bytes comments)) output end → said ≡ bytes (get_or comments at d) → Says said its_output its_end → new_output ≡ option_or its_output output
    → new_end ≡ option_or its_end end → AreSaid (take (at + 1) (map bytes comments)) new_output new_end
said_next bytes comments at d said output its_output end its_end new_output new_end within was said_is says output_is end_is =
    let texts : List (List ℕ) = map bytes comments in
    let text : List ℕ = bytes (get_or comments at d) in
    let next : take (at + 1) texts ≡ take at texts ++ text ∷ [] =
    take_more texts at text (omega (arith, within, length-map comments bytes)) ∙ ap (λ (t : List ℕ). take at texts ++ t ∷ []) (get_or-map bytes comments at d text within) in
    subst (λ e. AreSaid (take (at + 1) texts) new_output e) (sym end_is)
    (subst (λ o. AreSaid (take (at + 1) texts) o (option_or its_end end)) (sym output_is)
    (subst (λ (ts : List (List ℕ)). AreSaid ts (option_or its_output output) (option_or its_end end)) (sym next) (OneMore (take at texts) output end text its_output its_end was (subst (λ (l : List ℕ). Says l its_output its_end) said_is says))))

pub said_all : {T : Type 0} (bytes : T → List ℕ) (comments : List T) (at : ℕ) (output : Option (List ℕ × Bool)) (end : Option (List ℕ)) → length comments ≤ at → AreSaid (take at (map bytes comments)) output end
    → AreSaid (map bytes comments) output end
said_all bytes comments at output end all was =
    subst (λ (ts : List (List ℕ)). AreSaid ts output end) (take_all at (map bytes comments) (omega (arith, all, length-map comments bytes))) was

pub or_mapped : {A B : Type 0} (f : A → B) (last earlier : Option A) → option_map f (option_or last earlier) ≡ option_or (option_map f last) (option_map f earlier)
or_mapped f (Some x) earlier = refl
or_mapped f None earlier = refl
