-- The clauses of a select, one after the other.
use Rattle.std.proofs.Common.{◌≡◌, ℕ, zero, suc, ◌+◌, ◌<◌, ◌≤◌, List, [], ◌∷◌, ◌++◌, length, take, drop, Option, Some, None, refl, sym, ap, ◌∙◌, arith, get_or, add-one, append_assoc, slice_get, length-append}
use Rattle.std.proofs.Math.Seq.{drop-cons}
use Rattle.std.proofs.lemmas.List.{drop-drop, length-map}
use Rattle.bytecode.specs.declared.table.Clause.{Clause}
use Rattle.bytecode.specs.Code.{SelectTable, Code}
use Rattle.bytecode.specs.Effects.{clause_kinds, clauses_in}
use Rattle.bytecode.specs.Machine.{case_of, also, cases_of}
use Rattle.bytecode.specs.Rules.{IsVerified}
use Rattle.word.specs.declared.request.Case.{Case}
use Rattle.word.specs.declared.value.Word.{Word}

-- verified code has few clauses
pub few_clauses : (code : Code) (q : ℕ) → IsVerified code → length (clauses_in (slice_get code.selects q)) ≤ 64
few_clauses code q v = by (slice_get code.selects q) refl
  where
    by : (o : Option SelectTable) → slice_get code.selects q ≡ o → length (clauses_in o) ≤ 64
    by None e = omega arith
    by (Some t) e =
        let m = (v.selects q t e).most in
        grind (arith, length-append, length-map, m)

-- cases in front of others
abbrev pub prefixed : List Case → Option (List Case) → Option (List Case)
prefixed xs None = None
prefixed xs (Some ys) = Some (xs ++ ys)

prefixed_one : (xs : List Case) (y : Case) (o : Option (List Case)) → prefixed xs (also (Some y) o) ≡ prefixed (xs ++ y ∷ []) o
prefixed_one xs y None = refl
prefixed_one xs y (Some ys) = ap Some (sym (append_assoc xs (y ∷ []) ys))

drop_taken : (n : ℕ) (xs : List Word) → drop n xs ≡ drop (length (take n xs)) xs
drop_taken zero xs = refl
drop_taken (suc n) [] = refl
drop_taken (suc n) (x ∷ xs) = drop_taken n xs

-- the clause at an index, and those after it
at_clause : (code : Code) (clauses : List Clause) (ws : List Word) (i : ℕ) (d : Clause) → i < length clauses
    → cases_of code (drop i clauses) ws ≡ also (case_of (get_or clauses i d) (take (length (clause_kinds code (get_or clauses i d))) ws)) (cases_of code (drop (suc i) clauses) (drop (length (clause_kinds code (get_or clauses i d))) ws))
at_clause code clauses ws i d h = ap (λ xs. cases_of code xs ws) (drop-cons clauses i d h)

pub one_more : (code : Code) (made : List Case) (clauses : List Clause) (words some : List Word) (i index : ℕ) (d : Clause) (y : Case) (all : Option (List Case)) → i < length clauses
    → some ≡ take (length (clause_kinds code (get_or clauses i d))) (drop index words) → case_of (get_or clauses i d) some ≡ Some y
    → prefixed made (cases_of code (drop i clauses) (drop index words)) ≡ all → prefixed (made ++ y ∷ []) (cases_of code (drop (i + 1) clauses) (drop (index + length some) words)) ≡ all
one_more code made clauses words some i index d y all h e is inv =
    let n = length (clause_kinds code (get_or clauses i d)) in
    let rest = drop index words in
    let following : drop n rest ≡ drop (index + length some) words =
    drop_taken n rest ∙ ap (λ (xs : List Word). drop (length xs) rest) (sym e) ∙ drop-drop (length some) index words in
    let o = cases_of code (drop (i + 1) clauses) (drop (index + length some) words) in
    let step : cases_of code (drop i clauses) rest ≡ also (Some y) o =
    at_clause code clauses rest i d h
    ∙ ap (λ (ws : List Word). also (case_of (get_or clauses i d) ws) (cases_of code (drop (suc i) clauses) (drop n rest))) (sym e)
    ∙ ap (λ x. also x (cases_of code (drop (suc i) clauses) (drop n rest))) is
    ∙ ap (λ (ws : List Word). also (Some y) (cases_of code (drop (suc i) clauses) ws)) following
    ∙ ap (λ (m : ℕ). also (Some y) (cases_of code (drop m clauses) (drop (index + length some) words))) (sym (add-one i)) in
    sym (prefixed_one made y o) ∙ ap (prefixed made) (sym step) ∙ inv

also_none : (o : Option (List Case)) → also None o ≡ None
also_none None = refl
also_none (Some xs) = refl

pub no_more : (code : Code) (made : List Case) (clauses : List Clause) (words some : List Word) (i index : ℕ) (d : Clause) (all : Option (List Case)) → i < length clauses
    → some ≡ take (length (clause_kinds code (get_or clauses i d))) (drop index words) → case_of (get_or clauses i d) some ≡ None
    → prefixed made (cases_of code (drop i clauses) (drop index words)) ≡ all → all ≡ None
no_more code made clauses words some i index d all h e is inv =
    let n = length (clause_kinds code (get_or clauses i d)) in
    let rest = drop index words in
    let o = cases_of code (drop (suc i) clauses) (drop n rest) in
    let step : cases_of code (drop i clauses) rest ≡ None =
    at_clause code clauses rest i d h
    ∙ ap (λ (ws : List Word). also (case_of (get_or clauses i d) ws) o) (sym e)
    ∙ ap (λ x. also x o) is ∙ also_none o in
    sym inv ∙ ap (prefixed made) step
