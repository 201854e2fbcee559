-- The exit status of a command on several files.
use Rattle.std.proofs.Common.{◌≡◌, ℕ, ◌==◌, ◌+◌, cond, inl, Bool, true, false, List, [], ◌∷◌, ◌++◌, refl, sym, ap, subst, ◌∙◌, arith}
use Rattle.std.specs.List.{All, fold}
use Rattle.std.proofs.lemmas.List.{length-append}
use Rattle.std.proofs.lemmas.List.Elements.{All-append, All-cons, All-nil, All-tail}
use Rattle.std.proofs.lemmas.List.Sums.{fold-append}
use Rattle.kendo_shell.specs.Answers.{IsOfAll, IsOfOne, IsStatus, first_failed}

-- no file so far
pub of_none : (Reports : ℕ → Type 0) → IsOfAll Reports 0 0
of_none Reports = ([], refl, All-nil (IsOfOne Reports), refl)

-- one more file
pub of_more : (Reports : ℕ → Type 0) (count before next status : ℕ) → IsOfAll Reports count before → IsOfOne Reports next → status ≡ first_failed before next
    → IsOfAll Reports (count + 1) status
of_more Reports count before next status (statuses, many, each, is) one new =
    (statuses ++ (next ∷ []), length-append statuses (next ∷ []) ∙ ap (λ k. k + 1) many, All-append (IsOfOne Reports) statuses (next ∷ []) each (All-cons (IsOfOne Reports) next [] one (All-nil (IsOfOne Reports))), new ∙ ap (λ b. first_failed b next) is ∙ sym (fold-append first_failed 0 statuses (next ∷ [])))

either_status : (b : Bool) (first second : ℕ) → IsStatus first → IsStatus second → IsStatus (cond b second first)
either_status true first second a b = b
either_status false first second a b = a

all_statuses : (Reports : ℕ → Type 0) → ((status : ℕ) → IsOfOne Reports status → IsStatus status) → (statuses : List ℕ) (before : ℕ)
    → All (IsOfOne Reports) statuses → IsStatus before → IsStatus (fold first_failed before statuses)
all_statuses Reports reported [] before each is = is
all_statuses Reports reported (next ∷ rest) before each is =
    all_statuses Reports reported rest (first_failed before next) (All-tail (IsOfOne Reports) next rest each) (either_status (before == 0) before next is (reported next (each 0 0 (omega arith))))

-- the exit status of several files is one of the program, if that of each file is
pub of_all_status : (Reports : ℕ → Type 0) (count status : ℕ) → ((status : ℕ) → IsOfOne Reports status → IsStatus status) → IsOfAll Reports count status → IsStatus status
of_all_status Reports count status reported (statuses, many, each, is) =
    subst IsStatus (sym is) (all_statuses Reports reported statuses 0 each (inl (omega arith)))
