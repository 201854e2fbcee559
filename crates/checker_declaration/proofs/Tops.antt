-- What holds of the declarations that are left, one further.
use Rattle.std.proofs.Common.{◌≡◌, ℕ, ◌+◌, ◌++◌, ◌∷◌, inl, inr, List, append_assoc}
use Rattle.syntax.specs.Tree.{Top}
use Rattle.syntax.specs.Measures.{top_size}
use Rattle.typing_rules.specs.declared.violation.Violation.{Violation}
use Rattle.typing_rules.specs.Declarations.{HeadersHave, StructsHave, TopHeaderHas, TopStructHas, counting_function, counting_struct}

pub one_more : {A : Type 0} (now before one rest all : List A) → now ≡ before ++ one → before ++ (one ++ rest) ≡ all → now ++ rest ≡ all
one_more now before one rest all is whole = rw (is, append_assoc before one rest) whole

-- ---- struct types

pub struct_found : (types : List (List ℕ)) (P : Violation → Type 0) (number count first end : ℕ) (top : Top) (rest : List Top)
    → count ≡ counting_struct number top → end ≡ first + top_size top
    → ((violation : Violation) → StructsHave types number first (top ∷ rest) violation → P violation)
    → (violation : Violation) → StructsHave types count end rest violation → P violation
struct_found types P number count first end top rest counts ends found = λ violation has. found violation (inr (rw (counts, ends) at has))

pub struct_passed : (types : List (List ℕ)) (P : Violation → Type 0) (number count first end : ℕ) (top : Top) (rest : List Top)
    → count ≡ counting_struct number top → end ≡ first + top_size top
    → ((violation : Violation) → P violation → StructsHave types number first (top ∷ rest) violation) → ((violation : Violation) → TopStructHas types number first top violation → ⊥)
    → (violation : Violation) → P violation → StructsHave types count end rest violation
struct_passed types P number count first end top rest counts ends passed good = λ violation p. elim (passed violation p) [ inl bad ↦ absurd (good violation bad) | inr more ↦ rw (counts, ends) more ]

-- ---- functions

pub header_found : (types functions : List (List ℕ)) (P : Violation → Type 0) (number count first end : ℕ) (top : Top) (rest : List Top)
    → count ≡ counting_function number top → end ≡ first + top_size top
    → ((violation : Violation) → HeadersHave types functions number first (top ∷ rest) violation → P violation)
    → (violation : Violation) → HeadersHave types functions count end rest violation → P violation
header_found types functions P number count first end top rest counts ends found = λ violation has. found violation (inr (rw (counts, ends) at has))

pub header_passed : (types functions : List (List ℕ)) (P : Violation → Type 0) (number count first end : ℕ) (top : Top) (rest : List Top)
    → count ≡ counting_function number top → end ≡ first + top_size top
    → ((violation : Violation) → P violation → HeadersHave types functions number first (top ∷ rest) violation) → ((violation : Violation) → TopHeaderHas types functions number first top violation → ⊥)
    → (violation : Violation) → P violation → HeadersHave types functions count end rest violation
header_passed types functions P number count first end top rest counts ends passed good = λ violation p. elim (passed violation p) [ inl bad ↦ absurd (good violation bad) | inr more ↦ rw (counts, ends) more ]
