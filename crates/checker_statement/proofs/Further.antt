-- What holds of statements and clauses that are left, one further.
use Rattle.std.proofs.Common.{◌≡◌, ℕ, ◌+◌, ◌<◌, ◌≤◌, Bool, true, false, ◌&&◌, nat_le, ◌∙◌, inl, inr, List, Option, Result, Ok, Err, length, take, refl, sym, ap, arith}
use Rattle.std.proofs.lemmas.Bool.Decides.{nat_tests}
use Rattle.std.proofs.lemmas.List.{length-take, take-take}
use Rattle.std.proofs.Math.Seq.{take-length}
use Rattle.std.specs.Result.{IfOk}
use Rattle.syntax.specs.Tree.{Comm, Statement, Statements, Then, Clauses, Clause}
use Rattle.syntax.specs.Measures.{if_any, comm_size, statement_size, statements_size}
use Rattle.typing_rules.specs.declared.violation.Violation.{Violation}
use Rattle.checker_base.specs.declared.refusal.Refusal.{Refusal}
use Rattle.checker_base.specs.declared.refusal.Refusal.TheVariants.{Memory, Violated}
use Rattle.checker_base.specs.Views.{Refuses}
use Rattle.type_table.specs.declared.table.TypeTable.{TypeTable}
use Rattle.type_table.specs.declared.visible.Visible.{Visible}
use Rattle.type_table.specs.Scopes.{Scope, entered, left}
use Rattle.type_table.specs.Visible.{scope_of, Keeps, Leaves}
use Rattle.typing_rules.specs.Statements.{Setting, StatementHas, StatementsHave, ClauseHas, ClausesHave, after, after_clause}

few : {X : Type 0} (a b : List X) → take (length a) b ≡ a → length a ≤ length b
few a b e = omega (arith, length-take (length a) b, ap length e)

-- what is kept twice is kept
pub keeps_on : (a b c : Visible) → Keeps a b → Keeps b c → Keeps a c
keeps_on a b c one other =
    let same = sym (take-take (length a.entries.items) (length b.entries.items) c.entries.items (few a.entries.items b.entries.items one.0)) in
    (same ∙ ap (take (length a.entries.items)) other.0 ∙ one.0, other.1 ∙ one.1)

pub keeps_same : (a : Visible) → Keeps a a
keeps_same a = (take-length a.entries.items, refl)

-- what is left as it was is kept
pub keeps_left : (a b : Visible) → Leaves a b → Keeps a b
keeps_left a b same = (ap (take (length a.entries.items)) same.0 ∙ take-length a.entries.items, same.1)

pub always : {X Y : Type 0} (r : Result X Y) (P : Type 0) → P → IfOk r (λ _. P)
always (Ok x) P p = p
always (Err e) P p = tt

pub refuses_more : (P Q : Violation → Type 0) (e : Refusal) → ((violation : Violation) → P violation → Q violation) → Refuses P e → Refuses Q e
refuses_more P Q Memory more r = tt
refuses_more P Q (Violated violation) more r = more violation r

-- after a block, the variables from before it are visible, and what it took of the frame stays taken
pub block_left : (table : TypeTable) (old begun inner new : Visible) (count : ℕ) (scope : Scope)
    → count ≡ length old.entries.items → begun.entries.items ≡ old.entries.items → Keeps begun inner → scope_of table inner ≡ scope
    → new.entries.items ≡ take count inner.entries.items → new.outer ≡ old.outer → new.words ≡ inner.words
    → scope_of table new ≡ left (scope_of table old) scope
block_left table old begun inner new count scope counts same keeps is items outer words =
    let back : new.entries.items ≡ old.entries.items = items ∙ ap (λ (n : ℕ). take n inner.entries.items) (counts ∙ sym (ap length same)) ∙ keeps.0 ∙ same in
    rw (back, outer, words) (ap (λ (s : Scope). left (scope_of table old) s) is)

-- ---- one statement further

pub found_next : (setting : Setting) (P : Violation → Type 0) (before scope : Scope) (first end : ℕ) (one : Statement) (rest : Statements)
    → scope ≡ after setting.globals before one → end ≡ first + statement_size one
    → ((violation : Violation) → StatementsHave setting before first (Then one rest) violation → P violation)
    → (violation : Violation) → StatementsHave setting scope end rest violation → P violation
found_next setting P before scope first end one rest is ends found = λ violation has. found violation (inr (rw (is, ends) at has))

pub passed_next : (setting : Setting) (P : Violation → Type 0) (before scope : Scope) (first end : ℕ) (one : Statement) (rest : Statements)
    → scope ≡ after setting.globals before one → end ≡ first + statement_size one
    → ((violation : Violation) → P violation → StatementsHave setting before first (Then one rest) violation) → ((violation : Violation) → StatementHas setting before first one violation → ⊥)
    → (violation : Violation) → P violation → StatementsHave setting scope end rest violation
passed_next setting P before scope first end one rest is ends passed good = λ violation p. elim (passed violation p) [ inl bad ↦ absurd (good violation bad) | inr more ↦ rw (is, ends) more ]

-- ---- one clause further

pub found_clause : (setting : Setting) (P : Violation → Type 0) (before scope : Scope) (first end : ℕ) (comm : Option Comm) (body : Statements) (rest : Clauses)
    → scope ≡ left before (after_clause setting.globals (entered before) comm body) → end ≡ first + (if_any comm_size comm + statements_size body + 1)
    → ((violation : Violation) → ClausesHave setting before first (Clause comm body rest) violation → P violation)
    → (violation : Violation) → ClausesHave setting scope end rest violation → P violation
found_clause setting P before scope first end comm body rest is ends found =
    let same : end ≡ first + if_any comm_size comm + statements_size body + 1 = omega (arith, ends) in
    λ violation has. found violation (inr (inr (rw (is, same) at has)))

pub passed_clause : (setting : Setting) (P : Violation → Type 0) (before scope : Scope) (first end : ℕ) (comm : Option Comm) (body : Statements) (rest : Clauses)
    → scope ≡ left before (after_clause setting.globals (entered before) comm body) → end ≡ first + (if_any comm_size comm + statements_size body + 1)
    → ((violation : Violation) → P violation → ClausesHave setting before first (Clause comm body rest) violation) → ((violation : Violation) → ClauseHas setting (entered before) first comm body violation → ⊥)
    → (violation : Violation) → P violation → ClausesHave setting scope end rest violation
passed_clause setting P before scope first end comm body rest is ends passed good =
    let same : end ≡ first + if_any comm_size comm + statements_size body + 1 = omega (arith, ends) in
    λ violation p. elim (passed violation p) [ inl bad ↦ absurd (good violation (inl bad)) | inr more ↦ elim more [ inl bad ↦ absurd (good violation (inr bad)) | inr left ↦ rw (is, same) left ] ]

-- fewer than two
pub few_defaults : (n : ℕ) → n < 2 → nat_le 2 n ≡ true → ⊥
few_defaults n below many = grind (arith, nat_tests, below, many)

-- if two things hold, the third decides
pub both_hold : (one other rest all : Bool) → (one && other) ≡ true → (one && other && rest) ≡ all → rest ≡ all
both_hold true true rest all holds whole = whole
both_hold true false rest all holds whole = absurd cc
both_hold false other rest all holds whole = absurd cc
