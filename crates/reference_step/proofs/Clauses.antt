-- Clauses of a select by their numbers.
use Rattle.std.proofs.Common.{◌≡◌, ℕ, zero, suc, ◌-◌, ◌≤◌, List, Some, ap, arith}
use Rattle.syntax.specs.Tree.{Clauses, Clause, Comm, Statements}
use Rattle.type_table.specs.Scopes.{Globals}
use Rattle.word.specs.declared.value.Word.{Word}
use Rattle.meaning.specs.Source.{at_clause}
use Rattle.meaning.specs.Tasks.{Task}
use Rattle.meaning.specs.Variables.{Blocks}

-- a clause after the first one
pub later_clause : (globals : Globals) (blocks : Blocks) (rest : List Task) (comm : Comm) (body : Statements) (more : Clauses) (number : ℕ) (words : List Word) → 2 ≤ number
    → at_clause globals blocks rest (Clause (Some comm) body more) number words ≡ at_clause globals blocks rest more (number - 1) words
later_clause globals blocks rest comm body more zero words far = absurd (omega (arith, far))
later_clause globals blocks rest comm body more (suc zero) words far = absurd (omega (arith, far))
later_clause globals blocks rest comm body more (suc (suc k)) words far =
    ap (λ n. at_clause globals blocks rest more n words) (let same : suc k ≡ suc (suc k) - 1 = omega arith in same)
