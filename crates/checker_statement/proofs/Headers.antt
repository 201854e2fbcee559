-- What is wrong with the parts of a header.
use Rattle.std.proofs.Common.{◌≡◌, ℕ, ◌+◌, inl, inr, Option}
use Rattle.syntax.specs.Tree.{Expression, Simple}
use Rattle.syntax.specs.Measures.{if_any, expression_size, simple_size}
use Rattle.typing_rules.specs.declared.violation.Violation.{Violation}
use Rattle.type_table.specs.Scopes.{Globals, Scope}
use Rattle.typing_rules.specs.Statements.{IfSimpleHas, IfTestHas, after_any, ForClausesHave}

-- if nothing is wrong with the three parts, nothing is with all of them
pub clauses_free : (g : Globals) (s inner : Scope) (first middle following : ℕ) (simple : Option Simple) (condition : Option Expression) (post : Option Simple) (f : Violation)
    → inner ≡ after_any g s simple → middle ≡ first + if_any simple_size simple → following ≡ middle + if_any expression_size condition
    → (IfSimpleHas g s first simple f → ⊥) → (IfTestHas g inner middle condition f → ⊥) → (IfSimpleHas g inner following post f → ⊥)
    → ForClausesHave g s first simple condition post f → ⊥
clauses_free g s inner first middle following simple condition post f i m b one two three (inl h) = one h
clauses_free g s inner first middle following simple condition post f i m b one two three (inr (inl h)) = two (rw (i, m) h)
clauses_free g s inner first middle following simple condition post f i m b one two three (inr (inr h)) = three (rw (i, b, m) h)
