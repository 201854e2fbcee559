-- How many defaults a select has.
use Rattle.std.proofs.Common.{◌≡◌, ℕ, ◌+◌, ◌<◌, true, nat_le, List, map, ◌∷◌, length, get_or, drop, arith}
use Rattle.std.proofs.lemmas.Bool.{le-leb}
use Rattle.std.proofs.lemmas.List.{at_drop_more}
use Rattle.syntax.specs.Tree.{Clauses, Clause}
use Rattle.syntax.specs.View.{clause_of, clauses}
use Rattle.syntax.specs.declared.node.ClauseNode.{ClauseNode}
use Rattle.typing_rules.specs.Statements.{default_count}

-- if there are two defaults up to a clause, there are in all
pub two_defaults : (all : List ClauseNode) (i before now : ℕ) (one : ClauseNode)
    → i < length all → one ≡ get_or all i one
    → ((rest : Clauses) → now + default_count rest ≡ before + default_count (Clause (clause_of one).comm (clause_of one).body rest))
    → before + default_count (clauses (map clause_of (drop i all))) ≡ default_count (clauses (map clause_of all))
    → 1 < now → nat_le 2 (default_count (clauses (map clause_of all))) ≡ true
two_defaults all i before now one within is count left many =
    let next : default_count (clauses (map clause_of (drop i all))) ≡ default_count (clauses (map clause_of (get_or all i one ∷ drop (i + 1) all))) =
    at_drop_more (λ (those : List ClauseNode). default_count (clauses (map clause_of those))) all i one within in
    let counted = count (clauses (map clause_of (drop (i + 1) all))) in
    let same : default_count (clauses (map clause_of (drop i all))) ≡ default_count (Clause (clause_of one).comm (clause_of one).body (clauses (map clause_of (drop (i + 1) all)))) = rw (← is) at next in
    le-leb 2 _ (omega arith)
