use Rattle.type_table.specs.Visible.{types_of}
use Rattle.syntax.proofs.Nodes.{integer_is, named_is, parenthesized_is, selection_is, unary_is, binary_is}
use Rattle.checker_base.proofs.operand.+worth.Goals as goal

pub returns-in-Named-clause-worth : goal.returns-in-Named-clause-worth
returns-in-Named-clause-worth t c = rw (named_is _ _ c.in-Named.is, ← c.as_slice.ensures.value) c.named_worth.ensures.worth

pub returns-in-Parenthesized-clause-worth : goal.returns-in-Parenthesized-clause-worth
returns-in-Parenthesized-clause-worth t c = rw (parenthesized_is _ _ c.in-Parenthesized.is, ← c.deref.ensures) c.worth.ensures.worth

pub returns-in-Selection-clause-worth : goal.returns-in-Selection-clause-worth
returns-in-Selection-clause-worth t c =
    rw (selection_is _ _ _ c.in-Selection.is, ← c.deref-in-Selection.ensures, ← c.worth-in-Selection.ensures.worth, ← c.as_slice-in-Selection.ensures.value) c.worth_selected.ensures.worth

pub returns-in-Unary-clause-worth : goal.returns-in-Unary-clause-worth
returns-in-Unary-clause-worth t c =
    rw (unary_is _ _ _ c.in-Unary.is, ← c.deref-in-Unary.ensures, ← c.worth-in-Unary.ensures.worth) (c.worth_before.ensures.worth (types_of c.args.table.now))

pub returns-in-Binary-clause-worth : goal.returns-in-Binary-clause-worth
returns-in-Binary-clause-worth t c =
    rw (binary_is _ _ _ _ c.in-Binary.is, ← c.deref-in-Binary.ensures, ← c.deref-in-Binary-2.ensures, ← c.worth-in-Binary.ensures.worth, ← c.worth-in-Binary-2.ensures.worth) c.worth_between.ensures.worth

pub returns-in-Integer-clause-worth : goal.returns-in-Integer-clause-worth
returns-in-Integer-clause-worth t c = rw (integer_is _ _ c.in-Integer.is) (c.worth_literal.ensures.worth (types_of c.args.table.now))
