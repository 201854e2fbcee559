use Rattle.std.proofs.Common.{◌≡◌, ◌++◌, drop, map}
use Rattle.syntax.specs.Tree.{expressions}
use Rattle.syntax.specs.View.{expression_of}
use Rattle.type_table.specs.Visible.{types_of, globals_in}
use Rattle.meaning.specs.Expressions.{fields, values}
use Rattle.meaning.specs.Worked.{go_on_from, ready}
use Rattle.reference_scope.specs.Scopes.{blocks_of}
use Rattle.reference_scope.specs.Parts.{values_of}
use Rattle.reference_value.specs.Stops.{all_given}
use Rattle.reference_value.proofs.value.+value.Given as goal

-- the words so far stand before those of the fields that are left
abbrev pub invariant-fields-loop-expression : goal.invariant-fields-loop-expression
invariant-fields-loop-expression l = record {
  words : fields (globals_in l.table) (blocks_of (types_of l.table) l.scope) (expressions (map expression_of l.values)) (all_given l.given)
      ≡ go_on_from (fields (globals_in l.table) (blocks_of (types_of l.table) l.scope) (expressions (map expression_of (drop l.expression-index l.values))) (all_given l.left)) (λ more. ready (l.words.items ++ more));
}

-- the values so far stand before those that are left
abbrev pub invariant-values-loop-expression : goal.invariant-values-loop-expression
invariant-values-loop-expression l = record {
  values : values (globals_in l.table) (blocks_of (types_of l.table) l.scope) (expressions (map expression_of l.all)) (all_given l.given)
      ≡ go_on_from (values (globals_in l.table) (blocks_of (types_of l.table) l.scope) (expressions (map expression_of (drop l.expression-index l.all))) (all_given l.left)) (λ more. ready (values_of l.made.items ++ more));
}
