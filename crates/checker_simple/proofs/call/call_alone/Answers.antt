use Rattle.std.proofs.Common.{map, arith}
use Rattle.syntax.specs.View.{expression_of}
use Rattle.checker_base.proofs.Literals.{size_of_values}
use Rattle.checker_simple.proofs.call.call_alone.Goals as goal

pub call-requires : goal.call-requires
call-requires c = record { small = rw c.as_slice.ensures.value (omega (arith, c.requires.small, size_of_values (map expression_of c.args.arguments.now.values.items))) }

pub overflow_add-result : goal.overflow_add-result
overflow_add-result c =
    let node = rw c.as_slice.ensures.value at c.in_ok-called.ensures.node in
    omega (arith, node, c.requires.small, size_of_values (map expression_of c.args.arguments.now.values.items))

pub returns-clause-end : goal.returns-clause-end
returns-clause-end c =
    let node = rw c.as_slice.ensures.value at c.in_ok-called.ensures.node in
    omega (arith, node, size_of_values (map expression_of c.args.arguments.now.values.items))
