use Rattle.std.proofs.Common.{arith}
use Rattle.syntax.specs.View.{type_of}
use Rattle.type_table.specs.Visible.{types_of}
use Rattle.codegen_expression.proofs.Counting.{kind_depth}
use Rattle.codegen_expression.proofs.noting.note_type.Goals as goal

pub note_kind-requires : goal.note_kind-requires
note_kind-requires c =
    let d = kind_depth (types_of c.args.table.now) (type_of c.args.kind.now) c.global_type_in.result c.in-Some.kind c.in-Some.is (rw c.types.ensures at c.global_type_in.ensures) in
    record { room = omega (arith, d, c.requires.room) }

pub returns-in_ok-note_kind-in-Some-clause-count : goal.returns-in_ok-note_kind-in-Some-clause-count
returns-in_ok-note_kind-in-Some-clause-count c =
    let d = kind_depth (types_of c.args.table.now) (type_of c.args.kind.now) c.global_type_in.result c.in-Some.kind c.in-Some.is (rw c.types.ensures at c.global_type_in.ensures) in
    omega (arith, c.in_ok-note_kind-in-Some.ensures.count, d)
