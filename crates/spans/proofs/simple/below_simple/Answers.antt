use Rattle.std.proofs.Common.{◌≡◌, length, map, arith}
use Rattle.std.proofs.lemmas.List.{length-map}
use Rattle.syntax.specs.View.{name_of}
use Rattle.spans.proofs.simple.below_simple.Goals as goal

pub returns-in_ok-arguments_spans-in-Call-clause-count : goal.returns-in_ok-arguments_spans-in-Call-clause-count
returns-in_ok-arguments_spans-in-Call-clause-count c = rw c.in-Call.is (omega (arith, c.in_ok-arguments_spans-in-Call.ensures.count))

pub returns-in_ok-arguments_spans-in-Call-clause-spans : goal.returns-in_ok-arguments_spans-in-Call-clause-spans
returns-in_ok-arguments_spans-in-Call-clause-spans c = rw c.in-Call.is c.in_ok-arguments_spans-in-Call.ensures.spans

pub returns-in_ok-expression_spans-in-Close-clause-count : goal.returns-in_ok-expression_spans-in-Close-clause-count
returns-in_ok-expression_spans-in-Close-clause-count c = rw c.in-Close.is (omega (arith, c.in_ok-expression_spans-in-Close.ensures.count))

pub returns-in_ok-expression_spans-in-Close-clause-spans : goal.returns-in_ok-expression_spans-in-Close-clause-spans
returns-in_ok-expression_spans-in-Close-clause-spans c = rw c.in-Close.is c.in_ok-expression_spans-in-Close.ensures.spans

pub returns-in-Print-clause-count : goal.returns-in-Print-clause-count
returns-in-Print-clause-count c = rw c.in-Print.is (rw c.as_slice.ensures.value at c.print_spans.ensures.count)

pub returns-in-Print-clause-spans : goal.returns-in-Print-clause-spans
returns-in-Print-clause-spans c = rw c.in-Print.is (rw c.as_slice.ensures.value at c.print_spans.ensures.spans)

pub returns-in_ok-expression_spans-in-Receive-clause-count : goal.returns-in_ok-expression_spans-in-Receive-clause-count
returns-in_ok-expression_spans-in-Receive-clause-count c = rw c.in-Receive.is (omega (arith, c.in_ok-expression_spans-in-Receive.ensures.count))

pub returns-in_ok-expression_spans-in-Receive-clause-spans : goal.returns-in_ok-expression_spans-in-Receive-clause-spans
returns-in_ok-expression_spans-in-Receive-clause-spans c = rw c.in-Receive.is c.in_ok-expression_spans-in-Receive.ensures.spans

pub returns-in-Send-clause-count : goal.returns-in-Send-clause-count
returns-in-Send-clause-count c = rw c.in-Send.is c.send_spans.ensures.count

pub returns-in-Send-clause-spans : goal.returns-in-Send-clause-spans
returns-in-Send-clause-spans c = rw c.in-Send.is c.send_spans.ensures.spans

pub returns-in-Assign-clause-count : goal.returns-in-Assign-clause-count
returns-in-Assign-clause-count c = rw c.in-Assign.is (rw c.as_slice-in-Assign.ensures.value at c.assignment_spans.ensures.count)

pub returns-in-Assign-clause-spans : goal.returns-in-Assign-clause-spans
returns-in-Assign-clause-spans c = rw c.in-Assign.is (rw c.as_slice-in-Assign.ensures.value at c.assignment_spans.ensures.spans)

pub returns-in_ok-right_spans-in-Define-clause-count : goal.returns-in_ok-right_spans-in-Define-clause-count
returns-in_ok-right_spans-in-Define-clause-count c =
    let names : c.len-count.result ≡ length (map name_of c.in-Define.names.items) = omega (arith, length-map c.in-Define.names.items name_of) in
    rw c.in-Define.is (omega (arith, c.in_ok-right_spans-in-Define.ensures.count))

pub returns-in_ok-right_spans-in-Define-clause-spans : goal.returns-in_ok-right_spans-in-Define-clause-spans
returns-in_ok-right_spans-in-Define-clause-spans c =
    let names : c.len-count.result ≡ length (map name_of c.in-Define.names.items) = omega (arith, length-map c.in-Define.names.items name_of) in
    rw c.in-Define.is (rw names at c.in_ok-right_spans-in-Define.ensures.spans)

pub returns-in-Update-clause-count : goal.returns-in-Update-clause-count
returns-in-Update-clause-count c = rw c.in-Update.is c.update_spans.ensures.count

pub returns-in-Update-clause-spans : goal.returns-in-Update-clause-spans
returns-in-Update-clause-spans c = rw c.in-Update.is c.update_spans.ensures.spans
