use Rattle.std.proofs.Common.{◌≡◌, ◌+◌, sym, refl, arith, length}
use Rattle.syntax.specs.Tree.{Assign}
use Rattle.syntax.specs.Measures.{simple_size}
use Rattle.type_table.specs.Visible.{globals_in, scope_of}
use Rattle.typing_rules.specs.Operations.{given}
use Rattle.checker_simple.specs.Givens.{places_at, places_in, source_of}
use Rattle.checker_simple.proofs.Wholes.{assign-none, places-count}
use Rattle.checker_simple.proofs.assign.assign.Goals as goal

pub returns-clause-none : goal.returns-clause-none
returns-clause-none c = λ violation.
    let g = globals_in c.args.table.now in
    let s = scope_of c.args.table.now c.args.visible.now in
    let places = places_in c.args.targets in
    let right = source_of c.args.source in
    let refs = c.in_ok-all.all.items in
    let same : places_at refs ≡ places = c.in_ok-all.ensures in
    let these : places_at c.as_slice.result.now ≡ places = cc in
    let all : places ≡ places_at c.as_slice-2.result.now = cc in
    let l : c.len.result ≡ length refs = omega arith in
    let n : c.len.result ≡ length places = places-count refs places c.len.result same l in
    let m : c.in_ok-middle.middle ≡ c.args.first + length places = rw these at c.in_ok-middle.ensures.end in
    let e : c.args.first + simple_size (Assign places right) ≡ c.in_ok-given.given.end + 1 = omega (arith, c.in_ok-given.ensures.end) in
    assign-none g s c.args.first c.in_ok-middle.middle c.len.result (c.args.first + simple_size (Assign places right)) places (places_at c.as_slice.result.now) right violation these m n refl
    (c.in_ok-middle.ensures.none violation) (c.in_ok-given.ensures.none violation)
    (c.in_ok-assign_given.ensures.none (c.args.first + simple_size (Assign places right)) e places all (given g s c.len.result c.in_ok-middle.middle right) (sym c.in_ok-given.ensures.given) violation)
