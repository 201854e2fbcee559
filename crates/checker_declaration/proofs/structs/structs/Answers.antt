use Rattle.std.proofs.Common.{◌≡◌, [], ◌∷◌, ◌+◌, suc, inl, length, map, drop, drop-cons, refl, sym, ◌∙◌, arith}
use Rattle.std.proofs.lemmas.List.{append-nil, drop_all}
use Rattle.std.proofs.lemmas.List.Sums.{sum_by-cons}
use Rattle.std.proofs.lemmas.Result.{err_from_is_err_and}
use Rattle.syntax.specs.Measures.{top_size}
use Rattle.syntax.specs.View.{top_of}
use Rattle.type_table.specs.Views.{names_of, structs_of}
use Rattle.typing_rules.specs.Kinds.{struct_in, structs_with, type_name, type_names}
use Rattle.typing_rules.specs.declared.violation.Violation.{Violation}
use Rattle.typing_rules.specs.Declarations.{TopStructHas, StructsHave}
use Rattle.checker_declaration.proofs.Declared.{refuses_more}
use Rattle.checker_declaration.proofs.Tops.{one_more, struct_found, struct_passed}
use Rattle.checker_declaration.proofs.structs.structs.Goals as goal

pub loop-top-preserved : goal.loop-top-preserved
loop-top-preserved c =
    let types = c.args.types.now in
    let top = top_of c.top-item.result in
    let left = drop (suc c.loop-top.top-index) c.args.tops.now in
    let rest = map top_of left in
    let before = c.loop-top.all.items in
    let now = c.top_struct.new.structs.items in
    let here = c.in_ok-end.ensures in
    let more : c.loop-top.top-index + 1 ≡ suc c.loop-top.top-index = omega arith in
    let cut : drop c.loop-top.top-index c.args.tops.now ≡ c.top-item.result ∷ left = rw c.top-item.is (drop-cons c.args.tops.now c.loop-top.top-index _ c.loop-top-test.true) in
    let has = StructsHave types 0 0 (map top_of c.args.tops.now) in
    record {
      end = rw more (omega (arith, sum_by-cons top_size top rest, here.end, rw cut at c.loop-top.invariant.end));
      names = rw more (one_more (names_of now) (names_of before) (type_name top) (type_names rest) _ here.names (rw cut at c.loop-top.invariant.names));
      fields = rw more (one_more (structs_of types now) (structs_of types before) (struct_in types top) (structs_with types rest) _ here.fields (rw cut at c.loop-top.invariant.fields));
      found = rw more (struct_found types has (length before) (length now) c.loop-top.end c.in_ok-end.end top rest here.count here.end (rw cut at c.loop-top.invariant.found));
      passed = rw more (struct_passed types has (length before) (length now) c.loop-top.end c.in_ok-end.end top rest here.count here.end (rw cut at c.loop-top.invariant.passed) here.none);
    }

pub loop-top-init : goal.loop-top-init
loop-top-init c =
    let none = c.new-all.ensures.items in
    record { end = omega arith; names = rw none refl; fields = rw none refl; found = rw none (λ violation has. has); passed = rw none (λ violation has. has) }

pub top_struct-requires : goal.top_struct-requires
top_struct-requires c =
    let left = drop (suc c.loop-top.top-index) c.args.tops.now in
    let cut : drop c.loop-top.top-index c.args.tops.now ≡ c.top-item.result ∷ left = rw c.top-item.is (drop-cons c.args.tops.now c.loop-top.top-index _ c.loop-top-test.true) in
    record { small = omega (arith, sum_by-cons top_size (top_of c.top-item.result) (map top_of left), rw cut at c.loop-top.invariant.end, c.requires.small) }

pub returns-in_err-end-clause-one : goal.returns-in_err-end-clause-one
returns-in_err-end-clause-one c =
    let types = c.args.types.now in
    let top = top_of c.top-item.result in
    let left = drop (suc c.loop-top.top-index) c.args.tops.now in
    let cut : drop c.loop-top.top-index c.args.tops.now ≡ c.top-item.result ∷ left = rw c.top-item.is (drop-cons c.args.tops.now c.loop-top.top-index _ c.loop-top-test.true) in
    let has = StructsHave types 0 0 (map top_of c.args.tops.now) in
    let found : (violation : Violation) → StructsHave types (length c.loop-top.all.items) c.loop-top.end (top ∷ map top_of left) violation → has violation = rw cut at c.loop-top.invariant.found in
    let p = err_from_is_err_and c.from_residual.result c.from_residual.ensures.1 in
    rw (p.1, p.2) (refuses_more (TopStructHas types (length c.loop-top.all.items) c.loop-top.end top) has c.in_err-end.field-0.0 (λ violation bad. found violation (inl bad)) c.in_err-end.ensures.one)

pub returns-clause-names : goal.returns-clause-names
returns-clause-names c =
    let none : drop c.loop-top.top-index c.args.tops.now ≡ [] = drop_all c.loop-top.top-index c.args.tops.now c.loop-top-test.false in
    sym (append-nil (names_of c.loop-top.all.items)) ∙ (rw none at c.loop-top.invariant.names)

pub returns-clause-fields : goal.returns-clause-fields
returns-clause-fields c =
    let none : drop c.loop-top.top-index c.args.tops.now ≡ [] = drop_all c.loop-top.top-index c.args.tops.now c.loop-top-test.false in
    sym (append-nil (structs_of c.args.types.now c.loop-top.all.items)) ∙ (rw none at c.loop-top.invariant.fields)

pub returns-clause-none : goal.returns-clause-none
returns-clause-none c =
    let none : drop c.loop-top.top-index c.args.tops.now ≡ [] = drop_all c.loop-top.top-index c.args.tops.now c.loop-top-test.false in
    λ violation has. rw none at (c.loop-top.invariant.passed violation has)
