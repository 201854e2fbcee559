use Rattle.std.proofs.Common.{◌≡◌, [], ◌∷◌, ◌+◌, suc, inl, length, map, drop, drop-cons, refl, sym, ◌∙◌, arith}
use Rattle.std.proofs.lemmas.List.{append-nil, drop_all}
use Rattle.std.proofs.lemmas.List.Sums.{sum_by-cons}
use Rattle.std.proofs.lemmas.Result.{err_from_is_err_and}
use Rattle.syntax.specs.Measures.{top_size}
use Rattle.syntax.specs.View.{top_of}
use Rattle.type_table.specs.Views.{signature_of, function_names as names_in}
use Rattle.typing_rules.specs.Kinds.{function_name, function_names, signature_in, signatures}
use Rattle.typing_rules.specs.declared.violation.Violation.{Violation}
use Rattle.typing_rules.specs.Declarations.{TopHeaderHas, HeadersHave}
use Rattle.checker_declaration.proofs.Declared.{refuses_more}
use Rattle.checker_declaration.proofs.Tops.{header_found, header_passed, one_more}
use Rattle.checker_declaration.proofs.header.headers.Goals as goal

pub loop-top-preserved : goal.loop-top-preserved
loop-top-preserved c =
    let types = c.args.types.now in
    let functions = c.args.functions.now in
    let top = top_of c.top-item.result in
    let left = drop (suc c.loop-top.top-index) c.args.tops.now in
    let rest = map top_of left in
    let before = c.loop-top.all.items in
    let now = c.top_header.new.entries.items in
    let here = c.in_ok-end.ensures in
    let more : c.loop-top.top-index + 1 ≡ suc c.loop-top.top-index = omega arith in
    let cut : drop c.loop-top.top-index c.args.tops.now ≡ c.top-item.result ∷ left = rw c.top-item.is (drop-cons c.args.tops.now c.loop-top.top-index _ c.loop-top-test.true) in
    let has = HeadersHave types functions 0 0 (map top_of c.args.tops.now) in
    record {
      end = rw more (omega (arith, sum_by-cons top_size top rest, here.end, rw cut at c.loop-top.invariant.end));
      names = rw more (one_more (names_in now) (names_in before) (function_name top) (function_names rest) _ here.names (rw cut at c.loop-top.invariant.names));
      signatures = rw more (one_more (map (signature_of types) now) (map (signature_of types) before) (signature_in types top) (signatures types rest) _ here.signatures (rw cut at c.loop-top.invariant.signatures));
      found = rw more (header_found types functions has (length before) (length now) c.loop-top.end c.in_ok-end.end top rest here.count here.end (rw cut at c.loop-top.invariant.found));
      passed = rw more (header_passed types functions has (length before) (length now) c.loop-top.end c.in_ok-end.end top rest here.count here.end (rw cut at c.loop-top.invariant.passed) here.none);
    }

pub loop-top-init : goal.loop-top-init
loop-top-init c =
    let none = c.new-all.ensures.items in
    record { end = omega arith; names = rw none refl; signatures = rw none refl; found = rw none (λ violation has. has); passed = rw none (λ violation has. has) }

pub top_header-requires : goal.top_header-requires
top_header-requires c =
    let left = drop (suc c.loop-top.top-index) c.args.tops.now in
    let cut : drop c.loop-top.top-index c.args.tops.now ≡ c.top-item.result ∷ left = rw c.top-item.is (drop-cons c.args.tops.now c.loop-top.top-index _ c.loop-top-test.true) in
    record { small = omega (arith, sum_by-cons top_size (top_of c.top-item.result) (map top_of left), rw cut at c.loop-top.invariant.end, c.requires.small) }

pub returns-in_err-end-clause-one : goal.returns-in_err-end-clause-one
returns-in_err-end-clause-one c =
    let types = c.args.types.now in
    let functions = c.args.functions.now in
    let top = top_of c.top-item.result in
    let left = drop (suc c.loop-top.top-index) c.args.tops.now in
    let cut : drop c.loop-top.top-index c.args.tops.now ≡ c.top-item.result ∷ left = rw c.top-item.is (drop-cons c.args.tops.now c.loop-top.top-index _ c.loop-top-test.true) in
    let has = HeadersHave types functions 0 0 (map top_of c.args.tops.now) in
    let found : (violation : Violation) → HeadersHave types functions (length c.loop-top.all.items) c.loop-top.end (top ∷ map top_of left) violation → has violation = rw cut at c.loop-top.invariant.found in
    let p = err_from_is_err_and c.from_residual.result c.from_residual.ensures.1 in
    rw (p.1, p.2) (refuses_more (TopHeaderHas types functions (length c.loop-top.all.items) c.loop-top.end top) has c.in_err-end.field-0.0 (λ violation bad. found violation (inl bad)) c.in_err-end.ensures.one)

pub returns-clause-names : goal.returns-clause-names
returns-clause-names c =
    let none : drop c.loop-top.top-index c.args.tops.now ≡ [] = drop_all c.loop-top.top-index c.args.tops.now c.loop-top-test.false in
    sym (append-nil (names_in c.loop-top.all.items)) ∙ (rw none at c.loop-top.invariant.names)

pub returns-clause-signatures : goal.returns-clause-signatures
returns-clause-signatures c =
    let none : drop c.loop-top.top-index c.args.tops.now ≡ [] = drop_all c.loop-top.top-index c.args.tops.now c.loop-top-test.false in
    sym (append-nil (map (signature_of c.args.types.now) c.loop-top.all.items)) ∙ (rw none at c.loop-top.invariant.signatures)

pub returns-clause-none : goal.returns-clause-none
returns-clause-none c =
    let none : drop c.loop-top.top-index c.args.tops.now ≡ [] = drop_all c.loop-top.top-index c.args.tops.now c.loop-top-test.false in
    λ violation has. rw none at (c.loop-top.invariant.passed violation has)
