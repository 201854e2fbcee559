use Rattle.std.proofs.Common.{◌∙◌, ◌++◌, ap, sym, List, ℕ, arith, Some}
use Rattle.std.proofs.lemmas.List.{take_all}
use Rattle.std.proofs.lemmas.Option.{slice_get-get_or}
use Rattle.std.specs.Global.{Vec}
use Rattle.bytecode.specs.Code.{Function}
use Rattle.bytecode.specs.Listing.{function_lines, heading, instr_lines}
use Rattle.bytecode.proofs.Listings.{one_function_more}
use Rattle.bytecode.proofs.lines.listing.Goals as goal

pub loop-number-preserved : goal.loop-number-preserved
loop-number-preserved c =
    let f = c.index-functions-number.result in
    let n = c.loop-number.number in
    let fs = c.functions-functions.result.now in
    let here = slice_get-get_or fs n f (omega (arith, c.loop-number-test.true)) ∙ ap Some (sym c.index-functions-number.is) in
    c.in_ok-list_function.ensures
    ∙ ap (λ (xs : List ℕ). xs ++ (heading f ++ instr_lines 0 f.instrs)) c.loop-number.invariant
    ∙ sym (one_function_more n f fs here)

pub returns : goal.returns
returns c =
    let fs : List Function = c.functions-functions.result.now in
    ap (λ (v : Vec ℕ). v.items) c.into_bytes.ensures.value ∙ c.loop-number.invariant
    ∙ ap function_lines (take_all c.loop-number.number fs c.loop-number-test.false ∙ c.functions-functions.ensures)
