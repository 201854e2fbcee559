use Rattle.std.proofs.Common.{◌+◌, ◌++◌, ◌∷◌, List, take, sym, ap, ◌∙◌, ℕ}
use Rattle.std.proofs.lemmas.List.{take_rest}
use Rattle.trace_comparison.proofs.Reading.{no_first_line, at_newline}
use Rattle.trace_comparison.proofs.trace.first_line.Goals as goal

pub returns-in_err-end : goal.returns-in_err-end
returns-in_err-end c = no_first_line c.args.bytes.now c.from_residual.result c.from_residual.ensures c.in_err-end.ensures

pub returns : goal.returns
returns c =
    let bytes = c.args.bytes.now in
    let end = c.in_ok-end.end in
    let at = at_newline bytes end (sym c.in_ok-end.ensures) in
    (at.0 ∙ ap (λ (rest : List ℕ). take end bytes ++ 10 ∷ rest) (sym (take_rest bytes (end + 1))), at.1)
