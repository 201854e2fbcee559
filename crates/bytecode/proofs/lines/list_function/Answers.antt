use Rattle.std.proofs.Common.{◌∙◌, ◌++◌, ap, sym, List, ℕ, take, string_bytes, arith, pos, slice_get}
use Rattle.bytecode.specs.declared.instr.Instr.{Instr}
use Rattle.bytecode.specs.declared.instr.Instr.TheVariants as instrs
use Rattle.std.proofs.lemmas.Option.{slice_get-get_or}
use Rattle.bytecode.specs.Listing.{heading, instr_line, instr_lines}
use Rattle.bytecode.proofs.Listings.{appended, one_more, read}
use Rattle.bytecode.proofs.lines.list_function.Goals as goal

pub loop-place-preserved : goal.loop-place-preserved
loop-place-preserved c =
    let f = c.args.function.now in
    let place = c.loop-place.place in
    let old = string_bytes c.args.text.now in
    let is = c.instrs-instrs.result.now in
    let i = read is place in
    let here = ap (λ (js : List Instr). slice_get js place) (sym c.instrs-instrs.ensures) ∙ slice_get-get_or is place (instrs.Int (pos 0)) (omega (arith, c.loop-place-test.true)) in
    let more = appended old (heading f) (instr_lines 0 (take place f.instrs)) (instr_line place i) (string_bytes c.list_instr.new.text) (c.in_ok-list_instr.ensures ∙ ap (λ (xs : List ℕ). xs ++ instr_line place i) c.loop-place.invariant) in
    more ∙ ap (λ (xs : List ℕ). old ++ (heading f ++ xs)) (sym (one_more place i f.instrs here))
