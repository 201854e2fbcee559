use Rattle.std.proofs.Common.{◌≡◌, ◌∙◌, ◌<◌, List, length, get_or, ap, sym, subst, rules, pos, Some, slice_get}
use Rattle.std.proofs.lemmas.Option.{slice_get-get_or}
use Rattle.bytecode.specs.declared.instr.Instr.{Instr}
use Rattle.bytecode.specs.declared.instr.Instr.TheVariants as instrs
use Rattle.verifier.specs.Tables.{kinds_at, entry}
use Rattle.verifier.proofs.Entries.{entry_read}
use Rattle.verifier.proofs.paths.step_at.Goals as goal

pub returns-in-None-2 : goal.returns-in-None-2
returns-in-None-2 c =
    let ks = c.in-Some.ks in
    let i : Instr = get_or c.instrs.result.now c.args.place (instrs.Int (pos 0)) in
    let lt : c.args.place < length c.instrs.result.now = subst (λ (xs : List Instr). c.args.place < length xs) (sym c.instrs.ensures) c.requires.there in
    let here : entry c.args.table.now c.args.place ≡ Some ks.items = entry_read c.args.table.now c.args.place _ (search rules) c.index-table-place.is ∙ ap (λ o. kinds_at (Some o)) c.in-Some.is in
    let fetched : slice_get c.args.f.now.instrs c.args.place ≡ Some i = ap (λ (xs : List Instr). slice_get xs c.args.place) (sym c.instrs.ensures) ∙ slice_get-get_or c.instrs.result.now c.args.place (instrs.Int (pos 0)) lt in
    let p = c.requires.reached.1 c.args.place ks.items here in
    let bad = rw c.in-None-2.is at c.in_ok-operands_at-in-Some.ensures.ok in
    record { ok = (p.0, ks.items, i, p.1, fetched, sym c.broken_rule.ensures, rw c.deref.ensures.value at bad) }
