use Rattle.std.proofs.Common.{rules, ◌≡◌, Some, None, false}
use Rattle.type_table.specs.Scopes.{is_truth, variable_named}
use Rattle.type_table.specs.Visible.{globals_in, scope_of, types_of, variable_of}
use Rattle.codegen_expression.proofs.Selecting.{loaded, not_loaded}
use Rattle.codegen_expression.proofs.operand.named.Goals as goal

pub returns-in_ok-place-in-Some-clause-instr : goal.returns-in_ok-place-in-Some-clause-instr
returns-in_ok-place-in-Some-clause-instr c =
    let scope = scope_of c.args.context.now.table.now c.args.visible.now in
    let v = variable_of (types_of c.args.context.now.table.now) c.in-Some.entry in
    let plainly : is_truth c.args.name.now ≡ false = search rules in
    let is : variable_named scope c.args.name.now ≡ Some v = search rules in
    loaded (globals_in c.args.context.now.table.now) c.args.context.now.elements.now scope c.args.name.now v c.in_ok-place-in-Some.place c.words_of.result plainly is c.in_ok-place-in-Some.ensures.fits (c.words_of.ensures scope)

pub returns-in-None-clause-instr : goal.returns-in-None-clause-instr
returns-in-None-clause-instr c =
    let scope = scope_of c.args.context.now.table.now c.args.visible.now in
    let plainly : is_truth c.args.name.now ≡ false = search rules in
    let is : variable_named scope c.args.name.now ≡ None = search rules in
    not_loaded (globals_in c.args.context.now.table.now) c.args.context.now.elements.now scope c.args.name.now plainly is
