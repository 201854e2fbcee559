use Rattle.std.proofs.Common.{rules, ◌≡◌, false, arith}
use Rattle.std.proofs.lemmas.Result.{IfOk-weaker}
use Rattle.syntax.specs.View.{struct_of}
use Rattle.typing_rules.specs.Declarations.{is_type_taken}
use Rattle.checker_declaration.proofs.Declared.{struct_fine}
use Rattle.checker_declaration.proofs.structs.struct_entry.Goals as goal

pub returns-clause-none : goal.returns-clause-none
returns-clause-none c =
    let fine : is_type_taken c.args.types.now c.args.number (struct_of c.args.one.now).name ≡ false = search rules in
    IfOk-weaker c.fields.result _ _ (λ _ good end at. struct_fine c.args.types.now c.args.number c.args.first end (struct_of c.args.one.now) fine (λ h. omega (arith, h, c.if-number-ge-MOST_STRUCTS.false)) (good end at)) c.fields.ensures.none
