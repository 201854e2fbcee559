use Rattle.std.proofs.Common.{◌≡◌, map}
use Rattle.std.proofs.lemmas.Result.{err_from_is_err_and}
use Rattle.syntax.specs.View.{top_of}
use Rattle.type_table.specs.Views.{names_of, structs_of}
use Rattle.typing_rules.specs.Kinds.{structs}
use Rattle.typing_rules.specs.Declarations.{StructsHave, ContentsHave, TypesHave}
use Rattle.checker_declaration.proofs.Declared.{refuses_more, contents_have, singles_have, types_fine, same_structs}
use Rattle.checker_declaration.proofs.table.checked_types.Goals as goal

pub returns-in_err-structs-clause-one : goal.returns-in_err-structs-clause-one
returns-in_err-structs-clause-one c =
    let p = err_from_is_err_and c.from_residual.result c.from_residual.ensures.1 in
    let tops = map top_of c.args.tops.now in
    rw (p.1, p.2) (refuses_more (StructsHave c.args.types.now 0 0 tops) (TypesHave tops) c.in_err-structs.field-0.0 (singles_have tops c.args.types.now c.requires.names) c.in_err-structs.ensures.one)

pub returns-in_err-widths-clause-one : goal.returns-in_err-widths-clause-one
returns-in_err-widths-clause-one c =
    let p = err_from_is_err_and c.from_residual-in_err-widths.result c.from_residual-in_err-widths.ensures.1 in
    let tops = map top_of c.args.tops.now in
    let entries = c.as_slice.result.now in
    let same : structs_of (names_of entries) entries ≡ structs tops =
    same_structs tops c.in_ok-structs.structs.items entries c.args.types.now c.as_slice.ensures.value c.in_ok-structs.ensures.names c.requires.names c.in_ok-structs.ensures.fields in
    rw (p.1, p.2) (refuses_more (ContentsHave (structs_of (names_of entries) entries) tops) (TypesHave tops) c.in_err-widths.field-0.0 (contents_have tops (structs_of (names_of entries) entries) same) c.in_err-widths.ensures.one)

pub returns-clause-none : goal.returns-clause-none
returns-clause-none c =
    let tops = map top_of c.args.tops.now in
    let entries = c.as_slice.result.now in
    let same : structs_of (names_of entries) entries ≡ structs tops =
    same_structs tops c.in_ok-structs.structs.items entries c.args.types.now c.as_slice.ensures.value c.in_ok-structs.ensures.names c.requires.names c.in_ok-structs.ensures.fields in
    types_fine tops c.args.types.now (structs_of (names_of entries) entries) c.requires.names same c.in_ok-structs.ensures.none c.in_ok-widths.ensures.none
