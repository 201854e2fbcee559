use Rattle.std.proofs.Common.{◌≡◌, ◌≤◌, None, length, map, sym, subst, ◌∙◌, arith}
use Rattle.std.proofs.lemmas.List.{length-map}
use Rattle.syntax.specs.View.{top_of}
use Rattle.type_table.specs.Containment.{Structs, Holds}
use Rattle.type_table.specs.Views.{names_of, fields_of_entry, structs_of}
use Rattle.typing_rules.specs.Declarations.{struct_node}
use Rattle.typing_rules.proofs.Contents.{past_structs, holds_there, got_there, narrow_contents}
use Rattle.checker_declaration.proofs.sizes.narrow_widths.Goals as goal

pub unreachable-requires : goal.unreachable-requires
unreachable-requires c =
    let types = names_of c.args.structs.now in
    let structs : Structs = structs_of types c.args.structs.now in
    let number = c.in-Err-Holds.number in
    let holds : Holds structs number number = rw c.in-Err-Holds.field-0-is at c.in-Err-Holds.ensures.endless in
    let none : struct_node 0 (map top_of c.args.tops.now) number ≡ None = sym c.struct_node.ensures ∙ c.in-None.is in
    let past = past_structs types (map top_of c.args.tops.now) 0 number none in
    holds_there structs number number holds (subst (λ (all : Structs). length all ≤ number) (sym c.requires.fields) past)

pub unreachable-requires-in-None-struct_node : goal.unreachable-requires-in-None-struct_node
unreachable-requires-in-None-struct_node c =
    let types = names_of c.args.structs.now in
    let structs : Structs = structs_of types c.args.structs.now in
    let number = c.in-Some-first_wide.number in
    let none : struct_node 0 (map top_of c.args.tops.now) number ≡ None = sym c.struct_node-in-Some-first_wide.ensures ∙ c.in-None-struct_node.is in
    let past : length structs ≤ number = subst (λ (all : Structs). length all ≤ number) (sym c.requires.fields) (past_structs types (map top_of c.args.tops.now) 0 number none) in
    let same : length structs ≡ length c.args.structs.now = length-map c.args.structs.now (fields_of_entry types) in
    let wide = c.in-Some-first_wide.ensures.wide in
    let there = rw c.as_slice.ensures.value at wide.1 in
    got_there c.in-Ok.all.items number wide.0 there (omega (arith, past, same, c.in-Ok.ensures.count))

pub returns-in-None-first_wide-clause-none : goal.returns-in-None-first_wide-clause-none
returns-in-None-first_wide-clause-none c =
    let types = names_of c.args.structs.now in
    let structs : Structs = structs_of types c.args.structs.now in
    let same : length structs ≡ length c.args.structs.now = length-map c.args.structs.now (fields_of_entry types) in
    let narrow = rw c.as_slice.ensures.value at c.in-None-first_wide.ensures.narrow in
    narrow_contents structs (map top_of c.args.tops.now) c.in-Ok.all.items (length c.args.structs.now) c.in-Ok.ensures.count (sym same) c.in-Ok.ensures.wide narrow c.in-Ok.ensures.finite
