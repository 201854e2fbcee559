use Rattle.std.proofs.Common.{◌≡◌, ◌∙◌, List, [], ap, map, sym}
use Rattle.syntax.specs.Spans.{tree_of}
use Rattle.syntax.specs.Tree.{Top, File}
use Rattle.syntax.specs.View.{top_of}
use Rattle.type_table.specs.Scopes.{Globals}
use Rattle.type_table.specs.Views.{signature_of}
use Rattle.type_table.specs.Visible.{types_of}
use Rattle.checker.specs.Trees.{tree_in}
use Rattle.typing_rules.specs.Kinds.{globals_of, signatures}
use Rattle.codegen_base.specs.Program.{noting_tops}
use Rattle.codegen.specs.Codes.{code_with}
use Rattle.codegen.proofs.Heads.{results_known}
use Rattle.codegen.proofs.program.file_code.Goals as goal

pub returns-clause-code : goal.returns-clause-code
returns-clause-code c =
    let file : File = tree_of (tree_in c.args.typed.now) in
    let written : List Top = map top_of c.as_slice-tops.result.now in
    let same : written ≡ file.tops = ap (map top_of) c.as_slice-tops.ensures.value ∙ ap (λ (f : File). f.tops) (c.file.ensures.file ∙ ap tree_of c.tree.ensures.tree) in
    c.in_ok-made.ensures
    ∙ ap (λ (g : Globals). code_with g (noting_tops g.types written []) written) c.in_ok-table.ensures
    ∙ ap (λ (tops : List Top). code_with (globals_of file.tops) (noting_tops (globals_of file.tops).types tops []) tops) same

pub generate-requires-clause-known : goal.generate-requires-clause-known
generate-requires-clause-known c =
    let file : File = tree_of (tree_in c.args.typed.now) in
    let types = types_of c.in_ok-table.table in
    let written : List Top = map top_of c.as_slice-tops.result.now in
    let same : written ≡ file.tops = ap (map top_of) c.as_slice-tops.ensures.value ∙ ap (λ (f : File). f.tops) (c.file.ensures.file ∙ ap tree_of c.tree.ensures.tree) in
    let held : map (signature_of types) c.in_ok-table.table.functions.items ≡ signatures types written =
    ap (λ (g : Globals). g.functions) c.in_ok-table.ensures ∙ ap (λ ts. signatures ts file.tops) (sym (ap (λ (g : Globals). g.types) c.in_ok-table.ensures)) ∙ ap (signatures types) (sym same) in
    results_known top_of types c.as_slice-tops.result.now c.in_ok-table.table.functions.items held
