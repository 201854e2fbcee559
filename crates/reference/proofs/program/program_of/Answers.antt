use Rattle.std.proofs.Common.{◌≡◌, ◌<◌, ◌^◌, sym, ap, ◌∙◌, subst}
use Rattle.syntax.specs.Measures.{size}
use Rattle.syntax.specs.Spans.{tree_of}
use Rattle.syntax.specs.Tree.{File}
use Rattle.syntax.specs.View.{file_of}
use Rattle.type_table.specs.Visible.{globals_in}
use Rattle.typing_rules.specs.Kinds.{globals_of}
use Rattle.reference.proofs.Functions.{few_functions}
use Rattle.reference.proofs.program.program_of.Goals as goal

pub invariant_of-result : goal.invariant_of-result
invariant_of-result c =
    let file = file_of c.file-file.result.now in
    let same : file ≡ tree_of c.tree.result.now = c.file-file.ensures.file in
    let declares : globals_in c.in_ok-table.table ≡ globals_of file.tops = c.in_ok-table.ensures ∙ sym (ap (λ (f : File). globals_of f.tops) (same ∙ ap tree_of c.tree.ensures.tree)) in
    record { declares = declares; few = few_functions c.in_ok-table.table file declares (subst (λ (f : File). size f < 2 ^ 32) (sym same) c.file-file.ensures.small) }
