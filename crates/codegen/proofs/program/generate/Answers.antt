use Rattle.std.proofs.Common.{◌∙◌, ap, map}
use Rattle.bytecode.specs.Code.{Code}
use Rattle.syntax.specs.View.{top_of}
use Rattle.type_table.specs.Visible.{globals_in}
use Rattle.codegen.proofs.Functions.{code_made}
use Rattle.codegen.proofs.program.generate.Goals as goal

pub returns : goal.returns
returns c =
    let put = c.in_ok-put_tops.ensures in
    c.with_selects-code.ensures
    ∙ ap (λ (code : Code). record code { selects = c.put_tops.new.emitter.selects.items }) c.new-6.ensures
    ∙ code_made (globals_in c.args.table.now) _ _ (map top_of c.args.tops.now) _ _ _ _ _ _ _ c.in_ok-elements.ensures c.in_ok-shapes.ensures c.new-functions.ensures.items c.new-2.ensures.items c.new-3.ensures.items put.functions put.prints put.selects
