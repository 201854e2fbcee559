use Rattle.std.proofs.Common.{◌∙◌, false, map, sym}
use Rattle.std.proofs.lemmas.List.{append-nil}
use Rattle.syntax.specs.View.{expression_of}
use Rattle.type_table.specs.Views.{kind_of}
use Rattle.type_table.specs.Visible.{globals_in, scope_of, types_of}
use Rattle.codegen_simple.specs.Rights.{own_type}
use Rattle.codegen_simple.proofs.Rights.{no_source, right_is}
use Rattle.codegen_simple.proofs.right.right_kinds.Goals as goal

pub returns-then-is_none : goal.returns-then-is_none
returns-then-is_none c elements =
    let globals = globals_in c.args.context.now.table.now in
    let scope = scope_of c.args.context.now.table.now c.args.visible.now in
    let values = map expression_of c.args.right.now in
    right_is globals elements scope c.args.count values (map (kind_of (types_of c.args.context.now.table.now)) c.in_ok-kinds.kinds.items) false (no_source _ c.source_of_two.result c.args.count values c.if-is_none.ensures c.source_of_two.ensures)
    (c.in_ok-kinds.ensures ∙ sym (append-nil (map (own_type globals scope) values)))
