use Rattle.std.proofs.lemmas.Result.{on_ok_weaker}
use Rattle.type_table.specs.Views.{kind_of}
use Rattle.type_table.specs.Visible.{globals_in, types_of}
use Rattle.codegen_header.proofs.Ranging.{appends_drops}
use Rattle.codegen_header.proofs.range.emit_unused.Goals as goal

pub returns : goal.returns
returns c = λ scope.
    on_ok_weaker c.drop_words.result (λ dropped. appends_drops (globals_in c.args.context.now.table.now) c.args.context.now.elements.now scope (kind_of (types_of c.args.context.now.table.now) c.args.kind) c.words_of.result c.args.code.now.items c.drop_words.new.code.items (c.words_of.ensures scope) dropped) c.drop_words.ensures
