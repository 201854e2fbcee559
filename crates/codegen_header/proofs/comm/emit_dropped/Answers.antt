use Rattle.std.proofs.Common.{rules, ◌≡◌, ◌+◌, ◌∙◌, ap, sym}
use Rattle.std.proofs.lemmas.Result.{on_ok_weaker}
use Rattle.syntax.specs.View.{expression_of}
use Rattle.type_table.specs.Views.{kind_of}
use Rattle.type_table.specs.Visible.{globals_in, scope_of, types_of}
use Rattle.codegen_base.specs.Layouts.{carried}
use Rattle.codegen_base.specs.Statements.{width}
use Rattle.codegen_simple.specs.Layouts.{layout_of}
use Rattle.codegen_header.proofs.Selecting.{appends_dropped}
use Rattle.codegen_header.proofs.comm.emit_dropped.Goals as goal

pub returns : goal.returns
returns c = λ yields.
    let globals = globals_in c.args.context.now.table.now in
    let elements = c.args.context.now.elements.now in
    let scope = scope_of c.args.context.now.table.now c.args.layout.now.visible in
    let channel = expression_of c.args.channel.now in
    let words : c.words_of.result ≡ width globals elements scope (kind_of (types_of c.args.context.now.table.now) c.carried-kind.result) = c.words_of.ensures scope in
    let one : c.in-Some.count ≡ c.words_of.result + 1 = search rules in
    let all : c.in-Some.count ≡ width globals elements scope (carried globals elements scope channel) + 1 = one ∙ ap (λ w. w + 1) (words ∙ ap (width globals elements scope) (sym (c.carried-kind.ensures elements))) in
    on_ok_weaker c.put.result (λ is. appends_dropped globals elements yields (layout_of c.args.context.now.table.now c.args.layout.now) channel c.in-Some.count c.args.code.now.items c.put.new.code.items all is) c.put.ensures
