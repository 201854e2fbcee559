use Rattle.std.proofs.Common.{rules, ◌≡◌, ◌+◌, ◌∙◌, ◌++◌, ◌∷◌, [], ap, sym}
use Rattle.std.proofs.lemmas.Result.{on_ok_weaker}
use Rattle.bytecode.specs.declared.instr.Instr.TheVariants as instrs
use Rattle.syntax.specs.View.{expression_of}
use Rattle.type_table.specs.Views.{kind_of}
use Rattle.type_table.specs.Visible.{globals_in, scope_of, types_of}
use Rattle.codegen_base.specs.Layouts.{carried}
use Rattle.codegen_base.specs.Statements.{pushes_received, width}
use Rattle.codegen_simple.proofs.Appending.{ends}
use Rattle.codegen_simple.proofs.simple.receive.Goals as goal

pub returns : goal.returns
returns c =
    let globals = globals_in c.args.context.now.table.now in
    let elements = c.args.context.now.elements.now in
    let scope = scope_of c.args.context.now.table.now c.args.visible.now in
    let channel = expression_of c.args.channel.now in
    let words : c.words_of.result ≡ width globals elements scope (kind_of (types_of c.args.context.now.table.now) c.in_ok-kind.kind) = c.words_of.ensures scope in
    let one : c.in-Some.count ≡ c.words_of.result + 1 = search rules in
    let all : c.in-Some.count ≡ width globals elements scope (carried globals elements scope channel) + 1 = one ∙ ap (λ w. w + 1) (words ∙ ap (width globals elements scope) (sym c.in_ok-kind.ensures.kind)) in
    on_ok_weaker c.put.result (λ is. ends c.args.code.now.items c.push_received.new.code.items c.put.new.code.items (pushes_received globals elements scope channel) (instrs.Discard (width globals elements scope (carried globals elements scope channel) + 1))
    c.in_ok-kind.ensures.pushed (is ∙ ap (λ n. c.push_received.new.code.items ++ instrs.Discard n ∷ []) all)) c.put.ensures
