use Rattle.std.proofs.Common.{rules, ◌≡◌, ◌∙◌, ◌∷◌, [], ◌++◌, cond, length, take, ap, option_map, refl}
use Rattle.std.proofs.lemmas.Result.{on_ok_weaker}
use Rattle.bytecode.specs.declared.instr.Instr.TheVariants as instrs
use Rattle.syntax.specs.View.{simple_of}
use Rattle.type_table.specs.Visible.{globals_in}
use Rattle.codegen_base.specs.Generated.{made_post}
use Rattle.codegen_header.specs.Layouts.{layout_of}
use Rattle.codegen_emission.specs.declared.emitter.Emitter.{Emitter}
use Rattle.codegen_flow.specs.Controls.{through}
use Rattle.codegen_emission.specs.Emitted.{site_of}
use Rattle.codegen_emission.proofs.Looping.{rounds}
use Rattle.codegen_emission.proofs.Turning.{post_before}
use Rattle.codegen_emission.proofs.turn.emit_round.Goals as goal

pub returns : goal.returns
returns c =
    let table = c.args.context.now.program.now.table.now in
    let globals = globals_in table in
    let elements = c.args.context.now.program.now.elements.now in
    let e0 = c.args.emitter.now in
    let e1 = c.emit_post.new.emitter in
    let e2 : Emitter = record { code = c.come_back.new.code; prints = e1.prints; selects = e1.selects; layout = e1.layout; marks = e1.marks } in
    let post = option_map (λ (s : _). simple_of s.now) c.args.post in
    let following : c.len-following.result ≡ length e0.code.items = search rules in
    let head = c.args.head in
    on_ok_weaker c.come_back.result (λ done.
    let back : e2.code.items ≡ cond c.args.comes_round (e1.code.items ++ instrs.Loop head ∷ []) (take (length e0.code.items) e1.code.items) =
    done ∙ ap (λ n. cond c.args.comes_round (e1.code.items ++ instrs.Loop head ∷ []) (take n e1.code.items)) following in
    rounds table c.args.comes_round head e0 e1 e2 through (made_post globals elements (layout_of table e0.layout) (site_of table e0) post) refl (post_before globals elements (layout_of table e0.layout) (site_of table e0) post) c.in_ok-emit_post.ensures back (record { prints = refl; selects = refl; layout = refl })) c.come_back.ensures
