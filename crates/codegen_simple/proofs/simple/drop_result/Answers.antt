use Rattle.std.proofs.Common.{rules, ◌≡◌, ◌∙◌, Some, ap, subst}
use Rattle.type_table.specs.Scopes.{Yields}
use Rattle.type_table.specs.Views.{kind_of}
use Rattle.type_table.specs.Visible.{globals_in, types_of}
use Rattle.typing_rules.specs.Operations.{result_of}
use Rattle.codegen_base.specs.Pushes.{drops}
use Rattle.codegen_base.specs.Statements.{result_words, width}
use Rattle.codegen_expression.specs.Emission.{Puts}
use Rattle.codegen_simple.proofs.simple.drop_result.Goals as goal

pub returns-in_ok-drop_words : goal.returns-in_ok-drop_words
returns-in_ok-drop_words c = λ scope.
    let globals = globals_in c.args.context.now.table.now in
    let kind = kind_of (types_of c.args.context.now.table.now) c.in-Some.kind in
    let is : Yields (Some kind) ≡ result_of globals c.args.number = search rules in
    let words : c.words_of.result ≡ width globals c.args.context.now.elements.now scope kind = c.words_of.ensures scope in
    subst (λ n. Puts c.args.code.now.items c.drop_words.new.code.items (drops n)) (words ∙ ap (result_words globals c.args.context.now.elements.now scope) is) c.in_ok-drop_words.ensures
