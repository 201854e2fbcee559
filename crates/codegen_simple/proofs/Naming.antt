-- The spots of names.
use Rattle.std.proofs.Common.{◌≡◌, ℕ, true, List, sym, ap, ◌∙◌}
use Rattle.std.specs.Prelude.{if◌then◌else◌}
use Rattle.type_table.specs.Types.{ValueType}
use Rattle.type_table.specs.Scopes.{Globals, own_variable}
use Rattle.typing_rules.specs.Simples.{is_declarable}
use Rattle.codegen_base.specs.declared.element.Element.{Element}
use Rattle.codegen_base.specs.Layouts.{Layout}
use Rattle.codegen_base.specs.Statements.{Local, name_spot, own_spot, width}

-- a name that is declared anew takes the next locals
pub new_spot : (globals : Globals) (elements : List Element) (layout : Layout) (name : List ℕ) (kind : ValueType) (place words : ℕ) → is_declarable layout.scope name ≡ true → place ≡ layout.scope.words → words ≡ width globals elements layout.scope kind
    → Local place words ≡ name_spot globals elements layout name kind
new_spot globals elements layout name kind place words is p w =
    ap (λ n. Local n words) p ∙ ap (Local layout.scope.words) w
    ∙ sym (ap (λ b. if b then Local layout.scope.words (width globals elements layout.scope kind) else own_spot globals elements layout.scope kind (own_variable layout.scope name)) is)
