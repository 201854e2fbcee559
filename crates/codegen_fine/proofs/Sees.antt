-- By each name two scopes see a variable of the same type, or none.
use Rattle.std.proofs.Common.{◌≡◌, ℕ, Bool, true, false, List, Some, None, option_map, refl, ap, ◌∙◌, not, ◌&&◌, ◌||◌, bytes_eq}
use Rattle.std.specs.Prelude.{option_and_then, if◌then◌else◌, codes}
use Rattle.std.specs.Option.{is_some}
use Rattle.std.specs.Result.{result_ok}
use Rattle.syntax.specs.Tree.{TypeExpression, NamedType, ParenthesizedType, Channel, Expression, Integer, Named, Parenthesized, Selection, Composite, Unary, Binary, Call, Receive, Make, MakeSized, Length, Capacity}
use Rattle.type_table.specs.Types.{BoolType, StructType, ChannelType}
use Rattle.type_table.specs.Scopes.{Scope, Globals, is_blank, is_truth, is_nil, last_named, variable_named, is_reserved, number_of, function_number, type_in}
use Rattle.typing_rules.specs.Calls.{NoFunction, function_of, result_type, made_of}
use Rattle.typing_rules.specs.Worths.{Typed, Nil, selected_worth, unary_worth, binary_worth, element_of, worth}
use Rattle.codegen_base.proofs.Alike.{kind_if, there_alike, kind_alike}
use Rattle.codegen_base.proofs.Typing.{VariablesKnown}
use Rattle.codegen_base.proofs.Static.{known_alike}

abbrev pub Sees : Scope → Scope → Type 0
Sees s t = (name : List ℕ) → is_blank name ≡ false → kind_if (last_named s.variables name) ≡ kind_if (last_named t.variables name)

module _ (s t : Scope) (sees : Sees s t) where
  pub variable_sees : (name : List ℕ) → kind_if (variable_named s name) ≡ kind_if (variable_named t name)
  variable_sees name = go (is_blank name) (sees name) where
    go : (b : Bool) → (b ≡ false → kind_if (last_named s.variables name) ≡ kind_if (last_named t.variables name)) → kind_if (if b then None else last_named s.variables name) ≡ kind_if (if b then None else last_named t.variables name)
    go true same = refl
    go false same = same refl

  pub known_sees : VariablesKnown t → VariablesKnown s
  known_sees = known_alike s t variable_sees

  if_there : {A : Type 0} (name : List ℕ) (x y : A) → (if is_some (variable_named s name) then x else y) ≡ (if is_some (variable_named t name) then x else y)
  if_there name x y = ap (λ b. if b then x else y) (there_alike (variable_named s name) (variable_named t name) (variable_sees name))

  pub type_sees : (types : List (List ℕ)) (kind : TypeExpression) → type_in types s kind ≡ type_in types t kind
  type_sees types (NamedType name) = if_there name None _
  type_sees types (ParenthesizedType inner) = type_sees types inner
  type_sees types (Channel direction element) = ap (option_map (ChannelType direction)) (type_sees types element)

  pub worth_sees : (globals : Globals) (e : Expression) → worth globals s e ≡ worth globals t e
  worth_sees globals (Integer value) = refl
  worth_sees globals (Named name) = ap (λ o. if is_truth name then Some (Typed BoolType) else (if is_nil name then Some Nil else option_map Typed o)) (kind_alike (variable_named s name) (variable_named t name) (variable_sees name))
  worth_sees globals (Parenthesized inner) = worth_sees globals inner
  worth_sees globals (Selection whole field) = ap (option_and_then (selected_worth globals field)) (worth_sees globals whole)
  worth_sees globals (Composite name values trailing) = ap (option_map (λ n. Typed (StructType n))) (if_there name None (number_of globals.types name))
  worth_sees globals (Unary operator operand) = ap (option_and_then (λ x. result_ok (unary_worth operator x))) (worth_sees globals operand)
  worth_sees globals (Binary operator l r) =
      ap (option_and_then (λ x. option_and_then (λ y. result_ok (binary_worth operator x y)) (worth globals s r))) (worth_sees globals l)
      ∙ ap (λ o. option_and_then (λ x. option_and_then (λ y. result_ok (binary_worth operator x y)) o) (worth globals t l)) (worth_sees globals r)
  worth_sees globals (Call function values trailing) =
      ap (λ b. option_map Typed (result_type globals (if b || is_some (number_of globals.types function) || (is_reserved function && not (bytes_eq function (codes "init"))) then NoFunction else function_of (function_number globals.functions function))))
      (there_alike (variable_named s function) (variable_named t function) (variable_sees function))
  worth_sees globals (Receive channel) = ap (λ o. option_map Typed (element_of o)) (worth_sees globals channel)
  worth_sees globals (Make kind) = ap (λ o. option_map Typed (made_of o)) (type_sees globals.types kind)
  worth_sees globals (MakeSized kind size) = ap (λ o. option_map Typed (made_of o)) (type_sees globals.types kind)
  worth_sees globals (Length channel) = refl
  worth_sees globals (Capacity channel) = refl
