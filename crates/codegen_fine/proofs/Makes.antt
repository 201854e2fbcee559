-- The types that a file writes are noted.
use Rattle.std.proofs.Common.{◌≡◌, ℕ, zero, suc, ◌+◌, List, [], ◌∷◌, Option, Some, None, refl, sym, ap, subst, arith}
use Rattle.std.proofs.lemmas.Option.{same_Some}
use Rattle.go_text.specs.declared.rule.Rule.TheVariants as rules
use Rattle.syntax.specs.Tree.{TypeExpression}
use Rattle.bytecode.specs.declared.instr.WordKind.{WordKind}
use Rattle.bytecode.specs.declared.instr.WordKind.TheVariants as kinds
use Rattle.bytecode.specs.Code.{Function as CodeFunction, Code}
use Rattle.bytecode.specs.Rules.{IsThere, AreThere}
use Rattle.type_table.specs.Types.{ValueType, IntType, BoolType, StructType, ChannelType}
use Rattle.type_table.specs.Scopes.{Globals, Scope, nothing_declared, type_in}
use Rattle.typing_rules.specs.Expressions.{TypeHas}
use Rattle.meaning.specs.Values.{known}
use Rattle.codegen_base.specs.declared.element.Element.{Element}
use Rattle.codegen_base.specs.Elements.{kinds_of, shape_of}
use Rattle.codegen_base.proofs.Makes.{type_anywhere}
use Rattle.codegen_base.proofs.Noted.{Noted}
use Rattle.codegen_base.proofs.Typing.{Free, broken}
use Rattle.codegen_fine.proofs.Operands.{Grounds, shape_within}

-- a type with which nothing is wrong
pub written : (types : List (List ℕ)) (s : Scope) (kind : TypeExpression) (first : ℕ) → Free (TypeHas (type_in types s kind) first) → (t : ValueType) × (type_in types s kind ≡ Some t)
written types s kind first free = go (type_in types s kind) refl where
  go : (o : Option ValueType) → type_in types s kind ≡ o → (t : ValueType) × (type_in types s kind ≡ Some t)
  go None is = let b = broken rules.Visible (first + 1) (omega arith) in absurd (free b.0 (subst (λ o. TypeHas o first b.0) (sym is) b.1))
  go (Some t) is = (t, is)

pub written_noted : (types : List (List ℕ)) (elements : List Element) (scope : Scope) (kind : TypeExpression) (t : ValueType) → Noted elements (known (type_in types nothing_declared kind)) → type_in types scope kind ≡ Some t → Noted elements t
written_noted types elements scope kind t noted is = subst (Noted elements) (ap known (type_anywhere types scope kind t is)) noted

module _ (globals : Globals) (elements : List Element) (code : Code) (f : CodeFunction) (grounds : Grounds globals elements code) where
  one_there : (k : WordKind) → IsThere code k → AreThere code (k ∷ [])
  one_there k there zero j e = subst (IsThere code) (same_Some k j e) there
  one_there k there (suc n) j e = absurd cc

  -- the shapes that the kinds of a noted type's words name are there
  pub noted_there : (kind : ValueType) → Noted elements kind → AreThere code (kinds_of globals.structs elements kind)
  noted_there IntType noted = one_there kinds.Int tt
  noted_there BoolType noted = one_there kinds.Bool tt
  noted_there (StructType n) noted = grounds.structs_there n
  noted_there (ChannelType d c) noted = one_there (kinds.Chan (shape_of elements c)) (shape_within globals elements code f grounds d c noted)
