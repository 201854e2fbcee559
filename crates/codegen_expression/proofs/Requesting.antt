-- Calls and operations on channels, after their operands.
use Rattle.std.proofs.Common.{◌≡◌, ◌<◌, ℕ, pos, List, [], ◌∷◌, ◌++◌, map, Option, Some, None, option_map, refl, sym, ap, ◌∙◌, slice_get, IfSome, arith}
use Rattle.std.specs.Prelude.{unwrap_or}
use Rattle.std.proofs.lemmas.Option.{slice_get-map}
use Rattle.syntax.specs.Tree.{Expression, TypeExpression, Receive, Make, MakeSized}
use Rattle.bytecode.specs.declared.instr.Instr.{Instr}
use Rattle.bytecode.specs.declared.instr.Instr.TheVariants as instrs
use Rattle.type_table.specs.declared.entry.FunctionEntry.{FunctionEntry}
use Rattle.type_table.specs.declared.value_type.ValueType.{ValueType as Kind}
use Rattle.type_table.specs.Types.{ValueType, IntType, BoolType, StructType, ChannelType, element_type}
use Rattle.type_table.specs.Scopes.{Globals, Scope}
use Rattle.type_table.specs.Views.{kind_of, signature_of}
use Rattle.typing_rules.specs.Calls.{parameters_in}
use Rattle.typing_rules.specs.Worths.{Worth, Typed, Constant, Nil, element_of, worth}
use Rattle.meaning.specs.Values.{known}
use Rattle.codegen_base.specs.declared.element.Element.{Element}
use Rattle.codegen_base.specs.declared.element.Element.TheVariants as elements
use Rattle.codegen_base.specs.Elements.{element_of as element_for, found_at}
use Rattle.codegen_base.specs.Pushes.{emits, pushes, receives}
use Rattle.plan.specs.Plan.{Do}
use Rattle.codegen_expression.specs.Emission.{IsPlaced, Puts, kind_in, making, receiving}
use Rattle.codegen_expression.proofs.Emitting.{puts_both, puts_do}
use Rattle.codegen_expression.proofs.Operating.{puts_then, puts_two}

-- the types of a function's parameters are known
known_all : (types : List (List ℕ)) (kinds : List Kind) → map known (map (λ (kind : Kind). Some (kind_of types kind)) kinds) ≡ map (kind_of types) kinds
known_all types [] = refl
known_all types (kind ∷ kinds) = ap (λ r. kind_of types kind ∷ r) (known_all types kinds)

pub parameters_known : (types : List (List ℕ)) (entries : List FunctionEntry) (number : ℕ) (f : FunctionEntry) → slice_get entries number ≡ Some f
    → map (kind_of types) f.parameters.items ≡ map known (parameters_in (slice_get (map (signature_of types) entries) number))
parameters_known types entries number f is =
    sym (ap (λ s. map known (parameters_in s)) (slice_get-map (signature_of types) entries number ∙ ap (option_map (signature_of types)) is) ∙ known_all types f.parameters.items)

-- a function that is not there has no parameters
pub no_parameters : (types : List (List ℕ)) (entries : List FunctionEntry) (number : ℕ) → slice_get entries number ≡ None → [] ≡ map known (parameters_in (slice_get (map (signature_of types) entries) number))
no_parameters types entries number is = sym (ap (λ s. map known (parameters_in s)) (slice_get-map (signature_of types) entries number ∙ ap (option_map (signature_of types)) is))

-- only an operand that has a type carries something
pub carried_in : (w : Option Worth) → known (element_type (kind_in w)) ≡ known (element_of w)
carried_in None = refl
carried_in (Some (Typed kind)) = refl
carried_in (Some (Constant v)) = refl
carried_in (Some Nil) = refl

abbrev number_in : Element → ℕ
number_in (elements.Channel m) = m
number_in element = 0

placed_carried : (all : List Element) (kind : ValueType) (n : ℕ) → element_for all kind ≡ elements.Channel n → 0 < n → found_at all (element_for all (known (element_type kind))) ≡ Some n
placed_carried all IntType n is some = absurd cc
placed_carried all BoolType n is some = absurd cc
placed_carried all (StructType number) n is some = absurd cc
placed_carried all (ChannelType direction carried) n is some = go (found_at all (element_for all carried)) (ap number_in is) where
  go : (o : Option ℕ) → unwrap_or o 0 ≡ n → o ≡ Some n
  go None h = absurd (omega (arith, h, some))
  go (Some m) h = ap Some h

-- what an operand's element carries
pub item_placed : (all : List Element) (w : Option Worth) (place : Option ℕ) (n : ℕ) → IsPlaced all w place → ((e : Element) → IfSome place (λ m. found_at all e ≡ Some m) → (e ≡ elements.Channel n) × (0 < n))
    → Some n ≡ found_at all (element_for all (known (element_of w)))
item_placed all w place n placed within =
    let at = within (element_for all (kind_in w)) placed in
    sym (ap (λ k. found_at all (element_for all k)) (sym (carried_in w)) ∙ placed_carried all (kind_in w) n at.0 at.1)

module _ (globals : Globals) (elements : List Element) (scope : Scope) where
  -- an item and whether it was sent
  pub puts_receive : (e : Expression) (w : Option Worth) (i0 i1 i2 : List Instr) → w ≡ worth globals scope e → Puts i0 i1 (emits globals elements scope e) → i2 ≡ i1 ++ receiving elements w ∷ []
      → Puts i0 i2 (λ rest. emits globals elements scope e (receives globals elements scope e rest))
  puts_receive e w i0 i1 i2 is p more =
      puts_then (emits globals elements scope e) (receiving elements (worth globals scope e)) i0 i1 i2 p (more ∙ ap (λ o. i1 ++ receiving elements o ∷ []) is)

  pub emits_receive : (e : Expression) (w : Option Worth) (i0 i1 i2 : List Instr) → w ≡ worth globals scope e → Puts i0 i1 (emits globals elements scope e) → i2 ≡ i1 ++ receiving elements w ∷ instrs.Discard 1 ∷ []
      → Puts i0 i2 (emits globals elements scope (Receive e))
  emits_receive e w i0 i1 i2 is p more =
      let got = receiving elements (worth globals scope e) in
      puts_both i0 i1 i2 (emits globals elements scope e) (λ rest. Do got (Do (instrs.Discard 1) rest)) p (puts_two i1 i2 got (instrs.Discard 1) (more ∙ ap (λ o. i1 ++ receiving elements o ∷ instrs.Discard 1 ∷ []) is))

  pub emits_make : (kind : TypeExpression) (i0 i1 i2 : List Instr) → i1 ≡ i0 ++ instrs.Int (pos 0) ∷ [] → i2 ≡ i1 ++ making globals elements scope kind ∷ [] → Puts i0 i2 (emits globals elements scope (Make kind))
  emits_make kind i0 i1 i2 one two = puts_then (Do (instrs.Int (pos 0))) (making globals elements scope kind) i0 i1 i2 (puts_do i0 i1 (instrs.Int (pos 0)) one) two

  pub emits_make_sized : (kind : TypeExpression) (size : Expression) (i0 i1 i2 : List Instr) → Puts i0 i1 (pushes globals elements scope IntType size) → i2 ≡ i1 ++ making globals elements scope kind ∷ []
      → Puts i0 i2 (emits globals elements scope (MakeSized kind size))
  emits_make_sized kind size i0 i1 i2 p two = puts_then (pushes globals elements scope IntType size) (making globals elements scope kind) i0 i1 i2 p two
