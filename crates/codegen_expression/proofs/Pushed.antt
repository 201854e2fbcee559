-- Values that are pushed as values of a type, and operations between values.
use Rattle.std.proofs.Common.{◌≡◌, ℕ, List, length, Option, sym, ap, ◌∙◌, subst}
use Rattle.syntax.specs.declared.node.BinaryOperator.{BinaryOperator}
use Rattle.syntax.specs.Tree.{Expression, Binary}
use Rattle.bytecode.specs.declared.instr.Instr.{Instr}
use Rattle.type_table.specs.Types.{ValueType}
use Rattle.type_table.specs.Scopes.{Globals, Scope}
use Rattle.typing_rules.specs.Worths.{Worth, worth}
use Rattle.codegen_base.specs.declared.element.Element.{Element}
use Rattle.codegen_base.specs.Pushes.{emits, operates, pushes, pushes_own}
use Rattle.plan.specs.Plan.{Plan}
use Rattle.codegen_expression.specs.Emission.{Puts, kind_in, led, operated, settling}
use Rattle.codegen_expression.proofs.Leading.{leads}
use Rattle.codegen_expression.proofs.Operating.{puts_operated, puts_settled}

module _ (globals : Globals) (elements : List Element) (scope : Scope) where
  pub puts_pushes : (kind : ValueType) (e : Expression) (w : Option Worth) (first : ℕ) (i0 i1 i2 : List Instr) → first ≡ length i0 → w ≡ worth globals scope e → Puts i0 i1 (emits globals elements scope e) → i2 ≡ settling elements w kind first i1
      → Puts i0 i2 (pushes globals elements scope kind e)
  puts_pushes kind e w first i0 i1 i2 n is p more =
      puts_settled elements (worth globals scope e) kind i0 i1 i2 (emits globals elements scope e) p (more ∙ ap (λ m. settling elements w kind m i1) n ∙ ap (λ o. settling elements o kind (length i0) i1) is)

  pub puts_own : (e : Expression) (w : Option Worth) (kind : ValueType) (first : ℕ) (i0 i1 i2 : List Instr) → first ≡ length i0 → w ≡ worth globals scope e → kind ≡ kind_in w → Puts i0 i1 (emits globals elements scope e)
      → i2 ≡ settling elements w kind first i1 → Puts i0 i2 (pushes_own globals elements scope e)
  puts_own e w kind first i0 i1 i2 n is k p more =
      subst (λ s. Puts i0 i2 (pushes globals elements scope s e)) (k ∙ ap kind_in is) (puts_pushes kind e w first i0 i1 i2 n is p more)

  -- a right operand and the operator, after what pushes the left one
  pub puts_right : (operator : BinaryOperator) (a b : Option Worth) (right : Expression) (first second : ℕ) (i0 i1 i2 i3 i4 : List Instr) (part : Plan → Plan) → length i0 ≡ first → second ≡ length i2 → b ≡ worth globals scope right
      → Puts i0 i1 part → i2 ≡ led operator a first i1 → Puts i2 i3 (emits globals elements scope right) → i4 ≡ operated elements operator a b first second i3
      → Puts i0 i4 (operates elements operator a (worth globals scope right) (kind_in a) (kind_in (worth globals scope right)) part (emits globals elements scope right))
  puts_right operator a b right first second i0 i1 i2 i3 i4 part n m is p e2 q e4 =
      puts_operated elements operator part (emits globals elements scope right) (leads globals elements scope right) i0 i1 i2 i3 i4 p q a (worth globals scope right) (e2 ∙ ap (λ x. led operator a x i1) (sym n))
      (e4 ∙ ap (λ x. operated elements operator a b x second i3) (sym n) ∙ ap (λ x. operated elements operator a b (length i0) x i3) m ∙ ap (λ x. operated elements operator a x (length i0) (length i2) i3) is)

  pub puts_binary : (operator : BinaryOperator) (left right : Expression) (a : Option Worth) (i0 i4 : List Instr) → a ≡ worth globals scope left
      → Puts i0 i4 (operates elements operator a (worth globals scope right) (kind_in a) (kind_in (worth globals scope right)) (emits globals elements scope left) (emits globals elements scope right))
      → Puts i0 i4 (emits globals elements scope (Binary operator left right))
  puts_binary operator left right a i0 i4 is p =
      subst (λ x. Puts i0 i4 (operates elements operator x (worth globals scope right) (kind_in x) (kind_in (worth globals scope right)) (emits globals elements scope left) (emits globals elements scope right))) is p
