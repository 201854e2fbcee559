-- Returns with which nothing is wrong find the kinds of the function's result.
use Rattle.std.proofs.Common.{◌≡◌, ℕ, ◌+◌, List, [], Option, Some, refl, sym, ◌∙◌, subst, arith, inl, inr}
use Rattle.go_text.specs.declared.rule.Rule.TheVariants as rules
use Rattle.syntax.specs.Tree.{Returned, NoValue, ReturnedValue}
use Rattle.syntax.specs.Measures.{returned_size}
use Rattle.bytecode.specs.declared.instr.WordKind.{WordKind}
use Rattle.bytecode.specs.Code.{Function as CodeFunction, Code}
use Rattle.type_table.specs.Types.{ValueType}
use Rattle.type_table.specs.Scopes.{Globals, Scope, Yield, NoResult, Yields}
use Rattle.typing_rules.specs.Worths.{worth}
use Rattle.typing_rules.specs.Expressions.{nodes_of, ValueHas}
use Rattle.typing_rules.specs.Statements.{ReturnStatementHas}
use Rattle.meaning.specs.Values.{known}
use Rattle.codegen_base.specs.declared.element.Element.{Element}
use Rattle.codegen_base.specs.Generated.{return_plan, result_kinds}
use Rattle.codegen_base.specs.Layouts.{Layout}
use Rattle.codegen_base.proofs.Noted.{Noted}
use Rattle.codegen_base.proofs.StatementMakes.{ReturnedMakes}
use Rattle.codegen_base.proofs.Typing.{Free, fits, broken, nodes_end, worth_there}
use Rattle.plan.proofs.Typed.{Allowed, Typed}
use Rattle.codegen_fine.proofs.Sees.{Sees, worth_sees, known_sees}
use Rattle.codegen_fine.proofs.Operands.{Grounds}
use Rattle.codegen_fine.proofs.Branches.{typed_return}
use Rattle.codegen_fine.proofs.Places.{housed_of}
use Rattle.codegen_fine.proofs.Layouts.{Room}

-- a function's result: its kinds, and its type, which is known and noted
pub record IsResult (globals : Globals) (elements : List Element) (f : CodeFunction) (result : Yield) : Type 0 where
  pub kinds_are : f.results ≡ result_kinds globals elements result
  pub known_kind : (kind : Option ValueType) → result ≡ Yields kind → kind ≡ Some (known kind)
  pub noted : (kind : Option ValueType) → result ≡ Yields kind → Noted elements (known kind)

module _ (globals : Globals) (elements : List Element) (code : Code) (f : CodeFunction) (grounds : Grounds globals elements code) where
  module _ (layout : Layout) (room : Room globals elements code f layout) (s : Scope) (sees : Sees s layout.scope) where
    pub typed_returned : (result : Yield) → IsResult globals elements f result → (returned : Returned) (first : ℕ) → Free (ReturnStatementHas globals result s first returned) → ReturnedMakes globals elements returned → (a : Allowed) (out : List WordKind)
        → Typed code f a [] (return_plan globals elements result layout returned) out
    typed_returned NoResult r NoValue first free makes a out = sym r.kinds_are
    typed_returned (Yields kind) r NoValue first free makes a out = let b = broken rules.Returned (first + (returned_size NoValue + 1)) (omega arith) in absurd (free b.0 (inr b.1))
    typed_returned NoResult r (ReturnedValue value) first free makes a out = let b = broken rules.Returned (first + (returned_size (ReturnedValue value) + 1)) (omega arith) in absurd (free b.0 (inr b.1))
    typed_returned (Yields kind) r (ReturnedValue value) first free makes a out =
        let (w, is) = worth_there globals s grounds.types_known (known_sees s layout.scope sees (housed_of globals elements f layout.scope room.housed).known) value first (λ violation h. free violation (inl h)) in
        let fit = fits w (known kind) (nodes_of first value) (nodes_end first value) (λ violation h. free violation (inr (subst (λ o. ValueHas (worth globals s value) o (nodes_of first value) violation) (sym (r.known_kind kind refl)) (subst (λ o. ValueHas o (Some (known kind)) (nodes_of first value) violation) (sym is) h)))) in
        typed_return globals elements code f grounds layout.scope (housed_of globals elements f layout.scope room.housed) s sees value first (λ violation h. free violation (inl h)) makes w (known kind) (sym (worth_sees s layout.scope sees globals value) ∙ is) fit (r.noted kind refl) (sym r.kinds_are) a out
