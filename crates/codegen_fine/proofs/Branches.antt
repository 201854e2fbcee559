-- Conditions, loops, goroutines and returns, by the code of their parts.
use Rattle.std.proofs.Common.{◌≡◌, ℕ, List, [], ◌∷◌, ◌++◌, map, Some, refl, sym, subst}
use Rattle.std.proofs.lemmas.Bool.{OnTrue_from}
use Rattle.syntax.specs.Tree.{Expression, Arguments}
use Rattle.bytecode.specs.declared.instr.WordKind.{WordKind}
use Rattle.bytecode.specs.declared.instr.WordKind.TheVariants as kinds
use Rattle.bytecode.specs.declared.instr.Instr.TheVariants as instrs
use Rattle.bytecode.specs.Code.{Function as CodeFunction, Code}
use Rattle.type_table.specs.Types.{ValueType, BoolType}
use Rattle.type_table.specs.Scopes.{Globals, Scope}
use Rattle.typing_rules.specs.Worths.{Worth, worth}
use Rattle.typing_rules.specs.Expressions.{ExpressionHas}
use Rattle.typing_rules.specs.Operations.{parameters_of, CallHas}
use Rattle.meaning.specs.Values.{known}
use Rattle.meaning.specs.Expressions.{number_of}
use Rattle.codegen_base.specs.declared.element.Element.{Element}
use Rattle.codegen_base.specs.Elements.{kinds_of}
use Rattle.codegen_base.specs.Pushes.{pushes}
use Rattle.codegen_base.specs.Statements.{pushes_arguments}
use Rattle.codegen_fine.proofs.Sees.{Sees}
use Rattle.codegen_base.proofs.Noted.{Noted}
use Rattle.codegen_base.proofs.StatementMakes.{OneMakes, ValuesMake}
use Rattle.codegen_base.proofs.Typing.{Free, Fits}
use Rattle.plan.specs.Plan.{Plan, Skip, Do, IfElse, IfThen, Cycle, Endless, Stop, turns}
use Rattle.plan.proofs.Typed.{Allowed, in_loop, Typed}
use Rattle.codegen_fine.proofs.Operands.{Grounds, Housed}
use Rattle.codegen_fine.proofs.Operands.{all_kinds}
use Rattle.codegen_fine.proofs.Emitted.{typed_pushes}
use Rattle.codegen_fine.proofs.Operations.{call_there}
use Rattle.codegen_fine.proofs.Requests.{starts_typed}

module _ (globals : Globals) (elements : List Element) (code : Code) (f : CodeFunction) (grounds : Grounds globals elements code) where
  module _ (scope : Scope) (housed : Housed globals elements f scope) (s : Scope) (alike : Sees s scope) where
    abbrev T : Allowed → List WordKind → Plan → List WordKind → Type 0
    T = Typed code f

    -- a condition with which nothing is wrong, and which may be used as a bool
    module _ (condition : Expression) (first : ℕ) (free : Free (ExpressionHas globals s first condition)) (makes : OneMakes globals elements condition) (w : Worth) (is : worth globals scope condition ≡ Some w) (fit : Fits w BoolType) where
      abbrev tested : Plan → Plan
      tested rest = pushes globals elements scope BoolType condition rest

      pub typed_test : (a : Allowed) (ks out : List WordKind) (rest : Plan) → T a (ks ++ kinds.Bool ∷ []) rest out → T a ks (tested rest) out
      typed_test a ks out rest t = typed_pushes globals elements code f grounds scope housed s alike condition first free makes w BoolType is fit tt a ks out rest t

      pub typed_if : (a : Allowed) (ks : List WordKind) (so : Plan) → T a ks so ks → T a ks (tested (IfThen so)) ks
      typed_if a ks so t = typed_test a ks ks (IfThen so) (refl, t)

      pub typed_if_else : (a : Allowed) (ks out : List WordKind) (so other : Plan) → T a ks so out → T a ks other out → T a ks (tested (IfElse so other)) out
      typed_if_else a ks out so other t u = typed_test a ks out (IfElse so other) (ks, refl, t, u)

      -- a loop with a test; what is done after its body is outside the loop
      pub typed_cycle : (a : Allowed) (body post : Plan) → T in_loop [] body [] → T a [] post [] → T a [] (Cycle (tested Skip) body post Skip) []
      typed_cycle a body post t u = ([], refl, refl, typed_test a [] (kinds.Bool ∷ []) Skip refl, t, OnTrue_from (turns body) (T a [] post []) (λ e. u), refl)

    pub typed_endless : (a : Allowed) (body post : Plan) → T in_loop [] body [] → T a [] post [] → T a [] (Endless body post) []
    typed_endless a body post t u = (refl, refl, t, OnTrue_from (turns body) (T a [] post []) (λ e. u))

    -- ---- returns: the results alone are on the stack

    pub typed_return : (value : Expression) (first : ℕ) → Free (ExpressionHas globals s first value) → OneMakes globals elements value → (w : Worth) (kind : ValueType) → worth globals scope value ≡ Some w → Fits w kind → Noted elements kind → kinds_of globals.structs elements kind ≡ f.results
        → (a : Allowed) (out : List WordKind) → T a [] (pushes globals elements scope kind value Stop) out
    typed_return value first free makes w kind is fit noted same a out = typed_pushes globals elements code f grounds scope housed s alike value first free makes w kind is fit noted a [] out Stop same

    -- ---- a goroutine is started

    pub typed_go : (function : List ℕ) (arguments : Arguments) (first : ℕ) → Free (CallHas globals s first function arguments) → ValuesMake globals elements arguments.values
        → (a : Allowed) (ks out : List WordKind) → T a ks Skip out → T a ks (pushes_arguments globals elements scope (number_of globals function) arguments.values (Do (instrs.Go (number_of globals function)) Skip)) out
    typed_go function arguments first free makes a ks out t =
        let c = call_there globals elements code f grounds scope housed s alike function arguments first free makes in
        subst (λ n. T a ks (pushes_arguments globals elements scope n arguments.values (Do (instrs.Go n) Skip)) out) (sym c.is)
        (c.pushed a ks out (Do (instrs.Go c.number) Skip)
        (starts_typed globals elements code f grounds c.number (all_kinds globals.structs elements (map known (parameters_of globals c.number))) c.there (grounds.functions.params c.number) a ks out Skip t))
