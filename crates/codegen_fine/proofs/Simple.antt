-- The code of a simple statement that gives nothing leaves the stack as it was.
use Rattle.std.proofs.Common.{◌≡◌, ℕ, ◌+◌, List, [], ◌∷◌, ◌++◌, length, Some, sym, ap, ◌∙◌, subst, append_assoc, length-append, inl, inr}
use Rattle.std.proofs.lemmas.List.{append-nil}
use Rattle.syntax.specs.Tree.{Expression, Arguments, Simple, CallAlone, Close, ReceiveAlone, Send}
use Rattle.syntax.specs.Measures.{expression_size}
use Rattle.bytecode.specs.declared.instr.WordKind.{WordKind}
use Rattle.bytecode.specs.declared.instr.WordKind.TheVariants as kinds
use Rattle.bytecode.specs.declared.instr.Instr.TheVariants as instrs
use Rattle.bytecode.specs.Code.{Function as CodeFunction, Code}
use Rattle.type_table.specs.Scopes.{Globals, Scope, Yield, NoResult, Yields}
use Rattle.typing_rules.specs.Worths.{worth}
use Rattle.typing_rules.specs.Expressions.{nodes_of, ValueHas, element_of}
use Rattle.typing_rules.specs.Operations.{result_of}
use Rattle.typing_rules.specs.Simples.{SimpleHas}
use Rattle.meaning.specs.Values.{known}
use Rattle.meaning.specs.Expressions.{number_of}
use Rattle.codegen_base.specs.declared.element.Element.{Element}
use Rattle.codegen_base.specs.Elements.{kinds_of, shape_of}
use Rattle.codegen_base.specs.Generated.{result_kinds}
use Rattle.codegen_base.specs.Layouts.{Layout, carried}
use Rattle.codegen_base.specs.Pushes.{pushes, pushes_own, drops}
use Rattle.codegen_base.specs.Statements.{result_words, simple_plan}
use Rattle.codegen_fine.proofs.Sees.{Sees, worth_sees, known_sees}
use Rattle.codegen_base.proofs.StatementMakes.{OneMakes, ValuesMake}
use Rattle.codegen_base.proofs.Typing.{Free, fits, nodes_end, worth_there}
use Rattle.plan.specs.Plan.{Plan, Skip, Do}
use Rattle.plan.proofs.Typed.{Allowed, Typed, typed_step}
use Rattle.codegen_fine.proofs.Pushing.{drops_typed}
use Rattle.codegen_fine.proofs.Operands.{Grounds, Housed}
use Rattle.codegen_fine.proofs.Emitted.{typed_pushes}
use Rattle.codegen_fine.proofs.Operations.{channel_there, typed_call, typed_received}
use Rattle.codegen_fine.proofs.Requests.{sends_typed, closes_typed}

module _ (globals : Globals) (elements : List Element) (code : Code) (f : CodeFunction) (grounds : Grounds globals elements code) where
  -- `n` words that nobody needs are dropped
  pub discards_typed : (n : ℕ) (js : List WordKind) → n ≡ length js → (a : Allowed) (ks out : List WordKind) (rest : Plan) → Typed code f a ks rest out → Typed code f a (ks ++ js) (Do (instrs.Discard n) rest) out
  discards_typed n js many a ks out rest t = typed_step code f a ks js (instrs.Discard n) rest out tt tt many tt (subst (λ (l : List WordKind). Typed code f a l rest out) (sym (append-nil ks)) t)

  module _ (layout : Layout) (housed : Housed globals elements f layout.scope) where
    -- the result of a call alone is dropped
    result_dropped : (result : Yield) (a : Allowed) (ks out : List WordKind) (rest : Plan) → Typed code f a ks rest out → Typed code f a (ks ++ result_kinds globals elements result) (drops (result_words globals elements layout.scope result) rest) out
    result_dropped NoResult a ks out rest t = drops_typed globals.structs elements code f [] a ks out rest t
    result_dropped (Yields kind) a ks out rest t = drops_typed globals.structs elements code f (kinds_of globals.structs elements (known kind)) a ks out rest t

    -- a statement leaves the stack as it was
    abbrev pub Leaves : ℕ → Simple → Type 0
    Leaves q simple = (a : Allowed) (ks out : List WordKind) → Typed code f a ks Skip out → Typed code f a ks (simple_plan globals elements layout q simple) out

    module _ (q : ℕ) (s : Scope) (alike : Sees s layout.scope) where
      pub typed_call_alone : (function : List ℕ) (arguments : Arguments) (first : ℕ) → Free (SimpleHas globals s first (CallAlone function arguments)) → ValuesMake globals elements arguments.values → Leaves q (CallAlone function arguments)
      typed_call_alone function arguments first free makes a ks out t =
          let result = result_of globals (number_of globals function) in
          typed_call globals elements code f grounds layout.scope housed s alike function arguments first free makes a ks out (drops (result_words globals elements layout.scope result) Skip) (result_dropped result a ks out Skip t)

      pub typed_close : (channel : Expression) (first : ℕ) → Free (SimpleHas globals s first (Close channel)) → OneMakes globals elements channel → Leaves q (Close channel)
      typed_close channel first free makes a ks out t =
          let c = channel_there globals elements code f grounds layout.scope housed s alike channel first (λ violation h. free violation (inl (inl h))) makes (λ violation h. free violation (inl (inr h))) in
          c.pushed a ks out (Do instrs.Close Skip) (closes_typed globals elements code f grounds c.direction c.element a ks out Skip t)

      pub typed_receive_alone : (channel : Expression) (first : ℕ) → Free (SimpleHas globals s first (ReceiveAlone channel)) → OneMakes globals elements channel → Leaves q (ReceiveAlone channel)
      typed_receive_alone channel first free makes a ks out t =
          let js = kinds_of globals.structs elements (carried globals elements layout.scope channel) in
          let many : length js + 1 ≡ length (js ++ kinds.Bool ∷ []) = sym (length-append js (kinds.Bool ∷ [])) in
          typed_received globals elements code f grounds layout.scope housed s alike channel first free makes a ks out (Do (instrs.Discard (length js + 1)) Skip) (discards_typed (length js + 1) (js ++ kinds.Bool ∷ []) many a ks out Skip t)

      pub typed_send : (channel value : Expression) (first : ℕ) → Free (SimpleHas globals s first (Send channel value)) → OneMakes globals elements channel → OneMakes globals elements value → Leaves q (Send channel value)
      typed_send channel value first free channel-makes value-makes a ks out t =
          let c = channel_there globals elements code f grounds layout.scope housed s alike channel first (λ violation h. free violation (inl h)) channel-makes (λ violation h. free violation (inr (inr (inl h)))) in
          let following = first + expression_size channel in
          let w = worth_there globals s grounds.types_known (known_sees s layout.scope alike housed.known) value following (λ violation h. free violation (inr (inl h))) in
          let is-element : element_of (worth globals s channel) ≡ Some c.element = ap element_of (worth_sees s layout.scope alike globals channel ∙ c.is) in
          let fit = fits w.0 c.element (nodes_of following value) (nodes_end following value)
          (λ violation h. free violation (inr (inr (inr (inr (subst (λ o. ValueHas (worth globals s value) o (nodes_of following value) violation) (sym is-element) (subst (λ o. ValueHas o (Some c.element) (nodes_of following value) violation) (sym w.1) h))))))) in
          subst (λ j. Typed code f a ks (pushes_own globals elements layout.scope channel (pushes globals elements layout.scope j value (Do (instrs.Send (shape_of elements j)) Skip))) out) (sym c.carries)
          (c.pushed a ks out (pushes globals elements layout.scope c.element value (Do (instrs.Send (shape_of elements c.element)) Skip))
          (typed_pushes globals elements code f grounds layout.scope housed s alike value following (λ violation h. free violation (inr (inl h))) value-makes w.0 c.element (sym (worth_sees s layout.scope alike globals value) ∙ w.1) fit c.noted.0 a (ks ++ kinds.Chan (shape_of elements c.element) ∷ []) out (Do (instrs.Send (shape_of elements c.element)) Skip)
          (subst (λ (l : List WordKind). Typed code f a l (Do (instrs.Send (shape_of elements c.element)) Skip) out) (sym (append_assoc ks (kinds.Chan (shape_of elements c.element) ∷ []) (kinds_of globals.structs elements c.element)))
          (sends_typed globals elements code f grounds c.direction c.element c.noted a ks out Skip t))))
