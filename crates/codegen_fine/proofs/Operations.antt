-- If nothing is wrong with the operands of a call or of an operation on a channel, their code pushes the kinds that it takes.
use Rattle.std.proofs.Common.{◌≡◌, ℕ, ◌<◌, List, [], ◌∷◌, ◌++◌, length, map, Option, Some, None, refl, sym, ap, ◌∙◌, subst, inl, inr}
use Rattle.go_text.specs.declared.rule.Rule.TheVariants as rules
use Rattle.syntax.specs.Tree.{Expression, expressions, Arguments}
use Rattle.syntax.specs.declared.node.Direction.{Direction}
use Rattle.bytecode.specs.declared.instr.WordKind.{WordKind}
use Rattle.bytecode.specs.declared.instr.WordKind.TheVariants as kinds
use Rattle.bytecode.specs.declared.instr.Instr.TheVariants as instrs
use Rattle.bytecode.specs.Code.{Function as CodeFunction, Code}
use Rattle.type_table.specs.Types.{ValueType, IntType, BoolType, StructType, ChannelType, element_type}
use Rattle.type_table.specs.Scopes.{Globals, Scope}
use Rattle.typing_rules.specs.Calls.{parameters_of, result_of}
use Rattle.typing_rules.specs.Worths.{Worth, Typed as TypedWorth, Constant, Nil, worth}
use Rattle.typing_rules.specs.Expressions.{nodes_of, element_of, ChannelHas, default_type, ExpressionHas}
use Rattle.typing_rules.specs.Operations.{CallHas, ReceiveHas}
use Rattle.meaning.specs.Values.{known}
use Rattle.meaning.specs.Expressions.{number_of}
use Rattle.codegen_base.specs.declared.element.Element.{Element}
use Rattle.codegen_base.specs.Elements.{kinds_of, shape_of}
use Rattle.codegen_base.specs.Generated.{result_kinds}
use Rattle.codegen_base.specs.Layouts.{carried}
use Rattle.codegen_base.specs.Pushes.{settled, emits, pushes_own}
use Rattle.codegen_base.specs.Statements.{pushes_arguments, pushes_received}
use Rattle.codegen_fine.proofs.Sees.{Sees, worth_sees, known_sees}
use Rattle.codegen_base.proofs.Makes.{ExpressionMakes}
use Rattle.codegen_base.proofs.StatementMakes.{ValuesMake}
use Rattle.codegen_base.proofs.Known.{worth_noted}
use Rattle.codegen_base.proofs.Noted.{Noted}
use Rattle.codegen_base.proofs.Typing.{Free, broken, nodes_end, worth_there}
use Rattle.plan.specs.Plan.{Plan, Do}
use Rattle.plan.proofs.Typed.{Typed}
use Rattle.codegen_fine.proofs.Pushing.{Puts}
use Rattle.codegen_fine.proofs.Operands.{all_kinds, Grounds, Housed, P}
use Rattle.codegen_fine.proofs.Emitted.{typed_emits, typed_all}
use Rattle.codegen_base.proofs.Called.{calls}
use Rattle.codegen_fine.proofs.Requests.{receives_typed, calls_typed}

channel_of : (t : ValueType) (o : Option ValueType) → element_type t ≡ o → (o ≡ None → ⊥) → (d : Direction) × (c : ValueType) × (t ≡ ChannelType d c)
channel_of (ChannelType d c) o is never = (d, c, refl)
channel_of IntType o is never = absurd (never (sym is))
channel_of BoolType o is never = absurd (never (sym is))
channel_of (StructType n) o is never = absurd (never (sym is))

module _ (globals : Globals) (elements : List Element) (code : Code) (f : CodeFunction) (grounds : Grounds globals elements code) where
  module _ (scope : Scope) (housed : Housed globals elements f scope) (s : Scope) (alike : Sees s scope) where
    abbrev PK : ValueType → (Plan → Plan) → Type 0
    PK kind push = P globals elements code f grounds kind push

    abbrev PS : List WordKind → (Plan → Plan) → Type 0
    PS js push = Puts globals.structs elements code f js push

    checked : (e : Expression) → worth globals s e ≡ worth globals scope e
    checked e = worth_sees s scope alike globals e

    noted_here : (e : Expression) → ExpressionMakes globals.types elements e → (k : ValueType) → worth globals scope e ≡ Some (TypedWorth k) → Noted elements k
    noted_here e makes k is = worth_noted elements globals grounds.fields_noted grounds.results_noted scope housed.noted e makes k is

    -- ---- channels

    -- a channel's code pushes it
    pub record IsChannel (e : Expression) : Type 0 where
      pub direction : Direction
      pub element : ValueType
      pub is : worth globals scope e ≡ Some (TypedWorth (ChannelType direction element))
      pub noted : Noted elements (ChannelType direction element)
      pub carries : carried globals elements scope e ≡ element
      pub emitted : PK (ChannelType direction element) (emits globals elements scope e)
      pub pushed : PK (ChannelType direction element) (pushes_own globals elements scope e)

    own_pushed : (e : Expression) (k : ValueType) → worth globals scope e ≡ Some (TypedWorth k) → PK k (emits globals elements scope e) → PK k (pushes_own globals elements scope e)
    own_pushed e k w push a ks out rest t = subst (λ o. Typed code f a ks (settled elements o (known (default_type o)) (emits globals elements scope e rest) rest) out) (sym w) (push a ks out rest t)

    pub channel_there : (e : Expression) (first : ℕ) → Free (ExpressionHas globals s first e) → ExpressionMakes globals.types elements e → Free (ChannelHas (worth globals s e) (nodes_of first e)) → IsChannel e
    channel_there e first free makes channel = let w = worth_there globals s grounds.types_known (known_sees s scope alike housed.known) e first free in go w.0 w.1 (sym (checked e) ∙ w.1) where
      never : (w : Worth) → worth globals s e ≡ Some w → element_of (Some w) ≡ None → ⊥
      never w is none = let b = broken rules.Channel (nodes_of first e).end (nodes_end first e) in channel b.0 (subst (λ o. ChannelHas o (nodes_of first e) b.0) (sym is) (none, b.1))

      go : (w : Worth) → worth globals s e ≡ Some w → worth globals scope e ≡ Some w → IsChannel e
      go (Constant z) is here-is = absurd (never (Constant z) is refl)
      go Nil is here-is = absurd (never Nil is refl)
      go (TypedWorth t) is here-is =
          let (d, c, ch) = channel_of t (element_type t) refl (never (TypedWorth t) is) in
          let w : worth globals scope e ≡ Some (TypedWorth (ChannelType d c)) = here-is ∙ ap (λ j. Some (TypedWorth j)) ch in
          let push = typed_emits globals elements code f grounds scope housed s alike e first free makes (ChannelType d c) w in
          record {
            direction = d;
            element = c;
            is = w;
            noted = noted_here e makes (ChannelType d c) w;
            carries = ap (λ o. known (element_of o)) w;
            emitted = push;
            pushed = own_pushed e (ChannelType d c) w push;
          }

    -- ---- calls and receives that are statements

    -- the arguments of a call, and the function's number
    pub record IsCall (function : List ℕ) (values : List Expression) : Type 0 where
      pub number : ℕ
      pub is : number_of globals function ≡ number
      pub there : number < length code.functions
      pub pushed : PS (all_kinds globals.structs elements (map known (parameters_of globals number))) (pushes_arguments globals elements scope number values)

    pub call_there : (function : List ℕ) (arguments : Arguments) (first : ℕ) → Free (CallHas globals s first function arguments) → ValuesMake globals elements arguments.values → IsCall function arguments.values
    call_there function arguments first free makes =
        let c = calls globals s grounds.types_known (known_sees s scope alike housed.known) grounds.functions.known_kinds function arguments first free in
        record {
          number = c.number;
          is = c.numbered;
          there = grounds.functions.there function c.number c.is;
          pushed = typed_all globals elements code f grounds scope housed s alike (expressions arguments.values) (map known (parameters_of globals c.number)) first (λ violation h. free violation (inl h)) makes c.fit (grounds.functions.noted c.number);
        }

    -- a call leaves the kinds of the function's result
    pub typed_call : (function : List ℕ) (arguments : Arguments) (first : ℕ) → Free (CallHas globals s first function arguments) → ValuesMake globals elements arguments.values
        → PS (result_kinds globals elements (result_of globals (number_of globals function))) (λ rest. pushes_arguments globals elements scope (number_of globals function) arguments.values (Do (instrs.Call (number_of globals function)) rest))
    typed_call function arguments first free makes =
        let c = call_there function arguments first free makes in
        subst (λ n. PS (result_kinds globals elements (result_of globals n)) (λ rest. pushes_arguments globals elements scope n arguments.values (Do (instrs.Call n) rest))) (sym c.is)
        (λ a ks out rest t.
        c.pushed a ks out (Do (instrs.Call c.number) rest)
        (calls_typed globals elements code f grounds c.number (all_kinds globals.structs elements (map known (parameters_of globals c.number))) c.there (grounds.functions.params c.number) a ks out rest
        (subst (λ (l : List WordKind). Typed code f a (ks ++ l) rest out) (sym (grounds.functions.results c.number)) t)))

    -- a receive leaves the item and whether it was sent
    pub typed_received : (channel : Expression) (first : ℕ) → Free (ReceiveHas globals s first channel) → ExpressionMakes globals.types elements channel → PS (kinds_of globals.structs elements (carried globals elements scope channel) ++ kinds.Bool ∷ []) (pushes_received globals elements scope channel)
    typed_received channel first free makes =
        let c = channel_there channel first (λ violation h. free violation (inl h)) makes (λ violation h. free violation (inr (inl h))) in
        subst (λ j. PS (kinds_of globals.structs elements j ++ kinds.Bool ∷ []) (λ rest. emits globals elements scope channel (Do (instrs.Receive (shape_of elements j)) rest))) (sym c.carries)
        (λ a ks out rest t. c.emitted a ks out (Do (instrs.Receive (shape_of elements c.element)) rest) (receives_typed globals elements code f grounds c.direction c.element c.noted a ks out rest t))
