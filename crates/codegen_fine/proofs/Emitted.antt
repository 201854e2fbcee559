-- The code of an expression with which nothing is wrong pushes the kinds of its type.
use Rattle.std.proofs.Common.{◌≡◌, ℕ, ℤ, pos, suc, ◌+◌, Bool, true, false, List, [], ◌∷◌, ◌++◌, length, map, Option, Some, None, option_map, Ok, refl, sym, ap, ◌∙◌, subst, arith, append_assoc, slice_get, inl, inr}
use Rattle.std.specs.Prelude.{if◌then◌else◌, option_and_then, codes, bytes_eq}
use Rattle.std.specs.Result.{result_ok}
use Rattle.std.proofs.lemmas.Option.{same_Some}
use Rattle.std.proofs.lemmas.List.{append-nil, length-map}
use Rattle.syntax.specs.declared.node.UnaryOperator.{UnaryOperator}
use Rattle.syntax.specs.declared.node.BinaryOperator.{BinaryOperator}
use Rattle.syntax.specs.Tree.{Expression, Integer, Named, Parenthesized, Selection, Composite, Unary, Binary, Call, Receive, Make, MakeSized, Length, Capacity, TypeExpression, Expressions, NoMore, Following, expressions_in}
use Rattle.syntax.specs.Measures.{type_size, expression_size}
use Rattle.syntax.specs.declared.node.Direction.{Direction}
use Rattle.bytecode.specs.declared.instr.WordKind.{WordKind}
use Rattle.bytecode.specs.declared.instr.WordKind.TheVariants as kinds
use Rattle.bytecode.specs.Effects.{results_in}
use Rattle.bytecode.specs.declared.instr.Instr.TheVariants as instrs
use Rattle.bytecode.specs.Code.{Function as CodeFunction, Code}
use Rattle.type_table.specs.Types.{ValueType, IntType, BoolType, StructType, ChannelType}
use Rattle.type_table.specs.Containment.{Field, Selected, fields_of, field_of}
use Rattle.type_table.specs.Scopes.{Globals, Scope, is_truth, is_nil, variable_named, type_in}
use Rattle.typing_rules.specs.Worths.{Worth, Typed as TypedWorth, Constant, Nil, kind_of, literal, unary_worth, binary_worth, selected_worth, type_of_field, element_of, worth}
use Rattle.typing_rules.specs.Expressions.{nodes_of, ValueHas, ValuesFail, field_kinds, PassedHave, LiteralHas, ChannelHas, SizeHas, default_type, ExpressionHas, ExpressionsHave}
use Rattle.typing_rules.specs.Calls.{parameters_of, yielded, result_type}
use Rattle.meaning.specs.Values.{Slot, known, whole, slot_after, field_slot}
use Rattle.codegen_base.specs.declared.element.Element.{Element}
use Rattle.codegen_base.specs.Elements.{kinds_of, shape_of}
use Rattle.codegen_base.specs.Layouts.{type_of, carried}
use Rattle.codegen_base.specs.Generated.{result_kinds}
use Rattle.codegen_base.specs.Pushes.{words_of, loads, makes, elements_shape, signed, settled, kinds_in, literal_types, emits, emits_all, pushes, pushes_zeros, operates, selects as selects_plan}
use Rattle.codegen_fine.proofs.Sees.{Sees, worth_sees, known_sees}
use Rattle.codegen_base.proofs.Fields.{AllTyped}
use Rattle.codegen_base.proofs.Typing.{typed_same, typed_variable}
use Rattle.codegen_base.proofs.Known.{worth_noted}
use Rattle.codegen_base.proofs.Noted.{Noted}
use Rattle.codegen_base.proofs.Called.{AllFit, same_count, calls_there}
use Rattle.codegen_base.proofs.Channels.{channel_worth, made_type, size_fits}
use Rattle.codegen_base.proofs.Makes.{ExpressionMakes, ExpressionsMake}
use Rattle.codegen_fine.proofs.Requests.{receives_typed, makes_typed, lengths_typed, capacities_typed, calls_typed}
use Rattle.codegen_base.proofs.Splits.{constant_untyped}
use Rattle.codegen_base.proofs.Typing.{Free, Fits, fits, nodes_end, worth_there, yield_there, carried_there, selects, unary_made, binary_made, literal_there}
use Rattle.plan.specs.Plan.{Plan, Do}
use Rattle.plan.proofs.Typed.{Allowed, Typed}
use Rattle.codegen_fine.proofs.WordKinds.{fields_kinds, struct_kinds, field_parted, range_is, range_within}
use Rattle.codegen_fine.proofs.Pushing.{Puts, drops_typed, puts_int, puts_bool, puts_both, puts_zeros, puts_locals, puts_part}
use Rattle.codegen_fine.proofs.Operands.{all_kinds, AllNoted, Grounds, Housed, P, IsEmitted, settled_pushed, operates_pushed, unary_pushed}

-- the types of fields are noted
abbrev pub FieldsAreNoted : List Element → List Field → Type 0
FieldsAreNoted elements fs = (m : ℕ) (field : Field) → slice_get fs m ≡ Some field → Noted elements (known field.kind)

module _ (globals : Globals) (elements : List Element) (code : Code) (f : CodeFunction) (grounds : Grounds globals elements code) where
  module _ (scope : Scope) (housed : Housed globals elements f scope) (s : Scope) (alike : Sees s scope) where
    abbrev PK : ValueType → (Plan → Plan) → Type 0
    PK kind push = P globals elements code f grounds kind push

    checked : (e : Expression) → worth globals s e ≡ worth globals scope e
    checked e = worth_sees s scope alike globals e

    -- nothing is wrong with an expression, which has these nodes
    abbrev Whole : ℕ → Expression → Type 0
    Whole first e = Free (ExpressionHas globals s first e)

    worth_here : (e : Expression) (first : ℕ) → Whole first e → (w : Worth) × (worth globals s e ≡ Some w) × (worth globals scope e ≡ Some w)
    worth_here e first free = let w = worth_there globals s grounds.types_known (known_sees s scope alike housed.known) e first free in (w.0, w.1, sym (checked e) ∙ w.1)

    value_fits : (v : Expression) (first : ℕ) (w : Worth) (kind : ValueType) (rest : List Expression) (o : Option ValueType) (kinds : List (Option ValueType)) → worth globals s v ≡ Some w → o ≡ Some kind → Free (ValuesFail globals s first (v ∷ rest) (o ∷ kinds)) → Fits w kind
    value_fits v first w kind rest o kinds is has free =
        fits w kind (nodes_of first v) (nodes_end first v) (λ violation h. free violation (inl (subst (λ x. ValueHas (worth globals s v) x (nodes_of first v) violation) (sym has) (subst (λ x. ValueHas x (Some kind) (nodes_of first v) violation) (sym is) h))))

    binary_typed : (operator : BinaryOperator) (l r : Expression) (a b w : Worth) (k : ValueType) → worth globals scope l ≡ Some a → worth globals scope r ≡ Some b → binary_worth operator a b ≡ Ok w → worth globals scope (Binary operator l r) ≡ Some (TypedWorth k) → binary_worth operator a b ≡ Ok (TypedWorth k)
    binary_typed operator l r a b w k il ir made is = made ∙ ap Ok (same_Some w (TypedWorth k) (sym (ap (option_and_then (λ x. option_and_then (λ y. result_ok (binary_worth operator x y)) (worth globals scope r))) il ∙ ap (option_and_then (λ y. result_ok (binary_worth operator a y))) ir ∙ ap result_ok made) ∙ is))

    unary_typed : (operator : UnaryOperator) (e : Expression) (a w : Worth) (k : ValueType) → worth globals scope e ≡ Some a → unary_worth operator a ≡ Ok w → worth globals scope (Unary operator e) ≡ Some (TypedWorth k) → unary_worth operator a ≡ Ok (TypedWorth k)
    unary_typed operator e a w k ie made is = made ∙ ap Ok (same_Some w (TypedWorth k) (sym (ap (option_and_then (λ x. result_ok (unary_worth operator x))) ie ∙ ap result_ok made) ∙ is))

    integer_untyped : (o : Option ℤ) (k : ValueType) → option_map Constant o ≡ Some (TypedWorth k) → ⊥
    integer_untyped None k e = absurd cc
    integer_untyped (Some z) k e = absurd cc

    typed_field : (o : Option ValueType) (k : ValueType) → option_map TypedWorth o ≡ Some (TypedWorth k) → o ≡ Some k
    typed_field None k e = absurd cc
    typed_field (Some t) k e = ap Some (typed_same t k e)

    -- what it makes is noted
    abbrev Makes : Expression → Type 0
    Makes e = ExpressionMakes globals.types elements e

    noted_here : (e : Expression) → Makes e → (k : ValueType) → worth globals scope e ≡ Some (TypedWorth k) → Noted elements k
    noted_here e makes k is = worth_noted elements globals grounds.fields_noted grounds.results_noted scope housed.noted e makes k is

    type_here : (e : Expression) (k : ValueType) → worth globals scope e ≡ Some (TypedWorth k) → type_of globals elements scope e ≡ k
    type_here e k is = ap (λ o. known (default_type o)) is

    -- ---- names, fields

    named_pushed : (name : List ℕ) (k : ValueType) (t n : Bool) → (if t then Some (TypedWorth BoolType) else (if n then Some Nil else option_map TypedWorth (kind_of (variable_named scope name)))) ≡ Some (TypedWorth k)
        → PK k (λ rest. Do (if t then instrs.Bool (bytes_eq name (codes "true")) else loads globals elements scope (variable_named scope name)) rest)
    named_pushed name k true n is = subst (λ j. PK j (λ rest. Do (instrs.Bool (bytes_eq name (codes "true"))) rest)) (typed_same BoolType k is) (puts_bool globals.structs elements code f (bytes_eq name (codes "true")))
    named_pushed name k false true is = absurd cc
    named_pushed name k false false is =
        let (v, found, kind) = typed_variable (variable_named scope name) k is in
        let many = length (kinds_of globals.structs elements k) in
        let same : instrs.Load v.place many ≡ loads globals elements scope (variable_named scope name) = sym (ap (loads globals elements scope) found ∙ ap (λ o. instrs.Load v.place (words_of globals elements scope (known o))) kind) in
        subst (λ i. PK k (λ rest. Do i rest)) same
        (puts_locals globals.structs elements code f v.place many (kinds_of globals.structs elements k) (housed.within name v k found kind) (housed.kinds_are name v k found kind))

    field_pushed : (field : List ℕ) (kind t : ValueType) (found : Selected) (push : Plan → Plan) → field_of globals.structs kind field ≡ Some found → found.kind ≡ Some t → PK kind push → PK t (λ rest. push (selects_plan globals elements scope kind field rest))
    field_pushed field kind t found push is has p =
        let part = field_parted globals.structs elements grounds.wide kind field found t is has in
        let begin : 0 + found.place ≡ found.place = omega arith in
        let slot : field_slot globals.structs (whole kind) field ≡ record { from = found.place; kind = t } = ap (slot_after 0) is ∙ ap (λ n. record { from = n; kind = known found.kind }) begin ∙ ap (λ o. record { from = found.place; kind = known o }) has in
        let ks = kinds_of globals.structs elements kind in
        let js = kinds_of globals.structs elements t in
        subst (λ (x : Slot). PK t (λ rest. push (Do (instrs.Pick (words_of globals elements scope kind) x.from (words_of globals elements scope x.kind)) rest))) (sym slot)
        (puts_part globals.structs elements code f ks js found.place (length js) push (range_within part.before js part.after ks found.place (length js) part.kinds_are part.place refl) (range_is part.before js part.after ks found.place (length js) part.kinds_are part.place refl) p)

    -- ---- literals

    -- the code of a literal's values pushes the kinds of the fields
    abbrev AreEmitted : ℕ → Expressions → Type 0
    AreEmitted first values =
        (fs : List Field) → AllTyped globals.structs fs → FieldsAreNoted elements fs → Free (ExpressionsHave globals s first values) → Free (ValuesFail globals s first (expressions_in values) (field_kinds fs)) → length (expressions_in values) ≡ length fs
        → Puts globals.structs elements code f (fields_kinds globals.structs elements fs) (emits_all globals elements scope (kinds_in fs) values)

    literal_pushed : (name : List ℕ) (values : Expressions) (trailing : Bool) (first : ℕ) → Whole first (Composite name values trailing) → (k : ValueType) → worth globals scope (Composite name values trailing) ≡ Some (TypedWorth k) → AreEmitted first values
        → PK k (emits globals elements scope (Composite name values trailing))
    literal_pushed name NoMore trailing first free k is by_fields a ks out rest t =
        let n = literal_there globals s first name NoMore trailing free in
        let c : worth globals scope (Composite name NoMore trailing) ≡ Some (TypedWorth (StructType n.0)) = sym (checked (Composite name NoMore trailing)) ∙ ap (option_map (λ n. TypedWorth (StructType n))) n.1 in
        subst (λ j. Typed code f a ks (pushes_zeros (kinds_of globals.structs elements j) rest) out) (sym (type_here (Composite name NoMore trailing) (StructType n.0) c))
        (puts_zeros globals.structs elements code f (kinds_of globals.structs elements (StructType n.0)) (grounds.structs_there n.0) a ks out rest
        (subst (λ j. Typed code f a (ks ++ kinds_of globals.structs elements j) rest out) (typed_same k (StructType n.0) (sym is ∙ c)) t))
    literal_pushed name (Following v others) trailing first free k is by_fields a ks out rest t =
        let values = Following v others in
        let n = literal_there globals s first name values trailing free in
        let c : worth globals scope (Composite name values trailing) ≡ Some (TypedWorth (StructType n.0)) = sym (checked (Composite name values trailing)) ∙ ap (option_map (λ n. TypedWorth (StructType n))) n.1 in
        let end = first + expression_size (Composite name values trailing) in
        let passed : Free (PassedHave globals s first (expressions_in values) (field_kinds (fields_of globals.structs n.0)) end) =
        λ violation h. free violation (inr (subst (λ o. LiteralHas globals s o first (expressions_in values) end violation) (sym n.1) h)) in
        let many = same_count (length (expressions_in values)) (length (field_kinds (fields_of globals.structs n.0))) end (omega arith) (λ violation h. passed violation (inl h)) in
        let fs = fields_of globals.structs n.0 in
        subst (λ j. Typed code f a ks (emits_all globals elements scope (literal_types globals elements scope j) values rest) out) (sym (type_here (Composite name values trailing) (StructType n.0) c))
        (by_fields fs (grounds.typed n.0) (grounds.literals_noted n.0) (λ violation h. free violation (inl h)) (λ violation h. passed violation (inr h)) (many ∙ length-map fs (λ (field : Field). field.kind)) a ks out rest
        (subst (λ (l : List WordKind). Typed code f a (ks ++ l) rest out) (ap (kinds_of globals.structs elements) (typed_same k (StructType n.0) (sym is ∙ c)) ∙ struct_kinds globals.structs elements grounds.wide n.0 (grounds.typed n.0)) t))

    -- ---- operations

    -- what one receives from, or measures, is a channel
    channel_at : (e : Expression) (first : ℕ) → Whole first e → Free (ChannelHas (worth globals s e) (nodes_of first e)) → (d : Direction) × (c : ValueType) × (worth globals scope e ≡ Some (TypedWorth (ChannelType d c)))
    channel_at e first free channel =
        let w = worth_here e first free in
        let c = carried_there globals s e first w.0 w.1 channel in
        let (d, t, ch) = channel_worth w.0 c.0 (sym (ap element_of w.1) ∙ c.1) in (d, t, w.2 ∙ ap Some ch)

    -- whether an item was sent is dropped
    received_pushed : (channel : Expression) (d : Direction) (c k : ValueType) → worth globals scope channel ≡ Some (TypedWorth (ChannelType d c)) → worth globals scope (Receive channel) ≡ Some (TypedWorth k) → Noted elements (ChannelType d c) → PK (ChannelType d c) (emits globals elements scope channel)
        → PK k (emits globals elements scope (Receive channel))
    received_pushed channel d c k ch is noted push a ks out rest t =
        let same : c ≡ k = typed_same c k (sym (ap (λ o. option_map TypedWorth (element_of o)) ch) ∙ is) in
        let laid : carried globals elements scope channel ≡ c = ap (λ o. known (element_of o)) ch in
        let plan : ValueType → Plan = λ j. Do (instrs.Receive (shape_of elements j)) (Do (instrs.Discard 1) rest) in
        let item = kinds_of globals.structs elements c in
        subst (λ j. Typed code f a ks (emits globals elements scope channel (plan j)) out) (sym laid)
        (push a ks out (plan c)
        (receives_typed globals elements code f grounds d c noted a ks out (Do (instrs.Discard 1) rest)
        (subst (λ (l : List WordKind). Typed code f a l (Do (instrs.Discard 1) rest) out) (append_assoc ks item (kinds.Bool ∷ []))
        (drops_typed globals.structs elements code f (kinds.Bool ∷ []) a (ks ++ item) out rest (subst (λ j. Typed code f a (ks ++ kinds_of globals.structs elements j) rest out) (sym same) t)))))

    -- a channel is made of the size on the stack
    made_pushed : (kind : TypeExpression) (k : ValueType) → worth globals scope (Make kind) ≡ Some (TypedWorth k) → Noted elements k → (a : Allowed) (ks out : List WordKind) (rest : Plan) → Typed code f a (ks ++ kinds_of globals.structs elements k) rest out
        → Typed code f a (ks ++ kinds.Int ∷ []) (makes globals elements scope kind rest) out
    made_pushed kind k is noted a ks out rest t =
        let (d, c, at-kind, same) = made_type (type_in globals.types scope kind) k is in
        subst (λ o. Typed code f a (ks ++ kinds.Int ∷ []) (Do (instrs.Make (elements_shape elements (known o))) rest) out) (sym at-kind)
        (makes_typed globals elements code f grounds d c (subst (Noted elements) (sym same) noted) a ks out rest (subst (λ j. Typed code f a (ks ++ kinds_of globals.structs elements j) rest out) (sym same) t))

    -- ---- all forms

    abbrev pub Emitted : Expression → Worth → Type 0
    Emitted e w = IsEmitted globals elements code f grounds (emits globals elements scope e) w

    mutual
      pub typed_emits : (e : Expression) (first : ℕ) → Whole first e → Makes e → (k : ValueType) → worth globals scope e ≡ Some (TypedWorth k) → PK k (emits globals elements scope e)
      typed_emits (Integer v) first free make k is a ks out rest t = absurd (integer_untyped (literal v) k is)
      typed_emits (Named name) first free make k is a ks out rest t = named_pushed name k (is_truth name) (is_nil name) is a ks out rest t
      typed_emits (Parenthesized inner) first free make k is a ks out rest t = typed_emits inner first free make k is a ks out rest t
      typed_emits (Selection whole field) first free make k is a ks out rest t =
          let w = worth_here whole first (λ violation h. free violation (inl h)) in
          let x = selects globals s first whole field w.0 w.1 free in
          let of : worth globals scope whole ≡ Some (TypedWorth x.kind) = sym (checked whole) ∙ x.of in
          let has : x.at.kind ≡ Some k = typed_field x.at.kind k (sym (ap (option_and_then (selected_worth globals field)) of ∙ ap (λ o. option_map TypedWorth (type_of_field o)) x.found) ∙ is) in
          subst (λ j. Typed code f a ks (emits globals elements scope whole (selects_plan globals elements scope j field rest)) out) (sym (type_here whole x.kind of))
          (field_pushed field x.kind k x.at (emits globals elements scope whole) x.found has (typed_emits whole first (λ violation h. free violation (inl h)) make x.kind of) a ks out rest t)
      typed_emits (Composite name values trailing) first free make k is a ks out rest t =
          literal_pushed name values trailing first free k is (λ fs types noted fr ft many. typed_fields fs types noted values first fr make ft many) a ks out rest t
      typed_emits (Unary operator e) first free make k is a ks out rest t =
          let w = worth_here e first (λ violation h. free violation (inl h)) in
          let u = unary_made globals s first operator e w.0 w.1 free in
          by_worth w.0 (unary_typed operator e w.0 u.0 k w.2 u.1 is) (λ j ej. typed_emits e first (λ violation h. free violation (inl h)) make j (w.2 ∙ ap Some ej)) where
            by_worth : (w : Worth) → unary_worth operator w ≡ Ok (TypedWorth k) → ((j : ValueType) → w ≡ TypedWorth j → PK j (emits globals elements scope e)) → Typed code f a ks (emits globals elements scope e (signed operator rest)) out
            by_worth (TypedWorth j) made el = unary_pushed globals elements code f grounds operator j k (emits globals elements scope e) made (el j refl) a ks out rest t
            by_worth (Constant z) made el = absurd (constant_untyped operator z k made)
            by_worth Nil made el = absurd cc
      typed_emits (Binary operator l r) first free make k is a ks out rest t =
          let x = worth_here l first (λ violation h. free violation (inl h)) in
          let y = worth_here r (first + expression_size l) (λ violation h. free violation (inr (inl h))) in
          let w = binary_made globals s first operator l r x.0 y.0 x.1 y.1 free in
          let left = emits globals elements scope l in
          let right = emits globals elements scope r in
          subst (λ o. Typed code f a ks (operates elements operator o (worth globals scope r) (known (default_type o)) (type_of globals elements scope r) left right rest) out) (sym x.2)
          (subst (λ o. Typed code f a ks (operates elements operator (Some x.0) o (known (default_type (Some x.0))) (known (default_type o)) left right rest) out) (sym y.2)
          (operates_pushed globals elements code f grounds operator x.0 y.0 k left right (binary_typed operator l r x.0 y.0 w.0 k x.2 y.2 w.1 is)
          (λ j ej. (noted_here l make.0 j (x.2 ∙ ap Some ej), typed_emits l first (λ violation h. free violation (inl h)) make.0 j (x.2 ∙ ap Some ej)))
          (λ j ej. (noted_here r make.1 j (y.2 ∙ ap Some ej), typed_emits r (first + expression_size l) (λ violation h. free violation (inr (inl h))) make.1 j (y.2 ∙ ap Some ej))) a ks out rest t))
      typed_emits (Call function values trailing) first free make k is a ks out rest t =
          let end = first + expression_size (Call function values trailing) in
          let c = calls_there globals s grounds.types_known (known_sees s scope alike housed.known) grounds.functions.known_kinds function values first end (omega arith) (λ violation h. free violation (inl (inl h))) (λ violation h. free violation (inl (inr h))) in
          let n = c.number in
          let y = yield_there globals s first function values trailing n c.calls free in
          let x = grounds.types_known.results n y.0 y.1 in
          let own : worth globals s (Call function values trailing) ≡ Some (TypedWorth x.0) = ap (λ o. option_map TypedWorth (result_type globals o)) c.calls ∙ ap (λ o. option_map TypedWorth (yielded o)) y.1 ∙ ap (option_map TypedWorth) x.1 in
          let same : x.0 ≡ k = typed_same x.0 k (sym own ∙ checked (Call function values trailing) ∙ is) in
          let gives : results_in (slice_get code.functions n) ≡ kinds_of globals.structs elements k = grounds.functions.results n ∙ ap (result_kinds globals elements) y.1 ∙ ap (λ o. kinds_of globals.structs elements (known o)) x.1 ∙ ap (kinds_of globals.structs elements) same in
          let types = map known (parameters_of globals n) in
          subst (λ m. Typed code f a ks (emits_all globals elements scope (map known (parameters_of globals m)) values (Do (instrs.Call m) rest)) out) (sym c.numbered)
          (typed_all values types first (λ violation h. free violation (inl (inl h))) make c.fit (grounds.functions.noted n) a ks out (Do (instrs.Call n) rest)
          (calls_typed globals elements code f grounds n (all_kinds globals.structs elements types) (grounds.functions.there function n c.is) (grounds.functions.params n) a ks out rest (subst (λ (l : List WordKind). Typed code f a (ks ++ l) rest out) (sym gives) t)))
      typed_emits (Receive channel) first free make k is a ks out rest t =
          let (d, c, ch) = channel_at channel first (λ violation h. free violation (inl h)) (λ violation h. free violation (inr (inl h))) in
          received_pushed channel d c k ch is (noted_here channel make (ChannelType d c) ch) (typed_emits channel first (λ violation h. free violation (inl h)) make (ChannelType d c) ch) a ks out rest t
      typed_emits (Make kind) first free make k is a ks out rest t =
          puts_int globals.structs elements code f (pos 0) a ks out (makes globals elements scope kind rest) (made_pushed kind k is (noted_here (Make kind) make k is) a ks out rest t)
      typed_emits (MakeSized kind size) first free make k is a ks out rest t =
          let at = first + type_size kind in
          let w = worth_here size at (λ violation h. free violation (inr (inl h))) in
          let fit = size_fits size at w.0 (λ violation h. free violation (inr (inr (inl (subst (λ o. SizeHas o (nodes_of at size) violation) (sym w.1) h))))) in
          let following = makes globals elements scope kind rest in
          subst (λ o. Typed code f a ks (settled elements o IntType (emits globals elements scope size following) following) out) (sym w.2)
          (settled_pushed globals elements code f grounds (emits globals elements scope size) w.0 IntType fit tt (λ j ej. (noted_here size make.1 j (w.2 ∙ ap Some ej), typed_emits size at (λ violation h. free violation (inr (inl h))) make.1 j (w.2 ∙ ap Some ej))) a ks out following
          (made_pushed kind k is (noted_here (MakeSized kind size) make k is) a ks out rest t))
      typed_emits (Length channel) first free make k is a ks out rest t =
          let (d, c, ch) = channel_at channel first (λ violation h. free violation (inl h)) (λ violation h. free violation (inr h)) in
          typed_emits channel first (λ violation h. free violation (inl h)) make (ChannelType d c) ch a ks out (Do instrs.Len rest)
          (lengths_typed globals elements code f grounds d c a ks out rest (subst (λ j. Typed code f a (ks ++ kinds_of globals.structs elements j) rest out) (sym (typed_same IntType k is)) t))
      typed_emits (Capacity channel) first free make k is a ks out rest t =
          let (d, c, ch) = channel_at channel first (λ violation h. free violation (inl h)) (λ violation h. free violation (inr h)) in
          typed_emits channel first (λ violation h. free violation (inl h)) make (ChannelType d c) ch a ks out (Do instrs.Cap rest)
          (capacities_typed globals elements code f grounds d c a ks out rest (subst (λ j. Typed code f a (ks ++ kinds_of globals.structs elements j) rest out) (sym (typed_same IntType k is)) t))

      -- values, one after the other
      pub typed_all : (values : Expressions) (types : List ValueType) (first : ℕ) → Free (ExpressionsHave globals s first values) → ExpressionsMake globals.types elements values → AllFit globals s values types → AllNoted elements types → Puts globals.structs elements code f (all_kinds globals.structs elements types) (emits_all globals elements scope types values)
      typed_all NoMore [] first free make fit noted a ks out rest t = subst (λ (l : List WordKind). Typed code f a l rest out) (append-nil ks) t
      typed_all NoMore (kind ∷ types) first free make fit noted a ks out rest t = absurd fit
      typed_all (Following v others) [] first free make fit noted a ks out rest t = absurd fit
      typed_all (Following v others) (kind ∷ types) first free make ((w, is, fits), more-fit) noted a ks out rest t =
          let here-is : worth globals scope v ≡ Some w = sym (checked v) ∙ is in
          let push = emits globals elements scope v in
          let more = emits_all globals elements scope types others in
          subst (λ o. Typed code f a ks (settled elements o kind (push (more rest)) (more rest)) out) (sym here-is)
          (puts_both globals.structs elements code f (kinds_of globals.structs elements kind) (all_kinds globals.structs elements types) (λ rest. settled elements (Some w) kind (push rest) rest) more
          (settled_pushed globals elements code f grounds push w kind fits noted.0 (λ j ej. (noted_here v make.0 j (here-is ∙ ap Some ej), typed_emits v first (λ violation h. free violation (inl h)) make.0 j (here-is ∙ ap Some ej))))
          (typed_all others types (first + expression_size v) (λ violation h. free violation (inr h)) make.1 more-fit noted.1) a ks out rest t)

      typed_fields : (fs : List Field) → AllTyped globals.structs fs → FieldsAreNoted elements fs → (values : Expressions) (first : ℕ) → Free (ExpressionsHave globals s first values) → ExpressionsMake globals.types elements values → Free (ValuesFail globals s first (expressions_in values) (field_kinds fs)) → length (expressions_in values) ≡ length fs
          → Puts globals.structs elements code f (fields_kinds globals.structs elements fs) (emits_all globals elements scope (kinds_in fs) values)
      typed_fields [] types noted NoMore first free make fit many a ks out rest t = subst (λ (l : List WordKind). Typed code f a l rest out) (append-nil ks) t
      typed_fields (field ∷ fs) types noted NoMore first free make fit many a ks out rest t = absurd cc
      typed_fields [] types noted (Following v others) first free make fit many a ks out rest t = absurd cc
      typed_fields (field ∷ fs) types noted (Following v others) first free make fit many a ks out rest t =
          let w = worth_here v first (λ violation h. free violation (inl h)) in
          let kind = known field.kind in
          let push = emits globals elements scope v in
          let more = emits_all globals elements scope (kinds_in fs) others in
          let fitting = value_fits v first w.0 kind (expressions_in others) field.kind (field_kinds fs) w.1 types.0 fit in
          subst (λ o. Typed code f a ks (settled elements o kind (push (more rest)) (more rest)) out) (sym w.2)
          (puts_both globals.structs elements code f (kinds_of globals.structs elements kind) (fields_kinds globals.structs elements fs) (λ rest. settled elements (Some w.0) kind (push rest) rest) more
          (settled_pushed globals elements code f grounds push w.0 kind fitting (noted 0 field refl) (λ j ej. (noted_here v make.0 j (w.2 ∙ ap Some ej), typed_emits v first (λ violation h. free violation (inl h)) make.0 j (w.2 ∙ ap Some ej))))
          (typed_fields fs types.1 (λ m x is. noted (suc m) x is) others (first + expression_size v) (λ violation h. free violation (inr h)) make.1 (λ violation h. fit violation (inr h)) (let e : suc (length (expressions_in others)) ≡ suc (length fs) = many in omega (arith, e))) a ks out rest t)

    -- ---- a value is pushed as one of a type

    pub typed_pushes : (e : Expression) (first : ℕ) → Free (ExpressionHas globals s first e) → ExpressionMakes globals.types elements e → (w : Worth) (kind : ValueType) → worth globals scope e ≡ Some w → Fits w kind → Noted elements kind → PK kind (pushes globals elements scope kind e)
    typed_pushes e first free make w kind is fit noted a ks out rest t =
        subst (λ o. Typed code f a ks (settled elements o kind (emits globals elements scope e rest) rest) out) (sym is)
        (settled_pushed globals elements code f grounds (emits globals elements scope e) w kind fit noted (λ j ej. (noted_here e make j (is ∙ ap Some ej), typed_emits e first free make j (is ∙ ap Some ej))) a ks out rest t)
