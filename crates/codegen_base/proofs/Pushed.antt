-- If nothing is wrong with an expression, its code pushes its value: all forms.
use Rattle.std.proofs.Common.{◌≡◌, ℕ, ℤ, pos, suc, ◌+◌, Bool, true, false, List, [], ◌∷◌, ◌++◌, length, map, drop, Option, Some, None, option_map, Ok, refl, sym, ap, ◌∙◌, subst, arith, append_assoc, slice_get, ◌⊎◌, inl, inr}
use Rattle.std.specs.Prelude.{option_and_then}
use Rattle.std.specs.Result.{result_ok}
use Rattle.std.proofs.lemmas.Option.{same_Some}
use Rattle.std.proofs.lemmas.List.{append-nil, length-map, map-append}
use Rattle.syntax.specs.declared.node.UnaryOperator.{UnaryOperator}
use Rattle.syntax.specs.declared.node.UnaryOperator.TheVariants as signs
use Rattle.syntax.specs.declared.node.BinaryOperator.{BinaryOperator}
use Rattle.syntax.specs.Tree.{TypeExpression, Expression, Integer, Named, Parenthesized, Selection, Composite, Unary, Binary, Call, Receive, Make, MakeSized, Length, Capacity, Expressions, NoMore, Following, expressions_in}
use Rattle.syntax.specs.Measures.{type_size, expression_size}
use Rattle.bytecode.specs.declared.instr.Instr.TheVariants as instrs
use Rattle.bytecode.specs.declared.instr.WordKind.TheVariants as kinds
use Rattle.bytecode.specs.Effects.{count, operands, shape_kinds, params_in, kinds_in as kinds_of_shape}
use Rattle.bytecode.specs.Machine.{Frames, zero_of}
use Rattle.word.specs.declared.apply.Op.{Op}
use Rattle.word.specs.declared.apply.Op.TheVariants as ops
use Rattle.word.specs.declared.value.Word.{Word}
use Rattle.word.specs.declared.value.Word.TheVariants.{Int, Bool as Truth, Chan}
use Rattle.word.specs.Values.{Request}
use Rattle.word.specs.Values as requests
use Rattle.syntax.specs.declared.node.Direction.{Direction}
use Rattle.word.specs.Apply.{value as applied}
use Rattle.word.specs.Kinds.{Asks}
use Rattle.word.specs.Related.{here}
use Rattle.type_table.specs.Types.{ValueType, IntType, BoolType, StructType, ChannelType, element_type}
use Rattle.type_table.specs.Containment.{Field, fields_of}
use Rattle.type_table.specs.Scopes.{Globals, type_in}
use Rattle.typing_rules.specs.Calls.{parameters_of, result_of, yielded, result_type}
use Rattle.type_table.specs.Zeros.{zero_words}
use Rattle.typing_rules.specs.Worths.{Worth, Typed, Constant, Nil, literal, is_not, unary_worth, binary_worth, selected_worth, type_of_field, element_of, worth}
use Rattle.typing_rules.specs.Expressions.{nodes_of, ValueHas, ValuesFail, field_kinds, PassedHave, LiteralHas, default_type, ChannelHas, SizeHas, ExpressionHas, ExpressionsHave}
use Rattle.meaning.specs.Values.{Value, known, words_like, parted, first_of}
use Rattle.meaning.specs.Variables.{Blocks, scope_in}
use Rattle.meaning.specs.Worked.{Asking, Worked, ready, and_then}
use Rattle.meaning.specs.Expressions.{element_kind, item_zeros, received, measured, channel_in, word_in, one_word, before, binary, exactly, compared as compared_value, joined, type_of as type_of_value, selected as selected_value, value, fields as field_values, values as values_of, called, made, told_one, number_in, written_kind, zero_result}
use Rattle.codegen_base.specs.Elements.{shape_of, kinds_of}
use Rattle.codegen_base.specs.Layouts.{type_of, carried}
use Rattle.codegen_base.specs.Pushes.{signed, settled, elements_shape, makes as makes_plan, kinds_in, literal_types, emits, emits_all, pushes_zeros, operates, selects as selects_plan}
use Rattle.plan.specs.Plan.{Plan, Do}
use Rattle.plan.proofs.Words.{Words}
use Rattle.plan.proofs.Steps.{pushes_int, receives, discards, asks_len, asks_cap, makes, spot, calls as calls_function}
use Rattle.codegen_base.proofs.Alike.{worth_alike}
use Rattle.codegen_base.proofs.Seen.{Like}
use Rattle.codegen_base.proofs.Static.{variables_known}
use Rattle.codegen_base.proofs.Likeness.{is_int, is_bool, is_channel, made_like, like_length, like_append, zeros_like, kinds_zeros, all_words_of, AreLike, kinds_long}
use Rattle.codegen_base.proofs.Fields.{AllTyped, fields_zeros, struct_zeros}
use Rattle.codegen_base.proofs.Typing.{Free, Fits, fits, nodes_end, yield_there, worth_there, selects, unary_made, binary_made, carried_there, literal_there, typed_same}
use Rattle.codegen_base.proofs.Operators.{Gives}
use Rattle.codegen_base.proofs.Splits.{unary_typed, constant_untyped}
use Rattle.codegen_base.proofs.Gave.{Follows, stays, bind as follows_then}
use Rattle.codegen_base.proofs.Evaluates.{at, Slip, Stands, Lies, Evals, EvalsLike, lies, bind, after_slip, operated}
use Rattle.codegen_base.proofs.Told.{Lay, told_goes, told_one_goes, called_goes}
use Rattle.codegen_base.proofs.Settled.{P, pushes_by, operator_goes}
use Rattle.codegen_base.proofs.Expressions.{zeros_goes, blocks, same_worth, type_here, type_there, named_goes, selection_goes}
use Rattle.codegen_base.proofs.Called.{AllFit, same_count, calls_there}
use Rattle.codegen_base.proofs.Noted.{shape_there}
use Rattle.codegen_base.proofs.Channels.{channel_worth, made_type, size_fits}
use Rattle.codegen_base.proofs.Known.{worth_noted}
use Rattle.codegen_base.proofs.Makes.{ExpressionMakes, ExpressionsMake, type_anywhere}
use Rattle.bytecode.specs.declared.instr.WordKind.{WordKind}
use Rattle.codegen_base.proofs.Running.{Compiled, Coded, Running, Standing}

module _ {globals : Globals} {program : Compiled globals} {coded : Coded program} {running : Running coded} (standing : Standing running) where
  open program use {elements, code, typed, types_known as types-known}
  open coded use {number as g, function as f, there}
  open running use {context, context.{callers}}
  open standing use {locals as ls, scope, begins as ns, checked as s, placed, alike, room, holding, noted}

  abbrev env : Blocks
  env = blocks standing

  pub checked : (e : Expression) → worth globals s e ≡ worth globals scope e
  checked e = worth_alike s scope alike globals e

  abbrev EL : Worked Value → List Word → Plan → Option ℕ → ℕ → List Word → List Word → Type 0
  EL o zeros rest out place stack base = EvalsLike standing o zeros rest out place stack base

  abbrev pub EK : Worked Value → ValueType → Plan → Option ℕ → ℕ → List Word → List Word → Type 0
  EK o kind rest out place stack base = Evals standing o kind rest out place stack base

  abbrev pub ST : Plan → ℕ → Option ℕ → Type 0
  ST plan place out = Stands standing plan place out

  abbrev SP : ℕ → List Word → Frames
  SP place stack = at standing place stack

  abbrev LI : List Word → Plan → Option ℕ → List Word → Value → Frames → Type 0
  LI zeros rest out base v d = Lies standing zeros rest out base v d

  abbrev PK : Worked Value → ValueType → (Plan → Plan) → Type 0
  PK o kind push = P standing o kind push

  -- ---- unary operators

  unary_goes : (operator : UnaryOperator) (o : Worked Value) (t k : ValueType) (push : Plan → Plan) → unary_worth operator (Typed t) ≡ Ok (Typed k) → PK o t push → PK (and_then o (λ a. before operator (word_in a))) k (λ rest. push (signed operator rest))
  unary_goes operator o t k push made el rest out place stack on = go operator (unary_typed operator t k made) (el (signed operator rest) out place stack on) where
    applied_goes : (op : Op) (w : Word) (j : ValueType) (to : ℕ) → count (operands op) ≡ 1 → Gives globals.structs (applied op w w) j → ST (Do (instrs.Apply op) rest) to out
        → EK (one_word (applied op w w)) j rest out to (stack ++ w ∷ []) stack
    applied_goes op w j to one gives on1 = operated standing (w ∷ []) op (applied op w w) j rest out to stack refl one gives on1

    int_by : (operator : UnaryOperator) → ((n : ℤ) (to : ℕ) → ST (signed operator rest) to out → EK (before operator (Int n)) IntType rest out to (stack ++ Int n ∷ []) stack) → t ≡ IntType → k ≡ IntType → EK o t (signed operator rest) out place stack stack
        → EK (and_then o (λ a. before operator (word_in a))) k rest out place stack stack
    int_by operator each it ik ev =
        subst (λ j. EK (and_then o (λ a. before operator (word_in a))) j rest out place stack stack) (sym ik)
        (bind standing o (λ a. before operator (word_in a)) t IntType (signed operator rest) rest out out place stack stack ev
        (λ v like to on1. let n = is_int globals.structs v (subst (λ j. Like globals.structs j v) it like) in
        subst (λ (x : Value). EK (before operator (word_in x)) IntType rest out to (stack ++ x) stack) (sym n.1) (each n.0 to on1)))

    bool_by : t ≡ BoolType → k ≡ BoolType → EK o t (signed signs.Not rest) out place stack stack → EK (and_then o (λ a. before signs.Not (word_in a))) k rest out place stack stack
    bool_by it ik ev =
        subst (λ j. EK (and_then o (λ a. before signs.Not (word_in a))) j rest out place stack stack) (sym ik)
        (bind standing o (λ a. before signs.Not (word_in a)) t BoolType (signed signs.Not rest) rest out out place stack stack ev
        (λ v like to on1. let b = is_bool globals.structs v (subst (λ j. Like globals.structs j v) it like) in
        subst (λ (x : Value). EK (before signs.Not (word_in x)) BoolType rest out to (stack ++ x) stack) (sym b.1) (applied_goes ops.Not (Truth b.0) BoolType to refl refl on1)))

    go : (operator : UnaryOperator) → (((is_not operator ≡ true) × (t ≡ BoolType) × (k ≡ BoolType)) ⊎ ((is_not operator ≡ false) × (t ≡ IntType) × (k ≡ IntType))) → EK o t (signed operator rest) out place stack stack → EK (and_then o (λ a. before operator (word_in a))) k rest out place stack stack
    go signs.Not (inl (e, it, ik)) ev = bool_by it ik ev
    go signs.Not (inr (e, it, ik)) ev = absurd cc
    go signs.Plus (inl (e, it, ik)) ev = absurd cc
    go signs.Plus (inr (e, it, ik)) ev = int_by signs.Plus (λ n to on1. lies standing (Int n ∷ []) IntType rest out to (stack ++ Int n ∷ []) stack to refl here on1) it ik ev
    go signs.Negate (inl (e, it, ik)) ev = absurd cc
    go signs.Negate (inr (e, it, ik)) ev = int_by signs.Negate (λ n to on1. applied_goes ops.Neg (Int n) IntType to refl refl on1) it ik ev
    go signs.Complement (inl (e, it, ik)) ev = absurd cc
    go signs.Complement (inr (e, it, ik)) ev = int_by signs.Complement (λ n to on1. applied_goes ops.Com (Int n) IntType to refl refl on1) it ik ev

  -- ---- one value after the other

  joins : (o p : Worked Value) (kind : ValueType) (zeros : List Word) (push : Plan) (rest : Plan) (out : Option ℕ) (place : ℕ) (stack : List Word) → EK o kind push out place stack stack
      → ((v : Value) (to : ℕ) → ST push to out → EL p zeros rest out to (stack ++ v) (stack ++ v)) → EL (joined o p) (zero_words globals.structs kind ++ zeros) rest out place stack stack
  joins o p kind zeros push rest out place stack ev more =
      follows_then context o (λ a. and_then p (λ b. ready (a ++ b))) (LI (zero_words globals.structs kind) push out stack) Goal (SP place stack) ev
      (λ v d l. subst (λ x. Follows context (and_then p (λ b. ready (v ++ b))) Goal x) (sym l.2)
      (follows_then context p (λ b. ready (v ++ b)) (LI zeros rest out (stack ++ v)) Goal (SP l.0 (stack ++ v)) (more v l.0 l.3)
      (λ b e m. stays context (v ++ b) Goal e (m.0, like_append (zero_words globals.structs kind) zeros v b l.1 m.1, m.2 ∙ ap (SP m.0) (append_assoc stack v b), m.3)))) where
        Goal : Value → Frames → Type 0
        Goal = LI (zero_words globals.structs kind ++ zeros) rest out stack

  -- ---- requests

  pub channel_at : (e : Expression) (first : ℕ) → Free (ExpressionHas globals s first e) → Free (ChannelHas (worth globals s e) (nodes_of first e)) → (d : Direction) × (t : ValueType) × (worth globals scope e ≡ Some (Typed (ChannelType d t)))
  channel_at e first free channel =
      let w = worth_there globals s types-known (variables_known s scope alike placed.known) e first free in
      let c = carried_there globals s e first w.0 w.1 channel in
      let (d, t, ch) = channel_worth w.0 c.0 (sym (ap element_of w.1) ∙ c.1) in (d, t, sym (checked e) ∙ w.1 ∙ ap Some ch)

  -- what a channel carries has a shape
  pub shaped : (e : Expression) → ExpressionMakes globals.types elements e → (d : Direction) (t : ValueType) → worth globals scope e ≡ Some (Typed (ChannelType d t)) → slice_get code.shapes (shape_of elements t) ≡ Some (kinds_of globals.structs elements t)
  shaped e makes d t is =
      ap (λ (l : List (List WordKind)). slice_get l (shape_of elements t)) program.shapes
      ∙ shape_there globals.structs elements t (worth_noted elements globals program.fields_noted program.results_noted scope noted e makes (ChannelType d t) is).1

  -- the values of all lie on the stack, one after the other
  abbrev pub LA : List ValueType → Plan → Option ℕ → List Word → List Value → Frames → Type 0
  LA types rest out base vs d = (to : ℕ) × AreLike globals.structs types vs × (d ≡ SP to (base ++ all_words_of vs)) × ST rest to out

  -- a new channel, whose size lies on the stack
  made_goes : (kind : TypeExpression) (k : ValueType) (n : ℤ) (rest : Plan) (out : Option ℕ) (place : ℕ) (stack : List Word) → ExpressionMakes globals.types elements (Make kind) → worth globals scope (Make kind) ≡ Some (Typed k) → ST (makes_plan globals elements scope kind rest) place out
      → EK (made globals kind n) k rest out place (stack ++ Int n ∷ []) stack
  made_goes kind k n rest out place stack noted-kind is on =
      let (d, t, at-kind, k-is) = made_type (type_in globals.types scope kind) k is in
      let written : written_kind globals kind ≡ ChannelType d t = ap known (type_anywhere globals.types scope kind (ChannelType d t) at-kind) in
      let shape-at : elements_shape elements (known (type_in globals.types scope kind)) ≡ shape_of elements t = ap (λ o. elements_shape elements (known o)) at-kind in
      let has = shaped (Make kind) noted-kind d t (is ∙ ap (λ j. Some (Typed j)) (sym k-is)) in
      let zero-is : map zero_of (kinds_of globals.structs elements t) ≡ zero_words globals.structs t = kinds_zeros globals.structs elements t in
      let q = requests.Make n (zero_words globals.structs t) in
      subst (λ j. EK (told_one (Chan None ∷ []) (Asking (requests.Make n (zero_words globals.structs (known (element_type j)))))) k rest out place (stack ++ Int n ∷ []) stack) (sym written)
      (subst (λ j. EK (told_one (Chan None ∷ []) (Asking q)) j rest out place (stack ++ Int n ∷ []) stack) k-is
      (told_one_goes standing (ChannelType d t) q (instrs.Make (shape_of elements t)) (Int n ∷ []) rest out place stack (on.0 ∙ ap (λ x. Some (instrs.Make x)) shape-at) refl refl
      (makes code g f there callers place ls stack (shape_of elements t) (kinds_of globals.structs elements t) n (on.0 ∙ ap (λ x. Some (instrs.Make x)) shape-at) has (omega (arith, program.narrow t, kinds_long globals.structs elements t)) ∙ ap (λ (z : Words). Asks (requests.Make n z)) zero-is)
      refl (running.calm q (SP place (stack ++ Int n ∷ [])) tt) on.1))

  -- an item is kept, and whether it was sent is dropped
  received_goes : (t : ValueType) (shape : ℕ) (c : Option ℕ) (rest : Plan) (out : Option ℕ) (place : ℕ) (stack : List Word) → slice_get code.shapes shape ≡ Some (kinds_of globals.structs elements t)
      → ST (Do (instrs.Receive shape) (Do (instrs.Discard 1) rest)) place out → EK (and_then (received globals t (Chan c ∷ [])) (λ got. ready (first_of got))) t rest out place (stack ++ Chan c ∷ []) stack
  received_goes t shape c rest out place stack shape-is on =
      follows_then context (received globals t (Chan c ∷ [])) (λ got. ready (first_of got)) (Lay standing zeros (Do (instrs.Discard 1) rest) out stack) Goal (SP place (stack ++ Chan c ∷ []))
      (told_goes standing zeros (requests.Receive c) (instrs.Receive shape) (Chan c ∷ []) (Do (instrs.Discard 1) rest) out place stack on.0 refl refl
      (receives code g f there callers place ls stack shape c on.0) zero-is (running.calm (requests.Receive c) (SP place (stack ++ Chan c ∷ [])) tt) on.1)
      (λ got d l. subst (λ (x : List Value). Follows context (ready (first_of x)) Goal d) (sym l.2)
      (subst (λ x. Follows context (ready (words_like zero l.1)) Goal x) (sym (l.3 ∙ ap (λ (x : List Value). SP l.0 (stack ++ all_words_of x)) l.2 ∙ ap (SP l.0) (apart l.1)))
      (lies standing (words_like zero l.1) t rest out l.0 ((stack ++ words_like zero l.1) ++ sent l.1) stack (l.0 + 1) (made_like globals.structs t l.1)
      (discards code g f there callers l.0 ls (stack ++ words_like zero l.1) (sent l.1) 1 l.4.0 (sym (like_length (Truth false ∷ []) (drop (length zero) l.1)))) l.4.1))) where
        zero : Value
        zero = zero_words globals.structs t

        zeros : List Value
        zeros = item_zeros globals t

        Goal : Value → Frames → Type 0
        Goal = LI zero rest out stack

        sent : List Word → Value
        sent ws = words_like (Truth false ∷ []) (drop (length zero) ws)

        apart : (ws : List Word) → stack ++ all_words_of (parted zeros ws) ≡ (stack ++ words_like zero ws) ++ sent ws
        apart ws = ap (λ (x : Words). stack ++ (words_like zero ws ++ x)) (append-nil (sent ws)) ∙ sym (append_assoc stack (words_like zero ws) (sent ws))

        shape-kinds : shape_kinds code shape ≡ kinds_of globals.structs elements t
        shape-kinds = ap kinds_of_shape shape-is

        zero-is : map zero_of (shape_kinds code shape ++ kinds.Bool ∷ []) ≡ all_words_of zeros
        zero-is = map-append zero_of (shape_kinds code shape) (kinds.Bool ∷ []) ∙ ap (λ (z : Words). z ++ Truth false ∷ []) (ap (map zero_of) shape-kinds ∙ kinds_zeros globals.structs elements t)

  -- ---- all forms

  -- nothing is wrong with an expression, which has these nodes
  abbrev pub Whole : ℕ → Expression → Type 0
  Whole first e = Free (ExpressionHas globals s first e)

  pub worth_here : (e : Expression) (first : ℕ) → Whole first e → (w : Worth) × (worth globals s e ≡ Some w) × (worth globals scope e ≡ Some w)
  worth_here e first free = let w = worth_there globals s types-known (variables_known s scope alike placed.known) e first free in (w.0, w.1, sym (checked e) ∙ w.1)

  value_fits : (v : Expression) (first : ℕ) (w : Worth) (kind : ValueType) (rest : List Expression) (o : Option ValueType) (kinds : List (Option ValueType)) → worth globals s v ≡ Some w → o ≡ Some kind → Free (ValuesFail globals s first (v ∷ rest) (o ∷ kinds)) → Fits w kind
  value_fits v first w kind rest o kinds is has free =
      fits w kind (nodes_of first v) (nodes_end first v) (λ violation h. free violation (inl (subst (λ x. ValueHas (worth globals s v) x (nodes_of first v) violation) (sym has) (subst (λ x. ValueHas x (Some kind) (nodes_of first v) violation) (sym is) h))))

  binary_typed : (operator : BinaryOperator) (l r : Expression) (a b : Worth) (w : Worth) (k : ValueType) → worth globals scope l ≡ Some a → worth globals scope r ≡ Some b → binary_worth operator a b ≡ Ok w → worth globals scope (Binary operator l r) ≡ Some (Typed k) → binary_worth operator a b ≡ Ok (Typed k)
  binary_typed operator l r a b w k il ir made is = made ∙ ap Ok (same_Some w (Typed k) (sym (ap (option_and_then (λ x. option_and_then (λ y. result_ok (binary_worth operator x y)) (worth globals scope r))) il ∙ ap (option_and_then (λ y. result_ok (binary_worth operator a y))) ir ∙ ap result_ok made) ∙ is))

  unary_made_typed : (operator : UnaryOperator) (e : Expression) (a w : Worth) (k : ValueType) → worth globals scope e ≡ Some a → unary_worth operator a ≡ Ok w → worth globals scope (Unary operator e) ≡ Some (Typed k) → unary_worth operator a ≡ Ok (Typed k)
  unary_made_typed operator e a w k ie made is = made ∙ ap Ok (same_Some w (Typed k) (sym (ap (option_and_then (λ x. result_ok (unary_worth operator x))) ie ∙ ap result_ok made) ∙ is))

  integer_untyped : (o : Option ℤ) (k : ValueType) → option_map Constant o ≡ Some (Typed k) → ⊥
  integer_untyped None k e = absurd cc
  integer_untyped (Some z) k e = absurd cc

  typed_field : (o : Option ValueType) (k : ValueType) → option_map Typed o ≡ Some (Typed k) → o ≡ Some k
  typed_field None k e = absurd cc
  typed_field (Some t) k e = ap Some (typed_same t k e)

  -- what stands round the value of an operator
  exactly_typed : (e : Expression) (k : ValueType) (o : Worked Value) → worth globals scope e ≡ Some (Typed k) → exactly (worth globals (scope_in env) e) o ≡ o
  exactly_typed e k o is = ap (λ w. exactly w o) (same_worth standing e ∙ is)

  compared_by : (operator : BinaryOperator) (l r : Expression) (a b : Worth) (o : Worked Value) → worth globals scope l ≡ Some a → worth globals scope r ≡ Some b
      → compared_value operator (worth globals (scope_in env) l) (worth globals (scope_in env) r) o ≡ compared_value operator (Some a) (Some b) o
  compared_by operator l r a b o il ir =
      ap (λ w. compared_value operator w (worth globals (scope_in env) r) o) (same_worth standing l ∙ il) ∙ ap (λ w. compared_value operator (Some a) w o) (same_worth standing r ∙ ir)

  abbrev plan_by : BinaryOperator → Option Worth → Option Worth → (Plan → Plan) → (Plan → Plan) → Plan → Plan
  plan_by operator o p left right rest = operates elements operator o p (known (default_type o)) (known (default_type p)) left right rest

  -- a literal without values
  zero_goes : (n : ℕ) (k : ValueType) (rest : Plan) (out : Option ℕ) (place : ℕ) (stack : List Word) → StructType n ≡ k → ST (pushes_zeros (kinds_of globals.structs elements (StructType n)) rest) place out
      → EK (ready (zero_words globals.structs (StructType n))) k rest out place stack stack
  zero_goes n k rest out place stack is on =
      let z = zeros_goes standing (kinds_of globals.structs elements (StructType n)) rest out place stack on in
      subst (λ j. EK (ready (zero_words globals.structs (StructType n))) j rest out place stack stack) is
      (lies standing (zero_words globals.structs (StructType n)) (StructType n) rest out place stack stack z.0 (zeros_like globals.structs (StructType n))
      (subst (λ (x : Words). Slip standing place stack z.0 (stack ++ x)) (kinds_zeros globals.structs elements (StructType n)) z.1) z.2)

  -- the code of a literal's values pushes them in order
  abbrev AreEmitted : ℕ → Expressions → Type 0
  AreEmitted first values =
      (fs : List Field) → AllTyped globals.structs fs → Free (ExpressionsHave globals s first values) → Free (ValuesFail globals s first (expressions_in values) (field_kinds fs)) → length (expressions_in values) ≡ length fs
      → (rest : Plan) (out : Option ℕ) (place : ℕ) (stack : List Word) → ST (emits_all globals elements scope (kinds_in fs) values rest) place out → EL (field_values globals env values) (fields_zeros globals.structs fs) rest out place stack stack

  literal_goes : (name : List ℕ) (values : Expressions) (trailing : Bool) (first : ℕ) → Whole first (Composite name values trailing) → (k : ValueType) → worth globals scope (Composite name values trailing) ≡ Some (Typed k) → AreEmitted first values
      → PK (value globals env (Composite name values trailing)) k (emits globals elements scope (Composite name values trailing))
  literal_goes name NoMore trailing first free k is by_fields rest out place stack on =
      let n = literal_there globals s first name NoMore trailing free in
      let c : worth globals scope (Composite name NoMore trailing) ≡ Some (Typed (StructType n.0)) = sym (checked (Composite name NoMore trailing)) ∙ ap (option_map (λ n. Typed (StructType n))) n.1 in
      let here-kind : type_of globals elements scope (Composite name NoMore trailing) ≡ StructType n.0 = type_here standing (Composite name NoMore trailing) (StructType n.0) c in
      let there-kind : type_of_value globals env (Composite name NoMore trailing) ≡ StructType n.0 = type_there standing (Composite name NoMore trailing) (StructType n.0) c in
      subst (λ j. EK (ready (zero_words globals.structs j)) k rest out place stack stack) (sym there-kind)
      (zero_goes n.0 k rest out place stack (typed_same (StructType n.0) k (sym c ∙ is)) (subst (λ j. ST (pushes_zeros (kinds_of globals.structs elements j) rest) place out) here-kind on))
  literal_goes name (Following v others) trailing first free k is by_fields rest out place stack on =
      let values = Following v others in
      let n = literal_there globals s first name values trailing free in
      let c : worth globals scope (Composite name values trailing) ≡ Some (Typed (StructType n.0)) = sym (checked (Composite name values trailing)) ∙ ap (option_map (λ n. Typed (StructType n))) n.1 in
      let here-kind : type_of globals elements scope (Composite name values trailing) ≡ StructType n.0 = type_here standing (Composite name values trailing) (StructType n.0) c in
      let end = first + expression_size (Composite name values trailing) in
      let passed : Free (PassedHave globals s first (expressions_in values) (field_kinds (fields_of globals.structs n.0)) end) =
      λ violation h. free violation (inr (subst (λ o. LiteralHas globals s o first (expressions_in values) end violation) (sym n.1) h)) in
      let many = same_count (length (expressions_in values)) (length (field_kinds (fields_of globals.structs n.0))) end (omega arith) (λ violation h. passed violation (inl h)) in
      let fs = fields_of globals.structs n.0 in
      subst (λ j. EK (field_values globals env values) j rest out place stack stack) (typed_same (StructType n.0) k (sym c ∙ is))
      (subst (λ (z : List Word). EL (field_values globals env values) z rest out place stack stack) (sym (struct_zeros globals.structs program.wide n.0 (typed n.0)))
      (by_fields fs (typed n.0) (λ violation h. free violation (inl h)) (λ violation h. passed violation (inr h)) (many ∙ length-map fs (λ (field : Field). field.kind)) rest out place stack
      (subst (λ j. ST (emits_all globals elements scope (literal_types globals elements scope j) values rest) place out) here-kind on)))

  mutual
    pub emits_goes : (e : Expression) (first : ℕ) → Whole first e → ExpressionMakes globals.types elements e → (k : ValueType) → worth globals scope e ≡ Some (Typed k) → PK (value globals env e) k (emits globals elements scope e)
    emits_goes (Integer v) first free makes k is rest out place stack on = absurd (integer_untyped (literal v) k is)
    emits_goes (Named name) first free makes k is rest out place stack on = named_goes standing name k rest out place stack is on
    emits_goes (Parenthesized inner) first free makes k is rest out place stack on = emits_goes inner first free makes k is rest out place stack on
    emits_goes (Selection whole field) first free makes k is rest out place stack on =
        let w = worth_here whole first (λ violation h. free violation (inl h)) in
        let x = selects globals s first whole field w.0 w.1 free in
        let of : worth globals scope whole ≡ Some (Typed x.kind) = sym (checked whole) ∙ x.of in
        let t : x.at.kind ≡ Some k = typed_field x.at.kind k (sym (ap (option_and_then (selected_worth globals field)) of ∙ ap (λ o. option_map Typed (type_of_field o)) x.found) ∙ is) in
        let here-kind : type_of globals elements scope whole ≡ x.kind = type_here standing whole x.kind of in
        let there-kind : type_of_value globals env whole ≡ x.kind = type_there standing whole x.kind of in
        subst (λ j. EK (and_then (value globals env whole) (λ words. ready (selected_value globals env j field words))) k rest out place stack stack) (sym there-kind)
        (selection_goes standing whole field x.kind k x.at rest out place stack x.found t
        (emits_goes whole first (λ violation h. free violation (inl h)) makes x.kind of (selects_plan globals elements scope x.kind field rest) out place stack
        (subst (λ j. ST (emits globals elements scope whole (selects_plan globals elements scope j field rest)) place out) here-kind on)))
    emits_goes (Composite name values trailing) first free makes k is rest out place stack on = literal_goes name values trailing first free k is (λ fs known-types fr ft many rest out place stack on. fields_goes fs known-types values first fr makes ft many rest out place stack on) rest out place stack on
    emits_goes (Unary operator e) first free makes k is rest out place stack on =
        let a = worth_here e first (λ violation h. free violation (inl h)) in
        let w = unary_made globals s first operator e a.0 a.1 free in
        subst (λ o. EK o k rest out place stack stack) (sym (exactly_typed (Unary operator e) k (and_then (value globals env e) (λ a. before operator (word_in a))) is))
        (by_worth a.0 a.2 (unary_made_typed operator e a.0 w.0 k a.2 w.1 is) (λ t et. emits_goes e first (λ violation h. free violation (inl h)) makes t (a.2 ∙ ap Some et))) where
          by_worth : (a : Worth) → worth globals scope e ≡ Some a → unary_worth operator a ≡ Ok (Typed k) → ((t : ValueType) → a ≡ Typed t → PK (value globals env e) t (emits globals elements scope e)) → EK (and_then (value globals env e) (λ a. before operator (word_in a))) k rest out place stack stack
          by_worth (Typed t) ie made el = unary_goes operator (value globals env e) t k (emits globals elements scope e) made (el t refl) rest out place stack on
          by_worth (Constant z) ie made el = absurd (constant_untyped operator z k made)
          by_worth Nil ie made el = absurd cc
    emits_goes (Binary operator l r) first free makes k is rest out place stack on =
        let a = worth_here l first (λ violation h. free violation (inl h)) in
        let b = worth_here r (first + expression_size l) (λ violation h. free violation (inr (inl h))) in
        let w = binary_made globals s first operator l r a.0 b.0 a.1 b.1 free in
        let worked = binary operator (value globals env l) (value globals env r) in
        let left = emits globals elements scope l in
        let right = emits globals elements scope r in
        subst (λ o. EK o k rest out place stack stack) (sym (exactly_typed (Binary operator l r) k (compared_value operator (worth globals (scope_in env) l) (worth globals (scope_in env) r) worked) is ∙ compared_by operator l r a.0 b.0 worked a.2 b.2))
        (operator_goes standing operator l r a.0 b.0 k a.2 b.2 (binary_typed operator l r a.0 b.0 w.0 k a.2 b.2 w.1 is)
        (λ t et. emits_goes l first (λ violation h. free violation (inl h)) makes.0 t (a.2 ∙ ap Some et)) (λ t et. emits_goes r (first + expression_size l) (λ violation h. free violation (inr (inl h))) makes.1 t (b.2 ∙ ap Some et)) rest out place stack
        (subst (λ o. ST (plan_by operator (Some a.0) o left right rest) place out) b.2 (subst (λ o. ST (plan_by operator o (worth globals scope r) left right rest) place out) a.2 on)))
    emits_goes (Receive channel) first free makes k is rest out place stack on =
        let (d, t, ch) = channel_at channel first (λ violation h. free violation (inl h)) (λ violation h. free violation (inr (inl h))) in
        let same-kind : t ≡ k = typed_same t k (sym (ap (λ o. option_map Typed (element_of o)) ch) ∙ is) in
        let runs : element_kind globals env channel ≡ t = ap (λ o. known (element_of o)) (same_worth standing channel ∙ ch) in
        let laid : carried globals elements scope channel ≡ t = ap (λ o. known (element_of o)) ch in
        let go : ValueType → Value → Worked Value = λ j v. and_then (received globals j v) (λ got. ready (first_of got)) in
        let plan : ValueType → Plan = λ j. Do (instrs.Receive (shape_of elements j)) (Do (instrs.Discard 1) rest) in
        subst (λ j. EK (and_then (value globals env channel) (go j)) k rest out place stack stack) (sym runs)
        (subst (λ j. EK (and_then (value globals env channel) (go t)) j rest out place stack stack) same-kind
        (bind standing (value globals env channel) (go t) (ChannelType d t) t (plan t) rest out out place stack stack
        (emits_goes channel first (λ violation h. free violation (inl h)) makes (ChannelType d t) ch (plan t) out place stack (subst (λ j. ST (emits globals elements scope channel (plan j)) place out) laid on))
        (λ v like to on1. let w = is_channel globals.structs d t v like in
        subst (λ (x : Value). EK (go t x) t rest out to (stack ++ x) stack) (sym w.1) (received_goes t (shape_of elements t) w.0 rest out to stack (shaped channel makes d t ch) on1))))
    emits_goes (Length channel) first free makes k is rest out place stack on =
        let (d, t, ch) = channel_at channel first (λ violation h. free violation (inl h)) (λ violation h. free violation (inr h)) in
        subst (λ j. EK (value globals env (Length channel)) j rest out place stack stack) (typed_same IntType k is)
        (bind standing (value globals env channel) (λ c. measured globals (requests.Len (channel_in (word_in c)))) (ChannelType d t) IntType (Do instrs.Len rest) rest out out place stack stack
        (emits_goes channel first (λ violation h. free violation (inl h)) makes (ChannelType d t) ch (Do instrs.Len rest) out place stack on)
        (λ v like to on1. let w = is_channel globals.structs d t v like in
        subst (λ (x : Value). EK (measured globals (requests.Len (channel_in (word_in x)))) IntType rest out to (stack ++ x) stack) (sym w.1)
        (told_one_goes standing IntType (requests.Len w.0) instrs.Len (Chan w.0 ∷ []) rest out to stack on1.0 refl refl (asks_len code g f there callers to ls stack w.0 on1.0) refl (running.calm (requests.Len w.0) (SP to (stack ++ Chan w.0 ∷ [])) tt) on1.1)))
    emits_goes (Capacity channel) first free makes k is rest out place stack on =
        let (d, t, ch) = channel_at channel first (λ violation h. free violation (inl h)) (λ violation h. free violation (inr h)) in
        subst (λ j. EK (value globals env (Capacity channel)) j rest out place stack stack) (typed_same IntType k is)
        (bind standing (value globals env channel) (λ c. measured globals (requests.Cap (channel_in (word_in c)))) (ChannelType d t) IntType (Do instrs.Cap rest) rest out out place stack stack
        (emits_goes channel first (λ violation h. free violation (inl h)) makes (ChannelType d t) ch (Do instrs.Cap rest) out place stack on)
        (λ v like to on1. let w = is_channel globals.structs d t v like in
        subst (λ (x : Value). EK (measured globals (requests.Cap (channel_in (word_in x)))) IntType rest out to (stack ++ x) stack) (sym w.1)
        (told_one_goes standing IntType (requests.Cap w.0) instrs.Cap (Chan w.0 ∷ []) rest out to stack on1.0 refl refl (asks_cap code g f there callers to ls stack w.0 on1.0) refl (running.calm (requests.Cap w.0) (SP to (stack ++ Chan w.0 ∷ [])) tt) on1.1)))
    emits_goes (Call function values trailing) first free makes k is rest out place stack on =
        let end = first + expression_size (Call function values trailing) in
        let c = calls_there globals s types-known (variables_known s scope alike placed.known) program.params_known function values first end (omega arith) (λ violation h. free violation (inl (inl h))) (λ violation h. free violation (inl (inr h))) in
        let n = c.number in
        let y = yield_there globals s first function values trailing n c.calls free in
        let t = types-known.results n y.0 y.1 in
        let F = program.functions function n c.is in
        let own : worth globals s (Call function values trailing) ≡ Some (Typed t.0) = ap (λ x. option_map Typed (result_type globals x)) c.calls ∙ ap (λ x. option_map Typed (yielded x)) y.1 ∙ ap (option_map Typed) t.1 in
        let same-kind : t.0 ≡ k = typed_same t.0 k (sym own ∙ checked (Call function values trailing) ∙ is) in
        let zero-is : zero_result globals (result_of globals n) ≡ zero_words globals.structs k = ap (zero_result globals) y.1 ∙ ap (λ o. zero_words globals.structs (known o)) t.1 ∙ ap (zero_words globals.structs) same-kind in
        let types = map known (parameters_of globals n) in
        let Goal = LI (zero_words globals.structs k) rest out stack in
        subst (λ m. Follows context (and_then (values_of globals env values) (called globals m)) Goal (SP place stack)) (sym c.numbered)
        (follows_then context (values_of globals env values) (called globals n) (LA types (Do (instrs.Call n) rest) out stack) Goal (SP place stack)
        (all_goes values types first (λ violation h. free violation (inl (inl h))) makes c.fit (Do (instrs.Call n) rest) out place stack (subst (λ m. ST (emits_all globals elements scope (map known (parameters_of globals m)) values (Do (instrs.Call m) rest)) place out) c.numbered on))
        (λ vs d l. subst (λ x. Follows context (called globals n vs) Goal x) (sym l.2)
        (called_goes standing n vs (all_words_of vs) F.0 k rest out l.0 stack l.3.0 (ap (λ o. length (params_in o)) F.1 ∙ F.2 vs l.1) F.1
        (λ v. subst (λ (z : List Word). words_like (zero_words globals.structs k) (words_like z v) ≡ words_like z v) (sym zero-is) (made_like globals.structs k v))
        (running.calls n vs (SP l.0 (stack ++ all_words_of vs)) (spot code g f there callers (l.0 + 1) ls stack) F.0 l.1 F.1 (calls_function code g f there callers l.0 ls stack (all_words_of vs) n F.0 l.3.0 (ap (λ o. length (params_in o)) F.1 ∙ F.2 vs l.1) F.1)) l.3.1)))
    emits_goes (Make kind) first free makes k is rest out place stack on =
        after_slip standing (made globals kind (pos 0)) k rest out place stack stack (place + 1) (stack ++ Int (pos 0) ∷ []) (pushes_int code g f there callers place ls stack (pos 0) on.0)
        (made_goes kind k (pos 0) rest out (place + 1) stack makes is on.1)
    emits_goes (MakeSized kind size) first free makes k is rest out place stack on =
        let w = worth_here size (first + type_size kind) (λ violation h. free violation (inr (inl h))) in
        let fit : Fits w.0 IntType = size_fits size (first + type_size kind) w.0 (λ violation h. free violation (inr (inr (inl (subst (λ o. SizeHas o (nodes_of (first + type_size kind) size) violation) (sym w.1) h))))) in
        bind standing (value globals env size) (λ n. made globals kind (number_in (word_in n))) IntType k (makes_plan globals elements scope kind rest) rest out out place stack stack
        (pushes_by standing size w.0 IntType w.2 fit (λ t et. emits_goes size (first + type_size kind) (λ violation h. free violation (inr (inl h))) makes.1 t (w.2 ∙ ap Some et)) (makes_plan globals elements scope kind rest) out place stack
        (subst (λ o. ST (settled elements o IntType (emits globals elements scope size (makes_plan globals elements scope kind rest)) (makes_plan globals elements scope kind rest)) place out) w.2 on))
        (λ v like to on1. let n = is_int globals.structs v like in
        subst (λ (x : Value). EK (made globals kind (number_in (word_in x))) k rest out to (stack ++ x) stack) (sym n.1) (made_goes kind k n.0 rest out to stack makes.0 is on1))

    -- values, one after the other
    pub all_goes : (values : Expressions) (types : List ValueType) (first : ℕ) → Free (ExpressionsHave globals s first values) → ExpressionsMake globals.types elements values → AllFit globals s values types → (rest : Plan) (out : Option ℕ) (place : ℕ) (stack : List Word) → ST (emits_all globals elements scope types values rest) place out
        → Follows context (values_of globals env values) (LA types rest out stack) (SP place stack)
    all_goes NoMore [] first free makes fit rest out place stack on = stays context [] (LA [] rest out stack) (SP place stack) (place, tt, ap (SP place) (sym (append-nil stack)), on)
    all_goes NoMore (kind ∷ types) first free makes fit rest out place stack on = absurd fit
    all_goes (Following v others) [] first free makes fit rest out place stack on = absurd fit
    all_goes (Following v others) (kind ∷ types) first free makes ((w, is, fits), more-fit) rest out place stack on =
        let more = emits_all globals elements scope types others rest in
        let here-worth : worth globals scope v ≡ Some w = sym (checked v) ∙ is in
        let Goal = LA (kind ∷ types) rest out stack in
        follows_then context (value globals env v) (λ a. and_then (values_of globals env others) (λ tail. ready (a ∷ tail))) (LI (zero_words globals.structs kind) more out stack) Goal (SP place stack)
        (pushes_by standing v w kind here-worth fits (λ t et. emits_goes v first (λ violation h. free violation (inl h)) makes.0 t (here-worth ∙ ap Some et)) more out place stack
        (subst (λ o. ST (settled elements o kind (emits globals elements scope v more) more) place out) here-worth on))
        (λ x d l. subst (λ y. Follows context (and_then (values_of globals env others) (λ tail. ready (x ∷ tail))) Goal y) (sym l.2)
        (follows_then context (values_of globals env others) (λ tail. ready (x ∷ tail)) (LA types rest out (stack ++ x)) Goal (SP l.0 (stack ++ x))
        (all_goes others types (first + expression_size v) (λ violation h. free violation (inr h)) makes.1 more-fit rest out l.0 (stack ++ x) l.3)
        (λ tail e m. stays context (x ∷ tail) Goal e (m.0, (l.1, m.1), m.2 ∙ ap (SP m.0) (append_assoc stack x (all_words_of tail)), m.3))))

    fields_goes : (fs : List Field) → AllTyped globals.structs fs → (values : Expressions) (first : ℕ) → Free (ExpressionsHave globals s first values) → ExpressionsMake globals.types elements values → Free (ValuesFail globals s first (expressions_in values) (field_kinds fs)) → length (expressions_in values) ≡ length fs
        → (rest : Plan) (out : Option ℕ) (place : ℕ) (stack : List Word) → ST (emits_all globals elements scope (kinds_in fs) values rest) place out → EL (field_values globals env values) (fields_zeros globals.structs fs) rest out place stack stack
    fields_goes [] known-types NoMore first free makes fit many rest out place stack on = stays context [] (LI [] rest out stack) (SP place stack) (place, refl, ap (SP place) (sym (append-nil stack)), on)
    fields_goes (field ∷ fs) known-types NoMore first free makes fit many rest out place stack on = absurd cc
    fields_goes [] known-types (Following v others) first free makes fit many rest out place stack on = absurd cc
    fields_goes (field ∷ fs) known-types (Following v others) first free makes fit many rest out place stack on =
        let w = worth_here v first (λ violation h. free violation (inl h)) in
        let kind = known field.kind in
        let more = emits_all globals elements scope (kinds_in fs) others rest in
        let fitting = value_fits v first w.0 kind (expressions_in others) field.kind (field_kinds fs) w.1 known-types.0 fit in
        joins (value globals env v) (field_values globals env others) kind (fields_zeros globals.structs fs) more rest out place stack
        (pushes_by standing v w.0 kind w.2 fitting (λ t et. emits_goes v first (λ violation h. free violation (inl h)) makes.0 t (w.2 ∙ ap Some et)) more out place stack
        (subst (λ o. ST (settled elements o kind (emits globals elements scope v more) more) place out) w.2 on))
        (λ x to on1. fields_goes fs known-types.1 others (first + expression_size v) (λ violation h. free violation (inr h)) makes.1 (λ violation h. fit violation (inr h)) (let e : suc (length (expressions_in others)) ≡ suc (length fs) = many in omega (arith, e)) rest out to (stack ++ x) on1)
