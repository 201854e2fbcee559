-- `x++`, `x--` and assignments with an operator, with which nothing is wrong, leave the stack as it was.
use Rattle.std.proofs.Common.{◌≡◌, ℕ, pos, ◌+◌, ◌≤◌, Bool, true, false, not, ◌&&◌, ◌||◌, List, ◌++◌, length, Some, Result, Ok, Err, refl, sym, ap, ◌∙◌, subst, arith, inl, inr}
use Rattle.std.specs.Prelude.{if◌then◌else◌}
use Rattle.std.specs.Result.{result_ok}
use Rattle.go_text.specs.declared.rule.Rule.TheVariants as rules
use Rattle.syntax.specs.declared.node.BinaryOperator.{BinaryOperator}
use Rattle.syntax.specs.declared.node.BinaryOperator.TheVariants.{Add, Subtract}
use Rattle.syntax.specs.Tree.{Expression, Place, Increment, Decrement, Update}
use Rattle.syntax.specs.Measures.{expression_size}
use Rattle.bytecode.specs.declared.instr.WordKind.{WordKind}
use Rattle.bytecode.specs.declared.instr.Instr.TheVariants as instrs
use Rattle.bytecode.specs.Code.{Function as CodeFunction, Code}
use Rattle.type_table.specs.Types.{ValueType, IntType, BoolType, is_int_type, is_channel_type, assignable}
use Rattle.type_table.specs.Containment.{Selected}
use Rattle.type_table.specs.Scopes.{Globals, Scope, is_blank}
use Rattle.typing_rules.specs.declared.violation.Misuse.{Misuse}
use Rattle.typing_rules.specs.declared.violation.Misuse.TheVariants as misuses
use Rattle.typing_rules.specs.Violations.{Nodes}
use Rattle.typing_rules.specs.Worths.{Worth, Typed as TypedWorth, Constant, Nil, is_equality, is_order, is_logical, is_int, is_wrong_right, made_type, if_good, fit_operator, binary_worth, type_of_field, worth}
use Rattle.typing_rules.specs.Expressions.{nodes_of, ValueHas, default_type}
use Rattle.typing_rules.specs.Operations.{ReadPlaceHas, selected, place_type}
use Rattle.typing_rules.specs.Simples.{MadeHas, UpdatedHas, StepHas, SimpleHas}
use Rattle.meaning.specs.Values.{known}
use Rattle.codegen_base.specs.declared.element.Element.{Element}
use Rattle.codegen_base.specs.Elements.{kinds_of}
use Rattle.codegen_base.specs.Pushes.{operator_of, emits, operates}
use Rattle.codegen_base.specs.Statements.{Local, spot_of, stores, loads_spot, steps, updates}
use Rattle.codegen_fine.proofs.Sees.{Sees, worth_sees, known_sees}
use Rattle.codegen_base.proofs.Known.{worth_noted}
use Rattle.codegen_base.proofs.Noted.{Noted}
use Rattle.codegen_base.proofs.Splits.{right_operand}
use Rattle.codegen_base.proofs.StatementMakes.{OneMakes}
use Rattle.codegen_base.proofs.Typing.{Free, Fits, fits, broken, made, nodes_end, worth_there}
use Rattle.plan.specs.Plan.{Plan, Skip, Do}
use Rattle.plan.proofs.Typed.{Allowed, Typed}
use Rattle.codegen_fine.proofs.WordKinds.{identical_same}
use Rattle.codegen_fine.proofs.Pushing.{int_operates, puts_int, puts_operator}
use Rattle.codegen_fine.proofs.Operands.{Grounds, P, IsEmitted}
use Rattle.codegen_fine.proofs.Emitted.{typed_emits}
use Rattle.codegen_fine.proofs.Spots.{SpotFits, stores_typed, ticks_typed}
use Rattle.codegen_fine.proofs.Places.{AllHoused, housed_of, place_leads, place_alike}
use Rattle.codegen_fine.proofs.Updates.{loaded, typed_update}

not_true : (b : Bool) → (b ≡ true → ⊥) → b ≡ false
not_true true never = absurd (never refl)
not_true false never = refl

-- ---- what an operator makes of a value that has a type

-- an int or a bool
abbrev IsPlainWorth : Worth → Type 0
IsPlainWorth w = (k : ValueType) × (w ≡ TypedWorth k) × ((t : ValueType) → assignable k t ≡ true → k ≡ t)

int_plain : IsPlainWorth (TypedWorth IntType)
int_plain = (IntType, refl, λ t e. identical_same IntType t e)

bool_plain : IsPlainWorth (TypedWorth BoolType)
bool_plain = (BoolType, refl, λ t e. identical_same BoolType t e)

made_plain : (operator : BinaryOperator) → IsPlainWorth (TypedWorth (made_type operator))
made_plain operator = go (is_equality operator || is_order operator || is_logical operator) where
  go : (t : Bool) → IsPlainWorth (TypedWorth (if t then BoolType else IntType))
  go true = bool_plain
  go false = int_plain

abbrev worth_in : Result Worth Misuse → Worth
worth_in (Ok w) = w
worth_in (Err misuse) = Nil

abbrev good : Worth → Result Worth Misuse
good w = Ok w

same_Ok : (v w : Worth) → good v ≡ good w → v ≡ w
same_Ok v w e = ap worth_in e

operator_plain : (operator : BinaryOperator) (own : ValueType) (w m : Worth) → binary_worth operator (TypedWorth own) w ≡ Ok m → IsPlainWorth m
operator_plain operator own (Constant b) m e = go (is_logical operator || not (is_int_type own)) (is_int b) (is_wrong_right operator b) e where
  go : (o i x : Bool) → (if o then Err misuses.Operands else (if not i then Err misuses.RightConstant else (if x then Err misuses.Right else Ok (TypedWorth (made_type operator))))) ≡ Ok m → IsPlainWorth m
  go true i x e = absurd cc
  go false false x e = absurd cc
  go false true true e = absurd cc
  go false true false e = subst IsPlainWorth (same_Ok (TypedWorth (made_type operator)) m e) (made_plain operator)
operator_plain operator own (TypedWorth t) m e = go (fit_operator operator own t) e where
  go : (good : Bool) → if_good good (made_type operator) ≡ Ok m → IsPlainWorth m
  go true e = subst IsPlainWorth (same_Ok (TypedWorth (made_type operator)) m e) (made_plain operator)
  go false e = absurd cc
operator_plain operator own Nil m e = go (is_equality operator && is_channel_type own) e where
  go : (good : Bool) → (if good then Ok (TypedWorth BoolType) else Err misuses.RightNil) ≡ Ok m → IsPlainWorth m
  go true e = subst IsPlainWorth (same_Ok (TypedWorth BoolType) m e) bool_plain
  go false e = absurd cc

-- what goes to an lvalue of the type is of the type
made_own : (operator : BinaryOperator) (own : ValueType) (w : Worth) (nodes : Nodes) (end : ℕ) → 1 ≤ nodes.end → 1 ≤ end → Free (MadeHas (binary_worth operator (TypedWorth own) w) own nodes end) → binary_worth operator (TypedWorth own) w ≡ Ok (TypedWorth own)
made_own operator own w nodes end le lt free =
    let (m, is) = made (binary_worth operator (TypedWorth own) w) nodes nodes end le le lt (λ violation h. free violation (inl h)) in
    let (k, plain, same) = operator_plain operator own w m is in
    let fit = fits m own nodes le (λ violation h. free violation (inr (subst (λ o. ValueHas (result_ok o) (Some own) nodes violation) (sym is) h))) in
    is ∙ ap Ok (plain ∙ ap TypedWorth (same own (subst (λ x. Fits x own) plain fit)))

module _ (globals : Globals) (elements : List Element) (code : Code) (f : CodeFunction) (grounds : Grounds globals elements code) where
  module _ (scope : Scope) (all : AllHoused globals elements f scope.variables) (s : Scope) (alike : Sees s scope) where
    -- an lvalue that is read
    record Readable (place : Place) : Type 0 where
      at : Selected
      is : selected globals scope place ≡ Some at
      own : ValueType
      has : at.kind ≡ Some own
      typed : place_type globals s place ≡ Some own
      noted : Noted elements own
      fit : SpotFits globals.structs elements code f (Local at.place (length (kinds_of globals.structs elements own))) (kinds_of globals.structs elements own)

    readable : (place : Place) (first : ℕ) → Free (ReadPlaceHas globals s first place) → Readable place
    readable place first free =
        let b = broken rules.Assigned (first + 1) (omega arith) in
        let l = place_leads globals elements f code grounds s scope alike all place first (λ violation h. free violation (inl h)) (not_true (is_blank place.name) (λ e. free b.0 (inr (e, b.1)))) in
        record {
          at = l.at;
          is = l.is;
          own = l.housed.kind;
          has = l.housed.has;
          typed = place_alike globals s scope alike place ∙ ap type_of_field l.is ∙ l.housed.has;
          noted = l.housed.noted;
          fit = (refl, l.housed.within, l.housed.stand);
        }

    -- the spot and the type of an lvalue that is read
    place_is : (place : Place) (r : Readable place) → (spot_of globals elements scope (selected globals scope place) ≡ Local r.at.place (length (kinds_of globals.structs elements r.own))) × (known (place_type globals scope place) ≡ r.own)
    place_is place r = (ap (spot_of globals elements scope) r.is ∙ ap (λ o. Local r.at.place (length (kinds_of globals.structs elements (known o)))) r.has, ap known (sym (place_alike globals s scope alike place) ∙ r.typed))

    abbrev Leaves : Plan → Type 0
    Leaves plan = (a : Allowed) (ks out : List WordKind) → Typed code f a ks Skip out → Typed code f a ks plan out

    -- `x++` and `x--`
    typed_step : (operator : BinaryOperator) (place : Place) (first : ℕ) → is_logical operator ≡ false → made_type operator ≡ IntType → Free (StepHas globals s first place) → Leaves (steps globals elements scope operator place)
    typed_step operator place first calm int free a ks out t =
        let r = readable place first (λ violation h. free violation (inl h)) in
        let p = place_is place r in
        let sum = made_own Add r.own (Constant (pos 1)) (record { first = first; end = first + 1 }) (first + 2) (omega arith) (omega arith) (λ violation h. free violation (inr (subst (λ o. UpdatedHas Add o (Some (Constant (pos 1))) (record { first = first; end = first + 1 }) (first + 2) violation) (sym r.typed) h))) in
        let own : r.own ≡ IntType = (right_operand Add r.own (pos 1) r.own sum).int in
        let spot = Local r.at.place (length (kinds_of globals.structs elements r.own)) in
        let push = subst (λ k. P globals elements code f grounds k (loads_spot globals elements scope spot)) own (loaded globals elements code f grounds scope r.at.place (length (kinds_of globals.structs elements r.own)) r.own r.fit r.noted) in
        subst (λ x. Typed code f a ks (loads_spot globals elements scope x (Do (instrs.Int (pos 1)) (Do (instrs.Apply (operator_of operator IntType)) (stores x (Do instrs.Tick Skip))))) out) (sym p.0)
        (puts_operator globals.structs elements code f (operator_of operator IntType) IntType IntType (made_type operator) (loads_spot globals elements scope spot) (λ rest. Do (instrs.Int (pos 1)) rest) (int_operates globals.structs elements operator calm) push (puts_int globals.structs elements code f (pos 1)) a ks out (stores spot (Do instrs.Tick Skip))
        (subst (λ k. Typed code f a (ks ++ kinds_of globals.structs elements k) (stores spot (Do instrs.Tick Skip)) out) (own ∙ sym int)
        (stores_typed globals.structs elements code f spot (kinds_of globals.structs elements r.own) r.fit a ks out (Do instrs.Tick Skip) (ticks_typed globals.structs elements code f a ks out Skip t))))

    pub typed_increment : (place : Place) (first : ℕ) → Free (SimpleHas globals s first (Increment place)) → Leaves (steps globals elements scope Add place)
    typed_increment place first free = typed_step Add place first refl refl free

    pub typed_decrement : (place : Place) (first : ℕ) → Free (SimpleHas globals s first (Decrement place)) → Leaves (steps globals elements scope Subtract place)
    typed_decrement place first free = typed_step Subtract place first refl refl free

    -- an assignment with an operator
    pub typed_assign_with : (place : Place) (operator : BinaryOperator) (value : Expression) (first : ℕ) → Free (SimpleHas globals s first (Update place operator value)) → OneMakes globals elements value
        → Leaves (updates globals elements scope place operator (worth globals scope value) (known (default_type (worth globals scope value))) (emits globals elements scope value))
    typed_assign_with place operator value first free makes a ks out t =
        let housed = housed_of globals elements f scope all in
        let r = readable place first (λ violation h. free violation (inl h)) in
        let p = place_is place r in
        let (w, has) = worth_there globals s grounds.types_known (known_sees s scope alike housed.known) value (first + 1) (λ violation h. free violation (inr (inl h))) in
        let here-is : worth globals scope value ≡ Some w = sym (worth_sees s scope alike globals value) ∙ has in
        let end = first + 1 + expression_size value + 1 in
        let nodes = nodes_of (first + 1) value in
        let sum = made_own operator r.own w nodes end (nodes_end (first + 1) value) (omega arith)
        (λ violation h. free violation (inr (inr (subst (λ o. UpdatedHas operator o (worth globals s value) nodes end violation) (sym r.typed) (subst (λ o. UpdatedHas operator (Some r.own) o nodes end violation) (sym has) h))))) in
        let spot = Local r.at.place (length (kinds_of globals.structs elements r.own)) in
        let right = emits globals elements scope value in
        let emitted : IsEmitted globals elements code f grounds right w = λ k e. (worth_noted elements globals grounds.fields_noted grounds.results_noted scope housed.noted value makes k (here-is ∙ ap Some e), typed_emits globals elements code f grounds scope housed s alike value (first + 1) (λ violation h. free violation (inr (inl h))) makes k (here-is ∙ ap Some e)) in
        subst (λ x. Typed code f a ks (operates elements operator (Some (TypedWorth (known (place_type globals scope place)))) (worth globals scope value) (known (place_type globals scope place)) (known (default_type (worth globals scope value))) (loads_spot globals elements scope x) right (stores x (Do instrs.Tick Skip))) out) (sym p.0)
        (subst (λ k. Typed code f a ks (operates elements operator (Some (TypedWorth k)) (worth globals scope value) k (known (default_type (worth globals scope value))) (loads_spot globals elements scope spot) right (stores spot (Do instrs.Tick Skip))) out) (sym p.1)
        (subst (λ o. Typed code f a ks (operates elements operator (Some (TypedWorth r.own)) o r.own (known (default_type o)) (loads_spot globals elements scope spot) right (stores spot (Do instrs.Tick Skip))) out) (sym here-is)
        (typed_update globals elements code f grounds scope r.at.place (length (kinds_of globals.structs elements r.own)) r.own r.fit r.noted operator w right sum emitted a ks out t)))
