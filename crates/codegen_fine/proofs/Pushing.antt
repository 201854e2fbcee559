-- The kinds that the code of operands and operators pushes.
use Rattle.std.proofs.Common.{◌≡◌, ℕ, ℤ, pos, suc, ◌+◌, ◌<◌, ◌≤◌, Bool, true, false, List, [], ◌∷◌, ◌++◌, length, refl, sym, ap, subst, append_assoc, slice_range}
use Rattle.std.proofs.lemmas.Bool.{OnTrue_from}
use Rattle.std.proofs.lemmas.List.{append-nil}
use Rattle.syntax.specs.declared.node.BinaryOperator.{BinaryOperator}
use Rattle.syntax.specs.declared.node.BinaryOperator.TheVariants as symbols
use Rattle.syntax.specs.declared.node.Direction.{Direction}
use Rattle.bytecode.specs.declared.instr.WordKind.{WordKind}
use Rattle.bytecode.specs.declared.instr.WordKind.TheVariants as kinds
use Rattle.bytecode.specs.declared.instr.Instr.{Instr}
use Rattle.bytecode.specs.declared.instr.Instr.TheVariants as instrs
use Rattle.bytecode.specs.Code.{Function as CodeFunction, Code}
use Rattle.bytecode.specs.Effects.{count, operands, outcome, Meets}
use Rattle.bytecode.specs.Rules.{AreThere, IsThere}
use Rattle.word.specs.declared.apply.Op.{Op}
use Rattle.type_table.specs.Types.{ValueType, IntType, BoolType, ChannelType}
use Rattle.type_table.specs.Containment.{Structs}
use Rattle.typing_rules.specs.Worths.{is_equality, is_logical, made_type}
use Rattle.codegen_base.specs.declared.element.Element.{Element}
use Rattle.codegen_base.specs.Elements.{kinds_of, shape_of}
use Rattle.codegen_base.specs.Pushes.{operator_of, zero_instr, pushes_zeros, between, drops}
use Rattle.plan.specs.Plan.{Plan, Skip, Do, Seq, IfElse, reaches_end}
use Rattle.plan.proofs.Typed.{Allowed, Typed, typed_step, typed_none}

module _ (structs : Structs) (elements : List Element) where
  -- operands of these two types fit this operator, and it leaves a value of a third one
  pub record Operates (op : Op) (i j k : ValueType) : Type 0 where
    pub two : count (operands op) ≡ length (kinds_of structs elements i ++ kinds_of structs elements j)
    pub meets : Meets (operands op) (kinds_of structs elements i ++ kinds_of structs elements j)
    pub leaves : outcome op ∷ [] ≡ kinds_of structs elements k

  pub int_operates : (operator : BinaryOperator) → is_logical operator ≡ false → Operates (operator_of operator IntType) IntType IntType (made_type operator)
  int_operates symbols.Add e = record { two = refl; meets = refl; leaves = refl }
  int_operates symbols.Subtract e = record { two = refl; meets = refl; leaves = refl }
  int_operates symbols.Multiply e = record { two = refl; meets = refl; leaves = refl }
  int_operates symbols.Divide e = record { two = refl; meets = refl; leaves = refl }
  int_operates symbols.Remainder e = record { two = refl; meets = refl; leaves = refl }
  int_operates symbols.And e = record { two = refl; meets = refl; leaves = refl }
  int_operates symbols.Or e = record { two = refl; meets = refl; leaves = refl }
  int_operates symbols.ExclusiveOr e = record { two = refl; meets = refl; leaves = refl }
  int_operates symbols.AndNot e = record { two = refl; meets = refl; leaves = refl }
  int_operates symbols.ShiftLeft e = record { two = refl; meets = refl; leaves = refl }
  int_operates symbols.ShiftRight e = record { two = refl; meets = refl; leaves = refl }
  int_operates symbols.Equal e = record { two = refl; meets = refl; leaves = refl }
  int_operates symbols.NotEqual e = record { two = refl; meets = refl; leaves = refl }
  int_operates symbols.Less e = record { two = refl; meets = refl; leaves = refl }
  int_operates symbols.LessEqual e = record { two = refl; meets = refl; leaves = refl }
  int_operates symbols.Greater e = record { two = refl; meets = refl; leaves = refl }
  int_operates symbols.GreaterEqual e = record { two = refl; meets = refl; leaves = refl }
  int_operates symbols.LogicalAnd e = absurd cc
  int_operates symbols.LogicalOr e = absurd cc

  -- the kinds of operands that are compared: two bools, or two channels of one shape
  pub record Compares (operator : BinaryOperator) (s t : ValueType) : Type 0 where
    pub equal : operator ≡ symbols.Equal → Operates (operator_of symbols.Equal s) s t BoolType
    pub not_equal : operator ≡ symbols.NotEqual → Operates (operator_of symbols.NotEqual s) s t BoolType

  compared : (operator : BinaryOperator) (s t : ValueType) → is_equality operator ≡ true → Compares operator s t → Operates (operator_of operator s) s t (made_type operator)
  compared symbols.Equal s t e c = c.equal refl
  compared symbols.NotEqual s t e c = c.not_equal refl
  compared symbols.Add s t e c = absurd cc
  compared symbols.Subtract s t e c = absurd cc
  compared symbols.Multiply s t e c = absurd cc
  compared symbols.Divide s t e c = absurd cc
  compared symbols.Remainder s t e c = absurd cc
  compared symbols.And s t e c = absurd cc
  compared symbols.Or s t e c = absurd cc
  compared symbols.ExclusiveOr s t e c = absurd cc
  compared symbols.AndNot s t e c = absurd cc
  compared symbols.ShiftLeft s t e c = absurd cc
  compared symbols.ShiftRight s t e c = absurd cc
  compared symbols.Less s t e c = absurd cc
  compared symbols.LessEqual s t e c = absurd cc
  compared symbols.Greater s t e c = absurd cc
  compared symbols.GreaterEqual s t e c = absurd cc
  compared symbols.LogicalAnd s t e c = absurd cc
  compared symbols.LogicalOr s t e c = absurd cc

  pub bool_operates : (operator : BinaryOperator) → is_equality operator ≡ true → Operates (operator_of operator BoolType) BoolType BoolType (made_type operator)
  bool_operates operator e = compared operator BoolType BoolType e (record { equal = λ h. record { two = refl; meets = refl; leaves = refl }; not_equal = λ h. record { two = refl; meets = refl; leaves = refl } })

  -- two channels of one shape
  pub channel_operates : (operator : BinaryOperator) (d g : Direction) (s t : ValueType) → s ≡ t → is_equality operator ≡ true → Operates (operator_of operator (ChannelType d s)) (ChannelType d s) (ChannelType g t) (made_type operator)
  channel_operates operator d g s t same e =
      let one : kinds.Chan (shape_of elements t) ∷ [] ≡ kinds.Chan (shape_of elements s) ∷ [] = ap (λ x. kinds.Chan (shape_of elements x) ∷ []) (sym same) in
      compared operator (ChannelType d s) (ChannelType g t) e (record { equal = λ h. record { two = refl; meets = (tt, one); leaves = refl }; not_equal = λ h. record { two = refl; meets = (tt, one); leaves = refl } })

module _ (structs : Structs) (elements : List Element) (code : Code) (f : CodeFunction) where
  abbrev kinds_in : ValueType → List WordKind
  kinds_in = kinds_of structs elements

  -- a plan, whatever follows, pushes words of these kinds
  abbrev pub Puts : List WordKind → (Plan → Plan) → Type 0
  Puts js push = (a : Allowed) (ks out : List WordKind) (rest : Plan) → Typed code f a (ks ++ js) rest out → Typed code f a ks (push rest) out

  -- it pushes a value of a type
  abbrev pub Pushes : ValueType → (Plan → Plan) → Type 0
  Pushes kind push = Puts (kinds_in kind) push

  -- one after the other
  pub puts_both : (is js : List WordKind) (first second : Plan → Plan) → Puts is first → Puts js second → Puts (is ++ js) (λ rest. first (second rest))
  puts_both is js first second p q a ks out rest t = p a ks out (second rest) (q a (ks ++ is) out rest (subst (λ (l : List WordKind). Typed code f a l rest out) (sym (append_assoc ks is js)) t))

  pub puts_int : (n : ℤ) → Puts (kinds.Int ∷ []) (λ rest. Do (instrs.Int n) rest)
  puts_int n a ks out rest t = typed_none code f a ks (instrs.Int n) rest out tt tt refl tt t

  pub puts_bool : (b : Bool) → Puts (kinds.Bool ∷ []) (λ rest. Do (instrs.Bool b) rest)
  puts_bool b a ks out rest t = typed_none code f a ks (instrs.Bool b) rest out tt tt refl tt t

  pub puts_nil : (s : ℕ) → s < length code.shapes → Puts (kinds.Chan s ∷ []) (λ rest. Do (instrs.Nil s) rest)
  puts_nil s there a ks out rest t = typed_none code f a ks (instrs.Nil s) rest out tt there refl tt t

  puts_zero : (k : WordKind) → IsThere code k → Puts (k ∷ []) (λ rest. Do (zero_instr k) rest)
  puts_zero kinds.Int there = puts_int (pos 0)
  puts_zero kinds.Bool there = puts_bool false
  puts_zero (kinds.Chan s) there = puts_nil s there

  -- zeros of kinds that are there
  pub puts_zeros : (js : List WordKind) → AreThere code js → Puts js (pushes_zeros js)
  puts_zeros [] there a ks out rest t = subst (λ (l : List WordKind). Typed code f a l rest out) (append-nil ks) t
  puts_zeros (j ∷ js) there a ks out rest t =
      puts_both (j ∷ []) js (λ rest. Do (zero_instr j) rest) (pushes_zeros js) (puts_zero j (there 0 j refl)) (puts_zeros js (λ n k is. there (suc n) k is)) a ks out rest t

  -- locals of these kinds are loaded
  pub puts_locals : (place n : ℕ) (js : List WordKind) → place + n ≤ length f.locals → slice_range f.locals place (place + n) ≡ js → Puts js (λ rest. Do (instrs.Load place n) rest)
  puts_locals place n js le is a ks out rest t = typed_none code f a ks (instrs.Load place n) rest out tt le refl tt (subst (λ (l : List WordKind). Typed code f a (ks ++ l) rest out) (sym is) t)

  -- an instruction takes what was pushed, and leaves these kinds
  pub puts_after : (is js : List WordKind) (first : Plan → Plan) (i : Instr) → Puts is first → ((a : Allowed) (ks out : List WordKind) (rest : Plan) → Typed code f a (ks ++ js) rest out → Typed code f a (ks ++ is) (Do i rest) out) → Puts js (λ rest. first (Do i rest))
  puts_after is js first i p q a ks out rest t = p a ks out (Do i rest) (q a ks out rest t)

  -- an operator takes two operands
  pub applies : (op : Op) (i j k : ValueType) → Operates structs elements op i j k → (a : Allowed) (ks out : List WordKind) (rest : Plan) → Typed code f a (ks ++ kinds_in k) rest out
      → Typed code f a (ks ++ (kinds_in i ++ kinds_in j)) (Do (instrs.Apply op) rest) out
  applies op i j k o a ks out rest t =
      typed_step code f a ks (kinds_in i ++ kinds_in j) (instrs.Apply op) rest out tt tt o.two o.meets (subst (λ (l : List WordKind). Typed code f a (ks ++ l) rest out) (sym o.leaves) t)

  pub puts_operator : (op : Op) (i j k : ValueType) (left right : Plan → Plan) → Operates structs elements op i j k → Pushes i left → Pushes j right → Pushes k (λ rest. left (right (Do (instrs.Apply op) rest)))
  puts_operator op i j k left right o p q =
      puts_after (kinds_in i ++ kinds_in j) (kinds_in k) (λ rest. left (right rest)) (instrs.Apply op) (puts_both (kinds_in i) (kinds_in j) left right p q) (applies op i j k o)

  -- the second operand is evaluated if the first one requires it
  pub puts_and : (left right : Plan → Plan) → Pushes BoolType left → Pushes BoolType right → Pushes BoolType (between symbols.LogicalAnd BoolType left right)
  puts_and left right p q a ks out rest t =
      p a ks out (Seq (IfElse (right Skip) (Do (instrs.Bool false) Skip)) rest) (
        ks ++ kinds.Bool ∷ [],
        (ks, refl, q a ks (ks ++ kinds.Bool ∷ []) Skip refl, puts_bool false a ks (ks ++ kinds.Bool ∷ []) Skip refl),
        OnTrue_from (reaches_end (IfElse (right Skip) (Do (instrs.Bool false) Skip))) (Typed code f a (ks ++ kinds.Bool ∷ []) rest out) (λ e. t),
      )

  pub puts_or : (left right : Plan → Plan) → Pushes BoolType left → Pushes BoolType right → Pushes BoolType (between symbols.LogicalOr BoolType left right)
  puts_or left right p q a ks out rest t =
      p a ks out (Seq (IfElse (Do (instrs.Bool true) Skip) (right Skip)) rest) (
        ks ++ kinds.Bool ∷ [],
        (ks, refl, puts_bool true a ks (ks ++ kinds.Bool ∷ []) Skip refl, q a ks (ks ++ kinds.Bool ∷ []) Skip refl),
        OnTrue_from (reaches_end (IfElse (Do (instrs.Bool true) Skip) (right Skip))) (Typed code f a (ks ++ kinds.Bool ∷ []) rest out) (λ e. t),
      )

  -- words that nobody needs are dropped
  pub drops_typed : (js : List WordKind) (a : Allowed) (ks out : List WordKind) (rest : Plan) → Typed code f a ks rest out → Typed code f a (ks ++ js) (drops (length js) rest) out
  drops_typed [] a ks out rest t = subst (λ (l : List WordKind). Typed code f a l rest out) (sym (append-nil ks)) t
  drops_typed (j ∷ js) a ks out rest t =
      typed_step code f a ks (j ∷ js) (instrs.Discard (length (j ∷ js))) rest out tt tt refl tt (subst (λ (l : List WordKind). Typed code f a l rest out) (sym (append-nil ks)) t)

  -- an operator takes one operand
  pub puts_unary : (op : Op) (i k : ValueType) (push : Plan → Plan) → count (operands op) ≡ length (kinds_in i) → Meets (operands op) (kinds_in i) → outcome op ∷ [] ≡ kinds_in k → Pushes i push → Pushes k (λ rest. push (Do (instrs.Apply op) rest))
  puts_unary op i k push one meets leaves p a ks out rest t =
      p a ks out (Do (instrs.Apply op) rest) (typed_step code f a ks (kinds_in i) (instrs.Apply op) rest out tt tt one meets (subst (λ (l : List WordKind). Typed code f a (ks ++ l) rest out) (sym leaves) t))

  -- a part of what was pushed is kept
  pub puts_part : (is js : List WordKind) (from n : ℕ) (push : Plan → Plan) → from + n ≤ length is → slice_range is from (from + n) ≡ js → Puts is push → Puts js (λ rest. push (Do (instrs.Pick (length is) from n) rest))
  puts_part is js from n push le part p a ks out rest t =
      p a ks out (Do (instrs.Pick (length is) from n) rest) (typed_step code f a ks is (instrs.Pick (length is) from n) rest out tt le refl tt (subst (λ (l : List WordKind). Typed code f a (ks ++ l) rest out) (sym part) t))
