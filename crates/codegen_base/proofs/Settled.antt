-- The code of operands and operators, by the operands' types and constant values.
use Rattle.std.specs.Int.{w64, int_wrap}
use Rattle.std.proofs.Common.{◌≡◌, ℕ, ℤ, ◌+◌, true, false, List, [], ◌∷◌, ◌++◌, Option, Some, None, Ok, refl, sym, ap, ◌∙◌, subst, append_assoc}
use Rattle.std.specs.Prelude.{if◌then◌else◌}
use Rattle.syntax.specs.declared.node.BinaryOperator.{BinaryOperator}
use Rattle.syntax.specs.declared.node.BinaryOperator.TheVariants as symbols
use Rattle.syntax.specs.declared.node.Direction.{Direction}
use Rattle.syntax.specs.Tree.{Expression}
use Rattle.bytecode.specs.declared.instr.Instr.TheVariants as instrs
use Rattle.word.specs.declared.value.Word.{Word}
use Rattle.word.specs.declared.value.Word.TheVariants.{Int, Bool as Truth, Chan}
use Rattle.word.specs.Apply.{value as applied}
use Rattle.type_table.specs.Types.{ValueType, IntType, BoolType, ChannelType, is_channel_type}
use Rattle.type_table.specs.Scopes.{Globals}
use Rattle.typing_rules.specs.Worths.{Worth, Typed, Constant, Nil, is_equality, is_logical, made_type, binary_worth, worth}
use Rattle.typing_rules.specs.Expressions.{default_type}
use Rattle.meaning.specs.Values.{Value, known}
use Rattle.meaning.specs.Worked.{Worked, ready}
use Rattle.meaning.specs.Variables.{Blocks}
use Rattle.meaning.specs.Expressions.{word_in, one_word, operator_at, between, binary, compared as compared_value, value}
use Rattle.codegen_base.specs.Pushes.{operator_of, valued, elements_shape, settled, between as between_plan, operates, emits}
use Rattle.plan.specs.Plan.{Plan, Do}
use Rattle.plan.proofs.Words.{Words}
use Rattle.plan.proofs.Steps.{pushes_nil}
use Rattle.codegen_base.proofs.Seen.{Like}
use Rattle.codegen_base.proofs.Likeness.{is_channel, assignable_zeros}
use Rattle.codegen_base.proofs.Typing.{Fits}
use Rattle.codegen_base.proofs.Operators.{IsPlain, ints, bools, channels}
use Rattle.codegen_base.proofs.Constants.{constant_value, nil_value}
use Rattle.codegen_base.proofs.Splits.{plain_beside, plain_plan, equality_plain, constants_compare, made_logical, channel_is, Operands, Ints, Bools, Channels, Truths, typed_operands, left_operand, right_operand, nil_right, nil_left, two_constants}
use Rattle.codegen_base.proofs.Evaluates.{at, Slip, Stands, Evals, Pushes, after_slip, bind, recast, pushed, pushed_int, pushed_bool, operated, plain, both, either}
use Rattle.codegen_base.proofs.Running.{Compiled, Coded, Running, Standing}
use Rattle.codegen_base.proofs.Expressions.{blocks as blocks_of, same_worth}

-- `nil` is equal to a channel if the channel is equal to `nil`
nil_swaps : (operator : BinaryOperator) (d : Direction) (t : ValueType) → is_equality operator ≡ true → (c : Option ℕ) → between operator (Chan None) (Chan c) ≡ one_word (applied (operator_of operator (ChannelType d t)) (Chan c) (Chan None))
nil_swaps symbols.Equal d t e None = refl
nil_swaps symbols.Equal d t e (Some c) = refl
nil_swaps symbols.NotEqual d t e None = refl
nil_swaps symbols.NotEqual d t e (Some c) = refl
nil_swaps symbols.Add d t e c = absurd cc
nil_swaps symbols.Subtract d t e c = absurd cc
nil_swaps symbols.Multiply d t e c = absurd cc
nil_swaps symbols.Divide d t e c = absurd cc
nil_swaps symbols.Remainder d t e c = absurd cc
nil_swaps symbols.And d t e c = absurd cc
nil_swaps symbols.Or d t e c = absurd cc
nil_swaps symbols.ExclusiveOr d t e c = absurd cc
nil_swaps symbols.AndNot d t e c = absurd cc
nil_swaps symbols.ShiftLeft d t e c = absurd cc
nil_swaps symbols.ShiftRight d t e c = absurd cc
nil_swaps symbols.Less d t e c = absurd cc
nil_swaps symbols.LessEqual d t e c = absurd cc
nil_swaps symbols.Greater d t e c = absurd cc
nil_swaps symbols.GreaterEqual d t e c = absurd cc
nil_swaps symbols.LogicalAnd d t e c = absurd cc
nil_swaps symbols.LogicalOr d t e c = absurd cc

equality_made : (operator : BinaryOperator) (k : ValueType) → is_equality operator ≡ true → k ≡ BoolType → made_type operator ≡ k
equality_made symbols.Equal k e b = sym b
equality_made symbols.NotEqual k e b = sym b
equality_made symbols.Add k e b = absurd cc
equality_made symbols.Subtract k e b = absurd cc
equality_made symbols.Multiply k e b = absurd cc
equality_made symbols.Divide k e b = absurd cc
equality_made symbols.Remainder k e b = absurd cc
equality_made symbols.And k e b = absurd cc
equality_made symbols.Or k e b = absurd cc
equality_made symbols.ExclusiveOr k e b = absurd cc
equality_made symbols.AndNot k e b = absurd cc
equality_made symbols.ShiftLeft k e b = absurd cc
equality_made symbols.ShiftRight k e b = absurd cc
equality_made symbols.Less k e b = absurd cc
equality_made symbols.LessEqual k e b = absurd cc
equality_made symbols.Greater k e b = absurd cc
equality_made symbols.GreaterEqual k e b = absurd cc
equality_made symbols.LogicalAnd k e b = absurd cc
equality_made symbols.LogicalOr k e b = absurd cc

module _ {globals : Globals} {program : Compiled globals} {coded : Coded program} {running : Running coded} (standing : Standing running) where
  open program use {elements, code}
  open coded use {number as g, function as f, there}
  open running use {context, context.{callers}}
  open standing use {locals as ls, scope}

  abbrev blocks : Blocks
  blocks = blocks_of standing

  abbrev pub E : Worked Value → ValueType → Plan → Option ℕ → ℕ → List Word → List Word → Type 0
  E o kind rest out place stack base = Evals standing o kind rest out place stack base

  abbrev pub S : Plan → ℕ → Option ℕ → Type 0
  S plan place out = Stands standing plan place out

  -- an expression's code, whatever follows, pushes its value as one of a type
  abbrev pub P : Worked Value → ValueType → (Plan → Plan) → Type 0
  P o kind push = Pushes standing o kind push

  -- if an expression has a type of its own, its code pushes its value
  abbrev pub IsEmitted : Expression → Worth → Type 0
  IsEmitted e w = (t : ValueType) → w ≡ Typed t → P (value globals blocks e) t (emits globals elements scope e)

  -- ---- an operand

  pub pushes_by : (e : Expression) (w : Worth) (k : ValueType) → worth globals scope e ≡ Some w → Fits w k → IsEmitted e w
      → P (value globals blocks e) k (λ rest. settled elements (Some w) k (emits globals elements scope e rest) rest)
  pushes_by e (Typed t) k is fits emitted rest out place stack on =
      recast standing (value globals blocks e) t k rest out place stack stack (assignable_zeros globals.structs t k fits) (emitted t refl rest out place stack on)
  pushes_by e (Constant z) k is fits emitted rest out place stack on =
      subst (λ o. E o k rest out place stack stack) (sym (constant_value globals scope blocks (same_worth standing) e z is))
      (subst (λ j. E (ready (Int (int_wrap w64 z) ∷ [])) j rest out place stack stack) (sym fits.0) (pushed_int standing (int_wrap w64 z) rest out place stack on))
  pushes_by e Nil k is fits emitted rest out place stack on =
      let (d, t, ch) = channel_is k fits in
      subst (λ o. E o k rest out place stack stack) (sym (nil_value globals scope blocks (same_worth standing) e is))
      (subst (λ j. E (ready (Chan None ∷ [])) j rest out place stack stack) (sym ch)
      (pushed standing (Chan None) (ChannelType d t) rest out place stack refl (pushes_nil code g f there callers place ls stack (elements_shape elements k) on.0) on.1))

  -- ---- operators

  abbrev Whole : BinaryOperator → Expression → Expression → Worth → Worth → ValueType → Type 0
  Whole operator l r a b k =
      (rest : Plan) (out : Option ℕ) (place : ℕ) (stack : List Word)
      → S (operates elements operator (Some a) (Some b) (known (default_type (Some a))) (known (default_type (Some b))) (emits globals elements scope l) (emits globals elements scope r) rest) place out
      → E (compared_value operator (Some a) (Some b) (binary operator (value globals blocks l) (value globals blocks r))) k rest out place stack stack

  -- both operands are pushed, and then the operator is applied
  pub two_pushed : (operator : BinaryOperator) (kind i j k : ValueType) (l r : Worked Value) (left right : Plan → Plan) → is_logical operator ≡ false → IsPlain globals.structs operator (operator_of operator kind) i j k → P l i left → P r j right
      → P (binary operator l r) k (λ rest. between_plan operator kind left right rest)
  two_pushed operator kind i j k l r left right calm p el er rest out place stack on =
      plain standing operator (operator_of operator kind) i j k l r left right p (plain_beside operator calm) el er rest out place stack
      (subst (λ plan. S plan place out) (plain_plan operator calm kind left right rest) on)

  truths : (operator : BinaryOperator) (l r : Worked Value) (left right : Plan → Plan) → is_logical operator ≡ true → P l BoolType left → P r BoolType right → P (binary operator l r) BoolType (λ rest. between_plan operator BoolType left right rest)
  truths symbols.LogicalAnd l r left right e el er = both standing l r left right el er
  truths symbols.LogicalOr l r left right e el er = either standing l r left right el er
  truths symbols.Add l r left right e el er = absurd cc
  truths symbols.Subtract l r left right e el er = absurd cc
  truths symbols.Multiply l r left right e el er = absurd cc
  truths symbols.Divide l r left right e el er = absurd cc
  truths symbols.Remainder l r left right e el er = absurd cc
  truths symbols.And l r left right e el er = absurd cc
  truths symbols.Or l r left right e el er = absurd cc
  truths symbols.ExclusiveOr l r left right e el er = absurd cc
  truths symbols.AndNot l r left right e el er = absurd cc
  truths symbols.ShiftLeft l r left right e el er = absurd cc
  truths symbols.ShiftRight l r left right e el er = absurd cc
  truths symbols.Equal l r left right e el er = absurd cc
  truths symbols.NotEqual l r left right e el er = absurd cc
  truths symbols.Less l r left right e el er = absurd cc
  truths symbols.LessEqual l r left right e el er = absurd cc
  truths symbols.Greater l r left right e el er = absurd cc
  truths symbols.GreaterEqual l r left right e el er = absurd cc

  by_operands : (operator : BinaryOperator) (s t k : ValueType) (l r : Worked Value) (left right : Plan → Plan) → Operands operator s t k → P l s left → P r t right → P (binary operator l r) k (λ rest. between_plan operator s left right rest)
  by_operands operator s t k l r left right (Ints calm) el er rest out place stack on = two_pushed operator IntType IntType IntType (made_type operator) l r left right calm (ints globals.structs operator calm) el er rest out place stack on
  by_operands operator s t k l r left right (Bools eq) el er rest out place stack on = two_pushed operator BoolType BoolType BoolType (made_type operator) l r left right (equality_plain operator eq) (bools globals.structs operator eq) el er rest out place stack on
  by_operands operator s t k l r left right (Channels d e x y eq) el er rest out place stack on = two_pushed operator (ChannelType d x) (ChannelType d x) (ChannelType e y) (made_type operator) l r left right (equality_plain operator eq) (channels globals.structs operator d e x y eq) el er rest out place stack on
  by_operands operator s t k l r left right (Truths lo) el er rest out place stack on =
      subst (λ j. E (binary operator l r) j rest out place stack stack) (sym (made_logical operator lo)) (truths operator l r left right lo el er rest out place stack on)

  -- two constants are compared while the code is made
  constants_goes : (operator : BinaryOperator) (l r : Expression) (a b : ℤ) (k : ValueType) → binary_worth operator (Constant a) (Constant b) ≡ Ok (Typed k) → Whole operator l r (Constant a) (Constant b) k
  constants_goes operator l r a b k made rest out place stack on =
      let (compares, bool) = two_constants operator a b k made in
      let (t, is) = constants_compare operator compares a b in
      let worked = binary operator (value globals blocks l) (value globals blocks r) in
      let gives : compared_value operator (Some (Constant a)) (Some (Constant b)) worked ≡ ready (Truth t ∷ []) =
      ap (λ c. if c then one_word (applied (operator_at operator (Int a)) (Int a) (Int b)) else worked) compares ∙ ap one_word is in
      subst (λ o. E o k rest out place stack stack) (sym gives)
      (subst (λ j. E (ready (Truth t ∷ [])) j rest out place stack stack) (sym bool)
      (pushed_bool standing t rest out place stack (subst (λ o. S (Do (valued o) rest) place out) is on)))

  -- `nil` to the left of a channel
  nil_goes : (operator : BinaryOperator) (l r : Expression) (t k : ValueType) → worth globals scope l ≡ Some Nil → binary_worth operator Nil (Typed t) ≡ Ok (Typed k) → IsEmitted r (Typed t) → Whole operator l r Nil (Typed t) k
  nil_goes operator l r t k is made emitted rest out place stack on =
      let n = nil_left operator t k made in
      let op = operator_of operator t in
      subst (λ o. E (binary operator o (value globals blocks r)) k rest out place stack stack) (sym (nil_value globals scope blocks (same_worth standing) l is))
      (subst (λ o. E o k rest out place stack stack) (sym (plain_beside operator (equality_plain operator n.compares) (Chan None) (value globals blocks r)))
      (bind standing (value globals blocks r) (λ b. between operator (Chan None) (word_in b)) t k (Do (instrs.Nil (elements_shape elements t)) (Do (instrs.Apply op) rest)) rest out out place stack stack
      (emitted t refl (Do (instrs.Nil (elements_shape elements t)) (Do (instrs.Apply op) rest)) out place stack on)
      (λ v like to on1.
      let (c, single) = is_channel globals.structs n.direction n.carried v (subst (λ j. Like globals.structs j v) n.channel like) in
      subst (λ (x : Value). E (between operator (Chan None) (word_in x)) k rest out to (stack ++ x) stack) (sym single)
      (after_slip standing (between operator (Chan None) (Chan c)) k rest out to (stack ++ Chan c ∷ []) stack (to + 1) (stack ++ (Chan c ∷ (Chan None ∷ [])))
      (subst (λ (s : Words). Slip standing to (stack ++ Chan c ∷ []) (to + 1) s) (append_assoc stack (Chan c ∷ []) (Chan None ∷ [])) (pushes_nil code g f there callers to ls (stack ++ Chan c ∷ []) (elements_shape elements t) on1.0))
      (swapped n.compares n.direction n.carried n.channel n.gives c (to + 1) on1.1))))) where
        swapped : is_equality operator ≡ true → (d : Direction) (u : ValueType) → t ≡ ChannelType d u → k ≡ BoolType → (c : Option ℕ) (at : ℕ) → S (Do (instrs.Apply (operator_of operator t)) rest) at out
            → E (between operator (Chan None) (Chan c)) k rest out at (stack ++ (Chan c ∷ (Chan None ∷ []))) stack
        swapped eq d u is-channel bool c at on =
            let p = channels globals.structs operator d d u u eq in
            subst (λ o. E o k rest out at (stack ++ (Chan c ∷ (Chan None ∷ []))) stack) (sym (nil_swaps operator d u eq c))
            (subst (λ j. E (one_word (applied (operator_of operator (ChannelType d u)) (Chan c) (Chan None))) j rest out at (stack ++ (Chan c ∷ (Chan None ∷ []))) stack) (equality_made operator k eq bool)
            (operated standing (Chan c ∷ (Chan None ∷ [])) (operator_of operator (ChannelType d u)) (applied (operator_of operator (ChannelType d u)) (Chan c) (Chan None)) (made_type operator) rest out at stack refl p.two
            (p.gives (Chan c) (Chan None) refl refl) (subst (λ j. S (Do (instrs.Apply (operator_of operator j)) rest) at out) is-channel on)))

  -- a value that has a type, to the left of an operand
  pub typed_goes : (operator : BinaryOperator) (lv : Worked Value) (left : Plan → Plan) (s : ValueType) (r : Expression) (b : Worth) (k : ValueType) → worth globals scope r ≡ Some b → binary_worth operator (Typed s) b ≡ Ok (Typed k) → P lv s left → IsEmitted r b
      → P (binary operator lv (value globals blocks r)) k (λ rest. operates elements operator (Some (Typed s)) (Some b) s (known (default_type (Some b))) left (emits globals elements scope r) rest)
  typed_goes operator lv left s r (Constant b) k ir made el er rest out place stack on =
      let w = right_operand operator s b k made in
      subst (λ j. E (binary operator lv (value globals blocks r)) j rest out place stack stack) w.gives
      (two_pushed operator IntType IntType IntType (made_type operator) lv (value globals blocks r) left (λ rest. settled elements (Some (Constant b)) IntType (emits globals elements scope r rest) rest) w.plain (ints globals.structs operator w.plain)
      (λ rest out place stack on. subst (λ j. E lv j rest out place stack stack) w.int (el rest out place stack on)) (pushes_by r (Constant b) IntType ir (refl, w.fits) er) rest out place stack
      (subst (λ j. S (between_plan operator j left (λ rest. settled elements (Some (Constant b)) IntType (emits globals elements scope r rest) rest) rest) place out) w.int on))
  typed_goes operator lv left s r (Typed t) k ir made el er rest out place stack on =
      by_operands operator s t k lv (value globals blocks r) left (emits globals elements scope r) (typed_operands operator s t k made) el (er t refl) rest out place stack on
  typed_goes operator lv left s r Nil k ir made el er rest out place stack on =
      let n = nil_right operator s k made in
      let right : Plan → Plan = λ rest. settled elements (Some Nil) s (emits globals elements scope r rest) rest in
      subst (λ j. E (binary operator lv (value globals blocks r)) j rest out place stack stack) (equality_made operator k n.compares n.gives)
      (two_pushed operator (ChannelType n.direction n.carried) (ChannelType n.direction n.carried) (ChannelType n.direction n.carried) (made_type operator) lv (value globals blocks r) left right (equality_plain operator n.compares)
      (channels globals.structs operator n.direction n.direction n.carried n.carried n.compares)
      (λ rest out place stack on. subst (λ j. E lv j rest out place stack stack) n.channel (el rest out place stack on))
      (λ rest out place stack on. subst (λ j. E (value globals blocks r) j rest out place stack stack) n.channel (pushes_by r Nil s ir (ap is_channel_type n.channel) er rest out place stack on)) rest out place stack
      (subst (λ j. S (between_plan operator j left right rest) place out) n.channel on))

  pub operator_goes : (operator : BinaryOperator) (l r : Expression) (a b : Worth) (k : ValueType) → worth globals scope l ≡ Some a → worth globals scope r ≡ Some b → binary_worth operator a b ≡ Ok (Typed k) → IsEmitted l a → IsEmitted r b → Whole operator l r a b k
  operator_goes operator l r (Constant a) (Constant b) k il ir made el er rest out place stack on = constants_goes operator l r a b k made rest out place stack on
  operator_goes operator l r (Constant a) (Typed t) k il ir made el er rest out place stack on =
      let w = left_operand operator a t k made in
      subst (λ j. E (binary operator (value globals blocks l) (value globals blocks r)) j rest out place stack stack) w.gives
      (two_pushed operator IntType IntType IntType (made_type operator) (value globals blocks l) (value globals blocks r) (λ rest. settled elements (Some (Constant a)) IntType (emits globals elements scope l rest) rest) (λ rest. emits globals elements scope r rest) w.plain (ints globals.structs operator w.plain)
      (pushes_by l (Constant a) IntType il (refl, w.fits) el) (λ rest out place stack on. subst (λ j. E (value globals blocks r) j rest out place stack stack) w.int (er t refl rest out place stack on)) rest out place stack on)
  operator_goes operator l r (Constant a) Nil k il ir made el er rest out place stack on = absurd cc
  operator_goes operator l r (Typed s) b k il ir made el er rest out place stack on = typed_goes operator (value globals blocks l) (emits globals elements scope l) s r b k ir made (el s refl) er rest out place stack on
  operator_goes operator l r Nil (Constant b) k il ir made el er rest out place stack on = absurd cc
  operator_goes operator l r Nil (Typed t) k il ir made el er rest out place stack on = nil_goes operator l r t k il made er rest out place stack on
  operator_goes operator l r Nil Nil k il ir made el er rest out place stack on = absurd cc
