-- Instructions of operators, after those of their operands.
use Rattle.std.proofs.Common.{◌≡◌, ℕ, ◌+◌, ◌-◌, ◌<◌, ◌≤◌, true, false, List, [], ◌∷◌, ◌++◌, length, map, take, Option, Some, None, refl, sym, ap, ◌∙◌, subst, arith, append_assoc, length-append}
use Rattle.std.specs.Prelude.{slice_set}
use Rattle.std.proofs.Math.Seq.{take-append_seam}
use Rattle.std.proofs.lemmas.List.{append-nil, length-set, set-append_left}
use Rattle.syntax.specs.declared.node.UnaryOperator.{UnaryOperator}
use Rattle.syntax.specs.declared.node.UnaryOperator.TheVariants as signs
use Rattle.syntax.specs.declared.node.BinaryOperator.{BinaryOperator}
use Rattle.syntax.specs.declared.node.BinaryOperator.TheVariants as symbols
use Rattle.bytecode.specs.declared.instr.Instr.{Instr}
use Rattle.bytecode.specs.declared.instr.Instr.TheVariants as instrs
use Rattle.bytecode.specs.declared.instr.WordKind.{WordKind}
use Rattle.type_table.specs.Types.{ValueType}
use Rattle.typing_rules.specs.Worths.{Worth, Typed, Constant, Nil, is_logical}
use Rattle.codegen_base.specs.declared.element.Element.{Element}
use Rattle.codegen_base.specs.Pushes.{between, compared, elements_shape, operates, operator_of, pushes_zeros, settled, signed, zero_instr}
use Rattle.plan.specs.Plan.{Plan, Skip, Do, Seq, IfElse, flat}
use Rattle.codegen_expression.specs.Emission.{Puts, signing, listed, settling, kind_in, opening, opened, led, closing, operated, or_false, true_or}
use Rattle.codegen_expression.proofs.Emitting.{LeadsOn, puts_none, puts_do, puts_both, puts_alone, puts_if_else}
use Rattle.codegen_expression.proofs.Leading.{Leads, leads_settled}

-- nothing is appended
same_puts : (old new : List Instr) (part : Plan → Plan) → new ≡ old → Puts old old part → Puts old new part
same_puts old new part is p = subst (λ n. Puts old n part) (sym is) p

-- two instructions
pub puts_two : (old new : List Instr) (i j : Instr) → new ≡ old ++ i ∷ j ∷ [] → Puts old new (λ rest. Do i (Do j rest))
puts_two old new i j is =
    puts_both old (old ++ i ∷ []) new (Do i) (Do j) (puts_do old (old ++ i ∷ []) i refl) (puts_do (old ++ i ∷ []) new j (is ∙ sym (append_assoc old (i ∷ []) (j ∷ []))))

-- an instruction after a part
pub puts_then : (part : Plan → Plan) (i : Instr) (i0 i1 i2 : List Instr) → Puts i0 i1 part → i2 ≡ i1 ++ i ∷ [] → Puts i0 i2 (λ rest. part (Do i rest))
puts_then part i i0 i1 i2 p is = puts_both i0 i1 i2 part (Do i) p (puts_do i1 i2 i is)

-- the operator before an operand
pub puts_signed : (operator : UnaryOperator) (old new : List Instr) → new ≡ old ++ listed (signing operator) → Puts old new (signed operator)
puts_signed signs.Plus old new is = same_puts old new (λ rest. rest) (is ∙ append-nil old) (puts_none old)
puts_signed signs.Negate old new is = puts_do old new _ is
puts_signed signs.Not old new is = puts_do old new _ is
puts_signed signs.Complement old new is = puts_do old new _ is

-- zeros
pub puts_zeros : (kinds : List WordKind) (old new : List Instr) → new ≡ old ++ map zero_instr kinds → Puts old new (pushes_zeros kinds)
puts_zeros [] old new is = same_puts old new (λ rest. rest) (is ∙ append-nil old) (puts_none old)
puts_zeros (kind ∷ kinds) old new is =
    puts_both old (old ++ zero_instr kind ∷ []) new (Do (zero_instr kind)) (pushes_zeros kinds) (puts_do old (old ++ zero_instr kind ∷ []) (zero_instr kind) refl)
    (puts_zeros kinds (old ++ zero_instr kind ∷ []) new (is ∙ sym (append_assoc old (zero_instr kind ∷ []) (map zero_instr kinds))))

-- ---- operands

-- what was there before a part stays
pub stays : (old new : List Instr) (part : Plan → Plan) → Puts old new part → take (length old) new ≡ old
stays old new part p = ap (take (length old)) (puts_alone old new part p 0 0) ∙ take-append_seam old (flat 0 0 (length old) (part Skip))

-- one instruction instead of a part
pub puts_instead : (old middle new : List Instr) (part : Plan → Plan) (i : Instr) → Puts old middle part → new ≡ take (length old) middle ++ i ∷ [] → Puts old new (Do i)
puts_instead old middle new part i p is = puts_do old new i (is ∙ ap (λ m. m ++ i ∷ []) (stays old middle part p))

-- an operand is used as a value of a type
pub puts_settled : (elements : List Element) (w : Option Worth) (kind : ValueType) (old middle new : List Instr) (part : Plan → Plan) → Puts old middle part → new ≡ settling elements w kind (length old) middle
    → Puts old new (λ rest. settled elements w kind (part rest) rest)
puts_settled elements None kind old middle new part p is = subst (λ n. Puts old n part) (sym is) p
puts_settled elements (Some (Typed t)) kind old middle new part p is = subst (λ n. Puts old n part) (sym is) p
puts_settled elements (Some (Constant v)) kind old middle new part p is = puts_instead old middle new part _ p is
puts_settled elements (Some Nil) kind old middle new part p is = puts_instead old middle new part _ p is

-- ---- && and ||, whose targets are known after them

set_middle : (xs ys : List Instr) (i j : Instr) → slice_set (xs ++ i ∷ ys) (length xs) j ≡ xs ++ j ∷ ys
set_middle [] ys i j = refl
set_middle (x ∷ xs) ys i j = ap (λ (l : List Instr). x ∷ l) (set_middle xs ys i j)

-- nothing that was there goes
puts_longer : (old new : List Instr) (part : Plan → Plan) → Puts old new part → length old ≤ length new
puts_longer old new part p = let more = ap length (puts_alone old new part p 0 0) ∙ length-append old (flat 0 0 (length old) (part Skip)) in omega (arith, more)

-- what a part appends stays the same if an instruction before it is replaced
puts_set : (old new : List Instr) (at : ℕ) (i : Instr) (part : Plan → Plan) → at < length old → Puts old new part → Puts (slice_set old at i) (slice_set new at i) part
puts_set old new at i part le p leave again rest =
    let longer = puts_longer old new part p in
    ap (λ n. slice_set new at i ++ flat leave again n rest) (length-set new at i)
    ∙ sym (set-append_left new (flat leave again (length new) rest) at i (omega (arith, longer, le)))
    ∙ ap (λ (l : List Instr). slice_set l at i) (p leave again rest)
    ∙ set-append_left old (flat leave again (length old) (part rest)) at i le
    ∙ ap (λ n. slice_set old at i ++ flat leave again n (part rest)) (sym (length-set old at i))

longer_by_one : (old new : List Instr) (i : Instr) → new ≡ old ++ i ∷ [] → length new ≡ length old + 1
longer_by_one old new i is = ap length is ∙ length-append old (i ∷ [])

module _ (kind : ValueType) (l r : Plan → Plan) (i0 i1 i2 i3 i4 : List Instr) (p : Puts i0 i1 l) (q : Puts i2 i3 r) where
  and_put : LeadsOn r → i2 ≡ i1 ++ instrs.Unless 0 ∷ [] → i4 ≡ or_false (length i2 - 1) i3 → Puts i0 i4 (between symbols.LogicalAnd kind l r)
  and_put on e2 e4 =
      let next = length i3 + 1 in
      let to = length i3 + 2 in
      let test = instrs.Unless next in
      let over = instrs.Jump to in
      let no = instrs.Bool false in
      let j2 = i1 ++ test ∷ [] in
      let j3 = slice_set i3 (length i1) test in
      let j4 = j3 ++ over ∷ [] in
      let n2 = longer_by_one i1 i2 (instrs.Unless 0) e2 in
      let at : length i2 - 1 ≡ length i1 = omega (arith, n2) in
      let m3 : length j3 ≡ length i3 = length-set i3 (length i1) test in
      let m4 = longer_by_one j3 j4 over refl in
      let same2 : slice_set i2 (length i1) test ≡ j2 = ap (λ (x : List Instr). slice_set x (length i1) test) e2 ∙ set_middle i1 [] (instrs.Unless 0) test in
      let second : Puts j2 j3 r = subst (λ x. Puts x j3 r) same2 (puts_set i2 i3 (length i1) test r (omega (arith, n2)) q) in
      let same4 : i4 ≡ j4 ++ no ∷ [] = e4 ∙ ap (λ m. or_false m i3) at ∙ sym (append_assoc j3 (over ∷ []) (no ∷ [])) in
      let n4 = longer_by_one j4 i4 no same4 in
      puts_both i0 i1 i4 l (λ rest. Seq (IfElse (r Skip) (Do no Skip)) rest) p
      (puts_if_else i1 j2 j3 j4 i4 next to r (Do no) on refl second refl (puts_do j4 i4 no same4) (omega (arith, m3, m4)) (omega (arith, m3, m4, n4)))

  or_put : i2 ≡ i1 ++ true_or (length i1) → i4 ≡ slice_set i3 (length i2 - 1) (instrs.Jump (length i3)) → Puts i0 i4 (between symbols.LogicalOr kind l r)
  or_put e2 e4 =
      let next = length i1 + 3 in
      let to = length i3 in
      let over = instrs.Jump to in
      let yes = instrs.Bool true in
      let j1 = i1 ++ instrs.Unless next ∷ [] in
      let j2 = j1 ++ yes ∷ [] in
      let j4 = j2 ++ over ∷ [] in
      let m1 = longer_by_one i1 j1 (instrs.Unless next) refl in
      let m2 = longer_by_one j1 j2 yes refl in
      let m4 = longer_by_one j2 j4 over refl in
      let put2 : i2 ≡ j2 ++ instrs.Jump 0 ∷ [] = e2 ∙ sym (append_assoc i1 (instrs.Unless next ∷ []) (yes ∷ instrs.Jump 0 ∷ [])) ∙ sym (append_assoc j1 (yes ∷ []) (instrs.Jump 0 ∷ [])) in
      let n2 = longer_by_one j2 i2 (instrs.Jump 0) put2 in
      let at : length i2 - 1 ≡ length j2 = omega (arith, n2) in
      let same2 : slice_set i2 (length j2) over ≡ j4 = ap (λ (x : List Instr). slice_set x (length j2) over) put2 ∙ set_middle j2 [] (instrs.Jump 0) over in
      let same4 : i4 ≡ slice_set i3 (length j2) over = e4 ∙ ap (λ m. slice_set i3 m over) at in
      let moved = puts_set i2 i3 (length j2) over r (omega (arith, n2)) q in
      let last : Puts j4 i4 r = subst (λ x. Puts j4 x r) (sym same4) (subst (λ x. Puts x (slice_set i3 (length j2) over) r) same2 moved) in
      let end : length i4 ≡ length i3 = ap length e4 ∙ length-set i3 (length i2 - 1) over in
      puts_both i0 i1 i4 l (λ rest. Seq (IfElse (Do yes Skip) (r Skip)) rest) p
      (puts_if_else i1 j1 j2 j4 i4 next to (Do yes) r refl refl (puts_do j1 j2 yes refl) refl last (omega (arith, m1, m2, m4)) (omega (arith, end)))

  plain_put : (i : Instr) → i2 ≡ i1 ++ [] → i4 ≡ i3 ++ i ∷ [] → Puts i0 i4 (λ rest. l (r (Do i rest)))
  plain_put i e2 e4 = puts_then (λ rest. l (r rest)) i i0 i3 i4 (puts_both i0 i1 i3 l r p (subst (λ x. Puts x i3 r) (e2 ∙ append-nil i1) q)) e4

  -- the operands, what is between them, and the operator
  between_put : (operator : BinaryOperator) → LeadsOn r → i2 ≡ opened operator i1 → i4 ≡ closing operator kind (length i2) i3 → Puts i0 i4 (between operator kind l r)
  between_put symbols.LogicalAnd on e2 e4 = and_put on e2 e4
  between_put symbols.LogicalOr on e2 e4 = or_put e2 e4
  between_put symbols.Add on e2 e4 = plain_put _ e2 e4
  between_put symbols.Subtract on e2 e4 = plain_put _ e2 e4
  between_put symbols.Multiply on e2 e4 = plain_put _ e2 e4
  between_put symbols.Divide on e2 e4 = plain_put _ e2 e4
  between_put symbols.Remainder on e2 e4 = plain_put _ e2 e4
  between_put symbols.And on e2 e4 = plain_put _ e2 e4
  between_put symbols.Or on e2 e4 = plain_put _ e2 e4
  between_put symbols.ExclusiveOr on e2 e4 = plain_put _ e2 e4
  between_put symbols.AndNot on e2 e4 = plain_put _ e2 e4
  between_put symbols.ShiftLeft on e2 e4 = plain_put _ e2 e4
  between_put symbols.ShiftRight on e2 e4 = plain_put _ e2 e4
  between_put symbols.Equal on e2 e4 = plain_put _ e2 e4
  between_put symbols.NotEqual on e2 e4 = plain_put _ e2 e4
  between_put symbols.Less on e2 e4 = plain_put _ e2 e4
  between_put symbols.LessEqual on e2 e4 = plain_put _ e2 e4
  between_put symbols.Greater on e2 e4 = plain_put _ e2 e4
  between_put symbols.GreaterEqual on e2 e4 = plain_put _ e2 e4

-- only && and || have something between their operands, and something else than one instruction after them
pub opened_plainly : (operator : BinaryOperator) (code : List Instr) → is_logical operator ≡ false → code ≡ opened operator code
opened_plainly symbols.LogicalAnd code is = absurd cc
opened_plainly symbols.LogicalOr code is = absurd cc
opened_plainly symbols.Add code is = sym (append-nil code)
opened_plainly symbols.Subtract code is = sym (append-nil code)
opened_plainly symbols.Multiply code is = sym (append-nil code)
opened_plainly symbols.Divide code is = sym (append-nil code)
opened_plainly symbols.Remainder code is = sym (append-nil code)
opened_plainly symbols.And code is = sym (append-nil code)
opened_plainly symbols.Or code is = sym (append-nil code)
opened_plainly symbols.ExclusiveOr code is = sym (append-nil code)
opened_plainly symbols.AndNot code is = sym (append-nil code)
opened_plainly symbols.ShiftLeft code is = sym (append-nil code)
opened_plainly symbols.ShiftRight code is = sym (append-nil code)
opened_plainly symbols.Equal code is = sym (append-nil code)
opened_plainly symbols.NotEqual code is = sym (append-nil code)
opened_plainly symbols.Less code is = sym (append-nil code)
opened_plainly symbols.LessEqual code is = sym (append-nil code)
opened_plainly symbols.Greater code is = sym (append-nil code)
opened_plainly symbols.GreaterEqual code is = sym (append-nil code)

pub closing_plainly : (operator : BinaryOperator) (kind : ValueType) (second : ℕ) (code : List Instr) → is_logical operator ≡ false → code ++ instrs.Apply (operator_of operator kind) ∷ [] ≡ closing operator kind second code
closing_plainly symbols.LogicalAnd kind second code is = absurd cc
closing_plainly symbols.LogicalOr kind second code is = absurd cc
closing_plainly symbols.Add kind second code is = refl
closing_plainly symbols.Subtract kind second code is = refl
closing_plainly symbols.Multiply kind second code is = refl
closing_plainly symbols.Divide kind second code is = refl
closing_plainly symbols.Remainder kind second code is = refl
closing_plainly symbols.And kind second code is = refl
closing_plainly symbols.Or kind second code is = refl
closing_plainly symbols.ExclusiveOr kind second code is = refl
closing_plainly symbols.AndNot kind second code is = refl
closing_plainly symbols.ShiftLeft kind second code is = refl
closing_plainly symbols.ShiftRight kind second code is = refl
closing_plainly symbols.Equal kind second code is = refl
closing_plainly symbols.NotEqual kind second code is = refl
closing_plainly symbols.Less kind second code is = refl
closing_plainly symbols.LessEqual kind second code is = refl
closing_plainly symbols.Greater kind second code is = refl
closing_plainly symbols.GreaterEqual kind second code is = refl

-- ---- operators between operands

module _ (elements : List Element) (operator : BinaryOperator) (l r : Plan → Plan) (leads : Leads r) (i0 i1 i2 i3 i4 : List Instr) (p : Puts i0 i1 l) (q : Puts i2 i3 r) where
  -- a left operand that is pushed before the right one
  pushed : (a b : Option Worth) (t : ValueType) (j1 : List Instr) → Puts i0 j1 (λ k. settled elements a t (l k) k) → i2 ≡ opened operator j1 → i4 ≡ closing operator (kind_in a) (length i2) (settling elements b (kind_in a) (length i2) i3)
      → Puts i0 i4 (λ rest. between operator (kind_in a) (λ k. settled elements a t (l k) k) (λ k. settled elements b (kind_in a) (r k) k) rest)
  pushed a b t j1 left e2 e4 =
      let more = λ (k : Plan). settled elements b (kind_in a) (r k) k in
      let j3 = settling elements b (kind_in a) (length i2) i3 in
      between_put (kind_in a) (λ k. settled elements a t (l k) k) more i0 j1 i2 j3 i4 left (puts_settled elements b (kind_in a) i2 i3 j3 r q refl) operator (leads_settled elements b (kind_in a) (r Skip) Skip (leads Skip refl) refl) e2 e4

  -- the left operand's instructions go, and the right one's with it
  both_go : (i : Instr) → i2 ≡ opened operator (take (length i0) i1 ++ i ∷ []) → take (length i0) i3 ≡ i0
  both_go i e2 =
      let kept = stays i0 i1 l p in
      let pushed = i0 ++ i ∷ [] in
      let e : i2 ≡ opened operator pushed = e2 ∙ ap (λ m. opened operator (m ++ i ∷ [])) kept in
      let between = opening operator (length pushed) in
      let following = flat 0 0 (length i2) (r Skip) in
      let all : i3 ≡ i0 ++ ((i ∷ []) ++ (between ++ following)) = puts_alone i2 i3 r q 0 0 ∙ ap (λ m. m ++ following) e ∙ append_assoc pushed between following ∙ append_assoc i0 (i ∷ []) (between ++ following) in
      ap (take (length i0)) all ∙ take-append_seam i0 ((i ∷ []) ++ (between ++ following))

  pub puts_operated : (a b : Option Worth) → i2 ≡ led operator a (length i0) i1 → i4 ≡ operated elements operator a b (length i0) (length i2) i3 → Puts i0 i4 (λ rest. operates elements operator a b (kind_in a) (kind_in b) l r rest)
  puts_operated (Some (Constant v)) (Some (Constant w)) e2 e4 = puts_do i0 i4 (compared operator v w) (e4 ∙ ap (λ m. m ++ compared operator v w ∷ []) (both_go _ e2))
  puts_operated (Some (Constant v)) None e2 e4 = pushed (Some (Constant v)) None (kind_in None) _ (puts_instead i0 i1 _ l _ p refl) e2 e4
  puts_operated (Some (Constant v)) (Some (Typed t)) e2 e4 = pushed (Some (Constant v)) (Some (Typed t)) t _ (puts_instead i0 i1 _ l _ p refl) e2 e4
  puts_operated (Some (Constant v)) (Some Nil) e2 e4 = pushed (Some (Constant v)) (Some Nil) (kind_in (Some Nil)) _ (puts_instead i0 i1 _ l _ p refl) e2 e4
  puts_operated (Some (Typed s)) b e2 e4 = pushed (Some (Typed s)) b (kind_in b) i1 p e2 e4
  puts_operated None b e2 e4 = pushed None b (kind_in b) i1 p e2 e4
  puts_operated (Some Nil) b e2 e4 =
      let same : i2 ≡ i0 = e2 ∙ stays i0 i1 l p in
      let nil = instrs.Nil (elements_shape elements (kind_in b)) in
      let last = instrs.Apply (operator_of operator (kind_in b)) in
      puts_both i0 i3 i4 r (λ rest. Do nil (Do last rest)) (subst (λ n. Puts n i3 r) same q) (puts_two i3 i4 nil last e4)
