-- The code of an expression pushes its value's words, or panics as it does.
use Rattle.std.proofs.Common.{◌≡◌, ℕ, ℤ, cond, ◌+◌, ◌-◌, Bool, true, false, List, [], ◌∷◌, ◌++◌, length, take, drop, Option, Some, None, IfSome, Ok, Err, refl, sym, ap, subst, arith, append_assoc, slice_range}
use Rattle.bytecode.specs.declared.instr.Instr.TheVariants as instrs
use Rattle.bytecode.specs.Effects.{count, operands}
use Rattle.bytecode.specs.Machine.{Frames, applied as machine_applied, code_next}
use Rattle.word.specs.declared.apply.Op.{Op}
use Rattle.word.specs.declared.value.Word.{Word}
use Rattle.word.specs.declared.value.Word.TheVariants.{Int, Bool as Truth}
use Rattle.word.specs.Apply.{Valued, value as applied}
use Rattle.word.specs.Related.{Slips}
use Rattle.type_table.specs.Types.{ValueType, IntType, BoolType}
use Rattle.type_table.specs.Containment.{Structs}
use Rattle.type_table.specs.Scopes.{Globals}
use Rattle.type_table.specs.Zeros.{zero_words}
use Rattle.syntax.specs.declared.node.BinaryOperator.{BinaryOperator}
use Rattle.syntax.specs.declared.node.BinaryOperator.TheVariants as symbols
use Rattle.meaning.specs.Values.{Value, words_like}
use Rattle.meaning.specs.Worked.{Worked, ready, and_then}
use Rattle.meaning.specs.Expressions.{word_in, one_word, between, beside, binary}
use Rattle.plan.specs.Plan.{Plan, Skip, Do, Seq, IfElse}
use Rattle.plan.proofs.Words.{Words, part}
use Rattle.plan.proofs.Places.{At, On, Leads}
use Rattle.plan.proofs.Steps.{spots, slips_more, pushes_int, pushes_bool, applies, panics, chooses, passes}
use Rattle.codegen_base.proofs.Gave.{Follows, stays, following, bind as follows_then, panics as panics_at}
use Rattle.codegen_base.proofs.Seen.{Like}
use Rattle.codegen_base.proofs.Likeness.{is_bool}
use Rattle.codegen_base.proofs.Operators.{Gives, IsPlain}
use Rattle.codegen_base.proofs.Running.{Compiled, Coded, Running, Standing}

pub range_part : (a n : ℕ) (ls : Words) → slice_range ls a (a + n) ≡ part a n ls
range_part a n ls = let e : a + n - a ≡ n = omega arith in ap (λ m. take m (drop a ls)) e

-- the code of a file: if it is that of its expressions, it works out what they do
module _ {globals : Globals} {program : Compiled globals} {coded : Coded program} {running : Running coded} (standing : Standing running) where
  open program use {code}
  open coded use {number as g, function as f, there}
  open running use {context, context.{callers}}
  open standing use {locals as ls, leave, again}

  abbrev structs : Structs
  structs = globals.structs

  abbrev pub at : ℕ → List Word → Frames
  at place stack = spots code g f there callers place ls stack

  abbrev pub Slip : ℕ → List Word → ℕ → List Word → Type 0
  Slip place stack to result = Slips (code_next code) (at place stack) (at to result)

  abbrev pub Stands : Plan → ℕ → Option ℕ → Type 0
  Stands plan place out = On code.selects f.instrs leave again plan place out

  -- the words of a value lie on the stack `base`, and what follows is at the code's pc
  abbrev pub Lies : List Word → Plan → Option ℕ → List Word → Value → Frames → Type 0
  Lies zeros rest out base v d = (to : ℕ) × (words_like zeros v ≡ v) × (d ≡ at to (base ++ v)) × Stands rest to out

  -- the code leads from a pc and a stack to where the words of the value lie on the stack `base`, or to where it panics, asks or
  -- calls as the source does
  abbrev pub EvalsLike : Worked Value → List Word → Plan → Option ℕ → ℕ → List Word → List Word → Type 0
  EvalsLike o zeros rest out place stack base = Follows context o (Lies zeros rest out base) (at place stack)

  abbrev pub Evals : Worked Value → ValueType → Plan → Option ℕ → ℕ → List Word → List Word → Type 0
  Evals o kind rest out place stack base = EvalsLike o (zero_words structs kind) rest out place stack base

  -- it is there at once
  pub lies : (v : Value) (kind : ValueType) (rest : Plan) (out : Option ℕ) (place : ℕ) (stack base : List Word) (to : ℕ) → Like structs kind v → Slip place stack to (base ++ v) → Stands rest to out → Evals (ready v) kind rest out place stack base
  lies v kind rest out place stack base to like s on =
      following context (ready v) (Lies (zero_words structs kind) rest out base) (at place stack) (at to (base ++ v)) s
      (stays context v (Lies (zero_words structs kind) rest out base) (at to (base ++ v)) (to, like, refl, on))

  pub after_slip : (o : Worked Value) (kind : ValueType) (rest : Plan) (out : Option ℕ) (place : ℕ) (stack base : List Word) (mid : ℕ) (result : List Word) → Slip place stack mid result → Evals o kind rest out mid result base → Evals o kind rest out place stack base
  after_slip o kind rest out place stack base mid result s e = following context o (Lies (zero_words structs kind) rest out base) (at place stack) (at mid result) s e

  -- a value, and what is made of it
  pub bind : (o : Worked Value) (go : Value → Worked Value) (i k : ValueType) (first rest : Plan) (end out : Option ℕ) (place : ℕ) (stack base : List Word) → Evals o i first end place stack stack
      → ((v : Value) → Like structs i v → (to : ℕ) → Stands first to end → Evals (go v) k rest out to (stack ++ v) base) → Evals (and_then o go) k rest out place stack base
  bind o go i k first rest end out place stack base e more =
      follows_then context o go (Lies (zero_words structs i) first end stack) (Lies (zero_words structs k) rest out base) (at place stack) e
      (λ v d l. subst (λ x. Follows context (go v) (Lies (zero_words structs k) rest out base) x) (sym l.2) (more v l.1 l.0 l.3))

  -- the end of a plan leads on
  pub ended : (place to : ℕ) (stack : List Word) → Leads f.instrs place (Some to) → Slip place stack to stack
  ended place to stack lead = passes code g f there callers place to ls stack lead

  -- the value is one of another type with the same words
  pub recast : (o : Worked Value) (i k : ValueType) (rest : Plan) (out : Option ℕ) (place : ℕ) (stack base : List Word) → zero_words structs i ≡ zero_words structs k → Evals o i rest out place stack base → Evals o k rest out place stack base
  recast o i k rest out place stack base e ev = subst (λ (z : List Word). EvalsLike o z rest out place stack base) e ev

  -- one word is pushed
  pub pushed : (w : Word) (kind : ValueType) (rest : Plan) (out : Option ℕ) (place : ℕ) (stack : List Word) → Like structs kind (w ∷ []) → Slip place stack (place + 1) (stack ++ w ∷ []) → Stands rest (place + 1) out → Evals (ready (w ∷ [])) kind rest out place stack stack
  pushed w kind rest out place stack like slip on = lies (w ∷ []) kind rest out place stack stack (place + 1) like slip on

  pub pushed_int : (n : ℤ) (rest : Plan) (out : Option ℕ) (place : ℕ) (stack : List Word) → Stands (Do (instrs.Int n) rest) place out → Evals (ready (Int n ∷ [])) IntType rest out place stack stack
  pushed_int n rest out place stack on = pushed (Int n) IntType rest out place stack refl (pushes_int code g f there callers place ls stack n on.0) on.1

  pub pushed_bool : (b : Bool) (rest : Plan) (out : Option ℕ) (place : ℕ) (stack : List Word) → Stands (Do (instrs.Bool b) rest) place out → Evals (ready (Truth b ∷ [])) BoolType rest out place stack stack
  pushed_bool b rest out place stack on = pushed (Truth b) BoolType rest out place stack refl (pushes_bool code g f there callers place ls stack b on.0) on.1

  -- ---- operators

  -- the machine's operator gives what the source's gives
  pub operated : (ws : List Word) (op : Op) (o : Valued) (k : ValueType) (rest : Plan) (out : Option ℕ) (place : ℕ) (stack : List Word) → machine_applied op ws ≡ o → count (operands op) ≡ length ws → Gives structs o k
      → Stands (Do (instrs.Apply op) rest) place out → Evals (one_word o) k rest out place (stack ++ ws) stack
  operated ws op None k rest out place stack is many gives on = absurd gives
  operated ws op (Some (Err cause)) k rest out place stack is many gives on = panics_at context cause (Lies (zero_words structs k) rest out stack) (at place (stack ++ ws)) (panics code g f there callers place ls stack ws op cause on.0 many is)
  operated ws op (Some (Ok w)) k rest out place stack is many gives on = lies (w ∷ []) k rest out place (stack ++ ws) stack (place + 1) gives (applies code g f there callers place ls stack ws op w on.0 many is) on.1

  -- an expression's code, whatever follows
  abbrev pub Pushes : Worked Value → ValueType → (Plan → Plan) → Type 0
  Pushes o kind push = (rest : Plan) (out : Option ℕ) (place : ℕ) (stack : List Word) → Stands (push rest) place out → Evals o kind rest out place stack stack

  pub plain : (operator : BinaryOperator) (op : Op) (i j k : ValueType) (l r : Worked Value) (left right : Plan → Plan) → IsPlain structs operator op i j k
      → ((a : Word) (o : Worked Value) → beside operator a o ≡ and_then o (λ b. between operator a (word_in b)))
      → Pushes l i left → Pushes r j right → Pushes (binary operator l r) k (λ rest. left (right (Do (instrs.Apply op) rest)))
  plain operator op i j k l r left right p split el er rest out place stack on =
      bind l (λ a. beside operator (word_in a) r) i k (right (Do (instrs.Apply op) rest)) rest out out place stack stack (el _ out place stack on)
      (λ va ha to on1.
      let sa = p.left va ha in
      subst (λ o. Evals o k rest out to (stack ++ va) stack) (sym (split (word_in va) r))
      (bind r (λ b. between operator (word_in va) (word_in b)) j k (Do (instrs.Apply op) rest) rest out out to (stack ++ va) stack (er _ out to (stack ++ va) on1)
      (λ vb hb to2 on2.
      let sb = p.right vb hb in
      let a = sa.0 in
      let b = sb.0 in
      subst (λ (v : Value). Evals (between operator (word_in v) (word_in vb)) k rest out to2 ((stack ++ v) ++ vb) stack) (sym sa.1)
      (subst (λ (v : Value). Evals (between operator a (word_in v)) k rest out to2 ((stack ++ a ∷ []) ++ v) stack) (sym sb.1)
      (subst (λ (s : Words). Evals (between operator a b) k rest out to2 s stack) (sym (append_assoc stack (a ∷ []) (b ∷ [])))
      (subst (λ o. Evals o k rest out to2 (stack ++ (a ∷ (b ∷ []))) stack) (sym (p.same a b (subst (Like structs i) sa.1 ha) (subst (Like structs j) sb.1 hb)))
      (operated (a ∷ (b ∷ [])) op (applied op a b) k rest out to2 stack refl p.two (p.gives a b (subst (Like structs i) sa.1 ha) (subst (Like structs j) sb.1 hb)) on2)))))))

  -- ---- `&&` and `||`

  -- a truth value decides at which pc the code goes on
  tested : (b : Bool) (next place : ℕ) (stack : List Word) → At f.instrs place (instrs.Unless next) → Slip place (stack ++ Truth b ∷ []) (cond b (place + 1) next) stack
  tested b next place stack is = chooses code g f there callers place next ls stack b is

  -- the right operand's value is that of both
  right_value : (r : Worked Value) (rest : Plan) (m : ℕ) (out : Option ℕ) (place : ℕ) (stack : List Word) (from : ℕ) (start : List Word) → Slip place start from stack → Evals r BoolType Skip (Some m) from stack stack → Stands rest m out
      → Evals (and_then r (λ b. ready (word_in b ∷ []))) BoolType rest out place start stack
  right_value r rest m out place stack from start s e on =
      after_slip (and_then r (λ b. ready (word_in b ∷ []))) BoolType rest out place start stack from stack s
      (bind r (λ b. ready (word_in b ∷ [])) BoolType BoolType Skip rest (Some m) out from stack stack e
      (λ v like to lead. let b = is_bool structs v like in
      subst (λ (x : Value). Evals (ready (word_in x ∷ [])) BoolType rest out to (stack ++ x) stack) (sym b.1)
      (lies (Truth b.0 ∷ []) BoolType rest out to (stack ++ Truth b.0 ∷ []) stack m refl (ended to m (stack ++ Truth b.0 ∷ []) lead) on)))

  -- the other value is settled by the left operand alone
  settled_value : (b : Bool) (rest : Plan) (m : ℕ) (out : Option ℕ) (place from : ℕ) (stack start : List Word) → Slip place start from stack → Stands (Do (instrs.Bool b) Skip) from (Some m) → Stands rest m out → Evals (ready (Truth b ∷ [])) BoolType rest out place start stack
  settled_value b rest m out place from stack start s on after =
      let v = stack ++ Truth b ∷ [] in
      let pushed-slip : Slip from stack m v = slips_more (code_next code) (at from stack) (at (from + 1) v) (at m v) (pushes_bool code g f there callers from ls stack b on.0) (ended (from + 1) m v on.1) in
      lies (Truth b ∷ []) BoolType rest out place start stack m refl (slips_more (code_next code) (at place start) (at from stack) (at m v) s pushed-slip) after

  pub both : (l r : Worked Value) (left right : Plan → Plan) → Pushes l BoolType left → Pushes r BoolType right
      → Pushes (binary symbols.LogicalAnd l r) BoolType (λ rest. left (Seq (IfElse (right Skip) (Do (instrs.Bool false) Skip)) rest))
  both l r left right el er rest out place stack on =
      bind l (λ a. beside symbols.LogicalAnd (word_in a) r) BoolType BoolType (Seq (IfElse (right Skip) (Do (instrs.Bool false) Skip)) rest) rest out out place stack stack (el _ out place stack on)
      (λ v like to (mid, branch, after).
      let b = is_bool structs v like in
      subst (λ (x : Value). Evals (beside symbols.LogicalAnd (word_in x) r) BoolType rest out to (stack ++ x) stack) (sym b.1) (go b.0 mid to branch.0 branch.1 branch.2 branch.3 after)) where
        go : (b : Bool) (mid : Option ℕ) (to next : ℕ) → At f.instrs to (instrs.Unless next) → Stands (right Skip) (to + 1) mid → Stands (Do (instrs.Bool false) Skip) next mid → IfSome mid (λ m. Stands rest m out)
            → Evals (beside symbols.LogicalAnd (Truth b) r) BoolType rest out to (stack ++ Truth b ∷ []) stack
        go b None to next is so other after = absurd other.1
        go true (Some m) to next is so other after = right_value r rest m out to stack (to + 1) (stack ++ Truth true ∷ []) (tested true next to stack is) (er Skip (Some m) (to + 1) stack so) after
        go false (Some m) to next is so other after = settled_value false rest m out to next stack (stack ++ Truth false ∷ []) (tested false next to stack is) other after

  pub either : (l r : Worked Value) (left right : Plan → Plan) → Pushes l BoolType left → Pushes r BoolType right
      → Pushes (binary symbols.LogicalOr l r) BoolType (λ rest. left (Seq (IfElse (Do (instrs.Bool true) Skip) (right Skip)) rest))
  either l r left right el er rest out place stack on =
      bind l (λ a. beside symbols.LogicalOr (word_in a) r) BoolType BoolType (Seq (IfElse (Do (instrs.Bool true) Skip) (right Skip)) rest) rest out out place stack stack (el _ out place stack on)
      (λ v like to (mid, branch, after).
      let b = is_bool structs v like in
      subst (λ (x : Value). Evals (beside symbols.LogicalOr (word_in x) r) BoolType rest out to (stack ++ x) stack) (sym b.1) (go b.0 mid to branch.0 branch.1 branch.2 branch.3 after)) where
        go : (b : Bool) (mid : Option ℕ) (to next : ℕ) → At f.instrs to (instrs.Unless next) → Stands (Do (instrs.Bool true) Skip) (to + 1) mid → Stands (right Skip) next mid → IfSome mid (λ m. Stands rest m out)
            → Evals (beside symbols.LogicalOr (Truth b) r) BoolType rest out to (stack ++ Truth b ∷ []) stack
        go b None to next is so other after = absurd so.1
        go true (Some m) to next is so other after = settled_value true rest m out to (to + 1) stack (stack ++ Truth true ∷ []) (tested true next to stack is) so after
        go false (Some m) to next is so other after = right_value r rest m out to stack next (stack ++ Truth false ∷ []) (tested false next to stack is) (er Skip (Some m) next stack other) after
