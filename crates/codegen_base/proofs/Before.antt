-- Code that comes before other code and has no selects: what pushes operands.
use Rattle.std.proofs.Common.{◌≡◌, ℕ, ◌+◌, true, false, cond, ◌&&◌, ◌||◌, List, [], ◌∷◌, Option, Some, None, refl, ap, ◌∙◌, subst, arith}
use Rattle.std.proofs.lemmas.Bool.{OnTrue_from, OnTrue_at}
use Rattle.syntax.specs.declared.node.UnaryOperator.{UnaryOperator}
use Rattle.syntax.specs.declared.node.UnaryOperator.TheVariants as signs
use Rattle.syntax.specs.declared.node.BinaryOperator.{BinaryOperator}
use Rattle.syntax.specs.declared.node.BinaryOperator.TheVariants as symbols
use Rattle.syntax.specs.Tree.{Expression, Integer, Named, Parenthesized, Selection, Composite, Unary, Binary, Call, Receive, Make, MakeSized, Length, Capacity, Expressions, NoMore, Following, expressions, Comm, CommSend, CommReceive, CommDefine, CommAssign, Clauses, NoClause, Clause}
use Rattle.bytecode.specs.declared.instr.WordKind.{WordKind}
use Rattle.bytecode.specs.declared.instr.Instr.{Instr}
use Rattle.bytecode.specs.declared.instr.Instr.TheVariants as instrs
use Rattle.bytecode.specs.Code.{SelectTable}
use Rattle.type_table.specs.Types.{ValueType, IntType}
use Rattle.meaning.specs.Expressions.{number_of}
use Rattle.type_table.specs.Scopes.{Globals, Scope, Yield}
use Rattle.typing_rules.specs.Worths.{Worth, Typed as TypedWorth, Constant, Nil, worth}
use Rattle.codegen_base.specs.declared.element.Element.{Element}
use Rattle.codegen_base.specs.Elements.{kinds_of}
use Rattle.codegen_base.specs.Layouts.{Layout, type_of, carried}
use Rattle.codegen_base.specs.Pushes.{pushes_own, pushes_zeros, signed, settled, between, operates, literal_types, emits, argument_types, receives, makes, emits_all, pushes, pushes_all, selects}
use Rattle.codegen_base.specs.Generated.{pushes_comm, pushes_clauses}
use Rattle.plan.specs.Plan.{Plan, Skip, Do, Seq, IfElse, reaches_end, size, table_count}
use Rattle.plan.proofs.Tables.{Numbered, Tabled}

-- the second plan comes after instructions and choices without selects
pub data Before : Plan → Plan → Type 0 where
  Here : (rest : Plan) → Before rest rest
  Step : (i : Instr) (rest p : Plan) → Before rest p → Before rest (Do i p)
  Choice : (rest so other p : Plan) → Before Skip so → Before Skip other → Before rest p → Before rest (Seq (IfElse so other) p)

pub before_on : (a b c : Plan) → Before b a → Before c b → Before c a
before_on a _ c (Here _) h = h
before_on _ b c (Step i _ p g) h = Step i c p (before_on p b c g h)
before_on _ b c (Choice _ so other p x y g) h = Choice c so other p x y (before_on p b c g h)

-- ---- what is so of both

pub before_ends : (rest p : Plan) → Before rest p → reaches_end p ≡ reaches_end rest
before_ends rest _ (Here _) = refl
before_ends rest _ (Step i _ p g) = before_ends rest p g
before_ends rest _ (Choice _ so other p x y g) = ap (λ t. (t || reaches_end other) && reaches_end p) (before_ends Skip so x) ∙ before_ends rest p g

pub before_count : (rest p : Plan) → Before rest p → table_count p ≡ table_count rest
before_count rest _ (Here _) = refl
before_count rest _ (Step i _ p g) = before_count rest p g
before_count rest _ (Choice _ so other p x y g) =
    ap (λ t. table_count so + table_count other + cond (t || reaches_end other) (table_count p) 0) (before_ends Skip so x)
    ∙ (let a = before_count Skip so x in let b = before_count Skip other y in let c = before_count rest p g in omega (arith, a, b, c))

pub before_numbered : (rest p : Plan) (n : ℕ) → Before rest p → Numbered n rest → Numbered n p
before_numbered rest _ n (Here _) m = m
before_numbered rest _ n (Step i _ p g) m = before_numbered rest p n g m
before_numbered rest _ n (Choice _ so other p x y g) m =
    let a = before_count Skip so x in
    let b = before_count Skip other y in
    let here-is : n ≡ n + (table_count so + table_count other) = omega (arith, a, b) in
    ((before_numbered Skip so n x tt, before_numbered Skip other (n + table_count so) y tt), OnTrue_from (reaches_end (IfElse so other)) (Numbered (n + table_count (IfElse so other)) p) (λ e. subst (λ k. Numbered k p) here-is (before_numbered rest p n g m)))

module _ (all : List SelectTable) where
  pub before_tabled : (rest p : Plan) (place : ℕ) → Before rest p → Tabled all place p → (to : ℕ) × Tabled all to rest
  before_tabled rest _ place (Here _) t = (place, t)
  before_tabled rest _ place (Step i _ p g) t = before_tabled rest p (place + 1) g t
  before_tabled rest _ place (Choice _ so other p x y g) t = before_tabled rest p (place + size (IfElse so other)) g (OnTrue_at (ap (λ t. t || reaches_end other) (before_ends Skip so x)) t.1)

-- ---- operands

-- what pushes operands
abbrev pub Stands : (Plan → Plan) → Type 0
Stands push = (rest : Plan) → Before rest (push rest)

pub zeros_before : (ks : List WordKind) → Stands (pushes_zeros ks)
zeros_before [] rest = Here rest
zeros_before (k ∷ ks) rest = Step _ rest (pushes_zeros ks rest) (zeros_before ks rest)

signed_before : (operator : UnaryOperator) → Stands (signed operator)
signed_before signs.Plus rest = Here rest
signed_before signs.Negate rest = Step _ rest rest (Here rest)
signed_before signs.Not rest = Step _ rest rest (Here rest)
signed_before signs.Complement rest = Step _ rest rest (Here rest)

settled_before : (elements : List Element) (w : Option Worth) (kind : ValueType) (rest p : Plan) → Before rest p → Before rest (settled elements w kind p rest)
settled_before elements (Some (Constant z)) kind rest p g = Step _ rest rest (Here rest)
settled_before elements (Some Nil) kind rest p g = Step _ rest rest (Here rest)
settled_before elements (Some (TypedWorth t)) kind rest p g = g
settled_before elements None kind rest p g = g

plain_before : (operator : BinaryOperator) (kind : ValueType) (l r : Plan → Plan) → Stands l → Stands r → (i : Instr) → Stands (λ rest. l (r (Do i rest)))
plain_before operator kind l r x y i rest = before_on (l (r (Do i rest))) (r (Do i rest)) rest (x (r (Do i rest))) (before_on (r (Do i rest)) (Do i rest) rest (y (Do i rest)) (Step i rest rest (Here rest)))

between_before : (operator : BinaryOperator) (kind : ValueType) (l r : Plan → Plan) → Stands l → Stands r → Stands (between operator kind l r)
between_before symbols.LogicalAnd kind l r x y rest =
    let p = Seq (IfElse (r Skip) (Do (instrs.Bool false) Skip)) rest in before_on (l p) p rest (x p) (Choice rest (r Skip) (Do (instrs.Bool false) Skip) rest (y Skip) (Step _ Skip Skip (Here Skip)) (Here rest))
between_before symbols.LogicalOr kind l r x y rest =
    let p = Seq (IfElse (Do (instrs.Bool true) Skip) (r Skip)) rest in before_on (l p) p rest (x p) (Choice rest (Do (instrs.Bool true) Skip) (r Skip) rest (Step _ Skip Skip (Here Skip)) (y Skip) (Here rest))
between_before symbols.Add kind l r x y rest = plain_before symbols.Add kind l r x y _ rest
between_before symbols.Subtract kind l r x y rest = plain_before symbols.Add kind l r x y _ rest
between_before symbols.Multiply kind l r x y rest = plain_before symbols.Add kind l r x y _ rest
between_before symbols.Divide kind l r x y rest = plain_before symbols.Add kind l r x y _ rest
between_before symbols.Remainder kind l r x y rest = plain_before symbols.Add kind l r x y _ rest
between_before symbols.And kind l r x y rest = plain_before symbols.Add kind l r x y _ rest
between_before symbols.Or kind l r x y rest = plain_before symbols.Add kind l r x y _ rest
between_before symbols.ExclusiveOr kind l r x y rest = plain_before symbols.Add kind l r x y _ rest
between_before symbols.AndNot kind l r x y rest = plain_before symbols.Add kind l r x y _ rest
between_before symbols.ShiftLeft kind l r x y rest = plain_before symbols.Add kind l r x y _ rest
between_before symbols.ShiftRight kind l r x y rest = plain_before symbols.Add kind l r x y _ rest
between_before symbols.Equal kind l r x y rest = plain_before symbols.Add kind l r x y _ rest
between_before symbols.NotEqual kind l r x y rest = plain_before symbols.Add kind l r x y _ rest
between_before symbols.Less kind l r x y rest = plain_before symbols.Add kind l r x y _ rest
between_before symbols.LessEqual kind l r x y rest = plain_before symbols.Add kind l r x y _ rest
between_before symbols.Greater kind l r x y rest = plain_before symbols.Add kind l r x y _ rest
between_before symbols.GreaterEqual kind l r x y rest = plain_before symbols.Add kind l r x y _ rest

module _ (elements : List Element) (operator : BinaryOperator) (s t : ValueType) (l r : Plan → Plan) (x : Stands l) (y : Stands r) where
  both_before : (a b : Option Worth) → Stands (between operator s (λ k. settled elements a t (l k) k) (λ k. settled elements b s (r k) k))
  both_before a b = between_before operator s (λ k. settled elements a t (l k) k) (λ k. settled elements b s (r k) k) (λ rest. settled_before elements a t rest (l rest) (x rest)) (λ rest. settled_before elements b s rest (r rest) (y rest))

  pub operates_before : (a b : Option Worth) → Stands (operates elements operator a b s t l r)
  operates_before (Some (Constant m)) (Some (Constant n)) rest = Step _ rest rest (Here rest)
  operates_before (Some (Constant m)) (Some (TypedWorth k)) rest = both_before (Some (Constant m)) (Some (TypedWorth k)) rest
  operates_before (Some (Constant m)) (Some Nil) rest = both_before (Some (Constant m)) (Some Nil) rest
  operates_before (Some (Constant m)) None rest = both_before (Some (Constant m)) None rest
  operates_before (Some (TypedWorth k)) b rest = both_before (Some (TypedWorth k)) b rest
  operates_before (Some Nil) b rest = before_on (r (Do _ (Do _ rest))) (Do _ (Do _ rest)) rest (y (Do _ (Do _ rest))) (Step _ rest (Do _ rest) (Step _ rest rest (Here rest)))
  operates_before None b rest = both_before None b rest

module _ (globals : Globals) (elements : List Element) (scope : Scope) where
  mutual
    pub emits_before : (e : Expression) → Stands (emits globals elements scope e)
    emits_before (Integer number) rest = Here rest
    emits_before (Named name) rest = Step _ rest rest (Here rest)
    emits_before (Parenthesized inner) rest = emits_before inner rest
    emits_before (Selection of field) rest = before_on (emits globals elements scope (Selection of field) rest) (selects globals elements scope (type_of globals elements scope of) field rest) rest (emits_before of (selects globals elements scope (type_of globals elements scope of) field rest)) (Step _ rest rest (Here rest))
    emits_before (Composite name NoMore trailing) rest = zeros_before (kinds_of globals.structs elements (type_of globals elements scope (Composite name NoMore trailing))) rest
    emits_before (Composite name (Following first others) trailing) rest = all_before (literal_types globals elements scope (type_of globals elements scope (Composite name (Following first others) trailing))) (Following first others) rest
    emits_before (Unary operator operand) rest = before_on (emits globals elements scope operand (signed operator rest)) (signed operator rest) rest (emits_before operand (signed operator rest)) (signed_before operator rest)
    emits_before (Binary operator left right) rest =
        operates_before elements operator (type_of globals elements scope left) (type_of globals elements scope right) (emits globals elements scope left) (emits globals elements scope right) (emits_before left) (emits_before right) (worth globals scope left) (worth globals scope right) rest
    emits_before (Call function values trailing) rest =
        let number = number_of globals function in
        before_on (emits globals elements scope (Call function values trailing) rest) (Do (instrs.Call number) rest) rest (all_before (argument_types globals elements scope number) values (Do (instrs.Call number) rest)) (Step _ rest rest (Here rest))
    emits_before (Receive channel) rest =
        let following = receives globals elements scope channel (Do (instrs.Discard 1) rest) in
        before_on (emits globals elements scope channel following) following rest (emits_before channel following) (Step _ rest (Do (instrs.Discard 1) rest) (Step _ rest rest (Here rest)))
    emits_before (Make kind) rest = Step _ rest (makes globals elements scope kind rest) (Step _ rest rest (Here rest))
    emits_before (MakeSized kind size) rest =
        let following = makes globals elements scope kind rest in
        before_on (emits globals elements scope (MakeSized kind size) rest) following rest (settled_before elements (worth globals scope size) IntType following (emits globals elements scope size following) (emits_before size following)) (Step _ rest rest (Here rest))
    emits_before (Length channel) rest = before_on (emits globals elements scope channel (Do instrs.Len rest)) (Do instrs.Len rest) rest (emits_before channel (Do instrs.Len rest)) (Step _ rest rest (Here rest))
    emits_before (Capacity channel) rest = before_on (emits globals elements scope channel (Do instrs.Cap rest)) (Do instrs.Cap rest) rest (emits_before channel (Do instrs.Cap rest)) (Step _ rest rest (Here rest))

    all_before : (types : List ValueType) (values : Expressions) → Stands (emits_all globals elements scope types values)
    all_before types NoMore rest = Here rest
    all_before [] (Following first others) rest = Here rest
    all_before (kind ∷ types) (Following first others) rest =
        let following = emits_all globals elements scope types others rest in
        before_on (emits_all globals elements scope (kind ∷ types) (Following first others) rest) following rest (settled_before elements (worth globals scope first) kind following (emits globals elements scope first following) (emits_before first following)) (all_before types others rest)

  pub pushes_before : (kind : ValueType) (e : Expression) → Stands (pushes globals elements scope kind e)
  pushes_before kind e rest = settled_before elements (worth globals scope e) kind rest (emits globals elements scope e rest) (emits_before e rest)

  pub pushes_all_before : (types : List ValueType) (values : List Expression) → Stands (pushes_all globals elements scope types values)
  pushes_all_before types values rest = all_before types (expressions values) rest

module _ (globals : Globals) (elements : List Element) (layout : Layout) (result : Yield) where
  pub comm_before : (comm : Comm) (rest : Plan) → Before rest (pushes_comm globals elements result layout comm rest)
  comm_before (CommSend channel value) rest =
      let kind = carried globals elements layout.scope channel in
      let more = pushes globals elements layout.scope kind value rest in
      before_on (pushes_own globals elements layout.scope channel more) more rest (pushes_before globals elements layout.scope _ channel more) (pushes_before globals elements layout.scope kind value rest)
  comm_before (CommReceive channel) rest = pushes_before globals elements layout.scope _ channel rest
  comm_before (CommDefine item ok channel) rest = pushes_before globals elements layout.scope _ channel rest
  comm_before (CommAssign item ok channel) rest = pushes_before globals elements layout.scope _ channel rest

  pub clauses_before : (clauses : Clauses) (rest : Plan) → Before rest (pushes_clauses globals elements result layout clauses rest)
  clauses_before NoClause rest = Here rest
  clauses_before (Clause None body more) rest = clauses_before more rest
  clauses_before (Clause (Some comm) body more) rest = let p = pushes_clauses globals elements result layout more rest in before_on (pushes_comm globals elements result layout comm p) p rest (comm_before comm p) (clauses_before more rest)
