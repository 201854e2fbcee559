-- Plans whose instructions fit the kinds on the operand stack.
use Rattle.std.proofs.Common.{◌≡◌, ℕ, ◌+◌, ◌<◌, ◌≤◌, Bool, true, false, ◌&&◌, ◌||◌, List, [], ◌∷◌, ◌++◌, length, Some, IsTrue, refl, sym, ap, ◌∙◌, subst, arith, slice_get, length-append, ⊎_elim}
use Rattle.std.specs.Bool.{OnTrue}
use Rattle.std.proofs.lemmas.Bool.{false≢true, and_parts, or_cases, OnTrue_at, OnTrue_from}
use Rattle.std.proofs.lemmas.List.{append-nil}
use Rattle.bytecode.specs.declared.instr.WordKind.{WordKind}
use Rattle.bytecode.specs.declared.instr.WordKind.TheVariants as kinds
use Rattle.bytecode.specs.declared.instr.Instr.{Instr}
use Rattle.bytecode.specs.declared.instr.Instr.TheVariants as instrs
use Rattle.bytecode.specs.Code.{Function, Code}
use Rattle.bytecode.specs.Effects.{below, top_of, wants, gives, leaves, count, Enough, Meets, Fits, afterwards, targets}
use Rattle.bytecode.specs.Rules.{ways, Named, Inside, Directed, HasShapes}
use Rattle.plan.specs.Plan.{Plan, Skip, Do, Seq, IfElse, IfThen, Cycle, Endless, Choose, Way, LastWay, Stop, Leave, Again, reaches_end, has_break, has_continue, turns, starts, entries}
use Rattle.plan.proofs.Steps.{below_of, top_of_is}
use Rattle.plan.proofs.Tables.{Makes}

-- ---- instructions that lead to the next one alone

-- all but jumps, loops, returns and selects
abbrev pub IsPlain : Instr → Type 0
IsPlain (instrs.Jump to) = ⊥
IsPlain (instrs.Unless to) = ⊥
IsPlain (instrs.Loop to) = ⊥
IsPlain instrs.Return = ⊥
IsPlain (instrs.Select q) = ⊥
IsPlain i = Unit {0}

-- what the verifier's rules say of such an instruction
pub record Plain (code : Code) (f : Function) (i : Instr) : Type 0 where
  pub ways-is : (place : ℕ) → ways code i place ≡ (place + 1) ∷ []
  pub leaves-is : (top : List WordKind) → leaves code f i 0 top ≡ gives code f i top
  pub directed : (place : ℕ) → Directed code place i
  pub inside : (place : ℕ) → place + 1 < length f.instrs → Inside f place i
  pub enough : (n have : ℕ) → n ≤ have → Enough i n have

pub plain : (code : Code) (f : Function) (i : Instr) → IsPlain i → Plain code f i
plain code f (instrs.Jump to) p = absurd p
plain code f (instrs.Unless to) p = absurd p
plain code f (instrs.Loop to) p = absurd p
plain code f instrs.Return p = absurd p
plain code f (instrs.Select q) p = absurd p
plain code f i p = record { ways-is = λ place. refl; leaves-is = λ top. refl; directed = λ place. tt; inside = λ place lt. lt; enough = λ n have le. le }

-- ---- plans

-- whether a break and a continue have somewhere to lead
pub record Allowed : Type 0 where
  pub break : Bool
  pub continue : Bool

-- outside all loops and selects
abbrev pub outside : Allowed
outside = record { break = false; continue = false }

-- in a loop's body
abbrev pub in_loop : Allowed
in_loop = record { break = true; continue = true }

-- in a way of a select
abbrev pub in_select : Allowed → Allowed
in_select a = record a { break = true }

module _ (code : Code) (f : Function) where
  -- from a stack of these kinds a plan leads to one of those. The stack is empty at a loop, a break or a continue and after a loop or a
  -- select; a return finds only the results. Unreachable code is not restricted
  abbrev pub Typed : Allowed → List WordKind → Plan → List WordKind → Type 0
  Typed a ks Skip out = ks ≡ out
  Typed a ks (Do i rest) out = IsPlain i × Named code f i × Fits code f i ks × Typed a (afterwards code f i 0 ks) rest out
  Typed a ks (Seq first rest) out = (mid : List WordKind) × Typed a ks first mid × OnTrue (reaches_end first) (Typed a mid rest out)
  Typed a ks (IfElse so other) out = (low : List WordKind) × (ks ≡ low ++ kinds.Bool ∷ []) × Typed a low so out × Typed a low other out
  Typed a ks (IfThen so) out = (ks ≡ out ++ kinds.Bool ∷ []) × Typed a out so out
  Typed a ks (Cycle test body post exit) out =
      (mid : List WordKind) × (ks ≡ []) × (out ≡ []) × Typed a [] test (mid ++ kinds.Bool ∷ []) × Typed in_loop mid body [] × OnTrue (turns body) (Typed a [] post []) × Typed a mid exit []
  Typed a ks (Endless body post) out = (ks ≡ []) × (out ≡ []) × Typed in_loop [] body [] × OnTrue (turns body) (Typed a [] post [])
  Typed a ks (Choose q make ways) out =
      (first : List WordKind) × (out ≡ []) × Fits code f (instrs.Select q) ks × ((place : ℕ) → (targets (make (starts place ways)) ≡ starts place ways) × HasShapes code (make (starts place ways)))
      × ((k : ℕ) (js : List WordKind) → slice_get (entries ways) k ≡ Some js → js ≡ afterwards code f (instrs.Select q) k ks) × Typed (in_select a) first ways []
  Typed a ks (Way js body others) out = (next : List WordKind) × (ks ≡ js) × Typed a js body out × Typed a next others out
  Typed a ks (LastWay js body) out = (ks ≡ js) × Typed a js body out
  Typed a ks Stop out = ks ≡ f.results
  Typed a ks Leave out = IsTrue a.break × (ks ≡ [])
  Typed a ks Again out = IsTrue a.continue × (ks ≡ [])

  -- an instruction whose operands have these kinds
  pub typed_step : (a : Allowed) (low top : List WordKind) (i : Instr) (rest : Plan) (out : List WordKind) → IsPlain i → Named code f i → count (wants code f i) ≡ length top → Meets (wants code f i) top → Typed a (low ++ gives code f i top) rest out
      → Typed a (low ++ top) (Do i rest) out
  typed_step a low top i rest out p named n meets typed =
      let q = plain code f i p in
      let t : top_of (count (wants code f i)) (low ++ top) ≡ top = top_of_is low top (count (wants code f i)) n in
      let b : below (count (wants code f i)) (low ++ top) ≡ low = below_of low top (count (wants code f i)) n in (
        p,
        named,
        (q.enough (count (wants code f i)) (length (low ++ top)) (omega (arith, n, length-append low top)), subst (Meets (wants code f i)) (sym t) meets),
        subst (λ (ks : List WordKind). Typed a ks rest out)
            (sym (ap (λ (xs : List WordKind). below (count (wants code f i)) (low ++ top) ++ leaves code f i 0 xs) t ∙ ap (λ (xs : List WordKind). below (count (wants code f i)) (low ++ top) ++ xs) (q.leaves-is top) ∙ ap (λ (xs : List WordKind). xs ++ gives code f i top) b))
            typed,
      )

  pub typed_none : (a : Allowed) (ks : List WordKind) (i : Instr) (rest : Plan) (out : List WordKind) → IsPlain i → Named code f i → count (wants code f i) ≡ 0 → Meets (wants code f i) [] → Typed a (ks ++ gives code f i []) rest out → Typed a ks (Do i rest) out
  typed_none a ks i rest out p named n meets typed = subst (λ (xs : List WordKind). Typed a xs (Do i rest) out) (append-nil ks) (typed_step a ks [] i rest out p named n meets typed)

  -- ---- a break or a continue that can be reached is allowed

  -- which of three parts it is in, the second of which is there on a condition
  one_of_three : {P A : Type 0} (x b y z : Bool) → OnTrue b P → (IsTrue x → A) → (P → IsTrue y → A) → (IsTrue z → A) → IsTrue (x || (b && y || z)) → A
  one_of_three x b y z p first second third e = ⊎_elim first (λ r. ⊎_elim (λ both. let w = and_parts b y both in second (OnTrue_at w.0 p) w.1) third (or_cases (b && y) z r)) (or_cases x (b && y || z) e)

  pub break_allowed : (a : Allowed) (ks : List WordKind) (p : Plan) (out : List WordKind) → Typed a ks p out → IsTrue (has_break p) → IsTrue a.break
  break_allowed a ks Skip out t e = absurd (false≢true e)
  break_allowed a ks (Do i rest) out t e = break_allowed a (afterwards code f i 0 ks) rest out t.3 e
  break_allowed a ks (Seq first rest) out t e =
      ⊎_elim (break_allowed a ks first t.0 t.1) (λ r. let w = and_parts (reaches_end first) (has_break rest) r in break_allowed a t.0 rest out (OnTrue_at w.0 t.2) w.1) (or_cases (has_break first) (reaches_end first && has_break rest) e)
  break_allowed a ks (IfElse so other) out t e = ⊎_elim (break_allowed a t.0 so out t.2) (break_allowed a t.0 other out t.3) (or_cases (has_break so) (has_break other) e)
  break_allowed a ks (IfThen so) out t e = break_allowed a out so out t.1 e
  break_allowed a ks (Cycle test body post exit) out t e =
      one_of_three (has_break test) (turns body) (has_break post) (has_break exit) t.5 (break_allowed a [] test (t.0 ++ kinds.Bool ∷ []) t.3) (break_allowed a [] post []) (break_allowed a t.0 exit [] t.6) e
  break_allowed a ks (Endless body post) out t e = let w = and_parts (turns body) (has_break post) e in break_allowed a [] post [] (OnTrue_at w.0 t.3) w.1
  break_allowed a ks (Choose q make ways) out t e = absurd (false≢true e)
  break_allowed a ks (Way js body others) out t e = ⊎_elim (break_allowed a js body out t.2) (break_allowed a t.0 others out t.3) (or_cases (has_break body) (has_break others) e)
  break_allowed a ks (LastWay js body) out t e = break_allowed a js body out t.1 e
  break_allowed a ks Stop out t e = absurd (false≢true e)
  break_allowed a ks Leave out t e = t.0
  break_allowed a ks Again out t e = absurd (false≢true e)

  pub continue_allowed : (a : Allowed) (ks : List WordKind) (p : Plan) (out : List WordKind) → Typed a ks p out → IsTrue (has_continue p) → IsTrue a.continue
  continue_allowed a ks Skip out t e = absurd (false≢true e)
  continue_allowed a ks (Do i rest) out t e = continue_allowed a (afterwards code f i 0 ks) rest out t.3 e
  continue_allowed a ks (Seq first rest) out t e =
      ⊎_elim (continue_allowed a ks first t.0 t.1) (λ r. let w = and_parts (reaches_end first) (has_continue rest) r in continue_allowed a t.0 rest out (OnTrue_at w.0 t.2) w.1) (or_cases (has_continue first) (reaches_end first && has_continue rest) e)
  continue_allowed a ks (IfElse so other) out t e = ⊎_elim (continue_allowed a t.0 so out t.2) (continue_allowed a t.0 other out t.3) (or_cases (has_continue so) (has_continue other) e)
  continue_allowed a ks (IfThen so) out t e = continue_allowed a out so out t.1 e
  continue_allowed a ks (Cycle test body post exit) out t e =
      one_of_three (has_continue test) (turns body) (has_continue post) (has_continue exit) t.5 (continue_allowed a [] test (t.0 ++ kinds.Bool ∷ []) t.3) (continue_allowed a [] post []) (continue_allowed a t.0 exit [] t.6) e
  continue_allowed a ks (Endless body post) out t e = let w = and_parts (turns body) (has_continue post) e in continue_allowed a [] post [] (OnTrue_at w.0 t.3) w.1
  continue_allowed a ks (Choose q make ways) out t e = continue_allowed (in_select a) t.0 ways [] t.5 e
  continue_allowed a ks (Way js body others) out t e = ⊎_elim (continue_allowed a js body out t.2) (continue_allowed a t.0 others out t.3) (or_cases (has_continue body) (has_continue others) e)
  continue_allowed a ks (LastWay js body) out t e = continue_allowed a js body out t.1 e
  continue_allowed a ks Stop out t e = absurd (false≢true e)
  continue_allowed a ks Leave out t e = absurd (false≢true e)
  continue_allowed a ks Again out t e = t.0

  -- ---- the shapes that the tables of its selects name are there

  abbrev Shaped : Plan → Type 0
  Shaped p = Makes (HasShapes code) p

  pub typed_makes : (a : Allowed) (ks : List WordKind) (p : Plan) (out : List WordKind) → Typed a ks p out → Shaped p
  typed_makes a ks Skip out t = tt
  typed_makes a ks (Do i rest) out t = typed_makes a (afterwards code f i 0 ks) rest out t.3
  typed_makes a ks (Seq first rest) out t = (typed_makes a ks first t.0 t.1, OnTrue_from (reaches_end first) (Shaped rest) (λ e. typed_makes a t.0 rest out (OnTrue_at e t.2)))
  typed_makes a ks (IfElse so other) out t = (typed_makes a t.0 so out t.2, typed_makes a t.0 other out t.3)
  typed_makes a ks (IfThen so) out t = typed_makes a out so out t.1
  typed_makes a ks (Cycle test body post exit) out t =
      (typed_makes a [] test (t.0 ++ kinds.Bool ∷ []) t.3, typed_makes in_loop t.0 body [] t.4, OnTrue_from (turns body) (Shaped post) (λ e. typed_makes a [] post [] (OnTrue_at e t.5)), typed_makes a t.0 exit [] t.6)
  typed_makes a ks (Endless body post) out t = (typed_makes in_loop [] body [] t.2, OnTrue_from (turns body) (Shaped post) (λ e. typed_makes a [] post [] (OnTrue_at e t.3)))
  typed_makes a ks (Choose q make ways) out t = (λ place. (t.3 place).1, typed_makes (in_select a) t.0 ways [] t.5)
  typed_makes a ks (Way js body others) out t = (typed_makes a js body out t.2, typed_makes a t.0 others out t.3)
  typed_makes a ks (LastWay js body) out t = typed_makes a js body out t.1
  typed_makes a ks Stop out t = tt
  typed_makes a ks Leave out t = tt
  typed_makes a ks Again out t = tt
