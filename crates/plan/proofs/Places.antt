-- The pc of a plan in a function's instructions, and the pc to which it leads.
use Rattle.std.proofs.Common.{◌≡◌, ℕ, ◌+◌, Bool, true, false, cond, ◌||◌, List, [], ◌∷◌, ◌++◌, length, Option, Some, None, IfSome, IsSomeAnd, IsTrue, refl, subst, arith, slice_get, length-append}
use Rattle.std.proofs.lemmas.Bool.{false≢true, and_from, or_left, or_right, cond-true, OnTrue_at}
use Rattle.bytecode.specs.declared.instr.Instr.{Instr}
use Rattle.bytecode.specs.declared.instr.Instr.TheVariants as instrs
use Rattle.bytecode.specs.Code.{SelectTable}
use Rattle.plan.specs.Plan.{Plan, Skip, Do, Seq, IfElse, IfThen, Cycle, Endless, Choose, Way, LastWay, Stop, Leave, Again, reaches_end, has_break, has_continue, turns, jump_after, jump_size, size, flat, starts}
use Rattle.plan.proofs.Lists.{Stand, split, stand_if, length_if}
use Rattle.plan.proofs.Tables.{Tabled}

-- jumps alone lead from the one pc to the other
pub data JumpsTo (is : List Instr) : ℕ → ℕ → Type 0 where
  at_once : {p : ℕ} → JumpsTo is p p
  by_jump : {p to q : ℕ} → slice_get is p ≡ Some (instrs.Jump to) → JumpsTo is to q → JumpsTo is p q

-- there is a pc `out`, and jumps alone lead to it
abbrev pub Leads : List Instr → ℕ → Option ℕ → Type 0
Leads is p out = IsSomeAnd out (JumpsTo is p)

pub jumps_through : (is : List Instr) (p q r : ℕ) → JumpsTo is p q → JumpsTo is q r → JumpsTo is p r
jumps_through is p q r at_once next = next
jumps_through is p q r (by_jump at on) next = by_jump at (jumps_through is _ q r on next)

-- the instruction at a pc
abbrev pub At : List Instr → ℕ → Instr → Type 0
At is p i = slice_get is p ≡ Some i

module _ (selects : List SelectTable) (is : List Instr) where
  -- a plan is at a pc; its end leads to `out`, a break in it to `leave`, and a continue to `again`. What is never reached has no
  -- pc, and is nowhere
  abbrev pub On : (leave again : Option ℕ) → Plan → (place : ℕ) → (out : Option ℕ) → Type 0
  On leave again Skip place out = Leads is place out
  On leave again (Do i rest) place out = At is place i × On leave again rest (place + 1) out
  On leave again (Seq first rest) place out = (mid : Option ℕ) × On leave again first place mid × IfSome mid (λ m. On leave again rest m out)
  On leave again (IfElse so other) place out = (next : ℕ) × At is place (instrs.Unless next) × On leave again so (place + 1) out × On leave again other next out
  On leave again (IfThen so) place out = (next : ℕ) × At is place (instrs.Unless next) × On leave again so (place + 1) out × Leads is next out
  On leave again (Cycle test body post exit) place out =
      (check : ℕ) × (post_at : Option ℕ) × (exit_at : ℕ) × On leave again test place (Some check) × At is check (instrs.Unless exit_at) × On out post_at body (check + 1) post_at
      × IfSome post_at (λ m. (turn : ℕ) × On leave again post m (Some turn) × At is turn (instrs.Loop place)) × On leave again exit exit_at out
  On leave again (Endless body post) place out =
      (post_at : Option ℕ) × On out post_at body place post_at × IfSome post_at (λ m. (turn : ℕ) × On leave again post m (Some turn) × At is turn (instrs.Loop place))
  On leave again (Choose q make ways) place out = At is place (instrs.Select q) × (slice_get selects q ≡ Some (make (starts (place + 1) ways))) × On out again ways (place + 1) out
  On leave again (Way ks body others) place out = On leave again body place out × On leave again others (place + size body + jump_size body) out
  On leave again (LastWay ks body) place out = On leave again body place out
  On leave again Stop place out = At is place instrs.Return
  On leave again Leave place out = Leads is place leave
  On leave again Again place out = Leads is place again

-- ---- sizes

pub jump_after_size : (part : Plan) (to : ℕ) → length (jump_after part to) ≡ jump_size part
jump_after_size part to = length_if (reaches_end part) (instrs.Jump to ∷ []) 1 refl

pub one_jump : (part : Plan) → IsTrue (reaches_end part) → jump_size part ≡ 1
one_jump part e = cond-true {A = ℕ} (reaches_end part) 1 0 e

pub flat_size : (leave_at again_at place : ℕ) (p : Plan) → length (flat leave_at again_at place p) ≡ size p
flat_size leave_at again_at place Skip = refl
flat_size leave_at again_at place (Do i rest) = let e = flat_size leave_at again_at (place + 1) rest in omega (arith, e)
flat_size leave_at again_at place (Seq first rest) =
    let ff = flat leave_at again_at place first in
    let fr = flat leave_at again_at (place + size first) rest in
    omega (arith, length-append ff (cond (reaches_end first) fr []), flat_size leave_at again_at place first, length_if (reaches_end first) fr (size rest) (flat_size leave_at again_at (place + size first) rest))
flat_size leave_at again_at place (IfElse so other) =
    let next = place + 1 + size so + jump_size so in
    let fs = flat leave_at again_at (place + 1) so in
    let fo = flat leave_at again_at next other in
    let j = jump_after so (next + size other) in
    omega (arith, length-append fs (j ++ fo), length-append j fo, jump_after_size so (next + size other), flat_size leave_at again_at (place + 1) so, flat_size leave_at again_at next other)
flat_size leave_at again_at place (IfThen so) = let e = flat_size leave_at again_at (place + 1) so in omega (arith, e)
flat_size leave_at again_at place (Cycle test body post exit) =
    let body_at = place + size test + 1 in
    let post_at = body_at + size body in
    let exit_at = post_at + cond (turns body) (size post + 1) 0 in
    let fb = flat (exit_at + size exit) post_at body_at body in
    let fp = flat leave_at again_at post_at post in
    let fl = cond (turns body) (fp ++ instrs.Loop place ∷ []) [] in
    let fe = flat leave_at again_at exit_at exit in
    let round = length_if (turns body) (fp ++ instrs.Loop place ∷ []) (size post + 1) (omega (arith, length-append fp (instrs.Loop place ∷ []), flat_size leave_at again_at post_at post)) in
    omega (arith, length-append (flat leave_at again_at place test) (instrs.Unless exit_at ∷ (fb ++ (fl ++ fe))), length-append fb (fl ++ fe), length-append fl fe, round, flat_size leave_at again_at place test, flat_size (exit_at + size exit) post_at body_at body, flat_size leave_at again_at exit_at exit)
flat_size leave_at again_at place (Endless body post) =
    let post_at = place + size body in
    let stop = post_at + cond (turns body) (size post + 1) 0 in
    let fp = flat leave_at again_at post_at post in
    let round = length_if (turns body) (fp ++ instrs.Loop place ∷ []) (size post + 1) (omega (arith, length-append fp (instrs.Loop place ∷ []), flat_size leave_at again_at post_at post)) in
    omega (arith, length-append (flat stop post_at place body) (cond (turns body) (fp ++ instrs.Loop place ∷ []) []), round, flat_size stop post_at place body)
flat_size leave_at again_at place (Choose q make ways) = let e = flat_size (place + 1 + size ways) again_at (place + 1) ways in omega (arith, e)
flat_size leave_at again_at place (Way ks body others) =
    let next = place + size body + jump_size body in
    let fb = flat leave_at again_at place body in
    let fo = flat leave_at again_at next others in
    let j = jump_after body (next + size others) in
    omega (arith, length-append fb (j ++ fo), length-append j fo, jump_after_size body (next + size others), flat_size leave_at again_at place body, flat_size leave_at again_at next others)
flat_size leave_at again_at place (LastWay ks body) = flat_size leave_at again_at place body
flat_size leave_at again_at place Stop = refl
flat_size leave_at again_at place Leave = refl
flat_size leave_at again_at place Again = refl

-- ---- what is generated stands so

leads_on : (is : List Instr) (p to : ℕ) (out : Option ℕ) → slice_get is p ≡ Some (instrs.Jump to) → Leads is to out → Leads is p out
leads_on is p to None at l = l
leads_on is p to (Some q) at l = by_jump at l

-- a jump after a part leads on if the part's end is reached
over : (is : List Instr) (part : Plan) (p to : ℕ) (out : Option ℕ) → Stand is p (jump_after part to) → (IsTrue (reaches_end part) → Leads is to out) → IsTrue (reaches_end part) → Leads is p out
over is part p to out h l e = leads_on is p to out (stand_if is p (reaches_end part) (instrs.Jump to ∷ []) e h).0 (l e)

-- a part whose end leads to what comes after it, which is there if the end is reached
reached_at : (is : List Instr) (b : Bool) (m : ℕ) (A : Option ℕ → Type 0) (B : ℕ → Type 0) → ((to : Option ℕ) → (IsTrue b → Leads is m to) → A to) → (IsTrue b → B m) → (to : Option ℕ) × A to × IfSome to B
reached_at is true m A B first rest = (Some m, first (Some m) (λ e. at_once), rest refl)
reached_at is false m A B first rest = (None, first None (λ e. absurd (false≢true e)), tt)

-- a plan whose instructions are at a pc and end before `end`. The pcs to which its breaks and continues jump lead to `leave` and
-- `again`, and `end` to `out`, if they are reached
pub stands_on : (selects : List SelectTable) (is : List Instr) (leave again : Option ℕ) (p : Plan) (place : ℕ) (out : Option ℕ) (leave_at again_at end : ℕ) → Tabled selects place p → Stand is place (flat leave_at again_at place p) → end ≡ place + size p → (IsTrue (reaches_end p) → Leads is end out) → (IsTrue (has_break p) → Leads is leave_at leave) → (IsTrue (has_continue p) → Leads is again_at again)
    → On selects is leave again p place out
stands_on selects is leave again Skip place out leave_at again_at end tab h e l b c = let z : end ≡ place = omega (arith, e) in subst (λ n. Leads is n out) z (l refl)
stands_on selects is leave again (Do i rest) place out leave_at again_at end tab h e l b c = (h.0, stands_on selects is leave again rest (place + 1) out leave_at again_at end tab h.1 (omega (arith, e)) l b c)
stands_on selects is leave again (Seq first rest) place out leave_at again_at end tab h e l b c =
    let mid = place + size first in
    let fr = flat leave_at again_at mid rest in
    let s = split is place (flat leave_at again_at place first) (cond (reaches_end first) fr []) mid (omega (arith, flat_size leave_at again_at place first)) h in
    reached_at is (reaches_end first) mid (On selects is leave again first place) (λ m. On selects is leave again rest m out)
    (λ to lead. stands_on selects is leave again first place to leave_at again_at mid tab.0 s.0 refl lead (λ x. b (or_left _ _ x)) (λ x. c (or_left _ _ x)))
    (λ r.
    stands_on selects is leave again rest mid out leave_at again_at end (OnTrue_at r tab.1) (stand_if is mid (reaches_end first) fr r s.1) (omega (arith, e, cond-true (reaches_end first) (size rest) 0 r))
    (λ x. l (and_from _ _ r x)) (λ x. b (or_right _ _ (and_from _ _ r x))) (λ x. c (or_right _ _ (and_from _ _ r x))))
stands_on selects is leave again (IfElse so other) place out leave_at again_at end tab h e l b c =
    let j = place + 1 + size so in
    let next = j + jump_size so in
    let fo = flat leave_at again_at next other in
    let jump = jump_after so (next + size other) in
    let s = split is (place + 1) (flat leave_at again_at (place + 1) so) (jump ++ fo) j (omega (arith, flat_size leave_at again_at (place + 1) so)) h.1 in
    let t = split is j jump fo next (omega (arith, jump_after_size so (next + size other))) s.1 in
    let z : end ≡ next + size other = omega (arith, e) in (
      next,
      h.0,
      stands_on selects is leave again so (place + 1) out leave_at again_at j tab.0 s.0 refl (over is so j (next + size other) out t.0 (λ x. subst (λ n. Leads is n out) z (l (or_left _ _ x)))) (λ x. b (or_left _ _ x)) (λ x. c (or_left _ _ x)),
      stands_on selects is leave again other next out leave_at again_at end tab.1 t.1 z (λ x. l (or_right _ _ x)) (λ x. b (or_right _ _ x)) (λ x. c (or_right _ _ x)),
    )
stands_on selects is leave again (IfThen so) place out leave_at again_at end tab h e l b c =
    let z : end ≡ place + 1 + size so = omega (arith, e) in
    (place + 1 + size so, h.0, stands_on selects is leave again so (place + 1) out leave_at again_at end tab h.1 z (λ x. l refl) b c, subst (λ n. Leads is n out) z (l refl))
stands_on selects is leave again (Cycle test body post exit) place out leave_at again_at end tab h e l b c =
    let check = place + size test in
    let body_at = check + 1 in
    let post_at = body_at + size body in
    let turn = post_at + size post in
    let exit_at = post_at + cond (turns body) (size post + 1) 0 in
    let stop = exit_at + size exit in
    let fb = flat stop post_at body_at body in
    let fp = flat leave_at again_at post_at post in
    let fl = cond (turns body) (fp ++ instrs.Loop place ∷ []) [] in
    let fe = flat leave_at again_at exit_at exit in
    let p_size = flat_size leave_at again_at post_at post in
    let round = length_if (turns body) (fp ++ instrs.Loop place ∷ []) (size post + 1) (omega (arith, length-append fp (instrs.Loop place ∷ []), p_size)) in
    let s1 = split is place (flat leave_at again_at place test) (instrs.Unless exit_at ∷ (fb ++ (fl ++ fe))) check (omega (arith, flat_size leave_at again_at place test)) h in
    let s2 = split is body_at fb (fl ++ fe) post_at (omega (arith, flat_size stop post_at body_at body)) s1.1.1 in
    let s3 = split is post_at fl fe exit_at (omega (arith, round)) s2.1 in
    let z : end ≡ stop = omega (arith, e) in
    let left : Leads is stop out = subst (λ n. Leads is n out) z (l refl) in
    let around = reached_at is (turns body) post_at (λ to. On selects is out to body body_at to) (λ m. (turn : ℕ) × On selects is leave again post m (Some turn) × At is turn (instrs.Loop place))
    (λ to lead. stands_on selects is out to body body_at to stop post_at post_at tab.1 s2.0 refl (λ x. lead (or_left _ _ x)) (λ x. left) (λ x. lead (or_right _ _ x)))
    (λ r.
    let s4 = split is post_at fp (instrs.Loop place ∷ []) turn (omega (arith, p_size)) (stand_if is post_at (turns body) (fp ++ instrs.Loop place ∷ []) r s3.0) in
    (turn, stands_on selects is leave again post post_at (Some turn) leave_at again_at turn (OnTrue_at r tab.2) s4.0 refl (λ x. at_once) (λ x. b (or_right _ _ (or_left _ _ (and_from _ _ r x)))) (λ x. c (or_right _ _ (or_left _ _ (and_from _ _ r x)))), s4.1.0)) in (
      check,
      around.0,
      exit_at,
      stands_on selects is leave again test place (Some check) leave_at again_at check tab.0 s1.0 refl (λ x. at_once) (λ x. b (or_left _ _ x)) (λ x. c (or_left _ _ x)),
      s1.1.0,
      around.1,
      around.2,
      stands_on selects is leave again exit exit_at out leave_at again_at stop tab.3 s3.1 refl (λ x. left) (λ x. b (or_right _ _ (or_right _ _ x))) (λ x. c (or_right _ _ (or_right _ _ x))),
    )
stands_on selects is leave again (Endless body post) place out leave_at again_at end tab h e l b c =
    let post_at = place + size body in
    let turn = post_at + size post in
    let stop = post_at + cond (turns body) (size post + 1) 0 in
    let fb = flat stop post_at place body in
    let fp = flat leave_at again_at post_at post in
    let s = split is place fb (cond (turns body) (fp ++ instrs.Loop place ∷ []) []) post_at (omega (arith, flat_size stop post_at place body)) h in
    let z : end ≡ stop = omega (arith, e) in
    reached_at is (turns body) post_at (λ to. On selects is out to body place to) (λ m. (turn : ℕ) × On selects is leave again post m (Some turn) × At is turn (instrs.Loop place))
    (λ to lead. stands_on selects is out to body place to stop post_at post_at tab.0 s.0 refl (λ x. lead (or_left _ _ x)) (λ x. subst (λ n. Leads is n out) z (l x)) (λ x. lead (or_right _ _ x)))
    (λ r.
    let t = split is post_at fp (instrs.Loop place ∷ []) turn (omega (arith, flat_size leave_at again_at post_at post)) (stand_if is post_at (turns body) (fp ++ instrs.Loop place ∷ []) r s.1) in
    (turn, stands_on selects is leave again post post_at (Some turn) leave_at again_at turn (OnTrue_at r tab.1) t.0 refl (λ x. at_once) (λ x. b (and_from _ _ r x)) (λ x. c (and_from _ _ r x)), t.1.0))
stands_on selects is leave again (Choose q make ways) place out leave_at again_at end tab h e l b c =
    let mid = place + 1 + size ways in
    let z : end ≡ mid = omega (arith, e) in
    let lead : (x : Bool) → IsTrue x → (IsTrue x → IsTrue (reaches_end ways || has_break ways)) → Leads is mid out = λ x t up. subst (λ n. Leads is n out) z (l (up t)) in
    (h.0, tab.0, stands_on selects is out again ways (place + 1) out mid again_at mid tab.1 h.1 refl (λ x. lead (reaches_end ways) x (or_left _ _)) (λ x. lead (has_break ways) x (or_right _ _)) c)
stands_on selects is leave again (Way ks body others) place out leave_at again_at end tab h e l b c =
    let j = place + size body in
    let next = j + jump_size body in
    let fo = flat leave_at again_at next others in
    let jump = jump_after body (next + size others) in
    let s = split is place (flat leave_at again_at place body) (jump ++ fo) j (omega (arith, flat_size leave_at again_at place body)) h in
    let t = split is j jump fo next (omega (arith, jump_after_size body (next + size others))) s.1 in
    let z : end ≡ next + size others = omega (arith, e) in (
      stands_on selects is leave again body place out leave_at again_at j tab.0 s.0 refl (over is body j (next + size others) out t.0 (λ x. subst (λ n. Leads is n out) z (l (or_left _ _ x)))) (λ x. b (or_left _ _ x)) (λ x. c (or_left _ _ x)),
      stands_on selects is leave again others next out leave_at again_at end tab.1 t.1 z (λ x. l (or_right _ _ x)) (λ x. b (or_right _ _ x)) (λ x. c (or_right _ _ x)),
    )
stands_on selects is leave again (LastWay ks body) place out leave_at again_at end tab h e l b c = stands_on selects is leave again body place out leave_at again_at end tab h e l b c
stands_on selects is leave again Stop place out leave_at again_at end tab h e l b c = h.0
stands_on selects is leave again Leave place out leave_at again_at end tab h e l b c = leads_on is place leave_at leave h.0 (b refl)
stands_on selects is leave again Again place out leave_at again_at end tab h e l b c = leads_on is place again_at again h.0 (c refl)
