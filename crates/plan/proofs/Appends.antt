-- Instructions of plans, appended part by part.
use Rattle.std.proofs.Common.{◌≡◌, ℕ, ◌+◌, Bool, cond, List, [], ◌∷◌, ◌++◌, length, IsTrue, IsFalse, refl, sym, ap, ◌∙◌, arith, append_assoc, length-append}
use Rattle.std.proofs.lemmas.Bool.{cond-true, cond-false}
use Rattle.std.proofs.lemmas.List.{append-nil}
use Rattle.bytecode.specs.declared.instr.Instr.{Instr}
use Rattle.bytecode.specs.declared.instr.Instr.TheVariants as instrs
use Rattle.bytecode.specs.declared.instr.WordKind.{WordKind}
use Rattle.bytecode.specs.Code.{SelectTable}
use Rattle.plan.specs.Plan.{Plan, Seq, IfElse, IfThen, Cycle, Endless, Choose, Way, reaches_end, turns, jump_after, jump_size, size, flat}
use Rattle.plan.proofs.Lists.{length_if}
use Rattle.plan.proofs.Places.{jump_after_size, flat_size}

-- a plan's instructions come after the old ones
abbrev pub Appends : (leave again : ℕ) (old new : List Instr) → Plan → Type 0
Appends leave again old new p = new ≡ old ++ flat leave again (length old) p

onto : (a b c x y : List Instr) → b ≡ a ++ x → c ≡ b ++ y → c ≡ a ++ (x ++ y)
onto a b c x y e f = f ∙ ap (λ (l : List Instr). l ++ y) e ∙ append_assoc a x y

-- at the pc at which they begin, and how many there are then
at : (leave again place : ℕ) (old new : List Instr) (p : Plan) → length old ≡ place → Appends leave again old new p → (new ≡ old ++ flat leave again place p) × (length new ≡ place + size p)
at leave again place old new p n e =
    let x : new ≡ old ++ flat leave again place p = e ∙ ap (λ m. old ++ flat leave again m p) n in (x, omega (arith, ap length x, length-append old (flat leave again place p), flat_size leave again place p, n))

-- ---- parts that are there on a condition

pub appends_if : (b : Bool) (old new xs : List Instr) → IsTrue b → new ≡ old ++ xs → new ≡ old ++ cond b xs []
appends_if b old new xs e h = h ∙ ap (λ (l : List Instr). old ++ l) (sym (cond-true b xs [] e))

pub appends_none : (b : Bool) (old xs : List Instr) → IsFalse b → old ≡ old ++ cond b xs []
appends_none b old xs e = sym (append-nil old) ∙ ap (λ (l : List Instr). old ++ l) (sym (cond-false b xs [] e))

-- ---- plans

pub appends_seq : (leave again : ℕ) (i0 i1 i2 : List Instr) (first rest : Plan) → Appends leave again i0 i1 first → i2 ≡ i1 ++ cond (reaches_end first) (flat leave again (length i1) rest) [] → Appends leave again i0 i2 (Seq first rest)
appends_seq leave again i0 i1 i2 first rest e1 e2 =
    let a = at leave again (length i0) i0 i1 first refl e1 in
    onto i0 i1 i2 (flat leave again (length i0) first) (cond (reaches_end first) (flat leave again (length i0 + size first) rest) []) e1 (e2 ∙ ap (λ n. i1 ++ cond (reaches_end first) (flat leave again n rest) []) a.1)

pub appends_if_else : (leave again next to : ℕ) (i0 i1 i2 i3 i4 : List Instr) (so other : Plan) → i1 ≡ i0 ++ instrs.Unless next ∷ [] → Appends leave again i1 i2 so → i3 ≡ i2 ++ jump_after so to → Appends leave again i3 i4 other
    → next ≡ length i0 + 1 + size so + jump_size so → to ≡ next + size other → Appends leave again i0 i4 (IfElse so other)
appends_if_else leave again next to i0 i1 i2 i3 i4 so other e1 e2 e3 e4 en et =
    let next' = length i0 + 1 + size so + jump_size so in
    let a = at leave again (length i0 + 1) i1 i2 so (omega (arith, ap length e1, length-append i0 (instrs.Unless next ∷ []))) e2 in
    let b = at leave again next' i3 i4 other (omega (arith, a.1, ap length e3, length-append i2 (jump_after so to), jump_after_size so to)) e4 in
    let fs = flat leave again (length i0 + 1) so in
    let fo = flat leave again next' other in
    let j = jump_after so (next' + size other) in
    onto i0 i1 i4 (instrs.Unless next' ∷ []) (fs ++ (j ++ fo)) (e1 ∙ ap (λ n. i0 ++ instrs.Unless n ∷ []) en)
    (onto i1 i2 i4 fs (j ++ fo) a.0 (onto i2 i3 i4 j fo (e3 ∙ ap (λ n. i2 ++ jump_after so n) (et ∙ ap (λ n. n + size other) en)) b.0))

pub appends_if_then : (leave again next : ℕ) (i0 i1 i2 : List Instr) (so : Plan) → i1 ≡ i0 ++ instrs.Unless next ∷ [] → Appends leave again i1 i2 so → next ≡ length i0 + 1 + size so → Appends leave again i0 i2 (IfThen so)
appends_if_then leave again next i0 i1 i2 so e1 e2 en =
    let a = at leave again (length i0 + 1) i1 i2 so (omega (arith, ap length e1, length-append i0 (instrs.Unless next ∷ []))) e2 in
    onto i0 i1 i2 (instrs.Unless (length i0 + 1 + size so) ∷ []) (flat leave again (length i0 + 1) so) (e1 ∙ ap (λ n. i0 ++ instrs.Unless n ∷ []) en) a.0

-- what is done after a loop's body, and the way back
abbrev pub round : (leave again head place : ℕ) (body post : Plan) → List Instr
round leave again head place body post = cond (turns body) (flat leave again place post ++ instrs.Loop head ∷ []) []

pub round_size : (leave again head place : ℕ) (body post : Plan) → length (round leave again head place body post) ≡ cond (turns body) (size post + 1) 0
round_size leave again head place body post =
    let fp = flat leave again place post in
    length_if (turns body) (fp ++ instrs.Loop head ∷ []) (size post + 1) (omega (arith, length-append fp (instrs.Loop head ∷ []), flat_size leave again place post))

pub appends_cycle : (leave again head post_at exit_at stop : ℕ) (i0 i1 i2 i3 i4 i5 : List Instr) (test body post exit : Plan) → Appends leave again i0 i1 test → i2 ≡ i1 ++ instrs.Unless exit_at ∷ [] → Appends stop post_at i2 i3 body
    → i4 ≡ i3 ++ round leave again head (length i3) body post → Appends leave again i4 i5 exit → head ≡ length i0 → post_at ≡ head + size test + 1 + size body → exit_at ≡ post_at + cond (turns body) (size post + 1) 0 → stop ≡ exit_at + size exit
    → Appends leave again i0 i5 (Cycle test body post exit)
appends_cycle leave again head post_at exit_at stop i0 i1 i2 i3 i4 i5 test body post exit e1 e2 e3 e4 e5 eh ep ee es =
    let body_at = length i0 + size test + 1 in
    let p = body_at + size body in
    let x = p + cond (turns body) (size post + 1) 0 in
    let z = x + size exit in
    let ep' : post_at ≡ p = omega (arith, ep, eh) in
    let ee' : exit_at ≡ x = omega (arith, ee, ep') in
    let es' : stop ≡ z = omega (arith, es, ee') in
    let a = at leave again (length i0) i0 i1 test refl e1 in
    let b = at stop post_at body_at i2 i3 body (omega (arith, a.1, ap length e2, length-append i1 (instrs.Unless exit_at ∷ []))) e3 in
    let c : i4 ≡ i3 ++ round leave again (length i0) p body post = e4 ∙ ap (λ n. i3 ++ round leave again n (length i3) body post) eh ∙ ap (λ n. i3 ++ round leave again (length i0) n body post) b.1 in
    let d = at leave again x i4 i5 exit (omega (arith, b.1, ap length c, length-append i3 (round leave again (length i0) p body post), round_size leave again (length i0) p body post)) e5 in
    let fb = flat z p body_at body in
    let fl = round leave again (length i0) p body post in
    let fe = flat leave again x exit in
    onto i0 i1 i5 (flat leave again (length i0) test) (instrs.Unless x ∷ (fb ++ (fl ++ fe))) e1
    (onto i1 i2 i5 (instrs.Unless x ∷ []) (fb ++ (fl ++ fe)) (e2 ∙ ap (λ n. i1 ++ instrs.Unless n ∷ []) ee')
    (onto i2 i3 i5 fb (fl ++ fe) (b.0 ∙ ap (λ n. i2 ++ flat n post_at body_at body) es' ∙ ap (λ n. i2 ++ flat z n body_at body) ep') (onto i3 i4 i5 fl fe c d.0)))

pub appends_endless : (leave again head post_at stop : ℕ) (i0 i1 i2 : List Instr) (body post : Plan) → Appends stop post_at i0 i1 body → i2 ≡ i1 ++ round leave again head (length i1) body post → head ≡ length i0 → post_at ≡ head + size body → stop ≡ post_at + cond (turns body) (size post + 1) 0
    → Appends leave again i0 i2 (Endless body post)
appends_endless leave again head post_at stop i0 i1 i2 body post e1 e2 eh ep es =
    let p = length i0 + size body in
    let z = p + cond (turns body) (size post + 1) 0 in
    let ep' : post_at ≡ p = omega (arith, ep, eh) in
    let es' : stop ≡ z = omega (arith, es, ep') in
    let a = at stop post_at (length i0) i0 i1 body refl e1 in
    onto i0 i1 i2 (flat z p (length i0) body) (round leave again (length i0) p body post) (e1 ∙ ap (λ n. i0 ++ flat n post_at (length i0) body) es' ∙ ap (λ n. i0 ++ flat z n (length i0) body) ep')
    (e2 ∙ ap (λ n. i1 ++ round leave again n (length i1) body post) eh ∙ ap (λ n. i1 ++ round leave again (length i0) n body post) a.1)

pub appends_choose : (leave again stop q : ℕ) (make : List ℕ → SelectTable) (i0 i1 i2 : List Instr) (ways : Plan) → i1 ≡ i0 ++ instrs.Select q ∷ [] → Appends stop again i1 i2 ways → stop ≡ length i0 + 1 + size ways → Appends leave again i0 i2 (Choose q make ways)
appends_choose leave again stop q make i0 i1 i2 ways e1 e2 es =
    let a = at stop again (length i0 + 1) i1 i2 ways (omega (arith, ap length e1, length-append i0 (instrs.Select q ∷ []))) e2 in
    onto i0 i1 i2 (instrs.Select q ∷ []) (flat (length i0 + 1 + size ways) again (length i0 + 1) ways) e1 (a.0 ∙ ap (λ n. i1 ++ flat n again (length i0 + 1) ways) es)

pub appends_way : (leave again to : ℕ) (ks : List WordKind) (i0 i1 i2 i3 : List Instr) (body others : Plan) → Appends leave again i0 i1 body → i2 ≡ i1 ++ jump_after body to → Appends leave again i2 i3 others → to ≡ length i0 + size body + jump_size body + size others
    → Appends leave again i0 i3 (Way ks body others)
appends_way leave again to ks i0 i1 i2 i3 body others e1 e2 e3 et =
    let next = length i0 + size body + jump_size body in
    let a = at leave again (length i0) i0 i1 body refl e1 in
    let b = at leave again next i2 i3 others (omega (arith, a.1, ap length e2, length-append i1 (jump_after body to), jump_after_size body to)) e3 in
    let j = jump_after body (next + size others) in
    let fo = flat leave again next others in
    onto i0 i1 i3 (flat leave again (length i0) body) (j ++ fo) e1 (onto i1 i2 i3 j fo (e2 ∙ ap (λ n. i1 ++ jump_after body n) et) b.0)
