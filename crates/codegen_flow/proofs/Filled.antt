-- Plans, whose jumps wait for their targets, one after the other.
use Rattle.std.proofs.Common.{◌≡◌, ℕ, ◌+◌, ◌≤◌, ◌<◌, Bool, true, false, cond, List, [], ◌∷◌, ◌++◌, length, refl, sym, ap, ◌∙◌, arith, append_assoc, length-append}
use Rattle.std.specs.Prelude.{slice_set}
use Rattle.std.proofs.lemmas.List.{append-nil, length-set, set-append_left, set_at, set_comm}
use Rattle.bytecode.specs.declared.instr.Instr.{Instr}
use Rattle.bytecode.specs.declared.instr.Instr.TheVariants as instrs
use Rattle.plan.specs.Plan.{Plan, Skip, Seq, IfThen, Stop, Leave, Again, reaches_end, size, flat}
use Rattle.plan.proofs.Places.{flat_size}
use Rattle.plan.proofs.Appends.{appends_if_then}
use Rattle.codegen_expression.specs.Emission.{Puts}
use Rattle.codegen_expression.proofs.Emitting.{puts_alone}
use Rattle.codegen_flow.specs.declared.waits.Wait.{Wait}
use Rattle.codegen_flow.specs.Waits.{wait_at, jump, filled, AreWithin, Makes}

-- ---- jumps with targets

pub filled_length : (ws : List Wait) (leave again : ℕ) (code : List Instr) → length (filled ws leave again code) ≡ length code
filled_length [] leave again code = refl
filled_length (w ∷ ws) leave again code = length-set (filled ws leave again code) w.place (jump leave again w) ∙ filled_length ws leave again code

-- what follows them stays as it is
pub filled_before : (ws : List Wait) (leave again first end : ℕ) (xs ys : List Instr) → AreWithin first end ws → end ≤ length xs → filled ws leave again (xs ++ ys) ≡ filled ws leave again xs ++ ys
filled_before [] leave again first end xs ys in_range le = refl
filled_before (w ∷ ws) leave again first end xs ys in_range le =
    let others = filled_before ws leave again (w.place + 1) end xs ys in_range.2 le in
    let n = filled_length ws leave again xs in
    ap (λ (c : List Instr). slice_set c w.place (jump leave again w)) others ∙ set-append_left (filled ws leave again xs) ys w.place (jump leave again w) (omega (arith, in_range.1, le, n))

-- an instruction before all of them
pub filled_set : (ws : List Wait) (leave again first end at : ℕ) (code : List Instr) (i : Instr) → AreWithin first end ws → at < first → filled ws leave again (slice_set code at i) ≡ slice_set (filled ws leave again code) at i
filled_set [] leave again first end at code i in_range le = refl
filled_set (w ∷ ws) leave again first end at code i in_range le =
    ap (λ (c : List Instr). slice_set c w.place (jump leave again w)) (filled_set ws leave again (w.place + 1) end at code i in_range.2 (omega (arith, in_range.0, le)))
    ∙ set_comm (filled ws leave again code) at w.place i (jump leave again w) (λ same. absurd (omega (arith, same, in_range.0, le)))

pub filled_both : (ws vs : List Wait) (leave again : ℕ) (code : List Instr) → filled (ws ++ vs) leave again code ≡ filled ws leave again (filled vs leave again code)
filled_both [] vs leave again code = refl
filled_both (w ∷ ws) vs leave again code = ap (λ (c : List Instr). slice_set c w.place (jump leave again w)) (filled_both ws vs leave again code)

-- the last one first
pub filled_last : (all ws : List Wait) (w : Wait) (leave again target : ℕ) (code next : List Instr) → all ≡ ws ++ w ∷ [] → target ≡ cond w.leaves leave again → next ≡ slice_set code w.place (instrs.Jump target) → filled ws leave again next ≡ filled all leave again code
filled_last all ws w leave again target code next is to done =
    ap (filled ws leave again) (done ∙ ap (λ t. slice_set code w.place (instrs.Jump t)) to) ∙ sym (filled_both ws (w ∷ []) leave again code) ∙ ap (λ l. filled l leave again code) (sym is)

pub within_wider : (ws : List Wait) (first end first' end' : ℕ) → first' ≤ first → end ≤ end' → AreWithin first end ws → AreWithin first' end' ws
within_wider [] first end first' end' a b in_range = tt
within_wider (w ∷ ws) first end first' end' a b in_range = (omega (arith, a, in_range.0), omega (arith, b, in_range.1), within_wider ws (w.place + 1) end (w.place + 1) end' (omega arith) b in_range.2)

pub within_both : (ws vs : List Wait) (first middle end : ℕ) → first ≤ middle → middle ≤ end → AreWithin first middle ws → AreWithin middle end vs → AreWithin first end (ws ++ vs)
within_both [] vs first middle end a b c d = within_wider vs middle end first end a (omega arith) d
within_both (w ∷ ws) vs first middle end a b c d = (c.0, omega (arith, c.1, b), within_both ws vs (w.place + 1) middle end (omega (arith, c.1)) b c.2 d)

-- ---- plans

pub makes_length : (old new : List Instr) (ws : List Wait) (p : Plan) → Makes old new ws p → length new ≡ length old + size p
makes_length old new ws p m = sym (filled_length ws 0 0 new) ∙ ap length (m.is 0 0) ∙ length-append old (flat 0 0 (length old) p) ∙ ap (λ n. length old + n) (flat_size 0 0 (length old) p)

-- code without a break or a continue
pub makes_part : (old new : List Instr) (part : Plan → Plan) → Puts old new part → Makes old new [] (part Skip)
makes_part old new part p = record { within = tt; is = λ leave again. puts_alone old new part p leave again }

-- a part, and a plan after it
pub makes_after : (old middle new : List Instr) (ws : List Wait) (part : Plan → Plan) (rest : Plan) → Puts old middle part → Makes middle new ws rest → Makes old new ws (part rest)
makes_after old middle new ws part rest p m =
    let n = makes_length middle new ws rest m in
    let longer = ap length (puts_alone old middle part p 0 0) ∙ length-append old (flat 0 0 (length old) (part Skip)) in
    record {
      within = within_wider ws (length middle) (length new) (length old) (length new) (omega (arith, longer)) (omega arith) m.within;
      is = λ leave again. m.is leave again ∙ p leave again rest;
    }

makes_one : (old new : List Instr) (i : Instr) (p : Plan) → new ≡ old ++ i ∷ [] → ((leave again place : ℕ) → flat leave again place p ≡ i ∷ []) → Makes old new [] p
makes_one old new i p is same = record { within = tt; is = λ leave again. is ∙ ap (λ (l : List Instr). old ++ l) (sym (same leave again (length old))) }

pub makes_stop : (old new : List Instr) → new ≡ old ++ instrs.Return ∷ [] → Makes old new [] Stop
makes_stop old new is = makes_one old new instrs.Return Stop is (λ leave again place. refl)

waits : (old new : List Instr) (leaves : Bool) (p : Plan) → new ≡ old ++ instrs.Jump 0 ∷ [] → ((leave again place : ℕ) → flat leave again place p ≡ instrs.Jump (cond leaves leave again) ∷ []) → Makes old new (wait_at (length old) leaves) p
waits old new leaves p is same = record {
  within = (omega arith, omega (arith, ap length is, length-append old (instrs.Jump 0 ∷ [])), tt);
  is = λ leave again. ap (λ (c : List Instr). slice_set c (length old) (instrs.Jump (cond leaves leave again))) is ∙ set_at old (instrs.Jump 0) [] (instrs.Jump (cond leaves leave again)) (length old) refl ∙ ap (λ (l : List Instr). old ++ l) (sym (same leave again (length old)));
}

pub makes_leave : (old new : List Instr) → new ≡ old ++ instrs.Jump 0 ∷ [] → Makes old new (wait_at (length old) true) Leave
makes_leave old new is = waits old new true Leave is (λ leave again place. refl)

pub makes_again : (old new : List Instr) → new ≡ old ++ instrs.Jump 0 ∷ [] → Makes old new (wait_at (length old) false) Again
makes_again old new is = waits old new false Again is (λ leave again place. refl)

-- one plan after the other
pub makes_seq : (i0 i1 i2 : List Instr) (ws vs : List Wait) (p q : Plan) → reaches_end p ≡ true → Makes i0 i1 ws p → Makes i1 i2 vs q → Makes i0 i2 (ws ++ vs) (Seq p q)
makes_seq i0 i1 i2 ws vs p q leads m o =
    let n = makes_length i0 i1 ws p m in
    let k = makes_length i1 i2 vs q o in
    record {
      within = within_both ws vs (length i0) (length i1) (length i2) (omega (arith, n)) (omega (arith, k)) m.within o.within;
      is = λ leave again.
          let fp = flat leave again (length i0) p in
          let fq = flat leave again (length i1) q in
          filled_both ws vs leave again i2 ∙ ap (filled ws leave again) (o.is leave again) ∙ filled_before ws leave again (length i0) (length i1) i1 fq m.within (omega arith) ∙ ap (λ (l : List Instr). l ++ fq) (m.is leave again)
          ∙ append_assoc i0 fp fq ∙ ap (λ b. i0 ++ (fp ++ cond b fq [])) (sym leads) ∙ ap (λ x. i0 ++ (fp ++ cond (reaches_end p) (flat leave again x q) [])) n;
    }

-- what can't be reached has no instructions
pub makes_cut : (i0 i1 : List Instr) (ws : List Wait) (p q : Plan) → reaches_end p ≡ false → Makes i0 i1 ws p → Makes i0 i1 ws (Seq p q)
makes_cut i0 i1 ws p q ends m = record {
  within = m.within;
  is = λ leave again.
      let fp = flat leave again (length i0) p in
      m.is leave again ∙ ap (λ (l : List Instr). i0 ++ l) (sym (append-nil fp)) ∙ ap (λ b. i0 ++ (fp ++ cond b (flat leave again (length i0 + size p) q) [])) (sym ends);
}

-- ---- conditions: the test's jump is known after what is done

-- an instruction, and a plan after it
pub after_set : (i0 i1 i2 i3 : List Instr) (ws : List Wait) (p : Plan) (leave again : ℕ) (i j : Instr) → i1 ≡ i0 ++ i ∷ [] → Makes i1 i2 ws p → i3 ≡ slice_set i2 (length i0) j
    → filled ws leave again i3 ≡ (i0 ++ j ∷ []) ++ flat leave again (length i1) p
after_set i0 i1 i2 i3 ws p leave again i j e1 m e3 =
    let n : length i1 ≡ length i0 + 1 = ap length e1 ∙ length-append i0 (i ∷ []) in
    let fp = flat leave again (length i1) p in
    ap (filled ws leave again) e3 ∙ filled_set ws leave again (length i1) (length i2) (length i0) i2 j m.within (omega (arith, n)) ∙ ap (λ (c : List Instr). slice_set c (length i0) j) (m.is leave again)
    ∙ set-append_left i1 fp (length i0) j (omega (arith, n)) ∙ ap (λ (c : List Instr). slice_set c (length i0) j ++ fp) e1 ∙ ap (λ (c : List Instr). c ++ fp) (set_at i0 i [] j (length i0) refl)

pub makes_if_then : (i0 i1 i2 i3 : List Instr) (ws : List Wait) (so : Plan) (next : ℕ) → i1 ≡ i0 ++ instrs.Unless 0 ∷ [] → Makes i1 i2 ws so → next ≡ length i2 → i3 ≡ slice_set i2 (length i0) (instrs.Unless next) → Makes i0 i3 ws (IfThen so)
makes_if_then i0 i1 i2 i3 ws so next e1 m en e3 =
    let n1 : length i1 ≡ length i0 + 1 = ap length e1 ∙ length-append i0 (instrs.Unless 0 ∷ []) in
    let n2 = makes_length i1 i2 ws so m in
    let n3 : length i3 ≡ length i2 = ap length e3 ∙ length-set i2 (length i0) (instrs.Unless next) in
    let j1 = i0 ++ instrs.Unless next ∷ [] in
    let k1 : length j1 ≡ length i1 = length-append i0 (instrs.Unless next ∷ []) ∙ sym n1 in
    record {
      within = within_wider ws (length i1) (length i2) (length i0) (length i3) (omega (arith, n1)) (omega (arith, n3)) m.within;
      is = λ leave again.
          appends_if_then leave again next i0 j1 (filled ws leave again i3) so refl (after_set i0 i1 i2 i3 ws so leave again (instrs.Unless 0) (instrs.Unless next) e1 m e3 ∙ ap (λ x. j1 ++ flat leave again x so) (sym k1)) (omega (arith, en, n2, n1));
    }
