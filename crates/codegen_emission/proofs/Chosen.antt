-- Plans with two ways, loops and selects, whose jumps wait for their targets.
use Rattle.std.proofs.Common.{◌≡◌, ℕ, ◌+◌, ◌<◌, Bool, true, false, cond, List, [], ◌∷◌, ◌++◌, length, refl, sym, ap, ◌∙◌, subst, arith, append_assoc, length-append}
use Rattle.std.specs.Prelude.{slice_set}
use Rattle.std.proofs.lemmas.List.{append-nil, length-set, set-append_left, set_comm}
use Rattle.bytecode.specs.declared.instr.Instr.{Instr}
use Rattle.bytecode.specs.declared.instr.Instr.TheVariants as instrs
use Rattle.bytecode.specs.declared.instr.WordKind.{WordKind}
use Rattle.bytecode.specs.Code.{SelectTable}
use Rattle.plan.specs.Plan.{Plan, IfElse, Cycle, Endless, Choose, Way, LastWay, reaches_end, turns, jump_after, jump_size, size, flat}
use Rattle.plan.proofs.Places.{jump_after_size}
use Rattle.plan.proofs.Appends.{round, round_size, appends_if_else, appends_cycle, appends_endless, appends_choose, appends_way}
use Rattle.codegen_flow.specs.declared.waits.Wait.{Wait}
use Rattle.codegen_flow.specs.Waits.{filled, settled, continues, AreWithin, Makes}
use Rattle.codegen_flow.proofs.Filled.{filled_length, filled_before, filled_set, filled_both, within_wider, within_both, makes_length, after_set}

-- ---- two parts, with a jump over the second one

-- an instruction between two parts gets its target after both
between_set : (i1 i2 i3 i4 : List Instr) (ws vs : List Wait) (first : ℕ) (q : Plan) (leave again : ℕ) (i j : Instr) → AreWithin first (length i1) ws → i2 ≡ i1 ++ i ∷ [] → Makes i2 i3 vs q → i4 ≡ slice_set i3 (length i1) j
    → filled (ws ++ vs) leave again i4 ≡ filled ws leave again i1 ++ (j ∷ flat leave again (length i2) q)
between_set i1 i2 i3 i4 ws vs first q leave again i j in_range e2 m e4 =
    let fq = flat leave again (length i2) q in
    let following = after_set i1 i2 i3 i4 vs q leave again i j e2 m e4 in
    filled_both ws vs leave again i4 ∙ ap (filled ws leave again) (following ∙ append_assoc i1 (j ∷ []) fq) ∙ filled_before ws leave again first (length i1) i1 (j ∷ fq) in_range (omega arith)

-- what follows a part that leads on
jump_there : (p : Plan) (to : ℕ) → reaches_end p ≡ true → jump_after p to ≡ instrs.Jump to ∷ []
jump_there p to leads = ap (λ b. cond b (instrs.Jump to ∷ []) []) leads

no_jump : (p : Plan) (to : ℕ) → reaches_end p ≡ false → jump_after p to ≡ []
no_jump p to ends = ap (λ b. cond b (instrs.Jump to ∷ []) []) ends

jump_one : (p : Plan) → reaches_end p ≡ true → jump_size p ≡ 1
jump_one p leads = ap (λ b. cond b 1 0) leads

jump_none : (p : Plan) → reaches_end p ≡ false → jump_size p ≡ 0
jump_none p ends = ap (λ b. cond b 1 0) ends

-- a way of a select, after which there are others
pub makes_way : (ks : List WordKind) (i0 i1 i2 i3 i4 : List Instr) (ws vs : List Wait) (body others : Plan) (to : ℕ) → reaches_end body ≡ true → Makes i0 i1 ws body → i2 ≡ i1 ++ instrs.Jump 0 ∷ [] → Makes i2 i3 vs others → to ≡ length i3
    → i4 ≡ slice_set i3 (length i1) (instrs.Jump to) → Makes i0 i4 (ws ++ vs) (Way ks body others)
makes_way ks i0 i1 i2 i3 i4 ws vs body others to leads m e2 o et e4 =
    let n1 = makes_length i0 i1 ws body m in
    let n2 : length i2 ≡ length i1 + 1 = ap length e2 ∙ length-append i1 (instrs.Jump 0 ∷ []) in
    let n3 = makes_length i2 i3 vs others o in
    let n4 : length i4 ≡ length i3 = ap length e4 ∙ length-set i3 (length i1) (instrs.Jump to) in
    let one = jump_one body leads in
    record {
      within = within_both ws vs (length i0) (length i1) (length i4) (omega (arith, n1)) (omega (arith, n2, n3, n4)) m.within (within_wider vs (length i2) (length i3) (length i1) (length i4) (omega (arith, n2)) (omega (arith, n4)) o.within);
      is = λ leave again.
          let f1 = filled ws leave again i1 in
          let j2 = f1 ++ jump_after body to in
          let k1 : length f1 ≡ length i1 = filled_length ws leave again i1 in
          let k2 : length j2 ≡ length i2 = length-append f1 (jump_after body to) ∙ ap (λ n. length f1 + n) (jump_after_size body to ∙ one) ∙ ap (λ n. n + 1) k1 ∙ sym n2 in
          let fo = flat leave again (length i2) others in
          let last : filled (ws ++ vs) leave again i4 ≡ j2 ++ flat leave again (length j2) others =
          between_set i1 i2 i3 i4 ws vs (length i0) others leave again (instrs.Jump 0) (instrs.Jump to) m.within e2 o e4 ∙ sym (append_assoc f1 (instrs.Jump to ∷ []) fo)
          ∙ ap (λ x. (f1 ++ x) ++ fo) (sym (jump_there body to leads)) ∙ ap (λ n. j2 ++ flat leave again n others) (sym k2) in
          appends_way leave again to ks i0 f1 j2 (filled (ws ++ vs) leave again i4) body others (m.is leave again) refl last (omega (arith, et, n1, n2, n3, one));
    }

-- one that doesn't lead on
pub makes_ended_way : (ks : List WordKind) (i0 i1 i2 : List Instr) (ws vs : List Wait) (body others : Plan) → reaches_end body ≡ false → Makes i0 i1 ws body → Makes i1 i2 vs others → Makes i0 i2 (ws ++ vs) (Way ks body others)
makes_ended_way ks i0 i1 i2 ws vs body others ends m o =
    let n1 = makes_length i0 i1 ws body m in
    let n2 = makes_length i1 i2 vs others o in
    let none = jump_none body ends in
    record {
      within = within_both ws vs (length i0) (length i1) (length i2) (omega (arith, n1)) (omega (arith, n2)) m.within o.within;
      is = λ leave again.
          let f1 = filled ws leave again i1 in
          let to = length i2 in
          let j2 = f1 ++ jump_after body to in
          let same : j2 ≡ f1 = ap (λ x. f1 ++ x) (no_jump body to ends) ∙ append-nil f1 in
          let k1 : length f1 ≡ length i1 = filled_length ws leave again i1 in
          let k2 : length j2 ≡ length i1 = ap length same ∙ k1 in
          let fo = flat leave again (length i1) others in
          let last : filled (ws ++ vs) leave again i2 ≡ j2 ++ flat leave again (length j2) others =
          filled_both ws vs leave again i2 ∙ ap (filled ws leave again) (o.is leave again) ∙ filled_before ws leave again (length i0) (length i1) i1 fo m.within (omega arith) ∙ ap (λ x. x ++ fo) (sym same)
          ∙ ap (λ n. j2 ++ flat leave again n others) (sym k2) in
          appends_way leave again to ks i0 f1 j2 (filled (ws ++ vs) leave again i2) body others (m.is leave again) refl last (omega (arith, n1, n2, none));
    }

pub makes_last_way : (ks : List WordKind) (i0 i1 : List Instr) (ws : List Wait) (body : Plan) → Makes i0 i1 ws body → Makes i0 i1 ws (LastWay ks body)
makes_last_way ks i0 i1 ws body m = record { within = m.within; is = m.is }

-- ---- selects: a break leads to their end, a continue is one of the loop around

settled_before : (ws : List Wait) (leave first end at : ℕ) (code : List Instr) (i : Instr) → AreWithin first end ws → at < first → settled ws leave (slice_set code at i) ≡ slice_set (settled ws leave code) at i
settled_before [] leave first end at code i in_range le = refl
settled_before (w ∷ ws) leave first end at code i in_range le = by w.leaves (settled_before ws leave (w.place + 1) end at code i in_range.2 (omega (arith, in_range.0, le))) where
  by : (b : Bool) → settled ws leave (slice_set code at i) ≡ slice_set (settled ws leave code) at i → cond b (slice_set (settled ws leave (slice_set code at i)) w.place (instrs.Jump leave)) (settled ws leave (slice_set code at i)) ≡ slice_set (cond b (slice_set (settled ws leave code) w.place (instrs.Jump leave)) (settled ws leave code)) at i
  by true more = ap (λ (c : List Instr). slice_set c w.place (instrs.Jump leave)) more ∙ set_comm (settled ws leave code) at w.place i (instrs.Jump leave) (λ same. absurd (omega (arith, same, in_range.0, le)))
  by false more = more

continues_within : (ws : List Wait) (first end : ℕ) → AreWithin first end ws → AreWithin first end (continues ws)
continues_within [] first end in_range = tt
continues_within (w ∷ ws) first end in_range = by w.leaves (continues_within ws (w.place + 1) end in_range.2) where
  by : (b : Bool) → AreWithin (w.place + 1) end (continues ws) → AreWithin first end (cond b (continues ws) (w ∷ continues ws))
  by true more = within_wider (continues ws) (w.place + 1) end first end (omega (arith, in_range.0)) (omega arith) more
  by false more = (in_range.0, in_range.1, more)

-- with targets for continues too they are what they are with both at once
both_targets : (ws : List Wait) (stop leave again first end : ℕ) (code : List Instr) → AreWithin first end ws → filled (continues ws) leave again (settled ws stop code) ≡ filled ws stop again code
both_targets [] stop leave again first end code in_range = refl
both_targets (w ∷ ws) stop leave again first end code in_range = by w.leaves refl (both_targets ws stop leave again (w.place + 1) end code in_range.2) where
  by : (b : Bool) → w.leaves ≡ b → filled (continues ws) leave again (settled ws stop code) ≡ filled ws stop again code → filled (cond w.leaves (continues ws) (w ∷ continues ws)) leave again (cond w.leaves (slice_set (settled ws stop code) w.place (instrs.Jump stop)) (settled ws stop code))
      ≡ slice_set (filled ws stop again code) w.place (instrs.Jump (cond w.leaves stop again))
  by true is more =
      rw is (filled_set (continues ws) leave again (w.place + 1) end w.place (settled ws stop code) (instrs.Jump stop) (continues_within ws (w.place + 1) end in_range.2) (omega arith)
      ∙ ap (λ (c : List Instr). slice_set c w.place (instrs.Jump stop)) more)
  by false is more = rw is (ap (λ (c : List Instr). slice_set c w.place (instrs.Jump again)) more)

pub makes_choose : (q : ℕ) (make : List ℕ → SelectTable) (i0 i1 i2 i3 : List Instr) (ws : List Wait) (ways : Plan) (stop : ℕ) → i1 ≡ i0 ++ instrs.Select q ∷ [] → Makes i1 i2 ws ways → stop ≡ length i2 → i3 ≡ settled ws stop i2 → length i3 ≡ length i2
    → Makes i0 i3 (continues ws) (Choose q make ways)
makes_choose q make i0 i1 i2 i3 ws ways stop e1 m es e3 n3 =
    let n1 : length i1 ≡ length i0 + 1 = ap length e1 ∙ length-append i0 (instrs.Select q ∷ []) in
    let n2 = makes_length i1 i2 ws ways m in
    record {
      within = within_wider (continues ws) (length i1) (length i2) (length i0) (length i3) (omega (arith, n1)) (omega (arith, n3)) (continues_within ws (length i1) (length i2) m.within);
      is = λ leave again.
          let whole = ap (filled (continues ws) leave again) e3 ∙ both_targets ws stop leave again (length i1) (length i2) i2 m.within ∙ m.is stop again in
          appends_choose leave again stop q make i0 i1 (filled (continues ws) leave again i3) ways e1 whole (omega (arith, es, n1, n2));
    }

-- ---- conditions with two ways

pub makes_if_else : (i0 i1 i2 i3 i4 i5 i6 : List Instr) (ws vs : List Wait) (so other : Plan) (next to : ℕ) → reaches_end so ≡ true → i1 ≡ i0 ++ instrs.Unless 0 ∷ [] → Makes i1 i2 ws so → i3 ≡ i2 ++ instrs.Jump 0 ∷ [] → next ≡ length i3
    → i4 ≡ slice_set i3 (length i0) (instrs.Unless next) → Makes i4 i5 vs other → to ≡ length i5 → i6 ≡ slice_set i5 (length i2) (instrs.Jump to) → Makes i0 i6 (ws ++ vs) (IfElse so other)
makes_if_else i0 i1 i2 i3 i4 i5 i6 ws vs so other next to leads e1 m e3 en e4 o et e6 =
    let test = instrs.Unless next in
    let over = instrs.Jump to in
    let k2 = slice_set i2 (length i0) test in
    let n1 : length i1 ≡ length i0 + 1 = ap length e1 ∙ length-append i0 (instrs.Unless 0 ∷ []) in
    let n2 = makes_length i1 i2 ws so m in
    let n3 : length i3 ≡ length i2 + 1 = ap length e3 ∙ length-append i2 (instrs.Jump 0 ∷ []) in
    let n4 : length i4 ≡ length i3 = ap length e4 ∙ length-set i3 (length i0) test in
    let n5 = makes_length i4 i5 vs other o in
    let n6 : length i6 ≡ length i5 = ap length e6 ∙ length-set i5 (length i2) over in
    let nk : length k2 ≡ length i2 = length-set i2 (length i0) test in
    let one = jump_one so leads in
    let same4 : i4 ≡ k2 ++ instrs.Jump 0 ∷ [] = e4 ∙ ap (λ (c : List Instr). slice_set c (length i0) test) e3 ∙ set-append_left i2 (instrs.Jump 0 ∷ []) (length i0) test (omega (arith, n1, n2)) in
    let same6 : i6 ≡ slice_set i5 (length k2) over = e6 ∙ ap (λ n. slice_set i5 n over) (sym nk) in
    record {
      within = within_both ws vs (length i0) (length i2) (length i6) (omega (arith, n1, n2)) (omega (arith, n3, n4, n5, n6)) (within_wider ws (length i1) (length i2) (length i0) (length i2) (omega (arith, n1)) (omega arith) m.within)
          (within_wider vs (length i4) (length i5) (length i2) (length i6) (omega (arith, n3, n4)) (omega (arith, n6)) o.within);
      is = λ leave again.
          let j1 = i0 ++ test ∷ [] in
          let j2 = filled ws leave again k2 in
          let j3 = j2 ++ jump_after so to in
          let fo = flat leave again (length i4) other in
          let k1 : length j1 ≡ length i1 = length-append i0 (test ∷ []) ∙ sym n1 in
          let m2 : length j2 ≡ length i2 = filled_length ws leave again k2 ∙ nk in
          let m3 : length j3 ≡ length i4 = length-append j2 (jump_after so to) ∙ ap (λ n. length j2 + n) (jump_after_size so to ∙ one) ∙ ap (λ n. n + 1) m2 ∙ sym n3 ∙ sym n4 in
          let second : j2 ≡ j1 ++ flat leave again (length j1) so = after_set i0 i1 i2 k2 ws so leave again (instrs.Unless 0) test e1 m refl ∙ ap (λ n. j1 ++ flat leave again n so) (sym k1) in
          let last : filled (ws ++ vs) leave again i6 ≡ j3 ++ flat leave again (length j3) other =
          between_set k2 i4 i5 i6 ws vs (length i1) other leave again (instrs.Jump 0) over (subst (λ n. AreWithin (length i1) n ws) (sym nk) m.within) same4 o same6 ∙ sym (append_assoc j2 (over ∷ []) fo)
          ∙ ap (λ x. (j2 ++ x) ++ fo) (sym (jump_there so to leads)) ∙ ap (λ n. j3 ++ flat leave again n other) (sym m3) in
          appends_if_else leave again next to i0 j1 j2 j3 (filled (ws ++ vs) leave again i6) so other refl second refl last (omega (arith, en, n3, n2, n1, one)) (omega (arith, et, n5, n4, en));
    }

-- the first way doesn't lead on
pub makes_if_other : (i0 i1 i2 i3 i4 : List Instr) (ws vs : List Wait) (so other : Plan) (next : ℕ) → reaches_end so ≡ false → i1 ≡ i0 ++ instrs.Unless 0 ∷ [] → Makes i1 i2 ws so → next ≡ length i2
    → i3 ≡ slice_set i2 (length i0) (instrs.Unless next) → Makes i3 i4 vs other → Makes i0 i4 (ws ++ vs) (IfElse so other)
makes_if_other i0 i1 i2 i3 i4 ws vs so other next ends e1 m en e3 o =
    let test = instrs.Unless next in
    let n1 : length i1 ≡ length i0 + 1 = ap length e1 ∙ length-append i0 (instrs.Unless 0 ∷ []) in
    let n2 = makes_length i1 i2 ws so m in
    let n3 : length i3 ≡ length i2 = ap length e3 ∙ length-set i2 (length i0) test in
    let n4 = makes_length i3 i4 vs other o in
    let none = jump_none so ends in
    record {
      within = within_both ws vs (length i0) (length i2) (length i4) (omega (arith, n1, n2)) (omega (arith, n3, n4)) (within_wider ws (length i1) (length i2) (length i0) (length i2) (omega (arith, n1)) (omega arith) m.within)
          (within_wider vs (length i3) (length i4) (length i2) (length i4) (omega (arith, n3)) (omega arith) o.within);
      is = λ leave again.
          let to = length i4 in
          let j1 = i0 ++ test ∷ [] in
          let j2 = filled ws leave again i3 in
          let j3 = j2 ++ jump_after so to in
          let fo = flat leave again (length i3) other in
          let k1 : length j1 ≡ length i1 = length-append i0 (test ∷ []) ∙ sym n1 in
          let m2 : length j2 ≡ length i3 = filled_length ws leave again i3 in
          let same : j3 ≡ j2 = ap (λ x. j2 ++ x) (no_jump so to ends) ∙ append-nil j2 in
          let second : j2 ≡ j1 ++ flat leave again (length j1) so = after_set i0 i1 i2 i3 ws so leave again (instrs.Unless 0) test e1 m e3 ∙ ap (λ n. j1 ++ flat leave again n so) (sym k1) in
          let last : filled (ws ++ vs) leave again i4 ≡ j3 ++ flat leave again (length j3) other =
          filled_both ws vs leave again i4 ∙ ap (filled ws leave again) (o.is leave again) ∙ filled_before ws leave again (length i1) (length i2) i3 fo m.within (omega (arith, n3)) ∙ ap (λ x. x ++ fo) (sym same)
          ∙ ap (λ n. j3 ++ flat leave again n other) (sym (ap length same ∙ m2)) in
          appends_if_else leave again next to i0 j1 j2 j3 (filled (ws ++ vs) leave again i4) so other refl second refl last (omega (arith, en, n2, n1, none)) (omega (arith, n4, n3, en));
    }

-- ---- loops: breaks lead to their end, continues to what is done after the body

pub makes_cycle : (i0 i1 i2 i3 i4 i5 i6 i7 : List Instr) (ws : List Wait) (test body post exit : Plan) (exit_at stop : ℕ) → Makes i0 i1 [] test → i2 ≡ i1 ++ instrs.Unless 0 ∷ [] → Makes i2 i3 ws body
    → ((leave again : ℕ) → i4 ≡ i3 ++ round leave again (length i0) (length i3) body post) → Makes i4 i5 [] exit → exit_at ≡ length i4 → stop ≡ length i5 → i6 ≡ slice_set i5 (length i1) (instrs.Unless exit_at)
    → i7 ≡ filled ws stop (length i3) i6 → Makes i0 i7 [] (Cycle test body post exit)
makes_cycle i0 i1 i2 i3 i4 i5 i6 i7 ws test body post exit exit_at stop t e2 m e4 x ee es e6 e7 =
    let out = instrs.Unless exit_at in
    let k3 = slice_set i3 (length i1) out in
    let n1 = makes_length i0 i1 [] test t in
    let n2 : length i2 ≡ length i1 + 1 = ap length e2 ∙ length-append i1 (instrs.Unless 0 ∷ []) in
    let n3 = makes_length i2 i3 ws body m in
    let nk : length k3 ≡ length i3 = length-set i3 (length i1) out in
    record {
      within = tt;
      is = λ leave again.
          let r = round leave again (length i0) (length i3) body post in
          let n4 : length i4 ≡ length i3 + cond (turns body) (size post + 1) 0 = ap length (e4 leave again) ∙ length-append i3 r ∙ ap (λ n. length i3 + n) (round_size leave again (length i0) (length i3) body post) in
          let n5 = makes_length i4 i5 [] exit x in
          let fe = flat leave again (length i4) exit in
          let j2 = i1 ++ out ∷ [] in
          let j3 = filled ws stop (length i3) k3 in
          let j4 = j3 ++ round leave again (length i0) (length j3) body post in
          let k2 : length j2 ≡ length i2 = length-append i1 (out ∷ []) ∙ sym n2 in
          let m3 : length j3 ≡ length i3 = filled_length ws stop (length i3) k3 ∙ nk in
          let same4 : j4 ≡ j3 ++ r = ap (λ n. j3 ++ round leave again (length i0) n body post) m3 in
          let m4 : length j4 ≡ length i4 = ap length same4 ∙ length-append j3 r ∙ ap (λ n. n + length r) m3 ∙ sym (ap length (e4 leave again) ∙ length-append i3 r) in
          let third : j3 ≡ j2 ++ flat stop (length i3) (length j2) body = after_set i1 i2 i3 k3 ws body stop (length i3) (instrs.Unless 0) out e2 m refl ∙ ap (λ n. j2 ++ flat stop (length i3) n body) (sym k2) in
          let all5 : i5 ≡ i3 ++ (r ++ fe) = x.is leave again ∙ ap (λ (c : List Instr). c ++ fe) (e4 leave again) ∙ append_assoc i3 r fe in
          let all6 : i6 ≡ k3 ++ (r ++ fe) = e6 ∙ ap (λ (c : List Instr). slice_set c (length i1) out) all5 ∙ set-append_left i3 (r ++ fe) (length i1) out (omega (arith, n2, n3)) in
          let all7 : i7 ≡ j4 ++ flat leave again (length j4) exit =
          e7 ∙ ap (filled ws stop (length i3)) all6 ∙ filled_before ws stop (length i3) (length i2) (length i3) k3 (r ++ fe) m.within (omega (arith, nk)) ∙ sym (append_assoc j3 r fe)
          ∙ ap (λ (c : List Instr). c ++ fe) (sym same4) ∙ ap (λ n. j4 ++ flat leave again n exit) (sym m4) in
          appends_cycle leave again (length i0) (length i3) exit_at stop i0 i1 j2 j3 j4 i7 test body post exit (t.is leave again) refl third refl all7 refl (omega (arith, n3, n2, n1)) (omega (arith, ee, n4)) (omega (arith, es, n5, ee));
    }

pub makes_endless : (i0 i1 i2 i3 : List Instr) (ws : List Wait) (body post : Plan) (stop : ℕ) → Makes i0 i1 ws body → ((leave again : ℕ) → i2 ≡ i1 ++ round leave again (length i0) (length i1) body post) → stop ≡ length i2
    → i3 ≡ filled ws stop (length i1) i2 → Makes i0 i3 [] (Endless body post)
makes_endless i0 i1 i2 i3 ws body post stop m e2 es e3 =
    let n1 = makes_length i0 i1 ws body m in
    record {
      within = tt;
      is = λ leave again.
          let r = round leave again (length i0) (length i1) body post in
          let n2 : length i2 ≡ length i1 + cond (turns body) (size post + 1) 0 = ap length (e2 leave again) ∙ length-append i1 r ∙ ap (λ n. length i1 + n) (round_size leave again (length i0) (length i1) body post) in
          let j1 = filled ws stop (length i1) i1 in
          let m1 : length j1 ≡ length i1 = filled_length ws stop (length i1) i1 in
          let last : i3 ≡ j1 ++ round leave again (length i0) (length j1) body post =
          e3 ∙ ap (filled ws stop (length i1)) (e2 leave again) ∙ filled_before ws stop (length i1) (length i0) (length i1) i1 r m.within (omega arith) ∙ ap (λ n. j1 ++ round leave again (length i0) n body post) (sym m1) in
          appends_endless leave again (length i0) (length i1) stop i0 j1 i3 body post (m.is stop (length i1)) last refl n1 (omega (arith, es, n2));
    }
