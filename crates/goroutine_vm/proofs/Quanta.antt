-- How many steps a goroutine of verified code makes without a tick, and that it comes to a request.
use Rattle.std.proofs.Common.{◌≡◌, ℕ, zero, suc, ◌+◌, ◌-◌, ◌<◌, ◌≤◌, Bool, true, false, cond, Some, None, refl, sym, ap, ◌∙◌, subst, arith}
use Rattle.std.specs.Prelude.{◌==◌, unwrap_or}
use Rattle.std.specs.Option.{is_some}
use Rattle.std.proofs.lemmas.Bool.Decides.{nat_tests}
use Rattle.bytecode.specs.Code.{Code}
use Rattle.bytecode.specs.Machine.{Frames, code_next, code_kind}
use Rattle.bytecode.specs.Rules.{IsVerified}
use Rattle.bytecode.specs.Silence.{most_silent}
use Rattle.bytecode.proofs.Silent.{silent, falls, silent_most}
use Rattle.bytecode.proofs.Unstuck.{step_keeps, tick_keeps, not_stuck}
use Rattle.goroutine_vm.specs.Advance.{IsStateOf, IsAsk, IsFew, IsStop, steps}
use Rattle.goroutine_vm.specs.declared.state.Stop.{Stop}
use Rattle.goroutine_vm.specs.declared.state.Stop.TheVariants.{AtOp, Quantum}
use Rattle.turn_rule.specs.Turns.{stepped}
use Rattle.turn_rule.proofs.Stable.{moved_climbs, moved_stays}
use Rattle.word.specs.Worlds.{rules}
use Rattle.word.specs.Values.{Request, Panic, Exhausted}
use Rattle.word.specs.declared.panic.Panic.TheVariants.{SendOnClosed}
use Rattle.word.specs.Kinds.{Next, Slides, Ticks, Asks, Stuck, Clocked, at, asks_of, local, asks}
use Rattle.word.proofs.Laws.{laws}
use Rattle.goroutine_vm.proofs.Turns.{local_is, asks_is}

module _ (code : Code) (limit : ℕ) (v : IsVerified code) where
  -- what a state of the code does: it makes a request or a local step
  pub data Turn (s : Clocked Frames) : Type 0 where
    Stands : is_some (asks (code_kind code) limit s) ≡ true → Turn s
    Slid : (a : Frames) → local (code_kind code) limit s ≡ Some (at s.clock a) → silent code a < silent code s.state → IsStateOf code limit (at s.clock a) → Turn s
    Ticked : (a : Frames) → local (code_kind code) limit s ≡ Some (at (s.clock + 1) a) → s.clock < limit → IsStateOf code limit (at (s.clock + 1) a) → Turn s

  asks_some : (clock : ℕ) (q : Request) → is_some (asks_of {A = Frames} limit clock (Asks q)) ≡ true
  asks_some clock q = by (clock == limit)
    where
      by : (t : Bool) → is_some (cond t (Some Exhausted) (Some q)) ≡ true
      by true = refl
      by false = refl

  turn : (s : Clocked Frames) → IsStateOf code limit s → Turn s
  turn s is = by_doom s.doomed refl
    where
      by_test : (a : Frames) (t : Bool) → s.doomed ≡ false → code_next code s.state ≡ Ticks a → (s.clock == limit) ≡ t → Turn s
      by_test a true calm e h = Stands (ap is_some (asks_is code limit s (Ticks a) calm e ∙ ap (λ t. cond t (Some Exhausted) None) h))
      by_test a false calm e h =
          let most = is.clock in
          let below : s.clock < limit = grind (arith, nat_tests, h, most) in
          Ticked a (local_is code limit s (Ticks a) calm e ∙ ap (λ t. cond t None (Some (at (s.clock + 1) a))) h) below
          (record { frame = tick_keeps code v s.state a is.frame e; clock = omega (arith, below); last = is.last })

      by_next : (n : Next Frames) → s.doomed ≡ false → code_next code s.state ≡ n → Turn s
      by_next (Slides a) calm e =
          Slid a (local_is code limit s (Slides a) calm e) (falls code v s.state a is.frame e) (record { frame = step_keeps code v s.state a is.frame e; clock = is.clock; last = is.last })
      by_next (Ticks a) calm e = by_test a (s.clock == limit) calm e refl
      by_next (Asks q) calm e = Stands (ap is_some (asks_is code limit s (Asks q) calm e) ∙ asks_some s.clock q)
      by_next Stuck calm e = absurd (not_stuck code v s.state is.frame e)

      by_doom : (d : Bool) → s.doomed ≡ d → Turn s
      by_doom true e = Stands (ap (λ b. is_some (asks_of limit s.clock (cond b (Asks (Panic SendOnClosed)) (code_next code s.state)))) e ∙ asks_some s.clock (Panic SendOnClosed))
      by_doom false e = by_next (code_next code s.state) e refl

  true_false : true ≡ false → ⊥
  true_false e = cc

  -- steps in a row without a tick
  quiet : (n : ℕ) (s : Clocked Frames) → IsStateOf code limit s → Turn s → asks (code_kind code) limit (steps code limit n s) ≡ None → (steps code limit n s).clock ≡ s.clock → n ≤ silent code s.state
  quiet zero s is t none same = omega arith
  quiet (suc n) s is (Stands asking) none same =
      let r = rules (code_kind code) limit in
      let stays = moved_stays r (laws (code_kind code) limit) (suc n) s ((laws (code_kind code) limit).parks s asking) in
      absurd (true_false (sym asking ∙ ap (λ (x : Clocked Frames). is_some (asks (code_kind code) limit x)) (sym stays) ∙ ap is_some none))
  quiet (suc n) s is (Slid a one less keeps) none same =
      let e : stepped (rules (code_kind code) limit) s ≡ at s.clock a = ap (λ o. unwrap_or o s) one in
      let rest = quiet n (at s.clock a) keeps (turn (at s.clock a) keeps) (subst (λ (x : Clocked Frames). asks (code_kind code) limit (steps code limit n x) ≡ None) e none) (subst (λ (x : Clocked Frames). (steps code limit n x).clock ≡ s.clock) e same) in
      omega (arith, rest, less)
  quiet (suc n) s is (Ticked a one below keeps) none same =
      let r = rules (code_kind code) limit in
      let e : stepped r s ≡ at (s.clock + 1) a = ap (λ o. unwrap_or o s) one in
      let climbs = moved_climbs r (laws (code_kind code) limit) n (at (s.clock + 1) a) in
      let back : (steps code limit n (at (s.clock + 1) a)).clock ≡ s.clock = subst (λ (x : Clocked Frames). (steps code limit n x).clock ≡ s.clock) e same in
      absurd (omega (arith, climbs, back))

  pub few : (n : ℕ) (s : Clocked Frames) → IsStateOf code limit s → asks (code_kind code) limit (steps code limit n s) ≡ None → (steps code limit n s).clock ≡ s.clock → n ≤ most_silent code
  few n s is none same =
      let a = quiet n s is (turn s is) none same in
      let b = silent_most code v s.state is.frame in
      omega (arith, a, b)

  abbrev Reached : Clocked Frames → Type 0
  Reached s = (clock : ℕ) × IsAsk code limit s clock

  more : (s t : Clocked Frames) → local (code_kind code) limit s ≡ Some t → Reached t → Reached s
  more s t one r =
      let e : stepped (rules (code_kind code) limit) s ≡ t = ap (λ o. unwrap_or o s) one in
      (r.0, (suc r.1.0, subst (λ (x : Clocked Frames). is_some (asks (code_kind code) limit (steps code limit r.1.0 x)) ≡ true) (sym e) r.1.1, subst (λ (x : Clocked Frames). (steps code limit r.1.0 x).clock ≡ r.0) (sym e) r.1.2))

  comes : (k m : ℕ) (s : Clocked Frames) → IsStateOf code limit s → limit - s.clock ≤ k → silent code s.state ≤ m → Turn s → Reached s
  comes k m s is hk hm (Stands asking) = (s.clock, (0, asking, refl))
  comes k zero s is hk hm (Slid a one less keeps) = absurd (omega (arith, hm, less))
  comes k (suc m) s is hk hm (Slid a one less keeps) = more s (at s.clock a) one (comes k m (at s.clock a) keeps hk (omega (arith, hm, less)) (turn (at s.clock a) keeps))
  comes zero m s is hk hm (Ticked a one below keeps) = absurd (omega (arith, hk, below))
  comes (suc k) m s is hk hm (Ticked a one below keeps) = more s (at (s.clock + 1) a) one (comes k (silent code a) (at (s.clock + 1) a) keeps (omega (arith, hk, below)) (omega arith) (turn (at (s.clock + 1) a) keeps))

  pub reached : (s : Clocked Frames) → IsStateOf code limit s → Reached s
  reached s is = comes (limit - s.clock) (silent code s.state) s is (omega arith) (omega arith) (turn s is)

  -- a quantum without a tick is small
  pub few_stop : (quantum n : ℕ) (s t : Clocked Frames) (stop : Stop) → IsStateOf code limit s → n ≡ quantum → steps code limit n s ≡ t → IsStop code limit t stop → IsFew code quantum s stop t
  few_stop quantum n s t (AtOp request) is same e h = tt
  few_stop quantum n s t Quantum is same e h = λ still.
      let bound = few n s is (subst (λ (x : Clocked Frames). asks (code_kind code) limit x ≡ None) (sym e) h) (subst (λ (x : Clocked Frames). x.clock ≡ s.clock) (sym e) still) in
      omega (arith, bound, same)

  pub few_ahead : (quantum : ℕ) (s t : Clocked Frames) (asking : Bool) (stop : Stop) → IsStateOf code limit s → asking ≡ is_some (asks (code_kind code) limit t)
      → (asking ≡ false → steps code limit quantum s ≡ t) → IsStop code limit t stop → IsFew code quantum s stop t
  few_ahead quantum s t asking (AtOp request) is a all h = tt
  few_ahead quantum s t asking Quantum is a all h = few_stop quantum quantum s t Quantum is refl (all (a ∙ ap is_some h)) h
