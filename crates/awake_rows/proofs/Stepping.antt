-- One local step.
use Rattle.std.proofs.Common.{◌≡◌, ℕ, zero, suc, ◌≤◌, Bool, true, false, ap, sym, refl, ◌∙◌, arith}
use Rattle.std.specs.Prelude.{unwrap_or}
use Rattle.std.specs.Option.{is_some}
use Rattle.bytecode.specs.Code.{Code}
use Rattle.bytecode.specs.Machine.{code_kind}
use Rattle.goroutine_vm.specs.Advance.{Goes, steps}
use Rattle.turn_rule.specs.Turns.{stepped}
use Rattle.word.specs.Kinds.{asks}
use Rattle.word.specs.Worlds.{rules}
use Rattle.word.proofs.Laws.{laws}
use Rattle.awake_rows.specs.Slots.{State}

-- a goroutine that makes a request makes no step
stays : (code : Code) (limit : ℕ) (s : State) → is_some (asks (code_kind code) limit s) ≡ true → stepped (rules (code_kind code) limit) s ≡ s
stays code limit s h = ap (λ o. unwrap_or o s) ((laws (code_kind code) limit).parks s h)

at_most_one : (code : Code) (limit : ℕ) (old new : State) (n : ℕ) → n ≤ 1 → steps code limit n old ≡ new → is_some (asks (code_kind code) limit new) ≡ true → stepped (rules (code_kind code) limit) old ≡ new
at_most_one code limit old new zero le e h = stays code limit old (ap (λ s. is_some (asks (code_kind code) limit s)) e ∙ h) ∙ e
at_most_one code limit old new (suc zero) le e h = e
at_most_one code limit old new (suc (suc n)) le e h = absurd (omega (arith, le))

pub one_step : (code : Code) (limit : ℕ) (old new : State) (asking : Bool) → asking ≡ is_some (asks (code_kind code) limit new) → (asking ≡ false → steps code limit 1 old ≡ new) → Goes code limit 1 old new → stepped (rules (code_kind code) limit) old ≡ new
one_step code limit old new true here whole h = at_most_one code limit old new h.0 h.1 h.2 (sym here)
one_step code limit old new false here whole h = whole refl
