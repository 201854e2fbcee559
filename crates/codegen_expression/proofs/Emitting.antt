-- Instructions appended part by part.
use Rattle.std.proofs.Common.{◌≡◌, ℕ, ◌+◌, true, cond, ◌||◌, List, [], ◌∷◌, ◌++◌, length, refl, sym, ap, ◌∙◌, arith, append_assoc, length-append}
use Rattle.std.proofs.lemmas.List.{append-nil}
use Rattle.bytecode.specs.declared.instr.Instr.{Instr}
use Rattle.bytecode.specs.declared.instr.Instr.TheVariants as instrs
use Rattle.plan.specs.Plan.{Plan, Skip, Do, Seq, IfElse, reaches_end, jump_after, jump_size, size, flat}
use Rattle.plan.proofs.Appends.{appends_if_else}
use Rattle.plan.proofs.Places.{flat_size}
use Rattle.codegen_expression.specs.Emission.{Puts}

-- nothing is appended
pub puts_none : (old : List Instr) → Puts old old (λ rest. rest)
puts_none old leave again rest = refl

-- an instruction
pub puts_do : (old new : List Instr) (i : Instr) → new ≡ old ++ i ∷ [] → Puts old new (Do i)
puts_do old new i is leave again rest =
    let n : length new ≡ length old + 1 = omega (arith, ap length is, length-append old (i ∷ [])) in
    ap (λ m. new ++ flat leave again m rest) n ∙ ap (λ (l : List Instr). l ++ flat leave again (length old + 1) rest) is ∙ append_assoc old (i ∷ []) (flat leave again (length old + 1) rest)

-- one part after the other
pub puts_both : (old middle new : List Instr) (first second : Plan → Plan) → Puts old middle first → Puts middle new second → Puts old new (λ rest. first (second rest))
puts_both old middle new first second p q leave again rest = q leave again rest ∙ p leave again (second rest)

-- a part alone
pub puts_alone : (old new : List Instr) (part : Plan → Plan) → Puts old new part → (leave again : ℕ) → new ≡ old ++ flat leave again (length old) (part Skip)
puts_alone old new part p leave again = sym (append-nil new) ∙ p leave again Skip

-- a plan that leads on, and one after it
followed : (i0 i4 : List Instr) (first rest : Plan) (leave again : ℕ) → reaches_end first ≡ true → i4 ≡ i0 ++ flat leave again (length i0) first → i4 ++ flat leave again (length i4) rest ≡ i0 ++ flat leave again (length i0) (Seq first rest)
followed i0 i4 first rest leave again leads is =
    let part = flat leave again (length i0) first in
    let following = flat leave again (length i0 + size first) rest in
    let n : length i4 ≡ length i0 + size first = omega (arith, ap length is, length-append i0 part, flat_size leave again (length i0) first) in
    ap (λ m. i4 ++ flat leave again m rest) n ∙ ap (λ (l : List Instr). l ++ following) is ∙ append_assoc i0 part following ∙ ap (λ b. i0 ++ (part ++ cond b following [])) (sym leads)

-- ---- a truth value decides between two parts

-- a plan that always leads on
abbrev pub LeadsOn : (Plan → Plan) → Type 0
LeadsOn part = reaches_end (part Skip) ≡ true

pub puts_if_else : (i0 i1 i2 i3 i4 : List Instr) (next to : ℕ) (so other : Plan → Plan) → LeadsOn so → i1 ≡ i0 ++ instrs.Unless next ∷ [] → Puts i1 i2 so → i3 ≡ i2 ++ instrs.Jump to ∷ [] → Puts i3 i4 other → next ≡ length i3 → to ≡ length i4
    → Puts i0 i4 (λ rest. Seq (IfElse (so Skip) (other Skip)) rest)
puts_if_else i0 i1 i2 i3 i4 next to so other leads e1 p e3 q en et leave again rest =
    let f1 = puts_alone i1 i2 so p leave again in
    let f2 = puts_alone i3 i4 other q leave again in
    let n1 : length i1 ≡ length i0 + 1 = omega (arith, ap length e1, length-append i0 (instrs.Unless next ∷ [])) in
    let n2 : length i2 ≡ length i1 + size (so Skip) = omega (arith, ap length f1, length-append i1 (flat leave again (length i1) (so Skip)), flat_size leave again (length i1) (so Skip)) in
    let n3 : length i3 ≡ length i2 + 1 = omega (arith, ap length e3, length-append i2 (instrs.Jump to ∷ [])) in
    let n4 : length i4 ≡ length i3 + size (other Skip) = omega (arith, ap length f2, length-append i3 (flat leave again (length i3) (other Skip)), flat_size leave again (length i3) (other Skip)) in
    let one : jump_size (so Skip) ≡ 1 = ap (λ b. cond b 1 0) leads in
    let jump : instrs.Jump to ∷ [] ≡ jump_after (so Skip) to = sym (ap (λ b. cond b (instrs.Jump to ∷ []) []) leads) in
    let whole = appends_if_else leave again next to i0 i1 i2 i3 i4 (so Skip) (other Skip) e1 f1 (e3 ∙ ap (λ (l : List Instr). i2 ++ l) jump) f2 (omega (arith, en, n1, n2, n3, one)) (omega (arith, et, en, n4)) in
    followed i0 i4 (IfElse (so Skip) (other Skip)) rest leave again (ap (λ b. b || reaches_end (other Skip)) leads) whole
