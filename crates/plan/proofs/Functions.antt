-- A function whose instructions are those of a plan.
use Rattle.std.proofs.Common.{◌≡◌, false, List, [], None, sym, ◌∙◌, subst, arith}
use Rattle.std.proofs.lemmas.Bool.{false≢true}
use Rattle.bytecode.specs.declared.instr.Instr.{Instr}
use Rattle.bytecode.specs.declared.instr.WordKind.{WordKind}
use Rattle.bytecode.specs.Code.{Function, Code}
use Rattle.plan.specs.Plan.{Plan, reaches_end, size, flat}
use Rattle.plan.proofs.Lists.{Stand, whole}
use Rattle.plan.proofs.Tables.{Tabled}
use Rattle.plan.proofs.Places.{On, stands_on}
use Rattle.plan.proofs.Typed.{outside, Typed, break_allowed, continue_allowed}

-- its plan is at pc 0, and nothing leads out of it
pub function_on : (code : Code) (f : Function) (p : Plan) (out : List WordKind) → Tabled code.selects 0 p → f.instrs ≡ flat 0 0 0 p → Typed code f outside [] p out → reaches_end p ≡ false → On code.selects f.instrs None None p 0 None
function_on code f p out tab is t ends =
    stands_on code.selects f.instrs None None p 0 None 0 0 (size p) tab (subst (λ (l : List Instr). Stand f.instrs 0 l) is (whole f.instrs)) (omega arith) (λ r. absurd (false≢true (sym ends ∙ r)))
    (λ b. absurd (false≢true (break_allowed code f outside [] p out t b))) (λ c. absurd (false≢true (continue_allowed code f outside [] p out t c)))
