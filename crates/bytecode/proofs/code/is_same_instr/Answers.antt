use Rattle.std.proofs.Common.{◌≡◌, Bool, Decides, sym, subst}
use Rattle.bytecode.proofs.Instrs.{instr_decides}
use Rattle.bytecode.proofs.code.is_same_instr.Goals as goal

pub returns : goal.returns
returns c = subst (λ (b : Bool). Decides b (c.args.left ≡ c.args.right)) (sym c.eq.ensures) (instr_decides c.args.left c.args.right)
