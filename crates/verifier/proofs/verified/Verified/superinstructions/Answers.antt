use Rattle.std.proofs.Common.{subst}
use Rattle.bytecode.specs.Code.{Code}
use Rattle.superinstruction_base.specs.Forms.{IsTableOf}
use Rattle.verifier.proofs.verified.Verified.superinstructions.Goals as goal

pub returns : goal.returns
returns c = subst (λ (x : Code). IsTableOf x c.self.inside.superinstructions) c.self.view_is c.self.invariant.1
