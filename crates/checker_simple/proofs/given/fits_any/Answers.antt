use Rattle.std.proofs.Common.{refl}
use Rattle.std.proofs.lemmas.Result.{IfOk-weaker, IfErr-weaker}
use Rattle.checker_simple.specs.Givens.{given_of}
use Rattle.checker_simple.proofs.given.fits_any.Goals as goal

pub returns-clause-one : goal.returns-clause-one
returns-clause-one c =
    IfErr-weaker c.default_type.result _ _ (λ violation has types k. let g = given_of types c.args.operand in has types g.worth refl g.nodes refl refl) c.default_type.ensures.one

pub returns-clause-none : goal.returns-clause-none
returns-clause-none c =
    IfOk-weaker c.default_type.result _ _ (λ _ good types k. let g = given_of types c.args.operand in good types g.worth refl g.nodes refl refl) c.default_type.ensures.none
