use Rattle.std.proofs.Common.{rules, FitsSigned}
use Rattle.std.proofs.lemmas.Int.{to_z-of_z}
use Rattle.std.specs.Int.{w64, w128, int_wrap}
use Rattle.reference_scope.proofs.words.wrapped.Goals as goal

pub returns : goal.returns
unfolding int_wrap
returns c =
    let number : FitsSigned w128 c.args.number = search rules in
    let rest : FitsSigned w128 c.rem_euclid.result = search rules in
    let made : FitsSigned w64 c.cast_signed.result = search rules in
    let a = to_z-of_z w128 c.args.number number in
    let b = to_z-of_z w128 c.rem_euclid.result rest in
    let d = to_z-of_z w64 c.cast_signed.result made in
    cc (a, b, d)
