use Rattle.type_table.specs.Visible.{globals_in, types_of}
use Rattle.codegen_simple.proofs.Placing.{seen_spot}
use Rattle.codegen_simple.proofs.place.spot_of.Goals as goal

pub returns-in_ok-place-in-Some-clause-spot : goal.returns-in_ok-place-in-Some-clause-spot
returns-in_ok-place-in-Some-clause-spot c = λ whole seen scope.
    seen_spot (types_of c.args.context.now.table.now) (globals_in c.args.context.now.table.now) c.args.context.now.elements.now scope whole c.in-Some.part c.in_ok-place-in-Some.place c.words_of.result (rw c.in-Some.is at seen)
    c.in_ok-place-in-Some.ensures.fits c.in_ok-place-in-Some.ensures.small (c.words_of.ensures scope)
