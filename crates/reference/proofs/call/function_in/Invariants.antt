use Rattle.std.proofs.Common.{◌≡◌, length, map, slice_get}
use Rattle.syntax.specs.View.{top_of}
use Rattle.meaning.specs.Destinations.{functions_in}
use Rattle.reference.proofs.call.function_in.Given as goal

-- the function with the number that is left, in what is left, is the one that is looked for
abbrev pub invariant-loop-first : goal.invariant-loop-first
invariant-loop-first l = slice_get (functions_in (map top_of l.left)) l.before ≡ slice_get (functions_in (map top_of l.tops)) l.number

abbrev pub decreases-loop-first : goal.decreases-loop-first
decreases-loop-first l = length l.left
