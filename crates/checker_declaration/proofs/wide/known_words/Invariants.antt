use Rattle.std.proofs.Common.{ℕ, List}
use Rattle.checker_declaration.specs.Parts.{structs_in, AreKnown}
use Rattle.checker_declaration.proofs.wide.known_words.Given as goal

-- one more is known with each that was looked at
abbrev pub invariant-loop-place : goal.invariant-loop-place
invariant-loop-place l = (types : List (List ℕ)) → AreKnown (structs_in types l.all) l.place l.known.items
