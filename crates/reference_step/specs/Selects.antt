-- Defaults of selects.
use Rattle.std.specs.Prelude.{[], Option}
use Rattle.syntax.specs.Tree.{Clauses, Statements}
use Rattle.type_table.specs.Scopes.{Globals}
use Rattle.meaning.specs.Source.{default_of}

-- the statements of a select's default, which are the same at every position
abbrev pub default_in : Globals → Clauses → Option Statements
default_in globals clauses = default_of globals [] [] clauses
