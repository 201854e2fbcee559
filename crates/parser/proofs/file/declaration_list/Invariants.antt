use Rattle.std.proofs.Common.{◌≡◌, ◌-◌, map, length}
use Rattle.syntax.specs.View.{top_of}
use Rattle.syntax.specs.declared.limits.TheConstants.{MAX_ENTRIES}
use Rattle.parser.specs.declared.top.TheConstants.{STATEMENT_DEPTH}
use Rattle.parser_base.specs.Cursor.{ahead}
use Rattle.parser_base.specs.Reading.{Syntax, listed}
use Rattle.parser.specs.Reading.{top, top_next}
use Rattle.parser_base.proofs.Lists.{with_front}
use Rattle.parser.proofs.file.declaration_list.Given as goal

abbrev pub invariant-loop : goal.invariant-loop
invariant-loop l = record {
  total : with_front (map top_of l.entries.items) (listed (top MAX_ENTRIES STATEMENT_DEPTH) top_next Syntax (length (ahead l.fn.cursor) - l.counter) (ahead l.rest)) ≡ listed (top MAX_ENTRIES STATEMENT_DEPTH) top_next Syntax (length (ahead l.fn.cursor)) (ahead l.fn.cursor);
}
