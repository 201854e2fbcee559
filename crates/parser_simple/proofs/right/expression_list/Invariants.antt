use Rattle.std.proofs.Common.{◌≡◌, ◌-◌, map}
use Rattle.syntax.specs.View.{expression_of}
use Rattle.parser_base.specs.Cursor.{ahead}
use Rattle.parser_base.specs.Reading.{listed}
use Rattle.parser_base.proofs.Lists.{with_front}
use Rattle.syntax.specs.Measures.{Entries}
use Rattle.scanner.specs.declared.kind.TokenKind.TheVariants as kinds
use Rattle.parser_base.specs.Reading.{TooMany, begins, expression}
use Rattle.parser_simple.specs.Reading.{separator_next}
use Rattle.parser_simple.proofs.right.expression_list.Given as goal

abbrev pub invariant-loop : goal.invariant-loop
invariant-loop l = record {
  total : with_front (map expression_of l.entries.items) (listed (expression l.literals 64 l.depth_left 0) (separator_next begins kinds.Comma) (TooMany Entries) (64 - l.counter) (ahead l.rest)) ≡ listed (expression l.literals 64 l.depth_left 0) (separator_next begins kinds.Comma) (TooMany Entries) (64) (ahead l.fn.cursor);
}
