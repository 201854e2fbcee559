use Rattle.std.proofs.Common.{◌≡◌, ◌-◌, map}
use Rattle.syntax.specs.View.{part_of}
use Rattle.parser_base.specs.Cursor.{ahead}
use Rattle.parser_base.specs.Reading.{listed}
use Rattle.parser_base.proofs.Lists.{with_front}
use Rattle.syntax.specs.Measures.{Entries}
use Rattle.scanner.specs.declared.kind.TokenKind.TheVariants as kinds
use Rattle.parser_base.specs.Reading.{TooMany, entry_next}
use Rattle.parser_simple.specs.Reading.{part, begins_part}
use Rattle.parser_simple.proofs.simple.print_argument_list.Given as goal

abbrev pub invariant-loop : goal.invariant-loop
invariant-loop l = record {
  total : with_front (map part_of l.entries.items) (listed (part l.literals 64 l.depth_left) (entry_next kinds.Comma begins_part kinds.RightParenthesis) (TooMany Entries) (64 - l.counter) (ahead l.rest)) ≡ listed (part l.literals 64 l.depth_left) (entry_next kinds.Comma begins_part kinds.RightParenthesis) (TooMany Entries) (64) (ahead l.fn.cursor);
}
