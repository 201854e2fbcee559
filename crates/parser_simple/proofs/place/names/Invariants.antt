use Rattle.std.proofs.Common.{◌≡◌, ◌-◌, map}
use Rattle.syntax.specs.View.{name_of}
use Rattle.parser_base.specs.Cursor.{ahead}
use Rattle.parser_base.specs.Reading.{listed}
use Rattle.parser_base.proofs.Lists.{with_front}
use Rattle.syntax.specs.Measures.{Entries}
use Rattle.parser_base.specs.Reading.{TooMany, plain_name}
use Rattle.parser_simple.specs.Reading.{begins_name, separator_next}
use Rattle.parser_simple.proofs.place.names.Given as goal

abbrev pub invariant-loop : goal.invariant-loop
invariant-loop l = record {
  total : with_front (map name_of l.entries.items) (listed (plain_name) (separator_next begins_name l.separator) (TooMany Entries) (l.most - l.counter) (ahead l.rest)) ≡ listed (plain_name) (separator_next begins_name l.separator) (TooMany Entries) (l.most) (ahead l.fn.cursor);
}
