use Rattle.std.proofs.Common.{◌≡◌, ◌-◌, map}
use Rattle.syntax.specs.View.{place_of}
use Rattle.parser_base.specs.Cursor.{ahead}
use Rattle.parser_base.specs.Reading.{listed}
use Rattle.parser_base.proofs.Lists.{with_front}
use Rattle.syntax.specs.Measures.{Entries}
use Rattle.scanner.specs.declared.kind.TokenKind.TheVariants as kinds
use Rattle.parser_base.specs.Reading.{TooMany}
use Rattle.parser_simple.specs.Reading.{begins_name, separator_next, place}
use Rattle.parser_simple.proofs.place.places.Given as goal

abbrev pub invariant-loop : goal.invariant-loop
invariant-loop l = record {
  total : with_front (map place_of l.entries.items) (listed (place) (separator_next begins_name kinds.Comma) (TooMany Entries) (64 - l.counter) (ahead l.rest)) ≡ listed (place) (separator_next begins_name kinds.Comma) (TooMany Entries) (64) (ahead l.fn.cursor);
}
