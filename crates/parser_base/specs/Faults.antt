-- What a text is refused with, of what reading it fails with.
use Rattle.std.specs.Prelude.{None}
use Rattle.go_text.specs.declared.fault.Fault.{Fault}
use Rattle.go_text.specs.declared.fault.Fault.TheVariants as faults
use Rattle.go_text.specs.declared.place.Place.{Place}
use Rattle.go_text.specs.declared.place.Span.{Span}
use Rattle.go_text.specs.declared.rule.LimitKind.{LimitKind}
use Rattle.go_text.specs.declared.rule.LimitKind.TheVariants as limits
use Rattle.parser_base.specs.declared.fault.ParseFault.{ParseFault}
use Rattle.parser_base.specs.declared.fault.ParseFault.TheVariants as parse

-- a location as a span; the code that has the source adds its line and column
abbrev pub at : Span → Place
at span = record { span = span; position = None }

abbrev pub many : LimitKind → Span → Fault
many kind span = faults.Limit kind None (at span)

abbrev pub fault_of : ParseFault → Fault
fault_of (parse.Syntax span) = faults.Syntax (at span)
fault_of (parse.TooDeep span) = faults.TooDeep (at span)
fault_of (parse.TooManyEntries span) = many limits.ListEntries span
fault_of (parse.TooManyClauses span) = many limits.SelectClauses span
fault_of parse.Memory = faults.Memory
