use Rattle.std.proofs.Common.{◌≡◌, ◌+◌, length, true}
use Rattle.parser_base.specs.Cursor.{ahead}
use Rattle.parser_simple.specs.Reading.{defines}
use Rattle.parser_simple.proofs.form.defines.Given as goal

abbrev pub invariant-loop : goal.invariant-loop
invariant-loop l = record {
  total : defines true (ahead l.rest) ≡ defines true (ahead l.fn.cursor);
  left : length (ahead l.rest) + (l.counter + l.counter) ≡ length (ahead l.fn.cursor);
}
