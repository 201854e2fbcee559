use Rattle.std.proofs.Common.{◌≡◌, ◌+◌, length, true}
use Rattle.parser_base.specs.Cursor.{ahead}
use Rattle.parser_simple.specs.Reading.{form_of}
use Rattle.parser_simple.proofs.form.form_of.Given as goal

abbrev pub invariant-loop : goal.invariant-loop
invariant-loop l = record {
  total : form_of l.named (ahead l.rest) ≡ form_of true (ahead l.fn.cursor);
  left : length (ahead l.rest) + l.counter ≡ length (ahead l.fn.cursor);
}
