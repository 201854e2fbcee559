use Rattle.std.proofs.Common.{◌≡◌, ◌≤◌, ◌+◌, length, true}
use Rattle.parser_base.specs.Cursor.{ahead}
use Rattle.parser_simple.specs.Reading.{fits}
use Rattle.parser_simple.proofs.form.fits.Given as goal

abbrev pub invariant-loop : goal.invariant-loop
invariant-loop l = record {
  total : fits l.header l.literals l.named l.height l.depth_left (ahead l.rest) ≡ fits l.header l.literals true 0 l.depth_left (ahead l.fn.cursor);
  left : length (ahead l.rest) + l.counter ≡ length (ahead l.fn.cursor);
  few : l.height ≤ l.counter;
}
