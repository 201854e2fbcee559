use Rattle.std.proofs.Common.{◌≡◌, ◌-◌, map}
use Rattle.syntax.specs.View.{declared_of}
use Rattle.syntax.specs.declared.limits.TheConstants.{MAX_ENTRIES}
use Rattle.parser_base.specs.Cursor.{ahead}
use Rattle.parser_base.proofs.Lists.{with_front}
use Rattle.parser.specs.Reading.{some_declared}
use Rattle.parser.proofs.declared.some_declared.Given as goal

abbrev pub invariant-loop : goal.invariant-loop
invariant-loop l = record {
  total : with_front (map declared_of l.entries.items) (some_declared l.separator l.close l.depth_left (MAX_ENTRIES - l.counter) l.left (ahead l.rest)) ≡ some_declared l.separator l.close l.depth_left MAX_ENTRIES MAX_ENTRIES (ahead l.fn.cursor);
}
