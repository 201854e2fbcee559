-- Where control goes from the ways of a select, and its table.
use Rattle.std.specs.Prelude.{false, ◌||◌, [], Option, Some, None}
use Rattle.bytecode.specs.Code.{SelectTable}
use Rattle.codegen_flow.specs.Waits.{continues}
use Rattle.codegen_flow.specs.Controls.{Control, either, through}

abbrev pub any_control : Option Control → Control
any_control None = through
any_control (Some flow) = flow

-- from a way, or one of those after it
abbrev pub with_others : Control → Option Control → Control
with_others flow None = flow
with_others flow (Some others) = either flow others

-- from ways, or those after them
abbrev pub together : Option Control → Option Control → Option Control
together None others = others
together (Some flow) others = Some (with_others flow others)

-- held for the table of a select, whose ways are still to come
abbrev pub no_table : SelectTable
no_table = record { clauses = []; default = None }

-- from a select: a break of a way leads to its end
abbrev pub after_select : Control → Control
after_select flow = record { waits = continues flow.waits; ends = flow.ends || flow.breaks; breaks = false; continues = flow.continues }
