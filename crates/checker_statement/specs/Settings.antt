-- The context of a statement in memory.
use Rattle.type_table.specs.declared.table.TypeTable.{TypeTable}
use Rattle.type_table.specs.Views.{yield_of}
use Rattle.type_table.specs.Visible.{types_of, globals_in}
use Rattle.checker_statement.specs.declared.statement.Inside.{Inside}
use Rattle.typing_rules.specs.Statements.{Setting}

abbrev pub setting_in : TypeTable → Inside → Setting
setting_in table inside = record {
  globals = globals_in table;
  result = yield_of (types_of table) inside.result;
  breaks = inside.breaks;
  continues = inside.continues;
}
