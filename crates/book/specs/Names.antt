-- What a book's name stands for if no call names one.
use Rattle.std.specs.Prelude.{[]}
use Rattle.atomic_table.specs.Seated.{TableId}
use Rattle.bytecode.specs.Code.{Code}

abbrev pub no_code : Code
no_code = record { functions = []; shapes = []; prints = []; selects = [] }

abbrev pub no_table : TableId
no_table = record { words = 0; slots = 0; views_name = 0; atom = 0; block = 0; offset = 0; slot_names = [] }
