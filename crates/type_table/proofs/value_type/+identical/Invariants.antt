use Rattle.type_table.specs.Views.{kind_size}
use Rattle.type_table.proofs.value_type.+identical.Given as goal

abbrev pub decreases-identical : goal.decreases-identical
decreases-identical l = kind_size l.one
