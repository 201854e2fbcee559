-- Values and parts of them in memory, as the meaning of a program sees them.
use Rattle.std.specs.Prelude.{ℕ, List, map}
use Rattle.std.specs.Global.{Vec}
use Rattle.type_table.specs.Views.{kind_of}
use Rattle.word.specs.declared.value.Word.{Word}
use Rattle.meaning.specs.Values.{Value, Slot as OneSlot}
use Rattle.reference_scope.specs.declared.part.Slot.{Slot}

abbrev pub slot_of : List (List ℕ) → Slot → OneSlot
slot_of types slot = record { from = slot.from; kind = kind_of types slot.kind }

abbrev pub values_of : List (Vec Word) → List Value
values_of all = map (λ (v : Vec Word). v.items) all
