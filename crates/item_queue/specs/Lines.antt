-- Items in memory.
use Rattle.std.specs.Prelude.{List}
use Rattle.word.specs.Values.{Item}
use Rattle.item_queue.specs.Items.{items_in}
use Rattle.item_queue.specs.declared.line.Line.{Line}
use Rattle.item_queue.specs.declared.queue.Kept.{Kept}
use Rattle.item_queue.specs.declared.queue.Kept.TheVariants as kept

abbrev pub items_of_line : Line → List Item
items_of_line line = items_in line.width line.count line.words.items

abbrev pub items_of : Kept → List Item
items_of (kept.Words line) = items_of_line line
items_of (kept.Items items) = items.items
