-- Items that are stored word by word.
use Rattle.std.specs.Prelude.{ℕ, zero, suc, List, [], ◌∷◌, Option, None, Some, drop, take}
use Rattle.word.specs.declared.value.Word.{Word}
use Rattle.word.specs.Values.{Item}

-- these words as items of `width` words, as many as the second number says
abbrev pub items_in : ℕ → ℕ → List Word → List Item
items_in width zero words = []
items_in width (suc count) words = take width words ∷ items_in width count (drop width words)

-- the word of an item that has no other
abbrev pub only_word : Item → Option Word
only_word [] = None
only_word (w ∷ []) = Some w
only_word (w ∷ v ∷ ws) = None

-- the word of the item at the front, if it has no other
abbrev pub front_word : List Item → Option Word
front_word [] = None
front_word (x ∷ xs) = only_word x
