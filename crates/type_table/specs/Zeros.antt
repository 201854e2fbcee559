-- The zero value of a type.
use Rattle.std.specs.Prelude.{List, map, pos, false, None}
use Rattle.word.specs.declared.value.Word.{Word}
use Rattle.word.specs.declared.value.Word.TheVariants.{Int, Bool as Truth, Chan}
use Rattle.type_table.specs.Types.{ValueType, IntType, BoolType, StructType, ChannelType}
use Rattle.type_table.specs.Containment.{Structs, parts}

-- the zero value of a type that takes one word
abbrev pub zero_word : ValueType → Word
zero_word IntType = Int (pos 0)
zero_word BoolType = Truth false
zero_word (StructType number) = Int (pos 0)
zero_word (ChannelType direction element) = Chan None

-- the words of the zero value of a type (Go: The zero value)
abbrev pub zero_words : Structs → ValueType → List Word
zero_words structs kind = map zero_word (parts structs kind)
