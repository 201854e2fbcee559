-- Words of kinds.
use Rattle.std.specs.Prelude.{List, [], ◌∷◌}
use Rattle.bytecode.specs.declared.instr.WordKind.{WordKind}
use Rattle.bytecode.specs.Machine.{zero_of, as_kind}
use Rattle.word.specs.declared.value.Word.{Word}

-- a word of the kind: the first of these, or a zero
abbrev pub word_for : WordKind → List Word → Word
word_for k [] = zero_of k
word_for k (w ∷ ws) = as_kind k w
