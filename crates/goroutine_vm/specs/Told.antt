-- Frames whose running function has reply words.
use Rattle.std.specs.Prelude.{List, [], ◌∷◌}
use Rattle.bytecode.specs.Machine.{Frames}
use Rattle.word.specs.declared.value.Word.{Word}

-- the frames with the reply words `told` in the running function
abbrev pub with_told : List Word → Frames → Frames
with_told told [] = []
with_told told (c ∷ callers) = record c { told = told } ∷ callers
