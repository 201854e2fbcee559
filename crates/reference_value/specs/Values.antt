-- The values of expressions by those of their operands.
use Rattle.std.specs.Prelude.{ℕ, List, [], Option, Some, None, if◌then◌else◌, bytes_eq, codes}
use Rattle.syntax.specs.Tree.{Expression, Integer, Named, Unary, Binary}
use Rattle.type_table.specs.Scopes.{Globals, is_truth, is_nil}
use Rattle.word.specs.declared.value.Word.{Word}
use Rattle.word.specs.declared.value.Word.TheVariants.{Bool as Truth, Chan}
use Rattle.meaning.specs.Expressions.{before, binary, value, word_in}
use Rattle.meaning.specs.Values.{Value}
use Rattle.meaning.specs.Variables.{Blocks, lookup, value_of}
use Rattle.meaning.specs.Worked.{Worked, and_then, ready}

-- the word of a name that is no variable's
abbrev pub fixed : List ℕ → Option Word
fixed name =
    if is_truth name then Some (Truth (bytes_eq name (codes "true")))
    else (if is_nil name then Some (Chan None) else None)

-- the value of an expression by those of its operands
abbrev pub by_parts : Globals → Blocks → Expression → Worked Value
by_parts globals blocks (Integer number) = ready []
by_parts globals blocks (Named name) = ready (value_of (lookup blocks name))
by_parts globals blocks (Unary operator operand) = and_then (value globals blocks operand) (λ a. before operator (word_in a))
by_parts globals blocks (Binary operator left right) = binary operator (value globals blocks left) (value globals blocks right)
by_parts globals blocks expression = value globals blocks expression
