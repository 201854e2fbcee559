-- Variables in memory, as the meaning of a program sees them: the newest variable and the innermost block lie last.
use Rattle.std.specs.Prelude.{ℕ, List, map, reverse}
use Rattle.meaning.specs.Variables.{Binding, Block as OneBlock, Blocks, variable_of}
use Rattle.type_table.specs.Scopes.{Variable as OneVariable}
use Rattle.type_table.specs.Views.{kind_of}
use Rattle.reference_scope.specs.declared.scope.Variable.{Variable}
use Rattle.reference_scope.specs.declared.scope.Block.{Block}
use Rattle.reference_scope.specs.declared.scope.Scope.{Scope}

abbrev pub binding_of : List (List ℕ) → Variable → Binding
binding_of types v = record { name = v.name.now; kind = kind_of types v.kind; value = v.words.items }

abbrev pub newest_first : List (List ℕ) → List Variable → OneBlock
newest_first types variables = reverse (map (binding_of types) variables)

abbrev pub block_of : List (List ℕ) → Block → OneBlock
block_of types block = newest_first types block.variables.items

abbrev pub innermost_first : List (List ℕ) → List Block → Blocks
innermost_first types blocks = reverse (map (block_of types) blocks)

abbrev pub blocks_of : List (List ℕ) → Scope → Blocks
blocks_of types scope = innermost_first types scope.blocks.items

-- a variable as the typing rules see it
abbrev pub variable_in : List (List ℕ) → Variable → OneVariable
variable_in types v = variable_of (binding_of types v)
