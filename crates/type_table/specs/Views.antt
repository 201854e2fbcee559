-- What is in memory, as types.
use Rattle.std.specs.Prelude.{◌≡◌, ℕ, suc, ◌+◌, ◌≤◌, length, List, map, Option, Some, None, get_or}
use Rattle.syntax.specs.Tree.{TypeExpression, NamedType, ParenthesizedType, Channel}
use Rattle.syntax.specs.Measures.{type_size}
use Rattle.syntax.specs.View.{name_of, type_of}
use Rattle.type_table.specs.declared.value_type.ValueType.{ValueType as Kind}
use Rattle.type_table.specs.declared.value_type.ValueType.TheVariants as kinds
use Rattle.type_table.specs.declared.entry.FieldEntry.{FieldEntry}
use Rattle.type_table.specs.declared.entry.StructEntry.{StructEntry}
use Rattle.type_table.specs.declared.entry.FunctionEntry.{FunctionEntry}
use Rattle.type_table.specs.Types.{ValueType, IntType, BoolType, StructType, ChannelType}
use Rattle.type_table.specs.Containment.{Field, Structs, width_within, fields_width, width}
use Rattle.type_table.specs.Scopes.{nothing_declared, type_named, Yield, NoResult, Yields, Signature}

-- the names of struct types
abbrev pub names_of : List StructEntry → List (List ℕ)
names_of entries = map (λ (entry : StructEntry). name_of entry.name.now) entries

-- a type is kept only if it is known
abbrev pub known : Option ValueType → ValueType
known None = IntType
known (Some kind) = kind

-- the type that is written here, if each name in it is a type's
abbrev pub written_type : List (List ℕ) → TypeExpression → ValueType
written_type types (NamedType name) = known (type_named types nothing_declared name)
written_type types (ParenthesizedType inner) = written_type types inner
written_type types (Channel direction element) = ChannelType direction (written_type types element)

abbrev pub kind_of : List (List ℕ) → Kind → ValueType
kind_of types kinds.Int = IntType
kind_of types kinds.Bool = BoolType
kind_of types (kinds.Struct number) = StructType number
kind_of types (kinds.Channel direction element) = ChannelType direction (written_type types (type_of element.now))

-- the nodes of a type that lies in the tree
abbrev pub kind_size : Kind → ℕ
kind_size (kinds.Channel direction element) = suc (type_size (type_of element.now))
kind_size kind = 0

abbrev pub field_in : List (List ℕ) → FieldEntry → Field
field_in types entry = record { name = name_of entry.name.now; kind = Some (kind_of types entry.kind) }

abbrev pub fields_of_entry : List (List ℕ) → StructEntry → List Field
fields_of_entry types entry = map (field_in types) entry.fields.items

-- the struct types in memory
abbrev pub structs_of : List (List ℕ) → List StructEntry → Structs
structs_of types entries = map (fields_of_entry types) entries

-- these are the widths of the structs
abbrev pub AreWidths : Structs → List ℕ → Type 0
AreWidths structs widths = (s : ℕ) → width structs (StructType s) ≡ Some (get_or widths s 0)

-- these fields take at most 16 words, with the `place` words before them
abbrev pub Fits : Structs → List Field → ℕ → Type 0
Fits structs fields place = (words : ℕ) × (fields_width (width_within structs (suc (length structs))) fields ≡ Some words) × (place + words ≤ 16)

abbrev pub yield_of : List (List ℕ) → Option Kind → Yield
yield_of types None = NoResult
yield_of types (Some kind) = Yields (Some (kind_of types kind))

abbrev pub signature_of : List (List ℕ) → FunctionEntry → Signature
signature_of types entry = record {
  name = name_of entry.name.now;
  parameters = map (λ (kind : Kind). Some (kind_of types kind)) entry.parameters.items;
  result = yield_of types entry.result;
}

-- the names of functions
abbrev pub function_names : List FunctionEntry → List (List ℕ)
function_names entries = map (λ (entry : FunctionEntry). name_of entry.name.now) entries
