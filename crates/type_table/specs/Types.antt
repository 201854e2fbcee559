-- The types of values (Go: Types), and which go together.
use Rattle.std.specs.Prelude.{ℕ, ◌==◌, Bool, true, false, ◌&&◌, Option, Some, None}
use Rattle.syntax.specs.declared.node.Direction.{Direction}
use Rattle.syntax.specs.declared.node.Direction.TheVariants as directions

pub data ValueType : Type 0 where
  IntType : ValueType
  BoolType : ValueType
  -- the struct that the type declaration with this number made
  StructType : (number : ℕ) → ValueType
  ChannelType : (direction : Direction) → (element : ValueType) → ValueType

abbrev pub is_int_type : ValueType → Bool
is_int_type IntType = true
is_int_type kind = false

abbrev pub is_bool_type : ValueType → Bool
is_bool_type BoolType = true
is_bool_type kind = false

abbrev pub same_direction : Direction → Direction → Bool
same_direction directions.Both directions.Both = true
same_direction directions.Send directions.Send = true
same_direction directions.Receive directions.Receive = true
same_direction one other = false

-- two types are identical (Go: Type identity)
abbrev pub identical : ValueType → ValueType → Bool
identical IntType IntType = true
identical BoolType BoolType = true
identical (StructType m) (StructType n) = m == n
identical (ChannelType d s) (ChannelType e t) = same_direction d e && identical s t
identical s t = false

-- a value of the first type is assignable to the second one (Go: Assignability)
abbrev pub assignable : ValueType → ValueType → Bool
assignable (ChannelType directions.Both s) (ChannelType e t) = identical s t
assignable s t = identical s t

abbrev pub is_channel_type : ValueType → Bool
is_channel_type (ChannelType direction element) = true
is_channel_type kind = false

-- what a channel carries
abbrev pub element_type : ValueType → Option ValueType
element_type (ChannelType direction element) = Some element
element_type kind = None

-- a channel on which one may not send, or not receive
abbrev pub only_receives : ValueType → Bool
only_receives (ChannelType directions.Receive element) = true
only_receives kind = false

abbrev pub only_sends : ValueType → Bool
only_sends (ChannelType directions.Send element) = true
only_sends kind = false
