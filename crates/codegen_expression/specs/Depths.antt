-- How deep channel types lie within one another.
use Rattle.std.specs.Prelude.{ℕ, suc}
use Rattle.type_table.specs.Types.{ValueType, IntType, BoolType, StructType, ChannelType}

abbrev pub depth : ValueType → ℕ
depth IntType = 0
depth BoolType = 0
depth (StructType number) = 0
depth (ChannelType direction carried) = suc (depth carried)
