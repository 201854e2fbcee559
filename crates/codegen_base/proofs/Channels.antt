-- What is so of the operands of operations on channels with which nothing is wrong.
use Rattle.std.proofs.Common.{◌≡◌, ℕ, ◌+◌, Option, Some, None, option_map, refl, ap, arith, inl}
use Rattle.go_text.specs.declared.rule.Rule.TheVariants as rules
use Rattle.syntax.specs.Tree.{Expression}
use Rattle.syntax.specs.declared.node.Direction.{Direction}
use Rattle.type_table.specs.Types.{ValueType, IntType, BoolType, StructType, ChannelType, is_int_type, assignable}
use Rattle.typing_rules.specs.Calls.{made_of}
use Rattle.typing_rules.specs.Worths.{Worth, Typed, Constant, Nil, is_int, element_of}
use Rattle.typing_rules.specs.Expressions.{nodes_of, SizeHas}
use Rattle.codegen_base.proofs.Typing.{Free, Fits, broken, nodes_end, int_type, not_false, typed_same}

-- what carries something is a channel
pub channel_worth : (w : Worth) (t : ValueType) → element_of (Some w) ≡ Some t → (d : Direction) × (u : ValueType) × (w ≡ Typed (ChannelType d u))
channel_worth (Typed (ChannelType d u)) t has = (d, u, refl)
channel_worth (Typed IntType) t has = absurd cc
channel_worth (Typed BoolType) t has = absurd cc
channel_worth (Typed (StructType n)) t has = absurd cc
channel_worth (Constant z) t has = absurd cc
channel_worth Nil t has = absurd cc

-- what is made is of a channel type
pub made_type : (o : Option ValueType) (k : ValueType) → option_map Typed (made_of o) ≡ Some (Typed k) → (d : Direction) × (t : ValueType) × (o ≡ Some (ChannelType d t)) × (ChannelType d t ≡ k)
made_type None k e = absurd cc
made_type (Some (ChannelType d t)) k e = (d, t, refl, typed_same (ChannelType d t) k e)
made_type (Some IntType) k e = absurd cc
made_type (Some BoolType) k e = absurd cc
made_type (Some (StructType n)) k e = absurd cc

-- a size may be used as an int
pub size_fits : (e : Expression) (first : ℕ) (w : Worth) → Free (SizeHas (Some w) (nodes_of first e)) → Fits w IntType
size_fits e first (Typed kind) free =
    let b = broken rules.Made (nodes_of first e).end (nodes_end first e) in
    ap (λ j. assignable j IntType) (int_type kind (not_false (is_int_type kind) (λ x. free b.0 (x, b.1))))
size_fits e first (Constant z) free = let b = broken rules.Constant (nodes_of first e).end (nodes_end first e) in (refl, not_false (is_int z) (λ x. free b.0 (inl (x, b.1))))
size_fits e first Nil free = let b = broken rules.Nil ((nodes_of first e).first + 1) (omega arith) in absurd (free b.0 b.1)
