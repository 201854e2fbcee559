-- A type that is written among variables is the one that is written so where no variable is visible.
use Rattle.std.proofs.Common.{◌≡◌, ℕ, List, Option, Some, None, option_map, refl, arith, ap}
use Rattle.std.proofs.lemmas.Grind.{common_steps}
use Rattle.std.proofs.lemmas.Option.{same_Some}
use Rattle.syntax.specs.declared.node.Direction.{Direction}
use Rattle.syntax.specs.Tree.{TypeExpression, NamedType, ParenthesizedType, Channel}
use Rattle.type_table.specs.Types.{ValueType, ChannelType}
use Rattle.type_table.specs.Scopes.{Scope, nothing_declared, type_named, type_in}
use Rattle.type_table.specs.Views.{known, written_type}

pub named_anywhere : (types : List (List ℕ)) (scope : Scope) (name : List ℕ) (v : ValueType) → type_named types scope name ≡ Some v → type_named types nothing_declared name ≡ Some v
named_anywhere types scope name v h = grind (arith, common_steps)

pub channel_element : (d : Direction) (o : Option ValueType) (v : ValueType) → option_map (ChannelType d) o ≡ Some v → (k : ValueType) × (o ≡ Some k) × (ChannelType d k ≡ v)
channel_element d None v h = cc
channel_element d (Some k) v h = (k, refl, same_Some _ _ h)

pub is_written : (types : List (List ℕ)) (scope : Scope) (e : TypeExpression) (v : ValueType) → type_in types scope e ≡ Some v → written_type types e ≡ v
is_written types scope (NamedType name) v h = ap known (named_anywhere types scope name v h)
is_written types scope (ParenthesizedType inner) v h = is_written types scope inner v h
is_written types scope (Channel d inner) v h =
    let (k, e, same) = channel_element d (type_in types scope inner) v h in
    let i = is_written types scope inner k e in
    rw i same

-- a channel's type is kept as it is written
pub channel_written : (types : List (List ℕ)) (scope : Scope) (d : Direction) (e : TypeExpression) (v : ValueType) → Some v ≡ type_in types scope e → Some (ChannelType d (written_type types e)) ≡ option_map (ChannelType d) (type_in types scope e)
channel_written types scope d e v h = rw (← h, is_written types scope e v (rw (← h) refl)) refl
