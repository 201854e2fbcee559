-- A condition with which nothing is wrong is a bool.
use Rattle.std.proofs.Common.{◌≡◌, ◌+◌, ◌≤◌, true, arith, Some, refl, ap}
use Rattle.go_text.specs.declared.rule.Rule.TheVariants as rules
use Rattle.type_table.specs.Types.{ValueType, BoolType, IntType, StructType, ChannelType, is_bool_type, assignable}
use Rattle.typing_rules.specs.Violations.{Nodes}
use Rattle.typing_rules.specs.Worths.{Worth, Typed as TypedWorth, Constant, Nil}
use Rattle.typing_rules.specs.Expressions.{ConditionHas}
use Rattle.codegen_base.proofs.Typing.{Free, Fits, broken, not_false}

bool_type : (t : ValueType) → is_bool_type t ≡ true → t ≡ BoolType
bool_type BoolType e = refl
bool_type IntType e = absurd cc
bool_type (StructType n) e = absurd cc
bool_type (ChannelType d t) e = absurd cc

pub condition_fits : (w : Worth) (nodes : Nodes) → 1 ≤ nodes.end → Free (ConditionHas (Some w) nodes) → Fits w BoolType
condition_fits (TypedWorth t) nodes le free = let b = broken rules.Condition nodes.end le in ap (λ k. assignable k BoolType) (bool_type t (not_false (is_bool_type t) (λ e. free b.0 (e, b.1))))
condition_fits (Constant z) nodes le free = let b = broken rules.Condition nodes.end le in absurd (free b.0 b.1)
condition_fits Nil nodes le free = let b = broken rules.Nil (nodes.first + 1) (omega arith) in absurd (free b.0 b.1)
