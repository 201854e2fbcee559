-- What holds of a value that is there.
use Rattle.std.proofs.Common.{◌≡◌, IfNone, IfSome, Option, None, Some, subst}

pub of_some : {A : Type 0} (P : A → Type 0) (o : Option A) (x : A) → o ≡ Some x → IfSome o P → P x
of_some {A} P o x is holds = subst (λ (one : Option A). IfSome one P) is holds

pub of_none : {A : Type 0} (P : Type 0) (o : Option A) → o ≡ None → IfNone o P → P
of_none {A} P o is holds = subst (λ (one : Option A). IfNone one P) is holds
