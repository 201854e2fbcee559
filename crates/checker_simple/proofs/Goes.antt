-- A value goes to an lvalue or a variable of a type, or to one that takes its type.
use Rattle.std.proofs.Common.{◌≡◌, ℕ, suc, Bool, true, false, inl, inr, List, ◌∷◌, Option, Some, None}
use Rattle.std.specs.Option.{is_none}
use Rattle.typing_rules.specs.declared.violation.Violation.{Violation}
use Rattle.type_table.specs.Types.{ValueType}
use Rattle.type_table.specs.Scopes.{Variable}
use Rattle.typing_rules.specs.Worths.{kind_of}
use Rattle.typing_rules.specs.Operations.{Given, GoesHas}
use Rattle.typing_rules.specs.Simples.{AllFail}

-- what is wrong if a value goes to an lvalue depends on the lvalue alone
pub goes-same : (free same : Bool) → free ≡ same → (k l : Option ValueType) → k ≡ l → (g : Given) (f : Violation) → GoesHas free g k f → GoesHas same g l f
goes-same free same e k l d g f h = rw (e, d) at h

-- a value goes to a variable that there is, or to one that takes its type
pub own-known : (o : Option Variable) (v : Variable) → o ≡ Some v → (k : Option ValueType) → v.kind ≡ k → (g : Given) (f : Violation) → GoesHas false g k f → GoesHas (is_none o) g (kind_of o) f
own-known o v e k d g f h = rw (e, d) h

pub known-own : (o : Option Variable) (v : Variable) → o ≡ Some v → (k : Option ValueType) → v.kind ≡ k → (g : Given) (f : Violation) → GoesHas (is_none o) g (kind_of o) f → GoesHas false g k f
known-own o v e k d g f h = rw (e, d) at h

pub own-free : (o : Option Variable) → o ≡ None → (k : Option ValueType) (g : Given) (f : Violation) → GoesHas true g k f → GoesHas (is_none o) g (kind_of o) f
own-free o e k g f h = rw e h

pub free-own : (o : Option Variable) → o ≡ None → (k : Option ValueType) (g : Given) (f : Violation) → GoesHas (is_none o) g (kind_of o) f → GoesHas true g k f
free-own o e k g f h = rw e at h

-- what is wrong with values for variables of one type
pub all-fail : (k : Option ValueType) (g : Given) (gs all : List Given) (n m : ℕ) (f : Violation) → all ≡ g ∷ gs → m ≡ suc n → (GoesHas false g k f → ⊥) → (AllFail k n gs f → ⊥) → AllFail k m all f → ⊥
all-fail k g gs all n m f e d first rest h = elim (rw (e, d) at h) [ inl x ↦ first x | inr x ↦ rest x ]

pub fail-one : (k : Option ValueType) (g : Given) (gs all : List Given) (n m : ℕ) (f : Violation) → all ≡ g ∷ gs → m ≡ suc n → GoesHas false g k f → AllFail k m all f
fail-one k g gs all n m f e d h = rw (e, d) (inl h)
