-- Names that are declared one after the other.
use Rattle.std.proofs.Common.{◌≡◌, ℕ, zero, suc, Bool, true, false, not, ◌&&◌, ◌||◌, inl, inr, refl, List, [], ◌∷◌, ◌++◌, drop, bytes_eq, Option}
use Rattle.std.specs.Option.{is_none}
use Rattle.typing_rules.specs.declared.violation.Violation.{Violation}
use Rattle.checker_base.specs.declared.refusal.Refusal.{Refusal}
use Rattle.checker_base.specs.declared.refusal.Refusal.TheVariants.{Memory, Violated}
use Rattle.type_table.specs.Types.{ValueType}
use Rattle.type_table.specs.Containment.{Structs}
use Rattle.type_table.specs.Scopes.{Variable, Scope, Globals, is_blank, last_named, own_variable, declared}
use Rattle.checker_base.specs.Views.{Refuses}
use Rattle.typing_rules.specs.Worths.{kind_of}
use Rattle.typing_rules.specs.Operations.{Given, GoesHas}
use Rattle.typing_rules.specs.Simples.{is_declarable, has_name, has_twice, NamesFail, after_name}

-- a variable of another name at the end does not count
pub last_named-other : (vs : List Variable) (v : Variable) (name : List ℕ) → bytes_eq v.name name ≡ false → last_named (vs ++ v ∷ []) name ≡ last_named vs name
last_named-other [] v name e = rw e refl
last_named-other (w ∷ vs) v name e = rw (last_named-other vs v name e) refl

pub own-other : (vs : List Variable) (n : ℕ) (v : Variable) (name : List ℕ) → bytes_eq v.name name ≡ false → last_named (drop n (vs ++ v ∷ [])) name ≡ last_named (drop n vs) name
own-other [] zero v name e = rw e refl
own-other [] (suc zero) v name e = refl
own-other [] (suc (suc n)) v name e = refl
own-other (w ∷ vs) zero v name e = last_named-other (w ∷ vs) v name e
own-other (w ∷ vs) (suc n) v name e = own-other vs n v name e

pub own_variable-other : (structs : Structs) (s : Scope) (kind : Option ValueType) (name other : List ℕ) → bytes_eq name other ≡ false → own_variable (declared structs s kind name) other ≡ own_variable s other
own_variable-other structs s kind name other e = rw (own-other s.variables s.outer (record { name = name; kind = kind; place = s.words }) other e) refl

pub or-left : (a b : Bool) → (a || b) ≡ false → a ≡ false
or-left true b e = cc
or-left false b e = refl

pub or-right : (a b : Bool) → (a || b) ≡ false → b ≡ false
or-right true b e = cc
or-right false b e = e

pub and-right : (a b : Bool) → (a && b) ≡ true → b ≡ true
and-right true b e = e
and-right false b e = cc

pub once-named : (blank own named twice : Bool) → (not blank && own) ≡ true → ((not blank && named) || twice) ≡ false → named ≡ false
once-named true own named twice d e = cc
once-named false own true twice d e = cc
once-named false own false twice d e = refl

-- a name that is declared and isn't among others changes nothing of what is wrong with these
pub names-following : (structs : Structs) (s : Scope) (kind : Option ValueType) (name : List ℕ) (names : List (List ℕ)) (values : List Given) (f : Violation)
    → has_name names name ≡ false → NamesFail (declared structs s kind name) names values f → NamesFail s names values f
names-following structs s kind name [] values f e h = h
names-following structs s kind name (n ∷ names) [] f e h = h
names-following structs s kind name (n ∷ names) (v ∷ values) f e (inl h) = inl (rw (own_variable-other structs s kind name n (or-left (bytes_eq name n) (has_name names name) e)) at h)
names-following structs s kind name (n ∷ names) (v ∷ values) f e (inr h) = inr (names-following structs s kind name names values f (or-right (bytes_eq name n) (has_name names name) e) h)

pub names-before : (structs : Structs) (s : Scope) (kind : Option ValueType) (name : List ℕ) (names : List (List ℕ)) (values : List Given) (f : Violation)
    → has_name names name ≡ false → NamesFail s names values f → NamesFail (declared structs s kind name) names values f
names-before structs s kind name [] values f e h = h
names-before structs s kind name (n ∷ names) [] f e h = h
names-before structs s kind name (n ∷ names) (v ∷ values) f e (inl h) = inl (rw (own_variable-other structs s kind name n (or-left (bytes_eq name n) (has_name names name) e)) h)
names-before structs s kind name (n ∷ names) (v ∷ values) f e (inr h) = inr (names-before structs s kind name names values f (or-right (bytes_eq name n) (has_name names name) e) h)

after-by : (b : Bool) (g : Globals) (s : Scope) (name : List ℕ) (kind : Option ValueType) (names : List (List ℕ)) (values : List Given) (f : Violation)
    → is_declarable s name ≡ b → has_twice (name ∷ names) ≡ false → NamesFail (after_name g s name kind) names values f → NamesFail s names values f
after-by true g s name kind names values f d e h = names-following g.structs s kind name names values f (once-named (is_blank name) (is_none (own_variable s name)) (has_name names name) (has_twice names) d e) (rw d at h)
after-by false g s name kind names values f d e h = rw d at h

before-by : (b : Bool) (g : Globals) (s : Scope) (name : List ℕ) (kind : Option ValueType) (names : List (List ℕ)) (values : List Given) (f : Violation)
    → is_declarable s name ≡ b → has_twice (name ∷ names) ≡ false → NamesFail s names values f → NamesFail (after_name g s name kind) names values f
before-by true g s name kind names values f d e h = rw d (names-before g.structs s kind name names values f (once-named (is_blank name) (is_none (own_variable s name)) (has_name names name) (has_twice names) d e) h)
before-by false g s name kind names values f d e h = rw d h

-- what is wrong with the rest of the names is the same after the first one
pub names-after : (g : Globals) (s : Scope) (name : List ℕ) (kind : Option ValueType) (names : List (List ℕ)) (values : List Given) (f : Violation)
    → has_twice (name ∷ names) ≡ false → NamesFail (after_name g s name kind) names values f → NamesFail s names values f
names-after g s name kind names values f = after-by (is_declarable s name) g s name kind names values f refl

pub names-until : (g : Globals) (s : Scope) (name : List ℕ) (kind : Option ValueType) (names : List (List ℕ)) (values : List Given) (f : Violation)
    → has_twice (name ∷ names) ≡ false → NamesFail s names values f → NamesFail (after_name g s name kind) names values f
names-until g s name kind names values f = before-by (is_declarable s name) g s name kind names values f refl

-- a name that is new in its block takes the type of its value
pub declarable-free : (s : Scope) (name : List ℕ) → is_declarable s name ≡ true → is_none (own_variable s name) ≡ true
declarable-free s name e = and-right (not (is_blank name)) (is_none (own_variable s name)) e

pub ruleset free_names = (declarable-free)

-- what is wrong with names is wrong with the first one, or after it with the rest
pub names-none : (g : Globals) (s after : Scope) (name : List ℕ) (kind : Option ValueType) (value : Given) (names all : List (List ℕ)) (values every : List Given) (f : Violation)
    → all ≡ name ∷ names → every ≡ value ∷ values → has_twice all ≡ false → after ≡ after_name g s name kind
    → (GoesHas (is_none (own_variable s name)) value (kind_of (own_variable s name)) f → ⊥) → (NamesFail after names values f → ⊥) → NamesFail s all every f → ⊥
names-none g s after name kind value names all values every f e d once a first rest h =
    let own : has_twice (name ∷ names) ≡ false = rw e at once in
    elim (rw (e, d) at h) [
      | inl x ↦ first x
      | inr x ↦ rest (rw a (names-until g s name kind names values f own x))
    ]

pub names-one : (g : Globals) (s after : Scope) (name : List ℕ) (kind : Option ValueType) (value : Given) (names all : List (List ℕ)) (values every : List Given) (r : Refusal)
    → all ≡ name ∷ names → every ≡ value ∷ values → has_twice all ≡ false → after ≡ after_name g s name kind
    → Refuses (NamesFail after names values) r → Refuses (NamesFail s all every) r
names-one g s after name kind value names all values every Memory e d once a h = tt
names-one g s after name kind value names all values every (Violated f) e d once a h =
    let own : has_twice (name ∷ names) ≡ false = rw e at once in
    rw (e, d) (inr (names-after g s name kind names values f own (rw a at h)))
