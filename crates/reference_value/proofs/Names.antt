-- The variable that a name stands for is that of the innermost block which has one.
use Rattle.std.proofs.Common.{◌≡◌, ℕ, Bool, true, false, cond, List, [], ◌∷◌, ◌++◌, Option, Some, None, option_map, bytes_eq, refl, sym, ap, ◌∙◌}
use Rattle.type_table.specs.Scopes.{Variable, is_blank, later, if_named, last_named, variable_named}
use Rattle.meaning.specs.Variables.{Binding, Block, Blocks, variable_of, block_variables, variables_in, scope_in, in_block, or_outer, lookup}

later-none : (found : Option Variable) → later None found ≡ found
later-none None = refl
later-none (Some v) = refl

later-later : (a b d : Option Variable) → later a (later b d) ≡ later (later a b) d
later-later a b None = refl
later-later a b (Some v) = refl

last-append : (a b : List Variable) (name : List ℕ) → last_named (a ++ b) name ≡ later (last_named a name) (last_named b name)
last-append [] b name = sym (later-none (last_named b name))
last-append (v ∷ rest) b name =
    ap (later (if_named name v)) (last-append rest b name) ∙ later-later (if_named name v) (last_named rest name) (last_named b name)

-- the newest one, or one before it
newest : (v : Binding) (same : Bool) (older : Option Binding)
    → later (option_map variable_of older) (cond same (Some (variable_of v)) None) ≡ option_map variable_of (cond same (Some v) older)
newest v true older = refl
newest v false older = refl

in-block : (block : Block) (name : List ℕ) → last_named (block_variables block) name ≡ option_map variable_of (in_block block name)
in-block [] name = refl
in-block (v ∷ older) name =
    last-append (block_variables older) (variable_of v ∷ []) name
    ∙ ap (λ found. later found (if_named name (variable_of v))) (in-block older name)
    ∙ newest v (bytes_eq v.name name) (in_block older name)

outer : (own far : Option Binding) → later (option_map variable_of far) (option_map variable_of own) ≡ option_map variable_of (or_outer own far)
outer None far = refl
outer (Some v) far = refl

in-blocks : (blocks : Blocks) (name : List ℕ) → last_named (variables_in blocks) name ≡ option_map variable_of (lookup blocks name)
in-blocks [] name = refl
in-blocks (block ∷ rest) name =
    last-append (variables_in rest) (block_variables block) name
    ∙ ap (λ found. later found (last_named (block_variables block) name)) (in-blocks rest name)
    ∙ ap (later (option_map variable_of (lookup rest name))) (in-block block name)
    ∙ outer (in_block block name) (lookup rest name)

unless : (blank : Bool) (a b : Option Variable) → a ≡ b → cond blank None a ≡ cond blank None b
unless blank a b e = ap (cond blank None) e

pub named_in : (blocks : Blocks) (name : List ℕ) → variable_named (scope_in blocks) name ≡ cond (is_blank name) None (option_map variable_of (lookup blocks name))
named_in [] name = refl
named_in (block ∷ rest) name = unless (is_blank name) _ _ (in-blocks (block ∷ rest) name)
