-- The words of each struct are known, if no struct contains itself and the types of all fields are known.
use Rattle.std.proofs.Common.{◌≡◌, ℕ, zero, suc, ◌+◌, ◌<◌, ◌||◌, Bool, true, false, List, [], ◌∷◌, ◌++◌, length, length-append, ◌⊎◌, Option, Some, None, refl, sym, ap, ◌∙◌, subst, arith, inl, inr, ⊎_elim}
use Rattle.std.specs.Prelude.{nat_le, eqb}
use Rattle.std.specs.List.{list_any, IsDistinct}
use Rattle.std.specs.Cmp.{nat_eq_equiv}
use Rattle.std.proofs.lemmas.List.Folds.{list_any-append}
use Rattle.std.proofs.lemmas.Map.Keys.{IsDistinct-push}
use Rattle.std.proofs.lemmas.Bool.{or_cases, eqb-true}
use Rattle.std.proofs.lemmas.Bool.Decides.{nat_tests}
use Rattle.std.proofs.lemmas.Map.Steps.{length-le_from_distinct_below}
use Rattle.go_text.specs.declared.rule.Rule.TheVariants as rules
use Rattle.syntax.specs.Tree.{File}
use Rattle.type_table.specs.Types.{ValueType, IntType, BoolType, StructType, ChannelType}
use Rattle.type_table.specs.Containment.{Field, Structs, HasStruct, Holds, Directly, Through, fields_of, together, kind_width, fields_width, width_within}
use Rattle.typing_rules.specs.Files.{FileHas}
use Rattle.typing_rules.specs.Declarations.{struct_node}
use Rattle.typing_rules.specs.Kinds.{globals_of}
use Rattle.typing_rules.proofs.Contents.{past_structs, holds_there}
use Rattle.meaning.specs.Values.{known}
use Rattle.codegen_base.proofs.Fields.{AllWide, AllTyped}
use Rattle.codegen_base.proofs.Typing.{Free, broken}

none_distinct : IsDistinct eqb []
unfolding IsDistinct
none_distinct = tt

-- two widths that are known are known together
both_known : (a b : Option ℕ) → (m : ℕ) × (a ≡ Some m) → (n : ℕ) × (b ≡ Some n) → (v : ℕ) × (together a b ≡ Some v)
both_known a b (m, x) (n, y) = (m + n, ap (λ o. together o b) x ∙ ap (together (Some m)) y)

module _ (structs : Structs) (typed : (n : ℕ) → AllTyped structs (fields_of structs n)) (finite : (s : ℕ) → Holds structs s s → ⊥) where
  -- the width is known of what a kind or fields are made of
  kind_known : (f : ℕ → Option ℕ) (kind : Option ValueType) (t : ValueType) → kind ≡ Some t → ((n : ℕ) → kind ≡ Some (StructType n) → (v : ℕ) × (f n ≡ Some v)) → (v : ℕ) × (kind_width f kind ≡ Some v)
  kind_known f None t e each = absurd cc
  kind_known f (Some IntType) t e each = (1, refl)
  kind_known f (Some BoolType) t e each = (1, refl)
  kind_known f (Some (StructType n)) t e each = each n refl
  kind_known f (Some (ChannelType d c)) t e each = (1, refl)

  fields_known : (f : ℕ → Option ℕ) (fields : List Field) → AllTyped structs fields → ((n : ℕ) → HasStruct fields n → (v : ℕ) × (f n ≡ Some v)) → (v : ℕ) × (fields_width f fields ≡ Some v)
  fields_known f [] all each = (0, refl)
  fields_known f (field ∷ rest) all each = both_known (kind_width f field.kind) (fields_width f rest) (kind_known f field.kind (known field.kind) all.0 (λ n e. each n (0, e))) (fields_known f rest all.1 (λ n has. each n (suc has.0, has.1)))

  -- what has a struct is one
  has_there : (s t : ℕ) → HasStruct (fields_of structs s) t → s < length structs
  has_there s t has = go (nat_le (length structs) s) refl where
    go : (b : Bool) → nat_le (length structs) s ≡ b → s < length structs
    go true e = absurd (holds_there structs s t (Directly s t has) (grind (arith, nat_tests, e)))
    go false e = grind (arith, nat_tests, e)

  -- structs of a list, each of which contains this one
  record Above (path : List ℕ) (s : ℕ) : Type 0 where
    apart : IsDistinct eqb path
    there : (q : ℕ) → list_any (eqb q) path ≡ true → q < length structs
    hold : (q : ℕ) → list_any (eqb q) path ≡ true → Holds structs q s

  above_more : (path : List ℕ) (s t : ℕ) → Above path s → HasStruct (fields_of structs s) t → Above (path ++ s ∷ []) t
  above_more path s t above has = record {
    apart = IsDistinct-push nat_eq_equiv path s above.apart (unmet (list_any (eqb s) path) refl);
    there = λ q e. ⊎_elim (above.there q) (λ x. subst (λ k. k < length structs) (sym (last_is q x)) (has_there s t has)) (parted q e);
    hold = λ q e. ⊎_elim (λ x. Through q s t (above.hold q x) has) (λ x. subst (λ k. Holds structs k t) (sym (last_is q x)) (Directly s t has)) (parted q e);
  } where
    unmet : (b : Bool) → list_any (eqb s) path ≡ b → list_any (eqb s) path ≡ false
    unmet true e = absurd (finite s (above.hold s e))
    unmet false e = e

    parted : (q : ℕ) → list_any (eqb q) (path ++ s ∷ []) ≡ true → (list_any (eqb q) path ≡ true) ⊎ (list_any (eqb q) (s ∷ []) ≡ true)
    parted q e = or_cases (list_any (eqb q) path) (list_any (eqb q) (s ∷ [])) (sym (list_any-append (eqb q) path (s ∷ [])) ∙ e)

    last_is : (q : ℕ) → list_any (eqb q) (s ∷ []) ≡ true → q ≡ s
    last_is q e = go (eqb q s) refl e where
      go : (b : Bool) → eqb q s ≡ b → (b || false) ≡ true → q ≡ s
      go true is h = eqb-true q s is
      go false is h = absurd cc

  -- a struct below those of `path` is of known width
  wide_below : (deep : ℕ) (path : List ℕ) (s : ℕ) → Above path s → length path + deep ≡ suc (length structs) → (v : ℕ) × (width_within structs deep s ≡ Some v)
  wide_below zero path s above many = let le = length-le_from_distinct_below path (length structs) above.apart above.there in absurd (omega (arith, many, le))
  wide_below (suc deep) path s above many = fields_known (width_within structs deep) (fields_of structs s) (typed s) (λ t has. wide_below deep (path ++ s ∷ []) t (above_more path s t above has) (omega (arith, many, length-append path (s ∷ []))))

  pub wide_all : AllWide structs
  wide_all s = wide_below (suc (length structs)) [] s (record { apart = none_distinct; there = λ q e. absurd cc; hold = λ q e. absurd cc }) (omega arith)

-- no struct of a file with which nothing is wrong contains itself
pub none_endless : (file : File) → Free (FileHas file) → (s : ℕ) → Holds (globals_of file.tops).structs s s → ⊥
none_endless file free s holds = go (struct_node 0 file.tops s) refl where
  go : (o : Option ℕ) → struct_node 0 file.tops s ≡ o → ⊥
  go None e = holds_there (globals_of file.tops).structs s s holds (past_structs (globals_of file.tops).types file.tops 0 s e)
  go (Some node) e = let b = broken rules.Struct (node + 1) (omega arith) in free b.0 (inl (inl (inr (s, node, e, inl (holds, b.1)))))
