-- Widths of structs as far as they are known.
use Rattle.std.proofs.Common.{◌≡◌, ℕ, zero, suc, ◌+◌, ◌<◌, ◌≤◌, ◌⊎◌, min, inl, inr, List, [], ◌∷◌, ◌++◌, Option, Some, None, refl, sym, subst, ap, length, slice_get, slice_set, arith, IfSome}
use Rattle.std.proofs.lemmas.Option.{same_Some, none-some}
use Rattle.std.proofs.lemmas.List.{length-map}
use Rattle.go_text.specs.declared.rule.LimitKind.TheVariants as limits
use Rattle.syntax.specs.Tree.{Top}
use Rattle.type_table.specs.Containment.{Field, Structs, width_within}
use Rattle.type_table.specs.Marks.{IsWide, AreWide}
use Rattle.type_table.proofs.Widths.{got-append, wide-more}
use Rattle.typing_rules.specs.declared.violation.Violation.TheVariants.{Exceeded}
use Rattle.checker_declaration.specs.declared.parts.Parts.{Parts}
use Rattle.typing_rules.specs.Kinds.{structs}
use Rattle.typing_rules.specs.Declarations.{WidthHas, struct_node, TypesHave}
use Rattle.checker_declaration.specs.Parts.{parts_in, structs_in, IsKindWide, AreKnown, IsTooWide}
use Rattle.checker_declaration.proofs.Within.{fields_there}

pub first_field : (structs : Structs) (depth : ℕ) (field : Field) (fields : List Field) (a b w : ℕ) → IsKindWide structs depth field.kind a → AreWide structs depth fields b
    → ((m n : ℕ) → a ≡ min m 17 → b ≡ min n 17 → w ≡ min (m + n) 17) → AreWide structs depth (field ∷ fields) w
first_field structs depth field fields a b w one rest sum =
    (one.0 + rest.0, rw (one.1, rest.1) refl, sum one.0 rest.0 one.2 rest.2)

pub deeper : (types : List (List ℕ)) (all : List Parts) (depth number : ℕ) (p : Parts) (w : ℕ) → slice_get all number ≡ Some p → AreWide (structs_in types all) depth (parts_in types p) w → IsWide (structs_in types all) (suc depth) number w
deeper types all depth number p w there wide =
    subst (λ (fields : List Field). AreWide (structs_in types all) depth fields w) (sym (fields_there types all number p there)) wide

pub known_more : (structs : Structs) (depth : ℕ) (known : List (Option ℕ)) (o : Option ℕ) → AreKnown structs depth known → ((w : ℕ) → o ≡ Some w → IsWide structs depth (length known) w) → AreKnown structs depth (known ++ o ∷ [])
known_more structs depth known o all new s w h =
    elim (got-append known o (Some w) s h) [
      | inl e ↦ all s w e
      | inr e ↦ subst (λ (k : ℕ). IsWide structs depth k w) (sym e.0) (new w e.1)
    ]

pub known_at_last : (structs : Structs) (depth n : ℕ) (known : List (Option ℕ)) → depth ≤ suc n → AreKnown structs depth known → AreKnown structs (suc n) known
known_at_last structs depth n known le all s w h = wide-more structs depth (suc n) le s w (all s w h)

pub too_wide : (types : List (List ℕ)) (all : List Parts) (known : List (Option ℕ)) (number w : ℕ) → AreKnown (structs_in types all) (suc (length all)) known → slice_get known number ≡ Some (Some w) → 16 < w → IsTooWide (structs_in types all) number
too_wide types all known number w right there large =
    let structs : Structs = structs_in types all in
    let wide = right number w there in
    let same : length structs ≡ length all = length-map all (parts_in types) in
    let capped : w ≡ min wide.0 17 = wide.2 in
    (wide.0, subst (λ (k : ℕ). width_within structs (suc k) number ≡ Some wide.0) (sym same) wide.1, omega (arith, capped, large))

too_wide_has : (tops : List Top) (all : Structs) (number node : ℕ) → all ≡ structs tops → IsTooWide all number → struct_node 0 tops number ≡ Some node → TypesHave tops (Exceeded limits.StructWidth node)
too_wide_has tops all number node same wide at =
    let w : IsTooWide (structs tops) number = subst (λ (s : Structs). IsTooWide s number) same wide in
    inr (number, node, at, inr (subst (λ (o : Option ℕ). WidthHas o (node + 1) (Exceeded limits.StructWidth node)) (sym w.1) (w.2, (refl, refl))))

pub if_too_wide : (tops : List Top) (all : Structs) (number : ℕ) (o : Option ℕ) → all ≡ structs tops → IsTooWide all number → o ≡ struct_node 0 tops number → IfSome o (λ node. TypesHave tops (Exceeded limits.StructWidth node))
if_too_wide tops all number None same wide e = tt
if_too_wide tops all number (Some node) same wide e = too_wide_has tops all number node same wide (sym e)

pub one_unknown : (known more : List (Option ℕ)) → more ≡ known ++ None ∷ [] → ((s w : ℕ) → slice_get known s ≡ Some (Some w) → ⊥) → (s w : ℕ) → slice_get more s ≡ Some (Some w) → ⊥
one_unknown known more is none s w h =
    elim (got-append known None (Some w) s (rw is at h)) [
      | inl e ↦ none s w e
      | inr e ↦ none-some w e.1
    ]

-- what is read after a write was there before, or was written
got_set : (known : List (Option ℕ)) (number s : ℕ) (o : Option ℕ) (w : ℕ) → slice_get (slice_set known number o) s ≡ Some (Some w) → (slice_get known s ≡ Some (Some w)) ⊎ ((s ≡ number) × (o ≡ Some w))
got_set [] number s o w h = inl h
got_set (k ∷ known) zero zero o w h = inr (refl, same_Some _ _ h)
got_set (k ∷ known) zero (suc s) o w h = inl h
got_set (k ∷ known) (suc number) zero o w h = inl h
got_set (k ∷ known) (suc number) (suc s) o w h =
    elim (got_set known number s o w h) [ inl e ↦ inl e | inr e ↦ inr (ap suc e.0, e.1) ]

-- what is known of others stays known when they may lie deeper, and one more is known
pub known_set : (structs : Structs) (depth number : ℕ) (known : List (Option ℕ)) (o : Option ℕ) → AreKnown structs depth known → ((w : ℕ) → o ≡ Some w → IsWide structs (suc depth) number w) → AreKnown structs (suc depth) (slice_set known number o)
known_set structs depth number known o all new s w h =
    elim (got_set known number s o w h) [
      | inl e ↦ wide-more structs depth (suc depth) (omega arith) s w (all s w e)
      | inr e ↦ subst (λ (k : ℕ). IsWide structs (suc depth) k w) (sym e.0) (new w e.1)
    ]

pub known_deeper : (structs : Structs) (depth : ℕ) (known : List (Option ℕ)) → AreKnown structs depth known → AreKnown structs (suc depth) known
known_deeper structs depth known all s w h = wide-more structs depth (suc depth) (omega arith) s w (all s w h)
