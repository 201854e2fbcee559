-- Parameters, group by group.
use Rattle.std.proofs.Common.{◌≡◌, ℕ, zero, suc, List, [], ◌∷◌, ◌++◌, map, All, Option, Some, None, refl, sym, ap, ◌∙◌, arith}
use Rattle.syntax.specs.Tree.{Declared, Top, StructTop, FunctionTop}
use Rattle.type_table.specs.declared.entry.FunctionEntry.{FunctionEntry}
use Rattle.type_table.specs.declared.value_type.ValueType.{ValueType as Kind}
use Rattle.type_table.specs.Types.{ValueType}
use Rattle.type_table.specs.Containment.{Field}
use Rattle.type_table.specs.Scopes.{Globals, Signature, Yield, NoResult, Yields, nothing_declared, type_in}
use Rattle.type_table.specs.Views.{kind_of, signature_of, yield_of as yield_in}
use Rattle.typing_rules.specs.Kinds.{all_fields, fields_declared, signature_in, signatures, yield_of}
use Rattle.meaning.specs.Values.{known}
use Rattle.codegen_base.specs.declared.element.Element.{Element}
use Rattle.codegen_base.specs.Layouts.{Layout, declaring, with_parameters}
use Rattle.codegen.specs.Codes.{HasKnownResult, IsKnown}

module _ (globals : Globals) (elements : List Element) where
  -- parameters after others
  parameters_after : (first rest : List Field) (layout : Layout) → with_parameters globals elements (first ++ rest) layout ≡ with_parameters globals elements rest (with_parameters globals elements first layout)
  parameters_after [] rest layout = refl
  parameters_after (field ∷ first) rest layout = parameters_after first rest (declaring globals elements (known field.kind) field.name layout)

  -- parameters of a type that is not known are ints
  same_fields : (o : Option ValueType) (names : List (List ℕ)) (rest : List Field) (layout : Layout) → with_parameters globals elements (all_fields (Some (known o)) names ++ rest) layout ≡ with_parameters globals elements (all_fields o names ++ rest) layout
  same_fields o [] rest layout = refl
  same_fields o (name ∷ names) rest layout = same_fields o names rest (declaring globals elements (known o) name layout)

  -- a group of parameters of one type, and those after it
  pub parameters_grouped : (types : List (List ℕ)) (group : Declared) (rest : List Declared) (kind : ValueType) (names : List (List ℕ)) (l0 l1 l2 : Layout) → kind ≡ known (type_in types nothing_declared group.type_expression) → names ≡ group.names
      → l1 ≡ with_parameters globals elements (all_fields (Some kind) names) l0 → l2 ≡ with_parameters globals elements (fields_declared types rest) l1 → l2 ≡ with_parameters globals elements (fields_declared types (group ∷ rest)) l0
  parameters_grouped types group rest kind names l0 l1 l2 of are first following =
      following
      ∙ ap (with_parameters globals elements (fields_declared types rest)) first
      ∙ sym (parameters_after (all_fields (Some kind) names) (fields_declared types rest) l0)
      ∙ ap (λ n. with_parameters globals elements (all_fields (Some kind) n ++ fields_declared types rest) l0) are
      ∙ ap (λ k. with_parameters globals elements (all_fields (Some k) group.names ++ fields_declared types rest) l0) of
      ∙ same_fields (type_in types nothing_declared group.type_expression) group.names (fields_declared types rest) l0

-- ---- results

abbrev first_result : List Signature → Yield
first_result [] = NoResult
first_result (s ∷ rest) = s.result

abbrev others : List Signature → List Signature
others [] = []
others (s ∷ rest) = rest

-- what the table says of a result is known
known_yield : (types : List (List ℕ)) (kind : Option Kind) (y : Yield) → yield_in types kind ≡ y → IsKnown y
known_yield types None y is unknown = clash (is ∙ unknown) where
  clash : NoResult ≡ Yields None → ⊥
  clash e = absurd cc
known_yield types (Some kind) y is unknown = clash (is ∙ unknown) where
  clash : Yields (Some (kind_of types kind)) ≡ Yields None → ⊥
  clash e = absurd cc

one_known : (types : List (List ℕ)) (top : Top) (rest : List Top) (entries : List FunctionEntry) → map (signature_of types) entries ≡ signature_in types top ++ signatures types rest
    → HasKnownResult types top × ((more : List FunctionEntry) × (map (signature_of types) more ≡ signatures types rest))
one_known types (StructTop struct) rest entries is = (tt, (entries, is))
one_known types (FunctionTop function) rest [] is = absurd cc
one_known types (FunctionTop function) rest (entry ∷ entries) is = (known_yield types entry.result (yield_of types function.result) (ap first_result is), (entries, ap others is))

-- all results are known of declarations that the table holds
pub results_known : {A : Type 0} (view : A → Top) (types : List (List ℕ)) (tops : List A) (entries : List FunctionEntry) → map (signature_of types) entries ≡ signatures types (map view tops) → All (λ (top : A). HasKnownResult types (view top)) tops
results_known view types [] entries is k d le = absurd (omega (arith, le))
results_known view types (top ∷ tops) entries is zero d le = (one_known types (view top) (map view tops) entries is).0
results_known view types (top ∷ tops) entries is (suc k) d le = let more = (one_known types (view top) (map view tops) entries is).1 in results_known view types tops more.0 more.1 k d (omega (arith, le))
