-- If nothing is wrong with single declarations, nothing is wrong with all.
use Rattle.std.proofs.Common.{◌≡◌, ℕ, ◌+◌, ◌≤◌, false, inl, inr, List, subst, sym, ◌∙◌}
use Rattle.std.proofs.lemmas.Bool.{false≢true}
use Rattle.syntax.specs.Tree.{Struct, Function, Top, StructTop, FunctionTop}
use Rattle.syntax.specs.Measures.{top_size}
use Rattle.type_table.specs.declared.entry.StructEntry.{StructEntry}
use Rattle.type_table.specs.Containment.{Structs}
use Rattle.type_table.specs.Views.{names_of, structs_of}
use Rattle.typing_rules.specs.declared.violation.Violation.{Violation}
use Rattle.checker_base.specs.declared.refusal.Refusal.{Refusal}
use Rattle.checker_base.specs.declared.refusal.Refusal.TheVariants.{Memory, Violated}
use Rattle.checker_base.specs.Views.{Refuses}
use Rattle.typing_rules.specs.Kinds.{type_names, function_names, structs_with, structs}
use Rattle.typing_rules.specs.Declarations.{is_type_taken, FieldsHave, StructHas, TopStructHas, StructsHave, ContentsHave, HeaderHas, TopHeaderHas, HeadersHave, TypesHave, DeclarationsHave}

pub refuses_more : (P Q : Violation → Type 0) (e : Refusal) → ((violation : Violation) → P violation → Q violation) → Refuses P e → Refuses Q e
refuses_more P Q Memory more r = tt
refuses_more P Q (Violated violation) more r = more violation r

-- ---- single declarations

pub struct_fine : (types : List (List ℕ)) (number first end : ℕ) (s : Struct) → is_type_taken types number s.name ≡ false → (4096 ≤ number → ⊥)
    → ((violation : Violation) → FieldsHave types first end s.fields violation → ⊥) → (violation : Violation) → StructHas types number first end s violation → ⊥
struct_fine types number first end s fine few none violation (inl has) = false≢true (sym fine ∙ has.0)
struct_fine types number first end s fine few none violation (inr (inl has)) = few has.0
struct_fine types number first end s fine few none violation (inr (inr has)) = none violation has

pub at_struct : (types : List (List ℕ)) (number n first node : ℕ) (top : Top) (s : Struct) (violation : Violation) → top ≡ StructTop s → n ≡ number → node + 1 ≡ first + top_size top
    → ((end : ℕ) → end ≡ node + 1 → (violation : Violation) → StructHas types n first end s violation → ⊥) → TopStructHas types number first top violation → ⊥
at_struct types number n first node top s violation is same at none has =
    let following : node + 1 ≡ first + top_size (StructTop s) = subst (λ (t : Top). node + 1 ≡ first + top_size t) is at in
    let there : TopStructHas types number first (StructTop s) violation = subst (λ (t : Top). TopStructHas types number first t violation) is has in
    none (first + top_size (StructTop s)) (sym following) violation (subst (λ (k : ℕ). TopStructHas types k first (StructTop s) violation) (sym same) there)

pub at_function : (types functions : List (List ℕ)) (number n first node : ℕ) (top : Top) (f : Function) (violation : Violation) → top ≡ FunctionTop f → n ≡ number → node + 1 ≡ first + top_size top
    → ((end : ℕ) → end ≡ node + 1 → (violation : Violation) → HeaderHas types functions n first end f violation → ⊥) → TopHeaderHas types functions number first top violation → ⊥
at_function types functions number n first node top f violation is same at none has =
    let following : node + 1 ≡ first + top_size (FunctionTop f) = subst (λ (t : Top). node + 1 ≡ first + top_size t) is at in
    let there : TopHeaderHas types functions number first (FunctionTop f) violation = subst (λ (t : Top). TopHeaderHas types functions number first t violation) is has in
    none (first + top_size (FunctionTop f)) (sym following) violation (subst (λ (k : ℕ). TopHeaderHas types functions k first (FunctionTop f) violation) (sym same) there)

-- ---- all declarations

pub contents_have : (tops : List Top) (all : Structs) → all ≡ structs tops → (violation : Violation) → ContentsHave all tops violation → TypesHave tops violation
contents_have tops all same violation has = inr (subst (λ (s : Structs). ContentsHave s tops violation) same has)

pub singles_have : (tops : List Top) (types : List (List ℕ)) → types ≡ type_names tops → (violation : Violation) → StructsHave types 0 0 tops violation → TypesHave tops violation
singles_have tops types same violation has = inl (subst (λ (t : List (List ℕ)). StructsHave t 0 0 tops violation) same has)

pub types_fine : (tops : List Top) (types : List (List ℕ)) (all : Structs) → types ≡ type_names tops → all ≡ structs tops
    → ((violation : Violation) → StructsHave types 0 0 tops violation → ⊥) → ((violation : Violation) → ContentsHave all tops violation → ⊥) → (violation : Violation) → TypesHave tops violation → ⊥
types_fine tops types all p r singles contents violation (inl has) = singles violation (subst (λ (t : List (List ℕ)). StructsHave t 0 0 tops violation) (sym p) has)
types_fine tops types all p r singles contents violation (inr has) = contents violation (subst (λ (s : Structs). ContentsHave s tops violation) (sym r) has)

pub declared_fine : (tops : List Top) (types functions : List (List ℕ)) → types ≡ type_names tops → functions ≡ function_names tops
    → ((violation : Violation) → TypesHave tops violation → ⊥) → ((violation : Violation) → HeadersHave types functions 0 0 tops violation → ⊥) → (violation : Violation) → DeclarationsHave tops violation → ⊥
declared_fine tops types functions p q none heads violation (inl has) = none violation has
declared_fine tops types functions p q none heads violation (inr has) =
    heads violation (subst (λ (t : List (List ℕ)). HeadersHave t functions 0 0 tops violation) (sym p) (subst (λ (f : List (List ℕ)). HeadersHave (type_names tops) f 0 0 tops violation) (sym q) has))

pub same_structs : (tops : List Top) (items entries : List StructEntry) (types : List (List ℕ)) → entries ≡ items → names_of items ≡ type_names tops → types ≡ type_names tops
    → structs_of types items ≡ structs_with types tops → structs_of (names_of entries) entries ≡ structs tops
same_structs tops items entries types e n t f =
    let known : structs_of (type_names tops) items ≡ structs tops = subst (λ (ts : List (List ℕ)). structs_of ts items ≡ structs_with ts tops) t f in
    let named : structs_of (names_of items) items ≡ structs tops = subst (λ (ts : List (List ℕ)). structs_of ts items ≡ structs tops) (sym n) known in
    subst (λ (xs : List StructEntry). structs_of (names_of xs) xs ≡ structs tops) (sym e) named
