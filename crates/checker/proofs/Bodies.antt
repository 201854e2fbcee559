-- If nothing is wrong with the parts of a file, nothing is wrong with it.
use Rattle.std.proofs.Common.{◌≡◌, ℕ, ◌+◌, ◌⊎◌, true, false, inl, inr, List, [], ◌∷◌, sum_by, subst, sym, ap, ◌∙◌, arith}
use Rattle.std.proofs.lemmas.Bool.{false≢true}
use Rattle.go_text.specs.declared.rule.Rule.{Rule}
use Rattle.go_text.specs.declared.rule.Rule.TheVariants as rules
use Rattle.go_text.specs.declared.rule.LimitKind.{LimitKind}
use Rattle.syntax.specs.Tree.{Statements, Function, Top, StructTop, FunctionTop, File}
use Rattle.syntax.specs.Measures.{if_any, type_size, declared_size, statements_size, function_size, top_size, size}
use Rattle.type_table.specs.Scopes.{Scope, Yield, Globals}
use Rattle.typing_rules.specs.declared.violation.Violation.{Violation}
use Rattle.typing_rules.specs.declared.violation.Violation.TheVariants.{Broken, Exceeded}
use Rattle.typing_rules.specs.Violations.{IsBroken}
use Rattle.typing_rules.specs.Statements.{Setting}
use Rattle.typing_rules.specs.Kinds.{type_names, function_names, yield_of, globals_of, parameters}
use Rattle.typing_rules.specs.Declarations.{counting_function, HeadersHave, DeclarationsHave}
use Rattle.checker_declaration.specs.Heads.{HeadsHave}
use Rattle.typing_rules.specs.Files.{BodyIn, BodyHas, BodiesHave, has_main, FileHas, IsTyped}
use Rattle.checker.specs.Firsts.{FirstBodyHas, ComesFirst}

-- ---- bodies

abbrev pub inside : Globals → Yield → Setting
inside globals result = record { globals = globals; result = result; breaks = false; continues = false }

moved : (globals : Globals) (violation : Violation) (y y' : Yield) (scope scope' : Scope) (m m' e e' : ℕ) (ss ss' : Statements) → y ≡ y' → scope ≡ scope' → m ≡ m' → ss ≡ ss' → e ≡ e'
    → BodyIn (inside globals y) scope m ss e violation → BodyIn (inside globals y') scope' m' ss' e' violation
moved globals violation y y' scope scope' m m' e e' ss ss' o p q r s b =
    subst (λ (x : Yield). BodyIn (inside globals x) scope' m' ss' e' violation) o
    (subst (λ (x : Scope). BodyIn (inside globals y) x m' ss' e' violation) p
    (subst (λ (x : ℕ). BodyIn (inside globals y) scope x ss' e' violation) q
    (subst (λ (x : Statements). BodyIn (inside globals y) scope m x e' violation) r
    (subst (λ (x : ℕ). BodyIn (inside globals y) scope m ss x violation) s b))))

module _ (globals : Globals) (f : Function) (first middle : ℕ) (y : Yield) (scope : Scope) (ss : Statements)
    (yields : y ≡ yield_of globals.types f.result) (visible : scope ≡ parameters globals f) (at : middle ≡ first + sum_by declared_size f.parameters + if_any type_size f.result) (body : ss ≡ f.body) where
  end_is : middle + statements_size ss + 2 ≡ first + function_size f
  end_is = omega (arith, at, ap statements_size body)

  pub body_has : (violation : Violation) → BodyIn (inside globals y) scope middle ss (middle + statements_size ss + 2) violation → BodyHas globals first f violation
  body_has violation b =
      moved globals violation y (yield_of globals.types f.result) scope (parameters globals f) middle (first + sum_by declared_size f.parameters + if_any type_size f.result) (middle + statements_size ss + 2) (first + function_size f) ss f.body
      yields visible at body end_is b

  pub body_in : (violation : Violation) → BodyHas globals first f violation → BodyIn (inside globals y) scope middle ss (middle + statements_size ss + 2) violation
  body_in violation b =
      moved globals violation (yield_of globals.types f.result) y (parameters globals f) scope (first + sum_by declared_size f.parameters + if_any type_size f.result) middle (first + function_size f) (middle + statements_size ss + 2) f.body ss
      (sym yields) (sym visible) (sym at) (sym body) (sym end_is) b

-- ---- the file

heads_have : (types functions : List (List ℕ)) (number first : ℕ) (tops : List Top) (violation : Violation) → HeadsHave types first tops violation → HeadersHave types functions number first tops violation
heads_have types functions number first [] violation b = absurd b
heads_have types functions number first (StructTop s ∷ rest) violation (inl b) = absurd b
heads_have types functions number first (StructTop s ∷ rest) violation (inr b) = inr (heads_have types functions number (first + top_size (StructTop s)) rest violation b)
heads_have types functions number first (FunctionTop f ∷ rest) violation (inl b) = inl (inr (inr b))
heads_have types functions number first (FunctionTop f ∷ rest) violation (inr b) = inr (heads_have types functions (counting_function number (FunctionTop f)) (first + top_size (FunctionTop f)) rest violation b)

-- a violation of the first body that has one is a violation of a body
body_has_first : (globals : Globals) (first : ℕ) (tops : List Top) (violation : Violation) → FirstBodyHas globals first tops violation → BodiesHave globals first tops violation
body_has_first globals first [] violation b = absurd b
body_has_first globals first (top ∷ rest) violation (inl b) = inl b
body_has_first globals first (top ∷ rest) violation (inr b) = inr (body_has_first globals (first + top_size top) rest violation b.1)

pub bodies_have : (file : File) (globals : Globals) (tops : List Top) → globals ≡ globals_of file.tops → tops ≡ file.tops
    → (violation : Violation) → FirstBodyHas globals 0 tops violation ⊎ HeadsHave globals.types 0 tops violation → FileHas file violation
bodies_have file globals tops same list violation (inl b) =
    inr (inr (subst (λ (g : Globals). BodiesHave g 0 file.tops violation) same (subst (λ (ts : List Top). BodiesHave globals 0 ts violation) list (body_has_first globals 0 tops violation b))))
bodies_have file globals tops same list violation (inr b) =
    let there : HeadsHave (type_names file.tops) 0 file.tops violation = subst (λ (g : Globals). HeadsHave g.types 0 file.tops violation) same (subst (λ (ts : List Top). HeadsHave globals.types 0 ts violation) list b) in
    inl (inr (heads_have (type_names file.tops) (function_names file.tops) 0 0 file.tops violation there))

-- with no violation of a declaration, and a `main`, one of the first body that has one comes first
pub bodies_first : (file : File) (globals : Globals) (tops others : List Top) → globals ≡ globals_of file.tops → tops ≡ file.tops → others ≡ file.tops → has_main globals.functions ≡ true
    → ((violation : Violation) → DeclarationsHave tops violation → ⊥) → (violation : Violation) → FirstBodyHas globals 0 others violation ⊎ HeadsHave globals.types 0 others violation → ComesFirst file violation
bodies_first file globals tops others same list list' main none violation (inl b) =
    inr (
      λ other has. none other (subst (λ (ts : List Top). DeclarationsHave ts other) (sym list) has),
      inr (
        subst (λ (g : Globals). has_main g.functions ≡ true) same main,
        subst (λ (g : Globals). FirstBodyHas g 0 file.tops violation) same (subst (λ (ts : List Top). FirstBodyHas globals 0 ts violation) list' b),
      ),
    )
bodies_first file globals tops others same list list' main none violation (inr b) =
    let there : HeadsHave (type_names file.tops) 0 file.tops violation = subst (λ (g : Globals). HeadsHave g.types 0 file.tops violation) same (subst (λ (ts : List Top). HeadsHave globals.types 0 ts violation) list' b) in
    let has : DeclarationsHave file.tops violation = inr (heads_have (type_names file.tops) (function_names file.tops) 0 0 file.tops violation there) in
    absurd (none violation (subst (λ (ts : List Top). DeclarationsHave ts violation) (sym list) has))

-- with no violation of a declaration, that there is no `main` comes first
pub main_first : (file : File) (globals : Globals) (tops : List Top) → globals ≡ globals_of file.tops → tops ≡ file.tops → has_main globals.functions ≡ false
    → ((violation : Violation) → DeclarationsHave tops violation → ⊥) → (violation : Violation) → IsBroken rules.Main (size file) violation → ComesFirst file violation
main_first file globals tops same list gone none violation broken =
    inr (
      λ other has. none other (subst (λ (ts : List Top). DeclarationsHave ts other) (sym list) has),
      inl (subst (λ (g : Globals). has_main g.functions ≡ false) same gone, broken),
    )

pub file_fine : (file : File) (globals : Globals) (tops others : List Top) → globals ≡ globals_of file.tops → tops ≡ file.tops → others ≡ file.tops → has_main globals.functions ≡ true
    → ((violation : Violation) → DeclarationsHave tops violation → ⊥) → ((violation : Violation) → BodiesHave globals 0 others violation → ⊥) → (violation : Violation) → FileHas file violation → ⊥
file_fine file globals tops others same list list' main none bodies violation (inl has) = none violation (subst (λ (ts : List Top). DeclarationsHave ts violation) (sym list) has)
file_fine file globals tops others same list list' main none bodies violation (inr (inl has)) =
    false≢true (sym has.0 ∙ subst (λ (g : Globals). has_main g.functions ≡ true) same main)
file_fine file globals tops others same list list' main none bodies violation (inr (inr has)) =
    bodies violation (subst (λ (g : Globals). BodiesHave g 0 others violation) (sym same) (subst (λ (ts : List Top). BodiesHave (globals_of file.tops) 0 ts violation) (sym list') has))

pub typed_of_none : (file : File) → ((violation : Violation) → FileHas file violation → ⊥) → IsTyped file
typed_of_none file none = record {
  breaks = λ (rule : Rule) (node : ℕ) has. none (Broken rule node) has;
  exceeds = λ (kind : LimitKind) (node : ℕ) has. none (Exceeded kind node) has;
}
