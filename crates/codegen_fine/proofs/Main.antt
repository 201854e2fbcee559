-- A file that the checker takes has a main function, which takes and gives nothing.
use Rattle.std.proofs.Common.{◌≡◌, ℕ, zero, suc, ◌+◌, ◌<◌, ◌≤◌, Bool, true, false, cond, not, List, [], ◌∷◌, length, Option, Some, None, option_map, refl, sym, ap, ◌∙◌, subst, arith, slice_get, nat_lt, inl, inr, bytes_eq}
use Rattle.std.specs.Prelude.{All, if◌then◌else◌, codes, position}
use Rattle.std.proofs.lemmas.Str.{is_utf8-from_IsUtf8, IsUtf8-from_ascii}
use Rattle.std.proofs.lemmas.Str.Ascii.{IsAscii-from_all}
use Rattle.std.specs.Str.{is_utf8}
use Rattle.std.specs.List.{position_or_len}
use Rattle.std.proofs.lemmas.Option.{get_or_from_slice_get, slice_get_within}
use Rattle.std.proofs.lemmas.Bool.{and_parts}
use Rattle.std.proofs.lemmas.Bool.Decides.{nat_tests}
use Rattle.std.proofs.lemmas.Slice.Eq.{bytes_eq-Decides}
use Rattle.go_text.specs.declared.rule.Rule.TheVariants as rules
use Rattle.syntax.specs.Tree.{Top, StructTop, FunctionTop, File}
use Rattle.syntax.specs.Measures.{Entries, SelectClauses, longest, size as file_size}
use Rattle.bytecode.specs.Code.{Function as CodeFunction}
use Rattle.bytecode.specs.Rules.{HasMain, HasShapes, IsFew, IsShort, IsVerified}
use Rattle.type_table.specs.Containment.{Field}
use Rattle.type_table.specs.Scopes.{Globals, Yield, NoResult, Yields}
use Rattle.typing_rules.specs.declared.violation.Violation.TheVariants.{Broken, Exceeded}
use Rattle.typing_rules.specs.Files.{has_no_result, is_plain, has_main, FileHas, IsTyped}
use Rattle.typing_rules.specs.Declarations.{is_nothing}
use Rattle.typing_rules.specs.Kinds.{fields_declared, kinds_in, signature, signatures, globals_of}
use Rattle.codegen_base.specs.declared.element.Element.{Element}
use Rattle.codegen_base.specs.Layouts.{empty, with_parameters}
use Rattle.codegen_base.specs.Program.{label, result_of, made_function, function_code, functions_code, elements_of, code_of}
use Rattle.codegen_base.specs.Generated.{result_kinds}
use Rattle.syntax.specs.Grammar.{IsGrammatical, IsLimited}
use Rattle.codegen_base.proofs.Typing.{Free, broken, not_false}
use Rattle.plan.specs.Plan.{table_count}
use Rattle.codegen_fine.proofs.Structs.{wide_of, grounds_of, file_verified}
use Rattle.codegen_fine.proofs.Shapes.{shapes_there, shapes_short}
use Rattle.codegen_fine.proofs.Limits.{Small, short_tops}
use Rattle.codegen_fine.proofs.Filled.{shapes_filled}

abbrev pub first_place : {A : Type 0} → (A → Bool) → List A → Option ℕ
first_place p [] = None
first_place p (x ∷ xs) = cond (p x) (Some 0) (option_map suc (first_place p xs))

lt_suc : (k n : ℕ) → nat_lt (1 + k) (suc n) ≡ nat_lt k n
lt_suc k n = go (nat_lt k n) refl (nat_lt (1 + k) (suc n)) refl where
  go : (a : Bool) → nat_lt k n ≡ a → (b : Bool) → nat_lt (1 + k) (suc n) ≡ b → nat_lt (1 + k) (suc n) ≡ nat_lt k n
  go true p true q = q ∙ sym p
  go false p false q = q ∙ sym p
  go true p false q = absurd (grind (arith, nat_tests))
  go false p true q = absurd (grind (arith, nat_tests))

pub position_is : {A : Type 0} (p : A → Bool) (xs : List A) → position p xs ≡ first_place p xs
position_is p [] = refl
position_is p (x ∷ xs) = go (p x) refl (nat_lt (position_or_len p xs) (length xs)) refl (position_is p xs) where
  go : (b : Bool) → p x ≡ b → (c : Bool) → nat_lt (position_or_len p xs) (length xs) ≡ c → position p xs ≡ first_place p xs → position p (x ∷ xs) ≡ cond (p x) (Some 0) (option_map suc (first_place p xs))
  go true is c lt rec =
      let k : position_or_len p (x ∷ xs) ≡ 0 = ap (λ b. cond (not b) (1 + position_or_len p xs) 0) is in
      let l : nat_lt 0 (suc (length xs)) ≡ true = grind (arith, nat_tests) in
      ap (λ n. cond (nat_lt n (suc (length xs))) (Some n) None) k ∙ ap (λ b. cond b (Some 0) None) l ∙ sym (ap (λ b. cond b (Some 0) (option_map suc (first_place p xs))) is)
  go false is c lt rec =
      let k : position_or_len p (x ∷ xs) ≡ 1 + position_or_len p xs = ap (λ b. cond (not b) (1 + position_or_len p xs) 0) is in
      let m : ℕ = position_or_len p xs in
      let one : position p (x ∷ xs) ≡ cond (nat_lt m (length xs)) (Some (1 + m)) None = ap (λ n. cond (nat_lt n (suc (length xs))) (Some n) None) k ∙ ap (λ b. cond b (Some (1 + m)) None) (lt_suc m (length xs)) in
      one ∙ last c lt rec ∙ sym (ap (λ b. cond b (Some 0) (option_map suc (first_place p xs))) is)
    where
      last : (c : Bool) → nat_lt (position_or_len p xs) (length xs) ≡ c → position p xs ≡ first_place p xs → cond (nat_lt (position_or_len p xs) (length xs)) (Some (1 + position_or_len p xs)) None ≡ option_map suc (first_place p xs)
      last true lt rec =
          let e : suc (position_or_len p xs) ≡ 1 + position_or_len p xs = omega arith in
          ap (λ b. cond b (Some (1 + position_or_len p xs)) None) lt ∙ sym (ap Some e) ∙ sym (ap (λ b. option_map suc (cond b (Some (position_or_len p xs)) None)) lt) ∙ ap (option_map suc) rec
      last false lt rec = ap (λ b. cond b (Some (1 + position_or_len p xs)) None) lt ∙ sym (ap (λ b. option_map suc (cond b (Some (position_or_len p xs)) None)) lt) ∙ ap (option_map suc) rec

below : All (λ b. b < 128) (codes "main")
below zero d lt = omega arith
below (suc zero) d lt = omega arith
below (suc (suc zero)) d lt = omega arith
below (suc (suc (suc zero))) d lt = omega arith
below (suc (suc (suc (suc k)))) d lt = absurd (omega (arith, lt))

main_utf8 : is_utf8 (codes "main") ≡ true
main_utf8 = is_utf8-from_IsUtf8 (codes "main") (IsUtf8-from_ascii (codes "main") (IsAscii-from_all (codes "main") below))

abbrev pub named_main : List ℕ → Bool
named_main name = bytes_eq name (codes "main")

pub label_same : (name : List ℕ) (t : Bool) → named_main name ≡ t → named_main (label name) ≡ t
label_same name true e = subst (λ n. named_main (label n) ≡ true) (sym ((bytes_eq-Decides name (codes "main")).0 e)) (ap (λ b. named_main (if b then codes "main" else [])) main_utf8)
label_same name false e = go (is_utf8 name) where
  go : (b : Bool) → named_main (if b then name else []) ≡ false
  go true = e
  go false = refl

module _ (globals : Globals) (elements : List Element) where
  no_parameters : (fields : List Field) → is_nothing (kinds_in fields) ≡ true → length (with_parameters globals elements fields empty).locals ≡ 0
  no_parameters [] e = refl
  no_parameters (field ∷ rest) e = absurd cc

  no_result : (r : Yield) → has_no_result r ≡ true → result_kinds globals elements r ≡ []
  no_result NoResult e = refl
  no_result (Yields kind) e = absurd cc

  record MainAt (functions : List CodeFunction) : Type 0 where
    number : ℕ
    function : CodeFunction
    first : first_place (λ (f : CodeFunction). bytes_eq f.name (codes "main")) functions ≡ Some number
    there : slice_get functions number ≡ Some function
    params : function.params ≡ 0
    results : function.results ≡ []

  main_at : (tops : List Top) (prints selects : ℕ) → has_main (signatures globals.types tops) ≡ true → MainAt (functions_code globals elements prints selects tops)
  main_at [] prints selects e = absurd cc
  main_at (StructTop struct ∷ rest) prints selects e = main_at rest prints selects e
  main_at (FunctionTop function ∷ rest) prints selects e = go (named_main function.name) refl e (λ h. main_at rest _ _ h) where
    go : (t : Bool) → named_main function.name ≡ t → (if t then is_plain (signature globals.types function) else has_main (signatures globals.types rest)) ≡ true
        → (has_main (signatures globals.types rest) ≡ true → MainAt (functions_code globals elements (prints + length (made_function globals elements prints selects function).prints) (selects + table_count (made_function globals elements prints selects function).plan) rest))
        → MainAt (functions_code globals elements prints selects (FunctionTop function ∷ rest))
    go true is e more =
        let w = and_parts (is_nothing (signature globals.types function).parameters) (has_no_result (signature globals.types function).result) e in
        let m = made_function globals elements prints selects function in
        let f = function_code globals elements function m in
        let others = functions_code globals elements (prints + length m.prints) (selects + table_count m.plan) rest in
        record {
          number = 0;
          function = f;
          first = ap (λ t. if t then Some 0 else option_map suc (first_place (λ (f : CodeFunction). bytes_eq f.name (codes "main")) others)) (label_same function.name true is);
          there = refl;
          params = no_parameters (fields_declared globals.types function.parameters) w.0;
          results = no_result (result_of globals elements function) w.1;
        }
    go false is e more =
        let r = more e in
        let m = made_function globals elements prints selects function in
        let others = functions_code globals elements (prints + length m.prints) (selects + table_count m.plan) rest in
        record {
          number = suc r.number;
          function = r.function;
          first = ap (λ t. if t then Some 0 else option_map suc (first_place (λ (f : CodeFunction). bytes_eq f.name (codes "main")) others)) (label_same function.name false is) ∙ ap (option_map suc) r.first;
          there = r.there;
          params = r.params;
          results = r.results;
        }

-- nothing is wrong with a file that the checker takes
pub free_of : (file : File) → IsTyped file → Free (FileHas file)
free_of file typed (Broken rule node) h = typed.breaks rule node h
free_of file typed (Exceeded kind node) h = typed.exceeds kind node h

-- V8
pub main_of_file : (file : File) → 1 ≤ file_size file → Free (FileHas file) → HasMain (code_of file)
main_of_file file le free =
    let b = broken rules.Main (file_size file) le in
    let m = main_at (globals_of file.tops) (elements_of file) file.tops 0 0 (not_false (has_main (globals_of file.tops).functions) (λ e. free b.0 (inr (inl (e, b.1))))) in
    record { number = m.number; function = m.function; first = position_is (λ (f : CodeFunction). bytes_eq f.name (codes "main")) (code_of file).functions ∙ m.first; there = m.there; params = m.params; results = m.results }

-- what is so of each entry of a list
all_at : {A : Type 0} (P : A → Type 0) (xs : List A) → All P xs → (n : ℕ) (x : A) → slice_get xs n ≡ Some x → P x
all_at P xs all n x e = subst P (get_or_from_slice_get xs n x x e) (all n x (slice_get_within xs n x e))

limited : (file : File) → IsLimited file → Small (λ l. longest l file)
limited file most Entries = most.0
limited file most SelectClauses = most.1

-- the code of a file that the checker takes keeps the verifier's rules
pub typed_file : (file : File) → IsGrammatical file → IsLimited file → IsTyped file → IsVerified (code_of file)
typed_file file grammatical most typed =
    let still = grammatical.formed in
    let named = grammatical.named in
    let free = free_of file typed in
    let wide = wide_of file free in
    let hold = file_verified file still free in
    let tables = short_tops (globals_of file.tops) (elements_of file) file.tops 0 0 (limited file most) in
    let code = code_of file in
    record {
      shapes = λ n ks e. record { some = shapes_filled file wide named free n ks e; most = shapes_short file wide free n ks e; there = shapes_there file (grounds_of file free) n ks e };
      prints = all_at IsShort code.prints tables.0;
      selects = λ q table e. record { most = all_at IsFew code.selects tables.1 q table e; there = all_at (HasShapes code) code.selects hold.shapes q table e };
      functions = hold.each;
      main = main_of_file file (omega arith) free;
    }
