-- The code of a file that the checker takes does what the file does: events, clocks, output and end are the same at every limit.
use Rattle.std.proofs.Common.{◌≡◌, ℕ, suc, ◌+◌, Bool, true, false, List, [], ◌∷◌, length, Some, option_map, refl, sym, ap, ◌∙◌, subst, arith, slice_get, inl, inr}
use Rattle.std.specs.Prelude.{if◌then◌else◌, unwrap_or, codes}
use Rattle.std.proofs.lemmas.Bool.{and_parts}
use Rattle.go_text.specs.declared.rule.Rule.TheVariants as rules
use Rattle.syntax.specs.Tree.{Top, StructTop, FunctionTop, File}
use Rattle.syntax.specs.Measures.{size as file_size}
use Rattle.bytecode.specs.Code.{Function as CodeFunction}
use Rattle.bytecode.specs.Machine.{main_of, code_begin, code_kind}
use Rattle.word.specs.Kinds.{GoroutineKind}
use Rattle.word.specs.Related.{Matches}
use Rattle.word.specs.Worlds.{Equal}
use Rattle.word.proofs.Equal.{equal}
use Rattle.type_table.specs.Scopes.{Globals, Signature, function_number}
use Rattle.typing_rules.specs.Files.{has_no_result, is_plain, has_main, FileHas, IsTyped}
use Rattle.typing_rules.specs.Declarations.{is_nothing}
use Rattle.typing_rules.specs.Kinds.{signatures}
use Rattle.typing_rules.specs.Calls.{parameters_in}
use Rattle.meaning.specs.Expressions.{number_of}
use Rattle.meaning.specs.Source.{globals, functions, begun, source_kind}
use Rattle.meaning.proofs.Ends.{weight, source_falls}
use Rattle.codegen_base.specs.declared.element.Element.{Element}
use Rattle.codegen_base.specs.Program.{made_function, functions_code, elements_of, code_of}
use Rattle.codegen_base.proofs.Typing.{Free, broken, not_false}
use Rattle.plan.specs.Plan.{table_count}
use Rattle.syntax.specs.Grammar.{FormedTops}
use Rattle.codegen_fine.proofs.Main.{first_place, position_is, named_main, label_same, free_of}
use Rattle.codegen_base.proofs.Near.{Near}
use Rattle.codegen_follows.proofs.Matching.{SitsAfter, near_match}
use Rattle.codegen.proofs.Programs.{program, fine_following, all_entered, all_started, starts_near}

-- ---- the main function

-- the function `main`, which takes nothing
record IsMain (fs : List Signature) : Type 0 where
  number : ℕ
  first : function_number fs (codes "main") ≡ Some number
  plain : parameters_in (slice_get fs number) ≡ []

nothing_in : {A : Type 0} (xs : List A) → is_nothing xs ≡ true → xs ≡ []
nothing_in [] e = refl
nothing_in (x ∷ xs) e = absurd cc

main_there : (fs : List Signature) → has_main fs ≡ true → IsMain fs
main_there [] e = absurd cc
main_there (f ∷ fs) e = go (named_main f.name) refl e (λ h. main_there fs h) where
  go : (t : Bool) → named_main f.name ≡ t → (if t then is_plain f else has_main fs) ≡ true → (has_main fs ≡ true → IsMain fs) → IsMain (f ∷ fs)
  go true is e more = record { number = 0; first = ap (λ t. if t then Some 0 else option_map suc (function_number fs (codes "main"))) is; plain = nothing_in f.parameters (and_parts (is_nothing f.parameters) (has_no_result f.result) e).0 }
  go false is e more = let r = more e in record { number = suc r.number; first = ap (λ t. if t then Some 0 else option_map suc (function_number fs (codes "main"))) is ∙ ap (option_map suc) r.first; plain = r.plain }

module _ (globals : Globals) (elements : List Element) where
  -- the first function of the name is the same in the code
  same_main : (tops : List Top) (prints selects : ℕ) → first_place (λ (f : CodeFunction). named_main f.name) (functions_code globals elements prints selects tops) ≡ function_number (signatures globals.types tops) (codes "main")
  same_main [] prints selects = refl
  same_main (StructTop struct ∷ rest) prints selects = same_main rest prints selects
  same_main (FunctionTop function ∷ rest) prints selects =
      let m = made_function globals elements prints selects function in
      let others = functions_code globals elements (prints + length m.prints) (selects + table_count m.plan) rest in
      ap (λ t. if t then Some 0 else option_map suc (first_place (λ (f : CodeFunction). named_main f.name) others)) (label_same function.name (named_main function.name) refl)
      ∙ ap (λ o. if named_main function.name then Some 0 else option_map suc o) (same_main rest (prints + length m.prints) (selects + table_count m.plan))

code_main : (file : File) → main_of (code_of file).functions ≡ function_number (globals file).functions (codes "main")
code_main file = position_is (λ (f : CodeFunction). named_main f.name) (code_of file).functions ∙ same_main (globals file) (elements_of file) file.tops 0 0

-- ---- the theorem

-- a relation that each step of the source keeps, with alike beginnings: the code does what the source does
pub record IsFollowed (K M : GoroutineKind) : Type 1 where
  pub related : K.State → M.State → Type 0
  pub steps : (s : K.State) (c : M.State) → related s c → Matches K M related s (K.next s) c
  pub start : related (K.begin K.main []) (M.begin M.main [])

module _ (file : File) (free : Free (FileHas file)) (still : FormedTops file.tops) where
  followed : IsFollowed (source_kind file) (code_kind (code_of file))
  followed =
      let b = broken rules.Main (file_size file) (omega arith) in
      let main = main_there (globals file).functions (not_false (has_main (globals file).functions) (λ e. free b.0 (inr (inl (e, b.1))))) in
      let n = main.number in
      let source : number_of (globals file) (codes "main") ≡ n = ap (λ o. unwrap_or o 0) main.first in
      let target : unwrap_or (main_of (code_of file).functions) 0 ≡ n = ap (λ o. unwrap_or o 0) (code_main file ∙ main.first) in
      let R = Near file (program file free still) (SitsAfter file (program file free still)) in
      record {
        related = R;
        steps = near_match file (program file free still) (fine_following file free still) (all_entered file free still) (all_started file free still);
        start =
            subst (λ k. R (begun file (slice_get (functions file) k) []) (code_begin (code_of file) (unwrap_or (main_of (code_of file).functions) 0) [])) (sym source)
            (subst (λ k. R (begun file (slice_get (functions file) n) []) (code_begin (code_of file) k [])) (sym target) (starts_near file free still (codes "main") n main.first main.plain));
      }

-- the code of a file that the checker takes, if no post statement declares anything, follows the file
pub is_followed : (file : File) → FormedTops file.tops → IsTyped file → IsFollowed (source_kind file) (code_kind (code_of file))
is_followed file still typed = followed file (free_of file typed) still

-- and is the same kind of goroutine
pub is_equal : (file : File) → FormedTops file.tops → IsTyped file → Equal (source_kind file) (code_kind (code_of file))
is_equal file still typed =
    let f = is_followed file still typed in
    equal (source_kind file) (code_kind (code_of file)) f.related weight f.steps (source_falls file) f.start
