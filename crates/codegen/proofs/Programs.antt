-- What is so of the program that a file with which nothing is wrong is: its functions are there and begin alike.
use Rattle.std.proofs.Common.{◌≡◌, ℕ, ◌≤◌, [], ◌∷◌, List, length, map, Some, refl, sym, ap, ◌∙◌, subst, arith, slice_get}
use Rattle.std.proofs.lemmas.Option.{slice_get_within, same_Some}
use Rattle.syntax.specs.Tree.{File}
use Rattle.bytecode.specs.Code.{Function as CodeFunction, Code}
use Rattle.bytecode.specs.Effects.{params_in, locals_in}
use Rattle.bytecode.specs.Machine.{Frames as CodeFrames, begun as code_begun, code_begin}
use Rattle.word.specs.Related.{here}
use Rattle.type_table.specs.Types.{ValueType, IntType, BoolType, StructType, ChannelType}
use Rattle.type_table.specs.Scopes.{function_number}
use Rattle.typing_rules.specs.Calls.{parameters_in, parameters_of, result_in, result_of}
use Rattle.typing_rules.specs.Files.{FileHas}
use Rattle.typing_rules.specs.Kinds.{fields_declared}
use Rattle.meaning.specs.Values.{Value, known, words_in}
use Rattle.meaning.specs.Tasks.{Frame, Frames}
use Rattle.meaning.specs.Source.{globals, functions, entered_with, begun}
use Rattle.meaning.proofs.FairTasks.{tasks_fair}
use Rattle.codegen_base.specs.declared.element.Element.{Element}
use Rattle.syntax.specs.Grammar.{FormedTops}
use Rattle.codegen_base.specs.Program.{result_of as made_result, elements_of, code_of}
use Rattle.codegen_base.proofs.Likeness.{AreLike, all_words_of, kinds_long}
use Rattle.codegen_base.proofs.Near.{Near, AllEntered, AllStarted}
use Rattle.codegen_base.proofs.Running.{Compiled, Coded}
use Rattle.codegen_base.proofs.Typing.{Free}
use Rattle.codegen_follows.proofs.Begun.{FineAfter}
use Rattle.codegen_follows.proofs.Matching.{SitsAfter}
use Rattle.codegen_fine.proofs.Operands.{Grounds}
use Rattle.codegen_fine.proofs.Shapes.{struct_narrow}
use Rattle.codegen_fine.proofs.Structs.{grounds_of}
use Rattle.codegen.proofs.After.{fine_after}
use Rattle.codegen.proofs.Located.{Located, located}
use Rattle.codegen.proofs.Passed.{kinds_size, split_words}
use Rattle.codegen.proofs.Began.{begins_sits}

module _ (file : File) (free : Free (FileHas file)) (still : FormedTops file.tops) where
  abbrev elements : List Element
  elements = elements_of file

  abbrev code : Code
  code = code_of file

  abbrev grounds : Grounds (globals file) elements code
  grounds = grounds_of file free

  -- a function of the file and its code
  abbrev At : ℕ → Type 0
  At n = Located (globals file) elements code grounds (slice_get (functions file) n) (slice_get code.functions n) (slice_get (globals file).functions n)

  -- ---- the program

  pub narrow : (kind : ValueType) → words_in (globals file).structs kind ≤ 16
  narrow IntType = omega arith
  narrow BoolType = omega arith
  narrow (ChannelType d c) = omega arith
  narrow (StructType n) = let short = struct_narrow file grounds.wide free n in let long = kinds_long (globals file).structs elements (StructType n) in omega (arith, short, long)

  -- a function takes as many words as its arguments have
  pub params_fit : (n : ℕ) (callee : CodeFunction) → slice_get code.functions n ≡ Some callee → (vs : List Value) → AreLike (globals file).structs (map known (parameters_of (globals file) n)) vs → length (params_in (Some callee)) ≡ length (all_words_of vs)
  params_fit n callee has vs like = ap (λ o. length (params_in o)) (sym has) ∙ ap length (grounds.functions.params n) ∙ kinds_size (globals file).structs elements (map known (parameters_of (globals file) n)) vs like

  abbrev pub program : Compiled (globals file)
  program = record {
    elements = elements;
    code = code;
    wide = grounds.wide;
    typed = grounds.typed;
    types_known = grounds.types_known;
    params_known = grounds.functions.known_kinds;
    shapes = refl;
    fields_noted = grounds.fields_noted;
    results_noted = grounds.results_noted;
    narrow = narrow;
    functions = λ name n is. let L : At n = located file free still n (grounds.functions.there name n is) in (_, L.made_is, λ vs like. params_fit n _ L.made_is vs like);
  }

  pub fine_following : (coded : Coded program) → FineAfter coded
  fine_following coded = fine_after coded

  -- ---- functions

  abbrev Sat : ℕ → Frame → CodeFrames → CodeFrames → Type 0
  Sat = SitsAfter file program

  -- the code of a function that is entered, or that a goroutine begins with, begins at a pc where the function sits
  enters : (n : ℕ) (L : At n) (vs : List Value) (callee : CodeFunction) → AreLike (globals file).structs (map known (parameters_of (globals file) n)) vs → slice_get code.functions n ≡ Some callee → (callers : CodeFrames)
      → Sat n (entered_with (globals file) L.function vs) callers (code_begun callee.locals n (all_words_of vs) ∷ callers)
  enters n L vs callee like has callers =
      let own = subst (λ o. AreLike (globals file).structs (map known (parameters_in o)) vs) L.head_is like in
      let declared : result_of (globals file) n ≡ made_result (globals file) elements L.function = ap result_in L.head_is in
      subst (λ (x : CodeFunction). Sat n (entered_with (globals file) L.function vs) callers (code_begun x.locals n (all_words_of vs) ∷ callers)) (same_Some _ callee (sym L.made_is ∙ has))
      (begins_sits file program grounds fine_following n (slice_get (functions file) n) (slice_get (globals file).functions n) L declared vs own callers)

  pub all_entered : AllEntered file program (SitsAfter file program)
  all_entered n vs callee like has =
      let L : At n = located file free still n (slice_get_within code.functions n callee has) in
      (L.function, L.source_is, λ callers. enters n L vs callee like has callers)

  pub all_started : AllStarted file program (SitsAfter file program)
  all_started n vs callee like has =
      let L : At n = located file free still n (slice_get_within code.functions n callee has) in
      let own = subst (λ o. AreLike (globals file).structs (map known (parameters_in o)) vs) L.head_is like in
      let top : Frame = entered_with (globals file) L.function vs in
      let d : CodeFrames = code_begun callee.locals n (all_words_of vs) ∷ [] in
      let near : Near file program (SitsAfter file program) (top ∷ []) d = (n, [], record { from = d; sat = enters n L vs callee like has []; gave = here; taken = (tasks_fair (globals file) top.blocks top.tasks).none }, tt) in
      let same : begun file (slice_get (functions file) n) (all_words_of vs) ≡ top ∷ [] =
      ap (λ o. begun file o (all_words_of vs)) L.source_is ∙ ap (λ (a : List Value). entered_with (globals file) L.function a ∷ []) (split_words file (fields_declared (globals file).types L.function.parameters) vs own) in
      subst (λ (x : Frames). Near file program (SitsAfter file program) x (code_begin code n (all_words_of vs))) (sym same)
      (subst (λ o. Near file program (SitsAfter file program) (top ∷ []) (code_begun (locals_in o) n (all_words_of vs) ∷ [])) (sym has) near)

  -- a goroutine that runs a function without parameters begins near its code
  pub starts_near : (name : List ℕ) (n : ℕ) → function_number (globals file).functions name ≡ Some n → parameters_of (globals file) n ≡ [] → Near file program (SitsAfter file program) (begun file (slice_get (functions file) n) []) (code_begin code n [])
  starts_near name n is plain =
      let L : At n = located file free still n (grounds.functions.there name n is) in
      all_started n [] _ (subst (λ ks. AreLike (globals file).structs (map known ks) []) (sym plain) tt) L.made_is
