-- Calls, and goroutines that are started: their arguments are on the stack.
use Rattle.std.proofs.Common.{◌≡◌, ℕ, ◌+◌, List, [], ◌∷◌, ◌++◌, length, map, take, Option, Some, refl, sym, ap, ◌∙◌, subst, slice_get, inl}
use Rattle.std.specs.Prelude.{flat_map}
use Rattle.syntax.specs.Tree.{Expression, expressions, Arguments, Go, CallAlone}
use Rattle.bytecode.specs.declared.instr.Instr.TheVariants as instrs
use Rattle.bytecode.specs.Code.{Function as CodeFunction}
use Rattle.bytecode.specs.Effects.{params_in}
use Rattle.bytecode.specs.Machine.{Frames as CodeFrames}
use Rattle.word.specs.Values.{Request, Panic}
use Rattle.word.specs.Values as requests
use Rattle.type_table.specs.Types.{ValueType}
use Rattle.type_table.specs.Containment.{Structs}
use Rattle.type_table.specs.Scopes.{Scope, Yield, NoResult, Yields, Globals}
use Rattle.typing_rules.specs.Expressions.{ExpressionsHave}
use Rattle.typing_rules.specs.Operations.{parameters_of, result_of, CallHas}
use Rattle.meaning.specs.Values.{Value, known, words_like}
use Rattle.meaning.specs.Variables.{Blocks}
use Rattle.meaning.specs.Expressions.{values, number_of, zero_result}
use Rattle.meaning.specs.Tasks.{frame, Course, Goes}
use Rattle.meaning.specs.Source.{does, asks, simple_work, statement_work}
use Rattle.codegen_base.specs.Pushes.{pushes_all, drops}
use Rattle.codegen_base.specs.Statements.{pushes_arguments, result_words, simple_plan}
use Rattle.plan.specs.Plan.{Plan, Skip, Do}
use Rattle.plan.proofs.Words.{Words}
use Rattle.plan.proofs.Steps.{spot, calls as calls_function, starts_goroutine}
use Rattle.codegen_base.proofs.Called.{calls, AllFit}
use Rattle.codegen_base.proofs.Typing.{Free}
use Rattle.codegen_base.proofs.Static.{variables_known}
use Rattle.codegen_follows.proofs.Stands.{scope_of, variables, ValuesMake}
use Rattle.codegen_follows.proofs.Requests.{goes_on, asks_alone}
use Rattle.codegen_base.proofs.Running.{Compiled, Coded}
use Rattle.codegen_follows.proofs.Simulated.{Simulated, at, Comes, Works, works_after, Position, here_blocks, On', standing}
use Rattle.meaning.specs.Worked.{Worked, ready, and_then, needs, Calling, Given}
use Rattle.codegen_base.proofs.Likeness.{AreLike, all_words_of, kinds_long, like_length}
use Rattle.codegen_base.proofs.Gave.{Follows, bind as follows_then, calls as calls_at}
use Rattle.codegen_base.proofs.Pushed.{LA, all_goes}
use Rattle.codegen_base.proofs.Storing.{drops_goes}
use Rattle.typing_rules.specs.Calls.{result_of, parameters_of}
use Rattle.type_table.specs.Zeros.{zero_words}

flat_words : (vs : List Value) → flat_map (λ v. v) vs ≡ all_words_of vs
flat_words [] = refl
flat_words (v ∷ vs) = ap (λ (l : Words). v ++ l) (flat_words vs)

module _ {globals : Globals} {program : Compiled globals} {coded : Coded program} {simulated : Simulated coded} (position : Position simulated) where
  open program use {elements, code, wide as all}
  open coded use {function as f, number as g, there, result}
  open simulated use {running, running.{context, context.{callers as ds}}}
  open position use {point, next, mid, tasks as k, together as t, rest as r, point.{locals as ls, around as l, view, fine, room, held as h}}

  abbrev structs : Structs
  structs = globals.structs

  abbrev Works' : Worked Course → CodeFrames → Type 0
  Works' work c = Works simulated work c

  abbrev place_at : ℕ → Words → Words → CodeFrames
  place_at place ls stack = at simulated place ls stack

  abbrev blocks : Blocks
  blocks = here_blocks point

  abbrev scope : Scope
  scope = scope_of view

  abbrev On : Plan → ℕ → Type 0
  On plan place = On' point plan place mid

  abbrev pub parameters : ℕ → List ValueType
  parameters n = map known (parameters_of globals n)

  -- several values are pushed, and then
  pub all_go : {B : Type 0} (es : List Expression) (first : ℕ) (types : List ValueType) (go : List Value → Worked B) (L : B → CodeFrames → Type 0) (rest : Plan) (out : Option ℕ) (place : ℕ) → Free (ExpressionsHave globals view.checked first (expressions es)) → ValuesMake globals elements es → AllFit globals view.checked (expressions es) types
      → On' point (pushes_all globals elements scope types es rest) place out
      → ((vs : List Value) → AreLike structs types vs → (to : ℕ) → On' point rest to out → Follows context (go vs) L (place_at to ls (all_words_of vs))) → Follows context (and_then (values globals blocks (expressions es)) go) L (place_at place ls [])
  all_go es first types go L rest out place free makes fit on then' =
      follows_then context (values globals blocks (expressions es)) go (LA (standing point) types rest out []) L (place_at place ls [])
      (all_goes (standing point) (expressions es) types first free makes fit rest out place [] on)
      (λ vs d l. subst (λ x. Follows context (go vs) L x) (sym l.2) (then' vs l.1 l.0 l.3))

  -- a call in which nothing is wrong is of a function that is there
  pub record IsCall (function : List ℕ) (es : List Expression) : Type 0 where
    pub made : CodeFunction
    pub there_is : slice_get code.functions (number_of globals function) ≡ Some made
    pub params : (vs : List Value) → AreLike structs (parameters (number_of globals function)) vs → length (take made.params made.locals) ≡ length (all_words_of vs)
    pub fit : AllFit globals view.checked (expressions es) (parameters (number_of globals function))

  pub call_there : (function : List ℕ) (arguments : Arguments) (first : ℕ) → Free (CallHas globals view.checked first function arguments) → IsCall function arguments.values
  call_there function arguments first free =
      let c = calls globals view.checked program.types_known (variables_known view.checked scope fine.alike fine.placed.known) program.params_known function arguments first free in
      let F = program.functions function c.number c.is in
      record {
        made = F.0;
        there_is = subst (λ n. slice_get code.functions n ≡ Some F.0) (sym c.numbered) F.1;
        params = subst (λ n. (vs : List Value) → AreLike structs (parameters n) vs → length (take F.0.params F.0.locals) ≡ length (all_words_of vs)) (sym c.numbered) F.2;
        fit = subst (λ n. AllFit globals view.checked (expressions arguments.values) (parameters n)) (sym c.numbered) c.fit;
      }

  dropped_long : (given : Yield) (v : Value) → result_words globals elements scope given ≡ length (words_like (zero_result globals given) v)
  dropped_long NoResult v = refl
  dropped_long (Yields kind) v = kinds_long structs elements (known kind) ∙ sym (like_length (zero_words structs (known kind)) v)

  pub call_alone_goes : (function : List ℕ) (arguments : Arguments) (first place : ℕ) → Free (CallHas globals view.checked first function arguments) → ValuesMake globals elements arguments.values → On (simple_plan globals elements view.site.layout view.site.prints (CallAlone function arguments)) place → variables next ≡ variables view
      → Works' (simple_work globals blocks k (CallAlone function arguments)) (place_at place ls [])
  call_alone_goes function arguments first place free makes on same =
      let n = number_of globals function in
      let c = call_there function arguments first free in
      let given = result_of globals n in
      let rest = drops (result_words globals elements scope given) Skip in
      all_go arguments.values first (parameters n) (λ all. does globals blocks k (Calling n all)) (Comes simulated) (Do (instrs.Call n) rest) mid place (λ violation x. free violation (inl x)) makes c.fit on (λ vs like to on1.
      let many = ap (λ o. length (params_in o)) c.there_is ∙ c.params vs like in
      let enters = calls_function code g f there ds to ls [] (all_words_of vs) n c.made on1.0 many c.there_is in
      let back = spot code g f there ds (to + 1) ls [] in
      let M : Given → CodeFrames → Type 0 = λ given' d. (v : Value) × (d ≡ place_at (to + 1) ls (words_like (zero_result globals given) v)) in
      follows_then context (needs (Calling n vs)) (λ given'. ready (Goes (frame blocks k))) M (Comes simulated) (place_at to ls (all_words_of vs))
      (calls_at context n vs (all_words_of vs) back c.made M (place_at to ls (all_words_of vs)) enters (running.calls n vs (place_at to ls (all_words_of vs)) back c.made like c.there_is enters) (λ v. (v, refl)))
      (λ given' d m.
      let v = words_like (zero_result globals given) m.0 in
      let x = drops_goes running l.leave l.again (result_words globals elements scope given) v [] ls Skip mid (to + 1) (dropped_long given m.0) on1.1 in
      subst (λ y. Works' (ready (Goes (frame blocks k))) y) (sym m.1) (works_after simulated (ready (Goes (frame blocks k))) (place_at (to + 1) ls v) (place_at x.0 ls []) x.1 (goes_on position same x.0 x.2))))

  -- a goroutine is started
  pub go_goes : (function : List ℕ) (arguments : Arguments) (first : ℕ) (place : ℕ) → Free (CallHas globals view.checked first function arguments) → ValuesMake globals elements arguments.values
      → On (pushes_arguments globals elements scope (number_of globals function) arguments.values (Do (instrs.Go (number_of globals function)) Skip)) place → variables next ≡ variables view
      → Works' (statement_work globals blocks k (Go function arguments)) (place_at place ls [])
  go_goes function arguments first place free makes on same =
      let n = number_of globals function in
      let c = call_there function arguments first free in
      all_go arguments.values first (parameters n) (λ all. asks globals blocks k (requests.Go n (flat_map (λ words. words) all))) (Comes simulated) (Do (instrs.Go n) Skip) mid place (λ violation x. free violation (inl x)) makes c.fit on (λ vs like to on1.
      let many = ap (λ o. length (params_in o)) c.there_is ∙ c.params vs like in
      let ws = all_words_of vs in
      subst (λ (x : Words). Works' (asks globals blocks k (requests.Go n x)) (place_at to ls ws)) (sym (flat_words vs))
      (asks_alone position (requests.Go n ws) (instrs.Go n) ws to on1 many refl (starts_goroutine code g f there ds to ls [] ws n c.made on1.0 many c.there_is) refl (running.starts n vs (place_at to ls ws) c.made like c.there_is) same))
