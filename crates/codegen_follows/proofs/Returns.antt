-- Return statements, and calls and receives whose values nobody needs.
use Rattle.std.proofs.Common.{◌≡◌, ℕ, ◌+◌, ◌≤◌, List, [], length, Option, Some, None, refl, sym, ap, ◌∙◌, subst, arith, inl, inr}
use Rattle.go_text.specs.declared.rule.Rule.TheVariants as rules
use Rattle.syntax.specs.Tree.{Returned, NoValue, ReturnedValue, Return}
use Rattle.syntax.specs.Measures.{returned_size}
use Rattle.bytecode.specs.Machine.{Frames as CodeFrames, returned}
use Rattle.word.specs.Related.{here, here}
use Rattle.type_table.specs.Types.{ValueType}
use Rattle.type_table.specs.Containment.{Structs}
use Rattle.type_table.specs.Scopes.{Scope, Yield, NoResult, Yields, Globals}
use Rattle.type_table.specs.Zeros.{zero_words}
use Rattle.typing_rules.specs.Worths.{Worth, worth}
use Rattle.typing_rules.specs.Expressions.{nodes_of, ValueHas}
use Rattle.typing_rules.specs.Operations.{Given, result_of}
use Rattle.typing_rules.specs.Statements.{ReturnHas, ReturnStatementHas}
use Rattle.meaning.specs.Values.{Value, known, words_like}
use Rattle.meaning.specs.Variables.{Blocks}
use Rattle.meaning.specs.Tasks.{Course, GivesBack}
use Rattle.meaning.specs.Source.{statement_work}
use Rattle.codegen_base.specs.declared.element.Element.{Element}
use Rattle.codegen_base.specs.Generated.{result_type, return_plan, result_kinds}
use Rattle.plan.specs.Plan.{Plan, Stop}
use Rattle.plan.proofs.Words.{Words}
use Rattle.plan.proofs.Steps.{returns}
use Rattle.codegen_base.proofs.Likeness.{kinds_long, like_length}
use Rattle.codegen_base.proofs.Typing.{Free, Fits, fits, broken, nodes_end, worth_there}
use Rattle.codegen_base.proofs.Static.{variables_known}
use Rattle.codegen_follows.proofs.Stands.{scope_of, ReturnedMakes}
use Rattle.codegen_follows.proofs.Valued.{value_goes}
use Rattle.codegen_base.proofs.Running.{Compiled, Coded}
use Rattle.codegen_follows.proofs.Simulated.{Simulated, at, Comes, Works, Position, here_blocks, On'}
use Rattle.meaning.specs.Worked.{Worked, ready}
use Rattle.codegen_base.proofs.Gave.{stays}
use Rattle.typing_rules.specs.Calls.{result_of}
use Rattle.meaning.specs.Expressions.{zero_result}

module _ (globals : Globals) (elements : List Element) where
  no_value : (o : Yield) (end : ℕ) → 1 ≤ end → Free (ReturnHas o None end) → words_like (zero_result globals o) [] ≡ []
  no_value NoResult end le free = refl
  no_value (Yields kind) end le free = let b = broken rules.Returned end le in absurd (free b.0 b.1)

  -- a value that is returned fits the function's result
  returned_fits : (o : Yield) (v : Given) (w : Worth) (end : ℕ) → 1 ≤ end → 1 ≤ v.nodes.end → ((kind : Option ValueType) → o ≡ Yields kind → (t : ValueType) × (kind ≡ Some t)) → v.worth ≡ Some w → Free (ReturnHas o (Some v) end) → Fits w (result_type globals elements o) × (zero_result globals o ≡ zero_words globals.structs (result_type globals elements o))
  returned_fits NoResult v w end le positive is-known is free = let b = broken rules.Returned end le in absurd (free b.0 b.1)
  returned_fits (Yields kind) v w end le positive is-known is free =
      let t = is-known kind refl in
      let same : kind ≡ Some (known kind) = t.1 ∙ ap (λ o. Some (known o)) (sym t.1) in
      (fits w (known kind) v.nodes positive (λ violation x. free violation (subst (λ o. ValueHas o kind v.nodes violation) (sym is) (subst (λ o. ValueHas (Some w) o v.nodes violation) (sym same) x))), refl)

module _ {globals : Globals} {program : Compiled globals} {coded : Coded program} {simulated : Simulated coded} (position : Position simulated) where
  open program use {elements, code, wide as all}
  open coded use {function as f, number as g, there, result}
  open simulated use {running, running.{context, context.{callers as ds}}}
  open position use {point, next, mid, tasks as k, together as t, rest as r, point.{locals as ls, around as l, view, fine, room, held as h}}

  abbrev structs : Structs
  structs = globals.structs

  abbrev Works' : Worked Course → CodeFrames → Type 0
  Works' work c = Works simulated work c

  abbrev place_at : ℕ → Words → Words → CodeFrames
  place_at place ls stack = at simulated place ls stack

  abbrev blocks : Blocks
  blocks = here_blocks point

  abbrev scope : Scope
  scope = scope_of view

  abbrev On : Plan → ℕ → Type 0
  On plan place = On' point plan place mid

  -- the code gives the value back
  gives_back : (v : Value) (place : ℕ) → On Stop place → words_like (zero_result globals result) v ≡ v → Works' (ready (GivesBack v)) (place_at place ls v)
  gives_back v place on is =
      let zero = ap (zero_result globals) coded.result_is in
      let same : words_like (zero_result globals (result_of globals g)) v ≡ v = ap (λ (z : Words). words_like z v) zero ∙ is in
      let long : length f.results ≡ length v = ap length coded.results_are ∙ result_long result v is in
      stays context (GivesBack v) (Comes simulated) (place_at place ls v)
      (place_at place ls v, here, returns code g f there ds place ls v on long ∙ ap (λ (x : Words). returned [] x ds) (sym same)) where
        result_long : (y : Yield) (v : Value) → words_like (zero_result globals y) v ≡ v → length (result_kinds globals elements y) ≡ length v
        result_long NoResult v is = ap length is
        result_long (Yields kind) v is = kinds_long structs elements (known kind) ∙ sym (like_length (zero_words structs (known kind)) v) ∙ ap length is

  pub return_goes : (returned : Returned) (first place : ℕ) → ReturnedMakes globals elements returned → Free (ReturnStatementHas globals result view.checked first returned) → On (return_plan globals elements result view.site.layout returned) place → Works' (statement_work globals blocks k (Return returned)) (place_at place ls [])
  return_goes NoValue first place makes free on = gives_back [] place on (no_value globals elements result (first + (returned_size NoValue + 1)) (omega arith) (λ violation x. free violation (inr x)))
  return_goes (ReturnedValue e) first place makes free on =
      let w = worth_there globals view.checked program.types_known (variables_known view.checked scope fine.alike fine.placed.known) e first (λ violation x. free violation (inl x)) in
      let known-result : (kind : Option ValueType) → result ≡ Yields kind → (t : ValueType) × (kind ≡ Some t) = λ kind is. program.types_known.results g kind (coded.result_is ∙ is) in
      let fit = returned_fits globals elements result (record { worth = worth globals view.checked e; nodes = nodes_of first e }) w.0 (first + (returned_size (ReturnedValue e) + 1)) (omega arith) (nodes_end first e) known-result w.1 (λ violation x. free violation (inr x)) in
      value_goes point e first w.0 (result_type globals elements result) (λ v. ready (GivesBack v)) (Comes simulated) Stop mid place [] (λ violation x. free violation (inl x)) makes w.1 fit.0 on
      (λ v like to on1. gives_back v to on1 (ap (λ z. words_like z v) fit.1 ∙ like))
