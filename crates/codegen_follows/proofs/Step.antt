-- A step: whatever the source does next, the code does.
use Rattle.std.proofs.Common.{◌≡◌, ℕ, List, [], ◌∷◌, Some, None, map, length, refl, sym, ◌∙◌, ap}
use Rattle.bytecode.specs.Machine.{Frames as CodeFrames, zero_of, returned}
use Rattle.type_table.specs.Scopes.{Globals, Yield, NoResult, Yields}
use Rattle.typing_rules.specs.Calls.{result_of}
use Rattle.meaning.specs.Values.{known, words_like}
use Rattle.type_table.specs.Zeros.{zero_words}
use Rattle.meaning.specs.Expressions.{zero_result}
use Rattle.meaning.specs.Worked.{Worked}
use Rattle.meaning.specs.Tasks.{Repeating, Ranging, Task, Do, EndBlock, Decide, Head, Again, Turn, EndSelect, Course, GivesBack}
use Rattle.meaning.specs.Source.{tasks_work}
use Rattle.codegen_base.specs.Generated.{result_kinds}
use Rattle.plan.specs.Plan.{Stop}
use Rattle.plan.proofs.Words.{Words}
use Rattle.plan.proofs.Steps.{returns}
use Rattle.std.proofs.lemmas.List.{length-map}
use Rattle.codegen_base.proofs.Likeness.{like_none, kinds_zeros}
use Rattle.codegen_base.proofs.Gave.{stays}
use Rattle.codegen_base.proofs.Storing.{zeros_push}
use Rattle.codegen_base.proofs.Running.{Compiled, Coded}
use Rattle.codegen_follows.proofs.Stands.{Around, View, Sits}
use Rattle.codegen_follows.proofs.Simulated.{Simulated, Held, blocks_of, at, Works, Comes}
use Rattle.codegen_follows.proofs.Statements.{statement_goes}
use Rattle.codegen_follows.proofs.Follows.{end_block_goes, decide_goes, head_goes, turn_goes, again_goes, end_select_goes}
use Rattle.codegen_follows.proofs.Ranged.{next_goes, round_goes, item_ends}

module _ {globals : Globals} {program : Compiled globals} {coded : Coded program} (simulated : Simulated coded) where
  open program use {elements, code}
  open coded use {function as f, number as g, there, result}
  open simulated use {running, running.{context, context.{callers as ds}}}

  abbrev Works' : Worked Course → CodeFrames → Type 0
  Works' work c = Works simulated work c

  abbrev place_at : ℕ → Words → Words → CodeFrames
  place_at place ls stack = at simulated place ls stack

  result_zeros : (y : Yield) → words_like (zero_result globals y) [] ≡ map zero_of (result_kinds globals elements y)
  result_zeros NoResult = refl
  result_zeros (Yields kind) = like_none (zero_words globals.structs (known kind)) ∙ sym (kinds_zeros globals.structs elements (known kind))

  -- whatever is to be done next, the code does it where it sits
  pub sits_follow : (tasks : List Task) (ls : Words) (view : View) (l : Around) (place : ℕ) → Held coded ls view → Sits coded view l (Some place) tasks → Works' (tasks_work globals (blocks_of coded ls view) tasks) (place_at place ls [])
  sits_follow (Do s ∷ k) ls view l place h (next, t, mid, (d, same), to, lead, sits) = statement_goes simulated ls l view next mid k h t (to, lead, sits) s place d same
  sits_follow (EndBlock ∷ k) ls view l place h sits = end_block_goes simulated ls view l place k h sits
  sits_follow (Decide c b o ∷ k) ls view l place h (next, t, mid, (d, same), to, lead, sits) = decide_goes simulated ls view next l c b o place mid k h d same t.0 (to, lead, sits)
  sits_follow (Head (Repeating condition post body) ∷ k) ls view l place h (next, t, mid, (d, same), to, lead, sits) = head_goes simulated ls view next l condition post body place mid k h d t same (to, lead, sits)
  sits_follow (Head (Ranging destinations zero body) ∷ k) ls view l place h (next, t, mid, (d, same), to, lead, sits) = next_goes simulated ls view next l destinations zero body place mid k h d t same (to, lead, sits)
  sits_follow (Again (Repeating condition post body) ∷ k) ls view l place h sits = again_goes simulated ls view l condition post body place k h sits
  sits_follow (Again (Ranging destinations zero body) ∷ k) ls view l place h sits = item_ends simulated ls view l destinations zero body place k h sits
  sits_follow (Turn (Repeating condition post body) ∷ k) ls view l place h (next, t, mid, (head, i, d, same), to, lead, sits) = turn_goes simulated ls view next l condition post body head place mid k h i d t same (to, lead, sits)
  sits_follow (Turn (Ranging destinations zero body) ∷ k) ls view l place h (next, t, mid, (head, i, d, same), to, lead, sits) = round_goes simulated ls view next l destinations zero body head mid k h d t same (to, lead, sits) place i
  sits_follow (EndSelect ∷ k) ls view l place h sits = end_select_goes simulated ls view l place k h sits
  sits_follow [] ls view l place h (around, on) =
      let ks = result_kinds globals elements result in
      let zs : Words = map zero_of ks in
      let m = zeros_push running None None ks ls Stop None place [] on in
      let zero = ap (zero_result globals) coded.result_is in
      let same : words_like (zero_result globals (result_of globals g)) [] ≡ zs = ap (λ (z : Words). words_like z []) zero ∙ result_zeros result in
      let long : length f.results ≡ length zs = ap length coded.results_are ∙ sym (length-map ks zero_of) in
      stays context (GivesBack []) (Comes simulated) (place_at place ls [])
      (place_at m.0 ls zs, m.1, returns code g f there ds m.0 ls zs m.2 long ∙ ap (λ (x : Words). returned [] x ds) (sym same))
