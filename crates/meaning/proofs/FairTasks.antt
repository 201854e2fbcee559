-- Each task takes what was given in order, and never more than it needs.
use Rattle.syntax.specs.Tree as t
use Rattle.std.proofs.Common.{ℕ, zero, suc, pos, Bool, true, false, List, [], ◌∷◌, ◌++◌, length, flat_map, Some, None}
use Rattle.std.specs.Option.{is_some}
use Rattle.std.specs.Prelude.{if◌then◌else◌}
use Rattle.syntax.specs.declared.node.BinaryOperator.{BinaryOperator}
use Rattle.syntax.specs.declared.node.BinaryOperator.TheVariants.{Add, Subtract}
use Rattle.syntax.specs.Tree.{Expression, expressions, Arguments, Place, Part, Value as ValuePart, Text, Simple, CallAlone, Close, Print, ReceiveAlone, Send, Increment, Decrement, Assign, Define, Update, IfHead, ForHead, Forever, While, ForClauses, Range, Comm, CommSend, CommReceive, CommDefine, CommAssign, Returned, NoValue, ReturnedValue, Statement, Empty, Alone, VarTyped, VarUntyped, Block, If, For, Select, Go, Return, Break, Continue, Statements, Branch, Conditional, Otherwise, NoElse, ElseBlock, ElseIf, Clauses, NoClause, Clause, Receive}
use Rattle.word.specs.declared.value.Word.TheVariants.{Int, Bool as Truth}
use Rattle.word.specs.Values.{Request}
use Rattle.word.specs.Values as requests
use Rattle.word.specs.Text.{text_of}
use Rattle.type_table.specs.Scopes.{Globals}
use Rattle.meaning.specs.Values.{Value}
use Rattle.meaning.specs.Worked.{Need, Asking, Calling, Worked, ready, needs}
use Rattle.meaning.specs.Variables.{Blocks, Destination, as_kind}
use Rattle.meaning.specs.Expressions.{word_in, channel_in, binary, told, element_kind, number_of, value, values, both_values, right_values}
use Rattle.meaning.specs.Destinations.{placed}
use Rattle.meaning.specs.Tasks.{Loop, Repeating, Ranging, Task, Do, EndBlock, Decide, Head, Again, Turn, EndSelect, Course, Goes, frame, GivesBack}
use Rattle.meaning.specs.Source.{printed, truth_in, go_on, one, channel, does, item_in, stores, gives, value_at, updates, part_text, texts, arguments_of, simple_work, otherwise_work, for_work, next_item, kept, head_work, again_work, received_case, case_of, cases_of, default_of, chosen, statement_work, task_work, tasks_work}
use Rattle.meaning.proofs.Fair.{IsFair, ready_fair, needs_fair, then_fair, told_fair, binary_fair, value_fair, values_fair, received_fair}

either_fair : (b : Bool) (x y : Worked Course) → IsFair x → IsFair y → IsFair (if b then x else y)
either_fair true x y f g = f
either_fair false x y f g = g

module _ (globals : Globals) (blocks : Blocks) (rest : List Task) where
  one_fair : (e : Expression) → IsFair (one globals blocks rest e)
  one_fair e = then_fair (λ words. ready (word_in words)) (λ words. ready_fair (word_in words)) (value globals blocks e) (value_fair globals blocks e)

  channel_fair : (e : Expression) → IsFair (channel globals blocks rest e)
  channel_fair e = then_fair (λ word. ready (channel_in word)) (λ word. ready_fair (channel_in word)) (one globals blocks rest e) (one_fair e)

  go_on_fair : (tasks : List Task) → IsFair (go_on globals blocks rest tasks)
  go_on_fair tasks = ready_fair (Goes (frame blocks (tasks ++ rest)))

  does_fair : (need : Need) → IsFair (does globals blocks rest need)
  does_fair need = then_fair (λ given. go_on globals blocks rest []) (λ given. go_on_fair []) (needs need) (needs_fair need)

  item_fair : (to item : Expression) → IsFair (item_in globals blocks rest to item)
  item_fair to item = then_fair (λ words. ready (as_kind globals.structs (element_kind globals blocks to) words)) (λ words. ready_fair (as_kind globals.structs (element_kind globals blocks to) words)) (value globals blocks item) (value_fair globals blocks item)

  stores_fair : (ds : List Destination) (vs : List Value) → IsFair (stores globals blocks rest ds vs)
  stores_fair ds vs = ready_fair _

  both_fair : (e : Expression) (others : Worked (List Value)) → IsFair others → IsFair (both_values globals blocks e others)
  both_fair (Receive from) others fair = then_fair _ (λ c. received_fair globals blocks (element_kind globals blocks from) c) (value globals blocks from) (value_fair globals blocks from)
  both_fair (t.Integer v) others fair = fair
  both_fair (t.Named n) others fair = fair
  both_fair (t.Parenthesized i) others fair = fair
  both_fair (t.Selection w f) others fair = fair
  both_fair (t.Composite n vs tr) others fair = fair
  both_fair (t.Unary o e) others fair = fair
  both_fair (t.Binary o l r) others fair = fair
  both_fair (t.Call f vs tr) others fair = fair
  both_fair (t.Make k) others fair = fair
  both_fair (t.MakeSized k s) others fair = fair
  both_fair (t.Length c) others fair = fair
  both_fair (t.Capacity c) others fair = fair

  right_fair : (n : ℕ) (es : List Expression) → IsFair (values globals blocks (expressions es)) → IsFair (right_values globals blocks n es)
  right_fair zero es fair = fair
  right_fair (suc zero) es fair = fair
  right_fair (suc (suc zero)) [] fair = fair
  right_fair (suc (suc zero)) (e ∷ []) fair = both_fair e (values globals blocks (expressions (e ∷ []))) fair
  right_fair (suc (suc zero)) (e ∷ (e' ∷ es)) fair = fair
  right_fair (suc (suc (suc n))) es fair = fair

  gives_fair : (ds : List Destination) (es : List Expression) → IsFair (gives globals blocks rest ds es)
  gives_fair ds es = then_fair (stores globals blocks rest ds) (stores_fair ds) (right_values globals blocks (length ds) es) (right_fair (length ds) es (values_fair globals blocks (expressions es)))

  updates_fair : (place : Place) (operator : BinaryOperator) (operand : Worked Value) → IsFair operand → IsFair (updates globals blocks rest place operator operand)
  updates_fair place operator operand fair = then_fair (λ v. stores globals blocks rest (placed globals blocks place ∷ []) (v ∷ [])) (λ v. stores_fair (placed globals blocks place ∷ []) (v ∷ [])) (binary operator (ready (value_at globals blocks rest place)) operand) (binary_fair operator (ready (value_at globals blocks rest place)) operand (ready_fair (value_at globals blocks rest place)) fair)

  part_fair : (part : Part) → IsFair (part_text globals blocks rest part)
  part_fair (ValuePart e) = then_fair (λ word. ready (text_of word)) (λ word. ready_fair (text_of word)) (one globals blocks rest e) (one_fair e)
  part_fair (Text bytes) = ready_fair bytes

  texts_fair : (parts : List Part) → IsFair (texts globals blocks rest parts)
  texts_fair [] = ready_fair []
  texts_fair (part ∷ parts) = then_fair _ (λ text. then_fair (λ more. ready (text ∷ more)) (λ more. ready_fair (text ∷ more)) (texts globals blocks rest parts) (texts_fair parts)) (part_text globals blocks rest part) (part_fair part)

  arguments_fair : (arguments : Arguments) → IsFair (arguments_of globals blocks rest arguments)
  arguments_fair arguments = values_fair globals blocks (expressions arguments.values)

  simple_fair : (s : Simple) → IsFair (simple_work globals blocks rest s)
  simple_fair (CallAlone function arguments) = then_fair _ (λ all. does_fair (Calling (number_of globals function) all)) (arguments_of globals blocks rest arguments) (arguments_fair arguments)
  simple_fair (Close from) = then_fair _ (λ c. does_fair (Asking (requests.Close c))) (channel globals blocks rest from) (channel_fair from)
  simple_fair (Print line parts trailing) = then_fair _ (λ all. does_fair (Asking (requests.Print (printed line all)))) (texts globals blocks rest parts) (texts_fair parts)
  simple_fair (ReceiveAlone from) = then_fair _ (λ c. does_fair (Asking (requests.Receive c))) (channel globals blocks rest from) (channel_fair from)
  simple_fair (Send to item) = then_fair _ (λ c. then_fair _ (λ words. does_fair (Asking (requests.Send c words))) (item_in globals blocks rest to item) (item_fair to item)) (channel globals blocks rest to) (channel_fair to)
  simple_fair (Increment place) = updates_fair place Add (ready (Int (pos 1) ∷ [])) (ready_fair (Int (pos 1) ∷ []))
  simple_fair (Decrement place) = updates_fair place Subtract (ready (Int (pos 1) ∷ [])) (ready_fair (Int (pos 1) ∷ []))
  simple_fair (Assign places right) = gives_fair _ right
  simple_fair (Define names right) = gives_fair _ right
  simple_fair (Update place operator operand) = updates_fair place operator (value globals blocks operand) (value_fair globals blocks operand)

  otherwise_fair : (o : Otherwise) → IsFair (otherwise_work globals blocks rest o)
  otherwise_fair NoElse = ready_fair _
  otherwise_fair (ElseBlock body) = ready_fair _
  otherwise_fair (ElseIf branch) = ready_fair _

  for_fair : (head : ForHead) (body : Statements) → IsFair (for_work globals blocks rest head body)
  for_fair Forever body = ready_fair _
  for_fair (While condition) body = ready_fair _
  for_fair (ForClauses first condition post) body = ready_fair _
  for_fair (Range target from) body = then_fair _ (λ c. ready_fair _) (channel globals blocks rest from) (channel_fair from)

  head_fair : (loop : Loop) → IsFair (head_work globals blocks rest loop)
  head_fair (Repeating None post body) = ready_fair _
  head_fair (Repeating (Some condition) post body) = then_fair _ (λ word. either_fair (truth_in word) _ _ (ready_fair _) (ready_fair _)) (one globals blocks rest condition) (one_fair condition)
  head_fair (Ranging ds z body) = then_fair _ (λ got. ready_fair (next_item globals blocks rest ds z body got)) (told (z ∷ (Truth false ∷ []) ∷ []) (Asking (requests.Receive (kept globals blocks rest)))) (told_fair (z ∷ (Truth false ∷ []) ∷ []) (Asking (requests.Receive (kept globals blocks rest))))

  again_fair : (loop : Loop) → IsFair (again_work globals blocks rest loop)
  again_fair (Repeating condition None body) = ready_fair _
  again_fair (Repeating condition (Some post) body) = ready_fair _
  again_fair (Ranging ds z body) = ready_fair _

  received_case_fair : (e : Expression) → IsFair (received_case globals blocks rest e)
  received_case_fair e = then_fair _ (λ c. ready_fair _) (channel globals blocks rest e) (channel_fair e)

  case_fair : (comm : Comm) → IsFair (case_of globals blocks rest comm)
  case_fair (CommSend to item) = then_fair _ (λ c. then_fair _ (λ words. ready_fair _) (item_in globals blocks rest to item) (item_fair to item)) (channel globals blocks rest to) (channel_fair to)
  case_fair (CommReceive e) = received_case_fair e
  case_fair (CommDefine item ok e) = received_case_fair e
  case_fair (CommAssign item ok e) = received_case_fair e

  cases_fair : (clauses : Clauses) → IsFair (cases_of globals blocks rest clauses)
  cases_fair NoClause = ready_fair []
  cases_fair (Clause None body more) = cases_fair more
  cases_fair (Clause (Some comm) body more) = then_fair _ (λ first. then_fair _ (λ others. ready_fair _) (cases_of globals blocks rest more) (cases_fair more)) (case_of globals blocks rest comm) (case_fair comm)

  statement_fair : (s : Statement) → IsFair (statement_work globals blocks rest s)
  statement_fair Empty = ready_fair _
  statement_fair (Alone simple) = simple_fair simple
  statement_fair (VarTyped names kind None) = ready_fair _
  statement_fair (VarTyped names kind (Some right)) = gives_fair _ right
  statement_fair (VarUntyped names right) = gives_fair _ right
  statement_fair (Block body) = ready_fair _
  statement_fair (If (Conditional head condition body otherwise)) = ready_fair _
  statement_fair (For head body) = for_fair head body
  statement_fair (Select clauses) = then_fair _ (λ cases. then_fair _ (λ given. ready_fair (chosen globals blocks rest clauses given)) (needs (Asking (requests.Select cases (is_some (default_of globals blocks rest clauses))))) (needs_fair _)) (cases_of globals blocks rest clauses) (cases_fair clauses)
  statement_fair (Go function arguments) = then_fair _ (λ all. does_fair (Asking (requests.Go (number_of globals function) (flat_map (λ words. words) all)))) (arguments_of globals blocks rest arguments) (arguments_fair arguments)
  statement_fair (Return NoValue) = ready_fair _
  statement_fair (Return (ReturnedValue e)) = then_fair _ (λ v. ready_fair (GivesBack v)) (value globals blocks e) (value_fair globals blocks e)
  statement_fair Break = ready_fair _
  statement_fair Continue = ready_fair _

  task_fair : (task : Task) → IsFair (task_work globals blocks rest task)
  task_fair (Do s) = statement_fair s
  task_fair EndBlock = ready_fair _
  task_fair (Decide condition body otherwise) = then_fair _ (λ word. either_fair (truth_in word) _ _ (ready_fair _) (otherwise_fair otherwise)) (one globals blocks rest condition) (one_fair condition)
  task_fair (Head loop) = head_fair loop
  task_fair (Again loop) = again_fair loop
  task_fair (Turn loop) = ready_fair _
  task_fair EndSelect = ready_fair _

pub tasks_fair : (globals : Globals) (blocks : Blocks) (tasks : List Task) → IsFair (tasks_work globals blocks tasks)
tasks_fair globals blocks [] = ready_fair (GivesBack [])
tasks_fair globals blocks (task ∷ rest) = task_fair globals blocks rest task
