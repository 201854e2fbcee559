-- Steps without cost end: what is still to be done weighs less after each.
use Rattle.std.proofs.Common.{◌≡◌, ℕ, pos, zero, suc, ◌+◌, ◌<◌, ◌≤◌, Bool, true, false, cond, List, [], ◌∷◌, ◌++◌, length, Option, Some, None, refl, arith}
use Rattle.std.specs.Option.{is_some}
use Rattle.std.specs.Prelude.{nat_lt, slice_get, if◌then◌else◌}
use Rattle.type_table.specs.Types.{ValueType}
use Rattle.type_table.specs.Scopes.{Globals}
use Rattle.syntax.specs.Tree.{Expression, Place, Simple, CallAlone, Close, Print, ReceiveAlone, Send, Increment, Decrement, Assign, Define, Update, Bare, Semicolon, First, ForHead, Forever, While, ForClauses, Range, Returned, NoValue, ReturnedValue, Statement, Empty, Alone, VarTyped, VarUntyped, Block, If, For, Select, Go, Return, Break, Continue, Statements, NoStatement, Then, Branch, Conditional, Otherwise, NoElse, ElseBlock, ElseIf, Clauses, NoClause, Clause, Function, File}
use Rattle.syntax.specs.declared.node.BinaryOperator.{BinaryOperator}
use Rattle.syntax.specs.declared.node.BinaryOperator.TheVariants.{Add, Subtract}
use Rattle.word.specs.declared.value.Word.{Word}
use Rattle.word.specs.declared.value.Word.TheVariants.{Int, Bool as Truth, Chan}
use Rattle.word.specs.Values.{Request, Nothing, Value as Answer, Received, Clause as Chose, Default, Closed}
use Rattle.word.specs.Values as requests
use Rattle.word.specs.Kinds.{Ticks, Asks}
use Rattle.word.specs.Related.{Falls}
use Rattle.word.specs.declared.limits.TheConstants.{MAX_DEPTH}
use Rattle.meaning.specs.Values.{Value, reply_words}
use Rattle.meaning.specs.Worked.{Need, Asking, Calling, Given, Told, Yielded, Reached, Came, Fails, Needs, Worked, ready, needs, go_on_from, and_then}
use Rattle.meaning.specs.Variables.{Blocks, Destination, left}
use Rattle.meaning.specs.Tasks.{Loop, Repeating, Ranging, Task, Do, EndBlock, Decide, Head, Again, Turn, EndSelect, Frames, Course, Goes, Moves, GivesBack, all_of, broken, continued}
use Rattle.meaning.specs.Expressions.{binary, told, value, right_values}
use Rattle.meaning.specs.Destinations.{placed}
use Rattle.meaning.specs.Source.{globals, functions, truth_in, go_on, channel, item_in, asks, does, stores, gives, value_at, updates, kept, simple_work, enters_block, leaves_block, branch_work, otherwise_work, for_work, assigned, next_item, body_work, head_work, again_work, ranges, at_clause, cases_of, chosen, default_of, at_default, return_work, statement_work, task_work, tasks_work, give_back, enters, needed, taken, reached, source_next}

abbrev first_weight : Option Simple → ℕ
first_weight None = 0
first_weight (Some simple) = 2

abbrev again_weight : Option Simple → ℕ
again_weight post = 2 + first_weight post

abbrev mutual
  statement_weight : Statement → ℕ
  statement_weight (Block body) = 2 + body_weight body
  statement_weight (If branch) = 1 + branch_weight branch
  statement_weight (For head body) = 20 + body_weight body
  statement_weight (Select clauses) = 3 + clauses_weight clauses
  statement_weight statement = 1

  body_weight : Statements → ℕ
  body_weight NoStatement = 0
  body_weight (Then first rest) = statement_weight first + body_weight rest

  branch_weight : Branch → ℕ
  branch_weight (Conditional head condition body otherwise) = 3 + (2 + body_weight body + otherwise_weight otherwise)

  otherwise_weight : Otherwise → ℕ
  otherwise_weight NoElse = 0
  otherwise_weight (ElseBlock body) = 1 + body_weight body
  otherwise_weight (ElseIf branch) = 1 + branch_weight branch

  clauses_weight : Clauses → ℕ
  clauses_weight NoClause = 0
  clauses_weight (Clause comm body more) = body_weight body + clauses_weight more

abbrev head_weight : Loop → ℕ
head_weight (Repeating condition post body) = 2 + body_weight body + again_weight post
head_weight (Ranging destinations z body) = 8 + body_weight body

abbrev loop_weight : Loop → ℕ
loop_weight (Repeating condition post body) = again_weight post
loop_weight (Ranging destinations z body) = 2

abbrev task_weight : Task → ℕ
task_weight (Do statement) = statement_weight statement
task_weight (Decide condition body otherwise) = 2 + body_weight body + otherwise_weight otherwise
task_weight (Head loop) = head_weight loop
task_weight (Again loop) = loop_weight loop
task_weight task = 1

abbrev tasks_weight : List Task → ℕ
tasks_weight [] = 0
tasks_weight (task ∷ rest) = task_weight task + tasks_weight rest

abbrev pub weight : Frames → ℕ
weight [] = 0
weight (top ∷ callers) = 1 + tasks_weight top.tasks + weight callers

append_weight : (xs ys : List Task) → tasks_weight (xs ++ ys) ≡ tasks_weight xs + tasks_weight ys
append_weight [] ys = omega arith
append_weight (x ∷ xs) ys = omega (arith, append_weight xs ys)

body_is : (body : Statements) → tasks_weight (all_of body) ≡ body_weight body
body_is NoStatement = refl
body_is (Then first rest) = omega (arith, body_is rest)

broken_weight : (blocks : Blocks) (tasks : List Task) → tasks_weight (broken blocks tasks).tasks ≤ tasks_weight tasks
broken_weight blocks [] = omega arith
broken_weight blocks (EndBlock ∷ rest) = omega (arith, broken_weight (left blocks) rest)
broken_weight blocks (Again loop ∷ rest) = omega arith
broken_weight blocks (EndSelect ∷ rest) = omega arith
broken_weight blocks (Do s ∷ rest) = omega (arith, broken_weight blocks rest)
broken_weight blocks (Decide c b o ∷ rest) = omega (arith, broken_weight blocks rest)
broken_weight blocks (Head loop ∷ rest) = omega (arith, broken_weight blocks rest)
broken_weight blocks (Turn loop ∷ rest) = omega (arith, broken_weight blocks rest)

continued_weight : (blocks : Blocks) (tasks : List Task) → tasks_weight (continued blocks tasks).tasks ≤ tasks_weight tasks
continued_weight blocks [] = omega arith
continued_weight blocks (EndBlock ∷ rest) = omega (arith, continued_weight (left blocks) rest)
continued_weight blocks (Again loop ∷ rest) = omega arith
continued_weight blocks (EndSelect ∷ rest) = omega (arith, continued_weight (left blocks) rest)
continued_weight blocks (Do s ∷ rest) = omega (arith, continued_weight blocks rest)
continued_weight blocks (Decide c b o ∷ rest) = omega (arith, continued_weight blocks rest)
continued_weight blocks (Head loop ∷ rest) = omega (arith, continued_weight blocks rest)
continued_weight blocks (Turn loop ∷ rest) = omega (arith, continued_weight blocks rest)

-- ---- where a task leads to without cost, less is to be done

abbrev Lighter : ℕ → Course → Type 0
Lighter n (Goes top) = tasks_weight top.tasks < n
Lighter n (Moves top) = Unit {0}
Lighter n (GivesBack result) = Unit {0}

abbrev Light : ℕ → Reached Course → Type 0
Light n (Came course left) = Lighter n course
Light n (Fails cause) = Unit {0}
Light n (Needs need) = Unit {0}

record Leads (n : ℕ) (work : Worked Course) : Type 0 where
  light : (given : List Given) → Light n (work given)

light_from : {A : Type 0} (r : Reached A) (f : A → Worked Course) (n : ℕ) → ((a : A) → Leads n (f a)) → Light n (go_on_from r f)
light_from (Came a left) f n each = (each a).light left
light_from (Fails cause) f n each = tt
light_from (Needs need) f n each = tt

then_leads : {A : Type 0} (work : Worked A) (f : A → Worked Course) (n : ℕ) → ((a : A) → Leads n (f a)) → Leads n (and_then work f)
then_leads work f n each = record { light = λ given. light_from (work given) f n each }

module _ (globals : Globals) (blocks : Blocks) (rest : List Task) where
  abbrev following : ℕ
  following = tasks_weight rest

  goes : (tasks : List Task) (n : ℕ) → tasks_weight tasks + following < n → Leads n (go_on globals blocks rest tasks)
  goes tasks n less = let e : tasks_weight (tasks ++ rest) < n = omega (arith, append_weight tasks rest, less) in record { light = λ given. e }

  enters_leads : (tasks : List Task) (n : ℕ) → 1 + tasks_weight tasks + following < n → Leads n (enters_block globals blocks rest tasks)
  enters_leads tasks n less = let e : tasks_weight (tasks ++ EndBlock ∷ rest) < n = omega (arith, append_weight tasks (EndBlock ∷ rest), less) in record { light = λ given. e }

  leaves_leads : (tasks : List Task) (n : ℕ) → tasks_weight tasks + following < n → Leads n (leaves_block globals blocks rest tasks)
  leaves_leads tasks n less = let e : tasks_weight (tasks ++ rest) < n = omega (arith, append_weight tasks rest, less) in record { light = λ given. e }

  does_leads : (need : Need) (n : ℕ) → following < n → Leads n (does globals blocks rest need)
  does_leads need n less = then_leads _ _ n (λ given. goes [] n (omega (arith, less)))

  gives_leads : (destinations : List Destination) (right : List Expression) (n : ℕ) → Leads n (gives globals blocks rest destinations right)
  gives_leads destinations right n = then_leads (right_values globals blocks (length destinations) right) (stores globals blocks rest destinations) n (λ all. record { light = λ given. tt })

  updates_leads : (place : Place) (operator : BinaryOperator) (operand : Worked Value) (n : ℕ) → Leads n (updates globals blocks rest place operator operand)
  updates_leads place operator operand n =
      then_leads (binary operator (ready (value_at globals blocks rest place)) operand) (λ v. stores globals blocks rest (placed globals blocks place ∷ []) (v ∷ [])) n (λ v. record { light = λ given. tt })

  send_leads : (c : Option ℕ) (item : Worked Value) (n : ℕ) → following < n → Leads n (and_then item (λ words. asks globals blocks rest (requests.Send c words)))
  send_leads c item n less = then_leads item (λ words. asks globals blocks rest (requests.Send c words)) n (λ words. does_leads (Asking (requests.Send c words)) n less)

  simple_leads : (simple : Simple) (n : ℕ) → following < n → Leads n (simple_work globals blocks rest simple)
  simple_leads (CallAlone function arguments) n less = then_leads _ _ n (λ all. does_leads _ n less)
  simple_leads (Close from) n less = then_leads _ _ n (λ c. does_leads _ n less)
  simple_leads (Print line parts trailing) n less = then_leads _ _ n (λ all. does_leads _ n less)
  simple_leads (ReceiveAlone from) n less = then_leads _ _ n (λ c. does_leads _ n less)
  simple_leads (Send to item) n less = then_leads (channel globals blocks rest to) (λ c. and_then (item_in globals blocks rest to item) (λ words. asks globals blocks rest (requests.Send c words))) n (λ c. send_leads c (item_in globals blocks rest to item) n less)
  simple_leads (Increment place) n less = updates_leads place Add (ready (Int (pos 1) ∷ [])) n
  simple_leads (Decrement place) n less = updates_leads place Subtract (ready (Int (pos 1) ∷ [])) n
  simple_leads (Assign places right) n less = gives_leads _ right n
  simple_leads (Define names right) n less = gives_leads _ right n
  simple_leads (Update place operator operand) n less = updates_leads place operator (value globals blocks operand) n

  otherwise_leads : (otherwise : Otherwise) (n : ℕ) → 1 + otherwise_weight otherwise + following < n → Leads n (otherwise_work globals blocks rest otherwise)
  otherwise_leads NoElse n less = goes [] n (omega (arith, less))
  otherwise_leads (ElseBlock body) n less = enters_leads (all_of body) n (omega (arith, body_is body, less))
  otherwise_leads (ElseIf branch) n less = goes (Do (If branch) ∷ []) n (omega (arith, less))

  decides_leads : (body : Statements) (otherwise : Otherwise) (n : ℕ) (b : Bool) → 1 + body_weight body + otherwise_weight otherwise + following < n
      → Leads n (if b then enters_block globals blocks rest (all_of body) else otherwise_work globals blocks rest otherwise)
  decides_leads body otherwise n true less = enters_leads (all_of body) n (omega (arith, body_is body, less))
  decides_leads body otherwise n false less = otherwise_leads otherwise n (omega (arith, less))

  body_leads : (loop : Loop) (body : Statements) (n : ℕ) → body_weight body + loop_weight loop + following < n → Leads n (body_work globals blocks rest loop body)
  body_leads loop body n less = let e : tasks_weight (all_of body ++ Again loop ∷ rest) < n = omega (arith, append_weight (all_of body) (Again loop ∷ rest), body_is body, less) in record { light = λ given. e }

  tested_leads : (loop : Loop) (body : Statements) (n : ℕ) (b : Bool) → body_weight body + loop_weight loop + following < n
      → Leads n (if b then body_work globals blocks rest loop body else go_on globals blocks rest [])
  tested_leads loop body n true less = body_leads loop body n less
  tested_leads loop body n false less = goes [] n (omega (arith, less))

  -- what was received is stored at a cost, or there is nothing to store
  assigned_light : (destinations : List Destination) (all : List Value) (tasks : List Task) (n : ℕ) → tasks_weight tasks < n → Lighter n (assigned globals blocks rest destinations all tasks)
  assigned_light [] all tasks n less = less
  assigned_light (first ∷ more) all tasks n less = tt

  item_light : (destinations : List Destination) (z : Value) (body : Statements) (got : List Value) (n : ℕ) → 4 + body_weight body + following < n → Lighter n (next_item globals blocks rest destinations z body got)
  item_light destinations z body [] n less = omega (arith, less)
  item_light destinations z body (item ∷ []) n less = omega (arith, less)
  item_light destinations z body (item ∷ ([] ∷ more)) n less = omega (arith, less)
  item_light destinations z body (item ∷ ((Truth true ∷ ok) ∷ more)) n less =
      assigned_light destinations (item ∷ ((Truth true ∷ ok) ∷ more)) (Do (Block body) ∷ (Again (Ranging destinations z body) ∷ rest)) n (omega (arith, less))
  item_light destinations z body (item ∷ ((Truth false ∷ ok) ∷ more)) n less = omega (arith, less)
  item_light destinations z body (item ∷ ((Int i ∷ ok) ∷ more)) n less = omega (arith, less)
  item_light destinations z body (item ∷ ((Chan c ∷ ok) ∷ more)) n less = omega (arith, less)

  head_leads : (loop : Loop) (n : ℕ) → head_weight loop + following ≤ n → Leads n (head_work globals blocks rest loop)
  head_leads (Repeating None post body) n less = body_leads (Repeating None post body) body n (omega (arith, less))
  head_leads (Repeating (Some condition) post body) n less = then_leads _ _ n (λ word. tested_leads (Repeating (Some condition) post body) body n (truth_in word) (omega (arith, less)))
  head_leads (Ranging destinations z body) n less = then_leads (told (z ∷ (Truth false ∷ []) ∷ []) (Asking (requests.Receive (kept globals blocks rest)))) (λ got. ready (next_item globals blocks rest destinations z body got)) n (λ got. record { light = λ given. item_light destinations z body got n (omega (arith, less)) })

  again_leads : (loop : Loop) (n : ℕ) → loop_weight loop + following ≤ n → Leads n (again_work globals blocks rest loop)
  again_leads (Repeating condition None body) n less = leaves_leads (Turn (Repeating condition None body) ∷ []) n (omega (arith, less))
  again_leads (Repeating condition (Some post) body) n less = record { light = λ given. omega (arith, less) }
  again_leads (Ranging destinations z body) n less = leaves_leads (Turn (Ranging destinations z body) ∷ []) n (omega (arith, less))

  ranges_leads : (destinations : List Destination) (kind : ValueType) (body : Statements) (from : Expression) (c : Option ℕ) (n : ℕ) → 20 + body_weight body + following ≤ n
      → Leads n (ranges globals blocks rest destinations kind body from c)
  ranges_leads destinations kind body from c n less = record { light = λ given. omega (arith, less) }

  for_leads : (head : ForHead) (body : Statements) (n : ℕ) → 20 + body_weight body + following ≤ n → Leads n (for_work globals blocks rest head body)
  for_leads Forever body n less = goes (Head (Repeating None None body) ∷ []) n (omega (arith, less))
  for_leads (While condition) body n less = goes (Head (Repeating (Some condition) None body) ∷ []) n (omega (arith, less))
  for_leads (ForClauses None condition None) body n less = enters_leads (Head (Repeating condition None body) ∷ []) n (omega (arith, less))
  for_leads (ForClauses None condition (Some post)) body n less = enters_leads (Head (Repeating condition (Some post) body) ∷ []) n (omega (arith, less))
  for_leads (ForClauses (Some first) condition None) body n less = enters_leads (Do (Alone first) ∷ (Head (Repeating condition None body) ∷ [])) n (omega (arith, less))
  for_leads (ForClauses (Some first) condition (Some post)) body n less = enters_leads (Do (Alone first) ∷ (Head (Repeating condition (Some post) body) ∷ [])) n (omega (arith, less))
  for_leads (Range target from) body n less = then_leads _ _ n (λ c. ranges_leads _ _ body from c n less)

  branch_leads : (branch : Branch) (n : ℕ) → branch_weight branch + following < n → Leads n (branch_work globals blocks rest branch)
  branch_leads (Conditional Bare condition body otherwise) n less = enters_leads (Decide condition body otherwise ∷ []) n (omega (arith, less))
  branch_leads (Conditional Semicolon condition body otherwise) n less = enters_leads (Decide condition body otherwise ∷ []) n (omega (arith, less))
  branch_leads (Conditional (First simple) condition body otherwise) n less = enters_leads (Do (Alone simple) ∷ (Decide condition body otherwise ∷ [])) n (omega (arith, less))

  return_leads : (returned : Returned) (n : ℕ) → Leads n (return_work globals blocks rest returned)
  return_leads NoValue n = record { light = λ given. tt }
  return_leads (ReturnedValue expression) n = then_leads (value globals blocks expression) (λ v. ready (GivesBack v)) n (λ v. record { light = λ given. tt })

  -- ---- selects

  way_light : (body : Statements) (n : ℕ) → 1 + body_weight body + following < n → tasks_weight (all_of body ++ EndSelect ∷ rest) < n
  way_light body n less = omega (arith, append_weight (all_of body) (EndSelect ∷ rest), body_is body, less)

  clause_light : (clauses : Clauses) (k : ℕ) (got : List Word) (n : ℕ) → 1 + clauses_weight clauses + following < n → Lighter n (at_clause globals blocks rest clauses k got)
  clause_light NoClause k got n less = omega (arith, less)
  clause_light (Clause None body more) k got n less = clause_light more k got n (omega (arith, less))
  clause_light (Clause (Some comm) body more) zero got n less = omega (arith, less)
  clause_light (Clause (Some comm) body more) (suc zero) got n less = assigned_light _ _ (all_of body ++ EndSelect ∷ rest) n (way_light body n (omega (arith, less)))
  clause_light (Clause (Some comm) body more) (suc (suc k)) got n less = clause_light more (suc k) got n (omega (arith, less))

  default_light : (clauses : Clauses) (n : ℕ) → 1 + clauses_weight clauses + following < n → Lighter n (at_default globals blocks rest (default_of globals blocks rest clauses))
  default_light NoClause n less = omega (arith, less)
  default_light (Clause None body more) n less = way_light body n (omega (arith, less))
  default_light (Clause (Some comm) body more) n less = default_light more n (omega (arith, less))

  chosen_light : (clauses : Clauses) (given : Given) (n : ℕ) → 1 + clauses_weight clauses + following < n → Lighter n (chosen globals blocks rest clauses given)
  chosen_light clauses (Told (Chose k got)) n less = clause_light clauses k (reply_words (Chose k got)) n less
  chosen_light clauses (Told Nothing) n less = default_light clauses n less
  chosen_light clauses (Told (Answer w)) n less = default_light clauses n less
  chosen_light clauses (Told (Received item ok)) n less = default_light clauses n less
  chosen_light clauses (Told Default) n less = default_light clauses n less
  chosen_light clauses (Told Closed) n less = default_light clauses n less
  chosen_light clauses (Yielded v) n less = default_light clauses n less

  statement_leads : (statement : Statement) (n : ℕ) → statement_weight statement + following ≤ n → Leads n (statement_work globals blocks rest statement)
  statement_leads Empty n less = goes [] n (omega (arith, less))
  statement_leads (Alone simple) n less = simple_leads simple n (omega (arith, less))
  statement_leads (VarTyped names kind None) n less = record { light = λ given. tt }
  statement_leads (VarTyped names kind (Some right)) n less = gives_leads _ right n
  statement_leads (VarUntyped names right) n less = gives_leads _ right n
  statement_leads (Block body) n less = enters_leads (all_of body) n (omega (arith, body_is body, less))
  statement_leads (If branch) n less = branch_leads branch n (omega (arith, less))
  statement_leads (For head body) n less = for_leads head body n less
  statement_leads (Select clauses) n less =
      then_leads (cases_of globals blocks rest clauses) (λ cases. and_then (needs (Asking (requests.Select cases (is_some (default_of globals blocks rest clauses))))) (λ given. ready (chosen globals blocks rest clauses given))) n
      (λ cases. then_leads (needs (Asking (requests.Select cases (is_some (default_of globals blocks rest clauses))))) (λ given. ready (chosen globals blocks rest clauses given)) n (λ given. record { light = λ left. chosen_light clauses given n (omega (arith, less)) }))
  statement_leads (Go function arguments) n less = then_leads _ _ n (λ all. does_leads _ n (omega (arith, less)))
  statement_leads (Return returned) n less = return_leads returned n
  statement_leads Break n less = record { light = λ given. omega (arith, broken_weight blocks rest, less) }
  statement_leads Continue n less = record { light = λ given. omega (arith, continued_weight blocks rest, less) }

  task_leads : (task : Task) (n : ℕ) → task_weight task + following ≤ n → Leads n (task_work globals blocks rest task)
  task_leads (Do statement) n less = statement_leads statement n less
  task_leads EndBlock n less = leaves_leads [] n (omega (arith, less))
  task_leads (Decide condition body otherwise) n less = then_leads _ _ n (λ word. decides_leads body otherwise n (truth_in word) (omega (arith, less)))
  task_leads (Head loop) n less = head_leads loop n less
  task_leads (Again loop) n less = again_leads loop n less
  task_leads (Turn loop) n less = record { light = λ given. tt }
  task_leads EndSelect n less = leaves_leads [] n (omega (arith, less))

tasks_leads : (globals : Globals) (blocks : Blocks) (tasks : List Task) → Leads (tasks_weight tasks) (tasks_work globals blocks tasks)
tasks_leads globals blocks [] = record { light = λ given. tt }
tasks_leads globals blocks (task ∷ rest) = task_leads globals blocks rest task (tasks_weight (task ∷ rest)) (omega arith)

-- ---- steps

back_falls : (result : Value) (callers : Frames) (n : ℕ) → weight callers < n → Falls weight n (give_back result callers)
back_falls result [] n less = tt
back_falls result (caller ∷ callers) n less = omega (arith, less)

enters_or_panics : (a : Frames) (q : Request) (n : ℕ) (deep : Bool) → Falls weight n (cond deep (Ticks a) (Asks q))
enters_or_panics a q n true = tt
enters_or_panics a q n false = tt

module _ (file : File) where
  enters_falls : (frames : Frames) (arguments : List Value) (n : ℕ) (found : Option Function) → Falls weight n (enters file frames arguments found)
  enters_falls frames arguments n None = tt
  enters_falls frames arguments n (Some function) = enters_or_panics _ _ n (nat_lt (length frames) MAX_DEPTH)

  needed_falls : (frames : Frames) (need : Need) (n : ℕ) → Falls weight n (needed file frames need)
  needed_falls frames (Asking request) n = tt
  needed_falls frames (Calling number arguments) n = enters_falls frames arguments n (slice_get (functions file) number)

  taken_falls : (callers : Frames) (course : Course) (n : ℕ) → Lighter n course → Falls weight (1 + n + weight callers) (taken file callers course)
  taken_falls callers (Goes top) n light = omega (arith, light)
  taken_falls callers (Moves top) n light = tt
  taken_falls callers (GivesBack result) n light = back_falls result callers (1 + n + weight callers) (omega arith)

  reached_falls : (blocks : Blocks) (given : List Given) (tasks : List Task) (callers : Frames) (r : Reached Course) (n : ℕ) → Light n r
      → Falls weight (1 + n + weight callers) (reached file (record { blocks = blocks; given = given; tasks = tasks }) callers r)
  reached_falls blocks given tasks callers (Came course left) n light = taken_falls callers course n light
  reached_falls blocks given tasks callers (Fails cause) n light = tt
  reached_falls blocks given tasks callers (Needs need) n light = needed_falls (record { blocks = blocks; given = given; tasks = tasks } ∷ callers) need (1 + n + weight callers)

  -- steps without cost end
  pub source_falls : (state : Frames) → Falls weight (weight state) (source_next file state)
  source_falls [] = tt
  source_falls (top ∷ callers) =
      reached_falls top.blocks top.given top.tasks callers (tasks_work (globals file) top.blocks top.tasks top.given) (tasks_weight top.tasks) ((tasks_leads (globals file) top.blocks top.tasks).light top.given)
