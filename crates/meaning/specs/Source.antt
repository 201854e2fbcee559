-- What a program does: its source as a kind of goroutine.
--
-- A goroutine is a stack of frames, the function that runs first. A frame has the variables of its function, by name and in
-- blocks, the tasks that are still to be done, the next one first, and what the calls and requests within the next one have given
-- so far. If one more is needed, it is done, and the task goes on with what it gave; if none is, the task is done, or is taken
-- apart into smaller ones. What a step costs: an assignment one, a loop's way back to its head one, the call of a function one, and
-- nothing else.
use Rattle.std.specs.Prelude.{ℕ, zero, suc, nat_lt, pos, Bool, true, false, cond, List, [], ◌∷◌, ◌++◌, map, flat_map, length, take, drop, Option, Some, None, option_map, slice_get, if◌then◌else◌, codes}
use Rattle.std.specs.Option.{is_some}
use Rattle.syntax.specs.declared.node.BinaryOperator.{BinaryOperator}
use Rattle.syntax.specs.declared.node.BinaryOperator.TheVariants.{Add, Subtract}
use Rattle.syntax.specs.Tree.{Expression, expressions, Arguments, Place, Part, Value as ValuePart, Text, Simple, CallAlone, Close, Print, ReceiveAlone, Send, Increment, Decrement, Assign, Define, Update, IfHead, Bare, Semicolon, First, Target, NoTarget, DefineTarget, AssignTarget, ForHead, Forever, While, ForClauses, Range, Comm, CommSend, CommReceive, CommDefine, CommAssign, Returned, NoValue, ReturnedValue, Statement, Empty, Alone, VarTyped, VarUntyped, Block, If, For, Select, Go, Return, Break, Continue, Statements, Branch, Conditional, Otherwise, NoElse, ElseBlock, ElseIf, Clauses, NoClause, Clause, Function, File}
use Rattle.word.specs.declared.value.Word.{Word}
use Rattle.word.specs.declared.value.Word.TheVariants.{Int, Bool as Truth, Chan}
use Rattle.word.specs.declared.panic.Panic.TheVariants.{CallDepth}
use Rattle.word.specs.declared.limits.TheConstants.{MAX_DEPTH}
use Rattle.word.specs.declared.request.Case.{Case}
use Rattle.word.specs.Values.{Request, Reply, Clause as Clause'}
use Rattle.word.specs.Values as requests
use Rattle.word.specs.Kinds.{Next, Slides, Ticks, Asks, GoroutineKind}
use Rattle.word.specs.Text.{text_of}
use Rattle.type_table.specs.Types.{ValueType, BoolType}
use Rattle.type_table.specs.Containment.{Field}
use Rattle.type_table.specs.Scopes.{Globals}
use Rattle.type_table.specs.Zeros.{zero_words}
use Rattle.typing_rules.specs.Kinds.{fields_declared, globals_of}
use Rattle.meaning.specs.Values.{Value, known, words_at, parted, reply_words}
use Rattle.meaning.specs.Worked.{Need, Asking, Calling, Given, Told, Yielded, Reached, Came, Fails, Needs, Worked, ready, needs, and_then}
use Rattle.meaning.specs.Variables.{Blocks, entered, declare, left, lookup, innermost, in_block, value_of, blank, as_kind, holding, Destination, all_stored}
use Rattle.meaning.specs.Expressions.{word_in, channel_in, binary, written_kind, number_of, item_zeros, told, type_of, element_kind, value, values, right_values}
use Rattle.meaning.specs.Destinations.{functions_in, given_kinds, new, all_new, all_defined, place_slot, placed}
use Rattle.meaning.specs.Tasks.{Loop, Repeating, Ranging, Task, Do, EndBlock, Decide, Head, Again, Turn, EndSelect, Frame, Frames, frame, with_given, Course, Goes, Moves, GivesBack, all_of, if_any, broken, continued}

-- ---- what is printed

abbrev pub spaced : Bool → List (List ℕ) → List ℕ
spaced line [] = cond line (10 ∷ []) []
spaced line (text ∷ rest) = cond line (32 ∷ []) [] ++ (text ++ spaced line rest)

-- a line has a space between two parts, and a newline after the last
abbrev pub printed : Bool → List (List ℕ) → List ℕ
printed line [] = cond line (10 ∷ []) []
printed line (text ∷ rest) = text ++ spaced line rest

-- ---- words of a kind; one of another kind never comes

abbrev pub truth_in : Word → Bool
truth_in (Truth b) = b
truth_in word = false

module _ (globals : Globals) where
  abbrev pub zero_of : ValueType → Value
  zero_of kind = zero_words globals.structs kind

  -- parameters are declared with their arguments, one after the other
  abbrev pub bound : List Field → List Value → Blocks → Blocks
  bound [] arguments blocks = blocks
  bound (field ∷ rest) [] blocks = bound rest [] (declare (holding globals.structs field.name (known field.kind) []) blocks)
  bound (field ∷ rest) (argument ∷ arguments) blocks =
      bound rest arguments (declare (holding globals.structs field.name (known field.kind) argument) blocks)

  abbrev pub parameters_of : Function → List Field
  parameters_of function = fields_declared globals.types function.parameters

  abbrev pub entered_with : Function → List Value → Frame
  entered_with function arguments = frame (bound (parameters_of function) arguments (entered [])) (all_of function.body)

-- the variables, and what is to be done after the task
module _ (globals : Globals) (blocks : Blocks) (rest : List Task) where
  abbrev pub go_on : List Task → Worked Course
  go_on tasks = ready (Goes (frame blocks (tasks ++ rest)))

  abbrev pub value_in : Expression → Worked Value
  value_in expression = value globals blocks expression

  abbrev pub one : Expression → Worked Word
  one expression = and_then (value_in expression) (λ words. ready (word_in words))

  abbrev pub channel : Expression → Worked (Option ℕ)
  channel expression = and_then (one expression) (λ word. ready (channel_in word))

  -- something is done that gives nothing that is wanted
  abbrev pub does : Need → Worked Course
  does need = and_then (needs need) (λ given. go_on [])

  abbrev pub asks : Request → Worked Course
  asks request = does (Asking request)

  -- what is sent on a channel is of its elements' type
  abbrev pub item_in : Expression → Expression → Worked Value
  item_in to item = and_then (value_in item) (λ words. ready (as_kind globals.structs (element_kind globals blocks to) words))

  -- ---- simple statements

  -- an assignment is done (Go: Assignment statements)
  abbrev pub stores : List Destination → List Value → Worked Course
  stores destinations all = ready (Moves (frame (all_stored globals.structs destinations all blocks) rest))

  abbrev pub gives : List Destination → List Expression → Worked Course
  gives destinations right = and_then (right_values globals blocks (length destinations) right) (stores destinations)

  abbrev pub value_at : Place → Value
  value_at place = words_at globals.structs (place_slot globals blocks place) (value_of (lookup blocks place.name))

  -- an lvalue gets the value of an operator between its own value and this one
  abbrev pub updates : Place → BinaryOperator → Worked Value → Worked Course
  updates place operator operand =
      and_then (binary operator (ready (value_at place)) operand) (λ v. stores (placed globals blocks place ∷ []) (v ∷ []))

  abbrev pub part_text : Part → Worked (List ℕ)
  part_text (ValuePart expression) = and_then (one expression) (λ word. ready (text_of word))
  part_text (Text bytes) = ready bytes

  abbrev pub texts : List Part → Worked (List (List ℕ))
  texts [] = ready []
  texts (part ∷ parts) = and_then (part_text part) (λ text. and_then (texts parts) (λ more. ready (text ∷ more)))

  abbrev pub arguments_of : Arguments → Worked (List Value)
  arguments_of arguments = values globals blocks (expressions arguments.values)

  abbrev pub simple_work : Simple → Worked Course
  simple_work (CallAlone function arguments) = and_then (arguments_of arguments) (λ all. does (Calling (number_of globals function) all))
  simple_work (Close from) = and_then (channel from) (λ c. asks (requests.Close c))
  simple_work (Print line parts trailing) = and_then (texts parts) (λ all. asks (requests.Print (printed line all)))
  simple_work (ReceiveAlone from) = and_then (channel from) (λ c. asks (requests.Receive c))
  simple_work (Send to item) = and_then (channel to) (λ c. and_then (item_in to item) (λ words. asks (requests.Send c words)))
  simple_work (Increment place) = updates place Add (ready (Int (pos 1) ∷ []))
  simple_work (Decrement place) = updates place Subtract (ready (Int (pos 1) ∷ []))
  simple_work (Assign places right) = gives (map (placed globals blocks) places) right
  simple_work (Define names right) = gives (all_defined globals blocks names (given_kinds globals blocks (length names) right)) right
  simple_work (Update place operator operand) = updates place operator (value_in operand)

  -- ---- blocks, if and for

  abbrev pub enters_block : List Task → Worked Course
  enters_block tasks = ready (Goes (frame (entered blocks) (tasks ++ EndBlock ∷ rest)))

  abbrev pub leaves_block : List Task → Worked Course
  leaves_block tasks = ready (Goes (frame (left blocks) (tasks ++ rest)))

  abbrev pub first_tasks : IfHead → List Task
  first_tasks (First simple) = Do (Alone simple) ∷ []
  first_tasks Bare = []
  first_tasks Semicolon = []

  -- an if is a block of its own round what it holds (Go: If statements)
  abbrev pub branch_work : Branch → Worked Course
  branch_work (Conditional head condition body otherwise) = enters_block (first_tasks head ++ Decide condition body otherwise ∷ [])

  abbrev pub otherwise_work : Otherwise → Worked Course
  otherwise_work NoElse = go_on []
  otherwise_work (ElseBlock body) = enters_block (all_of body)
  otherwise_work (ElseIf branch) = go_on (Do (If branch) ∷ [])

  abbrev pub decides : Statements → Otherwise → Word → Worked Course
  decides body otherwise word = if truth_in word then enters_block (all_of body) else otherwise_work otherwise

  -- where a range's items go; `v := range` declares v for each item anew
  abbrev pub item_destinations : ValueType → Target → List Destination
  item_destinations kind NoTarget = []
  item_destinations kind (DefineTarget name) = new globals blocks name kind ∷ []
  item_destinations kind (AssignTarget place) = placed globals blocks place ∷ []

  -- a range's channel is evaluated once, and kept in a block of its own
  abbrev pub keeps : ValueType → Option ℕ → Blocks
  keeps kind c = declare (holding globals.structs blank kind (Chan c ∷ [])) (entered blocks)

  abbrev pub kept : Option ℕ
  kept = channel_in (word_in (value_of (in_block (innermost blocks) blank)))

  abbrev pub ranges : List Destination → ValueType → Statements → Expression → Option ℕ → Worked Course
  ranges destinations kind body from c =
      ready (Goes (frame (keeps (type_of globals blocks from) c) (Head (Ranging destinations (zero_of globals kind) body) ∷ (EndBlock ∷ rest))))

  -- a for is a block of its own round what it holds (Go: For statements)
  abbrev pub for_work : ForHead → Statements → Worked Course
  for_work Forever body = go_on (Head (Repeating None None body) ∷ [])
  for_work (While condition) body = go_on (Head (Repeating (Some condition) None body) ∷ [])
  for_work (ForClauses first condition post) body = enters_block (if_any first (Head (Repeating condition post body) ∷ []))
  for_work (Range target from) body =
      let kind = element_kind globals blocks from in and_then (channel from) (ranges (item_destinations kind target) kind body from)

  abbrev pub body_work : Loop → Statements → Worked Course
  body_work loop body = ready (Goes (frame (entered blocks) (all_of body ++ Again loop ∷ rest)))

  -- an item that was received is assigned if there is a left side, in a block of its own, and then these tasks are done
  abbrev pub assigned : List Destination → List Value → List Task → Course
  assigned [] all tasks = Goes (frame (entered blocks) tasks)
  assigned (first ∷ more) all tasks = Moves (frame (all_stored globals.structs (first ∷ more) all (entered blocks)) tasks)

  -- if no item is left, the loop has ended; the body is a block within that of the item
  abbrev pub next_item : List Destination → Value → Statements → List Value → Course
  next_item destinations z body (item ∷ ((Truth true ∷ ok) ∷ more)) =
      assigned destinations (item ∷ ((Truth true ∷ ok) ∷ more)) (Do (Block body) ∷ (Again (Ranging destinations z body) ∷ rest))
  next_item destinations z body got = Goes (frame blocks rest)

  abbrev pub head_work : Loop → Worked Course
  head_work (Repeating None post body) = body_work (Repeating None post body) body
  head_work (Repeating (Some condition) post body) =
      and_then (one condition) (λ word. if truth_in word then body_work (Repeating (Some condition) post body) body else go_on [])
  head_work (Ranging destinations z body) =
      and_then (told (z ∷ (Truth false ∷ []) ∷ []) (Asking (requests.Receive kept))) (λ got. ready (next_item destinations z body got))

  -- the body's block ends, and a post statement is done in one of its own
  abbrev pub again_work : Loop → Worked Course
  again_work (Repeating condition None body) = leaves_block (Turn (Repeating condition None body) ∷ [])
  again_work (Repeating condition (Some post) body) =
      ready (Goes (frame (entered (left blocks)) (Do (Alone post) ∷ (EndBlock ∷ (Turn (Repeating condition (Some post) body) ∷ rest)))))
  again_work (Ranging destinations z body) = leaves_block (Turn (Ranging destinations z body) ∷ [])

  -- ---- select (Go: Select statements): all channels and values are evaluated on entry, in source order

  abbrev pub received_case : Expression → Worked Case
  received_case from = and_then (channel from) (λ c. ready (record { chan = c; item = None }))

  abbrev pub case_of : Comm → Worked Case
  case_of (CommSend to item) = and_then (channel to) (λ c. and_then (item_in to item) (λ words. ready (record { chan = c; item = Some words })))
  case_of (CommReceive from) = received_case from
  case_of (CommDefine item ok from) = received_case from
  case_of (CommAssign item ok from) = received_case from

  abbrev pub cases_of : Clauses → Worked (List Case)
  cases_of NoClause = ready []
  cases_of (Clause None body more) = cases_of more
  cases_of (Clause (Some comm) body more) = and_then (case_of comm) (λ first. and_then (cases_of more) (λ others. ready (first ∷ others)))

  -- an item, and whether it was sent
  abbrev pub one_or_two : Destination → Option Destination → List Destination
  one_or_two item None = item ∷ []
  one_or_two item (Some ok) = item ∷ ok ∷ []

  -- a clause is a block of its own, and the names that it declares belong to it
  abbrev pub comm_destinations : Comm → List Destination
  comm_destinations (CommSend to item) = []
  comm_destinations (CommReceive from) = []
  comm_destinations (CommDefine item ok from) =
      one_or_two (new globals blocks item (element_kind globals blocks from)) (option_map (λ name. new globals blocks name BoolType) ok)
  comm_destinations (CommAssign item ok from) = one_or_two (placed globals blocks item) (option_map (placed globals blocks) ok)

  abbrev pub comm_zeros : Comm → List Value
  comm_zeros (CommSend to item) = []
  comm_zeros (CommReceive from) = item_zeros globals (element_kind globals blocks from)
  comm_zeros (CommDefine item ok from) = item_zeros globals (element_kind globals blocks from)
  comm_zeros (CommAssign item ok from) = item_zeros globals (element_kind globals blocks from)

  -- a clause that was done, with the words that it received
  abbrev pub at_comm : Comm → Statements → List Word → Course
  at_comm comm body got = assigned (comm_destinations comm) (parted (comm_zeros comm) got) (all_of body ++ EndSelect ∷ rest)

  -- the clause of a number, counted from 1 without the default; one that is not there never comes
  abbrev pub at_clause : Clauses → ℕ → List Word → Course
  at_clause NoClause k got = Goes (frame blocks rest)
  at_clause (Clause None body more) k got = at_clause more k got
  at_clause (Clause (Some comm) body more) zero got = Goes (frame blocks rest)
  at_clause (Clause (Some comm) body more) (suc zero) got = at_comm comm body got
  at_clause (Clause (Some comm) body more) (suc (suc k)) got = at_clause more (suc k) got

  abbrev pub default_of : Clauses → Option Statements
  default_of NoClause = None
  default_of (Clause None body more) = Some body
  default_of (Clause (Some comm) body more) = default_of more

  abbrev pub at_default : Option Statements → Course
  at_default None = Goes (frame blocks rest)
  at_default (Some body) = Goes (frame (entered blocks) (all_of body ++ EndSelect ∷ rest))

  -- a select goes on
  abbrev pub chosen : Clauses → Given → Course
  chosen clauses (Told (Clause' k got)) = at_clause clauses k (reply_words (Clause' k got))
  chosen clauses given = at_default (default_of clauses)

  abbrev pub select_work : Clauses → Worked Course
  select_work clauses =
      and_then (cases_of clauses) (λ cases.
      and_then (needs (Asking (requests.Select cases (is_some (default_of clauses))))) (λ given. ready (chosen clauses given)))

  -- ---- statements

  abbrev pub return_work : Returned → Worked Course
  return_work NoValue = ready (GivesBack [])
  return_work (ReturnedValue expression) = and_then (value_in expression) (λ v. ready (GivesBack v))

  -- variables of a type, with values or with its zero value
  abbrev pub variables_work : List (List ℕ) → ValueType → Option (List Expression) → Worked Course
  variables_work names kind None = stores (map (λ name. new globals blocks name kind) names) (map (λ name. zero_of globals kind) names)
  variables_work names kind (Some right) = gives (map (λ name. new globals blocks name kind) names) right

  abbrev pub statement_work : Statement → Worked Course
  statement_work Empty = go_on []
  statement_work (Alone simple) = simple_work simple
  statement_work (VarTyped names kind right) = variables_work names (written_kind globals kind) right
  statement_work (VarUntyped names right) = gives (all_new globals blocks names (given_kinds globals blocks (length names) right)) right
  statement_work (Block body) = enters_block (all_of body)
  statement_work (If branch) = branch_work branch
  statement_work (For head body) = for_work head body
  statement_work (Select clauses) = select_work clauses
  statement_work (Go function arguments) =
      and_then (arguments_of arguments) (λ all. asks (requests.Go (number_of globals function) (flat_map (λ words. words) all)))
  statement_work (Return returned) = return_work returned
  statement_work Break = ready (Goes (broken blocks rest))
  statement_work Continue = ready (Goes (continued blocks rest))

  abbrev pub task_work : Task → Worked Course
  task_work (Do statement) = statement_work statement
  task_work EndBlock = leaves_block []
  task_work (Decide condition body otherwise) = and_then (one condition) (decides body otherwise)
  task_work (Head loop) = head_work loop
  task_work (Again loop) = again_work loop
  task_work (Turn loop) = ready (Moves (frame blocks (Head loop ∷ rest)))
  task_work EndSelect = leaves_block []

-- ---- steps

-- the end of a function's body is a return
abbrev pub tasks_work : Globals → Blocks → List Task → Worked Course
tasks_work globals blocks [] = ready (GivesBack [])
tasks_work globals blocks (task ∷ rest) = task_work globals blocks rest task

-- a return from a goroutine's first function is its end (Go: Return statements)
abbrev pub give_back : Value → Frames → Next Frames
give_back result [] = Asks requests.End
give_back result (caller ∷ callers) = Slides (with_given caller (Yielded result) ∷ callers)

module _ (file : File) where
  abbrev pub globals : Globals
  globals = globals_of file.tops

  abbrev pub functions : List Function
  functions = functions_in file.tops

  -- a call: at most 1,000 functions deep, the first one counted (Go: Calls). A function that is not there never comes
  abbrev pub enters : Frames → List Value → Option Function → Next Frames
  enters frames arguments None = Asks (requests.Panic CallDepth)
  enters frames arguments (Some function) =
      cond (nat_lt (length frames) MAX_DEPTH) (Ticks (entered_with globals function arguments ∷ frames)) (Asks (requests.Panic CallDepth))

  abbrev pub needed : Frames → Need → Next Frames
  needed frames (Asking request) = Asks request
  needed frames (Calling number arguments) = enters frames arguments (slice_get functions number)

  abbrev pub taken : Frames → Course → Next Frames
  taken callers (Goes top) = Slides (top ∷ callers)
  taken callers (Moves top) = Ticks (top ∷ callers)
  taken callers (GivesBack result) = give_back result callers

  -- what a function does next; a panic that is met is what the goroutine asks
  abbrev pub reached : Frame → Frames → Reached Course → Next Frames
  reached top callers (Came course left) = taken callers course
  reached top callers (Fails cause) = Asks (requests.Panic cause)
  reached top callers (Needs need) = needed (top ∷ callers) need

  abbrev pub source_next : Frames → Next Frames
  source_next [] = Asks requests.End
  source_next (top ∷ callers) = reached top callers (tasks_work globals top.blocks top.tasks top.given)

  -- words as values of these types
  abbrev pub split : List Field → List Word → List Value
  split [] words = []
  split (field ∷ rest) words = let n = length (zero_of globals (known field.kind)) in take n words ∷ split rest (drop n words)

  -- a goroutine at the beginning of a function
  abbrev pub begun : Option Function → List Word → Frames
  begun None arguments = []
  begun (Some function) arguments = entered_with globals function (split (parameters_of globals function) arguments) ∷ []

abbrev pub source_answer : Frames → Reply → Frames
source_answer [] reply = []
source_answer (top ∷ callers) reply = with_given top (Told reply) ∷ callers

-- the kind of goroutine that runs this file
abbrev pub source_kind : File → GoroutineKind
source_kind file = record {
  State = Frames;
  next = source_next file;
  answer = source_answer;
  begin = λ number arguments. begun file (slice_get (functions file) number) arguments;
  main = number_of (globals file) (codes "main");
}
