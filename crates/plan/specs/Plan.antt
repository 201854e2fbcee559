-- Code with its blocks, before its jumps have targets.
use Rattle.std.specs.Prelude.{ℕ, ◌+◌, Bool, true, false, cond, ◌&&◌, ◌||◌, List, [], ◌∷◌, ◌++◌}
use Rattle.bytecode.specs.declared.instr.Instr.{Instr}
use Rattle.bytecode.specs.declared.instr.Instr.TheVariants as instrs
use Rattle.bytecode.specs.declared.instr.WordKind.{WordKind}
use Rattle.bytecode.specs.Code.{SelectTable}

pub data Plan : Type 0 where
  -- no instruction
  Skip : Plan
  -- an instruction that leads only to the next one, and what comes after it
  Do : (i : Instr) → (rest : Plan) → Plan
  -- one after the other
  Seq : (first rest : Plan) → Plan
  -- pops a truth value: `so` if it is true, else `other`
  IfElse : (so other : Plan) → Plan
  -- pops a truth value: `so` if it is true
  IfThen : (so : Plan) → Plan
  -- a loop: a test that leaves a truth value, a body, what is done after the body before the next test, and what is done if the test
  -- fails
  Cycle : (test body post exit : Plan) → Plan
  -- a loop without a test
  Endless : (body post : Plan) → Plan
  -- a select: its table's number, the table for the pcs at which its ways begin, and its ways, the default's last
  Choose : (q : ℕ) → (make : List ℕ → SelectTable) → (ways : Plan) → Plan
  -- a way of a select, the kinds with which it begins, and the ways after it
  Way : (ks : List WordKind) → (body others : Plan) → Plan
  -- the last way
  LastWay : (ks : List WordKind) → (body : Plan) → Plan
  -- the function returns
  Stop : Plan
  -- a break
  Leave : Plan
  -- a continue
  Again : Plan

-- ---- what can be reached

abbrev mutual
  -- whether what comes after a plan can be reached from it. A test may fail; after a select without ways, which waits forever, there is
  -- code nevertheless
  pub reaches_end : Plan → Bool
  reaches_end Skip = true
  reaches_end (Do i rest) = reaches_end rest
  reaches_end (Seq first rest) = reaches_end first && reaches_end rest
  reaches_end (IfElse so other) = reaches_end so || reaches_end other
  reaches_end (IfThen so) = true
  reaches_end (Cycle test body post exit) = true
  reaches_end (Endless body post) = has_break body
  reaches_end (Choose q make ways) = reaches_end ways || has_break ways
  reaches_end (Way ks body others) = reaches_end body || reaches_end others
  reaches_end (LastWay ks body) = reaches_end body
  reaches_end Stop = false
  reaches_end Leave = false
  reaches_end Again = false

  -- whether a break of a loop or select around it can be reached in it
  pub has_break : Plan → Bool
  has_break Skip = false
  has_break (Do i rest) = has_break rest
  has_break (Seq first rest) = has_break first || (reaches_end first && has_break rest)
  has_break (IfElse so other) = has_break so || has_break other
  has_break (IfThen so) = has_break so
  has_break (Cycle test body post exit) = has_break test || ((reaches_end body || has_continue body) && has_break post || has_break exit)
  has_break (Endless body post) = (reaches_end body || has_continue body) && has_break post
  has_break (Choose q make ways) = false
  has_break (Way ks body others) = has_break body || has_break others
  has_break (LastWay ks body) = has_break body
  has_break Stop = false
  has_break Leave = true
  has_break Again = false

  -- whether a continue of a loop around it can be reached in it
  pub has_continue : Plan → Bool
  has_continue Skip = false
  has_continue (Do i rest) = has_continue rest
  has_continue (Seq first rest) = has_continue first || (reaches_end first && has_continue rest)
  has_continue (IfElse so other) = has_continue so || has_continue other
  has_continue (IfThen so) = has_continue so
  has_continue (Cycle test body post exit) = has_continue test || ((reaches_end body || has_continue body) && has_continue post || has_continue exit)
  has_continue (Endless body post) = (reaches_end body || has_continue body) && has_continue post
  has_continue (Choose q make ways) = has_continue ways
  has_continue (Way ks body others) = has_continue body || has_continue others
  has_continue (LastWay ks body) = has_continue body
  has_continue Stop = false
  has_continue Leave = false
  has_continue Again = true

-- whether a loop with this body comes round again
abbrev pub turns : Plan → Bool
turns body = reaches_end body || has_continue body

-- ---- instructions; unreachable code has none

-- a jump over what comes after a part
abbrev pub jump_after : Plan → ℕ → List Instr
jump_after part to = cond (reaches_end part) (instrs.Jump to ∷ []) []

-- how many jumps `jump_after` has
abbrev pub jump_size : Plan → ℕ
jump_size part = cond (reaches_end part) 1 0

-- how many instructions there are
abbrev pub size : Plan → ℕ
size Skip = 0
size (Do i rest) = 1 + size rest
size (Seq first rest) = size first + cond (reaches_end first) (size rest) 0
size (IfElse so other) = 1 + size so + jump_size so + size other
size (IfThen so) = 1 + size so
size (Cycle test body post exit) = size test + 1 + size body + cond (turns body) (size post + 1) 0 + size exit
size (Endless body post) = size body + cond (turns body) (size post + 1) 0
size (Choose q make ways) = 1 + size ways
size (Way ks body others) = size body + jump_size body + size others
size (LastWay ks body) = size body
size Stop = 1
size Leave = 1
size Again = 1

-- the instructions at `place`; a break leads to `leave`, a continue to `again`. In the body of a loop a break leads past the loop, and a
-- continue to what is done after the body; in a way of a select a break leads past the select
abbrev pub flat : ℕ → ℕ → ℕ → Plan → List Instr
flat leave again place Skip = []
flat leave again place (Do i rest) = i ∷ flat leave again (place + 1) rest
flat leave again place (Seq first rest) = flat leave again place first ++ cond (reaches_end first) (flat leave again (place + size first) rest) []
flat leave again place (IfElse so other) =
    let next = place + 1 + size so + jump_size so in
    instrs.Unless next ∷ (flat leave again (place + 1) so ++ (jump_after so (next + size other) ++ flat leave again next other))
flat leave again place (IfThen so) = instrs.Unless (place + 1 + size so) ∷ flat leave again (place + 1) so
flat leave again place (Cycle test body post exit) =
    let body_at = place + size test + 1 in
    let post_at = body_at + size body in
    let exit_at = post_at + cond (turns body) (size post + 1) 0 in
    flat leave again place test
    ++ (instrs.Unless exit_at ∷ (flat (exit_at + size exit) post_at body_at body ++ (cond (turns body) (flat leave again post_at post ++ instrs.Loop place ∷ []) [] ++ flat leave again exit_at exit)))
flat leave again place (Endless body post) =
    let post_at = place + size body in
    flat (post_at + cond (turns body) (size post + 1) 0) post_at place body ++ cond (turns body) (flat leave again post_at post ++ instrs.Loop place ∷ []) []
flat leave again place (Choose q make ways) = instrs.Select q ∷ flat (place + 1 + size ways) again (place + 1) ways
flat leave again place (Way ks body others) =
    let next = place + size body + jump_size body in
    flat leave again place body ++ (jump_after body (next + size others) ++ flat leave again next others)
flat leave again place (LastWay ks body) = flat leave again place body
flat leave again place Stop = instrs.Return ∷ []
flat leave again place Leave = instrs.Jump leave ∷ []
flat leave again place Again = instrs.Jump again ∷ []

-- ---- selects

-- the pcs at which the ways of a select begin
abbrev pub starts : ℕ → Plan → List ℕ
starts place (Way ks body others) = place ∷ starts (place + size body + jump_size body) others
starts place (LastWay ks body) = place ∷ []
starts place plan = []

-- and the kinds with which they begin
abbrev pub entries : Plan → List (List WordKind)
entries (Way ks body others) = ks ∷ entries others
entries (LastWay ks body) = ks ∷ []
entries plan = []

-- the select tables of a plan at `place`, in order
abbrev pub tables : ℕ → Plan → List SelectTable
tables place Skip = []
tables place (Do i rest) = tables (place + 1) rest
tables place (Seq first rest) = tables place first ++ cond (reaches_end first) (tables (place + size first) rest) []
tables place (IfElse so other) = tables (place + 1) so ++ tables (place + 1 + size so + jump_size so) other
tables place (IfThen so) = tables (place + 1) so
tables place (Cycle test body post exit) =
    let body_at = place + size test + 1 in
    let post_at = body_at + size body in
    let exit_at = post_at + cond (turns body) (size post + 1) 0 in
    tables place test ++ (tables body_at body ++ (cond (turns body) (tables post_at post) [] ++ tables exit_at exit))
tables place (Endless body post) = tables place body ++ cond (turns body) (tables (place + size body) post) []
tables place (Choose q make ways) = make (starts (place + 1) ways) ∷ tables (place + 1) ways
tables place (Way ks body others) = tables place body ++ tables (place + size body + jump_size body) others
tables place (LastWay ks body) = tables place body
tables place Stop = []
tables place Leave = []
tables place Again = []

-- how many there are
abbrev pub table_count : Plan → ℕ
table_count Skip = 0
table_count (Do i rest) = table_count rest
table_count (Seq first rest) = table_count first + cond (reaches_end first) (table_count rest) 0
table_count (IfElse so other) = table_count so + table_count other
table_count (IfThen so) = table_count so
table_count (Cycle test body post exit) = table_count test + table_count body + cond (turns body) (table_count post) 0 + table_count exit
table_count (Endless body post) = table_count body + cond (turns body) (table_count post) 0
table_count (Choose q make ways) = 1 + table_count ways
table_count (Way ks body others) = table_count body + table_count others
table_count (LastWay ks body) = table_count body
table_count Stop = 0
table_count Leave = 0
table_count Again = 0
