-- The kind of goroutine that keeps to a plan.
use Rattle.std.specs.Prelude.{ℕ, ◌+◌, ◌-◌, ◌==◌, pos, Bool, true, false, ◌&&◌, not, cond, bytes_eq, nat_eq, List, [], ◌∷◌, ◌++◌, map, Option, Some, None}
use Rattle.std.specs.List.{list_any, starts_with}
use Rattle.std.specs.Option.{is_some}
use Rattle.word.specs.declared.value.Word.{Word}
use Rattle.word.specs.declared.value.Word.TheVariants.{Int, Bool as Truth}
use Rattle.word.specs.declared.request.Case.{Case}
use Rattle.word.specs.Values.{Request, Go, Select, Reply, Default}
use Rattle.word.specs.Kinds.{Next, Slides, Ticks, Asks, Stuck, GoroutineKind}
use Rattle.word.specs.Related.{Parts, kind_of}
use Rattle.pauses.specs.Plans.{Change, Wait, Clause, Pause}
use Rattle.pauses.specs.Selects.{alone, thinned}

-- how far a goroutine has come
pub record Progress : Type 0 where
  -- its way, if a way of the plan begins with it
  pub way : Option (List ℕ)
  -- the number of the request that it makes next
  pub request : ℕ
  -- how many goroutines it has started
  pub started : ℕ
  -- for how many ticks it still waits
  pub left : ℕ
  -- whether it has counted the goroutine that it starts next, or tried its clause in vain
  pub prepared : Bool

pub record PausedState (S : Type 0) : Type 0 where
  pub state : S
  pub progress : Progress

-- ---- what a plan says of a request

abbrev pub is_at : Pause → (way : List ℕ) (request : ℕ) → Bool
is_at p way request = bytes_eq p.way way && (p.request == request)

abbrev pub wait_or : Bool → Change → ℕ → ℕ
wait_or true (Wait ticks) others = ticks
wait_or _ _ others = others

-- for how many ticks this goroutine waits before this request
abbrev pub wait_at : List Pause → (way : List ℕ) (request : ℕ) → ℕ
wait_at [] way request = 0
wait_at (p ∷ ps) way request = wait_or (is_at p way request) p.change (wait_at ps way request)

abbrev pub clause_or : Bool → Change → Option ℕ → Option ℕ
clause_or true (Clause clause) others = Some clause
clause_or _ _ others = others

-- which clause this goroutine tries first, if this request is a select
abbrev pub clause_at : List Pause → (way : List ℕ) (request : ℕ) → Option ℕ
clause_at [] way request = None
clause_at (p ∷ ps) way request = clause_or (is_at p way request) p.change (clause_at ps way request)

-- a way of the plan begins with this one
abbrev pub is_known : List Pause → (way : List ℕ) → Bool
is_known ps way = list_any (λ (p : Pause). starts_with nat_eq p.way way) ps

abbrev pub known : List Pause → (way : List ℕ) → Option (List ℕ)
known ps way = cond (is_known ps way) (Some way) None

-- the way of the goroutine of this number that a goroutine starts
abbrev pub way_to : List Pause → Option (List ℕ) → (number : ℕ) → Option (List ℕ)
way_to ps None number = None
way_to ps (Some way) number = known ps (way ++ number ∷ [])

-- ---- a way as words, which come before the arguments of a `go`

abbrev pub number_word : ℕ → Word
number_word n = Int (pos n)

abbrev pub way_words : Option (List ℕ) → List Word
way_words None = Truth false ∷ []
way_words (Some way) = map number_word way ++ Truth true ∷ []

-- the way that begins with these numbers and then has those of the words, and the arguments after it
abbrev pub way_after : (before : List ℕ) → List Word → Option (List ℕ) × List Word
way_after before (Int (pos n) ∷ words) = way_after (before ++ n ∷ []) words
way_after before (Truth true ∷ words) = (Some before, words)
way_after before (Truth false ∷ words) = (None, words)
way_after before words = (None, words)

-- goroutine 1 begins without words
abbrev pub way_in : List Word → Option (List ℕ) × List Word
way_in [] = (Some (1 ∷ []), [])
way_in words = way_after [] words

-- ---- steps

module _ (ps : List Pause) where
  abbrev pub wait_of : Option (List ℕ) → (request : ℕ) → ℕ
  wait_of None request = 0
  wait_of (Some way) request = wait_at ps way request

  abbrev pub clause_of : Option (List ℕ) → (request : ℕ) → Option ℕ
  clause_of None request = None
  clause_of (Some way) request = clause_at ps way request

  -- at the beginning of a goroutine of this way
  abbrev pub opening : (way : Option (List ℕ)) → Progress
  opening way = record { way = way; request = 1; started = 0; left = wait_of way 1; prepared = false }

  -- after a request
  abbrev pub onward : Progress → Progress
  onward g = record g { request = g.request + 1; left = wait_of g.way (g.request + 1); prepared = false }

  -- a goroutine is counted, which costs nothing, and then started with its way in front of its arguments
  abbrev pub going : Progress → (function : ℕ) (args : List Word) → Next Progress
  going g function args = cond g.prepared (Asks (Go function (way_words (way_to ps g.way g.started) ++ args)))
      (Slides (record g { started = g.started + 1; prepared = true }))

  -- a clause that the plan names is first tried alone
  abbrev pub selecting : Progress → List Case → (default : Bool) → Option ℕ → Next Progress
  selecting g cases default None = Asks (Select cases default)
  selecting g cases default (Some clause) = cond g.prepared (Asks (Select (thinned clause cases) default)) (Asks (Select (alone clause cases) true))

  -- what a goroutine does that would make this request
  abbrev pub asking : Progress → Request → Next Progress
  asking g (Go function args) = going g function args
  asking g (Select cases default) = selecting g cases default (clause_of g.way g.request)
  asking g q = Asks q

  abbrev pub is_default : Reply → Bool
  is_default Default = true
  is_default _ = false

  -- the clause that was tried isn't ready
  abbrev pub is_vain : Progress → Reply → Bool
  is_vain g reply = is_default reply && (not g.prepared && is_some (clause_of g.way g.request))

abbrev pub beside : {S : Type 0} → S → Next Progress → Next (PausedState S)
beside s (Slides g) = Slides (record { state = s; progress = g })
beside s (Ticks g) = Ticks (record { state = s; progress = g })
beside s (Asks q) = Asks q
beside s Stuck = Stuck

module _ {S : Type 0} (K : Parts S) (ps : List Pause) where
  abbrev pub step_of : PausedState S → Next S → Next (PausedState S)
  step_of s (Slides a) = Slides (record s { state = a })
  step_of s (Ticks a) = Ticks (record s { state = a })
  step_of s (Asks q) = beside s.state (asking ps s.progress q)
  step_of s Stuck = Stuck

  abbrev pub paused_next : PausedState S → Next (PausedState S)
  paused_next s = cond (s.progress.left == 0) (step_of s (K.next s.state)) (Ticks (record s { progress = record s.progress { left = s.progress.left - 1 } }))

  abbrev pub paused_answer : PausedState S → Reply → PausedState S
  paused_answer s reply = cond (is_vain ps s.progress reply) (record s { progress = record s.progress { prepared = true } })
      (record { state = K.answer s.state reply; progress = onward ps s.progress })

  abbrev pub begun : (function : ℕ) → Option (List ℕ) × List Word → PausedState S
  begun function found = record { state = K.begin function found.1; progress = opening ps found.0 }

  abbrev pub paused_parts : Parts (PausedState S)
  paused_parts = record {
    next = paused_next;
    answer = paused_answer;
    begin = λ function words. begun function (way_in words);
    main = K.main;
  }

-- goroutines of this kind that keep to this plan
abbrev pub paused : GoroutineKind → List Pause → GoroutineKind
paused K ps = kind_of (paused_parts (record { next = K.next; answer = K.answer; begin = K.begin; main = K.main }) ps)
