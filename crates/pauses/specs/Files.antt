-- The file of a plan: the line `kendo pauses 1`, and then a pause a line, as `1.2 4 wait 30` or `1.1 3 clause 2`.
use Rattle.std.specs.Prelude.{◌≡◌, ℕ, ◌+◌, ◌-◌, ◌*◌, ◌^◌, ◌==◌, ◌<◌, nat_lt, Bool, false, ◌&&◌, cond, bytes_eq, codes, decimal, List, [], ◌∷◌, ◌++◌, Option, Some, None}
use Rattle.std.specs.List.{flat_map, list_any, slice_split}
use Rattle.pauses.specs.Plans.{Change, Wait, Clause, Pause, is_rival}
use Rattle.pauses.specs.declared.error.PlanError.{PlanError}
use Rattle.pauses.specs.declared.error.PlanError.TheVariants as errors

abbrev pub is_digit : ℕ → Bool
is_digit c = nat_lt 47 c && nat_lt c 58

-- the number of at most 18 digits that these write after those of n
abbrev pub digits_after : (n : ℕ) → List ℕ → Option ℕ
digits_after n [] = Some n
digits_after n (c ∷ cs) = cond (is_digit c && nat_lt (10 * n + (c - 48)) (10 ^ 18)) (digits_after (10 * n + (c - 48)) cs) None

-- a number from 1 on, without zeros in front
abbrev pub number : List ℕ → Option ℕ
number [] = None
number (c ∷ cs) = cond (c == 48) None (digits_after 0 (c ∷ cs))

abbrev pub with_number : Option ℕ → (ℕ → Option (List ℕ)) → Option (List ℕ)
with_number None others = None
with_number (Some n) others = others n

-- the numbers that these write after those of `ns`, if each of them writes one
abbrev pub numbers_after : (ns : List ℕ) → List (List ℕ) → Option (List ℕ)
numbers_after ns [] = Some ns
numbers_after ns (word ∷ words) = with_number (number word) (λ n. numbers_after (ns ++ n ∷ []) words)

-- a way, as `1.2`
abbrev pub way_in : List ℕ → Option (List ℕ)
way_in word = numbers_after [] (slice_split (λ b. b == 46) word)

-- `wait 30` or `clause 2`
abbrev pub change_in : List ℕ → Option ℕ → Option Change
change_in word None = None
change_in word (Some n) = cond (bytes_eq word (codes "wait")) (Some (Wait n)) (cond (bytes_eq word (codes "clause")) (Some (Clause n)) None)

abbrev pub formed : Option (List ℕ) → Option ℕ → Option Change → Option Pause
formed (Some way) (Some request) (Some change) = Some (record { way = way; request = request; change = change })
formed _ _ _ = None

-- the pause that these words say
abbrev pub pause_in : List (List ℕ) → Option Pause
pause_in (way ∷ request ∷ word ∷ count ∷ []) = formed (way_in way) (number request) (change_in word (number count))
pause_in _ = None

-- what a line is
pub data Line : Type 0 where
  Silent : Line
  Says : (p : Pause) → Line
  Broken : Line

abbrev pub said : Option Pause → Line
said None = Broken
said (Some p) = Says p

-- an empty line and a comment say nothing; the words of others are separated by one space
abbrev pub line_of : List ℕ → Line
line_of [] = Silent
line_of (c ∷ cs) = cond (c == 35) Silent (said (pause_in (slice_split (λ b. b == 32) (c ∷ cs))))

-- what a file is: a plan, or malformed at a line, counted from 1
pub data Reading : Type 0 where
  Reads : (ps : List Pause) → Reading
  Breaks : (line : ℕ) → Reading

-- reads the line of this number, after those that say `ps`, and then the others; a second pause of one kind for a request breaks the plan
abbrev pub with_line : (line : ℕ) → List Pause → Line → (List Pause → Reading) → Reading
with_line line ps Silent others = others ps
with_line line ps (Says p) others = cond (list_any (is_rival p) ps) (Breaks line) (others (ps ++ p ∷ []))
with_line line ps Broken others = Breaks line

abbrev pub lines_from : (line : ℕ) → List Pause → List (List ℕ) → Reading
lines_from line ps [] = Reads ps
lines_from line ps (bytes ∷ rest) = with_line line ps (line_of bytes) (λ qs. lines_from (line + 1) qs rest)

abbrev pub read_lines : List (List ℕ) → Reading
read_lines [] = Breaks 1
read_lines (first ∷ rest) = cond (bytes_eq first (codes "kendo pauses 1")) (lines_from 2 [] rest) (Breaks 1)

abbrev pub read_bytes : List ℕ → Reading
read_bytes bytes = read_lines (slice_split (λ b. b == 10) bytes)

-- why a file is no plan
abbrev pub IsWhy : Reading → PlanError → Type 0
IsWhy reading errors.Memory = Unit {0}
IsWhy reading (errors.Broken line) = reading ≡ Breaks line

-- ---- how a plan is written

abbrev pub more_text : List ℕ → List ℕ
more_text ns = flat_map (λ n. codes "." ++ decimal n) ns

abbrev pub way_text : List ℕ → List ℕ
way_text [] = []
way_text (n ∷ ns) = decimal n ++ more_text ns

abbrev pub change_text : Change → List ℕ
change_text (Wait ticks) = codes " wait " ++ decimal ticks
change_text (Clause clause) = codes " clause " ++ decimal clause

abbrev pub pause_text : Pause → List ℕ
pause_text p = way_text p.way ++ codes " " ++ decimal p.request ++ change_text p.change ++ codes "\n"

abbrev pub plan_text : List Pause → List ℕ
plan_text ps = codes "kendo pauses 1\n" ++ flat_map pause_text ps

-- ---- which plans are read again

abbrev pub IsNumber : ℕ → Type 0
IsNumber n = (0 < n) × (n < 10 ^ 18)

abbrev pub AreNumbers : List ℕ → Type 0
AreNumbers [] = Unit {0}
AreNumbers (n ∷ ns) = IsNumber n × AreNumbers ns

abbrev pub IsWay : List ℕ → Type 0
IsWay [] = ⊥
IsWay (n ∷ ns) = AreNumbers (n ∷ ns)

abbrev pub IsChange : Change → Type 0
IsChange (Wait ticks) = IsNumber ticks
IsChange (Clause clause) = IsNumber clause

-- no pause of the list changes the same thing as one before it or one of `before`; each has a way, and numbers that can be written
abbrev pub ArePauses : (before : List Pause) → List Pause → Type 0
ArePauses before [] = Unit {0}
ArePauses before (p ∷ ps) = (IsWay p.way × IsNumber p.request × IsChange p.change) × (list_any (is_rival p) before ≡ false) × ArePauses (before ++ p ∷ []) ps

abbrev pub IsPlan : List Pause → Type 0
IsPlan ps = ArePauses [] ps
