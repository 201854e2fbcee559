-- The text of a trace.
use Rattle.std.specs.Prelude.{◌≡◌, ◌≢◌, ℕ, ◌+◌, ◌-◌, ◌*◌, ◌^◌, ◌<◌, ◌==◌, Bool, true, List, [], ◌∷◌, ◌++◌, bytes_eq, codes, length, slice_index, IsTrue, IsUtf8}
use Rattle.std.specs.List.{flat_map, list_any, before_first}
use Rattle.std.specs.Str.{all_ascii_digits}
use Rattle.trace_comparison.specs.Requests.{Event}
use Rattle.trace_comparison.specs.declared.trace.TraceError.{TraceError}
use Rattle.trace_comparison.specs.declared.trace.TraceError.TheVariants as errors

-- the number that digits write after those of `n`
abbrev pub value_after : (n : ℕ) → List ℕ → ℕ
value_after n [] = n
value_after n (c ∷ cs) = value_after (n * 10 + (c - 48)) cs

-- decimal digits that write a number below 2^64
abbrev pub IsNumber : List ℕ → ℕ → Type 0
IsNumber digits n = (all_ascii_digits digits ≡ true) × (0 < length digits) × (value_after 0 digits < 2 ^ 64) × (value_after 0 digits ≡ n)

-- the first words of requests
abbrev pub request_words : List (List ℕ)
request_words =
    codes "make" ∷ codes "go" ∷ codes "send" ∷ codes "receive" ∷ codes "close" ∷ codes "select" ∷ codes "len" ∷ codes "cap" ∷ codes "print" ∷ codes "end" ∷ codes "exit" ∷ codes "panic"
    ∷ codes "exhausted" ∷ []

abbrev pub is_request_word : List ℕ → Bool
is_request_word word = list_any (bytes_eq word) request_words

-- the text up to its first space is the first word of a request
abbrev pub IsRequest : List ℕ → Type 0
IsRequest text = IsTrue (is_request_word (before_first (λ b. b == 32) text))

-- `CLOCK GOROUTINE REQUEST`
abbrev pub IsEventLine : Event → Type 0
IsEventLine e = (clock : List ℕ) × (time : ℕ) × (goroutine : List ℕ) × IsNumber clock time × IsNumber goroutine e.goroutine × IsRequest e.request
    × (e.line ≡ clock ++ 32 ∷ (goroutine ++ 32 ∷ e.request))

abbrev pub HasNoNewline : List ℕ → Type 0
HasNoNewline line = (i : ℕ) → i < length line → slice_index line i ≢ 10

-- it is one line, of UTF-8
abbrev pub IsWhole : Event → Type 0
IsWhole e = IsEventLine e × IsUtf8 e.line × HasNoNewline e.line

abbrev pub AreWhole : List Event → Type 0
AreWhole [] = Unit {0}
AreWhole (e ∷ es) = IsWhole e × AreWhole es

-- the lines, each with its newline
abbrev pub text_of : List Event → List ℕ
text_of es = flat_map (λ (e : Event). e.line ++ 10 ∷ []) es

-- the text is these events, each in a line
abbrev pub IsTrace : (text : List ℕ) → List Event → Type 0
IsTrace text es = AreWhole es × (text ≡ text_of es)

-- after the lines of some events this line, counted from 1, is not that of another
abbrev pub IsBrokenAt : (text : List ℕ) (line : ℕ) → Type 0
IsBrokenAt text line = (es : List Event) × (rest : List ℕ) × AreWhole es × (text ≡ text_of es ++ rest) × (length es + 1 ≡ line) × (rest ≢ [])
    × ((e : Event) (more : List ℕ) → IsWhole e → rest ≢ e.line ++ 10 ∷ more)

-- why a text is no trace
abbrev pub IsWhy : (text : List ℕ) → TraceError → Type 0
IsWhy text errors.Memory = Unit {0}
IsWhy text (errors.Broken line) = IsBrokenAt text line
