-- Traces that are compared.
use Rattle.std.specs.Prelude.{◌≡◌, ◌↔◌, ℕ, Bool, true, false, IsTrue, List}
use Rattle.trace_comparison.specs.Requests.{Event, HaveSameRequests}
use Rattle.trace_comparison.specs.Texts.{IsTrace}

-- both texts are traces, and `is_same` is whether each goroutine made the same requests in both, in the same order
abbrev pub AreCompared : (recorded run : List ℕ) → (is_same : Bool) → Type 0
AreCompared recorded run is_same =
    (was : List Event) × (is : List Event) × IsTrace recorded was × IsTrace run is × (IsTrue is_same ↔ HaveSameRequests is was)

-- `is_same` is whether they are the same: byte by byte if `strict` holds, otherwise goroutine by goroutine
abbrev pub IsCompared : (strict : Bool) → (recorded run : List ℕ) → (is_same : Bool) → Type 0
IsCompared true recorded run is_same = IsTrue is_same ↔ (run ≡ recorded)
IsCompared false recorded run is_same = AreCompared recorded run is_same
