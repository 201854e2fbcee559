-- What a comment says of a run.
use Rattle.std.specs.Prelude.{◌≡◌, ◌≢◌, ℕ, ◌<◌, ◌∷◌, ◌++◌, Bool, true, false, List, Option, Some, None, length, map, option_map, take, drop, slice_index, codes}
use Rattle.std.specs.Str.{trim, trim_start, IsCharBoundary}
use Rattle.std.specs.Char.{to_ascii_lowercase}
use Rattle.std.specs.List.{before_first, after_first}
use Rattle.expected_output.specs.Comments.{is_newline}
use Rattle.expected_output.specs.declared.said.SaidOutput.{SaidOutput}
use denote.Ref.{Bor}

-- the text begins with these words, but for the case of their letters
abbrev pub Begins : (words text : List ℕ) → Type 0
Begins words text = IsCharBoundary text (length words) × (map to_ascii_lowercase (take (length words) text) ≡ map to_ascii_lowercase words)

-- and `rest` follows them
abbrev pub IsAfter : (words text rest : List ℕ) → Type 0
IsAfter words text rest = Begins words text × (rest ≡ drop (length words) text)

-- the output that a comment says, and whether the order of its lines doesn't count
pub data SaysOutput (comment : List ℕ) : Option (List ℕ × Bool) → Type 0 where
  Unordered : (output : List ℕ) → IsAfter (codes "unordered output:") (trim_start comment) output → SaysOutput comment (Some (output, true))
  Ordered : (output : List ℕ) → (Begins (codes "unordered output:") (trim_start comment) → ⊥) → IsAfter (codes "output:") (trim_start comment) output → SaysOutput comment (Some (output, false))
  Nothing : (Begins (codes "unordered output:") (trim_start comment) → ⊥) → (Begins (codes "output:") (trim_start comment) → ⊥) → SaysOutput comment None

-- the first line of a text, and the lines after it
abbrev pub first_line : List ℕ → List ℕ
first_line text = before_first is_newline text

abbrev pub later_lines : List ℕ → List ℕ
later_lines text = after_first is_newline text

-- `line` is the last line of a text, after `before`
abbrev pub IsLastLine : (text before line : List ℕ) → Type 0
IsLastLine text before line = (text ≡ before ++ 10 ∷ line) × ((i : ℕ) → i < length line → slice_index line i ≢ 10)

-- the output and the end that a text says whose last line may say the end
pub data SaysEndLast (text : List ℕ) (unordered : Bool) : (output : Option (List ℕ × Bool)) → (end : Option (List ℕ)) → Type 0 where
  Last : (before line words : List ℕ) → IsLastLine text before line → IsAfter (codes "ends:") line words → SaysEndLast text unordered (Some (before, unordered)) (Some (trim words))
  NotLast : ((before line : List ℕ) → IsLastLine text before line → Begins (codes "ends:") line → ⊥) → SaysEndLast text unordered (Some (text, unordered)) None

-- the output and the end that a comment says: first the end, on a line of its own, or first the output
pub data Says (comment : List ℕ) : (output : Option (List ℕ × Bool)) → (end : Option (List ℕ)) → Type 0 where
  EndFirst : (rest : List ℕ) (output : Option (List ℕ × Bool)) → IsAfter (codes "ends:") (trim comment) rest → SaysOutput (later_lines rest) output
      → Says comment output (Some (trim (first_line rest)))
  OutputFirst : (text : List ℕ) (unordered : Bool) (output : Option (List ℕ × Bool)) (end : Option (List ℕ)) → (Begins (codes "ends:") (trim comment) → ⊥)
      → SaysOutput (trim comment) (Some (text, unordered)) → SaysEndLast text unordered output end → Says comment output end
  Neither : (Begins (codes "ends:") (trim comment) → ⊥) → SaysOutput (trim comment) None → Says comment None None

-- the bytes of what a comment says
abbrev pub said_output : Option SaidOutput → Option (List ℕ × Bool)
said_output output = option_map (λ (said : SaidOutput). (said.text.now, said.is_unordered)) output

abbrev pub said_end : Option (Bor (List ℕ)) → Option (List ℕ)
said_end end = option_map (λ (words : Bor (List ℕ)). words.now) end
