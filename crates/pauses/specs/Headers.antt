-- The header of a plan's file: its second line names the program, and its third the end, as
-- `# program: pool.go sha256 3f7c..` and `# end: deadlock`. To readers of pauses both are comments.
use Rattle.std.specs.Prelude.{◌≡◌, ℕ, ◌-◌, ◌==◌, nat_eq, Bool, true, false, cond, bytes_eq, codes, List, [], ◌∷◌, ◌++◌, length, take, drop, Option, Some, None}
use Rattle.std.specs.List.{flat_map, slice_split, starts_with}
use Rattle.std.specs.Option.{option_and_then}
use Rattle.std.specs.Result.{result_ok}
use Rattle.hex.specs.Hex.{IsBytes, decode_sized, encode_lower}
use Rattle.pauses.specs.Files.{pause_text}
use Rattle.pauses.specs.Plans.{Pause}
use Rattle.pauses.specs.declared.header.PlanHeader.{PlanHeader}

pub record Header : Type 0 where
  pub path : List ℕ
  -- 32 bytes
  pub checksum : List ℕ
  pub end : List ℕ

abbrev pub header_of : PlanHeader → Header
header_of h = record { path = h.path.items; checksum = h.checksum.0; end = h.end.items }

-- ---- how a header is written

-- so that a text stays on its line, a newline is written as a backslash and an n, and a backslash as two
abbrev pub escape : ℕ → List ℕ
escape c = cond (c == 10) (92 ∷ 110 ∷ []) (cond (c == 92) (92 ∷ 92 ∷ []) (c ∷ []))

abbrev pub escaped : List ℕ → List ℕ
escaped bytes = flat_map escape bytes

abbrev pub header_text : Header → List ℕ
header_text h = codes "# program: " ++ escaped h.path ++ codes " sha256 " ++ encode_lower h.checksum ++ codes "\n# end: " ++ escaped h.end ++ codes "\n"

-- the file of a plan with a header
abbrev pub headed_text : Header → List Pause → List ℕ
headed_text h ps = codes "kendo pauses 1\n" ++ header_text h ++ flat_map pause_text ps

-- ---- how a header is read

-- the byte that this one means after a backslash
abbrev pub meaning_of : ℕ → Option ℕ
meaning_of c = cond (c == 110) (Some 10) (cond (c == 92) (Some 92) None)

-- the text that these bytes write after `text`, the first of them after a backslash or not
abbrev pub unescaped_from : (after_backslash : Bool) (text : List ℕ) → List ℕ → Option (List ℕ)
unescaped_from true text [] = None
unescaped_from false text [] = Some text
unescaped_from true text (c ∷ cs) = option_and_then (λ m. unescaped_from false (text ++ m ∷ []) cs) (meaning_of c)
unescaped_from false text (c ∷ cs) = cond (c == 92) (unescaped_from true text cs) (unescaped_from false (text ++ c ∷ []) cs)

abbrev pub unescaped : List ℕ → Option (List ℕ)
unescaped bytes = unescaped_from false [] bytes

-- what follows this word, if the line begins with it
abbrev pub after : (word : List ℕ) → List ℕ → Option (List ℕ)
after word line = cond (starts_with nat_eq line word) (Some (drop (length word) line)) None

-- the checksum that ` sha256 ` and 64 hexadecimal digits are
abbrev pub checksum_in : List ℕ → Option (List ℕ)
checksum_in tail = option_and_then (λ digits. result_ok (decode_sized digits 32)) (after (codes " sha256 ") tail)

abbrev pub whole : Option (List ℕ) → Option (List ℕ) → Option (List ℕ) → Option Header
whole (Some path) (Some checksum) (Some end) = Some (record { path = path; checksum = checksum; end = end })
whole _ _ _ = None

-- the last 72 bytes of a program's line are the checksum, and those before them the path
abbrev pub header_by : (program end : Option (List ℕ)) → Option Header
header_by (Some program) (Some end) = whole (unescaped (take (length program - 72) program)) (checksum_in (drop (length program - 72) program)) (unescaped end)
header_by _ _ = None

abbrev pub header_from : (program end : List ℕ) → Option Header
header_from program end = header_by (after (codes "# program: ") program) (after (codes "# end: ") end)

abbrev pub header_in_lines : List (List ℕ) → Option Header
header_in_lines (title ∷ program ∷ end ∷ rest) = cond (bytes_eq title (codes "kendo pauses 1")) (header_from program end) None
header_in_lines _ = None

-- the header with which a file begins
abbrev pub header_in : List ℕ → Option Header
header_in bytes = header_in_lines (slice_split (λ b. b == 10) bytes)

-- a header has a checksum of 32 bytes
pub record IsHeader (h : Header) : Type 0 where
  pub size : length h.checksum ≡ 32
  pub bytes : IsBytes h.checksum
