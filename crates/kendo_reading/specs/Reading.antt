-- The program of a source.
use Rattle.std.specs.Prelude.{◌≡◌, ℕ, ◌<◌, ◌≤◌, ◌⊎◌, List, Some, Ok, Err, length, take, IsUtf8}
use Rattle.checker.specs.Faults.{Tells}
use Rattle.typing_rules.specs.Files.{IsTyped}
use Rattle.go_text.specs.declared.fault.Fault.{Fault}
use Rattle.go_text.specs.declared.fault.Fault.TheVariants as faults
use Rattle.go_text.specs.declared.place.Place.{Place}
use Rattle.go_text.specs.declared.rule.LimitKind.TheVariants as limits
use Rattle.go_text.specs.declared.source.TheConstants.{MAX_LENGTH}
use Rattle.go_text.specs.Lines.{position_after}
use Rattle.parser_base.specs.Lexemes.{Lexeme, lexemes}
use Rattle.parser.specs.Spelling.{Spells}
use Rattle.scanner.specs.declared.token.Token.{Token}
use Rattle.scanner.specs.Tokens.{tokens_of}
use Rattle.syntax.specs.declared.tree.Tree.{Tree}
use Rattle.spans.specs.Places.{file_spans}
use Rattle.syntax.specs.Spans.{tree_of, spans_of}
use Rattle.syntax.specs.Tree.{File}
use Rattle.syntax.specs.Measures.{height, most_entries, most_clauses}

-- the file spells the tokens of the source, within all limits, and violates no typing rule
pub record Reads (text : List ℕ) (file : File) : Type 0 where
  pub utf8 : IsUtf8 text
  pub short : length text ≤ MAX_LENGTH
  pub tokens : List Token
  pub scanned : tokens_of text ≡ Ok tokens
  pub spelt : Spells (lexemes text tokens) file
  pub low : height file ≤ 200
  pub few : most_entries file ≤ 64
  pub clauses : most_clauses file ≤ 64
  pub typed : IsTyped file

-- the source has no reading
abbrev pub HasNoReading : List ℕ → Type 0
HasNoReading text = (file : File) → Reads text file → ⊥

-- the number of a fault
abbrev pub fault_number : Fault → ℕ
fault_number faults.TooLong = 1
fault_number faults.NotUtf8 = 2
fault_number (faults.BadCharacter place) = 3
fault_number (faults.BadNumber place) = 4
fault_number (faults.OpenString place) = 5
fault_number (faults.OpenComment place) = 6
fault_number (faults.Syntax place) = 7
fault_number (faults.TooDeep place) = 8
fault_number (faults.Typing rule at place) = 9
fault_number (faults.Limit kind at place) = 10
fault_number (faults.Unverified rule function at) = 11
fault_number faults.NotYours = 12
fault_number faults.Memory = 13
fault_number faults.Write = 14
fault_number faults.BadWorkers = 15
fault_number faults.BadLimit = 16

-- a source without a reading is refused by the numbers 1 to 10
abbrev pub IsRefusal : Fault → Type 0
IsRefusal fault = fault_number fault ≤ 10

-- a refusal of the source, or out of memory
abbrev pub IsOfText : Fault → Type 0
IsOfText fault = IsRefusal fault ⊎ (fault ≡ faults.Memory)

-- the source has no tokens
abbrev pub HasNoTokens : List ℕ → Type 0
HasNoTokens text = (tokens : List Token) → tokens_of text ≡ Ok tokens → ⊥

-- no file within the limits has these tokens
abbrev pub HasNoTree : List Lexeme → Type 0
HasNoTree words = (file : File) → Spells words file → height file ≤ 200 → most_entries file ≤ 64 → most_clauses file ≤ 64 → ⊥

-- ---- why a source has no reading

-- a location with the line and the column of its first byte in the source
abbrev pub placed : List ℕ → Place → Place
placed text place = record { span = place.span; position = Some (position_after 1 1 (take place.span.from text)) }

-- a fault with its line and column in the source, if it has a location
abbrev pub located_in : List ℕ → Fault → Fault
located_in text (faults.BadCharacter place) = faults.BadCharacter (placed text place)
located_in text (faults.BadNumber place) = faults.BadNumber (placed text place)
located_in text (faults.OpenString place) = faults.OpenString (placed text place)
located_in text (faults.OpenComment place) = faults.OpenComment (placed text place)
located_in text (faults.Syntax place) = faults.Syntax (placed text place)
located_in text (faults.TooDeep place) = faults.TooDeep (placed text place)
located_in text (faults.Typing rule node place) = faults.Typing rule node (placed text place)
located_in text (faults.Limit kind node place) = faults.Limit kind node (placed text place)
located_in text fault = fault

-- no file spells these tokens: none at all, or none of that height, or none with lists that short
abbrev pub IsUnspelt : List Lexeme → Fault → Type 0
IsUnspelt words (faults.Syntax place) = (file : File) → Spells words file → ⊥
IsUnspelt words (faults.TooDeep place) = (file : File) → Spells words file → height file ≤ 200 → ⊥
IsUnspelt words (faults.Limit limits.ListEntries at place) = (file : File) → Spells words file → most_entries file ≤ 64 → ⊥
IsUnspelt words (faults.Limit limits.SelectClauses at place) = (file : File) → Spells words file → most_clauses file ≤ 64 → ⊥
IsUnspelt words fault = ⊥

-- the tree is that of the source, within the limits, and each of its nodes has the location of its tokens
pub record IsTreeOf (text : List ℕ) (tree : Tree) : Type 0 where
  pub tokens : List Token
  pub scanned : tokens_of text ≡ Ok tokens
  pub spelt : Spells (lexemes text tokens) (tree_of tree)
  pub placed : spans_of tree ≡ file_spans tokens (tree_of tree)
  pub low : height (tree_of tree) ≤ 200
  pub few : most_entries (tree_of tree) ≤ 64
  pub clauses : most_clauses (tree_of tree) ≤ 64

-- why the source has no reading: the first of these that holds
pub data FaultOf (text : List ℕ) (fault : Fault) : Type 0 where
  IsLong : MAX_LENGTH < length text → fault ≡ faults.TooLong → FaultOf text fault
  IsNoText : length text ≤ MAX_LENGTH → ¬ (IsUtf8 text) → fault ≡ faults.NotUtf8 → FaultOf text fault
  -- no token begins at the fault's location
  HasFault : length text ≤ MAX_LENGTH → IsUtf8 text → tokens_of text ≡ Err fault → FaultOf text fault
  -- no file spells its tokens
  IsUnread : length text ≤ MAX_LENGTH → IsUtf8 text → (tokens : List Token) → tokens_of text ≡ Ok tokens → IsUnspelt (lexemes text tokens) fault → FaultOf text fault
  -- a rule is violated or a limit exceeded at a node of its tree
  IsWrong : length text ≤ MAX_LENGTH → IsUtf8 text → (tree : Tree) → IsTreeOf text tree → Tells tree fault → FaultOf text fault

-- the fault says why the source has no reading, with line and column
abbrev pub IsWhy : List ℕ → Fault → Type 0
IsWhy text told = (fault : Fault) × FaultOf text fault × (told ≡ located_in text fault)
