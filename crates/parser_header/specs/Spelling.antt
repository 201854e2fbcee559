-- The one list of lexemes that spells what comes after `if` or `for`, or what a clause of a select waits for.
--
-- Each of the words below takes what follows: `name_words name rest` is the name, and then `rest`.
use Rattle.std.specs.Prelude.{ℕ, true, false, List, ◌∷◌, Option, Some, None}
use Rattle.scanner.specs.declared.kind.TokenKind.TheVariants as kinds
use Rattle.syntax.specs.Tree.{Place, Comm, CommSend, CommReceive, CommDefine, CommAssign, IfHead, Bare, Semicolon, First, Target, NoTarget, DefineTarget, AssignTarget, ForHead, Forever, While, ForClauses, Range}
use Rattle.parser_base.specs.Lexemes.{Lexeme, Name, Mark}
use Rattle.parser_base.specs.Spelling.{before, IsGrouped}
use Rattle.parser_simple.specs.Spelling.{name_words, IsName, place_words, IsPlace, IsPrimary, IsUnary, simple_words, IsSimple}

-- ---- what a clause of a select waits for

abbrev pub second_name_words : Option (List ℕ) → List Lexeme → List Lexeme
second_name_words None rest = rest
second_name_words (Some name) rest = Mark kinds.Comma ∷ name_words name rest

abbrev pub second_place_words : Option Place → List Lexeme → List Lexeme
second_place_words None rest = rest
second_place_words (Some place) rest = Mark kinds.Comma ∷ place_words place rest

abbrev pub comm_words : Comm → List Lexeme → List Lexeme
comm_words (CommSend channel value) rest = before channel (Mark kinds.Arrow ∷ before value rest)
comm_words (CommReceive channel) rest = Mark kinds.Arrow ∷ before channel rest
comm_words (CommDefine item ok channel) rest = name_words item (second_name_words ok (Mark kinds.Define ∷ Mark kinds.Arrow ∷ before channel rest))
comm_words (CommAssign item ok channel) rest = place_words item (second_place_words ok (Mark kinds.Assign ∷ Mark kinds.Arrow ∷ before channel rest))

-- what holds of the second, if there is one
abbrev pub IsAny : {A : Type 0} → (A → Type 0) → Option A → Type 0
IsAny P None = Unit {0}
IsAny P (Some x) = P x

abbrev pub IsComm : Comm → Type 0
IsComm (CommSend channel value) = IsPrimary true channel × IsGrouped true value
IsComm (CommReceive channel) = IsUnary true channel
IsComm (CommDefine item ok channel) = IsName item × IsAny IsName ok × IsUnary true channel
IsComm (CommAssign item ok channel) = IsPlace item × IsAny IsPlace ok × IsUnary true channel

-- ---- headers, without composite literals

abbrev pub if_head_words : IfHead → List Lexeme → List Lexeme
if_head_words Bare rest = rest
if_head_words Semicolon rest = Mark kinds.Semicolon ∷ rest
if_head_words (First simple) rest = simple_words simple (Mark kinds.Semicolon ∷ rest)

abbrev pub IsIfHead : IfHead → Type 0
IsIfHead Bare = Unit {0}
IsIfHead Semicolon = Unit {0}
IsIfHead (First simple) = IsSimple false true simple

-- what is there, if anything is, and then these
abbrev pub optional : {A : Type 0} → (A → List Lexeme → List Lexeme) → Option A → List Lexeme → List Lexeme
optional words None rest = rest
optional words (Some x) rest = words x rest

abbrev pub target_words : Target → List Lexeme → List Lexeme
target_words NoTarget rest = rest
target_words (DefineTarget name) rest = Name name ∷ Mark kinds.Define ∷ rest
target_words (AssignTarget place) rest = place_words place (Mark kinds.Assign ∷ rest)

abbrev pub IsTarget : Target → Type 0
IsTarget NoTarget = Unit {0}
IsTarget (DefineTarget name) = IsName name
IsTarget (AssignTarget place) = IsPlace place

abbrev pub for_head_words : ForHead → List Lexeme → List Lexeme
for_head_words Forever rest = rest
for_head_words (While condition) rest = before condition rest
for_head_words (ForClauses first condition post) rest =
    optional simple_words first (Mark kinds.Semicolon ∷ optional before condition (Mark kinds.Semicolon ∷ optional simple_words post rest))
for_head_words (Range target channel) rest = target_words target (Mark kinds.Range ∷ before channel rest)

-- the post statement is no `:=`
abbrev pub IsForHead : ForHead → Type 0
IsForHead Forever = Unit {0}
IsForHead (While condition) = IsGrouped false condition
IsForHead (ForClauses first condition post) = IsAny (IsSimple false true) first × IsAny (IsGrouped false) condition × IsAny (IsSimple false false) post
IsForHead (Range target channel) = IsTarget target × IsGrouped false channel
