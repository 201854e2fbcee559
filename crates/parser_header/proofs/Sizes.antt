-- What comes after `if`, `for` or `case` has no more nodes than lexemes.
use Rattle.std.proofs.Common.{ℕ, ◌+◌, ◌≤◌, List, ◌∷◌, length, arith, Option, Some, None}
use Rattle.scanner.specs.declared.kind.TokenKind.TheVariants as kinds
use Rattle.syntax.specs.Tree.{Place, IfHead, Bare, Semicolon, First, Target, NoTarget, DefineTarget, AssignTarget, ForHead, Forever, While, ForClauses, Range, Comm, CommSend, CommReceive, CommDefine, CommAssign}
use Rattle.syntax.specs.Measures.{expression_size, simple_size, if_head_size, target_size, for_head_size, comm_size, if_any}
use Rattle.parser_base.specs.Lexemes.{Lexeme, Mark}
use Rattle.parser_base.specs.Spelling.{before}
use Rattle.parser_simple.specs.Spelling.{simple_words}
use Rattle.parser_header.specs.Spelling.{second_name_words, second_place_words, comm_words, if_head_words, optional, target_words, for_head_words}
use Rattle.parser_simple.proofs.Sizes.{value_size, place_grows, simple_grows}

-- ---- what comes after `if`, `for`, `case`, `return` and `var`

pub if_head_grows : (h : IfHead) (rest : List Lexeme) → if_head_size h + length rest ≤ length (if_head_words h rest)
if_head_grows Bare rest = omega arith
if_head_grows Semicolon rest = omega arith
if_head_grows (First s) rest = omega (arith, simple_grows s (Mark kinds.Semicolon ∷ rest))

optional_grows : {A : Type 0} (count : A → ℕ) (words : A → List Lexeme → List Lexeme) (x : Option A) (rest : List Lexeme) → ((y : A) (ws : List Lexeme) → count y + length ws ≤ length (words y ws)) → if_any count x + length rest ≤ length (optional words x rest)
optional_grows count words None rest grows = omega arith
optional_grows count words (Some y) rest grows = grows y rest

target_grows : (t : Target) (rest : List Lexeme) → target_size t + length rest ≤ length (target_words t rest)
target_grows NoTarget rest = omega arith
target_grows (DefineTarget name) rest = omega arith
target_grows (AssignTarget p) rest = omega (arith, place_grows p (Mark kinds.Assign ∷ rest))

pub for_head_grows : (h : ForHead) (rest : List Lexeme) → for_head_size h + length rest ≤ length (for_head_words h rest)
for_head_grows Forever rest = omega arith
for_head_grows (While c) rest = value_size c rest
for_head_grows (ForClauses first test post) rest =
    let last = optional simple_words post rest in
    let middle = optional before test (Mark kinds.Semicolon ∷ last) in
    omega (arith, optional_grows simple_size simple_words first (Mark kinds.Semicolon ∷ middle) simple_grows, optional_grows expression_size before test (Mark kinds.Semicolon ∷ last) value_size, optional_grows simple_size simple_words post rest simple_grows)
for_head_grows (Range t c) rest = omega (arith, target_grows t (Mark kinds.Range ∷ before c rest), value_size c rest)

second_name_grows : (ok : Option (List ℕ)) (rest : List Lexeme) → length rest ≤ length (second_name_words ok rest)
second_name_grows None rest = omega arith
second_name_grows (Some name) rest = omega arith

second_place_grows : (ok : Option Place) (rest : List Lexeme) → if_any (λ (p : Place). 1) ok + length rest ≤ length (second_place_words ok rest)
second_place_grows None rest = omega arith
second_place_grows (Some p) rest = omega (arith, place_grows p rest)

pub comm_grows : (c : Comm) (rest : List Lexeme) → comm_size c + length rest ≤ length (comm_words c rest)
comm_grows (CommSend c v) rest = omega (arith, value_size c (Mark kinds.Arrow ∷ before v rest), value_size v rest)
comm_grows (CommReceive c) rest = omega (arith, value_size c rest)
comm_grows (CommDefine item ok c) rest = omega (arith, second_name_grows ok (Mark kinds.Define ∷ Mark kinds.Arrow ∷ before c rest), value_size c rest)
comm_grows (CommAssign item ok c) rest =
    let received = Mark kinds.Assign ∷ Mark kinds.Arrow ∷ before c rest in
    omega (arith, place_grows item (second_place_words ok received), second_place_grows ok received, value_size c rest)
