-- Declarations: what is spelt is read, and what is read is spelt so.
use Rattle.std.proofs.Common.{◌≡◌, ℕ, suc, ◌≤◌, Bool, false, Option, Some, None, List, [], ◌∷◌, ◌++◌, length, Ok, inl, inr, refl, sym, ap, ◌∙◌, subst, arith}
use Rattle.scanner.specs.declared.kind.TokenKind.TheVariants as kinds
use Rattle.syntax.specs.Tree.{TypeExpression, Statement, statements_in, statements as made_statements, Declared, Struct, Function, Top, StructTop, FunctionTop}
use Rattle.syntax.specs.Measures.{highest, if_any, type_height, statement_height, statement_longest, declared_height, top_height, top_longest}
use Rattle.syntax.proofs.Lists.{statements-statements_in, statements_in-statements, statements_height-of, statements_longest-of}
use Rattle.parser_base.specs.Lexemes.{Lexeme, Name, Mark}
use Rattle.parser_base.specs.Spelling.{following, separated, joined, closing, AreSome, type_words}
use Rattle.parser_base.specs.Reading.{Syntax, Reading, ◌>>=◌, expect, plain_name, listed, type_at, as_one}
use Rattle.parser_base.proofs.Marks.{bind_ok, in_turn, ok_is, expect_is, plain_name_is}
use Rattle.parser_base.proofs.ListLaws.{AreFew, ReadBack, Found, High, Many, Found as AllFound, High as AllHigh, Many as AllMany, Full, all_again, IsReadAgain, listed_again, listed_sound}
use Rattle.parser_base.proofs.Steps.{then_again, gave, made_is, either}
use Rattle.parser_base.proofs.TypeLaws.{Found as TypeFound, High as TypeHigh, type_again, type_sound}
use Rattle.parser_simple.specs.Reading.{begins_with}
use Rattle.parser_statement.specs.Spelling.{statement_words, IsStatement}
use Rattle.parser_statement.specs.Reading.{statement, statement_next}
use Rattle.parser.specs.Spelling.{declared_words, struct_words, IsStruct, result_words, IsResult, block_words, function_words, IsFunction, top_words, IsTop}
use Rattle.parser.specs.Reading.{all_declared, structure, result_type, block, function, top}
use Rattle.parser_statement.proofs.Sizes.{statement_longer, separated_longer}
use Rattle.parser_statement.proofs.StatementLaws.{Ends, statements, statement_again, statements_separate, statements_sound}
use Rattle.parser.proofs.DeclaredLaws.{type_begins, count_of, all_again as declared_again, all_sound as declared_sound}

-- ---- what is spelt is read

abbrev pub TopOutcome : (most depth_left : ℕ) → Reading Top → Top → List Lexeme → Type 0
TopOutcome most depth_left read t rest = ReadBack read t rest (top_height t) (suc (suc depth_left)) (λ listing. top_longest listing t) most

struct_again : (most depth_left : ℕ) (s : Struct) (rest : List Lexeme) → IsStruct s → TopOutcome most depth_left (structure most depth_left (struct_words s rest)) (StructTop s) rest
unfolding structure expect plain_name
struct_again most depth_left s rest is =
    rw is.named
    (then_again _ (declared_again kinds.Semicolon kinds.RightBrace most depth_left s.fields s.trailing rest refl is.fields is.trailing) (λ high. omega (arith, high)) (λ listing. omega arith)
    (λ low few. Found (omega (arith, low)) few refl))

no_brace : (kind : TypeExpression) (rest : List Lexeme) → begins_with kinds.LeftBrace (type_words kind ++ rest) ≡ false
no_brace kind rest = type_begins kinds.LeftBrace kind rest refl refl refl

typed_again : (most depth_left : ℕ) (kind : TypeExpression) (rest : List Lexeme) → IsResult (Some kind)
    → ReadBack (as_one (λ t. Some t) (type_at depth_left (type_words kind ++ rest))) (Some kind) rest (type_height kind) depth_left (λ listing. 0) most
typed_again most depth_left kind rest is =
    elim (type_again depth_left kind rest is) [
      | TypeFound low e ↦ Found low (λ listing. omega arith) (rw e refl)
      | TypeHigh high e ↦ High high (rw e refl)
    ]

result_again : (most depth_left : ℕ) (kind : Option TypeExpression) (rest : List Lexeme) → IsResult kind → ReadBack (result_type depth_left (result_words kind (Mark kinds.LeftBrace ∷ rest))) kind (Mark kinds.LeftBrace ∷ rest) (if_any type_height kind) depth_left (λ listing. 0) most
unfolding result_type begins_with
result_again most depth_left None rest is = Found (omega arith) (λ listing. omega arith) refl
result_again most depth_left (Some kind) rest is = rw (no_brace kind (Mark kinds.LeftBrace ∷ rest)) (typed_again most depth_left kind (Mark kinds.LeftBrace ∷ rest) is)

block_again : (most depth_left : ℕ) (body : List Statement) (rest : List Lexeme) → AreSome IsStatement body
    → ReadBack (block most depth_left (block_words body rest)) (body, false) rest (highest statement_height body) depth_left (λ listing. highest (statement_longest listing) body) most
unfolding block expect
block_again most depth_left [] rest some = absurd some
block_again most depth_left (s ∷ ss) rest some =
    let words = joined statement_words (following kinds.Semicolon) (s ∷ ss) (Mark kinds.RightBrace ∷ rest) in
    let following' = separated statement_words (following kinds.Semicolon) ss (Mark kinds.RightBrace ∷ rest) in
    let enough : length (s ∷ ss) ≤ length words = omega (arith, separated_longer ss (Mark kinds.RightBrace ∷ rest) some.1 (omega arith), statement_longer s following' some.0) in
    let each = all_again IsStatement (IsReadAgain (statements depth_left most) Ends) (statement_again depth_left most) (s ∷ ss) some in
    elim (listed_again (statements depth_left most) Ends false rest Syntax (statements_separate depth_left most rest) ss (length words) s some each) [
      | AllFound low few count e ↦ Found low few e
      | AllHigh high e ↦ High high e
      | AllMany listing many e ↦ Many listing many e
      | Full count e ↦ absurd (omega arith)
    ]

abbrev made_function : (name : List ℕ) → (parameters : List Declared) → (trailing : Bool) → Option TypeExpression → List Statement → Top
made_function name parameters trailing kind body = FunctionTop (record { name = name; parameters = parameters; trailing = trailing; result = kind; body = made_statements body })

-- a function whose statements are in a list
made_again' : (most depth_left : ℕ) (name : List ℕ) (parameters : List Declared) (trailing : Bool) (kind : Option TypeExpression) (body : List Statement) (rest : List Lexeme)
    → highest declared_height parameters ≤ suc depth_left → AreFew (λ listing. count_of listing parameters) most → if_any type_height kind ≤ suc depth_left → AreSome IsStatement body
    → TopOutcome most depth_left (block most depth_left (block_words body rest) >>= λ found. gave (made_function name parameters trailing kind found.0.0) found.1) (made_function name parameters trailing kind body) rest
made_again' most depth_left name parameters trailing kind body rest low few short some =
    then_again _ (block_again most depth_left body rest some) (λ high. omega (arith, high, statements_height-of body)) (λ listing. omega (arith, statements_longest-of listing body))
    (λ low' few'. Found (omega (arith, low', statements_height-of body)) (λ listing. omega (arith, few listing, few' listing, statements_longest-of listing body)) refl)

function_again : (most depth_left : ℕ) (f : Function) (rest : List Lexeme) → IsFunction f
    → TopOutcome most depth_left (function most depth_left (function_words f rest)) (made_function f.name f.parameters f.trailing f.result (statements_in f.body)) rest
unfolding function expect plain_name
function_again most depth_left f rest is =
    let body = statements_in f.body in
    let high' = statements_height-of body in
    rw is.named
    (then_again _ (declared_again kinds.Comma kinds.RightParenthesis most depth_left f.parameters f.trailing (result_words f.result (block_words body rest)) refl is.parameters is.trailing) (λ high. omega (arith, high)) (λ listing. omega arith)
    (λ low few. then_again _ (result_again most (suc depth_left) f.result (joined statement_words (following kinds.Semicolon) body (Mark kinds.RightBrace ∷ rest)) is.result) (λ high. omega (arith, high)) (λ listing. omega arith)
    (λ short none. made_again' most depth_left f.name f.parameters f.trailing f.result body rest low few short is.body)))

function_is : (f : Function) → made_function f.name f.parameters f.trailing f.result (statements_in f.body) ≡ FunctionTop f
function_is f = λ i. FunctionTop (record { name = f.name; parameters = f.parameters; trailing = f.trailing; result = f.result; body = statements-statements_in f.body i })

top_is_struct : (most depth_left : ℕ) (s : Struct) (rest : List Lexeme) → top most depth_left (struct_words s rest) ≡ structure most depth_left (struct_words s rest)
unfolding top begins_with
top_is_struct most depth_left s rest = refl

top_is_function : (most depth_left : ℕ) (f : Function) (rest : List Lexeme) → top most depth_left (function_words f rest) ≡ function most depth_left (function_words f rest)
unfolding top begins_with
top_is_function most depth_left f rest = refl

pub top_again : (most depth_left : ℕ) (t : Top) (rest : List Lexeme) → IsTop t → TopOutcome most depth_left (top most depth_left (top_words t rest)) t rest
top_again most depth_left (StructTop s) rest is = rw (top_is_struct most depth_left s rest) (struct_again most depth_left s rest is)
top_again most depth_left (FunctionTop f) rest is =
    rw (top_is_function most depth_left f rest)
    (subst (λ (t : Top). TopOutcome most depth_left (function most depth_left (function_words f rest)) t rest) (function_is f) (function_again most depth_left f rest is))

-- ---- what is read is spelt so

pub record IsTopSound (most depth_left : ℕ) (ws : List Lexeme) (t : Top) (rest : List Lexeme) : Type 0 where
  pub parts : ws ≡ top_words t rest
  pub is : IsTop t
  pub low : top_height t ≤ suc (suc depth_left)
  pub few : AreFew (λ listing. top_longest listing t) most

abbrev made_struct : List ℕ → List Declared × Bool → Top
made_struct name fields = StructTop (record { name = name; fields = fields.0; trailing = fields.1 })

-- a mark or a name, and what was read after it
after_word : (word : Lexeme) (ws rest tail : List Lexeme) → ws ≡ word ∷ rest → rest ≡ tail → ws ≡ word ∷ tail
after_word word ws rest tail first others = first ∙ ap (λ (x : List Lexeme). word ∷ x) others

struct_sound : (most depth_left : ℕ) (ws : List Lexeme) (t : Top) (rest : List Lexeme) → structure most depth_left ws ≡ gave t rest → IsTopSound most depth_left ws t rest
unfolding structure
struct_sound most depth_left ws t rest e =
    let fields = λ (name : List ℕ) (inside : List Lexeme). all_declared kinds.Semicolon kinds.RightBrace most depth_left inside >>= λ all. gave (made_struct name all.0) all.1 in
    let brace = λ (name : List ℕ) (keyword : List Lexeme). expect kinds.LeftBrace keyword >>= fields name in
    let a = bind_ok (expect kinds.TypeKeyword ws) (λ first. plain_name first >>= λ name. expect kinds.Struct name.1 >>= brace name.0) (t, rest) e in
    let n = bind_ok (plain_name a.0) (λ name. expect kinds.Struct name.1 >>= brace name.0) (t, rest) a.2 in
    let b = bind_ok (expect kinds.Struct n.0.1) (brace n.0.0) (t, rest) n.2 in
    let c = bind_ok (expect kinds.LeftBrace b.0) (fields n.0.0) (t, rest) b.2 in
    let d = bind_ok (all_declared kinds.Semicolon kinds.RightBrace most depth_left c.0) (λ all. gave (made_struct n.0.0 all.0) all.1) (t, rest) c.2 in
    let named = plain_name_is a.0 n.0.0 n.0.1 n.1 in
    let s = declared_sound kinds.Semicolon kinds.RightBrace most depth_left c.0 d.0 d.1 in
    let fields' = joined declared_words (following kinds.Semicolon) d.0.0.0 (closing kinds.Semicolon kinds.RightBrace d.0.0.1 d.0.1) in
    let inside = after_word (Mark kinds.LeftBrace) b.0 c.0 fields' (expect_is kinds.LeftBrace b.0 c.0 c.1) s.parts in
    let keyword = after_word (Mark kinds.Struct) n.0.1 b.0 (Mark kinds.LeftBrace ∷ fields') (expect_is kinds.Struct n.0.1 b.0 b.1) inside in
    let name = after_word (Name n.0.0) a.0 n.0.1 (Mark kinds.Struct ∷ Mark kinds.LeftBrace ∷ fields') named.0 keyword in
    subst (λ (x : Top × List Lexeme). IsTopSound most depth_left ws x.0 x.1) (ok_is (made_struct n.0.0 d.0.0, d.0.1) (t, rest) d.2) (record {
      parts = after_word (Mark kinds.TypeKeyword) ws a.0 (Name n.0.0 ∷ Mark kinds.Struct ∷ Mark kinds.LeftBrace ∷ fields') (expect_is kinds.TypeKeyword ws a.0 a.1) name;
      is = record { named = named.1; fields = s.are; trailing = s.last };
      low = omega (arith, s.low);
      few = s.few;
    })

record IsResultSound (depth_left : ℕ) (ws : List Lexeme) (kind : Option TypeExpression) (rest : List Lexeme) : Type 0 where
  parts : ws ≡ result_words kind rest
  is : IsResult kind
  low : if_any type_height kind ≤ depth_left

result_sound : (depth_left : ℕ) (ws : List Lexeme) (kind : Option TypeExpression) (rest : List Lexeme) → result_type depth_left ws ≡ gave kind rest → IsResultSound depth_left ws kind rest
unfolding result_type
result_sound depth_left ws kind rest e =
    elim (either (begins_with kinds.LeftBrace ws) (gave None ws) (as_one (λ t. Some t) (type_at depth_left ws)) (kind, rest) e) [
      | inl brace ↦ subst (λ (x : Option TypeExpression × List Lexeme). IsResultSound depth_left ws x.0 x.1) (ok_is (None, ws) (kind, rest) brace.1) (record { parts = refl; is = tt; low = omega arith })
      | inr other ↦
          let a = made_is (λ t. Some t) (type_at depth_left ws) kind rest other.1 in
          let s = type_sound depth_left ws a.0 rest a.1 in
          subst (λ (x : Option TypeExpression). IsResultSound depth_left ws x rest) a.2 (record { parts = s.parts; is = s.is; low = omega (arith, s.low) })
    ]

record IsBlockSound (most depth_left : ℕ) (ws : List Lexeme) (found : (List Statement × Bool) × List Lexeme) : Type 0 where
  parts : ws ≡ block_words found.0.0 found.1
  are : AreSome IsStatement found.0.0
  low : highest statement_height found.0.0 ≤ depth_left
  few : AreFew (λ listing. highest (statement_longest listing) found.0.0) most

block_sound : (most depth_left : ℕ) (ws : List Lexeme) (found : (List Statement × Bool) × List Lexeme) → block most depth_left ws ≡ Ok found → IsBlockSound most depth_left ws found
unfolding block
block_sound most depth_left ws found e =
    let a = bind_ok (expect kinds.LeftBrace ws) (λ rest. listed (statement most depth_left) statement_next Syntax (length rest) rest) found e in
    let s = listed_sound (statements depth_left most) Syntax (statements_sound depth_left most) (length a.0) a.0 found a.2 in
    record { parts = expect_is kinds.LeftBrace ws a.0 a.1 ∙ ap (λ (x : List Lexeme). Mark kinds.LeftBrace ∷ x) s.parts; are = s.are; low = s.low; few = s.few }

abbrev parameters_words : List Declared × Bool → List Lexeme → List Lexeme
parameters_words parameters rest = joined declared_words (following kinds.Comma) parameters.0 (closing kinds.Comma kinds.RightParenthesis parameters.1 rest)

-- parameters, and the result and block after them
typed_parts : (parameters : List Declared × Bool) (kind : Option TypeExpression) (inside typed bare tail : List Lexeme) → inside ≡ parameters_words parameters typed → typed ≡ result_words kind bare → bare ≡ tail → inside ≡ parameters_words parameters (result_words kind tail)
typed_parts parameters kind inside typed bare tail first second third = first ∙ ap (parameters_words parameters) (second ∙ ap (result_words kind) third)

-- the parts of a function, each as it was read
function_of : (most depth_left : ℕ) (ws : List Lexeme) (t : Top) (rest first : List Lexeme) (name : List ℕ × List Lexeme) (within : List Lexeme) (parameters : (List Declared × Bool) × List Lexeme) (kind : Option TypeExpression × List Lexeme) (found : (List Statement × Bool) × List Lexeme)
    → expect kinds.Func ws ≡ Ok first → plain_name first ≡ Ok name → expect kinds.LeftParenthesis name.1 ≡ Ok within → all_declared kinds.Comma kinds.RightParenthesis most depth_left within ≡ Ok parameters
    → result_type (suc depth_left) parameters.1 ≡ Ok kind → block most depth_left kind.1 ≡ Ok found → gave (made_function name.0 parameters.0.0 parameters.0.1 kind.0 found.0.0) found.1 ≡ gave t rest → IsTopSound most depth_left ws t rest
function_of most depth_left ws t rest first name within parameters kind found begun named braced listed typed blocked made =
    let word = plain_name_is first name.0 name.1 named in
    let ps = declared_sound kinds.Comma kinds.RightParenthesis most depth_left within parameters listed in
    let ks = result_sound (suc depth_left) parameters.1 kind.0 kind.1 typed in
    let bs = block_sound most depth_left kind.1 found blocked in
    let ss = found.0.0 in
    let same : statements_in (made_statements ss) ≡ ss = statements_in-statements ss in
    let after = result_words kind.0 (block_words (statements_in (made_statements ss)) found.1) in
    let inside' = parameters_words parameters.0 after in
    let block' = bs.parts ∙ ap (λ (x : List Statement). block_words x found.1) (sym same) in
    let parameters' = typed_parts parameters.0 kind.0 within parameters.1 kind.1 (block_words (statements_in (made_statements ss)) found.1) ps.parts ks.parts block' in
    let open' = after_word (Mark kinds.LeftParenthesis) name.1 within inside' (expect_is kinds.LeftParenthesis name.1 within braced) parameters' in
    let name' = after_word (Name name.0) first name.1 (Mark kinds.LeftParenthesis ∷ inside') word.0 open' in
    subst (λ (x : Top × List Lexeme). IsTopSound most depth_left ws x.0 x.1) (ok_is (made_function name.0 parameters.0.0 parameters.0.1 kind.0 ss, found.1) (t, rest) made) (record {
      parts = after_word (Mark kinds.Func) ws first (Name name.0 ∷ Mark kinds.LeftParenthesis ∷ inside') (expect_is kinds.Func ws first begun) name';
      is = record { named = word.1; parameters = ps.are; trailing = ps.last; result = ks.is; body = subst (AreSome IsStatement) (sym same) bs.are };
      low = omega (arith, ps.low, ks.low, bs.low, statements_height-of ss);
      few = λ listing. omega (arith, ps.few listing, bs.few listing, statements_longest-of listing ss);
    })

function_sound : (most depth_left : ℕ) (ws : List Lexeme) (t : Top) (rest : List Lexeme) → function most depth_left ws ≡ gave t rest → IsTopSound most depth_left ws t rest
unfolding function
function_sound most depth_left ws t rest e =
    let body = λ (name : List ℕ) (parameters : List Declared × Bool) (kind : Option TypeExpression) (words : List Lexeme). block most depth_left words >>= λ found. gave (made_function name parameters.0 parameters.1 kind found.0.0) found.1 in
    let kinded = λ (name : List ℕ) (parameters : List Declared × Bool) (words : List Lexeme). result_type (suc depth_left) words >>= λ kind. body name parameters kind.0 kind.1 in
    let inside = λ (name : List ℕ) (words : List Lexeme). all_declared kinds.Comma kinds.RightParenthesis most depth_left words >>= λ parameters. kinded name parameters.0 parameters.1 in
    let opened = λ (name : List ℕ) (words : List Lexeme). expect kinds.LeftParenthesis words >>= inside name in
    in_turn (expect kinds.Func ws) (λ first. plain_name first >>= λ name. opened name.0 name.1) (t, rest) e (λ first begun e1.
    in_turn (plain_name first) (λ name. opened name.0 name.1) (t, rest) e1 (λ name named e2.
    in_turn (expect kinds.LeftParenthesis name.1) (inside name.0) (t, rest) e2 (λ within braced e3.
    in_turn (all_declared kinds.Comma kinds.RightParenthesis most depth_left within) (λ parameters. kinded name.0 parameters.0 parameters.1) (t, rest) e3 (λ parameters listed e4.
    in_turn (result_type (suc depth_left) parameters.1) (λ kind. body name.0 parameters.0 kind.0 kind.1) (t, rest) e4 (λ kind typed e5.
    in_turn (block most depth_left kind.1) (λ found. gave (made_function name.0 parameters.0.0 parameters.0.1 kind.0 found.0.0) found.1) (t, rest) e5 (λ found blocked e6.
    function_of most depth_left ws t rest first name within parameters kind found begun named braced listed typed blocked e6))))))

pub top_sound : (most depth_left : ℕ) (ws : List Lexeme) (t : Top) (rest : List Lexeme) → top most depth_left ws ≡ gave t rest → IsTopSound most depth_left ws t rest
unfolding top
top_sound most depth_left ws t rest e =
    elim (either (begins_with kinds.TypeKeyword ws) (structure most depth_left ws) (function most depth_left ws) (t, rest) e) [
      | inl is ↦ struct_sound most depth_left ws t rest is.1
      | inr other ↦ function_sound most depth_left ws t rest other.1
    ]
