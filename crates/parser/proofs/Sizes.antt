-- A tree has no more nodes than lexemes.
use Rattle.std.proofs.Common.{ℕ, ◌+◌, ◌≤◌, List, [], ◌∷◌, ◌++◌, length, sum_by, arith, length-append, Option, Some, None}
use Rattle.std.proofs.lemmas.List.Sums.{sum_by-cons}
use Rattle.scanner.specs.declared.kind.TokenKind.{TokenKind}
use Rattle.scanner.specs.declared.kind.TokenKind.TheVariants as kinds
use Rattle.syntax.specs.Tree.{TypeExpression, statements_in, Declared, Struct, Function, Top, StructTop, FunctionTop, File}
use Rattle.syntax.specs.Measures.{function_size, top_size, size, if_any, type_size, declared_size}
use Rattle.parser_base.specs.Lexemes.{Lexeme, Mark}
use Rattle.parser_base.specs.Spelling.{following, AreAll, AreSome, separated, joined, closing, type_words}
use Rattle.parser_base.proofs.TypeLaws.{type_size-le}
use Rattle.parser_simple.specs.Spelling.{name_words, IsName}
use Rattle.parser_simple.proofs.Sizes.{separated_size, closing_size}
use Rattle.parser_statement.proofs.Sizes.{joined_grows, sum_in}
use Rattle.parser.specs.Spelling.{declared_words, IsDeclared, struct_words, IsStruct, result_words, block_words, function_words, IsFunction, top_words, IsTop, tops_words, words}

-- ---- declarations

declared_grows : (ns : List (List ℕ)) (kind : TypeExpression) (rest : List Lexeme) → AreSome IsName ns → type_size kind + 1 + length rest ≤ length (joined name_words (following kinds.Comma) ns (type_words kind ++ rest))
declared_grows [] kind rest some = absurd some
declared_grows (n ∷ ns) kind rest some =
    omega (arith, type_size-le kind, length-append (type_words kind) rest, separated_size (λ (n : List ℕ). 0) name_words kinds.Comma ns (type_words kind ++ rest) (λ n ws. omega arith))

more_declared_grow : (separator : TokenKind) (ds : List Declared) (rest : List Lexeme) → AreAll IsDeclared ds → sum_by declared_size ds + length rest ≤ length (separated declared_words (following separator) ds rest)
more_declared_grow separator [] rest are = omega arith
more_declared_grow separator (d ∷ ds) rest are =
    let following' = separated declared_words (following separator) ds rest in
    omega (arith, sum_by-cons declared_size d ds, more_declared_grow separator ds rest are.1, declared_grows d.names d.type_expression following' are.0.0)

all_declared_grow : (separator : TokenKind) (ds : List Declared) (rest : List Lexeme) → AreAll IsDeclared ds → sum_by declared_size ds + length rest ≤ length (joined declared_words (following separator) ds rest)
all_declared_grow separator [] rest are = omega arith
all_declared_grow separator (d ∷ ds) rest are =
    let following' = separated declared_words (following separator) ds rest in
    omega (arith, sum_by-cons declared_size d ds, more_declared_grow separator ds rest are.1, declared_grows d.names d.type_expression following' are.0.0)

result_grows : (kind : Option TypeExpression) (rest : List Lexeme) → if_any type_size kind + length rest ≤ length (result_words kind rest)
result_grows None rest = omega arith
result_grows (Some kind) rest = omega (arith, type_size-le kind, length-append (type_words kind) rest)

struct_grows : (s : Struct) (rest : List Lexeme) → IsStruct s → sum_by declared_size s.fields + 1 + length rest ≤ length (struct_words s rest)
struct_grows s rest is =
    let closed = closing kinds.Semicolon kinds.RightBrace s.trailing rest in
    omega (arith, all_declared_grow kinds.Semicolon s.fields closed is.fields, closing_size kinds.Semicolon kinds.RightBrace s.trailing rest)

function_grows : (f : Function) (rest : List Lexeme) → IsFunction f → function_size f + length rest ≤ length (function_words f rest)
function_grows f rest is =
    let body = statements_in f.body in
    let after = result_words f.result (block_words body rest) in
    omega (
      arith,
      all_declared_grow kinds.Comma f.parameters (closing kinds.Comma kinds.RightParenthesis f.trailing after) is.parameters,
      closing_size kinds.Comma kinds.RightParenthesis f.trailing after,
      result_grows f.result (block_words body rest),
      joined_grows body (Mark kinds.RightBrace ∷ rest) is.body,
      sum_in f.body,
    )

top_grows : (t : Top) (rest : List Lexeme) → IsTop t → top_size t + length rest ≤ length (top_words t rest)
top_grows (StructTop s) rest is = struct_grows s rest is
top_grows (FunctionTop f) rest is = function_grows f rest is

tops_grow : (ts : List Top) → AreAll IsTop ts → sum_by top_size ts ≤ length (tops_words ts)
tops_grow [] are = omega arith
tops_grow (t ∷ ts) are = omega (arith, sum_by-cons top_size t ts, tops_grow ts are.1, top_grows t (Mark kinds.Semicolon ∷ tops_words ts) are.0)

-- a declaration takes away no word
pub top_longer : (t : Top) (rest : List Lexeme) → IsTop t → length rest ≤ length (top_words t rest)
top_longer t rest is = omega (arith, top_grows t rest is)

-- there are no more declarations than words
pub tops_longer : (ts : List Top) (rest : List Lexeme) → AreAll IsTop ts → length ts + length rest ≤ length (separated top_words (following kinds.Semicolon) ts rest)
tops_longer [] rest are = omega arith
tops_longer (t ∷ ts) rest are = omega (arith, tops_longer ts rest are.1, top_longer t (separated top_words (following kinds.Semicolon) ts rest) are.0)

pub size-le : (f : File) → AreAll IsTop f.tops → size f ≤ length (words f)
size-le f is = omega (arith, tops_grow f.tops is)
