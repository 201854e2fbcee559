-- The one list of lexemes that spells a tree.
--
-- `top_words top rest` is the declaration, and then `rest`; so with the others.
use Rattle.std.specs.Prelude.{◌≡◌, Option, Some, None, List, [], ◌∷◌, ◌++◌, codes}
use Rattle.scanner.specs.declared.kind.TokenKind.TheVariants as kinds
use Rattle.syntax.specs.Tree.{TypeExpression, Statement, statements_in, Declared, Struct, Function, Top, StructTop, FunctionTop, File}
use Rattle.parser_base.specs.Lexemes.{Lexeme, Name, Mark}
use Rattle.parser_base.specs.Spelling.{following, joined, closing, AreAll, AreSome, IsTrailing, type_words, IsType}
use Rattle.parser_simple.specs.Spelling.{name_words, IsName}
use Rattle.parser_statement.specs.Spelling.{statement_words, IsStatement}

-- ---- fields and parameters

-- names with commas between them, and their type
abbrev pub declared_words : Declared → List Lexeme → List Lexeme
declared_words declared rest = joined name_words (following kinds.Comma) declared.names (type_words declared.type_expression ++ rest)

abbrev pub IsDeclared : Declared → Type 0
IsDeclared declared = AreSome IsName declared.names × IsType declared.type_expression

-- ---- declarations

-- a struct type: its fields, with semicolons between them
abbrev pub struct_words : Struct → List Lexeme → List Lexeme
struct_words struct rest =
    Mark kinds.TypeKeyword ∷ Name struct.name ∷ Mark kinds.Struct ∷ Mark kinds.LeftBrace
    ∷ joined declared_words (following kinds.Semicolon) struct.fields (closing kinds.Semicolon kinds.RightBrace struct.trailing rest)

pub record IsStruct (struct : Struct) : Type 0 where
  pub named : IsName struct.name
  pub fields : AreAll IsDeclared struct.fields
  pub trailing : IsTrailing struct.fields struct.trailing

-- the type of a function's result, if it has one
abbrev pub result_words : Option TypeExpression → List Lexeme → List Lexeme
result_words None rest = rest
result_words (Some kind) rest = type_words kind ++ rest

abbrev pub IsResult : Option TypeExpression → Type 0
IsResult None = Unit {0}
IsResult (Some kind) = IsType kind

-- statements in braces, with semicolons between them
abbrev pub block_words : List Statement → List Lexeme → List Lexeme
block_words body rest = Mark kinds.LeftBrace ∷ joined statement_words (following kinds.Semicolon) body (Mark kinds.RightBrace ∷ rest)

-- a function: its parameters, with commas between them, its result, and its block
abbrev pub function_words : Function → List Lexeme → List Lexeme
function_words function rest =
    Mark kinds.Func ∷ Name function.name ∷ Mark kinds.LeftParenthesis
    ∷ joined declared_words (following kinds.Comma) function.parameters (closing kinds.Comma kinds.RightParenthesis function.trailing
    (result_words function.result (block_words (statements_in function.body) rest)))

pub record IsFunction (function : Function) : Type 0 where
  pub named : IsName function.name
  pub parameters : AreAll IsDeclared function.parameters
  pub trailing : IsTrailing function.parameters function.trailing
  pub result : IsResult function.result
  pub body : AreSome IsStatement (statements_in function.body)

abbrev pub top_words : Top → List Lexeme → List Lexeme
top_words (StructTop struct) rest = struct_words struct rest
top_words (FunctionTop function) rest = function_words function rest

abbrev pub IsTop : Top → Type 0
IsTop (StructTop struct) = IsStruct struct
IsTop (FunctionTop function) = IsFunction function

-- ---- files

-- declarations, with a semicolon after each
abbrev pub tops_words : List Top → List Lexeme
tops_words [] = []
tops_words (top ∷ rest) = top_words top (Mark kinds.Semicolon ∷ tops_words rest)

abbrev pub words : File → List Lexeme
words file = Mark kinds.Package ∷ Name (codes "main") ∷ Mark kinds.Semicolon ∷ tops_words file.tops

-- the file has these lexemes, its operators are grouped by their precedence, and no list in it that may not be empty is
pub record Spells (lexemes : List Lexeme) (file : File) : Type 0 where
  pub words : lexemes ≡ words file
  pub well_formed : AreAll IsTop file.tops
