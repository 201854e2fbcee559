-- The code of a file that the checker takes does what the file does, and keeps the verifier's rules.
use Rattle.std.proofs.Common.{◌≡◌, sym, subst}
use Rattle.syntax.specs.Tree.{File}
use Rattle.word.specs.Worlds.{Equal}
use Rattle.bytecode.specs.Code.{Code}
use Rattle.bytecode.specs.Machine.{code_kind}
use Rattle.bytecode.specs.Rules.{IsVerified}
use Rattle.typing_rules.specs.Files.{IsTyped}
use Rattle.meaning.specs.Source.{source_kind}
use Rattle.syntax.specs.Grammar.{IsGrammatical, IsLimited}
use Rattle.codegen_base.specs.Program.{code_of}
use Rattle.codegen_fine.proofs.Main.{typed_file}
use Rattle.codegen.proofs.Equal.{is_equal}

pub compiled_equal : (file : File) (code : Code) → IsGrammatical file → IsTyped file → code ≡ code_of file → Equal (source_kind file) (code_kind code)
compiled_equal file code grammatical typed is = subst (λ (c : Code). Equal (source_kind file) (code_kind c)) (sym is) (is_equal file grammatical.formed typed)

pub compiled_verified : (file : File) (code : Code) → IsGrammatical file → IsLimited file → IsTyped file → code ≡ code_of file → IsVerified code
compiled_verified file code grammatical limited typed is = subst IsVerified (sym is) (typed_file file grammatical limited typed)
