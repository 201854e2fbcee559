-- The listing of a program's code.
use Rattle.std.specs.Prelude.{ℕ, List, Option, take}
use Rattle.std.specs.Io.KnownBytes.{Appends}
use Rattle.bytecode.specs.Code.{Code}
use Rattle.bytecode.specs.Machine.{code_kind}
use Rattle.bytecode.specs.Rules.{IsVerified}
use Rattle.bytecode.specs.Listing.{listing}
use Rattle.codegen.specs.Codes.{AreNamed}
use Rattle.meaning.specs.Source.{source_kind}
use Rattle.syntax.specs.Tree.{File}
use Rattle.word.specs.Worlds.{Equal}

-- code that keeps the verifier's rules, whose runs are the file's, and whose functions are the file's by their names, in order
pub record IsCodeOf (file : File) (code : Code) : Type 0 where
  pub verified : IsVerified code
  pub named : AreNamed file code
  pub equal : Equal (source_kind file) (code_kind code)

-- what was written after the old contents is the listing of such code
abbrev pub IsListing : File → Option (List ℕ) → Option (List ℕ) → Type 0
IsListing file old new = (code : Code) × IsCodeOf file code × Appends old new (listing code)

-- it is a beginning of it
abbrev pub BeginsListing : File → Option (List ℕ) → Option (List ℕ) → Type 0
BeginsListing file old new = (code : Code) × (n : ℕ) × IsCodeOf file code × Appends old new (take n (listing code))
