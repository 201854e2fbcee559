-- What the fault or the file that was read says of the lexemes.
use Rattle.std.proofs.Common.{◌≡◌, refl, ℕ, ◌+◌, ◌≤◌, Option, Some, Result, Ok, Err, List, length, ap, ◌∙◌, sym, subst, arith}
use Rattle.parser_base.specs.declared.fault.ParseFault.{ParseFault}
use Rattle.syntax.specs.Tree.{File}
use Rattle.syntax.specs.Measures.{Listing, size, height, longest}
use Rattle.parser_base.specs.Lexemes.{Lexeme}
use Rattle.parser_base.specs.declared.fault.ParseFault.TheVariants as parse
use Rattle.parser_base.specs.Faults.{fault_of}
use Rattle.parser_base.specs.Reading.{Refusal, Syntax, TooDeep, TooMany, FailsWith, Fails, named_by, refusal_of}
use Rattle.parser.specs.Spelling.{Spells}
use Rattle.parser.specs.Reading.{file}
use Rattle.parser.proofs.FileLaws.{file_sound, no_syntax, no_low, no_few}
use Rattle.parser.proofs.Sizes.{size-le}
use Rattle.parser.proofs.Counts.{file_counts}
use Rattle.spans.specs.Words.{file_count}

-- A text is refused as its reading fails.
refused_so : (fault : ParseFault) → refusal_of (fault_of fault) ≡ named_by fault
refused_so (parse.Syntax span) = refl
refused_so (parse.TooDeep span) = refl
refused_so (parse.TooManyEntries span) = refl
refused_so (parse.TooManyClauses span) = refl
refused_so parse.Memory = refl

fails_as : {A : Type 0} (fault : ParseFault) (refusal : Refusal) (read : Result A Refusal) → Fails fault read → refusal_of (fault_of fault) ≡ Some refusal → read ≡ Err refusal
fails_as fault refusal read fails is = subst (λ (o : Option Refusal). FailsWith fault o read) (sym (refused_so fault) ∙ is) fails

pub fault_syntax : (depth_left most : ℕ) (ahead words : List Lexeme) (fault : ParseFault) → ahead ≡ words → Fails fault (file most depth_left ahead) → refusal_of (fault_of fault) ≡ Some Syntax → (f : File) → Spells words f → ⊥
fault_syntax depth_left most ahead words fault same fails is =
    no_syntax depth_left most words (ap (file most depth_left) (sym same) ∙ fails_as fault Syntax (file most depth_left ahead) fails is)

pub fault_deep : (depth_left most : ℕ) (ahead words : List Lexeme) (fault : ParseFault) → ahead ≡ words → Fails fault (file most depth_left ahead) → refusal_of (fault_of fault) ≡ Some TooDeep → (f : File) → Spells words f → height f ≤ depth_left + 3 → ⊥
fault_deep depth_left most ahead words fault same fails is =
    no_low depth_left most words (ap (file most depth_left) (sym same) ∙ fails_as fault TooDeep (file most depth_left ahead) fails is)

pub fault_many : (depth_left most : ℕ) (ahead words : List Lexeme) (fault : ParseFault) (listing : Listing) → ahead ≡ words → Fails fault (file most depth_left ahead) → refusal_of (fault_of fault) ≡ Some (TooMany listing) → (f : File) → Spells words f → longest listing f ≤ most → ⊥
fault_many depth_left most ahead words fault listing same fails is =
    no_few depth_left most words listing (ap (file most depth_left) (sym same) ∙ fails_as fault (TooMany listing) (file most depth_left ahead) fails is)

-- a file that was read has no more nodes than there are lexemes
pub size_read : (depth_left most : ℕ) (ws : List Lexeme) (f : File) → file most depth_left ws ≡ Ok f → size f ≤ length ws
size_read depth_left most ws f e =
    let found = file_sound depth_left most ws f e in
    let same = ap length found.spelt.words in
    omega (arith, size-le f found.spelt.well_formed)

-- a file that was read is spelt by as many lexemes as there are
pub count_read : (depth_left most : ℕ) (ws : List Lexeme) (f : File) → file most depth_left ws ≡ Ok f → file_count f ≡ length ws
count_read depth_left most ws f e =
    let found = file_sound depth_left most ws f e in
    omega (arith, ap length found.spelt.words, file_counts f found.spelt.well_formed)
