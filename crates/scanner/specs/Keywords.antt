-- The keywords of statements by what they are for, as the functions of `lexical` are cut: what is a keyword, `Lexical` says.
use Rattle.std.specs.Prelude.{ℕ, List, Option, Some, None, if◌then◌else◌, codes}
use Rattle.std.specs.Str.{bytes_eq}
use Rattle.scanner.specs.declared.kind.TokenKind.{TokenKind}
use Rattle.scanner.specs.declared.kind.TokenKind.TheVariants as kinds

-- the keyword of a choice
unfoldable pub choice_keyword : List ℕ → Option TokenKind
choice_keyword text =
    if bytes_eq text (codes "case") then Some kinds.Case
    else (if bytes_eq text (codes "default") then Some kinds.Default
    else (if bytes_eq text (codes "else") then Some kinds.Else
    else (if bytes_eq text (codes "if") then Some kinds.If
    else (if bytes_eq text (codes "select") then Some kinds.Select
    else (if bytes_eq text (codes "switch") then Some kinds.Switch
    else None)))))

-- the keyword of a jump
unfoldable pub jump_keyword : List ℕ → Option TokenKind
jump_keyword text =
    if bytes_eq text (codes "break") then Some kinds.Break
    else (if bytes_eq text (codes "continue") then Some kinds.Continue
    else (if bytes_eq text (codes "fallthrough") then Some kinds.Fallthrough
    else (if bytes_eq text (codes "goto") then Some kinds.Goto
    else (if bytes_eq text (codes "return") then Some kinds.Return
    else None))))

-- the keyword of a loop, or of a call that is not waited for
unfoldable pub loop_or_call_keyword : List ℕ → Option TokenKind
loop_or_call_keyword text =
    if bytes_eq text (codes "defer") then Some kinds.Defer
    else (if bytes_eq text (codes "for") then Some kinds.For
    else (if bytes_eq text (codes "go") then Some kinds.Go
    else (if bytes_eq text (codes "range") then Some kinds.Range
    else None)))
