use Rattle.std.proofs.Common.{◌≤◌, length, ap, sym, subst, arith}
use Rattle.std.proofs.lemmas.Result.{err_from_is_err_and}
use Rattle.std.proofs.lemmas.List.{length-map}
use Rattle.go_text.specs.Source.{bytes_of}
use Rattle.syntax.specs.Tree.{File}
use Rattle.syntax.specs.Measures.{Entries, SelectClauses, height, most_entries, most_clauses}
use Rattle.syntax.specs.View.{file_of}
use Rattle.syntax.specs.declared.limits.TheConstants.{MAX_CLAUSES, MAX_ENTRIES}
use Rattle.parser.specs.declared.top.TheConstants.{STATEMENT_DEPTH}
use Rattle.parser_base.specs.Cursor.{ahead}
use Rattle.parser_base.specs.Lexemes.{lexeme, lexemes}
use Rattle.parser.proofs.FileLaws.{file_sound}
use Rattle.parser.proofs.Spelled.{spelled}
use Rattle.parser.proofs.Parsing.{fault_syntax, fault_deep, fault_many, size_read, count_read}
use Rattle.parser.proofs.parser.parse.Goals as goal

pub returns-in_err-file-clause-syntax : goal.returns-in_err-file-clause-syntax
returns-in_err-file-clause-syntax c =
    let p = err_from_is_err_and c.from_residual.result c.from_residual.ensures.1 in
    rw (p.1, p.2) (fault_syntax STATEMENT_DEPTH MAX_ENTRIES (ahead c.new.result) (lexemes (bytes_of c.args.source.now) c.args.tokens.now) c.in_err-file.field-0.0 c.new.ensures c.in_err-file.ensures)

pub returns-in_err-file-clause-deep : goal.returns-in_err-file-clause-deep
returns-in_err-file-clause-deep c =
    let p = err_from_is_err_and c.from_residual.result c.from_residual.ensures.1 in
    rw (p.1, p.2) (fault_deep STATEMENT_DEPTH MAX_ENTRIES (ahead c.new.result) (lexemes (bytes_of c.args.source.now) c.args.tokens.now) c.in_err-file.field-0.0 c.new.ensures c.in_err-file.ensures)

pub returns-in_err-file-clause-many : goal.returns-in_err-file-clause-many
returns-in_err-file-clause-many c =
    let p = err_from_is_err_and c.from_residual.result c.from_residual.ensures.1 in
    rw (p.1, p.2) (fault_many STATEMENT_DEPTH MAX_ENTRIES (ahead c.new.result) (lexemes (bytes_of c.args.source.now) c.args.tokens.now) c.in_err-file.field-0.0 Entries c.new.ensures c.in_err-file.ensures)

pub returns-in_err-file-clause-wide : goal.returns-in_err-file-clause-wide
returns-in_err-file-clause-wide c =
    let p = err_from_is_err_and c.from_residual.result c.from_residual.ensures.1 in
    rw (p.1, p.2) (fault_many STATEMENT_DEPTH MAX_ENTRIES (ahead c.new.result) (lexemes (bytes_of c.args.source.now) c.args.tokens.now) c.in_err-file.field-0.0 SelectClauses c.new.ensures c.in_err-file.ensures)

pub file_spans-requires : goal.file_spans-requires
file_spans-requires c =
    let all = count_read STATEMENT_DEPTH MAX_ENTRIES (ahead c.new.result) (file_of c.in_ok-file.file) c.in_ok-file.ensures in
    let same = ap length c.new.ensures in
    omega (arith, length-map c.args.tokens.now (lexeme (bytes_of c.args.source.now)))

pub new-requires-2-clause-small : goal.new-requires-2-clause-small
new-requires-2-clause-small c =
    let few = size_read STATEMENT_DEPTH MAX_ENTRIES (ahead c.new.result) (file_of c.in_ok-file.file) c.in_ok-file.ensures in
    let same = ap length c.new.ensures in
    omega (arith, length-map c.args.tokens.now (lexeme (bytes_of c.args.source.now)))

pub new-requires-2-clause-grammatical : goal.new-requires-2-clause-grammatical
new-requires-2-clause-grammatical c =
    let found = file_sound STATEMENT_DEPTH MAX_ENTRIES (ahead c.new.result) (file_of c.in_ok-file.file) c.in_ok-file.ensures in
    spelled _ (file_of c.in_ok-file.file) found.spelt

pub new-requires-2-clause-limited : goal.new-requires-2-clause-limited
new-requires-2-clause-limited c =
    let found = file_sound STATEMENT_DEPTH MAX_ENTRIES (ahead c.new.result) (file_of c.in_ok-file.file) c.in_ok-file.ensures in
    (found.few Entries, found.few SelectClauses)

pub returns-clause-spelt : goal.returns-clause-spelt
returns-clause-spelt c =
    let found = file_sound STATEMENT_DEPTH MAX_ENTRIES (ahead c.new.result) (file_of c.in_ok-file.file) c.in_ok-file.ensures in
    rw (c.new-2.ensures.tree, ← c.new.ensures) found.spelt

pub returns-clause-low : goal.returns-clause-low
returns-clause-low c =
    let found = file_sound STATEMENT_DEPTH MAX_ENTRIES (ahead c.new.result) (file_of c.in_ok-file.file) c.in_ok-file.ensures in
    omega (arith, found.low, ap height c.new-2.ensures.tree)

pub returns-clause-few : goal.returns-clause-few
returns-clause-few c =
    let found = file_sound STATEMENT_DEPTH MAX_ENTRIES (ahead c.new.result) (file_of c.in_ok-file.file) c.in_ok-file.ensures in
    subst (λ (f : File). most_entries f ≤ MAX_ENTRIES) (sym c.new-2.ensures.tree) (found.few Entries)

pub returns-clause-clauses : goal.returns-clause-clauses
returns-clause-clauses c =
    let found = file_sound STATEMENT_DEPTH MAX_ENTRIES (ahead c.new.result) (file_of c.in_ok-file.file) c.in_ok-file.ensures in
    subst (λ (f : File). most_clauses f ≤ MAX_CLAUSES) (sym c.new-2.ensures.tree) (found.few SelectClauses)
