use Rattle.std.proofs.Common.{arith, ◌≡◌, ◌≤◌, ◌<◌, ℕ, List, Err, ap, length, sym, subst}
use Rattle.std.specs.Prelude.{IsUtf8}
use Rattle.std.proofs.lemmas.Result.{err_from_is_err_and}
use Rattle.checker.specs.Trees.{tree_in}
use Rattle.go_text.specs.Source.{bytes_of}
use Rattle.go_text.specs.declared.fault.Fault.{Fault}
use Rattle.go_text.specs.declared.fault.Fault.TheVariants as faults
use Rattle.go_text.specs.declared.source.TheConstants.{MAX_LENGTH}
use Rattle.parser_base.specs.Lexemes.{lexemes}
use Rattle.parser.specs.Spelling.{Spells}
use Rattle.scanner.specs.declared.token.Token.{Token}
use Rattle.syntax.specs.declared.tree.Tree.{Tree}
use Rattle.spans.specs.Places.{file_spans}
use Rattle.syntax.specs.Spans.{tree_of, spans_of}
use Rattle.kendo_reading.specs.Reading.{HasNoReading, HasNoTree, Reads}
use Rattle.kendo_reading.proofs.Refusals.{treeless, untyped, reads, untexted, unscanned, unread, wrong}
use Rattle.kendo_reading.proofs.reading.read.Goals as goal

pub returns-in_err-tree-clause-refused : goal.returns-in_err-tree-clause-refused
returns-in_err-tree-clause-refused c =
    let p = err_from_is_err_and c.from_residual-in_err-tree.result c.from_residual-in_err-tree.ensures.1 in
    let text = bytes_of c.in_ok-source.source in
    let ts = c.in_ok-tokens.tokens.items in
    rw (p.1, p.2) (λ refusal. subst HasNoReading c.in_ok-source.ensures.text
    (treeless text ts c.in_ok-tokens.ensures.tokens (subst (λ (us : List Token). HasNoTree (lexemes text us)) c.as_slice.ensures.value (c.in_err-tree.ensures.refused refusal))))

pub returns-in_err-typed-clause-refused : goal.returns-in_err-typed-clause-refused
returns-in_err-typed-clause-refused c =
    let p = err_from_is_err_and c.from_residual-in_err-typed.result c.from_residual-in_err-typed.ensures.1 in
    let text = bytes_of c.in_ok-source.source in
    let ts = c.in_ok-tokens.tokens.items in
    let file = tree_of c.in_ok-tree.tree in
    let spelt : Spells (lexemes text ts) file = subst (λ (us : List Token). Spells (lexemes text us) file) c.as_slice.ensures.value c.in_ok-tree.ensures.spelt in
    rw (p.1, p.2) (λ refusal. subst HasNoReading c.in_ok-source.ensures.text
    (untyped text ts file c.in_ok-tokens.ensures.tokens spelt (c.in_err-typed.ensures.refused refusal)))

pub returns-in_err-tree-clause-why : goal.returns-in_err-tree-clause-why
returns-in_err-tree-clause-why c =
    let p = err_from_is_err_and c.from_residual-in_err-tree.result c.from_residual-in_err-tree.ensures.1 in
    let utf8 : IsUtf8 (bytes_of c.in_ok-source.source) = subst IsUtf8 c.as_str-text.ensures.bytes c.as_str-text.ensures.utf8 in
    let short : length (bytes_of c.in_ok-source.source) ≤ MAX_LENGTH = subst (λ (bs : List ℕ). length bs ≤ MAX_LENGTH) c.as_str-text.ensures.bytes c.as_str-text.ensures.short in
    rw (p.1, p.2) (unread _ _ _ _ c.in_ok-source.ensures.text c.as_slice.ensures.value short utf8 c.in_ok-tokens.ensures.tokens c.in_err-tree.ensures.why)

pub returns-in_err-typed-clause-why : goal.returns-in_err-typed-clause-why
returns-in_err-typed-clause-why c =
    let p = err_from_is_err_and c.from_residual-in_err-typed.result c.from_residual-in_err-typed.ensures.1 in
    let text = bytes_of c.in_ok-source.source in
    let ts = c.in_ok-tokens.tokens.items in
    let tree = c.in_ok-tree.tree in
    let utf8 : IsUtf8 text = subst IsUtf8 c.as_str-text.ensures.bytes c.as_str-text.ensures.utf8 in
    let spelt : Spells (lexemes text ts) (tree_of tree) = subst (λ (us : List Token). Spells (lexemes text us) (tree_of tree)) c.as_slice.ensures.value c.in_ok-tree.ensures.spelt in
    let placed : spans_of tree ≡ file_spans ts (tree_of tree) = subst (λ (us : List Token). spans_of tree ≡ file_spans us (tree_of tree)) c.as_slice.ensures.value c.in_ok-tree.ensures.placed in
    let short : length text ≤ MAX_LENGTH = subst (λ (bs : List ℕ). length bs ≤ MAX_LENGTH) c.as_str-text.ensures.bytes c.as_str-text.ensures.short in
    rw (p.1, p.2) (wrong _ text ts tree c.in_ok-source.ensures.text short utf8 c.in_ok-tokens.ensures.tokens spelt placed c.in_ok-tree.ensures.low c.in_ok-tree.ensures.few c.in_ok-tree.ensures.clauses c.in_err-typed.ensures.why)

pub returns-clause-reads : goal.returns-clause-reads
returns-clause-reads c =
    let text = bytes_of c.in_ok-source.source in
    let ts = c.in_ok-tokens.tokens.items in
    let file = tree_of c.in_ok-tree.tree in
    let spelt : Spells (lexemes text ts) file = subst (λ (us : List Token). Spells (lexemes text us) file) c.as_slice.ensures.value c.in_ok-tree.ensures.spelt in
    let utf8 : IsUtf8 text = subst IsUtf8 c.as_str-text.ensures.bytes c.as_str-text.ensures.utf8 in
    let short : length text ≤ MAX_LENGTH = subst (λ (bs : List ℕ). length bs ≤ MAX_LENGTH) c.as_str-text.ensures.bytes c.as_str-text.ensures.short in
    let whole = reads text ts file utf8 short c.in_ok-tokens.ensures.tokens spelt c.in_ok-tree.ensures.low c.in_ok-tree.ensures.few c.in_ok-tree.ensures.clauses c.in_ok-typed.ensures.typed in
    subst (λ bs. Reads bs (tree_of (tree_in c.in_ok-typed.typed))) c.in_ok-source.ensures.text (subst (λ (t : Tree). Reads text (tree_of t)) (sym c.in_ok-typed.ensures.tree) whole)

pub returns-in_err-source-clause-why : goal.returns-in_err-source-clause-why
returns-in_err-source-clause-why c =
    let p = err_from_is_err_and c.from_residual.result c.from_residual.ensures.1 in
    let told = c.in_err-source.field-0.0 in
    let said = c.in_err-source.ensures in
    let long : told ≡ faults.TooLong → MAX_LENGTH < length c.args.bytes.items = λ is. omega (arith, said.too_long.0 (ap (λ (f : Fault). Err f) is), c.args.bytes.ok.0) in
    let wrong : told ≡ faults.NotUtf8 → (length c.args.bytes.items ≤ MAX_LENGTH) × ¬ (IsUtf8 c.args.bytes.items) = λ is.
    let bad = said.not_utf8.0 (ap (λ (f : Fault). Err f) is) in
    (omega (arith, bad.0, c.args.bytes.ok.0), bad.1) in
    rw (p.1, p.2) (untexted c.args.bytes.items told long wrong said.only)

pub returns-in_err-tokens-clause-why : goal.returns-in_err-tokens-clause-why
returns-in_err-tokens-clause-why c =
    let p = err_from_is_err_and c.from_residual-in_err-tokens.result c.from_residual-in_err-tokens.ensures.1 in
    let utf8 : IsUtf8 (bytes_of c.in_ok-source.source) = subst IsUtf8 c.as_str-text.ensures.bytes c.as_str-text.ensures.utf8 in
    let short : length (bytes_of c.in_ok-source.source) ≤ MAX_LENGTH = subst (λ (bs : List ℕ). length bs ≤ MAX_LENGTH) c.as_str-text.ensures.bytes c.as_str-text.ensures.short in
    rw (p.1, p.2) (unscanned _ _ c.in_ok-source.ensures.text short utf8 c.in_err-tokens.ensures.why)

pub tree-requires : goal.tree-requires
tree-requires c =
    let text = c.as_str-text.ensures in
    omega (arith, ap length c.as_slice.ensures.value, c.in_ok-tokens.ensures.few, ap length text.bytes, text.short)
