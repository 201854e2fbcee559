-- Why a text has no reading.
use Rattle.std.proofs.Common.{arith, refl, ◌≡◌, ℕ, ◌≤◌, ◌<◌, ◌⊎◌, inl, inr, List, Result, Ok, Err, ap, ◌∙◌, subst, length}
use Rattle.std.specs.Prelude.{IsUtf8}
use Rattle.parser.proofs.FileLaws.{one_file}
use Rattle.checker.specs.Faults.{Tells}
use Rattle.typing_rules.specs.Files.{IsTyped}
use Rattle.go_text.specs.declared.fault.Fault.{Fault}
use Rattle.go_text.specs.declared.fault.Fault.TheVariants as faults
use Rattle.go_text.specs.declared.source.TheConstants.{MAX_LENGTH}
use Rattle.parser_base.specs.Lexemes.{lexemes}
use Rattle.parser.specs.Spelling.{Spells}
use Rattle.scanner.specs.declared.token.Token.{Token}
use Rattle.scanner.specs.Tokens.{tokens_of}
use Rattle.syntax.specs.declared.tree.Tree.{Tree}
use Rattle.spans.specs.Places.{file_spans}
use Rattle.syntax.specs.Spans.{tree_of, spans_of}
use Rattle.syntax.specs.Tree.{File}
use Rattle.syntax.specs.Measures.{height, most_entries, most_clauses}
use Rattle.kendo_reading.specs.Reading.{Reads, HasNoReading, HasNoTree, IsRefusal, IsUnspelt, IsLong, IsNoText, HasFault, IsUnread, IsWrong, IsWhy, located_in}

same_tokens : {E : Type 0} (r : Result (List Token) E) (ts us : List Token) → r ≡ Ok ts → r ≡ Ok us → ts ≡ us
same_tokens (Ok vs) ts us a b = cc
same_tokens (Err e) ts us a b = absurd cc

pub spelt_by : (text : List ℕ) (ts : List Token) (file : File) → tokens_of text ≡ Ok ts → Reads text file → Spells (lexemes text ts) file
spelt_by text ts file scanned r = subst (λ us. Spells (lexemes text us) file) (same_tokens (tokens_of text) r.tokens ts r.scanned scanned) r.spelt

-- a text has at most one reading
pub one_reading : (text : List ℕ) (first second : File) → Reads text first → Reads text second → first ≡ second
one_reading text first second a b = one_file (lexemes text a.tokens) first second a.spelt (spelt_by text a.tokens second a.scanned b)

pub treeless : (text : List ℕ) (ts : List Token) → tokens_of text ≡ Ok ts → HasNoTree (lexemes text ts) → HasNoReading text
treeless text ts scanned none file r = none file (spelt_by text ts file scanned r) r.low r.few r.clauses

pub untyped : (text : List ℕ) (ts : List Token) (file : File) → tokens_of text ≡ Ok ts → Spells (lexemes text ts) file → (IsTyped file → ⊥) → HasNoReading text
untyped text ts file scanned spelt wrong other r =
    let same = one_file (lexemes text ts) other file (spelt_by text ts other scanned r) spelt in
    wrong (subst IsTyped same r.typed)

pub reads : (text : List ℕ) (ts : List Token) (file : File) → IsUtf8 text → length text ≤ MAX_LENGTH → tokens_of text ≡ Ok ts → Spells (lexemes text ts) file → height file ≤ 200 → most_entries file ≤ 64 → most_clauses file ≤ 64 → IsTyped file → Reads text file
reads text ts file utf8 short scanned spelt low few clauses typed = record { utf8 = utf8; short = short; tokens = ts; scanned = scanned; spelt = spelt; low = low; few = few; clauses = clauses; typed = typed }

abbrev pub Unread : List ℕ → List Token → Fault → Type 0
Unread text ts told = (told ≡ faults.Memory) ⊎ ((fault : Fault) × IsUnspelt (lexemes text ts) fault × (told ≡ located_in text fault))

abbrev pub Explained : List ℕ → Fault → Type 0
Explained text told = (told ≡ faults.Memory) ⊎ IsWhy text told

explains : (bytes text : List ℕ) {told : Fault} → text ≡ bytes → Explained text told → Explained bytes told
explains bytes text {told} same e = subst (λ bs. Explained bs told) same e

pub untexted : (bytes : List ℕ) (told : Fault) → (told ≡ faults.TooLong → MAX_LENGTH < length bytes) → (told ≡ faults.NotUtf8 → (length bytes ≤ MAX_LENGTH) × ¬ (IsUtf8 bytes)) → (told ≡ faults.TooLong) ⊎ (told ≡ faults.NotUtf8) → Explained bytes told
untexted bytes told long wrong (inl is) = inr (faults.TooLong, IsLong (long is) refl, is)
untexted bytes told long wrong (inr is) = inr (faults.NotUtf8, IsNoText (wrong is).0 (wrong is).1 refl, is)

pub unscanned : (bytes text : List ℕ) {told : Fault} → text ≡ bytes → length text ≤ MAX_LENGTH → IsUtf8 text → (told ≡ faults.Memory) ⊎ ((fault : Fault) × (tokens_of text ≡ Err fault) × (told ≡ located_in text fault)) → Explained bytes told
unscanned bytes text {told} same short utf8 (inl memory) = inl memory
unscanned bytes text {told} same short utf8 (inr w) = explains bytes text same (inr (w.0, HasFault short utf8 w.1, w.2))

pub unread : (bytes text : List ℕ) (ts us : List Token) {told : Fault} → text ≡ bytes → us ≡ ts → length text ≤ MAX_LENGTH → IsUtf8 text → tokens_of text ≡ Ok ts → Unread text us told → Explained bytes told
unread bytes text ts us {told} same list short utf8 scanned (inl memory) = inl memory
unread bytes text ts us {told} same list short utf8 scanned (inr w) = explains bytes text same (inr (w.0, IsUnread short utf8 ts scanned (subst (λ vs. IsUnspelt (lexemes text vs) w.0) list w.1), w.2))

abbrev pub Wrong : List ℕ → Tree → Fault → Type 0
Wrong text tree told = (told ≡ faults.Memory) ⊎ ((fault : Fault) × Tells tree fault × (told ≡ located_in text fault))

pub wrong : (bytes text : List ℕ) (ts : List Token) (tree : Tree) {told : Fault} → text ≡ bytes → length text ≤ MAX_LENGTH → IsUtf8 text → tokens_of text ≡ Ok ts → Spells (lexemes text ts) (tree_of tree) → spans_of tree ≡ file_spans ts (tree_of tree) → height (tree_of tree) ≤ 200 → most_entries (tree_of tree) ≤ 64 → most_clauses (tree_of tree) ≤ 64 → Wrong text tree told → Explained bytes told
wrong bytes text ts tree same short utf8 scanned spelt placed low few clauses (inl memory) = inl memory
wrong bytes text ts tree same short utf8 scanned spelt placed low few clauses (inr w) = explains bytes text same (inr (w.0, IsWrong short utf8 tree (record { tokens = ts; scanned = scanned; spelt = spelt; placed = placed; low = low; few = few; clauses = clauses }) w.1, w.2))

-- a fault's reason is also its reason once it has line and column
pub told_why : (Why : Fault → Type 0) (text : List ℕ) (fault told : Fault) → told ≡ located_in text fault → (fault ≡ faults.Memory) ⊎ Why fault → (told ≡ faults.Memory) ⊎ ((one : Fault) × Why one × (told ≡ located_in text one))
told_why Why text fault told is (inl memory) = inl (is ∙ ap (located_in text) memory)
told_why Why text fault told is (inr why) = inr (fault, why, is)

pub told_refusal : (Claim : Type 0) (text : List ℕ) (fault told : Fault) → told ≡ located_in text fault → (fault ≡ faults.Memory) ⊎ Claim → IsRefusal told → Claim
told_refusal Claim text fault told is (inl memory) refusal =
    let more : 13 ≤ 10 = subst IsRefusal (is ∙ ap (located_in text) memory) refusal in
    absurd (omega (arith, more))
told_refusal Claim text fault told is (inr claim) refusal = claim
