-- Fields and parameters: what is spelt is read, and what is read is spelt so.
use Rattle.std.proofs.Common.{◌≡◌, ℕ, zero, suc, ◌+◌, ◌-◌, ◌<◌, ◌≤◌, Bool, true, false, cond, List, [], ◌∷◌, ◌++◌, length, sum_by, Ok, refl, ap, ◌∙◌, subst, arith}
use Rattle.std.proofs.lemmas.List.Sums.{sum_by-cons}
use Rattle.scanner.specs.declared.kind.TokenKind.{TokenKind}
use Rattle.scanner.specs.declared.kind.TokenKind.TheVariants as kinds
use Rattle.syntax.specs.declared.node.Direction.TheVariants as directions
use Rattle.syntax.specs.Tree.{TypeExpression, NamedType, ParenthesizedType, Channel, Declared}
use Rattle.syntax.specs.Measures.{Listing, Entries as EntriesLimit, SelectClauses, entries, highest, type_height, declared_height, declared_count}
use Rattle.parser_base.specs.declared.list.Next.{Next}
use Rattle.parser_base.specs.declared.list.Next.TheVariants.{More, End}
use Rattle.parser_base.specs.Lexemes.{Lexeme, Mark}
use Rattle.parser_base.specs.Spelling.{following, separated, joined, closing, AreAll, AreSome, IsTrailing, type_words, IsType}
use Rattle.parser_base.specs.Reading.{Reading, ◌>>=◌, is_kind, expect, followed, entry_next, type_at}
use Rattle.parser_base.proofs.Marks.{bind_ok, ok_is, expect_is, expect_again}
use Rattle.parser_base.proofs.ListLaws.{entries-le, AreFew, ReadBack, Found, High, Many, all_of}
use Rattle.parser_base.proofs.Steps.{then_again, gave}
use Rattle.parser_base.proofs.TypeLaws.{Found as TypeFound, High as TypeHigh, type_again, type_sound}
use Rattle.parser_base.proofs.ExpressionAgain.{ending_again, more_entries}
use Rattle.parser_base.proofs.ExpressionSound.{entry_more_sound, entry_end_sound}
use Rattle.parser_simple.specs.Spelling.{name_words, IsName}
use Rattle.parser_simple.specs.Reading.{begins_with, begins_name, names}
use Rattle.parser_simple.proofs.PlaceLaws.{names_again, names_sound}
use Rattle.parser.specs.Spelling.{declared_words, IsDeclared}
use Rattle.parser.specs.Reading.{declared, some_declared, all_declared}

-- ---- what is spelt is read

-- no type begins with a comma or a brace
pub type_begins : (kind : TokenKind) (t : TypeExpression) (rest : List Lexeme) → is_kind kinds.LeftParenthesis kind ≡ false → is_kind kinds.Chan kind ≡ false → is_kind kinds.Arrow kind ≡ false → begins_with kind (type_words t ++ rest) ≡ false
unfolding begins_with
type_begins kind (NamedType name) rest open' chan arrow = refl
type_begins kind (ParenthesizedType inner) rest open' chan arrow = open'
type_begins kind (Channel directions.Both element) rest open' chan arrow = chan
type_begins kind (Channel directions.Send element) rest open' chan arrow = chan
type_begins kind (Channel directions.Receive element) rest open' chan arrow = arrow

abbrev made : List (List ℕ) → TypeExpression → Declared
made ns kind = record { names = ns; type_expression = kind }

abbrev names_of : Listing → Declared → ℕ
names_of listing d = entries listing (declared_count d)

typed_again : (most depth_left : ℕ) (ns : List (List ℕ)) (kind : TypeExpression) (rest : List Lexeme) → IsType kind → AreFew (λ listing. entries listing (length ns)) most
    → ReadBack (type_at depth_left (type_words kind ++ rest) >>= λ found. Ok (made ns found.0, found.1)) (made ns kind) rest (type_height kind) depth_left (λ listing. entries listing (length ns)) most
typed_again most depth_left ns kind rest is few =
    elim (type_again depth_left kind rest is) [
      | TypeFound low e ↦ Found low few (rw e refl)
      | TypeHigh high e ↦ High high (rw e refl)
    ]

named_again : (most depth_left : ℕ) (ns : List (List ℕ)) (kind : TypeExpression) (rest : List Lexeme) → AreSome IsName ns → IsType kind
    → ReadBack (declared most depth_left (joined name_words (following kinds.Comma) ns (type_words kind ++ rest))) (made ns kind) rest (type_height kind) depth_left (λ listing. entries listing (length ns)) most
unfolding declared
named_again most depth_left [] kind rest some is = absurd some
named_again most depth_left (n ∷ ns) kind rest some is =
    then_again _ (names_again kinds.Comma most n ns (type_words kind ++ rest) some (type_begins kinds.Comma kind rest refl refl refl)) (λ high. absurd (omega (arith, high))) (λ listing. omega arith)
    (λ low few. typed_again most depth_left (n ∷ ns) kind rest is few)

declared_again : (most depth_left : ℕ) (d : Declared) (rest : List Lexeme) → IsDeclared d → ReadBack (declared most depth_left (declared_words d rest)) d rest (type_height d.type_expression) depth_left (λ listing. names_of listing d) most
declared_again most depth_left d rest is = named_again most depth_left d.names d.type_expression rest is.0 is.1

name_begins : (ns : List (List ℕ)) (rest : List Lexeme) → AreSome IsName ns → begins_name (joined name_words (following kinds.Comma) ns rest) ≡ true
unfolding begins_name
name_begins [] rest some = absurd some
name_begins (n ∷ ns) rest some = rw some.0 refl

pub declared_begins : (d : Declared) (rest : List Lexeme) → IsDeclared d → begins_name (declared_words d rest) ≡ true
declared_begins d rest is = name_begins d.names (type_words d.type_expression ++ rest) is.0

no_name : (kind : TokenKind) (rest : List Lexeme) → begins_name (Mark kind ∷ rest) ≡ false
unfolding begins_name
no_name kind rest = refl

some_names : (ns : List (List ℕ)) → AreSome IsName ns → 1 ≤ length ns
some_names [] some = absurd some
some_names (n ∷ ns) some = omega arith

few_more : (listing : Listing) (a b left : ℕ) → entries EntriesLimit a ≤ left → entries listing b ≤ left - a → entries listing (a + b) ≤ left
few_more EntriesLimit a b left first more = omega arith
few_more SelectClauses a b left first more = omega arith

many_more : (listing : Listing) (a b left : ℕ) → left - a < entries listing b → left < entries listing (a + b)
many_more EntriesLimit a b left many = omega arith
many_more SelectClauses a b left many = absurd (omega arith)

many_first : (listing : Listing) (a b left : ℕ) → left < entries listing a → left < entries listing (a + b)
many_first EntriesLimit a b left many = omega arith
many_first SelectClauses a b left many = absurd (omega arith)

-- how many names they declare
abbrev pub count_of : Listing → List Declared → ℕ
count_of listing ds = entries listing (sum_by declared_count ds)

count_cons : (listing : Listing) (d : Declared) (ds : List Declared) → count_of listing (d ∷ ds) ≡ entries listing (declared_count d + sum_by declared_count ds)
count_cons listing d ds = ap (entries listing) (sum_by-cons declared_count d ds)

abbrev SomeAgain : (separator close : TokenKind) (trailing : Bool) (rest : List Lexeme) (depth_left most left : ℕ) (d : Declared) (ds : List Declared) → Type 0
SomeAgain separator close trailing rest depth_left most left d ds =
    ReadBack (some_declared separator close depth_left most left (declared_words d (separated declared_words (following separator) ds (closing separator close trailing rest)))) (d ∷ ds, trailing) rest
    (highest declared_height (d ∷ ds)) (suc depth_left) (λ listing. count_of listing (d ∷ ds)) left

none_left : (separator close : TokenKind) (trailing : Bool) (rest : List Lexeme) (depth_left left : ℕ) (d : Declared) (ds : List Declared) → left ≤ 0 → IsDeclared d → SomeAgain separator close trailing rest depth_left 0 left d ds
unfolding some_declared
none_left separator close trailing rest depth_left left d ds none is = Many EntriesLimit (omega (arith, count_cons EntriesLimit d ds, some_names d.names is.0)) refl

last_again : (separator close : TokenKind) (trailing : Bool) (rest : List Lexeme) (depth_left most left : ℕ) (d : Declared) → is_kind close separator ≡ false → IsDeclared d → SomeAgain separator close trailing rest depth_left (suc most) left d []
unfolding some_declared
last_again separator close trailing rest depth_left most left d other is =
    elim (declared_again left depth_left d (closing separator close trailing rest) is) [
      | Found low few e ↦ Found (omega arith) (λ listing. omega (arith, few listing, count_cons listing d [], few_more listing (declared_count d) 0 left (few EntriesLimit) (omega (arith, entries-le listing 0)))) (rw (e, ending_again separator begins_name close trailing rest other (no_name close rest)) refl)
      | High high e ↦ High (omega arith) (rw e refl)
      | Many listing many e ↦ Many listing (omega (arith, count_cons listing d [], many_first listing (declared_count d) 0 left many)) (rw e refl)
    ]

first_again : (separator close : TokenKind) (trailing : Bool) (rest : List Lexeme) (depth_left most left : ℕ) (d next : Declared) (ds : List Declared) → IsDeclared d → IsDeclared next
    → SomeAgain separator close trailing rest depth_left most (left - declared_count d) next ds → SomeAgain separator close trailing rest depth_left (suc most) left d (next ∷ ds)
unfolding some_declared
first_again separator close trailing rest depth_left most left d next ds is is' others =
    let tail = separated declared_words (following separator) ds (closing separator close trailing rest) in
    let counted : (listing : Listing) → count_of listing (d ∷ next ∷ ds) ≡ entries listing (declared_count d + sum_by declared_count (next ∷ ds)) = λ listing. count_cons listing d (next ∷ ds) in
    let more = more_entries separator begins_name close (declared_words next tail) (declared_begins next tail is') in
    elim (declared_again left depth_left d (Mark separator ∷ declared_words next tail) is) [
      | High high e ↦ High (omega arith) (rw e refl)
      | Many listing many e ↦ Many listing (omega (arith, counted listing, many_first listing (declared_count d) (sum_by declared_count (next ∷ ds)) left many)) (rw e refl)
      | Found low few e ↦ elim others [
        | Found low' few' e' ↦ Found (omega arith) (λ listing. omega (arith, counted listing, few_more listing (declared_count d) (sum_by declared_count (next ∷ ds)) left (few EntriesLimit) (few' listing))) (rw (e, more, e') refl)
        | High high e' ↦ High (omega arith) (rw (e, more, e') refl)
        | Many listing many e' ↦ Many listing (omega (arith, counted listing, many_more listing (declared_count d) (sum_by declared_count (next ∷ ds)) left many)) (rw (e, more, e') refl)
      ]
    ]

some_again : (separator close : TokenKind) (trailing : Bool) (rest : List Lexeme) (depth_left most left : ℕ) (d : Declared) (ds : List Declared) → is_kind close separator ≡ false → left ≤ most → AreAll IsDeclared (d ∷ ds) → SomeAgain separator close trailing rest depth_left most left d ds
some_again separator close trailing rest depth_left zero left d ds other le all = none_left separator close trailing rest depth_left left d ds le all.0
some_again separator close trailing rest depth_left (suc most) left d [] other le all = last_again separator close trailing rest depth_left most left d other all.0
some_again separator close trailing rest depth_left (suc most) left d (next ∷ ds) other le all =
    first_again separator close trailing rest depth_left most left d next ds all.0 all.1.0
    (some_again separator close trailing rest depth_left most (left - declared_count d) next ds other (omega (arith, some_names d.names all.0.0)) all.1)

pub all_again : (separator close : TokenKind) (most depth_left : ℕ) (ds : List Declared) (trailing : Bool) (rest : List Lexeme) → is_kind close separator ≡ false → AreAll IsDeclared ds → IsTrailing ds trailing
    → ReadBack (all_declared separator close most depth_left (joined declared_words (following separator) ds (closing separator close trailing rest))) (ds, trailing) rest (highest declared_height ds) (suc depth_left) (λ listing. count_of listing ds) most
unfolding all_declared
all_again separator close most depth_left [] true rest other all last = absurd cc
all_again separator close most depth_left [] false rest other all last =
    Found (omega arith) (λ listing. omega (arith, entries-le listing 0)) (rw (no_name close rest, expect_again close rest) refl)
all_again separator close most depth_left (d ∷ ds) trailing rest other all last =
    rw (declared_begins d (separated declared_words (following separator) ds (closing separator close trailing rest)) all.0)
    (some_again separator close trailing rest depth_left most most d ds other (omega arith) all)

-- ---- what is read is spelt so

record IsOne (most depth_left : ℕ) (ws : List Lexeme) (d : Declared) (rest : List Lexeme) : Type 0 where
  parts : ws ≡ declared_words d rest
  is : IsDeclared d
  low : declared_height d ≤ suc depth_left
  few : declared_count d ≤ most

declared_sound : (most depth_left : ℕ) (ws : List Lexeme) (d : Declared) (rest : List Lexeme) → declared most depth_left ws ≡ gave d rest → IsOne most depth_left ws d rest
unfolding declared
declared_sound most depth_left ws d rest e =
    let a = bind_ok (names kinds.Comma most ws) (λ all. type_at depth_left all.1 >>= λ kind. gave (made all.0.0 kind.0) kind.1) (d, rest) e in
    let b = bind_ok (type_at depth_left a.0.1) (λ kind. gave (made a.0.0.0 kind.0) kind.1) (d, rest) a.2 in
    let n = names_sound kinds.Comma most ws a.0 a.1 in
    let t = type_sound depth_left a.0.1 b.0.0 b.0.1 b.1 in
    subst (λ (x : Declared × List Lexeme). IsOne most depth_left ws x.0 x.1) (ok_is (made a.0.0.0 b.0.0, b.0.1) (d, rest) b.2) (record {
      parts = n.parts ∙ ap (joined name_words (following kinds.Comma) a.0.0.0) t.parts;
      is = (n.are, t.is);
      low = omega (arith, t.low);
      few = n.count;
    })

-- fields or parameters that were read
record AreDeclared (separator close : TokenKind) (depth_left left : ℕ) (ws : List Lexeme) (found : (List Declared × Bool) × List Lexeme) : Type 0 where
  parts : ws ≡ joined declared_words (following separator) found.0.0 (closing separator close found.0.1 found.1)
  are : AreSome IsDeclared found.0.0
  low : highest declared_height found.0.0 ≤ suc depth_left
  few : sum_by declared_count found.0.0 ≤ left

after_one : (separator : TokenKind) (ds : List Declared) (rest : List Lexeme) → AreSome IsDeclared ds → Mark separator ∷ joined declared_words (following separator) ds rest ≡ separated declared_words (following separator) ds rest
after_one separator [] rest some = absurd some
after_one separator (d ∷ ds) rest some = refl

abbrev ReadsDeclared : (separator close : TokenKind) (depth_left left : ℕ) → (List Lexeme → Reading (List Declared × Bool)) → Type 0
ReadsDeclared separator close depth_left left others = (ws : List Lexeme) (found : (List Declared × Bool) × List Lexeme) → others ws ≡ Ok found → AreDeclared separator close depth_left left ws found

followed_sound : (separator close : TokenKind) (depth_left left : ℕ) (others : List Lexeme → Reading (List Declared × Bool)) (ws : List Lexeme) (d : Declared) (after : List Lexeme) → ReadsDeclared separator close depth_left (left - declared_count d) others → IsOne left depth_left ws d after
    → (next : Next × List Lexeme) (found : (List Declared × Bool) × List Lexeme) → entry_next separator begins_name close after ≡ Ok next → followed d others next ≡ Ok found → AreDeclared separator close depth_left left ws found
followed_sound separator close depth_left left others ws d after sound one (More, rest) found n e =
    let a = bind_ok (others rest) (λ found. Ok ((d ∷ found.0.0, found.0.1), found.1)) found e in
    let s = sound rest a.0 a.1 in
    let ds = a.0.0.0 in
    let tail = closing separator close a.0.0.1 a.0.1 in
    let made : (List Declared × Bool) × List Lexeme = ((d ∷ ds, a.0.0.1), a.0.1) in
    let separate : after ≡ separated declared_words (following separator) ds tail =
    entry_more_sound separator begins_name close after rest n ∙ ap (λ (x : List Lexeme). Mark separator ∷ x) s.parts ∙ after_one separator ds tail s.are in
    subst (λ (y : (List Declared × Bool) × List Lexeme). AreDeclared separator close depth_left left ws y) (ok_is made found a.2) (record {
      parts = one.parts ∙ ap (declared_words d) separate;
      are = (one.is, all_of IsDeclared ds s.are);
      low = omega (arith, one.low, s.low);
      few = omega (arith, one.few, s.few, sum_by-cons declared_count d ds);
    })
followed_sound separator close depth_left left others ws d after sound one (End trailing, rest) found n e =
    let made : (List Declared × Bool) × List Lexeme = ((d ∷ [], trailing), rest) in
    subst (λ (y : (List Declared × Bool) × List Lexeme). AreDeclared separator close depth_left left ws y) (ok_is made found e) (record {
      parts = one.parts ∙ ap (declared_words d) (entry_end_sound separator begins_name close after trailing rest n);
      are = (one.is, tt);
      low = omega (arith, one.low);
      few = omega (arith, one.few, sum_by-cons declared_count d []);
    })

some_sound : (separator close : TokenKind) (depth_left most left : ℕ) → ReadsDeclared separator close depth_left left (some_declared separator close depth_left most left)
unfolding some_declared
some_sound separator close depth_left zero left ws found e = absurd cc
some_sound separator close depth_left (suc most) left ws found e =
    let others = λ (d : Declared). some_declared separator close depth_left most (left - declared_count d) in
    let a = bind_ok (declared left depth_left ws) (λ first. entry_next separator begins_name close first.1 >>= λ after. followed first.0 (others first.0) after) found e in
    let b = bind_ok (entry_next separator begins_name close a.0.1) (λ after. followed a.0.0 (others a.0.0) after) found a.2 in
    followed_sound separator close depth_left left (others a.0.0) ws a.0.0 a.0.1 (some_sound separator close depth_left most (left - declared_count a.0.0)) (declared_sound left depth_left ws a.0.0 a.0.1 a.1) b.0 found b.1 b.2

-- what was read of a list of fields or parameters
pub record AreAllDeclared (separator close : TokenKind) (most depth_left : ℕ) (ws : List Lexeme) (found : (List Declared × Bool) × List Lexeme) : Type 0 where
  pub parts : ws ≡ joined declared_words (following separator) found.0.0 (closing separator close found.0.1 found.1)
  pub are : AreAll IsDeclared found.0.0
  pub last : IsTrailing found.0.0 found.0.1
  pub low : highest declared_height found.0.0 ≤ suc depth_left
  pub few : AreFew (λ listing. count_of listing found.0.0) most

trailing_of : (ds : List Declared) (trailing : Bool) → AreSome IsDeclared ds → IsTrailing ds trailing
trailing_of [] trailing some = absurd some
trailing_of (d ∷ ds) trailing some = tt

either_declared : (separator close : TokenKind) (most depth_left : ℕ) (b : Bool) (ws : List Lexeme) (found : (List Declared × Bool) × List Lexeme)
    → cond b (some_declared separator close depth_left most most ws) (expect close ws >>= λ after. gave ([], false) after) ≡ Ok found → AreAllDeclared separator close most depth_left ws found
either_declared separator close most depth_left true ws found e =
    let s = some_sound separator close depth_left most most ws found e in
    record { parts = s.parts; are = all_of IsDeclared found.0.0 s.are; last = trailing_of found.0.0 found.0.1 s.are; low = s.low; few = λ listing. omega (arith, s.few, entries-le listing (sum_by declared_count found.0.0)) }
either_declared separator close most depth_left false ws found e =
    let a = bind_ok (expect close ws) (λ after. gave ([], false) after) found e in
    subst (λ (x : (List Declared × Bool) × List Lexeme). AreAllDeclared separator close most depth_left ws x) (ok_is (([], false), a.0) found a.2) (record {
      parts = expect_is close ws a.0 a.1;
      are = tt;
      last = refl;
      low = omega arith;
      few = λ listing. omega (arith, entries-le listing 0);
    })

pub all_sound : (separator close : TokenKind) (most depth_left : ℕ) (ws : List Lexeme) (found : (List Declared × Bool) × List Lexeme) → all_declared separator close most depth_left ws ≡ Ok found → AreAllDeclared separator close most depth_left ws found
unfolding all_declared
all_sound separator close most depth_left ws found e = either_declared separator close most depth_left (begins_name ws) ws found e
