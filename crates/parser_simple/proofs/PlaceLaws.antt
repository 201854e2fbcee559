-- Names and lvalues: what is spelt is read, and what is read is spelt so.
use Rattle.std.proofs.Common.{◌≡◌, ℕ, ◌<◌, ◌≤◌, Bool, true, false, cond, List, [], ◌∷◌, length, Ok, Err, refl, ap, ◌∙◌, subst, arith}
use Rattle.scanner.specs.declared.kind.TokenKind.{TokenKind}
use Rattle.scanner.specs.declared.kind.TokenKind.TheVariants as kinds
use Rattle.syntax.specs.Tree.{Place}
use Rattle.syntax.specs.Measures.{Entries as EntriesLimit, SelectClauses, entries}
use Rattle.parser_base.specs.declared.list.Next.{Next}
use Rattle.parser_base.specs.declared.list.Next.TheVariants.{More, End}
use Rattle.parser_base.specs.Lexemes.{Lexeme, Literal, Name, Text, Mark}
use Rattle.parser_base.specs.Spelling.{following, separated, joined, AreAll, AreSome}
use Rattle.parser_base.specs.Reading.{Syntax, TooMany, ◌>>=◌, is_kind, expect, plain_name}
use Rattle.parser_base.proofs.Marks.{bind_ok, ok_is, kind_is, is_kind_same, expect_is, plain_name_is, plain_name_again}
use Rattle.parser_base.proofs.ListLaws.{ReadBack, Found, High, Many, Entries, IsReadAgain, Separates, listed_again, all_again, ReadsSoundly, listed_sound, ends_with, goes_on_with, all_of}
use Rattle.parser_base.proofs.Steps.{listed_outcome, highest_none, gave}
use Rattle.parser_simple.specs.Spelling.{name_words, IsName, place_words, IsPlace}
use Rattle.parser_simple.specs.Reading.{begins_with, begins_name, separator_next, names, fields, place, places}

-- ---- separators

pub separator_again : (starts : List Lexeme → Bool) (separator : TokenKind) (ws : List Lexeme) → starts ws ≡ true → separator_next starts separator (Mark separator ∷ ws) ≡ Ok (More, ws)
unfolding separator_next
separator_again starts separator ws begun = rw (is_kind_same separator, begun) refl

pub no_separator : (starts : List Lexeme → Bool) (separator : TokenKind) (rest : List Lexeme) → begins_with separator rest ≡ false → separator_next starts separator rest ≡ Ok (End false, rest)
unfolding separator_next begins_with
no_separator starts separator [] none = refl
no_separator starts separator (Literal value ∷ rest) none = refl
no_separator starts separator (Name name ∷ rest) none = refl
no_separator starts separator (Text bytes ∷ rest) none = refl
no_separator starts separator (Mark kind ∷ rest) none = rw none refl

mark_more : (separator kind : TokenKind) (b begun : Bool) (ws rest : List Lexeme) → is_kind kind separator ≡ b → cond b (cond begun (gave More ws) (Err Syntax)) (gave (End false) (Mark kind ∷ ws)) ≡ gave More rest → Mark kind ∷ ws ≡ Mark separator ∷ rest
mark_more separator kind true true ws rest is e =
    let same = ap (λ (x : Next × List Lexeme). x.1) (ok_is (goes_on_with ws) (goes_on_with rest) e) in
    λ i. Mark (kind_is kind separator is i) ∷ same i
mark_more separator kind true false ws rest is e = absurd cc
mark_more separator kind false begun ws rest is e =
    let same : End false ≡ More = ap (λ (x : Next × List Lexeme). x.0) (ok_is (ends_with false (Mark kind ∷ ws)) (goes_on_with rest) e) in
    absurd cc

no_more : (ws rest : List Lexeme) → gave (End false) ws ≡ gave More rest → ⊥
no_more ws rest e =
    let same : End false ≡ More = ap (λ (x : Next × List Lexeme). x.0) (ok_is (ends_with false ws) (goes_on_with rest) e) in
    cc

pub separator_more_sound : (starts : List Lexeme → Bool) (separator : TokenKind) (ws rest : List Lexeme) → separator_next starts separator ws ≡ Ok (More, rest) → ws ≡ Mark separator ∷ rest
unfolding separator_next
separator_more_sound starts separator [] rest e = absurd (no_more [] rest e)
separator_more_sound starts separator (Literal value ∷ ws) rest e = absurd (no_more (Literal value ∷ ws) rest e)
separator_more_sound starts separator (Name name ∷ ws) rest e = absurd (no_more (Name name ∷ ws) rest e)
separator_more_sound starts separator (Text bytes ∷ ws) rest e = absurd (no_more (Text bytes ∷ ws) rest e)
separator_more_sound starts separator (Mark kind ∷ ws) rest e = mark_more separator kind (is_kind kind separator) (starts ws) ws rest refl e

end_is : (ws : List Lexeme) (trailing : Bool) (rest : List Lexeme) → gave (End false) ws ≡ gave (End trailing) rest → ws ≡ rest
end_is ws trailing rest e = ap (λ (x : Next × List Lexeme). x.1) (ok_is (ends_with false ws) (ends_with trailing rest) e)

mark_end : (b begun : Bool) (ws all : List Lexeme) (trailing : Bool) (rest : List Lexeme) → cond b (cond begun (gave More ws) (Err Syntax)) (gave (End false) all) ≡ gave (End trailing) rest → all ≡ rest
mark_end true true ws all trailing rest e =
    let same : More ≡ End trailing = ap (λ (x : Next × List Lexeme). x.0) (ok_is (goes_on_with ws) (ends_with trailing rest) e) in
    absurd cc
mark_end true false ws all trailing rest e = absurd cc
mark_end false begun ws all trailing rest e = end_is all trailing rest e

pub separator_end_sound : (starts : List Lexeme → Bool) (separator : TokenKind) (ws : List Lexeme) (trailing : Bool) (rest : List Lexeme) → separator_next starts separator ws ≡ Ok (End trailing, rest) → ws ≡ rest
unfolding separator_next
separator_end_sound starts separator [] trailing rest e = end_is [] trailing rest e
separator_end_sound starts separator (Literal value ∷ ws) trailing rest e = end_is (Literal value ∷ ws) trailing rest e
separator_end_sound starts separator (Name name ∷ ws) trailing rest e = end_is (Name name ∷ ws) trailing rest e
separator_end_sound starts separator (Text bytes ∷ ws) trailing rest e = end_is (Text bytes ∷ ws) trailing rest e
separator_end_sound starts separator (Mark kind ∷ ws) trailing rest e = mark_end (is_kind kind separator) (starts ws) ws (Mark kind ∷ ws) trailing rest e

-- a name begins as one
pub name_begins : (name : List ℕ) (ws : List Lexeme) → IsName name → begins_name (Name name ∷ ws) ≡ true
unfolding begins_name
name_begins name ws is = rw is refl

-- ---- names

abbrev pub listed_names : (separator : TokenKind) (most : ℕ) → Entries (List ℕ)
listed_names separator most = record {
  one = plain_name;
  next = separator_next begins_name separator;
  each = name_words;
  separator = following separator;
  ending = λ trailing rest. rest;
  height = λ name. 0;
  longest = λ listing name. 0;
  depth_left = 0;
  most = most;
  IsOne = IsName;
}

abbrev Anything : List Lexeme → Type 0
Anything rest = Unit {0}

name_again : (separator : TokenKind) (most : ℕ) (name : List ℕ) → IsName name → IsReadAgain (listed_names separator most) Anything name
name_again separator most name is rest ends = Found (omega arith) (λ listing. omega arith) (plain_name_again name rest is)

names_separate : (separator : TokenKind) (most : ℕ) (rest : List Lexeme) → begins_with separator rest ≡ false → Separates (listed_names separator most) Anything false rest
names_separate separator most rest none = record {
  separator = λ name words one. tt;
  more = λ name words one. separator_again begins_name separator (name_words name words) (name_begins name words one);
  ending = tt;
  end = no_separator begins_name separator rest none;
}

pub names_again : (separator : TokenKind) (most : ℕ) (name : List ℕ) (ns : List (List ℕ)) (rest : List Lexeme) → AreAll IsName (name ∷ ns) → begins_with separator rest ≡ false
    → ReadBack (names separator most (joined name_words (following separator) (name ∷ ns) rest)) (name ∷ ns, false) rest 0 0 (λ listing. entries listing (length (name ∷ ns))) most
names_again separator most name ns rest all none =
    let l = listed_names separator most in
    let each = all_again IsName (IsReadAgain l Anything) (name_again separator most) (name ∷ ns) all in
    elim (listed_outcome (listed_again l Anything false rest (TooMany EntriesLimit) (names_separate separator most rest none) ns most name all each)) [
      | Found low few e ↦ Found (omega arith) (λ listing. omega (arith, few listing, highest_none (name ∷ ns))) e
      | High high e ↦ absurd (omega (arith, high, highest_none (name ∷ ns)))
      | Many listing many e ↦ Many listing (omega (arith, many, highest_none (name ∷ ns))) e
    ]

pub names_soundly : (separator : TokenKind) (most : ℕ) → ReadsSoundly (listed_names separator most)
names_soundly separator most = record {
  one = λ ws name rest e. let n = plain_name_is ws name rest e in record { parts = n.0; is = n.1; low = omega arith; few = λ listing. omega arith };
  more = separator_more_sound begins_name separator;
  end = λ ws trailing rest e. separator_end_sound begins_name separator ws trailing rest e;
}

pub record AreNames (separator : TokenKind) (most : ℕ) (ws : List Lexeme) (ns : List (List ℕ)) (rest : List Lexeme) : Type 0 where
  pub parts : ws ≡ joined name_words (following separator) ns rest
  pub are : AreSome IsName ns
  pub count : length ns ≤ most

pub names_sound : (separator : TokenKind) (most : ℕ) (ws : List Lexeme) (found : (List (List ℕ) × Bool) × List Lexeme) → names separator most ws ≡ Ok found → AreNames separator most ws found.0.0 found.1
names_sound separator most ws found e =
    let s = listed_sound (listed_names separator most) (TooMany EntriesLimit) (names_soundly separator most) most ws found e in
    record { parts = s.parts; are = s.are; count = s.count }

-- ---- lvalues

pub length_separated : {A : Type 0} (each : A → List Lexeme → List Lexeme) (separator : List Lexeme → List Lexeme) (xs : List A) (rest : List Lexeme)
    → ((x : A) (ws : List Lexeme) → length ws ≤ length (each x ws)) → ((ws : List Lexeme) → length ws < length (separator ws)) → length xs ≤ length (separated each separator xs rest)
length_separated each separator [] rest grows more = omega arith
length_separated each separator (x ∷ xs) rest grows more =
    let others = separated each separator xs rest in
    omega (arith, length_separated each separator xs rest grows more, grows x others, more (each x others))

no_fields : (rest : List Lexeme) → begins_with kinds.Period rest ≡ false → fields rest ≡ Ok ([], rest)
unfolding fields
no_fields rest none = rw none refl

some_fields : (field : List ℕ) (fs : List (List ℕ)) (rest : List Lexeme) → AreAll IsName (field ∷ fs) → begins_with kinds.Period rest ≡ false
    → fields (separated name_words (following kinds.Period) (field ∷ fs) rest) ≡ Ok (field ∷ fs, rest)
unfolding fields begins_with expect
some_fields field fs rest all none =
    let first = joined name_words (following kinds.Period) (field ∷ fs) rest in
    let enough = length_separated name_words (following kinds.Period) fs rest (λ x ws. omega arith) (λ ws. omega arith) in
    elim (names_again kinds.Period (length first) field fs rest all none) [
      | Found low few e ↦ rw e refl
      | High high e ↦ absurd (omega (arith, high))
      | Many EntriesLimit many e ↦ absurd (omega (arith, many, enough))
      | Many SelectClauses many e ↦ absurd (omega (arith, many))
    ]

fields_again : (fs : List (List ℕ)) (rest : List Lexeme) → AreAll IsName fs → begins_with kinds.Period rest ≡ false → fields (separated name_words (following kinds.Period) fs rest) ≡ Ok (fs, rest)
fields_again [] rest all none = no_fields rest none
fields_again (field ∷ fs) rest all none = some_fields field fs rest all none

pub place_again : (p : Place) (rest : List Lexeme) → IsPlace p → begins_with kinds.Period rest ≡ false → place (place_words p rest) ≡ Ok (p, rest)
unfolding place
place_again p rest is none = rw (plain_name_again p.name (separated name_words (following kinds.Period) p.fields rest) is.0, fields_again p.fields rest is.1 none) refl

abbrev listed_places : (most : ℕ) → Entries Place
listed_places most = record {
  one = place;
  next = separator_next begins_name kinds.Comma;
  each = place_words;
  separator = following kinds.Comma;
  ending = λ trailing rest. rest;
  height = λ p. 0;
  longest = λ listing p. 0;
  depth_left = 0;
  most = most;
  IsOne = IsPlace;
}

abbrev NoField : List Lexeme → Type 0
NoField rest = begins_with kinds.Period rest ≡ false

places_separate : (most : ℕ) (rest : List Lexeme) → NoField rest → begins_with kinds.Comma rest ≡ false → Separates (listed_places most) NoField false rest
unfolding begins_with
places_separate most rest no_field none = record {
  separator = λ p words one. refl;
  more = λ p words one. separator_again begins_name kinds.Comma (place_words p words) (name_begins p.name (separated name_words (following kinds.Period) p.fields words) one.0);
  ending = no_field;
  end = no_separator begins_name kinds.Comma rest none;
}

pub places_again : (most : ℕ) (p : Place) (ps : List Place) (rest : List Lexeme) → AreAll IsPlace (p ∷ ps) → begins_with kinds.Period rest ≡ false → begins_with kinds.Comma rest ≡ false
    → ReadBack (places most (joined place_words (following kinds.Comma) (p ∷ ps) rest)) (p ∷ ps, false) rest 0 0 (λ listing. entries listing (length (p ∷ ps))) most
places_again most p ps rest all no_field none =
    let l = listed_places most in
    let again : (x : Place) → IsPlace x → IsReadAgain l NoField x = λ x is after ends. Found (omega arith) (λ listing. omega arith) (place_again x after is ends) in
    let each = all_again IsPlace (IsReadAgain l NoField) again (p ∷ ps) all in
    elim (listed_outcome (listed_again l NoField false rest (TooMany EntriesLimit) (places_separate most rest no_field none) ps most p all each)) [
      | Found low few e ↦ Found (omega arith) (λ listing. omega (arith, few listing, highest_none (p ∷ ps))) e
      | High high e ↦ absurd (omega (arith, high, highest_none (p ∷ ps)))
      | Many listing many e ↦ Many listing (omega (arith, many, highest_none (p ∷ ps))) e
    ]

-- what was read, and what follows it
abbrev pub with_rest : {A : Type 0} → A → List Lexeme → A × List Lexeme
with_rest x rest = (x, rest)

separated_some : (ns : List (List ℕ)) (rest : List Lexeme) → AreSome IsName ns → Mark kinds.Period ∷ joined name_words (following kinds.Period) ns rest ≡ separated name_words (following kinds.Period) ns rest
separated_some [] rest some = absurd some
separated_some (n ∷ ns) rest some = refl

record AreFields (ws : List Lexeme) (fs : List (List ℕ)) (rest : List Lexeme) : Type 0 where
  parts : ws ≡ separated name_words (following kinds.Period) fs rest
  are : AreAll IsName fs

either_fields : (b : Bool) (ws : List Lexeme) (fs : List (List ℕ)) (rest : List Lexeme)
    → cond b (expect kinds.Period ws >>= λ first. names kinds.Period (length first) first >>= λ all. Ok (with_rest all.0.0 all.1)) (Ok (with_rest [] ws)) ≡ Ok (with_rest fs rest) → AreFields ws fs rest
either_fields true ws fs rest e =
    let a = bind_ok (expect kinds.Period ws) (λ first. names kinds.Period (length first) first >>= λ all. Ok (with_rest all.0.0 all.1)) (with_rest fs rest) e in
    let b = bind_ok (names kinds.Period (length a.0) a.0) (λ all. Ok (with_rest all.0.0 all.1)) (with_rest fs rest) a.2 in
    let s = names_sound kinds.Period (length a.0) a.0 b.0 b.1 in
    subst (λ (x : List (List ℕ) × List Lexeme). AreFields ws x.0 x.1) (ok_is (with_rest b.0.0.0 b.0.1) (with_rest fs rest) b.2) (record {
      parts = expect_is kinds.Period ws a.0 a.1 ∙ ap (λ (x : List Lexeme). Mark kinds.Period ∷ x) s.parts ∙ separated_some b.0.0.0 b.0.1 s.are;
      are = all_of IsName b.0.0.0 s.are;
    })
either_fields false ws fs rest e =
    subst (λ (x : List (List ℕ) × List Lexeme). AreFields ws x.0 x.1) (ok_is (with_rest [] ws) (with_rest fs rest) e) (record { parts = refl; are = tt })

fields_sound : (ws : List Lexeme) (fs : List (List ℕ)) (rest : List Lexeme) → fields ws ≡ Ok (fs, rest) → AreFields ws fs rest
unfolding fields
fields_sound ws fs rest e = either_fields (begins_with kinds.Period ws) ws fs rest e

pub place_sound : (ws : List Lexeme) (p : Place) (rest : List Lexeme) → place ws ≡ Ok (p, rest) → (ws ≡ place_words p rest) × IsPlace p
unfolding place
place_sound ws p rest e =
    let a = bind_ok (plain_name ws) (λ name. fields name.1 >>= λ path. Ok (with_rest (record { name = name.0; fields = path.0 }) path.1)) (with_rest p rest) e in
    let b = bind_ok (fields a.0.1) (λ path. Ok (with_rest (record { name = a.0.0; fields = path.0 }) path.1)) (with_rest p rest) a.2 in
    let n = plain_name_is ws a.0.0 a.0.1 a.1 in
    let f = fields_sound a.0.1 b.0.0 b.0.1 b.1 in
    subst (λ (x : Place × List Lexeme). (ws ≡ place_words x.0 x.1) × IsPlace x.0) (ok_is (with_rest (record { name = a.0.0; fields = b.0.0 }) b.0.1) (with_rest p rest) b.2)
    (n.0 ∙ ap (λ (x : List Lexeme). Name a.0.0 ∷ x) f.parts, (n.1, f.are))

pub record ArePlaces (most : ℕ) (ws : List Lexeme) (ps : List Place) (rest : List Lexeme) : Type 0 where
  pub parts : ws ≡ joined place_words (following kinds.Comma) ps rest
  pub are : AreSome IsPlace ps
  pub count : length ps ≤ most

places_soundly : (most : ℕ) → ReadsSoundly (listed_places most)
places_soundly most = record {
  one = λ ws p rest e. let s = place_sound ws p rest e in record { parts = s.0; is = s.1; low = omega arith; few = λ listing. omega arith };
  more = separator_more_sound begins_name kinds.Comma;
  end = λ ws trailing rest e. separator_end_sound begins_name kinds.Comma ws trailing rest e;
}

pub places_sound : (most : ℕ) (ws : List Lexeme) (found : (List Place × Bool) × List Lexeme) → places most ws ≡ Ok found → ArePlaces most ws found.0.0 found.1
places_sound most ws found e =
    let s = listed_sound (listed_places most) (TooMany EntriesLimit) (places_soundly most) most ws found e in
    record { parts = s.parts; are = s.are; count = s.count }
