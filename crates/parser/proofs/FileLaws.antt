-- Files: what is spelt is read, what is read is spelt so, and at most one file is spelt.
use Rattle.std.proofs.Common.{◌≡◌, ℕ, suc, ◌+◌, ◌<◌, ◌≤◌, Bool, false, max, List, [], ◌∷◌, length, Result, Ok, Err, refl, sym, ap, ◌∙◌, subst, arith, codes}
use Rattle.scanner.specs.declared.kind.TokenKind.TheVariants as kinds
use Rattle.syntax.specs.Tree.{Top, StructTop, FunctionTop, File}
use Rattle.syntax.specs.Measures.{Listing, Entries as EntriesLimit, SelectClauses, highest, top_height, top_longest, longest, height, most_entries, most_clauses}
use Rattle.parser_base.specs.declared.list.Next.{Next}
use Rattle.parser_base.specs.declared.list.Next.TheVariants.{More, End}
use Rattle.parser_base.specs.Lexemes.{Lexeme, Name, Mark}
use Rattle.parser_base.specs.Spelling.{following, separated, joined, AreAll, AreSome}
use Rattle.parser_base.specs.Reading.{Refusal, Syntax, TooDeep, TooMany, Reading, ◌>>=◌, expect, expect_name, listed}
use Rattle.parser_base.proofs.Marks.{bind_ok, ok_is, expect_is, expect_name_is}
use Rattle.parser_base.proofs.ListLaws.{AreFew, ReadBack, Found as OneFound, High as OneHigh, Many as OneMany, Found as AllFound, High as AllHigh, Many as AllMany, Full, Entries, all_again, IsReadAgain, Separates, listed_again, ReadsSoundly, listed_sound, ends_with, goes_on_with, all_of}
use Rattle.parser.specs.Spelling.{top_words, IsTop, tops_words, words, Spells}
use Rattle.parser.specs.Reading.{top, more_tops, top_next, tops, file}
use Rattle.parser.proofs.Sizes.{top_longer, tops_longer}
use Rattle.parser.proofs.TopLaws.{top_again, top_sound}

-- ---- declarations

abbrev listed_tops : (depth_left most : ℕ) → Entries Top
listed_tops depth_left most = record {
  one = top most depth_left;
  next = top_next;
  each = top_words;
  separator = following kinds.Semicolon;
  ending = λ trailing rest. Mark kinds.Semicolon ∷ [];
  height = top_height;
  longest = top_longest;
  depth_left = suc (suc depth_left);
  most = most;
  IsOne = IsTop;
}

abbrev Anything : List Lexeme → Type 0
Anything rest = Unit {0}

another_top : (t : Top) (ws : List Lexeme) → more_tops (top_words t ws) ≡ (More, top_words t ws)
another_top (StructTop s) ws = refl
another_top (FunctionTop f) ws = refl

more_again : (t : Top) (ws : List Lexeme) → top_next (Mark kinds.Semicolon ∷ top_words t ws) ≡ Ok (More, top_words t ws)
unfolding top_next expect
more_again t ws = ap (λ (x : Next × List Lexeme). Ok x) (another_top t ws)

end_again : top_next (Mark kinds.Semicolon ∷ []) ≡ Ok (End false, [])
unfolding top_next expect
end_again = refl

tops_separate : (depth_left most : ℕ) → Separates (listed_tops depth_left most) Anything false []
tops_separate depth_left most = record {
  separator = λ t words one. tt;
  more = λ t words one. more_again t words;
  ending = tt;
  end = end_again;
}

-- declarations with a semicolon after each are those with one between each two, and one after them
tops_joined : (t : Top) (ts : List Top) → tops_words (t ∷ ts) ≡ joined top_words (following kinds.Semicolon) (t ∷ ts) (Mark kinds.Semicolon ∷ [])
tops_joined t [] = refl
tops_joined t (next ∷ ts) = ap (λ (x : List Lexeme). top_words t (Mark kinds.Semicolon ∷ x)) (tops_joined next ts)

-- ---- what is spelt is read

begun_tops : (most depth_left : ℕ) (t : Top) (rest : List Lexeme) → tops most depth_left (top_words t rest) ≡ listed (top most depth_left) top_next Syntax (length (top_words t rest)) (top_words t rest)
unfolding tops
begun_tops most depth_left (StructTop s) rest = refl
begun_tops most depth_left (FunctionTop f) rest = refl

abbrev TopsOutcome : (depth_left most : ℕ) → Reading (List Top × Bool) → List Top → Type 0
TopsOutcome depth_left most read ts = ReadBack read (ts, false) [] (highest top_height ts) (suc (suc depth_left)) (λ listing. highest (top_longest listing) ts) most

some_again : (depth_left most : ℕ) (t : Top) (ts : List Top) → AreAll IsTop (t ∷ ts) → TopsOutcome depth_left most (tops most depth_left (joined top_words (following kinds.Semicolon) (t ∷ ts) (Mark kinds.Semicolon ∷ []))) (t ∷ ts)
some_again depth_left most t ts all =
    let ending = Mark kinds.Semicolon ∷ [] in
    let following' = separated top_words (following kinds.Semicolon) ts ending in
    let turns = length (top_words t following') in
    let enough : length (t ∷ ts) ≤ turns = omega (arith, tops_longer ts ending all.1, top_longer t following' all.0) in
    let again : (x : Top) → IsTop x → IsReadAgain (listed_tops depth_left most) Anything x = λ x is rest ends. top_again most depth_left x rest is in
    let each = all_again IsTop (IsReadAgain (listed_tops depth_left most) Anything) again (t ∷ ts) all in
    rw (begun_tops most depth_left t following')
    (elim (listed_again (listed_tops depth_left most) Anything false [] Syntax (tops_separate depth_left most) ts turns t all each) [
      | AllFound low few count e ↦ OneFound low few e
      | AllHigh high e ↦ OneHigh high e
      | AllMany listing many e ↦ OneMany listing many e
      | Full count e ↦ absurd (omega arith)
    ])

tops_again : (depth_left most : ℕ) (ts : List Top) → AreAll IsTop ts → TopsOutcome depth_left most (tops most depth_left (tops_words ts)) ts
unfolding tops
tops_again depth_left most [] all = OneFound (omega arith) (λ listing. omega arith) refl
tops_again depth_left most (t ∷ ts) all = rw (tops_joined t ts) (some_again depth_left most t ts all)

pub data FileOutcome (read : Result File Refusal) (f : File) (depth_left most : ℕ) : Type 0 where
  Found : height f ≤ depth_left + 3 → AreFew (λ listing. longest listing f) most → read ≡ Ok f → FileOutcome read f depth_left most
  High : depth_left + 3 < height f → read ≡ Err TooDeep → FileOutcome read f depth_left most
  Many : (listing : Listing) → most < longest listing f → read ≡ Err (TooMany listing) → FileOutcome read f depth_left most

pub file_again : (depth_left most : ℕ) (f : File) → AreAll IsTop f.tops → FileOutcome (file most depth_left (words f)) f depth_left most
unfolding file expect expect_name
file_again depth_left most f is =
    elim (tops_again depth_left most f.tops is) [
      | OneFound low few e ↦ Found (omega (arith, low)) few (rw e refl)
      | OneHigh high e ↦ High (omega (arith, high)) (rw e refl)
      | OneMany listing many e ↦ Many listing many (rw e refl)
    ]

-- ---- what is read is spelt so

more_is : (ws rest : List Lexeme) → more_tops ws ≡ goes_on_with rest → ws ≡ rest
more_is [] rest e = let kind : End false ≡ More = ap (λ (x : Next × List Lexeme). x.0) e in absurd cc
more_is (w ∷ ws) rest e = ap (λ (x : Next × List Lexeme). x.1) e

end_is : (ws : List Lexeme) (trailing : Bool) (rest : List Lexeme) → more_tops ws ≡ ends_with trailing rest → (ws ≡ rest) × (rest ≡ [])
end_is [] trailing rest e = let same = ap (λ (x : Next × List Lexeme). x.1) e in (same, sym same)
end_is (w ∷ ws) trailing rest e = let kind : More ≡ End trailing = ap (λ (x : Next × List Lexeme). x.0) e in absurd cc

next_is : (ws : List Lexeme) (next : Next × List Lexeme) → top_next ws ≡ Ok next → (rest : List Lexeme) × (ws ≡ Mark kinds.Semicolon ∷ rest) × (more_tops rest ≡ next)
unfolding top_next
next_is ws next e =
    let a = bind_ok (expect kinds.Semicolon ws) (λ rest. Ok (more_tops rest)) next e in
    (a.0, expect_is kinds.Semicolon ws a.0 a.1, ok_is (more_tops a.0) next a.2)

tops_soundly : (depth_left most : ℕ) → ReadsSoundly (listed_tops depth_left most)
tops_soundly depth_left most = record {
  one = λ ws t rest e. let s = top_sound most depth_left ws t rest e in record { parts = s.parts; is = s.is; low = s.low; few = s.few };
  more = λ ws rest e. let a = next_is ws (goes_on_with rest) e in a.1 ∙ ap (λ (x : List Lexeme). Mark kinds.Semicolon ∷ x) (more_is a.0 rest a.2);
  end = λ ws trailing rest e. let a = next_is ws (ends_with trailing rest) e in let b = end_is a.0 trailing rest a.2 in a.1 ∙ ap (λ (x : List Lexeme). Mark kinds.Semicolon ∷ x) (b.0 ∙ b.1);
}

record AreTopsSound (depth_left most : ℕ) (ws : List Lexeme) (ts : List Top) : Type 0 where
  parts : ws ≡ tops_words ts
  are : AreAll IsTop ts
  low : highest top_height ts ≤ suc (suc depth_left)
  few : AreFew (λ listing. highest (top_longest listing) ts) most

tops_apart : (ts : List Top) → AreSome IsTop ts → joined top_words (following kinds.Semicolon) ts (Mark kinds.Semicolon ∷ []) ≡ tops_words ts
tops_apart [] some = absurd some
tops_apart (t ∷ ts) some = sym (tops_joined t ts)

tops_sound : (depth_left most : ℕ) (ws : List Lexeme) (found : (List Top × Bool) × List Lexeme) → tops most depth_left ws ≡ Ok found → AreTopsSound depth_left most ws found.0.0
unfolding tops
tops_sound depth_left most [] found e =
    subst (λ (x : (List Top × Bool) × List Lexeme). AreTopsSound depth_left most [] x.0.0) (ok_is (([], false), []) found e) (record { parts = refl; are = tt; low = omega arith; few = λ listing. omega arith })
tops_sound depth_left most (w ∷ ws) found e =
    let s = listed_sound (listed_tops depth_left most) Syntax (tops_soundly depth_left most) (length (w ∷ ws)) (w ∷ ws) found e in
    record { parts = s.parts ∙ tops_apart found.0.0 s.are; are = all_of IsTop found.0.0 s.are; low = s.low; few = s.few }

pub record IsFound (depth_left most : ℕ) (ws : List Lexeme) (f : File) : Type 0 where
  pub spelt : Spells ws f
  pub low : height f ≤ depth_left + 3
  pub few : AreFew (λ listing. longest listing f) most

abbrev made : List Top × Bool → Result File Refusal
made found = Ok (record { tops = found.0 })

abbrev tops_step : (depth_left most : ℕ) → List Lexeme → Result File Refusal
tops_step depth_left most ws = tops most depth_left ws >>= λ found. made found.0

abbrev semicolon_step : (depth_left most : ℕ) → List Lexeme → Result File Refusal
semicolon_step depth_left most ws = expect kinds.Semicolon ws >>= tops_step depth_left most

abbrev main_step : (depth_left most : ℕ) → List Lexeme → Result File Refusal
main_step depth_left most ws = expect_name (codes "main") ws >>= semicolon_step depth_left most

pub file_sound : (depth_left most : ℕ) (ws : List Lexeme) (f : File) → file most depth_left ws ≡ Ok f → IsFound depth_left most ws f
unfolding file
file_sound depth_left most ws f e =
    let a = bind_ok (expect kinds.Package ws) (main_step depth_left most) f e in
    let b = bind_ok (expect_name (codes "main") a.0) (semicolon_step depth_left most) f a.2 in
    let c = bind_ok (expect kinds.Semicolon b.0) (tops_step depth_left most) f b.2 in
    let d = bind_ok (tops most depth_left c.0) (λ found. made found.0) f c.2 in
    let s = tops_sound depth_left most c.0 d.0 d.1 in
    let semicolon = expect_is kinds.Semicolon b.0 c.0 c.1 ∙ ap (λ (x : List Lexeme). Mark kinds.Semicolon ∷ x) s.parts in
    let main = expect_name_is (codes "main") a.0 b.0 b.1 ∙ ap (λ (x : List Lexeme). Name (codes "main") ∷ x) semicolon in
    subst (λ (x : File). IsFound depth_left most ws x) (ok_is (record { tops = d.0.0.0 }) f d.2) (record {
      spelt = record { words = expect_is kinds.Package ws a.0 a.1 ∙ ap (λ (x : List Lexeme). Mark kinds.Package ∷ x) main; well_formed = s.are };
      low = omega (arith, s.low);
      few = s.few;
    })

-- ---- no other file is spelt

pub no_syntax : (depth_left most : ℕ) (ws : List Lexeme) → file most depth_left ws ≡ Err Syntax → (f : File) → Spells ws f → ⊥
no_syntax depth_left most ws e f spelt =
    let same = ap (file most depth_left) spelt.words in
    elim (file_again depth_left most f spelt.well_formed) [
      | Found low few e' ↦ let bad = sym e ∙ same ∙ e' in absurd cc
      | High high e' ↦ let bad = sym e ∙ same ∙ e' in absurd cc
      | Many listing many e' ↦ let bad = sym e ∙ same ∙ e' in absurd cc
    ]

pub no_low : (depth_left most : ℕ) (ws : List Lexeme) → file most depth_left ws ≡ Err TooDeep → (f : File) → Spells ws f → height f ≤ depth_left + 3 → ⊥
no_low depth_left most ws e f spelt low =
    let same = ap (file most depth_left) spelt.words in
    elim (file_again depth_left most f spelt.well_formed) [
      | Found low few e' ↦ let bad = sym e ∙ same ∙ e' in absurd cc
      | High high e' ↦ absurd (omega arith)
      | Many listing many e' ↦ let bad = sym e ∙ same ∙ e' in absurd cc
    ]

abbrev refused : Refusal → Result File Refusal
refused refusal = Err refusal

abbrev listing_of : Listing → Result File Refusal → Listing
listing_of other (Err (TooMany listing)) = listing
listing_of other read = other

pub no_few : (depth_left most : ℕ) (ws : List Lexeme) (listing : Listing) → file most depth_left ws ≡ Err (TooMany listing) → (f : File) → Spells ws f → longest listing f ≤ most → ⊥
no_few depth_left most ws listing e f spelt few =
    let same = ap (file most depth_left) spelt.words in
    elim (file_again depth_left most f spelt.well_formed) [
      | Found low few e' ↦ let bad = sym e ∙ same ∙ e' in absurd cc
      | High high e' ↦ let bad = sym e ∙ same ∙ e' in absurd cc
      | Many other many e' ↦
          let both = sym e ∙ same ∙ e' in
          let is : listing ≡ other = ap (listing_of listing) both in
          absurd (omega (arith, ap (λ (l : Listing). longest l f) is))
    ]

-- with enough levels the file itself is read
found_again : (depth_left most : ℕ) (ws : List Lexeme) (f : File) → Spells ws f → height f ≤ depth_left + 3 → AreFew (λ listing. longest listing f) most → file most depth_left ws ≡ Ok f
found_again depth_left most ws f spelt low few =
    elim (file_again depth_left most f spelt.well_formed) [
      | Found low few e ↦ ap (file most depth_left) spelt.words ∙ e
      | High high e ↦ absurd (omega arith)
      | Many listing many e ↦ absurd (omega (arith, few listing))
    ]

longest-max : (listing : Listing) (f g : File) → longest listing f ≤ max (max (most_entries f) (most_entries g)) (max (most_clauses f) (most_clauses g))
longest-max EntriesLimit f g = omega arith
longest-max SelectClauses f g = omega arith

longest-max_right : (listing : Listing) (f g : File) → longest listing g ≤ max (max (most_entries f) (most_entries g)) (max (most_clauses f) (most_clauses g))
longest-max_right EntriesLimit f g = omega arith
longest-max_right SelectClauses f g = omega arith

pub one_file : (ws : List Lexeme) (f g : File) → Spells ws f → Spells ws g → f ≡ g
one_file ws f g a b =
    let depth_left = max (height f) (height g) in
    let most = max (max (most_entries f) (most_entries g)) (max (most_clauses f) (most_clauses g)) in
    let first = found_again depth_left most ws f a (omega arith) (λ listing. longest-max listing f g) in
    let second = found_again depth_left most ws g b (omega arith) (λ listing. longest-max_right listing f g) in
    ok_is f g (sym first ∙ second)
