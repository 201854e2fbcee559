-- How comments are taken apart.
use Rattle.std.proofs.Common.{◌≡◌, ◌+◌, ◌<◌, ◌≤◌, ◌==◌, ℕ, Bool, true, false, List, [], ◌∷◌, ◌++◌, length, map, take, drop, get_or, Option, Some, None, MatchOption, refl, sym, ap, subst, ◌∙◌, arith, codes}
use Rattle.std.proofs.lemmas.List.{append-nil, append_assoc, length-drop, map-append, take_all}
use Rattle.std.proofs.lemmas.List.Concat.{flat_map-cons}
use Rattle.std.proofs.lemmas.List.Sums.{position_or_len_is}
use Rattle.std.proofs.lemmas.Str.Pattern.{find_char, split_once_first, strip_prefix_char}
use Rattle.std.proofs.Math.Seq.{drop-length}
use Rattle.std.specs.List.{after_first, before_first, flat_map, position_or_len, slice_split}
use Rattle.std.specs.Str.{trim_end}
use Rattle.std.specs.Str.Pattern.{FindsChar, FindsCharPrefix, FindsText, MatchBeginsAt, SplitsAroundMatch}
use Rattle.expected_output.specs.Comments.{comment_text, General, HasComments, IsComment, IsFirstComment, Line, More, NoMore, said_in, unspaced}
use Rattle.expected_output.specs.declared.comments.Comment.{Comment}
use borrow.Author.Tests.{eq-eqb, eqb-true, ne_eqb}
use denote.Ref.{Bor}

-- ---- the end of a line

no_newline : (text : List ℕ) → FindsChar 10 text None → position_or_len (λ b. b == 10) text ≡ length text
no_newline text none =
    let absent = find_char 10 text None none (omega arith) in
    position_or_len_is (λ b. b == 10) text (length text) 0 (omega arith) (λ k lt. ne_eqb (get_or text k 0) 10 (absent k lt)) (λ lt. absurd (omega (arith, lt)))

newline_at : (text : List ℕ) (at : ℕ) → MatchBeginsAt (FindsChar 10) text at → position_or_len (λ b. b == 10) text ≡ at
newline_at text at begins =
    let found = find_char 10 text (Some at) begins (omega arith) in
    position_or_len_is (λ b. b == 10) text at 0 (omega (arith, found.0)) (λ k lt. ne_eqb (get_or text k 0) 10 (found.2 k lt)) (λ lt. eq-eqb (get_or text at 0) 10 found.1)

pub line_at : (text line : List ℕ) (at : ℕ) → MatchBeginsAt (FindsChar 10) text at → line ≡ take at text → line ≡ before_first (λ b. b == 10) text
line_at text line at begins is = is ∙ ap (λ k. take k text) (sym (newline_at text at begins))

pub rest_at : (text rest : List ℕ) (at : ℕ) → MatchBeginsAt (FindsChar 10) text at → rest ≡ drop at text → rest ≡ drop (position_or_len (λ b. b == 10) text) text
rest_at text rest at begins is = is ∙ ap (λ k. drop k text) (sym (newline_at text at begins))

pub one_line : (text : List ℕ) → FindsChar 10 text None → text ≡ before_first (λ b. b == 10) text
one_line text none = sym (ap (λ k. take k text) (no_newline text none) ∙ take_all (length text) text (omega arith))

pub no_rest : (text : List ℕ) → FindsChar 10 text None → [] ≡ drop (position_or_len (λ b. b == 10) text) text
no_rest text none = sym (ap (λ k. drop k text) (no_newline text none) ∙ drop-length text)

pub no_space : (text : List ℕ) → FindsCharPrefix 32 text None → text ≡ unspaced text
no_space text none = by text (λ rest. strip_prefix_char 32 text None none (omega arith) rest) where
  by : (bytes : List ℕ) → ((rest : List ℕ) → bytes ≡ 32 ∷ rest → ⊥) → bytes ≡ unspaced bytes
  by [] never = refl
  by (b ∷ rest) never = by_byte (b == 32) refl where
    by_byte : (is : Bool) → (b == 32) ≡ is → b ∷ rest ≡ unspaced (b ∷ rest)
    by_byte true is = absurd (never rest (ap (λ (c : ℕ). c ∷ rest) (eqb-true b 32 is)))
    by_byte false is = rw is refl

-- ---- a comment after its first slash

pub line_comment : (text line body rest : List ℕ) → (n : ℕ) × FindsCharPrefix 47 text (Some n) × (line ≡ drop n text) × (length line + n ≡ length text)
    → body ≡ unspaced (before_first (λ b. b == 10) line) → rest ≡ drop (position_or_len (λ b. b == 10) line) line → IsComment text body rest
line_comment text line body rest strips is_body is_rest = Line line (strip_prefix_char 47 text (Some (record { ref_ptr = (0, 0); now = line })) strips (omega arith)) is_body is_rest

no_end : (inner body rest : List ℕ) → FindsText (codes "*/") inner None → SplitsAroundMatch (FindsText (codes "*/")) inner body rest → ⊥
no_end inner body rest none (i, j, finds, front, back, le, short, long) = none i (omega (arith, long, le)) (drop j inner) finds.1.split

pub general_comment : (text inner : List ℕ) (result : Option (Bor (List ℕ) × Bor (List ℕ))) → FindsCharPrefix 47 text None → text ≡ 42 ∷ inner
    → MatchOption result (FindsText (codes "*/") inner None) (λ x. SplitsAroundMatch (FindsText (codes "*/")) inner x.0.now x.1.now)
    → MatchOption result ((body rest : List ℕ) → IsComment text body rest → ⊥) (λ x. IsComment text x.0.now x.1.now)
general_comment text inner None none is absent = λ body rest comment. by body rest comment where
  by : (body rest : List ℕ) → IsComment text body rest → ⊥
  by body rest (Line line begins is_body is_rest) = strip_prefix_char 47 text None none (omega arith) line begins
  by body rest (General other begins splits) =
      let same : other ≡ inner = (let both : 42 ∷ other ≡ 42 ∷ inner = sym begins ∙ is in cc) in
      no_end inner body rest absent (subst (λ t. SplitsAroundMatch (FindsText (codes "*/")) t body rest) same splits)
general_comment text inner (Some x) none is splits = General inner is splits

pub no_comment : (text body rest : List ℕ) → FindsCharPrefix 47 text None → FindsCharPrefix 42 text None → IsComment text body rest → ⊥
no_comment text body rest no_slash no_star (Line line begins is_body is_rest) = strip_prefix_char 47 text None no_slash (omega arith) line begins
no_comment text body rest no_slash no_star (General inner begins splits) = strip_prefix_char 42 text None no_star (omega arith) inner begins

-- ---- the first comment of a gap

pub no_slash : (gap : List ℕ) → FindsChar 47 gap None → (before body rest : List ℕ) → IsFirstComment gap before body rest → ⊥
no_slash gap none before body rest first =
    let all : position_or_len (λ b. b == 47) gap ≡ length gap = split_once_first 47 gap None none (omega arith) in
    absurd (omega (arith, first.0, all))

pub first_comment : (gap before text : List ℕ) → SplitsAroundMatch (FindsChar 47) gap before text
    → (position_or_len (λ b. b == 47) gap < length gap) × (before ≡ before_first (λ b. b == 47) gap) × (text ≡ after_first (λ b. b == 47) gap)
first_comment gap before text splits = split_once_first 47 gap (Some (record { ref_ptr = (0, 0); now = before }, record { ref_ptr = (0, 0); now = text })) splits (omega arith)

pub other_comment : (gap before text : List ℕ) → SplitsAroundMatch (FindsChar 47) gap before text → ((body rest : List ℕ) → IsComment text body rest → ⊥)
    → (b body rest : List ℕ) → IsFirstComment gap b body rest → ⊥
other_comment gap before text splits never b body rest first = never body rest (subst (λ t. IsComment t body rest) (sym (first_comment gap before text splits).2) first.2)

pub is_first : (gap before text body rest : List ℕ) → SplitsAroundMatch (FindsChar 47) gap before text → IsComment text body rest → IsFirstComment gap before body rest
is_first gap before text body rest splits comment =
    let first = first_comment gap before text splits in
    (first.0, first.1, subst (λ t. IsComment t body rest) first.2 comment)

-- ---- the comments of a gap

shorter_comment : (text body rest : List ℕ) → IsComment text body rest → length rest < length text
shorter_comment text body rest (Line line begins is_body is_rest) =
    omega (arith, ap length begins, ap length is_rest, length-drop (position_or_len (λ b. b == 10) line) line)
shorter_comment text body rest (General inner begins (i, j, finds, front, back, le, short, long)) = omega (arith, ap length begins, long)

pub shorter : (gap before body rest : List ℕ) → IsFirstComment gap before body rest → length rest < length gap
shorter gap before body rest first =
    omega (arith, first.0, shorter_comment (after_first (λ b. b == 47) gap) body rest first.2, length-drop (position_or_len (λ b. b == 47) gap + 1) gap)

pub one_more : (gap rest next : List ℕ) (old new : List Comment) (comment : Comment) (more : List (List ℕ × List ℕ)) → new ≡ old ++ comment ∷ []
    → IsFirstComment rest comment.before.now comment.body.now next
    → ((more : List (List ℕ × List ℕ)) → HasComments rest more → HasComments gap (said_in old ++ more)) → HasComments next more → HasComments gap (said_in new ++ more)
one_more gap rest next old new comment more grows first was has =
    let one : List ℕ × List ℕ = (comment.before.now, comment.body.now) in
    subst (λ (l : List (List ℕ × List ℕ)). HasComments gap l)
    (sym (append_assoc (said_in old) (one ∷ []) more) ∙ ap (λ (l : List (List ℕ × List ℕ)). l ++ more)
    (sym (ap said_in grows ∙ map-append (λ (c : Comment). (c.before.now, c.body.now)) old (comment ∷ []))))
    (was (one ∷ more) (More rest comment.before.now comment.body.now next more first has))

pub no_more : (gap rest : List ℕ) (found : List (List ℕ × List ℕ)) → ((more : List (List ℕ × List ℕ)) → HasComments rest more → HasComments gap (found ++ more))
    → ((before body next : List ℕ) → IsFirstComment rest before body next → ⊥) → HasComments gap found
no_more gap rest found was none = subst (HasComments gap) (append-nil found) (was [] (NoMore rest none))

-- ---- the text of a comment

mapped : (lines : List (Bor (List ℕ))) → flat_map (λ (line : Bor (List ℕ)). trim_end line.now ++ 10 ∷ []) lines
    ≡ flat_map (λ line. trim_end line ++ 10 ∷ []) (map (λ (line : Bor (List ℕ)). line.now) lines)
mapped [] = refl
mapped (x ∷ xs) =
    flat_map-cons (λ (line : Bor (List ℕ)). trim_end line.now ++ 10 ∷ []) x xs ∙ ap (λ l. (trim_end x.now ++ 10 ∷ []) ++ l) (mapped xs)
    ∙ sym (flat_map-cons (λ line. trim_end line ++ 10 ∷ []) x.now (map (λ (line : Bor (List ℕ)). line.now) xs))

pub whole_text : (comment old new : List ℕ) (lines items : List (Bor (List ℕ))) (count : ℕ) → map (λ (line : Bor (List ℕ)). line.now) lines ≡ slice_split (λ b. b == 10) comment
    → items ≡ lines → length items ≤ count → new ≡ old ++ flat_map (λ (line : Bor (List ℕ)). trim_end line.now ++ 10 ∷ []) (take count items)
    → new ≡ old ++ comment_text comment
whole_text comment old new lines items count are same all is =
    is ∙ ap (λ l. old ++ l) (ap (flat_map (λ (line : Bor (List ℕ)). trim_end line.now ++ 10 ∷ [])) (take_all count items all ∙ same) ∙ (mapped lines
    ∙ ap (flat_map (λ line. trim_end line ++ 10 ∷ [])) are))
