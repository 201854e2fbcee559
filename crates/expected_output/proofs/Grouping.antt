-- How comments are grouped.
use Rattle.std.proofs.Common.{◌≡◌, ◌+◌, ◌-◌, ◌<◌, ◌≤◌, ℕ, zero, suc, Bool, true, false, not, nat_lt, List, [], ◌∷◌, ◌++◌, length, take, drop, get_or, refl, sym, ap, subst, ◌∙◌, arith}
use Rattle.std.proofs.lemmas.List.{append-nil, append_assoc, drop-drop, drop-map, drop_all, get_or-map, get_or_default, length-drop, length-map, take-map, take_all, take_more}
use Rattle.std.proofs.lemmas.List.Concat.{flat_map-append}
use Rattle.expected_output.specs.Comments.{AreGroups, comment_text, Group, group_size, group_text, IsFirstGroup, lines_before, most_lines, NoGroup, said_in}
use Rattle.expected_output.specs.declared.comments.Comment.{Comment}
use denote.Ref.{Bor}

abbrev pub said : Comment → List ℕ × List ℕ
said comment = (comment.before.now, comment.body.now)

pub size_is : (comments : List Comment) (most size : ℕ) (d : Comment) → size ≤ length comments → ((k : ℕ) → k < size → not (nat_lt most (lines_before (said (get_or comments k d)))) ≡ true)
    → (size < length comments → not (nat_lt most (lines_before (said (get_or comments size d)))) ≡ false) → size ≡ group_size most (said_in comments)
size_is [] most zero d within on off = refl
size_is [] most (suc n) d within on off = absurd (omega (arith, within))
size_is (x ∷ xs) most zero d within on off = rw (off (omega arith)) refl
size_is (x ∷ xs) most (suc n) d within on off =
    let rest = size_is xs most n d (omega (arith, within)) (λ k lt. on (suc k) (omega (arith, lt))) (λ lt. off (omega (arith, lt))) in
    rw (on 0 (omega arith)) (omega (arith, rest))

nothing : Bor (List ℕ)
nothing = record { ref_ptr = (0, 0); now = [] }

pub any : Comment
any = record { before = nothing; body = nothing; rest = nothing }

-- one comment more of a group
pub group_more : (comments : List Comment) (at : ℕ) (d : Comment) (old group new : List ℕ) → at < length comments → group ≡ old ++ group_text (take at (said_in comments))
    → new ≡ group ++ comment_text (get_or comments at d).body.now → new ≡ old ++ group_text (take (at + 1) (said_in comments))
group_more comments at d old group new within was is =
    let next = take_more (said_in comments) at (said d) (omega (arith, within, length-map comments said)) ∙ ap (λ (c : List ℕ × List ℕ). take at (said_in comments) ++ c ∷ []) (get_or-map said comments at d (said d) within) in
    let last : group_text (said (get_or comments at d) ∷ []) ≡ comment_text (get_or comments at d).body.now = append-nil (comment_text (get_or comments at d).body.now) in
    is ∙ (ap (λ g. g ++ comment_text (get_or comments at d).body.now) was ∙ (append_assoc old (group_text (take at (said_in comments))) (comment_text (get_or comments at d).body.now)
    ∙ ap (λ g. old ++ g) (ap (λ g. group_text (take at (said_in comments)) ++ g) (sym last) ∙ (sym (flat_map-append (λ (c : List ℕ × List ℕ). comment_text c.1) (take at (said_in comments)) (said (get_or comments at d) ∷ []))
    ∙ ap group_text (sym next)))))

pub all_of : (comments : List Comment) (at : ℕ) (old group : List ℕ) → length comments ≤ at → group ≡ old ++ group_text (take at (said_in comments)) → group ≡ old ++ group_text (said_in comments)
all_of comments at old group end is = is ∙ ap (λ (l : List (List ℕ × List ℕ)). old ++ group_text l) (take_all at (said_in comments) (omega (arith, end, length-map comments said)))

pub first_is : (follows : Bool) (comments more part : List Comment) (x : Comment) (most size : ℕ) (empty one text : List ℕ) → most ≡ most_lines follows (said x)
    → size ≡ group_size most (said_in more) → one ≡ empty ++ comment_text x.body.now → text ≡ one ++ group_text (said_in part) → comments ≡ x ∷ more → part ≡ take size more → empty ≡ []
    → IsFirstGroup follows (said_in comments) text (1 + size)
first_is follows comments more part x most size empty one text most_is size_is one_is text_is all part_is empty_is =
    let count : size ≡ group_size (most_lines follows (said x)) (said_in more) = size_is ∙ ap (λ m. group_size m (said_in more)) most_is in
    record {
      first = said x;
      more = said_in more;
      all = ap said_in all;
      count = ap (λ n. 1 + n) count;
      is =
          text_is ∙ (ap (λ t. t ++ group_text (said_in part)) (one_is ∙ ap (λ e. e ++ comment_text x.body.now) empty_is)
          ∙ ap (λ (l : List (List ℕ × List ℕ)). comment_text x.body.now ++ group_text l) (ap said_in part_is ∙ (sym (take-map said size more) ∙ ap (λ n. take n (said_in more)) count)));
    }

-- a comment before which too many lines end is the first that does not go on
pub stops : (comments : List Comment) (most size index lines : ℕ) (d e : Comment) → size ≡ index → lines ≡ lines_before (said (get_or comments index e)) → index < length comments
    → nat_lt most lines ≡ true → not (nat_lt most (lines_before (said (get_or comments size d)))) ≡ false
stops comments most size index lines d e at is within far =
    ap (λ (n : ℕ). not (nat_lt most (lines_before (said (get_or comments n d))))) at
    ∙ (ap (λ (c : Comment). not (nat_lt most (lines_before (said c)))) (get_or_default comments index d e within) ∙ (ap (λ n. not (nat_lt most n)) (sym is) ∙ ap not far))

-- one group more
pub group_next : (follows_token follows : Bool) (comments rest : List Comment) (at size : ℕ) (old new : List (List ℕ)) (text : List ℕ) → rest ≡ take (length comments - at) (drop at comments)
    → IsFirstGroup follows (said_in rest) text size → new ≡ old ++ text ∷ []
    → ((later : List (List ℕ)) → AreGroups follows (drop at (said_in comments)) later → AreGroups follows_token (said_in comments) (old ++ later))
    → (later : List (List ℕ)) → AreGroups false (drop (at + size) (said_in comments)) later → AreGroups follows_token (said_in comments) (new ++ later)
group_next follows_token follows comments rest at size old new text is first grows was later has =
    let front : said_in rest ≡ drop at (said_in comments) = ap said_in (is ∙ take_all (length comments - at) (drop at comments) (omega (arith, length-drop at comments))) ∙ sym (drop-map said at comments) in
    let first_there = subst (λ (l : List (List ℕ × List ℕ)). IsFirstGroup follows l text size) front first in
    let rest_there = subst (λ (l : List (List ℕ × List ℕ)). AreGroups false l later) (sym (drop-drop size at (said_in comments))) has in
    subst (AreGroups follows_token (said_in comments)) (sym (append_assoc old (text ∷ []) later) ∙ ap (λ (l : List (List ℕ)). l ++ later) (sym grows))
    (was (text ∷ later) (Group follows (drop at (said_in comments)) text size later first_there rest_there))

pub no_group : (follows_token follows : Bool) (comments : List Comment) (at : ℕ) (groups : List (List ℕ)) → length comments ≤ at
    → ((later : List (List ℕ)) → AreGroups follows (drop at (said_in comments)) later → AreGroups follows_token (said_in comments) (groups ++ later))
    → AreGroups follows_token (said_in comments) groups
no_group follows_token follows comments at groups end was =
    let none : drop at (said_in comments) ≡ [] = drop_all at (said_in comments) (omega (arith, end, length-map comments said)) in
    subst (AreGroups follows_token (said_in comments)) (append-nil groups) (was [] (subst (λ (l : List (List ℕ × List ℕ)). AreGroups follows l []) (sym none) (NoGroup follows)))
