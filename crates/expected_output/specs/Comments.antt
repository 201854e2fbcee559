-- The comments of a program.
use Rattle.std.specs.Prelude.{◌≡◌, ◌⊎◌, ◌+◌, ◌<◌, ◌≤◌, ◌==◌, ℕ, ◌∷◌, ◌++◌, List, [], length, map, take, drop, codes, not, nat_lt, ◌&&◌, Bool, false, Ok, if◌then◌else◌}
use Rattle.std.specs.List.{before_first, after_first, count_by, flat_map, position_or_len, prefix_len, slice_range, slice_split}
use Rattle.std.specs.Str.{byte, IsCharBoundary, trim_end}
use Rattle.expected_output.specs.declared.comments.Comment.{Comment}
use Rattle.scanner.specs.Tokens.{tokens_of}
use Rattle.scanner.specs.declared.token.Token.{Token}
use Rattle.std.specs.Str.Pattern.{FindsText, SplitsAroundMatch}

abbrev pub is_slash : ℕ → Bool
is_slash b = b == byte "/"

abbrev pub is_newline : ℕ → Bool
is_newline b = b == 10

-- without a space at its front
abbrev pub unspaced : List ℕ → List ℕ
unspaced [] = []
unspaced (b ∷ rest) = if b == byte " " then rest else b ∷ rest

-- after a slash, the rest of a comment: what it says, and what follows it. A line comment ends before the end of its line, a general one with its first `*/`
pub data IsComment (text body rest : List ℕ) : Type 0 where
  Line : (line : List ℕ) → text ≡ byte "/" ∷ line → body ≡ unspaced (before_first is_newline line) → rest ≡ drop (position_or_len is_newline line) line → IsComment text body rest
  General : (inner : List ℕ) → text ≡ byte "*" ∷ inner → SplitsAroundMatch (FindsText (codes "*/")) inner body rest → IsComment text body rest

-- the first comment of a gap, which has only comments and white space: the white space before it, what it says, and what follows it
abbrev pub IsFirstComment : (gap before body rest : List ℕ) → Type 0
IsFirstComment gap before body rest =
    (position_or_len is_slash gap < length gap) × (before ≡ before_first is_slash gap) × IsComment (after_first is_slash gap) body rest

-- the comments of a gap, in order, each with the white space before it and what it says
pub data HasComments : (gap : List ℕ) → List (List ℕ × List ℕ) → Type 0 where
  NoMore : (gap : List ℕ) → ((before body rest : List ℕ) → IsFirstComment gap before body rest → ⊥) → HasComments gap []
  More : (gap before body rest : List ℕ) (more : List (List ℕ × List ℕ)) → IsFirstComment gap before body rest → HasComments rest more → HasComments gap ((before, body) ∷ more)

abbrev pub said_in : List Comment → List (List ℕ × List ℕ)
said_in comments = map (λ (comment : Comment). (comment.before.now, comment.body.now)) comments

-- the text of a comment: its lines without the white space at their ends, each with its newline
abbrev pub comment_text : List ℕ → List ℕ
comment_text body = flat_map (λ line. trim_end line ++ 10 ∷ []) (slice_split is_newline body)

-- how many lines end in the white space before a comment
abbrev pub lines_before : List ℕ × List ℕ → ℕ
lines_before comment = count_by is_newline comment.0

-- how many lines may end between the comments of a group whose first comment this is: none if it stands on the line of a token
abbrev pub most_lines : (follows_token : Bool) → List ℕ × List ℕ → ℕ
most_lines follows_token first = if follows_token && (lines_before first == 0) then 0 else 1

-- how many comments go on with the one before them
abbrev pub group_size : (most : ℕ) → List (List ℕ × List ℕ) → ℕ
group_size most comments = prefix_len (λ comment. not (nat_lt most (lines_before comment))) comments

abbrev pub group_text : List (List ℕ × List ℕ) → List ℕ
group_text comments = flat_map (λ (comment : List ℕ × List ℕ). comment_text comment.1) comments

-- the text of the first group of comments, which are `size`
pub record IsFirstGroup (follows_token : Bool) (comments : List (List ℕ × List ℕ)) (text : List ℕ) (size : ℕ) : Type 0 where
  pub first : List ℕ × List ℕ
  pub more : List (List ℕ × List ℕ)
  pub all : comments ≡ first ∷ more
  pub count : size ≡ 1 + group_size (most_lines follows_token first) more
  pub is : text ≡ comment_text first.1 ++ group_text (take (group_size (most_lines follows_token first) more) more)

-- the texts of the groups of comments between two tokens (Go: `ast.CommentGroup`)
pub data AreGroups : (follows_token : Bool) → List (List ℕ × List ℕ) → List (List ℕ) → Type 0 where
  NoGroup : (follows_token : Bool) → AreGroups follows_token [] []
  Group : (follows_token : Bool) (comments : List (List ℕ × List ℕ)) (text : List ℕ) (size : ℕ) (groups : List (List ℕ)) → IsFirstGroup follows_token comments text size
      → AreGroups false (drop size comments) groups → AreGroups follows_token comments (text ∷ groups)

-- the text can be cut at these two offsets: in order, and at the bounds of characters
abbrev pub CanCut : (text : List ℕ) → (from to : ℕ) → Type 0
CanCut text from to = (from ≤ to) × IsCharBoundary text from × IsCharBoundary text to

-- the bytes from one token's end to the next one's beginning; none if the text cannot be cut at these offsets
abbrev pub IsGap : (text : List ℕ) → (from to : ℕ) → (gap : List ℕ) → Type 0
IsGap text from to gap = (gap ≡ slice_range text from to) ⊎ ((CanCut text from to → ⊥) × (gap ≡ []))

-- the texts of the groups of comments there
abbrev pub AreBetween : (text : List ℕ) → (from to : ℕ) → List (List ℕ) → Type 0
AreBetween text from to groups =
    (gap : List ℕ) × (comments : List (List ℕ × List ℕ)) × IsGap text from to gap × HasComments gap comments × AreGroups (nat_lt 0 from) comments groups

-- the texts of the comments from the end of a token on, before these tokens and after them
pub data AreComments (text : List ℕ) : (end : ℕ) → List Token → List (List ℕ) → Type 0 where
  Rest : (end : ℕ) (groups : List (List ℕ)) → AreBetween text end (length text) groups → AreComments text end [] groups
  Before : (end : ℕ) (token : Token) (tokens : List Token) (groups later : List (List ℕ)) → AreBetween text end token.span.from groups
      → AreComments text token.span.to tokens later → AreComments text end (token ∷ tokens) (groups ++ later)

-- the texts of the comments of a source that has tokens
abbrev pub IsCommented : (text : List ℕ) → List (List ℕ) → Type 0
IsCommented text comments = (tokens : List Token) × (tokens_of text ≡ Ok tokens) × AreComments text 0 tokens comments
