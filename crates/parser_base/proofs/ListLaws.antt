-- Lists: what is spelt is read, and what is read is spelt so.
use Rattle.std.proofs.Common.{◌≡◌, ℕ, zero, suc, ◌<◌, ◌≤◌, Bool, List, [], ◌∷◌, length, Ok, Err, refl, sym, ap, ◌∙◌, subst, arith}
use Rattle.syntax.specs.Measures.{Listing, Entries as EntriesLimit, SelectClauses, entries, highest}
use Rattle.parser_base.specs.declared.list.Next.{Next}
use Rattle.parser_base.specs.declared.list.Next.TheVariants.{More, End}
use Rattle.parser_base.specs.Lexemes.{Lexeme}
use Rattle.parser_base.specs.Spelling.{separated, joined, AreAll, AreSome}
use Rattle.parser_base.specs.Reading.{Refusal, TooDeep, TooMany, Reading, ◌>>=◌, followed, listed}
use Rattle.parser_base.proofs.Marks.{bind_ok, ok_is}

-- the list ends here
abbrev pub ends_with : Bool → List Lexeme → Next × List Lexeme
ends_with trailing rest = (End trailing, rest)

-- another entry follows here
abbrev pub goes_on_with : List Lexeme → Next × List Lexeme
goes_on_with rest = (More, rest)

-- no list in it is longer
abbrev pub AreFew : (Listing → ℕ) → ℕ → Type 0
AreFew longest most = (listing : Listing) → longest listing ≤ most

pub entries-le : (listing : Listing) (n : ℕ) → entries listing n ≤ n
entries-le EntriesLimit n = omega arith
entries-le SelectClauses n = omega arith

-- ---- what is read of words that spell something: that, or a refusal of what is too high or has too long a list

pub data ReadBack {A : Type 0} (read : Reading A) (x : A) (rest : List Lexeme) (height depth_left : ℕ) (longest : Listing → ℕ) (most : ℕ) : Type 0 where
  Found : height ≤ depth_left → AreFew longest most → read ≡ Ok (x, rest) → ReadBack read x rest height depth_left longest most
  High : depth_left < height → read ≡ Err TooDeep → ReadBack read x rest height depth_left longest most
  Many : (listing : Listing) → most < longest listing → read ≡ Err (TooMany listing) → ReadBack read x rest height depth_left longest most

-- like `ReadBack`, for a list, which may also be longer than there are turns
pub data ListOutcome {X : Type 0} (read : Reading (List X × Bool)) (xs : List X) (trailing : Bool) (rest : List Lexeme) (height depth_left : ℕ) (longest : Listing → ℕ) (most turns : ℕ) (full : Refusal) : Type 0 where
  Found : height ≤ depth_left → AreFew longest most → length xs ≤ turns → read ≡ Ok ((xs, trailing), rest) → ListOutcome read xs trailing rest height depth_left longest most turns full
  High : depth_left < height → read ≡ Err TooDeep → ListOutcome read xs trailing rest height depth_left longest most turns full
  Many : (listing : Listing) → most < longest listing → read ≡ Err (TooMany listing) → ListOutcome read xs trailing rest height depth_left longest most turns full
  Full : turns < length xs → read ≡ Err full → ListOutcome read xs trailing rest height depth_left longest most turns full

-- how the entries of a list are spelt and read
pub record Entries (X : Type 0) : Type 1 where
  pub one : List Lexeme → Reading X
  pub next : List Lexeme → Reading Next
  -- an entry, a separator, or the list's ending, and then these
  pub each : X → List Lexeme → List Lexeme
  pub separator : List Lexeme → List Lexeme
  pub ending : Bool → List Lexeme → List Lexeme
  pub height : X → ℕ
  pub longest : Listing → X → ℕ
  pub depth_left : ℕ
  pub most : ℕ
  pub IsOne : X → Type 0

-- ---- what is spelt is read

abbrev pub IsReadAgain : {X : Type 0} → Entries X → (List Lexeme → Type 0) → X → Type 0
IsReadAgain l Ends x = (rest : List Lexeme) → Ends rest → ReadBack (l.one (l.each x rest)) x rest (l.height x) l.depth_left (λ listing. l.longest listing x) l.most

-- what may follow an entry, and how it is read
pub record Separates {X : Type 0} (l : Entries X) (Ends : List Lexeme → Type 0) (trailing : Bool) (rest : List Lexeme) : Type 0 where
  pub separator : (x : X) (words : List Lexeme) → l.IsOne x → Ends (l.separator (l.each x words))
  pub more : (x : X) (words : List Lexeme) → l.IsOne x → l.next (l.separator (l.each x words)) ≡ Ok (More, l.each x words)
  pub ending : Ends (l.ending trailing rest)
  pub end : l.next (l.ending trailing rest) ≡ Ok (End trailing, rest)

abbrev AreReadAgain : {X : Type 0} → Entries X → Bool → List Lexeme → Refusal → ℕ → X → List X → Type 0
AreReadAgain l trailing rest full turns x xs =
    ListOutcome (listed l.one l.next full turns (l.each x (separated l.each l.separator xs (l.ending trailing rest)))) (x ∷ xs) trailing rest
    (highest l.height (x ∷ xs)) l.depth_left (λ listing. highest (l.longest listing) (x ∷ xs)) l.most turns full

last_again : {X : Type 0} (l : Entries X) (Ends : List Lexeme → Type 0) (trailing : Bool) (rest : List Lexeme) (full : Refusal) → Separates l Ends trailing rest
    → (turns : ℕ) (x : X) → IsReadAgain l Ends x → AreReadAgain l trailing rest full (suc turns) x []
unfolding listed
last_again l Ends trailing rest full separates turns x again =
    elim (again (l.ending trailing rest) separates.ending) [
      | Found low few e ↦ Found (omega arith) (λ listing. omega (arith, few listing)) (omega arith) (rw (e, separates.end) refl)
      | High high e ↦ High (omega arith) (rw e refl)
      | Many listing many e ↦ Many listing (omega arith) (rw e refl)
    ]

first_again : {X : Type 0} (l : Entries X) (Ends : List Lexeme → Type 0) (trailing : Bool) (rest : List Lexeme) (full : Refusal) → Separates l Ends trailing rest
    → (turns : ℕ) (x y : X) (ys : List X) → IsReadAgain l Ends x → l.IsOne y → AreReadAgain l trailing rest full turns y ys → AreReadAgain l trailing rest full (suc turns) x (y ∷ ys)
unfolding listed
first_again l Ends trailing rest full separates turns x y ys again one others =
    let tail = separated l.each l.separator ys (l.ending trailing rest) in
    elim (again (l.separator (l.each y tail)) (separates.separator y tail one)) [
      | High high e ↦ High (omega arith) (rw e refl)
      | Many listing many e ↦ Many listing (omega arith) (rw e refl)
      | Found low few e ↦ elim others [
        | Found low' few' count e' ↦ Found (omega arith) (λ listing. omega (arith, few listing, few' listing)) (omega arith) (rw (e, separates.more y tail one, e') refl)
        | High high e' ↦ High (omega arith) (rw (e, separates.more y tail one, e') refl)
        | Many listing many e' ↦ Many listing (omega arith) (rw (e, separates.more y tail one, e') refl)
        | Full count e' ↦ Full (omega arith) (rw (e, separates.more y tail one, e') refl)
      ]
    ]

none_again : {X : Type 0} (l : Entries X) (trailing : Bool) (rest : List Lexeme) (full : Refusal) (x : X) (xs : List X) → AreReadAgain l trailing rest full 0 x xs
unfolding listed
none_again l trailing rest full x xs = Full (omega arith) refl

pub listed_again : {X : Type 0} (l : Entries X) (Ends : List Lexeme → Type 0) (trailing : Bool) (rest : List Lexeme) (full : Refusal) → Separates l Ends trailing rest
    → (xs : List X) (turns : ℕ) (x : X) → AreAll l.IsOne (x ∷ xs) → AreAll (IsReadAgain l Ends) (x ∷ xs) → AreReadAgain l trailing rest full turns x xs
listed_again l Ends trailing rest full separates xs zero x all again = none_again l trailing rest full x xs
listed_again l Ends trailing rest full separates [] (suc turns) x all again = last_again l Ends trailing rest full separates turns x again.0
listed_again l Ends trailing rest full separates (y ∷ ys) (suc turns) x all again =
    first_again l Ends trailing rest full separates turns x y ys again.0 all.1.0 (listed_again l Ends trailing rest full separates ys turns y all.1 again.1)

-- what is read of each alone
pub all_again : {X : Type 0} (P Q : X → Type 0) → ((x : X) → P x → Q x) → (xs : List X) → AreAll P xs → AreAll Q xs
all_again P Q f [] all = tt
all_again P Q f (x ∷ xs) all = (f x all.0, all_again P Q f xs all.1)

-- ---- what is read is spelt so

pub record IsEntry {X : Type 0} (l : Entries X) (words : List Lexeme) (x : X) (rest : List Lexeme) : Type 0 where
  pub parts : words ≡ l.each x rest
  pub is : l.IsOne x
  pub low : l.height x ≤ l.depth_left
  pub few : AreFew (λ listing. l.longest listing x) l.most

pub record ReadsSoundly {X : Type 0} (l : Entries X) : Type 0 where
  pub one : (words : List Lexeme) (x : X) (rest : List Lexeme) → l.one words ≡ Ok (x, rest) → IsEntry l words x rest
  pub more : (words rest : List Lexeme) → l.next words ≡ Ok (More, rest) → words ≡ l.separator rest
  pub end : (words : List Lexeme) (trailing : Bool) (rest : List Lexeme) → l.next words ≡ Ok (End trailing, rest) → words ≡ l.ending trailing rest

pub record AreEntries {X : Type 0} (l : Entries X) (turns : ℕ) (words : List Lexeme) (found : (List X × Bool) × List Lexeme) : Type 0 where
  pub parts : words ≡ joined l.each l.separator found.0.0 (l.ending found.0.1 found.1)
  pub are : AreSome l.IsOne found.0.0
  pub low : highest l.height found.0.0 ≤ l.depth_left
  pub few : AreFew (λ listing. highest (l.longest listing) found.0.0) l.most
  pub count : length found.0.0 ≤ turns

-- the entries after a separator
after_one : {X : Type 0} (l : Entries X) (xs : List X) (rest : List Lexeme) → AreSome l.IsOne xs → separated l.each l.separator xs rest ≡ l.separator (joined l.each l.separator xs rest)
after_one l [] rest some = absurd some
after_one l (x ∷ xs) rest some = refl

-- what holds of at least one holds of all
pub all_of : {X : Type 0} (P : X → Type 0) (xs : List X) → AreSome P xs → AreAll P xs
all_of P [] some = absurd some
all_of P (x ∷ xs) some = some

-- an entry, what follows it, and the entries after that
followed_sound : {X : Type 0} (l : Entries X) → ReadsSoundly l → (turns : ℕ) (others : List Lexeme → Reading (List X × Bool)) → ((words : List Lexeme) (found : (List X × Bool) × List Lexeme) → others words ≡ Ok found → AreEntries l turns words found)
    → (words : List Lexeme) (x : X) (after : List Lexeme) → IsEntry l words x after → (next : Next × List Lexeme) (found : (List X × Bool) × List Lexeme) → l.next after ≡ Ok next → followed x others next ≡ Ok found → AreEntries l (suc turns) words found
followed_sound l sound turns others deeper words x after entry (More, rest) found n e =
    let a = bind_ok (others rest) (λ found. Ok ((x ∷ found.0.0, found.0.1), found.1)) found e in
    let s = deeper rest a.0 a.1 in
    let xs = a.0.0.0 in
    let tail = l.ending a.0.0.1 a.0.1 in
    let made : (List _ × Bool) × List Lexeme = ((x ∷ xs, a.0.0.1), a.0.1) in
    let following : after ≡ separated l.each l.separator xs tail =
    sound.more after rest n ∙ ap l.separator s.parts ∙ sym (after_one l xs tail s.are) in
    subst (λ (y : (List _ × Bool) × List Lexeme). AreEntries l (suc turns) words y) (ok_is made found a.2) (record {
      parts = entry.parts ∙ ap (l.each x) following;
      are = (entry.is, all_of l.IsOne xs s.are);
      low = omega (arith, entry.low, s.low);
      few = λ listing. omega (arith, entry.few listing, s.few listing);
      count = omega (arith, s.count);
    })
followed_sound l sound turns others deeper words x after entry (End trailing, rest) found n e =
    let made : (List _ × Bool) × List Lexeme = ((x ∷ [], trailing), rest) in
    subst (λ (y : (List _ × Bool) × List Lexeme). AreEntries l (suc turns) words y) (ok_is made found e) (record {
      parts = entry.parts ∙ ap (l.each x) (sound.end after trailing rest n);
      are = (entry.is, tt);
      low = omega (arith, entry.low);
      few = λ listing. omega (arith, entry.few listing);
      count = omega arith;
    })

pub listed_sound : {X : Type 0} (l : Entries X) (full : Refusal) → ReadsSoundly l → (turns : ℕ) (words : List Lexeme) (found : (List X × Bool) × List Lexeme) → listed l.one l.next full turns words ≡ Ok found → AreEntries l turns words found
unfolding listed
listed_sound l full sound zero words found e = absurd cc
listed_sound l full sound (suc turns) words found e =
    let a = bind_ok (l.one words) (λ first. l.next first.1 >>= λ after. followed first.0 (listed l.one l.next full turns) after) found e in
    let b = bind_ok (l.next a.0.1) (λ after. followed a.0.0 (listed l.one l.next full turns) after) found a.2 in
    followed_sound l sound turns (listed l.one l.next full turns) (listed_sound l full sound turns) words a.0.0 a.0.1 (sound.one words a.0.0 a.0.1 a.1) b.0 found b.1 b.2
