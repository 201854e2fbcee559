-- What is written of a plan is read as that plan.
use Rattle.std.proofs.Common.{◌≡◌, ℕ, ◌+◌, ◌-◌, ◌*◌, ◌^◌, ◌<◌, ◌≤◌, ◌==◌, ◌/◌, ◌%◌, nat_lt, Bool, true, false, ◌&&◌, not, cond, codes, decimal, List, [], ◌∷◌, ◌++◌, get_or, map, Option, Some, None, refl, sym, ◌∙◌, ap, subst, append_assoc, append-nil, arith}
use Rattle.std.specs.List.{flat_map, list_any, onto_first, slice_split}
use Rattle.std.proofs.lemmas.Bool.{and_from, and_parts, eq-eqb, false≢true, lt-ltb, ne_eqb, not-true, not_from_false}
use Rattle.std.proofs.lemmas.Fmt.{decimal_by_steps, first_decimal}
use Rattle.pauses.specs.Files.{AreNumbers, ArePauses, IsChange, IsNumber, IsPlan, IsWay, Line, Says, Reads, Reading, Breaks, change_in, change_text, digits_after, formed, is_digit, line_of, lines_from, more_text, number, numbers_after, pause_in, pause_text, plan_text, read_bytes, read_lines, said, way_in, way_text, with_line, with_number}
use Rattle.pauses.specs.Plans.{Change, Wait, Clause, Pause, is_rival}

-- ---- pieces

abbrev pub cut : ℕ → List ℕ → List (List ℕ)
cut mark xs = slice_split (λ b. b == mark) xs

abbrev pub lacks : ℕ → List ℕ → Bool
lacks mark [] = true
lacks mark (x ∷ xs) = not (x == mark) && lacks mark xs

pub lacks_append : (mark : ℕ) (xs ys : List ℕ) → lacks mark xs ≡ true → lacks mark ys ≡ true → lacks mark (xs ++ ys) ≡ true
lacks_append mark [] ys h k = k
lacks_append mark (x ∷ xs) ys h k =
    let p = and_parts _ _ h in
    and_from _ _ p.0 (lacks_append mark xs ys p.1 k)

-- the first element is no mark
cut_more : (mark x : ℕ) (xs : List ℕ) → not (x == mark) ≡ true → cut mark (x ∷ xs) ≡ onto_first x (cut mark xs)
cut_more mark x xs h = ap (λ (b : Bool). cond b ([] ∷ cut mark xs) (onto_first x (cut mark xs))) (not-true _ h)

pub cut_none : (mark : ℕ) (xs : List ℕ) → lacks mark xs ≡ true → cut mark xs ≡ xs ∷ []
cut_none mark [] h = refl
cut_none mark (x ∷ xs) h =
    let p = and_parts _ _ h in
    cut_more mark x xs p.0 ∙ ap (onto_first x) (cut_none mark xs p.1)

pub same_number : (n : ℕ) → (n == n) ≡ true
same_number n = eq-eqb n n refl

cut_here : (mark : ℕ) (ys : List ℕ) → cut mark (mark ∷ ys) ≡ [] ∷ cut mark ys
cut_here mark ys = ap (λ (b : Bool). cond b ([] ∷ cut mark ys) (onto_first mark (cut mark ys))) (same_number mark)

pub cut_at : (mark : ℕ) (xs ys : List ℕ) → lacks mark xs ≡ true → cut mark (xs ++ mark ∷ ys) ≡ xs ∷ cut mark ys
cut_at mark [] ys h = cut_here mark ys
cut_at mark (x ∷ xs) ys h =
    let p = and_parts _ _ h in
    cut_more mark x (xs ++ mark ∷ ys) p.0 ∙ ap (onto_first x) (cut_at mark xs ys p.1)

-- ---- numbers

below : (n : ℕ) → n < 10 ^ 18 → n < 2 ^ 64
below n h = omega (arith, h)

digit_lacks : (mark n : ℕ) → mark < 48 → lacks mark ((48 + n) ∷ []) ≡ true
digit_lacks mark n h = and_from _ _ (not_from_false _ (ne_eqb (48 + n) mark (λ e. omega (arith, e, h)))) refl

decimal_lacks : (mark n : ℕ) → mark < 48 → n < 10 ^ 18 → lacks mark (decimal n) ≡ true
decimal_lacks mark n low h =
    let P : ℕ → List ℕ → Type 0 = λ k ds. lacks mark ds ≡ true in
    decimal_by_steps P (λ k small. digit_lacks mark k low) (λ k ds large before. lacks_append mark ds ((48 + k % 10) ∷ []) before (digit_lacks mark (k % 10) low)) n (below n h)

digit_test : (d : ℕ) → d < 10 → is_digit (48 + d) ≡ true
digit_test d h = and_from _ _ (lt-ltb 47 (48 + d) (omega arith)) (lt-ltb (48 + d) 58 (omega (arith, h)))

small_test : (v : ℕ) → v < 10 ^ 18 → nat_lt v (10 ^ 18) ≡ true
small_test v h = lt-ltb v (10 ^ 18) h

-- one digit more
digit_by : (value : ℕ) (b : Bool) → b ≡ true → cond b (Some value) None ≡ Some value
digit_by value true h = refl
digit_by value false h = absurd (false≢true h)

more_by : (w m : ℕ) (ds : List ℕ) (c : ℕ) (b : Bool) → cond b (digits_after w ds) None ≡ Some m → (digits_after w ds ≡ Some m → digits_after w (ds ++ c ∷ []) ≡ Some (10 * m + (c - 48)))
    → cond b (digits_after w (ds ++ c ∷ [])) None ≡ Some (10 * m + (c - 48))
more_by w m ds c true e more = more e
more_by w m ds c false e more = cc

some_value : (a b : ℕ) → Some a ≡ Some b → a ≡ b
some_value a b e = cc

digit_more : (v m c : ℕ) (ds : List ℕ) → digits_after v ds ≡ Some m → is_digit c ≡ true → nat_lt (10 * m + (c - 48)) (10 ^ 18) ≡ true → digits_after v (ds ++ c ∷ []) ≡ Some (10 * m + (c - 48))
digit_more v m c [] e digit small =
    let same : v ≡ m = some_value v m e in
    subst (λ (w : ℕ). digits_after w (c ∷ []) ≡ Some (10 * m + (c - 48))) (sym same) (digit_by (10 * m + (c - 48)) _ (and_from _ _ digit small))
digit_more v m c (d ∷ ds) e digit small =
    more_by (10 * v + (d - 48)) m ds c (is_digit d && nat_lt (10 * v + (d - 48)) (10 ^ 18)) e (λ e'. digit_more (10 * v + (d - 48)) m c ds e' digit small)

decimal_value : (n : ℕ) → n < 10 ^ 18 → digits_after 0 (decimal n) ≡ Some n
decimal_value n h =
    let P : ℕ → List ℕ → Type 0 = λ k ds. k < 10 ^ 18 → digits_after 0 ds ≡ Some k in
    let one : (k : ℕ) → k < 10 → P k ((48 + k) ∷ []) = λ k small low.
    digit_by (10 * 0 + (48 + k - 48)) _ (and_from _ _ (digit_test k small) (small_test _ (omega (arith, small)))) ∙ ap (λ (x : ℕ). Some x) (omega arith) in
    let more : (k : ℕ) (ds : List ℕ) → 10 ≤ k → P (k / 10) ds → P k (ds ++ ((48 + k % 10) ∷ [])) = λ k ds large before low.
    digit_more 0 (k / 10) (48 + k % 10) ds (before (omega (arith, low))) (digit_test (k % 10) (omega arith)) (small_test _ (omega (arith, low))) ∙ ap (λ (x : ℕ). Some x) (omega arith) in
    decimal_by_steps P one more n (below n h) h

number_by : (ds : List ℕ) (n : ℕ) → 48 < get_or ds 0 0 → digits_after 0 ds ≡ Some n → number ds ≡ Some n
number_by [] n h e = absurd (omega (arith, h))
number_by (c ∷ cs) n h e = ap (λ (b : Bool). cond b None (digits_after 0 (c ∷ cs))) (ne_eqb c 48 (λ is. omega (arith, h, is))) ∙ e

number_again : (n : ℕ) → IsNumber n → number (decimal n) ≡ Some n
number_again n h = number_by (decimal n) n (first_decimal n h.0 (below n h.1)) (decimal_value n h.1)

-- ---- ways

abbrev texts : List ℕ → List (List ℕ)
texts ns = map decimal ns

way_cut : (n : ℕ) (ns : List ℕ) → AreNumbers (n ∷ ns) → cut 46 (decimal n ++ more_text ns) ≡ decimal n ∷ texts ns
way_cut n [] h = ap (cut 46) (append-nil (decimal n)) ∙ cut_none 46 (decimal n) (decimal_lacks 46 n (omega arith) h.0.1)
way_cut n (k ∷ ks) h = cut_at 46 (decimal n) (decimal k ++ more_text ks) (decimal_lacks 46 n (omega arith) h.0.1) ∙ ap (λ (ps : List (List ℕ)). decimal n ∷ ps) (way_cut k ks h.1)

all_again : (before ns : List ℕ) → AreNumbers ns → numbers_after before (texts ns) ≡ Some (before ++ ns)
all_again before [] h = ap (λ (b : List ℕ). Some b) (sym (append-nil before))
all_again before (n ∷ ns) h =
    ap (λ (o : Option ℕ). with_number o (λ k. numbers_after (before ++ k ∷ []) (texts ns))) (number_again n h.0)
    ∙ all_again (before ++ n ∷ []) ns h.1
    ∙ ap (λ (b : List ℕ). Some b) (append_assoc before (n ∷ []) ns)

way_again : (way : List ℕ) → IsWay way → way_in (way_text way) ≡ Some way
way_again [] h = absurd h
way_again (n ∷ ns) h = ap (numbers_after []) (way_cut n ns h) ∙ all_again [] (n ∷ ns) h

more_lacks : (mark : ℕ) (ns : List ℕ) → mark < 46 → AreNumbers ns → lacks mark (more_text ns) ≡ true
more_lacks mark [] low h = refl
more_lacks mark (n ∷ ns) low h =
    and_from _ _ (not_from_false _ (ne_eqb 46 mark (λ e. omega (arith, e, low))))
    (lacks_append mark (decimal n) (more_text ns) (decimal_lacks mark n (omega (arith, low)) h.0.1) (more_lacks mark ns low h.1))

way_lacks : (mark : ℕ) (way : List ℕ) → mark < 46 → IsWay way → lacks mark (way_text way) ≡ true
way_lacks mark [] low h = absurd h
way_lacks mark (n ∷ ns) low h = lacks_append mark (decimal n) (more_text ns) (decimal_lacks mark n (omega (arith, low)) h.0.1) (more_lacks mark ns low h.1)

-- ---- a line

abbrev word_of : Change → List ℕ
word_of (Wait ticks) = codes "wait"
word_of (Clause clause) = codes "clause"

abbrev count_of : Change → ℕ
count_of (Wait ticks) = ticks
count_of (Clause clause) = clause

abbrev line : Pause → List ℕ
line p = way_text p.way ++ 32 ∷ (decimal p.request ++ 32 ∷ (word_of p.change ++ 32 ∷ decimal (count_of p.change)))

change_is : (c : Change) → change_text c ≡ 32 ∷ (word_of c ++ 32 ∷ decimal (count_of c))
change_is (Wait ticks) = refl
change_is (Clause clause) = refl

count_is : (c : Change) → IsChange c → IsNumber (count_of c)
count_is (Wait ticks) h = h
count_is (Clause clause) h = h

word_lacks : (mark : ℕ) (c : Change) → mark < 48 → lacks mark (word_of c) ≡ true
word_lacks mark (Wait ticks) low = search_lacks 119 97 105 116
  where
    apart : (x : ℕ) → 48 ≤ x → not (x == mark) ≡ true
    apart x h = not_from_false _ (ne_eqb x mark (λ e. omega (arith, e, h, low)))

    search_lacks : (a b c d : ℕ) → lacks mark (codes "wait") ≡ true
    search_lacks a b c d = and_from _ _ (apart 119 (omega arith)) (and_from _ _ (apart 97 (omega arith)) (and_from _ _ (apart 105 (omega arith)) (and_from _ _ (apart 116 (omega arith)) refl)))
word_lacks mark (Clause clause) low =
    and_from _ _ (apart 99 (omega arith)) (and_from _ _ (apart 108 (omega arith)) (and_from _ _ (apart 97 (omega arith)) (and_from _ _ (apart 117 (omega arith)) (and_from _ _ (apart 115 (omega arith)) (and_from _ _ (apart 101 (omega arith)) refl)))))
  where
    apart : (x : ℕ) → 48 ≤ x → not (x == mark) ≡ true
    apart x h = not_from_false _ (ne_eqb x mark (λ e. omega (arith, e, h, low)))

abbrev IsGood : Pause → Type 0
IsGood p = IsWay p.way × IsNumber p.request × IsChange p.change

line_cut : (p : Pause) → IsGood p → cut 32 (line p) ≡ way_text p.way ∷ decimal p.request ∷ word_of p.change ∷ decimal (count_of p.change) ∷ []
line_cut p h =
    cut_at 32 (way_text p.way) _ (way_lacks 32 p.way (omega arith) h.0)
    ∙ ap (λ (ws : List (List ℕ)). way_text p.way ∷ ws) (cut_at 32 (decimal p.request) _ (decimal_lacks 32 p.request (omega arith) h.1.1)
    ∙ ap (λ (ws : List (List ℕ)). decimal p.request ∷ ws) (cut_at 32 (word_of p.change) _ (word_lacks 32 p.change (omega arith))
    ∙ ap (λ (ws : List (List ℕ)). word_of p.change ∷ ws) (cut_none 32 (decimal (count_of p.change)) (decimal_lacks 32 (count_of p.change) (omega arith) (count_is p.change h.2).1))))

change_again : (c : Change) → IsChange c → change_in (word_of c) (number (decimal (count_of c))) ≡ Some c
change_again (Wait ticks) h = ap (change_in (codes "wait")) (number_again ticks h)
change_again (Clause clause) h = ap (change_in (codes "clause")) (number_again clause h)

pause_again : (p : Pause) → IsGood p → pause_in (cut 32 (line p)) ≡ Some p
pause_again p h =
    ap pause_in (line_cut p h)
    ∙ ap (λ (w : Option (List ℕ)). formed w (number (decimal p.request)) (change_in (word_of p.change) (number (decimal (count_of p.change))))) (way_again p.way h.0)
    ∙ ap (λ (r : Option ℕ). formed (Some p.way) r (change_in (word_of p.change) (number (decimal (count_of p.change))))) (number_again p.request h.1)
    ∙ ap (λ (c : Option Change). formed (Some p.way) (Some p.request) c) (change_again p.change h.2)

first_kept : (xs ys : List ℕ) → 48 < get_or xs 0 0 → 48 < get_or (xs ++ ys) 0 0
first_kept [] ys h = absurd (omega (arith, h))
first_kept (x ∷ xs) ys h = h

line_first : (p : Pause) → IsWay p.way → 48 < get_or (line p) 0 0
line_first p h = first_kept (way_text p.way) _ (way_first p.way h)
  where
    way_first : (way : List ℕ) → IsWay way → 48 < get_or (way_text way) 0 0
    way_first [] never = absurd never
    way_first (n ∷ ns) good = first_kept (decimal n) (more_text ns) (first_decimal n good.0.0 (below n good.0.1))

no_comment : (bytes : List ℕ) → 48 < get_or bytes 0 0 → line_of bytes ≡ said (pause_in (cut 32 bytes))
no_comment [] h = absurd (omega (arith, h))
no_comment (c ∷ cs) h = ap (λ (b : Bool). cond b Line.Silent (said (pause_in (cut 32 (c ∷ cs))))) (ne_eqb c 35 (λ e. omega (arith, e, h)))

line_again : (p : Pause) → IsGood p → line_of (line p) ≡ Says p
line_again p h = no_comment (line p) (line_first p h.0) ∙ ap said (pause_again p h)

line_lacks : (p : Pause) → IsGood p → lacks 10 (line p) ≡ true
line_lacks p h =
    lacks_append 10 (way_text p.way) _ (way_lacks 10 p.way (omega arith) h.0)
    (lacks_append 10 (decimal p.request) _ (decimal_lacks 10 p.request (omega arith) h.1.1)
    (lacks_append 10 (word_of p.change) _ (word_lacks 10 p.change (omega arith)) (decimal_lacks 10 (count_of p.change) (omega arith) (count_is p.change h.2).1)))

-- ---- all lines

text_is : (p : Pause) (rest : List ℕ) → pause_text p ++ rest ≡ line p ++ 10 ∷ rest
text_is p rest = rw (change_is p.change) (simp append_assoc)

with_rival : (n : ℕ) (before : List Pause) (p : Pause) (others : List Pause → Reading) → list_any (is_rival p) before ≡ false → with_line n before (Says p) others ≡ others (before ++ p ∷ [])
with_rival n before p others h = ap (λ (b : Bool). cond b (Breaks n) (others (before ++ p ∷ []))) h

pub lines_again : (n : ℕ) (before ps : List Pause) → ArePauses before ps → lines_from n before (cut 10 (flat_map pause_text ps)) ≡ Reads (before ++ ps)
lines_again n before [] h = ap (λ (b : List Pause). Reads b) (sym (append-nil before))
lines_again n before (p ∷ ps) h =
    ap (lines_from n before) (ap (cut 10) (text_is p (flat_map pause_text ps)) ∙ cut_at 10 (line p) (flat_map pause_text ps) (line_lacks p h.0))
    ∙ ap (λ (l : Line). with_line n before l (λ (qs : List Pause). lines_from (n + 1) qs (cut 10 (flat_map pause_text ps)))) (line_again p h.0)
    ∙ with_rival n before p (λ (qs : List Pause). lines_from (n + 1) qs (cut 10 (flat_map pause_text ps))) h.1
    ∙ lines_again (n + 1) (before ++ p ∷ []) ps h.2
    ∙ ap (λ (b : List Pause). Reads b) (append_assoc before (p ∷ []) ps)

pub plan_again : (ps : List Pause) → IsPlan ps → read_bytes (plan_text ps) ≡ Reads ps
plan_again ps h = ap read_lines (cut_at 10 (codes "kendo pauses 1") (flat_map pause_text ps) refl) ∙ lines_again 2 [] ps h
