-- Names, and the numbers that are found by them.
use Rattle.std.proofs.Common.{◌≡◌, ℕ, zero, suc, ◌≤◌, ◌<◌, Bool, true, false, cond, inl, inr, ◌⊎◌, List, [], ◌∷◌, ◌++◌, Option, Some, None, option_map, slice_get, length, map, drop, take, refl, ap, ◌∙◌, sym, arith, bytes_eq, if◌then◌else◌}
use Rattle.std.proofs.lemmas.Option.{slice_get_within, same_Some}
use Rattle.std.proofs.lemmas.List.{map-append, length-map, take_all, take-append-le}
use Rattle.std.specs.Option.{is_some}
use Rattle.std.specs.Map.{update}
use denote.Ref.{Bor}
use Rattle.std.proofs.lemmas.Slice.Eq.{bytes_eq-Decides}
use Rattle.syntax.specs.View.{name_of}
use Rattle.syntax.specs.declared.node.Name.{Name}
use Rattle.type_table.specs.declared.visible.Entry.{Entry}
use Rattle.type_table.specs.Scopes.{Variable, later, last_named, number_of}
use Rattle.type_table.specs.Visible.{variable_of}
use Rattle.type_table.specs.Indexes.{later_place, last_place, entry_names}

abbrev pub names_in : List Variable → List (List ℕ)
names_in variables = map (λ (v : Variable). v.name) variables

-- ---- the last variable of a name is the one at the last index of the name

-- the index is that of the variable, if there is one
abbrev Agree : List Variable → Option ℕ → Option Variable → Type 0
Agree variables None None = Unit {0}
Agree variables None (Some v) = ⊥
Agree variables (Some place) None = ⊥
Agree variables (Some place) (Some v) = slice_get variables place ≡ Some v

agree_step : (v : Variable) (rest : List Variable) (first : Bool) (place : Option ℕ) (found : Option Variable) → Agree rest place found
    → Agree (v ∷ rest) (later_place (if first then Some 0 else None) (option_map suc place)) (later (if first then Some v else None) found)
agree_step v rest true None None h = refl
agree_step v rest false None None h = h
agree_step v rest first None (Some found) h = absurd h
agree_step v rest first (Some place) None h = absurd h
agree_step v rest first (Some place) (Some found) h = h

agree : (variables : List Variable) (name : List ℕ) → Agree variables (last_place (names_in variables) name) (last_named variables name)
agree [] name = tt
agree (v ∷ rest) name = agree_step v rest (bytes_eq v.name name) (last_place (names_in rest) name) (last_named rest name) (agree rest name)

-- the variable at the last index, if that is not among the first `count`
abbrev Following : List Variable → ℕ → Option ℕ → Option Variable → Type 0
Following variables count None found = found ≡ None
Following variables count (Some place) found = (count ≤ place → found ≡ slice_get variables place) × (place < count → found ≡ None)

after_none : (variables : List Variable) (place : Option ℕ) (found : Option Variable) → Agree variables place found → Following variables 0 place found
after_none variables None None h = refl
after_none variables None (Some v) h = absurd h
after_none variables (Some place) None h = absurd h
after_none variables (Some place) (Some v) h = (λ _. sym h, λ l. absurd (omega (arith, l)))

following_step : (v : Variable) (rest : List Variable) (count : ℕ) (first : Bool) (place : Option ℕ) (found : Option Variable) → Following rest count place found
    → Following (v ∷ rest) (suc count) (later_place (if first then Some 0 else None) (option_map suc place)) found
following_step v rest count true None found h = (λ l. absurd (omega (arith, l)), λ _. h)
following_step v rest count false None found h = h
following_step v rest count first (Some place) found h = (λ l. h.0 (omega (arith, l)), λ l. h.1 (omega (arith, l)))

following : (variables : List Variable) (count : ℕ) (name : List ℕ) → Following variables count (last_place (names_in variables) name) (last_named (drop count variables) name)
following [] zero name = refl
following [] (suc count) name = refl
following (v ∷ rest) zero name = after_none (v ∷ rest) _ _ (agree (v ∷ rest) name)
following (v ∷ rest) (suc count) name = following_step v rest count (bytes_eq v.name name) _ _ (following rest count name)

-- ---- the same of variables in memory

names_of_variables : (types : List (List ℕ)) (entries : List Entry) → names_in (map (variable_of types) entries) ≡ entry_names entries
names_of_variables types [] = refl
names_of_variables types (entry ∷ rest) = rw (names_of_variables types rest) refl

after_at : (variables : List Variable) (count : ℕ) (name : List ℕ) (found : Option ℕ) → last_place (names_in variables) name ≡ found → Following variables count found (last_named (drop count variables) name)
after_at variables count name found e = rw e at (following variables count name)

variables_after : (types : List (List ℕ)) (entries : List Entry) (count : ℕ) (name : List ℕ) (found : Option ℕ) → found ≡ last_place (entry_names entries) name
    → Following (map (variable_of types) entries) count found (last_named (drop count (map (variable_of types) entries)) name)
variables_after types entries count name found e = after_at (map (variable_of types) entries) count name found (rw (names_of_variables types entries, e) refl)

pub last_after : (types : List (List ℕ)) (entries : List Entry) (count : ℕ) (name : List ℕ) (place : ℕ) → Some place ≡ last_place (entry_names entries) name → count ≤ place
    → last_named (drop count (map (variable_of types) entries)) name ≡ slice_get (map (variable_of types) entries) place
last_after types entries count name place e l = (variables_after types entries count name (Some place) e).0 l

pub last_before : (types : List (List ℕ)) (entries : List Entry) (count : ℕ) (name : List ℕ) (place : ℕ) → Some place ≡ last_place (entry_names entries) name → place < count
    → last_named (drop count (map (variable_of types) entries)) name ≡ None
last_before types entries count name place e l = (variables_after types entries count name (Some place) e).1 l

pub last_nowhere : (types : List (List ℕ)) (entries : List Entry) (count : ℕ) (name : List ℕ) → None ≡ last_place (entry_names entries) name
    → last_named (drop count (map (variable_of types) entries)) name ≡ None
last_nowhere types entries count name e = variables_after types entries count name None e

-- ---- a name more, and a name less

same_name : (name : List ℕ) → bytes_eq name name ≡ true
same_name name = (bytes_eq-Decides name name).1 refl

last_step : (first same : Bool) (count : ℕ) (found : Option ℕ)
    → later_place (if first then Some 0 else None) (option_map suc (cond same (Some count) found))
    ≡ cond same (Some (suc count)) (later_place (if first then Some 0 else None) (option_map suc found))
last_step first true count found = refl
last_step first false count found = refl

-- the last index of a name is the new one, if the name is the new one
last_more : (names : List (List ℕ)) (new name : List ℕ) → last_place (names ++ new ∷ []) name ≡ cond (bytes_eq new name) (Some (length names)) (last_place names name)
last_more [] new name = refl
last_more (first ∷ rest) new name =
    ap (λ o. later_place (if bytes_eq first name then Some 0 else None) (option_map suc o)) (last_more rest new name)
    ∙ last_step (bytes_eq first name) (bytes_eq new name) (length rest) (last_place rest name)

less : (names : List (List ℕ)) (old name : List ℕ) (same : Bool) → bytes_eq old name ≡ same → cond same (last_place names old) (cond same (Some (length names)) (last_place names name)) ≡ last_place names name
less names old name true e = ap (last_place names) ((bytes_eq-Decides old name).0 e)
less names old name false e = refl

-- the last index of a name is the earlier one, if the last name is removed
last_less : (names : List (List ℕ)) (old name : List ℕ) → cond (bytes_eq old name) (last_place names old) (last_place (names ++ old ∷ []) name) ≡ last_place names name
last_less names old name = ap (cond (bytes_eq old name) (last_place names old)) (last_more names old name) ∙ less names old name (bytes_eq old name) refl

last_known : (names : List (List ℕ)) (old : List ℕ) → last_place (names ++ old ∷ []) old ≡ Some (length names)
last_known names old = last_more names old old ∙ ap (λ same. cond same (Some (length names)) (last_place names old)) (same_name old)

-- ---- the first of a name

-- the first of a name is the new one, if it has the name and none before has
abbrev or_new : Bool → ℕ → Option ℕ → Option ℕ
or_new same count None = if same then Some count else None
or_new same count (Some number) = Some number

or_new-suc : (same : Bool) (count : ℕ) (found : Option ℕ) → option_map suc (or_new same count found) ≡ or_new same (suc count) (option_map suc found)
or_new-suc true count None = refl
or_new-suc false count None = refl
or_new-suc same count (Some number) = refl

step_new : (first same : Bool) (count : ℕ) (found : Option ℕ) → (if first then Some 0 else option_map suc (or_new same count found)) ≡ or_new same (suc count) (if first then Some 0 else option_map suc found)
step_new true same count found = refl
step_new false same count found = or_new-suc same count found

number_more : (names : List (List ℕ)) (new name : List ℕ) → number_of (names ++ new ∷ []) name ≡ or_new (bytes_eq new name) (length names) (number_of names name)
number_more [] new name = refl
number_more (first ∷ rest) new name =
    ap (λ o. if bytes_eq first name then Some 0 else option_map suc o) (number_more rest new name)
    ∙ step_new (bytes_eq first name) (bytes_eq new name) (length rest) (number_of rest name)

known_again : (names : List (List ℕ)) (new name : List ℕ) (number : ℕ) → number_of names new ≡ Some number → (same : Bool) → bytes_eq new name ≡ same → or_new same (length names) (number_of names name) ≡ number_of names name
known_again names new name number e true s = rw (sym (ap (number_of names) ((bytes_eq-Decides new name).0 s)) ∙ e) refl
known_again names new name number e false s = or_nothing (number_of names name) where
  or_nothing : (found : Option ℕ) → or_new false (length names) found ≡ found
  or_nothing None = refl
  or_nothing (Some n) = refl

there : (found : Option ℕ) → is_some found ≡ true → (number : ℕ) × (found ≡ Some number)
there None e = absurd cc
there (Some number) e = (number, refl)

nowhere : (found : Option ℕ) → is_some found ≡ false → found ≡ None
nowhere None e = refl
nowhere (Some number) e = absurd cc

-- a name that is there already changes nothing
number_again : (names : List (List ℕ)) (new : List ℕ) → is_some (number_of names new) ≡ true → (name : List ℕ) → number_of (names ++ new ∷ []) name ≡ number_of names name
number_again names new e name =
    let found = there (number_of names new) e in
    number_more names new name ∙ known_again names new name found.0 found.1 (bytes_eq new name) refl

unknown_new : (names : List (List ℕ)) (new name : List ℕ) → number_of names new ≡ None → (same : Bool) → bytes_eq new name ≡ same → or_new same (length names) (number_of names name) ≡ cond same (Some (length names)) (number_of names name)
unknown_new names new name e true s = rw (sym (ap (number_of names) ((bytes_eq-Decides new name).0 s)) ∙ e) refl
unknown_new names new name e false s = or_nothing (number_of names name) where
  or_nothing : (found : Option ℕ) → or_new false (length names) found ≡ found
  or_nothing None = refl
  or_nothing (Some n) = refl

-- a name that is not there has the new number
number_new : (names : List (List ℕ)) (new : List ℕ) → is_some (number_of names new) ≡ false → (name : List ℕ) → number_of (names ++ new ∷ []) name ≡ cond (bytes_eq new name) (Some (length names)) (number_of names name)
number_new names new e name = number_more names new name ∙ unknown_new names new name (nowhere (number_of names new) e) (bytes_eq new name) refl

-- ---- names in memory

abbrev bytes_of : List (Bor Name) → List (List ℕ)
bytes_of names = map (λ (name : Bor Name). name_of name.now) names

bytes_more : (old new : List (Bor Name)) (name : Bor Name) → new ≡ old ++ name ∷ [] → bytes_of new ≡ bytes_of old ++ name_of name.now ∷ []
bytes_more old new name e = ap bytes_of e ∙ map-append (λ (one : Bor Name). name_of one.now) old (name ∷ [])

-- the index finds the names of a list
abbrev Indexes : (List ℕ → Option ℕ) → List (Bor Name) → Type 0
Indexes index names = (name : List ℕ) → index name ≡ number_of (bytes_of names) name

pub list_again : (old new : List (Bor Name)) (name : Bor Name) (index : List ℕ → Option ℕ) → new ≡ old ++ name ∷ [] → Indexes index old → is_some (index (name_of name.now)) ≡ true → Indexes index new
list_again old new name index e law known other =
    law other
    ∙ sym (number_again (bytes_of old) (name_of name.now) (ap is_some (sym (law (name_of name.now))) ∙ known) other)
    ∙ sym (ap (λ names. number_of names other) (bytes_more old new name e))

pub list_new : (old new : List (Bor Name)) (name : Bor Name) (index next : List ℕ → Option ℕ) → new ≡ old ++ name ∷ [] → Indexes index old → is_some (index (name_of name.now)) ≡ false
    → ((other : List ℕ) → next other ≡ update bytes_eq index (name_of name.now) (Some (length old)) other) → Indexes next new
list_new old new name index next e law unknown put other =
    put other
    ∙ ap (λ n. cond (bytes_eq (name_of name.now) other) (Some n) (index other)) (sym (length-map old (λ (one : Bor Name). name_of one.now)))
    ∙ ap (λ o. cond (bytes_eq (name_of name.now) other) (Some (length (bytes_of old))) o) (law other)
    ∙ sym (number_new (bytes_of old) (name_of name.now) (ap is_some (sym (law (name_of name.now))) ∙ unknown) other)
    ∙ sym (ap (λ names. number_of names other) (bytes_more old new name e))

-- ---- variables in memory

names_more : (old new : List Entry) (entry : Entry) → new ≡ old ++ entry ∷ [] → entry_names new ≡ entry_names old ++ name_of entry.name.now ∷ []
names_more old new entry e = ap entry_names e ∙ map-append (λ (one : Entry). name_of one.name.now) old (entry ∷ [])

count_names : (entries : List Entry) → length (entry_names entries) ≡ length entries
count_names entries = length-map entries (λ (one : Entry). name_of one.name.now)

-- the index finds the last one of each name
abbrev Finds : (List ℕ → Option ℕ) → List Entry → Type 0
Finds index entries = (name : List ℕ) → index name ≡ last_place (entry_names entries) name

-- each has the index of the one that it hides
abbrev Hides : List Entry → Type 0
Hides entries = (place : ℕ) (entry : Entry) → slice_get entries place ≡ Some entry → entry.hides ≡ last_place (take place (entry_names entries)) (name_of entry.name.now)

pub finds_more : (old new : List Entry) (entry : Entry) (index next : List ℕ → Option ℕ) → new ≡ old ++ entry ∷ [] → Finds index old
    → ((other : List ℕ) → next other ≡ update bytes_eq index (name_of entry.name.now) (Some (length old)) other) → Finds next new
finds_more old new entry index next e law put other =
    put other
    ∙ ap (λ n. cond (bytes_eq (name_of entry.name.now) other) (Some n) (index other)) (sym (count_names old))
    ∙ ap (λ o. cond (bytes_eq (name_of entry.name.now) other) (Some (length (entry_names old))) o) (law other)
    ∙ sym (last_more (entry_names old) (name_of entry.name.now) other)
    ∙ sym (ap (λ names. last_place names other) (names_more old new entry e))

get_more : (old : List Entry) (entry : Entry) (place : ℕ) (found : Entry) → slice_get (old ++ entry ∷ []) place ≡ Some found → (slice_get old place ≡ Some found) ⊎ ((place ≡ length old) × (entry ≡ found))
get_more [] entry zero found h = inr (refl, same_Some _ _ h)
get_more [] entry (suc place) found h = absurd cc
get_more (first ∷ old) entry zero found h = inl h
get_more (first ∷ old) entry (suc place) found h = elim (get_more old entry place found h) [ inl g ↦ inl g | inr g ↦ inr (ap suc g.0, g.1) ]

-- the names before an index are the same with a variable more
before_more : (old new : List Entry) (entry : Entry) (place : ℕ) → new ≡ old ++ entry ∷ [] → place ≤ length old → take place (entry_names new) ≡ take place (entry_names old)
before_more old new entry place e l =
    ap (take place) (names_more old new entry e) ∙ take-append-le place (entry_names old) (name_of entry.name.now ∷ []) (rw (count_names old) l)

all_before : (entries : List Entry) → take (length entries) (entry_names entries) ≡ entry_names entries
all_before entries = take_all (length entries) (entry_names entries) (rw (count_names entries) (omega arith))

pub hides_more : (old new : List Entry) (entry : Entry) → new ≡ old ++ entry ∷ [] → Hides old → entry.hides ≡ last_place (entry_names old) (name_of entry.name.now) → Hides new
hides_more old new entry e law own place found h = elim (get_more old entry place found (ap (λ l. slice_get l place) (sym e) ∙ h)) [
  | inl g ↦
      law place found g
      ∙ sym (ap (λ names. last_place names (name_of found.name.now)) (before_more old new entry place e (omega (arith, slice_get_within old place found g))))
  | inr g ↦
      rw (← g.1, g.0, before_more old new entry (length old) e (omega arith), all_before old) own
]

get_less : (old : List Entry) (entry : Entry) (place : ℕ) (found : Entry) → slice_get old place ≡ Some found → slice_get (old ++ entry ∷ []) place ≡ Some found
get_less [] entry place found h = absurd cc
get_less (first ∷ old) entry zero found h = h
get_less (first ∷ old) entry (suc place) found h = get_less old entry place found h

get_last : (old : List Entry) (entry : Entry) → slice_get (old ++ entry ∷ []) (length old) ≡ Some entry
get_last [] entry = refl
get_last (first ∷ old) entry = get_last old entry

pub hides_less : (rest all : List Entry) (entry : Entry) → all ≡ rest ++ entry ∷ [] → Hides all → Hides rest
hides_less rest all entry e law place found h =
    law place found (ap (λ l. slice_get l place) e ∙ get_less rest entry place found h)
    ∙ ap (λ names. last_place names (name_of found.name.now)) (before_more rest all entry place e (omega (arith, slice_get_within rest place found h)))

pub last_hides : (rest all : List Entry) (entry : Entry) → all ≡ rest ++ entry ∷ [] → Hides all → entry.hides ≡ last_place (entry_names rest) (name_of entry.name.now)
last_hides rest all entry e law =
    law (length rest) entry (ap (λ l. slice_get l (length rest)) e ∙ get_last rest entry)
    ∙ ap (λ names. last_place names (name_of entry.name.now)) (before_more rest all entry (length rest) e (omega arith) ∙ all_before rest)

pub finds_less : (rest all : List Entry) (entry : Entry) (index next : List ℕ → Option ℕ) → all ≡ rest ++ entry ∷ [] → Finds index all → Hides all
    → ((other : List ℕ) → next other ≡ update bytes_eq index (name_of entry.name.now) entry.hides other) → Finds next rest
finds_less rest all entry index next e law hidden put other =
    put other
    ∙ ap (λ o. cond (bytes_eq (name_of entry.name.now) other) o (index other)) (last_hides rest all entry e hidden)
    ∙ ap (λ o. cond (bytes_eq (name_of entry.name.now) other) (last_place (entry_names rest) (name_of entry.name.now)) o) (law other ∙ ap (λ names. last_place names other) (names_more rest all entry e))
    ∙ last_less (entry_names rest) (name_of entry.name.now) other

pub finds_last : (rest all : List Entry) (entry : Entry) (index : List ℕ → Option ℕ) → all ≡ rest ++ entry ∷ [] → Finds index all → index (name_of entry.name.now) ≡ Some (length (entry_names rest))
finds_last rest all entry index e law =
    law (name_of entry.name.now) ∙ ap (λ names. last_place names (name_of entry.name.now)) (names_more rest all entry e) ∙ last_known (entry_names rest) (name_of entry.name.now)
