-- What the core is after a goroutine's request was performed.
use Rattle.std.proofs.Common.{◌≡◌, ℕ, zero, suc, ◌+◌, ◌-◌, ◌<◌, ◌≤◌, ◌^◌, false, cond, List, [], ◌∷◌, ◌++◌, map, length, Option, Some, None, IfSome, refl, sym, ap, ◌∙◌, subst, inl, inr, arith, append_assoc, length-set, length-append, get_or-set_same, get_or-set_other}
use Rattle.std.specs.Prelude.{slice_index_or, slice_set, option_map, ◌==◌}
use Rattle.std.specs.Option.{is_some}
use Rattle.std.proofs.lemmas.Bool.{cases_lt, cases_eq, true≢false, eq-eqb, ne_eqb}
use Rattle.std.proofs.lemmas.List.{append-nil, get_or_past, get_or_append_left, get_or-append_right, set_past}
use Rattle.bytecode.specs.Code.{Code}
use Rattle.bytecode.specs.Machine.{Frames, code_begin, code_kind}
use Rattle.bytecode.specs.Rules.{IsVerified}
use Rattle.bytecode.proofs.Unstuck.{answer_keeps, begin_keeps}
use Rattle.channel_core.specs.Channels.{Others, shared_with}
use Rattle.goroutine_vm.specs.Advance.{IsStateOf}
use Rattle.turn_rule.specs.declared.Row.{Row}
use Rattle.turn_rule.specs.Turns.{Effect}
use Rattle.turn_rule.specs.Schedule.{perform_row, changed_rows, row_of}
use Rattle.word.specs.declared.value.Word.{Word}
use Rattle.word.specs.declared.request.Event.{Event as Recorded}
use Rattle.word.specs.Kinds.{at, told}
use Rattle.word.specs.Requests.{Deed, Fate, GoesOn, Dozes, Leaves, Stays, act, asked, meant}
use Rattle.word.specs.Values.{Request, Exhausted, Reply, Closed, Event, Sleeper}
use Rattle.word.specs.Views.{event_of}
use Rattle.word.specs.Worlds.{Bed, Rest, in_bed, rules, performs, effect, actor_after, beds_after, woken_by, begun_at}
use Rattle.word.proofs.Fair.{Fair, AllWake, AllStart, IsApart, Lies, fair}
use Rattle.word.proofs.Found.{In}
use Rattle.world_core_base.specs.Cores.{CodeMachine, CoreValue, IsCoreOf, LieIn, FitsCore, Once, Misses, IsAsked, Performs, shared_of, woken_rows, left_beds, actor_row, actor_beds, new_rows, new_places, core_after, most_woken}
use Rattle.awake_rows.specs.Slots.{State, Rows, Beds, FitsRow, FitsAll, FitsBeds, free_row}
use Rattle.world_core_base.proofs.Leases.{fits_set, free_fits}
use Rattle.world_core_base.proofs.Orderly.{Orderly, orderly, woken_numbers}
use Rattle.world_core_base.proofs.Starting.{StartsWithin, starts_within}

-- ---- beds

lies_at : (beds : Beds) (all : List (Bed Frames)) (ss : List Sleeper) (x : Sleeper) → LieIn beds all ss → In x ss → slice_index_or beds x.number None ≡ in_bed x.number all
lies_at beds all [] x h i = elim i [ ]
lies_at beds all (s ∷ ss) x h (inl e) = subst (λ (y : Sleeper). slice_index_or beds y.number None ≡ in_bed y.number all) (sym e) h.0
lies_at beds all (s ∷ ss) x h (inr i) = lies_at beds all ss x h.1 i

lie_each : (beds : Beds) (all : List (Bed Frames)) (ss : List Sleeper) → ((x : Sleeper) → In x ss → slice_index_or beds x.number None ≡ in_bed x.number all) → LieIn beds all ss
lie_each beds all [] h = tt
lie_each beds all (s ∷ ss) h = (h s (inl refl), lie_each beds all ss (λ x i. h x (inr i)))

left_at : (k : ℕ) (ws : List (ℕ × Reply)) (beds : Beds) → IsApart k ws → slice_index_or (left_beds beds ws) k None ≡ slice_index_or beds k None
left_at k [] beds h = refl
left_at k (w ∷ ws) beds h = left_at k ws (slice_set beds w.0 None) h.1 ∙ get_or-set_other beds w.0 k None None h.0

one_new : {A : Type 0} (beds : List (Option A)) (k : ℕ) → slice_index_or (beds ++ None ∷ []) k None ≡ slice_index_or beds k None
one_new [] zero = refl
one_new [] (suc k) = refl
one_new (b ∷ beds) zero = refl
one_new (b ∷ beds) (suc k) = one_new beds k

new_at : {A : Type 0} (k : ℕ) (xs : List (ℕ × List Word)) (beds : List (Option A)) → slice_index_or (new_places beds xs) k None ≡ slice_index_or beds k None
new_at k [] beds = refl
new_at k (x ∷ xs) beds = new_at k xs (beds ++ None ∷ []) ∙ one_new beds k

left_length : (ws : List (ℕ × Reply)) (beds : Beds) → length (left_beds beds ws) ≡ length beds
left_length [] beds = refl
left_length (w ∷ ws) beds = left_length ws (slice_set beds w.0 None) ∙ length-set beds w.0 None

new_length : {A : Type 0} (xs : List (ℕ × List Word)) (beds : List (Option A)) → length (new_places beds xs) ≡ length beds + length xs
new_length [] beds = omega arith
new_length (x ∷ xs) beds = let e = new_length xs (beds ++ None ∷ []) in let l = length-append beds (None ∷ []) in omega (arith, e, l)

actor_length : (beds : Beds) (n : ℕ) (s : State) (f : Fate) → length (actor_beds beds n s f) ≡ length beds
actor_length beds n s (GoesOn reply) = refl
actor_length beds n s Dozes = length-set beds n (Some s)
actor_length beds n s Leaves = refl
actor_length beds n s Stays = refl

-- only a goroutine that goes on wakes or starts others
abbrev pub Quiet : Fate → List (ℕ × Reply) → List (ℕ × List Word) → Type 0
Quiet (GoesOn reply) ws xs = Unit {0}
Quiet Dozes ws xs = (ws ≡ []) × (xs ≡ [])
Quiet Leaves ws xs = (ws ≡ []) × (xs ≡ [])
Quiet Stays ws xs = (ws ≡ []) × (xs ≡ [])

-- one that goes on does so at a later clock
abbrev pub Passes : Fate → Type 0
Passes (GoesOn reply) = Unit {0}
Passes Dozes = ⊥
Passes Leaves = ⊥
Passes Stays = ⊥

-- ---- rows

pub there : {A : Type 0} (xs : List (Option A)) (n : ℕ) (x : A) → slice_index_or xs n None ≡ Some x → n < length xs
there xs n x h = elim (cases_lt n (length xs)) [ inl l ↦ l | inr l ↦ let e = get_or_past xs n None l in absurd cc ]

module _ (code : Code) (limit : ℕ) where
  woken_length : (ws : List (ℕ × Reply)) (rows : Rows) (beds : Beds) (clock : ℕ) → length (woken_rows code rows beds clock ws) ≡ length rows
  woken_length [] rows beds clock = refl
  woken_length (w ∷ ws) rows beds clock = woken_length ws _ _ clock ∙ length-set rows w.0 _

  started_length : (xs : List (ℕ × List Word)) (rows : Rows) (clock : ℕ) → length (new_rows code rows clock xs) ≡ length rows + length xs
  started_length [] rows clock = omega arith
  started_length (x ∷ xs) rows clock =
      let new : Option (Row State) = Some (free_row (at clock (code_begin code x.0 x.1))) in
      let e = started_length xs (rows ++ new ∷ []) clock in
      let l = length-append rows (new ∷ []) in
      omega (arith, e, l)

  -- the started goroutines come after the others
  started_rows : (xs : List (ℕ × List Word)) (rows : Rows) (clock : ℕ) → rows ++ map (λ (t : State). Some (row_of (rules (code_kind code) limit) t)) (begun_at (code_kind code) limit clock xs) ≡ new_rows code rows clock xs
  started_rows [] rows clock = append-nil rows
  started_rows (x ∷ xs) rows clock =
      let new : Option (Row State) = Some (free_row (at clock (code_begin code x.0 x.1))) in
      sym (append_assoc rows (new ∷ []) (map (λ (t : State). Some (row_of (rules (code_kind code) limit) t)) (begun_at (code_kind code) limit clock xs))) ∙ started_rows xs (rows ++ new ∷ []) clock

  -- the beds of the woken goroutines are the ones that are kept
  abbrev Agree : Beds → List (Bed Frames) → List (ℕ × Reply) → Type 0
  Agree beds all [] = Unit {0}
  Agree beds all (w ∷ ws) = (slice_index_or beds w.0 None ≡ in_bed w.0 all) × Agree beds all ws

  agree_still : (n : ℕ) (beds : Beds) (all : List (Bed Frames)) (ws : List (ℕ × Reply)) → Misses n (woken_numbers ws) → Agree beds all ws → Agree (slice_set beds n None) all ws
  agree_still n beds all [] m h = tt
  agree_still n beds all (w ∷ ws) m h = (get_or-set_other beds n w.0 None None m.0 ∙ h.0, agree_still n beds all ws m.1 h.1)

  woken_is : (ws : List (ℕ × Reply)) (rows : Rows) (beds : Beds) (all : List (Bed Frames)) (clock : ℕ) → Once (woken_numbers ws) → Agree beds all ws → changed_rows (rules (code_kind code) limit) rows (woken_by (code_kind code) limit all clock ws) ≡ woken_rows code rows beds clock ws
  woken_is [] rows beds all clock once h = refl
  woken_is (w ∷ ws) rows beds all clock once h =
      let row : Option State → Option (Row State) = option_map (λ (s : State). free_row (told (code_kind code) s clock w.1)) in
      let same : option_map (row_of (rules (code_kind code) limit)) (option_map (λ (t : State). told (code_kind code) t clock w.1) (in_bed w.0 all)) ≡ row (slice_index_or beds w.0 None) = twice clock w.1 (in_bed w.0 all) ∙ ap row (sym h.0) in
      ap (λ (o : Option (Row State)). changed_rows (rules (code_kind code) limit) (slice_set rows w.0 o) (woken_by (code_kind code) limit all clock ws)) same
      ∙ woken_is ws (slice_set rows w.0 (row (slice_index_or beds w.0 None))) (slice_set beds w.0 None) all clock once.1 (agree_still w.0 beds all ws once.0 h.1)
    where
      twice : (clock : ℕ) (reply : Reply) (o : Option State) → option_map (row_of (rules (code_kind code) limit)) (option_map (λ (t : State). told (code_kind code) t clock reply) o) ≡ option_map (λ (s : State). free_row (told (code_kind code) s clock reply)) o
      twice clock reply None = refl
      twice clock reply (Some t) = refl

  agree_all : (beds : Beds) (all : List (Bed Frames)) (ss : List Sleeper) (ws : List (ℕ × Reply)) → LieIn beds all ss → AllWake ss ws → Agree beds all ws
  agree_all beds all ss [] h k = tt
  agree_all beds all ss (w ∷ ws) h k =
      let y = k.0.0 in
      (subst (λ n. slice_index_or beds n None ≡ in_bed n all) k.0.2 (lies_at beds all ss y h k.0.1), agree_all beds all ss ws h k.1)

  -- what performing goes on with
  abbrev with_effect : CodeMachine → Effect State (Rest Frames) → CodeMachine
  with_effect m e = record { rows = changed_rows (rules (code_kind code) limit) m.rows e.changes ++ map (λ (t : State). Some (row_of (rules (code_kind code) limit) t)) e.started; shared = e.shared }

  abbrev after_deed : CodeMachine → ℕ → State → Deed → CodeMachine
  after_deed m n s d = with_effect m (effect (code_kind code) limit m.shared n (s.clock + 1) s d)

  asked_deed : (core : CoreValue) (m : CodeMachine) (n clock : ℕ) (means : Request) (a : IsAsked code limit core n clock means) → IsCoreOf m core → perform_row (rules (code_kind code) limit) m n (slice_index_or m.rows n None) ≡ after_deed m n a.row.state (act (shared_of m) n clock means means)
  asked_deed core m n clock means a h =
      let s = a.row.state in
      let here : slice_index_or m.rows n None ≡ Some a.row = subst (λ (rows : Rows). slice_index_or rows n None ≡ Some a.row) h.rows a.here in
      let is : meant (shared_of m) n a.what ≡ means = ap (λ k. cond (k + 1 == 2 ^ 62) Exhausted (asked n a.what)) (sym h.events) ∙ sym a.meant in
      ap (λ (o : Option (Row State)). perform_row (rules (code_kind code) limit) m n o) here
      ∙ ap (λ (o : Option Request). with_effect m (performs (code_kind code) limit m.shared n s o)) a.request
      ∙ ap (λ (q : Request). after_deed m n s (act (shared_of m) n s.clock q q)) is
      ∙ ap (λ t. after_deed m n s (act (shared_of m) n t means means)) a.time

  actor_is : (n : ℕ) (s : State) (f : Fate) (all : List (Bed Frames)) (rows : Rows) (ws : List (ℕ × Option State)) → changed_rows (rules (code_kind code) limit) rows ((n, actor_after (code_kind code) limit (s.clock + 1) s f) ∷ ws) ≡ changed_rows (rules (code_kind code) limit) (slice_set rows n (actor_row code s (s.clock + 1) f)) ws
  actor_is n s (GoesOn reply) all rows ws = refl
  actor_is n s Dozes all rows ws = refl
  actor_is n s Leaves all rows ws = refl
  actor_is n s Stays all rows ws = refl

  agree_actor : (n : ℕ) (s : State) (f : Fate) (beds : Beds) (all : List (Bed Frames)) (ws : List (ℕ × Reply)) (xs : List (ℕ × List Word)) → Quiet f ws xs → Agree beds all ws → Agree (actor_beds beds n s f) all ws
  agree_actor n s (GoesOn reply) beds all ws xs q h = h
  agree_actor n s Dozes beds all ws xs q h = let e = q.0 in rw e tt
  agree_actor n s Leaves beds all ws xs q h = h
  agree_actor n s Stays beds all ws xs q h = h

  -- a deed leaves the rows of the core
  rows_after : (core : CoreValue) (m : CodeMachine) (n : ℕ) (s : State) (d : Deed) → IsCoreOf m core → AllWake core.channels.asleep d.woken → Once (woken_numbers d.woken) → Quiet d.fate d.woken d.started
      → (core_after code core n s d).rows ≡ (after_deed m n s d).rows
  rows_after core m n s d h woken once quiet =
      let rs = slice_set core.rows n (actor_row code s (s.clock + 1) d.fate) in
      let beds = actor_beds core.beds n s d.fate in
      let agree = agree_actor n s d.fate core.beds m.shared.beds d.woken d.started quiet (agree_all core.beds m.shared.beds core.channels.asleep d.woken h.beds woken) in
      sym (started_rows d.started (woken_rows code rs beds (s.clock + 1) d.woken) (s.clock + 1))
      ∙ ap (λ (rows : Rows). rows ++ map (λ (t : State). Some (row_of (rules (code_kind code) limit) t)) (begun_at (code_kind code) limit (s.clock + 1) d.started))
      (sym (woken_is d.woken rs beds m.shared.beds (s.clock + 1) once agree)
      ∙ sym (actor_is n s d.fate m.shared.beds core.rows (woken_by (code_kind code) limit m.shared.beds (s.clock + 1) d.woken))
      ∙ ap (λ (rows : Rows). changed_rows (rules (code_kind code) limit) rows ((n, actor_after (code_kind code) limit (s.clock + 1) s d.fate) ∷ woken_by (code_kind code) limit m.shared.beds (s.clock + 1) d.woken)) h.rows)

  -- the state of each sleeper is then in the `beds` that are kept
  beds_by : (n : ℕ) (s : State) (q : Request) (f : Fate) (beds : Beds) (all : List (Bed Frames)) (ss : List Sleeper) (x : Sleeper) → n < length beds → LieIn beds all ss → Lies ss n q f x → slice_index_or (actor_beds beds n s f) x.number None ≡ in_bed x.number (beds_after (code_kind code) limit all n s f)
  beds_by n s q (GoesOn reply) beds all ss x l h k = lies_at beds all ss x h k
  beds_by n s q Dozes beds all ss x l h (inl k) =
      get_or-set_other beds n x.number (Some s) None k.1 ∙ lies_at beds all ss x h k.0 ∙ ap (λ b. cond b (Some s) (in_bed x.number all)) (sym (ne_eqb n x.number (λ e. k.1 (sym e))))
  beds_by n s q Dozes beds all ss x l h (inr e) =
      ap (λ (y : Sleeper). slice_index_or (slice_set beds n (Some s)) y.number None) e ∙ get_or-set_same beds n (Some s) None l
      ∙ ap (λ b. cond b (Some s) (in_bed n all)) (sym (eq-eqb n n refl)) ∙ ap (λ (y : Sleeper). cond (n == y.number) (Some s) (in_bed y.number all)) (sym e)
  beds_by n s q Leaves beds all ss x l h k = lies_at beds all ss x h k
  beds_by n s q Stays beds all ss x l h k = lies_at beds all ss x h k

  beds_after_deed : (core : CoreValue) (m : CodeMachine) (n : ℕ) (s : State) (q : Request) (d : Deed) → IsCoreOf m core → n < length core.beds → Fair core.channels.asleep n q d → LieIn (core_after code core n s d).beds (after_deed m n s d).shared.beds d.shared.asleep
  beds_after_deed core m n s q d h l fair =
      lie_each _ _ d.shared.asleep (λ x i. new_at x.number d.started (left_beds (actor_beds core.beds n s d.fate) d.woken) ∙ left_at x.number d.woken (actor_beds core.beds n s d.fate) (fair.gone x i)
      ∙ beds_by n s q d.fate core.beds m.shared.beds core.channels.asleep x l h.beds (fair.asleep x i))

  -- ---- what is left fits

  told_fits : (s : State) (clock : ℕ) (reply : Reply) → IsVerified code → clock ≤ limit → IsStateOf code limit s → IsStateOf code limit (told (code_kind code) s clock reply)
  told_fits s clock reply v le h = go reply
    where
      go : (reply : Reply) → IsStateOf code limit (told (code_kind code) s clock reply)
      go Closed = record { frame = h.frame; clock = le; last = h.last }
      go reply = record { frame = answer_keeps code v s.state reply h.frame; clock = le; last = h.last }

  beds_set : (beds : Beds) (n : ℕ) (o : Option State) → FitsBeds code limit beds → IfSome o (λ s. IsStateOf code limit s) → FitsBeds code limit (slice_set beds n o)
  beds_set beds n o all fits k = elim (cases_eq k n) [
    | inl e ↦ elim (cases_lt n (length beds)) [
      | inl l ↦ subst (λ (p : Option State). IfSome p (λ s. IsStateOf code limit s)) (sym (ap (λ j. slice_index_or (slice_set beds n o) j None) e ∙ get_or-set_same beds n o None l)) fits
      | inr l ↦ subst (λ (ys : Beds). IfSome (slice_index_or ys k None) (λ s. IsStateOf code limit s)) (sym (set_past beds n o l)) (all k)
    ]
    | inr ne ↦ subst (λ (p : Option State). IfSome p (λ s. IsStateOf code limit s)) (sym (get_or-set_other beds n k o None ne)) (all k)
  ]

  woken_fits : (ws : List (ℕ × Reply)) (rows : Rows) (beds : Beds) (clock : ℕ) → IsVerified code → clock ≤ limit → FitsAll code limit rows → FitsBeds code limit beds → FitsAll code limit (woken_rows code rows beds clock ws) × FitsBeds code limit (left_beds beds ws)
  woken_fits [] rows beds clock v le h k = (h, k)
  woken_fits (w ∷ ws) rows beds clock v le h k = woken_fits ws _ (slice_set beds w.0 None) clock v le (fits_set code limit rows w.0 _ h (go (slice_index_or beds w.0 None) (k w.0))) (beds_set beds w.0 None k tt)
    where
      go : (o : Option State) → IfSome o (λ s. IsStateOf code limit s) → FitsRow code limit (option_map (λ (s : State). free_row (told (code_kind code) s clock w.1)) o)
      go None f = tt
      go (Some s) f = free_fits code limit (told (code_kind code) s clock w.1) (told_fits s clock w.1 v le f)

  -- the started goroutines run functions of the code
  abbrev AllWithin : List (ℕ × List Word) → Type 0
  AllWithin [] = Unit {0}
  AllWithin (x ∷ xs) = (x.0 < length code.functions) × AllWithin xs

  fits_back : (rows : Rows) (o : Option (Row State)) → FitsRow code limit o → FitsAll code limit rows → FitsAll code limit (rows ++ o ∷ [])
  fits_back rows o f h k = elim (cases_lt k (length rows)) [
    | inl l ↦ subst (FitsRow code limit) (sym (get_or_append_left rows (o ∷ []) None k l)) (h k)
    | inr l ↦ subst (FitsRow code limit) (sym (get_or-append_right rows (o ∷ []) (length rows) k None refl l)) (go (k - length rows))
  ]
    where
      go : (j : ℕ) → FitsRow code limit (slice_index_or (o ∷ []) j None)
      go zero = f
      go (suc j) = tt

  new_fits : (xs : List (ℕ × List Word)) (rows : Rows) (beds : Beds) (clock : ℕ) → IsVerified code → clock ≤ limit → limit ≤ 2 ^ 62 → AllWithin xs → FitsAll code limit rows → FitsBeds code limit beds → FitsAll code limit (new_rows code rows clock xs) × FitsBeds code limit (new_places beds xs)
  new_fits [] rows beds clock v le last w h k = (h, k)
  new_fits (x ∷ xs) rows beds clock v le last w h k =
      let s : State = at clock (code_begin code x.0 x.1) in
      let fits : IsStateOf code limit s = record { frame = begin_keeps code v x.0 x.1 w.0; clock = le; last = last } in
      new_fits xs (rows ++ Some (free_row s) ∷ []) (beds ++ None ∷ []) clock v le last w.1 (fits_back rows (Some (free_row s)) (free_fits code limit s fits) h) (λ j. subst (λ (o : Option State). IfSome o (λ t. IsStateOf code limit t)) (sym (one_new beds j)) (k j))

  -- ---- the request of a goroutine, whatever else is shared

  -- what is shared besides the channels of the core
  pub record Beside (core : CoreValue) (o : Others) : Type 0 where
    pub live : o.live ≡ core.live
    pub ending : o.ending ≡ core.ending
    pub made : length core.rows ≡ o.made + 1

  -- so the request means this deed, which leaves this core, with this event and these bytes
  pub record Left (core : CoreValue) (n clock : ℕ) (means : Request) (s : State) (o : Others) (event : Event) (bytes : List ℕ) (new : CoreValue) : Type 0 where
    pub deed : Deed
    pub is : act (shared_with o core.channels) n clock means means ≡ deed
    pub left : core_after code core n s deed ≡ new
    pub quiet : Quiet deed.fate deed.woken deed.started
    pub later : Passes deed.fate → clock < limit
    pub events : deed.shared.events ≡ o.events ++ event ∷ []
    pub output : deed.shared.output ≡ o.output ++ bytes

  abbrev pub LeavesAll : CoreValue → ℕ → ℕ → Request → State → Event → List ℕ → CoreValue → Type 0
  LeavesAll core n clock means s event bytes new = (o : Others) → Beside core o → Left core n clock means s o event bytes new

  left_core : (core : CoreValue) (m : CodeMachine) (n clock : ℕ) (means : Request) (s : State) (o : Others) (d : Deed) (event : Event) → IsCoreOf m core → FitsCore code limit core → n < length core.beds → (shared_of m).made ≡ o.made → length o.events ≡ core.events
      → Fair core.channels.asleep n means d → Orderly (shared_with o core.channels) (most_woken means core.channels.asleep) d → Quiet d.fate d.woken d.started → d.shared.events ≡ o.events ++ event ∷ [] → IsCoreOf (after_deed m n s d) (core_after code core n s d)
  left_core core m n clock means s o d event h fits l made count fair ord quiet events =
      let w = woken_length d.woken (slice_set core.rows n (actor_row code s (s.clock + 1) d.fate)) (actor_beds core.beds n s d.fate) (s.clock + 1) in
      let x = started_length d.started (woken_rows code (slice_set core.rows n (actor_row code s (s.clock + 1) d.fate)) (actor_beds core.beds n s d.fate) (s.clock + 1) d.woken) (s.clock + 1) in
      let y = length-set core.rows n (actor_row code s (s.clock + 1) d.fate) in
      let z = ord.made in
      let had = h.made in
      let grown = ap length events ∙ length-append o.events (event ∷ []) in
      record {
        rows = rows_after core m n s d h fair.woken (ord.woken fits.once) quiet;
        beds = beds_after_deed core m n s means d h l fair;
        channels = refl;
        asleep = refl;
        live = refl;
        made = omega (arith, w, x, y, z, had, made);
        events = omega (arith, grown, count);
        ending = refl;
      }

  -- goroutine n's request is performed in this world: this event, these bytes
  pub record Happens (m : CodeMachine) (n : ℕ) (event : Event) (bytes : List ℕ) (new : CoreValue) : Type 0 where
    pub core : IsCoreOf (perform_row (rules (code_kind code) limit) m n (slice_index_or m.rows n None)) new
    pub events : (shared_of (perform_row (rules (code_kind code) limit) m n (slice_index_or m.rows n None))).events ≡ (shared_of m).events ++ event ∷ []
    pub output : (shared_of (perform_row (rules (code_kind code) limit) m n (slice_index_or m.rows n None))).output ≡ (shared_of m).output ++ bytes

  pub happens_by : (core : CoreValue) (n clock : ℕ) (means : Request) (event : Event) (bytes : List ℕ) (new : CoreValue) (a : IsAsked code limit core n clock means) → FitsCore code limit core → LeavesAll core n clock means a.row.state event bytes new
      → (m : CodeMachine) → IsCoreOf m core → Happens m n event bytes new
  happens_by core n clock means event bytes new a fits all m h =
      let s = a.row.state in
      let w = shared_of m in
      let o : Others = record { output = w.output; live = w.live; made = w.made; events = w.events; ending = w.ending } in
      let g = all o (record { live = sym h.live; ending = sym h.ending; made = h.made }) in
      let shared : shared_with o core.channels ≡ w = ap (λ (ss : List Sleeper). record w { asleep = ss; channels = core.channels.channels }) h.asleep ∙ ap (λ cs. record w { channels = cs }) h.channels in
      let is : act w n clock means means ≡ g.deed = ap (λ x. act x n clock means means) (sym shared) ∙ g.is in
      let machine : perform_row (rules (code_kind code) limit) m n (slice_index_or m.rows n None) ≡ after_deed m n s g.deed = asked_deed core m n clock means a h ∙ ap (after_deed m n s) is in
      let fair' : Fair core.channels.asleep n means g.deed = subst (Fair core.channels.asleep n means) g.is (fair (shared_with o core.channels) n clock means) in
      let ord : Orderly (shared_with o core.channels) (most_woken means core.channels.asleep) g.deed = subst (Orderly (shared_with o core.channels) (most_woken means core.channels.asleep)) g.is (orderly (shared_with o core.channels) n clock means means) in
      let within = there core.rows n a.row a.here in
      let size = fits.size in
      let left = left_core core m n clock means s o g.deed event h fits (omega (arith, within, size)) refl (sym h.events) fair' ord g.quiet g.events in
      record {
        core = subst (λ x. IsCoreOf x new) (sym machine) (subst (λ x. IsCoreOf (after_deed m n s g.deed) x) g.left left);
        events = ap (λ x. (shared_of x).events) machine ∙ g.events;
        output = ap (λ x. (shared_of x).output) machine ∙ g.output;
      }

  pub performs_by : (core : CoreValue) (n clock : ℕ) (means : Request) (event : Recorded) (bytes : List ℕ) (new : CoreValue) (a : IsAsked code limit core n clock means) → FitsCore code limit core → LeavesAll core n clock means a.row.state (event_of event) bytes new → Performs code limit core n event bytes new
  performs_by core n clock means event bytes new a fits all m h =
      let x = happens_by core n clock means (event_of event) bytes new a fits all m h in
      record { core = x.core; events = x.events; output = x.output }

  within_started : (means : Request) (xs : List (ℕ × List Word)) → StartsWithin code means → AllStart means xs → AllWithin xs
  within_started means [] h k = tt
  within_started means (x ∷ xs) h k = (subst (StartsWithin code) k.0 h, within_started means xs h k.1)

  -- rows and beds after a deed, one that goes on being below the limit
  after_fits : (core : CoreValue) (n : ℕ) (s : State) (d : Deed) → IsVerified code → FitsCore code limit core → IsStateOf code limit s → (Passes d.fate → s.clock < limit) → Quiet d.fate d.woken d.started → AllWithin d.started
      → FitsAll code limit (core_after code core n s d).rows × FitsBeds code limit (core_after code core n s d).beds
  after_fits core n s d v fits h below quiet within = go d.fate d.woken d.started below quiet within
    where
      go : (f : Fate) (ws : List (ℕ × Reply)) (xs : List (ℕ × List Word)) → (Passes f → s.clock < limit) → Quiet f ws xs → AllWithin xs
          → FitsAll code limit (new_rows code (woken_rows code (slice_set core.rows n (actor_row code s (s.clock + 1) f)) (actor_beds core.beds n s f) (s.clock + 1) ws) (s.clock + 1) xs)
          × FitsBeds code limit (new_places (left_beds (actor_beds core.beds n s f) ws) xs)
      go (GoesOn reply) ws xs b q w =
          let l : s.clock + 1 ≤ limit = let k = b tt in omega (arith, k) in
          let first = fits_set code limit core.rows n (actor_row code s (s.clock + 1) (GoesOn reply)) fits.rows (free_fits code limit (told (code_kind code) s (s.clock + 1) reply) (told_fits s (s.clock + 1) reply v l h)) in
          let p = woken_fits ws (slice_set core.rows n (actor_row code s (s.clock + 1) (GoesOn reply))) core.beds (s.clock + 1) v l first fits.beds in
          new_fits xs _ _ (s.clock + 1) v l h.last w p.0 p.1
      go Dozes ws xs b q w = let e = q.0 in let x = q.1 in rw (e, x) (fits_set code limit core.rows n None fits.rows tt, beds_set core.beds n (Some s) fits.beds h)
      go Leaves ws xs b q w = let e = q.0 in let x = q.1 in rw (e, x) (fits_set code limit core.rows n None fits.rows tt, fits.beds)
      go Stays ws xs b q w = let e = q.0 in let x = q.1 in rw (e, x) (fits_set code limit core.rows n (Some (free_row s)) fits.rows (free_fits code limit s h), fits.beds)

  -- event number 2^62 ends the run
  below_last : (core : CoreValue) (n clock : ℕ) (means : Request) (s : State) (o : Others) (d : Deed) → IsAsked code limit core n clock means → act (shared_with o core.channels) n clock means means ≡ d → core.events < 2 ^ 62 → is_some d.shared.ending ≡ false → core.events + 1 < 2 ^ 62
  below_last core n clock means s o d a is more none = elim (cases_lt (core.events + 1) (2 ^ 62)) [
    | inl l ↦ l
    | inr l ↦
        let same : core.events + 1 ≡ 2 ^ 62 = omega (arith, l, more) in
        let last : means ≡ Exhausted = a.meant ∙ ap (λ b. cond b Exhausted (asked n a.what)) (eq-eqb (core.events + 1) (2 ^ 62) same) in
        absurd (true≢false (ap (λ q. is_some (act (shared_with o core.channels) n clock means q).shared.ending) (sym last) ∙ ap (λ (x : Deed). is_some x.shared.ending) is ∙ none))
  ]

  pub fits_by : (core : CoreValue) (n clock : ℕ) (means : Request) (event : Event) (bytes : List ℕ) (new : CoreValue) (a : IsAsked code limit core n clock means) → FitsCore code limit core → core.events < 2 ^ 62 → LeavesAll core n clock means a.row.state event bytes new → FitsCore code limit new
  fits_by core n clock means event bytes new a fits more all =
      let s = a.row.state in
      let within = there core.rows n a.row a.here in
      let o : Others = record { output = []; live = core.live; made = length core.rows - 1; events = []; ending = core.ending } in
      let g = all o (record { live = refl; ending = refl; made = omega (arith, within) }) in
      let d = g.deed in
      let fair' : Fair core.channels.asleep n means d = subst (Fair core.channels.asleep n means) g.is (fair (shared_with o core.channels) n clock means) in
      let ord : Orderly (shared_with o core.channels) (most_woken means core.channels.asleep) d = subst (Orderly (shared_with o core.channels) (most_woken means core.channels.asleep)) g.is (orderly (shared_with o core.channels) n clock means means) in
      let both = after_fits core n s d a.verified fits a.state (λ p. subst (λ c. c < limit) (sym a.time) (g.later p)) g.quiet (within_started means d.started (starts_within code limit core n clock means a) fair'.started) in
      let w = woken_length d.woken (slice_set core.rows n (actor_row code s (s.clock + 1) d.fate)) (actor_beds core.beds n s d.fate) (s.clock + 1) in
      let x = started_length d.started (woken_rows code (slice_set core.rows n (actor_row code s (s.clock + 1) d.fate)) (actor_beds core.beds n s d.fate) (s.clock + 1) d.woken) (s.clock + 1) in
      let y = length-set core.rows n (actor_row code s (s.clock + 1) d.fate) in
      let t = new_length d.started (left_beds (actor_beds core.beds n s d.fate) d.woken) in
      let u = left_length d.woken (actor_beds core.beds n s d.fate) in
      let z = actor_length core.beds n s d.fate in
      let size = fits.size in
      subst (FitsCore code limit) g.left (record {
        rows = both.0;
        beds = both.1;
        size = omega (arith, w, x, y, t, u, z, size);
        live = ord.live fits.live;
        once = ord.asleep fits.once;
        count = below_last core n clock means s o d a g.is more;
      })
