-- What a call does to the rows and beds of numbers, by what it does to the item in a slot.
use Rattle.std.proofs.Common.{◌≡◌, ◌≢◌, ◌∙◌, ℕ, ◌+◌, ◌<◌, Bool, true, List, ◌∷◌, ◌++◌, [], length, take, drop, Option, Some, None, option_map, refl, ap, sym, subst, inl, inr, get_or-set_same}
use Rattle.std.specs.Prelude.{IfNone, IfOk, IfSome, IsSome, OnErr, Result, Ok, Err, slice_index_or, slice_set}
use Rattle.std.proofs.lemmas.List.{get_or_past, set-get_or, set-set, set_past}
use Rattle.std.proofs.lemmas.Option.{none-some}
use Rattle.std.proofs.lemmas.Bool.{cases_lt}
use Rattle.std.proofs.Math.ListN.{get_or-eq_default}
use Rattle.std.specs.Option.{is_some}
use Rattle.bytecode.specs.Code.{Code}
use Rattle.goroutine_vm_request.specs.declared.talks.Talk.{Talk}
use Rattle.slot_index.specs.Numbers.{IsInverse, Frees, Gives, Numbered, slot_of}
use Rattle.turn_rule.specs.declared.Row.{Row}
use Rattle.awake_rows.specs.declared.goroutine.Goroutine.{Goroutine}
use Rattle.awake_rows.specs.declared.goroutine.Goroutine.TheVariants.{Awake, Asleep}
use Rattle.awake_rows.specs.declared.orders.Orders.{Orders}
use Rattle.awake_rows.specs.Slots.{Beds, FitsRow, IsFreeIn, KeepsFloor, Rows, State, WorksIn, free_clock, free_row, is_asking, lent_row, talk_of_row}
use Rattle.awake_rows.specs.Living.{AreLiving, Grows, HaveGrown, HaveRoom, Items, Living, WorksAt, asleep_of, awake_of, lain_down, living_in, now_late, row_in, with_row, woken_up}
use Rattle.awake_rows.proofs.Kept.{Changes, bed_some, kept_changed, kept_ended, kept_grown, kept_started, living_changed, living_ended, living_grown, living_started, row_none, row_some, written_back}

awake_with : (f : Row State → Row State) (o : Option Goroutine) → awake_of (with_row f o) ≡ option_map f (awake_of o)
awake_with f None = refl
awake_with f (Some (Awake row)) = refl
awake_with f (Some (Asleep state)) = refl

asleep_with : (f : Row State → Row State) (o : Option Goroutine) → asleep_of (with_row f o) ≡ asleep_of o
asleep_with f None = refl
asleep_with f (Some (Awake row)) = refl
asleep_with f (Some (Asleep state)) = refl

awake_down : (o : Option Goroutine) → awake_of (lain_down o) ≡ None
awake_down None = refl
awake_down (Some (Awake row)) = refl
awake_down (Some (Asleep state)) = refl

asleep_down : (o : Option Goroutine) → IsSome (awake_of o) → asleep_of (lain_down o) ≡ option_map (λ (row : Row State). row.state) (awake_of o)
asleep_down None h = absurd cc
asleep_down (Some (Awake row)) h = refl
asleep_down (Some (Asleep state)) h = absurd cc

awake_up : (f : State → State) (o : Option Goroutine) → IsSome (asleep_of o) → awake_of (woken_up f o) ≡ option_map (λ (s : State). free_row (f s)) (asleep_of o)
awake_up f None h = absurd cc
awake_up f (Some (Awake row)) h = absurd cc
awake_up f (Some (Asleep state)) h = refl

asleep_up : (f : State → State) (o : Option Goroutine) → asleep_of (woken_up f o) ≡ None
asleep_up f None = refl
asleep_up f (Some (Awake row)) = refl
asleep_up f (Some (Asleep state)) = refl

-- what a slot holds stays a goroutine
pub some_with : (f : Row State → Row State) (o : Option Goroutine) → IsSome o → IsSome (with_row f o)
some_with f None h = absurd cc
some_with f (Some (Awake row)) h = refl
some_with f (Some (Asleep state)) h = refl

pub some_down : (o : Option Goroutine) → IsSome o → IsSome (lain_down o)
some_down None h = absurd cc
some_down (Some (Awake row)) h = refl
some_down (Some (Asleep state)) h = refl

pub some_up : (f : State → State) (o : Option Goroutine) → IsSome o → IsSome (woken_up f o)
some_up f None h = absurd cc
some_up f (Some (Awake row)) h = refl
some_up f (Some (Asleep state)) h = refl

pub awake_not_asleep : (o : Option Goroutine) → IsSome (awake_of o) → asleep_of o ≡ None
awake_not_asleep None h = absurd cc
awake_not_asleep (Some (Awake row)) h = refl
awake_not_asleep (Some (Asleep state)) h = absurd cc

pub some_not_none : {A : Type 0} (o : Option A) → IsSome o → o ≡ None → ⊥
some_not_none None h e = absurd cc
some_not_none (Some x) h e = absurd cc

-- what a reference shows is there
pub some_there : {A B : Type 0} (r : Option A) (show : A → B) (o : Option B) → is_some r ≡ true → IfSome r (λ x. o ≡ Some (show x)) → IsSome o
some_there None show o h e = absurd cc
some_there (Some x) show o h e = ap is_some e

is_within : {A : Type 0} (xs : List (Option A)) (n : ℕ) → (slice_index_or xs n None ≡ None → ⊥) → n < length xs
is_within xs n h = elim (cases_lt n (length xs)) [ inl l ↦ l | inr l ↦ absurd (h (get_or_past xs n None l)) ]

set_fits : (code : Code) (limit : ℕ) (rows : Rows) (n : ℕ) (row : Option (Row State)) → FitsRow code limit row → FitsRow code limit (slice_index_or (slice_set rows n row) n None)
set_fits code limit rows n row h = elim (cases_lt n (length rows)) [
  | inl l ↦ subst (λ (o : Option (Row State)). FitsRow code limit o) (sym (get_or-set_same rows n row None l)) h
  | inr l ↦ subst (λ (o : Option (Row State)). FitsRow code limit o) (sym (ap (λ (xs : Rows). slice_index_or xs n None) (set_past rows n row l) ∙ get_or-eq_default rows None l)) tt
]

module _ (count : ℕ) (slots : Numbered) (items : Items) (orders : Orders) (all : AreLiving count slots items orders) (n : ℕ) where
  abbrev rows : Rows
  rows = (living_in count slots items).rows

  abbrev beds : Beds
  beds = (living_in count slots items).beds

  -- nothing changes if no goroutine has the number n
  pub none_changes : (f : Row State → Row State) → slot_of slots n ≡ None → living_in count slots items ≡ record { rows = slice_set rows n (option_map f (slice_index_or rows n None)); beds = beds }
  none_changes f e =
      let none = row_none count slots items orders all n e in
      let same : slice_set rows n (option_map f (slice_index_or rows n None)) ≡ rows = ap (λ (o : Option (Row State)). slice_set rows n (option_map f o)) none ∙ ap (λ (o : Option (Row State)). slice_set rows n o) (sym none) ∙ set-get_or rows n None in
      λ i. record { rows = sym same i; beds = beds }

  -- setting `None` at an index that has `None`
  pub none_set : slice_index_or rows n None ≡ None → slice_set rows n None ≡ rows
  none_set none = ap (λ (o : Option (Row State)). slice_set rows n o) (sym none) ∙ set-get_or rows n None

  pub none_lies : slice_index_or beds n None ≡ None → slice_set beds n None ≡ beds
  none_lies none = ap (λ (o : Option State). slice_set beds n o) (sym none) ∙ set-get_or beds n None

  module _ (s : ℕ) (has : slot_of slots n ≡ Some s) (given : Items) (same : given ≡ items) where
    -- the row in a slot is that of its number
    pub row_given : slice_index_or rows n None ≡ row_in given s
    row_given = row_some count slots items orders all n s has ∙ ap (λ (xs : Items). row_in xs s) (sym same)

    pub bed_given : slice_index_or beds n None ≡ asleep_of (slice_index_or given s None)
    bed_given = bed_some count slots items orders all n s has ∙ ap (λ (xs : Items). asleep_of (slice_index_or xs s None)) (sym same)

    -- a goroutine that is awake has `None` in `beds`
    pub bed_of_awake : IsSome (slice_index_or rows n None) → slice_index_or beds n None ≡ None
    bed_of_awake h = bed_given ∙ awake_not_asleep (slice_index_or given s None) (subst (λ (o : Option (Row State)). IsSome o) row_given h)

    module _ (len : ℕ) (size : len ≡ length items) (item : Option Goroutine) (changed : Items) (set : changed ≡ slice_set given s item) where
      abbrev new : Items
      new = take len (changed ++ drop (length changed) items)

      changes : Changes items s item new
      changes = written_back items given changed len s item (all.within n s has) size same set

      -- the one that has it is late
      pub kept_set : (seen : Items) (after : Orders) → seen ≡ new → (s ≡ orders.late → after ≡ orders) → (s ≢ orders.late → after ≡ now_late orders slots seen s) → IfSome (row_in seen s) KeepsFloor
          → (IsSome (slice_index_or given s None) → IsSome item) → AreLiving count slots new after
      kept_set seen after see kept moved floor there = kept_changed count slots items orders all n s has item new changes (there (subst (λ (xs : Items). IsSome (slice_index_or xs s None)) (sym same) (all.taken n s has))) after (record {
        same = kept;
        other = λ ne. moved ne ∙ ap (λ (xs : Items). now_late orders slots xs s) see;
        floor = subst (λ (xs : Items). IfSome (row_in xs s) KeepsFloor) see floor;
      })

      pub living_set : living_in count slots new ≡ record { rows = slice_set rows n (awake_of item); beds = slice_set beds n (asleep_of item) }
      living_set = living_changed count slots items orders all n s has item new changes

      -- one that is awake stays awake
      pub row_put : (row : Row State) → item ≡ Some (Awake row) → slice_index_or beds n None ≡ None → living_in count slots new ≡ record { rows = slice_set rows n (Some row); beds = beds }
      row_put row is none =
          let r : slice_set rows n (awake_of item) ≡ slice_set rows n (Some row) = ap (λ (o : Option Goroutine). slice_set rows n (awake_of o)) is in
          let b : slice_set beds n (asleep_of item) ≡ beds = ap (λ (o : Option Goroutine). slice_set beds n (asleep_of o)) is ∙ none_lies none in
          living_set ∙ (λ i. record { rows = r i; beds = b i })

      -- its row changes, if it is awake
      pub row_set : (f : Row State → Row State) → item ≡ with_row f (slice_index_or given s None) → living_in count slots new ≡ record { rows = slice_set rows n (option_map f (slice_index_or rows n None)); beds = beds }
      row_set f is =
          let r : awake_of item ≡ option_map f (slice_index_or rows n None) = ap awake_of is ∙ awake_with f (slice_index_or given s None) ∙ ap (option_map f) (sym row_given) in
          let b : asleep_of item ≡ slice_index_or beds n None = ap asleep_of is ∙ asleep_with f (slice_index_or given s None) ∙ sym bed_given in
          let beds_same : slice_set beds n (asleep_of item) ≡ beds = ap (λ (o : Option State). slice_set beds n o) b ∙ set-get_or beds n None in
          living_set ∙ (λ i. record { rows = slice_set rows n (r i); beds = beds_same i })

      -- nothing changes
      pub same_set : item ≡ slice_index_or given s None → living_in count slots new ≡ living_in count slots items
      same_set is =
          let r : slice_set rows n (awake_of item) ≡ rows = ap (λ (o : Option (Row State)). slice_set rows n o) (ap awake_of is ∙ sym row_given) ∙ set-get_or rows n None in
          let b : slice_set beds n (asleep_of item) ≡ beds = ap (λ (o : Option State). slice_set beds n o) (ap asleep_of is ∙ sym bed_given) ∙ set-get_or beds n None in
          living_set ∙ (λ i. record { rows = r i; beds = b i })

      -- it falls asleep
      pub down_set : IsSome (row_in given s) → item ≡ lain_down (slice_index_or given s None) → living_in count slots new ≡ record { rows = slice_set rows n None; beds = slice_set beds n (option_map (λ (row : Row State). row.state) (slice_index_or rows n None)) }
      down_set awake is =
          let r : awake_of item ≡ None = ap awake_of is ∙ awake_down (slice_index_or given s None) in
          let b : asleep_of item ≡ option_map (λ (row : Row State). row.state) (slice_index_or rows n None) = ap asleep_of is ∙ asleep_down (slice_index_or given s None) awake ∙ ap (option_map (λ (row : Row State). row.state)) (sym row_given) in
          living_set ∙ (λ i. record { rows = slice_set rows n (r i); beds = slice_set beds n (b i) })

      -- it gets up
      pub up_set : (f : State → State) → IsSome (asleep_of (slice_index_or given s None)) → item ≡ woken_up f (slice_index_or given s None) → living_in count slots new ≡ record { rows = slice_set rows n (option_map (λ (t : State). free_row (f t)) (slice_index_or beds n None)); beds = slice_set beds n None }
      up_set f asleep is =
          let r : awake_of item ≡ option_map (λ (t : State). free_row (f t)) (slice_index_or beds n None) = ap awake_of is ∙ awake_up f (slice_index_or given s None) asleep ∙ ap (option_map (λ (t : State). free_row (f t))) (sym bed_given) in
          let b : asleep_of item ≡ None = ap asleep_of is ∙ asleep_up f (slice_index_or given s None) in
          living_set ∙ (λ i. record { rows = slice_set rows n (r i); beds = slice_set beds n (b i) })

    -- one that is awake has ended
    module _ (len : ℕ) (size : len ≡ length items) (changed : Items) (set : changed ≡ slice_set given s None) (slots' : Numbered) (inverse' : IsInverse slots') (frees : Frees slots n slots') where
      pub kept_end : (seen : Items) (after : Orders) → seen ≡ take len (changed ++ drop (length changed) items) → (s ≡ orders.late → after ≡ orders) → (s ≢ orders.late → after ≡ now_late orders slots' seen s) → IfSome (row_in seen s) KeepsFloor
          → AreLiving count slots' (take len (changed ++ drop (length changed) items)) after
      kept_end seen after see kept moved floor =
          let c = written_back items given changed len s None (all.within n s has) size same set in
          kept_ended count slots items orders all n s has None (take len (changed ++ drop (length changed) items)) c slots' inverse' frees refl after (record {
            same = kept;
            other = λ ne. moved ne ∙ ap (λ (xs : Items). now_late orders slots' xs s) see;
            floor = subst (λ (xs : Items). IfSome (row_in xs s) KeepsFloor) see floor;
          })

      pub end_set : IsSome (slice_index_or rows n None) → living_in count slots' (take len (changed ++ drop (length changed) items)) ≡ record { rows = slice_set rows n None; beds = beds }
      end_set awake =
          let c = written_back items given changed len s None (all.within n s has) size same set in
          let b = none_lies (bed_of_awake awake) in
          living_ended count slots items orders all n s has None (take len (changed ++ drop (length changed) items)) c slots' inverse' frees refl ∙ (λ i. record { rows = slice_set rows n None; beds = b i })

    -- one is lent, or none is
    module _ (len : ℕ) (size : len ≡ length items) (changed : Items) where
      pub lent_none : (r : Option State) → IfNone r ((free_clock (row_in given s) ≡ None) × (changed ≡ given)) → IfNone r ((free_clock (slice_index_or rows n None) ≡ None) × (living_in count slots (take len (changed ++ drop (length changed) items)) ≡ living_in count slots items))
      lent_none None h = (ap free_clock row_given ∙ h.0, same_set len size (slice_index_or given s None) changed (h.1 ∙ sym (set-get_or given s None)) refl)
      lent_none (Some t) h = tt

      pub lent_some : (r : Option State) → IfSome r (λ t. (row_in given s ≡ Some (free_row t)) × (changed ≡ slice_set given s (Some (Awake (lent_row t)))))
          → IfSome r (λ t. IsFreeIn rows n t × (living_in count slots (take len (changed ++ drop (length changed) items)) ≡ record { rows = slice_set rows n (Some (lent_row t)); beds = beds }))
      lent_some None h = tt
      lent_some (Some t) h =
          let free : slice_index_or rows n None ≡ Some (free_row t) = row_given ∙ h.0 in
          (free, row_put len size (Some (Awake (lent_row t))) changed h.1 (lent_row t) refl (bed_of_awake (ap is_some free)))

      -- one makes local steps in its slot
      pub works : (code : Code) (limit quantum : ℕ) (answer : Option Bool) → WorksAt code limit quantum given s answer changed
          → WorksIn code limit quantum rows n answer (living_in count slots (take len (changed ++ drop (length changed) items))).rows
          × (living_in count slots (take len (changed ++ drop (length changed) items)) ≡ record { rows = (living_in count slots (take len (changed ++ drop (length changed) items))).rows; beds = beds })
      works code limit quantum answer h =
          let free : slice_index_or rows n None ≡ Some (free_row h.0) = row_given ∙ h.2 in
          let put = row_put len size (Some (Awake h.1)) changed h.4 h.1 refl (bed_of_awake (ap is_some free)) in
          ((h.0, h.1, free, h.3, ap (λ (l : Living). l.rows) put), put ∙ (λ i. record { rows = sym (ap (λ (l : Living). l.rows) put) i; beds = beds }))

      -- `asks x` is whether it is then at a request
      pub works_ok : {A E : Type 0} (asks : A → Bool) (code : Code) (limit quantum : ℕ) (r : Result A E) → IfOk r (λ x. WorksAt code limit quantum given s (Some (asks x)) changed)
          → IfOk r (λ x. WorksIn code limit quantum rows n (Some (asks x)) (living_in count slots (take len (changed ++ drop (length changed) items))).rows)
      works_ok {A} {E} asks code limit quantum (Ok x) h = (works code limit quantum (Some (asks x)) h).0
      works_ok {A} {E} asks code limit quantum (Err e) h = tt

      pub works_err : {A E : Type 0} (code : Code) (limit quantum : ℕ) (r : Result A E) → OnErr r (WorksAt code limit quantum given s None changed)
          → OnErr r (WorksIn code limit quantum rows n None (living_in count slots (take len (changed ++ drop (length changed) items))).rows)
      works_err {A} {E} code limit quantum (Ok x) h = tt
      works_err {A} {E} code limit quantum (Err e) h = (works code limit quantum None h).0

      pub works_rest : {A E : Type 0} (asks : A → Bool) (code : Code) (limit quantum : ℕ) (r : Result A E) → IfOk r (λ x. WorksAt code limit quantum given s (Some (asks x)) changed) → OnErr r (WorksAt code limit quantum given s None changed)
          → living_in count slots (take len (changed ++ drop (length changed) items)) ≡ record { rows = (living_in count slots (take len (changed ++ drop (length changed) items))).rows; beds = beds }
      works_rest {A} {E} asks code limit quantum (Ok x) h k = (works code limit quantum (Some (asks x)) h).1
      works_rest {A} {E} asks code limit quantum (Err e) h k = (works code limit quantum None k).1

      -- the talk of the one in the slot is that of its number
      pub talks_ok : {E : Type 0} (code : Code) (limit quantum : ℕ) (r : Result Talk E) → IfOk r (λ talk. WorksAt code limit quantum given s (Some (is_asking talk)) changed) → IfOk r (λ talk. talk ≡ talk_of_row code limit (row_in changed s))
          → IfOk r (λ talk. talk ≡ talk_of_row code limit (slice_index_or (living_in count slots (take len (changed ++ drop (length changed) items))).rows n None))
      talks_ok {E} code limit quantum (Ok talk) h is =
          let free : slice_index_or rows n None ≡ Some (free_row h.0) = row_given ∙ h.2 in
          let put = row_put len size (Some (Awake h.1)) changed h.4 h.1 refl (bed_of_awake (ap is_some free)) in
          let in_slot : row_in changed s ≡ Some h.1 = ap (λ (xs : Items). row_in xs s) h.4 ∙ ap awake_of (get_or-set_same given s (Some (Awake h.1)) None (is_within given s (λ (none : slice_index_or given s None ≡ None). none-some (free_row h.0) (sym (ap awake_of none) ∙ h.2)))) in
          let of_number : slice_index_or (living_in count slots (take len (changed ++ drop (length changed) items))).rows n None ≡ Some h.1 =
          ap (λ (l : Living). slice_index_or l.rows n None) put ∙ get_or-set_same rows n (Some h.1) None (is_within rows n (λ (none : slice_index_or rows n None ≡ None). none-some (free_row h.0) (sym none ∙ free))) in
          is ∙ ap (talk_of_row code limit) (in_slot ∙ sym of_number)
      talks_ok {E} code limit quantum (Err e) h is = tt

    -- a step keeps what fits
    pub step_fits : (code : Code) (limit : ℕ) (f : Row State → Row State) → FitsRow code limit (awake_of (with_row f (slice_index_or given s None))) → FitsRow code limit (slice_index_or (slice_set rows n (option_map f (slice_index_or rows n None))) n None)
    step_fits code limit f h = set_fits code limit rows n (option_map f (slice_index_or rows n None)) (subst (λ (o : Option (Row State)). FitsRow code limit o) (awake_with f (slice_index_or given s None) ∙ ap (option_map f) (sym row_given)) h)

  pub none_fits : (code : Code) (limit : ℕ) (f : Row State → Row State) → slot_of slots n ≡ None → FitsRow code limit (slice_index_or (slice_set rows n (option_map f (slice_index_or rows n None))) n None)
  none_fits code limit f e =
      let none : None ≡ option_map f (slice_index_or rows n None) = sym (ap (option_map f) (row_none count slots items orders all n e)) in
      set_fits code limit rows n (option_map f (slice_index_or rows n None)) (subst (λ (o : Option (Row State)). FitsRow code limit o) none tt)

-- ---- a goroutine is started

module _ (count : ℕ) (slots : Numbered) (items : Items) (orders : Orders) (all : AreLiving count slots items orders) (grown : Orders) (more : Items) (g : HaveGrown orders grown) (h : Grows items more) (r : HaveRoom grown (length more)) (slots' : Numbered) (inverse' : IsInverse slots')
    (s : ℕ) (gives : Gives slots count s slots') (within : s < length more) (given changed : Items) (same : given ≡ more) (len : ℕ) (size : len ≡ length more) (item : Option Goroutine) (set : changed ≡ slice_set given s item) where
  start_all : AreLiving count slots more grown
  start_all = kept_grown count slots items orders all slots.room grown more g h r

  start_changes : Changes more s item (take len (changed ++ drop (length changed) more))
  start_changes = written_back more given changed len s item within size same set

  pub kept_start : (seen : Items) (after : Orders) → seen ≡ take len (changed ++ drop (length changed) more) → (s ≡ grown.late → after ≡ grown) → (s ≢ grown.late → after ≡ now_late grown slots' seen s) → IfSome (row_in seen s) KeepsFloor
      → IsSome item → AreLiving (count + 1) slots' (take len (changed ++ drop (length changed) more)) after
  kept_start seen after see kept moved floor there = kept_started count slots more grown start_all slots' inverse' s gives item (take len (changed ++ drop (length changed) more)) start_changes within there after (record {
    same = kept;
    other = λ ne. moved ne ∙ ap (λ (xs : Items). now_late grown slots' xs s) see;
    floor = subst (λ (xs : Items). IfSome (row_in xs s) KeepsFloor) see floor;
  })

  pub start_set : (row : Row State) → item ≡ Some (Awake row) → living_in (count + 1) slots' (take len (changed ++ drop (length changed) more)) ≡ record { rows = (living_in count slots items).rows ++ Some row ∷ []; beds = (living_in count slots items).beds ++ None ∷ [] }
  start_set row is =
      let started = living_started count slots more grown start_all slots' inverse' s gives item (take len (changed ++ drop (length changed) more)) start_changes within in
      let was = living_grown count slots items orders all slots.room grown more g h r in
      started ∙ (λ i. record { rows = (was i).rows ++ awake_of (is i) ∷ []; beds = (was i).beds ++ asleep_of (is i) ∷ [] })

-- ---- in a slot

pub lies_down : (items taken put : Items) (s : ℕ) (row : Row State) (state : State) → taken ≡ slice_set items s None → put ≡ slice_set taken s (Some (Asleep state)) → Some (Awake row) ≡ slice_index_or items s None → state ≡ row.state
    → put ≡ slice_set items s (lain_down (slice_index_or items s None))
lies_down items taken put s row state t p is e =
    let here : Some (Asleep state) ≡ lain_down (slice_index_or items s None) = ap (λ (x : State). Some (Asleep x)) e ∙ ap lain_down is in
    p ∙ ap (λ (xs : Items). slice_set xs s (Some (Asleep state))) t ∙ set-set items s None (Some (Asleep state)) ∙ ap (λ (o : Option Goroutine). slice_set items s o) here

pub gets_up : (f : State → State) (items taken put : Items) (s : ℕ) (state : State) (row : Row State) → taken ≡ slice_set items s None → put ≡ slice_set taken s (Some (Awake row)) → Some (Asleep state) ≡ slice_index_or items s None → row ≡ free_row (f state)
    → put ≡ slice_set items s (woken_up f (slice_index_or items s None))
gets_up f items taken put s state row t p is e =
    let here : Some (Awake row) ≡ woken_up f (slice_index_or items s None) = ap (λ (x : Row State). Some (Awake x)) e ∙ ap (woken_up f) is in
    p ∙ ap (λ (xs : Items). slice_set xs s (Some (Awake row))) t ∙ set-set items s None (Some (Awake row)) ∙ ap (λ (o : Option Goroutine). slice_set items s o) here

-- ---- if one is lent, or works

-- one that is lent, or none is
pub lent_at : (o : Option State) (given changed : Items) (s : ℕ) (C : Type 0) → IfNone o (C × (changed ≡ given)) → IfSome o (λ t. (row_in given s ≡ Some (free_row t)) × (changed ≡ slice_set given s (Some (Awake (lent_row t))))) → (item : Option Goroutine) × (changed ≡ slice_set given s item) × (IsSome (slice_index_or given s None) → IsSome item)
lent_at None given changed s C none some = (slice_index_or given s None, none.1 ∙ sym (set-get_or given s None), λ h. h)
lent_at (Some t) given changed s C none some = (Some (Awake (lent_row t)), some.1, λ h. refl)

pub worked_at : {A E : Type 0} (asks : A → Bool) (code : Code) (limit quantum : ℕ) (given changed : Items) (s : ℕ) (r : Result A E) → IfOk r (λ x. WorksAt code limit quantum given s (Some (asks x)) changed) → OnErr r (WorksAt code limit quantum given s None changed)
    → (row : Row State) × (changed ≡ slice_set given s (Some (Awake row)))
worked_at {A} {E} asks code limit quantum given changed s (Ok x) ok err = (ok.1, ok.4)
worked_at {A} {E} asks code limit quantum given changed s (Err e) ok err = (err.1, err.4)
