-- A move in memory is a move of the world.
use Rattle.std.proofs.Common.{◌≡◌, ◌≢◌, ℕ, zero, suc, ◌+◌, Bool, false, cond, List, [], ◌∷◌, ◌++◌, map, Option, Some, None, refl, sym, ap, ◌∙◌, subst, inl, inr, ◌⊎◌, append-nil}
use Rattle.std.specs.Prelude.{◌==◌, slice_index_or, slice_set}
use Rattle.std.specs.Option.{is_some}
use Rattle.std.proofs.lemmas.Bool.{eq-eqb, ne_eqb}
use Rattle.std.proofs.lemmas.List.{map-append, set-get_or}
use Rattle.logical_clock.specs.declared.key.Key.{Key}
use Rattle.reference_world.specs.Deeds.{IsShownBy, SharedValue, deed_of, history_of}
use Rattle.reference_world.specs.declared.deed.Deed.{Deed as Did}
use Rattle.reference_world.specs.declared.deed.Deed.TheVariants as did
use Rattle.turn_rule.specs.Turns.{World, changed, move_at, move_next, move_on, next, one}
use Rattle.word.specs.Values.{Nothing, Reply, Request, Shared, Sleeper}
use Rattle.word.specs.Kinds.{Clocked, GoroutineKind, asks, local, told}
use Rattle.word.specs.Requests.{Deed, meant, perform}
use Rattle.word.specs.Views.{reply_of}
use Rattle.word.specs.Worlds.{Bed, Rest, effect, in_bed, performs, rules, woken_by}
use Rattle.word.proofs.Fair.{AllWake, Fair, IsApart, fair}
use Rattle.word.proofs.Found.{In}
use Rattle.one_thread.specs.declared.goroutine.Goroutine.{Goroutine}
use Rattle.one_thread.specs.Places.{Sets, SleepOn, Wakes, awake_in, awake_of, bed_at, here, woken_to}
use Rattle.one_thread.specs.Worlds.{Applies, IsWorldOf, LieIn, Misses, Once, numbers}
use Rattle.one_thread.proofs.Orderly.{orderly, woken_numbers}
use Rattle.one_thread.proofs.Standing.{awake_is, awake_no_bed, here_is, no_bed, sleep_on}

module _ {S : Type 0} (K : GoroutineKind) (held : S → K.State) (limit : ℕ) where
  abbrev Places : Type 0
  Places = List (Option (Goroutine S))

  abbrev Whole : Type 0
  Whole = World (Clocked K.State) (Rest K.State)

  -- ---- the world after a request

  abbrev pub after : Whole → ℕ → Clocked K.State → Deed → Whole
  after w n s d = let e = effect K limit w.shared n (s.clock + 1) s d in record { awake = changed (rules K limit) w.awake e.changes ++ map (λ (t : Clocked K.State). Some t) e.started; shared = e.shared }

  abbrev by_asked : Whole → ℕ → Clocked K.State → Option Request → Whole
  by_asked w n s o = let e = performs K limit w.shared n s o in record { awake = changed (rules K limit) w.awake e.changes ++ map (λ (t : Clocked K.State). Some t) e.started; shared = e.shared }

  pub one_after : (w : Whole) (key : Key) (s : Clocked K.State) (q : Request) → w.shared.shared.ending ≡ None → next (rules K limit) w.awake ≡ Some key → slice_index_or w.awake key.number None ≡ Some s → local K limit s ≡ None → asks K limit s ≡ Some q
      → one (rules K limit) w ≡ after w key.number s (perform w.shared.shared key.number s.clock q)
  one_after w key s q going first there rests ask =
      ap (λ (o : Option _). cond (is_some o) w (move_next (rules K limit) w (next (rules K limit) w.awake))) going
      ∙ ap (move_next (rules K limit) w) first
      ∙ ap (move_at (rules K limit) w key.number) there
      ∙ ap (move_on (rules K limit) w key.number s) rests
      ∙ ap (λ (o : Option Request). cond (is_some o) (by_asked w key.number s (asks K limit s)) w) ask
      ∙ ap (by_asked w key.number s) ask

  -- ---- the goroutines that are woken

  abbrev AllBeds : List (Bed K.State) → Places → List (ℕ × Reply) → Type 0
  AllBeds beds places [] = Unit {0}
  AllBeds beds places (w ∷ ws) = (in_bed w.0 beds ≡ bed_at held places w.0) × AllBeds beds places ws

  beds_on : (beds : List (Bed K.State)) (n : ℕ) (a b : Option (Clocked K.State)) (old new : Places) (ws : List (ℕ × Reply)) → Misses n (woken_numbers ws) → Sets held old new n a b → AllBeds beds old ws → AllBeds beds new ws
  beds_on beds n a b old new [] misses set all = tt
  beds_on beds n a b old new (w ∷ ws) misses set all = (all.0 ∙ sym (set.others w.0 misses.0), beds_on beds n a b old new ws misses.1 set all.1)

  wakes_all : (clock : ℕ) (beds : List (Bed K.State)) (ws : List (ℕ × Reply)) (old new : Places) → Once (woken_numbers ws) → AllBeds beds old ws → Wakes K held clock old ws new
      → (awake_in held new ≡ changed (rules K limit) (awake_in held old) (woken_by K limit beds clock ws)) × ((k : ℕ) → IsApart k ws → bed_at held new k ≡ bed_at held old k)
  wakes_all clock beds [] old new once all is = (ap (awake_in held) is, λ k apart. ap (λ (x : Places). bed_at held x k) is)
  wakes_all clock beds (w ∷ ws) old new once all h =
      let mid : Places = h.0 in
      let rest = wakes_all clock beds ws mid new once.1 (beds_on beds w.0 (woken_to K clock w.1 (bed_at held old w.0)) None old mid ws once.0 h.1 all.1) h.2 in (
        rest.0 ∙ ap (λ (a : List (Option (Clocked K.State))). changed (rules K limit) a (woken_by K limit beds clock ws))
            (h.1.awake ∙ ap (λ (b : Option (Clocked K.State)). slice_set (awake_in held old) w.0 (woken_to K clock w.1 b)) (sym all.0)),
        λ k apart. rest.1 k apart.1 ∙ h.1.others k apart.0,
      )

  -- ---- the goroutines that sleep

  lies : (places : Places) (beds : List (Bed K.State)) (ss : List Sleeper) → LieIn K held places beds ss → (x : Sleeper) → In x ss → in_bed x.number beds ≡ bed_at held places x.number
  lies places beds [] h x i = elim i [ ]
  lies places beds (y ∷ ys) h x (inl e) = subst (λ (z : Sleeper). in_bed z.number beds ≡ bed_at held places z.number) (sym e) h.0
  lies places beds (y ∷ ys) h x (inr i) = lies places beds ys h.1 x i

  all_lie : (places : Places) (beds : List (Bed K.State)) (ss : List Sleeper) → ((x : Sleeper) → In x ss → in_bed x.number beds ≡ bed_at held places x.number) → LieIn K held places beds ss
  all_lie places beds [] h = tt
  all_lie places beds (y ∷ ys) h = (h y (inl refl), all_lie places beds ys (λ x i. h x (inr i)))

  all_beds : (old mid : Places) (beds : List (Bed K.State)) (ss : List Sleeper) (ws : List (ℕ × Reply)) → ((x : Sleeper) → In x ss → in_bed x.number beds ≡ bed_at held old x.number) → SleepOn held old mid → AllWake ss ws → AllBeds beds mid ws
  all_beds old mid beds ss [] h on wake = tt
  all_beds old mid beds ss (w ∷ ws) h on wake =
      let y : Sleeper = wake.0.0 in
      (subst (λ (k : ℕ). in_bed k beds ≡ bed_at held mid k) wake.0.2 (h y wake.0.1 ∙ sym (on y.number)), all_beds old mid beds ss ws h on wake.1)

  -- a new goroutine is awake
  bed_new : (places : Places) (g : Goroutine S) (k : ℕ) → g.asleep ≡ false → bed_at held (places ++ Some g ∷ []) k ≡ bed_at held places k
  bed_new [] g zero up = no_bed held g up
  bed_new [] g (suc k) up = refl
  bed_new (x ∷ xs) g zero up = refl
  bed_new (x ∷ xs) g (suc k) up = bed_new xs g k up

  -- ---- each deed

  -- what is known of a deed
  pub record Known (w : Shared) (n : ℕ) (p : Request) (v : SharedValue) (d : Deed) : Type 0 where
    pub fair : Fair w.asleep n p d
    pub asleep : Once (numbers d.shared.asleep)
    pub woken : Once (woken_numbers d.woken)
    pub shown : IsShownBy d.shared v

  pub known : (w : Shared) (n c : ℕ) (q : Request) (v : SharedValue) → Once (numbers w.asleep) → IsShownBy (perform w n c q).shared v → Known w n (meant w n q) v (perform w n c q)
  known w n c q v once shown = let o = orderly w n c (meant w n q) (meant w n q) in record { fair = fair w n c (meant w n q); asleep = o.asleep once; woken = o.woken once; shown = shown }

  module _ (w : Whole) (old new : Places) (v v' : SharedValue) (n : ℕ) (s : Clocked K.State) (p : Request) (fits : IsWorldOf K held w old v) (up : here (awake_of held) old n ≡ Some s) where
    abbrev what : Did → Deed
    what deed = deed_of (history_of w.shared.shared) n s.clock p deed v' v'.meeting

    abbrev lay : (x : Sleeper) → In x w.shared.shared.asleep → in_bed x.number w.shared.beds ≡ bed_at held old x.number
    lay x i = lies old w.shared.beds w.shared.shared.asleep fits.beds x i

    on_by : (mid : Places) (a : Option (Clocked K.State)) → Sets held old mid n a None → SleepOn held old mid
    on_by mid a set = sleep_on held old mid n a (awake_no_bed held (slice_index_or old n None) s up) set

    -- one index of the awake is set
    set_is : (mid : Places) (a b : Option (Clocked K.State)) → Sets held old mid n a b → awake_in held mid ≡ slice_set w.awake n a
    set_is mid a b set = set.awake ∙ ap (λ (x : List (Option (Clocked K.State))). slice_set x n a) fits.awake

    -- the actor stays as it was
    set_back : slice_set w.awake n (Some s) ≡ w.awake
    set_back =
        let at : slice_index_or w.awake n None ≡ Some s = ap (λ (a : List (Option (Clocked K.State))). slice_index_or a n None) (sym fits.awake) ∙ here_is held old n ∙ up in
        ap (λ (x : Option (Clocked K.State)). slice_set w.awake n x) (sym at) ∙ set-get_or w.awake n None

    pub applied : (deed : Did) → Known w.shared.shared n p v' (what deed) → Applies K held (s.clock + 1) n s deed old new → IsWorldOf K held (after w n s (what deed)) new v'
    applied (did.Done reply woken) k h =
        let on = on_by h.0 (Some (told K s (s.clock + 1) (reply_of reply))) h.1 in
        let r = wakes_all (s.clock + 1) w.shared.beds woken.items h.0 new k.woken (all_beds old h.0 w.shared.beds w.shared.shared.asleep woken.items lay on k.fair.woken) h.2 in
        record {
          awake = r.0 ∙ ap (λ (a : List (Option (Clocked K.State))). changed (rules K limit) a (woken_by K limit w.shared.beds (s.clock + 1) woken.items)) (set_is h.0 (Some (told K s (s.clock + 1) (reply_of reply))) None h.1) ∙ sym (append-nil _);
          beds = all_lie new w.shared.beds _ (λ x i. lay x (k.fair.asleep x i) ∙ sym (on x.number) ∙ sym (r.1 x.number (k.fair.gone x i)));
          shared = k.shown;
          once = k.asleep;
        }
    applied (did.Prints bytes) k set = record {
      awake = set_is new (Some (told K s (s.clock + 1) Nothing)) None set ∙ sym (append-nil _);
      beds = all_lie new w.shared.beds _ (λ x i. lay x (k.fair.asleep x i) ∙ sym (on_by new (Some (told K s (s.clock + 1) Nothing)) set x.number));
      shared = k.shown;
      once = k.asleep;
    }
    applied (did.Starts function arguments) k h =
        let mid : Places = h.0 in
        let g : Goroutine S = h.1 in
        let on = on_by mid (Some (told K s (s.clock + 1) Nothing)) h.2 in
        record {
          awake = ap (awake_in held) h.5 ∙ map-append _ _ _ ∙ ap (λ (a : List (Option (Clocked K.State))). a ++ awake_of held (Some g) ∷ []) (set_is mid (Some (told K s (s.clock + 1) Nothing)) None h.2)
              ∙ ap (λ (x : Option (Clocked K.State)). slice_set w.awake n (Some (told K s (s.clock + 1) Nothing)) ++ x ∷ []) (awake_is held g h.4 ∙ ap (λ (t : Clocked K.State). Some t) h.3);
          beds = all_lie new w.shared.beds _ (λ x i. lay x (k.fair.asleep x i) ∙ sym (on x.number) ∙ sym (bed_new mid g x.number h.4) ∙ ap (λ (y : Places). bed_at held y x.number) (sym h.5));
          shared = k.shown;
          once = k.asleep;
        }
    applied did.Sleeps k set = record {
      awake = set_is new None (Some s) set ∙ sym (append-nil _);
      beds = all_lie new (record { number = n; state = s } ∷ w.shared.beds) _ (λ x i. laid x (k.fair.asleep x i));
      shared = k.shown;
      once = k.asleep;
    }
      where
        laid : (x : Sleeper) → (In x w.shared.shared.asleep × (x.number ≢ n)) ⊎ (x ≡ record { number = n; request = p }) → cond (n == x.number) (Some s) (in_bed x.number w.shared.beds) ≡ bed_at held new x.number
        laid x (inl i) = ap (λ (b : Bool). cond b (Some s) (in_bed x.number w.shared.beds)) (ne_eqb n x.number (λ e. i.1 (sym e))) ∙ lay x i.0 ∙ sym (set.others x.number i.1)
        laid x (inr e) =
            let m : x.number ≡ n = ap (λ (y : Sleeper). y.number) e in
            ap (λ (b : Bool). cond b (Some s) (in_bed x.number w.shared.beds)) (eq-eqb n x.number (sym m)) ∙ sym set.bed ∙ ap (bed_at held new) (sym m)
    applied did.Leaves k set = record {
      awake = set_is new None None set ∙ sym (append-nil _);
      beds = all_lie new w.shared.beds _ (λ x i. lay x (k.fair.asleep x i) ∙ sym (on_by new None set x.number));
      shared = k.shown;
      once = k.asleep;
    }
    applied (did.Panics cause clause) k same = record {
      awake = ap (awake_in held) same ∙ fits.awake ∙ sym set_back ∙ sym (append-nil _);
      beds = all_lie new w.shared.beds _ (λ x i. lay x (k.fair.asleep x i) ∙ ap (λ (y : Places). bed_at held y x.number) (sym same));
      shared = k.shown;
      once = k.asleep;
    }
    applied (did.Ends end) k same = record {
      awake = ap (awake_in held) same ∙ fits.awake ∙ sym set_back ∙ sym (append-nil _);
      beds = all_lie new w.shared.beds _ (λ x i. lay x (k.fair.asleep x i) ∙ ap (λ (y : Places). bed_at held y x.number) (sym same));
      shared = k.shown;
      once = k.asleep;
    }
