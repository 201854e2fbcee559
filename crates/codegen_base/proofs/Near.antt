-- A goroutine of the source and one of the code that are near each other stay so, whatever they do and whatever replies they
-- get: by what is so of each task alone.
use Rattle.std.proofs.Common.{◌≡◌, ℕ, suc, Bool, true, false, cond, List, [], ◌∷◌, ◌++◌, length, Some, refl, sym, ap, subst, slice_get, map, ◌∙◌}
use Rattle.std.specs.Prelude.{nat_lt}
use Rattle.syntax.specs.Tree.{Function, File}
use Rattle.bytecode.specs.Code.{Function as CodeFunction, Code}
use Rattle.bytecode.specs.Machine.{Frame as CodeFrame, Frames as CodeFrames, begun as code_begun, entered, returned, code_next, code_answer, code_kind}
use Rattle.word.specs.declared.limits.TheConstants.{MAX_DEPTH}
use Rattle.word.specs.declared.panic.Panic.TheVariants.{CallDepth}
use Rattle.word.specs.Values.{Request, Reply, Panic}
use Rattle.word.specs.Values as requests
use Rattle.word.specs.Kinds.{Next, Ticks, Asks, Suits}
use Rattle.word.specs.Related.{Slips, here, more, Matches, Starts}
use Rattle.typing_rules.specs.Calls.{result_of, parameters_of}
use Rattle.meaning.specs.Values.{Value, words_like, known}
use Rattle.meaning.specs.Worked.{Need, Asking, Calling, Given, Told, Yielded, Reached, Came, Fails, Needs, Worked}
use Rattle.meaning.specs.Expressions.{zero_result}
use Rattle.meaning.specs.Tasks.{Frame, Frames, frame, with_given, Course, Goes, Moves, GivesBack}
use Rattle.meaning.specs.Source.{globals, functions, entered_with, tasks_work, give_back, enters, reached, source_next, source_kind}
use Rattle.meaning.proofs.Fair.{AllTaken, IsLast}
use Rattle.plan.proofs.Steps.{slips_more}
use Rattle.codegen_base.proofs.Gave.{Halts, through, Gave, Ends, Follows, Context}
use Rattle.codegen_base.proofs.Running.{Compiled, Coded, Running, IsCalm}
use Rattle.codegen_base.proofs.Likeness.{AreLike, all_words_of}
use Rattle.meaning.proofs.FairTasks.{tasks_fair}
use Rattle.type_table.specs.Scopes.{Globals}

-- what a function's task comes to: the function stands so, without a cost or with one, or gives its result back to its callers
abbrev pub Lands : Globals → Code → ℕ → CodeFrames → (Frame → CodeFrames → Type 0) → Course → CodeFrames → Type 0
Lands globals code n ds Sat (Goes top) d = (e : CodeFrames) × Slips (code_next code) d e × Sat (frame top.blocks top.tasks) e × (top.given ≡ [])
Lands globals code n ds Sat (Moves top) d = (e t : CodeFrames) × Slips (code_next code) d e × (code_next code e ≡ Ticks t) × Sat (frame top.blocks top.tasks) t × (top.given ≡ [])
Lands globals code n ds Sat (GivesBack v) d = (e : CodeFrames) × Slips (code_next code) d e × (code_next code e ≡ returned [] (words_like (zero_result globals (result_of globals n)) v) ds)

module _ (file : File) (program : Compiled (globals file)) (Sat : ℕ → Frame → CodeFrames → CodeFrames → Type 0) where
  open program use {code}

  abbrev work : Frame → Worked Course
  work top = tasks_work (globals file) top.blocks top.tasks

  abbrev fresh : Frame → Frame
  fresh top = frame top.blocks top.tasks

  abbrev Given' : CodeFrames → List Given → CodeFrames → Type 0
  Given' c given d = Gave (globals file) code c given d

  -- ---- one thing more is given to both

  pub told_more : (c : CodeFrames) (given : List Given) (d e : CodeFrames) (q : Request) (reply : Reply) → Given' c given d → Slips (code_next code) d e → code_next code e ≡ Asks q → Suits q reply → Given' c (given ++ Told reply ∷ []) (code_answer code e reply)
  told_more c [] d e q reply g s is suits = (e, q, slips_back c d e g s is, is, suits, here) where
    slips_back : (c d e : CodeFrames) → Slips (code_next code) d c → Slips (code_next code) d e → code_next code e ≡ Asks q → Slips (code_next code) c e
    slips_back c d e g s is = through (code_next code) d c e (subst Halts (sym is) tt) g s
  told_more c (Told r ∷ given) d e q reply (e', q', s', is', suits', g) s is suits = (e', q', s', is', suits', told_more (code_answer code e' r) given d e q reply g s is suits)
  told_more c (Yielded v ∷ given) d e q reply (e', x, b, bs, s', is', g) s is suits = (e', x, b, bs, s', is', told_more _ given d e q reply g s is suits)

  abbrev handed : CodeFrame → CodeFrame → Value → CodeFrame
  handed x b v = record b { stack = b.stack ++ words_like (zero_result (globals file) (result_of (globals file) x.function)) v }

  pub yielded_more : (c : CodeFrames) (given : List Given) (d e : CodeFrames) (x b : CodeFrame) (bs : CodeFrames) (v : Value) → Given' c given d → Slips (code_next code) d e → code_next code e ≡ Ticks (x ∷ (b ∷ bs)) → Given' c (given ++ Yielded v ∷ []) (handed x b v ∷ bs)
  yielded_more c [] d e x b bs v g s is = (e, x, b, bs, through (code_next code) d c e (subst Halts (sym is) tt) g s, is, here)
  yielded_more c (Told r ∷ given) d e x b bs v (e', q', s', is', suits', g) s is = (e', q', s', is', suits', yielded_more (code_answer code e' r) given d e x b bs v g s is)
  yielded_more c (Yielded w ∷ given) d e x b bs v (e', x', b', bs', s', is', g) s is = (e', x', b', bs', s', is', yielded_more _ given d e x b bs v g s is)

  -- ---- near states

  -- a function within its task, which was given `top.given`; `ds` are the frames of its callers
  pub record Within (n : ℕ) (top : Frame) (ds d : CodeFrames) : Type 0 where
    pub from : CodeFrames
    pub sat : Sat n (fresh top) ds from
    pub gave : Given' from top.given d
    pub taken : AllTaken (work top top.given)

  -- functions that wait, for one of this number
  abbrev pub AllWait : ℕ → Frames → CodeFrames → Type 0
  AllWait n [] [] = Unit {0}
  AllWait n (c ∷ cs) (b ∷ bs) =
      (m : ℕ) × (from d e : CodeFrames) × (x : CodeFrame) × Sat m (fresh c) bs from × Given' from c.given d × Slips (code_next code) d e × (code_next code e ≡ Ticks (x ∷ (b ∷ bs))) × (x.function ≡ n)
      × ((need : Need) × (work c c.given ≡ Needs need)) × AllWait m cs bs
  AllWait n cs ds = ⊥

  abbrev pub Near : Frames → CodeFrames → Type 0
  Near [] d = ⊥
  Near (top ∷ cs) d = (n : ℕ) × (ds : CodeFrames) × Within n top ds d × AllWait n cs ds

  wait_length : (n : ℕ) (cs : Frames) (ds : CodeFrames) → AllWait n cs ds → length cs ≡ length ds
  wait_length n [] [] w = refl
  wait_length n [] (d ∷ ds) w = absurd w
  wait_length n (c ∷ cs) [] w = absurd w
  wait_length n (c ∷ cs) (d ∷ ds) (m, from, d0, e, x, sat, gave, slips, is, same, need, w) = ap suc (wait_length m cs ds w)

  -- ---- what is so of each task

  abbrev pub Begins : Need → CodeFrames → Type 0
  Begins (Asking q) e = Starts (source_kind file) (code_kind code) Near q
  Begins (Calling n vs) e =
      (F : Function) × (slice_get (functions file) n ≡ Some F) × ((x : CodeFrame) (bs : CodeFrames) → code_next code e ≡ Ticks (x ∷ bs) → (x.function ≡ n) × Sat n (entered_with (globals file) F vs) bs (x ∷ bs))

  abbrev pub context : CodeFrames → Context (globals file) code
  context ds = record { Begins = Begins; callers = ds }

  abbrev pub Lands' : ℕ → CodeFrames → Course → CodeFrames → Type 0
  Lands' n ds = Lands (globals file) code n ds (λ top d. Sat n top ds d)

  -- ---- steps

  module _ (sat_follows : (n : ℕ) (top : Frame) (ds c : CodeFrames) → Sat n (fresh top) ds c → Follows (context ds) (work top) (Lands' n ds) c) where
    abbrev M : Frames → Next Frames → CodeFrames → Type 0
    M s x c = Matches (source_kind file) (code_kind code) Near s x c

    begins_within : (n : ℕ) (top : Frame) (ds e : CodeFrames) → top.given ≡ [] → Sat n (fresh top) ds e → Within n top ds e
    begins_within n top ds e none sat = record {
      from = e;
      sat = sat;
      gave = subst (λ (g : List Given). Given' e g e) (sym none) here;
      taken = subst (λ (g : List Given). AllTaken (work top g)) (sym none) (tasks_fair (globals file) top.blocks top.tasks).none;
    }

    -- what was given last was needed
    last_taken : (top : Frame) (need : Need) (one : Given) → work top top.given ≡ Needs need → AllTaken (work (with_given top one) (with_given top one).given)
    last_taken top need one is = go (work top top.given) is ((tasks_fair (globals file) top.blocks top.tasks).last top.given one) where
      go : (r : Reached Course) → r ≡ Needs need → IsLast r (work top (top.given ++ one ∷ [])) → AllTaken (work top (top.given ++ one ∷ []))
      go (Came course left) e l = absurd cc
      go (Fails cause) e l = absurd cc
      go (Needs other) e l = l

    back_goes : (n : ℕ) (top : Frame) (v : Value) (cs : Frames) (ds d e : CodeFrames) → AllWait n cs ds → Slips (code_next code) d e → code_next code e ≡ returned [] (words_like (zero_result (globals file) (result_of (globals file) n)) v) ds → M (top ∷ cs) (give_back v cs) d
    back_goes n top v [] [] d e w s is = (e, s, is, (λ reply suits. absurd suits), tt)
    back_goes n top v [] (b ∷ bs) d e w s is = absurd w
    back_goes n top v (c ∷ cs) [] d e w s is = absurd w
    back_goes n top v (c ∷ cs) (b ∷ bs) d e (m, from, d', e', x, sat, gave, slips, ticks, same, need, w) s is =
        let result = words_like (zero_result (globals file) (result_of (globals file) n)) v in
        let after : CodeFrames = record b { stack = b.stack ++ result } ∷ bs in
        let given = yielded_more from c.given d' e' x b bs v gave slips ticks in (
          after,
          slips_more (code_next code) d e after s (more is here),
          (
            m,
            bs,
            record {
              from = from;
              sat = sat;
              gave = subst (λ (k : ℕ). Given' from (c.given ++ Yielded v ∷ []) (record b { stack = b.stack ++ words_like (zero_result (globals file) (result_of (globals file) k)) v } ∷ bs)) same given;
              taken = last_taken c need.0 (Yielded v) need.1;
            },
            w,
          ),
        )

    enters_goes : (deep : Bool) (n m : ℕ) (top : Frame) (cs : Frames) (vs : List Value) (ds d e : CodeFrames) (F : Function) (x : CodeFrame) (b : CodeFrame) → Within n top ds d → AllWait n cs ds → (need : Need) → work top top.given ≡ Needs need → Slips (code_next code) d e
        → code_next code e ≡ cond deep (Ticks (x ∷ (b ∷ ds))) (Asks (Panic CallDepth)) → ((x : CodeFrame) (bs : CodeFrames) → code_next code e ≡ Ticks (x ∷ bs) → (x.function ≡ m) × Sat m (entered_with (globals file) F vs) bs (x ∷ bs))
        → M (top ∷ cs) (cond deep (Ticks (entered_with (globals file) F vs ∷ (top ∷ cs))) (Asks (Panic CallDepth))) d
    enters_goes true n m top cs vs ds d e F x b within w need needs s is starts =
        let (same, sat) = starts x (b ∷ ds) is in (
          e,
          x ∷ (b ∷ ds),
          s,
          is,
          (
            m,
            b ∷ ds,
            begins_within m (entered_with (globals file) F vs) (b ∷ ds) (x ∷ (b ∷ ds)) refl sat,
            (n, within.from, d, e, x, within.sat, within.gave, s, is, same, (need, needs), w),
          ),
        )
    enters_goes false n m top cs vs ds d e F x b within w need needs s is starts = (e, s, is, (λ reply suits. absurd suits), tt)

    pub near_goes : (s : Frames) (d : CodeFrames) → Near s d → M s (source_next file s) d
    near_goes [] d near = absurd near
    near_goes (top ∷ cs) d (n, ds, within, w) = go (work top top.given) refl ((sat_follows n top ds within.from within.sat).ends top.given d within.gave) within.taken where
      go : (r : Reached Course) → work top top.given ≡ r → Ends (context ds) (Lands' n ds) r d → AllTaken r → M (top ∷ cs) (reached file top cs r) d
      go (Came (Goes next) left) is (c, (e, s, sat, none), gave) taken =
          let g : Slips (code_next code) d c = subst (λ (l : List Given). Given' c l d) taken gave in
          (e, slips_more (code_next code) d c e g s, (n, ds, begins_within n next ds e none sat, w))
      go (Came (Moves next) left) is (c, (e, t, s, ticks, sat, none), gave) taken =
          let g : Slips (code_next code) d c = subst (λ (l : List Given). Given' c l d) taken gave in
          (e, t, slips_more (code_next code) d c e g s, ticks, (n, ds, begins_within n next ds t none sat, w))
      go (Came (GivesBack v) left) is (c, (e, s, gives), gave) taken =
          let g : Slips (code_next code) d c = subst (λ (l : List Given). Given' c l d) taken gave in
          back_goes n top v cs ds d e w (slips_more (code_next code) d c e g s) gives
      go (Fails cause) is (e, s, asks) taken = (e, s, asks, (λ reply suits. absurd suits), tt)
      go (Needs (Asking q)) is (e, s, (asks, begins)) taken = (
        e,
        s,
        asks,
        (λ reply suits. (
          n,
          ds,
          record {
            from = within.from;
            sat = within.sat;
            gave = told_more within.from top.given d e q reply within.gave s asks suits;
            taken = last_taken top (Asking q) (Told reply) is;
          },
          w,
        )),
        begins,
      )
      go (Needs (Calling m vs)) is (e, s, (args, b, callee, enters', (F, has, starts))) taken =
          let deep : length (top ∷ cs) ≡ length (b ∷ ds) = ap suc (wait_length n cs ds w) in
          subst (λ o. M (top ∷ cs) (enters file (top ∷ cs) vs o) d) (sym has)
          (subst (λ k. M (top ∷ cs) (cond (nat_lt k MAX_DEPTH) (Ticks (entered_with (globals file) F vs ∷ (top ∷ cs))) (Asks (Panic CallDepth))) d) (sym deep)
          (enters_goes (nat_lt (length (b ∷ ds)) MAX_DEPTH) n m top cs vs ds d e F (code_begun callee.locals m args) b within w (Calling m vs) is s enters' starts))

  -- ---- functions while they run

  -- a function that is entered is near its code
  abbrev pub AllEntered : Type 0
  AllEntered = (n : ℕ) (vs : List Value) (callee : CodeFunction) → AreLike (globals file).structs (map known (parameters_of (globals file) n)) vs → slice_get code.functions n ≡ Some callee
      → (F : Function) × (slice_get (functions file) n ≡ Some F) × ((bs : CodeFrames) → Sat n (entered_with (globals file) F vs) bs (code_begun callee.locals n (all_words_of vs) ∷ bs))

  -- a goroutine that is started begins near its code
  abbrev pub AllStarted : Type 0
  AllStarted = (n : ℕ) (vs : List Value) (callee : CodeFunction) → AreLike (globals file).structs (map known (parameters_of (globals file) n)) vs → slice_get code.functions n ≡ Some callee
      → Near ((source_kind file).begin n (all_words_of vs)) ((code_kind code).begin n (all_words_of vs))

  pub calm_begins : (q : Request) (d : CodeFrames) → IsCalm q → Begins (Asking q) d
  calm_begins (requests.Go n args) d calm = absurd calm
  calm_begins (requests.Make size zero) d calm = tt
  calm_begins (requests.Send c item) d calm = tt
  calm_begins (requests.Receive c) d calm = tt
  calm_begins (requests.Close c) d calm = tt
  calm_begins (requests.Select cases default) d calm = tt
  calm_begins (requests.Len c) d calm = tt
  calm_begins (requests.Cap c) d calm = tt
  calm_begins (requests.Print bytes) d calm = tt
  calm_begins requests.End d calm = tt
  calm_begins requests.Exit d calm = tt
  calm_begins (requests.Panic p) d calm = tt
  calm_begins requests.Exhausted d calm = tt

  -- what is entered
  abbrev first_of : CodeFrame → CodeFrames → CodeFrame
  first_of other [] = other
  first_of other (x ∷ xs) = x

  abbrev rest_of : CodeFrames → CodeFrames
  rest_of [] = []
  rest_of (x ∷ xs) = xs

  abbrev ticked : Next CodeFrames → CodeFrames
  ticked (Ticks s) = s
  ticked other = []

  enters_same : (deep : Bool) (callee y : CodeFrame) (bs ys : CodeFrames) → cond deep (Ticks (callee ∷ bs)) (Asks (Panic CallDepth)) ≡ Ticks (y ∷ ys) → (callee ≡ y) × (bs ≡ ys)
  enters_same true callee y bs ys e = (ap (λ (x : Next CodeFrames). first_of callee (ticked x)) e, ap (λ (x : Next CodeFrames). rest_of (ticked x)) e)
  enters_same false callee y bs ys e = absurd cc

  -- a call begins alike in the source and in the code
  pub calls_begin : AllEntered → (n : ℕ) (vs : List Value) (d : CodeFrames) (b : CodeFrame) (ds : CodeFrames) (callee : CodeFunction) → AreLike (globals file).structs (map known (parameters_of (globals file) n)) vs → slice_get code.functions n ≡ Some callee
      → code_next code d ≡ entered n (all_words_of vs) (b ∷ ds) callee → Begins (Calling n vs) d
  calls_begin all_entered n vs d b ds callee like has is =
      let (F, source, sat) = all_entered n vs callee like has in (
        F,
        source,
        λ x bs ticks.
            let same = enters_same (nat_lt (length (b ∷ ds)) MAX_DEPTH) (code_begun callee.locals n (all_words_of vs)) x (b ∷ ds) bs (sym is ∙ ticks) in
            (ap (λ (y : CodeFrame). y.function) (sym same.0), subst (λ (y : CodeFrame). Sat n (entered_with (globals file) F vs) bs (y ∷ bs)) same.0 (sat bs)),
      )

  abbrev pub runs : AllEntered → AllStarted → (coded : Coded program) → CodeFrames → Running coded
  runs all_entered all_started coded ds = record {
    context = context ds;
    calm = calm_begins;
    calls = λ n vs d b callee like has is. calls_begin all_entered n vs d b ds callee like has is;
    starts = λ n vs d callee like has. all_started n vs callee like has;
  }
