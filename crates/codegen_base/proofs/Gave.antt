-- What the source was given within a task, the code was given: where it is then.
use Rattle.std.proofs.Common.{◌≡◌, ℕ, Bool, true, false, cond, List, [], ◌∷◌, ◌++◌, length, refl, sym, ap, ◌∙◌, subst}
use Rattle.std.specs.Prelude.{nat_lt}
use Rattle.bytecode.specs.Code.{Function as CodeFunction, Code}
use Rattle.bytecode.specs.Machine.{Frame, Frames, begun, entered, code_next, code_answer}
use Rattle.word.specs.declared.limits.TheConstants.{MAX_DEPTH}
use Rattle.word.specs.declared.panic.Panic.{Panic as Cause}
use Rattle.word.specs.declared.panic.Panic.TheVariants.{CallDepth}
use Rattle.word.specs.declared.value.Word.{Word}
use Rattle.word.specs.Values.{Request, Reply, Panic}
use Rattle.word.specs.Kinds.{Next, Slides, Ticks, Asks, Stuck, Suits}
use Rattle.word.specs.Related.{Slips, here, more}
use Rattle.type_table.specs.Scopes.{Globals}
use Rattle.typing_rules.specs.Calls.{result_of}
use Rattle.meaning.specs.Values.{Value, words_like}
use Rattle.meaning.specs.Worked.{Need, Asking, Calling, Given, Told, Yielded, Reached, Came, Fails, Needs, Worked, ready, fails, needs, go_on_from, and_then}
use Rattle.meaning.specs.Expressions.{zero_result}
use Rattle.plan.proofs.Steps.{slips_more}

-- ---- a machine goes one way

abbrev pub Halts : {A : Type 0} → Next A → Type 0
Halts (Slides a) = ⊥
Halts (Ticks a) = Unit {0}
Halts (Asks q) = Unit {0}
Halts Stuck = Unit {0}

abbrev onward : {A : Type 0} → A → Next A → A
onward other (Slides a) = a
onward other (Ticks a) = a
onward other (Asks q) = other
onward other Stuck = other

abbrev asked : Request → {A : Type 0} → Next A → Request
asked other (Asks q) = q
asked other x = other

module _ {A : Type 0} (next : A → Next A) where
  -- a state that halts leads only to itself
  pub stops : (c e : A) → Halts (next c) → Slips next c e → e ≡ c
  stops c _ halts here = refl
  stops c e halts (more is s) = absurd (subst Halts is halts)

  -- of two ways from the same state the longer one leads through the end of the other
  pub through : (c d e : A) → Halts (next e) → Slips next c d → Slips next c e → Slips next d e
  through c _ e halts here s = s
  through c d _ halts (more is t) here = absurd (subst Halts is halts)
  through c d e halts (more {b = b} is t) (more {b = b'} is' s) =
      through b d e halts t (subst (λ x. Slips next x e) (ap (onward b) (sym is' ∙ is)) s)

module _ (globals : Globals) (code : Code) where
  -- the replies that the code got, and the results of the functions that it called, from one state to another; before the first of them it
  -- may still have a way to go
  abbrev pub Gave : Frames → List Given → Frames → Type 0
  Gave c [] d = Slips (code_next code) d c
  Gave c (Told reply ∷ left) d =
      (e : Frames) × (q : Request) × Slips (code_next code) c e × (code_next code e ≡ Asks q) × Suits q reply × Gave (code_answer code e reply) left d
  Gave c (Yielded v ∷ left) d =
      (e : Frames) × (callee : Frame) × (b : Frame) × (bs : Frames) × Slips (code_next code) c e × (code_next code e ≡ Ticks (callee ∷ (b ∷ bs)))
      × Gave (record b { stack = b.stack ++ words_like (zero_result globals (result_of globals callee.function)) v } ∷ bs) left d

  pub gave_on : (c c' : Frames) (given : List Given) (d : Frames) → Slips (code_next code) c c' → Gave c given d → Gave c' given d
  gave_on c c' [] d s g = slips_more (code_next code) d c c' g s
  gave_on c c' (Told reply ∷ left) d s (e, q, t, is, suits, g) = (e, q, through (code_next code) c c' e (subst Halts (sym is) tt) s t, is, suits, g)
  gave_on c c' (Yielded v ∷ left) d s (e, callee, b, bs, t, is, g) = (e, callee, b, bs, through (code_next code) c c' e (subst Halts (sym is) tt) s t, is, g)

-- the context of a task: the functions that wait, and how what the source needs begins alike in the code
pub record Context (globals : Globals) (code : Code) : Type 1 where
  pub Begins : Need → Frames → Type 0
  pub callers : Frames

module _ {globals : Globals} {code : Code} (context : Context globals code) where
  open context use {Begins, callers}

  -- the code needs what the source needs
  abbrev pub Wants : Need → Frames → Type 0
  Wants (Asking q) e = (code_next code e ≡ Asks q) × Begins (Asking q) e
  Wants (Calling n vs) e = (args : List Word) × (b : Frame) × (callee : CodeFunction) × (code_next code e ≡ entered n args (b ∷ callers) callee) × Begins (Calling n vs) e

  -- where the code is if the source came so far: L holds of what it came to, it panics, or it needs what the source needs
  abbrev pub Ends : {A : Type 0} → (A → Frames → Type 0) → Reached A → Frames → Type 0
  Ends L (Came a left) d = (c : Frames) × L a c × Gave globals code c left d
  Ends L (Fails cause) d = (e : Frames) × Slips (code_next code) d e × (code_next code e ≡ Asks (Panic cause))
  Ends L (Needs need) d = (e : Frames) × Slips (code_next code) d e × Wants need e

  -- the code from a state on works out what the source does, whatever both are given
  pub record Follows {A : Type 0} (work : Worked A) (L : A → Frames → Type 0) (c : Frames) : Type 0 where
    pub ends : (given : List Given) (d : Frames) → Gave globals code c given d → Ends L (work given) d

  pub stays : {A : Type 0} (a : A) (L : A → Frames → Type 0) (c : Frames) → L a c → Follows (ready a) L c
  stays a L c l = record { ends = λ given d gave. (c, l, gave) }

  pub following : {A : Type 0} (work : Worked A) (L : A → Frames → Type 0) (c c' : Frames) → Slips (code_next code) c c' → Follows work L c' → Follows work L c
  following work L c c' s f = record { ends = λ given d gave. f.ends given d (gave_on globals code c c' given d s gave) }

  pub bind : {A B : Type 0} (work : Worked A) (f : A → Worked B) (L : A → Frames → Type 0) (M : B → Frames → Type 0) (c : Frames) → Follows work L c → ((a : A) (d : Frames) → L a d → Follows (f a) M d) → Follows (and_then work f) M c
  bind work f L M c first each = record { ends = λ given d gave. go (work given) d (first.ends given d gave) } where
    go : (r : Reached _) (d : Frames) → Ends L r d → Ends M (go_on_from r f) d
    go (Came a left) d (c', l, gave) = (each a c' l).ends left d gave
    go (Fails cause) d e = e
    go (Needs need) d e = e

  not_told : (q : Request) (cause : Cause) (reply : Reply) → q ≡ Panic cause → Suits q reply → ⊥
  not_told q cause reply is suits = subst (λ x. Suits x reply) is suits

  -- a panic
  pub panics : {A : Type 0} (cause : Cause) (L : A → Frames → Type 0) (c : Frames) → code_next code c ≡ Asks (Panic cause) → Follows (fails cause) L c
  panics cause L c is = record { ends = go } where
    go : (given : List Given) (d : Frames) → Gave globals code c given d → Ends L (Fails cause) d
    go [] d gave = (c, gave, is)
    go (Told reply ∷ left) d (e, q, s, asks, suits, gave) =
        let same = stops (code_next code) c e (subst Halts (sym is) tt) s in
        absurd (not_told q cause reply (ap (asked (Panic cause)) (sym asks ∙ ap (code_next code) same ∙ is)) suits)
    go (Yielded v ∷ left) d (e, callee, b, bs, s, ticks, gave) =
        let same = stops (code_next code) c e (subst Halts (sym is) tt) s in absurd (never (sym ticks ∙ ap (code_next code) same ∙ is)) where
          never : Ticks (callee ∷ (b ∷ bs)) ≡ Asks (Panic cause) → ⊥
          never x = absurd cc

  -- a request
  pub asks : (q : Request) (L : Given → Frames → Type 0) (c : Frames) → code_next code c ≡ Asks q → Begins (Asking q) c → ((reply : Reply) → Suits q reply → L (Told reply) (code_answer code c reply)) → Follows (needs (Asking q)) L c
  asks q L c is begins each = record { ends = go } where
    go : (given : List Given) (d : Frames) → Gave globals code c given d → Ends L (needs (Asking q) given) d
    go [] d gave = (c, gave, (is, begins))
    go (Told reply ∷ left) d (e, q', s, asks', suits, gave) =
        let same = stops (code_next code) c e (subst Halts (sym is) tt) s in
        let same-q : q' ≡ q = ap (asked q) (sym asks' ∙ ap (code_next code) same ∙ is) in
        (code_answer code c reply, each reply (subst (λ x. Suits x reply) same-q suits), subst (λ x. Gave globals code (code_answer code x reply) left d) same gave)
    go (Yielded v ∷ left) d (e, callee, b, bs, s, ticks, gave) =
        let same = stops (code_next code) c e (subst Halts (sym is) tt) s in absurd (never (sym ticks ∙ ap (code_next code) same ∙ is)) where
          never : Ticks (callee ∷ (b ∷ bs)) ≡ Asks q → ⊥
          never x = absurd cc

  -- ---- calls

  abbrev entry : Bool → ℕ → List Word → Frame → Frames → CodeFunction → Next Frames
  entry deep n args b bs callee = cond deep (Ticks (begun callee.locals n args ∷ (b ∷ bs))) (Asks (Panic CallDepth))

  entry_halts : (deep : Bool) (n : ℕ) (args : List Word) (b : Frame) (bs : Frames) (callee : CodeFunction) → Halts (entry deep n args b bs callee)
  entry_halts true n args b bs callee = tt
  entry_halts false n args b bs callee = tt

  entry_untold : (deep : Bool) (n : ℕ) (args : List Word) (b : Frame) (bs : Frames) (callee : CodeFunction) (q : Request) (reply : Reply) → entry deep n args b bs callee ≡ Asks q → Suits q reply → ⊥
  entry_untold true n args b bs callee q reply is suits = absurd cc
  entry_untold false n args b bs callee q reply is suits = not_told q CallDepth reply (ap (asked q) (sym is)) suits

  abbrev heads : Frame → Frames → Frame
  heads other [] = other
  heads other (c ∷ cs) = c

  abbrev tails : Frames → Frames
  tails [] = []
  tails (c ∷ cs) = cs

  -- the function that was entered, the one that waits, and the others are known
  record IsEntered (n : ℕ) (b : Frame) (bs : Frames) (callee' b' : Frame) (bs' : Frames) : Type 0 where
    number : callee'.function ≡ n
    waits : b' ≡ b
    others : bs' ≡ bs

  entry_known : (deep : Bool) (n : ℕ) (args : List Word) (b : Frame) (bs : Frames) (callee : CodeFunction) (callee' b' : Frame) (bs' : Frames) → entry deep n args b bs callee ≡ Ticks (callee' ∷ (b' ∷ bs')) → IsEntered n b bs callee' b' bs'
  entry_known true n args b bs callee callee' b' bs' is =
      let all = ap (onward []) is in
      record {
        number = ap (λ (x : Frames). (heads b x).function) (sym all);
        waits = ap (λ (x : Frames). heads b (tails x)) (sym all);
        others = ap (λ (x : Frames). tails (tails x)) (sym all);
      }
  entry_known false n args b bs callee callee' b' bs' is = absurd cc

  abbrev yields : ℕ → Value → Frame → Frame
  yields n v b = record b { stack = b.stack ++ words_like (zero_result globals (result_of globals n)) v }

  pub calls : (n : ℕ) (vs : List Value) (args : List Word) (b : Frame) (callee : CodeFunction) (L : Given → Frames → Type 0) (c : Frames) → code_next code c ≡ entered n args (b ∷ callers) callee → Begins (Calling n vs) c
      → ((v : Value) → L (Yielded v) (yields n v b ∷ callers)) → Follows (needs (Calling n vs)) L c
  calls n vs args b callee L c is begins each = record { ends = go } where
    deep : Bool
    deep = nat_lt (length (b ∷ callers)) MAX_DEPTH

    halts : Halts (code_next code c)
    halts = subst Halts (sym is) (entry_halts deep n args b callers callee)

    go : (given : List Given) (d : Frames) → Gave globals code c given d → Ends L (needs (Calling n vs) given) d
    go [] d gave = (c, gave, (args, b, callee, is, begins))
    go (Told reply ∷ left) d (e, q, s, asks', suits, gave) =
        let same = stops (code_next code) c e halts s in
        absurd (entry_untold deep n args b callers callee q reply (sym is ∙ ap (code_next code) (sym same) ∙ asks') suits)
    go (Yielded v ∷ left) d (e, callee', b', bs', s, ticks, gave) =
        let same = stops (code_next code) c e halts s in
        let k = entry_known deep n args b callers callee callee' b' bs' (sym is ∙ ap (code_next code) (sym same) ∙ ticks) in
        let there : Gave globals code (yields callee'.function v b' ∷ bs') left d = gave in (
          yields n v b ∷ callers,
          each v,
          subst (λ (x : Frames). Gave globals code (yields n v b ∷ x) left d) k.others
              (subst (λ (x : Frame). Gave globals code (yields n v x ∷ bs') left d) k.waits
              (subst (λ (m : ℕ). Gave globals code (yields m v b' ∷ bs') left d) k.number there)),
        )
