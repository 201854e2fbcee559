-- If the end of a plan, a break or a continue in it is not reached, it does not matter where it would lead.
use Rattle.std.proofs.Common.{◌≡◌, ℕ, ◌+◌, Bool, true, false, List, Option, Some, None, IfSome, IsTrue, refl, sym, ◌∙◌, subst}
use Rattle.std.proofs.lemmas.Bool.{false≢true, and_from, or_left, or_right}
use Rattle.bytecode.specs.declared.instr.Instr.{Instr}
use Rattle.bytecode.specs.declared.instr.Instr.TheVariants as instrs
use Rattle.bytecode.specs.Code.{SelectTable}
use Rattle.plan.specs.Plan.{Plan, Skip, Do, Seq, IfElse, IfThen, Cycle, Endless, Choose, Way, LastWay, Stop, Leave, Again, reaches_end, has_break, has_continue, turns, size, jump_size}
use Rattle.plan.proofs.Places.{At, Leads, On}

map_some : (o : Option ℕ) (A B : ℕ → Type 0) → ((n : ℕ) → A n → B n) → IfSome o A → IfSome o B
map_some None A B go h = tt
map_some (Some n) A B go h = go n h

-- both cases of a truth value
by_case : {A : Type 0} (b : Bool) → (b ≡ true → A) → (b ≡ false → A) → A
by_case true sure nay = sure refl
by_case false sure nay = nay refl

module _ (selects : List SelectTable) (is : List Instr) where
  abbrev O : Option ℕ → Option ℕ → Plan → ℕ → Option ℕ → Type 0
  O leave again p place out = On selects is leave again p place out

  abbrev Round : Option ℕ → Option ℕ → Plan → ℕ → ℕ → Type 0
  Round leave again post place m = (turn : ℕ) × O leave again post m (Some turn) × At is turn (instrs.Loop place)

  never : (b : Bool) (x y : Option ℕ) → b ≡ false → IsTrue b → x ≡ y
  never b x y nay sure = absurd (false≢true (sym nay ∙ sure))

  pub narrow : (p : Plan) (place : ℕ) (leave again out leave' again' out' : Option ℕ) → (IsTrue (reaches_end p) → out ≡ out') → (IsTrue (has_break p) → leave ≡ leave') → (IsTrue (has_continue p) → again ≡ again') → O leave again p place out → O leave' again' p place out'
  narrow Skip place leave again out leave' again' out' o b c on = subst (Leads is place) (o refl) on
  narrow (Do i rest) place leave again out leave' again' out' o b c on = (on.0, narrow rest (place + 1) leave again out leave' again' out' o b c on.1)
  narrow (Seq first rest) place leave again out leave' again' out' o b c (mid, a, r) =
      by_case (reaches_end first)
      (λ sure. (
        mid,
        narrow first place leave again mid leave' again' mid (λ x. refl) (λ x. b (or_left _ _ x)) (λ x. c (or_left _ _ x)) a,
        map_some mid (λ m. O leave again rest m out) (λ m. O leave' again' rest m out') (λ m on. narrow rest m leave again out leave' again' out' (λ x. o (and_from _ _ sure x)) (λ x. b (or_right _ _ (and_from _ _ sure x))) (λ x. c (or_right _ _ (and_from _ _ sure x))) on) r,
      ))
      (λ nay. (None, narrow first place leave again mid leave' again' None (never (reaches_end first) mid None nay) (λ x. b (or_left _ _ x)) (λ x. c (or_left _ _ x)) a, tt))
  narrow (IfElse so other) place leave again out leave' again' out' o b c (next, at, x, y) = (
    next,
    at,
    narrow so (place + 1) leave again out leave' again' out' (λ x. o (or_left _ _ x)) (λ x. b (or_left _ _ x)) (λ x. c (or_left _ _ x)) x,
    narrow other next leave again out leave' again' out' (λ x. o (or_right _ _ x)) (λ x. b (or_right _ _ x)) (λ x. c (or_right _ _ x)) y,
  )
  narrow (IfThen so) place leave again out leave' again' out' o b c (next, at, x, y) = (next, at, narrow so (place + 1) leave again out leave' again' out' (λ x. o refl) b c x, subst (Leads is next) (o refl) y)
  narrow (Cycle test body post exit) place leave again out leave' again' out' o b c (check, post_at, exit_at, t, at, x, p, e) =
      let test_on = narrow test place leave again (Some check) leave' again' (Some check) (λ x. refl) (λ x. b (or_left _ _ x)) (λ x. c (or_left _ _ x)) t in
      let exit_on = narrow exit exit_at leave again out leave' again' out' (λ x. o refl) (λ x. b (or_right _ _ (or_right _ _ x))) (λ x. c (or_right _ _ (or_right _ _ x))) e in
      by_case (turns body)
      (λ sure. (
        check,
        post_at,
        exit_at,
        test_on,
        at,
        narrow body (check + 1) out post_at post_at out' post_at post_at (λ x. refl) (λ x. o refl) (λ x. refl) x,
        map_some post_at (Round leave again post place) (Round leave' again' post place)
            (λ m h. (h.0, narrow post m leave again (Some h.0) leave' again' (Some h.0) (λ x. refl) (λ x. b (or_right _ _ (or_left _ _ (and_from _ _ sure x)))) (λ x. c (or_right _ _ (or_left _ _ (and_from _ _ sure x)))) h.1, h.2)) p,
        exit_on,
      ))
      (λ nay. (
        check,
        None,
        exit_at,
        test_on,
        at,
        narrow body (check + 1) out post_at post_at out' None None (λ x. never (turns body) post_at None nay (or_left _ _ x)) (λ x. o refl) (λ x. never (turns body) post_at None nay (or_right _ _ x)) x,
        tt,
        exit_on,
      ))
  narrow (Endless body post) place leave again out leave' again' out' o b c (post_at, x, p) =
      by_case (turns body)
      (λ sure. (
        post_at,
        narrow body place out post_at post_at out' post_at post_at (λ x. refl) o (λ x. refl) x,
        map_some post_at (Round leave again post place) (Round leave' again' post place)
            (λ m h. (h.0, narrow post m leave again (Some h.0) leave' again' (Some h.0) (λ x. refl) (λ x. b (and_from _ _ sure x)) (λ x. c (and_from _ _ sure x)) h.1, h.2)) p,
      ))
      (λ nay. (None, narrow body place out post_at post_at out' None None (λ x. never (turns body) post_at None nay (or_left _ _ x)) o (λ x. never (turns body) post_at None nay (or_right _ _ x)) x, tt))
  narrow (Choose q make ways) place leave again out leave' again' out' o b c (at, table, x) = (at, table, narrow ways (place + 1) out again out out' again' out' (λ x. o (or_left _ _ x)) (λ x. o (or_right _ _ x)) c x)
  narrow (Way ks body others) place leave again out leave' again' out' o b c (x, y) = (
    narrow body place leave again out leave' again' out' (λ x. o (or_left _ _ x)) (λ x. b (or_left _ _ x)) (λ x. c (or_left _ _ x)) x,
    narrow others (place + size body + jump_size body) leave again out leave' again' out' (λ x. o (or_right _ _ x)) (λ x. b (or_right _ _ x)) (λ x. c (or_right _ _ x)) y,
  )
  narrow (LastWay ks body) place leave again out leave' again' out' o b c on = narrow body place leave again out leave' again' out' o b c on
  narrow Stop place leave again out leave' again' out' o b c on = on
  narrow Leave place leave again out leave' again' out' o b c on = subst (Leads is place) (b refl) on
  narrow Again place leave again out leave' again' out' o b c on = subst (Leads is place) (c refl) on

  -- a plan whose end is not reached leads nowhere
  pub unreached : (p : Plan) (place : ℕ) (leave again out : Option ℕ) → reaches_end p ≡ false → O leave again p place out → O leave again p place None
  unreached p place leave again out nay on = narrow p place leave again out leave again None (never (reaches_end p) out None nay) (λ x. refl) (λ x. refl) on
