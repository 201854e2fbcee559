-- If one kind follows another step by step, and the silent steps of that one end, it is followed by it too: each goes on to its next step
-- that isn't silent, and these are the same.
use Rattle.std.proofs.Common.{◌≡◌, ℕ, zero, suc, ◌<◌, List, [], refl, sym, subst, arith}
use Rattle.word.specs.declared.end.End.{End as Ending}
use Rattle.word.specs.Values.{Request, Make, Go, Send, Receive, Close, Select, Len, Cap, Print, End, Exit, Panic, Exhausted}
use Rattle.word.specs.Kinds.{Next, Slides, Ticks, Asks, Stuck, GoroutineKind}
use Rattle.word.specs.Related.{Slips, here, more, Falls, Starts, Answers, Matches}
use Rattle.allowed.specs.Orders.{Allowed}
use Rattle.allowed.proofs.Followed.{allowed_too}
use Rattle.allowed.proofs.Related.{slips_on}

module _ (K M : GoroutineKind) (R : K.State → M.State → Type 0) where
  -- after silent steps of both
  pub data Ahead (c : M.State) (s : K.State) : Type 0 where
    ticking : (c' e : M.State) (s' t : K.State) → Slips M.next c c' → Slips K.next s s' → M.next c' ≡ Ticks e → K.next s' ≡ Ticks t → R t e → Ahead c s
    asking : (c' : M.State) (s' : K.State) (q : Request) → Slips M.next c c' → Slips K.next s s' → M.next c' ≡ Asks q → K.next s' ≡ Asks q → Answers K M R q s' c' → Starts K M R q → Ahead c s

  before : (c d : M.State) (s t : K.State) → Slips M.next c d → Slips K.next s t → Ahead d t → Ahead c s
  before c d s t m k (ticking c' e s' u m' k' f g r) = ticking c' e s' u (slips_on M.next c d c' m m') (slips_on K.next s t s' k k') f g r
  before c d s t m k (asking c' s' q m' k' f g answers starts) = asking c' s' q (slips_on M.next c d c' m m') (slips_on K.next s t s' k k') f g answers starts

  module _ (size : K.State → ℕ) (sim : (s : K.State) (c : M.State) → R s c → Matches K M R s (K.next s) c) (falls : (s : K.State) → Falls size (size s) (K.next s)) where
    ahead_by : (n : ℕ) (s : K.State) (c : M.State) → size s < n → R s c → Ahead c s
    ahead_by zero s c lt r = absurd (omega (arith, lt))
    ahead_by (suc n) s c lt r = go (λ a d lt' r'. ahead_by n a d lt' r') (K.next s) refl (sim s c r) (falls s)
      where
        go : ((a : K.State) (d : M.State) → size a < n → R a d → Ahead d a) → (x : Next K.State) → K.next s ≡ x → Matches K M R s x c → Falls size (size s) x → Ahead c s
        go rec (Slides a) e m f = before c m.0 s a m.1 (more e here) (rec a m.0 (omega (arith, lt, f)) m.2)
        go rec (Ticks a) e m f = ticking m.0 m.1 s a m.2 here m.3 e m.4
        go rec (Asks q) e m f = asking m.0 s q m.1 here m.2 e m.3 m.4
        go rec Stuck e m f = absurd m

    pub ahead : (s : K.State) (c : M.State) → R s c → Ahead c s
    ahead s c r = ahead_by (suc (size s)) s c (omega arith) r

    starts_back : (q : Request) → Starts K M R q → Starts M K Ahead q
    starts_back (Go function args) h = ahead (K.begin function args) (M.begin function args) h
    starts_back (Make count z) h = tt
    starts_back (Send c item) h = tt
    starts_back (Receive c) h = tt
    starts_back (Close c) h = tt
    starts_back (Select cases default) h = tt
    starts_back (Len c) h = tt
    starts_back (Cap c) h = tt
    starts_back (Print bytes) h = tt
    starts_back End h = tt
    starts_back Exit h = tt
    starts_back (Panic cause) h = tt
    starts_back Exhausted h = tt

    back_matches : (c : M.State) (s : K.State) → Ahead c s → Matches M K Ahead c (M.next c) s
    back_matches c s (ticking c' e s' t here k f g r) = subst (λ (x : Next M.State). Matches M K Ahead c x s) (sym f) (s', t, k, g, ahead t e r)
    back_matches c s (ticking c' e s' t (more {b = b} h rest) k f g r) = subst (λ (x : Next M.State). Matches M K Ahead c x s) (sym h) (s, here, ticking c' e s' t rest k f g r)
    back_matches c s (asking c' s' q here k f g answers starts) =
        subst (λ (x : Next M.State). Matches M K Ahead c x s) (sym f) (s', k, g, (λ reply suits. ahead (K.answer s' reply) (M.answer c reply) (answers reply suits)), starts_back q starts)
    back_matches c s (asking c' s' q (more {b = b} h rest) k f g answers starts) =
        subst (λ (x : Next M.State). Matches M K Ahead c x s) (sym h) (s, here, asking c' s' q rest k f g answers starts)

    -- whatever is allowed of the one that follows is allowed of the one that is followed
    pub allowed_back : R (K.begin K.main []) (M.begin M.main []) → (output : List ℕ) (ending : Ending) → Allowed M output ending → Allowed K output ending
    allowed_back start = allowed_too M K Ahead back_matches (ahead (K.begin K.main []) (M.begin M.main []) start)
