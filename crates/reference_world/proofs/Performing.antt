-- From one request's deed to what is shared in a whole world.
use Rattle.std.proofs.Common.{◌≡◌, ℕ, ◌+◌, ◌^◌, false, List, [], ◌∷◌, ◌++◌, length, None, refl, sym, ap, ◌∙◌, subst, length-append}
use Rattle.std.specs.Prelude.{◌==◌}
use Rattle.word.specs.Values.{Event, Request, Shared}
use Rattle.word.specs.Requests.{Deed, act, asked, meant, perform}
use Rattle.reference_world.specs.Deeds.{Acts, History, IsShownBy, MeetingValue, Performs, SharedValue, deed_of, ending_of, history_of, shared_with}
use Rattle.reference_world.specs.declared.deed.Deed.{Deed as Did}
use Rattle.reference_world.specs.declared.deed.Deed.TheVariants as did

-- what is shared is what the history and `v` show of it
whole : (w : Shared) (v : SharedValue) → IsShownBy w v → shared_with (history_of w) v v.meeting ≡ w
whole w v s = rw (s.asleep, s.channels, s.live, s.made, s.ending) refl

-- a deed says itself how the run ends
ends_itself : (h : History) (n c : ℕ) (q : Request) (deed : Did) (v : SharedValue) (m : MeetingValue) → v.ending ≡ None → deed_of h n c q deed v m ≡ deed_of h n c q deed (record v { ending = ending_of deed }) m
ends_itself h n c q (did.Done reply woken) v m e = rw e refl
ends_itself h n c q (did.Prints bytes) v m e = rw e refl
ends_itself h n c q (did.Starts function arguments) v m e = rw e refl
ends_itself h n c q did.Sleeps v m e = rw e refl
ends_itself h n c q did.Leaves v m e = rw e refl
ends_itself h n c q (did.Panics cause clause) v m e = refl
ends_itself h n c q (did.Ends end) v m e = refl

one_more : (es : List Event) (e : Event) (k : ℕ) → k ≡ length es → k + 1 ≡ length (es ++ e ∷ [])
one_more es e k is = rw (is, length-append) refl

-- after a deed its `v` shows what is shared
shown_after : (h : History) (n c : ℕ) (q : Request) (deed : Did) (v : SharedValue) (k : ℕ) → k ≡ length h.events → v.events ≡ k + 1 → v.ending ≡ ending_of deed → IsShownBy (deed_of h n c q deed v v.meeting).shared v
shown_after h n c q (did.Done reply woken) v k is e d = record { asleep = refl; channels = refl; live = refl; made = refl; events = e ∙ one_more h.events _ k is; ending = refl }
shown_after h n c q (did.Prints bytes) v k is e d = record { asleep = refl; channels = refl; live = refl; made = refl; events = e ∙ one_more h.events _ k is; ending = refl }
shown_after h n c q (did.Starts function arguments) v k is e d = record { asleep = refl; channels = refl; live = refl; made = refl; events = e ∙ one_more h.events _ k is; ending = refl }
shown_after h n c q did.Sleeps v k is e d = record { asleep = refl; channels = refl; live = refl; made = refl; events = e ∙ one_more h.events _ k is; ending = refl }
shown_after h n c q did.Leaves v k is e d = record { asleep = refl; channels = refl; live = refl; made = refl; events = e ∙ one_more h.events _ k is; ending = refl }
shown_after h n c q (did.Panics cause clause) v k is e d = record { asleep = refl; channels = refl; live = refl; made = refl; events = e ∙ one_more h.events _ k is; ending = d }
shown_after h n c q (did.Ends end) v k is e d = record { asleep = refl; channels = refl; live = refl; made = refl; events = e ∙ one_more h.events _ k is; ending = d }

-- the request that is meant, if the event is not the last one
meant_so : (w : Shared) (n k : ℕ) (q : Request) → k ≡ length w.events → (k + 1 == 2 ^ 62) ≡ false → meant w n q ≡ asked n q
meant_so w n k q is e = rw (← is, e) refl

-- what is done after the event is counted, `perform` does
pub performed : (old mid new last : SharedValue) (n c : ℕ) (q a : Request) (deed : Did) → old.ending ≡ None → (old.events + 1 == 2 ^ 62) ≡ false → mid ≡ record old { events = old.events + 1 } → a ≡ asked n q → Acts mid n c a deed new → new.events ≡ mid.events → new.ending ≡ mid.ending → last ≡ record new { ending = ending_of deed } → Performs old n c q deed last
performed old mid new last n c q a deed going room before means acts events ending following w shown =
    let h : History = history_of w in
    let end : SharedValue = record new { ending = ending_of deed } in
    let mid_is : shared_with h mid mid.meeting ≡ w = ap (λ (v : SharedValue). shared_with h v v.meeting) before ∙ whole w old shown in
    let asks : meant w n q ≡ a = meant_so w n old.events q shown.events room ∙ sym means in
    let open_end : new.ending ≡ None = ending ∙ ap (λ (v : SharedValue). v.ending) before ∙ going in
    let counted : new.events ≡ old.events + 1 = events ∙ ap (λ (v : SharedValue). v.events) before in
    let acted : act w n c a a ≡ deed_of h n c a deed end new.meeting = ap (λ (x : Shared). act x n c a a) (sym mid_is) ∙ acts h ∙ ends_itself h n c a deed new new.meeting open_end in
    let done : perform w n c q ≡ deed_of h n c (meant w n q) deed end new.meeting = rw asks acted in
    let P : SharedValue → Type 0 = λ v. (perform w n c q ≡ deed_of h n c (meant w n q) deed v v.meeting) × IsShownBy (perform w n c q).shared v in
    let S : Deed → Type 0 = λ d. IsShownBy d.shared end in
    subst P (sym following) (done, subst S (sym done) (shown_after h n c (meant w n q) deed end old.events shown.events counted refl))
