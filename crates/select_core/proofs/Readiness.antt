-- Which clauses are ready.
use Rattle.std.proofs.Common.{◌≡◌, ◌∙◌, ℕ, zero, suc, ◌<◌, true, List, [], ◌∷◌, get_or, length, Option, Some, None, refl, sym, ap, arith}
use Rattle.std.specs.Prelude.{slice_index_or}
use Rattle.std.specs.Option.{is_some}
use Rattle.word.specs.declared.request.Case.{Case}
use Rattle.word.specs.Values.{Item, Request, Shared}
use Rattle.word.specs.Requests.{is_ready}
use Rattle.channel_core.specs.Channels.{ChannelsValue, Others, shared_with}
use Rattle.select_core.specs.Choices.{IsOpenAt}

-- a clause on nil is not ready
ready_is_open : (w : Shared) (n c : ℕ) (q : Request) (chan : Option ℕ) (item : Option Item) → is_ready w n c q chan item ≡ true → is_some chan ≡ true
ready_is_open w n c q None item h = cc
ready_is_open w n c q (Some k) item h = refl

pub at_place : (cases : List Case) (i : ℕ) (x y : Case) → i < length cases → x ≡ get_or cases i x → slice_index_or cases i y ≡ x
at_place [] i x y within is = absurd (omega (arith, within))
at_place (z ∷ zs) zero x y within is = sym is
at_place (z ∷ zs) (suc i) x y within is = at_place zs i x y (omega (arith, within)) is

-- the ready clause at index `i` is not on nil
pub open_at : (v : ChannelsValue) (cases : List Case) (i : ℕ) (x : Case) → i < length cases → x ≡ get_or cases i x → ((o : Others) (n c : ℕ) (q : Request) → true ≡ is_ready (shared_with o v) n c q x.chan x.item) → (q : Request) → IsOpenAt i cases
open_at v cases i x within is ready q =
    let o : Others = record { output = []; live = 0; made = 0; events = []; ending = None } in
    (within, ap (λ (y : Case). is_some y.chan) (at_place cases i x _ within is) ∙ ready_is_open (shared_with o v) 0 0 q x.chan x.item (sym (ready o 0 0 q)))
