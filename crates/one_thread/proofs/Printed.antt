-- What a request adds to the output.
use Rattle.logical_clock.specs.declared.limits.TheConstants.{MAX_GOROUTINES}
use Rattle.std.proofs.Common.{◌≡◌, ℕ, ℤ, pos, negsuc, Bool, true, false, cond, List, [], ◌∷◌, ◌++◌, length, Option, Some, None, refl, sym, ◌∙◌, append-nil}
use Rattle.std.specs.Prelude.{◌==◌, nat_lt}
use Rattle.word.specs.declared.panic.Panic.TheVariants.{ChannelSize, CloseOfClosed, SendOnClosed, TooManyChannels, TooManyGoroutines}
use Rattle.word.specs.declared.request.Case.{Case}
use Rattle.word.specs.Values.{Item, Request, Make, Go, Send, Receive, Close, Select, Len, Cap, Print, End, Exit, Panic, Exhausted, Sleeper, Offer, Channel, Shared}
use Rattle.word.specs.Requests.{Deed, channel_of, partner, sleeps, panics, send_to, do_send, receive_from, do_receive, send_ready, receive_ready, choose, do_clause, do_select, do_make, act}
use Rattle.one_thread.specs.Histories.{printed_by}

module _ (w : Shared) (n c : ℕ) (q : Request) where
  -- it prints nothing
  abbrev Quiet : Deed → Type 0
  Quiet d = d.shared.output ≡ w.output

  quiet_cond : (b : Bool) (d e : Deed) → Quiet d → Quiet e → Quiet (cond b d e)
  quiet_cond true d e f g = f
  quiet_cond false d e f g = g

  quiet_send_to : (k : ℕ) (ch : Channel) (item : Item) (i : ℕ) (o : Option (Sleeper × Offer)) → Quiet (send_to w n c q k ch item i o)
  quiet_send_to k ch item i None = refl
  quiet_send_to k ch item i (Some p) = refl

  quiet_send : (k : ℕ) (item : Item) (i : ℕ) → Quiet (do_send w n c q k item i)
  quiet_send k item i = quiet_cond (channel_of w.channels k).closed (panics w n c q SendOnClosed i) (send_to w n c q k (channel_of w.channels k) item i (partner k false w.asleep)) refl (quiet_send_to k (channel_of w.channels k) item i (partner k false w.asleep))

  quiet_receive_from : (k : ℕ) (ch : Channel) (i : ℕ) (items : List Item) (o : Option (Sleeper × Offer)) → Quiet (receive_from w n c q k ch i items o)
  quiet_receive_from k ch i (x ∷ xs) None = refl
  quiet_receive_from k ch i (x ∷ xs) (Some p) = refl
  quiet_receive_from k ch i [] None = refl
  quiet_receive_from k ch i [] (Some p) = refl

  quiet_receive : (k i : ℕ) → Quiet (do_receive w n c q k i)
  quiet_receive k i = quiet_receive_from k (channel_of w.channels k) i (channel_of w.channels k).items (partner k true w.asleep)

  quiet_clause : (i : ℕ) (chan : Option ℕ) (item : Option Item) → Quiet (do_clause w n c q i chan item)
  quiet_clause i None item = refl
  quiet_clause i (Some k) None = quiet_receive k i
  quiet_clause i (Some k) (Some item) = quiet_send k item i

  quiet_select : (default : Bool) (o : Option (ℕ × Case)) → Quiet (do_select w n c q default o)
  quiet_select default (Some x) = quiet_clause x.0 x.1.chan x.1.item
  quiet_select true None = refl
  quiet_select false None = refl

  quiet_make : (size : ℤ) (z : Item) → Quiet (do_make w n c q size z)
  quiet_make (negsuc m) z = refl
  quiet_make (pos size) z = quiet_cond (nat_lt 65536 size) (panics w n c q ChannelSize 0) _ refl (quiet_cond (length w.channels == 65537) (panics w n c q TooManyChannels 0) _ refl refl)

  nothing : (output : List ℕ) → output ≡ w.output → output ≡ w.output ++ []
  nothing output same = same ∙ sym (append-nil w.output)

  pub act_prints : (p : Request) → (act w n c q p).shared.output ≡ w.output ++ printed_by p
  act_prints (Make size z) = nothing _ (quiet_make size z)
  act_prints (Go f args) = nothing _ (quiet_cond (w.live == MAX_GOROUTINES) (panics w n c q TooManyGoroutines 0) _ refl refl)
  act_prints (Send None item) = nothing _ refl
  act_prints (Send (Some k) item) = nothing _ (quiet_cond (send_ready w n c q k) (do_send w n c q k item 0) (sleeps w n c q) (quiet_send k item 0) refl)
  act_prints (Receive None) = nothing _ refl
  act_prints (Receive (Some k)) = nothing _ (quiet_cond (receive_ready w n c q k) (do_receive w n c q k 0) (sleeps w n c q) (quiet_receive k 0) refl)
  act_prints (Close None) = nothing _ refl
  act_prints (Close (Some k)) = nothing _ (quiet_cond (channel_of w.channels k).closed (panics w n c q CloseOfClosed 0) _ refl refl)
  act_prints (Select cases default) = nothing _ (quiet_select default (choose w n c q cases))
  act_prints (Len None) = nothing _ refl
  act_prints (Len (Some k)) = nothing _ refl
  act_prints (Cap None) = nothing _ refl
  act_prints (Cap (Some k)) = nothing _ refl
  act_prints (Print bytes) = refl
  act_prints End = nothing _ refl
  act_prints Exit = nothing _ refl
  act_prints (Panic p) = nothing _ refl
  act_prints Exhausted = nothing _ refl
