-- The output is only lengthened.
use Rattle.logical_clock.specs.declared.limits.TheConstants.{MAX_GOROUTINES}
use Rattle.std.proofs.Common.{◌≡◌, ℕ, ◌+◌, ℤ, pos, negsuc, Bool, true, false, cond, List, [], ◌∷◌, length, Option, Some, None, refl, sym, ap, ◌∙◌, append-nil, arith, ◌-◌, ◌≤◌}
use Rattle.std.specs.Prelude.{◌==◌, nat_lt}
use Rattle.std.specs.Option.{is_some}
use Rattle.turn_rule.specs.Schedule.{IsPrefixOf}
use Rattle.turn_rule.specs.Turns.{World as Whole, run}
use Rattle.turn_rule.proofs.Grows.{lengthens}
use Rattle.turn_rule.proofs.Stable.{run_add}
use Rattle.word.specs.Values.{Item, Case, Request, Make, Go, Send, Receive, Close, Select, Len, Cap, Print, End, Exit, Panic, Exhausted, Sleeper, Offer, Channel, Shared, ChannelSize, CloseOfClosed, SendOnClosed, TooManyChannels, TooManyGoroutines}
use Rattle.word.specs.Kinds.{GoroutineKind, Clocked, asks}
use Rattle.word.specs.Requests.{Deed, channel_of, partner, sleeps, panics, send_to, do_send, receive_from, do_receive, send_ready, receive_ready, choose, do_clause, do_select, do_make, act, meant}
use Rattle.word.specs.Worlds.{Rest, rules, performs, opening, moment}
use Rattle.word.proofs.Laws.{laws}

module _ (w : Shared) (n c : ℕ) (q : Request) where
  abbrev Longer : Deed → Type 0
  Longer d = IsPrefixOf w.output d.shared.output

  kept : IsPrefixOf w.output w.output
  kept = ([], append-nil w.output)

  longer_cond : (b : Bool) (d e : Deed) → Longer d → Longer e → Longer (cond b d e)
  longer_cond true d e f g = f
  longer_cond false d e f g = g

  longer_send_to : (k : ℕ) (ch : Channel) (item : Item) (i : ℕ) (o : Option (Sleeper × Offer)) → Longer (send_to w n c q k ch item i o)
  longer_send_to k ch item i None = kept
  longer_send_to k ch item i (Some p) = kept

  longer_send : (k : ℕ) (item : Item) (i : ℕ) → Longer (do_send w n c q k item i)
  longer_send k item i = longer_cond (channel_of w.channels k).closed (panics w n c q SendOnClosed i) (send_to w n c q k (channel_of w.channels k) item i (partner k false w.asleep)) kept (longer_send_to k (channel_of w.channels k) item i (partner k false w.asleep))

  longer_receive_from : (k : ℕ) (ch : Channel) (i : ℕ) (items : List Item) (o : Option (Sleeper × Offer)) → Longer (receive_from w n c q k ch i items o)
  longer_receive_from k ch i (x ∷ xs) None = kept
  longer_receive_from k ch i (x ∷ xs) (Some p) = kept
  longer_receive_from k ch i [] None = kept
  longer_receive_from k ch i [] (Some p) = kept

  longer_clause : (i : ℕ) (chan : Option ℕ) (item : Option Item) → Longer (do_clause w n c q i chan item)
  longer_clause i None item = kept
  longer_clause i (Some k) None = longer_receive_from k (channel_of w.channels k) i (channel_of w.channels k).items (partner k true w.asleep)
  longer_clause i (Some k) (Some item) = longer_send k item i

  longer_select : (default : Bool) (o : Option (ℕ × Case)) → Longer (do_select w n c q default o)
  longer_select default (Some x) = longer_clause x.0 x.1.chan x.1.item
  longer_select true None = kept
  longer_select false None = kept

  longer_make : (size : ℤ) (z : Item) → Longer (do_make w n c q size z)
  longer_make (negsuc m) z = kept
  longer_make (pos size) z = longer_cond (nat_lt 65536 size) (panics w n c q ChannelSize 0) _ kept (longer_cond (length w.channels == 65537) (panics w n c q TooManyChannels 0) _ kept kept)

  longer_act : (p : Request) → Longer (act w n c q p)
  longer_act (Make size z) = longer_make size z
  longer_act (Go f args) = longer_cond (w.live == MAX_GOROUTINES) (panics w n c q TooManyGoroutines 0) _ kept kept
  longer_act (Send None item) = kept
  longer_act (Send (Some k) item) = longer_cond (send_ready w n c q k) (do_send w n c q k item 0) (sleeps w n c q) (longer_send k item 0) kept
  longer_act (Receive None) = kept
  longer_act (Receive (Some k)) = longer_cond (receive_ready w n c q k) (do_receive w n c q k 0) (sleeps w n c q) (longer_receive_from k (channel_of w.channels k) 0 (channel_of w.channels k).items (partner k true w.asleep)) kept
  longer_act (Close None) = kept
  longer_act (Close (Some k)) = longer_cond (channel_of w.channels k).closed (panics w n c q CloseOfClosed 0) _ kept kept
  longer_act (Select cases default) = longer_select default (choose w n c q cases)
  longer_act (Len None) = kept
  longer_act (Len (Some k)) = kept
  longer_act (Cap None) = kept
  longer_act (Cap (Some k)) = kept
  longer_act (Print bytes) = (bytes, refl)
  longer_act End = kept
  longer_act Exit = kept
  longer_act (Panic p) = kept
  longer_act Exhausted = kept

module _ (K : GoroutineKind) (limit : ℕ) where
  abbrev output_of : Rest K.State → List ℕ
  output_of w = w.shared.output

  performs_longer : (w : Rest K.State) (n : ℕ) (s : Clocked K.State) (o : Option Request) → is_some o ≡ true → IsPrefixOf (output_of w) (output_of (performs K limit w n s o).shared)
  performs_longer w n s None h = cc
  performs_longer w n s (Some q) h = longer_act w.shared n s.clock (meant w.shared n q) (meant w.shared n q)

  outputs_by : (n d : ℕ) → IsPrefixOf (moment K limit n).shared.shared.output (run (rules K limit) d (moment K limit n)).shared.shared.output
  outputs_by n d = lengthens (rules K limit) output_of (λ w n s h. performs_longer w n s (asks K limit s) h) d (moment K limit n)

  -- the output at a moment begins that at each later one
  pub outputs_begin : (n m : ℕ) → n ≤ m → IsPrefixOf (moment K limit n).shared.shared.output (moment K limit m).shared.shared.output
  outputs_begin n m le =
      let z : n + (m - n) ≡ m = omega (arith, le) in
      let p = outputs_by n (m - n) in
      (p.0, p.1 ∙ ap (λ (x : Whole (Clocked K.State) (Rest K.State)). x.shared.shared.output) (sym (run_add (rules K limit) (laws K limit) n (m - n) (opening K)) ∙ ap (λ k. moment K limit k) z))
