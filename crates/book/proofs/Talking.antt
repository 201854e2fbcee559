-- Goroutines that send and receive words leave a book a book, and its leases out.
use Rattle.std.proofs.Common.{◌≡◌, ℕ, zero, suc, ◌⊎◌, Bool, false, true, Option, Some, Result, Ok, Err, sym, subst, inl, inr}
use Rattle.std.specs.Prelude.{IfOk, OnErr}
use Rattle.bytecode.specs.Code.{Code}
use Rattle.slot_index.specs.Numbers.{Numbered}
use Rattle.world_core_base.specs.Cores.{CoreValue, Works}
use Rattle.world_core_base.specs.Talking.{FailsTalk, IsMove, Moves, Stops, TakesTurn, Talks}
use Rattle.world_core_base.specs.declared.talked.Talked.{Talked}
use Rattle.world_core_base.specs.declared.talked.Talked.TheVariants as talked
use Rattle.book.specs.Desks.{Desk, KeepsLeases}
use Rattle.book.specs.Slots.{IsBook}
use Rattle.book.proofs.Books.{turn_is_desk, turn_keeps}
use Rattle.book.proofs.Ties.{turn_tied}
use Rattle.book.proofs.Whole.{book_works, works_leases}

module _ (code : Code) (limit : ℕ) (d : Desk) (places : Numbered) (silent : d.traces ≡ false) where
  abbrev with_core : CoreValue → Desk
  with_core core = record d { core = core }

  -- with this core it is a book, and each lease that was out is out
  pub record Keeps (core : CoreValue) : Type 0 where
    pub book : IsBook code limit (with_core core) places
    pub leases : KeepsLeases d (with_core core)

  worked : (quantum : ℕ) (answer : Option Bool) (old new : CoreValue) → Keeps old → Works d.code d.limit quantum old answer new → Keeps new
  worked quantum answer old new k w = record {
    book = book_works code limit (with_core old) places quantum answer new k.book w;
    leases = λ l out. works_leases (with_core old) quantum answer new w l (k.leases l out);
  }

  taken : (old new : CoreValue) → Keeps old → TakesTurn d.code d.limit old new → Keeps new
  taken old new k t =
      let h = k.book.desk in
      record {
        book = record {
          desk = turn_is_desk (with_core old) new h silent t;
          tied = turn_tied (with_core old) places t.number new h t.turn (t.passes.passed h.at.1 h.at.2.core).core.rows k.book.tied;
          code_is = k.book.code_is;
          limit_is = k.book.limit_is;
        };
        leases = λ l out. turn_keeps (with_core old) new h t l (k.leases l out);
      }

  moved : (quantum : ℕ) (old new : CoreValue) → Keeps old → IsMove d.code d.limit quantum old new → Keeps new
  moved quantum old new k (inl w) = worked quantum (Some true) old new k w
  moved quantum old new k (inr t) = taken old new k t

  moves : (quantum n : ℕ) (old new : CoreValue) → Keeps old → Moves d.code d.limit quantum n old new → Keeps new
  moves quantum zero old new k is = subst Keeps (sym is) k
  moves quantum (suc n) old new k m = moved quantum m.0 new (moves quantum n old m.0 k m.1) m.2

  stopped : (quantum : ℕ) (came : Talked) (old new : CoreValue) → Keeps old → Stops d.code d.limit quantum old came new → Keeps new
  stopped quantum talked.Enough old new k s = absurd s
  stopped quantum talked.Nobody old new k s = subst Keeps (sym s.0) k
  stopped quantum talked.Running old new k s = worked quantum (Some false) old new k s
  stopped quantum talked.Left old new k s = subst Keeps (sym s.0) k

  ended : (quantum least : ℕ) (came : Talked) (old new : CoreValue) → Keeps old → Talks d.code d.limit quantum least old came new → Keeps new
  ended quantum least talked.Enough old new k t = moves quantum t.0 old new k t.2
  ended quantum least talked.Nobody old new k t = stopped quantum talked.Nobody t.1 new (moves quantum t.0 old t.1 k t.2) t.3
  ended quantum least talked.Running old new k t = stopped quantum talked.Running t.1 new (moves quantum t.0 old t.1 k t.2) t.3
  ended quantum least talked.Left old new k t = stopped quantum talked.Left t.1 new (moves quantum t.0 old t.1 k t.2) t.3

  failed : (quantum : ℕ) (old new : CoreValue) → Keeps old → FailsTalk d.code d.limit quantum old new → Keeps new
  failed quantum old new k t = by t.3
    where
      mid : Keeps t.1
      mid = moves quantum t.0 old t.1 k t.2

      by : (new ≡ t.1) ⊎ ((answer : Option Bool) × Works d.code d.limit quantum t.1 answer new) → Keeps new
      by (inl is) = subst Keeps (sym is) mid
      by (inr w) = worked quantum w.0 t.1 new mid w.1

  pub talks_keep : {E : Type 0} (quantum least : ℕ) (r : Result Talked E) (new : CoreValue) → IsBook code limit d places → IfOk r (λ came. Talks d.code d.limit quantum least d.core came new) → OnErr r (FailsTalk d.code d.limit quantum d.core new) → Keeps new
  talks_keep {E} quantum least (Ok came) new h talks err = ended quantum least came d.core new (record { book = h; leases = λ l out. out }) talks
  talks_keep {E} quantum least (Err e) new h talks err = failed quantum d.core new (record { book = h; leases = λ l out. out }) err
