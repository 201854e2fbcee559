-- Pieces of what a run writes, joined.
use Rattle.std.proofs.Common.{◌≡◌, ℕ, zero, suc, Bool, true, false, ◌+◌, ◌-◌, ◌≤◌, List, [], ◌∷◌, ◌++◌, length, take, drop, Option, Some, None, IfOk, IfSome, Result, Ok, Err, refl, sym, ap, ◌∙◌, subst, arith, append_assoc, length-append, append-nil}
use Rattle.std.specs.Io.KnownBytes.{Appends}
use Rattle.std.proofs.lemmas.List.{take-append-le, drop-append-le, length-drop, length-take-le}
use Rattle.std.proofs.lemmas.List.Concat.{flat_map-append}
use Rattle.std.proofs.Math.Seq.{take-add, take-length}
use Rattle.book.specs.Desks.{Desk, IsPiece, IsTracePiece, kept_trace}
use Rattle.bytecode.specs.Code.{Code}
use Rattle.bytecode.specs.Machine.{code_kind}
use Rattle.go_text.specs.declared.fault.Fault.{Fault}
use Rattle.output.specs.Progress.{IsNext, Run, piece_run, progress_place, run_of}
use Rattle.output.specs.declared.piece.Kind.{Kind}
use Rattle.output.specs.declared.piece.Kind.TheVariants.{Output, Trace}
use Rattle.output.specs.declared.piece.Piece.{Piece}
use Rattle.output.specs.declared.progress.Progress.{Progress}
use Rattle.tracer.specs.Trace.{trace, traceline}
use Rattle.turn_rule.specs.Schedule.{IsPrefixOf}
use Rattle.turn_rule.specs.Turns.{World}
use Rattle.turn_rule.proofs.Stable.{run_add}
use Rattle.word.specs.declared.end.End.{End as Ending}
use Rattle.word.specs.Kinds.{Clocked, GoroutineKind}
use Rattle.word.specs.Values.{Event}
use Rattle.word.specs.Worlds.{Rest, moment, opening, rules}
use Rattle.word.proofs.Laws.{laws}
use Rattle.word.proofs.Outputs.{outputs_begin}
use Rattle.word.proofs.Records.{events_begin}
use Rattle.book.specs.Handing.{Handing, HasEnded, IsHanding}
use Rattle.book.specs.Runs.{Begins, ComesOf, EndsAt, IsAll, IsHanded, IsOfRun, IsPieceOf, Written, bytes_after, bytes_of, output_run, trace_run}

pub appends_more : (old mid new : Option (List ℕ)) (xs ys : List ℕ) → Appends old mid xs → Appends mid new ys → Appends old new (xs ++ ys)
appends_more None mid new xs ys a b = tt
appends_more (Some os) None new xs ys a b = absurd a
appends_more (Some os) (Some ms) None xs ys a b = absurd b
appends_more (Some os) (Some ms) (Some ns) xs ys a b = b ∙ ap (λ zs. zs ++ ys) a ∙ append_assoc os xs ys

pub appends_none : (old : Option (List ℕ)) → Appends old old []
appends_none None = tt
appends_none (Some xs) = sym (append-nil xs)

-- a piece of a list is one of each that the list begins
longer_piece : (xs ys : List ℕ) (from size : ℕ) → IsPrefixOf xs ys → from + size ≤ length xs → (from + size ≤ length ys) × (take size (drop from ys) ≡ take size (drop from xs))
longer_piece xs ys from size p fits =
    let l = ap length p.1 in
    let m = length-append xs p.0 in
    let d = length-drop from xs in (
      omega (arith, fits, l, m),
      ap (λ zs. take size (drop from zs)) (sym p.1) ∙ ap (take size) (drop-append-le from xs p.0 (omega (arith, fits))) ∙ take-append-le size (drop from xs) p.0 (omega (arith, fits, d)),
    )

taken_twice : (xs : List ℕ) (a b : ℕ) → a ≤ b → take a (take b xs) ≡ take a xs
taken_twice xs zero b le = refl
taken_twice [] (suc a) zero le = refl
taken_twice [] (suc a) (suc b) le = refl
taken_twice (x ∷ xs) (suc a) zero le = absurd (omega (arith, le))
taken_twice (x ∷ xs) (suc a) (suc b) le = ap (λ ys. x ∷ ys) (taken_twice xs a b (omega (arith, le)))

-- two pieces one after the other, as both lie in one list
joined : (out xs ys : List ℕ) (k : ℕ) → k ≤ length ys → length xs + length ys ≤ length out → take (length xs) out ≡ xs → take (length ys) (drop (length xs) out) ≡ ys → take (length (xs ++ take k ys)) out ≡ xs ++ take k ys
joined out xs ys k le fits front back =
    let l : length (xs ++ take k ys) ≡ length xs + k = length-append xs (take k ys) ∙ ap (λ n. length xs + n) (length-take-le k ys le) in
    ap (λ n. take n out) l ∙ take-add (length xs) k out ∙ ap (λ zs. zs ++ take k (drop (length xs) out)) front
    ∙ ap (λ zs. xs ++ zs) (sym (taken_twice (drop (length xs) out) k (length ys) le) ∙ ap (take k) back)

-- ---- what a run writes is only lengthened

events_longer : (K : GoroutineKind) (limit n m : ℕ) → n ≤ m → IsPrefixOf (moment K limit n).shared.shared.events (moment K limit m).shared.shared.events
events_longer K limit n m le =
    let z : n + (m - n) ≡ m = omega (arith, le) in
    let p = events_begin K limit n (m - n) in
    (p.0, p.1 ∙ ap (λ (x : World (Clocked K.State) (Rest K.State)). x.shared.shared.events) (sym (run_add (rules K limit) (laws K limit) n (m - n) (opening K)) ∙ ap (λ k. moment K limit k) z))

trace_longer : (xs ys : List Event) → IsPrefixOf xs ys → IsPrefixOf (trace xs) (trace ys)
trace_longer xs ys p = (trace p.0, sym (flat_map-append traceline xs p.0) ∙ ap trace p.1)

kind_longer : (kind : Kind) (K : GoroutineKind) (limit n m : ℕ) → n ≤ m → IsPrefixOf (bytes_of kind (moment K limit n).shared.shared) (bytes_of kind (moment K limit m).shared.shared)
kind_longer Output K limit n m le = outputs_begin K limit n m le
kind_longer Trace K limit n m le = trace_longer (moment K limit n).shared.shared.events (moment K limit m).shared.shared.events (events_longer K limit n m le)

module _ (run : Run) where
  bytes_longer : (n m : ℕ) → n ≤ m → IsPrefixOf (bytes_after run n) (bytes_after run m)
  bytes_longer n m le = kind_longer run.kind (code_kind run.program) run.limit n m le

  -- a piece is there later too
  piece_later : (from : ℕ) (bytes : List ℕ) (p : IsPieceOf run from bytes) (m : ℕ) → p.0 ≤ m → (from + length bytes ≤ length (bytes_after run m)) × (take (length bytes) (drop from (bytes_after run m)) ≡ bytes)
  piece_later from bytes p m le =
      let q = longer_piece (bytes_after run p.0) (bytes_after run m) from (length bytes) (bytes_longer p.0 m le) p.1 in
      (q.0, q.1 ∙ p.2)

  pieces_join : (xs ys : List ℕ) (k : ℕ) → k ≤ length ys → IsPieceOf run 0 xs → IsPieceOf run (length xs) ys → IsPieceOf run 0 (xs ++ take k ys)
  pieces_join xs ys k le p q =
      let m = p.0 + q.0 in
      let a = piece_later 0 xs p m (omega arith) in
      let b = piece_later (length xs) ys q m (omega arith) in
      let l = length-append xs (take k ys) in
      let t = length-take-le k ys le in
      let size = b.0 in
      (m, omega (arith, l, t, size, le), joined (bytes_after run m) xs ys k le b.0 a.1 b.1)

  -- the first k bytes of the next piece are written
  pub written_more : (known old new : Option (List ℕ)) (place from k : ℕ) (bytes : List ℕ) → from ≡ place → IsPieceOf run from bytes → k ≤ length bytes → Appends old new (take k bytes) → Written run known old place → Written run known new (place + k)
  written_more known old new place from k bytes at p le a w =
      let e = w.3 in
      let q : IsPieceOf run (length w.0) bytes = subst (λ n. IsPieceOf run n bytes) (at ∙ sym e) p in
      let l = length-append w.0 (take k bytes) in
      let t = length-take-le k bytes le in
      (w.0 ++ take k bytes, appends_more known old new w.0 (take k bytes) w.1 a, pieces_join w.0 bytes k le w.2 q, omega (arith, e, l, t))

  -- the bytes of the next piece are written, up to an offset
  pub written_to : (known old new : Option (List ℕ)) (place to from : ℕ) (bytes : List ℕ) → from ≡ place → place ≤ to → to ≤ place + length bytes → IsPieceOf run from bytes → Appends old new (take (to - place) bytes) → Written run known old place → Written run known new to
  written_to known old new place to from bytes at le most p a w =
      subst (λ n. Written run known new n) (omega (arith, le)) (written_more known old new place from (to - place) bytes at p (omega (arith, le, most)) a w)

  -- nothing is written yet
  pub written_none : (known : Option (List ℕ)) → Written run known known 0
  written_none known = ([], appends_none known, (0, omega arith, refl), refl)

  pub written_begins : (known new : Option (List ℕ)) (place : ℕ) → Written run known new place → Begins run.kind (code_kind run.program) run.limit known new
  written_begins known new place w = (w.2.0, length w.0, subst (Appends known new) (sym w.2.2) w.1)

  -- what was written up to the end is all of it
  pub written_all : (known new : Option (List ℕ)) (size : ℕ) (ending : Ending) → Written run known new size → EndsAt run size ending → IsAll run.kind (code_kind run.program) run.limit known new ending
  written_all known new size ending w e =
      let m = e.0 + w.2.0 in
      let a = piece_later 0 w.0 w.2 m (omega arith) in
      let p = bytes_longer e.0 m (omega arith) in
      let out = bytes_after run e.0 in
      let big = longer_piece out (bytes_after run m) 0 (length out) p (omega arith) in
      let len : length w.0 ≡ length out = w.3 ∙ sym e.1 in
      let same : w.0 ≡ out = sym a.1 ∙ ap (λ k. take k (bytes_after run m)) len ∙ big.1 ∙ take-length out in
      (e.0, subst (Appends known new) same w.1, e.2)

  -- the run goes on, or stops
  pub comes_to_fault : (known new : Option (List ℕ)) (place : ℕ) (fault : Fault) → Written run known new place → ComesOf run known new (Err fault)
  comes_to_fault known new place fault w = record { begins = written_begins known new place w; all = tt }

  -- the run ends, and all is written
  pub comes_to_end : (known new : Option (List ℕ)) (place : ℕ) (ending : Ending) → Written run known new place → EndsAt run place ending → ComesOf run known new (Ok ending)
  comes_to_end known new place ending w e = record { begins = written_begins known new place w; all = written_all known new place ending w e }

-- ---- the run of a name

abbrev run_at : Code → ℕ → Kind → Run
run_at code limit kind = record { program = code; limit = limit; kind = kind }

same_run : (kind : Kind) (code : Code) (limit : ℕ) (traces : Bool) (d : Desk) → IsOfRun code limit traces d → run_at d.code d.limit kind ≡ run_at code limit kind
same_run kind code limit traces d is = ap (λ c. run_at c d.limit kind) is.code ∙ ap (λ l. run_at code l kind) is.limit

-- the end of the book's run
output_ends : (code : Code) (limit : ℕ) (traces : Bool) (d : Desk) (ending : Ending) → IsOfRun code limit traces d → HasEnded d ending → EndsAt (output_run code limit) (d.taken + length d.pending) ending
output_ends code limit traces d ending is e =
    subst (λ (run : Run). EndsAt run (d.taken + length d.pending) ending) (same_run Output code limit traces d is) (e.moves, e.bytes, e.ending)

trace_ends : (code : Code) (limit : ℕ) (traces : Bool) (d : Desk) (ending : Ending) → IsOfRun code limit traces d → traces ≡ true → HasEnded d ending → EndsAt (trace_run code limit) (d.traced + length d.lines) ending
trace_ends code limit traces d ending is kept e =
    let lines = subst (λ b. length (kept_trace b (moment (code_kind d.code) d.limit e.moves).shared.shared.events) ≡ d.traced + length d.lines) (is.traces ∙ kept) e.lines in
    subst (λ (run : Run). EndsAt run (d.traced + length d.lines) ending) (same_run Trace code limit traces d is) (e.moves, lines, e.ending)

-- a piece that is taken out of the book
pub hands_output : (code : Code) (limit : ℕ) (traces : Bool) (d : Desk) (piece : Piece) → IsOfRun code limit traces d → piece_run piece ≡ output_run d.code d.limit → IsPiece d.code d.limit piece.from piece.bytes.items → IsHanded (output_run code limit) piece
hands_output code limit traces d piece is run stands =
    let same = same_run Output code limit traces d is in
    record { run = run ∙ same; stands = subst (λ (r : Run). IsPieceOf r piece.from piece.bytes.items) same stands }

pub hands_trace : (code : Code) (limit : ℕ) (traces : Bool) (d : Desk) (piece : Piece) → IsOfRun code limit traces d → piece_run piece ≡ trace_run d.code d.limit → IsTracePiece d.code d.limit piece.from piece.bytes.items → IsHanded (trace_run code limit) piece
hands_trace code limit traces d piece is run stands =
    let same = same_run Trace code limit traces d is in
    record { run = run ∙ same; stands = subst (λ (r : Run). IsPieceOf r piece.from piece.bytes.items) same stands }

reaches_to : (run : Run) (from size : ℕ) (bytes pending : List ℕ) (ending : Ending) → from ≡ size → bytes ≡ pending → EndsAt run (size + length pending) ending → EndsAt run (from + length bytes) ending
reaches_to run from size bytes pending ending f b e = subst (λ (n : ℕ). EndsAt run n ending) (let l = ap length b in omega (arith, f, l)) e

-- both pieces, with the end that they reach to
pub handing : (code : Code) (limit : ℕ) (traces : Bool) (d : Desk) (output lines : Piece) (end : Option Ending) → IsOfRun code limit traces d
    → IsHanded (output_run code limit) output → output.from ≡ d.taken → output.bytes.items ≡ d.pending
    → IsHanded (trace_run code limit) lines → lines.from ≡ d.traced → lines.bytes.items ≡ d.lines
    → IfSome end (HasEnded d) → IsHanding code limit traces (record { output = output; trace = lines; end = end })
handing code limit traces d output lines None is o of ob t tf tb e = record { output = o; trace = t; output_ends = tt; trace_ends = λ kept. tt }
handing code limit traces d output lines (Some ending) is o of ob t tf tb e = record {
  output = o;
  trace = t;
  output_ends = reaches_to (output_run code limit) output.from d.taken output.bytes.items d.pending ending of ob (output_ends code limit traces d ending is e);
  trace_ends = λ kept. reaches_to (trace_run code limit) lines.from d.traced lines.bytes.items d.lines ending tf tb (trace_ends code limit traces d ending is kept e);
}

-- ---- how far the writers have come

pub is_next : (p : Progress) (piece : Piece) → IsHanded (run_of p) piece → piece.from ≡ progress_place p → IsNext p piece
is_next p piece h from = record {
  program = ap (λ (x : Run). x.program) h.run;
  limit = ap (λ (x : Run). x.limit) h.run;
  kind = ap (λ (x : Run). x.kind) h.run;
  from = from;
}

-- the same of the run that it is
pub wrote_on : (r s : Run) (known old new : Option (List ℕ)) (a b : ℕ) → r ≡ s → ((k : Option (List ℕ)) → Written r k old a → Written r k new b) → Written s known old a → Written s known new b
wrote_on r s known old new a b is writes w = subst (λ (x : Run). Written x known new b) is (writes known (subst (λ (x : Run). Written x known old a) (sym is) w))

pub hands_next : (p : Progress) (piece : Piece) (run : Run) → run_of p ≡ run → IsHanded run piece → IsHanded (run_of p) piece
hands_next p piece run is h = subst (λ (x : Run). IsHanded x piece) (sym is) h

-- the offset up to which a piece was written
pub reached : (place amount old : ℕ) (piece out : Piece) → piece ≡ out → place ≡ piece.from + length piece.bytes.items → out.from ≡ old → amount ≡ old + length out.bytes.items → place ≡ amount
reached place amount old piece out same up from more = up ∙ ap (λ (p : Piece). p.from + length p.bytes.items) same ∙ ap (λ n. n + length out.bytes.items) from ∙ sym more

-- the last pieces are written
pub output_to_end : (code : Code) (limit : ℕ) (traces : Bool) (h : Handing) (piece : Piece) (found : Option Ending) (ending : Ending) (place : ℕ) → IsHanding code limit traces h → piece ≡ h.output → found ≡ h.end → found ≡ Some ending → place ≡ piece.from + length piece.bytes.items → EndsAt (output_run code limit) place ending
output_to_end code limit traces h piece found ending place is same same_end at up =
    let ends : EndsAt (output_run code limit) (h.output.from + length h.output.bytes.items) ending = subst (λ (e : Option Ending). IfSome e (EndsAt (output_run code limit) (h.output.from + length h.output.bytes.items))) (sym same_end ∙ at) is.output_ends in
    subst (λ (n : ℕ). EndsAt (output_run code limit) n ending) (sym (up ∙ ap (λ (p : Piece). p.from + length p.bytes.items) same)) ends

pub trace_to_end : (code : Code) (limit : ℕ) (traces : Bool) (h : Handing) (piece : Piece) (found : Option Ending) (ending : Ending) (place : ℕ) → IsHanding code limit traces h → traces ≡ true → piece ≡ h.trace → found ≡ h.end → found ≡ Some ending → place ≡ piece.from + length piece.bytes.items → EndsAt (trace_run code limit) place ending
trace_to_end code limit traces h piece found ending place is kept same same_end at up =
    let ends : EndsAt (trace_run code limit) (h.trace.from + length h.trace.bytes.items) ending = subst (λ (e : Option Ending). IfSome e (EndsAt (trace_run code limit) (h.trace.from + length h.trace.bytes.items))) (sym same_end ∙ at) (is.trace_ends kept) in
    subst (λ (n : ℕ). EndsAt (trace_run code limit) n ending) (sym (up ∙ ap (λ (p : Piece). p.from + length p.bytes.items) same)) ends

-- nothing was written yet
pub begun : (run : Run) (known : Option (List ℕ)) (place : ℕ) → place ≡ 0 → Written run known known place
begun run known place none = ([], appends_none known, (0, omega arith, refl), sym none)

-- a run that comes to a refusal
pub stops : (run : Run) (known new : Option (List ℕ)) (place : ℕ) (outcome : Result Ending Fault) (fault : Fault) → outcome ≡ Err fault → Written run known new place → ComesOf run known new outcome
stops run known new place outcome fault is w = subst (λ (r : Result Ending Fault). ComesOf run known new r) (sym is) (comes_to_fault run known new place fault w)

-- ---- a trace that nobody reads: what its writer holds is not known

pub read_begins : (traces : Bool) (K : GoroutineKind) (limit : ℕ) (known new : Option (List ℕ)) → (traces ≡ false → known ≡ None) → (traces ≡ true → Begins Trace K limit known new) → Begins Trace K limit known new
read_begins true K limit known new unknown begins = begins refl
read_begins false K limit known new unknown begins = subst (λ (k : Option (List ℕ)). Begins Trace K limit k new) (sym (unknown refl)) (0, 0, tt)

pub read_whole : (traces : Bool) (K : GoroutineKind) (limit : ℕ) (out written known new : Option (List ℕ)) (outcome : Result Ending Fault) → (traces ≡ false → known ≡ None) → IfOk outcome (IsAll Output K limit out written) → (traces ≡ true → IfOk outcome (IsAll Trace K limit known new)) → IfOk outcome (IsAll Trace K limit known new)
read_whole traces K limit out written known new (Err fault) unknown output all = tt
read_whole true K limit out written known new (Ok ending) unknown output all = all refl
read_whole false K limit out written known new (Ok ending) unknown output all = subst (λ (k : Option (List ℕ)). IsAll Trace K limit k new ending) (sym (unknown refl)) (output.0, tt, output.2)
