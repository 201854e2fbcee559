-- Statements: the code does what the source does.
use Rattle.std.proofs.Common.{◌≡◌, ℕ, ◌+◌, ◌≤◌, List, [], length, map, Option, Some, None, refl, subst, arith, slice_get, inl}
use Rattle.syntax.specs.Tree.{Simple, CallAlone, Close, Print, ReceiveAlone, Send, Increment, Decrement, Assign, Define, Update, Statement, Empty, Alone, VarTyped, VarUntyped, Block, If, For, Forever, While, ForClauses, Range, Select, Go, Return, Break, Continue, Conditional, NoTarget, DefineTarget, AssignTarget}
use Rattle.bytecode.specs.Machine.{Frames as CodeFrames}
use Rattle.type_table.specs.Scopes.{Globals}
use Rattle.meaning.specs.Worked.{Worked}
use Rattle.meaning.specs.Tasks.{Task, Course}
use Rattle.meaning.specs.Source.{simple_work, statement_work}
use Rattle.codegen_base.specs.Statements.{printed_part}
use Rattle.plan.proofs.Words.{Words}
use Rattle.codegen_base.proofs.Running.{Compiled, Coded}
use Rattle.codegen_follows.proofs.Grown.{grown}
use Rattle.codegen_follows.proofs.Stands.{Around, View, scope_of, variables, Together, following, Doing}
use Rattle.codegen_follows.proofs.Simulated.{Simulated, Held, Rest, blocks_of, at, Works, Position}
use Rattle.codegen_follows.proofs.Follows.{empty_goes, block_goes, break_goes, continue_goes}
use Rattle.codegen_follows.proofs.Branches.{if_goes}
use Rattle.codegen_follows.proofs.Loops.{forever_goes, while_goes, clauses_first_goes, clauses_bare_goes}
use Rattle.codegen_follows.proofs.Requests.{close_goes, send_goes, receive_alone_goes}
use Rattle.codegen_follows.proofs.Calling.{call_alone_goes, go_goes}
use Rattle.codegen_follows.proofs.Returns.{return_goes}
use Rattle.codegen_follows.proofs.Printed.{print_goes}
use Rattle.codegen_follows.proofs.Sets.{assign_goes}
use Rattle.codegen_follows.proofs.Defined.{define_goes}
use Rattle.codegen_follows.proofs.Untyped.{untyped_goes}
use Rattle.codegen_follows.proofs.Typed.{typed_right_goes, typed_zeros_go}
use Rattle.codegen_follows.proofs.Updated.{increment_goes, decrement_goes, update_goes}
use Rattle.codegen_follows.proofs.Ranges.{bare_range_goes}
use Rattle.codegen_follows.proofs.Targets.{define_range_goes, assign_range_goes}
use Rattle.codegen_follows.proofs.Selects.{select_goes}
use Rattle.bytecode.specs.Code.{PrintTable}

plus_none : (n : ℕ) → n + 0 ≡ n
plus_none n = omega arith

module _ {globals : Globals} {program : Compiled globals} {coded : Coded program} (simulated : Simulated coded) where
  open program use {elements, code}
  open coded use {result}

  abbrev Works' : Worked Course → CodeFrames → Type 0
  Works' work c = Works simulated work c

  module _ (ls : Words) (l : Around) (view next : View) (mid : Option ℕ) (k : List Task) (h : Held coded ls view) (t : Together view next) (r : Rest coded next l mid k) where
    -- the variables have their words
    room_there : (s : Statement) (place : ℕ) → Doing coded l view s place mid → (scope_of view).words ≤ length ls
    room_there s place d =
        let a = (grown globals elements result view.site s).words in
        let b = d.fits.room in
        let full = h.full in
        omega (arith, a, b, full)

    -- where a statement is, and what is to be done after it
    abbrev position_of : (s : Statement) (place : ℕ) → Doing coded l view s place mid → Position simulated
    position_of s place d = record {
      point = record {
        locals = ls;
        around = l;
        view = view;
        fine = d.fine;
        room = room_there s place d;
        held = h;
      };
      next = next;
      mid = mid;
      tasks = k;
      together = t;
      rest = r;
    }

    alone_goes : (simple : Simple) (place : ℕ) → Doing coded l view (Alone simple) place mid → variables next ≡ variables (following coded view (Alone simple))
        → Works' (simple_work globals (blocks_of coded ls view) k simple) (at simulated place ls [])
    alone_goes (CallAlone function arguments) place d same = call_alone_goes (position_of (Alone (CallAlone function arguments)) place d) function arguments d.first place d.good d.makes d.on same
    alone_goes (Close e) place d same = close_goes (position_of (Alone (Close e)) place d) e d.first place (λ violation x. d.good violation (inl x)) d.makes d.on same
    alone_goes (Print line parts trailing) place d same =
        let table : PrintTable = record { parts = map (printed_part globals elements (scope_of view)) parts; line = line } in
        print_goes (position_of (Alone (Print line parts trailing)) place d) line trailing parts d.first place d.good d.makes (subst (λ n. slice_get code.prints n ≡ Some table) (plus_none view.site.prints) (d.fits.tables 0 table refl)) d.on same
    alone_goes (ReceiveAlone e) place d same = receive_alone_goes (position_of (Alone (ReceiveAlone e)) place d) e d.first place d.good d.makes d.on same
    alone_goes (Send e value) place d same = send_goes (position_of (Alone (Send e value)) place d) e value d.first place d.good d.makes.0 d.makes.1 d.on same
    alone_goes (Increment to) place d same = increment_goes (position_of (Alone (Increment to)) place d) to d.first place d.good d.on same d.fits.room
    alone_goes (Decrement to) place d same = decrement_goes (position_of (Alone (Decrement to)) place d) to d.first place d.good d.on same d.fits.room
    alone_goes (Assign places right) place d same = assign_goes (position_of (Alone (Assign places right)) place d) places right d.first place d.makes d.good d.on same d.fits.room
    alone_goes (Define names right) place d same = define_goes (position_of (Alone (Define names right)) place d) names right d.first place d.makes d.good d.on (same, d.fits.room)
    alone_goes (Update to operator e) place d same = update_goes (position_of (Alone (Update to operator e)) place d) to operator e d.first place d.good d.makes d.on same d.fits.room

    pub statement_goes : (s : Statement) (place : ℕ) → Doing coded l view s place mid → variables next ≡ variables (following coded view s)
        → Works' (statement_work globals (blocks_of coded ls view) k s) (at simulated place ls [])
    statement_goes Empty place d same = empty_goes simulated ls view next l place mid k h d same t.0 r
    statement_goes (Alone simple) place d same = alone_goes simple place d same
    statement_goes (VarTyped names kind None) place d same = typed_zeros_go (position_of (VarTyped names kind None) place d) names kind d.first place d.good d.on (same, d.fits.room)
    statement_goes (VarTyped names kind (Some right)) place d same = typed_right_goes (position_of (VarTyped names kind (Some right)) place d) names kind right d.first place d.makes.1 d.good d.on (same, d.fits.room)
    statement_goes (VarUntyped names right) place d same = untyped_goes (position_of (VarUntyped names right) place d) names right d.first place d.makes d.good d.on (same, d.fits.room)
    statement_goes (Block body) place d same = block_goes simulated ls view next l body place mid k h d same t.0 r
    statement_goes (If (Conditional head condition body otherwise)) place d same = if_goes simulated ls view next l head condition body otherwise place mid k h d same t.0 r
    statement_goes (For Forever body) place d same = forever_goes simulated ls view next l body place mid k h d t same r
    statement_goes (For (While condition) body) place d same = while_goes simulated ls view next l condition body place mid k h d t same r
    statement_goes (For (ForClauses None condition post) body) place d same = clauses_bare_goes simulated ls view next l condition post body place mid k h d same t.0 r
    statement_goes (For (ForClauses (Some simple) condition post) body) place d same = clauses_first_goes simulated ls view next l simple condition post body place mid k h d same t.0 r
    statement_goes (For (Range NoTarget channel) body) place d same = bare_range_goes (position_of (For (Range NoTarget channel) body) place d) channel body place d same
    statement_goes (For (Range (DefineTarget name) channel) body) place d same = define_range_goes (position_of (For (Range (DefineTarget name) channel) body) place d) name channel body place d same
    statement_goes (For (Range (AssignTarget to) channel) body) place d same = assign_range_goes (position_of (For (Range (AssignTarget to) channel) body) place d) to channel body place d same
    statement_goes (Select clauses) place d same = select_goes (position_of (Select clauses) place d) clauses place d same
    statement_goes (Go function arguments) place d same = go_goes (position_of (Go function arguments) place d) function arguments d.first place d.good d.makes d.on same
    statement_goes (Return returned) place d same = return_goes (position_of (Return returned) place d) returned d.first place d.makes d.good d.on
    statement_goes Break place d same = break_goes simulated ls view next l place k r.0 h d.on t r.2
    statement_goes Continue place d same = continue_goes simulated ls view next l place k r.0 h d.on t r.2
