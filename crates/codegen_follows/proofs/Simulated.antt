-- A function that is simulated, and a point of it between statements.
use Rattle.std.proofs.Common.{◌≡◌, ℕ, ◌≤◌, List, [], length, Option, Some, refl}
use Rattle.bytecode.specs.Machine.{Frames as CodeFrames, code_next}
use Rattle.word.specs.Kinds.{Ticks}
use Rattle.word.specs.Related.{Slips}
use Rattle.type_table.specs.Scopes.{Globals}
use Rattle.meaning.specs.Worked.{Worked, ready}
use Rattle.meaning.specs.Variables.{Blocks}
use Rattle.meaning.specs.Tasks.{Task, Frame, frame, Course, Goes, Moves}
use Rattle.plan.specs.Plan.{Plan}
use Rattle.plan.proofs.Words.{Words}
use Rattle.plan.proofs.Steps.{spots, slips_more}
use Rattle.codegen_base.proofs.Gave.{Follows, stays, following as follows_after}
use Rattle.codegen_base.proofs.Near.{Lands}
use Rattle.codegen_base.proofs.Seen.{seen}
use Rattle.codegen_base.proofs.Static.{Holding}
use Rattle.codegen_base.proofs.Running.{Compiled, Coded, Running, Standing}
use Rattle.codegen_follows.proofs.Stands.{Around, View, scope_of, variables, Together, IsOn, LeadsOn, Fine, Sits}
use Rattle.codegen_follows.proofs.Begun.{FineAfter}

module _ {globals : Globals} {program : Compiled globals} (coded : Coded program) where
  -- the variables of a run
  abbrev pub blocks_of : Words → View → Blocks
  blocks_of ls view = seen globals.structs ls (variables view) view.begins

  -- the locals hold values of the variables' types, and are all there
  pub record Held (ls : Words) (view : View) : Type 0 where
    pub holding : Holding globals.structs ls (variables view)
    pub full : length ls ≡ length coded.function.locals

  -- what is still to be done after a task that ends at `mid`
  abbrev pub Rest : View → Around → Option ℕ → List Task → Type 0
  Rest next l mid k = (to : Option ℕ) × LeadsOn coded mid to × Sits coded next l to k

-- a function that is simulated: at a pc where its code sits, the source and the code are near each other
pub record Simulated {globals : Globals} {program : Compiled globals} (coded : Coded program) : Type 1 where
  pub running : Running coded
  pub fine_following : FineAfter coded
  pub Sat : Frame → CodeFrames → Type 0
  -- what leads to such a state by silent steps alone is one
  pub back : (top : Frame) (c d : CodeFrames) → Slips (code_next program.code) c d → Sat top d → Sat top c
  pub sitting : (view : View) (l : Around) (place : ℕ) (ls : Words) (tasks : List Task) → Held coded ls view → Sits coded view l (Some place) tasks
      → Sat (frame (blocks_of coded ls view) tasks) (spots program.code coded.number coded.function coded.there running.context.callers place ls [])

module _ {globals : Globals} {program : Compiled globals} {coded : Coded program} (simulated : Simulated coded) where
  open program use {code}
  open coded use {number as g, function as f, there}
  open simulated use {running.{context, context.{callers}}, Sat}

  abbrev pub at : ℕ → Words → Words → CodeFrames
  at place ls stack = spots code g f there callers place ls stack

  -- what a task comes to
  abbrev pub Comes : Course → CodeFrames → Type 0
  Comes course d = Lands globals code g callers Sat course d

  -- the code from here on works out what a task does
  abbrev pub Works : Worked Course → CodeFrames → Type 0
  Works work c = Follows context work Comes c

  -- the code slips to frames that are near `top`
  abbrev pub Reaches : Frame → CodeFrames → Type 0
  Reaches top d = Comes (Goes top) d

  pub reaches_after : (top : Frame) (c d : CodeFrames) → Slips (code_next code) c d → Reaches top d → Reaches top c
  reaches_after top c d slips (e, more, sat, none) = (e, slips_more (code_next code) c d e slips more, sat, none)

  pub works_after : (work : Worked Course) (c d : CodeFrames) → Slips (code_next code) c d → Works work d → Works work c
  works_after work c d slips w = follows_after context work Comes c d slips w

  -- a task without a cost
  pub slides : (top : Frame) (c : CodeFrames) → Reaches top c → Works (ready (Goes top)) c
  slides top c reaches = stays context (Goes top) Comes c reaches

  -- a task that costs one
  pub moves : (blocks : Blocks) (tasks : List Task) (c d e : CodeFrames) → Slips (code_next code) c d → code_next code d ≡ Ticks e → Reaches (frame blocks tasks) e → Works (ready (Moves (frame blocks tasks))) c
  moves blocks tasks c d e slips ticks (n, more, sat, none) = stays context (Moves (frame blocks tasks)) Comes c (d, e, slips, ticks, simulated.back (frame blocks tasks) e n more sat, refl)

-- a point between statements: what the locals hold there, and what is known of the variables
pub record Point {globals : Globals} {program : Compiled globals} {coded : Coded program} (simulated : Simulated coded) : Type 0 where
  pub locals : Words
  pub around : Around
  pub view : View
  pub fine : Fine coded view
  pub room : (scope_of view).words ≤ length locals
  pub held : Held coded locals view

-- and what is to be done after the statement there
pub record Position {globals : Globals} {program : Compiled globals} {coded : Coded program} (simulated : Simulated coded) : Type 0 where
  pub point : Point simulated
  pub next : View
  pub mid : Option ℕ
  pub tasks : List Task
  pub together : Together point.view next
  pub rest : Rest coded next point.around mid tasks

module _ {globals : Globals} {program : Compiled globals} {coded : Coded program} {simulated : Simulated coded} (point : Point simulated) where
  abbrev pub standing : Standing simulated.running
  standing = record {
    locals = point.locals;
    scope = scope_of point.view;
    begins = point.view.begins;
    checked = point.view.checked;
    placed = point.fine.placed;
    alike = point.fine.alike;
    noted = point.fine.noted;
    room = point.room;
    holding = point.held.holding;
    leave = point.around.leave;
    again = point.around.again;
  }

  -- the variables there
  abbrev pub here_blocks : Blocks
  here_blocks = blocks_of coded point.locals point.view

  abbrev pub On' : Plan → ℕ → Option ℕ → Type 0
  On' plan place out = IsOn coded point.around plan place out
