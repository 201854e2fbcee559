-- Where control goes from what was emitted.
use Rattle.std.specs.Prelude.{◌≡◌, ℕ, Bool, not, true, false, ◌||◌, List, [], ◌++◌}
use Rattle.plan.specs.Plan.{Plan, reaches_end, has_break, has_continue}
use Rattle.codegen_flow.specs.declared.waits.Wait.{Wait}
use Rattle.codegen_flow.specs.declared.flow.Flow.{Flow}
use Rattle.codegen_flow.specs.Waits.{wait_at}

-- where control goes from what was emitted: the jumps that wait, and what can be reached
pub record Control : Type 0 where
  pub waits : List Wait
  pub ends : Bool
  pub breaks : Bool
  pub continues : Bool

abbrev pub control : Flow → Control
control flow = record { waits = flow.waits.items; ends = flow.reaches_end; breaks = flow.has_break; continues = flow.has_continue }

-- to what follows, and nowhere else
abbrev pub through : Control
through = record { waits = []; ends = true; breaks = false; continues = false }

-- nowhere
abbrev pub never : Control
never = record { waits = []; ends = false; breaks = false; continues = false }

-- to what follows, or nowhere
abbrev pub leading : Bool → Control
leading ends = record { waits = []; ends = ends; breaks = false; continues = false }

-- to where a break, or a continue, leads
abbrev pub jumping : ℕ → Bool → Control
jumping place leaves = record { waits = wait_at place leaves; ends = false; breaks = leaves; continues = not leaves }

-- from a first part, whose end is reached, and another one after it
abbrev pub joined : Control → Control → Control
joined first following = record {
  waits = first.waits ++ following.waits;
  ends = following.ends;
  breaks = first.breaks || following.breaks;
  continues = first.continues || following.continues;
}

-- from one of two parts
abbrev pub either : Control → Control → Control
either first other = record {
  waits = first.waits ++ other.waits;
  ends = first.ends || other.ends;
  breaks = first.breaks || other.breaks;
  continues = first.continues || other.continues;
}

-- from a part that may be left out
abbrev pub may_end : Control → Control
may_end flow = record { waits = flow.waits; ends = true; breaks = flow.breaks; continues = flow.continues }

-- control goes where it goes from this plan
pub record Flows (flow : Control) (plan : Plan) : Type 0 where
  pub ends : flow.ends ≡ reaches_end plan
  pub breaks : flow.breaks ≡ has_break plan
  pub continues : flow.continues ≡ has_continue plan
