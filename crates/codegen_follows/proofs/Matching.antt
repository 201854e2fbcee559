-- A goroutine of the source and one of the code that are near each other match, as every function sits in its code.
use Rattle.std.proofs.Common.{◌≡◌, ℕ, [], Some, refl, sym, subst}
use Rattle.syntax.specs.Tree.{File}
use Rattle.bytecode.specs.Machine.{Frames as CodeFrames, code_next, code_kind}
use Rattle.word.specs.Related.{Slips, Matches, here}
use Rattle.meaning.specs.Variables.{Blocks}
use Rattle.meaning.specs.Tasks.{Frame, Frames, frame}
use Rattle.meaning.specs.Source.{globals, tasks_work, source_next, source_kind}
use Rattle.plan.proofs.Words.{Words}
use Rattle.plan.proofs.Steps.{spots, slips_more}
use Rattle.codegen_base.proofs.Gave.{Follows}
use Rattle.codegen_base.proofs.Near.{Near, AllEntered, AllStarted, Lands', context, near_goes, runs}
use Rattle.codegen_base.proofs.Running.{Compiled, Coded}
use Rattle.codegen_follows.proofs.Stands.{Around, View, Sits}
use Rattle.codegen_follows.proofs.Begun.{FineAfter}
use Rattle.codegen_follows.proofs.Simulated.{Simulated, Held, blocks_of, Works, at, works_after}
use Rattle.codegen_follows.proofs.Step.{sits_follow}

module _ (file : File) (program : Compiled (globals file)) where
  open program use {code}

  -- the code of a function, called by `callers`, comes without a cost to a pc where it sits
  pub record SitsAfter (n : ℕ) (top : Frame) (callers d : CodeFrames) : Type 0 where
    pub coded : Coded program
    pub number_is : coded.number ≡ n
    pub view : View
    pub around : Around
    pub place : ℕ
    pub locals : Words
    pub blocks_are : top.blocks ≡ blocks_of coded locals view
    pub slips : Slips (code_next code) d (spots code coded.number coded.function coded.there callers place locals [])
    pub held : Held coded locals view
    pub sits : Sits coded view around (Some place) top.tasks

  slips_after : (n : ℕ) (top : Frame) (callers c d : CodeFrames) → Slips (code_next code) c d → SitsAfter n top callers d → SitsAfter n top callers c
  slips_after n top callers c d slips sat = record {
    coded = sat.coded;
    number_is = sat.number_is;
    view = sat.view;
    around = sat.around;
    place = sat.place;
    locals = sat.locals;
    blocks_are = sat.blocks_are;
    slips = slips_more (code_next code) c d (spots code sat.coded.number sat.coded.function sat.coded.there callers sat.place sat.locals []) slips sat.slips;
    held = sat.held;
    sits = sat.sits;
  }

  module _ (fine_following : (coded : Coded program) → FineAfter coded) (all_entered : AllEntered file program SitsAfter) (all_started : AllStarted file program SitsAfter) where
    abbrev simulated : (coded : Coded program) → CodeFrames → Simulated coded
    simulated coded callers = record {
      running = runs file program SitsAfter all_entered all_started coded callers;
      fine_following = fine_following coded;
      Sat = λ top d. SitsAfter coded.number top callers d;
      back = λ top c d slips sat. slips_after coded.number top callers c d slips sat;
      sitting = λ view l place ls tasks held sits. record { coded = coded; number_is = refl; view = view; around = l; place = place; locals = ls; blocks_are = refl; slips = here; held = held; sits = sits };
    }

    sat_follows : (n : ℕ) (top : Frame) (callers c : CodeFrames) → SitsAfter n (frame top.blocks top.tasks) callers c → Follows (context file program SitsAfter callers) (tasks_work (globals file) top.blocks top.tasks) (Lands' file program SitsAfter n callers) c
    sat_follows n top callers c sat =
        let s = simulated sat.coded callers in
        let place = at s sat.place sat.locals [] in
        subst (λ (m : ℕ). Follows (context file program SitsAfter callers) (tasks_work (globals file) top.blocks top.tasks) (Lands' file program SitsAfter m callers) c) sat.number_is
        (works_after s (tasks_work (globals file) top.blocks top.tasks) c place sat.slips
        (subst (λ (b : Blocks). Works s (tasks_work (globals file) b top.tasks) place) (sym sat.blocks_are) (sits_follow s top.tasks sat.locals sat.view sat.around sat.place sat.held sat.sits)))

    pub near_match : (s : Frames) (d : CodeFrames) → Near file program SitsAfter s d → Matches (source_kind file) (code_kind code) (Near file program SitsAfter) s (source_next file s) d
    near_match s d near = near_goes file program SitsAfter sat_follows s d near
