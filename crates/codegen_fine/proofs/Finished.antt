-- The body of a function, at whose end it returns zeros.
use Rattle.std.proofs.Common.{◌≡◌, ℕ, Bool, true, false, ◌&&◌, List, [], refl, sym}
use Rattle.std.specs.Prelude.{if◌then◌else◌}
use Rattle.syntax.specs.Tree.{Statements}
use Rattle.bytecode.specs.Code.{Function as CodeFunction, Code}
use Rattle.bytecode.specs.Rules.{AreThere}
use Rattle.type_table.specs.Scopes.{Globals, Scope, Yield, NoResult, Yields}
use Rattle.typing_rules.specs.Statements.{Setting, StatementsHave}
use Rattle.meaning.specs.Values.{known}
use Rattle.codegen_base.specs.declared.element.Element.{Element}
use Rattle.codegen_base.specs.Pushes.{pushes_zeros}
use Rattle.codegen_base.specs.Generated.{Site, Made, made_of, followed, result_kinds, finished, made_all, made_body}
use Rattle.syntax.specs.Grammar.{FormedAll}
use Rattle.codegen_base.proofs.Alike.{Alike}
use Rattle.codegen_base.proofs.StatementMakes.{AllMake}
use Rattle.codegen_base.proofs.Typing.{Free}
use Rattle.plan.specs.Plan.{Plan, Stop, reaches_end}
use Rattle.plan.proofs.Typed.{outside}
use Rattle.codegen_fine.proofs.Pushing.{puts_zeros}
use Rattle.codegen_fine.proofs.Operands.{Grounds}
use Rattle.codegen_fine.proofs.Layouts.{Room, longer_no}
use Rattle.codegen_fine.proofs.Makes.{noted_there}
use Rattle.codegen_base.proofs.Before.{before_ends, zeros_before}
use Rattle.codegen_fine.proofs.Bodies.{Runs, IsMade, Fits, fits_first, runs_seq}
use Rattle.codegen_fine.proofs.Returns.{IsResult}
use Rattle.codegen_fine.proofs.Statements.{typed_statements}
use Rattle.codegen_fine.proofs.Ranges.{typed_ranges}

never_ends : (a b : Bool) → b ≡ false → (a && b) ≡ false
never_ends true b e = e
never_ends false b e = refl

module _ (globals : Globals) (elements : List Element) (code : Code) (f : CodeFunction) (grounds : Grounds globals elements code) where
  -- the shapes of a result are there
  pub result_there : (result : Yield) → IsResult globals elements f result → AreThere code (result_kinds globals elements result)
  result_there NoResult r n k e = absurd cc
  result_there (Yields kind) r n k e = noted_there globals elements code f grounds (known kind) (r.noted kind refl) n k e

  -- a body that returns wherever it ends
  pub record IsBody (made : Made) : Type 0 where
    pub runs : Runs globals elements code f grounds outside made.plan
    pub room : Room globals elements code f made.layout
    pub ends : reaches_end made.plan ≡ false

  module _ (result : Yield) (yields : IsResult globals elements f result) where
    abbrev setting : Setting
    setting = record { globals = globals; result = result; breaks = false; continues = false }

    abbrev zeros : Plan
    zeros = pushes_zeros (result_kinds globals elements result) Stop

    typed_finished : (first : ℕ) (body : Made) → Fits globals elements code f grounds first (finished globals elements result body) → (Fits globals elements code f grounds first body → IsMade globals elements code f grounds outside body) → IsBody (finished globals elements result body)
    typed_finished first body fits made = go (reaches_end body.plan) refl fits where
      go : (t : Bool) → reaches_end body.plan ≡ t → Fits globals elements code f grounds first (if t then followed body (made_of zeros [] body.layout) else body) → IsBody (if t then followed body (made_of zeros [] body.layout) else body)
      go true is h =
          let m = made (fits_first globals elements code f grounds first body (made_of zeros [] body.layout) (longer_no body.layout) h) in
          record {
            runs = runs_seq globals elements code f grounds outside body.plan zeros m.runs
                (λ e place tabled. puts_zeros globals.structs elements code f (result_kinds globals elements result) (result_there result yields) outside [] [] Stop (sym yields.kinds_are));
            room = m.room;
            ends = never_ends (reaches_end body.plan) (reaches_end zeros) (before_ends Stop zeros (zeros_before (result_kinds globals elements result) Stop));
          }
      go false is h = let m = made h in record { runs = m.runs; room = m.room; ends = is }

    pub typed_body : (body : Statements) (site : Site) (s : Scope) (first : ℕ) → Room globals elements code f site.layout → Alike s site.layout.scope → FormedAll body → Free (StatementsHave setting s first body) → AllMake globals elements body
        → Fits globals elements code f grounds site.prints (made_body globals elements result site body) → IsBody (made_body globals elements result site body)
    typed_body body site s first room alike still free makes fits =
        typed_finished site.prints (made_all globals elements result site body) fits
        (λ h. typed_statements globals elements code f grounds result yields (typed_ranges globals elements code f grounds result yields) body site s false false first room alike still free makes h)
