-- A function that begins sits at the first instruction of its code.
use Rattle.std.proofs.Common.{◌≡◌, ℕ, ◌+◌, false, List, [], ◌∷◌, ◌++◌, length, map, Option, Some, None, IfSome, refl, sym, ap, ◌∙◌, subst, arith, slice_get, inl}
use Rattle.std.proofs.lemmas.List.{append-nil}
use Rattle.syntax.specs.Tree.{Function, File}
use Rattle.bytecode.specs.declared.instr.WordKind.{WordKind}
use Rattle.bytecode.specs.Code.{Function as CodeFunction}
use Rattle.bytecode.specs.Machine.{Frames as CodeFrames, zero_of, fitted, begun}
use Rattle.type_table.specs.Types.{ValueType}
use Rattle.type_table.specs.Containment.{Field}
use Rattle.type_table.specs.Scopes.{Signature, Yield, nothing_declared}
use Rattle.typing_rules.specs.Calls.{result_of}
use Rattle.typing_rules.specs.Kinds.{kinds_in, fields_declared, parameters}
use Rattle.meaning.specs.Values.{Value, known}
use Rattle.meaning.specs.Variables.{entered}
use Rattle.meaning.specs.Tasks.{all_of}
use Rattle.meaning.specs.Source.{globals, bound, entered_with}
use Rattle.codegen_base.specs.Layouts.{Layout, empty}
use Rattle.codegen_base.specs.Pushes.{pushes_zeros}
use Rattle.codegen_base.specs.Program.{result_of as made_result, first_layout, made_function, function_code}
use Rattle.codegen_base.specs.Generated.{Site, Made, made_of, made_all, result_kinds}
use Rattle.plan.specs.Plan.{Stop, reaches_end}
use Rattle.plan.proofs.Functions.{function_on}
use Rattle.plan.proofs.Steps.{passes}
use Rattle.plan.proofs.Tables.{tabled}
use Rattle.plan.proofs.Words.{Words}
use Rattle.codegen_base.proofs.Alike.{alike_refl}
use Rattle.codegen_base.proofs.Likeness.{AreLike, all_words_of}
use Rattle.codegen_base.proofs.Making.{all_make}
use Rattle.codegen_base.proofs.Running.{Compiled, Coded}
use Rattle.codegen_base.proofs.Seen.{seen}
use Rattle.codegen_base.proofs.Static.{Holding}
use Rattle.codegen_follows.proofs.Stands.{nowhere, View, variables, Fine, IsOn, LeadsOn, Fits, Sits, Live}
use Rattle.codegen_follows.proofs.Begun.{FineAfter, parts, sits_all, SitsSoon}
use Rattle.codegen_follows.proofs.Matching.{SitsAfter}
use Rattle.codegen_fine.proofs.Operands.{Grounds}
use Rattle.codegen_fine.proofs.Places.{housed_of}
use Rattle.codegen_fine.proofs.Layouts.{longer_no, Begins, begins_before}
use Rattle.codegen_fine.proofs.Growing.{longer_statements, longer_unless}
use Rattle.codegen_fine.proofs.Numbering.{numbered_body}
use Rattle.codegen_fine.proofs.Returns.{IsResult}
use Rattle.codegen_fine.proofs.Finished.{typed_body}
use Rattle.codegen_fine.proofs.Wholes.{parameters_fit}
use Rattle.codegen_fine.proofs.Signatures.{parameters_locals}
use Rattle.codegen.proofs.Located.{Located}
use Rattle.codegen.proofs.Passed.{arguments_fitted, fitted_length, passed}

module _ (file : File) (program : Compiled (globals file)) (grounds : Grounds (globals file) program.elements program.code) (fine_following : (coded : Coded program) → FineAfter coded) where
  open program use {elements, code}

  module _ (n : ℕ) (source : Option Function) (head : Option Signature) (L : Located (globals file) elements code grounds source (slice_get code.functions n) head) (declared : result_of (globals file) n ≡ made_result (globals file) elements L.function) where
    abbrev function : Function
    function = L.function

    abbrev fields : List Field
    fields = fields_declared (globals file).types function.parameters

    abbrev types : List ValueType
    types = map known (kinds_in fields)

    abbrev start : Layout
    start = first_layout (globals file) elements function

    abbrev site : Site
    site = record { layout = start; prints = L.prints; selects = L.selects }

    abbrev result : Yield
    result = made_result (globals file) elements function

    abbrev body : Made
    body = made_all (globals file) elements result site function.body

    abbrev zeros : Made
    zeros = made_of (pushes_zeros (result_kinds (globals file) elements result) Stop) [] body.layout

    abbrev m : Made
    m = made_function (globals file) elements L.prints L.selects function

    abbrev f : CodeFunction
    f = function_code (globals file) elements function m

    abbrev view : View
    view = record { site = site; begins = []; checked = parameters (globals file) function }

    yields : IsResult (globals file) elements f result
    yields = record { kinds_are = refl; known_kind = L.fine.known_kind; noted = L.fine.noted }

    abbrev coded : Coded program
    coded = record { number = n; function = f; there = L.made_is; result = result; result_is = declared; results_are = refl }

    -- the locals with which it begins
    abbrev locals : List Value → Words
    locals vs = fitted f.locals (all_words_of vs)

    -- what holds when the function begins
    record Ready (vs : List Value) : Type 0 where
      place : ℕ
      leads : LeadsOn coded (Some 0) (Some place)
      sits : Sits coded view nowhere (Some place) (all_of function.body ++ [])
      seen_is : seen (globals file).structs (locals vs) (variables view) [] ≡ bound (globals file) fields vs (entered [])
      holding : Holding (globals file).structs (locals vs) (variables view)

    soon_ready : (vs : List Value) → seen (globals file).structs (locals vs) (variables view) [] ≡ bound (globals file) fields vs (entered []) → Holding (globals file).structs (locals vs) (variables view)
        → SitsSoon coded (fine_following coded) view nowhere (Some 0) (all_of function.body ++ []) → Ready vs
    soon_ready vs seen-is holding (None, lead, sits) = absurd lead
    soon_ready vs seen-is holding (Some place, lead, sits) = record { place = place; leads = lead; sits = sits; seen_is = seen-is; holding = holding }

    end_sits : (mid : Option ℕ) → IfSome mid (λ p. IsOn coded nowhere zeros.plan p None × Fits coded (L.prints + length body.prints) zeros) → (last : View) → Sits coded last nowhere mid []
    end_sits None h last = (refl, tt)
    end_sits (Some p) h last = (refl, h.0)

    ready : (vs : List Value) → AreLike (globals file).structs types vs → Ready vs
    ready vs like =
        let G = globals file in
        let longer = longer_unless G elements result body zeros start (longer_statements G elements result site function.body) (longer_no body.layout) in
        let whole : Begins f m.layout = record { more = []; is = sym (append-nil m.layout.locals) } in
        let (room, alike) = parameters_fit G elements code grounds f fields empty nothing_declared L.fine.takes (record { housed = tt; words = refl; there = λ n k e. absurd cc }) (alike_refl nothing_declared (omega arith)) (begins_before f start m.layout longer whole) in
        let made = all_make G elements function.body L.some L.fine.still L.grows in
        let b = typed_body G elements code f grounds result yields function.body site (parameters G function) _ room alike L.fine.still (λ violation h. L.free violation (inl h)) made (record { begins = whole; prints = L.tables_are }) in
        let tab = tabled code.selects m.plan 0 L.selects L.rest (numbered_body G elements result function.body site) L.selects_are in
        let on = function_on code f m.plan [] tab refl (b.runs 0 tab) b.ends in
        let enough = b.room.words in
        let p = parts coded nowhere L.prints body zeros 0 None (reaches_end body.plan) refl (omega arith) on (record { tables = L.tables_are; room = omega (arith, enough) }) in
        let fit : locals vs ≡ [] ++ (all_words_of vs ++ map zero_of longer.more) =
        ap (λ (l : List WordKind). fitted l (all_words_of vs)) (longer.is ∙ ap (λ (l : List WordKind). l ++ longer.more) (parameters_locals G elements fields empty)) ∙ arguments_fitted G.structs elements types vs longer.more like in
        let arrived = passed G elements program.wide fields vs empty [] (map zero_of longer.more) (locals vs) fit refl (record { rising = omega arith; known = tt; outer = refl; nested = tt }) tt like in
        let fine : Fine coded view = record { placed = arrived.placed; alike = alike; noted = (housed_of G elements f start.scope room.housed).noted } in
        let live : Live coded view nowhere function.body 0 p.mid = record {
          first = _;
          breaks = false;
          continues = false;
          fine = fine;
          good = λ violation h. L.free violation (inl h);
          makes = made;
          on = p.on;
          fits = p.fits;
        } in
        soon_ready vs arrived.seen_is arrived.holding (sits_all coded (fine_following coded) function.body view nowhere (Some 0) p.mid [] live tt (λ last t. end_sits p.mid p.others last))

    -- whoever waits for it, it sits at the beginning of its code
    pub begins_sits : (vs : List Value) → AreLike (globals file).structs types vs → (callers : CodeFrames) → SitsAfter file program n (entered_with (globals file) function vs) callers (begun f.locals n (all_words_of vs) ∷ callers)
    begins_sits vs like callers =
        let r = ready vs like in
        record {
          coded = coded;
          number_is = refl;
          view = view;
          around = nowhere;
          place = r.place;
          locals = locals vs;
          blocks_are = sym r.seen_is;
          slips = passes code n f L.made_is callers 0 r.place (locals vs) [] r.leads;
          held = record { holding = r.holding; full = fitted_length (globals file).structs elements f.locals (all_words_of vs) };
          sits = subst (Sits coded view nowhere (Some r.place)) (append-nil (all_of function.body)) r.sits;
        }
