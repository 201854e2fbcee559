use Rattle.std.proofs.Common.{rules, ◌≡◌, ◌⊎◌, true, false, map, refl, ap}
use Rattle.std.proofs.lemmas.Result.{IfOk-weaker, IfErr-weaker}
use Rattle.syntax.specs.View.{top_of, file_of}
use Rattle.type_table.specs.Visible.{globals_in}
use Rattle.typing_rules.specs.Files.{has_main, FileHas}
use Rattle.checker.specs.Firsts.{FirstBodyHas, ComesFirst}
use Rattle.checker_declaration.specs.Heads.{HeadsHave}
use Rattle.typing_rules.specs.Kinds.{globals_of}
use Rattle.checker_declaration.proofs.Declared.{refuses_more}
use Rattle.checker.proofs.Bodies.{bodies_have, bodies_first, main_first, file_fine}
use Rattle.checker.proofs.file.check_file.Goals as goal

pub returns-clause-one : goal.returns-clause-one
returns-clause-one c =
    let globals = globals_in c.in_ok-table.table in
    let file = file_of c.args.file.now in
    let same : globals ≡ globals_of file.tops = rw c.as_slice.ensures.value at c.in_ok-table.ensures.globals in
    let tops = map top_of c.as_slice-3.result.now in
    IfErr-weaker c.bodies.result _ _ (λ refusal has. refuses_more (λ violation. FirstBodyHas globals 0 tops violation ⊎ HeadsHave globals.types 0 tops violation) (FileHas file) refusal
    (bodies_have file globals tops same (ap (map top_of) c.as_slice-3.ensures.value)) has) c.bodies.ensures.one

pub returns-then-not-has_main-clause-first : goal.returns-then-not-has_main-clause-first
returns-then-not-has_main-clause-first c =
    let globals = globals_in c.in_ok-table.table in
    let file = file_of c.args.file.now in
    let same : globals ≡ globals_of file.tops = rw c.as_slice.ensures.value at c.in_ok-table.ensures.globals in
    let gone : has_main globals.functions ≡ false = search rules in
    main_first file globals (map top_of c.as_slice.result.now) same (ap (map top_of) c.as_slice.ensures.value) gone c.in_ok-table.ensures.none _ (refl, c.requires.last)

pub returns-clause-first : goal.returns-clause-first
returns-clause-first c =
    let globals = globals_in c.in_ok-table.table in
    let file = file_of c.args.file.now in
    let same : globals ≡ globals_of file.tops = rw c.as_slice.ensures.value at c.in_ok-table.ensures.globals in
    let main : has_main globals.functions ≡ true = search rules in
    let tops = map top_of c.as_slice-3.result.now in
    IfErr-weaker c.bodies.result _ _ (λ refusal has. refuses_more (λ violation. FirstBodyHas globals 0 tops violation ⊎ HeadsHave globals.types 0 tops violation) (ComesFirst file) refusal
    (bodies_first file globals (map top_of c.as_slice.result.now) tops same (ap (map top_of) c.as_slice.ensures.value) (ap (map top_of) c.as_slice-3.ensures.value) main c.in_ok-table.ensures.none) has) c.bodies.ensures.one

pub returns-clause-none : goal.returns-clause-none
returns-clause-none c =
    let globals = globals_in c.in_ok-table.table in
    let file = file_of c.args.file.now in
    let same : globals ≡ globals_of file.tops = rw c.as_slice.ensures.value at c.in_ok-table.ensures.globals in
    let main : has_main globals.functions ≡ true = search rules in
    let declared = ap (map top_of) c.as_slice.ensures.value in
    let bodies = ap (map top_of) c.as_slice-3.ensures.value in
    IfOk-weaker c.bodies.result _ _ (λ _ good. file_fine file globals (map top_of c.as_slice.result.now) (map top_of c.as_slice-3.result.now) same declared bodies main c.in_ok-table.ensures.none good) c.bodies.ensures.none
