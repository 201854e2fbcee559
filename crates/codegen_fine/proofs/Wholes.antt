-- A whole function with which nothing is wrong keeps the verifier's rules V1 to V6, and its selects name shapes that are there.
use Rattle.std.proofs.Common.{◌≡◌, ℕ, List, [], ◌∷◌, ◌++◌, length, drop, Option, Some, refl, sym, ap, subst, arith, length-append, inl}
use Rattle.std.proofs.lemmas.List.{append-nil}
use Rattle.syntax.specs.Tree.{Function}
use Rattle.bytecode.specs.Code.{Function as CodeFunction, Code, SelectTable}
use Rattle.bytecode.specs.Rules.{Holds, HasShapes}
use Rattle.type_table.specs.Types.{ValueType}
use Rattle.type_table.specs.Containment.{Field}
use Rattle.type_table.specs.Scopes.{Globals, Scope, Yields, nothing_declared, declared}
use Rattle.typing_rules.specs.Files.{BodyHas}
use Rattle.typing_rules.specs.Kinds.{fields_declared, with_fields, parameters}
use Rattle.meaning.specs.Values.{known}
use Rattle.codegen_base.specs.declared.element.Element.{Element}
use Rattle.codegen_base.specs.Layouts.{Layout, empty, declaring, with_parameters}
use Rattle.codegen_base.specs.Pushes.{pushes_zeros}
use Rattle.codegen_base.specs.Program.{noting_statements, result_of, first_layout, made_function, function_code}
use Rattle.codegen_base.specs.Generated.{Site, made_of, made_all, result_kinds}
use Rattle.syntax.specs.Grammar.{FormedAll}
use Rattle.codegen_base.proofs.Alike.{Alike, alike_refl, alike_declared}
use Rattle.codegen_base.proofs.Noted.{Noted, Grows}
use Rattle.codegen_base.proofs.Making.{all_make}
use Rattle.codegen_base.proofs.Typing.{Free}
use Rattle.plan.specs.Plan.{Stop, tables}
use Rattle.plan.proofs.Stacks.{holds_by}
use Rattle.plan.proofs.Tables.{Makes, tabled}
use Rattle.plan.proofs.Typed.{outside, typed_makes}
use Rattle.codegen_fine.proofs.Operands.{Grounds}
use Rattle.codegen_fine.proofs.Layouts.{Longer, longer_no, longer_on, longer_declaring, Begins, begins_before, Room, room_declaring}
use Rattle.codegen_fine.proofs.Simples.{Prints}
use Rattle.codegen_fine.proofs.Growing.{longer_statements, longer_unless}
use Rattle.codegen_fine.proofs.Numbering.{numbered_body}
use Rattle.codegen_fine.proofs.Returns.{IsResult}
use Rattle.codegen_fine.proofs.Finished.{typed_body, result_there}

module _ (globals : Globals) (elements : List Element) where
  longer_parameters : (fields : List Field) (layout : Layout) → Longer layout (with_parameters globals elements fields layout)
  longer_parameters [] layout = longer_no layout
  longer_parameters (field ∷ rest) layout =
      let next = declaring globals elements (known field.kind) field.name layout in longer_on layout next (with_parameters globals elements rest next) (longer_declaring globals elements (known field.kind) field.name layout) (longer_parameters rest next)

  -- the types of parameters are known and noted
  abbrev pub ParametersFine : List Field → Type 0
  ParametersFine [] = Unit {0}
  ParametersFine (field ∷ rest) = (field.kind ≡ Some (known field.kind)) × Noted elements (known field.kind) × ParametersFine rest

  module _ (code : Code) (grounds : Grounds globals elements code) where
    pub parameters_fit : (f : CodeFunction) (fields : List Field) (layout : Layout) (s : Scope) → ParametersFine fields → Room globals elements code f layout → Alike s layout.scope → Begins f (with_parameters globals elements fields layout)
        → Room globals elements code f (with_parameters globals elements fields layout) × Alike (with_fields globals.structs s fields) (with_parameters globals elements fields layout).scope
    parameters_fit f [] layout s fine room alike begins = (room, alike)
    parameters_fit f (field ∷ rest) layout s fine room alike begins =
        let kind = known field.kind in
        let next = declaring globals elements kind field.name layout in
        let before = begins_before f next (with_parameters globals elements rest next) (longer_parameters rest next) begins in
        parameters_fit f rest next (declared globals.structs s field.kind field.name) fine.2 (room_declaring globals elements code f grounds kind field.name layout room before fine.1)
        (subst (λ o. Alike (declared globals.structs s o field.name) next.scope) (sym fine.0) (alike_declared globals.structs globals.structs s layout.scope (Some kind) field.name alike)) begins

    module _ where
      -- what is known of a function besides its body: the types of its parameters and of its result, and that no post
      -- statement declares anything
      pub record IsFine (function : Function) : Type 0 where
        pub takes : ParametersFine (fields_declared globals.types function.parameters)
        pub known_kind : (kind : Option ValueType) → result_of globals elements function ≡ Yields kind → kind ≡ Some (known kind)
        pub noted : (kind : Option ValueType) → result_of globals elements function ≡ Yields kind → Noted elements (known kind)
        pub still : FormedAll function.body

      pub typed_function : (function : Function) → IsFine function → (prints selects first : ℕ) → Free (BodyHas globals first function) → (all : List Element) → Grows (noting_statements globals.types function.body all) elements
          → Prints code prints (made_function globals elements prints selects function).prints → (rest : List SelectTable) → drop selects code.selects ≡ tables 0 (made_function globals elements prints selects function).plan ++ rest
          → Holds code (function_code globals elements function (made_function globals elements prints selects function)) × Makes (HasShapes code) (made_function globals elements prints selects function).plan
      typed_function function fine prints selects first free all g tables-of rest selects-of =
          let m = made_function globals elements prints selects function in
          let f = function_code globals elements function m in
          let result = result_of globals elements function in
          let start = first_layout globals elements function in
          let site : Site = record { layout = start; prints = prints; selects = selects } in
          let body = made_all globals elements result site function.body in
          let longer = longer_unless globals elements result body (made_of (pushes_zeros (result_kinds globals elements result) Stop) [] body.layout) start (longer_statements globals elements result site function.body) (longer_no body.layout) in
          let whole : Begins f m.layout = record { more = []; is = sym (append-nil m.layout.locals) } in
          let yields : IsResult globals elements f result = record { kinds_are = refl; known_kind = fine.known_kind; noted = fine.noted } in
          let (room, alike) = parameters_fit f (fields_declared globals.types function.parameters) empty nothing_declared fine.takes (record { housed = tt; words = refl; there = λ n k e. absurd cc }) (alike_refl nothing_declared (omega arith)) (begins_before f start m.layout longer whole) in
          let b = typed_body globals elements code f grounds result yields function.body site (parameters globals function) _ room alike fine.still (λ violation h. free violation (inl h)) (all_make globals elements function.body all fine.still g) (record { begins = whole; prints = tables-of }) in
          let tab = tabled code.selects m.plan 0 selects rest (numbered_body globals elements result function.body site) selects-of in
          let long = longer.is in
          (holds_by code f m.plan [] tab refl (b.runs 0 tab) b.ends (omega (arith, ap length long, length-append start.locals longer.more)) b.room.there (result_there globals elements code f grounds result yields), typed_makes code f outside [] m.plan [] (b.runs 0 tab))
