-- What instructions that make requests take and leave.
use Rattle.std.proofs.Common.{◌≡◌, ℕ, ◌<◌, List, [], ◌∷◌, ◌++◌, length, refl, sym, ap, ◌∙◌, subst, slice_get}
use Rattle.std.proofs.lemmas.List.{append-nil}
use Rattle.syntax.specs.declared.node.Direction.{Direction}
use Rattle.bytecode.specs.declared.instr.WordKind.{WordKind}
use Rattle.bytecode.specs.declared.instr.WordKind.TheVariants as kinds
use Rattle.bytecode.specs.declared.instr.Instr.TheVariants as instrs
use Rattle.bytecode.specs.Code.{Function as CodeFunction, Code}
use Rattle.bytecode.specs.Effects.{params_in, results_in, shape_kinds, kinds_in, print_kinds}
use Rattle.type_table.specs.Types.{ValueType, ChannelType}
use Rattle.type_table.specs.Scopes.{Globals}
use Rattle.codegen_base.specs.declared.element.Element.{Element}
use Rattle.codegen_base.specs.Elements.{kinds_of, shape_of}
use Rattle.codegen_base.proofs.Noted.{Noted, shape_there}
use Rattle.plan.specs.Plan.{Plan, Do}
use Rattle.plan.proofs.Typed.{Allowed, Typed, typed_step}
use Rattle.codegen_fine.proofs.Operands.{Grounds, shape_within}

module _ (globals : Globals) (elements : List Element) (code : Code) (f : CodeFunction) (grounds : Grounds globals elements code) where
  abbrev value_kinds : ValueType → List WordKind
  value_kinds = kinds_of globals.structs elements

  abbrev T : Allowed → List WordKind → Plan → List WordKind → Type 0
  T = Typed code f

  -- the shape of what a noted channel carries has the kinds of its words
  pub shape_is : (d : Direction) (c : ValueType) → Noted elements (ChannelType d c) → shape_kinds code (shape_of elements c) ≡ value_kinds c
  shape_is d c noted =
      ap (λ (l : List (List WordKind)). kinds_in (slice_get l (shape_of elements c))) grounds.shapes ∙ ap kinds_in (shape_there globals.structs elements c noted.1)

  after_nothing : (a : Allowed) (ks out : List WordKind) (rest : Plan) → T a ks rest out → T a (ks ++ []) rest out
  after_nothing a ks out rest t = subst (λ (l : List WordKind). T a l rest out) (sym (append-nil ks)) t

  module _ (d : Direction) (c : ValueType) (noted : Noted elements (ChannelType d c)) (a : Allowed) (ks out : List WordKind) (rest : Plan) where
    -- an item is received, and whether it was sent
    pub receives_typed : T a (ks ++ (value_kinds c ++ kinds.Bool ∷ [])) rest out → T a (ks ++ value_kinds (ChannelType d c)) (Do (instrs.Receive (shape_of elements c)) rest) out
    receives_typed t =
        typed_step code f a ks (value_kinds (ChannelType d c)) (instrs.Receive (shape_of elements c)) rest out tt (shape_within globals elements code f grounds d c noted) refl refl
        (subst (λ (l : List WordKind). T a (ks ++ (l ++ kinds.Bool ∷ [])) rest out) (sym (shape_is d c noted)) t)

    -- an item is sent
    pub sends_typed : T a ks rest out → T a (ks ++ (value_kinds (ChannelType d c) ++ value_kinds c)) (Do (instrs.Send (shape_of elements c)) rest) out
    sends_typed t =
        let same : kinds.Chan (shape_of elements c) ∷ shape_kinds code (shape_of elements c) ≡ kinds.Chan (shape_of elements c) ∷ value_kinds c = ap (λ (l : List WordKind). kinds.Chan (shape_of elements c) ∷ l) (shape_is d c noted) in
        typed_step code f a ks (value_kinds (ChannelType d c) ++ value_kinds c) (instrs.Send (shape_of elements c)) rest out tt (shape_within globals elements code f grounds d c noted) (ap length same) (sym same) (after_nothing a ks out rest t)

    -- a channel is made
    pub makes_typed : T a (ks ++ value_kinds (ChannelType d c)) rest out → T a (ks ++ kinds.Int ∷ []) (Do (instrs.Make (shape_of elements c)) rest) out
    makes_typed t = typed_step code f a ks (kinds.Int ∷ []) (instrs.Make (shape_of elements c)) rest out tt (shape_within globals elements code f grounds d c noted) refl refl t

  module _ (d : Direction) (c : ValueType) (a : Allowed) (ks out : List WordKind) (rest : Plan) where
    pub closes_typed : T a ks rest out → T a (ks ++ value_kinds (ChannelType d c)) (Do instrs.Close rest) out
    closes_typed t = typed_step code f a ks (value_kinds (ChannelType d c)) instrs.Close rest out tt tt refl (tt, refl) (after_nothing a ks out rest t)

    pub lengths_typed : T a (ks ++ kinds.Int ∷ []) rest out → T a (ks ++ value_kinds (ChannelType d c)) (Do instrs.Len rest) out
    lengths_typed t = typed_step code f a ks (value_kinds (ChannelType d c)) instrs.Len rest out tt tt refl (tt, refl) t

    pub capacities_typed : T a (ks ++ kinds.Int ∷ []) rest out → T a (ks ++ value_kinds (ChannelType d c)) (Do instrs.Cap rest) out
    capacities_typed t = typed_step code f a ks (value_kinds (ChannelType d c)) instrs.Cap rest out tt tt refl (tt, refl) t

  module _ (g : ℕ) (params : List WordKind) (there : g < length code.functions) (is : params_in (slice_get code.functions g) ≡ params) (a : Allowed) (ks out : List WordKind) (rest : Plan) where
    -- a function is called, which leaves its results
    pub calls_typed : T a (ks ++ results_in (slice_get code.functions g)) rest out → T a (ks ++ params) (Do (instrs.Call g) rest) out
    calls_typed t = typed_step code f a ks params (instrs.Call g) rest out tt there (ap length is) (sym is) t

    -- it is started
    pub starts_typed : T a ks rest out → T a (ks ++ params) (Do (instrs.Go g) rest) out
    starts_typed t = typed_step code f a ks params (instrs.Go g) rest out tt there (ap length is) (sym is) (after_nothing a ks out rest t)

  -- values are printed
  pub prints_typed : (q : ℕ) (js : List WordKind) → q < length code.prints → print_kinds (slice_get code.prints q) ≡ js → (a : Allowed) (ks out : List WordKind) (rest : Plan) → T a ks rest out → T a (ks ++ js) (Do (instrs.Print q) rest) out
  prints_typed q js there is a ks out rest t = typed_step code f a ks js (instrs.Print q) rest out tt there (ap length is) (sym is) (after_nothing a ks out rest t)
