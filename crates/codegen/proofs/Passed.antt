-- The locals of a function that begins hold its arguments, as the variables of its parameters.
use Rattle.std.proofs.Common.{◌≡◌, ℕ, suc, ◌+◌, ◌≤◌, List, [], ◌∷◌, ◌++◌, length, map, take, drop, refl, sym, ap, ◌∙◌, subst, arith, append_assoc, length-append}
use Rattle.std.proofs.Math.Seq.{drop-append_seam, take-append_seam}
use Rattle.std.proofs.lemmas.List.{length-map, map-append}
use Rattle.syntax.specs.Tree.{File}
use Rattle.bytecode.specs.declared.instr.WordKind.{WordKind}
use Rattle.bytecode.specs.Machine.{zero_of, fitted, put_at}
use Rattle.type_table.specs.Types.{ValueType}
use Rattle.type_table.specs.Containment.{Field, Structs}
use Rattle.type_table.specs.Scopes.{Globals}
use Rattle.type_table.specs.Zeros.{zero_words}
use Rattle.typing_rules.specs.Kinds.{kinds_in}
use Rattle.meaning.specs.Values.{Value, known, word_like, words_like, words_in}
use Rattle.meaning.specs.Variables.{declare, holding, New}
use Rattle.meaning.specs.Source.{globals, bound, split}
use Rattle.codegen_base.specs.declared.element.Element.{Element}
use Rattle.codegen_base.specs.Elements.{kinds_of}
use Rattle.codegen_base.specs.Layouts.{Layout, declaring, with_parameters}
use Rattle.codegen_base.specs.Statements.{Local}
use Rattle.plan.proofs.Words.{Words}
use Rattle.codegen_base.proofs.Assigned.{counted_words, stores_one}
use Rattle.codegen_base.proofs.Static.{Holding}
use Rattle.codegen_base.proofs.Fields.{AllWide}
use Rattle.codegen_base.proofs.Likeness.{AreLike, all_words_of, like_none, like_length, like_long, fitted_like, kinds_zeros, kinds_long}
use Rattle.codegen_base.proofs.Seen.{seen}
use Rattle.codegen_base.proofs.Static.{IsPlaced}
use Rattle.codegen_fine.proofs.Operands.{all_kinds}

-- ---- words

like_both : (ys zs vs ws : Words) → length vs ≡ length ys → words_like (ys ++ zs) (vs ++ ws) ≡ words_like ys vs ++ words_like zs ws
like_both [] zs [] ws e = refl
like_both [] zs (v ∷ vs) ws e = absurd cc
like_both (y ∷ ys) zs [] ws e = absurd cc
like_both (y ∷ ys) zs (v ∷ vs) ws e = let left : suc (length vs) ≡ suc (length ys) = e in ap (λ (l : Words). word_like y v ∷ l) (like_both ys zs vs ws (omega (arith, left)))

-- words that are put where they already are change nothing
put_same : (a : ℕ) (done v rest ls : Words) → ls ≡ done ++ (v ++ rest) → a ≡ length done → put_at a v ls ≡ ls
put_same a done v rest ls is e =
    let front : take a ls ≡ done = ap (λ (l : Words). take a l) is ∙ ap (λ n. take n (done ++ (v ++ rest))) e ∙ take-append_seam done (v ++ rest) in
    let many : a + length v ≡ length (done ++ v) = omega (arith, e, length-append done v) in
    let back : drop (a + length v) ls ≡ rest = ap (λ (l : Words). drop (a + length v) l) (is ∙ sym (append_assoc done v rest)) ∙ ap (λ n. drop n ((done ++ v) ++ rest)) many ∙ drop-append_seam (done ++ v) rest in
    ap (λ (l : Words). l ++ v ++ drop (a + length v) ls) front ∙ ap (λ (l : Words). done ++ v ++ l) back ∙ append_assoc done v rest ∙ sym is

module _ (structs : Structs) (elements : List Element) where
  abbrev words : List Value → Words
  words vs = all_words_of vs

  like_size : (kind : ValueType) (v : Value) → words_like (zero_words structs kind) v ≡ v → length v ≡ length (zero_words structs kind)
  like_size kind v like = sym (ap length like) ∙ like_length (zero_words structs kind) v

  -- values fit the kinds of their words, and what comes after is zero
  values_fitted : (types : List ValueType) (vs : List Value) (zs : Words) → AreLike structs types vs → words_like (map zero_of (all_kinds structs elements types) ++ zs) (words vs) ≡ words vs ++ zs
  values_fitted [] [] zs like = like_none zs
  values_fitted [] (v ∷ vs) zs like = absurd like
  values_fitted (kind ∷ types) [] zs like = absurd like
  values_fitted (kind ∷ types) (v ∷ vs) zs like =
      let own = kinds_of structs elements kind in
      let others = all_kinds structs elements types in
      let z = zero_words structs kind in
      let parts : map zero_of (own ++ others) ++ zs ≡ z ++ (map zero_of others ++ zs) =
      ap (λ (l : Words). l ++ zs) (map-append zero_of own others ∙ ap (λ (l : Words). l ++ map zero_of others) (kinds_zeros structs elements kind)) ∙ append_assoc z (map zero_of others) zs in
      ap (λ (l : Words). words_like l (v ++ words vs)) parts ∙ like_both z (map zero_of others ++ zs) v (words vs) (like_size kind v like.0)
      ∙ ap (λ (l : Words). l ++ words_like (map zero_of others ++ zs) (words vs)) like.0 ∙ ap (λ (l : Words). v ++ l) (values_fitted types vs zs like.1) ∙ sym (append_assoc v (words vs) zs)

  pub arguments_fitted : (types : List ValueType) (vs : List Value) (more : List WordKind) → AreLike structs types vs → fitted (all_kinds structs elements types ++ more) (words vs) ≡ words vs ++ map zero_of more
  arguments_fitted types vs more like =
      fitted_like (all_kinds structs elements types ++ more) (words vs) ∙ ap (λ (l : Words). words_like l (words vs)) (map-append zero_of (all_kinds structs elements types) more) ∙ values_fitted types vs (map zero_of more) like

  pub fitted_length : (ks : List WordKind) (ws : Words) → length (fitted ks ws) ≡ length ks
  fitted_length ks ws = ap length (fitted_like ks ws) ∙ like_length (map zero_of ks) ws ∙ length-map ks zero_of

  pub kinds_size : (types : List ValueType) (vs : List Value) → AreLike structs types vs → length (all_kinds structs elements types) ≡ length (words vs)
  kinds_size [] [] like = refl
  kinds_size [] (v ∷ vs) like = absurd like
  kinds_size (kind ∷ types) [] like = absurd like
  kinds_size (kind ∷ types) (v ∷ vs) like =
      let own = kinds_long structs elements kind in
      let long = like_long structs kind v like.0 in
      let more = kinds_size types vs like.1 in
      omega (arith, length-append (kinds_of structs elements kind) (all_kinds structs elements types), length-append v (words vs), own, long, more)

module _ (globals : Globals) (elements : List Element) (all : AllWide globals.structs) where
  abbrev words' : List Value → Words
  words' vs = all_words_of vs

  -- arguments in the locals, as the variables of parameters
  pub record ArePassed (fields : List Field) (vs : List Value) (layout : Layout) (ls : Words) : Type 0 where
    pub seen_is : seen globals.structs ls (with_parameters globals elements fields layout).scope.variables [] ≡ bound globals fields vs (seen globals.structs ls layout.scope.variables [])
    pub placed : IsPlaced globals.structs (with_parameters globals elements fields layout).scope []
    pub holding : Holding globals.structs ls (with_parameters globals elements fields layout).scope.variables

  pub passed : (fields : List Field) (vs : List Value) (layout : Layout) (done more ls : Words) → ls ≡ done ++ (words' vs ++ more) → layout.scope.words ≡ length done → IsPlaced globals.structs layout.scope [] → Holding globals.structs ls layout.scope.variables → AreLike globals.structs (map known (kinds_in fields)) vs
      → ArePassed fields vs layout ls
  passed [] [] layout done more ls is count placed holding like = record { seen_is = refl; placed = placed; holding = holding }
  passed [] (v ∷ vs) layout done more ls is count placed holding like = absurd like
  passed (field ∷ rest) [] layout done more ls is count placed holding like = absurd like
  passed (field ∷ rest) (v ∷ vs) layout done more ls is count placed held like =
      let structs = globals.structs in
      let kind = known field.kind in
      let s = layout.scope in
      let long = like_long structs kind v like.0 in
      let counted = counted_words structs all kind in
      let parts : ls ≡ done ++ (v ++ (words' vs ++ more)) = is ∙ ap (λ (l : Words). done ++ l) (append_assoc v (words' vs) more) in
      let room : s.words + words_in structs kind ≤ length ls = omega (arith, ap length parts, length-append done (v ++ (words' vs ++ more)), length-append v (words' vs ++ more), count, long) in
      let stored = stores_one structs all (New field.name kind) kind (Local s.words (words_in structs kind)) v s [] ls placed held (omega (arith, room, counted)) (refl, refl) like.0 in
      let same : put_at s.words v ls ≡ ls = put_same s.words done v (words' vs ++ more) ls parts count in
      let next = declaring globals elements kind field.name layout in
      let seen-is : seen structs ls next.scope.variables [] ≡ declare (holding structs field.name kind v) (seen structs ls s.variables []) = subst (λ (l : Words). seen structs l next.scope.variables [] ≡ declare (holding structs field.name kind v) (seen structs ls s.variables [])) same stored.seen_is in
      let held-next : Holding structs ls next.scope.variables = subst (λ (l : Words). Holding structs l next.scope.variables) same stored.holding in
      let r = passed rest vs next (done ++ v) more ls (parts ∙ sym (append_assoc done v (words' vs ++ more))) (omega (arith, count, counted, long, length-append done v)) stored.placed held-next like.1 in
      record { seen_is = r.seen_is ∙ ap (bound globals rest vs) seen-is; placed = r.placed; holding = r.holding }

-- the words of values are taken apart into the values
pub split_words : (file : File) (fields : List Field) (vs : List Value) → AreLike (globals file).structs (map known (kinds_in fields)) vs → split file fields (all_words_of vs) ≡ vs
split_words file [] [] like = refl
split_words file [] (v ∷ vs) like = absurd like
split_words file (field ∷ rest) [] like = absurd like
split_words file (field ∷ rest) (v ∷ vs) like =
    let structs = (globals file).structs in
    let ws = all_words_of vs in
    let e : length (zero_words structs (known field.kind)) ≡ length v = sym (like_length (zero_words structs (known field.kind)) v) ∙ ap length like.0 in
    ap (λ n. take n (v ++ ws) ∷ split file rest (drop n (v ++ ws))) e
    ∙ ap (λ (x : Value). x ∷ split file rest (drop (length v) (v ++ ws))) (take-append_seam v ws)
    ∙ ap (λ (l : Words). v ∷ split file rest l) (drop-append_seam v ws)
    ∙ ap (λ (l : List Value). v ∷ l) (split_words file rest vs like.1)
