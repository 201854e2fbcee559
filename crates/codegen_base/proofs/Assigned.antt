-- A value goes to the same variable whether it is stored in the locals or in the variables.
use Rattle.std.proofs.Common.{◌≡◌, ℕ, zero, suc, ◌+◌, ◌≤◌, Bool, true, false, List, [], ◌∷◌, ◌++◌, length, take, drop, Option, Some, None, option_map, refl, sym, ap, ◌∙◌, subst, arith, length-append, bytes_eq}
use Rattle.std.specs.Prelude.{if◌then◌else◌}
use Rattle.std.specs.Option.{is_some}
use Rattle.std.proofs.Math.Seq.{take-append_seam, drop-append_seam}
use Rattle.std.proofs.lemmas.Option.{same_Some}
use Rattle.std.proofs.lemmas.List.{drop-drop, length-map}
use Rattle.bytecode.specs.Machine.{put_at}
use Rattle.word.specs.declared.value.Word.{Word}
use Rattle.type_table.specs.Types.{ValueType, IntType, BoolType, StructType, ChannelType}
use Rattle.type_table.specs.Containment.{Structs, words_of, variable_words, parts}
use Rattle.type_table.specs.Scopes.{Variable, Scope, last_named, declared}
use Rattle.type_table.specs.Zeros.{zero_word, zero_words}
use Rattle.type_table.proofs.Fields.{parts-count}
use Rattle.meaning.specs.Values.{Value, known, words_in, words_like, written}
use Rattle.meaning.specs.Variables.{Binding, Block, Blocks, in_block, or_outer, lookup, declare, assign, assign_in, Destination, Nowhere, New, Into, stored, all_stored}
use Rattle.codegen_base.specs.Statements.{Spot, Dropped, Local}
use Rattle.plan.proofs.Words.{Words, put_length}
use Rattle.codegen_base.proofs.Seen.{Like, seen_one, seen_block, seen, Rising, rising_new, Begins, found_below, seen_lookup, seen_new, seen_assign}
use Rattle.codegen_base.proofs.Static.{Nested, IsPlaced, known_new, Holding}
use Rattle.codegen_base.proofs.Likeness.{like_append, like_parts, like_long, AreLike, all_words_of}
use Rattle.codegen_base.proofs.Fields.{AllWide, Holds, held_within}
use Rattle.codegen_base.proofs.Stores.{put_spot, spot_words, put_forward}

module _ (structs : Structs) where
  -- ---- variables that hold values of their types

  abbrev pub LikeBlock : Block → Type 0
  LikeBlock [] = Unit {0}
  LikeBlock (b ∷ block) = Like structs b.kind b.value × LikeBlock block

  abbrev pub AllLike : Blocks → Type 0
  AllLike [] = Unit {0}
  AllLike (block ∷ outer) = LikeBlock block × AllLike outer

  pub like_declare : (b : Binding) (blocks : Blocks) → Like structs b.kind b.value → AllLike blocks → AllLike (declare b blocks)
  like_declare b [] like all = ((like, tt), tt)
  like_declare b (block ∷ outer) like all = ((like, all.0), all.1)

  -- a value of the part's type is written over a part
  pub held_written : (whole : ValueType) (from : ℕ) (kind : ValueType) (old new : Value) → Holds structs whole from kind → Like structs whole old → Like structs kind new → Like structs whole (written from new old)
  held_written whole from kind old new h lo ln =
      let one = like_parts h.before (zero_words structs kind ++ h.after) old (ap (λ (z : List Word). words_like z old) (sym h.zeros) ∙ lo) in
      let two = like_parts (zero_words structs kind) h.after (drop (length h.before) old) one.1 in
      let long = like_long structs kind new ln in
      let whole-like : words_like (h.before ++ (zero_words structs kind ++ h.after)) (take (length h.before) old ++ (new ++ drop (words_in structs kind) (drop (length h.before) old))) ≡ take (length h.before) old ++ (new ++ drop (words_in structs kind) (drop (length h.before) old)) =
      like_append h.before (zero_words structs kind ++ h.after) (take (length h.before) old) (new ++ drop (words_in structs kind) (drop (length h.before) old)) one.0
      (like_append (zero_words structs kind) h.after new (drop (words_in structs kind) (drop (length h.before) old)) ln two.1) in
      let same : take (length h.before) old ++ (new ++ drop (words_in structs kind) (drop (length h.before) old)) ≡ written from new old =
      ap (λ n. take n old ++ (new ++ drop (words_in structs kind) (drop n old))) h.place
      ∙ ap (λ (l : List Word). take from old ++ (new ++ l)) (drop-drop (words_in structs kind) from old ∙ ap (λ n. drop n old) (let e : from + words_in structs kind ≡ from + length new = omega (arith, long) in e)) in
      subst (λ (v : Value). words_like (zero_words structs whole) v ≡ v) same (ap (λ (z : List Word). words_like z (take (length h.before) old ++ (new ++ drop (words_in structs kind) (drop (length h.before) old)))) h.zeros ∙ whole-like)

  like_in : (block : Block) (name : List ℕ) (b : Binding) → in_block block name ≡ Some b → LikeBlock block → Like structs b.kind b.value
  like_in [] name b e all = absurd cc
  like_in (x ∷ block) name b e all = go (bytes_eq x.name name) e (λ h. like_in block name b h all.1) where
    go : (t : Bool) → (if t then Some x else in_block block name) ≡ Some b → (in_block block name ≡ Some b → Like structs b.kind b.value) → Like structs b.kind b.value
    go true e more = subst (λ (y : Binding). Like structs y.kind y.value) (same_Some x b e) all.0
    go false e more = more e

  like_assign_in : (block : Block) (name : List ℕ) (from : ℕ) (kind : ValueType) (new : Value) (b : Binding) → in_block block name ≡ Some b → Holds structs b.kind from kind → Like structs kind new → LikeBlock block → LikeBlock (assign_in name from new block)
  like_assign_in [] name from kind new b e h ln all = absurd cc
  like_assign_in (x ∷ block) name from kind new b e h ln all = go (bytes_eq x.name name) e (λ i. like_assign_in block name from kind new b i h ln all.1) where
    go : (t : Bool) → (if t then Some x else in_block block name) ≡ Some b → (in_block block name ≡ Some b → LikeBlock (assign_in name from new block))
        → LikeBlock (if t then record x { value = written from new x.value } ∷ block else x ∷ assign_in name from new block)
    go true e more = (held_written x.kind from kind x.value new (subst (λ (y : Binding). Holds structs y.kind from kind) (sym (same_Some x b e)) h) all.0 ln, all.1)
    go false e more = (all.0, more e)

  pub like_assign : (blocks : Blocks) (name : List ℕ) (from : ℕ) (kind : ValueType) (new : Value) (b : Binding) → lookup blocks name ≡ Some b → Holds structs b.kind from kind → Like structs kind new → AllLike blocks → AllLike (assign name from new blocks)
  like_assign [] name from kind new b e h ln all = absurd cc
  like_assign (block ∷ outer) name from kind new b e h ln all = go (in_block block name) refl e (λ i. like_assign outer name from kind new b i h ln all.1) where
    go : (o : Option Binding) → in_block block name ≡ o → or_outer o (lookup outer name) ≡ Some b → (lookup outer name ≡ Some b → AllLike (assign name from new outer))
        → AllLike (if is_some (in_block block name) then assign_in name from new block ∷ outer else block ∷ assign name from new outer)
    go None is e more = rw is (all.0, more e)
    go (Some x) is e more = rw is (like_assign_in block name from kind new b (is ∙ e) h ln all.0, all.1)

  -- ---- what the locals hold, and what the variables of a run hold

  block_split : (xs ys : Block) → LikeBlock (xs ++ ys) → LikeBlock xs × LikeBlock ys
  block_split [] ys l = (tt, l)
  block_split (x ∷ xs) ys l = let r = block_split xs ys l.1 in ((l.0, r.0), r.1)

  block_join : (xs ys : Block) → LikeBlock xs → LikeBlock ys → LikeBlock (xs ++ ys)
  block_join [] ys a b = b
  block_join (x ∷ xs) ys a b = (a.0, block_join xs ys a.1 b)

  holding_block : (ls : Words) (vs : List Variable) → Holding structs ls vs → LikeBlock (seen_block structs ls vs)
  holding_block ls [] h = tt
  holding_block ls (v ∷ vs) h = block_join (seen_block structs ls vs) (seen_one structs ls v ∷ []) (holding_block ls vs h.1) (h.0, tt)

  block_holding : (ls : Words) (vs : List Variable) → LikeBlock (seen_block structs ls vs) → Holding structs ls vs
  block_holding ls [] l = tt
  block_holding ls (v ∷ vs) l = let r = block_split (seen_block structs ls vs) (seen_one structs ls v ∷ []) l in (r.1.0, block_holding ls vs r.0)

  holding_take : (n : ℕ) (ls : Words) (vs : List Variable) → Holding structs ls vs → Holding structs ls (take n vs)
  holding_take zero ls vs h = tt
  holding_take (suc n) ls [] h = tt
  holding_take (suc n) ls (v ∷ vs) h = (h.0, holding_take n ls vs h.1)

  holding_drop : (n : ℕ) (ls : Words) (vs : List Variable) → Holding structs ls vs → Holding structs ls (drop n vs)
  holding_drop zero ls vs h = h
  holding_drop (suc n) ls [] h = tt
  holding_drop (suc n) ls (v ∷ vs) h = holding_drop n ls vs h.1

  holding_parts : (n : ℕ) (ls : Words) (vs : List Variable) → Holding structs ls (take n vs) → Holding structs ls (drop n vs) → Holding structs ls vs
  holding_parts zero ls vs a b = b
  holding_parts (suc n) ls [] a b = tt
  holding_parts (suc n) ls (v ∷ vs) a b = (a.0, holding_parts n ls vs a.1 b)

  pub holding_like : (ls : Words) (vs : List Variable) (ns : List ℕ) → Holding structs ls vs → AllLike (seen structs ls vs ns)
  holding_like ls vs [] h = (holding_block ls vs h, tt)
  holding_like ls vs (n ∷ ns) h = (holding_block ls (drop n vs) (holding_drop n ls vs h), holding_like ls (take n vs) ns (holding_take n ls vs h))

  pub like_holding : (ls : Words) (vs : List Variable) (ns : List ℕ) → AllLike (seen structs ls vs ns) → Holding structs ls vs
  like_holding ls vs [] l = block_holding ls vs l.0
  like_holding ls vs (n ∷ ns) l = holding_parts n ls vs (like_holding ls (take n vs) ns l.1) (block_holding ls (drop n vs) l.0)

  -- ---- one value

  -- the spot of a destination that takes values of a type
  abbrev pub IsSpot : Scope → Destination → ValueType → Spot → Type 0
  IsSpot scope Nowhere kind spot = spot ≡ Dropped (words_in structs kind)
  IsSpot scope (New name k) kind spot = (k ≡ kind) × (spot ≡ Local scope.words (words_in structs k))
  IsSpot scope (Into name at) kind spot =
      (v : Variable) × (last_named scope.variables name ≡ Some v) × Holds structs (known v.kind) at.from at.kind × (zero_words structs at.kind ≡ zero_words structs kind) × (spot ≡ Local (v.place + at.from) (words_in structs at.kind))

  -- the scope after a destination
  abbrev pub after_destination : Destination → Scope → Scope
  after_destination (New name kind) scope = declared structs scope (Some kind) name
  after_destination Nowhere scope = scope
  after_destination (Into name at) scope = scope

  -- the words that the typing rules count for a variable are those of its values
  pub counted_words : AllWide structs → (kind : ValueType) → variable_words structs (Some kind) ≡ words_in structs kind
  counted_words all IntType = refl
  counted_words all BoolType = refl
  counted_words all (ChannelType direction element) = refl
  counted_words all (StructType s) =
      let w = all s in ap words_of w.1 ∙ sym (length-map (parts structs (StructType s)) zero_word ∙ parts-count structs (StructType s) w.0 w.1)

  pub begins_of : (ns : List ℕ) (many : ℕ) → Nested ns many → Begins structs ns many
  begins_of [] many n = tt
  begins_of (m ∷ ns) many n = n.0

  nested_more : (ns : List ℕ) (many : ℕ) → Nested ns many → Nested ns (many + 1)
  nested_more [] many n = tt
  nested_more (m ∷ ns) many n = let le = n.0 in (omega (arith, le), n.1)

  module _ (all : AllWide structs) where
    pub placed_new : (scope : Scope) (ns : List ℕ) (name : List ℕ) (kind : ValueType) → IsPlaced structs scope ns → IsPlaced structs (declared structs scope (Some kind) name) ns
    placed_new scope ns name kind p =
        let v : Variable = record { name = name; kind = Some kind; place = scope.words } in
        record {
          rising = subst (λ n. Rising structs 0 (scope.variables ++ v ∷ []) (scope.words + n)) (sym (counted_words all kind)) (rising_new structs 0 scope.variables scope.words v refl p.rising);
          known = known_new scope.variables v p.known refl;
          outer = p.outer;
          nested = subst (Nested ns) (sym (length-append scope.variables (v ∷ []))) (nested_more ns (length scope.variables) p.nested);
        }

    -- a value that is stored: the variables are those of the run, each with a value of its type
    pub record IsStored (d : Destination) (v : Value) (scope : Scope) (ns : List ℕ) (ls ms : Words) : Type 0 where
      pub seen_is : seen structs ms (after_destination d scope).variables ns ≡ stored structs d v (seen structs ls scope.variables ns)
      pub placed : IsPlaced structs (after_destination d scope) ns
      pub holding : Holding structs ms (after_destination d scope).variables
      pub many : length ms ≡ length ls

    pub stores_one : (d : Destination) (kind : ValueType) (spot : Spot) (v : Value) (scope : Scope) (ns : List ℕ) (ls : Words) → IsPlaced structs scope ns → Holding structs ls scope.variables → (after_destination d scope).words ≤ length ls → IsSpot scope d kind spot → Like structs kind v
        → IsStored d v scope ns ls (put_spot spot v ls)
    stores_one Nowhere kind spot v scope ns ls p h room is like =
        subst (λ s. IsStored Nowhere v scope ns ls (put_spot s v ls)) (sym is) (record { seen_is = refl; placed = p; holding = h; many = refl })
    stores_one (New name k) kind spot v scope ns ls p h room (same, is) like =
        let own : Like structs k v = subst (λ j. Like structs j v) (sym same) like in
        let long = like_long structs k v own in
        let within : scope.words + words_in structs k ≤ length ls = omega (arith, room, counted_words all k) in
        let new = seen_new structs name k v ls scope.variables ns scope.words p.rising (begins_of ns (length scope.variables) p.nested) long within in
        let is-seen = new ∙ ap (λ (c : Value). declare (record { name = name; kind = k; value = c }) (seen structs ls scope.variables ns)) (sym own) in
        subst (λ s. IsStored (New name k) v scope ns ls (put_spot s v ls)) (sym is) (record {
          seen_is = is-seen;
          placed = placed_new scope ns name k p;
          holding = like_holding (put_at scope.words v ls) (scope.variables ++ record { name = name; kind = Some k; place = scope.words } ∷ []) ns
              (subst AllLike (sym new) (like_declare (record { name = name; kind = k; value = v }) (seen structs ls scope.variables ns) own (holding_like ls scope.variables ns h)));
          many = put_length scope.words v ls (omega (arith, within, long));
        })
    stores_one (Into name at) kind spot v scope ns ls p h room (x, found, held, same, is) like =
        let own : Like structs at.kind v = subst (λ (z : List Word). words_like z v ≡ v) (sym same) like in
        let long = like_long structs at.kind v own in
        let inside = held_within structs (known x.kind) at.from at.kind held in
        let below = found_below structs 0 scope.variables scope.words name x p.rising found in
        let into = seen_assign structs name at.from v ls scope.variables ns scope.words x p.rising found (omega (arith, inside, long)) room in
        let is-seen = into ∙ ap (λ (c : Value). assign name at.from c (seen structs ls scope.variables ns)) (sym own) in
        subst (λ s. IsStored (Into name at) v scope ns ls (put_spot s v ls)) (sym is) (record {
          seen_is = is-seen;
          placed = p;
          holding = like_holding (put_at (x.place + at.from) v ls) scope.variables ns
              (subst AllLike (sym into) (like_assign (seen structs ls scope.variables ns) name at.from at.kind v (seen_one structs ls x) (seen_lookup structs ls scope.variables ns name ∙ ap (option_map (seen_one structs ls)) found) held own (holding_like ls scope.variables ns h)));
          many = put_length (x.place + at.from) v ls (omega (arith, inside, long, below.1, room));
        })

    -- ---- several values

    -- spots for destinations that take values of these types, each in the scope in which the ones before have declared theirs
    abbrev pub AreSpots : Scope → List Destination → List ValueType → List Spot → Type 0
    AreSpots scope [] [] [] = Unit {0}
    AreSpots scope (d ∷ ds) (kind ∷ types) (spot ∷ spots) = IsSpot scope d kind spot × AreSpots (after_destination d scope) ds types spots
    AreSpots scope ds types spots = ⊥

    abbrev pub following_all : List Destination → Scope → Scope
    following_all [] scope = scope
    following_all (d ∷ ds) scope = following_all ds (after_destination d scope)

    pub spot_long : (scope : Scope) (d : Destination) (kind : ValueType) (spot : Spot) → IsSpot scope d kind spot → spot_words spot ≡ words_in structs kind
    spot_long scope Nowhere kind spot is = ap spot_words is
    spot_long scope (New name k) kind spot (same, is) = ap spot_words is ∙ ap (words_in structs) same
    spot_long scope (Into name at) kind spot (x, found, held, same, is) = ap spot_words is ∙ ap length same

    take_first : (v : Value) (rest : Words) (n : ℕ) → n ≡ length v → (take n (v ++ rest) ≡ v) × (drop n (v ++ rest) ≡ rest)
    take_first v rest n e = (ap (λ k. take k (v ++ rest)) e ∙ take-append_seam v rest, ap (λ k. drop k (v ++ rest)) e ∙ drop-append_seam v rest)

    pub more_words : (ds : List Destination) (scope : Scope) → scope.words ≤ (following_all ds scope).words
    more_words [] scope = omega arith
    more_words (d ∷ ds) scope = let m = more_words ds (after_destination d scope) in let n = one_more d in omega (arith, m, n) where
      one_more : (d : Destination) → scope.words ≤ (after_destination d scope).words
      one_more Nowhere = omega arith
      one_more (New name kind) = omega arith
      one_more (Into name at) = omega arith

    pub record AreStored (ds : List Destination) (vs : List Value) (scope : Scope) (ns : List ℕ) (ls ms : Words) : Type 0 where
      pub seen_is : seen structs ms (following_all ds scope).variables ns ≡ all_stored structs ds vs (seen structs ls scope.variables ns)
      pub placed : IsPlaced structs (following_all ds scope) ns
      pub holding : Holding structs ms (following_all ds scope).variables
      pub many : length ms ≡ length ls

    pub stores_forward : (ds : List Destination) (types : List ValueType) (spots : List Spot) (vs : List Value) (scope : Scope) (ns : List ℕ) (ls : Words) → IsPlaced structs scope ns → Holding structs ls scope.variables → (following_all ds scope).words ≤ length ls → AreSpots scope ds types spots → AreLike structs types vs
        → AreStored ds vs scope ns ls (put_forward spots (all_words_of vs) ls)
    stores_forward [] [] [] [] scope ns ls p h room are like = record { seen_is = refl; placed = p; holding = h; many = refl }
    stores_forward [] [] [] (v ∷ vs) scope ns ls p h room are like = absurd like
    stores_forward [] [] (spot ∷ spots) vs scope ns ls p h room are like = absurd are
    stores_forward [] (kind ∷ types) spots vs scope ns ls p h room are like = absurd are
    stores_forward (d ∷ ds) [] spots vs scope ns ls p h room are like = absurd are
    stores_forward (d ∷ ds) (kind ∷ types) [] vs scope ns ls p h room are like = absurd are
    stores_forward (d ∷ ds) (kind ∷ types) (spot ∷ spots) [] scope ns ls p h room are like = absurd like
    stores_forward (d ∷ ds) (kind ∷ types) (spot ∷ spots) (v ∷ vs) scope ns ls p h room are like =
        let long : spot_words spot ≡ length v = spot_long scope d kind spot are.0 ∙ sym (like_long structs kind v like.0) in
        let first = take_first v (all_words_of vs) (spot_words spot) long in
        let one = stores_one d kind spot v scope ns ls p h (let m = more_words ds (after_destination d scope) in omega (arith, m, room)) are.0 like.0 in
        let ms = put_spot spot v ls in
        let more = stores_forward ds types spots vs (after_destination d scope) ns ms one.placed one.holding (omega (arith, room, one.many)) are.1 like.1 in
        subst (λ (x : Words). AreStored (d ∷ ds) (v ∷ vs) scope ns ls (put_forward spots (drop (spot_words spot) (v ++ all_words_of vs)) (put_spot spot x ls))) (sym first.0)
        (subst (λ (x : Words). AreStored (d ∷ ds) (v ∷ vs) scope ns ls (put_forward spots x ms)) (sym first.1) (record {
          seen_is = more.seen_is ∙ ap (all_stored structs ds vs) one.seen_is;
          placed = more.placed;
          holding = more.holding;
          many = more.many ∙ one.many;
        }))
