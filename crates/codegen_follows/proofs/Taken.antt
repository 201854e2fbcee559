-- Values that a call or a request gives are dropped, stored or returned.
use Rattle.std.proofs.Common.{◌≡◌, ℕ, List, [], ◌∷◌, ◌++◌, length, map, drop, Option, refl, sym, ap, ◌∙◌, subst, arith, length-append, append_assoc}
use Rattle.bytecode.specs.Machine.{Frames as CodeFrames}
use Rattle.type_table.specs.Types.{ValueType}
use Rattle.type_table.specs.Containment.{Structs}
use Rattle.type_table.specs.Scopes.{Globals}
use Rattle.type_table.specs.Zeros.{zero_words}
use Rattle.meaning.specs.Values.{Value, words_like, parted}
use Rattle.meaning.specs.Variables.{Blocks, Destination, all_stored, entered}
use Rattle.meaning.specs.Tasks.{Task, Frame, frame, Course, Goes, Moves}
use Rattle.plan.specs.Plan.{Skip}
use Rattle.plan.proofs.Words.{Words}
use Rattle.codegen_base.proofs.Likeness.{like_long, made_like, AreLike, all_words_of}
use Rattle.codegen_base.proofs.Storing.{drops_goes}
use Rattle.codegen_follows.proofs.Stands.{Around, View, Together, all_wide, Taking, Sits}
use Rattle.codegen_follows.proofs.Follows.{lands_same}
use Rattle.codegen_base.proofs.Running.{Compiled, Coded}
use Rattle.codegen_follows.proofs.Simulated.{Simulated, Held, Rest, blocks_of, at, Works, Reaches, reaches_after, slides}
use Rattle.meaning.specs.Worked.{Worked, ready}
use Rattle.codegen_follows.proofs.Stored.{stores_go}
use Rattle.meaning.specs.Source.{assigned}

-- ---- the words of several values

module _ (structs : Structs) where
  abbrev words : List Value → Words
  words vs = all_words_of vs

  abbrev Likes : List ValueType → List Value → Type 0
  Likes types vs = AreLike structs types vs

  pub parted_like : (types : List ValueType) (ws : Words) → Likes types (parted (map (zero_words structs) types) ws)
  parted_like [] ws = tt
  parted_like (kind ∷ types) ws = (made_like structs kind ws, parted_like types (drop (length (zero_words structs kind)) ws))

  words_append : (vs more : List Value) → words (vs ++ more) ≡ words vs ++ words more
  words_append [] more = refl
  words_append (v ∷ vs) more = ap (λ (l : Words). v ++ l) (words_append vs more) ∙ sym (append_assoc v (words vs) (words more))

  -- values are those of other types with the same zeros
  pub recast_like : (types others : List ValueType) (vs : List Value) → map (zero_words structs) types ≡ map (zero_words structs) others → Likes types vs → Likes others vs
  recast_like [] [] vs e l = l
  recast_like [] (o ∷ others) vs e l = absurd cc
  recast_like (kind ∷ types) [] vs e l = absurd cc
  recast_like (kind ∷ types) (o ∷ others) [] e l = absurd l
  recast_like (kind ∷ types) (o ∷ others) (v ∷ vs) e l = (subst (λ (z : Value). words_like z v ≡ v) (ap first e) l.0, recast_like types others vs (ap rest e) l.1) where
    first : List Value → Value
    first [] = zero_words structs kind
    first (z ∷ zs) = z

    rest : List Value → List Value
    rest [] = []
    rest (z ∷ zs) = zs

  -- values of these types and of those
  pub record Split (types others : List ValueType) (vs : List Value) : Type 0 where
    pub front : List Value
    pub back : List Value
    pub is : vs ≡ front ++ back
    pub like : Likes types front
    pub more : Likes others back

  pub split : (types others : List ValueType) (vs : List Value) → Likes (types ++ others) vs → Split types others vs
  split [] others vs l = record { front = []; back = vs; is = refl; like = tt; more = l }
  split (kind ∷ types) others [] l = absurd l
  split (kind ∷ types) others (v ∷ vs) l = let s = split types others vs l.1 in record { front = v ∷ s.front; back = s.back; is = ap (λ (x : List Value). v ∷ x) s.is; like = (l.0, s.like); more = s.more }

module _ {globals : Globals} {program : Compiled globals} {coded : Coded program} (simulated : Simulated coded) where
  open program use {elements, code, wide as all}
  open coded use {function as f, number as g, there, result}
  open simulated use {running, running.{context, context.{callers as ds}}, fine_following, sitting}

  abbrev structs : Structs
  structs = globals.structs

  abbrev S : View → Around → Option ℕ → List Task → Type 0
  S view l place tasks = Sits coded view l place tasks

  abbrev H : Words → View → Type 0
  H ls view = Held coded ls view

  abbrev Works' : Worked Course → CodeFrames → Type 0
  Works' work c = Works simulated work c

  abbrev Reaches' : Frame → CodeFrames → Type 0
  Reaches' top c = Reaches simulated top c

  abbrev place_at : ℕ → Words → Words → CodeFrames
  place_at place ls stack = at simulated place ls stack

  abbrev blocks : Words → View → Blocks
  blocks ls view = blocks_of coded ls view

  -- values are dropped or go to destinations
  abbrev pub comes_of : Blocks → List Task → List Destination → List Value → Course
  comes_of b k [] vs = Goes (frame b k)
  comes_of b k (first ∷ more) vs = Moves (frame (all_stored structs (first ∷ more) vs b) k)

  -- in a block of its own
  pub assigned_comes : (b : Blocks) (k : List Task) (destinations : List Destination) (vs : List Value) (tasks : List Task) → comes_of (entered b) tasks destinations vs ≡ assigned globals b k destinations vs tasks
  assigned_comes b k [] vs tasks = refl
  assigned_comes b k (first ∷ more) vs tasks = refl

  pub wide_words : (types : List ValueType) (vs : List Value) → AreLike structs types vs → all_wide coded types ≡ length (all_words_of vs)
  wide_words [] [] l = refl
  wide_words [] (v ∷ vs) l = absurd l
  wide_words (kind ∷ types) [] l = absurd l
  wide_words (kind ∷ types) (v ∷ vs) l =
      let more = wide_words types vs l.1 in
      let long = like_long structs kind v l.0 in
      omega (arith, more, long, length-append v (all_words_of vs))

  pub taken_goes : (ls : Words) (view next : View) (l : Around) (types : List ValueType) (vs : List Value) (destinations : List Destination) (place : ℕ) (mid : Option ℕ) (k : List Task) → H ls view → AreLike structs types vs → Taking coded l view types destinations next place mid → Together view next → Rest coded next l mid k
      → Works' (ready (comes_of (blocks ls view) k destinations vs)) (place_at place ls (all_words_of vs))
  taken_goes ls view next l types vs [] place mid k h like (on, same) t r =
      let m = drops_goes running l.leave l.again (all_wide coded types) (all_words_of vs) [] ls Skip mid place (wide_words types vs like) on in
      slides simulated (frame (blocks ls view) k) (place_at place ls (all_words_of vs)) (reaches_after simulated (frame (blocks ls view) k) (place_at place ls (all_words_of vs)) (place_at m.0 ls []) m.1
      (lands_same simulated ls view next l m.0 mid k h same t.0 m.2 r))
  taken_goes ls view next l types vs (first ∷ more) place mid k h like (kept, others, types-are, d) t r =
      let s = split structs kept others vs (recast_like structs types (kept ++ others) vs types-are like) in
      let words-are : all_words_of vs ≡ all_words_of s.front ++ all_words_of s.back = ap all_words_of s.is ∙ words_append structs s.front s.back in
      subst (λ (x : Words). Works' (ready (Moves (frame (all_stored structs (first ∷ more) vs (blocks ls view)) k))) (place_at place ls x)) (sym words-are)
      (subst (λ (x : List Value). Works' (ready (Moves (frame (all_stored structs (first ∷ more) x (blocks ls view)) k))) (place_at place ls (all_words_of s.front ++ all_words_of s.back))) (sym s.is)
      (stores_go simulated ls view next l (first ∷ more) kept s.front s.back (all_wide coded others) place mid k h d s.like (wide_words others s.back s.more) t.0 r))
