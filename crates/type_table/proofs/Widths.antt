-- Marks of structs, and the widths that they stand for.
use Rattle.std.proofs.Common.{◌≡◌, ℕ, zero, suc, ◌+◌, ◌≤◌, ◌<◌, min, ◌⊎◌, inl, inr, List, [], ◌∷◌, ◌++◌, Option, Some, None, refl, sym, ap, set, length, slice_get, arith, take, map, subst, zero-add, suc-add, ◌-◌}
use Rattle.std.proofs.lemmas.Option.{same_Some, none-some}
use Rattle.type_table.specs.declared.width.Mark.{Mark}
use Rattle.type_table.specs.declared.width.Mark.TheVariants.{New, Open, Wide}
use Rattle.type_table.specs.declared.entry.FieldEntry.{FieldEntry}
use Rattle.type_table.specs.declared.entry.StructEntry.{StructEntry}
use Rattle.type_table.specs.Views.{kind_of, field_in, fields_of_entry, structs_of}
use Rattle.type_table.specs.Types.{ValueType, IntType, BoolType, StructType, ChannelType}
use Rattle.type_table.specs.Containment.{Field, Structs, fields_of, Holds, Directly, Through, together, kind_width, fields_width, width_within, kind_at, HasStruct}
use Rattle.type_table.specs.Marks.{news, wides, IsWide, AreWide, Stands, Goes}

pub news-open : (ms : List Mark) (s : ℕ) → slice_get ms s ≡ Some New → suc (news (set ms s Open)) ≡ news ms
news-open [] s h = cc
news-open (New ∷ ms) zero h = refl
news-open (Open ∷ ms) zero h = cc
news-open (Wide w ∷ ms) zero h = cc
news-open (New ∷ ms) (suc s) h = ap suc (news-open ms s h)
news-open (Open ∷ ms) (suc s) h = news-open ms s h
news-open (Wide w ∷ ms) (suc s) h = news-open ms s h

pub wides-open : (ms : List Mark) (s : ℕ) → slice_get ms s ≡ Some New → wides (set ms s Open) ≡ wides ms
wides-open [] s h = cc
wides-open (New ∷ ms) zero h = refl
wides-open (Open ∷ ms) zero h = cc
wides-open (Wide w ∷ ms) zero h = cc
wides-open (New ∷ ms) (suc s) h = wides-open ms s h
wides-open (Open ∷ ms) (suc s) h = wides-open ms s h
wides-open (Wide w ∷ ms) (suc s) h = ap suc (wides-open ms s h)

pub wides-wide : (ms : List Mark) (s w : ℕ) → slice_get ms s ≡ Some Open → wides (set ms s (Wide w)) ≡ suc (wides ms)
wides-wide [] s w h = cc
wides-wide (New ∷ ms) zero w h = cc
wides-wide (Open ∷ ms) zero w h = refl
wides-wide (Wide v ∷ ms) zero w h = cc
wides-wide (New ∷ ms) (suc s) w h = wides-wide ms s w h
wides-wide (Open ∷ ms) (suc s) w h = wides-wide ms s w h
wides-wide (Wide v ∷ ms) (suc s) w h = ap suc (wides-wide ms s w h)

pub news-wide : (ms : List Mark) (s w : ℕ) → slice_get ms s ≡ Some Open → news (set ms s (Wide w)) ≡ news ms
news-wide [] s w h = cc
news-wide (New ∷ ms) zero w h = cc
news-wide (Open ∷ ms) zero w h = refl
news-wide (Wide v ∷ ms) zero w h = cc
news-wide (New ∷ ms) (suc s) w h = ap suc (news-wide ms s w h)
news-wide (Open ∷ ms) (suc s) w h = news-wide ms s w h
news-wide (Wide v ∷ ms) (suc s) w h = news-wide ms s w h

pub wides-le : (ms : List Mark) → wides ms ≤ length ms
wides-le [] = omega arith
wides-le (New ∷ ms) = let h : wides ms ≤ length ms = wides-le ms in omega arith
wides-le (Open ∷ ms) = let h : wides ms ≤ length ms = wides-le ms in omega arith
wides-le (Wide w ∷ ms) = let h : wides ms ≤ length ms = wides-le ms in omega arith

-- what is found after a write was written, or was there before
pub got : (ms : List Mark) (s o : ℕ) (x m : Mark) → slice_get (set ms s x) o ≡ Some m → ((o ≡ s) × (x ≡ m)) ⊎ (slice_get ms o ≡ Some m)
got [] s o x m h = inr h
got (a ∷ ms) zero zero x m h = inl (refl, cc)
got (a ∷ ms) zero (suc o) x m h = inr h
got (a ∷ ms) (suc s) zero x m h = inr h
got (a ∷ ms) (suc s) (suc o) x m h = elim (got ms s o x m h) [ inl e ↦ inl (ap suc e.0, e.1) | inr e ↦ inr e ]

-- what was there is there after a write, unless it was written over
pub stays : (ms : List Mark) (s o : ℕ) (x m : Mark) → slice_get ms o ≡ Some m → (o ≡ s) ⊎ (slice_get (set ms s x) o ≡ Some m)
stays [] s o x m h = inr h
stays (a ∷ ms) zero zero x m h = inl refl
stays (a ∷ ms) zero (suc o) x m h = inr h
stays (a ∷ ms) (suc s) zero x m h = inr h
stays (a ∷ ms) (suc s) (suc o) x m h = elim (stays ms s o x m h) [ inl e ↦ inl (ap suc e) | inr e ↦ inr e ]

pub written : (ms : List Mark) (s : ℕ) (x m : Mark) → slice_get ms s ≡ Some m → slice_get (set ms s x) s ≡ Some x
written [] s x m h = cc
written (a ∷ ms) zero x m h = refl
written (a ∷ ms) (suc s) x m h = written ms s x m h

-- ---- widths at a greater depth

pub together-parts : (a b : Option ℕ) (v : ℕ) → together a b ≡ Some v → (m : ℕ) × (n : ℕ) × (a ≡ Some m) × (b ≡ Some n) × (v ≡ m + n)
together-parts None b v h = cc
together-parts (Some m) None v h = cc
together-parts (Some m) (Some n) v h = (m, n, refl, refl, sym (same_Some _ _ h))

pub kind-more : (f g : ℕ → Option ℕ) → ((n v : ℕ) → f n ≡ Some v → g n ≡ Some v) → (kind : Option ValueType) (v : ℕ) → kind_width f kind ≡ Some v → kind_width g kind ≡ Some v
kind-more f g up None v h = h
kind-more f g up (Some IntType) v h = h
kind-more f g up (Some BoolType) v h = h
kind-more f g up (Some (StructType t)) v h = up t v h
kind-more f g up (Some (ChannelType d e)) v h = h

pub fields-more : (f g : ℕ → Option ℕ) → ((n v : ℕ) → f n ≡ Some v → g n ≡ Some v) → (fields : List Field) (v : ℕ) → fields_width f fields ≡ Some v → fields_width g fields ≡ Some v
fields-more f g up [] v h = h
fields-more f g up (field ∷ rest) v h =
    let (m, n, a, b, e) = together-parts (kind_width f field.kind) (fields_width f rest) v h in
    let first = kind-more f g up field.kind m a in
    let others = fields-more f g up rest n b in
    rw (first, others) (ap Some (sym e))

pub width-suc : (structs : Structs) (k s v : ℕ) → width_within structs k s ≡ Some v → width_within structs (suc k) s ≡ Some v
width-suc structs zero s v h = cc
width-suc structs (suc k) s v h =
    fields-more (width_within structs k) (width_within structs (suc k)) (width-suc structs k) (fields_of structs s) v h

pub width-plus : (structs : Structs) (d k s v : ℕ) → width_within structs k s ≡ Some v → width_within structs (d + k) s ≡ Some v
width-plus structs zero k s v h = rw zero-add h
width-plus structs (suc d) k s v h = rw suc-add (width-suc structs (d + k) s v (width-plus structs d k s v h))

pub width-more : (structs : Structs) (k m : ℕ) → k ≤ m → (s v : ℕ) → width_within structs k s ≡ Some v → width_within structs m s ≡ Some v
width-more structs k m le s v h =
    let e : m - k + k ≡ m = omega arith in
    let P : ℕ → Type 0 = λ n. width_within structs n s ≡ Some v in
    subst P e (width-plus structs (m - k) k s v h)

pub wide-more : (structs : Structs) (k m : ℕ) → k ≤ m → (s w : ℕ) → IsWide structs k s w → IsWide structs m s w
wide-more structs k m le s w h = (h.0, width-more structs k m le s h.0 h.1, h.2)

pub are-more : (structs : Structs) (k m : ℕ) → k ≤ m → (fields : List Field) (w : ℕ) → AreWide structs k fields w → AreWide structs m fields w
are-more structs k m le fields w h =
    (h.0, fields-more (width_within structs k) (width_within structs m) (width-more structs k m le) fields h.0 h.1, h.2)

-- one field more
pub fields-append : (f : ℕ → Option ℕ) (fields : List Field) (field : Field) (m n : ℕ) → fields_width f fields ≡ Some m → kind_width f field.kind ≡ Some n → fields_width f (fields ++ field ∷ []) ≡ Some (m + n)
fields-append f [] field m n a b =
    let e : 0 ≡ m = same_Some _ _ a in
    rw b (ap Some (omega arith))
fields-append f (first ∷ rest) field m n a b =
    let (i, j, p, q, e) = together-parts (kind_width f first.kind) (fields_width f rest) m a in
    let more = fields-append f rest field j n q b in
    rw (p, more) (ap Some (omega arith))

-- ---- from marks to marks

pub open-wide : (w : ℕ) → Open ≡ Wide w → ⊥
open-wide w h = cc

pub wide-open : (w : ℕ) → Wide w ≡ Open → ⊥
wide-open w h = cc

pub wide-inj : (w v : ℕ) → Wide w ≡ Wide v → w ≡ v
wide-inj w v h = cc

pub new-open : (a : List Mark) (s o : ℕ) → o ≡ s → slice_get a s ≡ Some New → slice_get a o ≡ Some Open → ⊥
new-open a s o e h k = cc

pub not-both : (b : List Mark) (s o w : ℕ) → o ≡ s → slice_get b s ≡ Some Open → slice_get (set b s (Wide w)) o ≡ Some Open → ⊥
not-both b s o w e h k = let r : slice_get (set b s (Wide w)) s ≡ Some (Wide w) = written b s (Wide w) Open h in cc

pub goes-refl : (structs : Structs) (a : List Mark) → Stands structs a → Goes structs a a
goes-refl structs a h = record { stands = h; opened = λ o e. e; kept = λ o e. e; more = omega arith; fewer = omega arith }

pub goes-trans : (structs : Structs) (a b c : List Mark) → Goes structs a b → Goes structs b c → Goes structs a c
goes-trans structs a b c g h = record {
  stands = h.stands;
  opened = λ o e. g.opened o (h.opened o e);
  kept = λ o e. h.kept o (g.kept o e);
  more = let p : wides a ≤ wides b = g.more in let q : wides b ≤ wides c = h.more in omega arith;
  fewer = let p : news b ≤ news a = g.fewer in let q : news c ≤ news b = h.fewer in omega arith;
}

-- a struct is opened
pub stands-open : (structs : Structs) (a : List Mark) (s : ℕ) → slice_get a s ≡ Some New → Stands structs a → Stands structs (set a s Open)
stands-open structs a s new h t w e =
    elim (got a s t Open (Wide w) e) [
      | inl both ↦ absurd (open-wide w both.1)
      | inr was ↦ rw (wides-open a s new) (h t w was)
    ]

-- its width is known
pub stands-wide : (structs : Structs) (a : List Mark) (s w : ℕ) → slice_get a s ≡ Some Open → AreWide structs (suc (wides a)) (fields_of structs s) w → Stands structs a → Stands structs (set a s (Wide w))
stands-wide structs a s w is_open own h t v e =
    elim (got a s t (Wide w) (Wide v) e) [
      | inl both ↦ rw (wides-wide a s w is_open, both.0, ← wide-inj w v both.1) own
      | inr was ↦ rw (wides-wide a s w is_open) (wide-more structs (suc (wides a)) (suc (suc (wides a))) (omega arith) t v (h t v was))
    ]

pub goes-visit : (structs : Structs) (a b : List Mark) (s w : ℕ) → slice_get a s ≡ Some New → Goes structs (set a s Open) b → AreWide structs (suc (wides b)) (fields_of structs s) w → Goes structs a (set b s (Wide w))
goes-visit structs a b s w new g own =
    let is_open : slice_get b s ≡ Some Open = g.kept s (written a s Open New new) in
    record {
      stands = stands-wide structs b s w is_open own g.stands;
      opened = λ o e. elim (got b s o (Wide w) Open e) [
        | inl both ↦ absurd (wide-open w both.1)
        | inr was ↦ elim (got a s o Open Open (g.opened o was)) [
          | inl same ↦ absurd (not-both b s o w same.0 is_open e)
          | inr before ↦ before
        ]
      ];
      kept = λ o e. elim (stays a s o Open Open e) [
        | inl same ↦ absurd (new-open a s o same new e)
        | inr there ↦ elim (stays b s o (Wide w) Open (g.kept o there)) [ inl same ↦ absurd (new-open a s o same new e) | inr now ↦ now ]
      ];
      more = let p : wides (set a s Open) ≤ wides b = g.more in
          let q : wides (set a s Open) ≡ wides a = wides-open a s new in
          let r : wides (set b s (Wide w)) ≡ suc (wides b) = wides-wide b s w is_open in omega arith;
      fewer = let p : news b ≤ news (set a s Open) = g.fewer in
          let q : suc (news (set a s Open)) ≡ news a = news-open a s new in
          let r : news (set b s (Wide w)) ≡ news b = news-wide b s w is_open in omega arith;
    }

pub no-suc : (n : ℕ) → 0 ≡ suc n → ⊥
no-suc n h = omega arith

-- ---- in memory

pub fields-there : (types : List (List ℕ)) (entries : List StructEntry) (s : ℕ) (e : StructEntry) → slice_get entries s ≡ Some e → fields_of (structs_of types entries) s ≡ fields_of_entry types e
fields-there types [] s e h = cc
fields-there types (first ∷ rest) zero e h = ap (fields_of_entry types) (same_Some _ _ h)
fields-there types (first ∷ rest) (suc s) e h = fields-there types rest s e h

pub field-there : (types : List (List ℕ)) (items : List FieldEntry) (j : ℕ) (f : FieldEntry) → slice_get items j ≡ Some f → slice_get (map (field_in types) items) j ≡ Some (field_in types f)
field-there types [] j f h = cc
field-there types (first ∷ rest) zero f h = ap (λ (x : FieldEntry). Some (field_in types x)) (same_Some _ _ h)
field-there types (first ∷ rest) (suc j) f h = field-there types rest j f h

pub take-one : (fields : List Field) (j : ℕ) (f : Field) → slice_get fields j ≡ Some f → take (suc j) fields ≡ take j fields ++ f ∷ []
take-one [] j f h = cc
take-one (first ∷ rest) zero f h = ap (λ (x : Field). x ∷ []) (same_Some _ _ h)
take-one (first ∷ rest) (suc j) f h = ap (λ (r : List Field). first ∷ r) (take-one rest j f h)

-- one field more is known
pub are-step : (structs : Structs) (k : ℕ) (fields : List Field) (j : ℕ) (f : Field) (w own v : ℕ) → AreWide structs k (take j fields) w → kind_width (width_within structs k) f.kind ≡ Some v → own ≡ min v 17 → slice_get fields j ≡ Some f → AreWide structs k (take (suc j) fields) (min (w + own) 17)
are-step structs k fields j f w own v h e o there =
    let all : fields_width (width_within structs k) (take j fields ++ f ∷ []) ≡ Some (h.0 + v) = fields-append (width_within structs k) (take j fields) f h.0 v h.1 e in
    let q : w ≡ min h.0 17 = h.2 in
    (h.0 + v, rw (take-one fields j f there) all, omega arith)

-- a struct that holds an open struct holds what is in its fields
pub holds-field : (types : List (List ℕ)) (entries : List StructEntry) (a b : List Mark) (s : ℕ) (e : StructEntry) (j : ℕ) (f : FieldEntry)
    → slice_get entries s ≡ Some e → slice_get e.fields.items j ≡ Some f
    → ((o : ℕ) → slice_get a o ≡ Some Open → Holds (structs_of types entries) o s)
    → Goes (structs_of types entries) (set a s Open) b
    → (o : ℕ) → slice_get b o ≡ Some Open → (t : ℕ) → kind_of types f.kind ≡ StructType t → Holds (structs_of types entries) o t
holds-field types entries a b s e j f there item holds goes o is_open t is =
    let kind : kind_at (fields_of (structs_of types entries) s) j ≡ Some (StructType t) =
    rw (fields-there types entries s e there, field-there types e.fields.items j f item) (ap Some is) in
    elim (got a s o Open Open (goes.opened o is_open)) [
      | inl same ↦ rw same.0 (Directly s t (j, kind))
      | inr was ↦ Through o s t (holds o was) (j, kind)
    ]

pub past : (structs : Structs) (marks : List Mark) (t : ℕ) → length marks ≡ length structs → slice_get marks t ≡ None → fields_of structs t ≡ []
past [] marks t e h = refl
past (first ∷ rest) [] t e h = absurd (no-suc (length rest) e)
past (first ∷ rest) (m ∷ marks) zero e h = cc
past (first ∷ rest) (m ∷ marks) (suc t) e h = past rest marks t (omega arith) h

-- there is no struct of this number
pub no-width : (structs : Structs) (marks : List Mark) (k t : ℕ) → length marks ≡ length structs → slice_get marks t ≡ None → width_within structs (suc k) t ≡ Some 0
no-width structs marks k t e h = rw (past structs marks t e h) refl

-- ---- no struct of finite width contains itself

pub kind-struct : (f : ℕ → Option ℕ) (kind : Option ValueType) (t m : ℕ) → kind ≡ Some (StructType t) → kind_width f kind ≡ Some m → f t ≡ Some m
kind-struct f kind t m k a = rw k at a

pub fields-each : (f : ℕ → Option ℕ) (fields : List Field) (v : ℕ) → fields_width f fields ≡ Some v → (j t : ℕ) → kind_at fields j ≡ Some (StructType t) → (u : ℕ) × (f t ≡ Some u)
fields-each f [] v h j t k = absurd (none-some (StructType t) k)
fields-each f (field ∷ rest) v h zero t k =
    let (m, n, a, b, e) = together-parts (kind_width f field.kind) (fields_width f rest) v h in
    (m, kind-struct f field.kind t m k a)
fields-each f (field ∷ rest) v h (suc j) t k =
    let (m, n, a, b, e) = together-parts (kind_width f field.kind) (fields_width f rest) v h in
    fields-each f rest n b j t k

pub further : (structs : Structs) (k m t : ℕ) → HasStruct (fields_of structs m) t → (j : ℕ) × (u : ℕ) × (j < k) × (width_within structs j m ≡ Some u) → (j : ℕ) × (u : ℕ) × (j < k) × (width_within structs j t ≡ Some u)
further structs k m t has (zero, v, less, h) = absurd (none-some v h)
further structs k m t has (suc j, v, less, h) =
    let (u, e) = fields-each (width_within structs j) (fields_of structs m) v h has.0 t has.1 in
    (j, u, omega arith, e)

-- what a struct contains is of finite width, looked at less deep
pub held : (structs : Structs) (s t : ℕ) → Holds structs s t → (k v : ℕ) → width_within structs k s ≡ Some v → (j : ℕ) × (u : ℕ) × (j < k) × (width_within structs j t ≡ Some u)
held structs _ _ (Directly s t has) zero v h = absurd (none-some v h)
held structs _ _ (Directly s t has) (suc k) v h =
    let (u, e) = fields-each (width_within structs k) (fields_of structs s) v h has.0 t has.1 in
    (k, u, omega arith, e)
held structs _ _ (Through s m t first has) k v h = further structs k m t has (held structs s m first k v h)

pub not-itself : (structs : Structs) (s : ℕ) → Holds structs s s → (n k v : ℕ) → k ≤ n → width_within structs k s ≡ Some v → ⊥
not-itself structs s holds zero k v le h =
    let (j, u, less, e) = held structs s s holds k v h in omega arith
not-itself structs s holds (suc n) k v le h =
    let (j, u, less, e) = held structs s s holds k v h in
    not-itself structs s holds n j u (omega arith) e

-- ---- lists that grow at the end

pub got-append : {A : Type 0} (xs : List A) (x y : A) (o : ℕ) → slice_get (xs ++ x ∷ []) o ≡ Some y → (slice_get xs o ≡ Some y) ⊎ ((o ≡ length xs) × (x ≡ y))
got-append [] x y zero h = inr (refl, same_Some _ _ h)
got-append [] x y (suc o) h = absurd (none-some y h)
got-append (a ∷ xs) x y zero h = inl h
got-append (a ∷ xs) x y (suc o) h = elim (got-append xs x y o h) [ inl e ↦ inl e | inr e ↦ inr (ap suc e.0, e.1) ]

pub new-append : (xs : List Mark) → ((o : ℕ) (m : Mark) → slice_get xs o ≡ Some m → m ≡ New) → (o : ℕ) (m : Mark) → slice_get (xs ++ New ∷ []) o ≡ Some m → m ≡ New
new-append xs all o m h = elim (got-append xs New m o h) [ inl e ↦ all o m e | inr e ↦ sym e.1 ]

pub known-append : (structs : Structs) (a b : List Mark) (ws : List ℕ) (w : ℕ) → wides a ≤ wides b
    → ((s v : ℕ) → slice_get ws s ≡ Some v → IsWide structs (suc (wides a)) s v) → IsWide structs (suc (wides b)) (length ws) w
    → (s v : ℕ) → slice_get (ws ++ w ∷ []) s ≡ Some v → IsWide structs (suc (wides b)) s v
known-append structs a b ws w le known new s v h =
    elim (got-append ws w v s h) [
      | inl e ↦ wide-more structs (suc (wides a)) (suc (wides b)) (omega arith) s v (known s v e)
      | inr e ↦ rw (e.0, ← e.1) new
    ]

pub no-less : (n : ℕ) → suc n ≤ 0 → ⊥
no-less n h = omega arith

pub there : (ws : List ℕ) (s : ℕ) → ((w : ℕ) × (slice_get ws s ≡ Some w)) ⊎ (length ws ≤ s)
there [] s = inr (omega arith)
there (w ∷ ws) zero = inl (w, refl)
there (w ∷ ws) (suc s) = elim (there ws s) [ inl e ↦ inl e | inr e ↦ inr (omega arith) ]

pub beyond : (structs : Structs) (s : ℕ) → length structs ≤ s → fields_of structs s ≡ []
beyond [] s h = refl
beyond (first ∷ rest) zero h = absurd (no-less (length rest) h)
beyond (first ∷ rest) (suc s) h = beyond rest s (omega arith)

pub none-itself : (structs : Structs) (n : ℕ) (ws : List ℕ) → length ws ≡ length structs → ((s v : ℕ) → slice_get ws s ≡ Some v → IsWide structs n s v)
    → (s : ℕ) → Holds structs s s → ⊥
none-itself structs n ws e known s holds =
    elim (there ws s) [
      | inl has ↦ let w = known s has.0 has.1 in not-itself structs s holds n n w.0 (omega arith) w.1
      | inr past_end ↦ not-itself structs s holds 1 1 0 (omega arith) (rw (beyond structs s (rw (← e) past_end)) refl)
    ]
