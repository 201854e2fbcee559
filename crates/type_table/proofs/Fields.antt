-- Fields of structs, one after the other.
use Rattle.std.proofs.Common.{◌≡◌, ℕ, zero, suc, ◌+◌, ◌<◌, ◌≤◌, ◌-◌, List, [], ◌∷◌, ◌++◌, map, Option, Some, None, false, option_map, bytes_eq, length, slice_get, refl, sym, ap, arith}
use Rattle.std.proofs.lemmas.Option.{same_Some}
use Rattle.std.proofs.lemmas.List.{length-append, length-map}
use Rattle.type_table.specs.declared.entry.StructEntry.{StructEntry}
use Rattle.type_table.specs.Types.{ValueType, IntType, BoolType, StructType, ChannelType}
use Rattle.type_table.specs.Containment.{Field, Structs, Selected, words_of, kind_width, fields_width, width_within, width, variable_words, following, field_among, fields_of, kind_parts, fields_parts, parts_within, parts}
use Rattle.type_table.specs.Views.{Fits, structs_of}
use Rattle.type_table.proofs.Widths.{together-parts, fields-more, width-suc}

pub after_both : (place words : ℕ) (o : Option Selected) → option_map (following place) (option_map (following words) o) ≡ option_map (following (place + words)) o
after_both place words None = refl
after_both place words (Some s) =
    let e : place + (words + s.place) ≡ place + words + s.place = omega arith in
    ap (λ (n : ℕ). Some (record { place = n; kind = s.kind })) e

pub next_field : (structs : Structs) (first : Field) (rest : List Field) (name : List ℕ) (place : ℕ) → bytes_eq first.name name ≡ false
    → option_map (following place) (field_among structs (first ∷ rest) name) ≡ option_map (following (place + variable_words structs first.kind)) (field_among structs rest name)
next_field structs first rest name place e = rw e (after_both place (variable_words structs first.kind) (field_among structs rest name))

pub next_fits : (structs : Structs) (name : List ℕ) (k : ValueType) (rest : List Field) (place : ℕ)
    → Fits structs (record { name = name; kind = Some k } ∷ rest) place → Fits structs rest (place + variable_words structs (Some k))
next_fits structs name k rest place h =
    let (m, n, a, b, e) = together-parts (kind_width (width_within structs (suc (length structs))) (Some k)) (fields_width (width_within structs (suc (length structs))) rest) h.0 h.1 in
    let words : variable_words structs (Some k) ≡ m = ap words_of a in
    let room = h.2 in
    (n, b, rw words (omega arith))

pub all_fit : (structs : Structs) (s w : ℕ) → width structs (StructType s) ≡ Some w → w ≤ 16 → Fits structs (fields_of structs s) 0
all_fit structs s w h small =
    (w, fields-more (width_within structs (length structs)) (width_within structs (suc (length structs))) (width-suc structs (length structs)) (fields_of structs s) w h, omega arith)

pub no_fields : (types : List (List ℕ)) (entries : List StructEntry) (s : ℕ) → slice_get entries s ≡ None → fields_of (structs_of types entries) s ≡ []
no_fields types [] s h = refl
no_fields types (first ∷ rest) zero h = cc
no_fields types (first ∷ rest) (suc s) h = no_fields types rest s h

-- ---- parts: as many as a value takes words

pub kind-parts-count : (f : ℕ → Option ℕ) (p : ℕ → List ValueType) → ((n v : ℕ) → f n ≡ Some v → length (p n) ≡ v)
    → (kind : Option ValueType) (v : ℕ) → kind_width f kind ≡ Some v → length (kind_parts p kind) ≡ v
kind-parts-count f p count None v h = cc
kind-parts-count f p count (Some IntType) v h = same_Some _ _ h
kind-parts-count f p count (Some BoolType) v h = same_Some _ _ h
kind-parts-count f p count (Some (StructType t)) v h = count t v h
kind-parts-count f p count (Some (ChannelType d e)) v h = same_Some _ _ h

pub fields-parts-count : (f : ℕ → Option ℕ) (p : ℕ → List ValueType) → ((n v : ℕ) → f n ≡ Some v → length (p n) ≡ v)
    → (fields : List Field) (v : ℕ) → fields_width f fields ≡ Some v → length (fields_parts p fields) ≡ v
fields-parts-count f p count [] v h = same_Some _ _ h
fields-parts-count f p count (field ∷ rest) v h =
    let (m, n, a, b, e) = together-parts (kind_width f field.kind) (fields_width f rest) v h in
    let first = kind-parts-count f p count field.kind m a in
    let others = fields-parts-count f p count rest n b in
    rw (length-append, first, others) (sym e)

pub parts-within-count : (structs : Structs) (depth s v : ℕ) → width_within structs depth s ≡ Some v → length (parts_within structs depth s) ≡ v
parts-within-count structs zero s v h = cc
parts-within-count structs (suc depth) s v h =
    fields-parts-count (width_within structs depth) (parts_within structs depth) (parts-within-count structs depth) (fields_of structs s) v h

pub parts-count : (structs : Structs) (kind : ValueType) (v : ℕ) → width structs kind ≡ Some v → length (parts structs kind) ≡ v
parts-count structs kind v h =
    kind-parts-count (width_within structs (suc (length structs))) (parts_within structs (suc (length structs))) (parts-within-count structs (suc (length structs))) (Some kind) v h

pub parts-there : (structs : Structs) (depth number : ℕ) → 0 < depth → parts_within structs depth number ≡ fields_parts (parts_within structs (depth - 1)) (fields_of structs number)
parts-there structs zero number h = absurd (omega arith)
parts-there structs (suc depth) number h =
    let one : depth ≡ suc depth - 1 = omega arith in
    ap (λ (n : ℕ). fields_parts (parts_within structs n) (fields_of structs number)) one

pub parts-none : (structs : Structs) (depth number : ℕ) → fields_of structs number ≡ [] → parts_within structs depth number ≡ []
parts-none structs zero number h = refl
parts-none structs (suc depth) number h = rw h refl

-- ---- parts: they fit

-- the first field fits if all fields do
pub room-first : (p : ℕ → List ValueType) (field : Field) (rest : List Field) (count : ℕ) → count + length (fields_parts p (field ∷ rest)) ≤ 16 → count + length (kind_parts p field.kind) ≤ 16
room-first p field rest count room = omega (arith, length-append (kind_parts p field.kind) (fields_parts p rest), room)

-- what is left fits if all did
pub room-left : {A B : Type 0} (f : A → B) (now before : List A) (left all : List B) → map f now ++ left ≡ map f before ++ all → length before + length all ≤ 16 → length now + length left ≤ 16
room-left f now before left all same room =
    omega (arith, ap length same, length-append (map f now) left, length-append (map f before) all, length-map now f, length-map before f, room)
