-- Fields lie within the values that they are fields of.
use Rattle.std.proofs.Common.{◌≡◌, ℕ, suc, ◌+◌, ◌≤◌, Bool, true, false, cond, List, [], ◌∷◌, Option, Some, None, option_map, bytes_eq, length, get_or, refl, sym, ap, ◌∙◌, arith}
use Rattle.std.proofs.lemmas.List.{length-map}
use Rattle.type_table.specs.Types.{ValueType, IntType, BoolType, StructType, ChannelType}
use Rattle.type_table.specs.Containment.{Field, Structs, Selected, following, field_among, field_of, fields_of, fields_width, kind_width, parts, variable_words, width, width_within, words_of}
use Rattle.std.specs.Option.{IfSome}
use Rattle.type_table.specs.declared.layout.Selected.{Selected as InTable}
use Rattle.type_table.specs.Views.{AreWidths, kind_of}
use Rattle.type_table.specs.Visible.{selected_of}
use Rattle.type_table.specs.Zeros.{zero_word, zero_words}
use Rattle.type_table.proofs.Fields.{parts-count}
use Rattle.type_table.proofs.Widths.{fields-more, together-parts, width-suc}
use Rattle.meaning.specs.Values.{slot, slot_along}

pub words_counted : (structs : Structs) (widths : List ℕ) → AreWidths structs widths → (kind : ValueType) → length (zero_words structs kind) ≡ variable_words structs (Some kind)
words_counted structs widths sized IntType = refl
words_counted structs widths sized BoolType = refl
words_counted structs widths sized (StructType s) =
    length-map (parts structs (StructType s)) zero_word
    ∙ parts-count structs (StructType s) (get_or widths s 0) (sized s)
    ∙ sym (ap words_of (sized s))
words_counted structs widths sized (ChannelType d e) = refl

-- ---- a field lies within its struct

abbrev pub LiesIn : Structs → Option Selected → ℕ → Type 0
LiesIn structs None words = Unit {0}
LiesIn structs (Some field) words = field.place + variable_words structs field.kind ≤ words

first_lies : (structs : Structs) (kind : Option ValueType) (m n w : ℕ) → kind_width (width_within structs (suc (length structs))) kind ≡ Some m → w ≡ m + n
    → LiesIn structs (Some (record { place = 0; kind = kind })) w
first_lies structs None m n w h e = cc
first_lies structs (Some kind) m n w h e =
    let words : variable_words structs (Some kind) ≡ m = ap words_of h in
    omega (arith, words, e)

after_lies : (structs : Structs) (kind : Option ValueType) (found : Option Selected) (m n w : ℕ) → kind_width (width_within structs (suc (length structs))) kind ≡ Some m → w ≡ m + n
    → LiesIn structs found n → LiesIn structs (option_map (following (variable_words structs kind)) found) w
after_lies structs kind None m n w h e lies = tt
after_lies structs None (Some field) m n w h e lies = cc
after_lies structs (Some kind) (Some field) m n w h e lies =
    let words : variable_words structs (Some kind) ≡ m = ap words_of h in
    omega (arith, words, e, lies)

one_lies : (structs : Structs) (kind : Option ValueType) (found : Option Selected) (same : Bool) (m n w : ℕ) → kind_width (width_within structs (suc (length structs))) kind ≡ Some m → w ≡ m + n
    → LiesIn structs found n → LiesIn structs (cond same (Some (record { place = 0; kind = kind })) (option_map (following (variable_words structs kind)) found)) w
one_lies structs kind found true m n w h e lies = first_lies structs kind m n w h e
one_lies structs kind found false m n w h e lies = after_lies structs kind found m n w h e lies

among_lies : (structs : Structs) (fields : List Field) (name : List ℕ) (w : ℕ) → fields_width (width_within structs (suc (length structs))) fields ≡ Some w → LiesIn structs (field_among structs fields name) w
among_lies structs [] name w h = tt
among_lies structs (field ∷ rest) name w h =
    let (m, n, a, b, e) = together-parts (kind_width (width_within structs (suc (length structs))) field.kind) (fields_width (width_within structs (suc (length structs))) rest) w h in
    one_lies structs field.kind (field_among structs rest name) (bytes_eq field.name name) m n w a e (among_lies structs rest name n b)

pub field_lies : (structs : Structs) (widths : List ℕ) → AreWidths structs widths → (kind : ValueType) (name : List ℕ) → LiesIn structs (field_of structs kind name) (variable_words structs (Some kind))
field_lies structs widths sized IntType name = tt
field_lies structs widths sized BoolType name = tt
field_lies structs widths sized (StructType s) name =
    let wide : width structs (StructType s) ≡ Some (get_or widths s 0) = sized s in
    let deep = fields-more (width_within structs (length structs)) (width_within structs (suc (length structs))) (width-suc structs (length structs)) (fields_of structs s) (get_or widths s 0) wide in
    rw (ap words_of wide) (among_lies structs (fields_of structs s) name (get_or widths s 0) deep)
field_lies structs widths sized (ChannelType d e) name = tt

-- a path leads nowhere from what has no fields
pub lost_slot : (structs : Structs) (from : ℕ) (path : List (List ℕ)) → slot_along structs (slot from IntType) path ≡ slot from IntType
lost_slot structs from [] = refl
lost_slot structs from (name ∷ path) = lost_slot structs from path

pub found_lies : (types : List (List ℕ)) (structs : Structs) (found : Option InTable) (w : ℕ) → LiesIn structs (option_map (selected_of types) found) w
    → IfSome found (λ (field : InTable). field.place + variable_words structs (Some (kind_of types field.kind)) ≤ w)
found_lies types structs None w lies = tt
found_lies types structs (Some field) w lies = lies
