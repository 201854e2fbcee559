use Rattle.std.proofs.Common.{rules, arith, ◌≡◌, suc, ◌<◌, ◌≤◌, Some, None, length, slice_get, take, map, set, refl, ◌∙◌, ap, take_all, length-set, add-one}
use Rattle.std.proofs.lemmas.List.{length-map}
use Rattle.std.proofs.lemmas.Option.{slice_get_within, slice_get_read}
use Rattle.type_table.specs.declared.width.Mark.TheVariants.{New, Open}
use Rattle.type_table.specs.Containment.{fields_of}
use Rattle.type_table.specs.Views.{names_of, kind_of, structs_of, field_in}
use Rattle.type_table.specs.Marks.{wides, AreWide, Goes}
use Rattle.type_table.proofs.Widths.{goes-refl, goes-trans, goes-visit, stands-open, are-more, are-step, no-width, field-there, fields-there, holds-field, news-open, wides-wide, written}
use Rattle.type_table.proofs.width.+visit.Goals as goal

pub field_words-returns-in-Some-Open-clause-cycle : goal.field_words-returns-in-Some-Open-clause-cycle
field_words-returns-in-Some-Open-clause-cycle t c =
    let a = c.mark_at.ensures in
    let b = c.in-Some-Open.is in
    let d = c.in-Some-Open.field-0-is in
    let is : slice_get c.args.marks.now c.in-Struct.t ≡ Some Open = cc in
    c.requires.open c.in-Struct.t is c.in-Struct.t (ap (kind_of (names_of c.args.structs.now)) c.in-Struct.is)

pub field_words-returns-in-None-clause-wide : goal.field_words-returns-in-None-clause-wide
field_words-returns-in-None-clause-wide t c =
    let a = c.mark_at.ensures in
    let b = c.in-None.is in
    let is : slice_get c.args.marks.now c.in-Struct.t ≡ None = cc in
    let all : length c.args.marks.now ≡ length (structs_of (names_of c.args.structs.now) c.args.structs.now) = rw length-map c.requires.all in
    (0, rw c.in-Struct.is (no-width (structs_of (names_of c.args.structs.now) c.args.structs.now) c.args.marks.now (wides c.args.marks.now) c.in-Struct.t all is), refl)

pub field_words-visit-requires : goal.field_words-visit-requires
field_words-visit-requires t c =
    let a = c.mark_at.ensures in
    let b = c.in-Some-New.is in
    let d = c.in-Some-New.field-0-is in
    let is : slice_get c.args.marks.now c.in-Struct.t ≡ Some New = cc in
    (search rules, (is, (c.requires.all, (λ o e. c.requires.open o e c.in-Struct.t (ap (kind_of (names_of c.args.structs.now)) c.in-Struct.is), c.requires.stands))))

pub visit-loop-field-init : goal.visit-loop-field-init
visit-loop-field-init t c =
    let structs = structs_of (names_of c.args.structs.now) c.args.structs.now in
    record {
      goes = goes-refl structs c.put.new.marks (rw c.put.ensures (stands-open structs c.args.marks.now c.args.s c.requires.new c.requires.stands));
      words = (0, refl, refl);
      small = omega arith;
    }

pub visit-field_words-requires : goal.visit-field_words-requires
visit-field_words-requires t c =
    let went = rw c.put.ensures at c.loop-field.invariant.goes in
    let new = news-open c.args.marks.now c.args.s c.requires.new in
    let fewer = went.fewer in
    let below : c.args.s < length c.args.structs.now = rw c.requires.all at (slice_get_within c.args.marks.now c.args.s New c.requires.new) in
    let there : slice_get c.args.structs.now c.args.s ≡ Some c.index-structs-s.result =
    slice_get_read c.args.structs.now (length c.args.structs.now) c.args.s c.index-structs-s.result refl below c.index-structs-s.is in
    let item : slice_get c.as_slice-field-items.result.now c.loop-field.field-index ≡ Some c.field-item.result =
    slice_get_read c.as_slice-field-items.result.now (length c.as_slice-field-items.result.now) c.loop-field.field-index c.field-item.result refl c.loop-field-test.true c.field-item.is in (
      omega arith,
      (
        holds-field (names_of c.args.structs.now) c.args.structs.now c.args.marks.now c.loop-field.marks c.args.s c.index-structs-s.result c.loop-field.field-index c.field-item.result there (rw (c.as_slice-field-items.ensures.value, ← c.index-structs-s.is) at item) c.requires.open went,
        (c.loop-field.auto.marks ∙ (rw (c.put.ensures, length-set) c.requires.all), went.stands),
      ),
    )

pub visit-loop-field-preserved : goal.visit-loop-field-preserved
visit-loop-field-preserved t c =
    let structs = structs_of (names_of c.args.structs.now) c.args.structs.now in
    let fields = map (field_in (names_of c.args.structs.now)) c.as_slice-field-items.result.now in
    let went = c.in_ok-own.ensures.goes in
    let own = c.in_ok-own.ensures.wide in
    let more = went.more in
    let words = are-more structs (suc (wides c.loop-field.marks)) (suc (wides c.field_words.new.marks)) (omega arith) (take c.loop-field.field-index fields) c.loop-field.words c.loop-field.invariant.words in
    let item : slice_get c.as_slice-field-items.result.now c.loop-field.field-index ≡ Some c.field-item.result =
    slice_get_read c.as_slice-field-items.result.now (length c.as_slice-field-items.result.now) c.loop-field.field-index c.field-item.result refl c.loop-field-test.true c.field-item.is in
    let there = field-there (names_of c.args.structs.now) c.as_slice-field-items.result.now c.loop-field.field-index c.field-item.result item in
    let step = are-step structs (suc (wides c.field_words.new.marks)) fields c.loop-field.field-index (field_in (names_of c.args.structs.now) c.field-item.result) c.loop-field.words c.in_ok-own.own own.0 words own.1 own.2 there in
    record {
      goes = goes-trans structs c.put.new.marks c.loop-field.marks c.field_words.new.marks c.loop-field.invariant.goes went;
      words = rw (c.together-words.ensures, add-one) step;
      small = rw c.together-words.ensures (omega arith);
    }

pub visit-returns-clause-goes : goal.visit-returns-clause-goes
visit-returns-clause-goes t c =
    let structs = structs_of (names_of c.args.structs.now) c.args.structs.now in
    let fields = map (field_in (names_of c.args.structs.now)) c.as_slice-field-items.result.now in
    let went : Goes structs (set c.args.marks.now c.args.s Open) c.loop-field.marks = rw c.put.ensures at c.loop-field.invariant.goes in
    let below : c.args.s < length c.args.structs.now = rw c.requires.all at (slice_get_within c.args.marks.now c.args.s New c.requires.new) in
    let there : slice_get c.args.structs.now c.args.s ≡ Some c.index-structs-s.result =
    slice_get_read c.args.structs.now (length c.args.structs.now) c.args.s c.index-structs-s.result refl below c.index-structs-s.is in
    let these : fields ≡ fields_of structs c.args.s =
    rw (fields-there (names_of c.args.structs.now) c.args.structs.now c.args.s c.index-structs-s.result there)
    (ap (map (field_in (names_of c.args.structs.now))) (rw (← c.index-structs-s.is) at c.as_slice-field-items.ensures.value)) in
    let long : length fields ≤ c.loop-field.field-index = rw length-map c.loop-field-test.false in
    let own : AreWide structs (suc (wides c.loop-field.marks)) (fields_of structs c.args.s) c.loop-field.words =
    rw (← these) (rw (take_all c.loop-field.field-index fields long) at c.loop-field.invariant.words) in
    rw c.put-2.ensures (goes-visit structs c.args.marks.now c.loop-field.marks c.args.s c.loop-field.words c.requires.new went own)

pub visit-returns-clause-wide : goal.visit-returns-clause-wide
visit-returns-clause-wide t c =
    let structs = structs_of (names_of c.args.structs.now) c.args.structs.now in
    let fields = map (field_in (names_of c.args.structs.now)) c.as_slice-field-items.result.now in
    let went : Goes structs (set c.args.marks.now c.args.s Open) c.loop-field.marks = rw c.put.ensures at c.loop-field.invariant.goes in
    let below : c.args.s < length c.args.structs.now = rw c.requires.all at (slice_get_within c.args.marks.now c.args.s New c.requires.new) in
    let there : slice_get c.args.structs.now c.args.s ≡ Some c.index-structs-s.result =
    slice_get_read c.args.structs.now (length c.args.structs.now) c.args.s c.index-structs-s.result refl below c.index-structs-s.is in
    let these : fields ≡ fields_of structs c.args.s =
    rw (fields-there (names_of c.args.structs.now) c.args.structs.now c.args.s c.index-structs-s.result there)
    (ap (map (field_in (names_of c.args.structs.now))) (rw (← c.index-structs-s.is) at c.as_slice-field-items.ensures.value)) in
    let long : length fields ≤ c.loop-field.field-index = rw length-map c.loop-field-test.false in
    let own : AreWide structs (suc (wides c.loop-field.marks)) (fields_of structs c.args.s) c.loop-field.words =
    rw (← these) (rw (take_all c.loop-field.field-index fields long) at c.loop-field.invariant.words) in
    let is_open = went.kept c.args.s (written c.args.marks.now c.args.s Open New c.requires.new) in
    rw (c.put-2.ensures, wides-wide c.loop-field.marks c.args.s c.loop-field.words is_open) own
