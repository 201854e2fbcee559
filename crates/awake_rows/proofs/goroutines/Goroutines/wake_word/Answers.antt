use Rattle.std.proofs.Common.{◌≡◌, ◌∙◌, None, Option, refl, subst, sym}
use Rattle.std.specs.Prelude.{IfSome, IsSome, slice_index_or}
use Rattle.bytecode.specs.Machine.{code_kind}
use Rattle.bytecode.specs.Rules.{IsFrameOf}
use Rattle.word.specs.Kinds.{told}
use Rattle.awake_rows.specs.Slots.{State, word_reply}
use Rattle.awake_rows.specs.Living.{asleep_of, living_in}
use Rattle.awake_rows.proofs.Kept.{bed_none}
use Rattle.awake_rows.proofs.Changed.{bed_given, kept_set, some_not_none, some_there, some_up, up_set}
use Rattle.awake_rows.proofs.goroutines.Goroutines.wake_word.Goals as goal

pub unreachable-requires : goal.unreachable-requires
unreachable-requires c =
    let g = c.self.inside in
    let asleep : IsSome (slice_index_or c.args.self.now.beds c.args.number None) = some_there c.bed.result (λ bed. bed.now) (slice_index_or c.args.self.now.beds c.args.number None) c.if-is_none.ensures c.bed.ensures.some in
    let none : slice_index_or c.args.self.now.beds c.args.number None ≡ None = rw (← c.self.view_is) (bed_none g.count g.slots g.items.items g.orders c.self.invariant c.args.number (sym c.slot.ensures ∙ c.in_default.is)) in
    some_not_none (slice_index_or c.args.self.now.beds c.args.number None) asleep none

pub wake_word_at-requires-clause-asleep : goal.wake_word_at-requires-clause-asleep
wake_word_at-requires-clause-asleep c =
    let g = c.self.inside in
    let asleep : IsSome (slice_index_or c.args.self.now.beds c.args.number None) = some_there c.bed.result (λ bed. bed.now) (slice_index_or c.args.self.now.beds c.args.number None) c.if-is_none.ensures c.bed.ensures.some in
    let is : slice_index_or (living_in g.count g.slots g.items.items).beds c.args.number None ≡ asleep_of (slice_index_or c.as_mut_slice.result.now c.in-Some.slot None) = bed_given g.count g.slots g.items.items g.orders c.self.invariant c.args.number c.in-Some.slot (sym c.slot.ensures ∙ c.in-Some.is) c.as_mut_slice.result.now c.as_mut_slice.ensures.value in
    subst (λ (o : Option State). IsSome o) is (rw (← c.self.view_is) at asleep)

pub wake_word_at-requires-clause-frame : goal.wake_word_at-requires-clause-frame
wake_word_at-requires-clause-frame c =
    let g = c.self.inside in
    let is : slice_index_or (living_in g.count g.slots g.items.items).beds c.args.number None ≡ asleep_of (slice_index_or c.as_mut_slice.result.now c.in-Some.slot None) = bed_given g.count g.slots g.items.items g.orders c.self.invariant c.args.number c.in-Some.slot (sym c.slot.ensures ∙ c.in-Some.is) c.as_mut_slice.result.now c.as_mut_slice.ensures.value in
    subst (λ (o : Option State). IfSome o (λ s. IsFrameOf c.args.code.now s.state)) is (rw (← c.self.view_is) at c.requires)

pub invariant_of-self : goal.invariant_of-self
invariant_of-self c =
    let g = c.self.inside in
    kept_set g.count g.slots g.items.items g.orders c.self.invariant c.args.number c.in-Some.slot (sym c.slot.ensures ∙ c.in-Some.is) c.as_mut_slice.result.now c.as_mut_slice.ensures.value
    g.items.len g.items.ok.0 _ c.wake_word_at.new.items c.wake_word_at.ensures c.deref.result.now c.note.new.orders c.deref.ensures.value c.note.ensures.same c.note.ensures.other c.note.ensures.floor (some_up _ _)

pub returns : goal.returns
returns c =
    let g = c.self.inside in
    let tells : State → State = λ s. told (code_kind c.args.code.now) s c.args.clock (word_reply c.args.reply) in
    let asleep : IsSome (slice_index_or c.args.self.now.beds c.args.number None) = some_there c.bed.result (λ bed. bed.now) (slice_index_or c.args.self.now.beds c.args.number None) c.if-is_none.ensures c.bed.ensures.some in
    let is : slice_index_or (living_in g.count g.slots g.items.items).beds c.args.number None ≡ asleep_of (slice_index_or c.as_mut_slice.result.now c.in-Some.slot None) = bed_given g.count g.slots g.items.items g.orders c.self.invariant c.args.number c.in-Some.slot (sym c.slot.ensures ∙ c.in-Some.is) c.as_mut_slice.result.now c.as_mut_slice.ensures.value in
    let bed : IsSome (asleep_of (slice_index_or c.as_mut_slice.result.now c.in-Some.slot None)) = subst (λ (o : Option State). IsSome o) is (rw (← c.self.view_is) at asleep) in
    rw (← c.self.view_is) (up_set g.count g.slots g.items.items g.orders c.self.invariant c.args.number c.in-Some.slot (sym c.slot.ensures ∙ c.in-Some.is) c.as_mut_slice.result.now c.as_mut_slice.ensures.value
    g.items.len g.items.ok.0 _ c.wake_word_at.new.items c.wake_word_at.ensures tells bed refl)
