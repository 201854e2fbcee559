-- Loops over channels begin.
use Rattle.std.proofs.Common.{◌≡◌, ℕ, ◌+◌, ◌≤◌, Bool, true, false, List, [], ◌∷◌, ◌++◌, length, drop, Option, Some, None, IfSome, refl, sym, ap, ◌∙◌, subst, arith, inl, inr, bytes_eq, length-append}
use Rattle.std.specs.Bool.{Decides}
use Rattle.std.proofs.lemmas.Slice.Eq.{bytes_eq-Decides}
use Rattle.codegen_base.proofs.Assigned.{placed_new, stores_one, counted_words}
use Rattle.codegen_base.proofs.Noted.{Noted}
use Rattle.std.specs.Prelude.{if◌then◌else◌}
use Rattle.syntax.specs.Tree.{Expression, NoTarget, For, Range, Block, Statements}
use Rattle.syntax.specs.Measures.{target_size}
use Rattle.bytecode.specs.Effects.{kinds_in, shape_kinds}
use Rattle.bytecode.specs.Machine.{Frames as CodeFrames}
use Rattle.word.specs.declared.value.Word.TheVariants.{Chan}
use Rattle.type_table.specs.Types.{ValueType}
use Rattle.type_table.specs.Containment.{Structs}
use Rattle.type_table.specs.Zeros.{zero_words}
use Rattle.type_table.specs.Scopes.{Variable, Scope, entered, is_blank, later, last_named, Globals}
use Rattle.meaning.specs.Values.{words_in, known}
use Rattle.meaning.specs.Variables.{Blocks, Destination, New, blank, declare, holding, entered as entered_blocks}
use Rattle.meaning.specs.Expressions.{type_of as type_of', element_kind}
use Rattle.meaning.specs.Tasks.{Ranging, Task, Head, EndBlock, Frame, frame, Course, Goes}
use Rattle.meaning.specs.Source.{ranges, channel as channel_work, statement_work}
use Rattle.codegen_base.specs.Layouts.{keeping, carried, type_of}
use Rattle.codegen_base.specs.Pushes.{drops}
use Rattle.codegen_base.specs.Statements.{Local, width}
use Rattle.codegen_base.specs.Elements.{shape_of}
use Rattle.codegen_base.specs.Generated.{at, inside, keeps, receives, made_all}
use Rattle.plan.specs.Plan.{Plan, Skip, Seq, Cycle}
use Rattle.bytecode.specs.Machine.{put_at}
use Rattle.plan.proofs.Words.{Words}
use Rattle.plan.proofs.Places.{at_once}
use Rattle.plan.proofs.Steps.{stores as stores_words}
use Rattle.codegen_base.proofs.Alike.{kind_if, last_append, drop_append, drop_all}
use Rattle.codegen_base.proofs.Likeness.{kinds_long}
use Rattle.codegen_base.proofs.Seen.{Like, seen}
use Rattle.codegen_base.proofs.Typing.{Free}
use Rattle.codegen_follows.proofs.Stands.{Around, View, scope_of, variables, Together, Inner, Doing, Fine, IsOn, LeadsOn, Items, RangingAt, Sits, opened, item_view, OneMakes}
use Rattle.codegen_follows.proofs.Begun.{take_front, inner_opened, fine_opened, seen_opened}
use Rattle.codegen_follows.proofs.Grown.{grown_statements}
use Rattle.typing_rules.specs.Expressions.{ExpressionHas, ChannelHas, nodes_of, default_type}
use Rattle.codegen_follows.proofs.Outers.{has_same, worth_same}
use Rattle.codegen_base.proofs.Running.{Compiled, Coded}
use Rattle.codegen_follows.proofs.Simulated.{Simulated, Held, at as at_place, Comes, Works, reaches_after, slides, Position, here_blocks, On', standing}
use Rattle.meaning.specs.Worked.{Worked, ready, and_then}
use Rattle.codegen_follows.proofs.Channels.{IsChannel, channel_there, channel_goes}
use Rattle.codegen_follows.proofs.Follows.{lands, map_reached, end_sits, inner_same}
use Rattle.codegen_base.proofs.Expressions.{same_worth}

-- the variable `_` is found by no other name
later_none : (o : Option Variable) → later o None ≡ o
later_none None = refl
later_none (Some v) = refl

pub unfound : (vs : List Variable) (v : Variable) (name : List ℕ) → bytes_eq v.name name ≡ false → last_named (vs ++ v ∷ []) name ≡ last_named vs name
unfound vs v name apart = last_append vs v name ∙ ap (λ b. later (last_named vs name) (if b then Some v else None)) apart ∙ later_none (last_named vs name)

pub other_than_blank : (name : List ℕ) → is_blank name ≡ false → bytes_eq blank name ≡ false
other_than_blank name e = go (bytes_eq blank name) refl (bytes_eq-Decides blank name) where
  Holds : Bool → Type 0
  Holds true = Unit {0}
  Holds false = ⊥

  go : (b : Bool) → bytes_eq blank name ≡ b → Decides b (blank ≡ name) → bytes_eq blank name ≡ false
  go false is d = is
  go true is d = let lost : is_blank blank ≡ false = subst (λ n. is_blank n ≡ false) (sym (d.0 refl)) e in absurd (subst Holds lost tt)

module _ {globals : Globals} {program : Compiled globals} (coded : Coded program) (view : View) (fine : Fine coded view) (e : Expression) where
  open program use {elements, wide as all}

  -- the block that keeps the channel
  abbrev pub kept_view : View
  kept_view = record { site = at (keeping globals elements e view.site.layout) view.site; begins = length (variables view) ∷ view.begins; checked = entered view.checked }

  abbrev pub channel : Variable
  channel = record { name = blank; kind = Some (type_of globals elements (scope_of view) e); place = (scope_of view).words }

  pub channel_found : last_named (drop (length (variables view)) (variables kept_view)) blank ≡ Some channel
  channel_found = ap (λ vs. last_named vs blank) (drop_append (length (variables view)) (variables view) channel (omega arith) ∙ ap (λ (vs : List Variable). vs ++ channel ∷ []) (drop_all (variables view)))

  pub inner_kept : Inner view kept_view
  inner_kept = inner_opened coded view kept_view (refl, take_front (length (variables view)) (variables view) (channel ∷ []) (omega arith))

  pub fine_item : Fine coded (item_view coded kept_view (entered view.checked))
  fine_item =
      let open' = fine_opened coded view fine in
      let p = placed_new globals.structs all (scope_of (opened view)) (length (variables view) ∷ view.begins) blank (type_of globals elements (scope_of view) e) open'.placed in
      record {
        placed = record { rising = p.rising; known = p.known; outer = refl; nested = (omega arith, p.nested) };
        alike = record {
          named = λ name other. fine.alike.named name other ∙ ap kind_if (sym (unfound (variables view) channel name (other_than_blank name other)));
          own = λ name other. ap (λ vs. kind_if (last_named vs name)) (drop_all view.checked.variables) ∙ sym (ap (λ vs. kind_if (last_named vs name)) (drop_all (variables kept_view)));
          fits = omega arith;
          fit = omega arith;
        };
        noted = λ name v t found kind. noted name (is_blank name) refl v t found kind;
      } where
        noted : (name : List ℕ) (b : Bool) → is_blank name ≡ b → (v : Variable) (t : ValueType) → (if b then None else last_named (variables kept_view) name) ≡ Some v → v.kind ≡ Some t → Noted elements t
        noted name true is v t found kind = absurd cc
        noted name false is v t found kind = fine.noted name v t (ap (λ b. if b then None else last_named (variables view) name) is ∙ sym (unfound (variables view) channel name (other_than_blank name is)) ∙ found) kind

  pub fine_kept : Fine coded kept_view
  fine_kept =
      let open' = fine_opened coded view fine in
      record {
        placed = placed_new globals.structs all (scope_of (opened view)) (length (variables view) ∷ view.begins) blank (type_of globals elements (scope_of view) e) open'.placed;
        alike = record {
          named = λ name other. fine.alike.named name other ∙ ap kind_if (sym (unfound (variables view) channel name (other_than_blank name other)));
          own = λ name other. ap (λ vs. kind_if (last_named vs name)) (drop_all view.checked.variables)
              ∙ sym (ap (λ vs. kind_if (last_named vs name)) (drop_append (length (variables view)) (variables view) channel (omega arith) ∙ ap (λ (vs : List Variable). vs ++ channel ∷ []) (drop_all (variables view))) ∙ ap kind_if (unfound [] channel name (other_than_blank name other)));
          fits = omega arith;
          fit = omega (arith, length-append (variables view) (channel ∷ []));
        };
        noted = λ name v t found kind. noted name (is_blank name) refl v t found kind;
      } where
        noted : (name : List ℕ) (b : Bool) → is_blank name ≡ b → (v : Variable) (t : ValueType) → (if b then None else last_named (variables kept_view) name) ≡ Some v → v.kind ≡ Some t → Noted elements t
        noted name true is v t found kind = absurd cc
        noted name false is v t found kind = fine.noted name v t (ap (λ b. if b then None else last_named (variables view) name) is ∙ sym (unfound (variables view) channel name (other_than_blank name is)) ∙ found) kind

module _ {globals : Globals} {program : Compiled globals} {coded : Coded program} {simulated : Simulated coded} (position : Position simulated) where
  open program use {elements, code, wide as all}
  open coded use {function as f, number as g, there, result}
  open simulated use {running, running.{context, context.{callers as ds}}}
  open position use {point, next, mid, tasks as k, together as t, rest as r, point.{locals as ls, around as l, view, fine, room, held as h}}

  abbrev structs : Structs
  structs = globals.structs

  abbrev Works' : Worked Course → CodeFrames → Type 0
  Works' work c = Works simulated work c

  abbrev place_at : ℕ → Words → Words → CodeFrames
  place_at place ls stack = at_place simulated place ls stack

  abbrev blocks : Blocks
  blocks = here_blocks point

  self_lead : (o : Option ℕ) → LeadsOn coded o o
  self_lead None = tt
  self_lead (Some p) = at_once

  abbrev scope : Scope
  scope = scope_of view

  abbrev On : Plan → ℕ → Type 0
  On plan place = On' point plan place mid

  abbrev kept : Expression → View
  kept e = kept_view coded view fine e

  abbrev Channel' : Expression → Type 0
  Channel' e = IsChannel point e

  abbrev item : Expression → View
  item e = item_view coded (kept e) (entered view.checked)

  abbrev within_loop : Option ℕ → Around
  within_loop again = record { leave = mid; again = again }

  abbrev wide_item : Expression → ℕ
  wide_item e = width globals elements scope (carried globals elements scope e)

  item_words : (e : Expression) (c : Channel' e) → wide_item e ≡ words_in globals.structs c.element
  item_words e c = kinds_long globals.structs elements (carried globals elements scope e) ∙ ap (words_in globals.structs) c.carries

  -- the loop after its channel's value, if items go to destinations
  pub loop_at : (e : Expression) (body : Statements) (c : Channel' e) (destinations : List Destination) (taken within : Plan) (last : View) → Together (item e) last → (scope_of (kept e)).words ≤ length f.locals
      → ((again m : Option ℕ) (p : ℕ) → IsOn coded (within_loop again) taken p m → Items coded (within_loop again) (item e) c.element destinations last p m)
      → ((again : Option ℕ) (p : ℕ) → IsOn coded (within_loop again) within p again → Doing coded (within_loop again) last (Block body) p again) → (head : ℕ)
      → IsOn coded l (Cycle (receives globals elements result view.site.layout e) (Seq taken within) Skip (drops (wide_item e) Skip)) head mid → RangingAt coded l (kept e) destinations (zero_words globals.structs (element_kind globals blocks e)) body head mid
  loop_at e body c destinations taken within last u most items doing head (check, again, exit, (loads, following), unless, (m, on, goes), turns, ends) =
      let structs = globals.structs in
      let K = type_of globals elements scope e in
      let own-words : words_in structs K ≡ 1 = ap (words_in structs) c.own in
      let counted = counted_words structs all K in
      record {
        fine = fine_kept coded view fine e;
        direction = c.direction;
        kind = c.element;
        channel = channel coded view fine e;
        channel_is = channel_found coded view fine e;
        carries = c.own;
        below = omega (arith, own-words, counted);
        room = most;
        zero_is = ap (zero_words structs) c.runs;
        shape = shape_of elements (carried globals elements scope e);
        shape_is = ap (λ kind. shape_kinds code (shape_of elements kind)) c.carries ∙ ap kinds_in c.shape;
        check = check;
        again = again;
        exit = exit;
        loads = loads;
        receives = following.0;
        checks = following.1;
        unless = unless;
        checked = entered view.checked;
        next = last;
        together = u;
        mid = m;
        item = items again m (check + 1) on;
        goes = map_reached simulated m (λ p. IsOn coded (within_loop again) within p again) (λ p. Doing coded (within_loop again) last (Block body) p again) (doing again) goes;
        turns = turns;
        ends = subst (λ n. IsOn coded l (drops n Skip) exit mid) (item_words e c) ends;
      }

  -- a loop whose items go nowhere
  bare_loop : (e : Expression) (body : Statements) (place : ℕ) (c : Channel' e) → Doing coded l view (For (Range NoTarget e) body) place mid → (head : ℕ)
      → IsOn coded l (Cycle (receives globals elements result view.site.layout e) (Seq (drops (wide_item e) Skip) (made_all globals elements result (inside (item e).site) body).plan) Skip (drops (wide_item e) Skip)) head mid
      → RangingAt coded l (kept e) [] (zero_words globals.structs (element_kind globals blocks e)) body head mid
  bare_loop e body place c d head on =
      let more = (grown_statements globals elements result (inside (item e).site) body).words in
      let most = d.fits.room in
      loop_at e body c [] (drops (wide_item e) Skip) (made_all globals elements result (inside (item e).site) body).plan (item e) (refl, refl) (omega (arith, more, most))
      (λ again m p on. (subst (λ n. IsOn coded (within_loop again) (drops n Skip) p m) (item_words e c) on, refl))
      (λ again p on. record {
        first = _;
        breaks = true;
        continues = true;
        fine = fine_item coded view fine e;
        good = λ violation x. d.good violation (inr x);
        makes = d.makes.1;
        on = on;
        fits = record { tables = d.fits.tables; room = most };
      }) head on

  -- a range's channel is evaluated and kept
  pub kept_goes : (e : Expression) (body : Statements) (destinations : List Destination) (first : ℕ) → Free (ExpressionHas globals view.checked first e) → OneMakes globals elements e → (c : Channel' e) → (scope_of (kept e)).words ≤ length f.locals → (place : ℕ) (o : Option ℕ) → IsOn coded l (keeps globals elements result view.site.layout e) place o
      → IfSome o (λ p. RangingAt coded l (kept e) destinations (zero_words globals.structs (element_kind globals blocks e)) body p mid) → variables next ≡ variables view
      → Works' (and_then (channel_work globals blocks k e) (ranges globals blocks k destinations (element_kind globals blocks e) body e)) (place_at place ls [])
  kept_goes e body destinations first free makes c most place o on loop same =
      let structs = globals.structs in
      let K = type_of globals elements scope e in
      let v = kept e in
      let open' = fine_opened coded view fine in
      let tail : List Task = Head (Ranging destinations (zero_words structs (element_kind globals blocks e)) body) ∷ (EndBlock ∷ k) in
      let sits : Sits coded v l o tail = (
        v,
        (refl, refl),
        mid,
        map_reached simulated o _ (λ p. RangingAt coded l v destinations (zero_words structs (element_kind globals blocks e)) body p mid × (variables v ≡ variables v)) (λ p x. (x, refl)) loop,
        mid,
        self_lead mid,
        end_sits simulated next v l mid r.0 k (inner_same simulated view next v same t.0 (inner_kept coded view fine e)) r.1 r.2,
      ) in
      channel_goes point e first free makes c k (ranges globals blocks k destinations (element_kind globals blocks e) body e) (Comes simulated) _ o place [] on
      (λ w to here-on.
      let full = h.full in
      let own-words : words_in structs K ≡ 1 = ap (words_in structs) c.own in
      let counted = counted_words structs all K in
      let ms = put_at scope.words (Chan w ∷ []) ls in
      let like : Like structs K (Chan w ∷ []) = subst (λ kind. Like structs kind (Chan w ∷ [])) (sym c.own) refl in
      let stored = stores_one structs all (New blank K) K (Local scope.words (words_in structs K)) (Chan w ∷ []) (scope_of (opened view)) v.begins ls open'.placed h.holding (omega (arith, most, full)) (refl, refl) like in
      let held : Held coded ms v = record { holding = stored.holding; full = stored.many ∙ full } in
      let asked-is : frame (seen structs ms (variables v) v.begins) tail ≡ frame (declare (holding structs blank (type_of' globals blocks e) (Chan w ∷ [])) (entered_blocks blocks)) tail =
      ap (λ (b : Blocks). frame b tail) (stored.seen_is ∙ ap (λ (b : Blocks). declare (holding structs blank K (Chan w ∷ [])) b) (seen_opened coded ls view)
      ∙ ap (λ kind. declare (holding structs blank kind (Chan w ∷ [])) (entered_blocks blocks)) (sym (ap (λ o. known (default_type o)) (same_worth (standing point) e)))) in
      subst (λ (a : Frame). Works' (ready (Goes a)) (place_at to ls (Chan w ∷ []))) asked-is
      (slides simulated (frame (seen structs ms (variables v) v.begins) tail) (place_at to ls (Chan w ∷ [])) (reaches_after simulated (frame (seen structs ms (variables v) v.begins) tail) (place_at to ls (Chan w ∷ [])) (place_at (to + 1) ms [])
      (stores_words code g f there ds to ls [] (Chan w ∷ []) scope.words 1 here-on.0 refl (omega (arith, most, counted, own-words)) full) (lands simulated ms v l (to + 1) o tail held here-on.1 sits))))

  -- a loop over a channel whose items go nowhere
  pub bare_range_goes : (e : Expression) (body : Statements) (place : ℕ) → Doing coded l view (For (Range NoTarget e) body) place mid → variables next ≡ variables view → Works' (statement_work globals blocks k (For (Range NoTarget e) body)) (place_at place ls [])
  bare_range_goes e body place d same =
      let first = d.first + target_size NoTarget in
      let s = view.checked in
      let free : Free (ExpressionHas globals s first e) = λ violation x. d.good violation (inl (inr (inl (inl (has_same globals s.variables s.outer (length s.variables) s.words s.words e first violation x))))) in
      let c = channel_there point e first free d.makes.0 (λ violation x. d.good violation (inl (inr (inl (inr (inl (subst (λ o. ChannelHas o (nodes_of first e) violation) (worth_same globals s.variables s.outer (length s.variables) s.words s.words e) x))))))) in
      let more = (grown_statements globals elements result (inside (item e).site) body).words in
      let most = d.fits.room in
      kept_goes e body [] first free d.makes.0 c (omega (arith, more, most)) place d.on.0 d.on.1
      (map_reached simulated d.on.0 _ (λ p. RangingAt coded l (kept e) [] (zero_words globals.structs (element_kind globals blocks e)) body p mid) (λ p x. bare_loop e body place c d p x) d.on.2) same
