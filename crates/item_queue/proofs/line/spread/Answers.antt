use Rattle.std.proofs.Common.{◌≡◌, ◌+◌, ◌*◌, ◌∙◌, arith, List, [], ◌∷◌, ◌++◌, ap, ◌-◌}
use Rattle.std.specs.Prelude.{drop}
use Rattle.word.specs.Values.{Item}
use Rattle.item_queue.specs.Items.{items_in}
use Rattle.item_queue.proofs.Rows.{one_less}
use Rattle.item_queue.proofs.line.spread.Goals as goal

pub loop-done-preserved : goal.loop-done-preserved
loop-done-preserved c =
    let w = c.args.width in
    let ws = c.args.words.now.items in
    let next : w * c.loop-done.done + w ≡ w * (c.loop-done.done + 1) = grind arith in
    let items : c.push_back_reserved.new.self.items ≡ c.loop-done.items.items ++ c.copy_words.new.room ∷ [] = c.push_back_reserved.ensures.items ∙ ap (λ (l : List Item). l ++ c.copy_words.new.room ∷ []) c.reserve.ensures.items in
    record {
      from = omega (arith, c.loop-done.invariant.from, next);
      items = ap (λ (l : List Item). l ++ items_in w (c.args.count - (c.loop-done.done + 1)) (drop (c.loop-done.from + w) ws)) items
          ∙ one_less w c.args.count c.loop-done.done c.loop-done.from ws c.loop-done.items.items (items_in w c.args.count ws) c.copy_words.new.room c.loop-done-test.true c.copy_words.ensures c.loop-done.invariant.items;
    }
