use Rattle.std.proofs.Common.{◌∙◌, ap, List}
use Rattle.std.specs.Prelude.{◌-◌}
use Rattle.word.specs.declared.value.Word.{Word}
use Rattle.item_queue.specs.Items.{items_in}
use Rattle.item_queue.proofs.Rows.{fewer_words, rest_is, within}
use Rattle.item_queue.proofs.line.Line.drop_front.Goals as goal

pub invariant_of-self : goal.invariant_of-self
invariant_of-self c =
    let line = c.args.self.now in
    record {
      filled = fewer_words line.width line.count _ _ c.if-self-eq0.false line.filled (c.cut.ensures.len (within line.width line.count _ c.if-self-eq0.false line.filled));
      bounded = line.bounded;
    }

pub returns : goal.returns
returns c =
    let line = c.args.self.now in
    ap (λ (l : List Word). items_in line.width (line.count - 1) l) c.cut.ensures.items ∙ rest_is line.width line.count line.words.items c.if-self-eq0.false
