use Rattle.std.proofs.Common.{◌≡◌, refl, subst, sym, get_or}
use Rattle.word.specs.declared.value.Word.{Word}
use Rattle.call_frame.proofs.Quick.{stored_one}
use Rattle.call_frame.proofs.instrs.store_top.Goals as goal

pub returns : goal.returns
returns c =
    let st = c.frame.inside.stack.items in
    let word : c.by_variant-word.result ≡ get_or st c.args.at c.by_variant-word.result = subst (λ (w : Word). w ≡ get_or st c.args.at w) (sym c.by_variant-word.ensures) c.index.ensures in
    stored_one c.frame.inside.function c.frame.inside.place c.frame.inside.locals.items st _ _ c.args.frame.now c.args.to c.args.at c.by_variant-word.result c.frame.view_is c.requires.at c.requires.within word refl c.truncate.ensures.items
