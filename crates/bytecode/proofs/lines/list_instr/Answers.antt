use Rattle.std.proofs.Common.{◌≡◌, ◌∙◌, ◌++◌, OnOk, ap, subst, List, ℕ, [], ◌∷◌, string_bytes}
use Rattle.std.specs.Fmt.{styled_decimal}
use Rattle.bytecode.specs.Listing.{instr_text}
use Rattle.bytecode.proofs.Listings.{aligned}
use Rattle.bytecode.proofs.lines.list_instr.Goals as goal

pub returns : goal.returns
returns c =
    let place = c.args.place in
    let same = ap (λ s. styled_decimal s place) c.laid_out.ensures ∙ aligned place in
    subst (λ (xs : List ℕ). OnOk c.writeln.result (string_bytes c.writeln.new.self ≡ string_bytes c.args.text.now ++ (xs ++ 32 ∷ (instr_text c.args.instr ++ 10 ∷ [])))) same c.writeln.ensures.bytes
