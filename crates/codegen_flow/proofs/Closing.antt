-- The jumps over ways, closed from the last one on.
use Rattle.std.proofs.Common.{◌≡◌, Bool, true, false, ◌||◌, List, [], ◌∷◌, ◌++◌, refl, sym, ap, ◌∙◌}
use Rattle.bytecode.specs.declared.instr.Instr.{Instr}
use Rattle.codegen_flow.specs.declared.select.Held.{Held}
use Rattle.codegen_flow.specs.Closed.{are_some, closed, closed_one}

or_true : (b : Bool) → (b || true) ≡ true
or_true true = refl
or_true false = refl

or_none : (b : Bool) → (b || false) ≡ b
or_none true = refl
or_none false = refl

some_more : (hs : List Held) (h : Held) → are_some (hs ++ h ∷ []) ≡ true
some_more [] h = refl
some_more (g ∷ hs) h = refl

pub closed_more : (hs : List Held) (h : Held) (there : Bool) (code : List Instr) → closed (hs ++ h ∷ []) there code ≡ closed hs true (closed_one h there code)
closed_more [] h there code = ap (λ b. closed_one h b code) (or_none there)
closed_more (g ∷ hs) h there code = ap (λ b. closed_one g (there || b) (closed (hs ++ h ∷ []) there code)) (some_more hs h) ∙ ap (λ b. closed_one g b (closed (hs ++ h ∷ []) there code)) (or_true there) ∙ ap (closed_one g true) (closed_more hs h there code)

pub closed_last : (all hs : List Held) (h : Held) (there : Bool) (code next : List Instr) → all ≡ hs ++ h ∷ [] → next ≡ closed_one h there code → closed hs true next ≡ closed all there code
closed_last all hs h there code next is done = ap (closed hs true) done ∙ sym (closed_more hs h there code) ∙ ap (λ l. closed l there code) (sym is)
