-- The names of functions as text.
use Rattle.std.proofs.Common.{◌≡◌, ℕ, Bool, true, false, List, [], refl, ap}
use Rattle.std.specs.Prelude.{IsUtf8, if◌then◌else◌}
use Rattle.std.specs.Str.{is_utf8}
use Rattle.std.proofs.lemmas.Str.{is_utf8-from_IsUtf8, IsUtf8-from_is_utf8}
use Rattle.codegen_base.specs.Program.{label}

pub label_text : (name : List ℕ) → IsUtf8 name → label name ≡ name
label_text name text = ap (λ b. if b then name else []) (is_utf8-from_IsUtf8 name text)

pub label_none : (name : List ℕ) → ¬ (IsUtf8 name) → label name ≡ []
label_none name none = go (is_utf8 name) refl where
  go : (b : Bool) → is_utf8 name ≡ b → label name ≡ []
  go true is = absurd (none (IsUtf8-from_is_utf8 name is))
  go false is = ap (λ b. if b then name else []) is
