-- The texts of values, as print and println write them.
use Rattle.std.specs.Prelude.{List, [], ℕ, true, false, codes}
use Rattle.std.specs.Fmt.{signed_decimal}
use Rattle.word.specs.Values.{Word, Int, Truth, Chan}

-- ints in decimal, bools as `true` and `false`; a channel is not printed
abbrev pub text_of : Word → List ℕ
text_of (Int n) = signed_decimal n
text_of (Truth true) = codes "true"
text_of (Truth false) = codes "false"
text_of (Chan c) = []
