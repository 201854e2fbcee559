-- The letters and digits of names.
use Rattle.std.specs.Prelude.{ℕ, Bool, false, ◌+◌, ◌&&◌, ◌||◌, ◌==◌, not, nat_lt, List, take, Option, Some, None, slice_get, slice_index, if◌then◌else◌}
use Rattle.std.specs.Str.{is_utf8, chars, continuation_len}
use Rattle.std.specs.List.{list_all}
use Rattle.std.specs.Char.{is_ascii_alphabetic}
use Rattle.unicode.specs.GeneralCategory.{general_category, general_category_eq}
use Rattle.unicode.specs.GeneralCategoryGroup.{in_group}
use Rattle.ucd_category.specs.declared.GeneralCategory.TheVariants.{DecimalNumber}
use Rattle.ucd_category.specs.declared.GeneralCategoryGroup.TheVariants.{Letter}

-- `_`, or a character of category Lu, Ll, Lt, Lm or Lo
abbrev pub is_letter : ℕ → Bool
is_letter c = (c == 95) || in_group Letter (general_category c)

-- a letter, or a character of category Nd
abbrev pub is_letter_or_digit : ℕ → Bool
is_letter_or_digit c = is_letter c || general_category_eq (general_category c) DecimalNumber

-- the bytes of the character with which a text begins
abbrev pub front_bytes : List ℕ → List ℕ
front_bytes text = take (1 + continuation_len (slice_index text 0)) text

-- the first character of bytes in UTF-8
abbrev pub first_of : List ℕ → Option ℕ
first_of bytes = if is_utf8 bytes then slice_get (chars bytes) 0 else None

-- the character with which a text begins, if it is UTF-8 there
abbrev pub front_char : List ℕ → Option ℕ
front_char text = first_of (front_bytes text)

abbrev pub passes : (ℕ → Bool) → Option ℕ → Bool
passes test None = false
passes test (Some c) = test c

-- the text begins with a letter; with a letter or a digit
abbrev pub begins_letter : List ℕ → Bool
begins_letter text = passes is_letter (front_char text)

abbrev pub begins_letter_or_digit : List ℕ → Bool
begins_letter_or_digit text = passes is_letter_or_digit (front_char text)

-- the text is UTF-8 of letters and digits alone
abbrev pub are_letters_and_digits : List ℕ → Bool
are_letters_and_digits text = is_utf8 text && list_all is_letter_or_digit (chars text)

-- a letter followed by letters and digits
abbrev pub is_name : List ℕ → Bool
is_name text = are_letters_and_digits text && begins_letter text

-- a byte with which a letter may begin: `_`, a letter of ASCII, or any byte past ASCII
abbrev pub is_letter_byte : ℕ → Bool
is_letter_byte b = (b == 95) || (is_ascii_alphabetic b || not (nat_lt b 128))
