-- What is written of a plan with a header is read as that plan, and as that header.
use Rattle.std.proofs.Common.{◌≡◌, ℕ, zero, suc, ◌+◌, ◌-◌, ◌*◌, ◌/◌, ◌%◌, ◌<◌, ◌==◌, Bool, true, false, ◌&&◌, not, cond, codes, List, [], ◌∷◌, ◌++◌, length, map, take, drop, slice_index, Option, Some, None, Result, Ok, refl, sym, ◌∙◌, ap, subst, append_assoc, append-nil, arith}
use Rattle.std.specs.List.{flat_map}
use Rattle.std.specs.Option.{option_and_then}
use Rattle.std.specs.Result.{result_ok}
use Rattle.std.proofs.Math.Seq.{drop-append_seam, take-append_seam}
use Rattle.std.proofs.lemmas.Bool.{and_from, and_parts, eqb-true, not_from_false}
use Rattle.std.proofs.lemmas.List.{length-append}
use Rattle.hex.specs.Hex.{decode_sized, encode_lower, encode_with, lower_digits}
use Rattle.hex.specs.declared.error.FromHexError.{FromHexError}
use Rattle.hex.proofs.HexLemmas.{decode_sized-encode_lower, length-encode_with}
use Rattle.pauses.specs.Files.{IsPlan, Reads, lines_from, pause_text, read_bytes, read_lines}
use Rattle.pauses.specs.Headers.{Header, IsHeader, after, checksum_in, escape, escaped, headed_text, header_by, header_from, header_in, header_in_lines, header_text, unescaped, unescaped_from, whole}
use Rattle.pauses.specs.Plans.{Pause}
use Rattle.pauses.proofs.Again.{cut, cut_at, lacks, lacks_append, lines_again}

-- ---- no part of a header has a newline

escape_by : (a b : Bool) (c : ℕ) → (c == 10) ≡ a → lacks 10 (cond a (92 ∷ 110 ∷ []) (cond b (92 ∷ 92 ∷ []) (c ∷ []))) ≡ true
escape_by true b c h = refl
escape_by false true c h = refl
escape_by false false c h = and_from _ _ (not_from_false _ h) refl

escaped_lacks : (bytes : List ℕ) → lacks 10 (escaped bytes) ≡ true
escaped_lacks [] = refl
escaped_lacks (c ∷ cs) = lacks_append 10 (escape c) (escaped cs) (escape_by (c == 10) (c == 92) c refl) (escaped_lacks cs)

digit_lacks : (ds : List ℕ) → lacks 10 ds ≡ true → (i : ℕ) → not (slice_index ds i == 10) ≡ true
digit_lacks [] h i = refl
digit_lacks (d ∷ ds) h zero = (and_parts _ _ h).0
digit_lacks (d ∷ ds) h (suc i) = digit_lacks ds (and_parts _ _ h).1 i

digits_lack : (table : List ℕ) → lacks 10 table ≡ true → (bytes : List ℕ) → lacks 10 (encode_with table bytes) ≡ true
unfolding encode_with
digits_lack table h [] = refl
digits_lack table h (b ∷ bs) = and_from _ _ (digit_lacks table h (b / 16)) (and_from _ _ (digit_lacks table h (b % 16)) (digits_lack table h bs))

-- ---- the lines of a file with a header

abbrev tail_of : Header → List ℕ
tail_of h = codes " sha256 " ++ encode_lower h.checksum

abbrev program_line : Header → List ℕ
program_line h = codes "# program: " ++ (escaped h.path ++ tail_of h)

abbrev end_line : Header → List ℕ
end_line h = codes "# end: " ++ escaped h.end

text_is : (p x e rest : List ℕ) →
    codes "kendo pauses 1\n" ++ (codes "# program: " ++ p ++ codes " sha256 " ++ x ++ codes "\n# end: " ++ e ++ codes "\n") ++ rest
    ≡ codes "kendo pauses 1" ++ 10 ∷ ((codes "# program: " ++ (p ++ (codes " sha256 " ++ x))) ++ 10 ∷ ((codes "# end: " ++ e) ++ 10 ∷ rest))
text_is p x e rest = simp append_assoc

program_lacks : (h : Header) → lacks 10 (program_line h) ≡ true
program_lacks h =
    lacks_append 10 (codes "# program: ") (escaped h.path ++ tail_of h) refl
    (lacks_append 10 (escaped h.path) (tail_of h) (escaped_lacks h.path)
    (lacks_append 10 (codes " sha256 ") (encode_lower h.checksum) refl (digits_lack lower_digits refl h.checksum)))

end_lacks : (h : Header) → lacks 10 (end_line h) ≡ true
end_lacks h = lacks_append 10 (codes "# end: ") (escaped h.end) refl (escaped_lacks h.end)

headed_cut : (h : Header) (rest : List ℕ) →
    cut 10 (codes "kendo pauses 1\n" ++ header_text h ++ rest) ≡ codes "kendo pauses 1" ∷ program_line h ∷ end_line h ∷ cut 10 rest
headed_cut h rest =
    ap (cut 10) (text_is (escaped h.path) (encode_lower h.checksum) (escaped h.end) rest)
    ∙ cut_at 10 (codes "kendo pauses 1") (program_line h ++ 10 ∷ (end_line h ++ 10 ∷ rest)) refl
    ∙ ap (λ (ls : List (List ℕ)). codes "kendo pauses 1" ∷ ls) (cut_at 10 (program_line h) (end_line h ++ 10 ∷ rest) (program_lacks h)
    ∙ ap (λ (ls : List (List ℕ)). program_line h ∷ ls) (cut_at 10 (end_line h) rest (end_lacks h)))

pub headed_plan_again : (h : Header) (ps : List Pause) → IsPlan ps → read_bytes (headed_text h ps) ≡ Reads ps
headed_plan_again h ps ok = ap read_lines (headed_cut h (flat_map pause_text ps)) ∙ lines_again 4 [] ps ok

-- bytes that are the file of a plan with a header
pub headed_bytes_again : (bytes : List ℕ) (h : Header) (ps : List Pause) → bytes ≡ headed_text h ps → IsPlan ps → read_bytes bytes ≡ Reads ps
headed_bytes_again bytes h ps is ok = ap read_bytes is ∙ headed_plan_again h ps ok

-- ---- escapes

one_again : (a b : Bool) (c : ℕ) (text rest : List ℕ) → (c == 10) ≡ a → (c == 92) ≡ b →
    unescaped_from false text (cond a (92 ∷ 110 ∷ []) (cond b (92 ∷ 92 ∷ []) (c ∷ [])) ++ rest) ≡ unescaped_from false (text ++ c ∷ []) rest
one_again true b c text rest is other = ap (λ (m : ℕ). unescaped_from false (text ++ m ∷ []) rest) (sym (eqb-true c 10 is))
one_again false true c text rest other is = ap (λ (m : ℕ). unescaped_from false (text ++ m ∷ []) rest) (sym (eqb-true c 92 is))
one_again false false c text rest other is = ap (λ (b : Bool). cond b (unescaped_from true text rest) (unescaped_from false (text ++ c ∷ []) rest)) is

all_again : (text bytes : List ℕ) → unescaped_from false text (escaped bytes) ≡ Some (text ++ bytes)
all_again text [] = ap (λ (t : List ℕ). Some t) (sym (append-nil text))
all_again text (c ∷ cs) =
    one_again (c == 10) (c == 92) c text (escaped cs) refl refl
    ∙ all_again (text ++ c ∷ []) cs
    ∙ ap (λ (t : List ℕ). Some t) (append_assoc text (c ∷ []) cs)

escaped_again : (bytes : List ℕ) → unescaped (escaped bytes) ≡ Some bytes
escaped_again bytes = all_again [] bytes

-- ---- the header

checksum_again : (h : Header) → IsHeader h → checksum_in (tail_of h) ≡ Some h.checksum
checksum_again h ok = ap (λ (r : Result (List ℕ) FromHexError). result_ok r) (decode_sized-encode_lower h.checksum 32 ok.size ok.bytes)

tail_length : (h : Header) → IsHeader h → length (tail_of h) ≡ 72
tail_length h ok =
    let digits = length-encode_with lower_digits h.checksum in
    let size = ok.size in
    let all = length-append (codes " sha256 ") (encode_lower h.checksum) in
    omega (arith, digits, size, all)

path_length : (path tail : List ℕ) → length tail ≡ 72 → length (path ++ tail) - 72 ≡ length path
path_length path tail is = let all = length-append path tail in omega (arith, all, is)

line_again : (h : Header) → IsHeader h → header_by (Some (escaped h.path ++ tail_of h)) (Some (escaped h.end)) ≡ Some h
line_again h ok =
    ap (λ (n : ℕ). whole (unescaped (take n (escaped h.path ++ tail_of h))) (checksum_in (drop n (escaped h.path ++ tail_of h))) (unescaped (escaped h.end))) (path_length (escaped h.path) (tail_of h) (tail_length h ok))
    ∙ ap (λ (p : List ℕ). whole (unescaped p) (checksum_in (drop (length (escaped h.path)) (escaped h.path ++ tail_of h))) (unescaped (escaped h.end))) (take-append_seam (escaped h.path) (tail_of h))
    ∙ ap (λ (t : List ℕ). whole (unescaped (escaped h.path)) (checksum_in t) (unescaped (escaped h.end))) (drop-append_seam (escaped h.path) (tail_of h))
    ∙ ap (λ (p : Option (List ℕ)). whole p (checksum_in (tail_of h)) (unescaped (escaped h.end))) (escaped_again h.path)
    ∙ ap (λ (c : Option (List ℕ)). whole (Some h.path) c (unescaped (escaped h.end))) (checksum_again h ok)
    ∙ ap (λ (e : Option (List ℕ)). whole (Some h.path) (Some h.checksum) e) (escaped_again h.end)

pub header_again : (h : Header) (ps : List Pause) → IsHeader h → header_in (headed_text h ps) ≡ Some h
header_again h ps ok = ap header_in_lines (headed_cut h (flat_map pause_text ps)) ∙ line_again h ok

-- ---- files of fewer than three lines

pub short_file : {X : Type 0} (f : X → List ℕ) (lines : List X) → length lines < 3 → header_in_lines (map f lines) ≡ None
short_file f [] h = refl
short_file f (a ∷ []) h = refl
short_file f (a ∷ b ∷ []) h = refl
short_file f (a ∷ b ∷ c ∷ rest) h = absurd (omega (arith, h))
