-- Lines of a listing.
use Rattle.std.proofs.Common.{◌≡◌, ℕ, zero, suc, ◌+◌, ◌-◌, false, List, [], ◌∷◌, ◌++◌, length, replicate, take, refl, sym, ap, ◌∙◌, arith, Some, slice_get, slice_index_or, pos}
use Rattle.std.specs.Prelude.{decimal}
use Rattle.std.specs.List.{repeat}
use Rattle.std.specs.Fmt.{padded_integral, format_spec, char_count}
use Rattle.std.proofs.lemmas.List.{append-nil, append_assoc}
use Rattle.std.proofs.lemmas.Str.{encode_ascii}
use Rattle.std.proofs.Math.Nat.{sub_self}
use Rattle.std.proofs.Math.Utf8.{encode}
use Rattle.bytecode.specs.declared.instr.Instr.{Instr}
use Rattle.bytecode.specs.declared.instr.Instr.TheVariants as instrs
use Rattle.bytecode.specs.Listing.{right_aligned, instr_line, instr_lines, heading, function_lines}
use Rattle.bytecode.specs.Code.{Function}
use Rattle.bytecode.proofs.Options.{some_inj, none_some}

spaces : (n : ℕ) → repeat {A = ℕ} n (32 ∷ []) ≡ replicate n 32
spaces zero = refl
spaces (suc n) = ap (λ (xs : List ℕ). 32 ∷ xs) (spaces n)

-- what `{:>6}` writes of a number
pub aligned : (n : ℕ) → padded_integral (format_spec 32 3 0 6 18446744073709551615) false [] (decimal n) ≡ right_aligned (decimal n)
unfolding padded_integral char_count
aligned n =
    let text = decimal n in
    let pad = 6 - length text - 0 - 0 in
    let same : pad ≡ 6 - length text = omega arith in
    let blank : encode 32 ≡ 32 ∷ [] = encode_ascii 32 (omega arith) in
    let front = repeat pad (encode 32) in
    ap (λ (k : ℕ). front ++ [] ++ [] ++ [] ++ (text ++ repeat k (encode 32))) (sub_self pad)
    ∙ ap (λ (xs : List ℕ). front ++ [] ++ [] ++ [] ++ xs) (append-nil text)
    ∙ ap (λ (xs : List ℕ). xs ++ text) (append-nil (front ++ [] ++ []) ∙ append-nil (front ++ []) ∙ append-nil front)
    ∙ ap (λ (xs : List ℕ). repeat pad xs ++ text) blank
    ∙ ap (λ (xs : List ℕ). xs ++ text) (spaces pad)
    ∙ ap (λ (k : ℕ). replicate k 32 ++ text) same

-- the lines of one instruction more
more : (place n k : ℕ) (i : Instr) (is : List Instr) → k ≡ place + n → slice_get is n ≡ Some i → instr_lines place (take (suc n) is) ≡ instr_lines place (take n is) ++ instr_line k i
more place n k i [] same e = absurd (none_some e)
more place zero k i (j ∷ is) same e =
    let here : place ≡ k = omega (arith, same) in
    append-nil (instr_line place j) ∙ ap (λ x. instr_line x j) here ∙ ap (instr_line k) (some_inj e)
more place (suc n) k i (j ∷ is) same e =
    ap (λ (xs : List ℕ). instr_line place j ++ xs) (more (place + 1) n k i is (omega (arith, same)) e)
    ∙ sym (append_assoc (instr_line place j) (instr_lines (place + 1) (take n is)) (instr_line k i))

pub one_more : (n : ℕ) (i : Instr) (is : List Instr) → slice_get is n ≡ Some i → instr_lines 0 (take (n + 1) is) ≡ instr_lines 0 (take n is) ++ instr_line n i
one_more n i is e =
    let next : n + 1 ≡ suc n = omega arith in
    ap (λ m. instr_lines 0 (take m is)) next ∙ more 0 n n i is (omega arith) e

-- the lines of one function more
more_functions : (n : ℕ) (f : Function) (fs : List Function) → slice_get fs n ≡ Some f → function_lines (take (suc n) fs) ≡ function_lines (take n fs) ++ (heading f ++ instr_lines 0 f.instrs)
more_functions n f [] e = absurd (none_some e)
more_functions zero f (g ∷ fs) e =
    ap (λ (xs : List ℕ). heading g ++ xs) (append-nil (instr_lines 0 g.instrs)) ∙ ap (λ (h : Function). heading h ++ instr_lines 0 h.instrs) (some_inj e)
more_functions (suc n) f (g ∷ fs) e =
    ap (λ (xs : List ℕ). heading g ++ (instr_lines 0 g.instrs ++ xs)) (more_functions n f fs e)
    ∙ ap (λ (xs : List ℕ). heading g ++ xs) (sym (append_assoc (instr_lines 0 g.instrs) (function_lines (take n fs)) (heading f ++ instr_lines 0 f.instrs)))
    ∙ sym (append_assoc (heading g) (instr_lines 0 g.instrs ++ function_lines (take n fs)) (heading f ++ instr_lines 0 f.instrs))

pub one_function_more : (n : ℕ) (f : Function) (fs : List Function) → slice_get fs n ≡ Some f → function_lines (take (n + 1) fs) ≡ function_lines (take n fs) ++ (heading f ++ instr_lines 0 f.instrs)
one_function_more n f fs e =
    let next : n + 1 ≡ suc n = omega arith in
    ap (λ m. function_lines (take m fs)) next ∙ more_functions n f fs e

-- lines after what was written
pub appended : (old head lines line text : List ℕ) → text ≡ old ++ (head ++ lines) ++ line → text ≡ old ++ (head ++ (lines ++ line))
appended old head lines line text e =
    e ∙ append_assoc old (head ++ lines) line ∙ ap (λ (xs : List ℕ). old ++ xs) (append_assoc head lines line)

-- the instruction at a pc
abbrev pub read : List Instr → ℕ → Instr
read is n = slice_index_or is n (instrs.Int (pos 0))
