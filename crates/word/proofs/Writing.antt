-- How much of a piece was written.
use Rattle.std.proofs.Common.{◌≡◌, ℕ, ◌+◌, ◌-◌, ◌≤◌, List, length, take, drop, Option, Some, None, refl, arith, subst}
use Rattle.std.proofs.Math.Seq.{take-add, take-length}
use Rattle.std.proofs.lemmas.List.{append_assoc, length-drop}
use Rattle.std.specs.Io.KnownBytes.{Appends}

-- `done` bytes of a piece are written
pub record Written (known_old known_new : Option (List ℕ)) (bytes : List ℕ) (done : ℕ) : Type 0 where
  pub within : done ≤ length bytes
  pub taken : Appends known_old known_new (take done bytes)

-- a second write goes on where the first one ended
Appends-take : (a b c : Option (List ℕ)) (bytes : List ℕ) (m n : ℕ) → Appends a b (take m bytes) → Appends b c (take n (drop m bytes)) → Appends a c (take (m + n) bytes)
Appends-take None b c bytes m n first second = tt
Appends-take (Some x) None c bytes m n first second = absurd first
Appends-take (Some x) (Some y) None bytes m n first second = absurd second
Appends-take (Some x) (Some y) (Some z) bytes m n first second =
    rw (second, first, take-add m n bytes, append_assoc x (take m bytes) (take n (drop m bytes))) refl

-- what one more write took of the rest of the piece
pub Written-next : (known_old known_mid known_new : Option (List ℕ)) (bytes : List ℕ) (done n : ℕ)
    → Written known_old known_mid bytes done
    → n ≤ length (take (length bytes - done) (drop done bytes))
    → Appends known_mid known_new (take n (take (length bytes - done) (drop done bytes)))
    → Written known_old known_new bytes (done + n)
Written-next known_old known_mid known_new bytes done n w bound taken =
    let sized : length (drop done bytes) ≡ length bytes - done = length-drop done bytes in
    let whole : take (length bytes - done) (drop done bytes) ≡ drop done bytes = rw (← sized) (take-length (drop done bytes)) in
    let appended : Appends known_mid known_new (take n (drop done bytes)) =
    let P : List ℕ → Type 0 = λ xs. Appends known_mid known_new (take n xs) in subst P whole taken in
    let short : n ≤ length (drop done bytes) = let P : List ℕ → Type 0 = λ xs. n ≤ length xs in subst P whole bound in
    let before : done ≤ length bytes = w.within in
    record {
      within = omega arith;
      taken = Appends-take known_old known_mid known_new bytes done n w.taken appended;
    }

-- all of it
pub all_written : (known_old known_new : Option (List ℕ)) (bytes : List ℕ) (done : ℕ) → Written known_old known_new bytes done → length bytes ≤ done → Appends known_old known_new bytes
all_written known_old known_new bytes done w all =
    let before : done ≤ length bytes = w.within in
    let same : done ≡ length bytes = omega arith in
    let P : List ℕ → Type 0 = λ xs. Appends known_old known_new xs in
    subst P (take-length bytes) (subst (λ k. Appends known_old known_new (take k bytes)) same w.taken)
