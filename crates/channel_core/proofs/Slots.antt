-- Sleepers in the slots of a slab.
use Rattle.std.proofs.Common.{◌≡◌, ◌≢◌, ℕ, ◌+◌, List, [], ◌∷◌, ◌++◌, Option, Some, None, sym, ap, ◌∙◌, subst, arith}
use Rattle.std.specs.List.{filter}
use Rattle.std.proofs.lemmas.Option.{none-some}
use Rattle.std.specs.Option.{is_some}
use Rattle.slab.specs.Slab.{ContainsKey, Slab, get, slab_len, Updates}
use Rattle.word.specs.Values.{Sleeper}
use Rattle.word.specs.Requests.{without}
use Rattle.channel_core.specs.Asleep.{IsAsleep, Placed, asleep_of, is_not_of, placed_all}
use Rattle.channel_core.specs.Orders.{is_not}
use Rattle.channel_core.proofs.Kept.{enters, entered_asleep, leaves, left_asleep, nobody, replaces, replaced_asleep, sleeper_of}

pub leaves_slab : (s v : Slab Sleeper) (key_of key_of' : ℕ → Option ℕ) (ks ks' : List ℕ) (ps ps' : List Placed) (n k : ℕ) → IsAsleep (get s) key_of ks ps (slab_len s)
    → key_of n ≡ Some k → Updates s v k None → slab_len v + 1 ≡ slab_len s → key_of' n ≡ None → ((m : ℕ) → m ≢ n → key_of' m ≡ key_of m) → ks' ≡ filter (is_not k) ks → ps' ≡ filter (is_not_of k) ps
    → IsAsleep (get v) key_of' ks' ps' (slab_len v) × (asleep_of (get v) ks' ≡ without (asleep_of (get s) ks) n)
leaves_slab s v key_of key_of' ks ks' ps ps' n k a at u fewer lost rest keys left = (
  leaves (get s) key_of ks ps (slab_len s) a n k at (get v) key_of' ks' ps' (slab_len v) u.changed u.others lost rest keys left fewer,
  left_asleep (get s) key_of ks ps (slab_len s) a n k at (get v) key_of' ks' ps' (slab_len v) u.changed u.others lost rest keys left fewer,
)

pub enters_slab : (s v : Slab Sleeper) (key_of key_of' : ℕ → Option ℕ) (ks ks' : List ℕ) (ps ps' : List Placed) (k j : ℕ) (t : Sleeper) → IsAsleep (get s) key_of ks ps (slab_len s)
    → get s k ≡ None → Updates s v k (Some t) → k ≡ j → slab_len v ≡ slab_len s + 1
    → key_of t.number ≡ None → key_of' t.number ≡ Some j → ((m : ℕ) → m ≢ t.number → key_of' m ≡ key_of m) → ks' ≡ ks ++ j ∷ [] → ps' ≡ ps ++ placed_all j t.request
    → IsAsleep (get v) key_of' ks' ps' (slab_len v) × (asleep_of (get v) ks' ≡ without (asleep_of (get s) ks) t.number ++ t ∷ [])
enters_slab s v key_of key_of' ks ks' ps ps' k j t a free u same more unknown found rest keys placed =
    let found_k : key_of' t.number ≡ Some k = found ∙ ap (λ (i : ℕ). Some i) (sym same) in
    let keys_k : ks' ≡ ks ++ k ∷ [] = keys ∙ ap (λ (i : ℕ). ks ++ i ∷ []) (sym same) in
    let placed_k : ps' ≡ ps ++ placed_all k t.request = placed ∙ ap (λ (i : ℕ). ps ++ placed_all i t.request) (sym same) in (
      enters (get s) key_of ks ps (slab_len s) a k t (get v) key_of' ks' ps' (slab_len v) free u.changed u.others unknown found_k rest keys_k placed_k more,
      entered_asleep (get s) key_of ks ps (slab_len s) a k t (get v) key_of' ks' ps' (slab_len v) free u.changed u.others unknown found_k rest keys_k placed_k more
          ∙ ap (λ (l : List Sleeper). l ++ t ∷ []) (sym (nobody (get s) key_of ks ps (slab_len s) a t.number unknown)),
    )

pub replaces_slab : (s v w : Slab Sleeper) (key_of key_of' : ℕ → Option ℕ) (ks ks' : List ℕ) (ps ps' : List Placed) (k j o : ℕ) (t : Sleeper) → IsAsleep (get s) key_of ks ps (slab_len s)
    → get s k ≡ None → Updates s v k (Some t) → k ≡ j → slab_len v ≡ slab_len s + 1 → Updates v w o None → slab_len w + 1 ≡ slab_len v
    → key_of t.number ≡ Some o → key_of' t.number ≡ Some j → ((m : ℕ) → m ≢ t.number → key_of' m ≡ key_of m) → ks' ≡ filter (is_not o) (ks ++ j ∷ []) → ps' ≡ filter (is_not_of o) (ps ++ placed_all j t.request)
    → IsAsleep (get w) key_of' ks' ps' (slab_len w) × (asleep_of (get w) ks' ≡ without (asleep_of (get s) ks) t.number ++ t ∷ [])
replaces_slab s v w key_of key_of' ks ks' ps ps' k j o t a free u same more r fewer at found rest keys placed =
    let found_k : key_of' t.number ≡ Some k = found ∙ ap (λ (i : ℕ). Some i) (sym same) in
    let keys_k : ks' ≡ filter (is_not o) (ks ++ k ∷ []) = keys ∙ ap (λ (i : ℕ). filter (is_not o) (ks ++ i ∷ [])) (sym same) in
    let placed_k : ps' ≡ filter (is_not_of o) (ps ++ placed_all k t.request) = placed ∙ ap (λ (i : ℕ). filter (is_not_of o) (ps ++ placed_all i t.request)) (sym same) in
    let was = sleeper_of (get s) key_of ks ps (slab_len s) a t.number o at in
    let apart : k ≢ o = λ (e : k ≡ o). none-some was.0 (sym free ∙ ap (get s) e ∙ was.1) in
    let now : get w k ≡ Some t = r.others k apart ∙ u.changed in
    let others : (i : ℕ) → i ≢ k → i ≢ o → get w i ≡ get s i = λ i e f. r.others i f ∙ u.others i e in
    let size : slab_len w ≡ slab_len s = omega (arith, more, fewer) in (
      subst (IsAsleep (get w) key_of' ks' ps') (sym size) (replaces (get s) key_of ks ps (slab_len s) a o k t (get w) key_of' ks' ps' at free now r.changed others found_k rest keys_k placed_k),
      replaced_asleep (get s) key_of ks ps (slab_len s) a o k t (get w) key_of' ks' ps' at free now r.changed others found_k rest keys_k placed_k,
    )

-- one that is asleep still is when another has entered
pub still_there : (s v : Slab Sleeper) (key_of : ℕ → Option ℕ) (ks : List ℕ) (ps : List Placed) (n o k : ℕ) (t : Sleeper) → IsAsleep (get s) key_of ks ps (slab_len s) → key_of n ≡ Some o → get s k ≡ None → Updates s v k (Some t)
    → ContainsKey v o
still_there s v key_of ks ps n o k t a at free u =
    let was = sleeper_of (get s) key_of ks ps (slab_len s) a n o at in
    ap is_some (u.others o (λ (e : o ≡ k). none-some was.0 (sym free ∙ ap (get s) (sym e) ∙ was.1)) ∙ was.1)
