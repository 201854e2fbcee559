-- The sleeping goroutines, as offers in rows.
use Rattle.std.specs.Prelude.{◌≡◌, ℕ, ◌+◌, ◌*◌, ◌==◌, Bool, true, false, ◌||◌, not, List, [], ◌∷◌, ◌++◌, map, length, Option, Some, option_map, unwrap_or}
use Rattle.std.specs.Option.{is_some}
use Rattle.word.specs.Values.{Request, Exhausted, Sleeper, Offer}
use Rattle.word.specs.Requests.{offers}
use Rattle.word.specs.declared.offer.Offer.{Offer as Entry}
use Rattle.sleep_queue.specs.Queue.{Waiting, QueuesValue}

-- an offer in a row. Its number is its sleeper's key
pub record Placed : Type 0 where
  pub row : ℕ
  pub entry : Entry

abbrev pub placed_of : Waiting → Placed
placed_of w = record { row = w.row; entry = w.offer }

abbrev pub placed : QueuesValue → List Placed
placed q = map placed_of q.waiting

-- the row of the offers on channel c to send, and that of those to receive
abbrev pub row_on : ℕ → Bool → ℕ
row_on c true = 2 * c + 1
row_on c false = 2 * c

abbrev pub placed_offer : ℕ → Offer → Placed
placed_offer key o = record { row = row_on o.chan (is_some o.item); entry = record { number = key; case = o.case; chan = o.chan; item = o.item } }

-- the rows and entries of the sleeper of a key that made this request
abbrev pub placed_all : ℕ → Request → List Placed
placed_all key q = map (placed_offer key) (offers q)

abbrev pub is_not_of : ℕ → Placed → Bool
is_not_of key p = not (p.entry.number == key)

abbrev pub held : Option Sleeper → Sleeper
held s = unwrap_or s (record { number = 0; request = Exhausted })

-- the sleepers of these keys
abbrev pub asleep_of : (ℕ → Option Sleeper) → List ℕ → List Sleeper
asleep_of slot ks = map (λ k. held (slot k)) ks

abbrev pub placed_by : (ℕ → Option Sleeper) → List ℕ → List Placed
placed_by slot [] = []
placed_by slot (k ∷ ks) = placed_all k (held (slot k)).request ++ placed_by slot ks

abbrev pub has : ℕ → List ℕ → Bool
has k [] = false
has k (j ∷ js) = (j == k) || has k js

abbrev pub AreDistinct : List ℕ → Type 0
AreDistinct [] = Unit {0}
AreDistinct (k ∷ ks) = (has k ks ≡ false) × AreDistinct ks

-- the sleepers of these keys, in the order in which they fell asleep: each is in the rows of what its request offers, and can
-- be found by its number
pub record IsAsleep (slot : ℕ → Option Sleeper) (key_of : ℕ → Option ℕ) (ks : List ℕ) (ps : List Placed) (count : ℕ) : Type 0 where
  pub rows : ps ≡ placed_by slot ks
  pub kept : (k : ℕ) → is_some (slot k) ≡ has k ks
  pub known : (k : ℕ) (s : Sleeper) → slot k ≡ Some s → key_of s.number ≡ Some k
  pub named : (n k : ℕ) → key_of n ≡ Some k → option_map (λ (s : Sleeper). s.number) (slot k) ≡ Some n
  pub distinct : AreDistinct ks
  pub size : length ks ≡ count
