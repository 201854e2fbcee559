-- Receives that are left to others.
use Rattle.std.proofs.Common.{◌≡◌, ◌<◌, ℕ, Bool, false, true, List, ◌∷◌, [], None, ap, ◌∙◌, sym, arith, length}
use Rattle.std.specs.Prelude.{nat_lt, option_map}
use Rattle.std.specs.Option.{is_none}
use Rattle.std.proofs.lemmas.Bool.{false≢true, lt-ltb}
use Rattle.item_queue.specs.Items.{front_word}
use Rattle.word.specs.Requests.{channel_of, partner}
use Rattle.word.specs.Values.{Item}
use Rattle.channel_core.specs.Channels.{ChannelsValue, partner_of}
use Rattle.channel_core.specs.Words.{is_left_alone, is_left_receive, met_at}

some_items : (xs : List Item) (closed : Bool) → front_word xs ≡ None → nat_lt 0 (length xs) ≡ true → is_left_alone xs closed ≡ true
some_items [] closed e some = absurd (false≢true some)
some_items (x ∷ xs) closed e some = ap is_none e

no_items : (xs : List Item) (closed : Bool) → nat_lt 0 (length xs) ≡ false → closed ≡ true → is_left_alone xs closed ≡ true
no_items [] closed e h = h
no_items (x ∷ xs) closed e h = let some : 0 < length (x ∷ xs) = omega arith in absurd (false≢true (sym e ∙ lt-ltb 0 (length (x ∷ xs)) some))

module _ (old : ChannelsValue) (k : ℕ) (alone : option_map partner_of (partner k true old.asleep) ≡ None) where
  pub left_items : front_word (channel_of old.channels k).items ≡ None → true ≡ nat_lt 0 (length (channel_of old.channels k).items) → is_left_receive old k (met_at old k true) ≡ true
  left_items e some = ap (is_left_receive old k) alone ∙ some_items (channel_of old.channels k).items (channel_of old.channels k).closed e (sym some)

  pub left_closed : false ≡ nat_lt 0 (length (channel_of old.channels k).items) → true ≡ (channel_of old.channels k).closed → is_left_receive old k (met_at old k true) ≡ true
  left_closed e h = ap (is_left_receive old k) alone ∙ no_items (channel_of old.channels k).items (channel_of old.channels k).closed (sym e) (sym h)
