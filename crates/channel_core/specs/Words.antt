-- Sends and receives of items of one word, outside of a select.
use Rattle.std.specs.Prelude.{◌≡◌, ℕ, ◌==◌, ◌||◌, Bool, false, true, not, List, [], ◌∷◌, Option, None, Some, map, option_map}
use Rattle.std.specs.Option.{is_none}
use Rattle.item_queue.specs.Items.{only_word}
use Rattle.word.specs.declared.value.Word.{Word}
use Rattle.word.specs.Values.{Item, Request, Send, Receive, Reply, Nothing, Received, Done}
use Rattle.word.specs.Requests.{GoesOn, act, channel_of, happened, partner}
use Rattle.channel_core.specs.Channels.{ChannelsValue, Does, Others, Partner, front_after, partner_of, shared_with}
use Rattle.channel_core.specs.declared.outcome.Outcome.TheVariants as outcomes
use Rattle.channel_core.specs.declared.word_outcome.ReceivedWord.{ReceivedWord}
use Rattle.channel_core.specs.declared.word_outcome.ReceivedWord.TheVariants as received
use Rattle.channel_core.specs.declared.word_outcome.SentWord.{SentWord}
use Rattle.channel_core.specs.declared.word_outcome.SentWord.TheVariants as sent

-- request q of goroutine n is done with this reply, and these are woken with theirs, after which channels and sleepers are these
abbrev pub DoesWith : ChannelsValue → ℕ → Request → Reply → List (ℕ × Reply) → ChannelsValue → Type 0
DoesWith old n q reply woken new = (o : Others) (c : ℕ) → act (shared_with o old) n c q q ≡ record {
  fate = GoesOn reply;
  woken = woken;
  started = [];
  shared = happened (shared_with o new) n c q (shared_with o new) (Done reply) (map (λ (x : ℕ × Reply). x.0) woken);
}

-- whom a request on channel k meets: one that sends (true), or one that receives
abbrev pub met_at : ChannelsValue → ℕ → Bool → Option Partner
met_at old k sends = option_map partner_of (partner k sends old.asleep)

abbrev pub is_in_select : Option Partner → Bool
is_in_select None = false
is_in_select (Some p) = not (p.case == 0)

-- the word that this one sends, if it sends an item of one word
abbrev pub word_sent : Option Item → Option Word
word_sent None = None
word_sent (Some item) = only_word item

-- a send on channel k is left to others: it panics, or a select receives
abbrev pub is_left_send : ChannelsValue → ℕ → Bool
is_left_send old k = (channel_of old.channels k).closed || is_in_select (met_at old k false)

-- a receive from this buffer, of a channel that is closed or not, is left to others: it gets the zero item, or more or fewer words than one
abbrev pub is_left_alone : List Item → Bool → Bool
is_left_alone [] closed = closed
is_left_alone (x ∷ xs) closed = is_none (only_word x)

-- a receive on channel k of what a sender's word passes by
abbrev pub is_left_item : ChannelsValue → ℕ → Option Word → Bool
is_left_item old k None = true
is_left_item old k (Some word) = is_none (only_word (front_after old.channels k (word ∷ [])))

-- a receive on channel k that meets this sender, if any, is left to others
abbrev pub is_left_receive : ChannelsValue → ℕ → Option Partner → Bool
is_left_receive old k None = is_left_alone (channel_of old.channels k).items (channel_of old.channels k).closed
is_left_receive old k (Some p) = not (p.case == 0) || is_left_item old k (word_sent p.item)

-- a send of this word by goroutine n on channel k did this
abbrev pub IsSent : ChannelsValue → ℕ → ℕ → Word → SentWord → ChannelsValue → Type 0
IsSent old n k word (sent.To m) new = DoesWith old n (Send (Some k) (word ∷ [])) Nothing ((m, Received (word ∷ []) true) ∷ []) new
IsSent old n k word sent.Kept new = DoesWith old n (Send (Some k) (word ∷ [])) Nothing [] new
IsSent old n k word sent.Sleeps new = Does old n (Send (Some k) (word ∷ [])) outcomes.Sleeps new
IsSent old n k word sent.Other new = (new ≡ old) × (is_left_send old k ≡ true)

-- a receive by goroutine n on channel k did this
abbrev pub IsReceived : ChannelsValue → ℕ → ℕ → ReceivedWord → ChannelsValue → Type 0
IsReceived old n k (received.Kept word) new = DoesWith old n (Receive (Some k)) (Received (word ∷ []) true) [] new
IsReceived old n k (received.From word m) new = DoesWith old n (Receive (Some k)) (Received (word ∷ []) true) ((m, Nothing) ∷ []) new
IsReceived old n k received.Sleeps new = Does old n (Receive (Some k)) outcomes.Sleeps new
IsReceived old n k received.Other new = (new ≡ old) × (is_left_receive old k (met_at old k true) ≡ true)
