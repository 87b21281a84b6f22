-- What a seat keeps of the words while it is alone, and how calls change it.
use Rattle.std.specs.Prelude.{◌≡◌, ◌≢◌, ℕ, ◌+◌, ◌*◌, ◌^◌, ◌<◌, nat_le, List, [], length, slice_index, Option, None}
use Rattle.std.specs.Prelude.{Some, IsTrue, bit_or}
use Rattle.std.specs.Int.{bit_at}
use Rattle.board_rule.specs.Meaning.{Meaning}
use Rattle.board_rule.specs.Words.{mem, cell_word, run_word}
use Rattle.board_rule.specs.Looks.{Looked}
use Rattle.board_rule.specs.declared.hands.Hands.{Hands}

-- a seat that is alone keeps all words of the board
abbrev pub KeepsAll : {R : Type 0} → ℕ → Hands R → Type 0
KeepsAll capacity v = (kept : List ℕ) → v.alone ≡ Some kept → length kept ≡ 14 * capacity + 1

-- a seat that was alone is so still, and the words that it keeps have changed so; one that was not is not now
abbrev pub StaysAlone : (List ℕ → List ℕ → Type 0) → Option (List ℕ) → Option (List ℕ) → Type 0
StaysAlone Changes None after = after ≡ None
StaysAlone Changes (Some before) after = (words : List ℕ) × (after ≡ Some words) × Changes before words

-- words of which run words alone have changed
pub record ChangesRuns (before after : List ℕ) : Type 0 where
  pub same_length : length after ≡ length before
  pub others : (word : ℕ) → ((place : ℕ) → word ≢ run_word place) → slice_index after word ≡ slice_index before word

-- words of which no cell has changed, no head was closed or opened, and no run word has changed but that of the place
pub record KeepsBoard (place : ℕ) (run_after : ℕ → ℕ) (before after : List ℕ) : Type 0 where
  pub same_length : length after ≡ length before
  pub cells : (p : ℕ) → (mem after).cell p ≡ (mem before).cell p
  pub heads : (p : ℕ) → nat_le (2 ^ 63) ((mem after).head p) ≡ nat_le (2 ^ 63) ((mem before).head p)
  pub others : (p : ℕ) → p ≢ place → (mem after).run p ≡ (mem before).run p
  pub its_run : (mem after).run place ≡ run_after ((mem before).run place)

-- the bit of a wait is set in the run word
abbrev pub HasWait : ℕ → Type 0
HasWait run = (number : ℕ) × (number < 8) × (bit_at run number ≡ 1)

-- the goal that was looked at in the cell is ready in these words
pub record IsReadyIn (meaning : Meaning) (capacity : ℕ) (words : List ℕ) (place : ℕ) : Type 0 where
  pub near : place < capacity
  pub some_goal : slice_index words (cell_word place) ≢ 0
  pub is_goal : IsTrue (meaning.goal (slice_index words (cell_word place)))
  pub ready : slice_index words (run_word place) ≡ 0

-- What each call leaves of the words that a lone seat keeps.

-- answer, where the goal is open: a seat that is alone and holds no right keeps some ready goal
abbrev pub LoneFindsReady : {R : Type 0} → Meaning → ℕ → Hands R → ℕ → Type 0
LoneFindsReady meaning capacity v at = (kept : List ℕ) → v.alone ≡ Some kept → v.rights ≡ [] → (goal : ℕ) → goal ≢ 0
    → Looked v.looks (cell_word at) goal → IsTrue (meaning.goal goal) → (place : ℕ)
    × IsReadyIn meaning capacity kept place

-- wait_for, where the goal waits: the bit of its right's next wait was set
pub record LoneRegisters (place waits : ℕ) (before after : Option (List ℕ)) : Type 0 where
  pub kept : StaysAlone (KeepsBoard place (λ run. bit_or run (2 ^ waits))) before after
  pub has_wait : (kept : List ℕ) → after ≡ Some kept → HasWait ((mem kept).run place)

-- wait_for, where the child is finished: no run word has changed
abbrev pub LoneFindsFinished : (place : ℕ) → (before after : Option (List ℕ)) → Type 0
LoneFindsFinished place before after = StaysAlone (KeepsBoard place (λ run. run)) before after

-- finish: the goal was not finished before
abbrev pub LoneFinishes : (place : ℕ) → (before : Option (List ℕ)) → Type 0
LoneFinishes place before = (kept : List ℕ) → before ≡ Some kept → (mem kept).head place < 2 ^ 63

-- finish, once the waiters were woken: run words alone have changed
abbrev pub LoneWakes : (before after : Option (List ℕ)) → Type 0
LoneWakes before after = StaysAlone ChangesRuns before after
