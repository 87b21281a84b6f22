-- How far the words of a board are from having all their goals finished: counts over its places, which each turn of a
-- goal brings down.
use Rattle.std.specs.Prelude.{◌≡◌, ◌≢◌, ◌⊎◌, ℕ, zero, suc, ◌==◌, ◌+◌, ◌*◌, ◌^◌, ◌<◌, ◌≤◌, Bool, not, ◌&&◌, cond, nat_le}
use Rattle.std.specs.Prelude.{List, length, Option, Some}
use Rattle.board_rule.specs.Meaning.{Meaning}
use Rattle.board_rule.specs.Words.{Mem, mem}
use Rattle.board_rule.specs.declared.hands.Hands.{Hands}
use Rattle.goal_board.specs.Alone.{HasWait}

-- at how many of the first places it holds
abbrev pub number_below : (ℕ → Bool) → ℕ → ℕ
number_below holds zero = 0
number_below holds (suc n) = cond (holds n) 1 0 + number_below holds n

-- a goal stands there, and is ready
abbrev pub has_ready : Meaning → Mem → ℕ → Bool
has_ready meaning m p = (not (m.cell p == 0) && meaning.goal (m.cell p)) && (m.run p == 0)

abbrev pub has_empty : Mem → ℕ → Bool
has_empty m p = m.cell p == 0

-- no goal there is finished
abbrev pub has_open : Mem → ℕ → Bool
has_open m p = not (nat_le (2 ^ 63) (m.head p))

abbrev pub ready_count : Meaning → ℕ → List ℕ → ℕ
ready_count meaning capacity words = number_below (has_ready meaning (mem words)) capacity

abbrev pub empty_count : ℕ → List ℕ → ℕ
empty_count capacity words = number_below (has_empty (mem words)) capacity

abbrev pub open_count : ℕ → List ℕ → ℕ
open_count capacity words = number_below (has_open (mem words)) capacity

module _ (meaning : Meaning) (capacity : ℕ) (before after : List ℕ) where
  -- a goal was finished, or else an empty cell was taken, or else there are no more ready goals than before
  pub data Advances : Type 0 where
    finishes : open_count capacity after < open_count capacity before
        → empty_count capacity after ≤ empty_count capacity before
        → Advances
    fills : open_count capacity after ≤ open_count capacity before
        → empty_count capacity after < empty_count capacity before → Advances
    waits : open_count capacity after ≤ open_count capacity before
        → empty_count capacity after ≤ empty_count capacity before
        → ready_count meaning capacity after ≤ ready_count meaning capacity before → Advances

-- a seat that is alone stays so, and its words advance
abbrev pub AdvancesAlone : {R : Type 0} → Meaning → ℕ → Hands R → Hands R → Type 0
AdvancesAlone meaning capacity v w = (kept : List ℕ) → v.alone ≡ Some kept → (words : List ℕ) × (w.alone ≡ Some words)
    × Advances meaning capacity kept words

-- words in which no goal was finished and no run word has changed but that of the place; a cell was taken, or none has
-- changed; the goal there has a wait where it had one or so many more
pub record GoesOn (capacity place more_waits : ℕ) (before after : List ℕ) : Type 0 where
  pub same_length : length after ≡ length before
  pub heads : (p : ℕ) → nat_le (2 ^ 63) ((mem after).head p) ≡ nat_le (2 ^ 63) ((mem before).head p)
  pub others : (p : ℕ) → p ≢ place → (mem after).run p ≡ (mem before).run p
  pub cells : ((p : ℕ) → p < capacity → (mem after).cell p ≡ (mem before).cell p)
      ⊎ (empty_count capacity after < empty_count capacity before)
  pub waiting : (1 ≤ more_waits) ⊎ HasWait ((mem before).run place) → HasWait ((mem after).run place)

-- a seat that is alone stays so, and its words go on so, however many places they have
abbrev pub GoesOnAlone : (place more_waits : ℕ) → Option (List ℕ) → Option (List ℕ) → Type 0
GoesOnAlone place more_waits v w = (capacity : ℕ) (before : List ℕ) → v ≡ Some before
    → length before ≡ 14 * capacity + 1
    → (after : List ℕ) × (w ≡ Some after) × GoesOn capacity place more_waits before after
