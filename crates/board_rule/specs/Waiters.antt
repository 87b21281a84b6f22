-- The lists of waiters in the words of a board, and the bits of the run words that say who waits.
use Rattle.std.specs.Prelude.{◌≡◌, ℕ, zero, suc, ◌+◌, ◌-◌, ◌*◌, ◌/◌, ◌%◌, ◌^◌, ◌<◌, ◌≤◌, ◌⊎◌, List, [], ◌∷◌, length}
use Rattle.std.specs.Prelude.{Option, None, Some, bit_and}
use Rattle.std.specs.Int.{bit_at}
use Rattle.board_rule.specs.Records.{Pending, Walk}

-- 1 where the waiter's bit is set in its goal's run word
abbrev pub wait_bit : (ℕ → ℕ) → ℕ → ℕ
wait_bit run waiter = bit_at (run (waiter / 8)) (waiter % 8)

-- how a word names the first of the waiters: its number plus 1, or 0 where there is none
abbrev pub first_of : List ℕ → ℕ
first_of [] = 0
first_of (waiter ∷ _) = waiter + 1

abbrev pub rest_of : List ℕ → List ℕ
rest_of [] = []
rest_of (_ ∷ waiters) = waiters

-- an open head: how many waiters there are, and the first of them
abbrev pub head_of : List ℕ → ℕ
head_of waiters = length waiters * 2 ^ 24 + first_of waiters

-- an open head with one waiter more, which stands first
abbrev pub pushed : ℕ → ℕ → ℕ
pushed head waiter = (head / 2 ^ 24 + 1) * 2 ^ 24 + (waiter + 1)

-- a run word without that bit
abbrev pub cleared : ℕ → ℕ → ℕ
cleared found bit = bit_and found (2 ^ 64 - 1 - 2 ^ bit)

-- each waiter's next word names the waiter after it
abbrev pub IsChain : (ℕ → ℕ) → List ℕ → Type 0
IsChain next [] = Unit {0}
IsChain next (waiter ∷ waiters) = (next waiter ≡ first_of waiters) × IsChain next waiters

-- a head that was seen is closed by now, or is as it was, or was open and has more waiters
abbrev pub IsLater : ℕ → ℕ → Type 0
IsLater found now = (2 ^ 63 ≤ now) ⊎ ((now ≡ found) ⊎ ((found < 2 ^ 63) × (found / 2 ^ 24 < now / 2 ^ 24)))

-- the waiter of a wait that is being put in
abbrev pub waiting : Option Pending → List ℕ
waiting None = []
waiting (Some x) = x.waiter ∷ []

-- no list is walked
abbrev pub no_walk : Walk
no_walk = record { child = 0; waiters = []; next = None }

-- a number for each place, added up
abbrev pub below : (ℕ → ℕ) → ℕ → ℕ
below f zero = 0
below f (suc n) = f n + below f n
