-- What each call on a seat's right to a goal does to its hands: a goal is claimed, waits, is suspended or finished.
use Rattle.std.specs.Prelude.{◌≡◌, ◌≢◌, ◌⊎◌, ℕ, ◌+◌, ◌*◌, ◌^◌, ◌<◌, ◌≤◌, List, [], ◌∷◌, ◌++◌, length}
use Rattle.std.specs.Prelude.{Option, Some, None, false, IsTrue}
use Rattle.board_rule.specs.Meaning.{Meaning}
use Rattle.board_rule.specs.Records.{Claimed, Walk}
use Rattle.board_rule.specs.Words.{full_word, cell_word, run_word, head_word, cost_word, node_word, who_word}
use Rattle.board_rule.specs.Looks.{Looked, LastFound}
use Rattle.board_rule.specs.Waiters.{head_of, cleared}
use Rattle.board_rule.specs.Seats.{Among, Each, without, changed, looked, claimed, suspended, waits_at}
use Rattle.board_rule.specs.Seats.{with_wait}
use Rattle.board_rule.specs.declared.hands.Hands.{Hands}
use Rattle.goal_board.specs.Alone.{KeepsAll, HasWait, LoneRegisters, LoneFindsFinished, LoneWakes, LoneFinishes}
use Rattle.goal_board.specs.declared.board.Right.{Right}
use Rattle.goal_board.specs.declared.answers.Woken.{Woken}
use Rattle.goal_board.specs.declared.answers.Awaited.{Awaited}
use Rattle.goal_board.specs.declared.answers.Awaited.TheVariants.{Registered, Finished}
use Rattle.goal_board.specs.declared.answers.Suspended.{Suspended}
use Rattle.goal_board.specs.declared.answers.Suspended.TheVariants.{Ready, Waiting}
use Rattle.goal_board.specs.Calls.{IsSeen, seen}

-- a right to a goal that has waits, and no answer word yet
abbrev pub waiting_right : ℕ → ℕ → Claimed
waiting_right place waits = record { place = place; waits = waits; cost = None; node = None; who = None }

-- the seat's right to a goal
pub record IsRightOf {R : Type 0} (meaning : Meaning) (capacity : ℕ) (v : Hands R) (right : Right) : Type 0 where
  pub near : right.place < capacity
  pub held : Among v.rights (waiting_right right.place right.waits)
  pub few : right.waits ≤ 8
  pub stands : Looked v.looks (cell_word right.place) right.goal
  pub some_goal : right.goal ≢ 0
  pub is_goal : IsTrue (meaning.goal right.goal)
  pub enters : meaning.entry right.goal

-- one of the looks found no goal in the cell
abbrev pub ShowsNoGoal : Meaning → List (ℕ × ℕ) → ℕ → Type 0
ShowsNoGoal meaning looks at = (word : ℕ) × Looked looks (cell_word at) word
    × ((word ≡ 0) ⊎ (meaning.goal word ≡ false))

-- the earlier looks found a goal in the cell, and one of the later its run word other than 0
pub record ShowsTaken (meaning : Meaning) (looks : List (ℕ × ℕ)) (at : ℕ) : Type 0 where
  pub earlier : List (ℕ × ℕ)
  pub later : List (ℕ × ℕ)
  pub split : looks ≡ later ++ earlier
  pub goal : ℕ
  pub some_goal : goal ≢ 0
  pub is_goal : IsTrue (meaning.goal goal)
  pub stands : Looked earlier (cell_word at) goal
  pub run : ℕ
  pub taken : run ≢ 0
  pub found : Looked later (run_word at) run

-- the looks found no goal in the cell, or a goal and then its run word other than 0
abbrev pub ShowsBusy : Meaning → List (ℕ × ℕ) → ℕ → Type 0
ShowsBusy meaning looks at = ShowsNoGoal meaning looks at ⊎ ShowsTaken meaning looks at

-- each right of the seat is one still
abbrev pub KeepsRights : {R : Type 0} → Meaning → ℕ → Hands R → Hands R → Type 0
KeepsRights meaning capacity v w = (right : Right) → IsRightOf meaning capacity v right
    → IsRightOf meaning capacity w right

-- each right of the seat is one still, but for that to the goal at the place
abbrev pub KeepsOthers : {R : Type 0} → Meaning → ℕ → ℕ → Hands R → Hands R → Type 0
KeepsOthers meaning capacity place v w = (right : Right) → right.place ≢ place → IsRightOf meaning capacity v right
    → IsRightOf meaning capacity w right

module _ {R : Type 0} (meaning : Meaning) (capacity : ℕ) (v : Hands R) (at : ℕ) where
  -- the goal was found ready, by a look at its run word and then by the step that claimed it
  pub record ClaimsGoal (right : Right) (w : Hands R) : Type 0 where
    pub there : right.place ≡ at
    pub no_waits : right.waits ≡ 0
    pub its : IsRightOf meaning capacity w right
    pub looks : IsSeen v ((run_word at, 0) ∷ ((run_word at, 0) ∷ ((cell_word at, right.goal) ∷ [])))
    pub hands_are : w ≡ claimed (looked (looked v (cell_word at) right.goal) (run_word at) 0) at
    -- the seat had no right to it before
    pub new : Each (λ (r : Claimed). r.place ≢ at) v.rights
    pub lone : KeepsAll capacity v

  -- it was found busy
  pub record FindsBusy (w : Hands R) : Type 0 where
    pub more : List (ℕ × ℕ)
    pub looks : IsSeen v more
    pub busy : ShowsBusy meaning more at
    pub hands_are : w ≡ seen more v

  abbrev pub Claims : Option Right → Hands R → Type 0
  Claims (Some right) w = ClaimsGoal right w
  Claims None w = FindsBusy w

-- what was found in a run word whose held bit was cleared: no wait bit, or one
abbrev pub ShowsWait : Suspended → ℕ → Type 0
ShowsWait Ready found = HasWait found → ⊥
ShowsWait Waiting found = HasWait found

-- the right was given up: the goal is ready exactly where no wait bit was found
pub record SuspendsGoal {R : Type 0} (v : Hands R) (place : ℕ) (answer : Suspended) (w : Hands R) : Type 0 where
  pub found : ℕ
  pub hands_are : w ≡ suspended v place found
  pub waits : ShowsWait answer found
  -- nothing is left of the run word where the goal is ready, and something where it waits
  pub ready : answer ≡ Ready → cleared found 8 ≡ 0
  pub not_ready : HasWait found → cleared found 8 ≢ 0
  pub looks : IsSeen v ((run_word place, found) ∷ [])

-- one of the looks found a child of the goal in the cell
pub record SeesChild (meaning : Meaning) (looks : List (ℕ × ℕ)) (goal at : ℕ) : Type 0 where
  pub other : ℕ
  pub some_other : other ≢ 0
  pub stands : Looked looks (cell_word at) other
  pub is_child : meaning.child goal other

-- the looks of a wait: none at the full word, and the last at the child's head found that; each try that failed shows
-- more waiters than the one before, so the looks are few
pub record LooksToWait (capacity at head : ℕ) (looks : List (ℕ × ℕ)) : Type 0 where
  pub quiet : (value : ℕ) → Looked looks full_word value → ⊥
  pub last : LastFound looks (head_word at) head
  pub few : length looks ≤ 8 * capacity + 4

module _ {R : Type 0} (capacity : ℕ) (v : Hands R) (place at : ℕ) where
  -- the goal waits for the child, whose head was found open last: its right has one wait more
  pub record Registers (w : Hands R) : Type 0 where
    pub words : Option (List ℕ)
    pub more : List (ℕ × ℕ)
    pub head : ℕ
    pub looks : LooksToWait capacity at head more
    pub was_open : head < 2 ^ 63
    pub hands_are : w ≡ record v { alone = words; looks = more ++ v.looks; rights = with_wait place v.rights }
    pub lone : LoneRegisters place (waits_at place v.rights) v.alone words

  -- the child's head was found closed last, and no wait was added
  pub record FindsFinished (w : Hands R) : Type 0 where
    pub words : Option (List ℕ)
    pub more : List (ℕ × ℕ)
    pub head : ℕ
    pub looks : LooksToWait capacity at head more
    pub closed : 2 ^ 63 ≤ head
    pub hands_are : w ≡ record v { alone = words; looks = more ++ v.looks }
    pub lone : LoneFindsFinished place v.alone words

  abbrev pub WaitsFor : Awaited → Hands R → Type 0
  WaitsFor Registered w = Registers w
  WaitsFor Finished w = FindsFinished w

-- the right after it
abbrev pub waited : Awaited → Right → Right
waited Registered right = record right { waits = right.waits + 1 }
waited Finished right = right

-- the words that a seat keeps while it is alone, once it has finished a goal
abbrev pub ended_words : ℕ → ℕ → ℕ → ℕ → Option (List ℕ) → Option (List ℕ)
ended_words place worker cost node words =
    changed (head_word place) (2 ^ 63) (changed (who_word place) (worker + 1)
    (changed (node_word place) node (changed (cost_word place) cost words)))

-- the goal went from the seat's rights to what it finished, and the seat walks the list of its waiters
abbrev pub finishes : {R : Type 0} → Hands R → ℕ → ℕ → ℕ → ℕ → List ℕ → Hands R
finishes v place worker cost node waiters = record v {
  alone = ended_words place worker cost node v.alone;
  looks = (head_word place, head_of waiters) ∷ v.looks;
  done = record { place = place; worker = worker; cost = cost; node = node } ∷ v.done;
  rights = without place v.rights;
  walk = record { child = place; waiters = waiters; next = None };
}

-- the seat has walked its list to the end: each waiter's bit was cleared, and those goals that this made ready are
-- counted
pub record Wakes {R : Type 0} (capacity : ℕ) (v : Hands R) (woken : Woken) (w : Hands R) : Type 0 where
  pub more : List (ℕ × ℕ)
  pub words : Option (List ℕ)
  pub gained : List ℕ
  pub left : Walk
  pub hands_are : w ≡ record v { alone = words; looks = more ++ v.looks; woken = gained ++ v.woken; walk = left }
  pub at_end : left.waiters ≡ []
  pub lone : LoneWakes v.alone words
  pub quiet : (value : ℕ) → Looked more full_word value → ⊥
  pub near : Each (λ place. place < capacity) gained
  pub counted : woken.count ≡ length gained
  pub none : woken.one ≡ None → gained ≡ []
  pub one : (place : ℕ) → woken.one ≡ Some place → Among gained place

-- the goal was finished with this answer, and its waiters were woken
pub record FinishesGoal {R : Type 0} (capacity : ℕ) (v : Hands R) (place worker cost node : ℕ) (woken : Woken)
    (w : Hands R) : Type 0 where
  pub waiters : List ℕ
  pub wakes : Wakes capacity (finishes v place worker cost node waiters) woken w
  pub lone : LoneFinishes place v.alone
