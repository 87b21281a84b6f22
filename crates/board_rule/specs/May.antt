-- All that a seat has to show before each kind of step: of its looks, its rights, the wait that it puts in, the list that
-- it walks, and its parts. Every kind asks for a part of the board, and a look at a word asks for no more.
use Rattle.std.specs.Prelude.{◌≡◌, ◌≢◌, ℕ, ◌/◌, ◌^◌, ◌<◌, ◌≤◌, List, [], ◌∷◌, IsTrue, true, None, Some}
use Rattle.word_table.specs.Probing.{home_of, steps_to}
use Rattle.board_rule.specs.Meaning.{Meaning}
use Rattle.board_rule.specs.Records.{Claimed, Pending}
use Rattle.board_rule.specs.Words.{cell_word}
use Rattle.board_rule.specs.Looks.{Looked, SawOther, SawOthers, ShowsPromise}
use Rattle.board_rule.specs.Seats.{Among, times, answered_right}
use Rattle.board_rule.specs.declared.hands.Hands.{Hands}

-- every kind of step: the seat has a part of the board
abbrev pub HasPart : {R : Type 0} → Hands R → Type 0
HasPart v = 0 < v.parts

-- Put: the word is an entry, and the looks found other words in all cells from its home to here
pub record MayPut {R : Type 0} (meaning : Meaning) (capacity : ℕ) (v : Hands R) (place word : ℕ) : Type 0 where
  pub near : place < capacity
  pub enters : meaning.entry word
  pub is_word : word ≢ 0
  pub passed : SawOthers capacity v.looks word (steps_to capacity (home_of word capacity) place)

-- Fill: the looks found every cell taken, by other words than an entry
pub record MayFill {R : Type 0} (meaning : Meaning) (capacity : ℕ) (v : Hands R) : Type 0 where
  pub word : ℕ
  pub enters : meaning.entry word
  pub passed : (place : ℕ) → place < capacity → SawOther v.looks word place

-- Claim: one of the looks found a goal in the cell
pub record MayClaim {R : Type 0} (meaning : Meaning) (capacity : ℕ) (v : Hands R) (place : ℕ) : Type 0 where
  pub near : place < capacity
  pub goal : ℕ
  pub some_goal : goal ≢ 0
  pub stands : Looked v.looks (cell_word place) goal
  pub is_goal : IsTrue (meaning.goal goal)

-- StoreCost, StoreNode and StoreWho: the seat has the right to the goal
pub record HasRight (capacity : ℕ) (rights : List Claimed) (place : ℕ) : Type 0 where
  pub near : place < capacity
  pub held : 1 ≤ times (λ (r : Claimed). r.place) place rights

-- Suspend: the seat has the right to the goal, and puts no wait in
pub record MaySuspend {R : Type 0} (capacity : ℕ) (v : Hands R) (place : ℕ) : Type 0 where
  pub has : HasRight capacity v.rights place
  pub free : v.pending ≡ None

-- Close: the seat has the right to the goal, without waits, and stored its answer and a worker; its looks show the
-- goal's promise; it puts no wait in, and has no list left to walk
pub record MayClose {R : Type 0} (meaning : Meaning) (capacity : ℕ) (v : Hands R) (place worker cost node : ℕ) : Type 0
  where
    pub near : place < capacity
    pub stored : Among v.rights (answered_right place worker cost node)
    pub few : worker < 64
    pub goal : ℕ
    pub some_goal : goal ≢ 0
    pub stands : Looked v.looks (cell_word place) goal
    pub is_goal : IsTrue (meaning.goal goal)
    pub promise : ShowsPromise meaning capacity v.looks goal
    pub answer : meaning.answer goal cost node
    pub free : v.pending ≡ None
    pub walked : v.walk.waiters ≡ []

-- BeginWait: the seat has this right, with fewer than eight waits, and puts no other wait in
pub record MayBegin {R : Type 0} (capacity : ℕ) (v : Hands R) (r : Claimed) : Type 0 where
  pub near : r.place < capacity
  pub held : Among v.rights r
  pub fewer : r.waits < 8
  pub free : v.pending ≡ None

-- SeeHead: the seat puts this wait in, and its looks found the waiter's goal and a child of it in cells
pub record MaySee {R : Type 0} (meaning : Meaning) (capacity : ℕ) (v : Hands R) (x : Pending) (child : ℕ) : Type 0 where
  pub is : v.pending ≡ Some x
  pub near : child < capacity
  pub goal : ℕ
  pub some_goal : goal ≢ 0
  pub goal_stands : Looked v.looks (cell_word (x.waiter / 8)) goal
  pub other : ℕ
  pub some_other : other ≢ 0
  pub other_stands : Looked v.looks (cell_word child) other
  pub is_goal : IsTrue (meaning.goal other)
  pub is_child : meaning.child goal other

-- StoreNext: the seat puts this wait in, and saw the child's head open
pub record MayLink {R : Type 0} (v : Hands R) (x : Pending) (head : ℕ) : Type 0 where
  pub is : v.pending ≡ Some x
  pub seen : x.seen ≡ Some head
  pub was_open : head < 2 ^ 63

-- PutWait: the seat puts this wait in, and stored the waiter's next word for the child's head as last seen; a head has
-- room for the number of any waiter of the board
pub record MayPush {R : Type 0} (capacity : ℕ) (v : Hands R) (x : Pending) (head : ℕ) : Type 0 where
  pub is : v.pending ≡ Some x
  pub seen : x.seen ≡ Some head
  pub linked : x.linked ≡ true
  pub small : capacity ≤ 2 ^ 20

-- DropWait: the seat puts this wait in, and saw the child's head closed
pub record MayDrop {R : Type 0} (v : Hands R) (x : Pending) : Type 0 where
  pub is : v.pending ≡ Some x
  pub head : ℕ
  pub seen : x.seen ≡ Some head
  pub closed : 2 ^ 63 ≤ head

-- ReadNext and ClearBit: the list that the seat walks isn't empty, and begins with the waiter
pub record MayWalk {R : Type 0} (v : Hands R) (waiter : ℕ) : Type 0 where
  pub others : List ℕ
  pub first : v.walk.waiters ≡ waiter ∷ others

-- Apart: the seat keeps a part when it gives one away
abbrev pub MaySplit : {R : Type 0} → Hands R → Type 0
MaySplit v = 2 ≤ v.parts

-- Together: the seat that is taken in holds no right, puts no wait in and has no list left to walk
pub record MayJoin {R : Type 0} (other : Hands R) : Type 0 where
  pub no_right : other.rights ≡ []
  pub free : other.pending ≡ None
  pub walked : other.walk.waiters ≡ []
