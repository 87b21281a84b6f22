-- Soundness: what holds of a board's words and of the hands of all its seats between any two steps, one topic after the
-- other.
use Rattle.std.specs.Prelude.{◌≡◌, ◌≢◌, ◌⊎◌, ℕ, ◌+◌, ◌*◌, ◌/◌, ◌%◌, ◌^◌, ◌<◌, ◌≤◌, true, List, [], length, IsTrue}
use Rattle.std.specs.Prelude.{Option, None, Some}
use Rattle.std.specs.Int.{bit_at}
use mathlib.Core.Option.{some}
use lib.ListN.{get_elem?}
use Rattle.word_table.specs.Probing.{IsWordSet}
use Rattle.board_rule.specs.Meaning.{Meaning}
use Rattle.board_rule.specs.Records.{Claimed, Paused, Ended, Pending, Walk}
use Rattle.board_rule.specs.Words.{Mem, mem, full_word, cell_word, head_word}
use Rattle.board_rule.specs.Waiters.{wait_bit, first_of, rest_of, head_of, IsChain, IsLater, waiting, below}
use Rattle.board_rule.specs.Looks.{Looked, RemembersAbsence}
use Rattle.board_rule.specs.Seats.{Each, times, total, waits_at, in_hand, spent}
use Rattle.board_rule.specs.May.{HasRight}
use Rattle.board_rule.specs.declared.hands.Hands.{Hands}

module _ (meaning : Meaning) (capacity : ℕ) where
  -- cells are a set: taken cells hold entries, none twice, and no cell from a word's home up to its place is empty
  pub record AreCells (cell : ℕ → ℕ) : Type 0 where
    pub enter : (p : ℕ) → p < capacity → cell p ≢ 0 → meaning.entry (cell p)
    pub are_set : IsWordSet capacity cell

  -- a goal stands in the cell
  abbrev pub HoldsGoal : (ℕ → ℕ) → ℕ → Type 0
  HoldsGoal cell p = (cell p ≢ 0) × IsTrue (meaning.goal (cell p))

  -- all words of a place but its cell are 0
  pub record IsBlank (m : Mem) (p : ℕ) : Type 0 where
    pub run : m.run p ≡ 0
    pub head : m.head p ≡ 0
    pub cost : m.cost p ≡ 0
    pub node : m.node p ≡ 0
    pub who : m.who p ≡ 0
    pub next : (b : ℕ) → b < 8 → m.next (8 * p + b) ≡ 0

  -- the words of empty cells and of members are 0
  abbrev pub KeepsBlank : Mem → Type 0
  KeepsBlank m = (p : ℕ) → p < capacity → (HoldsGoal m.cell p → ⊥) → IsBlank m p

  -- the word stands in a cell
  abbrev pub Stands : (cell : ℕ → ℕ) → ℕ → Type 0
  Stands cell word = (p : ℕ) × (p < capacity) × (word ≢ 0) × (cell p ≡ word)

  -- the goal stands in a cell and is finished: its head is closed
  abbrev pub IsFinished : (cell head : ℕ → ℕ) → ℕ → Type 0
  IsFinished cell head goal = (p : ℕ) × (p < capacity) × (goal ≢ 0) × (cell p ≡ goal) × (2 ^ 63 ≤ head p)

  -- the goal's promise: its children are finished, and what it asks for stands in cells
  pub record IsPromised (cell head : ℕ → ℕ) (goal : ℕ) : Type 0 where
    pub children : (child : ℕ) → meaning.child goal child → IsFinished cell head child
    pub asked : (word : ℕ) → meaning.asked goal word → Stands cell word

  -- promises and answers: a finished goal's promise holds, and its answer words are its answer
  pub record KeepsPromises (cell head cost node : ℕ → ℕ) : Type 0 where
    pub promise : (p : ℕ) → p < capacity → 2 ^ 63 ≤ head p → IsPromised cell head (cell p)
    pub answer : (p : ℕ) → p < capacity → 2 ^ 63 ≤ head p → meaning.answer (cell p) (cost p) (node p)

  -- every cell is taken, and some entry stands in none
  pub record IsFull (cell : ℕ → ℕ) : Type 0 where
    pub taken : (p : ℕ) → p < capacity → cell p ≢ 0
    pub left_out : (word : ℕ) × meaning.entry word × ((p : ℕ) → p < capacity → cell p ≢ word)

-- how often the place stands in the rights of all seats
abbrev pub held : {R : Type 0} → List (Hands R) → ℕ → ℕ
held views p = total (λ v. times (λ (r : Claimed). r.place) p v.rights) views

-- how often the place stands in what all seats finished
abbrev pub ended : {R : Type 0} → List (Hands R) → ℕ → ℕ
ended views p = total (λ v. times (λ (e : Ended). e.place) p v.done) views

-- what the run word and the head of a place say: its goal is held, or finished, where it stands in one seat's rights,
-- or done, once
pub record AreRights {R : Type 0} (run head : ℕ → ℕ) (views : List (Hands R)) (p : ℕ) : Type 0 where
  pub once : held views p + ended views p ≤ 1
  pub running : bit_at (run p) 8 ≡ held views p + ended views p
  pub small : (i : ℕ) → 9 ≤ i → bit_at (run p) i ≡ 0
  pub closed : ended views p ≡ 1 → head p ≡ 2 ^ 63
  pub run_ended : ended views p ≡ 1 → run p ≡ 256
  pub is_open : ended views p ≡ 0 → head p < 2 ^ 63

-- rights: a goal is held, or finished, exactly where it stands in one seat's rights, or done, once
abbrev pub KeepsRights : {R : Type 0} → ℕ → (run head : ℕ → ℕ) → List (Hands R) → Type 0
KeepsRights capacity run head views = (p : ℕ) → p < capacity → AreRights run head views p

-- the waits that a right has not got have no bit set, but for the one that is being put in
pub record IsRaised (run : ℕ → ℕ) (pending : Option Pending) (r : Claimed) : Type 0 where
  pub few : r.waits ≤ 8
  pub others : (b : ℕ) → r.waits ≤ b → b < 8
      → bit_at (run r.place) b ≡ times (λ (q : ℕ). q) (8 * r.place + b) (waiting pending)

-- the head that was seen is that of a child of the waiter's goal; where it is linked, it was open, and the waiter's
-- next word names its first waiter
pub record IsSeenHead (meaning : Meaning) (capacity : ℕ) (cell next : ℕ → ℕ) (x : Pending) (head : ℕ) : Type 0 where
  pub near : x.child < capacity
  pub child_goal : HoldsGoal meaning capacity cell x.child
  pub is_child : meaning.child (cell (x.waiter / 8)) (cell x.child)
  pub was_open : x.linked ≡ true → head < 2 ^ 63
  pub links : x.linked ≡ true → next x.waiter ≡ head % 2 ^ 24

-- a wait that is being put in is the next one of a right of the seat
pub record IsPending (meaning : Meaning) (capacity : ℕ) (cell next : ℕ → ℕ) (looks : List (ℕ × ℕ))
    (rights : List Claimed)
    (x : Pending) : Type 0 where
  pub has : HasRight capacity rights (x.waiter / 8)
  pub its_wait : waits_at (x.waiter / 8) rights ≡ x.waiter % 8
  pub seen : (head : ℕ) → x.seen ≡ Some head → IsSeenHead meaning capacity cell next x head
  pub looked : (head : ℕ) → x.seen ≡ Some head → Looked looks (head_word x.child) head

abbrev pub ArePending : Meaning → ℕ → (cell next : ℕ → ℕ) → List (ℕ × ℕ) → List Claimed → Option Pending → Type 0
ArePending meaning capacity cell next looks rights None = Unit {0}
ArePending meaning capacity cell next looks rights (Some x) = IsPending meaning capacity cell next looks rights x

-- the waiter's goal waited for the child, which is finished
pub record WaitedFor (meaning : Meaning) (capacity : ℕ) (cell head : ℕ → ℕ) (child waiter : ℕ) : Type 0 where
  pub near : child < capacity
  pub closed : 2 ^ 63 ≤ head child
  pub is_child : meaning.child (cell (waiter / 8)) (cell child)

-- what is left of a closed list is a chain, and the next word that was read is the first waiter's
pub record IsWalked (meaning : Meaning) (capacity : ℕ) (cell head next : ℕ → ℕ) (walk : Walk) : Type 0 where
  pub chained : IsChain next walk.waiters
  pub read : (found : ℕ) → walk.next ≡ Some found → found ≡ first_of (rest_of walk.waiters)
  pub waited : Each (WaitedFor meaning capacity cell head walk.child) walk.waiters

-- waits: there is, for each place, the list of its waiters; each wait bit that is set stands once in a list or a hand
pub record KeepsWaits {R : Type 0} (meaning : Meaning) (capacity : ℕ) (cell run head next : ℕ → ℕ)
    (views : List (Hands R)) : Type 0 where
  pub lists : ℕ → List ℕ
  pub none_left : (c : ℕ) → c < capacity → 2 ^ 63 ≤ head c → lists c ≡ []
  pub heads : (c : ℕ) → c < capacity → head c < 2 ^ 63 → head c ≡ head_of (lists c)
  pub chains : (c : ℕ) → c < capacity → IsChain next (lists c)
  pub joined : (c : ℕ) → c < capacity → Each (λ q. meaning.child (cell (q / 8)) (cell c)) (lists c)
  pub once : (q : ℕ) → below (λ c. times (λ (p : ℕ). p) q (lists c)) capacity + total
      (λ v. times (λ (p : ℕ). p) q (in_hand v.pending v.walk)) views ≡ wait_bit run q
  pub near : (q : ℕ) → 1 ≤ wait_bit run q → q / 8 < capacity

-- what was seen stays: a taken cell, a closed head, the number of an open head's waiters, the set full word
pub record Stays (cell head : ℕ → ℕ) (full : ℕ) (looks : List (ℕ × ℕ)) : Type 0 where
  pub cells : (p found : ℕ) → Looked looks (cell_word p) found → found ≢ 0 → cell p ≡ found
  pub heads : (p found : ℕ) → Looked looks (head_word p) found → IsLater found (head p)
  pub set_full : (found : ℕ) → Looked looks full_word found → found ≢ 0 → full ≢ 0

-- a finished goal has its worker and its answer in its words
pub record IsRecorded (capacity : ℕ) (head cost node who : ℕ → ℕ) (e : Ended) : Type 0 where
  pub near : e.place < capacity
  pub closed : 2 ^ 63 ≤ head e.place
  pub cost_is : cost e.place ≡ e.cost
  pub node_is : node e.place ≡ e.node
  pub who_is : who e.place ≡ e.worker + 1
  pub few : e.worker < 64

-- the answer words that a right has stored are those of its goal
pub record IsStored (cost node who : ℕ → ℕ) (r : Claimed) : Type 0 where
  pub cost_is : (x : ℕ) → r.cost ≡ Some x → cost r.place ≡ x
  pub node_is : (x : ℕ) → r.node ≡ Some x → node r.place ≡ x
  pub who_is : (x : ℕ) → r.who ≡ Some x → who r.place ≡ x

-- each claim is one of the seat's suspensions, done and rights
abbrev pub EndsClaims : {R : Type 0} → Hands R → Type 0
EndsClaims v = (p : ℕ) → times (λ (c : ℕ). c) p v.claims
    ≡ times (λ (s : Paused). s.place) p v.suspensions + times (λ (e : Ended). e.place) p v.done + times
    (λ (r : Claimed). r.place) p v.rights

-- a seat that is not spent has a part, the board's rules and its capacity
abbrev pub IsAwake : {R : Type 0} → R → ℕ → Hands R → Type 0
IsAwake rules capacity v = (v ≡ spent) ⊎ ((1 ≤ v.parts) × (v.rules ≡ Some rules) × (v.capacity ≡ capacity))

-- what holds of one seat's hands
pub record AreHands {R : Type 0} (meaning : Meaning) (rules : R) (capacity : ℕ) (m : Mem) (v : Hands R) : Type 0 where
  pub stays : Stays m.cell m.head m.full v.looks
  pub absence : RemembersAbsence meaning capacity v.looks
  pub recorded : Each (IsRecorded capacity m.head m.cost m.node m.who) v.done
  pub stored : Each (IsStored m.cost m.node m.who) v.rights
  pub ends : EndsClaims v
  pub raised : Each (IsRaised m.run v.pending) v.rights
  pub pends : ArePending meaning capacity m.cell m.next v.looks v.rights v.pending
  pub walked : IsWalked meaning capacity m.cell m.head m.next v.walk
  pub awake : IsAwake rules capacity v

-- the fact holds of the hands of each seat
abbrev pub OfAll : {R : Type 0} → (Hands R → Type 0) → List (Hands R) → Type 0
OfAll Fact views = (id : ℕ) (v : Hands _) → get_elem? views id ≡ some v → Fact v

-- a seat that is alone is the only one that was ever made, and every word has the value that it keeps
pub record KeepsAlone {R : Type 0} (words : List ℕ) (views : List (Hands R)) (v : Hands R) : Type 0 where
  pub every_word : (kept : List ℕ) → v.alone ≡ Some kept → kept ≡ words
  pub only : (kept : List ℕ) → v.alone ≡ Some kept → length views ≡ 1

-- soundness but for what seats that are alone keep: of the words by their kinds, and the hands of all seats
pub record IsSoundBy {R : Type 0} (meaning : Meaning) (rules : R) (capacity : ℕ) (m : Mem) (views : List (Hands R)) :
    Type 0
  where
    pub cells : AreCells meaning capacity m.cell
    pub blank : KeepsBlank meaning capacity m
    pub rights : KeepsRights capacity m.run m.head views
    pub waits : KeepsWaits meaning capacity m.cell m.run m.head m.next views
    pub promises : KeepsPromises meaning capacity m.cell m.head m.cost m.node
    pub full : m.full ≢ 0 → IsFull meaning capacity m.cell
    pub hands : OfAll (AreHands meaning rules capacity m) views
    pub parts : total (λ v. v.parts) views ≡ 64

-- soundness
pub record IsSound {R : Type 0} (meaning : Meaning) (rules : R) (capacity : ℕ) (words : List ℕ)
    (views : List (Hands R)) :
    Type 0 where
  pub count : length words ≡ 14 * capacity + 1
  pub by_kinds : IsSoundBy meaning rules capacity (mem words) views
  pub alone : OfAll (KeepsAlone words views) views
