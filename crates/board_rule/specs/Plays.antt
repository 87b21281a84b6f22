-- What each kind of step tells the seat that makes it: its hands afterwards, and that the board was sound.
use Rattle.std.specs.Prelude.{◌≡◌, ◌≢◌, ℕ, ◌*◌, ◌/◌, ◌<◌, ◌≤◌, List, ◌∷◌, length, Some, slice_index}
use mathlib.Core.Option.{some}
use lib.ListN.{get_elem?}
use Rattle.atomic_table.specs.Table.{Me, Step}
use Rattle.board_rule.specs.Meaning.{Meaning}
use Rattle.board_rule.specs.Words.{cell_word, run_word, head_word, cost_word, node_word, who_word, next_word}
use Rattle.board_rule.specs.Records.{Pending}
use Rattle.board_rule.specs.Waiters.{head_of}
use Rattle.board_rule.specs.Soundness.{IsSound}
use Rattle.board_rule.specs.declared.hands.Hands.{Hands}
use Rattle.board_rule.specs.Seats.{Among, Each, answered_right, looked, placed, claimed, suspended, finished}
use Rattle.board_rule.specs.Seats.{cost_stored, node_stored, who_stored, filled, wait_begun, head_seen, next_stored}
use Rattle.board_rule.specs.Seats.{wait_put, next_read, bit_cleared, wait_dropped}

-- a seat as the base has it: its hands, and no slot
abbrev pub Sat : Type 0 → Type 0
Sat R = Me Unit (Hands R)

module _ {R : Type 0} (meaning_of : R → Meaning) where
  -- at the step the board was sound, the seat had these hands, and the word had this value
  pub record Moment (v : Hands R) (word found : ℕ) : Type 0 where
    pub rules : R
    pub its_rules : v.rules ≡ Some rules
    pub words : List ℕ
    pub views : List (Hands R)
    pub id : ℕ
    pub sound : IsSound (meaning_of rules) rules v.capacity words views
    pub mine : get_elem? views id ≡ some v
    pub value : found ≡ slice_index words word

  -- the step found this value in the word, and left the seat with these hands
  pub record Leaves (v : Hands R) (word found : ℕ) (left w : Hands R) : Type 0 where
    pub hands_are : w ≡ left
    pub moment : Moment v word found

  -- a compare-exchange from 0: the hands where it found 0, and where it found something else
  pub record Tries (v : Hands R) (word found : ℕ) (won w : Hands R) : Type 0 where
    pub hit : found ≡ 0 → w ≡ won
    pub miss : found ≢ 0 → w ≡ looked v word found
    pub moment : Moment v word found

  -- a load
  abbrev pub LooksAt : Hands R → (word found : ℕ) → Hands R → Type 0
  LooksAt v word found w = Leaves v word found (looked v word found) w

  -- a compare-exchange of a cell from 0 to an entry
  abbrev pub PutsIn : Hands R → (place word found : ℕ) → Hands R → Type 0
  PutsIn v place word found w = Tries v (cell_word place) found (placed v place word) w

  -- a compare-exchange of a run word from 0 to 256
  abbrev pub ClaimsAt : Hands R → (place found : ℕ) → Hands R → Type 0
  ClaimsAt v place found w = Tries v (run_word place) found (claimed v place) w

  -- the held bit is cleared
  abbrev pub SuspendsAt : Hands R → (place found : ℕ) → Hands R → Type 0
  SuspendsAt v place found w = Leaves v (run_word place) found (suspended v place found) w

  -- a head is closed: it named these waiters, of goals of the board, and the seat walks their list
  pub record ClosesHead (v : Hands R) (place worker cost node found : ℕ) (w : Hands R) : Type 0 where
    pub waiters : List ℕ
    pub named : found ≡ head_of waiters
    pub near : Each (λ q. q < 8 * v.capacity) waiters
    pub few : length waiters ≤ 8 * v.capacity
    pub leaves : Leaves v (head_word place) found (finished v place worker cost node waiters) w

  -- the bit of the right's next wait is set
  abbrev pub BeginsAt : Hands R → (place found : ℕ) → Hands R → Type 0
  BeginsAt v place found w = Leaves v (run_word place) found (wait_begun v place found) w

  -- a load of a child's head, for the wait that is being put in
  abbrev pub SeesHeadAt : Hands R → Pending → (child found : ℕ) → Hands R → Type 0
  SeesHeadAt v x child found w = Leaves v (head_word child) found (head_seen v x child found) w

  -- a compare-exchange of the child's head, from the one last seen to one with one waiter more: the waiter went in
  -- first, or the head was seen as it is now
  pub record PushesWait (v : Hands R) (x : Pending) (head found : ℕ) (w : Hands R) : Type 0 where
    pub hit : found ≡ head → w ≡ wait_put v x head
    pub miss : found ≢ head → w ≡ head_seen v x x.child found
    pub moment : Moment v (head_word x.child) found

  -- the bit of the wait that was being put in is cleared, as its child is finished
  abbrev pub DropsWaitOf : Hands R → Pending → (found : ℕ) → Hands R → Type 0
  DropsWaitOf v x found w = Leaves v (run_word (x.waiter / 8)) found (wait_dropped v x found) w

  -- a load of the first waiter's next word
  abbrev pub ReadsNextOf : Hands R → (waiter found : ℕ) → Hands R → Type 0
  ReadsNextOf v waiter found w = Leaves v (next_word waiter) found (next_read v waiter found) w

  -- the bit of the first waiter is cleared, by the seat that walks
  abbrev pub ClearsBitOf : Hands R → (waiter found : ℕ) → Hands R → Type 0
  ClearsBitOf v waiter found w = Leaves v (run_word (waiter / 8)) found (bit_cleared v waiter found) w

  -- a step tells this of the seat's hands afterwards, and leaves its slots
  pub record Tells (Fact : Hands R → Type 0) (before after : Sat R) : Type 0 where
    pub hands : Fact after.0
    pub slots : after.1 ≡ before.1

  -- The plays, each named for its kind of step: what is told, for a step at the word of its kind.
  abbrev pub Told : Type 1
  Told = Step Unit → Sat R → ℕ → Sat R → Type 0

  abbrev pub TellsLook : Told
  TellsLook s before found after = Tells (LooksAt before.0 s.word found) before after

  abbrev pub TellsPut : Told
  TellsPut s before found after = (place : ℕ) → s.word ≡ cell_word place
      → Tells (PutsIn before.0 place s.second found) before after

  abbrev pub TellsClaim : Told
  TellsClaim s before found after = (place : ℕ) → s.word ≡ run_word place
      → Tells (ClaimsAt before.0 place found) before after

  abbrev pub TellsSuspend : Told
  TellsSuspend s before found after = (place : ℕ) → s.word ≡ run_word place
      → Tells (SuspendsAt before.0 place found) before after

  abbrev pub TellsClose : Told
  TellsClose s before found after = (place worker cost node : ℕ) → s.word ≡ head_word place
      → Among before.0.rights (answered_right place worker cost node)
      → Tells (ClosesHead before.0 place worker cost node found) before after

  abbrev pub TellsStoreCost : Told
  TellsStoreCost s before found after = (place : ℕ) → s.word ≡ cost_word place
      → Tells (λ w. w ≡ cost_stored before.0 place s.first) before after

  abbrev pub TellsStoreNode : Told
  TellsStoreNode s before found after = (place : ℕ) → s.word ≡ node_word place
      → Tells (λ w. w ≡ node_stored before.0 place s.first) before after

  abbrev pub TellsStoreWho : Told
  TellsStoreWho s before found after = (place : ℕ) → s.word ≡ who_word place
      → Tells (λ w. w ≡ who_stored before.0 place s.first) before after

  abbrev pub TellsFill : Told
  TellsFill s before found after = Tells (λ w. w ≡ filled before.0) before after

  abbrev pub TellsBeginWait : Told
  TellsBeginWait s before found after = (place : ℕ) → s.word ≡ run_word place
      → Tells (BeginsAt before.0 place found) before after

  abbrev pub TellsSeeHead : Told
  TellsSeeHead s before found after = (x : Pending) (child : ℕ) → before.0.pending ≡ Some x → s.word ≡ head_word child
      → Tells (SeesHeadAt before.0 x child found) before after

  abbrev pub TellsStoreNext : Told
  TellsStoreNext s before found after = (x : Pending) (head : ℕ) → before.0.pending ≡ Some x → x.seen ≡ Some head
      → Tells (λ w. w ≡ next_stored before.0 x head) before after

  abbrev pub TellsPutWait : Told
  TellsPutWait s before found after = (x : Pending) → before.0.pending ≡ Some x → x.seen ≡ Some s.first
      → Tells (PushesWait before.0 x s.first found) before after

  abbrev pub TellsReadNext : Told
  TellsReadNext s before found after = (waiter : ℕ) → s.word ≡ next_word waiter
      → Tells (ReadsNextOf before.0 waiter found) before after

  abbrev pub TellsClearBit : Told
  TellsClearBit s before found after = (waiter : ℕ) (others : List ℕ) → before.0.walk.waiters ≡ waiter ∷ others
      → Tells (ClearsBitOf before.0 waiter found) before after

  abbrev pub TellsDropWait : Told
  TellsDropWait s before found after = (x : Pending) → before.0.pending ≡ Some x
      → Tells (DropsWaitOf before.0 x found) before after
