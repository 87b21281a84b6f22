-- What the words of the closed board of a query's search say.
use Rattle.std.proofs.Common.{◌≡◌, ◌≢◌, ℕ, ◌^◌, ◌<◌, ◌≤◌, true, List, None, sym, subst, ◌∙◌, arith, inl, inr, IsTrue}
use Rattle.std.proofs.Common.{le-leb}
use Rattle.query_core.specs.Goals.{goal_bit, has_goal_bit}
use Rattle.query_core.specs.declared.query.Query.{Query}
use Rattle.goal_space.specs.Words.{goal_word}
use Rattle.goal_space.specs.Goals.{root_goal_of}
use Rattle.goal_rules.specs.Meaning.{meaning_of}
use Rattle.goal_rules.specs.EntryLaws.{goal_high}
use Rattle.goal_rules.specs.declared.rules.Rules.{Rules}
use Rattle.board_rule.specs.Records.{Ended}
use Rattle.board_rule.specs.Looks.{ShowsClosed}
use Rattle.board_rule.specs.Waiters.{IsLater}
use Rattle.board_rule.specs.Seats.{Among}
use Rattle.board_rule.specs.Soundness.{AreCells, HoldsGoal, IsFull, IsRecorded, KeepsPromises, Stays}
use Rattle.board_rule.specs.declared.hands.Hands.{Hands}
use Rattle.goal_board.specs.Closed.{IsFirstReady}
use Rattle.goal_board.specs.Closing.{mem_of, is_full}
use Rattle.goal_board.specs.declared.closing.ClosedBoard.{ClosedBoard}
use Rattle.job_outcome.specs.Outcomes.{ClosesSearch, HasFinishedRoot}
use Rattle.job_outcome.proofs.Finishing.{Finishes, IsSearchOf}

-- what is known of the board
pub record ReadsSearch (q : Query) (capacity place : ℕ) (done : List Ended) (board : ClosedBoard) : Type 0 where
  pub same_capacity : board.capacity ≡ capacity
  pub searched : IsSearchOf q capacity (mem_of board)
  pub near : place < capacity
  pub root : (mem_of board).cell place ≡ goal_word (root_goal_of q)
  pub full : is_full board ≡ true → IsFull (meaning_of q) capacity (mem_of board).cell
  pub none_ready : IsFirstReady (meaning_of q) (mem_of board) capacity None → (p : ℕ) → p < capacity
      → HoldsGoal (meaning_of q) capacity (mem_of board).cell p
      → 2 ^ 63 ≤ (mem_of board).head p
  pub finished_by : (p : ℕ) → p < capacity → 2 ^ 63 ≤ (mem_of board).head p → (e : Ended) × Among done e
      × (e.place ≡ p)
      × IsRecorded capacity (mem_of board).head (mem_of board).cost (mem_of board).node (mem_of board).who e

-- a head that is later than a closed one is closed
later : (found now : ℕ) → 2 ^ 63 ≤ found → IsLater found now → 2 ^ 63 ≤ now
later found now closed (inl is) = is
later found now closed (inr (inl same)) = subst (λ (x : ℕ). 2 ^ 63 ≤ x) (sym same) closed
later found now closed (inr (inr (low, more))) = absurd (omega (arith, low, closed))

-- no goal has the word 0
pub goal_some : (q : Query) → goal_word (root_goal_of q) ≢ 0
goal_some q none = absurd (omega (arith, none, goal_high (root_goal_of q)))

module _ (q : Query) (capacity place : ℕ) (v : Hands Rules) (board : ClosedBoard)
    (its : ClosesSearch q capacity place v board) where
  stays : Stays (mem_of board).cell (mem_of board).head (mem_of board).full v.looks
  stays = (its.closes.sound.by_kinds.hands its.closes.id v its.closes.mine).stays

  pub reads_search : ReadsSearch q capacity place v.done board
  reads_search =
      let m = mem_of board in
      let by_kinds = its.closes.sound.by_kinds in
      let same = its.its_query in
      record {
        same_capacity = its.closes.same_capacity;
        searched = record {
          cells = subst (λ (x : Query). AreCells (meaning_of x) capacity m.cell) same by_kinds.cells;
          promises = subst (λ (x : Query). KeepsPromises (meaning_of x) capacity m.cell m.head m.cost m.node) same
              by_kinds.promises;
        };
        near = its.near;
        root = stays.cells place (goal_word (root_goal_of q)) its.root (goal_some q);
        full = λ full. subst (λ (x : Query). IsFull (meaning_of x) capacity m.cell) same (its.closes.left_out full);
        none_ready = subst (λ (x : Query). IsFirstReady (meaning_of x) m capacity None → (p : ℕ) → p < capacity
            → HoldsGoal (meaning_of x) capacity m.cell p → 2 ^ 63 ≤ m.head p) same its.closes.none_ready;
        finished_by = its.closes.finished_by;
      }

  -- a head that was found closed is closed
  pub shown_closed : ShowsClosed v.looks place → 2 ^ 63 ≤ (mem_of board).head place
  shown_closed (found, looked, closed_then) =
      later found ((mem_of board).head place) closed_then (stays.heads place found looked)

module _ (q : Query) (capacity place : ℕ) (done : List Ended) (board : ClosedBoard)
    (its : ReadsSearch q capacity place done board) where
  -- the root's goal is finished where it stands
  pub root_finished : HasFinishedRoot q board → Finishes q capacity (mem_of board) (root_goal_of q)
  root_finished (p, is) =
      (p, subst (λ n. p < n) its.same_capacity is.near, goal_some q, is.stands, is.closed)

  -- it is where its head is closed
  pub finished_root : 2 ^ 63 ≤ (mem_of board).head place → HasFinishedRoot q board
  finished_root head =
      (place, record { near = subst (λ n. place < n) (sym its.same_capacity) its.near; stands = its.root; closed = head })

  -- as where no goal is ready
  pub none_left : IsFirstReady (meaning_of q) (mem_of board) board.capacity None → HasFinishedRoot q board
  none_left none =
      let high = goal_high (root_goal_of q) in
      finished_root (its.none_ready
      (subst (λ n. IsFirstReady (meaning_of q) (mem_of board) n None) its.same_capacity none) place its.near (
        λ empty. absurd (goal_some q (sym its.root ∙ empty)),
        subst (λ (x : ℕ). IsTrue (has_goal_bit x)) (sym its.root)
            (le-leb goal_bit (goal_word (root_goal_of q)) high),
      ))
