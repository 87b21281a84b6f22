-- What heads that change leave of each topic, where closed heads stay closed.
use Rattle.std.proofs.Common.{ℕ, ◌^◌, ◌≤◌, ◌≢◌, List, sym, subst, ◌∙◌}
use Rattle.board_rule.specs.Meaning.{Meaning}
use Rattle.board_rule.specs.Records.{Ended, Walk}
use Rattle.board_rule.specs.Words.{Mem, put}
use Rattle.board_rule.specs.Seats.{Each}
use Rattle.board_rule.specs.Soundness.{HoldsGoal, KeepsBlank, IsPromised, IsRecorded, WaitedFor, IsWalked}
use Rattle.board_rule.proofs.Lists.{put_else, each_as}

module _ (meaning : Meaning) (capacity : ℕ) (m : Mem) where
  -- the words of empty cells and of members are 0 where the head of a goal has changed
  pub blank_head : (place x : ℕ) → HoldsGoal meaning capacity m.cell place → KeepsBlank meaning capacity m
      → KeepsBlank meaning capacity (record m { head = put m.head place x })
  blank_head place x holds old p near no_goal =
      let b = old p near no_goal in
      let else : p ≢ place = λ e. no_goal (subst (HoldsGoal meaning capacity m.cell) (sym e) holds) in
      let head = put_else m.head place x p else ∙ b.head in
      assumption (b, head)

  module _ (head : ℕ → ℕ) (still : (p : ℕ) → 2 ^ 63 ≤ m.head p → 2 ^ 63 ≤ head p) where
    pub promised_still : (goal : ℕ) → IsPromised meaning capacity m.cell m.head goal
        → IsPromised meaning capacity m.cell head goal
    promised_still goal old = record {
      children = λ child is. let t = old.children child is in (t.0, t.1, t.2, t.3, still t.0 t.4);
      asked = old.asked;
    }

    -- what was finished is recorded still
    pub recorded_still : (done : List Ended) → Each (IsRecorded capacity m.head m.cost m.node m.who) done
        → Each (IsRecorded capacity head m.cost m.node m.who) done
    recorded_still =
        each_as (IsRecorded capacity m.head m.cost m.node m.who) (IsRecorded capacity head m.cost m.node m.who)
        (λ e old. let closed = still e.place old.closed in assumption (old, closed))

    -- a list that is walked is one of a closed head still
    pub walked_still : (walk : Walk) → IsWalked meaning capacity m.cell m.head m.next walk
        → IsWalked meaning capacity m.cell head m.next walk
    walked_still walk old =
        let waited = each_as (WaitedFor meaning capacity m.cell m.head walk.child)
        (WaitedFor meaning capacity m.cell head walk.child)
        (λ q was. let closed = still walk.child was.closed in assumption (was, closed)) walk.waiters old.waited in
        assumption (old, waited)
