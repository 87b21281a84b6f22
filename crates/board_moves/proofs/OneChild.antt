-- What becomes of one child: it is looked at, put in, waited for, or found finished.
use Rattle.std.proofs.Common.{◌≡◌, ◌≢◌, ℕ, ◌+◌, ◌<◌, List, [], ◌∷◌, refl, sym, ap, subst, inl, inr, arith, Option, Some}
use Rattle.std.proofs.Common.{None, IsTrue}
use Rattle.word_table.specs.declared.outcome.Inserted.{Inserted}
use Rattle.word_table.specs.declared.outcome.Inserted.TheVariants.{Fresh, Known, Full}
use Rattle.board_rule.specs.Meaning.{Meaning}
use Rattle.board_rule.specs.Words.{cell_word, head_word, cost_word, node_word}
use Rattle.board_rule.specs.Looks.{Looked, seen_closed}
use Rattle.board_rule.specs.declared.hands.Hands.{Hands}
use Rattle.goal_board.specs.declared.board.Right.{Right}
use Rattle.goal_board.specs.declared.answers.Answer.{Answer}
use Rattle.goal_board.specs.Calls.{PutsFresh, FindsAt, FindsFull, ReadsAnswer, FindsOpen}
use Rattle.goal_board.specs.RightCalls.{Registers, FindsFinished}
use Rattle.goal_board.specs.Calls.{Inserts, Reads}
use Rattle.goal_board.specs.RightCalls.{IsRightOf, waited}
use Rattle.goal_board.specs.declared.answers.Awaited.TheVariants as awaited
use Rattle.goal_board.proofs.Seen.{last_looked, looked_later, looked_earlier}
use Rattle.board_moves.specs.declared.progress.Progress.{Progress}
use Rattle.board_moves.specs.declared.progress.Progress.TheVariants as progress
use Rattle.board_moves.specs.Moves.{OnlyLooks, Moves, Proceeds, IsAnsweredBy, Awaits}
use Rattle.board_moves.proofs.Shown.{Later, later_looked, right_stays}
use Rattle.board_moves.proofs.CallMoves.{moves_looks, moves_fresh, moves_registered, moves_finished, moves_then}
use Rattle.board_moves.proofs.CallMoves.{later_moved}
use Rattle.board_moves.proofs.MovesLemmas.{proceeds_none, proceeds_moved, proceeds_then, runs_out_then}
use Rattle.board_moves.proofs.Putting.{only_looks_at}

module _ {R : Type 0} (meaning : Meaning) (capacity : ℕ) where
  -- the looks of an answer
  pub reads_looks : (v : Hands R) (at : ℕ) (answer : Answer) (w : Hands R) → ReadsAnswer meaning capacity v at answer w
      → OnlyLooks v w
  reads_looks v at answer w t = record {
    more = (node_word at, answer.node) ∷ ((cost_word at, answer.cost) ∷ ((head_word at, t.head) ∷ []));
    looks = t.looks;
    hands_are = t.hands_are;
  }

  pub open_looks : (v : Hands R) (at : ℕ) (w : Hands R) → FindsOpen meaning capacity v at w → OnlyLooks v w
  open_looks v at w t = record { more = (head_word at, t.head) ∷ []; looks = t.looks; hands_are = t.hands_are }

-- a child of a right's goal is a word other than 0
pub child_is_some : {R : Type 0} {meaning : Meaning} {capacity : ℕ} {v : Hands R} {right : Right} (child : ℕ)
    → ((word : ℕ) → meaning.entry word → word ≢ 0)
    → ((goal child : ℕ) → meaning.entry goal → meaning.child goal child → meaning.entry child
    × IsTrue (meaning.goal child))
    → IsRightOf meaning capacity v right → meaning.child right.goal child → child ≢ 0
child_is_some {right = right} child zero_enters_not children_enter its is =
    zero_enters_not child (children_enter right.goal child its.enters is).0

module _ {R : Type 0} (meaning : Meaning) (capacity : ℕ) (child : ℕ) (some_child : child ≢ 0) where
  -- the child stands in the cell
  pub stands_at : (v : Hands R) (at : ℕ) (w : Hands R) → FindsAt capacity v child at w
      → Looked w.looks (cell_word at) child
  stands_at v at w t = subst (λ (h : Hands R). Looked h.looks (cell_word at) child) (sym t.hands_are)
      (looked_later t.more v.looks (cell_word at) child t.stands)

  pub stands_fresh : (v : Hands R) (at : ℕ) (w : Hands R) → PutsFresh capacity v child at w
      → Looked w.looks (cell_word at) child
  stands_fresh v at w t = subst (λ (h : Hands R). Looked h.looks (cell_word at) child) (sym t.hands_are)
      (inl (refl, refl))

  -- an answer that was read of a child that a look found is the child's, and the looks show it finished
  pub answered : (v : Hands R) (at : ℕ) (answer : Answer) (w : Hands R) → at < capacity
      → Looked v.looks (cell_word at) child → ReadsAnswer meaning capacity v at answer w
      → IsAnsweredBy meaning capacity w.looks child answer
  answered v at answer w near stands t = record {
    finished = seen_closed child at near some_child
        (later_looked v w (reads_looks meaning capacity v at answer w t) (cell_word at) child stands) (
          t.head,
          subst (λ (h : Hands R). Looked h.looks (head_word at) t.head) (sym t.hands_are)
              (inr (inr (inl (refl, refl)))),
          t.closed,
        );
    exact = t.exact child some_child stands;
  }

  -- a child whose head was found closed has an answer
  pub not_open : (v : Hands R) (place at : ℕ) (u w : Hands R) → at < capacity → Looked v.looks (cell_word at) child
      → FindsFinished capacity v place at u → FindsOpen meaning capacity u at w → ⊥
  not_open v place at u w near stands closed is_open =
      let on : Later v.looks u.looks = later_moved place v [] 0 u (moves_finished capacity v place at u closed) in
      let there : Looked u.looks (cell_word at) child = on (cell_word at) child stands in
      is_open.unfinished child some_child there (seen_closed child at near some_child there (
        closed.head,
        subst (λ (looks : List (ℕ × ℕ)). Looked looks (head_word at) closed.head)
            (sym (ap (λ (h : Hands R). h.looks) closed.hands_are))
            (looked_later closed.more v.looks (head_word at) closed.head
            (last_looked closed.more (head_word at) closed.head closed.looks.last)),
        closed.closed,
      ))

  module _ (v : Hands R) (before : Right) (at : ℕ) (is_child : meaning.child before.goal child) where
    -- a wait was registered
    pub awaits_registered : (w : Hands R) (after : Right) → Registers capacity v before.place at w
        → after ≡ waited awaited.Registered before → Awaits meaning capacity v before child progress.Waiting w after
    awaits_registered w after t is =
        let more : after.waits ≡ before.waits + 1 = ap (λ (r : Right). r.waits) is in (
          record {
            puts = [];
            adds = tt;
            waits = 1;
            moves = moves_registered capacity v before.place at w t;
            same_place = ap (λ (r : Right). r.place) is;
            same_goal = ap (λ (r : Right). r.goal) is;
            more_waits = more;
          },
          omega arith,
        )

    -- the child was found finished
    pub awaits_finished : (u : Hands R) (answer : Answer) (w : Hands R) (after : Right) → at < capacity
        → Looked v.looks (cell_word at) child → FindsFinished capacity v before.place at u
        → after ≡ waited awaited.Finished before → ReadsAnswer meaning capacity u at answer w
        → Awaits meaning capacity v before child (progress.Complete answer) w after
    awaits_finished u answer w after near stands closed is read =
        let moved : Moves before.place v [] 0 u = moves_finished capacity v before.place at u closed in
        let both : Moves before.place v [] 0 w =
        moves_then before.place v [] 0 u [] 0 w moved
        (moves_looks before.place u w (reads_looks meaning capacity u at answer w read)) in
        subst (λ (r : Right). Awaits meaning capacity v before child (progress.Complete answer) w r) (sym is) (
          proceeds_moved (meaning.child before.goal) v before w [] tt both,
          refl,
          answered u at answer w near (later_moved before.place v [] 0 u moved (cell_word at) child stands) read,
        )

    -- the child was found in a cell, and finished
    pub awaits_known : (u : Hands R) (answer : Answer) (w : Hands R) → FindsAt capacity v child at u
        → ReadsAnswer meaning capacity u at answer w
        → Awaits meaning capacity v before child (progress.Complete answer) w before
    awaits_known u answer w found read = (
      proceeds_moved (meaning.child before.goal) v before w [] tt
          (moves_then before.place v [] 0 u [] 0 w
          (moves_looks before.place v u (only_looks_at capacity v child at u found))
          (moves_looks before.place u w (reads_looks meaning capacity u at answer w read))),
      refl,
      answered u at answer w found.near (stands_at v at u found) read,
    )

    -- no cell was left for it
    pub awaits_full : (w : Hands R) → FindsFull capacity v child w
        → Awaits meaning capacity v before child progress.Full w before
    awaits_full w t = record {
      middle = v;
      proceeds = proceeds_none (meaning.child before.goal) v before;
      word = child;
      adds_it = is_child;
      full = t;
    }

    -- it was put in
    pub proceeds_fresh : (w : Hands R) → PutsFresh capacity v child at w
        → Proceeds (meaning.child before.goal) v before w before
    proceeds_fresh w t = proceeds_moved (meaning.child before.goal) v before w (child ∷ []) (is_child, tt)
        (moves_fresh before.place capacity v child at w t)

    -- it was found in a cell, and open
    pub proceeds_open : (u w : Hands R) → FindsAt capacity v child at u → FindsOpen meaning capacity u at w
        → Proceeds (meaning.child before.goal) v before w before
    proceeds_open u w found read =
        proceeds_moved (meaning.child before.goal) v before w [] tt
        (moves_then before.place v [] 0 u [] 0 w (moves_looks before.place v u
        (only_looks_at capacity v child at u found))
        (moves_looks before.place u w (open_looks meaning capacity u at w read)))

  -- what came of the child after some of the turn
  pub awaits_then : (v : Hands R) (before : Right) (u w : Hands R) (after : Right) (answer : Progress)
      → Proceeds (meaning.child before.goal) v before u before → Awaits meaning capacity u before child answer w after
      → Awaits meaning capacity v before child answer w after
  awaits_then v before u w after (progress.Complete answer) first t =
      (proceeds_then (meaning.child before.goal) v before u before w after first t.0, t.1, t.2)
  awaits_then v before u w after progress.Waiting first t =
      (proceeds_then (meaning.child before.goal) v before u before w after first t.0, t.1)
  awaits_then v before u w after progress.Full first t =
      runs_out_then (meaning.child before.goal) capacity v before u before w after first t

module _ {R : Type 0} (meaning : Meaning) (capacity : ℕ) (right : Right) where
  -- a right stays the seat's when it looks
  pub right_looked : (v w : Hands R) → OnlyLooks v w → IsRightOf meaning capacity v right
      → IsRightOf meaning capacity w right
  right_looked v w t = right_stays meaning capacity v w right (ap (λ (h : Hands R). h.rights) t.hands_are)
      (later_looked v w t)

  -- and when it puts a word in, or finds no cell for it
  pub right_put : (v : Hands R) (word : ℕ) (answer : Inserted) (w : Hands R) → Inserts capacity v word answer w
      → IsRightOf meaning capacity v right → IsRightOf meaning capacity w right
  right_put v word (Fresh at) w t =
      right_stays meaning capacity v w right (ap (λ (h : Hands R). h.rights) t.hands_are)
      (later_moved right.place v (word ∷ []) 0 w (moves_fresh right.place capacity v word at w t))
  right_put v word (Known at) w t = right_looked v w (only_looks_at capacity v word at w t)
  right_put v word Full w t =
      right_stays meaning capacity v w right (ap (λ (h : Hands R). h.rights) t.hands_are)
      (λ at found saw. subst (λ (h : Hands R). Looked h.looks at found) (sym t.hands_are)
      (inr (looked_earlier t.more v.looks at found saw)))

  -- an answer that was read, or none
  pub right_read : (v : Hands R) (at : ℕ) (answer : Option Answer) (w : Hands R) → Reads meaning capacity v at answer w
      → IsRightOf meaning capacity v right → IsRightOf meaning capacity w right
  right_read v at (Some answer) w t = right_looked v w (reads_looks meaning capacity v at answer w t)
  right_read v at None w t = right_looked v w (open_looks meaning capacity v at w t)
