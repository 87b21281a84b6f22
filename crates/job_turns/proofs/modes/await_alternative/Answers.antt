-- What is asked of both children was awaited, the left one first.
use Rattle.std.proofs.Common.{◌≤◌, ℕ, sym, subst, arith}
use Rattle.query_core.specs.declared.query.Query.{Query}
use Rattle.plan_tree.specs.Alternatives.{IsAltBy}
use Rattle.plan_tree.specs.declared.alternatives.Alt.{Alt}
use Rattle.best_answers.specs.Best.{IsBestAsked}
use Rattle.board_rule.specs.declared.hands.Hands.{Hands}
use Rattle.goal_board.specs.declared.board.Right.{Right}
use Rattle.goal_rules.specs.declared.rules.Rules.{Rules}
use Rattle.goal_board.specs.Seats.{hands}
use Rattle.job_turns.specs.Choices.{IsAskedByChild, IsGoalAsked, IsGoalIn, IsBestIn, IsKnownBest, FindsBest}
use Rattle.job_turns.specs.declared.modes.WantedNative.{WantedNative}
use Rattle.job_turns.specs.declared.known_best.KnownBest.{KnownBest}
use Rattle.job_turns.specs.declared.known_best.KnownBest.TheVariants.{Known, Open}
use Rattle.job_turns.proofs.Finding.{chooses_none, finds_two}
use Rattle.job_turns.proofs.OneMode.{children_asked, goal_of_one, best_in}
use Rattle.job_turns.proofs.modes.await_alternative.Goals as goal

pub await_asked-requires-clause-asked : goal.await_asked-requires-clause-asked
await_asked-requires-clause-asked g c =
    let native = c.args.native.now in
    (children_asked c.args.search.now.query.now native.expr native.wanted native.mode c.args.alt native.line.now
    c.requires.alternative
    c.args.turn.now.job.right.goal c.requires.goal).0

pub await_asked-requires-2-clause-asked : goal.await_asked-requires-2-clause-asked
await_asked-requires-2-clause-asked g c =
    let native = c.args.native.now in
    subst (λ (word : ℕ). IsAskedByChild c.args.search.now.query.now word c.args.alt.right)
    (sym c.in_ok-left.ensures.chooses.awaited.proceeds.same_goal)
    (children_asked c.args.search.now.query.now native.expr native.wanted native.mode c.args.alt native.line.now
    c.requires.alternative
    c.args.turn.now.job.right.goal c.requires.goal).1

pub returns-in_err-right-clause-chooses : goal.returns-in_err-right-clause-chooses
returns-in_err-right-clause-chooses g c =
    let q = c.args.search.now.query.now in
    rw c.from_residual-in_err-right.ensures
    (chooses_none q c.args.search.now.board.now.setup.capacity (hands c.args.turn.now.seat.now)
    c.args.turn.now.job.right
    (IsGoalAsked q c.args.alt.left) (IsBestAsked q c.args.alt.left) c.in_ok-left.left
    (hands c.await_asked.new.turn.seat.now)
    c.await_asked.new.turn.job.right
    (hands c.await_asked-2.new.turn.seat.now) c.await_asked-2.new.turn.job.right c.in_ok-left.ensures.chooses
    c.in_err-right.ensures.chooses)

pub best_in_mode-best-requires-clause-below : goal.best_in_mode-best-requires-clause-below
best_in_mode-best-requires-clause-below g c = record {
  left = subst (IsKnownBest (IsBestAsked c.args.search.now.query.now c.args.alt.left) c.await_asked.new.turn.job.right)
      c.in-Known-Known.is-0 c.in_ok-left.ensures.chooses.is;
  right = subst (IsKnownBest (IsBestAsked c.args.search.now.query.now c.args.alt.right)
      c.await_asked-2.new.turn.job.right)
      c.in-Known-Known.is-1 c.in_ok-right.ensures.chooses.is;
}

-- the choice that the alternative comes to
in_mode : (q : Query) (capacity : ℕ) (v : Hands Rules) (before : Right) (native : WantedNative) (alt : Alt)
    → IsAltBy q native.expr native.wanted native.mode alt native.line.now
    → (left right : KnownBest) (u : Hands Rules) (middle : Right) (w : Hands Rules) (after : Right)
    → FindsBest q capacity v before (IsGoalAsked q alt.left) (IsBestAsked q alt.left) left u middle
    → FindsBest q capacity u middle (IsGoalAsked q alt.right) (IsBestAsked q alt.right) right w after
    → (known_best : KnownBest) → IsKnownBest (IsBestIn q native.expr native.wanted native.mode) after known_best
    → FindsBest q capacity v before (IsGoalIn q native.expr native.wanted native.mode)
    (IsBestIn q native.expr native.wanted native.mode) known_best w after
in_mode q capacity v before native alt is left right u middle w after a b known_best known =
    finds_two q capacity v before (IsGoalAsked q alt.left) (IsGoalAsked q alt.right)
    (IsGoalIn q native.expr native.wanted native.mode) (IsBestAsked q alt.left) (IsBestAsked q alt.right)
    (IsBestIn q native.expr native.wanted native.mode)
    (goal_of_one q native.expr native.wanted native.mode alt native.line.now is) left right u middle w after a b known_best
    known

pub returns-in-Known-Known-clause-chooses : goal.returns-in-Known-Known-clause-chooses
returns-in-Known-Known-clause-chooses g c =
    let native = c.args.native.now in
    in_mode c.args.search.now.query.now c.args.search.now.board.now.setup.capacity (hands c.args.turn.now.seat.now)
    c.args.turn.now.job.right native
    c.args.alt
    c.requires.alternative c.in_ok-left.left c.in_ok-right.right (hands c.await_asked.new.turn.seat.now)
    c.await_asked.new.turn.job.right
    (hands c.await_asked-2.new.turn.seat.now) c.await_asked-2.new.turn.job.right c.in_ok-left.ensures.chooses
    c.in_ok-right.ensures.chooses (Known c.best_in_mode-best.result)
    (best_in c.args.search.now.query.now native.expr native.wanted native.mode c.args.alt native.line.now
    c.requires.alternative
    c.best_in_mode-best.result (c.best_in_mode-best.ensures native.mode c.requires.alternative))

pub returns-in-Known-Open-clause-chooses : goal.returns-in-Known-Open-clause-chooses
returns-in-Known-Open-clause-chooses g c =
    in_mode c.args.search.now.query.now c.args.search.now.board.now.setup.capacity (hands c.args.turn.now.seat.now)
    c.args.turn.now.job.right c.args.native.now
    c.args.alt c.requires.alternative c.in_ok-left.left c.in_ok-right.right (hands c.await_asked.new.turn.seat.now)
    c.await_asked.new.turn.job.right
    (hands c.await_asked-2.new.turn.seat.now) c.await_asked-2.new.turn.job.right c.in_ok-left.ensures.chooses
    c.in_ok-right.ensures.chooses Open
    (subst (IsKnownBest (IsBestAsked c.args.search.now.query.now c.args.alt.right) c.await_asked-2.new.turn.job.right)
    c.in-Known-Open.is-1
    c.in_ok-right.ensures.chooses.is)

pub returns-in-Open-default-clause-chooses : goal.returns-in-Open-default-clause-chooses
returns-in-Open-default-clause-chooses g c =
    let waits : 1 ≤ c.await_asked.new.turn.job.right.waits =
    subst (IsKnownBest (IsBestAsked c.args.search.now.query.now c.args.alt.left) c.await_asked.new.turn.job.right)
    c.in-Open-default.is-0 c.in_ok-left.ensures.chooses.is in
    let more = c.in_ok-right.ensures.chooses.awaited.proceeds.more_waits in
    in_mode c.args.search.now.query.now c.args.search.now.board.now.setup.capacity (hands c.args.turn.now.seat.now)
    c.args.turn.now.job.right c.args.native.now
    c.args.alt c.requires.alternative c.in_ok-left.left c.in_ok-right.right (hands c.await_asked.new.turn.seat.now)
    c.await_asked.new.turn.job.right
    (hands c.await_asked-2.new.turn.seat.now) c.await_asked-2.new.turn.job.right c.in_ok-left.ensures.chooses
    c.in_ok-right.ensures.chooses Open (omega arith)
