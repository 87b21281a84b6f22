-- One mode after the other.
use Rattle.std.proofs.Common.{ℕ, ◌+◌, None, sym, subst, arith}
use Rattle.goal_board.specs.Seats.{hands}
use Rattle.goal_space.specs.Children.{IsChildGoal}
use Rattle.goal_space.specs.Answers.{IsAnswerTo}
use Rattle.goal_space.specs.Entries.{NamesGoal}
use Rattle.goal_space.specs.declared.goals.GoalKind.TheVariants.{OptE}
use Rattle.xform_rules.specs.Closure.{IsMember}
use Rattle.job_turns.specs.Choices.{IsGoalIn, IsBestIn, FindsBest}
use Rattle.job_turns.specs.declared.known_best.KnownBest.{KnownBest}
use Rattle.plan_tree.proofs.ModesTried.{all_below}
use Rattle.job_turns.proofs.Staying.{stays_at_first, stays_then}
use Rattle.job_turns.proofs.Finding.{finds_none, finds_both, finds_others, chooses_none}
use Rattle.job_turns.proofs.Tried.{IsGoalBelow, IsBestBelow, goal_below_none, best_below_none, goal_below_more}
use Rattle.job_turns.proofs.Tried.{best_below_more, goal_below_all, best_below_all}
use Rattle.job_turns.proofs.modes.best_mode.Goals as goal

pub word_of_candidate-word-requires : goal.word_of_candidate-word-requires
word_of_candidate-word-requires g c =
    c.goals_are_known.ensures.candidates c.args.search.now.query.now (OptE c.args.expr c.args.wanted)
    c.requires.goal.is_goal

pub expr_rows-rows-requires-clause-candidate : goal.expr_rows-rows-requires-clause-candidate
expr_rows-rows-requires-clause-candidate g c =
    c.goals_are_known.ensures.candidates c.args.search.now.query.now (OptE c.args.expr c.args.wanted)
    c.requires.goal.is_goal

pub next_alternative-requires-clause-candidate : goal.next_alternative-requires-clause-candidate
next_alternative-requires-clause-candidate g c =
    c.goals_are_known.ensures.candidates c.args.search.now.query.now (OptE c.args.expr c.args.wanted)
    c.requires.goal.is_goal

pub next_alternative-requires-clause-numbered : goal.next_alternative-requires-clause-numbered
next_alternative-requires-clause-numbered g c =
    (c.goals_are_known.ensures.requests c.args.search.now.query.now (OptE c.args.expr c.args.wanted)
    c.requires.goal.is_goal).numbered

pub modes-init : goal.modes-init
modes-init g c =
    let q = c.args.search.now.query.now in
    let e = c.args.expr in
    let wanted = c.args.wanted in
    record {
      at_work = stays_at_first c.args.search.now c.args.turn.now _ c.requires.at_work;
      found = finds_none q c.args.search.now.board.now.setup.capacity (hands c.args.turn.now.seat.now)
          c.args.turn.now.job.right
          (IsGoalBelow q e wanted 0) (IsBestBelow q e wanted 0) (goal_below_none q e wanted)
          None (best_below_none q e wanted (c.answers_are_best.ensures.none q));
    }

pub await_mode-requires-clause-native : goal.await_mode-requires-clause-native
await_mode-requires-clause-native g c =
    let q = c.args.search.now.query.now in
    let next = c.in-Some.ensures in
    let known = OptE c.args.expr c.args.wanted in
    record {
      member = (c.goals_are_known.ensures.members q known c.requires.goal.is_goal).1;
      fits = c.goals_are_known.ensures.requests q known c.requires.goal.is_goal;
      rows = c.expr_rows-rows.ensures;
      word = c.word_of_candidate-word.ensures;
      line = next.3.is_line;
      few = omega (arith, next.1);
    }

pub await_mode-requires-clause-goal : goal.await_mode-requires-clause-goal
await_mode-requires-clause-goal g c =
    subst (λ (word : ℕ). NamesGoal c.args.search.now.query.now word (OptE c.args.expr c.args.wanted))
    (sym c.modes.invariant.found.awaited.proceeds.same_goal) c.requires.goal

pub returns-in_err-other-clause-chooses : goal.returns-in_err-other-clause-chooses
returns-in_err-other-clause-chooses g c =
    let q = c.args.search.now.query.now in
    rw c.from_residual.ensures
    (chooses_none q c.args.search.now.board.now.setup.capacity (hands c.args.turn.now.seat.now)
    c.args.turn.now.job.right
    (IsGoalBelow q c.args.expr c.args.wanted c.modes.from) (IsBestBelow q c.args.expr c.args.wanted c.modes.from)
    c.modes.known_best (hands c.modes.turn.seat.now) c.modes.turn.job.right
    (hands c.await_mode.new.turn.seat.now) c.await_mode.new.turn.job.right c.modes.invariant.found
    c.in_err-other.ensures.chooses)

pub modes-preserved : goal.modes-preserved
modes-preserved g c =
    let q = c.args.search.now.query.now in
    let b = c.args.search.now.board.now in
    let e = c.args.expr in
    let wanted = c.args.wanted in
    let from = c.modes.from in
    let mode = c.in-Some.mode in
    let next = c.in-Some.ensures in
    let fits = c.goals_are_known.ensures.requests q (OptE e wanted) c.requires.goal.is_goal in
    let joins = best_below_more q e wanted from mode next.2 (c.answers_are_best.ensures.lesser q)
    c.args.search.now.props.now
    c.requires.at_work.has_job.its.props fits in
    let both = finds_both q b.setup.capacity (hands c.args.turn.now.seat.now) c.args.turn.now.job.right
    (IsGoalBelow q e wanted from)
    (IsGoalIn q e wanted mode) (IsBestBelow q e wanted from) (IsBestIn q e wanted mode)
    (IsBestBelow q e wanted (mode + 1)) joins
    c.modes.known_best c.in_ok-other.other (hands c.modes.turn.seat.now) c.modes.turn.job.right
    (hands c.await_mode.new.turn.seat.now)
    c.await_mode.new.turn.job.right c.modes.invariant.found c.in_ok-other.ensures.chooses in
    let more = finds_others q b.setup.capacity (hands c.args.turn.now.seat.now) c.args.turn.now.job.right _
    (IsGoalBelow q e wanted (mode + 1)) (IsBestBelow q e wanted (mode + 1)) (IsBestBelow q e wanted (mode + 1))
    (goal_below_more q e wanted from mode next.2) (λ best is. is)
    _ (hands c.await_mode.new.turn.seat.now) c.await_mode.new.turn.job.right both in
    record {
      at_work = stays_then c.args.search.now c.args.turn.now c.modes.turn c.await_mode.new.turn _ _
          c.modes.invariant.at_work c.await_mode.ensures.at_work;
      found = subst
          (λ (known_best : KnownBest). FindsBest q b.setup.capacity (hands c.args.turn.now.seat.now)
          c.args.turn.now.job.right
          (IsGoalBelow q e wanted (mode + 1)) (IsBestBelow q e wanted (mode + 1)) known_best
          (hands c.await_mode.new.turn.seat.now)
          c.await_mode.new.turn.job.right)
          (sym c.or-known_best.ensures) more;
    }

pub returns-clause-chooses : goal.returns-clause-chooses
returns-clause-chooses g c =
    let q = c.args.search.now.query.now in
    let e = c.args.expr in
    let wanted = c.args.wanted in
    let from = c.modes.from in
    let all = all_below q e wanted from c.in_default.ensures in
    finds_others q c.args.search.now.board.now.setup.capacity (hands c.args.turn.now.seat.now) c.args.turn.now.job.right
    (IsGoalBelow q e wanted from)
    (IsChildGoal (IsMember q) q (OptE e wanted)) (IsBestBelow q e wanted from) (IsAnswerTo q (OptE e wanted))
    (goal_below_all q e wanted from all) (best_below_all q e wanted from all (c.answers_are_best.ensures.covered q))
    c.modes.known_best (hands c.modes.turn.seat.now) c.modes.turn.job.right c.modes.invariant.found
